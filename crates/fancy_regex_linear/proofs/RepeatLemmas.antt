-- The states of a repeat do what trying it does, whatever is repeated.
use Rattle.std.proofs.Common.{◌≡◌, ℕ, zero, suc, ◌-◌, ◌<◌, ◌≤◌, ◌⊎◌, Bool, true, false, List, length, refl, sym, ap, ◌∙◌, inl, inr, ⊎_elim, arith, length-set, set, get_or-set_same, get_or-set_other}
use Rattle.std.proofs.lemmas.Bool.{cases_lt, cases_eq}
use Rattle.fancy_regex_states.specs.Attempts.{View, Continuation, pick, NamesBelow, MayAsk, visit}
use Rattle.fancy_regex_linear.specs.Attempt.{prefer, times_try, upto_try, star_try, tail_try}
use Rattle.fancy_regex_states.specs.First.{state_at}
use Rattle.fancy_regex_linear.specs.Program.{loop_head, push, Emitter, BothEmitter, emitted_times, emitted_both_times, emitted_upto, emitted_both_upto, emitted_star, emitted_both_star, emitted_plus, emitted_both_plus, emitted_many, emitted_both_many, emitted_repeat, emitted_both_repeat, AgreeBut}
use Rattle.fancy_regex_states.specs.declared.state.State.{State}
use Rattle.fancy_regex_states.specs.declared.state.State.TheVariants.{Match}
use Rattle.fancy_regex_linear.proofs.AgreeLemmas.{prefer_cong, pick_same, pick_moved, pick_agree, Looks, Moves, star_agree, times_agree, upto_agree, star_unfold, plus_unfold}
use Rattle.fancy_regex_linear.proofs.EmitLemmas.{length-push, push_done, Pushed, visit_loop_head, Done, DoneBoth}

pub at_set_other : (states : List State) (k q : ℕ) (s : State) → (q ≡ k → ⊥) → state_at (set states k s) q ≡ state_at states q
at_set_other states k q s h = get_or-set_other states k q s Match h

pub head_names : (greedy : Bool) (n iteration exit : ℕ) → iteration < n → exit < n → NamesBelow n (loop_head greedy iteration exit)
head_names true n iteration exit a b = (a, b)
head_names false n iteration exit a b = (b, a)

pub head_asks : (has_parts greedy : Bool) (iteration exit : ℕ) → MayAsk has_parts (loop_head greedy iteration exit)
head_asks has_parts true iteration exit = tt
head_asks has_parts false iteration exit = tt

module _ (view : View) (stop : ℕ) where
  -- what is emitted tries T
  abbrev pub Emits : Emitter → (Continuation → Continuation) → Type 1
  Emits one T = (Open : ℕ → Type 0) (states : List State) (go : ℕ → Continuation) (next : ℕ) → AgreeBut view stop Open states go → next < length states
      → Done view stop Open states go (one states next) (T (go next))

  -- the same with two places to go on at
  abbrev pub EmitsTwo : BothEmitter → (Continuation → Continuation) → Type 1
  EmitsTwo both T = (Open : ℕ → Type 0) (states : List State) (go : ℕ → Continuation) (same moved : ℕ) → AgreeBut view stop Open states go
      → same < length states → moved < length states
      → DoneBoth view stop Open states go (both states same moved) (λ i. T (pick i (go same) (go moved)) i) (T (go moved))

  -- past its start a pick has moved
  pub moved_on : (T : Continuation → Continuation) → Looks view stop T → (i j : ℕ) (same moved : Continuation) → i < j → j ≤ stop
      → T moved j ≡ T (pick i same moved) j
  moved_on T ok i j same moved h p = ok _ _ j p (λ l c d. sym (pick_moved i same moved l (omega arith)))

  -- at its start a pick is the same as one from there
  pub at_start : (T : Continuation → Continuation) (i j : ℕ) (same moved : Continuation) → i ≤ j → j ≤ i
      → T (pick j same moved) j ≡ T (pick i same moved) j
  at_start T i j same moved h k = let e : j ≡ i = omega arith in rw e

  -- what comes first goes on at what comes second
  pub seq_done : (one two : Emitter) (A B : Continuation → Continuation) → Looks view stop A → Emits one A → Emits two B
      → Emits (λ states next. one (two states next).0 (two states next).1) (λ k. A (B k))
  seq_done one two A B ok a b Open states go next before inside =
      let d = b Open states go next before inside in
      let made = two states next in
      let e = a Open made.0 d.next_go made.1 d.agree d.entry in
      record {
        next_go = e.next_go;
        unchanged = λ q h. e.unchanged q (omega (arith, d.longer)) ∙ d.unchanged q h;
        longer = omega (arith, d.longer, e.longer);
        agree = e.agree;
        entry = e.entry;
        means = λ i h. e.means i h ∙ ok _ _ i h (λ j _ c. d.means j c);
      }

  -- the picks of a rest that tries B
  pub picks_rest : (B : Continuation → Continuation) → Looks view stop B → (i j : ℕ) (same moved ms mm : Continuation) → i ≤ j → j ≤ stop
      → ms j ≡ B (pick j same moved) j → mm j ≡ B moved j → pick i ms mm j ≡ B (pick i same moved) j
  picks_rest B ok i j same moved ms mm c k a b =
      ⊎_elim
      (λ (lt : i < j). pick_moved i ms mm j lt ∙ b ∙ moved_on B ok i j same moved lt k)
      (λ (ge : j ≤ i). pick_same i ms mm j ge ∙ a ∙ at_start B i j same moved c ge)
      (cases_lt i j)

  pub seq_two_done : (one two : BothEmitter) (A B : Continuation → Continuation) → Looks view stop A → Looks view stop B → EmitsTwo one A → EmitsTwo two B
      → EmitsTwo (λ states same moved. one (two states same moved).0 (two states same moved).1 (two states same moved).2) (λ k. A (B k))
  seq_two_done one two A B ok okb a b Open states go same moved before a_in b_in =
      let d = b Open states go same moved before a_in b_in in
      let made = two states same moved in
      let e = a Open made.0 d.next_go made.1 made.2 d.agree d.same_in d.moved_in in
      record {
        next_go = e.next_go;
        unchanged = λ q h. e.unchanged q (omega (arith, d.longer)) ∙ d.unchanged q h;
        longer = omega (arith, d.longer, e.longer);
        agree = e.agree;
        same_in = e.same_in;
        moved_in = e.moved_in;
        same_means = λ i h. e.same_means i h ∙ ok _ _ i h (λ j c k. picks_rest B okb i j (go same) (go moved) _ _ c k (d.same_means j k) (d.moved_means j k));
        moved_means = λ i h. e.moved_means i h ∙ ok _ _ i h (λ j c k. d.moved_means j k);
      }

  pub times_done : (one : Emitter) (T : Continuation → Continuation) → Looks view stop T → Emits one T → (n : ℕ) → Emits (emitted_times one n) (times_try T n)
  unfolding emitted_times times_try
  times_done one T ok ih zero Open states go next before inside = record {
    next_go = go;
    unchanged = λ q h. refl;
    longer = omega arith;
    agree = before;
    entry = inside;
    means = λ i b. refl;
  }
  times_done one T ok ih (suc n) Open states go next before inside =
      seq_done one (emitted_times one n) T (times_try T n) ok ih (times_done one T ok ih n) Open states go next before inside

  pub times_two_done : (both : BothEmitter) (T : Continuation → Continuation) → Looks view stop T → EmitsTwo both T → (n : ℕ) → EmitsTwo (emitted_both_times both n) (times_try T n)
  unfolding emitted_both_times times_try
  times_two_done both T ok ih zero Open states go same moved before a_in b_in = record {
    next_go = go;
    unchanged = λ q h. refl;
    longer = omega arith;
    agree = before;
    same_in = a_in;
    moved_in = b_in;
    same_means = λ i h. sym (pick_same i (go same) (go moved) i (omega arith));
    moved_means = λ i h. refl;
  }
  times_two_done both T ok ih (suc n) Open states go same moved before a_in b_in =
      seq_two_done both (emitted_both_times both n) T (times_try T n) ok (times_agree view stop T ok n) ih (times_two_done both T ok ih n) Open states go same moved before a_in b_in

  pub upto_done : (one : Emitter) (T : Continuation → Continuation) → Looks view stop T → Emits one T → (greedy : Bool) (n : ℕ) → Emits (emitted_upto greedy one n) (upto_try view.longest greedy T n)
  unfolding emitted_upto upto_try
  upto_done one T ok ih greedy zero Open states go next before inside = record {
    next_go = go;
    unchanged = λ q h. refl;
    longer = omega arith;
    agree = before;
    entry = inside;
    means = λ i b. refl;
  }
  upto_done one T ok ih greedy (suc n) Open states go next before inside =
      let d = upto_done one T ok ih greedy n Open states go next before inside in
      let rest = emitted_upto greedy one n states next in
      let e = ih Open rest.0 d.next_go rest.1 d.agree d.entry in
      let body = one rest.0 rest.1 in
      let state : State = loop_head greedy body.1 next in
      let p = push_done view stop Open body.0 e.next_go state (upto_try view.longest greedy T (suc n) (go next)) e.agree
      (inr (
        head_names greedy (length body.0) body.1 next e.entry (omega (arith, d.longer, e.longer)),
        head_asks view.has_parts greedy body.1 next,
        λ i h.
            prefer_cong view.longest greedy _ _ _ _
            (ok _ _ i h (λ j _ c. sym (d.means j c)) ∙ sym (e.means i h))
            (ap (λ f. f i) (sym (e.unchanged next (omega (arith, d.longer)) ∙ d.unchanged next inside)))
            ∙ sym (visit_loop_head view stop e.next_go greedy body.1 next i),
      )) in
      let len = length-push body.0 state in
      record {
        next_go = p.next_go;
        unchanged = λ q h. p.unchanged q (omega (arith, d.longer, e.longer)) ∙ e.unchanged q (omega (arith, d.longer)) ∙ d.unchanged q h;
        longer = omega (arith, d.longer, e.longer);
        agree = p.agree;
        entry = omega arith;
        means = λ i h. ap (λ f. f i) p.here;
      }

  pub upto_two_done : (both : BothEmitter) (T : Continuation → Continuation) → Looks view stop T → EmitsTwo both T → (greedy : Bool) (n : ℕ) → EmitsTwo (emitted_both_upto greedy both n) (upto_try view.longest greedy T n)
  unfolding emitted_both_upto upto_try
  upto_two_done both T ok ih greedy zero Open states go same moved before a_in b_in = record {
    next_go = go;
    unchanged = λ q h. refl;
    longer = omega arith;
    agree = before;
    same_in = a_in;
    moved_in = b_in;
    same_means = λ i h. sym (pick_same i (go same) (go moved) i (omega arith));
    moved_means = λ i h. refl;
  }
  upto_two_done both T ok ih greedy (suc n) Open states go same moved before a_in b_in =
      let d = upto_two_done both T ok ih greedy n Open states go same moved before a_in b_in in
      let rest = emitted_both_upto greedy both n states same moved in
      let e = ih Open rest.0 d.next_go rest.1 rest.2 d.agree d.same_in d.moved_in in
      let body = both rest.0 rest.1 rest.2 in
      let one : State = loop_head greedy body.1 same in
      let two : State = loop_head greedy body.2 moved in
      let U : Continuation → Continuation = upto_try view.longest greedy T n in
      let p = push_done view stop Open body.0 e.next_go one (λ i. upto_try view.longest greedy T (suc n) (pick i (go same) (go moved)) i) e.agree
      (inr (
        head_names greedy (length body.0) body.1 same e.same_in (omega (arith, d.longer, e.longer)),
        head_asks view.has_parts greedy body.1 same,
        λ i h.
            prefer_cong view.longest greedy _ _ _ _
            (ok _ _ i h (λ j c k. sym (picks_rest U (upto_agree view stop greedy T ok n) i j (go same) (go moved) _ _ c k (d.same_means j k) (d.moved_means j k)))
            ∙ sym (e.same_means i h))
            (pick_same i (go same) (go moved) i (omega arith) ∙ ap (λ f. f i) (sym (e.unchanged same (omega (arith, d.longer)) ∙ d.unchanged same a_in)))
            ∙ sym (visit_loop_head view stop e.next_go greedy body.1 same i),
      )) in
      let len = length-push body.0 one in
      let q = push_done view stop Open (push body.0 one) p.next_go two (upto_try view.longest greedy T (suc n) (go moved)) p.agree
      (inr (
        head_names greedy (length (push body.0 one)) body.2 moved (omega (arith, e.moved_in)) (omega (arith, d.longer, e.longer)),
        head_asks view.has_parts greedy body.2 moved,
        λ i h.
            prefer_cong view.longest greedy _ _ _ _
            (ok _ _ i h (λ j _ c. sym (d.moved_means j c)) ∙ sym (e.moved_means i h) ∙ ap (λ f. f i) (sym (p.unchanged body.2 e.moved_in)))
            (ap (λ f. f i) (sym (p.unchanged moved (omega (arith, d.longer, e.longer)) ∙ e.unchanged moved (omega (arith, d.longer)) ∙ d.unchanged moved b_in)))
            ∙ sym (visit_loop_head view stop p.next_go greedy body.2 moved i),
      )) in
      let len2 = length-push (push body.0 one) two in
      record {
        next_go = q.next_go;
        unchanged = λ r h. q.unchanged r (omega (arith, d.longer, e.longer)) ∙ p.unchanged r (omega (arith, d.longer, e.longer)) ∙ e.unchanged r (omega (arith, d.longer)) ∙ d.unchanged r h;
        longer = omega (arith, d.longer, e.longer);
        agree = q.agree;
        same_in = omega arith;
        moved_in = omega arith;
        same_means = λ i h. ap (λ f. f i) (q.unchanged (length body.0) (omega arith) ∙ p.here);
        moved_means = λ i h. ap (λ f. f i) q.here;
      }

  -- the head of a loop is filled in
  filled : (Open : ℕ → Type 0) (made : List State) (go : ℕ → Continuation) (head : ℕ) (state : State) → AgreeBut view stop (λ q. Open q ⊎ (q ≡ head)) made go
      → head < length made → NamesBelow (length made) state → MayAsk view.has_parts state → ((i : ℕ) → i ≤ stop → go head i ≡ visit view stop go state i)
      → AgreeBut view stop Open (set made head state) go
  filled Open made go head state before inside names asks does q h =
      let size = length-set made head state in
      ⊎_elim
      (λ (at : q ≡ head). rw at (inr (rw (get_or-set_same made head state Match inside, size) (record { names = names; asks = asks; does = does }))))
      (λ (other : q ≡ head → ⊥).
      rw (at_set_other made head q state other, size)
      (⊎_elim (λ o. ⊎_elim (λ x. inl x) (λ x. absurd (other x)) o) (λ x. inr x) (before q (rw size at h))))
      (cases_eq q head)

  -- the head of a loop is left open
  opened : (Open : ℕ → Type 0) (states : List State) (go : ℕ → Continuation) (g : Continuation) → AgreeBut view stop Open states go
      → Pushed view stop (λ q. Open q ⊎ (q ≡ length states)) states go Match g
  opened Open states go g before =
      push_done view stop (λ q. Open q ⊎ (q ≡ length states)) states go Match g (λ q h. ⊎_elim (λ o. inl (inl o)) (λ x. inr x) (before q h)) (inl (inr refl))

  pub star_done : (both : BothEmitter) (T : Continuation → Continuation) → Looks view stop T → EmitsTwo both T → (greedy : Bool) → Emits (emitted_star greedy both) (star_try view.longest stop greedy T)
  unfolding emitted_star
  star_done both T ok ih greedy Open states go next before inside =
      let head : ℕ = length states in
      let g : Continuation = star_try view.longest stop greedy T (go next) in
      let hole = opened Open states go g before in
      let len = length-push states Match in
      let body = ih (λ q. Open q ⊎ (q ≡ head)) (push states Match) hole.next_go next head hole.agree (omega arith) (omega arith) in
      let made = both (push states Match) next head in
      let state : State = loop_head greedy made.1 next in
      let size = length-set made.0 head state in
      let at_next : body.next_go next ≡ go next = body.unchanged next (omega arith) ∙ hole.unchanged next inside in
      let at_head : body.next_go head ≡ g = body.unchanged head (omega arith) ∙ hole.here in
      record {
        next_go = body.next_go;
        unchanged = λ q h. body.unchanged q (omega arith) ∙ hole.unchanged q h;
        longer = omega (arith, body.longer);
        agree =
            filled Open made.0 body.next_go head state body.agree (omega (arith, body.longer))
            (head_names greedy (length made.0) made.1 next body.same_in (omega (arith, body.longer)))
            (head_asks view.has_parts greedy made.1 next)
            (λ i b.
            ap (λ f. f i) at_head ∙ star_unfold view stop greedy T ok (go next) i b
            ∙ prefer_cong view.longest greedy _ _ _ _
            (ok _ _ i b (λ j c d. pick_agree i _ _ _ _ j (λ _. ap (λ f. f j) (sym (hole.unchanged next inside))) (λ _. ap (λ f. f j) (sym hole.here)))
            ∙ sym (body.same_means i b))
            (ap (λ f. f i) (sym at_next))
            ∙ sym (visit_loop_head view stop body.next_go greedy made.1 next i));
        entry = omega (arith, body.longer);
        means = λ i b. ap (λ f. f i) at_head;
      }

  -- the first iteration of a loop, where nothing was moved yet
  fresh_star : (greedy : Bool) (T : Continuation → Continuation) → Looks view stop T → (ks km : Continuation) (i : ℕ) → i ≤ stop
      → star_try view.longest stop greedy T (pick i ks km) i ≡ prefer view.longest greedy (T (pick i ks (star_try view.longest stop greedy T km)) i) (ks i)
  fresh_star greedy T ok ks km i h =
      star_unfold view stop greedy T ok (pick i ks km) i h
      ∙ prefer_cong view.longest greedy _ _ _ _
      (ok _ _ i h (λ j c k. pick_agree i _ _ _ _ j
      (λ ge. pick_same i ks km j ge)
      (λ lt. sym (moved_on (star_try view.longest stop greedy T) (star_agree view stop greedy T ok) i j ks km lt k))))
      (pick_same i ks km i (omega arith))

  pub star_two_done : (both : BothEmitter) (T : Continuation → Continuation) → Looks view stop T → EmitsTwo both T → (greedy : Bool) → EmitsTwo (emitted_both_star greedy both) (star_try view.longest stop greedy T)
  unfolding emitted_both_star
  star_two_done both T ok ih greedy Open states go same moved before a_in b_in =
      let d = star_done both T ok ih greedy Open states go moved before b_in in
      let loop = emitted_star greedy both states moved in
      let e = ih Open loop.0 d.next_go same loop.1 d.agree (omega (arith, d.longer)) d.entry in
      let first = both loop.0 same loop.1 in
      let state : State = loop_head greedy first.1 same in
      let ks : Continuation = go same in
      let km : Continuation = go moved in
      let p = push_done view stop Open first.0 e.next_go state (λ i. star_try view.longest stop greedy T (pick i ks km) i) e.agree
      (inr (
        head_names greedy (length first.0) first.1 same e.same_in (omega (arith, d.longer, e.longer)),
        head_asks view.has_parts greedy first.1 same,
        λ i h.
            fresh_star greedy T ok ks km i h
            ∙ prefer_cong view.longest greedy _ _ _ _
            (ok _ _ i h (λ j c k. pick_agree i _ _ _ _ j (λ _. ap (λ f. f j) (sym (d.unchanged same a_in))) (λ _. sym (d.means j k)))
            ∙ sym (e.same_means i h))
            (ap (λ f. f i) (sym (e.unchanged same (omega (arith, d.longer)) ∙ d.unchanged same a_in)))
            ∙ sym (visit_loop_head view stop e.next_go greedy first.1 same i),
      )) in
      let len = length-push first.0 state in
      record {
        next_go = p.next_go;
        unchanged = λ r h. p.unchanged r (omega (arith, d.longer, e.longer)) ∙ e.unchanged r (omega (arith, d.longer)) ∙ d.unchanged r h;
        longer = omega (arith, d.longer, e.longer);
        agree = p.agree;
        same_in = omega arith;
        moved_in = omega (arith, d.longer, e.longer, d.entry);
        same_means = λ i h. ap (λ f. f i) p.here;
        moved_means = λ i h. ap (λ f. f i) (p.unchanged loop.1 (omega (arith, d.entry, e.longer)) ∙ e.unchanged loop.1 d.entry) ∙ d.means i h;
      }

  -- of a loop over what always moves: its head, and the entry of its body
  pub plus_done : (one : Emitter) (T : Continuation → Continuation) → Looks view stop T → Moves view stop T → Emits one T → (greedy : Bool)
      → (Open : ℕ → Type 0) (states : List State) (go : ℕ → Continuation) (next : ℕ) → AgreeBut view stop Open states go → next < length states
      → DoneBoth view stop Open states go (emitted_plus greedy one states next) (star_try view.longest stop greedy T (go next)) (T (star_try view.longest stop greedy T (go next)))
  unfolding emitted_plus
  plus_done one T ok moves ih greedy Open states go next before inside =
      let head : ℕ = length states in
      let g : Continuation = star_try view.longest stop greedy T (go next) in
      let hole = opened Open states go g before in
      let len = length-push states Match in
      let body = ih (λ q. Open q ⊎ (q ≡ head)) (push states Match) hole.next_go head hole.agree (omega arith) in
      let made = one (push states Match) head in
      let state : State = loop_head greedy made.1 next in
      let size = length-set made.0 head state in
      let at_next : body.next_go next ≡ go next = body.unchanged next (omega arith) ∙ hole.unchanged next inside in
      let at_head : body.next_go head ≡ g = body.unchanged head (omega arith) ∙ hole.here in
      let iteration : (i : ℕ) → i ≤ stop → body.next_go made.1 i ≡ T g i = λ i b. body.means i b ∙ ap (λ k. T k i) hole.here in
      record {
        next_go = body.next_go;
        unchanged = λ q h. body.unchanged q (omega arith) ∙ hole.unchanged q h;
        longer = omega (arith, body.longer);
        agree =
            filled Open made.0 body.next_go head state body.agree (omega (arith, body.longer))
            (head_names greedy (length made.0) made.1 next body.entry (omega (arith, body.longer)))
            (head_asks view.has_parts greedy made.1 next)
            (λ i b.
            ap (λ f. f i) at_head ∙ plus_unfold view stop greedy T ok moves (go next) i b
            ∙ prefer_cong view.longest greedy _ _ _ _ (sym (iteration i b)) (ap (λ f. f i) (sym at_next))
            ∙ sym (visit_loop_head view stop body.next_go greedy made.1 next i));
        same_in = omega (arith, body.longer);
        moved_in = omega (arith, body.entry);
        same_means = λ i b. ap (λ f. f i) at_head;
        moved_means = iteration;
      }

  -- one iteration more in front of n is one iteration more after them
  times_turn : (T : Continuation → Continuation) (n : ℕ) (k : Continuation) → times_try T n (T k) ≡ times_try T (suc n) k
  unfolding times_try
  times_turn T zero k = refl
  times_turn T (suc n) k = ap (λ r. T r) (times_turn T n k)

  pub many_done : (one : Emitter) (T : Continuation → Continuation) → Looks view stop T → Moves view stop T → Emits one T → (greedy : Bool) (lo : ℕ)
      → Emits (emitted_many lo greedy one) (λ k. times_try T lo (star_try view.longest stop greedy T k))
  unfolding emitted_many times_try
  many_done one T ok moves ih greedy zero Open states go next before inside =
      let d = plus_done one T ok moves ih greedy Open states go next before inside in
      record { next_go = d.next_go; unchanged = d.unchanged; longer = d.longer; agree = d.agree; entry = d.same_in; means = d.same_means }
  many_done one T ok moves ih greedy (suc n) Open states go next before inside =
      let d = plus_done one T ok moves ih greedy Open states go next before inside in
      let loop = emitted_plus greedy one states next in
      let e = times_done one T ok ih n Open loop.0 d.next_go loop.2 d.agree d.moved_in in
      let g : Continuation = star_try view.longest stop greedy T (go next) in
      record {
        next_go = e.next_go;
        unchanged = λ q h. e.unchanged q (omega (arith, d.longer)) ∙ d.unchanged q h;
        longer = omega (arith, d.longer, e.longer);
        agree = e.agree;
        entry = e.entry;
        means = λ i h. e.means i h ∙ times_agree view stop T ok n _ _ i h (λ j _ c. d.moved_means j c) ∙ ap (λ f. f i) (times_turn T n g);
      }

  -- of a loop over what always moves, at two places: its head, and the entries of its body
  record DonePlus (Open : ℕ → Type 0) (states : List State) (go : ℕ → Continuation) (made : List State × ℕ × ℕ × ℕ) (head same moved : Continuation) : Type 0 where
    pub next_go : ℕ → Continuation
    pub unchanged : (q : ℕ) → q < length states → next_go q ≡ go q
    pub longer : length states ≤ length made.0
    pub agree : AgreeBut view stop Open made.0 next_go
    pub head_in : made.1 < length made.0
    pub same_in : made.2 < length made.0
    pub moved_in : made.3 < length made.0
    pub head_means : (i : ℕ) → i ≤ stop → next_go made.1 i ≡ head i
    pub same_means : (i : ℕ) → i ≤ stop → next_go made.2 i ≡ same i
    pub moved_means : (i : ℕ) → i ≤ stop → next_go made.3 i ≡ moved i

  plus_two_done : (both : BothEmitter) (T : Continuation → Continuation) → Looks view stop T → Moves view stop T → EmitsTwo both T → (greedy : Bool)
      → (Open : ℕ → Type 0) (states : List State) (go : ℕ → Continuation) (same moved : ℕ) → AgreeBut view stop Open states go
      → same < length states → moved < length states
      → DonePlus Open states go (emitted_both_plus greedy both states same moved) (star_try view.longest stop greedy T (go moved))
      (λ i. T (pick i (go same) (star_try view.longest stop greedy T (go moved))) i) (T (star_try view.longest stop greedy T (go moved)))
  unfolding emitted_both_plus
  plus_two_done both T ok moves ih greedy Open states go same moved before a_in b_in =
      let head : ℕ = length states in
      let g : Continuation = star_try view.longest stop greedy T (go moved) in
      let hole = opened Open states go g before in
      let len = length-push states Match in
      let body = ih (λ q. Open q ⊎ (q ≡ head)) (push states Match) hole.next_go same head hole.agree (omega arith) (omega arith) in
      let made = both (push states Match) same head in
      let state : State = loop_head greedy made.2 moved in
      let size = length-set made.0 head state in
      let at_moved : body.next_go moved ≡ go moved = body.unchanged moved (omega arith) ∙ hole.unchanged moved b_in in
      let at_head : body.next_go head ≡ g = body.unchanged head (omega arith) ∙ hole.here in
      let iteration : (i : ℕ) → i ≤ stop → body.next_go made.2 i ≡ T g i = λ i b. body.moved_means i b ∙ ap (λ k. T k i) hole.here in
      record {
        next_go = body.next_go;
        unchanged = λ q h. body.unchanged q (omega arith) ∙ hole.unchanged q h;
        longer = omega (arith, body.longer);
        agree =
            filled Open made.0 body.next_go head state body.agree (omega (arith, body.longer))
            (head_names greedy (length made.0) made.2 moved body.moved_in (omega (arith, body.longer)))
            (head_asks view.has_parts greedy made.2 moved)
            (λ i b.
            ap (λ f. f i) at_head ∙ plus_unfold view stop greedy T ok moves (go moved) i b
            ∙ prefer_cong view.longest greedy _ _ _ _ (sym (iteration i b)) (ap (λ f. f i) (sym at_moved))
            ∙ sym (visit_loop_head view stop body.next_go greedy made.2 moved i));
        head_in = omega (arith, body.longer);
        same_in = omega (arith, body.same_in);
        moved_in = omega (arith, body.moved_in);
        head_means = λ i b. ap (λ f. f i) at_head;
        same_means = λ i h. body.same_means i h ∙ ok _ _ i h (λ j c k. pick_agree i _ _ _ _ j (λ _. ap (λ f. f j) (hole.unchanged same a_in)) (λ _. ap (λ f. f j) hole.here));
        moved_means = iteration;
      }

  pub many_two_done : (both : BothEmitter) (T : Continuation → Continuation) → Looks view stop T → Moves view stop T → EmitsTwo both T → (greedy : Bool) (lo : ℕ)
      → EmitsTwo (emitted_both_many lo greedy both) (λ k. times_try T lo (star_try view.longest stop greedy T k))
  unfolding emitted_both_many times_try
  many_two_done both T ok moves ih greedy zero Open states go same moved before a_in b_in =
      let d = plus_two_done both T ok moves ih greedy Open states go same moved before a_in b_in in
      let loop = emitted_both_plus greedy both states same moved in
      let state : State = loop_head greedy loop.2 same in
      let ks : Continuation = go same in
      let km : Continuation = go moved in
      let p = push_done view stop Open loop.0 d.next_go state (λ i. star_try view.longest stop greedy T (pick i ks km) i) d.agree
      (inr (
        head_names greedy (length loop.0) loop.2 same d.same_in (omega (arith, d.longer)),
        head_asks view.has_parts greedy loop.2 same,
        λ i h.
            fresh_star greedy T ok ks km i h
            ∙ prefer_cong view.longest greedy _ _ _ _ (sym (d.same_means i h)) (ap (λ f. f i) (sym (d.unchanged same a_in)))
            ∙ sym (visit_loop_head view stop d.next_go greedy loop.2 same i),
      )) in
      let len = length-push loop.0 state in
      record {
        next_go = p.next_go;
        unchanged = λ r h. p.unchanged r (omega (arith, d.longer)) ∙ d.unchanged r h;
        longer = omega (arith, d.longer);
        agree = p.agree;
        same_in = omega arith;
        moved_in = omega (arith, d.head_in);
        same_means = λ i h. ap (λ f. f i) p.here;
        moved_means = λ i h. ap (λ f. f i) (p.unchanged loop.1 d.head_in) ∙ d.head_means i h;
      }
  many_two_done both T ok moves ih greedy (suc n) Open states go same moved before a_in b_in =
      let d = plus_two_done both T ok moves ih greedy Open states go same moved before a_in b_in in
      let loop = emitted_both_plus greedy both states same moved in
      let e = times_two_done both T ok ih n Open loop.0 d.next_go loop.2 loop.3 d.agree d.same_in d.moved_in in
      let ks : Continuation = go same in
      let km : Continuation = go moved in
      let S : Continuation → Continuation = star_try view.longest stop greedy T in
      let sok = star_agree view stop greedy T ok in
      record {
        next_go = e.next_go;
        unchanged = λ q h. e.unchanged q (omega (arith, d.longer)) ∙ d.unchanged q h;
        longer = omega (arith, d.longer, e.longer);
        agree = e.agree;
        same_in = e.same_in;
        moved_in = e.moved_in;
        same_means = λ i h.
            e.same_means i h
            ∙ times_agree view stop T ok n _ _ i h (λ j c k.
            ⊎_elim
            (λ (lt : i < j).
            pick_moved i _ _ j lt ∙ d.moved_means j k
            ∙ ok _ _ j k (λ l u v. moved_on S sok i l ks km (omega arith) v))
            (λ (ge : j ≤ i).
            pick_same i _ _ j ge ∙ d.same_means j k
            ∙ moves _ _ j k (λ l u v. pick_moved j ks (S km) l u ∙ moved_on S sok i l ks km (omega arith) v))
            (cases_lt i j))
            ∙ ap (λ f. f i) (times_turn T n (S (pick i ks km)));
        moved_means = λ i h. e.moved_means i h ∙ times_agree view stop T ok n _ _ i h (λ j _ c. d.moved_means j c) ∙ ap (λ f. f i) (times_turn T n (S km));
      }

  pub repeat_done : (one : Emitter) (both : BothEmitter) (T : Continuation → Continuation) → Looks view stop T → Emits one T → EmitsTwo both T
      → (unbounded strict : Bool) → (strict ≡ true → Moves view stop T) → (lo hi : ℕ) (greedy : Bool)
      → Emits (emitted_repeat unbounded strict lo hi greedy one both) (λ k. times_try T lo (tail_try view.longest unbounded stop greedy T (hi - lo) k))
  unfolding emitted_repeat tail_try
  repeat_done one both T ok a b true true moves lo hi greedy Open states go next before inside =
      many_done one T ok (moves refl) a greedy lo Open states go next before inside
  repeat_done one both T ok a b true false moves lo hi greedy Open states go next before inside =
      seq_done (emitted_times one lo) (emitted_star greedy both) (times_try T lo) (star_try view.longest stop greedy T) (times_agree view stop T ok lo)
      (times_done one T ok a lo) (star_done both T ok b greedy) Open states go next before inside
  repeat_done one both T ok a b false strict moves lo hi greedy Open states go next before inside =
      seq_done (emitted_times one lo) (emitted_upto greedy one (hi - lo)) (times_try T lo) (upto_try view.longest greedy T (hi - lo)) (times_agree view stop T ok lo)
      (times_done one T ok a lo) (upto_done one T ok a greedy (hi - lo)) Open states go next before inside

  pub repeat_two_done : (both : BothEmitter) (T : Continuation → Continuation) → Looks view stop T → EmitsTwo both T
      → (unbounded strict : Bool) → (strict ≡ true → Moves view stop T) → (lo hi : ℕ) (greedy : Bool)
      → EmitsTwo (emitted_both_repeat unbounded strict lo hi greedy both) (λ k. times_try T lo (tail_try view.longest unbounded stop greedy T (hi - lo) k))
  unfolding emitted_both_repeat tail_try
  repeat_two_done both T ok b true true moves lo hi greedy Open states go same moved before a_in b_in =
      many_two_done both T ok (moves refl) b greedy lo Open states go same moved before a_in b_in
  repeat_two_done both T ok b true false moves lo hi greedy Open states go same moved before a_in b_in =
      seq_two_done (emitted_both_times both lo) (emitted_both_star greedy both) (times_try T lo) (star_try view.longest stop greedy T)
      (times_agree view stop T ok lo) (star_agree view stop greedy T ok)
      (times_two_done both T ok b lo) (star_two_done both T ok b greedy) Open states go same moved before a_in b_in
  repeat_two_done both T ok b false strict moves lo hi greedy Open states go same moved before a_in b_in =
      seq_two_done (emitted_both_times both lo) (emitted_both_upto greedy both (hi - lo)) (times_try T lo) (upto_try view.longest greedy T (hi - lo))
      (times_agree view stop T ok lo) (upto_agree view stop greedy T ok (hi - lo))
      (times_two_done both T ok b lo) (upto_two_done both T ok b greedy (hi - lo)) Open states go same moved before a_in b_in
