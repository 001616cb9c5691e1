-- The states of a tree do what trying it does.
use Rattle.std.proofs.Common.{◌≡◌, ℕ, zero, suc, ◌+◌, ◌-◌, ◌*◌, ◌<◌, ◌≤◌, true, List, length, Option, Some, None, refl, sym, ap, ap₂, subst, ◌∙◌, inr, ⊎_elim, arith}
use Rattle.std.proofs.lemmas.Bool.{cases_lt}
use Rattle.fancy_regex_states.specs.Attempts.{View, AttemptResult, Continuation, guard, either, save, accept, asked, passed, pick, resume, stepped, NamesBelow, MayAsk, visit}
use Rattle.fancy_regex_linear.specs.Meaning.{is_unbounded}
use Rattle.fancy_regex_linear.specs.Attempt.{attempt, behind}
use Rattle.fancy_regex_linear.specs.Program.{IsSound, MayAskIn, push, Emitter, BothEmitter, emitted, emitted_back, emitted_part, emitted_both, emitted_both_group, emitted_both_part, emitted_both_asking, AgreeBut, emitted_choice}
use Rattle.fancy_regex_linear.specs.Re.{Re, nothing, read, test, cat, alt, group, repeat, ask, atomic, conditional}
use Rattle.fancy_regex_states.specs.declared.state.State.{State}
use Rattle.fancy_regex_states.specs.declared.state.State.TheVariants.{Split, Enter, Leave, Ask, Atomic, Match}
use Rattle.fancy_regex_states.specs.declared.state.State.TheVariants as S
use Rattle.fancy_regex_linear.proofs.AgreeLemmas.{IsWithin, end_within, guard_cong, passed_cong, reads_below, pick_same, pick_moved, pick_both, resume_pick, Looks, attempt_agree, attempt_ends, attempt_moves}
use Rattle.fancy_regex_linear.proofs.EmitLemmas.{length-push, names_more, visit_same, push_done, Done, DoneBoth}
use Rattle.fancy_regex_linear.proofs.RepeatLemmas.{Emits, EmitsTwo, picks_rest, seq_done, seq_two_done, repeat_done, repeat_two_done}

module _ (view : View) (stop : ℕ) where
  -- a tree from i, where nothing was moved yet
  abbrev pub fresh : Re → Continuation → Continuation → Continuation
  fresh t same moved i = attempt view stop t (pick i same moved) i

  abbrev EmitsBoth : Re → Type 1
  EmitsBoth t = EmitsTwo view stop (emitted_both t) (attempt view stop t)

  -- a part, once emitted, is attempted by itself
  part_done : (one : Emitter) (T : Continuation → Continuation) → Emits view stop one T → (Open : ℕ → Type 0) (states : List State) (go : ℕ → Continuation)
      → AgreeBut view stop Open states go → Done view stop Open states go (emitted_part one states) (T accept)
  part_done one T ih Open states go before =
      let c = push_done view stop Open states go Match accept before (inr (tt, tt, λ i b. refl)) in
      let len = length-push states Match in
      let d = ih Open (push states Match) c.next_go (length states) c.agree (omega arith) in
      record {
        next_go = d.next_go;
        unchanged = λ q h. d.unchanged q (omega arith) ∙ c.unchanged q h;
        longer = omega (arith, d.longer);
        agree = d.agree;
        entry = d.entry;
        means = λ i h. d.means i h ∙ ap (λ k. T k i) c.here;
      }

  both_part_done : (both : BothEmitter) (T : Continuation → Continuation) → Looks view stop T → EmitsTwo view stop both T
      → (Open : ℕ → Type 0) (states : List State) (go : ℕ → Continuation) → AgreeBut view stop Open states go
      → Done view stop Open states go (emitted_both_part both states) (T accept)
  both_part_done both T ok ih Open states go before =
      let c = push_done view stop Open states go Match accept before (inr (tt, tt, λ i b. refl)) in
      let len = length-push states Match in
      let d = ih Open (push states Match) c.next_go (length states) (length states) c.agree (omega arith) (omega arith) in
      record {
        next_go = d.next_go;
        unchanged = λ q h. d.unchanged q (omega arith) ∙ c.unchanged q h;
        longer = omega (arith, d.longer);
        agree = d.agree;
        entry = d.same_in;
        means = λ i h.
            d.same_means i h ∙ ok _ _ i h (λ j _ _. pick_both i (c.next_go (length states)) j) ∙ ap (λ k. T k i) c.here;
      }

  -- a state after what was emitted
  state_after_done : (Open : ℕ → Type 0) (states : List State) (go : ℕ → Continuation) (made : List State × ℕ) (part : Continuation) (state : State) (g : Continuation)
      → (d : Done view stop Open states go made part) → NamesBelow (length made.0) state → MayAsk view.has_parts state
      → ((i : ℕ) → i ≤ stop → g i ≡ visit view stop d.next_go state i)
      → Done view stop Open states go (push made.0 state, length made.0) g
  state_after_done Open states go made part state g d names asks does =
      let p = push_done view stop Open made.0 d.next_go state g d.agree (inr (names, asks, does)) in
      let len = length-push made.0 state in
      record {
        next_go = p.next_go;
        unchanged = λ q h. p.unchanged q (omega (arith, d.longer)) ∙ d.unchanged q h;
        longer = omega (arith, d.longer);
        agree = p.agree;
        entry = omega arith;
        means = λ i h. ap (λ f. f i) p.here;
      }

  -- two states after it
  two_states_after_done : (Open : ℕ → Type 0) (states : List State) (go : ℕ → Continuation) (made : List State × ℕ) (part : Continuation) (one two : State) (f g : Continuation)
      → (d : Done view stop Open states go made part) → NamesBelow (length made.0) one → NamesBelow (length made.0) two
      → MayAsk view.has_parts one → MayAsk view.has_parts two
      → ((i : ℕ) → i ≤ stop → f i ≡ visit view stop d.next_go one i) → ((i : ℕ) → i ≤ stop → g i ≡ visit view stop d.next_go two i)
      → DoneBoth view stop Open states go (emitted_both_asking one two made.0) f g
  unfolding emitted_both_asking
  two_states_after_done Open states go made part one two f g d names names2 asks asks2 does does2 =
      let p = push_done view stop Open made.0 d.next_go one f d.agree (inr (names, asks, does)) in
      let len = length-push made.0 one in
      let q = push_done view stop Open (push made.0 one) p.next_go two g p.agree
      (inr (
        names_more (length made.0) (length (push made.0 one)) two (omega arith) names2,
        asks2,
        λ i h. does2 i h ∙ sym (visit_same view stop d.next_go p.next_go (length made.0) two names2 p.unchanged i),
      )) in
      let len2 = length-push (push made.0 one) two in
      record {
        next_go = q.next_go;
        unchanged = λ r h. q.unchanged r (omega (arith, d.longer)) ∙ p.unchanged r (omega (arith, d.longer)) ∙ d.unchanged r h;
        longer = omega (arith, d.longer);
        agree = q.agree;
        same_in = omega arith;
        moved_in = omega arith;
        same_means = λ i h. ap (λ k. k i) (q.unchanged (length made.0) (omega arith) ∙ p.here);
        moved_means = λ i h. ap (λ k. k i) q.here;
      }

  -- what follows a part is what a node picks
  passes_on : (part : AttemptResult) (i : ℕ) (same moved : Continuation) → IsWithin i stop part.answer
      → passed part (pick i same moved) ≡ passed part (resume i same moved)
  passes_on part i same moved within =
      passed_cong part (pick i same moved) (resume i same moved)
      (λ t e. sym (resume_pick i same moved t.end (end_within i stop part.answer t within e).0))

  -- two states after these, and the choice between them
  choice_done : (Open : ℕ → Type 0) (states : List State) (go : ℕ → Continuation) (one two : State) (g : Continuation) → AgreeBut view stop Open states go
      → NamesBelow (length states) one → NamesBelow (length states) two → MayAsk view.has_parts one → MayAsk view.has_parts two
      → ((i : ℕ) → i ≤ stop → g i ≡ either view.longest (visit view stop go one i) (visit view stop go two i))
      → Done view stop Open states go (emitted_choice one two states) g
  unfolding emitted_choice
  choice_done Open states go one two g before names names2 asks asks2 does =
      let p = push_done view stop Open states go one (visit view stop go one) before (inr (names, asks, λ i h. refl)) in
      let len = length-push states one in
      let q = push_done view stop Open (push states one) p.next_go two (visit view stop go two) p.agree
      (inr (
        names_more (length states) (length (push states one)) two (omega arith) names2,
        asks2,
        λ i h. sym (visit_same view stop go p.next_go (length states) two names2 p.unchanged i),
      )) in
      let len2 = length-push (push states one) two in
      let state : State = Split (length states) (length (push states one)) in
      let r = push_done view stop Open (push (push states one) two) q.next_go state g q.agree
      (inr (
        (omega arith, omega arith),
        tt,
        λ i h. does i h
            ∙ ap₂ (either view.longest)
            (ap (λ f. f i) (sym (q.unchanged (length states) (omega arith) ∙ p.here)))
            (ap (λ f. f i) (sym q.here)),
      )) in
      let len3 = length-push (push (push states one) two) state in
      record {
        next_go = r.next_go;
        unchanged = λ n h. r.unchanged n (omega arith) ∙ q.unchanged n (omega arith) ∙ p.unchanged n h;
        longer = omega arith;
        agree = r.agree;
        entry = omega arith;
        means = λ i h. ap (λ f. f i) r.here;
      }

  -- what goes on at one place, moved or not
  passes_one : (go : ℕ → Continuation) (k : Continuation) (result : AttemptResult) (part next i : ℕ) → IsWithin i stop result.answer
      → go part i ≡ result → go next ≡ k → passed result k ≡ passed (go part i) (resume i (go next) (go next))
  passes_one go k result part next i within part_means next_means =
      let here : IsWithin i stop (go part i).answer = subst (λ (r : AttemptResult). IsWithin i stop r.answer) (sym part_means) within in
      ap₂ passed (sym part_means) (sym next_means)
      ∙ sym (passed_cong (go part i) (pick i (go next) (go next)) (go next) (λ t e. pick_both i (go next) t.end))
      ∙ passes_on (go part i) i (go next) (go next) here

  -- a step back
  stepped_same : (o : Option ℕ) (i : ℕ) (k k2 : Continuation) → ((bytes : ℕ) → k (i - bytes) ≡ k2 (i - bytes)) → stepped o i k ≡ stepped o i k2
  stepped_same None i k k2 h = refl
  stepped_same (Some bytes) i k k2 h = ap (guard true) (h bytes)

  -- states that step back to a part
  back_done : (n : ℕ) (Open : ℕ → Type 0) (states : List State) (go : ℕ → Continuation) (made : List State × ℕ) (part : Continuation)
      → Done view stop Open states go made part → view.has_parts ≡ true → Done view stop Open states go (emitted_back n made.0 made.1) (behind view n part)
  unfolding emitted_back behind
  back_done zero Open states go made part d may = d
  back_done (suc n) Open states go made part d may =
      let rest = back_done n Open states go made part d may in
      let so_far = emitted_back n made.0 made.1 in
      state_after_done Open states go so_far (behind view n part) (S.Back so_far.1) (behind view (suc n) part) rest rest.entry may
      (λ i h. stepped_same (view.back i) i (behind view n part) (rest.next_go so_far.1) (λ bytes. sym (rest.means (i - bytes) (omega (arith, h)))))

  -- a branch goes on at the end of the part, which is in the range
  branch_passes : (go : ℕ → Continuation) (k : Continuation) (result : AttemptResult) (part next i : ℕ) → go part i ≡ result
      → IsWithin i stop result.answer → ((j : ℕ) → j ≤ stop → go next j ≡ k j) → passed result k ≡ passed (go part i) (resume i (go next) (go next))
  branch_passes go k result part next i part_means within next_means =
      passed_cong result k (go next) (λ t is. sym (next_means t.end (end_within i stop result.answer t within is).1))
      ∙ passes_one go (go next) result part next i within part_means refl

  pub emit_done : ((t : Re) → IsSound t → MayAskIn view.has_parts t → EmitsBoth t) → (t : Re) → IsSound t → MayAskIn view.has_parts t → Emits view stop (emitted t) (attempt view stop t)
  unfolding emitted attempt
  emit_done both nothing sound may Open states go next before inside = record {
    next_go = go;
    unchanged = λ q h. refl;
    longer = omega arith;
    agree = before;
    entry = inside;
    means = λ i b. refl;
  }
  emit_done both (read leaf) sound may Open states go next before inside =
      let p = push_done view stop Open states go (S.Read leaf next) (attempt view stop (read leaf) (go next)) before (inr (inside, tt, λ i b. refl)) in
      let len = length-push states (S.Read leaf next) in
      record { next_go = p.next_go; unchanged = p.unchanged; longer = omega arith; agree = p.agree; entry = omega arith; means = λ i b. ap (λ f. f i) p.here }
  emit_done both (test check) sound may Open states go next before inside =
      let p = push_done view stop Open states go (S.Look check next) (attempt view stop (test check) (go next)) before (inr (inside, tt, λ i b. refl)) in
      let len = length-push states (S.Look check next) in
      record { next_go = p.next_go; unchanged = p.unchanged; longer = omega arith; agree = p.agree; entry = omega arith; means = λ i b. ap (λ f. f i) p.here }
  emit_done both (cat a b) sound may Open states go next before inside =
      seq_done view stop (emitted a) (emitted b) (attempt view stop a) (attempt view stop b) (attempt_agree view stop a) (emit_done both a sound.0 may.0) (emit_done both b sound.1 may.1)
      Open states go next before inside
  emit_done both (alt a b) sound may Open states go next before inside =
      let d = emit_done both b sound.1 may.1 Open states go next before inside in
      let second = emitted b states next in
      let e = emit_done both a sound.0 may.0 Open second.0 d.next_go next d.agree (omega (arith, d.longer)) in
      let first = emitted a second.0 next in
      let state : State = Split first.1 second.1 in
      let p = push_done view stop Open first.0 e.next_go state (attempt view stop (alt a b) (go next)) e.agree
      (inr (
        (e.entry, omega (arith, d.entry, e.longer)),
        tt,
        λ i h.
            ap₂ (either view.longest)
            (ap (λ k. attempt view stop a k i) (sym (d.unchanged next inside)) ∙ sym (e.means i h))
            (sym (d.means i h) ∙ ap (λ f. f i) (sym (e.unchanged second.1 d.entry))),
      )) in
      let len = length-push first.0 state in
      record {
        next_go = p.next_go;
        unchanged = λ q h. p.unchanged q (omega (arith, d.longer, e.longer)) ∙ e.unchanged q (omega (arith, d.longer)) ∙ d.unchanged q h;
        longer = omega (arith, d.longer, e.longer);
        agree = p.agree;
        entry = omega arith;
        means = λ i h. ap (λ f. f i) p.here;
      }
  emit_done both (group g a) sound may Open states go next before inside =
      let close : State = Leave g next in
      let c = push_done view stop Open states go close (λ j. save (2 * g + 1) j (go next j)) before (inr (inside, tt, λ i b. refl)) in
      let clen = length-push states close in
      let d = emit_done both a sound may Open (push states close) c.next_go (length states) c.agree (omega arith) in
      let body = emitted a (push states close) (length states) in
      let open_state : State = Enter g body.1 in
      let p = push_done view stop Open body.0 d.next_go open_state (attempt view stop (group g a) (go next)) d.agree
      (inr (d.entry, tt, λ i h. ap (save (2 * g) i) (ap (λ k. attempt view stop a k i) (sym c.here) ∙ sym (d.means i h)))) in
      let len = length-push body.0 open_state in
      record {
        next_go = p.next_go;
        unchanged = λ q h. p.unchanged q (omega (arith, d.longer)) ∙ d.unchanged q (omega arith) ∙ c.unchanged q h;
        longer = omega (arith, d.longer);
        agree = p.agree;
        entry = omega arith;
        means = λ i h. ap (λ f. f i) p.here;
      }
  emit_done both (repeat lo hi greedy strict a) sound may Open states go next before inside =
      repeat_done view stop (emitted a) (emitted_both a) (attempt view stop a) (attempt_agree view stop a) (emit_done both a sound.1 may) (both a sound.1 may)
      (is_unbounded hi) strict (λ e. attempt_moves view stop a (sound.0 e)) lo hi greedy Open states go next before inside
  emit_done both (ask negated back a) sound may Open states go next before inside =
      let body = emitted_part (emitted a) states in
      let d = back_done back Open states go body (attempt view stop a accept)
      (part_done (emitted a) (attempt view stop a) (emit_done both a sound may.1) Open states go before) may.0 in
      let part = emitted_back back body.0 body.1 in
      state_after_done Open states go part (behind view back (attempt view stop a accept)) (Ask part.1 negated next)
      (attempt view stop (ask negated back a) (go next)) d
      (d.entry, omega (arith, d.longer)) may.0
      (λ i h. ap₂ (asked negated) (sym (d.means i h)) (ap (λ f. f i) (sym (d.unchanged next inside))))
  emit_done both (atomic a) sound may Open states go next before inside =
      let d = part_done (emitted a) (attempt view stop a) (emit_done both a sound may.1) Open states go before in
      let part = emitted_part (emitted a) states in
      state_after_done Open states go part (attempt view stop a accept) (Atomic part.1 next next) (attempt view stop (atomic a) (go next)) d
      (d.entry, omega (arith, d.longer), omega (arith, d.longer)) may.0
      (λ i h. passes_one d.next_go (go next) (attempt view stop a accept i) part.1 next i (attempt_ends view stop a i h) (d.means i h) (d.unchanged next inside))
  emit_done both (conditional c a b) sound may Open states go next before inside =
      let d = emit_done both b sound.1.1 may.1.1.1 Open states go next before inside in
      let right = emitted b states next in
      let e = emit_done both a sound.1.0 may.1.1.0 Open right.0 d.next_go next d.agree (omega (arith, d.longer)) in
      let left = emitted a right.0 next in
      let f = part_done (emitted c) (attempt view stop c) (emit_done both c sound.0 may.1.0) Open left.0 e.next_go e.agree in
      let part = emitted_part (emitted c) left.0 in
      let one : State = Atomic part.1 left.1 left.1 in
      let two : State = Ask part.1 true right.1 in
      let r = choice_done Open part.0 f.next_go one two (attempt view stop (conditional c a b) (go next)) f.agree
      (f.entry, omega (arith, e.entry, f.longer), omega (arith, e.entry, f.longer)) (f.entry, omega (arith, d.entry, e.longer, f.longer)) may.0 may.0
      (λ i h. ap₂ (either view.longest)
      (branch_passes f.next_go (attempt view stop a (go next)) (attempt view stop c accept i) part.1 left.1 i (f.means i h)
      (attempt_ends view stop c i h)
      (λ j p. ap (λ k. k j) (f.unchanged left.1 e.entry) ∙ e.means j p ∙ ap (λ k. attempt view stop a k j) (d.unchanged next inside)))
      (ap₂ (asked true) (sym (f.means i h))
      (sym (ap (λ k. k i) (f.unchanged right.1 (omega (arith, d.entry, e.longer)) ∙ e.unchanged right.1 d.entry) ∙ d.means i h)))) in
      record {
        next_go = r.next_go;
        unchanged = λ q h. r.unchanged q (omega (arith, d.longer, e.longer, f.longer)) ∙ f.unchanged q (omega (arith, d.longer, e.longer))
            ∙ e.unchanged q (omega (arith, d.longer)) ∙ d.unchanged q h;
        longer = omega (arith, d.longer, e.longer, f.longer, r.longer);
        agree = r.agree;
        entry = r.entry;
        means = r.means;
      }

  -- what follows is applied on both sides of a pick
  pick_map : (f : ℕ → AttemptResult → AttemptResult) (i : ℕ) (same moved same2 moved2 : Continuation) (j : ℕ) → same2 j ≡ f j (same j) → moved2 j ≡ f j (moved j)
      → pick i same2 moved2 j ≡ f j (pick i same moved j)
  pick_map f i same moved same2 moved2 j e m =
      ⊎_elim
      (λ lt. pick_moved i same2 moved2 j lt ∙ m ∙ ap (f j) (sym (pick_moved i same moved j lt)))
      (λ ge. pick_same i same2 moved2 j ge ∙ e ∙ ap (f j) (sym (pick_same i same moved j ge)))
      (cases_lt i j)

  -- a branch goes on at the end of the part, moved or not
  both_branch_passes : (go : ℕ → Continuation) (B : Continuation → Continuation) → Looks view stop B → (same moved : Continuation) (result : AttemptResult)
      (part at_same at_moved i : ℕ) → go part i ≡ result → IsWithin i stop result.answer
      → ((j : ℕ) → j ≤ stop → go at_same j ≡ B (pick j same moved) j) → ((j : ℕ) → j ≤ stop → go at_moved j ≡ B moved j)
      → passed result (B (pick i same moved)) ≡ passed (go part i) (resume i (go at_same) (go at_moved))
  both_branch_passes go B ok same moved result part at_same at_moved i part_means within same_means moved_means =
      passed_cong result (B (pick i same moved)) (pick i (go at_same) (go at_moved))
      (λ t is. let ends = end_within i stop result.answer t within is in
      sym (picks_rest view stop B ok i t.end same moved (go at_same) (go at_moved) ends.0 ends.1 (same_means t.end ends.1) (moved_means t.end ends.1)))
      ∙ passes_on result i (go at_same) (go at_moved) within
      ∙ ap (λ r. passed r (resume i (go at_same) (go at_moved))) (sym part_means)

  pub emit_both_done : (t : Re) → IsSound t → MayAskIn view.has_parts t → EmitsBoth t
  unfolding emitted_both emitted_both_group attempt
  emit_both_done nothing sound may Open states go same moved before a_in b_in = record {
    next_go = go;
    unchanged = λ q h. refl;
    longer = omega arith;
    agree = before;
    same_in = a_in;
    moved_in = b_in;
    same_means = λ i h. sym (pick_same i (go same) (go moved) i (omega arith));
    moved_means = λ i h. refl;
  }
  emit_both_done (read leaf) sound may Open states go same moved before a_in b_in =
      let p = push_done view stop Open states go (S.Read leaf moved) (attempt view stop (read leaf) (go moved)) before (inr (b_in, tt, λ i b. refl)) in
      let len = length-push states (S.Read leaf moved) in
      record {
        next_go = p.next_go;
        unchanged = p.unchanged;
        longer = omega arith;
        agree = p.agree;
        same_in = omega arith;
        moved_in = omega arith;
        same_means = λ i h. ap (λ f. f i) p.here ∙ guard_cong _ _ _ (λ e. sym (pick_moved i (go same) (go moved) (view.next i) (reads_below view stop leaf i e).0));
        moved_means = λ i h. ap (λ f. f i) p.here;
      }
  emit_both_done (test check) sound may Open states go same moved before a_in b_in =
      let one : State = S.Look check same in
      let two : State = S.Look check moved in
      let p = push_done view stop Open states go one (attempt view stop (test check) (go same)) before (inr (a_in, tt, λ i b. refl)) in
      let len = length-push states one in
      let q = push_done view stop Open (push states one) p.next_go two (attempt view stop (test check) (go moved)) p.agree
      (inr (omega arith, tt, λ i b. ap (λ f. guard (view.holds check i) (f i)) (sym (p.unchanged moved b_in)))) in
      let len2 = length-push (push states one) two in
      record {
        next_go = q.next_go;
        unchanged = λ r h. q.unchanged r (omega arith) ∙ p.unchanged r h;
        longer = omega arith;
        agree = q.agree;
        same_in = omega arith;
        moved_in = omega arith;
        same_means = λ i h. ap (λ f. f i) (q.unchanged (length states) (omega arith) ∙ p.here)
            ∙ ap (guard (view.holds check i)) (sym (pick_same i (go same) (go moved) i (omega arith)));
        moved_means = λ i h. ap (λ f. f i) q.here;
      }
  emit_both_done (cat a b) sound may Open states go same moved before a_in b_in =
      seq_two_done view stop (emitted_both a) (emitted_both b) (attempt view stop a) (attempt view stop b) (attempt_agree view stop a) (attempt_agree view stop b)
      (emit_both_done a sound.0 may.0) (emit_both_done b sound.1 may.1) Open states go same moved before a_in b_in
  emit_both_done (alt a b) sound may Open states go same moved before a_in b_in =
      let d = emit_both_done b sound.1 may.1 Open states go same moved before a_in b_in in
      let second = emitted_both b states same moved in
      let e = emit_both_done a sound.0 may.0 Open second.0 d.next_go same moved d.agree (omega (arith, d.longer)) (omega (arith, d.longer)) in
      let first = emitted_both a second.0 same moved in
      let one : State = Split first.1 second.1 in
      let two : State = Split first.2 second.2 in
      let p = push_done view stop Open first.0 e.next_go one (fresh (alt a b) (go same) (go moved)) e.agree
      (inr (
        (e.same_in, omega (arith, d.same_in, e.longer)),
        tt,
        λ i h.
            ap₂ (either view.longest)
            (ap₂ (λ k l. fresh a k l i) (sym (d.unchanged same a_in)) (sym (d.unchanged moved b_in)) ∙ sym (e.same_means i h))
            (sym (d.same_means i h) ∙ ap (λ f. f i) (sym (e.unchanged second.1 d.same_in))),
      )) in
      let len = length-push first.0 one in
      let q = push_done view stop Open (push first.0 one) p.next_go two (attempt view stop (alt a b) (go moved)) p.agree
      (inr (
        (omega (arith, e.moved_in), omega (arith, d.moved_in, e.longer)),
        tt,
        λ i h.
            ap₂ (either view.longest)
            (ap (λ k. attempt view stop a k i) (sym (d.unchanged moved b_in)) ∙ sym (e.moved_means i h) ∙ ap (λ f. f i) (sym (p.unchanged first.2 e.moved_in)))
            (sym (d.moved_means i h) ∙ ap (λ f. f i) (sym (p.unchanged second.2 (omega (arith, d.moved_in, e.longer)) ∙ e.unchanged second.2 d.moved_in))),
      )) in
      let len2 = length-push (push first.0 one) two in
      record {
        next_go = q.next_go;
        unchanged = λ r h. q.unchanged r (omega (arith, d.longer, e.longer)) ∙ p.unchanged r (omega (arith, d.longer, e.longer)) ∙ e.unchanged r (omega (arith, d.longer)) ∙ d.unchanged r h;
        longer = omega (arith, d.longer, e.longer);
        agree = q.agree;
        same_in = omega arith;
        moved_in = omega arith;
        same_means = λ i h. ap (λ f. f i) (q.unchanged (length first.0) (omega arith) ∙ p.here);
        moved_means = λ i h. ap (λ f. f i) q.here;
      }
  emit_both_done (group g a) sound may Open states go same moved before a_in b_in =
      let s1 : State = Leave g same in
      let s2 : State = Leave g moved in
      let c1 = push_done view stop Open states go s1 (λ j. save (2 * g + 1) j (go same j)) before (inr (a_in, tt, λ i b. refl)) in
      let l1 = length-push states s1 in
      let one = push states s1 in
      let c2 = push_done view stop Open one c1.next_go s2 (λ j. save (2 * g + 1) j (go moved j)) c1.agree
      (inr (omega arith, tt, λ i b. ap (λ f. save (2 * g + 1) i (f i)) (sym (c1.unchanged moved b_in)))) in
      let l2 = length-push one s2 in
      let two = push one s2 in
      let d = emit_both_done a sound may Open two c2.next_go (length states) (length one) c2.agree (omega arith) (omega arith) in
      let body = emitted_both a two (length states) (length one) in
      let at_same : c2.next_go (length states) ≡ (λ j. save (2 * g + 1) j (go same j)) = c2.unchanged (length states) (omega arith) ∙ c1.here in
      let s3 : State = Enter g body.1 in
      let s4 : State = Enter g body.2 in
      let p = push_done view stop Open body.0 d.next_go s3 (fresh (group g a) (go same) (go moved)) d.agree
      (inr (
        d.same_in,
        tt,
        λ i h. ap (save (2 * g) i)
            (attempt_agree view stop a _ _ i h (λ j c k. sym (pick_map (λ r v. save (2 * g + 1) r v) i (go same) (go moved) _ _ j
            (ap (λ f. f j) at_same) (ap (λ f. f j) c2.here)))
            ∙ sym (d.same_means i h)),
      )) in
      let l3 = length-push body.0 s3 in
      let three = push body.0 s3 in
      let q = push_done view stop Open three p.next_go s4 (attempt view stop (group g a) (go moved)) p.agree
      (inr (
        omega (arith, d.moved_in),
        tt,
        λ i h. ap (save (2 * g) i)
            (ap (λ k. attempt view stop a k i) (sym c2.here) ∙ sym (d.moved_means i h) ∙ ap (λ f. f i) (sym (p.unchanged body.2 d.moved_in))),
      )) in
      let l4 = length-push three s4 in
      record {
        next_go = q.next_go;
        unchanged = λ r h. q.unchanged r (omega (arith, d.longer)) ∙ p.unchanged r (omega (arith, d.longer)) ∙ d.unchanged r (omega arith) ∙ c2.unchanged r (omega arith) ∙ c1.unchanged r h;
        longer = omega (arith, d.longer);
        agree = q.agree;
        same_in = omega arith;
        moved_in = omega arith;
        same_means = λ i h. ap (λ f. f i) (q.unchanged (length body.0) (omega arith) ∙ p.here);
        moved_means = λ i h. ap (λ f. f i) q.here;
      }
  emit_both_done (repeat lo hi greedy strict a) sound may Open states go same moved before a_in b_in =
      repeat_two_done view stop (emitted_both a) (attempt view stop a) (attempt_agree view stop a) (emit_both_done a sound.1 may)
      (is_unbounded hi) strict (λ e. attempt_moves view stop a (sound.0 e)) lo hi greedy Open states go same moved before a_in b_in
  emit_both_done (ask negated back a) sound may Open states go same moved before a_in b_in =
      let body = emitted_both_part (emitted_both a) states in
      let d = back_done back Open states go body (attempt view stop a accept)
      (both_part_done (emitted_both a) (attempt view stop a) (attempt_agree view stop a) (emit_both_done a sound may.1) Open states go before) may.0 in
      let part = emitted_back back body.0 body.1 in
      two_states_after_done Open states go part (behind view back (attempt view stop a accept)) (Ask part.1 negated same) (Ask part.1 negated moved)
      (fresh (ask negated back a) (go same) (go moved)) (attempt view stop (ask negated back a) (go moved)) d
      (d.entry, omega (arith, d.longer)) (d.entry, omega (arith, d.longer)) may.0 may.0
      (λ i h. ap₂ (asked negated) (sym (d.means i h)) (pick_same i (go same) (go moved) i (omega arith) ∙ ap (λ f. f i) (sym (d.unchanged same a_in))))
      (λ i h. ap₂ (asked negated) (sym (d.means i h)) (ap (λ f. f i) (sym (d.unchanged moved b_in))))
  emit_both_done (atomic a) sound may Open states go same moved before a_in b_in =
      let d = both_part_done (emitted_both a) (attempt view stop a) (attempt_agree view stop a) (emit_both_done a sound may.1) Open states go before in
      let part = emitted_both_part (emitted_both a) states in
      two_states_after_done Open states go part (attempt view stop a accept) (Atomic part.1 same moved) (Atomic part.1 moved moved)
      (fresh (atomic a) (go same) (go moved)) (attempt view stop (atomic a) (go moved)) d
      (d.entry, omega (arith, d.longer), omega (arith, d.longer)) (d.entry, omega (arith, d.longer), omega (arith, d.longer)) may.0 may.0
      (λ i h. passes_on (attempt view stop a accept i) i (go same) (go moved) (attempt_ends view stop a i h)
      ∙ ap₂ passed (sym (d.means i h)) (ap₂ (resume i) (sym (d.unchanged same a_in)) (sym (d.unchanged moved b_in))))
      (λ i h. passes_one d.next_go (go moved) (attempt view stop a accept i) part.1 moved i (attempt_ends view stop a i h) (d.means i h) (d.unchanged moved b_in))
  emit_both_done (conditional c a b) sound may Open states go same moved before a_in b_in =
      let d = emit_both_done b sound.1.1 may.1.1.1 Open states go same moved before a_in b_in in
      let right = emitted_both b states same moved in
      let e = emit_both_done a sound.1.0 may.1.1.0 Open right.0 d.next_go same moved d.agree (omega (arith, d.longer)) (omega (arith, d.longer)) in
      let left = emitted_both a right.0 same moved in
      let f = both_part_done (emitted_both c) (attempt view stop c) (attempt_agree view stop c) (emit_both_done c sound.0 may.1.0) Open left.0 e.next_go e.agree in
      let part = emitted_both_part (emitted_both c) left.0 in
      let one : State = Atomic part.1 left.1 left.2 in
      let two : State = Ask part.1 true right.1 in
      let r = choice_done Open part.0 f.next_go one two (fresh (conditional c a b) (go same) (go moved)) f.agree
      (f.entry, omega (arith, e.same_in, f.longer), omega (arith, e.moved_in, f.longer)) (f.entry, omega (arith, d.same_in, e.longer, f.longer)) may.0 may.0
      (λ i h. ap₂ (either view.longest)
      (both_branch_passes f.next_go (attempt view stop a) (attempt_agree view stop a) (go same) (go moved) (attempt view stop c accept i) part.1 left.1 left.2 i (f.means i h)
      (attempt_ends view stop c i h)
      (λ j p. ap (λ k. k j) (f.unchanged left.1 e.same_in) ∙ e.same_means j p
      ∙ ap₂ (λ k l. fresh a k l j) (d.unchanged same a_in) (d.unchanged moved b_in))
      (λ j p. ap (λ k. k j) (f.unchanged left.2 e.moved_in) ∙ e.moved_means j p ∙ ap (λ k. attempt view stop a k j) (d.unchanged moved b_in)))
      (ap₂ (asked true) (sym (f.means i h))
      (sym (ap (λ k. k i) (f.unchanged right.1 (omega (arith, d.same_in, e.longer)) ∙ e.unchanged right.1 d.same_in) ∙ d.same_means i h)))) in
      let first = emitted_choice one two part.0 in
      let three : State = Atomic part.1 left.2 left.2 in
      let four : State = Ask part.1 true right.2 in
      let s = choice_done Open first.0 r.next_go three four (attempt view stop (conditional c a b) (go moved)) r.agree
      (omega (arith, f.entry, r.longer), omega (arith, e.moved_in, f.longer, r.longer), omega (arith, e.moved_in, f.longer, r.longer))
      (omega (arith, f.entry, r.longer), omega (arith, d.moved_in, e.longer, f.longer, r.longer)) may.0 may.0
      (λ i h.
      let asked_means : r.next_go part.1 i ≡ attempt view stop c accept i = ap (λ k. k i) (r.unchanged part.1 f.entry) ∙ f.means i h in
      ap₂ (either view.longest)
      (branch_passes r.next_go (attempt view stop a (go moved)) (attempt view stop c accept i) part.1 left.2 i asked_means
      (attempt_ends view stop c i h)
      (λ j p. ap (λ k. k j) (r.unchanged left.2 (omega (arith, e.moved_in, f.longer)) ∙ f.unchanged left.2 e.moved_in) ∙ e.moved_means j p
      ∙ ap (λ k. attempt view stop a k j) (d.unchanged moved b_in)))
      (ap₂ (asked true) (sym asked_means)
      (sym (ap (λ k. k i) (r.unchanged right.2 (omega (arith, d.moved_in, e.longer, f.longer)) ∙ f.unchanged right.2 (omega (arith, d.moved_in, e.longer))
      ∙ e.unchanged right.2 d.moved_in) ∙ d.moved_means i h)))) in
      record {
        next_go = s.next_go;
        unchanged = λ q h. s.unchanged q (omega (arith, d.longer, e.longer, f.longer, r.longer)) ∙ r.unchanged q (omega (arith, d.longer, e.longer, f.longer))
            ∙ f.unchanged q (omega (arith, d.longer, e.longer)) ∙ e.unchanged q (omega (arith, d.longer)) ∙ d.unchanged q h;
        longer = omega (arith, d.longer, e.longer, f.longer, r.longer, s.longer);
        agree = s.agree;
        same_in = omega (arith, r.entry, s.longer);
        moved_in = s.entry;
        same_means = λ i h. ap (λ k. k i) (s.unchanged first.1 r.entry) ∙ r.means i h;
        moved_means = s.means;
      }

  -- the states of a tree, with nothing open
  pub emit_means : (t : Re) → IsSound t → MayAskIn view.has_parts t → (states : List State) (go : ℕ → Continuation) (next : ℕ)
      → AgreeBut view stop (λ _. ⊥) states go → next < length states
      → Done view stop (λ _. ⊥) states go (emitted t states next) (attempt view stop t (go next))
  emit_means t sound may states go next before inside = emit_done emit_both_done t sound may (λ _. ⊥) states go next before inside

-- a pattern that may ask parts may ask any
pub may_all : (t : Re) → MayAskIn true t
may_all nothing = tt
may_all (read leaf) = tt
may_all (test check) = tt
may_all (cat a b) = (may_all a, may_all b)
may_all (alt a b) = (may_all a, may_all b)
may_all (group g a) = may_all a
may_all (repeat lo hi greedy strict a) = may_all a
may_all (ask negated back a) = (refl, may_all a)
may_all (atomic a) = (refl, may_all a)
may_all (conditional c a b) = (refl, (may_all c, (may_all a, may_all b)))
