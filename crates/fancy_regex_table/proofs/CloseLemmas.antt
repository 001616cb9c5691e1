-- The states that are reached without reading, one after another.
use Rattle.std.proofs.Common.{◌≡◌, ℕ, ◌+◌, ◌*◌, ◌<◌, ◌≤◌, ◌⊎◌, Bool, true, false, List, [], ◌∷◌, ◌++◌, length, reverse, Option, Some, None, refl, sym, ap, subst, ◌∙◌, inl, inr, arith}
use Rattle.std.proofs.lemmas.List.{reverse-append, reverse-reverse}
use Rattle.std.specs.Prelude.{if◌then◌else◌}
use Rattle.fancy_regex_states.specs.Attempts.{View, Continuation, AttemptResult, MayAsk, visit, reads}
use Rattle.fancy_regex_states.specs.First.{state_at}
use Rattle.fancy_regex_states.specs.declared.state.State.{State}
use Rattle.fancy_regex_states.specs.declared.state.State.TheVariants as S
use Rattle.fancy_regex_table.specs.Ends.{end_of, or_else, end_if, end_at, first_end}
use Rattle.fancy_regex_table.specs.Sorts.{holds_between}
use Rattle.fancy_regex_table.specs.Sets.{Has}
use Rattle.fancy_regex_table.specs.Meanings.{IsMeaning, HoldsAs, AllHoldAs, read_end, first_read, epsilon_successors, is_reader, is_final}
use Rattle.fancy_regex_table.specs.declared.close.StateSet.{StateSet}
use Rattle.fancy_regex_table.specs.declared.sort.Sort.{Sort}
use Rattle.fancy_regex_table.proofs.EndLemmas.{or_else_assoc, or_else_none, neither, end_better, end_write, end_guard, first_end_append}

module _ (view : View) (stop : ℕ) (go : ℕ → Continuation) (i : ℕ) (before after : Sort) where
  look_end : (b : Bool) (next : ℕ) → (if b then end_at go i next else None) ≡ or_else (first_end go i (if b then next ∷ [] else [])) None
  look_end true next = sym (or_else_none (or_else (end_at go i next) None) ∙ or_else_none (end_at go i next))
  look_end false next = refl

  -- the end of a state is that of its reading, or of what it leads to, or here
  pub end_led : (state : State) (r : AttemptResult) → view.longest ≡ false → MayAsk false state → r ≡ visit view stop go state i → HoldsAs view i before after state
      → end_of r.answer ≡ or_else (read_end view stop go i state) (or_else (first_end go i (epsilon_successors before after state)) (end_if (is_final state) i))
  end_led (S.Read leaf next) r first asks e h =
      ap (λ v. end_of v.answer) e ∙ end_guard (reads view stop leaf i) (go next (view.next i)) ∙ sym (or_else_none (read_end view stop go i (S.Read leaf next)))
  end_led (S.Look test next) r first asks e h =
      ap (λ v. end_of v.answer) e ∙ end_guard (view.holds test i) (go next i)
      ∙ ap (λ (b : Bool). if b then end_at go i next else None) h ∙ look_end (holds_between test before after) next
  end_led (S.Split one two) r first asks e h =
      ap (λ v. end_of v.answer) e
      ∙ subst (λ (b : Bool). end_of (visit (record view { longest = b }) stop go (S.Split one two) i).answer ≡ or_else (end_at go i one) (end_at go i two)) (sym first)
      (end_better (go one i).answer (go two i).answer)
      ∙ sym (or_else_none (or_else (end_at go i one) (or_else (end_at go i two) None)) ∙ ap (or_else (end_at go i one)) (or_else_none (end_at go i two)))
  end_led (S.Enter g next) r first asks e h =
      ap (λ v. end_of v.answer) e ∙ end_write (2 * g) i (go next i).answer
      ∙ sym (or_else_none (or_else (end_at go i next) None) ∙ or_else_none (end_at go i next))
  end_led (S.Leave g next) r first asks e h =
      ap (λ v. end_of v.answer) e ∙ end_write (2 * g + 1) i (go next i).answer
      ∙ sym (or_else_none (or_else (end_at go i next) None) ∙ or_else_none (end_at go i next))
  end_led (S.Back next) r first asks e h = cc
  end_led (S.Ask part negated next) r first asks e h = cc
  end_led (S.Atomic part same moved) r first asks e h = cc
  end_led S.Match r first asks e h = ap (λ v. end_of v.answer) e

  pub final_end : (state : State) (r : AttemptResult) → view.longest ≡ false → r ≡ visit view stop go state i → HoldsAs view i before after state
      → is_final state ≡ true → end_of r.answer ≡ Some i
  final_end (S.Read leaf next) r first e h final = cc
  final_end (S.Look test next) r first e h final = cc
  final_end (S.Split one two) r first e h final = cc
  final_end (S.Enter g next) r first e h final = cc
  final_end (S.Leave g next) r first e h final = cc
  final_end (S.Back next) r first e h final = cc
  final_end (S.Ask part negated next) r first e h final = cc
  final_end (S.Atomic part same moved) r first e h final = cc
  final_end S.Match r first e h final = ap (λ v. end_of v.answer) e

  -- these are less deep than d
  abbrev pub AllBelow : ℕ → List ℕ → Type 0
  AllBelow d [] = Unit {0}
  AllBelow d (q ∷ qs) = ((go q i).depth < d) × AllBelow d qs

  look_below : (b : Bool) (r : AttemptResult) (d next : ℕ) → r ≡ (if b then record { answer = (go next i).answer; depth = (go next i).depth + 1 } else record { answer = None; depth = 0 })
      → r.depth ≤ d → AllBelow d (if b then next ∷ [] else [])
  look_below true r d next e le = (let same = ap (λ v. v.depth) e in omega arith, tt)
  look_below false r d next e le = tt

  -- what a state leads to is less deep
  pub successors_below : (state : State) (r : AttemptResult) (d : ℕ) → r ≡ visit view stop go state i → HoldsAs view i before after state → r.depth ≤ d
      → AllBelow d (epsilon_successors before after state)
  successors_below (S.Read leaf next) r d e h le = tt
  successors_below (S.Look test next) r d e h le =
      look_below (holds_between test before after) r d next
      (e ∙ ap (λ (b : Bool). if b then record { answer = (go next i).answer; depth = (go next i).depth + 1 } else record { answer = None; depth = 0 }) h) le
  successors_below (S.Split one two) r d e h le =
      let same : r.depth ≡ (go one i).depth + (go two i).depth + 1 = ap (λ v. v.depth) e in
      (omega arith, (omega arith, tt))
  successors_below (S.Enter g next) r d e h le = let same : r.depth ≡ (go next i).depth + 1 = ap (λ v. v.depth) e in (omega arith, tt)
  successors_below (S.Leave g next) r d e h le = let same : r.depth ≡ (go next i).depth + 1 = ap (λ v. v.depth) e in (omega arith, tt)
  successors_below (S.Back next) r d e h le = tt
  successors_below (S.Ask part negated next) r d e h le = tt
  successors_below (S.Atomic part same moved) r d e h le = tt
  successors_below S.Match r d e h le = tt

  -- one of these has a way, and it and those before it are less deep than d
  abbrev pub LivesBelow : ℕ → List ℕ → Type 0
  LivesBelow d [] = ⊥
  LivesBelow d (q ∷ qs) = ((go q i).depth < d) × ((end_at go i q ≡ None → ⊥) ⊎ LivesBelow d qs)

  lives_front_at : (d x : ℕ) (rest all : List ℕ) (a : Option ℕ) → end_at go i x ≡ a → (end_at go i x ≡ None → LivesBelow d all)
      → (end_at go i x ≡ None → ⊥) ⊎ LivesBelow d all
  lives_front_at d x rest all None e more = inr (more e)
  lives_front_at d x rest all (Some w) e more = inl (λ none. let no : None ≡ Some w = sym none ∙ e in cc)

  lives_front : (d : ℕ) (xs rest : List ℕ) → AllBelow d xs → (first_end go i xs ≡ None → ⊥) → LivesBelow d (xs ++ rest)
  lives_front d [] rest below lives = absurd (lives refl)
  lives_front d (x ∷ xs) rest below lives = (
    below.0,
    lives_front_at d x rest (xs ++ rest) (end_at go i x) refl
        (λ e. lives_front d xs rest below.1 (λ none. lives (ap (λ a. or_else a (first_end go i xs)) e ∙ none))),
  )

  lives_over : (d : ℕ) (xs rest : List ℕ) → AllBelow d xs → LivesBelow d rest → LivesBelow d (xs ++ rest)
  lives_over d [] rest below lives = lives
  lives_over d (x ∷ xs) rest below lives = (below.0, inr (lives_over d xs rest below.1 lives))

  -- What is known in the middle: `done` are the states that read so far, `stack` those that are left, with the next one first.
  pub record SoFar (states : List State) (from : List ℕ) (seen : StateSet) (stack done : List ℕ) : Type 0 where
    pub value : first_end go i from ≡ or_else (first_read view stop go i states done) (first_end go i stack)
    pub covers : (p : ℕ) → Has seen p → (end_at go i p ≡ None → ⊥)
        → (first_read view stop go i states done ≡ None → ⊥) ⊎ LivesBelow (go p i).depth stack

  adds_nothing : (a b c : Option ℕ) → ((b ≡ None → ⊥) → a ≡ None → ⊥) → or_else a (or_else b c) ≡ or_else a c
  adds_nothing (Some x) b c h = refl
  adds_nothing None None c h = refl
  adds_nothing None (Some y) c h = absurd (h (λ e. cc) refl)

  module _ (states : List State) (from : List ℕ) (seen : StateSet) (q : ℕ) (stack done : List ℕ) (so_far : SoFar states from seen (q ∷ stack) done) where
    alive_seen : Has seen q → (end_at go i q ≡ None → ⊥) → first_read view stop go i states done ≡ None → ⊥
    alive_seen has lives =
        elim (so_far.covers q has lives) [
          | inl alive ↦ alive
          | inr below ↦ let no : (go q i).depth < (go q i).depth = below.0 in absurd (omega arith)
        ]

    -- a state that was seen before is left out
    pub so_far_seen : (now : StateSet) → Has seen q → ((p : ℕ) → Has now p → Has seen p ⊎ (p ≡ q)) → SoFar states from now stack done
    so_far_seen now has added = record {
      value = so_far.value ∙ adds_nothing (first_read view stop go i states done) (end_at go i q) (first_end go i stack) (alive_seen has);
      covers = λ p there lives.
          let was : Has seen p = elim (added p there) [ inl old ↦ old | inr same ↦ subst (Has seen) (sym same) has ] in
          elim (so_far.covers p was lives) [
            | inl alive ↦ inl alive
            | inr below ↦
                elim below.1 [
                  | inl here ↦ inl (alive_seen has here)
                  | inr under ↦ inr under
                ]
          ];
    }

    grown : Bool → List ℕ
    grown reader = if reader then done ++ q ∷ [] else done

    first_read_append : (xs : List ℕ) → first_read view stop go i states (xs ++ q ∷ [])
        ≡ or_else (first_read view stop go i states xs) (read_end view stop go i (state_at states q))
    first_read_append [] = or_else_none (read_end view stop go i (state_at states q))
    first_read_append (x ∷ xs) =
        ap (or_else (read_end view stop go i (state_at states x))) (first_read_append xs)
        ∙ sym (or_else_assoc (read_end view stop go i (state_at states x)) (first_read view stop go i states xs) (read_end view stop go i (state_at states q)))

    not_read : (state : State) → is_reader state ≡ false → read_end view stop go i state ≡ None
    not_read (S.Read leaf next) e = cc
    not_read (S.Look test next) e = refl
    not_read (S.Split one two) e = refl
    not_read (S.Enter g next) e = refl
    not_read (S.Leave g next) e = refl
    not_read (S.Back next) e = refl
    not_read (S.Ask part negated next) e = refl
    not_read (S.Atomic part same moved) e = refl
    not_read S.Match e = refl

    grown_read : (b : Bool) → is_reader (state_at states q) ≡ b → first_read view stop go i states (if b then done ++ q ∷ [] else done)
        ≡ or_else (first_read view stop go i states done) (read_end view stop go i (state_at states q))
    grown_read true e = first_read_append done
    grown_read false e =
        sym (or_else_none (first_read view stop go i states done))
        ∙ sym (ap (or_else (first_read view stop go i states done)) (not_read (state_at states q) e))

    rearranged : (a r f s : Option ℕ) → or_else a (or_else (or_else r (or_else f None)) s) ≡ or_else (or_else a r) (or_else f s)
    rearranged (Some x) r f s = refl
    rearranged None (Some y) f s = refl
    rearranged None None (Some z) s = refl
    rearranged None None None s = refl

    lives_split : (d : ℕ) (fresh after_reads : List ℕ) → fresh ≡ epsilon_successors before after (state_at states q) ++ stack
        → AllBelow d (epsilon_successors before after (state_at states q))
        → (re : Option ℕ) → first_read view stop go i states after_reads ≡ or_else (first_read view stop go i states done) re
        → (fl : Option ℕ) → first_end go i (epsilon_successors before after (state_at states q)) ≡ fl
        → (re ≡ None → fl ≡ None → ⊥)
        → (first_read view stop go i states after_reads ≡ None → ⊥) ⊎ LivesBelow d fresh
    lives_split d fresh after_reads is_fresh below (Some x) read_is fl fl_is lives =
        inl (λ none. let no : Some x ≡ None = (neither (first_read view stop go i states done) (Some x) (sym read_is ∙ none)).1 in cc)
    lives_split d fresh after_reads is_fresh below None read_is fl fl_is lives =
        inr (subst (LivesBelow d) (sym is_fresh)
        (lives_front d (epsilon_successors before after (state_at states q)) stack below (λ none. lives refl (sym fl_is ∙ none))))

    -- a state that was not seen gives way to what it leads to
    pub so_far_next : (now : StateSet) (fresh after_reads : List ℕ) → view.longest ≡ false → MayAsk false (state_at states q) → go q i ≡ visit view stop go (state_at states q) i
        → HoldsAs view i before after (state_at states q) → is_final (state_at states q) ≡ false
        → ((p : ℕ) → Has now p → Has seen p ⊎ (p ≡ q))
        → fresh ≡ epsilon_successors before after (state_at states q) ++ stack
        → after_reads ≡ (if is_reader (state_at states q) then done ++ q ∷ [] else done)
        → SoFar states from now fresh after_reads
    so_far_next now fresh after_reads first asks does holds final added is_fresh is_after =
        let state = state_at states q in
        let successors = epsilon_successors before after state in
        let fr = first_read view stop go i states done in
        let re = read_end view stop go i state in
        let fl = first_end go i successors in
        let end_is : end_at go i q ≡ or_else re (or_else fl None) =
        end_led state (go q i) first asks does holds ∙ ap (λ (b : Bool). or_else re (or_else fl (end_if b i))) final in
        let read_is : first_read view stop go i states after_reads ≡ or_else fr re =
        ap (first_read view stop go i states) is_after ∙ grown_read (is_reader state) refl in
        let rest_is : first_end go i fresh ≡ or_else fl (first_end go i stack) =
        ap (first_end go i) is_fresh ∙ first_end_append go i successors stack in
        let alive_more : (fr ≡ None → ⊥) → first_read view stop go i states after_reads ≡ None → ⊥ =
        λ alive none. alive (neither fr re (sym read_is ∙ none)).0 in
        let from_q : (d : ℕ) → (go q i).depth ≤ d → (end_at go i q ≡ None → ⊥)
        → (first_read view stop go i states after_reads ≡ None → ⊥) ⊎ LivesBelow d fresh =
        λ d le lives. lives_split d fresh after_reads is_fresh (successors_below state (go q i) d does holds le) re read_is fl refl (λ none_r none_l. lives (end_is ∙ ap (λ a. or_else a (or_else fl None)) none_r ∙ or_else_none fl ∙ none_l)) in
        record {
          value = so_far.value ∙ ap (λ a. or_else fr (or_else a (first_end go i stack))) end_is ∙ rearranged fr re fl (first_end go i stack)
              ∙ sym (ap (λ a. or_else a (or_else fl (first_end go i stack))) read_is) ∙ sym (ap (or_else (first_read view stop go i states after_reads)) rest_is);
          covers = λ p there lives.
              elim (added p there) [
                | inl old ↦
                    elim (so_far.covers p old lives) [
                      | inl alive ↦ inl (alive_more alive)
                      | inr below ↦
                          elim below.1 [
                            | inl here ↦ let lt : (go q i).depth < (go p i).depth = below.0 in from_q (go p i).depth (omega arith) here
                            | inr under ↦
                                let lt : (go q i).depth < (go p i).depth = below.0 in
                                inr (subst (LivesBelow (go p i).depth) (sym is_fresh)
                                (lives_over (go p i).depth successors stack (successors_below state (go q i) (go p i).depth does holds (omega arith)) under))
                          ]
                    ]
                | inr same ↦
                    let lives_q : end_at go i q ≡ None → ⊥ = subst (λ (n : ℕ). end_at go i n ≡ None → ⊥) same lives in
                    let le : (go q i).depth ≤ (go p i).depth = subst (λ (n : ℕ). (go q i).depth ≤ (go n i).depth) (sym same) (omega arith) in
                    from_q (go p i).depth le lives_q
              ];
        }

-- the same for each text and place
abbrev pub IsSoFar : List State → Sort → Sort → List ℕ → StateSet → List ℕ → List ℕ → Type 0
IsSoFar states before after from seen stack done =
    (view : View) (stop : ℕ) (go : ℕ → Continuation) (i : ℕ) → IsMeaning states view stop go → i ≤ stop → AllHoldAs states view i before after
    → SoFar view stop go i before after states from seen (reverse stack) done

pub so_far_begun : (states : List State) (before after : Sort) (from : List ℕ) (seen : StateSet) (stack done : List ℕ) → ((q : ℕ) → Has seen q → ⊥)
    → stack ≡ reverse from → done ≡ [] → IsSoFar states before after from seen stack done
so_far_begun states before after from seen stack done none is_stack is_done view stop go i m le holds = record {
  value = sym (ap (λ (xs : List ℕ). or_else (first_read view stop go i states xs) (first_end go i (reverse stack))) is_done
      ∙ ap (λ (xs : List ℕ). first_end go i (reverse xs)) is_stack ∙ ap (first_end go i) (reverse-reverse from));
  covers = λ p there lives. absurd (none p there);
}

popped : (before after : List ℕ) (q : ℕ) → before ≡ after ++ q ∷ [] → reverse before ≡ q ∷ reverse after
popped before after q e = ap reverse e ∙ reverse-append after (q ∷ [])

pub so_far_repeated : (states : List State) (before after : Sort) (from : List ℕ) (seen now : StateSet) (stack rest done : List ℕ) (q : ℕ)
    → IsSoFar states before after from seen stack done → stack ≡ rest ++ q ∷ [] → Has seen q → ((p : ℕ) → Has now p → Has seen p ⊎ (p ≡ q))
    → IsSoFar states before after from now rest done
so_far_repeated states before after from seen now stack rest done q so_far is has added view stop go i m le holds =
    so_far_seen view stop go i before after states from seen q (reverse rest) done
    (subst (λ (xs : List ℕ). SoFar view stop go i before after states from seen xs done) (popped stack rest q is) (so_far view stop go i m le holds))
    now has added

pub so_far_followed : (states : List State) (before after : Sort) (from : List ℕ) (seen now : StateSet) (stack rest fresh done reads : List ℕ) (q : ℕ)
    → IsSoFar states before after from seen stack done → stack ≡ rest ++ q ∷ [] → q < length states
    → ((p : ℕ) → Has now p → Has seen p ⊎ (p ≡ q)) → is_final (state_at states q) ≡ false
    → reverse fresh ≡ epsilon_successors before after (state_at states q) ++ reverse rest
    → reads ≡ (if is_reader (state_at states q) then done ++ q ∷ [] else done)
    → IsSoFar states before after from now fresh reads
so_far_followed states before after from seen now stack rest fresh done reads q so_far is lt added final is_fresh is_reads view stop go i m le holds =
    so_far_next view stop go i before after states from seen q (reverse rest) done
    (subst (λ (xs : List ℕ). SoFar view stop go i before after states from seen xs done) (popped stack rest q is) (so_far view stop go i m le holds))
    now (reverse fresh) reads m.first (subst (λ (b : Bool). MayAsk b (state_at states q)) m.no_parts (m.agree q lt).asks) ((m.agree q lt).does i le) (holds q lt) final added is_fresh is_reads

not_reader : (state : State) → is_final state ≡ true → is_reader state ≡ false
not_reader (S.Read leaf next) e = cc
not_reader (S.Look test next) e = refl
not_reader (S.Split one two) e = refl
not_reader (S.Enter g next) e = refl
not_reader (S.Leave g next) e = refl
not_reader (S.Back next) e = refl
not_reader (S.Ask part negated next) e = refl
not_reader (S.Atomic part same moved) e = refl
not_reader S.Match e = refl

pub so_far_ended : (states : List State) (before after : Sort) (from : List ℕ) (seen : StateSet) (stack rest done reads : List ℕ) (q : ℕ)
    → IsSoFar states before after from seen stack done → stack ≡ rest ++ q ∷ [] → q < length states → is_final (state_at states q) ≡ true
    → reads ≡ (if is_reader (state_at states q) then done ++ q ∷ [] else done)
    → (view : View) (stop : ℕ) (go : ℕ → Continuation) (i : ℕ) → IsMeaning states view stop go → i ≤ stop → AllHoldAs states view i before after
    → first_end go i from ≡ or_else (first_read view stop go i states reads) (Some i)
so_far_ended states before after from seen stack rest done reads q so_far is lt final is_reads view stop go i m le holds =
    let same : reads ≡ done = is_reads ∙ ap (λ (b : Bool). if b then done ++ q ∷ [] else done) (not_reader (state_at states q) final) in
    let here = subst (λ (xs : List ℕ). SoFar view stop go i before after states from seen xs done) (popped stack rest q is) (so_far view stop go i m le holds) in
    here.value
    ∙ ap (λ a. or_else (first_read view stop go i states done) (or_else a (first_end go i (reverse rest))))
    (final_end view stop go i before after (state_at states q) (go q i) m.first ((m.agree q lt).does i le) (holds q lt) final)
    ∙ ap (λ (xs : List ℕ). or_else (first_read view stop go i states xs) (Some i)) (sym same)

pub so_far_done : (states : List State) (before after : Sort) (from : List ℕ) (seen : StateSet) (stack done : List ℕ)
    → IsSoFar states before after from seen stack done → stack ≡ []
    → (view : View) (stop : ℕ) (go : ℕ → Continuation) (i : ℕ) → IsMeaning states view stop go → i ≤ stop → AllHoldAs states view i before after
    → first_end go i from ≡ or_else (first_read view stop go i states done) None
so_far_done states before after from seen stack done so_far is view stop go i m le holds =
    (so_far view stop go i m le holds).value ∙ ap (λ (xs : List ℕ). or_else (first_read view stop go i states done) (first_end go i (reverse xs))) is
