-- Where each run through a pattern's program reads a character, each way of the pattern takes one.
use Rattle.std.proofs.Common.{◌≡◌, ℕ, zero, suc, ◌+◌, ◌-◌, ◌*◌, ◌<◌, ◌≤◌, Bool, true, false, ◌&&◌, ◌||◌, List, [], ◌∷◌, ◌++◌, length, Option, Some, None, ◌⊎◌, inl, inr, ⊎_elim, refl, sym, ap, ◌∙◌, subst, arith, length-append, cond}
use Rattle.std.specs.Prelude.{slice_get, nat_lt, nat_le, not, ◌==◌}
use Rattle.std.specs.List.{list_all}
use Rattle.std.proofs.lemmas.Bool.{and_parts}
use Rattle.std.proofs.lemmas.Bool.Decides.{nat_tests}
use Rattle.std.proofs.lemmas.Option.{none-some, same_Some, slice_get_past}
use Rattle.fancy_regex_tree.specs.Tree.{Text}
use Rattle.fancy_regex_desugar.specs.CorePatterns.{CorePattern, nothing, read, general_newline, check, continue, keep_out, fail, cat, alt, group, ahead, never, back, atomic, delegate, tail, repeat, backref, exists, conditional, absent, called}
use Rattle.fancy_regex_program.specs.Ops as op
use Rattle.fancy_regex_program.specs.Ops.{Op, Place}
use Rattle.fancy_regex_program.specs.Code.{Layout, Code, waits_at_call, waits_with, flushed, slots_with, closed, is_uncounted, call_code, code_with}
use Rattle.fancy_regex_program.specs.Reading.{stays, passing_of, reads_past, reads_from, reading_depth, always_reads}
use Rattle.fancy_regex_program_laws.proofs.Runs.{lt_is}
use Rattle.fancy_regex_program_laws.proofs.ProgramParts.{HasAt, has_front, has_back, has_all}
use Rattle.fancy_regex_program_laws.proofs.TakesSome.{TakesSome}

-- without a counter at most one round is due
pub few : (lo first : ℕ) (inside : List Op) → is_uncounted lo first inside ≡ true → lo ≤ 1
few lo first inside e = let due = (and_parts (nat_le lo 1) (always_reads first inside) e).0 in (grind (arith, nat_tests))

stays_each : (ops : List Op) (at slot : ℕ) → list_all stays ops ≡ true → slice_get ops at ≡ Some (op.restore slot) → ⊥
stays_each [] at slot all here = absurd (none-some (op.restore slot) here)
stays_each (o ∷ os) zero slot all here =
    let both : false ≡ true = ap stays (sym (same_Some o (op.restore slot) here)) ∙ (and_parts (stays o) (list_all stays os) all).0 in
    absurd cc
stays_each (o ∷ os) (suc at) slot all here = stays_each os at slot (and_parts (stays o) (list_all stays os) all).1 here

module _ (first : ℕ) (ops : List Op) where
  -- each run from there reads a character
  abbrev Reads : ℕ → Type 0
  Reads at = (n : ℕ) × (reads_from first ops n at ≡ true)

  at_op : (at : ℕ) (o : Op) → slice_get ops at ≡ Some o → (n : ℕ) → reads_from first ops n at ≡ true → (m : ℕ) × (reads_past first (reads_from first ops m) at (passing_of o) ≡ true)
  unfolding reads_from
  at_op at o here zero e = absurd cc
  at_op at o here (suc n) e =
      (n, ap (λ (x : Option Op). elim x as (λ _. Bool) [ None ↦ false | Some p ↦ reads_past first (reads_from first ops n) at (passing_of p) ]) (sym here) ∙ e)

  none_following : (at : ℕ) → length ops ≤ at → (n : ℕ) → reads_from first ops n at ≡ true → ⊥
  unfolding reads_from
  none_following at past zero e = absurd cc
  none_following at past (suc n) e =
      let both : false ≡ true = sym (ap (λ (x : Option Op). elim x as (λ _. Bool) [ None ↦ false | Some p ↦ reads_past first (reads_from first ops n) at (passing_of p) ]) (slice_get_past ops at past)) ∙ e in
      absurd cc

  passes_on : (at : ℕ) (o : Op) → slice_get ops at ≡ Some o → ((from : ℕ → Bool) → reads_past first from at (passing_of o) ≡ from (at + 1)) → Reads at → Reads (at + 1)
  passes_on at o here on h =
      let s = at_op at o here h.0 h.1 in
      (s.0, sym (on (reads_from first ops s.0)) ∙ s.1)

  reads_not : (at : ℕ) (o : Op) → slice_get ops at ≡ Some o → ((from : ℕ → Bool) → reads_past first from at (passing_of o) ≡ false) → Reads at → ⊥
  reads_not at o here not_there h =
      let s = at_op at o here h.0 h.1 in
      let both : false ≡ true = sym (not_there (reads_from first ops s.0)) ∙ s.1 in
      absurd cc

  on_both : (at one other : ℕ) → slice_get ops at ≡ Some (op.split one other) → Reads at → Reads (one - first) × Reads (other - first)
  on_both at one other here h =
      let s = at_op at (op.split one other) here h.0 h.1 in
      let both = and_parts (reads_from first ops s.0 (one - first)) (reads_from first ops s.0 (other - first)) s.1 in
      ((s.0, both.0), (s.0, both.1))

  on_jump : (at to : ℕ) → slice_get ops at ≡ Some (op.jump to) → Reads at → (at < to - first) × Reads (to - first)
  on_jump at to here h =
      let s = at_op at (op.jump to) here h.0 h.1 in
      let both = and_parts (nat_lt at (to - first)) (reads_from first ops s.0 (to - first)) s.1 in
      (lt_is at (to - first) both.0, (s.0, both.1))

  -- the head of a loop, which may be left at once where no round is due
  on_head : (at next lo : ℕ) (o : Op) → slice_get ops at ≡ Some o → ((from : ℕ → Bool) → reads_past first from at (passing_of o) ≡ (from (at + 1) && (not (lo == 0) || from (next - first)))) →
      Reads at → Reads (at + 1) × (lo ≡ 0 → Reads (next - first))
  on_head at next lo o here is h =
      let s = at_op at o here h.0 h.1 in
      let from = reads_from first ops s.0 in
      let both = and_parts (from (at + 1)) (not (lo == 0) || from (next - first)) (sym (is from) ∙ s.1) in
      ((s.0, both.0), λ none. (s.0, ap (λ n. not (n == 0) || from (next - first)) (sym none) ∙ both.1))

  reads_as : (at to : ℕ) → at ≡ to → Reads at → Reads to
  reads_as at to e h = subst Reads e h

  module _ (stay : (at slot : ℕ) → slice_get ops at ≡ Some (op.restore slot) → ⊥) (has_member : Text → Bool → ℕ → Bool) (fold : ℕ → ℕ) (whole : Bool) (layout : Layout) where
    abbrev made : CorePattern → Text → ℕ → ℕ → List Op
    made = code_with has_member fold whole layout

    abbrev within : CorePattern → Code
    within p = closed (made p []) (waits_with layout p [])

    -- it takes a character, or each run after it reads one
    abbrev Passes : CorePattern → ℕ → ℕ → ℕ → Type 0
    Passes p at pc slot = TakesSome p ⊎ ((waits_with layout p [] ≡ []) × Reads (at + length (made p [] pc slot)))

    abbrev PassesClosed : CorePattern → ℕ → ℕ → ℕ → Type 0
    PassesClosed p at pc slot = TakesSome p ⊎ Reads (at + length (within p pc slot))

    shut : (p : CorePattern) (at pc slot : ℕ) → (HasAt ops at (made p [] pc slot) → Passes p at pc slot) → HasAt ops at (within p pc slot) → PassesClosed p at pc slot
    shut p at pc slot passes here =
        ⊎_elim (λ (t : TakesSome p). inl t)
        (λ (h : (waits_with layout p [] ≡ []) × Reads (at + length (made p [] pc slot))).
        inr (reads_as (at + length (made p [] pc slot)) (at + length (within p pc slot))
        (omega (arith, length-append (made p [] pc slot) (flushed (waits_with layout p [])), ap (λ t. length (flushed t)) h.0)) h.1))
        (passes (has_front ops at (made p [] pc slot) (flushed (waits_with layout p [])) here))

    kept : (b : Bool) (at : ℕ) → HasAt ops at (cond b (op.save 0 ∷ []) []) → Reads at → Reads (at + length (cond b (op.save 0 ∷ []) []))
    kept true at here h = passes_on at (op.save 0) here.0 (λ from. refl) h
    kept false at here h = reads_as at (at + 0) (omega arith) h

    -- a loop, which may have no counter where at most one round is due
    loop : (free : Bool) (lo at pc slot : ℕ) (greedy : Bool) (a : CorePattern) → (free ≡ true → lo ≤ 1) → pc ≡ first + at →
        HasAt ops at (cond free (op.jump (pc + 1 + lo)) (op.begin_repeat slot)
        ∷ cond free (cond greedy (op.split (pc + 2) (pc + 3 + length (within a (pc + 2) (slot + 2)))) (op.split (pc + 3 + length (within a (pc + 2) (slot + 2))) (pc + 2)))
        (op.repeat_epsilon greedy lo (pc + 3 + length (within a (pc + 2) (slot + 2))) slot (slot + 1))
        ∷ (within a (pc + 2) (slot + 2) ++ op.jump (pc + 1) ∷ [])) →
        (HasAt ops (at + 2) (within a (pc + 2) (slot + 2)) → Reads (at + 2) → PassesClosed a (at + 2) (pc + 2) (slot + 2)) → Reads at →
        TakesSome (repeat a lo None greedy) ⊎ Reads (at + 3 + length (within a (pc + 2) (slot + 2)))
    loop free lo at pc slot greedy a few is here inside h = enters free few here
      where
        xs : List Op
        xs = within a (pc + 2) (slot + 2)

        next : ℕ
        next = pc + 3 + length xs

        -- a round that is due
        round : HasAt ops (at + 2) (xs ++ op.jump (pc + 1) ∷ []) → Reads (at + 2) → TakesSome a
        round here2 r =
            ⊎_elim (λ (t : TakesSome a). t)
            (λ (following : Reads (at + 2 + length xs)).
            let last = has_back ops (at + 2) (at + 2 + length xs) xs (op.jump (pc + 1) ∷ []) refl here2 in
            let jumped = on_jump (at + 2 + length xs) (pc + 1) last.0 following in
            absurd (omega (arith, jumped.0)))
            (inside (has_front ops (at + 2) xs (op.jump (pc + 1) ∷ []) here2) r)

        two : HasAt ops (at + 1 + 1) (xs ++ op.jump (pc + 1) ∷ []) → HasAt ops (at + 2) (xs ++ op.jump (pc + 1) ∷ [])
        two here2 = let same : at + 1 + 1 ≡ at + 2 = omega arith in subst (λ q. HasAt ops q (xs ++ op.jump (pc + 1) ∷ [])) same here2

        counted : (n : ℕ) → lo ≡ n → slice_get ops at ≡ Some (op.begin_repeat slot) → slice_get ops (at + 1) ≡ Some (op.repeat_epsilon greedy lo next slot (slot + 1)) →
            HasAt ops (at + 2) (xs ++ op.jump (pc + 1) ∷ []) → TakesSome (repeat a n None greedy) ⊎ Reads (at + 3 + length xs)
        counted zero none begins heads here2 =
            let on = on_head (at + 1) next lo (op.repeat_epsilon greedy lo next slot (slot + 1)) heads (λ from. refl) (passes_on at (op.begin_repeat slot) begins (λ from. refl) h) in
            inr (reads_as (next - first) (at + 3 + length xs) (omega arith) (on.1 none))
        counted (suc n) some begins heads here2 =
            let on = on_head (at + 1) next lo (op.repeat_epsilon greedy lo next slot (slot + 1)) heads (λ from. refl) (passes_on at (op.begin_repeat slot) begins (λ from. refl) h) in
            inl (round here2 (reads_as (at + 1 + 1) (at + 2) (omega arith) on.0))

        uncounted : (n : ℕ) → lo ≡ n → n ≤ 1 → slice_get ops at ≡ Some (op.jump (pc + 1 + lo)) →
            slice_get ops (at + 1) ≡ Some (cond greedy (op.split (pc + 2) next) (op.split next (pc + 2))) →
            HasAt ops (at + 2) (xs ++ op.jump (pc + 1) ∷ []) → TakesSome (repeat a n None greedy) ⊎ Reads (at + 3 + length xs)
        uncounted zero none le jumps heads here2 =
            let r : Reads (at + 1) = reads_as (pc + 1 + lo - first) (at + 1) (omega arith) (on_jump at (pc + 1 + lo) jumps h).1 in
            inr (reads_as (next - first) (at + 3 + length xs) (omega arith) (leaves greedy heads r))
          where
            leaves : (b : Bool) → slice_get ops (at + 1) ≡ Some (cond b (op.split (pc + 2) next) (op.split next (pc + 2))) → Reads (at + 1) → Reads (next - first)
            leaves true heads r = (on_both (at + 1) (pc + 2) next heads r).1
            leaves false heads r = (on_both (at + 1) next (pc + 2) heads r).0
        uncounted (suc n) some le jumps heads here2 =
            inl (round here2 (reads_as (pc + 1 + lo - first) (at + 2) (omega arith) (on_jump at (pc + 1 + lo) jumps h).1))

        enters : (b : Bool) → (b ≡ true → lo ≤ 1) →
            HasAt ops at (cond b (op.jump (pc + 1 + lo)) (op.begin_repeat slot)
            ∷ cond b (cond greedy (op.split (pc + 2) next) (op.split next (pc + 2))) (op.repeat_epsilon greedy lo next slot (slot + 1)) ∷ (xs ++ op.jump (pc + 1) ∷ [])) →
            TakesSome (repeat a lo None greedy) ⊎ Reads (at + 3 + length xs)
        enters true le here2 = uncounted lo refl (le refl) here2.0 here2.1.0 (two here2.1.1)
        enters false le here2 = counted lo refl here2.0 here2.1.0 (two here2.1.1)

    at_call : (o : Option Place) (a : CorePattern) (at pc slot : ℕ) → Reads at → (HasAt ops at (made a [] pc slot) → Passes a at pc slot) → HasAt ops at (call_code o (made a) [] pc slot) →
        TakesSome a ⊎ ((waits_at_call o (waits_with layout a []) ≡ []) × Reads (at + length (call_code o (made a) [] pc slot)))
    at_call None a at pc slot h inside here = inside here
    at_call (Some c) a at pc slot h inside here = absurd (reads_not at (op.call c) here.0 (λ from. refl) h)

    through : (p : CorePattern) (at pc slot : ℕ) → pc ≡ first + at → HasAt ops at (made p [] pc slot) → Reads at → Passes p at pc slot
    unfolding code_with
    through nothing at pc slot is here h = inr (refl, reads_as at (at + 0) (omega arith) h)
    through (read leaf) at pc slot is here h = inl tt
    through (general_newline unicode) at pc slot is here h = inl tt
    through (check a) at pc slot is here h = inr (refl, passes_on at (op.assertion a) here.0 (λ from. refl) h)
    through continue at pc slot is here h = inr (refl, passes_on at op.continue here.0 (λ from. refl) h)
    through keep_out at pc slot is here h = inr (refl, kept whole at here h)
    through fail at pc slot is here h = inl tt
    through (cat a b) at pc slot is here h =
        let xs = made a [] pc slot in
        let ys = made b (waits_with layout a []) (pc + length xs) (slot + slots_with layout a) in
        ⊎_elim (λ (t : TakesSome a). inl (inl t))
        (λ (m : (waits_with layout a [] ≡ []) × Reads (at + length xs)).
        let zs = made b [] (pc + length xs) (slot + slots_with layout a) in
        let long : length ys ≡ length zs = ap (λ t. length (made b t (pc + length xs) (slot + slots_with layout a))) m.0 in
        let at_b = subst (λ t. HasAt ops (at + length xs) (made b t (pc + length xs) (slot + slots_with layout a))) m.0 (has_back ops at (at + length xs) xs ys refl here) in
        ⊎_elim (λ (t : TakesSome b). inl (inr t))
        (λ (n : (waits_with layout b [] ≡ []) × Reads (at + length xs + length zs)).
        inr (ap (waits_with layout b) m.0 ∙ n.0, reads_as (at + length xs + length zs) (at + length (xs ++ ys)) (omega (arith, length-append xs ys, long)) n.1))
        (through b (at + length xs) (pc + length xs) (slot + slots_with layout a) (omega arith) at_b m.1))
        (through a at pc slot is (has_front ops at xs ys here) h)
    through (alt a b) at pc slot is here h =
        let p = pc + length (flushed []) in
        let xs = within a (p + 1) slot in
        let ys = within b (p + 2 + length xs) (slot + slots_with layout a) in
        let end = p + 2 + length xs + length ys in
        let total : at + 2 + length xs + length ys ≡ at + suc (length (xs ++ op.jump end ∷ ys)) = omega (arith, length-append xs (op.jump end ∷ ys)) in
        let both = on_both at (p + 1) (p + 2 + length xs) here.0 h in
        let jumps = has_back ops (at + 1) (at + 1 + length xs) xs (op.jump end ∷ ys) refl here.1 in
        let at_b : HasAt ops (at + 2 + length xs) ys = subst (λ q. HasAt ops q ys) (let same : at + 1 + length xs + 1 ≡ at + 2 + length xs = omega arith in same) jumps.1 in
        let one : PassesClosed a (at + 1) (p + 1) slot =
        shut a (at + 1) (p + 1) slot (λ f. through a (at + 1) (p + 1) slot (omega arith) f (reads_as (p + 1 - first) (at + 1) (omega arith) both.0)) (has_front ops (at + 1) xs _ here.1) in
        let other : PassesClosed b (at + 2 + length xs) (p + 2 + length xs) (slot + slots_with layout a) =
        shut b (at + 2 + length xs) (p + 2 + length xs) (slot + slots_with layout a)
        (λ f. through b (at + 2 + length xs) (p + 2 + length xs) (slot + slots_with layout a) (omega arith) f (reads_as (p + 2 + length xs - first) (at + 2 + length xs) (omega arith) both.1)) at_b in
        ⊎_elim
        (λ (t : TakesSome a).
        ⊎_elim (λ (u : TakesSome b). inl (t, u)) (λ (r : Reads (at + 2 + length xs + length ys)). inr (refl, reads_as (at + 2 + length xs + length ys) _ total r)) other)
        (λ (r : Reads (at + 1 + length xs)).
        inr (refl, reads_as (end - first) _ (omega (arith, total)) (on_jump (at + 1 + length xs) end jumps.0 r).1))
        one
    through (group k a) at pc slot is here h =
        let p = pc + length (flushed []) in
        let xs = within a (p + 1) (slot + 1) in
        let rest = op.copy slot (2 * k) ∷ op.save (2 * k + 1) ∷ [] in
        let last = has_back ops (at + 1) (at + 1 + length xs) xs rest refl here.1 in
        ⊎_elim (λ (t : TakesSome a). inl t)
        (λ (r : Reads (at + 1 + length xs)).
        let s = passes_on (at + 1 + length xs) (op.copy slot (2 * k)) last.0 (λ from. refl) r in
        let e = passes_on (at + 1 + length xs + 1) (op.save (2 * k + 1)) last.1.0 (λ from. refl) s in
        inr (refl, reads_as (at + 1 + length xs + 1 + 1) _ (omega (arith, length-append xs rest)) e))
        (shut a (at + 1) (p + 1) (slot + 1) (λ f. through a (at + 1) (p + 1) (slot + 1) (omega arith) f (passes_on at (op.save slot) here.0 (λ from. refl) h)) (has_front ops (at + 1) xs rest here.1))
    through (ahead a) at pc slot is here h =
        let p = pc + length (flushed []) in
        let xs = within a (p + 1) (slot + 1) in
        absurd (stay (at + 1 + length xs) slot (has_back ops (at + 1) (at + 1 + length xs) xs (op.restore slot ∷ []) refl here.1).0)
    through (never a) at pc slot is here h =
        let p = pc + length (flushed []) in
        let xs = within a (p + 2) (slot + 1) in
        let both = on_both (at + 1) (p + 2) (p + 3 + length xs) here.1.0 (passes_on at (op.begin_atomic slot) here.0 (λ from. refl) h) in
        inr (refl, reads_as (p + 3 + length xs - first) _ (omega (arith, length-append xs (op.fail_negative slot ∷ []))) both.1)
    through (back n) at pc slot is here h = inr (refl, passes_on at (op.go_back n) here.0 (λ from. refl) h)
    through (atomic a) at pc slot is here h =
        let p = pc + length (flushed []) in
        let xs = within a (p + 1) (slot + 1) in
        let rest = op.end_atomic slot ∷ [] in
        let last = has_back ops (at + 1) (at + 1 + length xs) xs rest refl here.1 in
        ⊎_elim (λ (t : TakesSome a). inl t)
        (λ (r : Reads (at + 1 + length xs)).
        inr (refl, reads_as (at + 1 + length xs + 1) _ (omega (arith, length-append xs rest)) (passes_on (at + 1 + length xs) (op.end_atomic slot) last.0 (λ from. refl) r)))
        (shut a (at + 1) (p + 1) (slot + 1) (λ f. through a (at + 1) (p + 1) (slot + 1) (omega arith) f (passes_on at (op.begin_atomic slot) here.0 (λ from. refl) h)) (has_front ops (at + 1) xs rest here.1))
    through (repeat a lo None greedy) at pc slot is here h =
        let p = pc + length (flushed []) in
        let xs = within a (p + 2) (slot + 2) in
        ⊎_elim (λ (t : TakesSome (repeat a lo None greedy)). inl t)
        (λ (r : Reads (at + 3 + length xs)). inr (refl, reads_as (at + 3 + length xs) _ (omega (arith, length-append xs (op.jump (p + 1) ∷ []))) r))
        (loop (is_uncounted lo (p + 2) xs) lo at p slot greedy a (λ e. few lo (p + 2) xs e) (omega arith) here
        (λ f r. shut a (at + 2) (p + 2) (slot + 2) (λ g. through a (at + 2) (p + 2) (slot + 2) (omega arith) g r) f) h)
    through (repeat a lo (Some hi) greedy) at pc slot is here h =
        let p = pc + length (flushed []) in
        let xs = within a (p + 2) (slot + 1) in
        let next = p + 3 + length xs in
        let on = on_head (at + 1) next lo (op.repeat greedy lo hi next slot) here.1.0 (λ from. refl) (passes_on at (op.begin_repeat slot) here.0 (λ from. refl) h) in
        let here2 : HasAt ops (at + 2) (xs ++ op.jump (p + 1) ∷ []) = subst (λ q. HasAt ops q (xs ++ op.jump (p + 1) ∷ [])) (let same : at + 1 + 1 ≡ at + 2 = omega arith in same) here.1.1 in
        let last = has_back ops (at + 2) (at + 2 + length xs) xs (op.jump (p + 1) ∷ []) refl here2 in
        let inside : PassesClosed a (at + 2) (p + 2) (slot + 1) =
        shut a (at + 2) (p + 2) (slot + 1) (λ g. through a (at + 2) (p + 2) (slot + 1) (omega arith) g (reads_as (at + 1 + 1) (at + 2) (omega arith) on.0)) (has_front ops (at + 2) xs _ here2) in
        let due : TakesSome a = ⊎_elim (λ (t : TakesSome a). t) (λ (r : Reads (at + 2 + length xs)). (let jumped = on_jump (at + 2 + length xs) (p + 1) last.0 r in absurd (omega (arith, jumped.0)))) inside in
        elim lo as (λ n. lo ≡ n → Passes (repeat a n (Some hi) greedy) at pc slot) [
          | zero ↦ λ none. inr (refl, reads_as (next - first) _ (omega (arith, length-append xs (op.jump (p + 1) ∷ []))) (on.1 none))
          | suc n ↦ λ some. inl due
        ] refl
    through (delegate t a) at pc slot is here h = inr (refl, passes_on at (op.delegate has_member fold t) here.0 (λ from. refl) h)
    through (tail t a) at pc slot is here h =
        let p = pc + length (flushed []) in
        absurd (reads_not at (op.tail has_member fold t (p + 1 + length (within a (p + 1) slot))) here.0 (λ from. refl) h)
    through (backref k casei) at pc slot is here h = inr (refl, passes_on at (op.backref (2 * k) casei) here.0 (λ from. refl) h)
    through (exists k) at pc slot is here h = inr (refl, passes_on at (op.exists (2 * k)) here.0 (λ from. refl) h)
    through (conditional c a b) at pc slot is here h =
        let p = pc + length (flushed []) in
        let xs = within c (p + 2) (slot + 1) in
        let ys = within a (p + 3 + length xs) (slot + 1 + slots_with layout c) in
        let zs = within b (p + 4 + length xs + length ys) (slot + 1 + slots_with layout c + slots_with layout a) in
        let end = p + 4 + length xs + length ys + length zs in
        let total : at + 4 + length xs + length ys + length zs ≡ at + suc (suc (length (xs ++ op.end_atomic slot ∷ (ys ++ op.jump end ∷ zs)))) =
        omega (arith, length-append xs (op.end_atomic slot ∷ (ys ++ op.jump end ∷ zs)), length-append ys (op.jump end ∷ zs)) in
        let both = on_both (at + 1) (p + 2) (p + 4 + length xs + length ys) here.1.0 (passes_on at (op.begin_atomic slot) here.0 (λ from. refl) h) in
        let at_c : HasAt ops (at + 2) (xs ++ op.end_atomic slot ∷ (ys ++ op.jump end ∷ zs)) =
        subst (λ q. HasAt ops q (xs ++ op.end_atomic slot ∷ (ys ++ op.jump end ∷ zs))) (let same : at + 1 + 1 ≡ at + 2 = omega arith in same) here.1.1 in
        let at_cut = has_back ops (at + 2) (at + 2 + length xs) xs (op.end_atomic slot ∷ (ys ++ op.jump end ∷ zs)) refl at_c in
        let at_a : HasAt ops (at + 3 + length xs) (ys ++ op.jump end ∷ zs) =
        subst (λ q. HasAt ops q (ys ++ op.jump end ∷ zs)) (let same : at + 2 + length xs + 1 ≡ at + 3 + length xs = omega arith in same) at_cut.1 in
        let jumps = has_back ops (at + 3 + length xs) (at + 3 + length xs + length ys) ys (op.jump end ∷ zs) refl at_a in
        let at_b : HasAt ops (at + 4 + length xs + length ys) zs =
        subst (λ q. HasAt ops q zs) (let same : at + 3 + length xs + length ys + 1 ≡ at + 4 + length xs + length ys = omega arith in same) jumps.1 in
        let tested : PassesClosed c (at + 2) (p + 2) (slot + 1) =
        shut c (at + 2) (p + 2) (slot + 1) (λ f. through c (at + 2) (p + 2) (slot + 1) (omega arith) f (reads_as (p + 2 - first) (at + 2) (omega arith) both.0)) (has_front ops (at + 2) xs _ at_c) in
        let no : PassesClosed b (at + 4 + length xs + length ys) (p + 4 + length xs + length ys) (slot + 1 + slots_with layout c + slots_with layout a) =
        shut b (at + 4 + length xs + length ys) (p + 4 + length xs + length ys) (slot + 1 + slots_with layout c + slots_with layout a)
        (λ f. through b (at + 4 + length xs + length ys) (p + 4 + length xs + length ys) (slot + 1 + slots_with layout c + slots_with layout a) (omega arith) f
        (reads_as (p + 4 + length xs + length ys - first) (at + 4 + length xs + length ys) (omega arith) both.1)) at_b in
        let yes : (TakesSome c ⊎ TakesSome a) ⊎ Reads (end - first) =
        ⊎_elim (λ (t : TakesSome c). inl (inl t))
        (λ (r : Reads (at + 2 + length xs)).
        let s = passes_on (at + 2 + length xs) (op.end_atomic slot) at_cut.0 (λ from. refl) r in
        ⊎_elim (λ (t : TakesSome a). inl (inr t))
        (λ (q : Reads (at + 3 + length xs + length ys)). inr (on_jump (at + 3 + length xs + length ys) end jumps.0 q).1)
        (shut a (at + 3 + length xs) (p + 3 + length xs) (slot + 1 + slots_with layout c)
        (λ f. through a (at + 3 + length xs) (p + 3 + length xs) (slot + 1 + slots_with layout c) (omega arith) f (reads_as (at + 2 + length xs + 1) (at + 3 + length xs) (omega arith) s))
        (has_front ops (at + 3 + length xs) ys _ at_a)))
        tested in
        ⊎_elim
        (λ (t : TakesSome c ⊎ TakesSome a).
        ⊎_elim (λ (u : TakesSome b). inl (t, u))
        (λ (r : Reads (at + 4 + length xs + length ys + length zs)). inr (refl, reads_as (at + 4 + length xs + length ys + length zs) _ total r)) no)
        (λ (r : Reads (end - first)). inr (refl, reads_as (end - first) _ (omega (arith, total)) r))
        yes
    through (absent a) at pc slot is here h = absurd (reads_not at (op.absent_begin slot (slot + 1)) here.0 (λ from. refl) h)
    through (called k a) at pc slot is here h = at_call (layout k) a at pc slot h (λ there. through a at pc slot is there h) here

-- The body of a loop without a counter takes a character each time.
pub body_takes : (has_member : Text → Bool → ℕ → Bool) (fold : ℕ → ℕ) (whole : Bool) (layout : Layout) (a : CorePattern) (lo pc slot : ℕ) →
    is_uncounted lo pc (closed (code_with has_member fold whole layout a []) (waits_with layout a []) pc slot) ≡ true → TakesSome a
unfolding always_reads
body_takes has_member fold whole layout a lo pc slot e =
    let xs = closed (code_with has_member fold whole layout a []) (waits_with layout a []) pc slot in
    let both = and_parts (list_all stays xs) (reads_from pc xs reading_depth 0) (and_parts (nat_le lo 1) (always_reads pc xs) e).1 in
    let stay = λ (at slot : ℕ) (here : slice_get xs at ≡ Some (op.restore slot)). stays_each xs at slot both.0 here in
    ⊎_elim (λ (t : TakesSome a). t) (λ (r : Reads pc xs (0 + length xs)). absurd (none_following pc xs (0 + length xs) (omega arith) r.0 r.1))
    (shut pc xs stay has_member fold whole layout a 0 pc slot (λ f. through pc xs stay has_member fold whole layout a 0 pc slot (omega arith) f (reading_depth, both.1)) (has_all xs []))
