-- Each step of the search keeps `Dfs`.
use Rattle.std.proofs.Common.{◌≡◌, ℕ, ◌+◌, ◌<◌, ◌≤◌, ◌⊎◌, Bool, true, false, List, [], ◌∷◌, Option, Some, None, refl, sym, ◌∙◌, subst, inl, inr, arith, get_or, set, set-set, ap, true≢false}
use Rattle.std.proofs.lemmas.List.{set-get_or}
use Rattle.std.proofs.lemmas.Bool.{cases_lt}
use Rattle.fancy_regex_linear.specs.Meaning.{Spot}
use Rattle.std.specs.Prelude.{is_some}
use Rattle.fancy_regex_states.specs.Attempts.{Trace, Continuation, AttemptResult, write, save, either, guard, failed, accept, score, better_trace}
use Rattle.fancy_regex_linear.specs.Attempt.{better_spot, apply, trace_end}
use Rattle.fancy_regex_linear.specs.Visited.{Adds}
use Rattle.fancy_regex_linear.specs.Search.{slots_at_bottom, pending, Reaches, IsAsGood, ReachesBelow, Covers, Dfs, resume_result}
use Rattle.fancy_regex_linear.specs.declared.frame.Frame.{Frame}
use Rattle.fancy_regex_linear.specs.declared.frame.Frame.TheVariants.{Explore, Restore}
use Rattle.fancy_regex_linear.proofs.WaysLemmas.{better-None, better_assoc, better_stays, better_goes, trace_end_better, trace_end_write}

pub trace_end_none : (slots : List ℕ) → trace_end slots None ≡ None
unfolding trace_end
trace_end_none slots = refl

module _ (longest : Bool) where
  reaches_none : (r : ℕ) (a : Option Trace) → a ≡ None → Reaches longest r a → ⊥
  reaches_none r a e h = subst (Reaches longest r) e h

  -- the better of two reaches what one of them does
  reaches_cases : (r : ℕ) (a b : Option Trace) → Reaches longest r (better_trace longest a b) → Reaches longest r a ⊎ Reaches longest r b
  reaches_cases r None b h = inr h
  reaches_cases r (Some x) None h = inl h
  reaches_cases r (Some x) (Some y) h =
      elim (cases_lt (score longest x.end) (score longest y.end)) [
        | inl lt ↦ inr (subst (Reaches longest r) (better_goes (λ (t : Trace). score longest t.end) x y lt) h)
        | inr ge ↦ inl (subst (Reaches longest r) (better_stays (λ (t : Trace). score longest t.end) x y ge) h)
      ]

  reaches_write : (r slot i : ℕ) (a : Option Trace) → Reaches longest r (write slot i a) → Reaches longest r a
  reaches_write r slot i None h = h
  reaches_write r slot i (Some t) h = h

  -- what is best so far stays as good
  as_good_more : (r : ℕ) (best : Option Spot) (s : Spot) → IsAsGood longest r best → IsAsGood longest r (better_spot longest best (Some s))
  as_good_more r None s h = absurd h
  as_good_more r (Some b) s h =
      elim (cases_lt (score longest b.at) (score longest s.at)) [
        | inl lt ↦
            let e = better_goes (λ (t : Spot). score longest t.at) b s lt in
            subst (IsAsGood longest r) (sym e) (let g : r ≤ score longest s.at = omega arith in g)
        | inr ge ↦ subst (IsAsGood longest r) (sym (better_stays (λ (t : Spot). score longest t.at) b s ge)) h
      ]

  as_good_here : (r : ℕ) (best : Option Spot) (s : Spot) → r ≤ score longest s.at → IsAsGood longest r (better_spot longest best (Some s))
  as_good_here r None s h = h
  as_good_here r (Some b) s h =
      elim (cases_lt (score longest b.at) (score longest s.at)) [
        | inl lt ↦ subst (IsAsGood longest r) (sym (better_goes (λ (t : Spot). score longest t.at) b s lt)) h
        | inr ge ↦
            let e = better_stays (λ (t : Spot). score longest t.at) b s ge in
            subst (IsAsGood longest r) (sym e) (let g : r ≤ score longest b.at = omega arith in g)
      ]

  -- what is not better than the best so far adds nothing
  no_better : (best : Option Spot) (slots : List ℕ) (t : Trace) → IsAsGood longest (score longest t.end) best
      → better_spot longest best (trace_end slots (Some t)) ≡ best
  unfolding trace_end
  no_better None slots t h = absurd h
  no_better (Some b) slots t h = better_stays (λ (s : Spot). score longest s.at) b (record { at = t.end; slots = apply t.writes slots }) h

  nothing_new : (best : Option Spot) (slots : List ℕ) (a : Option Trace) (p : Option Spot) → ((r : ℕ) → Reaches longest r a → IsAsGood longest r best)
      → better_spot longest best (better_spot longest (trace_end slots a) p) ≡ better_spot longest best p
  unfolding trace_end
  nothing_new best slots None p h = refl
  nothing_new best slots (Some t) p h =
      sym (better_assoc (λ (s : Spot). score longest s.at) best (trace_end slots (Some t)) p)
      ∙ ap (λ o. better_spot longest o p) (no_better best slots t (h (score longest t.end) (let g : score longest t.end ≤ score longest t.end = omega arith in g)))

  module _ (go : ℕ → Continuation) (Seen After : ℕ → ℕ → Type 0) (best : Option Spot) (q i : ℕ) (rest next : List Frame) where
    -- The top (q, i) is marked and gives way to `next`. What the top reaches, or what is further down, stays answered for.
    covers_next : Adds Seen After q i → Covers longest go Seen best (Explore q i ∷ rest)
        → ((d r : ℕ) → (go q i).depth ≤ d → Reaches longest r (go q i).answer → ReachesBelow longest go d r next)
        → ((d r : ℕ) → (go q i).depth < d → ReachesBelow longest go d r rest → ReachesBelow longest go d r next)
        → Covers longest go After best next
    covers_next adds covers top below p j r seen ok =
        elim (adds p j seen) [
          | inl old ↦
              elim (covers p j r old ok) [
                | inl good ↦ inl good
                | inr h ↦
                    elim h.1 [
                      | inl here ↦ let lt : (go q i).depth < (go p j).depth = h.0 in inr (top (go p j).depth r (omega arith) here)
                      | inr under ↦ inr (below (go p j).depth r h.0 under)
                    ]
              ]
          | inr same ↦
              let e : (go p j) ≡ (go q i) = rw (same.0, same.1) in
              inr (top (go p j).depth r (let d : (go p j).depth ≡ (go q i).depth = ap (λ v. v.depth) e in omega arith)
              (subst (λ (v : AttemptResult). Reaches longest r v.answer) e ok))
        ]

  module _ {go : ℕ → Continuation} {goal best : Option Spot} {bottom : List ℕ} {Seen : ℕ → ℕ → Type 0} where
    -- carrying out the `Restore` frames at the top changes nothing
    Dfs-resume_result : (stack : List Frame) (slots : List ℕ) → Dfs longest go goal best bottom Seen stack slots
        → Dfs longest go goal best bottom Seen (resume_result stack slots).0 (resume_result stack slots).1
    unfolding resume_result pending slots_at_bottom
    Dfs-resume_result [] slots d = d
    Dfs-resume_result (Explore q i ∷ rest) slots d = d
    Dfs-resume_result (Restore slot old ∷ rest) slots d =
        Dfs-resume_result rest (set slots slot old) (record { value = d.value; covers = d.covers; unwinds = d.unwinds })

    -- after a pop of the backtrack stack
    pub Dfs-popped : {stack next : List Frame} {slots after : List ℕ} → Dfs longest go goal best bottom Seen stack slots
        → resume_result stack slots ≡ (next, after) → Dfs longest go goal best bottom Seen next after
    Dfs-popped {stack} {next} {slots} {after} d e =
        subst (λ (r : List Frame × List ℕ). Dfs longest go goal best bottom Seen r.0 r.1) e (Dfs-resume_result stack slots d)

    -- the stack is empty
    pub Dfs-done : {slots : List ℕ} → Dfs longest go goal best bottom Seen [] slots → (goal ≡ best) × (slots ≡ bottom)
    unfolding pending slots_at_bottom
    Dfs-done d = (sym (sym (better-None (λ (s : Spot). score longest s.at) best) ∙ d.value), d.unwinds)

    -- the same where fewer pairs are marked
    pub Dfs-fewer : {Fewer : ℕ → ℕ → Type 0} {stack : List Frame} {slots : List ℕ} → ((p j : ℕ) → Fewer p j → Seen p j)
        → Dfs longest go goal best bottom Seen stack slots → Dfs longest go goal best bottom Fewer stack slots
    Dfs-fewer fewer d = record { value = d.value; covers = λ p j r seen ok. d.covers p j r (fewer p j seen) ok; unwinds = d.unwinds }

    -- A pair that was marked before is dropped: what it reaches was found, since nothing is less deep than itself.
    pub Dfs-seen : {After : ℕ → ℕ → Type 0} {q i : ℕ} {rest : List Frame} {slots : List ℕ} → Dfs longest go goal best bottom Seen (Explore q i ∷ rest) slots
        → Seen q i → Adds Seen After q i → Dfs longest go goal best bottom After rest slots
    unfolding pending slots_at_bottom
    Dfs-seen {After} {q} {i} {rest} {slots} d seen adds =
        let found : (r : ℕ) → Reaches longest r (go q i).answer → IsAsGood longest r best = λ r ok.
        elim (d.covers q i r seen ok) [ inl good ↦ good | inr h ↦ let lt : (go q i).depth < (go q i).depth = h.0 in absurd (omega arith) ] in
        let old_covers : Covers longest go Seen best rest = λ p j r old ok.
        elim (d.covers p j r old ok) [
          | inl good ↦ inl good
          | inr h ↦ elim h.1 [ inl here ↦ inl (found r here) | inr under ↦ inr under ]
        ] in
        record {
          value = sym (nothing_new best slots (go q i).answer (pending longest go rest slots) found) ∙ d.value;
          covers = λ p j r new ok.
              elim (adds p j new) [
                | inl old ↦ old_covers p j r old ok
                | inr same ↦ old_covers p j r (subst (λ (a : ℕ). Seen a j) (sym same.0) (subst (λ (b : ℕ). Seen q b) (sym same.1) seen)) ok
              ];
          unwinds = d.unwinds;
        }

    module _ {After : ℕ → ℕ → Type 0} {q i : ℕ} {rest : List Frame} {slots : List ℕ} (d : Dfs longest go goal best bottom Seen (Explore q i ∷ rest) slots) (adds : Adds Seen After q i) where
      -- the top fails
      pub Dfs-dead : (go q i).answer ≡ None → Dfs longest go goal best bottom After rest slots
      unfolding pending slots_at_bottom
      Dfs-dead e = record {
        value = ap (λ o. better_spot longest best (better_spot longest o (pending longest go rest slots))) (sym (ap (trace_end slots) e ∙ trace_end_none slots)) ∙ d.value;
        covers =
            covers_next go Seen After best q i rest rest adds d.covers
            (λ w r lt ok. absurd (reaches_none r _ e ok)) (λ w r lt h. h);
        unwinds = d.unwinds;
      }

      -- the top is the end of a way
      pub Dfs-matched : go q i ≡ accept i → Dfs longest go goal (better_spot longest best (Some (record { at = i; slots = slots }))) bottom After rest slots
      unfolding pending slots_at_bottom trace_end apply
      Dfs-matched e =
          let here : Spot = record { at = i; slots = slots } in
          let ends : (r : ℕ) → Reaches longest r (go q i).answer → IsAsGood longest r (better_spot longest best (Some here)) =
          λ r ok. as_good_here r best here (subst (λ (v : AttemptResult). Reaches longest r v.answer) e ok) in
          record {
            value =
                better_assoc (λ (s : Spot). score longest s.at) best (Some here) (pending longest go rest slots)
                ∙ ap (λ (v : AttemptResult). better_spot longest best (better_spot longest (trace_end slots v.answer) (pending longest go rest slots))) (sym e)
                ∙ d.value;
            covers = λ p j r new ok.
                elim (adds p j new) [
                  | inl old ↦
                      elim (d.covers p j r old ok) [
                        | inl good ↦ inl (as_good_more r best here good)
                        | inr h ↦ elim h.1 [ inl there ↦ inl (ends r there) | inr under ↦ inr under ]
                      ]
                  | inr same ↦ inl (ends r (subst (λ (v : AttemptResult). Reaches longest r v.answer) (let w : go p j ≡ go q i = rw (same.0, same.1) in w) ok))
                ];
            unwinds = d.unwinds;
          }

      -- the top leads to one pair
      pub Dfs-moved : (p j : ℕ) → (go q i).answer ≡ (go p j).answer → (go p j).depth < (go q i).depth
          → Dfs longest go goal best bottom After (Explore p j ∷ rest) slots
      unfolding pending slots_at_bottom
      Dfs-moved p j e lower = record {
        value = ap (λ o. better_spot longest best (better_spot longest (trace_end slots o) (pending longest go rest slots))) (sym e) ∙ d.value;
        covers =
            covers_next go Seen After best q i rest (Explore p j ∷ rest) adds d.covers
            (λ w r lt ok. (omega arith, inl (subst (Reaches longest r) e ok))) (λ w r lt h. (omega arith, inr h));
        unwinds = d.unwinds;
      }

      -- the top leads to two pairs
      pub Dfs-split : (a b : ℕ) → go q i ≡ either longest (go a i) (go b i)
          → Dfs longest go goal best bottom After (Explore a i ∷ Explore b i ∷ rest) slots
      unfolding pending slots_at_bottom
      Dfs-split a b e =
          let deep : (go q i).depth ≡ (go a i).depth + (go b i).depth + 1 = ap (λ r. r.depth) e in
          let found : (go q i).answer ≡ better_trace longest (go a i).answer (go b i).answer = ap (λ r. r.answer) e in
          record {
            value =
                ap (better_spot longest best)
                (sym (better_assoc (λ (s : Spot). score longest s.at) (trace_end slots (go a i).answer) (trace_end slots (go b i).answer) (pending longest go rest slots))
                ∙ ap (λ o. better_spot longest o (pending longest go rest slots)) (sym (ap (trace_end slots) found ∙ trace_end_better longest slots (go a i).answer (go b i).answer)))
                ∙ d.value;
            covers =
                covers_next go Seen After best q i rest (Explore a i ∷ Explore b i ∷ rest) adds d.covers
                (λ w r lt ok.
                elim (reaches_cases r (go a i).answer (go b i).answer (subst (Reaches longest r) found ok))
                [ inl h ↦ (omega arith, inl h) | inr h ↦ (omega arith, inr (omega arith, inl h)) ])
                (λ w r lt h. (omega arith, inr (omega arith, inr h)));
            unwinds = d.unwinds;
          }

      module _ (slot p : ℕ) (e : go q i ≡ save slot i (go p i)) where
        -- the top writes to a slot that is not kept
        pub Dfs-unsaved : set slots slot i ≡ slots → Dfs longest go goal best bottom After (Explore p i ∷ rest) slots
        unfolding pending slots_at_bottom
        Dfs-unsaved same =
            let deep : (go q i).depth ≡ (go p i).depth + 1 = ap (λ r. r.depth) e in
            let found : (go q i).answer ≡ write slot i (go p i).answer = ap (λ r. r.answer) e in
            record {
              value =
                  ap (λ o. better_spot longest best (better_spot longest o (pending longest go rest slots)))
                  (sym (ap (trace_end slots) found ∙ trace_end_write slots slot i (go p i).answer ∙ ap (λ s. trace_end s (go p i).answer) same))
                  ∙ d.value;
              covers =
                  covers_next go Seen After best q i rest (Explore p i ∷ rest) adds d.covers
                  (λ w r lt ok. (omega arith, inl (reaches_write r slot i _ (subst (Reaches longest r) found ok)))) (λ w r lt h. (omega arith, inr h));
              unwinds = d.unwinds;
            }

        -- the top writes to a slot, and the stack can undo it
        pub Dfs-saved : Dfs longest go goal best bottom After (Explore p i ∷ Restore slot (get_or slots slot 0) ∷ rest) (set slots slot i)
        unfolding pending slots_at_bottom
        Dfs-saved =
            let deep : (go q i).depth ≡ (go p i).depth + 1 = ap (λ r. r.depth) e in
            let found : (go q i).answer ≡ write slot i (go p i).answer = ap (λ r. r.answer) e in
            let undone : set (set slots slot i) slot (get_or slots slot 0) ≡ slots =
            set-set slots slot i (get_or slots slot 0) ∙ set-get_or slots slot 0 in
            record {
              value =
                  ap (better_spot longest best)
                  (ap (λ s. better_spot longest (trace_end (set slots slot i) (go p i).answer) (pending longest go rest s)) undone
                  ∙ ap (λ o. better_spot longest o (pending longest go rest slots)) (sym (ap (trace_end slots) found ∙ trace_end_write slots slot i (go p i).answer)))
                  ∙ d.value;
              covers =
                  covers_next go Seen After best q i rest (Explore p i ∷ Restore slot (get_or slots slot 0) ∷ rest) adds d.covers
                  (λ w r lt ok. (omega arith, inl (reaches_write r slot i _ (subst (Reaches longest r) found ok)))) (λ w r lt h. (omega arith, inr h));
              unwinds = ap (slots_at_bottom rest) undone ∙ d.unwinds;
            }

-- where the first way is wanted, the first that is found is best
pub first_is_best : (s : Spot) (o : Option Spot) → better_spot false (Some s) o ≡ Some s
first_is_best s None = refl
first_is_best s (Some t) = refl

-- a test that held leads on, one level less deep
pub guard_yes : (r x : AttemptResult) (b : Bool) → r ≡ guard b x → b ≡ true → (r.answer ≡ x.answer) × (x.depth < r.depth)
guard_yes r x b e h =
    let whole : r ≡ guard true x = e ∙ ap (λ v. guard v x) h in
    let deep : r.depth ≡ x.depth + 1 = ap (λ v. v.depth) whole in
    (ap (λ v. v.answer) whole, omega arith)

pub guard_no : (r x : AttemptResult) (b : Bool) → r ≡ guard b x → b ≡ false → r.answer ≡ None
guard_no r x b e h = ap (λ v. v.answer) (e ∙ ap (λ v. guard v x) h)

-- an attempt begins with one pair
pub Dfs-root : {longest : Bool} {go : ℕ → Continuation} {Seen : ℕ → ℕ → Type 0} (q i : ℕ) (slots : List ℕ) → Covers longest go Seen None []
    → Dfs longest go (trace_end slots (go q i).answer) None slots Seen (Explore q i ∷ []) slots
unfolding pending slots_at_bottom
Dfs-root {longest} q i slots failed = record {
  value = better-None (λ (s : Spot). score longest s.at) _;
  covers = λ p j r seen ok. elim (failed p j r seen ok) [ inl h ↦ absurd h | inr h ↦ absurd h ];
  unwinds = refl;
}

-- the first way was found, where that is wanted
pub first_done : {longest : Bool} {go : ℕ → Continuation} {goal best : Option Spot} {bottom : List ℕ} {Seen : ℕ → ℕ → Type 0} {stack : List Frame} {slots : List ℕ} (s : Spot)
    → longest ≡ false → best ≡ None → Dfs longest go goal (better_spot longest best (Some s)) bottom Seen stack slots → goal ≡ Some s
first_done {longest} {go} {stack = stack} {slots = slots} s first none d =
    sym d.value
    ∙ ap (λ o. better_spot longest (better_spot longest o (Some s)) (pending longest go stack slots)) none
    ∙ ap (λ (l : Bool). better_spot l (Some s) (pending longest go stack slots)) first
    ∙ first_is_best s (pending longest go stack slots)

pub Dfs-best : {longest : Bool} {go : ℕ → Continuation} {goal best best2 : Option Spot} {bottom : List ℕ} {Seen : ℕ → ℕ → Type 0} {stack : List Frame} {slots : List ℕ}
    → best ≡ best2 → Dfs longest go goal best bottom Seen stack slots → Dfs longest go goal best2 bottom Seen stack slots
Dfs-best {longest} {go} {goal} {bottom = bottom} {Seen = Seen} {stack = stack} {slots = slots} e d =
    subst (λ (b : Option Spot). Dfs longest go goal b bottom Seen stack slots) e d

pub none_from : {A : Type 0} (o : Option A) → is_some o ≡ false → o ≡ None
none_from None e = refl
none_from (Some x) e = absurd (true≢false e)
