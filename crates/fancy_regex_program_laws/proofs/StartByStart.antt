-- What the trails of a search end as, start after start.
use Rattle.std.proofs.Common.{◌≡◌, ℕ, ◌+◌, ◌<◌, ◌≤◌, Bool, true, false, List, [], ◌∷◌, map, length, Option, Some, None, refl, sym, ap, ◌∙◌, arith, cond, ⊎_elim}
use Rattle.std.specs.Prelude.{nat_lt, option_map, is_some}
use Rattle.std.specs.List.{filter}
use Rattle.std.proofs.lemmas.Bool.{cases_lt}
use Rattle.fancy_regex_meaning.specs.Ways.{MatchState}
use Rattle.fancy_regex_meaning.specs.Searches.{Search, first_some, first_item, farther, first_longest, chosen, is_admitted}
use Rattle.fancy_regex_desugar.specs.CorePatterns.{CorePattern}
use Rattle.fancy_regex_desugar.specs.Delegates.{tail_bound}
use Rattle.fancy_regex_program.specs.Machine.{unset, RunParameters}
use Rattle.fancy_regex_program.specs.SlotLayout.{slots_of_match}
use Rattle.fancy_regex_program.specs.Shapes.{IsWritable}
use Rattle.fancy_regex_program_laws.specs.ProgramLaws.{FoundMatch, entry_way, way_at, choices_up_to}
use Rattle.fancy_regex_program_laws.proofs.Denote.{PersistentState}
use Rattle.fancy_regex_program_laws.proofs.Runs.{lt_yes, lt_no}
use Rattle.fancy_regex_program_laws.proofs.Trail.{Open, Close, At, Trail, TrailOutcome, TrailContinuation, TrailSuccess, after_open, folded, states, opened, trail}
use Rattle.fancy_regex_program_laws.proofs.WaysOf.{states_trail, opened_trail}

abbrev pub outcome_of : Option FoundMatch → TrailOutcome
outcome_of answer = record { answer = answer; branches = 0; claimed = true }

abbrev pub better : Option FoundMatch → FoundMatch → Option FoundMatch
better None h = Some h
better (Some b) h = cond (nat_lt b.position h.position) (Some h) (Some b)

abbrev bests : Option FoundMatch → List FoundMatch → Option FoundMatch
bests best [] = best
bests best (h ∷ hs) = bests (better best h) hs

-- what is held with that way, and that limit
abbrev pub holding : ℕ → Option FoundMatch → PersistentState
holding l best = record { best_match = best; limit = l }

module _ (find : Search) (whole : Bool) where
  abbrev pub found_by_way : MatchState → FoundMatch
  found_by_way w = record { position = w.position; start = cond whole w.match_start 0; slots = slots_of_match whole w }

  -- what follows a way at the program's end
  abbrev pub at_end : Bool → TrailSuccess
  at_end longest v x state =
      cond (is_admitted find v) (cond longest (x (holding state.limit (better state.best_match (found_by_way v)))) (outcome_of (Some (found_by_way v)))) (x state)

  abbrev wanted : Trail → List MatchState
  wanted es = filter (is_admitted find) (states es)

  -- the outcome of each way is claimed
  claims_ways : (longest : Bool) (r : TrailContinuation) → ((state : PersistentState) → (r state).claimed ≡ true) → (es : Trail) (state : PersistentState) → (folded (at_end longest) r es state).claimed ≡ true
  claims_ways longest r h [] state = h state
  claims_ways longest r h (Open ∷ es) state = claims_ways longest r h es state
  claims_ways longest r h (Close ∷ es) state = claims_ways longest r h es state
  claims_ways longest r h (At w ∷ es) state =
      at_way (is_admitted find w) longest (claims_ways longest r h es (holding state.limit (better state.best_match (found_by_way w)))) (claims_ways longest r h es state)
    where
      rest : TrailContinuation
      rest = folded (at_end longest) r es

      at_way : (admitted last : Bool) → (rest (holding state.limit (better state.best_match (found_by_way w)))).claimed ≡ true → (rest state).claimed ≡ true →
          (cond admitted (cond last (rest (holding state.limit (better state.best_match (found_by_way w)))) (outcome_of (Some (found_by_way w)))) (rest state)).claimed ≡ true
      at_way true true claims passed = claims
      at_way true false claims passed = refl
      at_way false last claims passed = passed

  -- with longest, all ways are seen
  all_answer : (r : TrailContinuation) (es : Trail) (l : ℕ) (best : Option FoundMatch) →
      (folded (at_end true) r es (holding l best)).answer ≡ (r (holding l (bests best (map found_by_way (wanted es))))).answer
  all_answer r [] l best = refl
  all_answer r (Open ∷ es) l best = all_answer r es l best
  all_answer r (Close ∷ es) l best = all_answer r es l best
  all_answer r (At w ∷ es) l best =
      elim (is_admitted find w) as (λ b. (cond b (folded (at_end true) r es (holding l (better best (found_by_way w)))) (folded (at_end true) r es (holding l best))).answer
      ≡ (r (holding l (bests best (map found_by_way (cond b (w ∷ wanted es) (wanted es)))))).answer) [
        | true ↦ all_answer r es l (better best (found_by_way w))
        | false ↦ all_answer r es l best
      ]

  all_opened : (r : TrailContinuation) (es : Trail) (l : ℕ) (best : Option FoundMatch) →
      (folded (at_end true) r es (holding l best)).branches ≤ opened es + (r (holding l (bests best (map found_by_way (wanted es))))).branches
  all_opened r [] l best = omega arith
  all_opened r (Open ∷ es) l best = omega (arith, all_opened r es l best)
  all_opened r (Close ∷ es) l best = omega (arith, all_opened r es l best)
  all_opened r (At w ∷ es) l best =
      elim (is_admitted find w) as (λ b. (cond b (folded (at_end true) r es (holding l (better best (found_by_way w)))) (folded (at_end true) r es (holding l best))).branches
      ≤ opened es + (r (holding l (bests best (map found_by_way (cond b (w ∷ wanted es) (wanted es)))))).branches) [
        | true ↦ all_opened r es l (better best (found_by_way w))
        | false ↦ all_opened r es l best
      ]

  -- else the first
  abbrev first_outcome : TrailOutcome → List MatchState → TrailOutcome
  first_outcome t [] = t
  first_outcome t (w ∷ ws) = outcome_of (Some (found_by_way w))

  first_answer : (r : TrailContinuation) (es : Trail) (state : PersistentState) → (folded (at_end false) r es state).answer ≡ (first_outcome (r state) (wanted es)).answer
  first_answer r [] state = refl
  first_answer r (Open ∷ es) state = first_answer r es state
  first_answer r (Close ∷ es) state = first_answer r es state
  first_answer r (At w ∷ es) state =
      elim (is_admitted find w) as (λ b. (cond b (outcome_of (Some (found_by_way w))) (folded (at_end false) r es state)).answer
      ≡ (first_outcome (r state) (cond b (w ∷ wanted es) (wanted es))).answer) [
        | true ↦ refl
        | false ↦ first_answer r es state
      ]

  first_opened : (r : TrailContinuation) (es : Trail) (state : PersistentState) → (folded (at_end false) r es state).branches ≤ opened es + (first_outcome (r state) (wanted es)).branches
  first_opened r [] state = omega arith
  first_opened r (Open ∷ es) state = omega (arith, first_opened r es state)
  first_opened r (Close ∷ es) state = omega (arith, first_opened r es state)
  first_opened r (At w ∷ es) state =
      elim (is_admitted find w) as (λ b. (cond b (outcome_of (Some (found_by_way w))) (folded (at_end false) r es state)).branches
      ≤ opened es + (first_outcome (r state) (cond b (w ∷ wanted es) (wanted es))).branches) [
        | true ↦ omega arith
        | false ↦ first_opened r es state
      ]

  -- keeping the one that ends farther, one after the other, gives the first of those that end farthest
  bests_some : (b : MatchState) (ws : List MatchState) → bests (Some (found_by_way b)) (map found_by_way ws) ≡ Some (found_by_way (farther b (first_longest ws)))
  bests_some b [] = refl
  bests_some b (w ∷ ws) =
      ⊎_elim
      (λ (lt : b.position < w.position).
      ap (λ c. bests (cond c (Some (found_by_way w)) (Some (found_by_way b))) (map found_by_way ws)) (lt_yes b.position w.position lt)
      ∙ bests_some w ws ∙ ap (λ v. Some (found_by_way v)) (sym (past b w (first_longest ws) lt)))
      (λ (ge : w.position ≤ b.position).
      ap (λ c. bests (cond c (Some (found_by_way w)) (Some (found_by_way b))) (map found_by_way ws)) (lt_no b.position w.position ge)
      ∙ bests_some b ws ∙ ap (λ v. Some (found_by_way v)) (sym (stays b w (first_longest ws) ge)))
      (cases_lt b.position w.position)
    where
      past : (b w : MatchState) (o : Option MatchState) → b.position < w.position → farther b (Some (farther w o)) ≡ farther w o
      past b w None lt = ap (λ c. cond c w b) (lt_yes b.position w.position lt)
      past b w (Some v) lt =
          ⊎_elim
          (λ (further : w.position < v.position).
          ap (λ c. farther b (Some (cond c v w))) (lt_yes w.position v.position further) ∙ ap (λ c. cond c v b) (lt_yes b.position v.position (omega arith))
          ∙ sym (ap (λ c. cond c v w) (lt_yes w.position v.position further)))
          (λ (ge : v.position ≤ w.position).
          ap (λ c. farther b (Some (cond c v w))) (lt_no w.position v.position ge) ∙ ap (λ c. cond c w b) (lt_yes b.position w.position lt)
          ∙ sym (ap (λ c. cond c v w) (lt_no w.position v.position ge)))
          (cases_lt w.position v.position)

      stays : (b w : MatchState) (o : Option MatchState) → w.position ≤ b.position → farther b (Some (farther w o)) ≡ farther b o
      stays b w None ge = ap (λ c. cond c w b) (lt_no b.position w.position ge)
      stays b w (Some v) ge =
          ⊎_elim
          (λ (further : w.position < v.position). ap (λ c. farther b (Some (cond c v w))) (lt_yes w.position v.position further))
          (λ (le : v.position ≤ w.position).
          ap (λ c. farther b (Some (cond c v w))) (lt_no w.position v.position le) ∙ ap (λ c. cond c w b) (lt_no b.position w.position ge)
          ∙ sym (ap (λ c. cond c v b) (lt_no b.position v.position (omega arith))))
          (cases_lt w.position v.position)

  bests_none : (ws : List MatchState) → bests None (map found_by_way ws) ≡ option_map found_by_way (first_longest ws)
  bests_none [] = refl
  bests_none (w ∷ ws) = bests_some w ws

  abbrev chosen_outcome : TrailOutcome → Option MatchState → TrailOutcome
  chosen_outcome t None = t
  chosen_outcome t (Some w) = outcome_of (Some (found_by_way w))

  first_chosen : (t : TrailOutcome) (ws : List MatchState) → first_outcome t ws ≡ chosen_outcome t (first_item ws)
  first_chosen t [] = refl
  first_chosen t (w ∷ ws) = refl

  module _ (l : ℕ) (r : TrailContinuation) (over : (h : FoundMatch) → r (holding l (Some h)) ≡ outcome_of (Some h)) where
    longest_chosen : (o : Option MatchState) → r (holding l (option_map found_by_way o)) ≡ chosen_outcome (r (holding l None)) o
    longest_chosen None = refl
    longest_chosen (Some w) = over (found_by_way w)

    attempt_answer : (longest : Bool) (es : Trail) →
        (folded (at_end longest) r es (holding l None)).answer ≡ (chosen_outcome (r (holding l None)) (chosen longest (wanted es))).answer
    attempt_answer false es = first_answer r es (holding l None) ∙ ap (λ t. t.answer) (first_chosen (r (holding l None)) (wanted es))
    attempt_answer true es =
        all_answer r es l None ∙ ap (λ o. (r (holding l o)).answer) (bests_none (wanted es)) ∙ ap (λ t. t.answer) (longest_chosen (first_longest (wanted es)))

    attempt_opened : (longest : Bool) (es : Trail) →
        (folded (at_end longest) r es (holding l None)).branches ≤ opened es + (chosen_outcome (r (holding l None)) (chosen longest (wanted es))).branches
    attempt_opened false es = omega (arith, first_opened r es (holding l None), ap (λ t. t.branches) (first_chosen (r (holding l None)) (wanted es)))
    attempt_opened true es =
        omega (arith, all_opened r es l None, ap (λ o. (r (holding l o)).branches) (bests_none (wanted es)), ap (λ t. t.branches) (longest_chosen (first_longest (wanted es))))

abbrev pub else_outcome : Option FoundMatch → TrailOutcome → TrailOutcome
else_outcome None t = t
else_outcome (Some h) t = outcome_of (Some h)

module _ (r : RunParameters) (p : CorePattern) (whole : Bool) (count : ℕ) (first : ℕ) (ok : IsWritable first count p) (small : length r.setting.text < unset) where
  abbrev pub end_follow : TrailSuccess
  end_follow = at_end r.find whole r.find.options.longest

  abbrev pub trail_from : ℕ → Trail
  trail_from q = trail r.setting (tail_bound r.find) p (entry_way count q)

  -- a branch for the next start, if there is one
  abbrev pub with_next : List ℕ → TrailContinuation → TrailContinuation
  with_next [] x = x
  with_next (q ∷ qs) x = after_open x

  -- the outcome where the start before has no way left: a match that was found, or that of the other starts
  abbrev pub after : List ℕ → TrailContinuation
  after [] state = outcome_of state.best_match
  after (q ∷ qs) state = else_outcome state.best_match (with_next qs (folded end_follow (after qs) (trail_from q)) state)

  abbrev pub search_outcome : ℕ → List ℕ → TrailContinuation
  search_outcome q qs = with_next qs (folded end_follow (after qs) (trail_from q))

  next_claims : (qs : List ℕ) (x : TrailContinuation) (state : PersistentState) → (x state).claimed ≡ true → (with_next qs x state).claimed ≡ true
  next_claims [] x state h = h
  next_claims (q ∷ qs) x state h = h

  after_claims : (qs : List ℕ) (state : PersistentState) → (after qs state).claimed ≡ true
  after_claims [] state = refl
  after_claims (q ∷ qs) state =
      best_or state.best_match
      (next_claims qs (folded end_follow (after qs) (trail_from q)) state
      (claims_ways r.find whole r.find.options.longest (after qs) (after_claims qs) (trail_from q) state))
    where
      best_or : (o : Option FoundMatch) → (search_outcome q qs state).claimed ≡ true → (else_outcome o (search_outcome q qs state)).claimed ≡ true
      best_or None h = h
      best_or (Some found) h = refl

  pub search_claims : (q : ℕ) (qs : List ℕ) (state : PersistentState) → (search_outcome q qs state).claimed ≡ true
  search_claims q qs state =
      next_claims qs (folded end_follow (after qs) (trail_from q)) state
      (claims_ways r.find whole r.find.options.longest (after qs) (after_claims qs) (trail_from q) state)

  next_answer : (qs : List ℕ) (x : TrailContinuation) (state : PersistentState) → (with_next qs x state).answer ≡ (x state).answer
  next_answer [] x state = refl
  next_answer (q ∷ qs) x state = refl

  next_opened : (qs : List ℕ) (x : TrailContinuation) (state : PersistentState) → (with_next qs x state).branches ≤ 1 + (x state).branches
  next_opened [] x state = omega arith
  next_opened (q ∷ qs) x state = omega arith

  after_kept : (qs : List ℕ) (l : ℕ) (h : FoundMatch) → after qs (holding l (Some h)) ≡ outcome_of (Some h)
  after_kept [] l h = refl
  after_kept (q ∷ qs) l h = refl

  ways_are : (q : ℕ) → chosen r.find.options.longest (filter (is_admitted r.find) (states (trail_from q))) ≡ way_at r p count q
  ways_are q = ap (λ ws. chosen r.find.options.longest (filter (is_admitted r.find) ws)) (states_trail r.setting (tail_bound r.find) small first count p ok (entry_way count q))

  module _ (l : ℕ) where
    abbrev fresh : PersistentState
    fresh = holding l None

    abbrev Finds : List ℕ → Type 0
    Finds qs = (after qs fresh).answer ≡ option_map (found_by_way r.find whole) (first_some (way_at r p count) qs)

    picked : (o : Option MatchState) (qs : List ℕ) → Finds qs →
        (chosen_outcome r.find whole (after qs fresh) o).answer ≡ option_map (found_by_way r.find whole) (elim o [ None ↦ first_some (way_at r p count) qs | Some y ↦ Some y ])
    picked None qs h = h
    picked (Some w) qs h = refl

    one_start : (q : ℕ) (qs : List ℕ) → Finds qs → (search_outcome q qs fresh).answer ≡ option_map (found_by_way r.find whole) (first_some (way_at r p count) (q ∷ qs))
    one_start q qs h =
        next_answer qs (folded end_follow (after qs) (trail_from q)) fresh
        ∙ attempt_answer r.find whole l (after qs) (after_kept qs l) r.find.options.longest (trail_from q)
        ∙ ap (λ o. (chosen_outcome r.find whole (after qs fresh) o).answer) (ways_are q)
        ∙ picked (way_at r p count q) qs h

    finds : (qs : List ℕ) → Finds qs
    finds [] = refl
    finds (q ∷ qs) = one_start q qs (finds qs)

    pub search_answer : (q : ℕ) (qs : List ℕ) → (search_outcome q qs fresh).answer ≡ option_map (found_by_way r.find whole) (first_some (way_at r p count) (q ∷ qs))
    search_answer q qs = one_start q qs (finds qs)

    counted : (o : Option MatchState) (qs : List ℕ) (n : ℕ) → (after qs fresh).branches ≤ n →
        (chosen_outcome r.find whole (after qs fresh) o).branches ≤ cond (is_some o) 0 n
    counted None qs n h = h
    counted (Some w) qs n h = omega arith

    one_start_opened : (q : ℕ) (qs : List ℕ) → (after qs fresh).branches ≤ choices_up_to r p count qs → (search_outcome q qs fresh).branches ≤ choices_up_to r p count (q ∷ qs)
    one_start_opened q qs h =
        omega (
          arith,
          next_opened qs (folded end_follow (after qs) (trail_from q)) fresh,
          attempt_opened r.find whole l (after qs) (after_kept qs l) r.find.options.longest (trail_from q),
          ap (λ o. (chosen_outcome r.find whole (after qs fresh) o).branches) (ways_are q),
          counted (way_at r p count q) qs (choices_up_to r p count qs) h,
          opened_trail r.setting (tail_bound r.find) small first count p ok (entry_way count q),
        )

    opens_few : (qs : List ℕ) → (after qs fresh).branches ≤ choices_up_to r p count qs
    opens_few [] = omega arith
    opens_few (q ∷ qs) = one_start_opened q qs (opens_few qs)

    pub search_opened : (q : ℕ) (qs : List ℕ) → (search_outcome q qs fresh).branches ≤ choices_up_to r p count (q ∷ qs)
    search_opened q qs = one_start_opened q qs (opens_few qs)
