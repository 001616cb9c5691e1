-- The outcome of a search, start after start: what its trails say of it is the result of the search.
use Rattle.std.proofs.Common.{◌≡◌, ℕ, ◌<◌, Bool, true, false, List, [], ◌∷◌, length, Option, Some, None, refl, cond}
use Rattle.fancy_regex_meaning.specs.Searches.{is_admitted}
use Rattle.fancy_regex_desugar.specs.CorePatterns.{CorePattern}
use Rattle.fancy_regex_desugar.specs.Delegates.{tail_bound}
use Rattle.fancy_regex_program.specs.Machine.{unset, RunParameters}
use Rattle.fancy_regex_program.specs.Shapes.{IsWritable}
use Rattle.fancy_regex_program_laws.specs.ProgramLaws.{FoundMatch, entry_way}
use Rattle.fancy_regex_program_laws.proofs.Denote.{Outcome, RunPoint, Continuation, SuccessContinuation, opens, backs, ending}
use Rattle.fancy_regex_program_laws.proofs.Trail.{TrailOutcome, TrailContinuation, bounded, Alike, AlikeAfter, alike_opens, alike_backs, folded, ending_trail}
use Rattle.fancy_regex_program_laws.proofs.StartByStart.{outcome_of, better, holding, found_by_way, else_outcome, end_follow, trail_from, with_next, after, search_outcome}

-- a run that is over
abbrev pub ended_with : Option FoundMatch → Outcome
ended_with answer = record { answer = answer; branches = 0; claimed = true; backtracks = 0; peak = 0; overflow = None }

-- with that best match
abbrev pub keeping : Option FoundMatch → RunPoint → RunPoint
keeping best at = record { held = holding at.held.limit best; height = at.height }

abbrev pub else_ended : Option FoundMatch → Outcome → Outcome
else_ended None t = t
else_ended (Some h) t = ended_with (Some h)

-- a branch for the next start, if there is one
abbrev pub with_branch : List ℕ → Continuation → Continuation
with_branch [] x = x
with_branch (q ∷ qs) x = opens x

-- where a search begins
abbrev pub at_first : RunPoint
at_first = record { held = holding unset None; height = 0 }

module _ (r : RunParameters) (p : CorePattern) (whole : Bool) (count : ℕ) where
  -- what follows a way at the program's end
  abbrev pub at_finish : SuccessContinuation
  at_finish v x at =
      cond (is_admitted r.find v)
      (cond r.find.options.longest (x (keeping (better at.held.best_match (found_by_way r.find whole v)) at)) (ended_with (Some (found_by_way r.find whole v)))) (x at)

  abbrev pub from_start : ℕ → Continuation → Continuation
  from_start q x = ending r.setting (tail_bound r.find) p (entry_way count q) at_finish x

  -- the outcome where the start before has no way left: a match that was found, or that of the other starts
  abbrev pub others : List ℕ → Continuation
  others [] at = ended_with at.held.best_match
  others (q ∷ qs) at = else_ended at.held.best_match (backs (with_branch qs (from_start q (others qs))) at)

  abbrev pub search_ends : ℕ → List ℕ → Continuation
  search_ends q qs = with_branch qs (from_start q (others qs))

  -- of a search over these starts
  abbrev pub search_total : List ℕ → Outcome
  search_total [] = ended_with None
  search_total (q ∷ qs) = search_ends q qs at_first

  module _ (first : ℕ) (ok : IsWritable first count p) (small : length r.setting.text < unset) where
    alike_finish : AlikeAfter at_finish (end_follow r p whole count first ok small)
    alike_finish v x y h at = step (is_admitted r.find v) r.find.options.longest
      where
        found : FoundMatch
        found = found_by_way r.find whole v

        step : (a last : Bool) → bounded (cond a (cond last (x (keeping (better at.held.best_match found) at)) (ended_with (Some found))) (x at))
            ≡ cond a (cond last (y (holding at.held.limit (better at.held.best_match found))) (outcome_of (Some found))) (y at.held)
        step true true = h (keeping (better at.held.best_match found) at)
        step true false = refl
        step false last = h at

    alike_next : (qs : List ℕ) (x : Continuation) (y : TrailContinuation) → Alike x y → Alike (with_branch qs x) (with_next r p whole count first ok small qs y)
    alike_next [] x y h = h
    alike_next (q ∷ qs) x y h = alike_opens x y h

    alike_start : (q : ℕ) (qs : List ℕ) → Alike (others qs) (after r p whole count first ok small qs) → Alike (search_ends q qs) (search_outcome r p whole count first ok small q qs)
    alike_start q qs h =
        alike_next qs (from_start q (others qs)) (folded (end_follow r p whole count first ok small) (after r p whole count first ok small qs) (trail_from r p whole count first ok small q))
        (ending_trail r.setting (tail_bound r.find) p (entry_way count q) at_finish (end_follow r p whole count first ok small) (others qs) (after r p whole count first ok small qs) alike_finish h)

    alike_others : (qs : List ℕ) → Alike (others qs) (after r p whole count first ok small qs)
    alike_others [] at = refl
    alike_others (q ∷ qs) at =
        by_best at.held.best_match (backs (search_ends q qs) at) (search_outcome r p whole count first ok small q qs at.held)
        (alike_backs (search_ends q qs) (search_outcome r p whole count first ok small q qs) (alike_start q qs (alike_others qs)) at)
      where
        by_best : (o : Option FoundMatch) (t : Outcome) (e : TrailOutcome) → bounded t ≡ e → bounded (else_ended o t) ≡ else_outcome o e
        by_best None t e h = h
        by_best (Some found) t e h = refl

    -- what the trails say of the search
    pub search_alike : (q : ℕ) (qs : List ℕ) → Alike (search_ends q qs) (search_outcome r p whole count first ok small q qs)
    search_alike q qs = alike_start q qs (alike_others qs)
