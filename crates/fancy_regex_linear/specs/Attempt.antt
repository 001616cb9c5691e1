-- An attempt to match a pattern at an offset: its answer, and the depth of its search.
use Rattle.std.specs.Prelude.{true, false, ℕ, zero, suc, ◌+◌, ◌-◌, ◌*◌, Bool, List, [], ◌∷◌, Option, Some, None, if◌then◌else◌, slice_set}
use Rattle.fancy_regex_linear.specs.Re.{Re, nothing, read, test, cat, alt, group, repeat, ask, atomic, conditional}
use Rattle.fancy_regex_states.specs.Attempts.{View, Trace, AttemptResult, Continuation, score, better, failed, guard, save, either, reads, accept, asked, passed, pick, stepped}
use Rattle.fancy_regex_linear.specs.Meaning.{Spot, is_unbounded}

abbrev pub better_spot : Bool → Option Spot → Option Spot → Option Spot
better_spot longest = better (λ s. score longest s.at)

unfoldable pub times_try : (Continuation → Continuation) → ℕ → Continuation → Continuation
times_try body zero k i = k i
times_try body (suc n) k i = body (times_try body n k) i

module _ (longest : Bool) where
  -- a greedy loop prefers another iteration, a lazy one prefers the exit
  abbrev pub prefer : Bool → AttemptResult → AttemptResult → AttemptResult
  prefer greedy iteration exit = if greedy then either longest iteration exit else either longest exit iteration

  -- A loop of at most n iterations that move.
  unfoldable pub iterations : Bool → (Continuation → Continuation) → Continuation → ℕ → Continuation
  iterations greedy body k zero i = prefer greedy (body (pick i k (λ _. failed)) i) (k i)
  iterations greedy body k (suc n) i = prefer greedy (body (pick i k (iterations greedy body k n)) i) (k i)

  unfoldable pub upto_try : Bool → (Continuation → Continuation) → ℕ → Continuation → Continuation
  upto_try greedy body zero k i = k i
  upto_try greedy body (suc n) k i = prefer greedy (body (upto_try greedy body n k) i) (k i)

  -- a loop, with room for the iterations that move
  abbrev pub star_try : ℕ → Bool → (Continuation → Continuation) → Continuation → Continuation
  star_try stop greedy body k i = iterations greedy body k (stop - i) i

  -- the iterations at or past the least count: without a bound, or at most n of them
  unfoldable pub tail_try : Bool → ℕ → Bool → (Continuation → Continuation) → ℕ → Continuation → Continuation
  tail_try true stop greedy body n k i = star_try stop greedy body k i
  tail_try false stop greedy body n k i = upto_try greedy body n k i

-- what follows so many characters before
unfoldable pub behind : View → ℕ → Continuation → Continuation
behind view zero k i = k i
behind view (suc n) k i = stepped (view.back i) i (behind view n k)

module _ (view : View) (stop : ℕ) where
  -- `attempt pattern k i`: match the pattern from i, and then k from where that end_spot
  unfoldable pub attempt : Re → Continuation → Continuation
  attempt nothing k i = k i
  attempt (read leaf) k i = guard (reads view stop leaf i) (k (view.next i))
  attempt (test check) k i = guard (view.holds check i) (k i)
  attempt (cat a b) k i = attempt a (attempt b k) i
  attempt (alt a b) k i = either view.longest (attempt a k i) (attempt b k i)
  attempt (group g a) k i = save (2 * g) i (attempt a (λ j. save (2 * g + 1) j (k j)) i)
  attempt (repeat lo hi greedy strict a) k i =
      times_try (attempt a) lo (tail_try view.longest (is_unbounded hi) stop greedy (attempt a) (hi - lo) k) i
  attempt (ask negated back a) k i = asked negated (behind view back (attempt a accept) i) (k i)
  attempt (atomic a) k i = passed (attempt a accept i) k
  attempt (conditional c a b) k i =
      either view.longest (passed (attempt c accept i) (attempt a k)) (asked true (attempt c accept i) (attempt b k i))

-- the slots after these writes
unfoldable pub apply : List (ℕ × ℕ) → List ℕ → List ℕ
apply [] slots = slots
apply (w ∷ ws) slots = apply ws (slice_set slots w.0 w.1)

-- where a try ends that has these slots so far
unfoldable pub trace_end : List ℕ → Option Trace → Option Spot
trace_end slots None = None
trace_end slots (Some t) = Some (record { at = t.end; slots = apply t.writes slots })
