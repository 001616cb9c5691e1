-- The meaning of a pattern's program, in continuation-passing style: k continues after a way, and r where no way is left.
use Rattle.std.proofs.Common.{ℕ, zero, suc, ◌+◌, ◌-◌, Bool, false, List, [], ◌∷◌, Option, Some, None, length, cond}
use Rattle.std.specs.Prelude.{◌==◌, max, is_some, option_map, nat_le, nat_lt}
use Rattle.std.specs.List.{filter}
use Rattle.regex_hir.specs.Text.{is_some_and}
use Rattle.fancy_regex_tree.specs.Tree.{Text}
use Rattle.fancy_regex_meaning.specs.Positions.{position_before, boundaries}
use Rattle.fancy_regex_meaning.specs.Ways.{MatchState, Setting, with_position, set_pair, pair_of, holds}
use Rattle.fancy_regex_desugar.specs.CorePatterns.{CorePattern, nothing, read, general_newline, check, continue, keep_out, fail, cat, alt, group, ahead, never, back, atomic, delegate, tail, repeat, backref, exists, conditional, absent, called}
use Rattle.fancy_regex_desugar.specs.Delegates.{first_end, first_end_until}
use Rattle.fancy_regex_desugar.specs.CoreWays.{passes}
use Rattle.fancy_regex_program_laws.specs.ProgramLaws.{FoundMatch}
use Rattle.fancy_regex_program.specs.Machine.{unset, most_branches, lower, match_char, match_text, match_newline, match_backref}

-- The outcome of a run from a place: its answer, how often it backtracks, the most branches that are open, and the number of backtracks
-- before more than `most_branches` branches are first open. Besides how many branches it opens, which is a bound of these numbers. It says
-- something of a run only where it is claimed.
pub record Outcome : Type 0 where
  pub answer : Option FoundMatch
  pub branches : ℕ
  pub claimed : Bool
  pub backtracks : ℕ
  pub peak : ℕ
  pub overflow : Option ℕ

-- The state that backtracking does not undo: the best match so far, and the limit of the current absent repeater.
pub record PersistentState : Type 0 where
  pub best_match : Option FoundMatch
  pub limit : ℕ

-- That state, and the height of the stack: how many branches are open.
pub record RunPoint : Type 0 where
  pub held : PersistentState
  pub height : ℕ

-- what a run ends as from there, in that state and above so many branches
abbrev pub Continuation : Type 0
Continuation = RunPoint → Outcome

abbrev pub SuccessContinuation : Type 0
SuccessContinuation = MatchState → Continuation → Continuation

-- what a run from a way ends as, by what follows it and what is left otherwise
abbrev pub Denotation : Type 0
Denotation = MatchState → SuccessContinuation → Continuation → Continuation

-- the same state above so many branches
abbrev pub at_height : ℕ → RunPoint → RunPoint
at_height height at = record { held = at.held; height = height }

abbrev pub one_lower : ℕ → ℕ
one_lower zero = zero
one_lower (suc n) = n

-- what an overflow is where the stack has been so high before
abbrev pub overflowed : ℕ → Option ℕ → Option ℕ
overflowed height overflow = cond (nat_lt most_branches height) (Some 0) overflow

-- a branch that was opened, which made the stack so high
abbrev pub opened_to : ℕ → Outcome → Outcome
opened_to height t = record {
  answer = t.answer;
  branches = suc t.branches;
  claimed = t.claimed;
  backtracks = t.backtracks;
  peak = max height t.peak;
  overflow = overflowed height t.overflow;
}

-- after one backtrack
abbrev pub gone_back : Outcome → Outcome
gone_back t = record {
  answer = t.answer;
  branches = t.branches;
  claimed = t.claimed;
  backtracks = suc t.backtracks;
  peak = t.peak;
  overflow = option_map suc t.overflow;
}

-- after a branch that was taken up again, which is no backtrack
abbrev pub closed_again : Outcome → Outcome
closed_again t = record {
  answer = t.answer;
  branches = t.branches - 1;
  claimed = t.claimed;
  backtracks = t.backtracks;
  peak = t.peak;
  overflow = t.overflow;
}

-- one branch more
abbrev pub opens : Continuation → Continuation
opens r at = opened_to (suc at.height) (r (at_height (suc at.height) at))

-- the run backtracks to the last branch
abbrev pub backs : Continuation → Continuation
backs r at = gone_back (r (at_height (one_lower at.height) at))

-- a branch of an absent repeater is taken up again, which is no backtrack
abbrev pub closes : Continuation → Continuation
closes r at = closed_again (r (at_height (one_lower at.height) at))

-- the branches above a height are dropped
abbrev pub drops_to : ℕ → Continuation → Continuation
drops_to height r at = r (at_height height at)

-- the outcome where no run comes, which claims nothing
abbrev pub no_claim : Continuation
no_claim at = record { answer = None; branches = 0; claimed = false; backtracks = 0; peak = 0; overflow = None }

-- goes on at the place, if there is one
abbrev pub end_to : Option ℕ → Denotation
end_to None w k r = r
end_to (Some q) w k r = k (with_position w q) r

-- with a bound at the end that is found for it, and without as the run
abbrev pub end_within : Option ℕ → (ℕ → ℕ → Option ℕ) → Denotation → Denotation
end_within None end g w k r = g w k r
end_within (Some stop) end g w k r = end_to (end stop w.position) w k r

abbrev pub end_if : Bool → Denotation
end_if b w k r = cond b (k w r) r

-- the first way alone: the branches that were opened before it are dropped
abbrev pub end_first : Denotation → Denotation
end_first g w k r at = g w (λ v x. drops_to at.height (k v r)) r at

-- goes on where there is no way
abbrev pub end_never : Denotation → Denotation
end_never g w k r at = opens (g w (λ v x. drops_to at.height r) (backs (k w r))) at

-- goes on by the first way of the first, and else by the last
abbrev pub end_choice : Denotation → Denotation → Denotation → Denotation
end_choice c a b w k r at = opens (c w (λ v x. drops_to at.height (a v k r)) (backs (b w k r))) at

-- another turn first, or the stop first
abbrev pub end_pick : Bool → Denotation → MatchState → SuccessContinuation → SuccessContinuation → Continuation → Continuation
end_pick greedy g w again k r = opens (cond greedy (g w again (backs (k w r))) (k w (backs (g w again r))))

abbrev pub end_upto : Denotation → Bool → ℕ → Denotation
end_upto g greedy zero w k r = k w r
end_upto g greedy (suc n) w k r = end_pick greedy g w (λ v x. end_upto g greedy n v k x) k r

abbrev pub end_loop : Denotation → Bool → ℕ → Denotation
end_loop g greedy zero w k r = r
end_loop g greedy (suc n) w k r =
    end_pick greedy g w (λ v x. cond (v.position == w.position) (k v x) (end_loop g greedy n v k x)) k r

abbrev pub end_times : Denotation → ℕ → Denotation → Denotation
end_times g zero rest w k r = rest w k r
end_times g (suc n) rest w k r = g w (λ v x. end_times g n rest v k x) r

-- the places below the limit
abbrev pub below : ℕ → List ℕ → List ℕ
below l ps = filter (λ p. nat_lt p l) ps

-- an absent repeater's ends, one after the other
abbrev pub end_ends : List ℕ → Denotation
end_ends [] w k r = r
end_ends (q ∷ []) w k r = k (with_position w q) r
end_ends (q ∷ p ∷ ps) w k r = opens (k (with_position w q) (backs (end_ends (p ∷ ps) w k r)))

-- a way of its body lowers the limit
abbrev pub end_seen : SuccessContinuation
end_seen v x at = x (record { held = record { best_match = at.held.best_match; limit = lower at.held.limit v.position }; height = at.height })

-- those below the limit, where the limit was that one before
abbrev pub end_looked : List ℕ → ℕ → Denotation
end_looked done outer w k r at = end_ends (below at.held.limit done) w k r (record { held = record { best_match = at.held.best_match; limit = outer }; height = at.height })

-- the body is tried at the places that are left, in order; the places that are done stand last first
abbrev pub end_look : Denotation → List ℕ → List ℕ → ℕ → Denotation
end_look g done [] outer w k r at = end_looked done outer w k r at
end_look g done (q ∷ qs) outer w k r at =
    cond (nat_le at.held.limit q) (end_looked done outer w k r at)
    (opens (g (with_position w q) end_seen (closes (end_look g (q ∷ done) qs outer w k r))) at)

-- and from the first one on
abbrev pub end_absent : Denotation → List ℕ → Denotation
end_absent g [] w k r at = r at
end_absent g (p ∷ ps) w k r at =
    opens (g (with_position w p) end_seen (closes (end_look g (p ∷ []) ps at.held.limit w k r)))
    (record { held = record { best_match = at.held.best_match; limit = unset }; height = at.height })

module _ (s : Setting) where
  abbrev pub end_text : Text → Denotation
  end_text text w k r = end_to (match_text s.text text w.position) w k r

  abbrev pub end_again : Bool → Option (ℕ × ℕ) → Denotation
  end_again casei None w k r = r
  end_again casei (Some pair) w k r =
      cond (match_backref s casei pair.0 pair.1 w.position) (k (with_position w (w.position + (pair.1 - pair.0))) r) r

  module _ (bound : Option ℕ) where
    abbrev pub ending : CorePattern → Denotation
    ending nothing w k r = k w r
    ending (read leaf) w k r = end_to (match_char s.text (passes s leaf) w.position) w k r
    ending (general_newline unicode) w k r = end_to (match_newline s unicode w.position) w k r
    ending (check a) w k r = end_if (holds s a w.position) w k r
    ending continue w k r = end_if (is_some_and s.continue_at (λ g. g == w.position)) w k r
    ending keep_out w k r = k (record w { match_start = w.position }) r
    ending fail w k r = r
    ending (cat a b) w k r = ending a w (λ v x. ending b v k x) r
    ending (alt a b) w k r = opens (ending a w k (backs (ending b w k r)))
    ending (group n a) w k r = ending a w (λ v x. k (set_pair n (w.position, v.position) v) x) r
    ending (ahead a) w k r = ending a w (λ v x. k (with_position v w.position) x) r
    ending (never a) w k r = end_never (ending a) w k r
    ending (back n) w k r = end_to (position_before s.text n w.position) w k r
    ending (atomic a) w k r = end_first (ending a) w k r
    ending (delegate t a) w k r = end_to (first_end s t w.position) w k r
    ending (tail t a) w k r = end_within bound (first_end_until s t) (ending a) w k r
    ending (repeat a lo None greedy) w k r = end_times (ending a) lo (end_loop (ending a) greedy (length s.text + 1)) w k r
    ending (repeat a lo (Some hi) greedy) w k r = end_times (ending a) lo (end_upto (ending a) greedy (hi - lo)) w k r
    ending (backref n casei) w k r = end_again casei (pair_of w n) w k r
    ending (exists n) w k r = end_if (is_some (pair_of w n)) w k r
    ending (conditional c a b) w k r = end_choice (ending c) (ending a) (ending b) w k r
    ending (absent a) w k r = end_absent (ending a) (boundaries s.text w.position (length s.text)) w k r
    ending (called n a) w k r = ending a w k r
