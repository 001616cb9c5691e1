-- Quick searches: where a state leads, which ways are left open, and what was found.
use Rattle.std.specs.Prelude.{◌≡◌, ℕ, ◌<◌, List, [], ◌∷◌, reverse, take, Option, Some, None}
use Rattle.fancy_regex_states.specs.Attempts.{Continuation}
use Rattle.fancy_regex_table.specs.Ends.{or_else, end_at}
use Rattle.fancy_regex_linear.specs.Search.{IsPair}
use Rattle.fancy_regex_linear.specs.declared.frame.SearchStep.{SearchStep}
use Rattle.fancy_regex_linear.specs.declared.frame.SearchStep.TheVariants.{Pair, Backtrack, Matched}
use Rattle.fancy_regex_linear.specs.declared.quick.Lead.{Lead}
use Rattle.fancy_regex_linear.specs.declared.quick.Lead.TheVariants as lead
use Rattle.fancy_regex_linear.specs.declared.open_pairs.OpenPair.{OpenPair}
use Rattle.fancy_regex_linear.specs.declared.open_pairs.OpenPairs.{OpenPairs}
use Rattle.fancy_regex_linear.specs.declared.quick.Quick.{Quick}
use Rattle.fancy_regex_linear.specs.declared.quick.Quick.TheVariants as quick

-- the pairs that are to be tried, the next one first
unfoldable pub open_of : OpenPairs → List OpenPair
open_of waiting = reverse (take waiting.count waiting.pairs)

-- they are pairs of a state, and of a place of the text up to the stop
abbrev pub AreWithin : List ℕ → ℕ → ℕ → List OpenPair → Type 0
AreWithin text count stop [] = Unit {0}
AreWithin text count stop (pair ∷ rest) = IsPair text count stop 0 pair.state pair.at × AreWithin text count stop rest

-- the end of the first of them that has one
abbrev pub open_end : (ℕ → Continuation) → List OpenPair → Option ℕ
open_end go [] = None
open_end go (pair ∷ rest) = or_else (end_at go pair.at pair.state) (open_end go rest)

-- the attempt from the state q at the place i ends as was found, if it was not given up
abbrev pub IsQuickEnd : (ℕ → Continuation) → ℕ → ℕ → Quick → Type 0
IsQuickEnd go q i (quick.Ends end) = end_at go i q ≡ Some end
IsQuickEnd go q i quick.Fails = end_at go i q ≡ None
IsQuickEnd go q i quick.GivenUp = Unit {0}

-- the attempt from the state q at the place i ends as those that it leads to
abbrev pub IsLead : (ℕ → Continuation) → ℕ → ℕ → Lead → Type 0
IsLead go q i (lead.On p j) = end_at go i q ≡ end_at go j p
IsLead go q i (lead.Branches first second) = end_at go i q ≡ or_else (end_at go i first) (end_at go i second)
IsLead go q i lead.Fails = end_at go i q ≡ None
IsLead go q i lead.Ends = end_at go i q ≡ Some i

-- it leads to states, and to places of the text up to the stop
abbrev pub IsLeadWithin : List ℕ → ℕ → ℕ → Lead → Type 0
IsLeadWithin text count stop (lead.On p j) = IsPair text count stop 0 p j
IsLeadWithin text count stop (lead.Branches first second) = (first < count) × (second < count)
IsLeadWithin text count stop lead.Fails = Unit {0}
IsLeadWithin text count stop lead.Ends = Unit {0}

-- where a step leads over a state that reads
abbrev pub lead_of_step : SearchStep → Lead
lead_of_step (Pair p j) = lead.On p j
lead_of_step Backtrack = lead.Fails
lead_of_step Matched = lead.Fails
