use Rattle.std.proofs.Common.{length, ◌-◌, ◌≡◌, ◌≤◌, drop}
use Rattle.fancy_regex_meaning.specs.Positions as places
use Rattle.fancy_regex_prefilter.proofs.assertion.newlines_end.Given as goal

abbrev pub invariant-loop-at : goal.invariant-loop-at
invariant-loop-at l = (l.position ≤ l.at) × (places.are_newlines l.crlf (drop l.position l.text) ≡ places.are_newlines l.crlf (drop l.at l.text))

abbrev pub decreases-loop-at : goal.decreases-loop-at
decreases-loop-at l = length l.text - l.at
