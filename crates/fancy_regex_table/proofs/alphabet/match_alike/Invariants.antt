use Rattle.std.proofs.Common.{◌<◌, ℕ, get_or}
use Rattle.fancy_regex_states.specs.declared.atom.Leaf.{Leaf}
use Rattle.fancy_regex_table.specs.Alphabets.{MatchesAlike}
use Rattle.fancy_regex_table.proofs.alphabet.match_alike.Given as goal

abbrev pub invariant-loop-i : goal.invariant-loop-i
invariant-loop-i l = (k : ℕ) (d : Leaf) → k < l.i → MatchesAlike l.reader.unicode l.reader.matchers.now l.one l.other (get_or l.leaves k d)
