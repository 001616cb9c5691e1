use Rattle.std.proofs.Common.{◌<◌, ℕ, get_or}
use Rattle.fancy_regex_states.specs.CharTests.{IsAsciiLeaf}
use Rattle.fancy_regex_states.specs.declared.atom.Leaf.{Leaf}
use Rattle.fancy_regex_states.proofs.first.are_ascii.Given as goal

abbrev pub invariant-loop-i : goal.invariant-loop-i
invariant-loop-i l = (k : ℕ) (d : Leaf) → k < l.i → IsAsciiLeaf l.unicode l.matchers (get_or l.leaves k d)
