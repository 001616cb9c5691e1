use Rattle.std.proofs.Common.{◌≡◌, ◌++◌, chars, string_bytes, length, IsUtf8}
use Rattle.fancy_regex_tree.specs.Printed.{escaped}
use Rattle.fancy_regex_tree.proofs.print_text.print_escaped.Given as goal

abbrev pub decreases-loop-c : goal.decreases-loop-c
decreases-loop-c l = length (chars l.left)

abbrev pub invariant-loop-c : goal.invariant-loop-c
invariant-loop-c l =
    (IsUtf8 l.left) × (chars (string_bytes l.out) ++ escaped (chars l.left) ≡ chars (string_bytes l.initial.out) ++ escaped (chars l.initial.left))
