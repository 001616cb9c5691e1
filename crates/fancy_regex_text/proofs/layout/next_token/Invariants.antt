use Rattle.std.proofs.Common.{◌≡◌, ◌≤◌, length, chars, IsUtf8}
use Rattle.fancy_regex_text.specs.Layout.{next_token, skip_layout_from}
use Rattle.fancy_regex_text.specs.LayoutStates.{layout_state_of}
use Rattle.fancy_regex_text.proofs.layout.next_token.Given as goal

abbrev pub decreases-loop-next : goal.decreases-loop-next
decreases-loop-next l = length (chars l.rest)

-- what is left is read as the whole is
abbrev pub invariant-loop-next : goal.invariant-loop-next
invariant-loop-next l =
    IsUtf8 l.rest × (length (chars l.rest) ≤ length (chars l.text))
    × (skip_layout_from l.verbose (layout_state_of l.inside) (chars l.rest) ≡ next_token l.verbose (chars l.text))
