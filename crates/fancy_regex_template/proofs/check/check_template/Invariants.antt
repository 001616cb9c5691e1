use Rattle.std.proofs.Common.{◌≡◌, chars}
use Rattle.fancy_regex_template.specs.Parts.{parts}
use Rattle.fancy_regex_template.specs.RemainingParts.{remaining_parts}
use Rattle.fancy_regex_template.specs.Faults.{first_fault}
use Rattle.fancy_regex_template.proofs.check.check_template.Given as goal

-- the parts so far have no fault
abbrev pub invariant-loop-part : goal.invariant-loop-part
invariant-loop-part g l =
    (goal.iterator-loop-part g).can_next l.part-iterator
    × (goal.iterator-loop-part g).is_finite l.part-iterator
    × (first_fault (g.G.GroupNames.groups l.groups) (parts l.fn.syntax (chars l.template)) ≡ first_fault (g.G.GroupNames.groups l.groups) (remaining_parts l.part-iterator))
