use Rattle.std.proofs.Common.{◌≡◌, ◌++◌, chars, encode_utf8_all}
use Rattle.fancy_regex_text.specs.Text.{Text}
use Rattle.fancy_regex_template.specs.Parts.{parts}
use Rattle.fancy_regex_template.specs.Expansion.{parts_text}
use Rattle.fancy_regex_template.specs.RemainingParts.{remaining_parts}
use Rattle.fancy_regex_template.proofs.write.append_expansion_bytes.Given as goal

-- what the parts so far stand for has been appended
abbrev pub invariant-loop-part : goal.invariant-loop-part
invariant-loop-part g l =
    (goal.iterator-loop-part g).can_next l.part-iterator
    × (goal.iterator-loop-part g).is_finite l.part-iterator
    × ((done : Text) × (l.out.items ≡ l.initial.out.items ++ encode_utf8_all done)
    × (done ++ parts_text l.syntax (g.G.GroupTexts.texts l.groups) (remaining_parts l.part-iterator)
    ≡ parts_text l.syntax (g.G.GroupTexts.texts l.groups) (parts l.syntax (chars l.template))))
