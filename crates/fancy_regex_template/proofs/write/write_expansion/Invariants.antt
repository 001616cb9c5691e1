use Rattle.std.proofs.Common.{◌≡◌, ◌++◌, chars, encode_utf8_all}
use Rattle.std.specs.Io.KnownBytes.{Appends}
use Rattle.fancy_regex_text.specs.Text.{Text}
use Rattle.fancy_regex_template.specs.Parts.{parts}
use Rattle.fancy_regex_template.specs.Expansion.{parts_text}
use Rattle.fancy_regex_template.specs.RemainingParts.{remaining_parts}
use Rattle.fancy_regex_template.proofs.write.write_expansion.Given as goal

-- what the parts so far stand for has been written
abbrev pub invariant-loop-part : goal.invariant-loop-part
invariant-loop-part g l =
    (goal.iterator-loop-part g).can_next l.part-iterator
    × (goal.iterator-loop-part g).is_finite l.part-iterator
    × (l.sink.writer.ghost_name ≡ l.fn.sink.writer.ghost_name)
    × (l.sink.has_failed ≡ l.fn.sink.has_failed)
    × ((done : Text) × Appends (g.W.Write.contents l.fn.sink.writer.now) (g.W.Write.contents l.sink.writer.now) (encode_utf8_all done)
    × (done ++ parts_text l.syntax (g.G.GroupTexts.texts l.groups) (remaining_parts l.part-iterator)
    ≡ parts_text l.syntax (g.G.GroupTexts.texts l.groups) (parts l.syntax (chars l.template))))
