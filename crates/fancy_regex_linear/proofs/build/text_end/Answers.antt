use Rattle.std.proofs.Common.{◌∙◌, true, refl, ap, subst, sym}
use Rattle.fancy_regex_linear.specs.Re.{shape}
use Rattle.fancy_regex_linear.specs.Program.{never_empty, IsSound}
use Rattle.fancy_regex_linear.proofs.PlainLemmas.{sound_text_end}
use Rattle.fancy_regex_linear.proofs.LineEndLemmas.{text_end_is}
use Rattle.fancy_regex_linear.proofs.build.text_end.Goals as goal

pub returns-clause-shape : goal.returns-clause-shape
returns-clause-shape c =
    text_end_is c.args.crlf c.in_ok-body.body c.in_ok-row.row (record { lo = 0; hi = 18446744073709551615; greedy = true; moves = true }) c.add-3.new.values
    c.new-parts.result.items c.add.new.values.items c.add-2.new.values.items refl (ap shape c.in_ok-body.ensures ∙ c.in_ok-newline.ensures)
    c.new-parts.ensures.items c.in_ok-add.ensures c.in_ok-add-2.ensures c.in_ok-add-3.ensures c.in_ok-row.ensures

pub returns-clause-still : goal.returns-clause-still
returns-clause-still c = ap never_empty (returns-clause-shape c)

pub returns-clause-sound : goal.returns-clause-sound
returns-clause-sound c = subst IsSound (sym (returns-clause-shape c)) (sound_text_end c.args.crlf)
