use Rattle.std.proofs.Common.{ap, subst, sym, ◌∙◌}
use Rattle.fancy_regex_linear.specs.Program.{never_empty, IsSound}
use Rattle.fancy_regex_linear.proofs.PlainLemmas.{never_newline, sound_newline}
use Rattle.fancy_regex_linear.proofs.LineEndLemmas.{line_break_is}
use Rattle.fancy_regex_linear.proofs.build.line_break.Goals as goal

pub returns-clause-shape : goal.returns-clause-shape
returns-clause-shape c =
    line_break_is c.args.unicode c.in_ok-pair.pair c.in_ok-alone.alone c.add_wide.new.branches c.new-branches.result.items c.add.new.values.items
    c.add-2.new.values.items c.add_three.new.branches.items c.new-branches.ensures.items c.in_ok-add.ensures c.in_ok-add-2.ensures
    c.in_ok-add_three.ensures c.in_ok-add_wide.ensures c.in_ok-pair.ensures c.in_ok-alone.ensures

pub returns-clause-moves : goal.returns-clause-moves
returns-clause-moves c = ap never_empty (returns-clause-shape c) ∙ never_newline c.args.unicode

pub returns-clause-sound : goal.returns-clause-sound
returns-clause-sound c = subst IsSound (sym (returns-clause-shape c)) (sound_newline c.args.unicode)
