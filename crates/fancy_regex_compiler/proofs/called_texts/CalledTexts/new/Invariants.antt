use Rattle.fancy_regex_compiler.specs.CalledTexts.{AreTexts, infos_at}
use Rattle.fancy_regex_compiler.proofs.called_texts.CalledTexts.new.Given as goal

abbrev pub invariant-loop-group : goal.invariant-loop-group
invariant-loop-group l = AreTexts (infos_at l.groups.items) l.texts.lengths.items l.texts.known
