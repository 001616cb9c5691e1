use Rattle.fancy_regex_compiler.proofs.called_texts.CalledTexts.new.Goals as goal

pub loop-group-preserved : goal.loop-group-preserved
loop-group-preserved c = c.take_up.ensures c.loop-group.invariant
