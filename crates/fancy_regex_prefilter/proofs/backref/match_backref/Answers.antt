use Rattle.fancy_regex_prefilter.specs.RunContexts.{setting_of_run}
use Rattle.fancy_regex_prefilter.proofs.BoundaryLemmas.{cut_of_place, ends_of}
use Rattle.fancy_regex_prefilter.proofs.backref.match_backref.Goals as goal

pub spells_alike-same-requires-clause-start : goal.spells_alike-same-requires-clause-start
spells_alike-same-requires-clause-start c = (ends_of (setting_of_run c.args.run.now) _ _ c.requires.ends).1

pub spells_alike-same-requires-clause-end : goal.spells_alike-same-requires-clause-end
spells_alike-same-requires-clause-end c = (ends_of (setting_of_run c.args.run.now) _ _ c.requires.ends).2

pub spells_alike-same-requires-clause-position : goal.spells_alike-same-requires-clause-position
spells_alike-same-requires-clause-position c = cut_of_place _ _ c.requires.cursor
