use Rattle.std.proofs.Common.{rules, tests}
use Rattle.std.proofs.lemmas.Iterator.{YieldsList-from_chars}
use Rattle.std.proofs.lemmas.Iterator.Search.{any_from_yields_List}
use Rattle.fancy_regex_search.specs.GroupTexts.{is_sign}
use Rattle.fancy_regex_search.proofs.template_replacers.has_sign.Goals as goal

pub returns : goal.returns
returns c = any_from_yields_List is_sign _ _ _ c.any.ensures.ran (YieldsList-from_chars c.args.template.now c.utf8.template c.chars.ensures.rest) (λ x b q k. search (rules, tests))
