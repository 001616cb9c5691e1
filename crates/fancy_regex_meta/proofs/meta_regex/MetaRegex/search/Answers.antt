use Rattle.fancy_regex_meta.proofs.KeptLemmas.{keeps_nothing}
use Rattle.fancy_regex_meta.proofs.meta_regex.MetaRegex.search.Goals as goal

pub search_again-requires-clause-kept : goal.search_again-requires-clause-kept
search_again-requires-clause-kept c = keeps_nothing c.args.self.now.strategy c.args.text.now _ c.forget.ensures
