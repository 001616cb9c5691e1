use Rattle.fancy_regex_parts.proofs.RecallLemmas.{weighed_none}
use Rattle.fancy_regex_parts.proofs.recall.Recall.forget.Goals as goal

pub returns-clause-weight : goal.returns-clause-weight
returns-clause-weight c w = weighed_none w _ c.clear.ensures.items
