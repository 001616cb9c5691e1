use Rattle.fancy_regex_search.proofs.RemainingLemmas.{left-all}
use Rattle.fancy_regex_search.proofs.match_iter.MatchIter.new.Goals as goal

pub returns-clause-left : goal.returns-clause-left
returns-clause-left g c = left-all c.args.regex.now.meta (g.S.Input.text c.args.input.haystack) c.args.input.config
