use Rattle.std.proofs.Common.{◌∙◌, ap}
use Rattle.fancy_regex_linear.specs.Search.{top_first}
use Rattle.fancy_regex_linear.specs.declared.frame.Frame.TheVariants.{Explore}
use Rattle.fancy_regex_linear.proofs.StackLemmas.{top_pushed}
use Rattle.fancy_regex_linear.proofs.backtrack.BacktrackState.push_explore.Goals as goal

pub returns-clause-pushed : goal.returns-clause-pushed
returns-clause-pushed c = ap top_first c.in_ok-push.ensures.items ∙ top_pushed c.args.self.now.stack.items (Explore c.args.state c.args.at)
