use Rattle.std.proofs.Common.{◌∙◌, ap}
use Rattle.fancy_regex_parts.specs.Frames.{top_first}
use Rattle.fancy_regex_parts.proofs.StackLemmas.{top_pushed}
use Rattle.fancy_regex_parts.proofs.step.push.Goals as goal

pub returns : goal.returns
returns c = ap top_first c.in_ok-push.ensures.items ∙ top_pushed c.args.stack.now.items c.args.frame
