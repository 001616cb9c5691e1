use Rattle.std.proofs.Common.{◌∙◌, ap}
use Rattle.fancy_regex_parts.specs.Walk.{last_first}
use Rattle.fancy_regex_parts.proofs.WalkLemmas.{last_pushed}
use Rattle.fancy_regex_parts.proofs.groups.push.Goals as goal

pub returns : goal.returns
returns c = ap last_first c.in_ok-push.ensures.items ∙ last_pushed c.args.tasks.now.items c.args.task
