use Rattle.std.proofs.Common.{◌∙◌, arith}
use Rattle.fancy_regex_linear.proofs.by_table.end_pass.Goals as goal

pub returns-clause-after : goal.returns-clause-after
returns-clause-after c = rw c.count_places.ensures.text at c.look-after.ensures.after

pub returns-clause-next : goal.returns-clause-next
returns-clause-next c = rw c.count_places.ensures.text at c.look-after.ensures.next

pub returns-clause-looks : goal.returns-clause-looks
returns-clause-looks c = omega (arith, c.look-after.ensures.ticked, c.count_places.ensures.ticked, c.requires.range)
