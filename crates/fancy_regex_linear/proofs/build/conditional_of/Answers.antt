use Rattle.fancy_regex_linear.proofs.ShapeLemmas.{shape_of_boxes}
use Rattle.fancy_regex_linear.proofs.build.conditional_of.Goals as goal

pub returns-clause-shape : goal.returns-clause-shape
returns-clause-shape c =
    shape_of_boxes c.in_ok-one.one c.in_ok-two.two c.in_ok-three.three c.args.condition.node c.args.first.node c.args.second.node
    c.in_ok-one.ensures c.in_ok-two.ensures c.in_ok-three.ensures
