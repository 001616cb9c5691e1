use Rattle.fancy_regex_grammar.proofs.shapes_are_exact.Goals as goal
use Rattle.fancy_regex_grammar.proofs.ShapeProofs.{shapes_are_exact}

pub returns : goal.returns
returns c = shapes_are_exact
