use Rattle.fancy_regex_tree_laws.proofs.PatternBounds.{trees_are_bounded, parse_errors_are_inside, positions_are_inside}
use Rattle.fancy_regex_tree_laws.proofs.parse_bounds.Goals as goal

pub returns-clause-trees : goal.returns-clause-trees
returns-clause-trees c = trees_are_bounded

pub returns-clause-faults : goal.returns-clause-faults
returns-clause-faults c = parse_errors_are_inside

pub returns-clause-positions : goal.returns-clause-positions
returns-clause-positions c = positions_are_inside
