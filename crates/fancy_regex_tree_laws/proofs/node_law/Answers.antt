use Rattle.fancy_regex_tree_laws.proofs.ParsedNodeProofs.{nodes_are_parsed}
use Rattle.fancy_regex_tree_laws.proofs.node_law.Goals as goal

pub returns : goal.returns
returns c = nodes_are_parsed
