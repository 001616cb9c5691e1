use Rattle.fancy_regex_grammar.proofs.branches_are_exact.Goals as goal
use Rattle.fancy_regex_grammar.proofs.BranchProofs.{branches_are_exact}

pub returns : goal.returns
returns c = branches_are_exact
