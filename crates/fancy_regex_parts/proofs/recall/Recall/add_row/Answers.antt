use Rattle.std.proofs.Common.{refl}
use Rattle.fancy_regex_parts.proofs.RecallLemmas.{same_grown, same_cells}
use Rattle.fancy_regex_parts.proofs.recall.Recall.add_row.Goals as goal

pub returns-in_err-add_zeros-clause-same : goal.returns-in_err-add_zeros-clause-same
returns-in_err-add_zeros-clause-same c = same_cells c.args.self.now _ refl refl c.in_err-add_zeros.ensures.err

pub returns-clause-same : goal.returns-clause-same
returns-clause-same c = same_grown c.args.self.now _ c.args.self.now.width refl refl c.in_ok-add_zeros.ensures.added
