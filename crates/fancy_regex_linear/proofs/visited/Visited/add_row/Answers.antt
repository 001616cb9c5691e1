use Rattle.std.proofs.Common.{◌+◌, ◌∙◌, ap, refl}
use Rattle.fancy_regex_linear.specs.Visited.{flags}
use Rattle.fancy_regex_linear.proofs.VisitedLemmas.{flags-row, same_grown, same_flags}
use Rattle.fancy_regex_linear.proofs.visited.Visited.add_row.Goals as goal

pub returns-in_err-add_zeros-clause-pairs : goal.returns-in_err-add_zeros-clause-pairs
returns-in_err-add_zeros-clause-pairs c =
    let v = c.args.self.now in let e = c.in_err-add_zeros.ensures.err in
    same_flags v _ refl refl (ap (flags v.count v.width v.rows) e)

pub returns-clause-pairs : goal.returns-clause-pairs
returns-clause-pairs c =
    let v = c.args.self.now in let e = c.in_ok-add_zeros.ensures.added in
    same_grown v _ v.count refl refl (ap (flags v.count v.width (v.rows + 1)) e ∙ flags-row v.count v.width v.rows v.words.items v.wide v.filled)
