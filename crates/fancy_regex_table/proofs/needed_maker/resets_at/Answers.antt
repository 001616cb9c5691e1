use Rattle.std.proofs.Common.{inl, inr, subst}
use Rattle.fancy_regex_table.specs.Needed.{Resets}
use Rattle.fancy_regex_table.proofs.needed_maker.resets_at.Goals as goal

pub returns : goal.returns
returns c e =
    let resets = c.resets.ensures e in
    elim c.cell_at.ensures [
      | inl none ↦ absurd (subst (Resets c.args.fresh.now) none resets)
      | inr is ↦ record { cell = c.cell_at.result; is_there = is; is_so = resets }
    ]
