use Rattle.fancy_regex_table.specs.Needed.{ResetsAnyhow}
use Rattle.fancy_regex_table.proofs.StrayLemmas.{stray_cell}
use Rattle.fancy_regex_table.proofs.needed_maker.resets_wide.Goals as goal

pub returns-then-is_stray : goal.returns-then-is_stray
returns-then-is_stray c said e =
    let all = said e in
    λ i it there.
    let has = stray_cell c.args.cells.now c.args.string.now c.args.class it (ResetsAnyhow c.args.fresh.now) (c.is_stray.ensures c.if-is_stray.true) (all i it there) in
    record { cell = has.cell; is_there = has.is_there; is_so = has.is_so }
