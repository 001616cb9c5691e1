use Rattle.std.proofs.Common.{◌≡◌, arith, length}
use Rattle.fancy_regex_table.proofs.BlockLemmas.{first_block, no_rows, no_uniform}
use Rattle.fancy_regex_table.proofs.blocks.Blocks.new.Goals as goal

pub loop-row-init : goal.loop-row-init
loop-row-init c =
    let answers = c.in_ok-vec.field-0.items in
    let long : length answers ≡ 64 = omega (arith, c.in_ok-vec.ensures.len) in
    let whole = first_block answers long in
    record { whole = whole; rows = no_rows c.args.bits.now answers whole; uniform = no_uniform answers whole }
