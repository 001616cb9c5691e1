use Rattle.std.proofs.Common.{arith}
use Rattle.fancy_regex_parts.proofs.memory.PartMemory.restart.Goals as goal

pub restart-requires : goal.restart-requires
restart-requires c =
    let heads = c.args.context.now.table.now.heads in
    omega (arith, c.len.ensures, heads.ok.0, heads.ok.1, heads.small)
