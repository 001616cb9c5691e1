use Rattle.std.proofs.Common.{rules}
use Rattle.fancy_search_run.proofs.Bytes.{given_all}
use Rattle.fancy_search_run.proofs.input.read_to_end.Goals as goal

pub returns-in-Ok-eq0-clause-value : goal.returns-in-Ok-eq0-clause-value
returns-in-Ok-eq0-clause-value g c =
    let told = c.in-Ok-eq0.ensures.bytes in
    given_all _ _ _ c.loop-bytes.bytes.items _ _ c.loop-bytes.invariant.0 told.0 (search rules) (told.1 (search rules) (search rules))
