use Rattle.std.proofs.Common.{◌∙◌, arith, false}
use Rattle.fancy_regex_ffi_lists.proofs.tables.mark.Goals as goal

pub returns : goal.returns
returns c = λ i inside. let front = c.write_front.ensures.front i inside in (λ below. front.0 (omega (arith, below)) false ∙ c.table.ensures i, λ above d. front.1 (omega (arith, above)) d)
