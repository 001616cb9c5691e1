use Rattle.std.proofs.Common.{◌≡◌, ◌∙◌, ◌<◌, ◌≤◌, ℕ, true, false, arith, ⊎_elim, sym, ap, get_or, length-set}
use Rattle.std.proofs.lemmas.List.{length-replicate}
use Rattle.fancy_regex_table.proofs.wide.Wide.block_classes.Goals as goal

pub loop-i-init : goal.loop-i-init
loop-i-init c = record { long = length-replicate 256 false; classes = λ k low less. absurd (omega (arith, low, less)) }
