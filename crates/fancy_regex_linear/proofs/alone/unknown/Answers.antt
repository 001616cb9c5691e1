use Rattle.std.proofs.Common.{refl}
use Rattle.fancy_regex_linear.proofs.alone.unknown.Goals as goal

pub returns : goal.returns
returns c =
    let is = c.start_after-next.ensures in
    (refl, refl, refl, refl, λ text utf8 boundary inside here. is.left text utf8 boundary inside here, λ text past. is.next text past)
