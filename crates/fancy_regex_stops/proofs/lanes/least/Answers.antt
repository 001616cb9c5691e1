use Rattle.std.proofs.Common.{ltb, w8, ap, ◌∙◌}
use Rattle.std.specs.Simd.Lanes.{sel_l}
use Rattle.std.proofs.lemmas.Simd.{tops_compared}
use Rattle.fancy_regex_stops.proofs.LaneLemmas.{chosen}
use Rattle.fancy_regex_stops.proofs.lanes.least.Goals as goal

pub returns : goal.returns
returns c =
    let a = c.args.one in
    let b = c.args.other in
    ap (λ ms. sel_l ms a b) (tops_compared w8 ltb a b) ∙ chosen ltb a b
