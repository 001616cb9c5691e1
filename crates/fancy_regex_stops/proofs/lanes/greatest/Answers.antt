use Rattle.std.proofs.Common.{ltb, w8, ap, ◌∙◌}
use Rattle.std.specs.Simd.Lanes.{sel_l}
use Rattle.std.proofs.lemmas.Simd.{tops_compared}
use Rattle.fancy_regex_stops.proofs.LaneLemmas.{chosen_other}
use Rattle.fancy_regex_stops.proofs.lanes.greatest.Goals as goal

pub returns : goal.returns
returns c =
    let a = c.args.one in
    let b = c.args.other in
    ap (λ ms. sel_l ms b a) (tops_compared w8 ltb a b) ∙ chosen_other ltb a b
