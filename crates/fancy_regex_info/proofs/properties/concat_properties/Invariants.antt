use Rattle.std.proofs.Common.{◌≡◌, map, drop}
use Rattle.fancy_regex_info.specs.PropertyRules.{sum_properties}
use Rattle.fancy_regex_info.specs.Infos.{properties_of, properties_in, info_of}
use Rattle.fancy_regex_info.proofs.properties.concat_properties.Given as goal

abbrev pub invariant-loop-i : goal.invariant-loop-i
invariant-loop-i l = properties_of l.row ≡ sum_properties l.start l.end (map (λ i. properties_in (info_of i)) (drop l.i l.parts))
