use Rattle.std.proofs.Common.{◌≡◌, ℕ, false, drop, map, ap, ap₂, ◌∙◌, arith}
use Rattle.fancy_regex_info.specs.PropertyRules.{prepend_part, concat_properties, sum_properties}
use Rattle.fancy_regex_info.specs.Infos.{NodeProperties, properties_of, properties_in, info_of}
use Rattle.fancy_regex_info.proofs.PropertyLemmas.{row_end, row_step}
use Rattle.fancy_regex_info.proofs.properties.concat_properties.Goals as goal

abbrev with_weight : NodeProperties → ℕ → NodeProperties
with_weight f w = record f { weight = w }

pub loop-i-init : goal.loop-i-init
loop-i-init c =
    ap (λ s. record { size = s; weight = 0; hard = false; start = c.args.start; end = c.args.end }) c.always.ensures
    ∙ row_end c.args.start c.args.end c.args.parts.now

pub loop-i-preserved : goal.loop-i-preserved
loop-i-preserved c =
    c.before-row.ensures ∙ ap₂ prepend_part c.properties.ensures c.loop-i.invariant
    ∙ row_step c.args.start c.args.end c.args.parts.now c.loop-i.i c.index-parts-i.result (omega arith) (omega arith) c.index-parts-i.is

pub returns : goal.returns
returns c =
    let none : c.loop-i.i ≡ 0 = omega arith in
    ap (with_weight (properties_of c.loop-i.row)) c.max.ensures
    ∙ ap concat_properties c.loop-i.invariant
    ∙ ap (λ k. concat_properties (sum_properties c.args.start c.args.end (map (λ i. properties_in (info_of i)) (drop k c.args.parts.now)))) none
