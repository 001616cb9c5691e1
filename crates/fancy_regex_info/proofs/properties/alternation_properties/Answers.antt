use Rattle.std.proofs.Common.{◌≡◌, ℕ, ◌<◌, true, length, [], map, ap, ap₂, sym, ◌∙◌, arith, rules, eqb-true}
use Rattle.std.proofs.lemmas.List.{nil_from_length}
use Rattle.fancy_regex_info.specs.PropertyRules.{prepend_branch, alternation_properties}
use Rattle.fancy_regex_info.specs.Infos.{NodeProperties, properties_in, info_of}
use Rattle.fancy_regex_info.proofs.PropertyLemmas.{branches_end, branches_step}
use Rattle.fancy_regex_info.proofs.properties.alternation_properties.Goals as goal

abbrev between : ℕ → ℕ → NodeProperties → NodeProperties
between n m f = record { size = f.size; weight = f.weight; hard = f.hard; start = n; end = m }

pub loop-i-init : goal.loop-i-init
loop-i-init c =
    let some : 0 < length c.args.branches.now = search rules in
    ap (between c.args.start c.args.end) c.properties-all.ensures
    ∙ branches_end c.args.start c.args.end c.args.branches.now c.index-branches-last.result some c.index-branches-last.is

pub loop-i-preserved : goal.loop-i-preserved
loop-i-preserved c =
    let some : 0 < length c.args.branches.now = search rules in
    c.or_else-all.ensures ∙ ap₂ prepend_branch c.properties.ensures c.loop-i.invariant
    ∙ branches_step c.args.start c.args.end c.args.branches.now c.loop-i.i c.index-branches-i.result (omega arith) (omega arith) c.index-branches-i.is

pub returns-then-is_empty : goal.returns-then-is_empty
returns-then-is_empty c =
    let none : c.args.branches.now ≡ [] = nil_from_length c.args.branches.now (eqb-true _ _ (sym c.is_empty.ensures ∙ c.if-is_empty.true)) in
    ap (λ s. record { size = s; weight = 0; hard = true; start = c.args.start; end = c.args.end }) c.always.ensures
    ∙ sym (ap (λ xs. alternation_properties c.args.start c.args.end (map (λ i. properties_in (info_of i)) xs)) none)
