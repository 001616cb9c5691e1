use Rattle.std.proofs.Common.{rules, ◌≡◌, true, false, map, ap, sym, subst, ◌∙◌}
use Rattle.fancy_regex_tree.specs.Tree.{tree_of}
use Rattle.fancy_regex_tree.specs.Printable.{is_printable}
use Rattle.fancy_regex_info.specs.Analysis.{analysis}
use Rattle.fancy_regex_info.specs.AnalysisRelations.{AreCallSizes}
use Rattle.fancy_regex_info.specs.Infos.{info_of}
use Rattle.fancy_regex_info.specs.Views.{body_tree}
use Rattle.fancy_regex_desugar.specs.Delegates as delegates
use Rattle.fancy_regex_compiler.proofs.PartLemmas.{light_part_is, too_heavy, unprintable, is_part}
use Rattle.fancy_regex_compiler.proofs.parts.searched_delegate.Goals as goal

pub returns-then-not-is_light_part-clause-value : goal.returns-then-not-is_light_part-clause-value
returns-then-not-is_light_part-clause-value c =
    let t = tree_of c.args.part.now in
    let sought = delegates.searched c.args.for_any t in
    let plain : c.default.result.explicit_capture_group_0 ≡ false = search rules in
    let info : info_of c.in_ok-info.info ≡ analysis false sought = c.in_ok-info.ensures ∙ ap (λ b. analysis b (tree_of c.args.searched.now)) plain ∙ ap (analysis false) c.requires.searched in
    let off : c.is_light_part.result ≡ false = search rules in
    too_heavy c.args.for_any t (light_part_is sought (info_of c.in_ok-info.info) c.is_light_part.result info c.is_light_part.ensures ∙ off)

pub returns-then-not-branch-clause-value : goal.returns-then-not-branch-clause-value
returns-then-not-branch-clause-value c =
    let t = tree_of c.args.part.now in
    let off : is_printable t ≡ false = search rules in
    unprintable c.args.for_any t off

pub analyze_tree-requires-clause-known : goal.analyze_tree-requires-clause-known
analyze_tree-requires-clause-known c =
    subst (λ s. AreCallSizes (map body_tree c.deref.result.now) s) (sym c.deref-2.ensures.value)
    (subst (λ ts. AreCallSizes ts c.in_ok-sizes.sizes.items) (sym (ap (map body_tree) c.deref.ensures.value ∙ c.in_ok-groups.ensures)) c.in_ok-sizes.ensures)

pub new-requires-clause-info : goal.new-requires-clause-info
new-requires-clause-info c =
    let plain : c.default.result.explicit_capture_group_0 ≡ false = search rules in
    c.in_ok-info.ensures ∙ ap (λ b. analysis b (tree_of c.args.searched.now)) plain ∙ ap (analysis false) c.requires.searched

pub new-requires-clause-delegated : goal.new-requires-clause-delegated
new-requires-clause-delegated c =
    let t = tree_of c.args.part.now in
    let sought = delegates.searched c.args.for_any t in
    let plain : c.default.result.explicit_capture_group_0 ≡ false = search rules in
    let info : info_of c.in_ok-info.info ≡ analysis false sought = c.in_ok-info.ensures ∙ ap (λ b. analysis b (tree_of c.args.searched.now)) plain ∙ ap (analysis false) c.requires.searched in
    let on : c.is_light_part.result ≡ true = search rules in
    let shown : is_printable t ≡ true = search rules in
    is_part c.args.for_any t c.requires.choices (light_part_is sought (info_of c.in_ok-info.info) c.is_light_part.result info c.is_light_part.ensures ∙ on) shown
