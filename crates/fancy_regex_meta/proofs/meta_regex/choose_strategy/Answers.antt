use Rattle.std.proofs.Common.{◌∙◌, inl, inr}
use Rattle.fancy_regex_tree.specs.Tree.{tree_of}
use Rattle.fancy_regex_info.specs.declared.error.CompileError.TheVariants.{InvalidBackref}
use Rattle.fancy_regex_meta.proofs.AnalysisLemmas.{analyzed_end}
use Rattle.fancy_regex_meta.proofs.RefusalLemmas.{analysis_told, engine_told}
use Rattle.fancy_regex_meta.proofs.SeekLemmas.{no_cause_in_order}
use Rattle.std.proofs.lemmas.Result.{err_from_is_err_and}
use Rattle.fancy_regex_meta.proofs.meta_regex.choose_strategy.Goals as goal

pub returns-clause-groups : goal.returns-clause-groups
returns-clause-groups c = c.end_group.ensures ∙ analyzed_end c.in_ok-info.info (tree_of c.args.tree.now.expr) c.in_ok-info.ensures.answer c.laws_of_groups.ensures.counted

pub returns-clause-runs : goal.returns-clause-runs
returns-clause-runs c =
    c.in_ok-strategy.ensures.runs (tree_of c.args.tree.now.expr) c.in_ok-info.ensures.answer
    (λ k e. c.in_ok-info.ensures.complete (InvalidBackref k) (inr (inl e)))
    (no_cause_in_order c.args.options.now c.args.tree.now.named_backref_only c.args.tree.now.contains_subroutines (tree_of c.args.tree.now.expr)
    c.in_ok-info.ensures.complete)

pub returns-in_err-info-clause-refused : goal.returns-in_err-info-clause-refused
returns-in_err-info-clause-refused c =
    let o = c.args.options.now in
    let tree = c.args.tree.now in
    let p = err_from_is_err_and c.from_residual.result c.from_residual.ensures.1 in
    rw (p.1, p.2) (analysis_told o tree.named_backref_only tree.contains_subroutines (tree_of tree.expr) c.in_err-info.field-0.0 c.in_err-info.ensures.refused
    (λ reversed. let same = c.in_err-info.ensures.reversed reversed in cc))

pub returns-in_err-strategy-clause-refused : goal.returns-in_err-strategy-clause-refused
returns-in_err-strategy-clause-refused c =
    let o = c.args.options.now in
    let tree = c.args.tree.now in
    let p = err_from_is_err_and c.from_residual-in_err-strategy.result c.from_residual-in_err-strategy.ensures.1 in
    rw (p.1, p.2) (engine_told o tree.named_backref_only tree.contains_subroutines (tree_of tree.expr) c.in_err-strategy.field-0.0
    c.in_ok-info.ensures.complete (c.in_err-strategy.ensures.refused (tree_of tree.expr) c.in_ok-info.ensures.answer)
    (c.in_err-strategy.ensures.long (tree_of tree.expr) c.in_ok-info.ensures.answer)
    (λ e. c.in_err-strategy.ensures.reason (tree_of tree.expr) c.in_ok-info.ensures.answer e
    (record { nodes = c.in_ok-info.ensures.nodes; parts = c.in_ok-info.ensures.parts })))

pub returns-clause-accepted : goal.returns-clause-accepted
returns-clause-accepted c = record {
  no_cause = c.in_ok-info.ensures.complete;
  bytes_mode = c.in_ok-strategy.ensures.mode (tree_of c.args.tree.now.expr) c.in_ok-info.ensures.answer;
  taken = c.in_ok-strategy.ensures.taken (tree_of c.args.tree.now.expr) c.in_ok-info.ensures.answer;
  readable = λ e. c.in_ok-strategy.ensures.classes (tree_of c.args.tree.now.expr) c.in_ok-info.ensures.answer e
      (record { nodes = c.in_ok-info.ensures.nodes; parts = c.in_ok-info.ensures.parts });
}
