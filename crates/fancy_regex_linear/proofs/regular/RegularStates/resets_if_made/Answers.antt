use Rattle.std.proofs.Common.{◌≡◌, ◌↔◌, ◌≤◌, ◌∙◌, ◌==◌, ℕ, Bool, true, false, not, IsSome, if◌then◌else◌, ap, sym, subst, true≢false}
use Rattle.std.proofs.lemmas.Option.{IfSome_then}
use Rattle.std.proofs.lemmas.Result.{MatchResult-from_err}
use Rattle.fancy_regex_tree.specs.Tree.{Tree, tree_of}
use Rattle.fancy_regex_info.specs.Analysis.{analysis}
use Rattle.fancy_regex_info.specs.Infos.{info_of, properties_in}
use Rattle.fancy_regex_info.specs.Views.{pattern_in}
use Rattle.fancy_regex_info.specs.declared.info.Info.{Info, out-Info}
use Rattle.fancy_regex_linear.specs.Calls.{has_own_span}
use Rattle.fancy_regex_linear.specs.declared.facts.TreeFacts.{TreeFacts}
use Rattle.fancy_regex_linear.proofs.ExactLemmas.{may_reset, alone_exact, alone_keeps, exact_by, keeps_by, has_calls, not_made}
use Rattle.fancy_regex_linear.proofs.ServedLemmas.{info_is_of}
use Rattle.fancy_regex_linear.proofs.regular.RegularStates.resets_if_made.Goals as goal

own : (info : Info) (start : ℕ) → start ≡ (properties_in (info_of info)).start → (explicit : Bool) (t : Tree) → info_of info ≡ analysis explicit t
    → not (start == 0) ≡ has_own_span (pattern_in explicit t)
own info start begins explicit t is =
    may_reset explicit t start (ap (λ (n : ℕ). n == 0) begins ∙ (info_is_of info explicit t is).start)

pub returns-then-is_regular-clause-exact : goal.returns-then-is_regular-clause-exact
returns-then-is_regular-clause-exact c explicit t is =
    alone_exact (info_of c.args.info.now) explicit t (tree_of (out-Info c.args.info.now).expr.now) is (info_is_of c.args.info.now explicit t is).tree
    (not (c.start_group-may_reset.result == 0)) (own c.args.info.now c.start_group-may_reset.result c.start_group-may_reset.ensures explicit t is) (c.is_regular.ensures.regular c.if-is_regular.true) (IsSome c.resets_if_light.result)
    (subst (λ (f : TreeFacts). IsSome c.resets_if_light.result ↔ (f.weight ≤ 4000)) c.facts_of-alone.ensures c.resets_if_light.ensures.light)

pub returns-then-is_regular-clause-keeps : goal.returns-then-is_regular-clause-keeps
returns-then-is_regular-clause-keeps c =
    IfSome_then c.resets_if_light.result c.resets_if_light.ensures.resets
    (λ resets set explicit t is.
    alone_keeps (info_of c.args.info.now) explicit t (tree_of (out-Info c.args.info.now).expr.now) is (info_is_of c.args.info.now explicit t is).tree
    (not (c.start_group-may_reset.result == 0)) (own c.args.info.now c.start_group-may_reset.result c.start_group-may_reset.ensures explicit t is) (c.is_regular.ensures.regular c.if-is_regular.true) resets
    (set ∙ ap (λ (f : TreeFacts). not f.keeps_start) c.facts_of-alone.ensures))

pub returns-in_err-calls-clause-calls : goal.returns-in_err-calls-clause-calls
returns-in_err-calls-clause-calls c =
    MatchResult-from_err c.from_residual.result _ _ c.from_residual.ensures.0
    (λ error explicit t is.
    has_calls explicit t (tree_of (out-Info c.args.info.now).expr.now) (not (c.start_group-may_reset.result == 0))
    (info_is_of c.args.info.now explicit t is).tree (own c.args.info.now c.start_group-may_reset.result c.start_group-may_reset.ensures explicit t is) (c.is_regular.ensures.other c.if-is_regular.false))

pub returns-then-not-is_written_out-clause-exact : goal.returns-then-not-is_written_out-clause-exact
returns-then-not-is_written_out-clause-exact c explicit t is =
    let may = not (c.start_group-may_reset.result == 0) in
    let none : (if may then c.facts_of-written.result.is_regular else c.facts_of-written.result.keeps_start) ≡ false =
    sym c.is_written_out.ensures ∙ c.if-not-is_written_out.true in (
      λ e. absurd (true≢false (sym e)),
      λ made. absurd (not_made (info_of c.args.info.now) explicit t is c.deref.result.now (c.deref.ensures.value ∙ c.in_ok-calls.ensures) may (own c.args.info.now c.start_group-may_reset.result c.start_group-may_reset.ensures explicit t is)
          (ap (λ (f : TreeFacts). if may then f.is_regular else f.keeps_start) (sym c.facts_of-written.ensures) ∙ none) made),
    )

pub returns-clause-exact : goal.returns-clause-exact
returns-clause-exact c explicit t is =
    let may = not (c.start_group-may_reset.result == 0) in
    let all : (if may then c.facts_of-written.result.is_regular else c.facts_of-written.result.keeps_start) ≡ true =
    sym c.is_written_out.ensures ∙ c.if-not-is_written_out.false in
    exact_by (info_of c.args.info.now) explicit t is c.deref.result.now (c.deref.ensures.value ∙ c.in_ok-calls.ensures) may (own c.args.info.now c.start_group-may_reset.result c.start_group-may_reset.ensures explicit t is)
    (IsSome c.resets_if_light-2.result)
    (ap (λ (f : TreeFacts). if may then f.is_regular else f.keeps_start) (sym c.facts_of-written.ensures) ∙ all)
    (subst (λ (f : TreeFacts). IsSome c.resets_if_light-2.result ↔ (f.weight ≤ 4000)) c.facts_of-written.ensures c.resets_if_light-2.ensures.light)

pub returns-clause-keeps : goal.returns-clause-keeps
returns-clause-keeps c =
    IfSome_then c.resets_if_light-2.result c.resets_if_light-2.ensures.resets
    (λ resets set explicit t is.
    keeps_by (info_of c.args.info.now) explicit t is c.deref.result.now (c.deref.ensures.value ∙ c.in_ok-calls.ensures) resets
    (set ∙ ap (λ (f : TreeFacts). not f.keeps_start) c.facts_of-written.ensures))
