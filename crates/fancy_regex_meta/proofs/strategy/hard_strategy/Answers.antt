use Rattle.std.proofs.Common.{◌≡◌, ◌∙◌, false, sym, subst, refl, true≢false}
use Rattle.fancy_regex_tree.specs.Tree.{Tree, tree_of}
use Rattle.fancy_regex_info.specs.declared.info.Info.{out-Info}
use Rattle.fancy_regex_meaning.specs.Groups.{pattern_of}
use Rattle.fancy_regex_info.specs.Analysis.{analysis}
use Rattle.fancy_regex_info.specs.Infos.{info_of}
use Rattle.fancy_regex_analysis.proofs.PartErrorLemmas.{gives}
use Rattle.fancy_regex_linear.specs.CalledClasses.{IsWrittenCause}
use Rattle.fancy_regex_meta.proofs.AnalysisLemmas.{analyzed_tree}
use Rattle.fancy_regex_meta.proofs.StrategyLemmas.{program_unlimited, relaxed_is}
use Rattle.fancy_regex_meta.proofs.strategy.hard_strategy.Goals as goal

pub returns-in-Some-clause-runs : goal.returns-in-Some-clause-runs
returns-in-Some-clause-runs c t is does = ((rw c.in-Some.is at c.in_ok-matcher.ensures.matcher) t is, does.0)

pub returns-in-Some-clause-linear : goal.returns-in-Some-clause-linear
returns-in-Some-clause-linear c t is = (λ yes. (c.in_ok-supported.ensures t is).0 c.if-not-supported.false, λ has. refl)

pub returns-then-not-supported-clause-linear : goal.returns-then-not-supported-clause-linear
returns-then-not-supported-clause-linear c t is = (
  λ yes. absurd (true≢false (sym yes)),
  λ states. absurd (true≢false (sym ((c.in_ok-supported.ensures t is).1 states) ∙ c.if-not-supported.true)),
)

pub returns-in_ok-relaxed-in-Some-states-clause-runs : goal.returns-in_ok-relaxed-in-Some-states-clause-runs
returns-in_ok-relaxed-in-Some-states-clause-runs c t is does = (
  (rw c.in-Some-states.is at c.in_ok-states.ensures.states) t is,
  rw c.unlimited.ensures (program_unlimited c.args.options.now t c.args.prog c.args.run_options does),
  relaxed_is c.args.options.now c.compile_options.result.unicode (tree_of (out-Info c.args.info.now).expr.now) t c.in_ok-relaxed-in-Some-states.relaxed
      c.compile_options.ensures.unicode (analyzed_tree c.args.info.now t is) c.in_ok-relaxed-in-Some-states.ensures,
)

pub returns-in_ok-relaxed-in-Some-states-clause-linear : goal.returns-in_ok-relaxed-in-Some-states-clause-linear
returns-in_ok-relaxed-in-Some-states-clause-linear c t is = (λ yes. ((rw c.in-Some-states.is at c.in_ok-states.ensures.exact) t is).0 refl, λ has. refl)

pub returns-in-None-clause-linear : goal.returns-in-None-clause-linear
returns-in-None-clause-linear c t is = (
  λ yes. absurd (true≢false (sym yes)),
  λ has. absurd (true≢false (sym (((rw c.in-None.is at c.in_ok-states.ensures.exact) t is).1 has))),
)

-- want of memory, and what the states are refused for
pub returns-in_err-matcher-clause-refused : goal.returns-in_err-matcher-clause-refused
returns-in_err-matcher-clause-refused c =
    let o = c.args.options.now in
    gives c.from_residual-in_err-matcher.result c.in_err-matcher.field-0.0
    (λ cause. (t : Tree) → info_of c.args.info.now ≡ analysis false t → IsWrittenCause o.unicode_mode (pattern_of t) cause) c.from_residual-in_err-matcher.ensures.1
    (λ t is. subst (IsWrittenCause o.unicode_mode (pattern_of t)) (sym c.in_err-matcher.ensures.memory) tt)

pub returns-in_err-states-clause-refused : goal.returns-in_err-states-clause-refused
returns-in_err-states-clause-refused c =
    let o = c.args.options.now in
    gives c.from_residual-in_err-states.result c.in_err-states.field-0.0
    (λ cause. (t : Tree) → info_of c.args.info.now ≡ analysis false t → IsWrittenCause o.unicode_mode (pattern_of t) cause)
    c.from_residual-in_err-states.ensures.1 c.in_err-states.ensures.refused
