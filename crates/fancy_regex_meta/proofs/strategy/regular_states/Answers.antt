use Rattle.std.proofs.Common.{◌≡◌, Bool, false, sym, subst, true≢false, ◌∙◌}
use Rattle.std.specs.Prelude.{IfErr}
use Rattle.std.proofs.lemmas.Result.{IfErr-weaker}
use Rattle.fancy_regex_tree.specs.Tree.{Tree}
use Rattle.fancy_regex_meaning.specs.Groups.{pattern_of}
use Rattle.fancy_regex_info.specs.Analysis.{analysis}
use Rattle.fancy_regex_info.specs.Infos.{info_of}
use Rattle.fancy_regex_linear.specs.CalledClasses.{IsWrittenCause}
use Rattle.fancy_regex_meta.proofs.StrategyLemmas.{states_are, exactly_states}
use Rattle.fancy_regex_meta.proofs.strategy.regular_states.Goals as goal

pub returns-then-options-clause-exact : goal.returns-then-options-clause-exact
returns-then-options-clause-exact c t is =
    (λ some. absurd (true≢false (sym some)), λ has. absurd (true≢false (sym c.if-options.true ∙ has.0)))

pub returns-clause-states : goal.returns-clause-states
returns-clause-states c =
    states_are c.args.options.now c.args.info.now c.compile_options.result.unicode c.compile_options.result.leftmost_longest
    c.compile_options.ensures.unicode c.compile_options.ensures.longest c.if-options.false c.if_supported.result
    c.if_supported.ensures.made c.if_supported.ensures.options

pub returns-clause-exact : goal.returns-clause-exact
returns-clause-exact c =
    exactly_states c.args.options.now c.args.info.now c.compile_options.result.unicode c.compile_options.result.leftmost_longest
    c.compile_options.ensures.unicode c.compile_options.ensures.longest c.if-options.false c.if_supported.result c.if_supported.ensures.exact

pub returns-clause-refused : goal.returns-clause-refused
returns-clause-refused c =
    let i = c.args.info.now in
    subst (λ (u : Bool). IfErr c.if_supported.result (λ cause. (t : Tree) → info_of i ≡ analysis false t → IsWrittenCause u (pattern_of t) cause))
    c.compile_options.ensures.unicode
    (IfErr-weaker c.if_supported.result _ _ (λ cause why t is. why false t is) c.if_supported.ensures.refused)
