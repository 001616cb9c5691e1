use Rattle.std.proofs.Common.{◌≡◌, true, false}
use Rattle.fancy_regex_tree.specs.Tree.{tree_of}
use Rattle.fancy_regex_info.specs.AnalysisRelations.{mark_at}
use Rattle.fancy_regex_linear.specs.Plain.{IsRegular}
use Rattle.fancy_regex_linear.proofs.PlainLemmas.{regular_into, regular_resets}
use Rattle.fancy_regex_linear.proofs.build.Translator.callee_if.Goals as goal

pub returns-clause-made : goal.returns-clause-made
returns-clause-made c =
    let regular : IsRegular false (λ i. mark_at c.args.known.now i ≡ true) (tree_of c.args.body.now) = c.is_regular.ensures.regular c.if-not-is_regular.false in (
      c.in_ok-made.ensures.matchers,
      regular,
      c.in_ok-made.ensures.shape
          (regular_resets (λ j. Unit {0}) (tree_of c.args.body.now)
          (regular_into (λ i. mark_at c.args.known.now i ≡ true) (λ j. Unit {0}) (λ j h. tt) false (tree_of c.args.body.now) regular)),
    )
