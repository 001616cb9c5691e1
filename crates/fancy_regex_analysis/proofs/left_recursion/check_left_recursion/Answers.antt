use Rattle.std.proofs.Common.{map, inr, refl}
use Rattle.fancy_regex_meaning.specs.Sizes.{size_with}
use Rattle.fancy_regex_analysis.specs.LeftRecursion.{first_calls}
use Rattle.fancy_regex_info.specs.Views.{size_at, body_tree}
use Rattle.fancy_regex_analysis.proofs.LeftRecursionLemmas.{marked_again}
use Rattle.fancy_regex_analysis.proofs.left_recursion.check_left_recursion.Goals as goal

pub returns-in-Some-clause-refused : goal.returns-in-Some-clause-refused
returns-in-Some-clause-refused c =
    let es = map (first_calls (size_with (size_at c.args.sizes.now))) (map body_tree c.args.groups.now) in
    inr (
      c.in-Some.group,
      refl,
      marked_again c.in_ok-calls.calls.items c.deref.result.now c.in_ok-recursive.recursive.items c.deref-2.result.now es c.in-Some.group
          c.deref.ensures.value c.in_ok-calls.ensures c.in_ok-recursive.ensures.length c.deref-2.ensures.value c.in_ok-recursive.ensures.marks
          c.in-Some.ensures.found,
    )
