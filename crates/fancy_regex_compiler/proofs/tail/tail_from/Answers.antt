use Rattle.std.proofs.Common.{◌≡◌, ℕ, ◌+◌, Bool, true, false, List, get_or, Some, refl, sym, ap, ◌∙◌, subst, arith}
use Rattle.std.specs.Prelude.{slice_get, nat_lt}
use Rattle.std.proofs.lemmas.Bool.Decides.{nat_tests}
use Rattle.std.proofs.lemmas.Option.{same_Some, slice_get-get_or}
use Rattle.std.proofs.lemmas.Option.{none-some, slice_get_past}
use Rattle.fancy_regex_info.specs.Infos.{info_of}
use Rattle.fancy_regex_info.specs.declared.info.Info.{Info}
use Rattle.fancy_regex_desugar.specs.Delegates.{may_explode}
use Rattle.fancy_regex_compiler.specs.Known.{tree_in}
use Rattle.fancy_regex_compiler.proofs.NodeLemmas.{info_known}
use Rattle.fancy_regex_compiler.proofs.TailSteps.{BareTo}
use Rattle.fancy_regex_compiler.proofs.tail.tail_from.Goals as goal

-- one part more whose ways are few
one_more : (xs : List Info) (from first : ℕ) (r : Info) → slice_get xs first ≡ Some r → BareTo xs from first → may_explode (tree_in (info_of r)) ≡ false → BareTo xs from (first + 1)
one_more xs from first r here bare few k x at_least below at = by_place (nat_lt k first) refl
  where
    by_place : (b : Bool) → nat_lt k first ≡ b → may_explode (tree_in (info_of x)) ≡ false
    by_place true e = bare k x at_least (grind (arith, nat_tests, e)) at
    by_place false e =
        let same : k ≡ first = grind (arith, nat_tests, e, below) in
        subst (λ y. may_explode (tree_in (info_of y)) ≡ false) (same_Some r x (sym here ∙ ap (slice_get xs) (sym same) ∙ at)) few

pub returns-then-branch : goal.returns-then-branch
returns-then-branch c =
    let parts = c.args.parts.now in
    let first = c.loop-first.first in
    let r = get_or parts first c.index-parts-first.result in
    let here : slice_get parts first ≡ Some r = slice_get-get_or parts first c.index-parts-first.result c.loop-first-test.true in
    record {
      from = c.plain_from-first.result;
      last = c.plain_from-first.ensures;
      not_before = c.loop-first.invariant.not_before;
      inside = c.loop-first.invariant.inside;
      other = c.loop-first.invariant.other;
      many = λ x at. subst (λ y. may_explode (tree_in (info_of y)) ≡ true) (same_Some r x (sym here ∙ at))
          (ap may_explode (ap tree_in (info_known r)) ∙ sym c.in_ok-may_explode.ensures ∙ c.if-branch.true);
    }

pub loop-first-preserved : goal.loop-first-preserved
loop-first-preserved c =
    let parts = c.args.parts.now in
    let first = c.loop-first.first in
    let r = get_or parts first c.index-parts-first.result in
    let here : slice_get parts first ≡ Some r = slice_get-get_or parts first c.index-parts-first.result c.loop-first-test.true in
    record {
      not_before = omega (arith, c.loop-first.invariant.not_before);
      inside = omega (arith, c.loop-first-test.true);
      other = one_more parts c.plain_from-first.result first r here c.loop-first.invariant.other
          (ap may_explode (ap tree_in (info_known r)) ∙ sym c.in_ok-may_explode.ensures ∙ c.if-branch.false);
    }

pub returns : goal.returns
returns c =
    let parts = c.args.parts.now in
    record {
      from = c.plain_from-first.result;
      last = c.plain_from-first.ensures;
      not_before = c.loop-first.invariant.not_before;
      inside = c.loop-first.invariant.inside;
      other = c.loop-first.invariant.other;
      many = λ x at. absurd (none-some x (sym (slice_get_past parts c.loop-first.first c.loop-first-test.false) ∙ at));
    }
