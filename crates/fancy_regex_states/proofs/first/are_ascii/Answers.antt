use Rattle.std.proofs.Common.{◌≡◌, false, arith, inl, inr}
use Rattle.std.proofs.lemmas.Bool.{cases_lt}
use Rattle.std.proofs.lemmas.List.{get_or_default}
use Rattle.fancy_regex_states.specs.declared.atom.Leaf.TheVariants.{Any}
use Rattle.fancy_regex_states.proofs.first.are_ascii.Goals as goal

pub loop-i-preserved : goal.loop-i-preserved
loop-i-preserved c k d lt =
    elim (cases_lt k c.loop-i.i) [
      | inl less ↦ c.loop-i.invariant k d less
      | inr ge ↦
          let same : k ≡ c.loop-i.i = omega arith in
          let here = get_or_default c.args.leaves.now c.loop-i.i (Any false false) d (omega arith) in
          rw (same, ← here) (c.is_ascii_leaf.ensures c.if-not-is_ascii_leaf.false)
    ]
