use Rattle.std.proofs.Common.{◌∙◌, ◌≢◌, arith, get_or, get_or-set_other, get_or-set_same, length-set, below_more}
use Rattle.std.proofs.lemmas.List.{get_or-replicate, length-replicate}
use Rattle.fancy_regex_table.proofs.flat.classes_of.Goals as goal

pub loop-code-init : goal.loop-code-init
loop-code-init c = record {
  wide = length-replicate 256 c.args.other;
  ascii = λ k less. absurd (omega (arith, less));
  others = λ b low high. get_or-replicate 256 b c.args.other 0 high;
}

pub loop-code-preserved : goal.loop-code-preserved
loop-code-preserved c =
    let inv = c.loop-code.invariant in
    let classes = c.loop-code.classes in
    let code = c.loop-code.code in
    let class = get_or c.args.ascii.now code 0 in
    record {
      wide = length-set classes code class ∙ inv.wide;
      ascii = below_more _ _
          (λ k less. let ne : k ≢ code = omega (arith, less) in get_or-set_other classes code k class 0 ne ∙ inv.ascii k less)
          (get_or-set_same classes code class 0 (omega (arith, inv.wide, c.loop-code-test.true)));
      others = λ b low high. let ne : b ≢ code = omega (arith, low, c.loop-code-test.true) in get_or-set_other classes code b class 0 ne ∙ inv.others b low high;
    }
