use Rattle.std.proofs.Common.{◌≡◌, ◌∙◌, ◌<◌, ◌≤◌, ℕ, Bool, true, false, arith, get_or, length-set, replicate, sym}
use Rattle.std.proofs.lemmas.List.{length-replicate, get_or-replicate}
use Rattle.fancy_regex_table.proofs.MarkLemmas.{marked_more, marked_at, all_as}
use Rattle.fancy_regex_table.proofs.needed_maker.resets_of.Goals as goal

pub loop-code-init : goal.loop-code-init
loop-code-init c = record {
  long = length-replicate 256 c.args.others;
  marks = λ k less e. absurd (omega (arith, less));
  others = λ b low e. all_as 256 c.args.others b e;
}

pub loop-code-preserved : goal.loop-code-preserved
loop-code-preserved c =
    let inv = c.loop-code.invariant in
    let code = c.loop-code.code in
    let marked = c.loop-code.marked in
    let mark = c.mark_of.result in
    let within : code < 256 = omega (arith, c.loop-code-test.true) in
    record {
      long = length-set marked code mark ∙ inv.long;
      marks = λ k less e.
          marked_at (λ (i : ℕ). get_or c.args.by_class.now (get_or c.args.classes.now i 0) false ≡ true) marked code mark (omega (arith, inv.long, within))
          inv.marks (λ is. c.mark_of.ensures is) k less e;
      others = λ b low e.
          marked_more (λ (i : ℕ). 128 ≤ i → c.args.others ≡ true) marked code mark (omega (arith, inv.long, within)) (λ i is above. inv.others i above is)
          (λ is above. absurd (omega (arith, above, c.loop-code-test.true))) b e low;
    }
