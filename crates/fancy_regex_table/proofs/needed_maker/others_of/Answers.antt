use Rattle.std.proofs.Common.{◌≡◌, ◌∙◌, ◌<◌, ℕ, true, false, arith, slice_index, length-set}
use Rattle.std.proofs.lemmas.List.{length-replicate}
use Rattle.fancy_regex_table.specs.Needed.{IsOther}
use Rattle.fancy_regex_table.proofs.MarkLemmas.{marked_more, none_marked}
use Rattle.fancy_regex_table.proofs.needed_maker.others_of.Goals as goal

pub loop-code-init : goal.loop-code-init
loop-code-init c = record { long = length-replicate 128 false; others = λ k e. absurd (none_marked 128 k e) }

pub loop-code-preserved : goal.loop-code-preserved
loop-code-preserved c =
    let inv = c.loop-code.invariant in
    let code = c.loop-code.code in
    let marked = c.loop-code.marked in
    let mark = c.is_other.result in
    record {
      long = length-set marked code mark ∙ inv.long;
      others = marked_more (λ (k : ℕ). IsOther c.args.string.now c.args.place (slice_index c.args.classes.now k)) marked code mark
          (omega (arith, inv.long, c.loop-code-test.true)) inv.others c.is_other.ensures;
    }
