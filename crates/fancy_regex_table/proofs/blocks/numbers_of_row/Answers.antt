use Rattle.std.proofs.Common.{◌+◌, ◌∙◌, ap, sym, refl, arith, get_or, drop}
use Rattle.fancy_regex_table.specs.Questions.{number_from, bits_at}
use Rattle.fancy_regex_table.proofs.BlockLemmas.{zero_at, row_step, row_done}
use Rattle.fancy_regex_table.proofs.blocks.numbers_of_row.Goals as goal

pub loop-i-init : goal.loop-i-init
loop-i-init c = record {
  long = refl;
  each = λ place lt. ap (λ n. number_from n (bits_at c.args.bits.now c.args.row place)) (zero_at 64 place);
}

pub loop-i-preserved : goal.loop-i-preserved
loop-i-preserved c = record {
  long = c.add_answers.array_long;
  each = λ place lt.
      let bits = c.args.bits.now in
      ap (λ n. number_from n (bits_at (drop (c.loop-i.i + 1) bits) c.args.row place)) (c.add_answers.ensures place lt)
      ∙ row_step bits c.loop-i.i c.index-bits-i.result c.loop-i-test.true c.index-bits-i.is c.args.row place (get_or c.loop-i.numbers place 0) c.index.result.now
      c.requires.filled c.requires.row c.index.ensures
      ∙ c.loop-i.invariant.each place lt;
}

pub returns : goal.returns
returns c place lt =
    sym (row_done c.args.bits.now c.loop-i.i c.args.row place (get_or c.loop-i.numbers place 0) (omega (arith, c.loop-i-test.false)))
    ∙ c.loop-i.invariant.each place lt
