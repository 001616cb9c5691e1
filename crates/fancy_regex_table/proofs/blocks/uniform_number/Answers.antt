use Rattle.std.proofs.Common.{◌≡◌, ◌⊎◌, ◌+◌, ◌∙◌, ap, sym, arith, drop, inl, inr}
use Rattle.fancy_regex_table.specs.Questions.{number_from, bits_at, with_answer}
use Rattle.fancy_regex_table.proofs.BlockLemmas.{row_step, row_done, uniform_bit}
use Rattle.fancy_regex_table.proofs.blocks.uniform_number.Goals as goal
use Rattle.fancy_regex_table.proofs.blocks.uniform_number.Goals.{else-word-ne0-via-then-word-ne0+else-word, else-word-ne0-via-else-word-ne0}

pub loop-i-preserved : goal.loop-i-preserved
loop-i-preserved c place lt =
    let bits = c.args.bits.now in
    let word = c.index-word.result.now in
    let uniform : (word ≡ 0) ⊎ (word ≡ 18446744073709551615) =
    elim c.else-word-ne0.branch [
      | else-word-ne0-via-then-word-ne0+else-word w ↦ inr w.if-word.false
      | else-word-ne0-via-else-word-ne0 w ↦ inl w.if-word-ne0.false
    ] in
    ap (λ n. number_from n (bits_at (drop (c.loop-i.i + 1) bits) c.args.row place))
    (c.with_answer-number.ensures ∙ ap (with_answer c.loop-i.number) (uniform_bit word place lt uniform))
    ∙ row_step bits c.loop-i.i c.index-bits-i.result c.loop-i-test.true c.index-bits-i.is c.args.row place c.loop-i.number word
    c.requires.filled c.requires.row c.index-word.ensures
    ∙ c.loop-i.invariant place lt

pub returns : goal.returns
returns c place lt =
    sym (c.loop-i.invariant place lt)
    ∙ row_done c.args.bits.now c.loop-i.i c.args.row place c.loop-i.number (omega (arith, c.loop-i-test.false))
