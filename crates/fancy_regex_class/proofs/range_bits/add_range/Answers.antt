use Rattle.std.proofs.Common.{◌≡◌, ◌<◌, ◌||◌, ◌/◌, ◌%◌, ◌∙◌, ◌*◌, refl, ap₂, arith, inl, inr, length, length-set}
use Rattle.std.proofs.lemmas.Bool.{cases_lt}
use Rattle.std.proofs.lemmas.List.{get_or_read}
use Rattle.fancy_regex_class.proofs.RangeBitLemmas.{BeginsAt, EndsAt, row_bits, bit_elsewhere, bit_here, is_before, is_after, none_added}
use Rattle.fancy_regex_class.proofs.range_bits.add_range.Goals as goal
use Rattle.fancy_regex_class.proofs.range_bits.add_range.Goals.{then-start-first, else-start-first, then-last-first, else-last-first}

pub returns-then-start-ge-END-clause-members : goal.returns-then-start-ge-END-clause-members
returns-then-start-ge-END-clause-members c = λ d below. none_added _ _ (
    elim c.then-start-ge-END.either [
      | inl late ↦ is_before c.args.start c.args.end d (omega (arith, late))
      | inr turned ↦ elim (cases_lt d c.args.start) [
        | inl before ↦ is_before c.args.start c.args.end d before
        | inr from ↦ is_after c.args.start c.args.end d (omega (arith, from, turned.1))
      ]
    ])

pub loop-row-init : goal.loop-row-init
loop-row-init c = record {
  filled = c.requires;
  done = λ d below passed. none_added _ _ (is_before c.args.start c.args.end d (omega (arith, passed)));
  due = λ d below from. refl;
}

pub loop-row-preserved : goal.loop-row-preserved
loop-row-preserved c =
    let words = c.loop-row.words.items in
    let row = c.loop-row.row in
    let begins : BeginsAt c.args.start (row * 64) c.if-start-first.low = elim c.if-start-first.branch [
      | then-start-first w ↦ inl (w.if-start-first.true, w.low-is)
      | else-start-first w ↦ inr (w.if-start-first.false, w.low-is)
    ] in
    let ends : EndsAt c.min-last.result (row * 64) c.if-last-first.high = elim c.if-last-first.branch [
      | then-last-first w ↦ inl (w.if-last-first.true, w.high-is)
      | else-last-first w ↦ inr (w.if-last-first.false, w.high-is)
    ] in
    record {
      filled = length-set words row _ ∙ c.loop-row.invariant.filled;
      done = λ d below passed. elim (cases_lt (d / 64) row) [
        | inl before ↦ bit_elsewhere words row d _ (λ e. omega (arith, e, before)) ∙ c.loop-row.invariant.done d below before
        | inr from ↦
            let here : d / 64 ≡ row = omega (arith, passed, from) in
            let inside : row < length words = omega (arith, c.loop-row.invariant.filled, here, below) in
            bit_here words row d c.index-word.result.now c.mask.result (get_or_read words row _ inside c.index-word.ensures 0) here inside
            ∙ ap₂ ◌||◌ (c.loop-row.invariant.due d below from) (
            c.mask.ensures (d % 64) (omega arith)
            ∙ row_bits c.args.start c.args.end c.min-last.result row _ _ d c.min-last.ensures below here begins ends (omega (arith, c.loop-row-test.true)))
      ];
      due = λ d below later. bit_elsewhere words row d _ (λ e. omega (arith, e, later)) ∙ c.loop-row.invariant.due d below (omega (arith, later));
    }

pub returns-clause-members : goal.returns-clause-members
returns-clause-members c = λ d below.
    elim (cases_lt (d / 64) c.loop-row.row) [
      | inl passed ↦ c.loop-row.invariant.done d below passed
      | inr from ↦ c.loop-row.invariant.due d below from
          ∙ none_added _ _ (is_after c.args.start c.args.end d (omega (arith, from, c.min-last.ensures, c.loop-row-test.false)))
    ]
