use Rattle.std.proofs.Common.{◌≡◌, ◌+◌, ◌==◌, ◌⊎◌, ◌&&◌, false, ◌∙◌, sym, get_or, inl, inr, ne_eqb, arith}
use Rattle.std.proofs.lemmas.Bool.{and_left, and_right}
use Rattle.fancy_regex_meaning.specs.Positions.{is_before_byte}
use Rattle.fancy_regex_prefilter.proofs.NewlineLemmas.{newline_more, both_more, no_newline, not_at_end, past_end}
use Rattle.fancy_regex_prefilter.proofs.assertion.newlines_end.Goals as goal
use Rattle.fancy_regex_prefilter.proofs.assertion.newlines_end.Goals.{else-crlf-via-then-crlf+then-text-at-eq13+else-is_before_byte, else-crlf-via-then-crlf+else-text-at-eq13, else-crlf-via-else-crlf}

pub loop-at-preserved-then-text-at-eq10 : goal.loop-at-preserved-then-text-at-eq10
loop-at-preserved-then-text-at-eq10 c = (
  omega (arith, c.loop-at.invariant.0),
  c.loop-at.invariant.1 ∙ newline_more c.args.crlf c.args.text.now c.loop-at.at c.loop-at-test.true c.if-text-at-eq10.true,
)

pub loop-at-preserved : goal.loop-at-preserved
loop-at-preserved c = (
  omega (arith, c.loop-at.invariant.0),
  c.loop-at.invariant.1
      ∙ both_more c.args.crlf c.args.text.now c.loop-at.at c.if-crlf.true c.loop-at-test.true c.if-text-at-eq13.true (sym c.if-is_before_byte.ensures),
)

pub returns-else-crlf-clause-told : goal.returns-else-crlf-clause-told
returns-else-crlf-clause-told c =
    let text = c.args.text.now in
    let at = c.loop-at.at in
    let more : ((c.args.crlf && get_or text at 0 == 13) ≡ false) ⊎ (is_before_byte text 10 (at + 1) ≡ false) = elim c.else-crlf.branch [
      | else-crlf-via-then-crlf+then-text-at-eq13+else-is_before_byte w ↦ inr (sym w.is_before_byte.ensures ∙ w.if-is_before_byte.false)
      | else-crlf-via-then-crlf+else-text-at-eq13 w ↦ inl (and_right _ _ (ne_eqb _ _ w.if-text-at-eq13.false))
      | else-crlf-via-else-crlf w ↦ inl (and_left _ _ w.if-crlf.false)
    ] in
    not_at_end text at c.loop-at-test.true ∙ sym (c.loop-at.invariant.1 ∙ no_newline c.args.crlf text at c.loop-at-test.true c.if-text-at-eq10.false more)

pub returns-clause-told : goal.returns-clause-told
returns-clause-told c =
    past_end c.args.crlf c.args.text.now c.loop-at.at c.loop-at-test.false ∙ sym c.loop-at.invariant.1
