use Rattle.std.proofs.Common.{◌<◌, ◌-◌, ℕ, slice_index_or, sym, ap, ◌∙◌, refl, arith}
use Rattle.regex_hir.specs.Text.{char_before}
use Rattle.regex_hir.proofs.TextLemmas.{char_before-zero}
use Rattle.fancy_regex_class.proofs.AdjacentCharLemmas.{ascii_before}
use Rattle.fancy_regex_linear.proofs.by_table.char_before.Goals as goal

pub returns-then-position-eq0 : goal.returns-then-position-eq0
returns-then-position-eq0 c =
    sym (ap (char_before c.args.text.now) c.if-position-eq0.true ∙ char_before-zero c.args.text.now)

pub returns-then-byte-lt128 : goal.returns-then-byte-lt128
returns-then-byte-lt128 c =
    let text = c.args.text.now in
    let byte : ℕ = slice_index_or text (c.args.position - 1) 0 in
    let small : byte < 128 = rw c.as_bytes.ensures.value at c.if-byte-lt128.true in
    rw c.as_bytes.ensures.value (sym (ascii_before text c.args.position byte 0 (omega (arith, c.if-position-eq0.false)) c.requires.0 refl small))
