use Rattle.std.proofs.Common.{◌≡◌, ◌∙◌, ◌<◌, ℕ, Some, true, sym, ap, arith, rules, length}
use Rattle.std.specs.Prelude.{slice_get, nat_lt}
use Rattle.std.proofs.lemmas.Option.{slice_get-get_or}
use Rattle.regex_hir.proofs.TextLemmas.{char_at_ascii}
use Rattle.fancy_regex_prefilter.proofs.matching.ascii_at.Goals as goal

within : (i n : ℕ) → true ≡ nat_lt i n → i < n
within i n e = search rules

pub returns-clause-char : goal.returns-clause-char
returns-clause-char c =
    let text = c.args.text.now in
    let position = c.args.position in
    let bytes = c.as_bytes.result.now in
    let byte = c.in_ok-byte.field-0.now in
    let read = c.in_ok-byte.ensures.lookup in
    let small : byte < 128 = omega (arith, c.if-byte-ge128.false) in
    let here : slice_get text position ≡ Some byte =
    ap (λ l. slice_get l position) (sym c.as_bytes.ensures.value) ∙ slice_get-get_or bytes position byte (within position (length bytes) read.0) ∙ ap Some (sym read.1) in
    char_at_ascii text position byte here small
