use Rattle.std.proofs.Common.{◌≡◌, ◌∙◌, ◌<◌, ℕ, Some, true, sym, ap, rules, length}
use Rattle.std.specs.Prelude.{slice_get, nat_lt}
use Rattle.std.proofs.lemmas.Option.{slice_get-get_or}
use Rattle.fancy_regex_prefilter.proofs.FirstBytes.{first_ascii, first_wide}
use Rattle.fancy_regex_prefilter.proofs.matching.first_byte_at.Goals as goal
use Rattle.fancy_regex_prefilter.proofs.matching.first_byte_at.Goals.{In_ok-byte}

within : (i n : ℕ) → true ≡ nat_lt i n → i < n
within i n e = search rules

here : (c : In_ok-byte) → slice_get c.args.text.now c.args.position ≡ Some c.in_ok-byte.field-0.now
here c =
    let position = c.args.position in
    let bytes = c.as_bytes.result.now in
    let byte = c.in_ok-byte.field-0.now in
    let read = c.in_ok-byte.ensures.lookup in
    ap (λ l. slice_get l position) (sym c.as_bytes.ensures.value) ∙ slice_get-get_or bytes position byte (within position (length bytes) read.0) ∙ ap Some (sym read.1)

pub returns-then-byte-lt128-clause-begins : goal.returns-then-byte-lt128-clause-begins
returns-then-byte-lt128-clause-begins c =
    first_ascii c.args.text.now c.args.position c.in_ok-byte.field-0.now (here (goal.at.returns-then-byte-lt128-clause-begins c).In_ok-byte) c.if-byte-lt128.true

pub returns-clause-begins : goal.returns-clause-begins
returns-clause-begins c =
    first_wide c.args.text.now c.args.position c.in_ok-byte.field-0.now c.utf8.text (here (goal.at.returns-clause-begins c).In_ok-byte) c.if-byte-lt192.false
