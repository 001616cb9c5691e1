-- The digits of a span.
use Rattle.std.proofs.Common.{◌≡◌, ℕ, ◌≤◌, ◌<◌, ◌+◌, ◌-◌, ◌^◌, List, ◌++◌, length, take, drop, ap, sym, ◌∙◌, arith, rules, length-append, append_assoc}
use Rattle.std.specs.Prelude.{codes, replicate}
use Rattle.std.specs.Fmt.{decimal}
use Rattle.std.specs.Str.{IsAscii}
use Rattle.std.proofs.lemmas.List.{take-append-drop, drop-append-le, take-replicate, drop-replicate, length-replicate, take-take}
use Rattle.std.proofs.lemmas.Fmt.{length-decimal-le, IsAscii-decimal}
use Rattle.std.proofs.lemmas.Str.{IsAscii-append}
use Rattle.fancy_search_text.specs.Lines.{span_text}

-- the two dots before the digits of an end
dots_before : (bytes : List ℕ) (n last : ℕ) → 2 ≤ last → last ≤ n → take last bytes ≡ take last (replicate n 46) → drop (last - 2) bytes ≡ codes ".." ++ drop last bytes
dots_before bytes n last two within front =
    let front_is : take last bytes ≡ replicate last 46 = front ∙ take-replicate last n 46 within in
    let long : last - 2 ≤ length (take last bytes) = omega (arith, ap length front_is, length-replicate {A = ℕ} last 46) in
    let rest : last - (last - 2) ≡ 2 = omega arith in
    ap (λ xs. drop (last - 2) xs) (sym (take-append-drop last bytes))
    ∙ drop-append-le (last - 2) (take last bytes) (drop last bytes) long
    ∙ ap (λ xs. drop (last - 2) xs ++ drop last bytes) front_is
    ∙ ap (λ xs. xs ++ drop last bytes) (drop-replicate (last - 2) last 46)
    ∙ ap (λ k. replicate k 46 ++ drop last bytes) rest

-- an offset has at most twenty digits
pub digits_at_most : (n : ℕ) → n < 2 ^ 64 → length (decimal n) ≤ 20
digits_at_most n small = length-decimal-le 20 n (omega arith) (omega (arith, small)) small

-- the end is written before what follows, and then the start two dots before it
pub span_written : (start end first last n : ℕ) (old one two : List ℕ) → take n old ≡ replicate n 46 → 2 ≤ last → last ≤ n
    → drop last one ≡ decimal end ++ drop n old → take last one ≡ take last old → drop first two ≡ decimal start ++ drop (last - 2) one
    → drop first two ≡ span_text (start, end) ++ drop n old
span_written start end first last n old one two dots low within end_is front start_is =
    let front_is : take last one ≡ take last (replicate n 46) = front ∙ sym (take-take last n old within) ∙ ap (λ xs. take last xs) dots in
    start_is
    ∙ ap (λ xs. decimal start ++ xs) (dots_before one n last low within front_is)
    ∙ ap (λ xs. decimal start ++ (codes ".." ++ xs)) end_is
    ∙ ap (λ xs. decimal start ++ xs) (sym (append_assoc (codes "..") (decimal end) (drop n old)))
    ∙ sym (append_assoc (decimal start) (codes ".." ++ decimal end) (drop n old))

-- its length
pub span_length : (start end : ℕ) → length (span_text (start, end)) ≡ length (decimal start) + 2 + length (decimal end)
span_length start end = omega (arith, length-append (decimal start) (codes ".." ++ decimal end), length-append (codes "..") (decimal end))

pub span_ascii : (start end : ℕ) → start < 2 ^ 64 → end < 2 ^ 64 → IsAscii (span_text (start, end))
span_ascii start end small_start small_end =
    IsAscii-append (decimal start) (codes ".." ++ decimal end) (IsAscii-decimal start small_start)
    (IsAscii-append (codes "..") (decimal end) (search rules) (IsAscii-decimal end small_end))

pub line_ascii : (start end : ℕ) → start < 2 ^ 64 → end < 2 ^ 64 → IsAscii (span_text (start, end) ++ codes "\n")
line_ascii start end small_start small_end =
    IsAscii-append (span_text (start, end)) (codes "\n") (span_ascii start end small_start small_end) (search rules)
