use Rattle.std.proofs.Common.{◌≡◌, ◌-◌, ◌<◌, ◌≤◌, ◌∙◌, true, ap, sym, arith, length, ⊎_elim}
use Rattle.std.proofs.lemmas.Bool.{leb-true}
use Rattle.regex_class.specs.Ranges.{in_range, in_ranges, range_at}
use Rattle.regex_class.proofs.RangesLemmas.{in_range_tells, in_ranges-at}
use Rattle.regex_hir.proofs.Utf8Lemmas.{InScalarRange-of_IsScalar}
use Rattle.fancy_regex_class.proofs.class.CharClassMatcher.has_all_wide.Goals as goal

pub returns-then-last-le128 : goal.returns-then-last-le128
returns-then-last-le128 c told x wide scalar =
    let ranges = c.deref.result.now in
    let last = c.in-Some.last.now in
    let some = c.in-Some.ensures.item.3 in
    let top : 1114111 ≤ last.1 = leb-true 1114111 last.1 told in
    let below : x ≤ 1114111 = omega (arith, InScalarRange-of_IsScalar x scalar) in
    let in_last : in_range last x ≡ true =
    ⊎_elim (λ inside. inside.0) (λ outside. absurd (omega (arith, outside.1, top, below, wide, c.if-last-le128.true))) (in_range_tells last x) in
    ap (λ l. in_ranges l x) (sym c.deref.ensures.value)
    ∙ in_ranges-at ranges (length ranges - 1) x (omega (arith, some.0)) (ap (λ r. in_range r x) (sym (some.1 (0, 0))) ∙ in_last)
