use Rattle.std.proofs.Common.{◌≡◌, ◌∙◌, ◌-◌, ◌<◌, ℕ, List, Option, Some, sym, ap, subst, arith, length, get_or, IsCharBoundary}
use Rattle.std.specs.Option.{option_copied}
use Rattle.std.specs.Prelude.{IfSome, slice_index_or}
use Rattle.fancy_regex_table.specs.Needed.{IsNeededOf, IsPassedTo}
use Rattle.fancy_regex_table.specs.declared.needed.Needed.{Needed}
use Rattle.fancy_regex_table.proofs.NeededLemmas.{none_before_onset}
use Rattle.fancy_regex_table.proofs.table.Table.onset.Goals as goal
use Rattle.fancy_regex_table.proofs.table.Table.onset.Goals.{else-from-gt0-via-then-from-gt0+else-bytes-from-ge128, else-from-gt0-via-else-from-gt0}

pub returns-then-is_boundary-clause-early : goal.returns-then-is_boundary-clause-early
returns-then-is_boundary-clause-early c = λ parts rules s t search text_is from_is stop_is p low high b.
    let self = c.args.self.now in
    let from : ℕ = c.args.from in
    let bytes : List ℕ = c.as_bytes-bytes.result.now in
    let needed : Needed = c.in-Some.needed.now in
    let place : ℕ = c.onset-onset.result.place in
    let same : bytes ≡ s.text = c.as_bytes-bytes.ensures.value ∙ sym text_is in
    let some : self.needed ≡ Some needed = sym c.as_ref.ensures.value ∙ ap option_copied c.in-Some.is in
    let is : IsNeededOf self.cells.items self.fresh.items self.begins.items self.classes self.wide needed =
    subst (λ (o : Option Needed). IfSome o (IsNeededOf self.cells.items self.fresh.items self.begins.items self.classes self.wide)) some t.needed in
    let in_bytes : IsPassedTo self.classes needed bytes from place = c.onset-onset.ensures.passed is.marks in
    let in_text : IsPassedTo self.classes needed s.text from place = subst (λ (bs : List ℕ). IsPassedTo self.classes needed bs from place) same in_bytes in
    let passed : IsPassedTo self.classes needed s.text s.from place = subst (λ (k : ℕ). IsPassedTo self.classes needed s.text k place) (sym from_is) in_text in
    let boundary : IsCharBoundary s.text place = subst (λ (bs : List ℕ). IsCharBoundary bs place) same (c.is_boundary.ensures c.if-is_boundary.true) in
    let first : IsCharBoundary s.text from = subst (λ (bs : List ℕ). IsCharBoundary bs from) (sym text_is) c.requires.boundary in
    let small : 0 < from → get_or bytes (from - 1) 0 < 128 =
    elim c.else-from-gt0.branch [
      | else-from-gt0-via-then-from-gt0+else-bytes-from-ge128 w ↦ λ more. omega (arith, w.if-bytes-from-ge128.false)
      | else-from-gt0-via-else-from-gt0 w ↦ λ more. absurd (omega (arith, w.if-from-gt0.false, more))
    ] in
    none_before_onset t search needed is place passed boundary (omega (arith, in_bytes.range.1, stop_is, ap length c.as_bytes-bytes.ensures.value))
    (subst (IsCharBoundary s.text) (sym from_is) first)
    (λ more.
    subst (λ (k : ℕ). slice_index_or s.text (k - 1) 0 < 128) (sym from_is)
    (subst (λ (bs : List ℕ). slice_index_or bs (from - 1) 0 < 128) same (small (omega (arith, more, from_is)))))
    p low high b
