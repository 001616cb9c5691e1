use Rattle.std.proofs.Common.{◌≡◌, ◌+◌, ℕ, None, subst, arith}
use Rattle.regex_hir.specs.Text.{char_at}
use Rattle.regex_hir.proofs.TextLemmas.{char_at_past}
use Rattle.fancy_regex_table.specs.Cells.{NoneBefore}
use Rattle.fancy_regex_table.proofs.PlaceLemmas.{end_place}
use Rattle.fancy_regex_table.proofs.TableLemmas.{cell_tells}
use Rattle.fancy_regex_table.proofs.table.Table.at_stop.Goals as goal

pub returns-then-not-at_end-clause-passed : goal.returns-then-not-at_end-clause-passed
returns-then-not-at_end-clause-passed c parts rules s table search at_stop is_end stands = c.unknown.ensures.passed parts s table stands

pub returns-in-Idle-clause-passed : goal.returns-in-Idle-clause-passed
returns-in-Idle-clause-passed c parts rules s table search at_stop is_end stands =
    let place = c.args.place in
    let long = is_end c.if-not-at_end.false in
    let none : char_at s.text place.at ≡ None = char_at_past s.text place.at (omega arith) in
    let found = rw c.deref.ensures.value at c.in-Idle.ensures in
    let early : NoneBefore s (place.at + 1) =
    cell_tells table search place stands 0 None table.end (place.at + 1) (end_place table search place stands 0 none at_stop table.end) _ found in
    subst (λ (n : ℕ). NoneBefore s (n + 1)) at_stop early

pub returns-in_default-clause-passed : goal.returns-in_default-clause-passed
returns-in_default-clause-passed c parts rules s table search at_stop is_end stands =
    let place = c.args.place in
    let long = is_end c.if-not-at_end.false in
    let none : char_at s.text place.at ≡ None = char_at_past s.text place.at (omega arith) in
    let found = rw c.deref.ensures.value at c.cell_at.ensures in
    c.ended.ensures.passed parts s table table.end.column.sort (place.at + 1) stands
    (cell_tells table search place stands 0 None table.end (place.at + 1) (end_place table search place stands 0 none at_stop table.end) c.cell_at.result found)
