use Rattle.std.proofs.Common.{◌≡◌, ◌-◌, length}
use Rattle.fancy_regex_ffi.specs.Rows.{IsRow}
use Rattle.fancy_regex_ffi.proofs.RowSteps.{IsNext}
use Rattle.fancy_regex_ffi.proofs.query.write_row_in.Given as goal

abbrev pub invariant-row : goal.invariant-row
invariant-row l = record {
  row : IsRow l.fn.regex.meta l.fn.text l.fn.query l.count l.fn.spans l.spans;
  length_is : length l.spans ≡ length l.fn.spans;
  same : l.count ≡ 0 → l.spans ≡ l.fn.spans;
  next_is : IsNext l.fn.query l.count l.spans l.next;
}

abbrev pub decreases-row : goal.decreases-row
decreases-row l = length l.spans - l.count
