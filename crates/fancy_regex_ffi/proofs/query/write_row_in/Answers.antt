use Rattle.std.proofs.Common.{refl, ◌∙◌, arith}
use Rattle.std.proofs.lemmas.List.{length-set}
use Rattle.fancy_regex_ffi.proofs.RowSteps.{row_begins, next_begins, row_grows, next_grows, room_falls, found_span, never_none}
use Rattle.fancy_regex_ffi.proofs.RowSteps.{row_after_match, row_without_room, row_before_none, row_before_fault, fault_of_row}
use Rattle.fancy_regex_ffi.proofs.query.write_row_in.Goals as goal

pub row-init : goal.row-init
row-init c =
    let query = c.args.query.now in
    let spans = c.args.spans.now in record {
      row = row_begins c.args.regex.now.meta c.args.text.now query spans;
      length_is = refl;
      same = λ none. refl;
      next_is = next_begins query spans;
    }

pub row-preserved : goal.row-preserved
row-preserved c =
    let meta = c.args.regex.now.meta in
    let text = c.args.text.now in
    let query = c.args.query.now in
    let match = c.in-Ok-Some in
    let row = c.row in
    let found = found_span meta text row.next match.field-0 match.start match.end match.ensures.answer match.field-0-is in
    let is = row.invariant in record {
      row = row_grows meta text query row.next row.count c.args.spans.now row.spans _ is.row is.next_is c.row-test.true found;
      length_is = length-set row.spans row.count _ ∙ is.length_is;
      same = λ none. absurd (never_none row.count none);
      next_is = next_grows query row.count row.spans _ c.after-next.result c.row-test.true c.if-start-end.false c.after-next.ensures;
    }

pub row-smaller : goal.row-smaller
row-smaller c = room_falls c.row.spans c.row.count _ c.row-test.true

pub offset_bounds-spans-count : goal.offset_bounds-spans-count
offset_bounds-spans-count c = omega arith

pub bounds-spans-count : goal.bounds-spans-count
bounds-spans-count c = c.row-test.true

pub overflow_add-count : goal.overflow_add-count
overflow_add-count c = omega arith

pub returns-then-start-end : goal.returns-then-start-end
returns-then-start-end c =
    let meta = c.args.regex.now.meta in
    let text = c.args.text.now in
    let query = c.args.query.now in
    let old = c.args.spans.now in
    let match = c.in-Ok-Some in
    let row = c.row in
    let found = found_span meta text row.next match.field-0 match.start match.end match.ensures.answer match.field-0-is in
    let is = row.invariant in
    let grown = row_grows meta text query row.next row.count old row.spans _ is.row is.next_is c.row-test.true found in
    row_after_match meta text query row.count old row.spans _ grown is.length_is

pub returns-in-Ok-None : goal.returns-in-Ok-None
returns-in-Ok-None c =
    let row = c.row in
    let is = row.invariant in
    let none = c.in-Ok-None in
    row_before_none c.args.regex.now.meta c.args.text.now c.args.query.now row.next row.count c.args.spans.now row.spans none.field-0
    is.row is.next_is is.length_is none.ensures.answer none.field-0-is

pub returns-then-count-eq0 : goal.returns-then-count-eq0
returns-then-count-eq0 c =
    let row = c.row in
    let is = row.invariant in
    let failed = c.in-Err in
    fault_of_row c.args.regex.now.meta c.args.text.now c.args.query.now row.next row.count c.args.spans.now row.spans failed.fault
    is.next_is is.same c.if-count-eq0.true failed.ensures.answer

pub returns-in-Err : goal.returns-in-Err
returns-in-Err c =
    let row = c.row in
    let is = row.invariant in
    row_before_fault c.args.regex.now.meta c.args.text.now c.args.query.now row.count c.args.spans.now row.spans
    is.row is.length_is c.if-count-eq0.false

pub returns : goal.returns
returns c =
    let row = c.row in
    let is = row.invariant in
    row_without_room c.args.regex.now.meta c.args.text.now c.args.query.now row.count c.args.spans.now row.spans
    is.row is.length_is c.row-test.false
