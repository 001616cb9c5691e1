use Rattle.std.proofs.Common.{◌+◌, ◌<◌, ℕ, List, get_or, subst, sym, ap, arith}
use Rattle.fancy_regex_table.specs.Tables.{IsAsciiAt}
use Rattle.fancy_regex_table.proofs.TableLemmas.{ascii_here, later_fresh}
use Rattle.fancy_regex_table.proofs.table.Table.next_attempt.Goals as goal

pub returns-then-may_begin-clause-later : goal.returns-then-may_begin-clause-later
returns-then-may_begin-clause-later c =
    let place = c.args.place in
    let text = c.args.text.now in
    let byte = get_or c.as_bytes-bytes.result.now place.at 0 in
    let lt = c.requires.inside.0 in
    let idle = c.in-Some.ensures.fresh in
    let here : IsAsciiAt text place.at byte =
    ascii_here text place.at byte 0 c.utf8.text c.requires.place.boundary (omega (arith, c.requires.inside)) (ap (λ (t : List ℕ). get_or t place.at 0) c.as_bytes-bytes.ensures.value)
    idle.ascii in
    later_fresh text c.args.stop place c.in-Some.next (place.at + 1) c.requires.place (omega arith) (omega (arith, lt)) here.boundary_next idle.fresh

pub returns-then-may_begin-clause-stands : goal.returns-then-may_begin-clause-stands
returns-then-may_begin-clause-stands c parts rules s table search text_is stop_is stands =
    let place = c.args.place in
    let text = c.args.text.now in
    let byte = get_or c.as_bytes-bytes.result.now place.at 0 in
    let lt = c.requires.inside.0 in
    let here : byte < 128 → IsAsciiAt text place.at byte =
    λ small. ascii_here text place.at byte 0 c.utf8.text c.requires.place.boundary (omega (arith, c.requires.inside)) (ap (λ (t : List ℕ). get_or t place.at 0) c.as_bytes-bytes.ensures.value) small in
    c.in-Some.ensures.stands parts rules s table search (λ small. subst (λ (t : List ℕ). IsAsciiAt t place.at byte) (sym text_is) (here small)) (omega (arith, lt, stop_is)) stands
