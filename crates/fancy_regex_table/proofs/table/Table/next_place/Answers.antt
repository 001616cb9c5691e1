use Rattle.std.proofs.Common.{ℕ, List, get_or, subst, sym, ap, arith}
use Rattle.fancy_regex_table.specs.Tables.{IsAsciiAt, IsLater, IsOnward}
use Rattle.fancy_regex_table.specs.declared.table.Place.{Place}
use Rattle.std.proofs.Common.{IsCharBoundary}
use Rattle.fancy_regex_table.proofs.TableLemmas.{ascii_here, later_at, some_as}
use Rattle.fancy_regex_table.proofs.table.Table.next_place.Goals as goal

pub returns-then-byte-lt128 : goal.returns-then-byte-lt128
returns-then-byte-lt128 c =
    let place = c.args.place in
    let text = c.args.text.now in
    let byte = get_or c.as_bytes.result.now place.at 0 in
    let lt = c.requires.inside.0 in
    let here : IsAsciiAt text place.at byte =
    ascii_here text place.at byte 0 c.utf8.text c.requires.place.boundary (omega (arith, c.requires.inside)) (ap (λ (t : List ℕ). get_or t place.at 0) c.as_bytes.ensures.value)
    (omega (arith, c.if-byte-lt128.true)) in
    record {
      later = some_as c.step.result (IsOnward place byte) (IsLater text place c.args.stop)
          (λ (next : Place) (onward : IsOnward place byte next).
          let at_is = onward.at in
          later_at text c.args.stop place next c.requires.place (omega (arith, at_is)) (omega (arith, at_is, lt)) (subst (IsCharBoundary text) (sym at_is) here.boundary_next) onward.start)
          c.step.ensures.onward;
      stands = λ parts rules s table search same text_is stop_is stands.
          c.step.ensures.stands parts rules s table search (λ small. subst (λ (t : List ℕ). IsAsciiAt t place.at byte) (sym text_is) here) (omega (arith, lt, stop_is)) stands;
    }
