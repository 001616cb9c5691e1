use Rattle.std.proofs.Common.{ℕ, ◌≡◌, ◌+◌, ◌<◌, ◌≤◌, Some, inl, inr, arith}
use Rattle.std.proofs.lemmas.Bool.{cases_lt}
use Rattle.std.proofs.lemmas.Option.{slice_get_within}
use Rattle.std.specs.Prelude.{slice_index}
use Rattle.fancy_regex_table.specs.Cells.{NoneBefore}
use Rattle.fancy_regex_table.specs.Flat.{IsFoundCell}
use Rattle.fancy_regex_table.specs.Sorts.{sort_at}
use Rattle.fancy_regex_table.specs.Tables.{IsFreshAt, IsFreshRow, IsIdleAfter, Stands}
use Rattle.fancy_regex_table.specs.declared.row.Cell.TheVariants.{Idle, Unknown}
use Rattle.fancy_regex_table.specs.declared.table.Place.{Place}
use Rattle.fancy_regex_table.specs.declared.table.Table.{Table}
use Rattle.fancy_regex_table.proofs.PlaceLemmas.{char_place}
use Rattle.fancy_regex_table.proofs.TableLemmas.{cell_tells, some_as, some_both, stands_anew}
use Rattle.fancy_regex_table.proofs.table.Table.step_idle.Goals as goal

-- a cell that says that nothing is under way is that of an ASCII character
idle_ascii : (table : Table) (byte row : ℕ) → byte < 256 → IsFoundCell table.cells.items (row + slice_index table.classes byte) Idle → byte < 128
idle_ascii table byte row small (inl none) = absurd (let e : Idle ≡ Unknown = none in cc)
idle_ascii table byte row small (inr found) =
    let within = slice_get_within table.cells.items (row + slice_index table.classes byte) Idle found in
    elim (cases_lt byte 128) [
      | inl less ↦ less
      | inr ge ↦ absurd (let far = table.beyond byte ge small in omega (arith, within, far))
    ]

pub returns-in-Idle : goal.returns-in-Idle
returns-in-Idle c =
    let place = c.args.place in
    let byte = c.args.byte in
    let small : byte < 128 = idle_ascii c.args.self.now byte place.row (omega arith) (rw c.deref.ensures.value at c.in-Idle.ensures) in
    let class = slice_index c.args.self.now.classes byte in
    let to = c.fresh_place.result in
    record {
      fresh = some_as to (IsFreshAt (place.at + 1)) (IsIdleAfter place byte)
          (λ (next : Place) (fresh : IsFreshAt (place.at + 1) next). record { ascii = small; fresh = fresh }) c.fresh_place.ensures.place;
      stands = λ parts rules s table search ascii lt stands.
          let here = ascii small in
          let h = table.ascii byte small in
          let found = rw c.deref.ensures.value at c.in-Idle.ensures in
          let fits : place.at + 1 ≤ s.stop = omega (arith, lt) in
          let early : NoneBefore s (place.at + 1) =
          cell_tells table search place stands class (Some byte) h (place.at + 1) (char_place table search place stands byte class (place.at + 1) here fits h) Idle found in
          let fresh = c.args.self.now.fresh.items in
          some_both to (IsFreshAt (place.at + 1)) (λ (next : Place). IsFreshRow fresh (sort_at parts.matchers c.args.self.now.asked c.args.self.now.unicode (Some byte)) next.row)
          (Stands parts.matchers c.args.self.now.asked c.args.self.now.unicode table.rows s)
          (λ next at first. stands_anew table search place stands byte (place.at + 1) here fits fresh next table.fresh at first early)
          c.fresh_place.ensures.place (c.fresh_place.ensures.row parts table (Some byte) h);
    }
