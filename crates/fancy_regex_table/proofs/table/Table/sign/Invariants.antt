use Rattle.std.proofs.Common.{◌≡◌, ◌-◌, ◌≤◌, length}
use Rattle.fancy_regex_states.specs.declared.rules.Rules.{Rules}
use Rattle.fancy_regex_table.specs.Cells.{Parts, Search}
use Rattle.fancy_regex_table.specs.Tables.{IsTable, IsSearchOf, IsPlaceIn, Stands}
use Rattle.fancy_regex_table.proofs.table.Table.sign.Given as goal

abbrev pub invariant-chars : goal.invariant-chars
invariant-chars l = record {
  place : IsPlaceIn l.text (length l.text) l.place;
  low : l.from ≤ l.place.start;
  stands : (parts : Parts) (rules : Rules) (s : Search) (table : IsTable parts l.self) → IsSearchOf parts rules s → parts.matchers ≡ l.matchers → s.text ≡ l.text → s.from ≡ l.from
      → s.stop ≡ length l.text → Stands parts.matchers l.self.asked l.self.unicode table.rows s l.place;
}

abbrev pub decreases-chars : goal.decreases-chars
decreases-chars l = length l.text - l.place.at
