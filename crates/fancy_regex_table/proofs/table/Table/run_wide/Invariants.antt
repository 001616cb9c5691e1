use Rattle.std.proofs.Common.{◌≡◌, ◌-◌}
use Rattle.fancy_regex_states.specs.declared.rules.Rules.{Rules}
use Rattle.fancy_regex_table.specs.Cells.{Parts, Search}
use Rattle.fancy_regex_table.specs.Tables.{IsTable, IsSearchOf, IsRunTo, Stands}
use Rattle.fancy_regex_table.proofs.table.Table.run_wide.Given as goal

abbrev pub invariant-places : goal.invariant-places
invariant-places l = record {
  run : IsRunTo l.text l.fn.first l.stop l.place;
  stands : (parts : Parts) (rules : Rules) (s : Search) (table : IsTable parts l.self) → IsSearchOf parts rules s → parts.matchers ≡ l.matchers → s.text ≡ l.text → s.stop ≡ l.stop
      → Stands parts.matchers l.self.asked l.self.unicode table.rows s l.fn.first → Stands parts.matchers l.self.asked l.self.unicode table.rows s l.place;
}

abbrev pub decreases-places : goal.decreases-places
decreases-places l = l.stop - l.place.at
