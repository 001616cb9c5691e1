use Rattle.std.proofs.Common.{◌≡◌, ◌-◌}
use Rattle.fancy_regex_states.specs.declared.rules.Rules.{Rules}
use Rattle.fancy_regex_table.specs.Cells.{Parts, Search}
use Rattle.fancy_regex_table.specs.Tables.{IsTable, IsSearchOf, IsRunTo, Stands}
use Rattle.fancy_regex_table.proofs.table.Table.run_attempts.Given as goal

abbrev pub invariant-attempts : goal.invariant-attempts
invariant-attempts l = record {
  run : IsRunTo l.text l.fn.first l.stop l.place;
  stands : (parts : Parts) (rules : Rules) (s : Search) (table : IsTable parts l.self) → IsSearchOf parts rules s → s.text ≡ l.text → s.stop ≡ l.stop
      → Stands parts.matchers l.self.asked l.self.unicode table.rows s l.fn.first → Stands parts.matchers l.self.asked l.self.unicode table.rows s l.place;
}

abbrev pub decreases-attempts : goal.decreases-attempts
decreases-attempts l = l.stop - l.place.at
