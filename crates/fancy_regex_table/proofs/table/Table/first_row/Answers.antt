use Rattle.std.proofs.Common.{ℕ, Option, None, sym, subst}
use Rattle.std.specs.Prelude.{IfSome}
use Rattle.fancy_regex_table.specs.Tables.{IsFreshRow}
use Rattle.fancy_regex_table.specs.Sorts.{sort_at}
use Rattle.fancy_regex_table.proofs.table.Table.first_row.Goals as goal

pub returns-in-None : goal.returns-in-None
returns-in-None c parts table same =
    subst (λ (before : Option ℕ). IfSome c.row_of_class.result (IsFreshRow c.args.self.now.fresh.items (sort_at parts.matchers c.args.self.now.asked c.args.self.now.unicode before)))
    (sym c.in-None.is) (c.row_of_class.ensures parts table None table.end)
