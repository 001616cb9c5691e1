use Rattle.std.proofs.Common.{rules, ◌≡◌, ◌∙◌, ◌<◌, ℕ, Bool, List, Some, ap₂, subst, sym, arith}
use Rattle.std.specs.Char.{IsScalar}
use Rattle.std.specs.Prelude.{IfSome}
use Rattle.fancy_regex_class.specs.declared.class.CharClassMatcher.{CharClassMatcher}
use Rattle.fancy_regex_table.specs.Sorts.{sort_at}
use Rattle.fancy_regex_table.specs.Tables.{HasColumn, IsFreshRow}
use Rattle.fancy_regex_table.specs.Wides.{class_of}
use Rattle.fancy_regex_table.proofs.table.Table.wide_row.Goals as goal

pub returns-then-class-gt0 : goal.returns-then-class-gt0
returns-then-class-gt0 c parts table same =
    let scalar : IsScalar c.args.c = search rules in
    let is : c.class_of-class.result ≡ class_of parts.unicode parts.matchers c.args.self.now.wide c.args.c =
    c.class_of-class.ensures
    ∙ ap₂ (λ (u : Bool) (ms : List CharClassMatcher). class_of u ms c.args.self.now.wide c.args.c) table.unicode (sym same) in
    c.row_of_class.ensures parts table (Some c.args.c)
    (subst (HasColumn parts table.columns c.args.self.now.asked (Some c.args.c)) (sym is)
    (table.wide c.args.c scalar c.requires (subst (λ (n : ℕ). 0 < n) is (omega (arith, c.if-class-gt0.true)))))

pub returns : goal.returns
returns c parts table same =
    subst (λ (ms : List CharClassMatcher). IfSome c.fresh_row.result (IsFreshRow c.args.self.now.fresh.items (sort_at ms c.args.self.now.asked c.args.self.now.unicode (Some c.args.c))))
    (sym same) c.fresh_row.ensures
