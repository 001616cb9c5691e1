use Rattle.std.proofs.Common.{◌∙◌, sym, subst, refl, true≢false}
use Rattle.fancy_regex_parts.specs.Tables.{AreClosed}
use Rattle.fancy_regex_parts.proofs.MarkLemmas.{closed_of}
use Rattle.fancy_regex_parts.proofs.table.PartTable.new.Goals as goal

pub returns-then-is_right-clause-exact : goal.returns-then-is_right-clause-exact
returns-then-is_right-clause-exact c =
    (λ some. closed_of c.in_ok-table.table c.args.states.items (c.is_right.ensures c.if-is_right.true) c.in_ok-table.ensures.states, λ closed. refl)

pub returns-then-not-are_closed-clause-exact : goal.returns-then-not-are_closed-clause-exact
returns-then-not-are_closed-clause-exact c = (
  λ some. absurd (true≢false (sym some)),
  λ closed. absurd (c.are_closed.ensures.other c.if-not-are_closed.true
      (subst AreClosed (sym (c.deref-3.ensures.value ∙ c.in_ok-table.ensures.states)) closed)),
)

pub all_marked-requires : goal.all_marked-requires
all_marked-requires c = subst AreClosed c.deref-3.ensures.value (c.are_closed.ensures.closed c.if-not-are_closed.false)

pub returns-clause-exact : goal.returns-clause-exact
returns-clause-exact c =
    (λ some. closed_of c.in_ok-table-2.table c.args.states.items c.in_ok-table-2.ensures.0 (c.in_ok-table-2.ensures.1 ∙ c.in_ok-table.ensures.states), λ closed. refl)
