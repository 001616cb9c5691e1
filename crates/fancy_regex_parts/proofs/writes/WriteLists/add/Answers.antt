use Rattle.std.proofs.Common.{◌≡◌, ◌∙◌, ◌∷◌, List, [], sym, ap, subst, arith}
use Rattle.fancy_regex_parts.specs.Writes.{list_of, pair_of, IsExtended}
use Rattle.fancy_regex_parts.specs.declared.writes.Write.{Write}
use Rattle.fancy_regex_parts.proofs.ListLemmas.{apply_first, extended_by, list_pushed, same_by, written_low, written_over}
use Rattle.fancy_regex_parts.proofs.writes.WriteLists.add.Goals as goal

pub returns-then-has_slot-clause-list : goal.returns-then-has_slot-clause-list
returns-then-has_slot-clause-list c =
    let writes = c.args.self.now.writes.items in
    let written = c.has_slot.ensures c.if-has_slot.true in (
      written_low writes c.args.slot c.args.rest written,
      λ slots small.
          written_over c.args.slot c.args.at (list_of writes c.args.rest) slots written
          ∙ sym (apply_first (c.args.slot, c.args.at) (list_of writes c.args.rest) slots),
    )

pub returns-clause-list : goal.returns-clause-list
returns-clause-list c =
    let writes = c.args.self.now.writes.items in
    let w : Write = record { slot = c.args.slot; at = c.args.at; rest = c.args.rest } in
    let list : list_of c.push.new.self.items c.len.result ≡ pair_of w ∷ list_of writes c.args.rest =
    ap (λ (l : List Write). list_of l c.len.result) c.in_ok-push.ensures.items ∙ list_pushed writes w c.len.result (omega (arith, c.len.ensures, c.in_ok-push.ensures.len)) in
    (omega (arith, c.len.ensures), same_by _ _ list)

pub returns-clause-extended : goal.returns-clause-extended
returns-clause-extended c =
    subst (IsExtended c.args.self.now.writes.items) (sym c.in_ok-push.ensures.items) (extended_by c.args.self.now.writes.items (record { slot = c.args.slot; at = c.args.at; rest = c.args.rest } ∷ []))
