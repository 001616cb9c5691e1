use Rattle.std.proofs.Common.{refl, subst}
use Rattle.fancy_regex_table.specs.Making.{parts_of, IsBegun}
use Rattle.fancy_regex_table.specs.declared.begun.Begun.{Begun}
use Rattle.fancy_regex_table.specs.declared.sort.Sort.{Sort}
use Rattle.fancy_regex_table.proofs.MakingLemmas.{begun_is}
use Rattle.fancy_regex_table.proofs.begun.begin.Goals as goal

pub returns : goal.returns
returns c before readings =
    let reading = c.in-Some.reading.now in
    let at = c.in-Some.ensures in
    let begun : Begun = record { nexts = c.in_ok-nexts.nexts; is_end = reading.own.is_end } in
    let step = rw c.deref.ensures.value at c.in_ok-nexts.ensures in
    subst (λ (after : Sort). IsBegun (parts_of c.args.pattern.now) before after c.args.column.sample begun) at.0
    (begun_is (parts_of c.args.pattern.now) before reading.after c.args.column.sample reading.own begun (readings at.1.0 reading at.1.1).own_closed step refl)
