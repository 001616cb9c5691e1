use Rattle.std.proofs.Common.{◌∙◌, ◌-◌, sym, ap, length, arith}
use Rattle.fancy_regex_slots.specs.declared.branch.Branch.{Branch}
use Rattle.fancy_regex_slots.proofs.ShortenLemmas.{mark-last, mark-none}
use Rattle.fancy_regex_slots.proofs.undo_log.segment_start.Goals as goal

pub returns-in-Some : goal.returns-in-Some
returns-in-Some c =
    let branches = c.args.branches.now in
    let some = c.in-Some.ensures.item.3 in
    ap (λ (b : Branch). b.logged) (some.1 c.in-Some.branch.now)
    ∙ sym (mark-last branches (length branches - 1) c.in-Some.branch.now (omega (arith, some.0)))

pub returns-in-None : goal.returns-in-None
returns-in-None c = sym (mark-none c.args.branches.now (omega (arith, c.in-None.ensures.item.3)))
