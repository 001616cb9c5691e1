use Rattle.std.proofs.Common.{◌∙◌, ℕ, length, sym, subst, arith}
use Rattle.fancy_regex_parts.specs.Walk.{AreWalked, IsWalkedIn}
use Rattle.fancy_regex_parts.specs.declared.table.PartTable.{PartTable}
use Rattle.fancy_regex_regular.proofs.KeptLemmas.{ready_of}
use Rattle.fancy_regex_regular.proofs.PaidLemmas.{paid_served, paid_anew}
use Rattle.fancy_regex_regular.proofs.regular.Regular.begin.Goals as goal

-- what is kept serves this search
pub returns-then-serves-clause-ready : goal.returns-then-serves-clause-ready
returns-then-serves-clause-ready c text is_kept =
    ready_of c.args.self.now text c.args.input.now c.args.context.now c.requires c.args.memory.now (rw (c.lowest-lowest.ensures, c.continue_place-continue_at.ensures) at (c.serves.ensures.serves c.if-serves.true)) is_kept

pub returns-then-serves-clause-paid : goal.returns-then-serves-clause-paid
returns-then-serves-clause-paid c text is_kept may =
    paid_served c.args.self.now c.args.input.now c.args.memory.now.parts c.args.memory.now.kept (rw (c.lowest-lowest.ensures, c.continue_place-continue_at.ensures) at (c.serves.ensures.serves c.if-serves.true))

pub returns-then-serves-clause-serves : goal.returns-then-serves-clause-serves
returns-then-serves-clause-serves c = rw (c.lowest-lowest.ensures, c.continue_place-continue_at.ensures) at (c.serves.ensures.serves c.if-serves.true)

-- the memory begins anew
pub returns-clause-anew : goal.returns-clause-anew
returns-clause-anew c none = c.restart.ensures.base ∙ c.lowest-lowest.ensures

pub returns-clause-ready : goal.returns-clause-ready
returns-clause-ready c text is_kept = record {
  low = rw (c.requires.table_is, c.requires.entry_is) (omega (arith, c.restart.ensures.base, c.lowest-lowest.ensures));
  stack = c.restart.ensures.stack;
  of_text = c.restart.ensures.of_text text;
  remembers = λ view ways has. c.restart.ensures.remembers ways;
  of_input = (c.restart.ensures.base ∙ sym c.of.ensures.first, rw c.continue_place-continue_at.ensures at c.of.ensures.input);
  walked = record {
    within = λ plain.
        subst (λ (b : ℕ). IsWalkedIn c.args.self.now.table (length text) b c.restart-2.new.self) (sym c.of.ensures.first)
        (rw c.requires.table_is at (c.restart-2.ensures.walked (length text)));
    known = λ plain view go tried.
        subst (λ (t : PartTable). AreWalked go t.heads.items c.restart-2.new.self) c.requires.table_is (c.restart-2.ensures.known go);
  };
}

pub returns-clause-paid : goal.returns-clause-paid
returns-clause-paid c text is_kept may =
    paid_anew c.args.self.now text c.args.input.now c.args.memory.now.parts c.restart.new.self c.args.memory.now.kept is_kept.0 may
    (rw (c.lowest-lowest.ensures, c.continue_place-continue_at.ensures) at (c.serves.ensures.past c.if-serves.false)) (c.restart.ensures.base ∙ c.lowest-lowest.ensures)

pub returns-clause-serves : goal.returns-clause-serves
returns-clause-serves c = record {
  low = omega (arith, c.of.ensures.first, c.lowest-lowest.ensures);
  input_is = rw c.continue_place-continue_at.ensures at c.of.ensures.input;
}
