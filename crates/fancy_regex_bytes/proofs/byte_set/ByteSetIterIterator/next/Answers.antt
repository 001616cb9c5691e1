use Rattle.std.proofs.Common.{rules, arith, sym, ◌∙◌}
use Rattle.fancy_regex_bytes.proofs.ByteSetLemmas.{rest_hit, rest_miss, rest_end}
use Rattle.fancy_regex_bytes.proofs.byte_set.ByteSetIterIterator.next.Goals as goal

pub returns-then-contains-clause-steps : goal.returns-then-contains-clause-steps
returns-then-contains-clause-steps c =
    sym c.loop-self.invariant ∙ rest_hit c.loop-self.self c.loop-self-test.true (sym c.contains.ensures ∙ c.if-contains.true)

pub returns-then-contains-clause-goes : goal.returns-then-contains-clause-goes
returns-then-contains-clause-goes c =
    let step = sym c.loop-self.invariant ∙ rest_hit c.loop-self.self c.loop-self-test.true (sym c.contains.ensures ∙ c.if-contains.true) in
    search rules

pub loop-self-preserved : goal.loop-self-preserved
loop-self-preserved c =
    sym (rest_miss c.loop-self.self c.loop-self-test.true (sym c.contains.ensures ∙ c.if-contains.false)) ∙ c.loop-self.invariant

pub returns-clause-steps : goal.returns-clause-steps
returns-clause-steps c =
    let end = rest_end c.loop-self.self (omega (arith, c.loop-self-test.false)) in (sym c.loop-self.invariant ∙ end, end)
