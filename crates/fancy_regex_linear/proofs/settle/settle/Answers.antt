use Rattle.std.proofs.Common.{ℕ, List, subst}
use Rattle.fancy_regex_class.specs.Looks.{looked_text, look_count}
use Rattle.fancy_regex_linear.specs.Settled.{IsSettled}
use Rattle.fancy_regex_linear.specs.declared.memory.SearchMemory.{SearchMemory}
use Rattle.fancy_regex_linear.proofs.settle.settle.Goals as goal

pub returns-clause-settled : goal.returns-clause-settled
returns-clause-settled c =
    let context = c.args.context.now in
    let same = c.in_ok-settled.ensures.same c.in_default.is in
    let text = c.by_table.ensures.settling.looks.text in
    let new : ℕ = look_count c.by_attempt.new.text in
    let memory = c.by_attempt.new.memory in
    let it = c.in_ok-settled-2.settled in
    subst (λ (m : SearchMemory). IsSettled context (looked_text c.args.text.now) (look_count c.args.text.now) new c.args.mode.now.anchored c.args.mode.now.span_only c.args.place m memory it) same.1
    (subst (λ (n : ℕ). IsSettled context (looked_text c.args.text.now) n new c.args.mode.now.anchored c.args.mode.now.span_only c.args.place c.by_table.new.memory memory it) same.0
    (subst (λ (t : List ℕ). IsSettled context t (look_count c.by_table.new.text) new c.args.mode.now.anchored c.args.mode.now.span_only c.args.place c.by_table.new.memory memory it) text
    (c.in_ok-settled-2.ensures.settled c.args.mode.now.span_only)))
