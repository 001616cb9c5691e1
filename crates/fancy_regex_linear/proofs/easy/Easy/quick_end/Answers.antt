use Rattle.std.proofs.Common.{ℕ, List, sym, subst, arith, IsCharBoundary}
use Rattle.fancy_regex_class.specs.Looks.{looked_text}
use Rattle.fancy_regex_linear.proofs.AnswerLemmas.{entry_in}
use Rattle.fancy_regex_linear.proofs.QuickLemmas.{quick_span}
use Rattle.fancy_regex_linear.proofs.SpanLemmas.{search_context}
use Rattle.fancy_regex_linear.proofs.easy.Easy.quick_end.Goals as goal

pub quick_end-requires-clause-context : goal.quick_end-requires-clause-context
quick_end-requires-clause-context c =
    search_context c.args.self.now c.args.text.now c.args.input.now c.context-context.result c.context-context.ensures (looked_text c.new-counted.result) c.new-counted.ensures.text

pub quick_end-requires-clause-pair : goal.quick_end-requires-clause-pair
quick_end-requires-clause-pair c = record {
  state = rw c.context-context.ensures.states (entry_in c.args.self.now.states.items c.args.self.now.entry c.args.self.now.made);
  low = omega arith;
  high = omega (arith, c.context-context.ensures.stop, c.if-input.false);
  boundary = subst (λ (text : List ℕ). IsCharBoundary text c.args.input.now.first) (sym c.new-counted.ensures.text) c.requires.first;
}

pub returns-clause-answer : goal.returns-clause-answer
returns-clause-answer c =
    quick_span c.args.self.now c.args.text.now c.args.input.now c.context-context.result c.context-context.ensures (looked_text c.new-counted.result) c.new-counted.ensures.text
    c.utf8.text (omega (arith, c.if-input.false)) c.requires.range c.requires.anchored c.quick_end.result c.quick_end.ensures.end
