use Rattle.std.proofs.Common.{◌∙◌, ℕ, Some, sym, ap, arith}
use Rattle.fancy_regex_class.specs.RunInputs.{setting_for}
use Rattle.fancy_regex_linear.specs.EasyPatterns.{span_of_match}
use Rattle.fancy_regex_regular.proofs.AskedLemmas.{begins_at}
use Rattle.fancy_regex_regular.proofs.FarLemmas.{none_found, spans_are}
use Rattle.fancy_regex_regular.proofs.PaidLemmas.{paid_of}
use Rattle.fancy_regex_regular.proofs.regular.Regular.find_span_again.Goals as goal

pub returns-then-not-self-clause-answer : goal.returns-then-not-self-clause-answer
returns-then-not-self-clause-answer c pattern is =
    let self = c.args.self.now in
    let text = c.args.text.now in
    let input = c.args.input.now in
    c.in_ok-found.ensures.answer pattern is
    ∙ sym (spans_are (setting_for self.unicode text input) pattern input self.longest
    (λ p w e. begins_at self.unicode self.resets_start text input pattern is.states.of_tree is.states.all_classes is.states.base is.states.called is.states.own_span
    is.states.regular is.states.stand c.if-not-self.true self.longest p w e))

pub returns-in_default-clause-answer : goal.returns-in_default-clause-answer
returns-in_default-clause-answer c pattern is =
    none_found (setting_for c.args.self.now.unicode c.args.text.now c.args.input.now) pattern c.args.input.now c.args.self.now.longest span_of_match
    (sym c.in_default.is ∙ c.in_ok-found.ensures.answer pattern is)

pub returns-in_err-walk_along-clause-paid : goal.returns-in_err-walk_along-clause-paid
returns-in_err-walk_along-clause-paid c low =
    let walks = c.walk_along.ensures.walks in
    paid_of c.args.self.now c.args.text.now c.args.input.now c.walk_along.new.memory.parts c.walk_along.new.memory.kept walks.serves c.walk_along.ensures.kept.0
    (omega (arith, walks.place.low, walks.place.boundary.0))

pub returns-clause-paid : goal.returns-clause-paid
returns-clause-paid c low =
    let walks = c.walk_along.ensures.walks in
    paid_of c.args.self.now c.args.text.now c.args.input.now c.walk_along.new.memory.parts c.walk_along.new.memory.kept walks.serves c.walk_along.ensures.kept.0
    (omega (arith, walks.place.low, walks.place.boundary.0))

pub returns-clause-walked : goal.returns-clause-walked
returns-clause-walked c first low = c.in_ok-walk_along.ensures.at_most first c.args.steps.now (c.in_ok-found.ensures.at_most first low)

pub returns-clause-answer : goal.returns-clause-answer
returns-clause-answer c pattern is =
    let t = c.in_ok-walk_along.ensures.told pattern is in
    let own = is.states.own_span c.if-not-self.false in
    ap (λ (start : ℕ). Some (start, c.in-Some.end)) (c.told_start.ensures.told (t.boundary own (omega arith))) ∙ sym (t.span own (omega arith))
