use Rattle.std.proofs.Common.{◌≡◌, true, ◌+◌, ◌-◌, ◌*◌, ◌^◌, ◌≤◌, ◌∙◌, ℕ, List, length, min, sym, ap, subst, rules, arith, IsUtf8, IsCharBoundary}
use Rattle.fancy_regex_meaning.specs.Groups.{Pattern}
use Rattle.fancy_regex_meaning.specs.Sizes.{tree_weight}
use Rattle.fancy_regex_class.specs.Looks.{looked_text, look_count, SameCounter}
use Rattle.fancy_regex_linear.specs.Alone.{IsAskedFrom}
use Rattle.fancy_regex_linear.specs.EasyPatterns.{IsEasyOf}
use Rattle.fancy_regex_linear.proofs.AloneLemmas.{alone_in, looked_alone}
use Rattle.fancy_regex_linear.proofs.SpanLemmas.{IsAnswered, answered, looks_bound, search_context, serves_search}
use Rattle.fancy_regex_linear.proofs.easy.Easy.find_by_needed.Goals as goal
use Rattle.fancy_regex_linear.proofs.easy.Easy.find_by_needed.Goals.{After-by_needed_alone-alone, After-from_alone, In_ok-span}

pub by_needed_alone-alone-requires-clause-context : goal.by_needed_alone-alone-requires-clause-context
by_needed_alone-alone-requires-clause-context c =
    search_context c.args.self.now c.args.text.now c.args.input.now c.context-context.result c.context-context.ensures (looked_text c.new-counted.result) c.new-counted.ensures.text

pub by_needed_alone-alone-requires-clause-table : goal.by_needed_alone-alone-requires-clause-table
by_needed_alone-alone-requires-clause-table c =
    serves_search c.args.self.now c.args.text.now c.args.input.now c.context-context.result c.context-context.ensures (looked_text c.new-counted.result) c.new-counted.ensures.text
    c.in-Some.it (rw c.in-Some.is at c.table_search.ensures)

-- the text is the same after the table was asked alone, and the looks grew
looked : (c : After-by_needed_alone-alone) → (min (look_count c.new-counted.result) (2 ^ 64 - 1) ≤ look_count c.by_needed_alone-alone.new.text)
    × (looked_text c.by_needed_alone-alone.new.text ≡ looked_text c.new-counted.result) × SameCounter c.new-counted.result c.by_needed_alone-alone.new.text
looked c = looked_alone c.context-context.result c.new-counted.result c.by_needed_alone-alone.new.text c.args.input.now.first c.by_needed_alone-alone.result c.by_needed_alone-alone.ensures

same_text : (c : After-by_needed_alone-alone) → looked_text c.by_needed_alone-alone.new.text ≡ c.args.text.now
same_text c = (looked c).1 ∙ c.new-counted.ensures.text

pub from_alone-requires-clause-context : goal.from_alone-requires-clause-context
from_alone-requires-clause-context c =
    search_context c.args.self.now c.args.text.now c.args.input.now c.context-context.result c.context-context.ensures (looked_text c.new-counted.result) c.new-counted.ensures.text

pub from_alone-requires-clause-range : goal.from_alone-requires-clause-range
from_alone-requires-clause-range c =
    let m = (goal.at.from_alone-requires-clause-range c).After-by_needed_alone-alone in
    omega (arith, c.context-context.ensures.stop, ap length (same_text m), c.requires.range.1)

pub from_alone-requires-clause-text : goal.from_alone-requires-clause-text
from_alone-requires-clause-text c = subst IsUtf8 (sym (same_text (goal.at.from_alone-requires-clause-text c).After-by_needed_alone-alone)) c.utf8.text

pub from_alone-requires-clause-unknown : goal.from_alone-requires-clause-unknown
from_alone-requires-clause-unknown c =
    alone_in c.context-context.result c.new-counted.result c.by_needed_alone-alone.new.text c.args.input.now.first c.by_needed_alone-alone.result c.by_needed_alone-alone.ensures

pub from_alone-requires-clause-table : goal.from_alone-requires-clause-table
from_alone-requires-clause-table c =
    serves_search c.args.self.now c.args.text.now c.args.input.now c.context-context.result c.context-context.ensures (looked_text c.by_needed_alone-alone.new.text)
    (same_text (goal.at.from_alone-requires-clause-table c).After-by_needed_alone-alone) c.in-Some.it (rw c.in-Some.is at c.table_search.ensures)

-- the table was asked from the first start on
asked : (c : After-by_needed_alone-alone) → IsAskedFrom c.context-context.result c.new-counted.result c.by_needed_alone-alone.new.text c.args.input.now.first c.by_needed_alone-alone.result
asked c = record {
  range = (omega (arith, c.context-context.ensures.stop, c.requires.range.0), omega (arith, c.context-context.ensures.stop, ap length c.new-counted.ensures.text, c.requires.range.1));
  boundary = subst (λ (text : List ℕ). IsCharBoundary text c.args.input.now.first) (sym c.new-counted.ensures.text) c.requires.first;
  says = c.by_needed_alone-alone.ensures;
}

-- the bound, after the search
bound : (c : After-from_alone) → IsAskedFrom c.context-context.result c.new-counted.result c.by_needed_alone-alone.new.text c.args.input.now.first c.by_needed_alone-alone.result
    → (pattern : Pattern) → IsEasyOf c.args.self.now pattern
    → look_count c.from_alone.new.text ≤ c.args.steps.now + tree_weight pattern.groups pattern.tree * (c.args.input.now.range.end - c.args.input.now.first + 1)
bound c from pattern is =
    looks_bound c.args.self.now c.args.text.now c.args.input.now c.context-context.result c.context-context.ensures (looked_text c.new-counted.result) c.new-counted.ensures.text pattern is
    c.args.steps.now (look_count c.from_alone.new.text)
    (rw c.new-counted.ensures.count at (c.from_alone.ensures.at_most c.new-counted.result c.args.input.now.first from))

-- the answer is that of the definitions
said : (c : In_ok-span) → IsAskedFrom c.context-context.result c.new-counted.result c.by_needed_alone-alone.new.text c.args.input.now.first c.by_needed_alone-alone.result
    → (pattern : Pattern) → IsEasyOf c.args.self.now pattern
    → IsAnswered c.args.self.now c.args.text.now c.args.input.now true c.in_ok-span.span c.from_alone.new.memory.backtrack.slots.items c.args.steps.now (look_count c.from_alone.new.text) pattern
said c from pattern is =
    answered c.args.self.now c.args.text.now c.args.input.now c.context-context.result c.context-context.ensures (looked_text c.new-counted.result) c.new-counted.ensures.text pattern is
    c.utf8.text c.requires.range.0 c.requires.range.1 true c.in_ok-span.span c.from_alone.new.memory.backtrack.slots.items c.args.steps.now (look_count c.from_alone.new.text)
    (rw c.requires.many (c.in_ok-span.ensures.answer c.new-counted.result c.args.input.now.first from))
    (rw c.requires.many (rw c.new-counted.ensures.count at (c.in_ok-span.ensures.at_least c.new-counted.result c.args.input.now.first from)))

pub returns-in_err-span-clause-at_most : goal.returns-in_err-span-clause-at_most
returns-in_err-span-clause-at_most c pattern is =
    let m = (goal.at.returns-in_err-span-clause-at_most c).After-from_alone in
    let b = bound m (asked (goal.at.returns-in_err-span-clause-at_most c).After-by_needed_alone-alone) pattern is in search rules

pub returns-in-Some-clause-at_most : goal.returns-in-Some-clause-at_most
returns-in-Some-clause-at_most c pattern is =
    let m = (goal.at.returns-in-Some-clause-at_most c).After-from_alone in
    let b = bound m (asked (goal.at.returns-in-Some-clause-at_most c).After-by_needed_alone-alone) pattern is in search rules

pub returns-in-Some-clause-answer : goal.returns-in-Some-clause-answer
returns-in-Some-clause-answer c pattern is =
    (said (goal.at.returns-in-Some-clause-answer c).In_ok-span (asked (goal.at.returns-in-Some-clause-answer c).After-by_needed_alone-alone) pattern is).span_is

pub returns-in-Some-clause-at_least : goal.returns-in-Some-clause-at_least
returns-in-Some-clause-at_least c pattern is =
    let b =
    (said (goal.at.returns-in-Some-clause-at_least c).In_ok-span (asked (goal.at.returns-in-Some-clause-at_least c).After-by_needed_alone-alone) pattern is).at_least in
    search rules
