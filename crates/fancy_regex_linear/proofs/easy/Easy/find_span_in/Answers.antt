use Rattle.std.proofs.Common.{◌≡◌, true, false, ◌+◌, ◌-◌, ◌*◌, ◌^◌, ◌≤◌, ◌∙◌, ℕ, List, Option, None, length, min, sym, ap, subst, rules, arith, IsUtf8, IsCharBoundary}
use Rattle.std.specs.Prelude.{option_map}
use Rattle.fancy_regex_meaning.specs.Groups.{Pattern}
use Rattle.fancy_regex_meaning.specs.Sizes.{tree_weight}
use Rattle.fancy_regex_class.specs.Looks.{looked_text, look_count, SameCounter}
use Rattle.fancy_regex_linear.specs.Alone.{AloneSays, IsAskedFrom}
use Rattle.fancy_regex_linear.specs.EasyPatterns.{IsEasyOf, match_for, span_of_match}
use Rattle.fancy_regex_linear.proofs.AloneLemmas.{alone_in, looked_alone}
use Rattle.fancy_regex_linear.proofs.AnswerLemmas.{none_past, none_tried}
use Rattle.fancy_regex_linear.proofs.ContextLemmas.{says_too}
use Rattle.fancy_regex_linear.proofs.SpanLemmas.{IsAnswered, answered, looks_bound, search_context, serves_search}
use Rattle.fancy_regex_linear.proofs.easy.Easy.find_span_in.Goals as goal
use Rattle.fancy_regex_linear.proofs.easy.Easy.find_span_in.Goals.{After-by_starts_alone-alone, After-context-own, After-from_alone, After-from_alone-in-Some, In_ok-later, In_ok-span, Then-input}

pub by_starts_alone-alone-requires-clause-context : goal.by_starts_alone-alone-requires-clause-context
by_starts_alone-alone-requires-clause-context c =
    search_context c.args.self.now c.args.text.now c.args.input.now c.context-context.result c.context-context.ensures (looked_text c.new-counted.result) c.new-counted.ensures.text

pub by_starts_alone-alone-requires-clause-table : goal.by_starts_alone-alone-requires-clause-table
by_starts_alone-alone-requires-clause-table c =
    serves_search c.args.self.now c.args.text.now c.args.input.now c.context-context.result c.context-context.ensures (looked_text c.new-counted.result) c.new-counted.ensures.text
    c.in-Some.it (rw c.in-Some.is at c.table_search.ensures)

-- the text is the same after the table was asked alone, and the looks grew
looked : (c : After-by_starts_alone-alone) → (min (look_count c.new-counted.result) (2 ^ 64 - 1) ≤ look_count c.by_starts_alone-alone.new.text)
    × (looked_text c.by_starts_alone-alone.new.text ≡ looked_text c.new-counted.result) × SameCounter c.new-counted.result c.by_starts_alone-alone.new.text
looked c = looked_alone c.context-context.result c.new-counted.result c.by_starts_alone-alone.new.text c.args.input.now.first c.by_starts_alone-alone.result c.by_starts_alone-alone.ensures

same_text : (c : After-by_starts_alone-alone) → looked_text c.by_starts_alone-alone.new.text ≡ c.args.text.now
same_text c = (looked c).1 ∙ c.new-counted.ensures.text

-- what the table said is so by the context that is made anew
own_says : (c : After-context-own) → AloneSays c.context-own.result c.new-counted.result c.by_starts_alone-alone.new.text c.args.input.now.first c.by_starts_alone-alone.result
own_says c =
    says_too c.context-context.ensures c.context-own.ensures c.new-counted.result c.by_starts_alone-alone.new.text c.args.input.now.first c.by_starts_alone-alone.result
    c.by_starts_alone-alone.ensures

pub from_alone-requires-clause-context : goal.from_alone-requires-clause-context
from_alone-requires-clause-context c =
    search_context c.args.self.now c.args.text.now c.args.input.now c.context-own.result c.context-own.ensures (looked_text c.new-counted.result) c.new-counted.ensures.text

pub from_alone-requires-clause-range : goal.from_alone-requires-clause-range
from_alone-requires-clause-range c =
    let m = (goal.at.from_alone-requires-clause-range c).After-by_starts_alone-alone in
    omega (arith, c.context-own.ensures.stop, ap length (same_text m), c.requires.range)

pub from_alone-requires-clause-text : goal.from_alone-requires-clause-text
from_alone-requires-clause-text c = subst IsUtf8 (sym (same_text (goal.at.from_alone-requires-clause-text c).After-by_starts_alone-alone)) c.utf8.text

pub from_alone-requires-clause-unknown : goal.from_alone-requires-clause-unknown
from_alone-requires-clause-unknown c =
    alone_in c.context-own.result c.new-counted.result c.by_starts_alone-alone.new.text c.args.input.now.first c.by_starts_alone-alone.result
    (own_says (goal.at.from_alone-requires-clause-unknown c).After-context-own)

pub from_alone-requires-clause-table : goal.from_alone-requires-clause-table
from_alone-requires-clause-table c =
    serves_search c.args.self.now c.args.text.now c.args.input.now c.context-own.result c.context-own.ensures (looked_text c.by_starts_alone-alone.new.text)
    (same_text (goal.at.from_alone-requires-clause-table c).After-by_starts_alone-alone) c.in-Some.it (rw c.in-Some.is at c.table_search.ensures)

-- the table was asked from the first start on
asked_anew : (c : After-context-own) → IsAskedFrom c.context-own.result c.new-counted.result c.by_starts_alone-alone.new.text c.args.input.now.first c.by_starts_alone-alone.result
asked_anew c = record {
  range = (omega (arith, c.context-own.ensures.stop, c.if-input.false), omega (arith, c.context-own.ensures.stop, ap length c.new-counted.ensures.text, c.requires.range));
  boundary = subst (λ (text : List ℕ). IsCharBoundary text c.args.input.now.first) (sym c.new-counted.ensures.text) c.requires.first;
  says = own_says c;
}

-- the bound, after the search
bound_anew : (c : After-from_alone) → IsAskedFrom c.context-own.result c.new-counted.result c.by_starts_alone-alone.new.text c.args.input.now.first c.by_starts_alone-alone.result
    → (pattern : Pattern) → IsEasyOf c.args.self.now pattern
    → look_count c.from_alone.new.text ≤ c.args.steps.now + tree_weight pattern.groups pattern.tree * (c.args.input.now.range.end - c.args.input.now.first + 1)
bound_anew c from pattern is =
    looks_bound c.args.self.now c.args.text.now c.args.input.now c.context-own.result c.context-own.ensures (looked_text c.new-counted.result) c.new-counted.ensures.text pattern is
    c.args.steps.now (look_count c.from_alone.new.text)
    (rw c.new-counted.ensures.count at (c.from_alone.ensures.at_most c.new-counted.result c.args.input.now.first from))

-- the search tries all starts
many_anew : (c : In_ok-later) → c.args.input.now.anchored ≡ false
many_anew c = search rules

-- the answer is that of the definitions
said_anew : (c : In_ok-later) → IsAskedFrom c.context-own.result c.new-counted.result c.by_starts_alone-alone.new.text c.args.input.now.first c.by_starts_alone-alone.result
    → (pattern : Pattern) → IsEasyOf c.args.self.now pattern
    → IsAnswered c.args.self.now c.args.text.now c.args.input.now true c.in_ok-later.later c.from_alone.new.memory.backtrack.slots.items c.args.steps.now (look_count c.from_alone.new.text) pattern
said_anew c from pattern is =
    answered c.args.self.now c.args.text.now c.args.input.now c.context-own.result c.context-own.ensures (looked_text c.new-counted.result) c.new-counted.ensures.text pattern is
    c.utf8.text (omega arith) c.requires.range true c.in_ok-later.later c.from_alone.new.memory.backtrack.slots.items c.args.steps.now (look_count c.from_alone.new.text)
    (rw (many_anew c) (c.in_ok-later.ensures.answer c.new-counted.result c.args.input.now.first from))
    (rw (many_anew c) (rw c.new-counted.ensures.count at (c.in_ok-later.ensures.at_least c.new-counted.result c.args.input.now.first from)))

pub returns-in_err-later-clause-at_most : goal.returns-in_err-later-clause-at_most
returns-in_err-later-clause-at_most c pattern is =
    let m = (goal.at.returns-in_err-later-clause-at_most c).After-from_alone in
    let b = bound_anew m (asked_anew (goal.at.returns-in_err-later-clause-at_most c).After-context-own) pattern is in search rules

pub returns-in-Unknown-clause-at_most : goal.returns-in-Unknown-clause-at_most
returns-in-Unknown-clause-at_most c pattern is =
    let m = (goal.at.returns-in-Unknown-clause-at_most c).After-from_alone in
    let b = bound_anew m (asked_anew (goal.at.returns-in-Unknown-clause-at_most c).After-context-own) pattern is in search rules

pub returns-in-Unknown-clause-answer : goal.returns-in-Unknown-clause-answer
returns-in-Unknown-clause-answer c pattern is =
    (said_anew (goal.at.returns-in-Unknown-clause-answer c).In_ok-later (asked_anew (goal.at.returns-in-Unknown-clause-answer c).After-context-own) pattern is).span_is

pub returns-in-Unknown-clause-at_least : goal.returns-in-Unknown-clause-at_least
returns-in-Unknown-clause-at_least c pattern is =
    let b =
    (said_anew (goal.at.returns-in-Unknown-clause-at_least c).In_ok-later (asked_anew (goal.at.returns-in-Unknown-clause-at_least c).After-context-own) pattern is).at_least in
    search rules

pub from_alone-requires-in-Some-clause-context : goal.from_alone-requires-in-Some-clause-context
from_alone-requires-in-Some-clause-context c =
    search_context c.args.self.now c.args.text.now c.args.input.now c.context-context.result c.context-context.ensures (looked_text c.new-counted.result) c.new-counted.ensures.text

pub from_alone-requires-in-Some-clause-range : goal.from_alone-requires-in-Some-clause-range
from_alone-requires-in-Some-clause-range c =
    let m = (goal.at.from_alone-requires-in-Some-clause-range c).After-by_starts_alone-alone in
    omega (arith, c.context-context.ensures.stop, ap length (same_text m), c.requires.range)

pub from_alone-requires-in-Some-clause-text : goal.from_alone-requires-in-Some-clause-text
from_alone-requires-in-Some-clause-text c = subst IsUtf8 (sym (same_text (goal.at.from_alone-requires-in-Some-clause-text c).After-by_starts_alone-alone)) c.utf8.text

pub from_alone-requires-in-Some-clause-unknown : goal.from_alone-requires-in-Some-clause-unknown
from_alone-requires-in-Some-clause-unknown c =
    alone_in c.context-context.result c.new-counted.result c.by_starts_alone-alone.new.text c.args.input.now.first c.by_starts_alone-alone.result c.by_starts_alone-alone.ensures

pub from_alone-requires-in-Some-clause-table : goal.from_alone-requires-in-Some-clause-table
from_alone-requires-in-Some-clause-table c =
    serves_search c.args.self.now c.args.text.now c.args.input.now c.context-context.result c.context-context.ensures (looked_text c.by_starts_alone-alone.new.text)
    (same_text (goal.at.from_alone-requires-in-Some-clause-table c).After-by_starts_alone-alone) c.in-Some.it (rw c.in-Some.is at c.table_search.ensures)

-- the table was asked from the first start on
asked : (c : After-by_starts_alone-alone) → IsAskedFrom c.context-context.result c.new-counted.result c.by_starts_alone-alone.new.text c.args.input.now.first c.by_starts_alone-alone.result
asked c = record {
  range = (omega (arith, c.context-context.ensures.stop, c.if-input.false), omega (arith, c.context-context.ensures.stop, ap length c.new-counted.ensures.text, c.requires.range));
  boundary = subst (λ (text : List ℕ). IsCharBoundary text c.args.input.now.first) (sym c.new-counted.ensures.text) c.requires.first;
  says = c.by_starts_alone-alone.ensures;
}

-- the bound, after the search
bound : (c : After-from_alone-in-Some) → IsAskedFrom c.context-context.result c.new-counted.result c.by_starts_alone-alone.new.text c.args.input.now.first c.by_starts_alone-alone.result
    → (pattern : Pattern) → IsEasyOf c.args.self.now pattern
    → look_count c.from_alone-in-Some.new.text ≤ c.args.steps.now + tree_weight pattern.groups pattern.tree * (c.args.input.now.range.end - c.args.input.now.first + 1)
bound c from pattern is =
    looks_bound c.args.self.now c.args.text.now c.args.input.now c.context-context.result c.context-context.ensures (looked_text c.new-counted.result) c.new-counted.ensures.text pattern is
    c.args.steps.now (look_count c.from_alone-in-Some.new.text)
    (rw c.new-counted.ensures.count at (c.from_alone-in-Some.ensures.at_most c.new-counted.result c.args.input.now.first from))

-- the search tries all starts
many : (c : In_ok-span) → c.args.input.now.anchored ≡ false
many c = search rules

-- the answer is that of the definitions
said : (c : In_ok-span) → IsAskedFrom c.context-context.result c.new-counted.result c.by_starts_alone-alone.new.text c.args.input.now.first c.by_starts_alone-alone.result
    → (pattern : Pattern) → IsEasyOf c.args.self.now pattern
    → IsAnswered c.args.self.now c.args.text.now c.args.input.now true c.in_ok-span.span c.from_alone-in-Some.new.memory.backtrack.slots.items c.args.steps.now (look_count c.from_alone-in-Some.new.text) pattern
said c from pattern is =
    answered c.args.self.now c.args.text.now c.args.input.now c.context-context.result c.context-context.ensures (looked_text c.new-counted.result) c.new-counted.ensures.text pattern is
    c.utf8.text (omega arith) c.requires.range true c.in_ok-span.span c.from_alone-in-Some.new.memory.backtrack.slots.items c.args.steps.now (look_count c.from_alone-in-Some.new.text)
    (rw (many c) (c.in_ok-span.ensures.answer c.new-counted.result c.args.input.now.first from))
    (rw (many c) (rw c.new-counted.ensures.count at (c.in_ok-span.ensures.at_least c.new-counted.result c.args.input.now.first from)))

pub returns-in_err-span-clause-at_most : goal.returns-in_err-span-clause-at_most
returns-in_err-span-clause-at_most c pattern is =
    let m = (goal.at.returns-in_err-span-clause-at_most c).After-from_alone-in-Some in
    let b = bound m (asked (goal.at.returns-in_err-span-clause-at_most c).After-by_starts_alone-alone) pattern is in search rules

pub returns-in-Some-clause-at_most : goal.returns-in-Some-clause-at_most
returns-in-Some-clause-at_most c pattern is =
    let m = (goal.at.returns-in-Some-clause-at_most c).After-from_alone-in-Some in
    let b = bound m (asked (goal.at.returns-in-Some-clause-at_most c).After-by_starts_alone-alone) pattern is in search rules

pub returns-in-Some-clause-answer : goal.returns-in-Some-clause-answer
returns-in-Some-clause-answer c pattern is =
    (said (goal.at.returns-in-Some-clause-answer c).In_ok-span (asked (goal.at.returns-in-Some-clause-answer c).After-by_starts_alone-alone) pattern is).span_is

pub returns-in-Some-clause-at_least : goal.returns-in-Some-clause-at_least
returns-in-Some-clause-at_least c pattern is =
    let b =
    (said (goal.at.returns-in-Some-clause-at_least c).In_ok-span (asked (goal.at.returns-in-Some-clause-at_least c).After-by_starts_alone-alone) pattern is).at_least in
    search rules

-- past the end of the range the definitions have no match
none : (c : Then-input) (pattern : Pattern) → IsEasyOf c.args.self.now pattern → match_for c.args.self.now c.args.text.now c.args.input.now pattern ≡ None
none c pattern is = none_past c.args.self.now.unicode c.args.self.now.longest c.args.text.now c.args.input.now c.args.self.now.states.items c.args.self.now.entry pattern is.serves.plain c.requires.range c.if-input.true

pub returns-then-input-clause-answer : goal.returns-then-input-clause-answer
returns-then-input-clause-answer c pattern is =
    sym (ap (option_map span_of_match) (none (goal.at.returns-then-input-clause-answer c).Then-input pattern is))

pub returns-then-input-clause-at_least : goal.returns-then-input-clause-at_least
returns-then-input-clause-at_least c pattern is =
    let none = none_tried c.args.self.now.unicode c.args.self.now.longest c.args.text.now c.args.input.now c.args.self.now.states.items c.args.self.now.entry pattern is.serves.plain c.requires.range c.if-input.true in
    omega (arith, none)
