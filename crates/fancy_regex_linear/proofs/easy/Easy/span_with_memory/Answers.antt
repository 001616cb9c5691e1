use Rattle.std.proofs.Common.{◌≡◌, ◌+◌, ◌-◌, ◌*◌, ◌≤◌, rules}
use Rattle.fancy_regex_meaning.specs.Groups.{Pattern}
use Rattle.fancy_regex_meaning.specs.Sizes.{tree_weight}
use Rattle.fancy_regex_class.specs.Looks.{looked_text, look_count}
use Rattle.fancy_regex_linear.specs.EasyPatterns.{IsEasyOf}
use Rattle.fancy_regex_linear.proofs.SpanLemmas.{IsAnswered, answered, looks_bound, search_context, serves_if}
use Rattle.fancy_regex_linear.proofs.easy.Easy.span_with_memory.Goals as goal
use Rattle.fancy_regex_linear.proofs.easy.Easy.span_with_memory.Goals.{After-with_memory, In_ok-span}

pub with_memory-requires-clause-context : goal.with_memory-requires-clause-context
with_memory-requires-clause-context c =
    search_context c.args.self.now c.args.text.now c.args.input.now c.context-context.result c.context-context.ensures (looked_text c.new-counted.result) c.new-counted.ensures.text

pub with_memory-requires-clause-table : goal.with_memory-requires-clause-table
with_memory-requires-clause-table c =
    serves_if c.args.self.now c.args.text.now c.args.input.now c.context-context.result c.context-context.ensures (looked_text c.new-counted.result) c.new-counted.ensures.text
    c.table_search.result c.table_search.ensures

-- the bound, after the search
bound : (c : After-with_memory) (pattern : Pattern) → IsEasyOf c.args.self.now pattern
    → look_count c.with_memory.new.text ≤ c.args.steps.now + tree_weight pattern.groups pattern.tree * (c.args.input.now.range.end - c.args.input.now.first + 1)
bound c pattern is =
    looks_bound c.args.self.now c.args.text.now c.args.input.now c.context-context.result c.context-context.ensures (looked_text c.new-counted.result) c.new-counted.ensures.text pattern is
    c.args.steps.now (look_count c.with_memory.new.text) (rw c.new-counted.ensures.count at c.with_memory.ensures.at_most)

-- the answer is that of the definitions
said : (c : In_ok-span) (pattern : Pattern) → IsEasyOf c.args.self.now pattern
    → IsAnswered c.args.self.now c.args.text.now c.args.input.now c.args.span_only c.in_ok-span.span c.with_memory.new.memory.backtrack.slots.items c.args.steps.now (look_count c.with_memory.new.text) pattern
said c pattern is =
    answered c.args.self.now c.args.text.now c.args.input.now c.context-context.result c.context-context.ensures (looked_text c.new-counted.result) c.new-counted.ensures.text pattern is
    c.utf8.text c.requires.range.0 c.requires.range.1 c.args.span_only c.in_ok-span.span c.with_memory.new.memory.backtrack.slots.items c.args.steps.now (look_count c.with_memory.new.text)
    c.in_ok-span.ensures.answer
    (rw c.new-counted.ensures.count at c.in_ok-span.ensures.at_least)

pub returns-in_err-span-clause-at_most : goal.returns-in_err-span-clause-at_most
returns-in_err-span-clause-at_most c pattern is = let b = bound (goal.at.returns-in_err-span-clause-at_most c).After-with_memory pattern is in search rules

pub returns-clause-at_most : goal.returns-clause-at_most
returns-clause-at_most c pattern is = let b = bound (goal.at.returns-clause-at_most c).After-with_memory pattern is in search rules

pub returns-clause-answer : goal.returns-clause-answer
returns-clause-answer c pattern is = (said (goal.at.returns-clause-answer c).In_ok-span pattern is).span_is

pub returns-clause-at_least : goal.returns-clause-at_least
returns-clause-at_least c pattern is = let b = (said (goal.at.returns-clause-at_least c).In_ok-span pattern is).at_least in search rules

pub returns-clause-slots : goal.returns-clause-slots
returns-clause-slots c kept pattern is = (said (goal.at.returns-clause-slots c).In_ok-span pattern is).slots_are kept
