use Rattle.std.proofs.Common.{◌≡◌, ◌∙◌, ◌*◌, ℕ, false, sym, ap, arith, rules}
use Rattle.fancy_regex_meaning.specs.Positions.{boundaries}
use Rattle.fancy_regex_class.specs.Looks.{look_count}
use Rattle.fancy_regex_parts.specs.Find.{earliest, tried}
use Rattle.fancy_regex_parts.specs.Tables.{known_cost, table_weight}
use Rattle.fancy_regex_parts.specs.Layers.{HasWays}
use Rattle.fancy_regex_parts.specs.Ways.{ways_of, text_view}
use Rattle.std.specs.Prelude.{IfSome}
use Rattle.fancy_regex_regular.specs.Regulars.{LooksFrom, continue_place, lowest_asked}
use Rattle.fancy_regex_regular.specs.Inputs.{MemoryServes}
use Rattle.fancy_regex_regular.specs.Iterations.{IsPaidWithin, paid_before, paid_by}
use Rattle.fancy_regex_regular.specs.Kept.{IsReady, IsTrueFor}
use Rattle.fancy_regex_regular.specs.Starts.{last_start}
use Rattle.fancy_regex_regular.proofs.ContinueLemmas.{place_for}
use Rattle.fancy_regex_regular.proofs.KeptLemmas.{can_ask, can_walk, kept_after, way_found}
use Rattle.fancy_regex_regular.proofs.RegularGroupLemmas.{ways_in}
use Rattle.fancy_regex_regular.proofs.RegularSpanLemmas.{is_searched, none_past}
use Rattle.fancy_regex_regular.proofs.RegularWeightLemmas.{looks_most}
use Rattle.fancy_regex_regular.proofs.PaidLemmas.{looks_on, paid_of}
use Rattle.fancy_regex_regular.proofs.regular.Regular.find_first.Goals as goal
use Rattle.fancy_regex_regular.proofs.regular.Regular.find_first.Goals.{After-begin, After-find}

-- the memory can be asked
ready : (c : After-begin) → IsReady c.args.self.now c.context-context.result c.args.text.now c.args.input.now c.begin.new.memory
ready c = c.begin.ensures.ready c.args.text.now c.requires.kept

pub find-requires-clause-ready : goal.find-requires-clause-ready
find-requires-clause-ready c =
    can_ask c.args.self.now c.args.text.now c.args.input.now c.context-context.result c.context-context.ensures c.begin.new.memory c.new-counted.result
    c.new-counted.ensures.text (omega arith) (rw c.context-context.ensures.table_is c.args.self.now.right)
    (ready (goal.at.find-requires-clause-ready c).After-begin)

pub find-requires-clause-starts : goal.find-requires-clause-starts
find-requires-clause-starts c = let low = (ready (goal.at.find-requires-clause-starts c).After-begin).low in search rules

-- what was found out is kept
kept : (c : After-find) → IsReady c.args.self.now c.context-context.result c.args.text.now c.args.input.now c.begin.new.memory
    → IfSome c.begin.new.memory.kept (IsTrueFor c.args.self.now c.args.text.now c.find.new.memory)
kept c is_ready =
    kept_after c.args.self.now c.args.text.now c.args.input.now c.context-context.result c.context-context.ensures c.begin.new.memory c.find.new.memory
    c.new-counted.result c.find.new.text c.new-counted.ensures.text is_ready c.find.ensures.leaves

pub returns-in_err-span-clause-kept : goal.returns-in_err-span-clause-kept
returns-in_err-span-clause-kept c =
    let is_ready = ready (goal.at.returns-in_err-span-clause-kept c).After-begin in
    (kept (goal.at.returns-in_err-span-clause-kept c).After-find is_ready, is_ready.walked)

pub returns-clause-kept : goal.returns-clause-kept
returns-clause-kept c =
    let is_ready = ready (goal.at.returns-clause-kept c).After-begin in
    (kept (goal.at.returns-clause-kept c).After-find is_ready, is_ready.walked)

pub returns-then-input-clause-answer : goal.returns-then-input-clause-answer
returns-then-input-clause-answer c pattern is =
    none_past c.args.self.now.unicode pattern c.args.text.now c.args.input.now false (omega (arith, c.if-input.true))

pub returns-clause-answer : goal.returns-clause-answer
returns-clause-answer c pattern is =
    let self = c.args.self.now in
    let text = c.args.text.now in
    let input = c.args.input.now in
    let found = is_searched self.unicode self.resets_start self.table.states.items self.entry self.matchers.items pattern is.states text input
    (continue_place self input) (place_for self input) c.utf8.text c.requires.first (omega (arith, c.if-input.false)) c.requires.range in
    let context = c.context-context.ensures in
    let ways = ways_of found.asked.go in
    let has_ways : HasWays c.context-context.result text (text_view found.asked.view) ways =
    rw (context.table_is, context.matchers_are, context.rules_are, context.range_is) found.asked.explains in
    let said : c.in_ok-span.span ≡ earliest (ways.end self.entry) (boundaries text input.first c.last_start.result) =
    (rw (c.new-counted.ensures.text, context.entry_is) at c.in_ok-span.ensures.found) (text_view found.asked.view) ways has_ways ((ready (goal.at.returns-clause-answer c).After-begin).remembers (text_view found.asked.view) ways has_ways) in
    said
    ∙ ap (λ last. earliest (ways.end self.entry) (boundaries text input.first last)) c.last_start.ensures
    ∙ found.first_is

-- the looks, after the search
bound : (c : After-find) → IsReady c.args.self.now c.context-context.result c.args.text.now c.args.input.now c.begin.new.memory
    → LooksFrom c.args.self.now c.args.text.now c.find.new.memory.recall.base c.args.steps.now (look_count c.find.new.text)
bound c b pattern is =
    let most = rw (c.context-context.ensures.table_is, c.context-context.ensures.entry_is, c.new-counted.ensures.text, c.new-counted.ensures.count, c.last_start.ensures) at c.find.ensures.bound in
    rw c.find.ensures.leaves.base
    (looks_most c.args.self.now c.args.text.now c.args.input.now pattern is (omega (arith, c.if-input.false)) c.requires.range
    c.begin.new.memory.parts.recall.base c.args.steps.now (look_count c.find.new.text) (omega (arith, b.low)) most)

pub returns-in_err-span-clause-at_most : goal.returns-in_err-span-clause-at_most
returns-in_err-span-clause-at_most c low pattern is =
    let b = bound (goal.at.returns-in_err-span-clause-at_most c).After-find (ready (goal.at.returns-in_err-span-clause-at_most c).After-begin) pattern is in search rules

pub returns-clause-at_most : goal.returns-clause-at_most
returns-clause-at_most c low pattern is =
    let b = bound (goal.at.returns-clause-at_most c).After-find (ready (goal.at.returns-clause-at_most c).After-begin) pattern is in search rules

pub returns-clause-at_least : goal.returns-clause-at_least
returns-clause-at_least c low =
    let b = rw (c.new-counted.ensures.text, c.new-counted.ensures.count, c.last_start.ensures) at c.in_ok-span.ensures.at_least in search rules

-- what the search was paid for, and what is paid after it
pub returns-clause-shared : goal.returns-clause-shared
returns-clause-shared c low may pattern is =
    let self = c.args.self.now in
    let input = c.args.input.now in
    let paid = c.begin.ensures.paid c.args.text.now c.requires.kept may in
    let counted = rw (c.context-context.ensures.table_is, c.context-context.ensures.entry_is, c.new-counted.ensures.count, c.last_start.ensures) at c.in_ok-span.ensures.counted in
    let base = ap (λ (b : ℕ). table_weight self.table * b) c.find.ensures.leaves.base in
    let looks = looks_on self pattern is (tried input.first (last_start input) c.in_ok-span.span) (paid_before self input c.args.memory.now)
    (paid_by self c.find.new.memory) (known_cost self.table c.begin.new.memory.parts.recall) (known_cost self.table c.find.new.memory.recall)
    (table_weight self.table * c.begin.new.memory.parts.recall.base) c.args.steps.now (look_count c.find.new.text) (omega (arith, paid))
    (omega (arith, counted)) (omega (arith, base)) in
    search rules

-- what is paid is of the text, also where memory ran out
paid : (c : After-find) → IsReady c.args.self.now c.context-context.result c.args.text.now c.args.input.now c.begin.new.memory
    → MemoryServes c.begin.new.memory.kept c.args.input.now (continue_place c.args.self.now c.args.input.now) (lowest_asked c.args.self.now c.args.input.now) → IsPaidWithin c.args.self.now c.args.text.now c.find.new.memory
paid c is_ready serves =
    paid_of c.args.self.now c.args.text.now c.args.input.now c.find.new.memory c.begin.new.memory.kept serves (kept c is_ready)
    (omega (arith, c.find.ensures.leaves.base, is_ready.low, c.if-input.false, c.requires.range))

pub returns-in_err-span-clause-paid : goal.returns-in_err-span-clause-paid
returns-in_err-span-clause-paid c low =
    paid (goal.at.returns-in_err-span-clause-paid c).After-find (ready (goal.at.returns-in_err-span-clause-paid c).After-begin) c.begin.ensures.serves

pub returns-clause-paid : goal.returns-clause-paid
returns-clause-paid c low = paid (goal.at.returns-clause-paid c).After-find (ready (goal.at.returns-clause-paid c).After-begin) c.begin.ensures.serves

pub returns-clause-walks : goal.returns-clause-walks
returns-clause-walks c =
    let self = c.args.self.now in
    let text = c.args.text.now in
    let input = c.args.input.now in
    let context = c.context-context.ensures in
    can_walk self text input _ c.in_ok-span.span c.begin.ensures.serves
    (rw (context.table_is, context.entry_is, c.new-counted.ensures.text, sym c.find.ensures.leaves.base) at c.in_ok-span.ensures.place)
    (way_found self text input (boundaries text input.first c.last_start.result) c.in_ok-span.span
    (λ view ways explains.
    let has : HasWays c.context-context.result text view ways = ways_in c.context-context.result self input 0 context text view ways explains in
    (rw (c.new-counted.ensures.text, context.entry_is) at c.in_ok-span.ensures.found) view ways has
    ((ready (goal.at.returns-clause-walks c).After-begin).remembers view ways has)))
