use Rattle.std.proofs.Common.{◌≡◌, ◌∙◌, ◌+◌, ◌-◌, ◌*◌, ◌≤◌, ◌∷◌, ℕ, Option, false, true, true≢false, length, sym, subst, ap, ap₂, arith}
use Rattle.fancy_regex_class.specs.Looks.{looked_text, look_count}
use Rattle.fancy_regex_states.specs.Attempts.{View, Continuation}
use Rattle.fancy_regex_linear.specs.Alone.{unset_slots}
use Rattle.fancy_regex_linear.specs.Search.{Explains}
use Rattle.fancy_regex_linear.specs.Find.{FoundMatch, earliest, places}
use Rattle.fancy_regex_linear.specs.Settled.{IsAnswer, Says}
use Rattle.fancy_regex_linear.specs.Starts.{spot_from}
use Rattle.fancy_regex_linear.specs.Visited.{visited_bound}
use Rattle.fancy_regex_linear.proofs.AloneLemmas.{looks_anew, looks_from, none_visited}
use Rattle.fancy_regex_linear.proofs.StartLemmas.{earliest_none, tried_none}
use Rattle.fancy_regex_linear.proofs.VisitedLemmas.{visited_bound_most}
use Rattle.fancy_regex_linear.proofs.first.from_unknown.Goals as goal
use Rattle.fancy_regex_linear.proofs.first.from_unknown.Goals.{After-settle_unknown, After-earliest_match, In_ok-start}

-- the bound, after the start was settled
bound : (c : After-settle_unknown) → look_count c.settle_unknown.new.text
    ≤ look_count c.args.text.now + (c.args.context.now.stop - c.args.unknown.now.place.at + 1) * length c.args.context.now.states.now + (c.args.context.now.stop - c.args.unknown.now.place.at)
bound c =
    let settling = c.settle_unknown.ensures.settling in
    let count : ℕ = length c.args.context.now.states.now in
    let stop : ℕ = c.args.context.now.stop in
    let visited = c.settle_unknown.new.memory.visited in
    let same : visited.count ≡ count = settling.count ∙ c.in_ok-restart.ensures.visited.0 in
    let most = visited_bound_most visited stop settling.base.1 settling.rows in
    let cap : visited_bound visited ≤ (stop + 1) * count = omega (arith, most, ap (λ (n : ℕ). (stop + 1) * n) same) in
    let first : c.restart.new.self.visited.base * c.restart.new.self.visited.count ≡ c.args.unknown.now.place.at * count =
    ap₂ (λ (a b : ℕ). a * b) c.in_ok-restart.ensures.visited.1 c.in_ok-restart.ensures.visited.0 in
    looks_from (look_count c.settle_unknown.new.text) (look_count c.args.text.now) (visited_bound visited) c.args.unknown.now.place.at stop count (stop - c.args.unknown.now.place.at) c.requires.unknown.start.high
    (omega (arith, settling.counted, first, c.requires.unknown.start.high)) cap

pub returns-in_err-start-clause-at_most : goal.returns-in_err-start-clause-at_most
returns-in_err-start-clause-at_most c = bound (goal.at.returns-in_err-start-clause-at_most c).After-settle_unknown

pub returns-in-Found-clause-at_most : goal.returns-in-Found-clause-at_most
returns-in-Found-clause-at_most c = bound (goal.at.returns-in-Found-clause-at_most c).After-settle_unknown

pub returns-in-On-None-clause-at_most : goal.returns-in-On-None-clause-at_most
returns-in-On-None-clause-at_most c = bound (goal.at.returns-in-On-None-clause-at_most c).After-settle_unknown

-- what was settled, of a memory that begins anew
settled : (c : In_ok-start) (view : View) (go : ℕ → Continuation) → Explains c.args.context.now (looked_text c.args.text.now) view go
    → Says c.args.context.now (looked_text c.args.text.now) (look_count c.args.text.now) (look_count c.settle_unknown.new.text) false true c.args.unknown.now.place
    c.restart.new.self c.settle_unknown.new.memory view go c.in_ok-start.field-0
settled c view go explains =
    c.in_ok-start.ensures.settled.says view go explains (none_visited view.longest go c.restart.new.self.visited c.in_ok-restart.ensures.visited.2)
    (c.requires.unknown.fails view go explains)

pub returns-in-Found-clause-answer : goal.returns-in-Found-clause-answer
returns-in-Found-clause-answer c view go explains =
    let says = rw c.in-Found.is at (settled (goal.at.returns-in-Found-clause-answer c).In_ok-start view go explains) in
    rw (c.in_ok-restart.ensures.slots, sym c.requires.unknown.split) at says.0

pub returns-in-Found-clause-at_least : goal.returns-in-Found-clause-at_least
returns-in-Found-clause-at_least c view go explains =
    let says = rw c.in-Found.is at (settled (goal.at.returns-in-Found-clause-at_least c).In_ok-start view go explains) in
    rw (c.in_ok-restart.ensures.slots, sym c.requires.unknown.split) at says.1

pub returns-in-On-None-clause-answer : goal.returns-in-On-None-clause-answer
returns-in-On-None-clause-answer c view go explains =
    let says = rw (c.in-On-None.is, c.in-On-None.next-is) at (settled (goal.at.returns-in-On-None-clause-answer c).In_ok-start view go explains) in
    let none = rw (c.in_ok-restart.ensures.slots, sym c.requires.unknown.split) at says.2 in
    record { found_slots = unset_slots c.args.groups; is = sym (none ∙ earliest_none (spot_from go c.args.context.now.entry (unset_slots c.args.groups))); same_slots = λ e. absurd (true≢false e) }

pub returns-in-On-None-clause-at_least : goal.returns-in-On-None-clause-at_least
returns-in-On-None-clause-at_least c view go explains =
    let says = rw (c.in-On-None.is, c.in-On-None.next-is) at (settled (goal.at.returns-in-On-None-clause-at_least c).In_ok-start view go explains) in
    let tried = rw (c.in_ok-restart.ensures.slots, sym c.requires.unknown.split) at says.3 in
    let none = tried_none (spot_from go c.args.context.now.entry (unset_slots c.args.groups)) in
    omega (arith, tried, none)

-- the bound, after the search went on with memory
bound_on : (c : After-earliest_match) → look_count c.earliest_match.new.text
    ≤ look_count c.args.text.now + (c.args.context.now.stop - c.args.unknown.now.place.at + 1) * length c.args.context.now.states.now + (c.args.context.now.stop - c.args.unknown.now.place.at)
bound_on c =
    let stop : ℕ = c.args.context.now.stop in
    let on = rw (c.in-On-Some.is, c.in-On-Some.next-is) at c.in_ok-start.ensures.settled.on in
    looks_anew (look_count c.earliest_match.new.text) (look_count c.args.text.now) c.restart.new.self.visited c.args.unknown.now.place.at stop (length c.args.context.now.states.now)
    (stop - c.args.unknown.now.place.at) c.requires.unknown.start.high c.in_ok-restart.ensures.visited.1 c.in_ok-restart.ensures.visited.0
    (omega (arith, c.earliest_match.ensures.at_most, on.counted, on.after.0, on.after.1))

pub returns-in_err-span-in-On-Some-clause-at_most : goal.returns-in_err-span-in-On-Some-clause-at_most
returns-in_err-span-in-On-Some-clause-at_most c = bound_on (goal.at.returns-in_err-span-in-On-Some-clause-at_most c).After-earliest_match

pub returns-in_ok-span-in-On-Some-clause-at_most : goal.returns-in_ok-span-in-On-Some-clause-at_most
returns-in_ok-span-in-On-Some-clause-at_most c = bound_on (goal.at.returns-in_ok-span-in-On-Some-clause-at_most c).After-earliest_match

pub returns-in_ok-span-in-On-Some-clause-answer : goal.returns-in_ok-span-in-On-Some-clause-answer
returns-in_ok-span-in-On-Some-clause-answer c view go explains =
    let says = rw (c.in-On-Some.is, c.in-On-Some.next-is) at (settled (goal.at.returns-in_ok-span-in-On-Some-clause-answer c).In_ok-start view go explains) in
    let same = c.settle_unknown.ensures.settling.looks.text in
    let here : Explains c.args.context.now (looked_text c.settle_unknown.new.text) view go = rw same explains in
    let on = rw (c.in_ok-restart.ensures.slots, sym c.requires.unknown.split) at says.2 in
    let answer = rw (same, says.1, c.in_ok-restart.ensures.slots) at (c.in_ok-span-in-On-Some.ensures.answer view go here says.0) in
    subst (λ (found : Option FoundMatch). IsAnswer true c.in_ok-span-in-On-Some.span c.earliest_match.new.memory.backtrack.slots.items found) (sym on) answer

pub returns-in_ok-span-in-On-Some-clause-at_least : goal.returns-in_ok-span-in-On-Some-clause-at_least
returns-in_ok-span-in-On-Some-clause-at_least c view go explains =
    let says = rw (c.in-On-Some.is, c.in-On-Some.next-is) at (settled (goal.at.returns-in_ok-span-in-On-Some-clause-at_least c).In_ok-start view go explains) in
    let same = c.settle_unknown.ensures.settling.looks.text in
    let here : Explains c.args.context.now (looked_text c.settle_unknown.new.text) view go = rw same explains in
    let tried = rw (c.in_ok-restart.ensures.slots, sym c.requires.unknown.split) at says.3 in
    let least = rw (same, says.1, c.in_ok-restart.ensures.slots) at (c.in_ok-span-in-On-Some.ensures.at_least view go here says.0) in
    omega (arith, tried, least)
