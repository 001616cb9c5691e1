use Rattle.std.proofs.Common.{◌≡◌, ◌+◌, ◌-◌, ◌*◌, ◌≤◌, ◌^◌, ◌∙◌, ℕ, List, Option, Some, None, true, true≢false, length, min, refl, sym, ap, subst, arith}
use Rattle.fancy_regex_class.specs.Looks.{looked_text, look_count}
use Rattle.fancy_regex_class.specs.declared.counted.Counted.{Counted}
use Rattle.fancy_regex_linear.specs.Alone.{AloneSays, IsAloneIn, IsAskedFrom, unset_slots}
use Rattle.fancy_regex_linear.specs.Find.{FoundMatch}
use Rattle.fancy_regex_linear.specs.Search.{Explains}
use Rattle.fancy_regex_linear.specs.Settled.{IsAnswer}
use Rattle.fancy_regex_linear.proofs.AloneLemmas.{first_says, none_says, later_says, looks_twice, looks_then}
use Rattle.fancy_regex_linear.proofs.first.from_alone.Goals as goal
use Rattle.fancy_regex_linear.proofs.first.from_alone.Goals.{After-from_unknown}

pub returns-in-Found-clause-answer : goal.returns-in-Found-clause-answer
returns-in-Found-clause-answer c old start asked view go explains =
    let context = c.args.context.now in
    let text = looked_text old in
    let is = subst (AloneSays context old c.args.text.now start) c.in-Found.is asked.says in
    let found = first_says context text go (unset_slots c.args.groups) start c.in-Found.start c.in-Found.end is.0.range is.0.boundary asked.range.1
    (is.0.fails view go explains) (is.0.ends view go explains) in
    record { found_slots = found.0; is = sym found.1; same_slots = λ e. absurd (true≢false e) }

pub returns-in-Found-clause-at_most : goal.returns-in-Found-clause-at_most
returns-in-Found-clause-at_most c old start asked =
    let context = c.args.context.now in
    let is = subst (AloneSays context old c.args.text.now start) c.in-Found.is asked.says in
    looks_twice (look_count c.args.text.now) (look_count old) (context.stop - start) (length context.states.now) is.1.at_most
    (omega (arith, c.requires.context.entry))

pub returns-in-Found-clause-at_least : goal.returns-in-Found-clause-at_least
returns-in-Found-clause-at_least c old start asked view go explains =
    let context = c.args.context.now in
    let text = looked_text old in
    let is = subst (AloneSays context old c.args.text.now start) c.in-Found.is asked.says in
    let found = first_says context text go (unset_slots c.args.groups) start c.in-Found.start c.in-Found.end is.0.range is.0.boundary asked.range.1
    (is.0.fails view go explains) (is.0.ends view go explains) in
    omega (arith, found.2, is.1.at_least)

pub returns-in-NoMatch-clause-answer : goal.returns-in-NoMatch-clause-answer
returns-in-NoMatch-clause-answer c old start asked view go explains =
    let context = c.args.context.now in
    let is = subst (AloneSays context old c.args.text.now start) c.in-NoMatch.is asked.says in
    let none = none_says context (looked_text old) go (unset_slots c.args.groups) start asked.boundary asked.range.0 asked.range.1
    (is.fails view go explains) in
    record { found_slots = unset_slots c.args.groups; is = sym none.0; same_slots = λ e. absurd (true≢false e) }

pub returns-in-NoMatch-clause-at_most : goal.returns-in-NoMatch-clause-at_most
returns-in-NoMatch-clause-at_most c old start asked =
    let context = c.args.context.now in
    let is = subst (AloneSays context old c.args.text.now start) c.in-NoMatch.is asked.says in
    looks_twice (look_count c.args.text.now) (look_count old) (context.stop - start) (length context.states.now) is.looked.at_most
    (omega (arith, c.requires.context.entry))

pub returns-in-NoMatch-clause-at_least : goal.returns-in-NoMatch-clause-at_least
returns-in-NoMatch-clause-at_least c old start asked view go explains =
    let context = c.args.context.now in
    let is = subst (AloneSays context old c.args.text.now start) c.in-NoMatch.is asked.says in
    let none = none_says context (looked_text old) go (unset_slots c.args.groups) start asked.boundary asked.range.0 asked.range.1
    (is.fails view go explains) in
    omega (arith, none.1, is.looked.at_least)

pub from_unknown-requires-clause-unknown : goal.from_unknown-requires-clause-unknown
from_unknown-requires-clause-unknown c = subst (IsAloneIn c.args.context.now (looked_text c.args.text.now)) c.in-Unknown.is c.requires.unknown

-- what the search with memory finds, and what the table has told before
pub returns-in_ok-span-in-Unknown-clause-answer : goal.returns-in_ok-span-in-Unknown-clause-answer
returns-in_ok-span-in-Unknown-clause-answer c old start asked view go explains =
    let context = c.args.context.now in
    let text = looked_text old in
    let is = subst (AloneSays context old c.args.text.now start) c.in-Unknown.is asked.says in
    let same = is.3.text in
    let later = later_says context text go (unset_slots c.args.groups) start c.in-Unknown.unknown.place.at is.1 is.0.start.high asked.range.1 (is.2 view go explains) in
    let here : Explains context (looked_text c.args.text.now) view go = rw same explains in
    let answer = rw same at (c.in_ok-span-in-Unknown.ensures.answer view go here) in
    subst (λ (found : Option FoundMatch). IsAnswer true c.in_ok-span-in-Unknown.span c.from_unknown.new.memory.backtrack.slots.items found) (sym later.0) answer

pub returns-in_ok-span-in-Unknown-clause-at_least : goal.returns-in_ok-span-in-Unknown-clause-at_least
returns-in_ok-span-in-Unknown-clause-at_least c old start asked view go explains =
    let context = c.args.context.now in
    let text = looked_text old in
    let is = subst (AloneSays context old c.args.text.now start) c.in-Unknown.is asked.says in
    let same = is.3.text in
    let later = later_says context text go (unset_slots c.args.groups) start c.in-Unknown.unknown.place.at is.1 is.0.start.high asked.range.1 (is.2 view go explains) in
    let here : Explains context (looked_text c.args.text.now) view go = rw same explains in
    let least = rw same at (c.in_ok-span-in-Unknown.ensures.at_least view go here) in
    omega (arith, least, later.1, is.3.at_least)

-- the bound, after the search with memory
bound : (c : After-from_unknown) (old : Counted) (start : ℕ) → IsAskedFrom c.args.context.now old c.args.text.now start c.args.alone
    → look_count c.from_unknown.new.text
    ≤ look_count old + (c.args.context.now.stop - start + 1) * length c.args.context.now.states.now + (c.args.context.now.stop - start + 1)
bound c old start asked =
    let context = c.args.context.now in
    let stop : ℕ = context.stop in
    let is = subst (AloneSays context old c.args.text.now start) c.in-Unknown.is asked.says in
    let at : ℕ = c.in-Unknown.unknown.place.at in
    let high : at ≤ stop = is.0.start.high in
    let all : at - start + (stop - at) ≡ stop - start = omega (arith, is.1, high) in
    subst (λ (n : ℕ). look_count c.from_unknown.new.text ≤ look_count old + (n + 1) * length context.states.now + (n + 1)) all
    (looks_then (look_count c.from_unknown.new.text) (look_count c.args.text.now) (look_count old) (at - start) (stop - at)
    (length context.states.now) is.3.at_most c.from_unknown.ensures.at_most (omega (arith, c.requires.context.entry)))

pub returns-in_err-span-in-Unknown-clause-at_most : goal.returns-in_err-span-in-Unknown-clause-at_most
returns-in_err-span-in-Unknown-clause-at_most c = bound (goal.at.returns-in_err-span-in-Unknown-clause-at_most c).After-from_unknown

pub returns-in_ok-span-in-Unknown-clause-at_most : goal.returns-in_ok-span-in-Unknown-clause-at_most
returns-in_ok-span-in-Unknown-clause-at_most c = bound (goal.at.returns-in_ok-span-in-Unknown-clause-at_most c).After-from_unknown
