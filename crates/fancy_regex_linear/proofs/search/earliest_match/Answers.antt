use Rattle.std.proofs.Common.{◌≡◌, ℕ, ◌+◌, ◌-◌, ◌*◌, ◌^◌, ◌≤◌, ◌∙◌, min, List, Option, Some, refl, sym, subst, arith, length}
use Rattle.fancy_regex_class.specs.Looks.{looked_text, look_count}
use Rattle.fancy_regex_states.specs.Attempts.{View, Continuation}
use Rattle.fancy_regex_linear.specs.Meaning.{Spot}
use Rattle.fancy_regex_linear.specs.Find.{FoundMatch, earliest, attempted, places}
use Rattle.fancy_regex_linear.specs.Starts.{places_left, spot_from}
use Rattle.fancy_regex_linear.specs.Visited.{Has, visited_bound}
use Rattle.fancy_regex_linear.specs.Search.{AllFail, Explains}
use Rattle.fancy_regex_linear.specs.Settled.{IsAnswer, IsSettled}
use Rattle.fancy_regex_linear.specs.declared.visited.Visited.{Visited}
use Rattle.fancy_regex_linear.proofs.VisitedLemmas.{visited_bound_most}
use Rattle.fancy_regex_linear.proofs.StartLemmas.{earliest_none, tried_none, after_from}
use Rattle.fancy_regex_linear.proofs.search.earliest_match.Goals as goal
use Rattle.fancy_regex_linear.proofs.search.earliest_match.Goals.{After-next_start, After-settle, In_ok-start}

pub starts-init : goal.starts-init
starts-init c = record {
  found = λ view go explains failed. (failed, refl, refl, omega arith);
  from = (omega arith, c.requires.range.0, c.requires.start);
  between = c.requires.between;
  base = (omega (arith, c.requires.base, c.requires.range.0), c.requires.base);
  at_most = omega arith;
  looks = record { more = omega arith; text = refl; same_counter = refl };
}

-- what an attempt at a place gives
abbrev spot : (c : After-next_start) → (ℕ → Continuation) → ℕ → Option Spot
spot c go = spot_from go c.args.context.now.entry c.args.memory.now.backtrack.slots.items

abbrev all_places : (c : After-next_start) → List ℕ
all_places c = places (looked_text c.args.text.now) c.args.mode.now.anchored c.args.start c.args.context.now.stop

abbrev left : (c : After-next_start) → List ℕ
left c = places_left (looked_text c.args.text.now) c.args.mode.now.anchored c.args.context.now.stop c.next_start.result

-- the starts that are left are those that count
passed : (c : After-next_start) (view : View) (go : ℕ → Continuation) → Explains c.args.context.now (looked_text c.args.text.now) view go
    → AllFail view.longest go (Has c.args.memory.now.visited)
    → (earliest (spot c go) (all_places c) ≡ earliest (spot c go) (left c))
    × (min (look_count c.args.text.now + attempted (spot c go) (all_places c)) (2 ^ 64 - 1) ≤ min (look_count c.next_start.new.text + (attempted (spot c go) (left c) - 1)) (2 ^ 64 - 1))
passed c view go explains failed =
    let inv = rw c.in-Some.is at (c.starts.invariant.found view go explains failed) in
    let here : Explains c.args.context.now (looked_text c.starts.text) view go = rw c.starts.invariant.looks.text explains in
    let over = rw c.starts.invariant.looks.text at (c.next_start.ensures.passed view go here c.args.memory.now.backtrack.slots.items) in
    let least = rw c.starts.invariant.looks.text at (c.next_start.ensures.at_least view go here c.args.memory.now.backtrack.slots.items) in
    (inv.2 ∙ over, omega (arith, inv.3, least))

-- no more pairs were visited_bound than there are
capped : (v : Visited) (stop count : ℕ) → v.count ≡ count → v.base ≤ stop → v.rows ≤ stop - v.base + 1 → visited_bound v ≤ (stop + 1) * count
capped v stop count same low rows = subst (λ (n : ℕ). visited_bound v ≤ (stop + 1) * n) same (visited_bound_most v stop low rows)

pub returns-in_default-next_start-clause-answer : goal.returns-in_default-next_start-clause-answer
returns-in_default-next_start-clause-answer c view go explains failed =
    let d = (goal.at.returns-in_default-next_start-clause-answer c).After-next_start in
    let over = rw c.in_default-next_start.is at (passed d view go explains failed) in
    record { found_slots = c.starts.memory.backtrack.slots.items; is = sym (over.0 ∙ earliest_none (spot d go)); same_slots = λ _. refl }

pub returns-in_default-next_start-clause-at_least : goal.returns-in_default-next_start-clause-at_least
returns-in_default-next_start-clause-at_least c view go explains failed =
    let d = (goal.at.returns-in_default-next_start-clause-at_least c).After-next_start in
    let over = rw c.in_default-next_start.is at (passed d view go explains failed) in
    let none = tried_none (spot d go) in
    omega (arith, over.1, none)

pub returns-in_default-next_start-clause-at_most : goal.returns-in_default-next_start-clause-at_most
returns-in_default-next_start-clause-at_most c =
    let count : ℕ = length c.args.context.now.states.now in
    let stop : ℕ = c.args.context.now.stop in
    let from = rw c.in-Some.is at c.starts.invariant.from in
    let so_far = rw c.in-Some.is at c.starts.invariant.at_most in
    let dropped = c.in_default-next_start.ensures.dropped in
    let visited = c.next_start.new.visited in
    let cap = capped visited stop count (dropped.count ∙ c.starts.invariant.between.count) dropped.base.1 (dropped.rows stop c.starts.invariant.between.rows) in
    omega (arith, so_far, c.in_default-next_start.ensures.at_most, from.0, from.1, cap, c.requires.range.0)

pub returns-clause-answer : goal.returns-clause-answer
returns-clause-answer c view go explains failed =
    let inv = rw c.in_default.is at (c.starts.invariant.found view go explains failed) in
    record {
      found_slots = c.starts.memory.backtrack.slots.items;
      is = sym (inv.2 ∙ earliest_none (spot_from go c.args.context.now.entry c.args.memory.now.backtrack.slots.items));
      same_slots = λ _. refl;
    }

pub returns-clause-at_least : goal.returns-clause-at_least
returns-clause-at_least c view go explains failed =
    let inv = rw c.in_default.is at (c.starts.invariant.found view go explains failed) in
    let none = tried_none (spot_from go c.args.context.now.entry c.args.memory.now.backtrack.slots.items) in
    omega (arith, inv.3, none)

pub returns-clause-at_most : goal.returns-clause-at_most
returns-clause-at_most c =
    let count : ℕ = length c.args.context.now.states.now in
    let stop : ℕ = c.args.context.now.stop in
    let so_far = rw c.in_default.is at c.starts.invariant.at_most in
    let cap = capped c.starts.memory.visited stop count c.starts.invariant.between.count c.starts.invariant.base.0 c.starts.invariant.between.rows in
    omega (arith, so_far, cap, c.requires.range.0)

-- the bound, after a start was settled
bound : (c : After-settle) → look_count c.settle.new.text + visited_bound c.args.memory.now.visited
    ≤ look_count c.args.text.now + (c.args.context.now.stop + 1) * length c.args.context.now.states.now + (c.args.context.now.stop - c.args.start + 1)
bound c =
    let count : ℕ = length c.args.context.now.states.now in
    let stop : ℕ = c.args.context.now.stop in
    let is = c.in-Some-next_start.ensures.start in
    let from = rw c.in-Some.is at c.starts.invariant.from in
    let so_far = rw c.in-Some.is at c.starts.invariant.at_most in
    let settling = c.settle.ensures.settling in
    let cap = capped c.settle.new.memory.visited stop count (settling.count ∙ c.in-Some-next_start.ensures.dropped.count ∙ c.starts.invariant.between.count) settling.base.1 settling.rows in
    omega (arith, so_far, settling.counted, c.in-Some-next_start.ensures.at_most, from.0, is.low, is.high, cap, c.requires.range.0)

pub returns-in_err-start-clause-at_most : goal.returns-in_err-start-clause-at_most
returns-in_err-start-clause-at_most c = bound (goal.at.returns-in_err-start-clause-at_most c).After-settle

pub returns-in-Found-clause-at_most : goal.returns-in-Found-clause-at_most
returns-in-Found-clause-at_most c = bound (goal.at.returns-in-Found-clause-at_most c).After-settle

-- what was settled, of the text of the search
settled_is : (c : In_ok-start) → IsSettled c.args.context.now (looked_text c.args.text.now) (look_count c.next_start.new.text) (look_count c.settle.new.text)
    c.args.mode.now.anchored c.args.mode.now.span_only c.in-Some-next_start.place (record c.starts.memory { visited = c.next_start.new.visited }) c.settle.new.memory c.in_ok-start.field-0
settled_is c =
    subst (λ (t : List ℕ). IsSettled c.args.context.now t (look_count c.next_start.new.text) (look_count c.settle.new.text)
    c.args.mode.now.anchored c.args.mode.now.span_only c.in-Some-next_start.place (record c.starts.memory { visited = c.next_start.new.visited }) c.settle.new.memory c.in_ok-start.field-0)
    (c.next_start.ensures.looks.text ∙ c.starts.invariant.looks.text) c.in_ok-start.ensures.settled

-- the pairs that are left fail
still_fail : (c : After-next_start) (view : View) (go : ℕ → Continuation) → AllFail view.longest go (Has c.starts.memory.visited)
    → AllFail view.longest go (Has c.next_start.new.visited)
still_fail c view go failed q i r has = failed q i r (c.next_start.ensures.dropped.pairs q i has)

pub next_start-requires-clause-base : goal.next_start-requires-clause-base
next_start-requires-clause-base c = let base = rw c.in-Some.is at c.starts.invariant.base in base.1

pub settle-requires-clause-start : goal.settle-requires-clause-start
settle-requires-clause-start c =
    let dropped = c.in-Some-next_start.ensures.dropped in
    let text = c.next_start.ensures.looks.text in
    let between = c.starts.invariant.between in
    record {
      inside = rw (text, c.starts.invariant.looks.text) c.requires.range.1;
      utf8 = rw (text, c.starts.invariant.looks.text) c.requires.text;
      start = rw text (c.in-Some.least, c.in-Some-next_start.ensures.start);
      split = rw text c.in-Some-next_start.ensures.split;
      base = dropped.base.1;
      between = record {
        count = dropped.count ∙ between.count;
        rows = dropped.rows c.args.context.now.stop between.rows;
        empty = between.empty;
        farthest = between.farthest;
      };
    }

pub returns-in-Found-clause-answer : goal.returns-in-Found-clause-answer
returns-in-Found-clause-answer c view go explains failed =
    let d = (goal.at.returns-in-Found-clause-answer c).After-next_start in
    let inv = c.starts.invariant.found view go explains failed in
    let over = rw c.in-Some-next_start.is at (passed d view go explains failed) in
    let settled = rw c.in-Found.is at (settled_is (goal.at.returns-in-Found-clause-answer c).In_ok-start) in
    let says = rw inv.1 at (settled.says view go explains (still_fail d view go inv.0)).0 in
    subst (λ (found : Option FoundMatch). IsAnswer c.args.mode.now.span_only (Some (c.in-Found.start, c.in-Found.end)) c.settle.new.memory.backtrack.slots.items found) (sym over.0) says

pub returns-in-Found-clause-at_least : goal.returns-in-Found-clause-at_least
returns-in-Found-clause-at_least c view go explains failed =
    let d = (goal.at.returns-in-Found-clause-at_least c).After-next_start in
    let inv = c.starts.invariant.found view go explains failed in
    let over = rw c.in-Some-next_start.is at (passed d view go explains failed) in
    let settled = rw c.in-Found.is at (settled_is (goal.at.returns-in-Found-clause-at_least c).In_ok-start) in
    let says = rw inv.1 at (settled.says view go explains (still_fail d view go inv.0)).1 in
    omega (arith, over.1, says)

pub starts-preserved : goal.starts-preserved
starts-preserved c =
    let d = (goal.at.starts-preserved c).After-next_start in
    let place = c.in-Some-next_start.place in
    let text = looked_text c.args.text.now in
    let stop : ℕ = c.args.context.now.stop in
    let is = rw c.starts.invariant.looks.text at c.in-Some-next_start.ensures.start in
    let from = rw c.in-Some.is at c.starts.invariant.from in
    let so_far = rw c.in-Some.is at c.starts.invariant.at_most in
    let settling = c.settle.ensures.settling in
    let settled = rw c.in-On.is at (settled_is (goal.at.starts-preserved c).In_ok-start) in
    record {
      found = λ view go explains failed.
          let inv = c.starts.invariant.found view go explains failed in
          let over = rw c.in-Some-next_start.is at (passed d view go explains failed) in
          let says = settled.says view go explains (still_fail d view go inv.0) in
          let same = rw inv.1 at says.2 in
          let looks = rw inv.1 at says.3 in
          (says.0, says.1 ∙ inv.1, over.0 ∙ same, omega (arith, over.1, looks));
      from = after_from text stop c.args.start place.at c.in-On.next (omega (arith, from.0, is.low)) settled.on.after;
      between = settled.on.between;
      base = (settling.base.1, settled.on.base);
      at_most = omega (arith, so_far, settled.on.counted, c.in-Some-next_start.ensures.at_most, from.0, is.low);
      looks = record {
        more = omega (arith, c.next_start.ensures.looks.more, settling.looks.more, c.starts.invariant.looks.more);
        text = settling.looks.text ∙ c.next_start.ensures.looks.text ∙ c.starts.invariant.looks.text;
        same_counter = settling.looks.same_counter ∙ c.next_start.ensures.looks.same_counter ∙ c.starts.invariant.looks.same_counter;
      };
    }
