use Rattle.std.proofs.Common.{◌∙◌, ◌+◌, ◌∷◌, ℕ, List, Some, None, length, sym, ap, subst, arith}
use Rattle.regex_hir.specs.Text.{char_at, char_before}
use Rattle.fancy_regex_class.specs.Looks.{looked_text}
use Rattle.fancy_regex_states.specs.First.{state_at}
use Rattle.fancy_regex_parts.specs.Ways.{ways_of, text_view}
use Rattle.fancy_regex_parts.specs.Tables.{known_cost}
use Rattle.fancy_regex_parts.specs.Walk.{IsArrival, IsWalking, last_first, tasks_due, tasks_size, trace_writes, walk_tasks}
use Rattle.fancy_regex_parts.specs.Writes.{list_of}
use Rattle.fancy_regex_parts.specs.declared.groups.WalkTask.{WalkTask}
use Rattle.fancy_regex_parts.specs.declared.groups.WalkTask.TheVariants.{Follow}
use Rattle.fancy_regex_parts.specs.declared.writes.WriteLists.{WriteLists}
use Rattle.fancy_regex_parts.proofs.ListLemmas.{list_none, same_by}
use Rattle.fancy_regex_parts.proofs.VisitLemmas.{right_at}
use Rattle.fancy_regex_parts.proofs.WalkLemmas.{arrived_within, cost_cheap, due_first, found_again, found_cost, found_low, has_ways, leads_same, no_more, one_less, owed_cheap, pair_follows, size_first, visited_cap, went_cost, went_on, went_within}
use Rattle.fancy_regex_parts.proofs.WriteLemmas.{writes_nothing}
use Rattle.fancy_regex_parts.proofs.groups.pass.Goals as goal

pub returns-then-not-may_write-clause-walking : goal.returns-then-not-may_write-clause-walking
returns-then-not-may_write-clause-walking c view go tried true_of target h =
    let context = c.args.context.now in
    let table = context.table.now in
    let text = looked_text c.args.text.now in
    let writes = c.args.walked.now.lists.writes.items in
    let none = writes_nothing view (length text) context.range table.states.items go tried.does table.writes.items
    (λ q low. (right_at table q c.requires.ready.table low).no_write) c.args.state c.args.at c.requires.place.state c.requires.place.boundary.0
    (sym c.may_write.ensures ∙ c.if-not-may_write.true) in
    record {
      leads = leads_same go table.heads.items c.args.memory.now.recall.base writes (last_first c.args.walked.now.tasks.items) (list_of writes 0)
          (trace_writes (go c.args.state c.args.at).answer) target (same_by _ _ (list_none writes ∙ sym none)) h.leads.1.1;
      cells = record { opened = h.cells.opened; known = h.cells.known };
    }

pub returns-then-not-may_write-clause-progress : goal.returns-then-not-may_write-clause-progress
returns-then-not-may_write-clause-progress c =
    let task : WalkTask = Follow c.args.state c.args.at in
    let rest = last_first c.args.walked.now.tasks.items in
    omega (arith, due_first c.args.context.now.table.now task rest, size_first task rest)

pub returns-then-not-may_write-clause-counted : goal.returns-then-not-may_write-clause-counted
returns-then-not-may_write-clause-counted c dear most within =
    let table = c.args.context.now.table.now in
    let task : WalkTask = Follow c.args.state c.args.at in
    let rest = last_first c.args.walked.now.tasks.items in
    let known = known_cost table c.args.walked.now.visited in
    omega (arith, no_more dear (tasks_due table (task ∷ rest) + known) (tasks_due table rest + known) (omega (arith, due_first table task rest)))

pub returns-in-Some-clause-walking : goal.returns-in-Some-clause-walking
returns-in-Some-clause-walking c view go tried true_of target h =
    let table = c.args.context.now.table.now in
    let arrival = subst (IsArrival table c.args.walked.now c.arrive.new.walked c.args.state c.args.at) c.in-Some.is c.in_ok-list.ensures.arrival in
    let walks = found_again table go (length (looked_text c.args.text.now)) c.args.memory.now.recall.base c.args.walked.now c.arrive.new.walked c.args.state c.args.at
    (right_at table c.args.state c.requires.ready.table c.requires.place.state) (omega (arith, c.requires.place.low)) c.requires.walked c.arrive.ensures.lists
    target h c.in-Some.list arrival in
    subst (λ (l : WriteLists). IsWalking go table.heads.items c.args.memory.now.recall.base l.writes.items c.arrive.new.walked.visited
    (last_first c.arrive.new.walked.tasks.items) c.in-Some.list target) (sym c.arrive.ensures.lists) walks

pub returns-in-Some-clause-walked : goal.returns-in-Some-clause-walked
returns-in-Some-clause-walked c =
    let table = c.args.context.now.table.now in
    arrived_within table (length (looked_text c.args.text.now)) c.args.memory.now.recall.base c.args.walked.now c.arrive.new.walked c.args.state c.args.at
    (omega (arith, c.requires.place.low)) c.requires.walked c.arrive.ensures.lists (Some c.in-Some.list)
    (subst (IsArrival table c.args.walked.now c.arrive.new.walked c.args.state c.args.at) c.in-Some.is c.in_ok-list.ensures.arrival)
    c.arrive.ensures.rows c.requires.place.boundary.0

pub returns-in-Some-clause-list : goal.returns-in-Some-clause-list
returns-in-Some-clause-list c =
    let table = c.args.context.now.table.now in
    found_low table (length (looked_text c.args.text.now)) c.args.memory.now.recall.base c.args.walked.now c.arrive.new.walked c.args.state c.args.at
    (omega (arith, c.requires.place.low)) c.requires.walked c.arrive.ensures.lists c.in-Some.list
    (subst (IsArrival table c.args.walked.now c.arrive.new.walked c.args.state c.args.at) c.in-Some.is c.in_ok-list.ensures.arrival)

pub returns-in-Some-clause-within : goal.returns-in-Some-clause-within
returns-in-Some-clause-within c dear most within =
    let table = c.args.context.now.table.now in
    let same = found_cost table c.args.state c.args.at (right_at table c.args.state c.requires.ready.table c.requires.place.state) c.args.walked.now c.arrive.new.walked
    c.requires.walked.width c.in-Some.list
    (subst (IsArrival table c.args.walked.now c.arrive.new.walked c.args.state c.args.at) c.in-Some.is c.in_ok-list.ensures.arrival) in
    rw same.1 within.1

pub returns-in-Some-clause-progress : goal.returns-in-Some-clause-progress
returns-in-Some-clause-progress c =
    let table = c.args.context.now.table.now in
    let task : WalkTask = Follow c.args.state c.args.at in
    let rest = last_first c.args.walked.now.tasks.items in
    let same = found_cost table c.args.state c.args.at (right_at table c.args.state c.requires.ready.table c.requires.place.state) c.args.walked.now c.arrive.new.walked
    c.requires.walked.width c.in-Some.list
    (subst (IsArrival table c.args.walked.now c.arrive.new.walked c.args.state c.args.at) c.in-Some.is c.in_ok-list.ensures.arrival) in
    omega (arith, due_first table task rest, size_first task rest, same.0, ap (tasks_due table) same.1, ap tasks_size same.1)

pub returns-in-Some-clause-counted : goal.returns-in-Some-clause-counted
returns-in-Some-clause-counted c dear most within =
    let table = c.args.context.now.table.now in
    let task : WalkTask = Follow c.args.state c.args.at in
    let rest = last_first c.args.walked.now.tasks.items in
    let same = found_cost table c.args.state c.args.at (right_at table c.args.state c.requires.ready.table c.requires.place.state) c.args.walked.now c.arrive.new.walked
    c.requires.walked.width c.in-Some.list
    (subst (IsArrival table c.args.walked.now c.arrive.new.walked c.args.state c.args.at) c.in-Some.is c.in_ok-list.ensures.arrival) in
    omega (
      arith,
      no_more dear (tasks_due table (task ∷ rest) + known_cost table c.arrive.new.walked.visited)
          (tasks_due table (last_first c.arrive.new.walked.tasks.items) + known_cost table c.args.walked.now.visited)
          (omega (arith, due_first table task rest, same.0, ap (tasks_due table) same.1)),
    )

pub returns-in_ok-follow-in-None-clause-walking : goal.returns-in_ok-follow-in-None-clause-walking
returns-in_ok-follow-in-None-clause-walking c view go tried true_of target h =
    let context = c.args.context.now in
    let table = context.table.now in
    let text : List ℕ = looked_text c.args.text.now in
    let base : ℕ = c.args.memory.now.recall.base in
    let q = c.args.state in
    let at = c.args.at in
    let arrival = subst (IsArrival table c.args.walked.now c.arrive.new.walked q at) c.in-None.is c.in_ok-list.ensures.arrival in
    let step : List WalkTask = walk_tasks (ways_of go) (char_before text at) (char_at text at) (state_at table.states.items q) at in
    let follows = pair_follows context text view go tried q at c.requires.place.state c.requires.place.boundary h.leads.0 in
    let walks = went_on table go (length text) base c.args.walked.now c.arrive.new.walked q at
    (right_at table q c.requires.ready.table c.requires.place.state) (omega (arith, c.requires.place.low)) c.requires.walked c.arrive.ensures.lists
    target h step follows arrival in
    let tasks = c.in_ok-follow-in-None.ensures.tasks (text_view view) (ways_of go) (has_ways context text view go tried) true_of in
    subst (λ (l : WriteLists). IsWalking go table.heads.items base l.writes.items c.arrive.new.walked.visited
    (last_first c.follow.new.tasks.items) 0 target) (sym c.arrive.ensures.lists)
    (subst (λ (l : List WalkTask). IsWalking go table.heads.items base c.args.walked.now.lists.writes.items c.arrive.new.walked.visited l 0 target) (sym tasks) walks)

pub returns-in_ok-follow-in-None-clause-within : goal.returns-in_ok-follow-in-None-clause-within
returns-in_ok-follow-in-None-clause-within c dear most within =
    let table = c.args.context.now.table.now in
    let right = right_at table c.args.state c.requires.ready.table c.requires.place.state in
    c.in_ok-follow-in-None.ensures.left.within dear (owed_cheap table dear most c.args.state right within.0.cheap)
    (went_within table (looked_text c.args.text.now) c.args.memory.now.recall.base dear c.args.walked.now c.arrive.new.walked c.args.state c.args.at
    (subst (IsArrival table c.args.walked.now c.arrive.new.walked c.args.state c.args.at) c.in-None.is c.in_ok-list.ensures.arrival) within.1)

pub returns-in_ok-follow-in-None-clause-walked : goal.returns-in_ok-follow-in-None-clause-walked
returns-in_ok-follow-in-None-clause-walked c =
    let table = c.args.context.now.table.now in
    let w = arrived_within table (length (looked_text c.args.text.now)) c.args.memory.now.recall.base c.args.walked.now c.arrive.new.walked c.args.state c.args.at
    (omega (arith, c.requires.place.low)) c.requires.walked c.arrive.ensures.lists None
    (subst (IsArrival table c.args.walked.now c.arrive.new.walked c.args.state c.args.at) c.in-None.is c.in_ok-list.ensures.arrival)
    c.arrive.ensures.rows c.requires.place.boundary.0 in
    record { width = w.width; base_is = w.base_is; rows = w.rows; lists = w.lists; held = w.held }

pub returns-in_ok-follow-in-None-clause-progress : goal.returns-in_ok-follow-in-None-clause-progress
returns-in_ok-follow-in-None-clause-progress c =
    let table = c.args.context.now.table.now in
    let len = length (looked_text c.args.text.now) in
    let base = c.args.memory.now.recall.base in
    let task : WalkTask = Follow c.args.state c.args.at in
    let rest = last_first c.args.walked.now.tasks.items in
    let right = right_at table c.args.state c.requires.ready.table c.requires.place.state in
    let arrival = subst (IsArrival table c.args.walked.now c.arrive.new.walked c.args.state c.args.at) c.in-None.is c.in_ok-list.ensures.arrival in
    let went = went_cost table c.args.state c.args.at right c.args.walked.now c.arrive.new.walked c.requires.walked.width arrival in
    let w = arrived_within table len base c.args.walked.now c.arrive.new.walked c.args.state c.args.at
    (omega (arith, c.requires.place.low)) c.requires.walked c.arrive.ensures.lists None arrival c.arrive.ensures.rows c.requires.place.boundary.0 in
    let left = c.in_ok-follow-in-None.ensures.left in
    omega (
      arith,
      due_first table task rest,
      size_first task rest,
      went.0,
      went.1.0,
      went.1.1,
      visited_cap table len base c.arrive.new.walked w,
      left.due_is,
      left.few,
      right.paid,
    )

pub returns-in_ok-follow-in-None-clause-counted : goal.returns-in_ok-follow-in-None-clause-counted
returns-in_ok-follow-in-None-clause-counted c dear most within =
    let table = c.args.context.now.table.now in
    let task : WalkTask = Follow c.args.state c.args.at in
    let rest = last_first c.args.walked.now.tasks.items in
    let right = right_at table c.args.state c.requires.ready.table c.requires.place.state in
    let arrival = subst (IsArrival table c.args.walked.now c.arrive.new.walked c.args.state c.args.at) c.in-None.is c.in_ok-list.ensures.arrival in
    let went = went_cost table c.args.state c.args.at right c.args.walked.now c.arrive.new.walked c.requires.walked.width arrival in
    let left = c.in_ok-follow-in-None.ensures.left in
    let less = one_less dear (tasks_due table (task ∷ rest) + known_cost table c.arrive.new.walked.visited)
    (tasks_due table (last_first c.follow.new.tasks.items) + known_cost table c.args.walked.now.visited)
    (omega (arith, due_first table task rest, went.0, went.1.0, left.due_is, right.paid)) in
    omega (arith, less, c.in_ok-follow-in-None.ensures.counted, cost_cheap table dear most c.args.state right within.0.cheap)
