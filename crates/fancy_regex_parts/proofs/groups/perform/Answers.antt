use Rattle.std.proofs.Common.{◌+◌, ◌≤◌, ◌∷◌, ℕ, List, length, refl, sym, ap, subst, inl, inr, arith}
use Rattle.fancy_regex_class.specs.Looks.{looked_text}
use Rattle.fancy_regex_parts.specs.Tables.{known_cost, cell_cost}
use Rattle.fancy_regex_parts.specs.Walk.{AllTasksWithin, IsAt, IsWalking, last_first, task_due, task_size, tasks_due, tasks_size}
use Rattle.fancy_regex_parts.specs.Writes.{IsExtended}
use Rattle.fancy_regex_parts.specs.declared.groups.WalkMemory.{WalkMemory}
use Rattle.fancy_regex_parts.specs.declared.groups.WalkTask.{WalkTask}
use Rattle.fancy_regex_parts.specs.declared.writes.WriteLists.{WriteLists}
use Rattle.fancy_regex_parts.specs.declared.recall.Recall.{Recall}
use Rattle.fancy_regex_parts.specs.declared.groups.WalkTask.TheVariants.{Follow, Join}
use Rattle.fancy_regex_parts.proofs.ListLemmas.{extended_none}
use Rattle.fancy_regex_parts.proofs.VisitLemmas.{right_at}
use Rattle.fancy_regex_parts.proofs.TaskLemmas.{ended, joined, part_in, part_past, started, walked_kept, walked_lists}
use Rattle.fancy_regex_parts.proofs.WalkLemmas.{due_first, no_more, size_first}
use Rattle.fancy_regex_parts.proofs.WriteLemmas.{writes_nothing}
use Rattle.fancy_regex_parts.proofs.groups.perform.Goals as goal

pub pass-requires-clause-place : goal.pass-requires-clause-place
pass-requires-clause-place c = subst (IsAt c.args.context.now.table.now (looked_text c.args.text.now) c.args.memory.now.recall.base) c.in-Follow.is c.requires.task

pub returns-in_ok-list-in-Follow-clause-walking : goal.returns-in_ok-list-in-Follow-clause-walking
returns-in_ok-list-in-Follow-clause-walking c view go tried true_of target h =
    let table = c.args.context.now.table.now in
    let text : List ℕ = looked_text c.args.text.now in
    let base : ℕ = c.args.memory.now.recall.base in
    let old : WalkMemory = c.args.walked.now in
    let rest : List WalkTask = last_first c.args.walked.now.tasks.items in
    let here = subst (λ (x : WalkTask). IsWalking go table.heads.items base old.lists.writes.items old.visited (x ∷ rest) c.args.written target) c.in-Follow.is h in
    c.in_ok-list-in-Follow.ensures.walking view go tried true_of target (record { leads = here.leads; cells = here.cells })

pub returns-in_ok-list-in-Follow-clause-within : goal.returns-in_ok-list-in-Follow-clause-within
returns-in_ok-list-in-Follow-clause-within c dear most within =
    c.in_ok-list-in-Follow.ensures.within dear most
    (subst (λ (x : WalkTask). AllTasksWithin c.args.context.now.table.now (looked_text c.args.text.now) c.args.memory.now.recall.base dear
    (x ∷ last_first c.args.walked.now.tasks.items)) c.in-Follow.is within)

pub returns-in_ok-list-in-Part-clause-walking : goal.returns-in_ok-list-in-Part-clause-walking
returns-in_ok-list-in-Part-clause-walking c view go tried true_of target h =
    let table = c.args.context.now.table.now in
    let text : List ℕ = looked_text c.args.text.now in
    let base : ℕ = c.args.memory.now.recall.base in
    let old : WalkMemory = c.args.walked.now in
    let rest : List WalkTask = last_first c.args.walked.now.tasks.items in
    let here = subst (λ (x : WalkTask). IsWalking go table.heads.items base old.lists.writes.items old.visited (x ∷ rest) c.args.written target) c.in-Part.is h in
    let q = c.in-Part.state in
    let at = c.in-Part.at in
    let place = subst (IsAt table text base) c.in-Part.is c.requires.task in
    subst (λ (l : WriteLists). IsWalking go table.heads.items base l.writes.items c.enter_part.new.walked.visited
    (last_first c.enter_part.new.walked.tasks.items) c.in_ok-list-in-Part.list target) (sym c.enter_part.ensures.lists)
    (subst (λ (r : Recall). IsWalking go table.heads.items base old.lists.writes.items r
    (last_first c.enter_part.new.walked.tasks.items) c.in_ok-list-in-Part.list target) (sym c.enter_part.ensures.visited)
    (elim c.in_ok-list-in-Part.ensures.list [
      | inl past ↦
          let none = writes_nothing view (length text) c.args.context.now.range table.states.items go tried.does table.writes.items
          (λ p low. (right_at table p c.requires.ready.table low).no_write) q at place.state place.boundary.0 past.0 in
          subst (λ (l : List WalkTask). IsWalking go table.heads.items base old.lists.writes.items old.visited l c.in_ok-list-in-Part.list target) (sym past.1.0)
          (subst (λ (n : ℕ). IsWalking go table.heads.items base old.lists.writes.items old.visited rest n target) (sym past.1.1)
          (part_past go table.heads.items base old.lists.writes.items old.visited rest c.args.written target q at none here))
      | inr into ↦
          subst (λ (l : List WalkTask). IsWalking go table.heads.items base old.lists.writes.items old.visited l c.in_ok-list-in-Part.list target) (sym into.0)
          (subst (λ (n : ℕ). IsWalking go table.heads.items base old.lists.writes.items old.visited (Follow q at ∷ Join c.args.written ∷ rest) n target) (sym into.1)
          (part_in go table.heads.items base old.lists.writes.items old.visited rest c.args.written target q at c.requires.written here))
    ]))

pub returns-in_ok-list-in-Part-clause-walked : goal.returns-in_ok-list-in-Part-clause-walked
returns-in_ok-list-in-Part-clause-walked c =
    walked_lists c.args.context.now.table.now (length (looked_text c.args.text.now)) c.args.memory.now.recall.base c.args.walked.now c.requires.walked
    c.enter_part.new.walked c.enter_part.ensures.visited
    (subst (λ (l : WriteLists). IsExtended c.args.walked.now.lists.writes.items l.writes.items) (sym c.enter_part.ensures.lists) (extended_none _))
    (ap (λ (l : WriteLists). l.held) c.enter_part.ensures.lists)

pub returns-in_ok-list-in-Part-clause-progress : goal.returns-in_ok-list-in-Part-clause-progress
returns-in_ok-list-in-Part-clause-progress c =
    let table = c.args.context.now.table.now in
    let old : WalkMemory = c.args.walked.now in
    let rest : List WalkTask = last_first c.args.walked.now.tasks.items in
    let dues = due_first table c.args.task rest in
    let due_is = ap (task_due table) c.in-Part.is in
    let sizes = size_first c.args.task rest in
    let size_is = ap task_size c.in-Part.is in
    let same = ap (known_cost table) c.enter_part.ensures.visited in
    elim c.in_ok-list-in-Part.ensures.list [
      | inl past ↦ omega (arith, dues, due_is, sizes, size_is, same, ap (tasks_due table) past.1.0, ap tasks_size past.1.0)
      | inr into ↦
          let follow : WalkTask = Follow c.in-Part.state c.in-Part.at in
          let join : WalkTask = Join c.args.written in
          omega (
            arith,
            dues,
            due_is,
            sizes,
            size_is,
            same,
            ap (tasks_due table) into.0,
            ap tasks_size into.0,
            due_first table follow (join ∷ rest),
            due_first table join rest,
            size_first follow (join ∷ rest),
            size_first join rest,
          )
    ]

pub returns-in_ok-list-in-Part-clause-counted : goal.returns-in_ok-list-in-Part-clause-counted
returns-in_ok-list-in-Part-clause-counted c dear most within =
    let table = c.args.context.now.table.now in
    let old : WalkMemory = c.args.walked.now in
    let rest : List WalkTask = last_first c.args.walked.now.tasks.items in
    let dues = due_first table c.args.task rest in
    let due_is = ap (task_due table) c.in-Part.is in
    let sizes = size_first c.args.task rest in
    let size_is = ap task_size c.in-Part.is in
    let same = ap (known_cost table) c.enter_part.ensures.visited in
    let less : tasks_due table (last_first c.enter_part.new.walked.tasks.items) + known_cost table old.visited
    ≤ tasks_due table (c.args.task ∷ rest) + known_cost table c.enter_part.new.walked.visited = elim c.in_ok-list-in-Part.ensures.list [
      | inl past ↦ omega (arith, dues, due_is, same, ap (tasks_due table) past.1.0)
      | inr into ↦
          let follow : WalkTask = Follow c.in-Part.state c.in-Part.at in
          let join : WalkTask = Join c.args.written in
          omega (arith, dues, due_is, same, ap (tasks_due table) into.0, due_first table follow (join ∷ rest), due_first table join rest)
    ] in
    omega (arith, no_more dear _ _ less)

pub returns-in_ok-list-in-Join-clause-walking : goal.returns-in_ok-list-in-Join-clause-walking
returns-in_ok-list-in-Join-clause-walking c view go tried true_of target h =
    let table = c.args.context.now.table.now in
    let text : List ℕ = looked_text c.args.text.now in
    let base : ℕ = c.args.memory.now.recall.base in
    let old : WalkMemory = c.args.walked.now in
    let rest : List WalkTask = last_first c.args.walked.now.tasks.items in
    let here = subst (λ (x : WalkTask). IsWalking go table.heads.items base old.lists.writes.items old.visited (x ∷ rest) c.args.written target) c.in-Join.is h in
    joined go table.heads.items base table (length text) old c.requires.walked c.join.new.self.writes.items c.in_ok-list-in-Join.ensures.extended rest
    c.args.written target c.in-Join.rest c.in_ok-list-in-Join.list c.in_ok-list-in-Join.ensures.list.1 here

pub returns-in-Keep-clause-walked : goal.returns-in-Keep-clause-walked
returns-in-Keep-clause-walked c =
    walked_kept c.args.context.now.table.now (length (looked_text c.args.text.now)) c.args.memory.now.recall.base c.args.walked.now c.requires.walked
    c.in-Keep.cell c.args.written (record { visited = c.store.new.self; lists = c.hold.new.self; tasks = c.args.walked.now.tasks }) c.store.ensures.stored
    c.store.ensures.rows c.hold.ensures.held c.hold.ensures.writes c.requires.written

pub returns-in-Keep-clause-progress : goal.returns-in-Keep-clause-progress
returns-in-Keep-clause-progress c =
    let table = c.args.context.now.table.now in
    let old : WalkMemory = c.args.walked.now in
    let rest : List WalkTask = last_first c.args.walked.now.tasks.items in
    let dues = due_first table c.args.task rest in
    let due_is = ap (task_due table) c.in-Keep.is in
    let sizes = size_first c.args.task rest in
    let size_is = ap task_size c.in-Keep.is in
    omega (arith, dues, due_is, sizes, size_is, c.store.ensures.stored.weight (cell_cost table))

pub returns-in-Keep-clause-counted : goal.returns-in-Keep-clause-counted
returns-in-Keep-clause-counted c dear most within =
    let table = c.args.context.now.table.now in
    let old : WalkMemory = c.args.walked.now in
    let rest : List WalkTask = last_first c.args.walked.now.tasks.items in
    let dues = due_first table c.args.task rest in
    let due_is = ap (task_due table) c.in-Keep.is in
    let sizes = size_first c.args.task rest in
    let size_is = ap task_size c.in-Keep.is in
    omega (
      arith,
      no_more dear (tasks_due table (c.args.task ∷ rest) + known_cost table c.store.new.self) (tasks_due table rest + known_cost table old.visited)
          (omega (arith, dues, due_is, c.store.ensures.stored.weight (cell_cost table))),
    )

pub returns-in_ok-list-in-Join-clause-walked : goal.returns-in_ok-list-in-Join-clause-walked
returns-in_ok-list-in-Join-clause-walked c =
    walked_lists c.args.context.now.table.now (length (looked_text c.args.text.now)) c.args.memory.now.recall.base c.args.walked.now c.requires.walked
    (record { visited = c.args.walked.now.visited; lists = c.join.new.self; tasks = c.args.walked.now.tasks }) refl c.in_ok-list-in-Join.ensures.extended
    c.in_ok-list-in-Join.ensures.held

pub returns-in_ok-list-in-Join-clause-progress : goal.returns-in_ok-list-in-Join-clause-progress
returns-in_ok-list-in-Join-clause-progress c =
    let table = c.args.context.now.table.now in
    let old : WalkMemory = c.args.walked.now in
    let rest : List WalkTask = last_first c.args.walked.now.tasks.items in
    let dues = due_first table c.args.task rest in
    let due_is = ap (task_due table) c.in-Join.is in
    let sizes = size_first c.args.task rest in
    let size_is = ap task_size c.in-Join.is in
    omega (arith, dues, due_is, sizes, size_is)

pub returns-in_ok-list-in-Join-clause-counted : goal.returns-in_ok-list-in-Join-clause-counted
returns-in_ok-list-in-Join-clause-counted c dear most within =
    let table = c.args.context.now.table.now in
    let old : WalkMemory = c.args.walked.now in
    let rest : List WalkTask = last_first c.args.walked.now.tasks.items in
    let dues = due_first table c.args.task rest in
    let due_is = ap (task_due table) c.in-Join.is in
    let sizes = size_first c.args.task rest in
    let size_is = ap task_size c.in-Join.is in
    let known = known_cost table old.visited in
    omega (arith, no_more dear (tasks_due table (c.args.task ∷ rest) + known) (tasks_due table rest + known) (omega (arith, dues, due_is)))

pub returns-in_ok-list-in-Start-clause-walking : goal.returns-in_ok-list-in-Start-clause-walking
returns-in_ok-list-in-Start-clause-walking c view go tried true_of target h =
    let table = c.args.context.now.table.now in
    let text : List ℕ = looked_text c.args.text.now in
    let base : ℕ = c.args.memory.now.recall.base in
    let old : WalkMemory = c.args.walked.now in
    let rest : List WalkTask = last_first c.args.walked.now.tasks.items in
    let here = subst (λ (x : WalkTask). IsWalking go table.heads.items base old.lists.writes.items old.visited (x ∷ rest) c.args.written target) c.in-Start.is h in
    started go table.heads.items base table (length text) old c.requires.walked c.add.new.self.writes.items c.in_ok-list-in-Start.ensures.extended rest
    c.args.written target c.in-Start.group _ c.in-Start.at c.in_ok-list-in-Start.list (omega (arith, c.saturating_mul.ensures)) c.in_ok-list-in-Start.ensures.list.1 here

pub returns-in_ok-list-in-Start-clause-walked : goal.returns-in_ok-list-in-Start-clause-walked
returns-in_ok-list-in-Start-clause-walked c =
    walked_lists c.args.context.now.table.now (length (looked_text c.args.text.now)) c.args.memory.now.recall.base c.args.walked.now c.requires.walked
    (record { visited = c.args.walked.now.visited; lists = c.add.new.self; tasks = c.args.walked.now.tasks }) refl c.in_ok-list-in-Start.ensures.extended
    c.in_ok-list-in-Start.ensures.held

pub returns-in_ok-list-in-Start-clause-progress : goal.returns-in_ok-list-in-Start-clause-progress
returns-in_ok-list-in-Start-clause-progress c =
    let table = c.args.context.now.table.now in
    let old : WalkMemory = c.args.walked.now in
    let rest : List WalkTask = last_first c.args.walked.now.tasks.items in
    let dues = due_first table c.args.task rest in
    let due_is = ap (task_due table) c.in-Start.is in
    let sizes = size_first c.args.task rest in
    let size_is = ap task_size c.in-Start.is in
    omega (arith, dues, due_is, sizes, size_is)

pub returns-in_ok-list-in-Start-clause-counted : goal.returns-in_ok-list-in-Start-clause-counted
returns-in_ok-list-in-Start-clause-counted c dear most within =
    let table = c.args.context.now.table.now in
    let old : WalkMemory = c.args.walked.now in
    let rest : List WalkTask = last_first c.args.walked.now.tasks.items in
    let dues = due_first table c.args.task rest in
    let due_is = ap (task_due table) c.in-Start.is in
    let sizes = size_first c.args.task rest in
    let size_is = ap task_size c.in-Start.is in
    let known = known_cost table old.visited in
    omega (arith, no_more dear (tasks_due table (c.args.task ∷ rest) + known) (tasks_due table rest + known) (omega (arith, dues, due_is)))

pub returns-in_ok-list-in-End-clause-walking : goal.returns-in_ok-list-in-End-clause-walking
returns-in_ok-list-in-End-clause-walking c view go tried true_of target h =
    let table = c.args.context.now.table.now in
    let text : List ℕ = looked_text c.args.text.now in
    let base : ℕ = c.args.memory.now.recall.base in
    let old : WalkMemory = c.args.walked.now in
    let rest : List WalkTask = last_first c.args.walked.now.tasks.items in
    let here = subst (λ (x : WalkTask). IsWalking go table.heads.items base old.lists.writes.items old.visited (x ∷ rest) c.args.written target) c.in-End.is h in
    ended go table.heads.items base table (length text) old c.requires.walked c.add-in-End.new.self.writes.items c.in_ok-list-in-End.ensures.extended rest
    c.args.written target c.in-End.group _ c.in-End.at c.in_ok-list-in-End.list (omega (arith, c.saturating_mul-in-End.ensures, c.saturating_add-slot.ensures)) c.in_ok-list-in-End.ensures.list.1 here

pub returns-in_ok-list-in-End-clause-walked : goal.returns-in_ok-list-in-End-clause-walked
returns-in_ok-list-in-End-clause-walked c =
    walked_lists c.args.context.now.table.now (length (looked_text c.args.text.now)) c.args.memory.now.recall.base c.args.walked.now c.requires.walked
    (record { visited = c.args.walked.now.visited; lists = c.add-in-End.new.self; tasks = c.args.walked.now.tasks }) refl c.in_ok-list-in-End.ensures.extended
    c.in_ok-list-in-End.ensures.held

pub returns-in_ok-list-in-End-clause-progress : goal.returns-in_ok-list-in-End-clause-progress
returns-in_ok-list-in-End-clause-progress c =
    let table = c.args.context.now.table.now in
    let old : WalkMemory = c.args.walked.now in
    let rest : List WalkTask = last_first c.args.walked.now.tasks.items in
    let dues = due_first table c.args.task rest in
    let due_is = ap (task_due table) c.in-End.is in
    let sizes = size_first c.args.task rest in
    let size_is = ap task_size c.in-End.is in
    omega (arith, dues, due_is, sizes, size_is)

pub returns-in_ok-list-in-End-clause-counted : goal.returns-in_ok-list-in-End-clause-counted
returns-in_ok-list-in-End-clause-counted c dear most within =
    let table = c.args.context.now.table.now in
    let old : WalkMemory = c.args.walked.now in
    let rest : List WalkTask = last_first c.args.walked.now.tasks.items in
    let dues = due_first table c.args.task rest in
    let due_is = ap (task_due table) c.in-End.is in
    let sizes = size_first c.args.task rest in
    let size_is = ap task_size c.in-End.is in
    let known = known_cost table old.visited in
    omega (arith, no_more dear (tasks_due table (c.args.task ∷ rest) + known) (tasks_due table rest + known) (omega (arith, dues, due_is)))
