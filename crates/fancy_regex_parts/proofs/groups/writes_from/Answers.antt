use Rattle.std.proofs.Common.{◌≡◌, ◌∙◌, ◌+◌, ◌*◌, ℕ, List, [], ◌∷◌, length, sym, ap, subst, arith}
use Rattle.std.proofs.lemmas.List.{nil_from_length}
use Rattle.fancy_regex_class.specs.Looks.{looked_text}
use Rattle.fancy_regex_parts.specs.Ways.{ways_of, text_view}
use Rattle.fancy_regex_parts.specs.Tables.{due, known_cost}
use Rattle.fancy_regex_parts.specs.Walk.{IsTried, AllTasksWithin, AreWritten, IsWalking, dearest, last_first, tasks_due, work_left}
use Rattle.fancy_regex_parts.specs.declared.groups.WalkTask.{WalkTask}
use Rattle.fancy_regex_parts.specs.declared.groups.WalkTask.TheVariants.{Follow}
use Rattle.fancy_regex_parts.proofs.AskLemmas.{asks_on, leaves_none, leaves_on}
use Rattle.fancy_regex_parts.proofs.WalkLemmas.{begins, due_first, due_none, entry_cheap, has_ways, last_none, last_pushed, most_cheap, no_more, task_at}
use Rattle.fancy_regex_parts.proofs.groups.writes_from.Goals as goal

pub tasks-init : goal.tasks-init
tasks-init c =
    let table = c.args.context.now.table.now in
    let text : List ℕ = looked_text c.args.text.now in
    let base : ℕ = c.args.memory.now.recall.base in
    let entry : ℕ = c.args.context.now.entry in
    let cleared : c.clear.new.self.items ≡ [] = nil_from_length _ (omega arith) in
    let tasks : last_first c.push.new.tasks.items ≡ Follow entry c.args.start ∷ [] =
    c.in_ok-push.ensures ∙ ap (λ (l : List WalkTask). Follow entry c.args.start ∷ last_first l) cleared ∙ ap (λ (l : List WalkTask). Follow entry c.args.start ∷ l) last_none in
    let dues = ap (tasks_due table) tasks ∙ due_first table (Follow entry c.args.start) [] in
    record {
      within = subst (AllTasksWithin table text base (dearest table entry)) (sym tasks)
          (record { reached = c.requires.place; cheap = entry_cheap table entry }, tt);
      walked = record {
        width = c.requires.walked.width;
        base_is = c.requires.walked.base_is;
        rows = c.requires.walked.rows;
        lists = c.requires.walked.lists;
        held = c.requires.walked.held;
      };
      low = omega arith;
      walking = λ view go tried true_of known t is.
          subst (λ (l : List WalkTask). IsWalking go table.heads.items base c.args.walked.now.lists.writes.items c.args.walked.now.visited l 0 t.writes) (sym tasks)
          (begins go table.heads.items base c.args.walked.now.lists.writes.items c.args.walked.now.visited entry c.args.start t is
          (subst (λ (b : ℕ). AreWritten go table.heads.items b c.args.walked.now.lists.writes.items c.args.walked.now.visited []) c.requires.walked.base_is known));
      leaves = leaves_none c.requires.ready;
      counted = omega (
        arith,
        no_more (dearest table entry) (due table entry + known_cost table c.args.walked.now.visited)
            (tasks_due table (last_first c.push.new.tasks.items) + known_cost table c.args.walked.now.visited) (omega (arith, dues, due_none table)),
      );
    }

pub returns-in_default-clause-list : goal.returns-in_default-clause-list
returns-in_default-clause-list c view go tried true_of known t is =
    let table = c.args.context.now.table.now in
    let empty : c.tasks.walked.tasks.items ≡ [] = nil_from_length _ (omega (arith, c.in_default.ensures.cases.0, c.tasks.walked.tasks.ok.0)) in
    let none : last_first c.tasks.walked.tasks.items ≡ [] = ap last_first empty ∙ last_none in
    let walks = subst (λ (l : List WalkTask). IsWalking go table.heads.items c.args.memory.now.recall.base c.tasks.walked.lists.writes.items
    c.tasks.walked.visited l c.tasks.written t.writes) none (c.tasks.invariant.walking view go tried true_of known t is) in (
      walks.leads,
      subst (λ (b : ℕ). AreWritten go table.heads.items b c.tasks.walked.lists.writes.items c.tasks.walked.visited []) (sym c.tasks.invariant.walked.base_is) walks.cells,
    )

pub perform-requires-clause-ready : goal.perform-requires-clause-ready
perform-requires-clause-ready c = asks_on c.requires.ready c.tasks.invariant.leaves

pub perform-requires-clause-task : goal.perform-requires-clause-task
perform-requires-clause-task c =
    let table = c.args.context.now.table.now in
    let text : List ℕ = looked_text c.args.text.now in
    let base : ℕ = c.args.memory.now.recall.base in
    let first = subst (AllTasksWithin table text base (dearest table c.args.context.now.entry)) (ap last_first c.in-Some.ensures.items ∙ last_pushed c.pop.new.self.items c.in-Some.task)
    c.tasks.invariant.within in
    rw (c.tasks.invariant.leaves.looks.text, c.tasks.invariant.leaves.base)
    (task_at table text base (dearest table c.args.context.now.entry) c.in-Some.task first.0)

pub perform-requires-clause-walked : goal.perform-requires-clause-walked
perform-requires-clause-walked c =
    let w = c.tasks.invariant.walked in
    rw (c.tasks.invariant.leaves.looks.text, c.tasks.invariant.leaves.base)
    (record { width = w.width; base_is = w.base_is; rows = w.rows; lists = w.lists; held = w.held })

pub returns-in_err-written-clause-leaves : goal.returns-in_err-written-clause-leaves
returns-in_err-written-clause-leaves c = leaves_on c.tasks.invariant.leaves c.perform.ensures.leaves

pub tasks-preserved : goal.tasks-preserved
tasks-preserved c =
    let context = c.args.context.now in
    let table = context.table.now in
    let text : List ℕ = looked_text c.args.text.now in
    let base : ℕ = c.args.memory.now.recall.base in
    let dear : ℕ = dearest table context.entry in
    let invariant = c.tasks.invariant in
    let leaves = invariant.leaves in
    let first : last_first c.tasks.walked.tasks.items ≡ c.in-Some.task ∷ last_first c.pop.new.self.items =
    ap last_first c.in-Some.ensures.items ∙ last_pushed c.pop.new.self.items c.in-Some.task in
    let done = c.in_ok-written.ensures in
    let within = subst (AllTasksWithin table text base dear) first invariant.within in
    let here : AllTasksWithin table (looked_text c.tasks.text) c.tasks.memory.recall.base dear (c.in-Some.task ∷ last_first c.pop.new.self.items) =
    subst (λ (t : List ℕ). AllTasksWithin table t c.tasks.memory.recall.base dear (c.in-Some.task ∷ last_first c.pop.new.self.items)) (sym leaves.looks.text)
    (subst (λ (b : ℕ). AllTasksWithin table text b dear (c.in-Some.task ∷ last_first c.pop.new.self.items)) (sym leaves.base) within) in
    let dues = ap (tasks_due table) first in
    let counted = done.counted dear (most_cheap table context.entry) here in
    record {
      within = rw (leaves.looks.text, leaves.base) at (done.within dear (most_cheap table context.entry) here);
      walked = rw (leaves.looks.text, leaves.base) at done.walked;
      low = done.list;
      walking = λ view go tried true_of known t is.
          let there = subst (λ (x : List ℕ). IsTried context x view go) (sym leaves.looks.text) tried in
          let still = leaves.remembers (text_view view) (ways_of go) (has_ways context text view go tried) true_of in
          let walks = subst (λ (l : List WalkTask). IsWalking go table.heads.items base c.tasks.walked.lists.writes.items c.tasks.walked.visited l c.tasks.written t.writes) first
          (invariant.walking view go tried true_of known t is) in
          rw leaves.base at (done.walking view go there still t.writes (rw leaves.base walks));
      leaves = leaves_on leaves c.perform.ensures.leaves;
      counted = omega (arith, invariant.counted, counted, ap (λ (n : ℕ). dear * n) dues);
    }

pub tasks-smaller : goal.tasks-smaller
tasks-smaller c =
    let table = c.args.context.now.table.now in
    let text : List ℕ = looked_text c.args.text.now in
    let base : ℕ = c.args.memory.now.recall.base in
    let leaves = c.tasks.invariant.leaves in
    let less = rw (leaves.looks.text, leaves.base) at c.in_ok-written.ensures.progress in
    let was = ap (work_left table (length text) base c.tasks.walked.visited) (ap last_first c.in-Some.ensures.items ∙ last_pushed c.pop.new.self.items c.in-Some.task) in
    omega (arith, less, was)
