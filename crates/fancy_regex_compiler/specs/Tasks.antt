-- What is left to emit: tasks on a stack, the next one at the end.
use Rattle.std.specs.Prelude.{◌≡◌, ℕ, zero, suc, ◌+◌, ◌-◌, ◌≤◌, ◌<◌, Bool, false, List, [], ◌∷◌, length, map, take, drop, slice_get, Option, Some, None, Result, IfOk, OnOk, IfErr}
use Rattle.fancy_regex_tree.specs.declared.expr.Expr.{Expr}
use Rattle.fancy_regex_tree.specs.Tree as tree
use Rattle.fancy_regex_tree.specs.Tree.{Tree, tree_of}
use Rattle.fancy_regex_desugar.specs.CorePatterns.{CorePattern}
use Rattle.fancy_regex_desugar.specs.Unfolded.{cat_all, alt_all, body_of}
use Rattle.fancy_regex_info.specs.Infos.{InfoTree, InfoTrees, known, no_infos, more_infos, infos, info_of}
use Rattle.fancy_regex_info.specs.declared.error.CompileError.{CompileError}
use Rattle.fancy_regex_info.specs.declared.info.Info.{Info}
use Rattle.fancy_regex_program.specs.Ops as op
use Rattle.fancy_regex_program.specs.Code.{slots_with, is_uncounted, loop_entry, loop_head}
use Rattle.fancy_regex_compiler.specs.Extents.{extent, IsFull}
use Rattle.fancy_regex_compiler.specs.Rooms.{room_with}
use Rattle.fancy_regex_compiler.specs.Known.{plain_row, info_call, info_whole}
use Rattle.fancy_regex_compiler.specs.Needs.{AreAmong, IsAllowedUnder, Notes}
use Rattle.fancy_regex_compiler.specs.Tails.{row_trees}
use Rattle.fancy_regex_compiler.specs.Refusals.{TreeContext, IsAnalyzed, IsExpandedPart, AreExpandedParts, IsExpandedBody, IsReasonWhere, IsMemoryOrTooComplex}
use Rattle.fancy_regex_compiler.specs.Writing.{Draft, draft_of, with_op, closed_draft, patched, ended, with_pat, layout_of, Wrote, infos_of, part, side}
use Rattle.fancy_regex_compiler.specs.declared.closing.Closing.{Closing}
use Rattle.fancy_regex_compiler.specs.declared.closing.Closing.TheVariants as closing
use Rattle.fancy_regex_compiler.specs.declared.emitter.CompileContext.{CompileContext}
use Rattle.fancy_regex_compiler.specs.declared.emitter.Emitter.{Emitter}
use Rattle.fancy_regex_compiler.specs.declared.emitter.Need.{Need}
use Rattle.fancy_regex_compiler.specs.declared.emitter.Scope.{Scope}
use Rattle.fancy_regex_compiler.specs.declared.program_builder.ProgramBuilder.{ProgramBuilder}
use Rattle.fancy_regex_compiler.specs.declared.task.Task.{Task}
use Rattle.fancy_regex_compiler.specs.declared.task.Task.TheVariants as task
use Rattle.fancy_regex_compiler.specs.declared.task.Tasks.{Tasks}
use Rattle.fancy_regex_compiler.specs.declared.task.Tasks.TheVariants as tasks
use Rattle.fancy_regex_compiler.specs.declared.task.Step.{Step}

-- the program so far, the first free slot, and the targets of the open calls
pub record Progress : Type 0 where
  pub draft : Draft
  pub slot : ℕ
  pub opened : List ℕ

abbrev pub progress : Emitter → ℕ → Progress
progress e slot = record { draft = draft_of e.body; slot = slot; opened = e.opened.items }

-- with the end of a construct after it
abbrev pub closed_by : Closing → Draft → Draft
closed_by (closing.Group saved_start start end) d = with_op (op.save end) (with_op (op.copy saved_start start) (closed_draft d))
closed_by (closing.PositiveLookAround slot) d = with_op (op.restore slot) (closed_draft d)
closed_by (closing.NegativeLookAround slot split first) d =
    let e = with_op (op.fail_negative slot) (closed_draft d) in
    patched split (op.split first (length e.ops)) e
closed_by (closing.AtomicGroup slot) d = with_op (op.end_atomic slot) (closed_draft d)
closed_by (closing.BoundedRepeat head bounds greedy slot) d =
    let e = with_op (op.jump head) (closed_draft d) in
    patched head (op.repeat greedy bounds.0 bounds.1 (length e.ops) slot) e
closed_by (closing.UnboundedRepeat head lo greedy slot check) d =
    let inside = closed_draft d in
    let e = with_op (op.jump head) inside in
    let uncounted = is_uncounted lo (head + 1) (drop (head + 1) inside.ops) in
    patched head (loop_head uncounted lo greedy (head + 1) (length e.ops) slot check) (patched (head - 1) (loop_entry uncounted lo head slot) e)
closed_by (closing.AbsentRepeater scan start limit) d =
    let e = with_op (op.absent_limit limit) (closed_draft d) in
    patched scan (op.absent_scan (length e.ops) limit) (with_op (op.absent_end start limit) e)
closed_by (closing.Alternatives jump) d =
    let e = closed_draft d in
    patched jump (op.jump (length e.ops)) e
closed_by (closing.Tail begin) d =
    let e = closed_draft d in
    ended begin (length e.ops) e

-- at most so many instructions
abbrev pub closing_room : Closing → ℕ
closing_room (closing.Alternatives jump) = 0
closing_room (closing.Tail begin) = 0
closing_room _ = 2

-- with the jump after a branch, where the split in front of it leads to this branch and past the jump
abbrev pub at_others : ℕ → ℕ → Draft → Draft
at_others split first d =
    let e = with_op (op.jump 0) (closed_draft d) in
    patched split (op.split first (length e.ops)) e

-- the tasks that a task leads to, as they stand on the stack
abbrev pub listed : Tasks → List Task
listed tasks.Nothing = []
listed (tasks.One t) = t ∷ []
listed (tasks.Two first then) = then ∷ first ∷ []

-- the targets that are open after a task, and after all tasks of a stack
abbrev pub opened_after : Task → List ℕ → List ℕ
opened_after task.EndCall opened = take (length opened - 1) opened
opened_after _ opened = opened

abbrev pub opened_after_all : List Task → List ℕ → List ℕ
opened_after_all [] opened = opened
opened_after_all (t ∷ ts) opened = opened_after t (opened_after_all ts opened)

module _ (context : CompileContext) where
  -- the patterns of nodes, by the targets that are open there
  abbrev pub node_pattern : Info → Bool → Scope → List ℕ → CorePattern
  node_pattern info steps_back scope opened = side steps_back (part context scope opened info)

  -- the same of a body of which only the first way matters, or with `for_any` only whether there is one
  abbrev pub body_pattern : Bool → Expr → Info → Scope → List ℕ → CorePattern
  body_pattern for_any body info scope opened = body_of for_any (tree_of body) (node_pattern info false scope opened)

  abbrev pub row_pattern : List Info → Scope → List ℕ → CorePattern
  row_pattern parts scope opened = cat_all (map (part context scope opened) parts)

  -- the plain end of a whole pattern
  abbrev pub tail_pattern : List Info → Scope → List ℕ → CorePattern
  tail_pattern parts scope opened = plain_row (row_trees parts) (map (part context scope opened) parts)

  -- a whole pattern
  abbrev pub whole_pattern : Info → Scope → List ℕ → CorePattern
  whole_pattern info scope opened = info_whole (info_call (infos_of context) scope.calls_left opened) (info_of info)

  abbrev pub branches_pattern : List Info → Bool → Scope → List ℕ → CorePattern
  branches_pattern branches steps_back scope opened = alt_all (map (λ x. side steps_back (part context scope opened x)) branches)

  -- with the program of a pattern after it
  abbrev pub past_pattern : CorePattern → Progress → Progress
  past_pattern p s = record {
    draft = with_pat (layout_of context) context.unicode context.whole p s.slot s.draft;
    slot = s.slot + slots_with (layout_of context) p;
    opened = s.opened;
  }

  abbrev pub past_closing : Closing → Progress → Progress
  past_closing c s = record { draft = closed_by c s.draft; slot = s.slot; opened = s.opened }

  -- with other branches after a first one
  abbrev pub past_others : ℕ → ℕ → CorePattern → Progress → Progress
  past_others split first p s =
      past_closing (closing.Alternatives (length (closed_draft s.draft).ops))
      (past_pattern p (record { draft = at_others split first s.draft; slot = s.slot; opened = s.opened }))

  -- what a task comes to
  abbrev pub past : Task → Progress → Progress
  past (task.Node info steps_back scope) s = past_pattern (node_pattern info.now steps_back scope s.opened) s
  past (task.Body body for_any info scope) s = past_pattern (body_pattern for_any body.now info.now scope s.opened) s
  past (task.Whole info scope) s = past_pattern (whole_pattern info.now scope s.opened) s
  past (task.Tail parts scope) s = past_pattern (tail_pattern parts.now scope s.opened) s
  past (task.Row parts scope) s = past_pattern (row_pattern parts.now scope s.opened) s
  past (task.Branches branches steps_back scope) s = past_pattern (branches_pattern branches.now steps_back scope s.opened) s
  past (task.Otherwise split first branches steps_back scope) s = past_others split first (branches_pattern branches.now steps_back scope s.opened) s
  past (task.Tested slot split first x y scope) s =
      past_others split first (node_pattern y.now false scope s.opened)
      (past_pattern (node_pattern x.now false scope s.opened)
      (record { draft = with_op (op.end_atomic slot) (closed_draft s.draft); slot = s.slot; opened = s.opened }))
  past (task.Close c) s = past_closing c s
  past task.EndCall s = record { draft = s.draft; slot = s.slot; opened = take (length s.opened - 1) s.opened }

  -- what a stack of tasks comes to
  abbrev pub past_all : List Task → Progress → Progress
  past_all [] s = s
  past_all (t ∷ ts) s = past t (past_all ts s)

  -- the room of a pattern, of a task, and of a stack of tasks
  abbrev pub room_of : CorePattern → ℕ
  room_of p = room_with (layout_of context) p

  abbrev pub task_room : Task → List ℕ → ℕ
  task_room (task.Node info steps_back scope) opened = room_of (node_pattern info.now steps_back scope opened)
  task_room (task.Body body for_any info scope) opened = room_of (body_pattern for_any body.now info.now scope opened)
  task_room (task.Whole info scope) opened = room_of (whole_pattern info.now scope opened)
  task_room (task.Tail parts scope) opened = room_of (tail_pattern parts.now scope opened)
  task_room (task.Row parts scope) opened = room_of (row_pattern parts.now scope opened)
  task_room (task.Branches branches steps_back scope) opened = room_of (branches_pattern branches.now steps_back scope opened)
  task_room (task.Otherwise split first branches steps_back scope) opened = 1 + room_of (branches_pattern branches.now steps_back scope opened)
  task_room (task.Tested slot split first x y scope) opened =
      2 + (room_of (node_pattern x.now false scope opened) + room_of (node_pattern y.now false scope opened))
  task_room (task.Close c) opened = closing_room c
  task_room task.EndCall opened = 0

  abbrev pub tasks_room : List Task → List ℕ → ℕ
  tasks_room [] opened = 0
  tasks_room (t ∷ ts) opened = task_room t (opened_after_all ts opened) + tasks_room ts opened

  -- The compiler lets the pattern through, where the match start may be set or not and these bodies are needed.
  abbrev pub IsLetThrough : Bool → CorePattern → List Need → Type 0
  IsLetThrough keeps p all = IsAllowedUnder (layout_of context) all context.unicode keeps p

  -- It lets through what is left to emit.
  abbrev pub IsAllowedTask : Task → List ℕ → List Need → Type 0
  IsAllowedTask (task.Node info steps_back scope) opened all = IsLetThrough scope.may_keep (node_pattern info.now steps_back scope opened) all
  IsAllowedTask (task.Body body for_any info scope) opened all = IsLetThrough scope.may_keep (body_pattern for_any body.now info.now scope opened) all
  IsAllowedTask (task.Whole info scope) opened all = IsLetThrough scope.may_keep (whole_pattern info.now scope opened) all
  IsAllowedTask (task.Tail parts scope) opened all = IsLetThrough scope.may_keep (tail_pattern parts.now scope opened) all
  IsAllowedTask (task.Row parts scope) opened all = IsLetThrough scope.may_keep (row_pattern parts.now scope opened) all
  IsAllowedTask (task.Branches branches steps_back scope) opened all = IsLetThrough scope.may_keep (branches_pattern branches.now steps_back scope opened) all
  IsAllowedTask (task.Otherwise split first branches steps_back scope) opened all =
      IsLetThrough scope.may_keep (branches_pattern branches.now steps_back scope opened) all
  IsAllowedTask (task.Tested slot split first x y scope) opened all =
      IsLetThrough scope.may_keep (node_pattern x.now false scope opened) all
      × IsLetThrough scope.may_keep (node_pattern y.now false scope opened) all
  IsAllowedTask (task.Close c) opened all = Unit {0}
  IsAllowedTask task.EndCall opened all = Unit {0}

  abbrev pub AreAllowedTasks : List Task → List ℕ → List Need → Type 0
  AreAllowedTasks [] opened all = Unit {0}
  AreAllowedTasks (t ∷ ts) opened all = IsAllowedTask t (opened_after_all ts opened) all × AreAllowedTasks ts opened all

-- the nodes of what is left to emit stand in a whole tree that is clear
abbrev pub IsExpandedTask : TreeContext → Task → Type 0
IsExpandedTask tree_context (task.Node info steps_back scope) = IsExpandedPart tree_context scope.may_keep scope.may_be_absent steps_back (info_of info.now)
IsExpandedTask tree_context (task.Body body for_any info scope) = IsExpandedBody tree_context scope.may_keep scope.may_be_absent false (tree_of body.now) (info_of info.now)
IsExpandedTask tree_context (task.Whole info scope) = IsExpandedPart tree_context scope.may_keep scope.may_be_absent false (info_of info.now)
IsExpandedTask tree_context (task.Tail parts scope) = AreExpandedParts tree_context scope.may_keep scope.may_be_absent false parts.now
IsExpandedTask tree_context (task.Row parts scope) = AreExpandedParts tree_context scope.may_keep scope.may_be_absent false parts.now
IsExpandedTask tree_context (task.Branches branches steps_back scope) = AreExpandedParts tree_context scope.may_keep scope.may_be_absent steps_back branches.now
IsExpandedTask tree_context (task.Otherwise split first branches steps_back scope) =
    AreExpandedParts tree_context scope.may_keep scope.may_be_absent steps_back branches.now
IsExpandedTask tree_context (task.Tested slot split first x y scope) =
    IsExpandedPart tree_context scope.may_keep scope.may_be_absent false (info_of x.now)
    × IsExpandedPart tree_context scope.may_keep scope.may_be_absent false (info_of y.now)
IsExpandedTask tree_context (task.Close c) = Unit {0}
IsExpandedTask tree_context task.EndCall = Unit {0}

abbrev pub AreExpandedTasks : TreeContext → List Task → Type 0
AreExpandedTasks tree_context [] = Unit {0}
AreExpandedTasks tree_context (t ∷ ts) = IsExpandedTask tree_context t × AreExpandedTasks tree_context ts

-- From the old program with its free slot, these tasks on the new one with its own come to the same as what was to be emitted:
-- they end there, are let through only where it is, fit into its room, and stand in a clear tree where it does; the old needs stay, and the
-- targets of the others stand there too.
pub record Leads (context : CompileContext) (old new : Emitter) (slot after : ℕ) (left : List Task) (end : Progress) (Allowed : List Need → Type 0) (most : ℕ)
    (Stand : TreeContext → Type 0) : Type 0 where
  pub ends : past_all context left (progress new after) ≡ end
  pub allowed : (all : List Need) → AreAmong new.needs.list.items all → AreAllowedTasks context left new.opened.items all → Allowed all
  pub fits : extent (draft_of new.body) + tasks_room context left new.opened.items ≤ extent (draft_of old.body) + most
  pub stands : (tree_context : TreeContext) → IsAnalyzed tree_context (infos_of context) → Stand tree_context → AreExpandedTasks tree_context left
  pub notes : Notes (infos_of context) old.needs.list.items new.needs.list.items Stand

-- A step towards a pattern.
abbrev pub LeadsTo : CompileContext → CorePattern → Bool → (TreeContext → Type 0) → Emitter → Emitter → ℕ → Step → Type 0
LeadsTo context p keeps Stand old new slot step =
    Leads context old new slot step.slot (listed step.tasks) (past_pattern context p (progress old slot)) (IsLetThrough context keeps p) (room_of context p) Stand

-- A step of a task.
abbrev pub LeadsOn : CompileContext → Task → Emitter → Emitter → ℕ → Step → Type 0
LeadsOn context t old new slot step =
    Leads context old new slot step.slot (listed step.tasks) (past context t (progress old slot)) (IsAllowedTask context t old.opened.items)
    (task_room context t old.opened.items) (λ tree_context. IsExpandedTask tree_context t)

-- How many steps are left at most, by how many a call takes.
abbrev pub called_work : (ℕ → ℕ) → Tree → ℕ
called_work call (tree.subroutine_call k) = call k
called_work call t = 0

unfoldable mutual
  pub node_work : (ℕ → ℕ) → InfoTree → ℕ
  node_work call (known f t xs) = 3 + (called_work call t + row_work call xs)

  pub row_work : (ℕ → ℕ) → InfoTrees → ℕ
  row_work call no_infos = 1
  row_work call (more_infos x xs) = 4 + (node_work call x + row_work call xs)

-- the body of a target, if there is one
abbrev pub body_work : (ℕ → ℕ) → Option InfoTree → ℕ
body_work call None = 0
body_work call (Some x) = node_work call x

-- a call of the target k, where so many more calls may open
unfoldable pub call_work : List InfoTree → ℕ → ℕ → ℕ
call_work groups zero k = 0
call_work groups (suc m) k = 2 + body_work (call_work groups m) (slice_get groups k)

abbrev pub info_work : List InfoTree → Scope → Info → ℕ
info_work groups scope i = node_work (call_work groups scope.calls_left) (info_of i)

abbrev pub infos_work : List InfoTree → Scope → List Info → ℕ
infos_work groups scope xs = row_work (call_work groups scope.calls_left) (infos (map info_of xs))

abbrev pub task_work : List InfoTree → Task → ℕ
task_work groups (task.Node info steps_back scope) = info_work groups scope info.now
task_work groups (task.Body body for_any info scope) = 1 + info_work groups scope info.now
task_work groups (task.Whole info scope) = 10 + info_work groups scope info.now
task_work groups (task.Tail parts scope) = 2 + infos_work groups scope parts.now
task_work groups (task.Row parts scope) = infos_work groups scope parts.now
task_work groups (task.Branches branches steps_back scope) = infos_work groups scope branches.now
task_work groups (task.Otherwise split first branches steps_back scope) = 2 + infos_work groups scope branches.now
task_work groups (task.Tested slot split first x y scope) = 8 + (info_work groups scope x.now + info_work groups scope y.now)
task_work groups (task.Close c) = 1
task_work groups task.EndCall = 1

abbrev pub tasks_work : List InfoTree → List Task → ℕ
tasks_work groups [] = 0
tasks_work groups (t ∷ ts) = task_work groups t + tasks_work groups ts

-- What emitting gives: a step that leads to the end and leaves less work, or an error. Too many instructions are an error only
-- where the cap is below what the program may need; any other error has a reason in the tree.
pub record Emits (context : CompileContext) (old new : Emitter) (slot : ℕ) (result : Result Step CompileError) (end : Progress) (Allowed : List Need → Type 0) (most : ℕ)
    (Stand : TreeContext → Type 0) (all_work : ℕ) : Type 0 where
  pub cap : new.body.cap ≡ old.body.cap
  pub leads : IfOk result (λ step. Leads context old new slot step.slot (listed step.tasks) end Allowed most Stand)
  pub work : IfOk result (λ step. tasks_work (infos_of context) (listed step.tasks) < all_work)
  pub full : IfErr result (IsFull old.body most)
  pub refused : IfErr result (IsReasonWhere context.unicode (infos_of context) Stand)

-- emitting what a task has of its own
abbrev pub EmitsTask : CompileContext → Task → Emitter → Emitter → ℕ → Result Step CompileError → Type 0
EmitsTask context t old new slot result =
    Emits context old new slot result (past context t (progress old slot)) (IsAllowedTask context t old.opened.items) (task_room context t old.opened.items)
    (λ tree_context. IsExpandedTask tree_context t) (task_work (infos_of context) t)

-- emitting the first part of a pattern; it may keep its start or not, stands so in the tree, and is so much work
abbrev pub EmitsPattern : CompileContext → CorePattern → Bool → (TreeContext → Type 0) → ℕ → Emitter → Emitter → ℕ → Result Step CompileError → Type 0
EmitsPattern context p keeps Stand all_work old new slot result =
    Emits context old new slot result (past_pattern context p (progress old slot)) (IsLetThrough context keeps p) (room_of context p) Stand all_work

-- What emitting all of a pattern gives: its program, which is let through where each body that it needs is, or an error. Too many
-- instructions are an error only where the cap is below what the program may need; any other error has a reason in the tree.
pub record EmitsAll (context : CompileContext) (p : CorePattern) (keeps : Bool) (Stand : TreeContext → Type 0) (old new : Emitter) (slot : ℕ)
    (result : Result ℕ CompileError) : Type 0 where
  pub cap : new.body.cap ≡ old.body.cap
  pub wrote : IfOk result (λ after. Wrote (layout_of context) context.unicode context.whole old new slot after p)
  pub allowed : IfOk result (λ after. (all : List Need) → AreAmong new.needs.list.items all → IsLetThrough context keeps p all)
  pub notes : IfOk result (λ after. Notes (infos_of context) old.needs.list.items new.needs.list.items Stand)
  pub full : IfErr result (IsFull old.body (room_of context p))
  pub refused : IfErr result (IsReasonWhere context.unicode (infos_of context) Stand)

-- Beginning a construct, whatever is fixed for the compilation: a step that leads to its pattern, after two instructions at most.
-- The only errors are want of memory and too many instructions.
pub record Begins (old new : Emitter) (slot : ℕ) (result : Result Step CompileError) (keeps : Bool) (pattern : CompileContext → CorePattern)
    (Stand : TreeContext → Type 0) (all_work : List InfoTree → ℕ) : Type 0 where
  pub cap : new.body.cap ≡ old.body.cap
  pub leads : IfOk result (λ step. (context : CompileContext) → LeadsTo context (pattern context) keeps Stand old new slot step)
  pub work : IfOk result (λ step. (groups : List InfoTree) → tasks_work groups (listed step.tasks) < all_work groups)
  pub full : IfErr result (IsFull old.body 2)
  pub refused : IfErr result IsMemoryOrTooComplex

-- Writing the end of a construct.
pub record Closes {A : Type 0} (c : Closing) (old new : ProgramBuilder) (result : Result A CompileError) : Type 0 where
  pub cap : new.cap ≡ old.cap
  pub draft : OnOk result (draft_of new ≡ closed_by c (draft_of old))
  pub full : IfErr result (IsFull old (closing_room c))
  pub refused : IfErr result IsMemoryOrTooComplex
