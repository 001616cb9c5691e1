-- Steps over a stack of tasks.
use Rattle.std.proofs.Common.{◌≡◌, ℕ, ◌+◌, ◌-◌, ◌<◌, ◌≤◌, Bool, false, List, [], ◌∷◌, ◌++◌, length, drop, set, Result, Ok, IfOk, IfErr, refl, sym, ap, ap₂, ◌∙◌, subst, arith, append_assoc, length-append}
use Rattle.std.proofs.Math.Seq.{set-append_left}
use Rattle.std.proofs.lemmas.List.{length-set}
use Rattle.std.proofs.lemmas.Result.{IfOk-weaker, IfErr-weaker}
use Rattle.std.specs.Borrow.{Bor}
use Rattle.fancy_regex_tree.specs.declared.expr.Expr.{Expr}
use Rattle.fancy_regex_class.specs.Classes.{in_class, folded}
use Rattle.fancy_regex_desugar.specs.CorePatterns.{CorePattern, cat, alt, back, conditional}
use Rattle.fancy_regex_info.specs.Infos.{InfoTree, info_of}
use Rattle.fancy_regex_info.specs.declared.error.CompileError.{CompileError}
use Rattle.fancy_regex_info.specs.declared.error.CompileError.TheVariants.{PatternTooComplex, Memory}
use Rattle.fancy_regex_info.specs.declared.info.Info.{Info}
use Rattle.fancy_regex_program.specs.Ops as op
use Rattle.fancy_regex_program.specs.Ops.{Op}
use Rattle.fancy_regex_program.specs.Code.{Layout, waits_with, flushed, slots_with, is_uncounted, loop_entry, loop_head, code_with}
use Rattle.fancy_regex_compiler.specs.Extents.{extent, IsFull}
use Rattle.fancy_regex_compiler.specs.Refusals.{TreeContext, IsAnalyzed, IsExpandedPart, IsReasonWhere, IsMemoryOrTooComplex}
use Rattle.fancy_regex_compiler.specs.Needs.{AreAmong, Notes}
use Rattle.fancy_regex_compiler.specs.Tasks.{Progress, progress, closed_by, closing_room, at_others, listed, opened_after, opened_after_all, node_pattern, body_pattern, row_pattern, whole_pattern, past_pattern, past, past_all, room_of, task_room, tasks_room, IsLetThrough, IsAllowedTask, AreAllowedTasks, IsExpandedTask, AreExpandedTasks, Leads, LeadsTo, LeadsOn, EmitsAll, tasks_work}
use Rattle.fancy_regex_compiler.specs.Writing.{Draft, draft_of, with_op, closed_draft, added, patched, with_pat, with_choice, layout_of, Wrote, infos_of}
use Rattle.fancy_regex_compiler.specs.declared.closing.Closing.{Closing}
use Rattle.fancy_regex_compiler.specs.declared.closing.Closing.TheVariants as ends
use Rattle.fancy_regex_compiler.specs.declared.emitter.CompileContext.{CompileContext}
use Rattle.fancy_regex_compiler.specs.declared.emitter.Emitter.{Emitter}
use Rattle.fancy_regex_compiler.specs.declared.emitter.Need.{Need}
use Rattle.fancy_regex_compiler.specs.declared.emitter.Scope.{Scope}
use Rattle.fancy_regex_compiler.specs.declared.program_builder.ProgramBuilder.{ProgramBuilder}
use Rattle.fancy_regex_compiler.specs.declared.task.Task.{Task}
use Rattle.fancy_regex_compiler.specs.declared.task.Task.TheVariants as task
use Rattle.fancy_regex_compiler.specs.declared.task.Tasks.TheVariants as tasks
use Rattle.fancy_regex_compiler.specs.declared.task.Step.{Step}
use Rattle.fancy_regex_compiler.proofs.Drafts.{same_draft, pat_cat, pat_back, length_with_op}
use Rattle.fancy_regex_compiler.proofs.Branches.{bare, pat_alt, choice_goes_on}
use Rattle.fancy_regex_compiler.proofs.EmitLemmas.{drew_conditional}
use Rattle.fancy_regex_compiler.proofs.NeedLemmas.{none_noted, same_noted, both_noted, notes_weaker, notes_after, among_before}
use Rattle.fancy_regex_compiler.proofs.RoomLemmas.{room_behind, extent_op, extent_closed, extent_patched, extent_ended}

pub same_progress : {d e : Draft} {s t : ℕ} {o p : List ℕ} → d ≡ e → s ≡ t → o ≡ p →
    ◌≡◌ {A = Progress} (record { draft = d; slot = s; opened = o }) (record { draft = e; slot = t; opened = p })
same_progress {d = d} {e = e} {s = s} {t = t} {o = o} {p = p} x y z =
    ap₂ (λ (a : Draft) (b : ℕ). let r : Progress = record { draft = a; slot = b; opened = o } in r) x y
    ∙ ap (λ (c : List ℕ). let r : Progress = record { draft = e; slot = t; opened = c } in r) z

-- the end of a construct takes at most its room
pub closing_fits : (c : Closing) (d : Draft) → extent (closed_by c d) ≤ extent d + closing_room c
closing_fits (ends.Group saved_start start end) d =
    let e = with_op (op.copy saved_start start) (closed_draft d) in
    omega (arith, extent_op (op.save end) e, extent_op (op.copy saved_start start) (closed_draft d), extent_closed d)
closing_fits (ends.PositiveLookAround slot) d = omega (arith, extent_op (op.restore slot) (closed_draft d), extent_closed d)
closing_fits (ends.NegativeLookAround slot split first) d =
    let e = with_op (op.fail_negative slot) (closed_draft d) in
    omega (arith, extent_patched split (op.split first (length e.ops)) e, extent_op (op.fail_negative slot) (closed_draft d), extent_closed d)
closing_fits (ends.AtomicGroup slot) d = omega (arith, extent_op (op.end_atomic slot) (closed_draft d), extent_closed d)
closing_fits (ends.BoundedRepeat head bounds greedy slot) d =
    let e = with_op (op.jump head) (closed_draft d) in
    omega (arith, extent_patched head (op.repeat greedy bounds.0 bounds.1 (length e.ops) slot) e, extent_op (op.jump head) (closed_draft d), extent_closed d)
closing_fits (ends.UnboundedRepeat head lo greedy slot check) d =
    let inside = closed_draft d in
    let e = with_op (op.jump head) inside in
    let uncounted = is_uncounted lo (head + 1) (drop (head + 1) inside.ops) in
    let entered = patched (head - 1) (loop_entry uncounted lo head slot) e in
    omega (
      arith,
      extent_patched head (loop_head uncounted lo greedy (head + 1) (length e.ops) slot check) entered,
      extent_patched (head - 1) (loop_entry uncounted lo head slot) e,
      extent_op (op.jump head) inside,
      extent_closed d,
    )
closing_fits (ends.AbsentRepeater scan start limit) d =
    let e = with_op (op.absent_limit limit) (closed_draft d) in
    let f = with_op (op.absent_end start limit) e in
    omega (
      arith,
      extent_patched scan (op.absent_scan (length e.ops) limit) f,
      extent_op (op.absent_end start limit) e,
      extent_op (op.absent_limit limit) (closed_draft d),
      extent_closed d,
    )
closing_fits (ends.Alternatives jump) d =
    omega (arith, extent_patched jump (op.jump (length (closed_draft d).ops)) (closed_draft d), extent_closed d)
closing_fits (ends.Tail begin) d = omega (arith, extent_ended begin (length (closed_draft d).ops) (closed_draft d), extent_closed d)

-- tasks above others
opened_after_both : (ts us : List Task) (o : List ℕ) → opened_after_all (ts ++ us) o ≡ opened_after_all ts (opened_after_all us o)
opened_after_both [] us o = refl
opened_after_both (t ∷ ts) us o = ap (opened_after t) (opened_after_both ts us o)

module _ (context : CompileContext) where
  past_one : (t : Task) (s : Progress) → (past context t s).opened ≡ opened_after t s.opened
  past_one (task.Node info steps_back scope) s = refl
  past_one (task.Body body for_any info scope) s = refl
  past_one (task.Whole info scope) s = refl
  past_one (task.Tail parts scope) s = refl
  past_one (task.Row parts scope) s = refl
  past_one (task.Branches branches steps_back scope) s = refl
  past_one (task.Otherwise split first branches steps_back scope) s = refl
  past_one (task.Tested slot split first x y scope) s = refl
  past_one (task.Close c) s = refl
  past_one task.EndCall s = refl

  past_opened : (ts : List Task) (s : Progress) → (past_all context ts s).opened ≡ opened_after_all ts s.opened
  past_opened [] s = refl
  past_opened (t ∷ ts) s = past_one t (past_all context ts s) ∙ ap (opened_after t) (past_opened ts s)

  past_both : (ts us : List Task) (s : Progress) → past_all context (ts ++ us) s ≡ past_all context ts (past_all context us s)
  past_both [] us s = refl
  past_both (t ∷ ts) us s = ap (past context t) (past_both ts us s)

  room_both : (ts us : List Task) (o : List ℕ) → tasks_room context (ts ++ us) o ≡ tasks_room context ts (opened_after_all us o) + tasks_room context us o
  room_both [] us o = omega arith
  room_both (t ∷ ts) us o =
      let here = ap (task_room context t) (opened_after_both ts us o) in
      omega (arith, here, room_both ts us o)

  module _ (all : List Need) where
    abbrev may : Task → List ℕ → Type 0
    may t o = IsAllowedTask context t o all

    abbrev each : List Task → List ℕ → Type 0
    each ts o = AreAllowedTasks context ts o all

    allowed_first : (ts us : List Task) (o : List ℕ) → each (ts ++ us) o → each ts (opened_after_all us o)
    allowed_first [] us o h = tt
    allowed_first (t ∷ ts) us o h = (subst (may t) (opened_after_both ts us o) h.0, allowed_first ts us o h.1)

    allowed_second : (ts us : List Task) (o : List ℕ) → each (ts ++ us) o → each us o
    allowed_second [] us o h = h
    allowed_second (t ∷ ts) us o h = allowed_second ts us o h.1

    allowed_both : (ts us : List Task) (o : List ℕ) → each ts (opened_after_all us o) → each us o → each (ts ++ us) o
    allowed_both [] us o h k = k
    allowed_both (t ∷ ts) us o h k = (subst (may t) (sym (opened_after_both ts us o)) h.0, allowed_both ts us o h.1 k)

pub expanded_first : (tree_context : TreeContext) (ts us : List Task) → AreExpandedTasks tree_context (ts ++ us) → AreExpandedTasks tree_context ts
expanded_first tree_context [] us h = tt
expanded_first tree_context (t ∷ ts) us h = (h.0, expanded_first tree_context ts us h.1)

pub expanded_second : (tree_context : TreeContext) (ts us : List Task) → AreExpandedTasks tree_context (ts ++ us) → AreExpandedTasks tree_context us
expanded_second tree_context [] us h = h
expanded_second tree_context (t ∷ ts) us h = expanded_second tree_context ts us h.1

expanded_both : (tree_context : TreeContext) (ts us : List Task) → AreExpandedTasks tree_context ts → AreExpandedTasks tree_context us → AreExpandedTasks tree_context (ts ++ us)
expanded_both tree_context [] us h k = k
expanded_both tree_context (t ∷ ts) us h k = (h.0, expanded_both tree_context ts us h.1 k)

pub work_both : (groups : List InfoTree) (ts us : List Task) → tasks_work groups (ts ++ us) ≡ tasks_work groups ts + tasks_work groups us
work_both groups [] us = omega arith
work_both groups (t ∷ ts) us = omega (arith, work_both groups ts us)

-- One task is taken, and those that it leads to are left in its place.
pub leads_on : (context : CompileContext) (old mid new : Emitter) (slot now : ℕ) (rest left : List Task) (t : Task) (step : Step) (end : Progress) (A : List Need → Type 0) (m : ℕ)
    (S : TreeContext → Type 0) → left ≡ rest ++ t ∷ [] → Leads context old mid slot now left end A m S → LeadsOn context t mid new now step →
    Leads context old new slot step.slot (rest ++ listed step.tasks) end A m S
leads_on context old mid new slot now rest left t step end A m S is h k =
    let ts = listed step.tasks in
    let was = progress mid now in
    let after = progress new step.slot in
    let opened : opened_after_all ts new.opened.items ≡ opened_after t mid.opened.items =
    sym (past_opened context ts after) ∙ ap (λ (s : Progress). s.opened) k.ends ∙ past_one context t was in
    record {
      ends = past_both context rest ts after ∙ ap (past_all context rest) k.ends ∙ sym (past_both context rest (t ∷ []) was)
          ∙ ap (λ xs. past_all context xs was) (sym is) ∙ h.ends;
      allowed = λ all among some.
          let first = allowed_first context all rest ts new.opened.items some in
          let second = allowed_second context all rest ts new.opened.items some in
          let this : IsAllowedTask context t mid.opened.items all = k.allowed all among second in
          let before = among_before (infos_of context) mid.needs.list.items new.needs.list.items all (λ tree_context. IsExpandedTask tree_context t) k.notes among in
          h.allowed all before (subst (λ xs. AreAllowedTasks context xs mid.opened.items all) (sym is)
          (allowed_both context all rest (t ∷ []) mid.opened.items (subst (λ o. AreAllowedTasks context rest o all) opened first) (this, tt)));
      fits =
          let rooms = ap (λ xs. tasks_room context xs mid.opened.items) is in
          let here = ap (tasks_room context rest) opened in
          omega (arith, h.fits, k.fits, rooms, here, room_both context rest ts new.opened.items, room_both context rest (t ∷ []) mid.opened.items);
      stands = λ tree_context s stand.
          let all = standing tree_context s stand in
          let last = expanded_second tree_context rest (t ∷ []) all in
          expanded_both tree_context rest ts (expanded_first tree_context rest (t ∷ []) all) (k.stands tree_context s last.0);
      notes = both_noted (infos_of context) old.needs.list.items mid.needs.list.items new.needs.list.items S (λ tree_context. IsExpandedTask tree_context t) h.notes
          (λ tree_context s stand. (expanded_second tree_context rest (t ∷ []) (standing tree_context s stand)).0) k.notes;
    }
  where
    standing : (tree_context : TreeContext) → IsAnalyzed tree_context (infos_of context) → S tree_context → AreExpandedTasks tree_context (rest ++ t ∷ [])
    standing tree_context s stand = subst (AreExpandedTasks tree_context) is (h.stands tree_context s stand)

-- the room of the next task
pub last_room : (context : CompileContext) (rest left : List Task) (t : Task) (o : List ℕ) → left ≡ rest ++ t ∷ [] → task_room context t o ≤ tasks_room context left o
last_room context rest left t o is =
    let rooms = ap (λ xs. tasks_room context xs o) is in
    omega (arith, rooms, room_both context rest (t ∷ []) o)

-- where all of a task is emitted that is a pattern
pub emits_all : (context : CompileContext) (p : CorePattern) (keeps : Bool) (S : TreeContext → Type 0) (old new : Emitter) (slot : ℕ) (r : Result ℕ CompileError) →
    new.body.cap ≡ old.body.cap → IfOk r (λ after. progress new after ≡ past_pattern context p (progress old slot)) →
    IfOk r (λ after. (all : List Need) → AreAmong new.needs.list.items all → IsLetThrough context keeps p all) →
    IfOk r (λ after. Notes (infos_of context) old.needs.list.items new.needs.list.items S) → IfErr r (IsFull old.body (room_of context p)) →
    IfErr r (IsReasonWhere context.unicode (infos_of context) S) → EmitsAll context p keeps S old new slot r
emits_all context p keeps S old new slot r cap ends allowed notes full refused = record {
  cap = cap;
  wrote = IfOk-weaker r (λ after. progress new after ≡ past_pattern context p (progress old slot))
      (λ after. Wrote (layout_of context) context.unicode context.whole old new slot after p)
      (λ after h. record {
        draft = ap (λ (s : Progress). s.draft) h;
        slots = ap (λ (s : Progress). s.slot) h;
        opened = ap (λ (s : Progress). s.opened) h;
      }) ends;
  allowed = allowed;
  notes = notes;
  full = full;
  refused = refused;
}

-- the same step, where the pattern has another name and stands where more is known
pub leads_as : (r : Result Step CompileError) (context : CompileContext) (old new : Emitter) (slot : ℕ) (keeps : Bool) (p q : CorePattern) (A B : TreeContext → Type 0) → q ≡ p →
    ((tree_context : TreeContext) → IsAnalyzed tree_context (infos_of context) → B tree_context → A tree_context) →
    IfOk r (LeadsTo context p keeps A old new slot) → IfOk r (LeadsTo context q keeps B old new slot)
leads_as r context old new slot keeps p q A B is f h =
    subst (λ x. IfOk r (LeadsTo context x keeps B old new slot)) (sym is)
    (IfOk-weaker r (LeadsTo context p keeps A old new slot) (LeadsTo context p keeps B old new slot)
    (λ step k. record {
      ends = k.ends;
      allowed = k.allowed;
      fits = k.fits;
      stands = λ tree_context s b. k.stands tree_context s (f tree_context s b);
      notes = notes_weaker (infos_of context) old.needs.list.items new.needs.list.items A B f k.notes;
    }) h)

pub leads_as_any : (r : Result Step CompileError) (context : CompileContext) (old new : Emitter) (slot : ℕ) (keeps : Bool) (p : CompileContext → CorePattern) (q : CorePattern)
    (A B : TreeContext → Type 0) → q ≡ p context →
    ((tree_context : TreeContext) → IsAnalyzed tree_context (infos_of context) → B tree_context → A tree_context) →
    IfOk r (λ step. (any : CompileContext) → LeadsTo any (p any) keeps A old new slot step) → IfOk r (LeadsTo context q keeps B old new slot)
leads_as_any r context old new slot keeps p q A B is f h =
    leads_as r context old new slot keeps (p context) q A B is f
    (IfOk-weaker r (λ step. (any : CompileContext) → LeadsTo any (p any) keeps A old new slot step) (LeadsTo context (p context) keeps A old new slot) (λ step k. k context) h)

-- the same, whatever is fixed for the compilation
pub leads_each : (r : Result Step CompileError) (old new : Emitter) (slot : ℕ) (keeps : Bool) (p q : CompileContext → CorePattern) (A B : TreeContext → Type 0) →
    ((any : CompileContext) → q any ≡ p any) → ((tree_context : TreeContext) → B tree_context → A tree_context) →
    IfOk r (λ step. (any : CompileContext) → LeadsTo any (p any) keeps A old new slot step) → IfOk r (λ step. (any : CompileContext) → LeadsTo any (q any) keeps B old new slot step)
leads_each r old new slot keeps p q A B is f h =
    IfOk-weaker r (λ step. (any : CompileContext) → LeadsTo any (p any) keeps A old new slot step) (λ step. (any : CompileContext) → LeadsTo any (q any) keeps B old new slot step)
    (λ step k any. leads_as (Ok step) any old new slot keeps (p any) (q any) A B (is any) (λ tree_context s b. f tree_context b) (k any)) h

-- a step to nothing more
pub leads_nowhere : (context : CompileContext) (old new : Emitter) (slot : ℕ) (keeps : Bool) (p : CorePattern) (S : TreeContext → Type 0) →
    Wrote (layout_of context) context.unicode context.whole old new slot slot p → extent (draft_of new.body) ≤ extent (draft_of old.body) + room_of context p →
    ((all : List Need) → AreAmong new.needs.list.items all → IsLetThrough context keeps p all) → Notes (infos_of context) old.needs.list.items new.needs.list.items S →
    Leads context old new slot slot [] (past_pattern context p (progress old slot)) (IsLetThrough context keeps p) (room_of context p) S
leads_nowhere context old new slot keeps p S h fits allowed notes = record {
  ends = same_progress h.draft h.slots h.opened;
  allowed = λ all among _. allowed all among;
  fits = omega (arith, fits);
  stands = λ tree_context s stand. tt;
  notes = notes;
}

-- the same, of the step
pub leads_nothing : (context : CompileContext) (old new : Emitter) (slot : ℕ) (keeps : Bool) (p : CorePattern) (S : TreeContext → Type 0) (step : Step) →
    step ≡ record { slot = slot; tasks = tasks.Nothing } → Wrote (layout_of context) context.unicode context.whole old new slot slot p →
    extent (draft_of new.body) ≤ extent (draft_of old.body) + room_of context p →
    ((all : List Need) → AreAmong new.needs.list.items all → IsLetThrough context keeps p all) → Notes (infos_of context) old.needs.list.items new.needs.list.items S →
    LeadsTo context p keeps S old new slot step
leads_nothing context old new slot keeps p S step is h fits allowed notes =
    subst (λ r. LeadsTo context p keeps S old new slot r) (sym is) (leads_nowhere context old new slot keeps p S h fits allowed notes)

-- a step to one task that is all of it
pub leads_one : (context : CompileContext) (e : Emitter) (slot : ℕ) (keeps : Bool) (p q : CorePattern) (t : Task) (S : TreeContext → Type 0) → q ≡ p →
    past context t (progress e slot) ≡ past_pattern context p (progress e slot) → ((all : List Need) → IsAllowedTask context t e.opened.items all → IsLetThrough context keeps p all) →
    opened_after t e.opened.items ≡ e.opened.items → task_room context t e.opened.items ≤ room_of context p →
    ((tree_context : TreeContext) → IsAnalyzed tree_context (infos_of context) → S tree_context → IsExpandedTask tree_context t) →
    Leads context e e slot slot (t ∷ []) (past_pattern context q (progress e slot)) (IsLetThrough context keeps q) (room_of context q) S
leads_one context e slot keeps p q t S is ends allowed opened fits stands =
    subst (λ x. Leads context e e slot slot (t ∷ []) (past_pattern context x (progress e slot)) (IsLetThrough context keeps x) (room_of context x) S) (sym is) (record {
      ends = ends;
      allowed = λ all among h. allowed all h.0;
      fits = omega (arith, fits);
      stands = λ tree_context s stand. (stands tree_context s stand, tt);
      notes = none_noted (infos_of context) e.needs.list.items S;
    })

-- the same, of the step
pub leads_one_step : (context : CompileContext) (e : Emitter) (slot : ℕ) (keeps : Bool) (p q : CorePattern) (t : Task) (S : TreeContext → Type 0) (step : Step) → q ≡ p →
    step ≡ record { slot = slot; tasks = tasks.One t } →
    past context t (progress e slot) ≡ past_pattern context p (progress e slot) → ((all : List Need) → IsAllowedTask context t e.opened.items all → IsLetThrough context keeps p all) →
    opened_after t e.opened.items ≡ e.opened.items → task_room context t e.opened.items ≤ room_of context p →
    ((tree_context : TreeContext) → IsAnalyzed tree_context (infos_of context) → S tree_context → IsExpandedTask tree_context t) → LeadsTo context q keeps S e e slot step
leads_one_step context e slot keeps p q t S step is step_is ends allowed opened fits stands =
    subst (λ r. LeadsTo context q keeps S e e slot r) (sym step_is) (leads_one context e slot keeps p q t S is ends allowed opened fits stands)

-- where all is left
pub leads_begin : (context : CompileContext) (e : Emitter) (slot : ℕ) (t : Task) (left : List Task) → left ≡ t ∷ [] →
    Leads context e e slot slot left (past context t (progress e slot)) (IsAllowedTask context t e.opened.items) (task_room context t e.opened.items)
    (λ tree_context. IsExpandedTask tree_context t)
leads_begin context e slot t left is =
    let S = λ (tree_context : TreeContext). IsExpandedTask tree_context t in
    subst (λ xs. Leads context e e slot slot xs (past context t (progress e slot)) (IsAllowedTask context t e.opened.items) (task_room context t e.opened.items) S) (sym is)
    (record {
      ends = refl;
      allowed = λ all among h. h.0;
      fits = omega arith;
      stands = λ tree_context s stand. (stand, tt);
      notes = none_noted (infos_of context) e.needs.list.items S;
    })

-- the same step, from as far back as it is long
pub leads_back : (r : Result Step CompileError) (context : CompileContext) (old mid new : Emitter) (slot : ℕ) (keeps : Bool) (n : ℕ) (p q : CorePattern) (A B : TreeContext → Type 0) →
    q ≡ cat (back n) p → draft_of mid.body ≡ added (op.go_back n) (draft_of old.body) → mid.opened.items ≡ old.opened.items → mid.needs.list.items ≡ old.needs.list.items →
    extent (draft_of mid.body) ≡ extent (draft_of old.body) + 1 →
    ((tree_context : TreeContext) → IsAnalyzed tree_context (infos_of context) → B tree_context → A tree_context) →
    IfOk r (LeadsTo context p keeps A mid new slot) → IfOk r (LeadsTo context q keeps B old new slot)
leads_back r context old mid new slot keeps n p q A B is drew opened needs long f h =
    let layout = layout_of context in
    let u = context.unicode in
    let w = context.whole in
    let none : slot ≡ slot + 0 = omega arith in
    let drawn : with_pat layout u w p slot (draft_of mid.body) ≡ with_pat layout u w (cat (back n) p) slot (draft_of old.body) =
    ap₂ (λ s d. with_pat layout u w p s d) none (drew ∙ sym (pat_back layout u w n slot (draft_of old.body))) ∙ sym (pat_cat layout u w (back n) p slot (draft_of old.body)) in
    subst (λ x. IfOk r (LeadsTo context x keeps B old new slot)) (sym is)
    (IfOk-weaker r (LeadsTo context p keeps A mid new slot) (LeadsTo context (cat (back n) p) keeps B old new slot)
    (λ step k. record {
      ends = k.ends ∙ same_progress drawn (omega arith) opened;
      allowed = λ all among some. (tt, k.allowed all among some);
      fits = omega (arith, k.fits, long, room_behind layout n p);
      stands = λ tree_context s b. k.stands tree_context s (f tree_context s b);
      notes = notes_after (infos_of context) old.needs.list.items mid.needs.list.items new.needs.list.items B needs
          (notes_weaker (infos_of context) mid.needs.list.items new.needs.list.items A B f k.notes);
    }) h)

-- a step to a part of a construct, and to its end
pub leads_enclosed_node : (context : CompileContext) (old new : Emitter) (slot : ℕ) (keeps : Bool) (p : CorePattern) (S : TreeContext → Type 0) (step : Step) (inside : ℕ) (c : Closing)
    (info : Bor Info) (steps_back : Bool) (scope : Scope) → listed step.tasks ≡ task.Close c ∷ task.Node info steps_back scope ∷ [] → step.slot ≡ inside →
    closed_by c (with_pat (layout_of context) context.unicode context.whole (node_pattern context info.now steps_back scope new.opened.items) inside (draft_of new.body))
    ≡ with_pat (layout_of context) context.unicode context.whole p slot (draft_of old.body) →
    inside + slots_with (layout_of context) (node_pattern context info.now steps_back scope new.opened.items) ≡ slot + slots_with (layout_of context) p → new.opened.items ≡ old.opened.items → new.needs.list.items ≡ old.needs.list.items →
    ((all : List Need) → IsLetThrough context scope.may_keep (node_pattern context info.now steps_back scope new.opened.items) all → IsLetThrough context keeps p all) →
    extent (draft_of new.body) + (closing_room c + room_of context (node_pattern context info.now steps_back scope new.opened.items)) ≤ extent (draft_of old.body) + room_of context p →
    ((tree_context : TreeContext) → IsAnalyzed tree_context (infos_of context) → S tree_context → IsExpandedTask tree_context (task.Node info steps_back scope)) →
    LeadsTo context p keeps S old new slot step
leads_enclosed_node context old new slot keeps p S step inside c info steps_back scope is at drew slots opened needs allowed fits stands =
    let end = past_pattern context p (progress old slot) in
    subst (λ k. Leads context old new slot k (listed step.tasks) end (IsLetThrough context keeps p) (room_of context p) S) (sym at)
    (subst (λ ts. Leads context old new slot inside ts end (IsLetThrough context keeps p) (room_of context p) S) (sym is) (record {
      ends = same_progress drew slots opened;
      allowed = λ all among h. allowed all h.1.0;
      fits = omega (arith, fits);
      stands = λ tree_context s stand. (tt, (stands tree_context s stand, tt));
      notes = same_noted (infos_of context) old.needs.list.items new.needs.list.items S needs;
    }))

-- the same of a body of which only the first way counts
pub leads_enclosed_body : (context : CompileContext) (old new : Emitter) (slot : ℕ) (keeps : Bool) (p : CorePattern) (S : TreeContext → Type 0) (step : Step) (inside : ℕ) (c : Closing)
    (for_any : Bool) (body : Bor Expr) (info : Bor Info) (scope : Scope) → listed step.tasks ≡ task.Close c ∷ task.Body body for_any info scope ∷ [] → step.slot ≡ inside →
    closed_by c (with_pat (layout_of context) context.unicode context.whole (body_pattern context for_any body.now info.now scope new.opened.items) inside (draft_of new.body))
    ≡ with_pat (layout_of context) context.unicode context.whole p slot (draft_of old.body) →
    inside + slots_with (layout_of context) (body_pattern context for_any body.now info.now scope new.opened.items) ≡ slot + slots_with (layout_of context) p → new.opened.items ≡ old.opened.items → new.needs.list.items ≡ old.needs.list.items →
    ((all : List Need) → IsLetThrough context scope.may_keep (body_pattern context for_any body.now info.now scope new.opened.items) all → IsLetThrough context keeps p all) →
    extent (draft_of new.body) + (closing_room c + room_of context (body_pattern context for_any body.now info.now scope new.opened.items)) ≤ extent (draft_of old.body) + room_of context p →
    ((tree_context : TreeContext) → IsAnalyzed tree_context (infos_of context) → S tree_context → IsExpandedTask tree_context (task.Body body for_any info scope)) →
    LeadsTo context p keeps S old new slot step
leads_enclosed_body context old new slot keeps p S step inside c for_any body info scope is at drew slots opened needs allowed fits stands =
    let end = past_pattern context p (progress old slot) in
    subst (λ k. Leads context old new slot k (listed step.tasks) end (IsLetThrough context keeps p) (room_of context p) S) (sym at)
    (subst (λ ts. Leads context old new slot inside ts end (IsLetThrough context keeps p) (room_of context p) S) (sym is) (record {
      ends = same_progress drew slots opened;
      allowed = λ all among h. allowed all h.1.0;
      fits = omega (arith, fits);
      stands = λ tree_context s stand. (tt, (stands tree_context s stand, tt));
      notes = same_noted (infos_of context) old.needs.list.items new.needs.list.items S needs;
    }))

-- the same step, where a task in it has another name
pub with_node : (step : Step) (slot : ℕ) (t u v : Task) → step ≡ record { slot = slot; tasks = tasks.Two t u } → t ≡ v → step ≡ record { slot = slot; tasks = tasks.Two v u }
with_node step slot t u v is same = is ∙ ap (λ (r : Task). let s : Step = record { slot = slot; tasks = tasks.Two r u } in s) same

-- an error for want of memory or of room
pub want_is_reason : (u : Bool) (gs : List InfoTree) (S : TreeContext → Type 0) (e : CompileError) → IsMemoryOrTooComplex e → IsReasonWhere u gs S e
want_is_reason u gs S PatternTooComplex h tree_context s stand = tt
want_is_reason u gs S Memory h tree_context s stand = tt
want_is_reason u gs S _ h tree_context s stand = absurd h

pub reason_for_want : {T : Type 0} (r : Result T CompileError) (u : Bool) (gs : List InfoTree) (S : TreeContext → Type 0) → IfErr r IsMemoryOrTooComplex → IfErr r (IsReasonWhere u gs S)
reason_for_want r u gs S h = IfErr-weaker r IsMemoryOrTooComplex (IsReasonWhere u gs S) (want_is_reason u gs S) h

-- more room than was asked
pub full_within : {T : Type 0} (r : Result T CompileError) (old : ProgramBuilder) (m n : ℕ) → m ≤ n → IfErr r (IsFull old m) → IfErr r (IsFull old n)
full_within r old m n less h = IfErr-weaker r (IsFull old m) (IsFull old n) (λ e k too. let lt = k too in omega (arith, lt, less)) h

-- A row is its first part and the others.
pub row_step : (context : CompileContext) (parts rest : List Info) (x : Info) (scope : Scope) (s : Progress) → parts ≡ x ∷ rest →
    past_pattern context (row_pattern context rest scope s.opened) (past_pattern context (node_pattern context x false scope s.opened) s)
    ≡ past_pattern context (row_pattern context parts scope s.opened) s
row_step context parts rest x scope s is =
    let a = node_pattern context x false scope s.opened in
    let b = row_pattern context rest scope s.opened in
    same_progress (sym (pat_cat (layout_of context) context.unicode context.whole a b s.slot s.draft)) (omega arith) refl
    ∙ ap (λ xs. past_pattern context (row_pattern context xs scope s.opened) s) (sym is)

module _ (layout : Layout) (u w : Bool) where
  abbrev P : CorePattern → ℕ → Draft → Draft
  P = with_pat layout u w

  abbrev C : CorePattern → List ℕ → ℕ → ℕ → List Op
  C = code_with (in_class u) (folded u) w layout

  -- What is patched later could have been patched before more was written.
  patch_early : (at : ℕ) (o : Op) (xs : List Op) (q : CorePattern) (slot : ℕ) → at < length xs →
      patched at o (closed_draft (P q slot (bare layout u w xs))) ≡ closed_draft (P q slot (patched at o (bare layout u w xs)))
  unfolding with_pat closed_draft patched
  patch_early at o xs q slot below =
      let g = flushed (waits_with layout q []) in
      let c = C q [] (length xs) slot in
      same_draft
      (ap (λ l. set l at o) (append_assoc xs c g)
      ∙ set-append_left xs (c ++ g) at o below
      ∙ sym (append_assoc (set xs at o) c g)
      ∙ ap (λ k. (set xs at o ++ C q [] k slot) ++ g) (sym (length-set xs at o)))
      refl

  bare_is : (d : Draft) → d.text ≡ [] → d ≡ bare layout u w d.ops
  bare_is d e = same_draft refl e

  -- the same of any draft after which nothing waits
  patch_before : (at : ℕ) (o : Op) (d : Draft) (q : CorePattern) (slot : ℕ) → d.text ≡ [] → at < length d.ops →
      patched at o (closed_draft (P q slot d)) ≡ closed_draft (P q slot (patched at o d))
  patch_before at o d q slot none below =
      let is = bare_is d none in
      ap (λ e. patched at o (closed_draft (P q slot e))) is ∙ patch_early at o d.ops q slot below
      ∙ ap (λ e. closed_draft (P q slot (patched at o e))) (sym is)

  length_patched : (at : ℕ) (o : Op) (d : Draft) → length (patched at o d).ops ≡ length d.ops
  unfolding patched
  length_patched at o d = length-set d.ops at o

  length_pat : (p : CorePattern) (slot : ℕ) (d : Draft) → length d.ops ≤ length (P p slot d).ops
  unfolding with_pat
  length_pat p slot d = omega (arith, length-append d.ops (C p d.text (length d.ops) slot))

  length_closed : (d : Draft) → length d.ops ≤ length (closed_draft d).ops
  unfolding closed_draft
  length_closed d = omega (arith, length-append d.ops (flushed d.text))

  text_closed : (d : Draft) → (closed_draft d).text ≡ []
  unfolding closed_draft
  text_closed d = refl

  text_op : (o : Op) (d : Draft) → (with_op o d).text ≡ d.text
  unfolding with_op
  text_op o d = refl

  choice_text : (p : CorePattern) (k : ℕ) (d : Draft) → (with_choice layout u w 0 p k d).text ≡ []
  unfolding with_op closed_draft patched
  choice_text p k d = refl

  -- Two alternatives, by the drafts between them.
  pub drew_alternatives : (a b : CorePattern) (slot split first : ℕ) (d0 d1 d2 : Draft) → d1 ≡ closed_draft d0 → split ≡ length d1.ops → d2 ≡ with_op (op.split 0 0) d1 →
      first ≡ length d2.ops →
      closed_by (ends.Alternatives (length (closed_draft (P a slot d2)).ops)) (P b (slot + slots_with layout a) (at_others split first (P a slot d2))) ≡ P (alt a b) slot d0
  drew_alternatives a b slot split first d0 d1 d2 e1 es e2 ef =
      let s = slot + slots_with layout a in
      let start = closed_draft d0 in
      let xs = start.ops in
      let begun = with_op (op.split 0 0) start in
      let shut = closed_draft (P a slot begun) in
      let jump = length shut.ops in
      let m = with_choice layout u w 0 a slot start in
      let f = closed_draft (P b s m) in
      let end = length f.ops in
      let is : start ≡ bare layout u w xs = bare_is start (text_closed d0) in
      let long : length m.ops ≡ jump + 1 = length_patched (length xs) _ (with_op (op.jump 0) shut) ∙ length_with_op (op.jump 0) shut in
      let none : m.text ≡ [] = choice_text a slot start in
      let early = patch_before jump (op.jump end) m b s none (omega (arith, long)) in
      let there : jump + 1 ≡ length (with_choice layout u w 0 a slot (bare layout u w xs)).ops = sym long ∙ ap (λ (e : Draft). length (with_choice layout u w 0 a slot e).ops) is in
      let right : patched jump (op.jump end) m ≡ with_choice layout u w end a slot start =
      ap (λ e. patched jump (op.jump end) (with_choice layout u w 0 a slot e)) is
      ∙ choice_goes_on layout u w end [] xs a slot jump tt there
      ∙ ap (with_choice layout u w end a slot) (sym is) in
      let whole : patched jump (op.jump end) f ≡ closed_draft (P b s (with_choice layout u w end a slot start)) = early ∙ ap (λ e. closed_draft (P b s e)) right in
      let last : end ≡ length (closed_draft (P b s (with_choice layout u w end a slot start))).ops =
      sym (length_patched jump (op.jump end) f) ∙ ap (λ (e : Draft). length e.ops) whole in
      rw (ef, es, e2, e1) (whole ∙ sym (pat_alt layout u w a b slot end d0 last))

  -- a conditional, by the drafts between its parts
  pub drew_tested : (c a b : CorePattern) (slot inside split first : ℕ) (d0 d1 d2 : Draft) → inside ≡ slot + 1 → d1 ≡ added (op.begin_atomic slot) d0 → split ≡ length d1.ops →
      d2 ≡ with_op (op.split 0 0) d1 → first ≡ length d2.ops →
      (let d4 = with_op (op.end_atomic slot) (closed_draft (P c inside d2)) in
      let e = P a (inside + slots_with layout c) d4 in
      closed_by (ends.Alternatives (length (closed_draft e).ops)) (P b (inside + slots_with layout c + slots_with layout a) (at_others split first e)) ≡ P (conditional c a b) slot d0)
  drew_tested c a b slot inside split first d0 d1 d2 ei e1 es e2 ef =
      let d3 = closed_draft (P c inside d2) in
      let d4 = with_op (op.end_atomic slot) d3 in
      let after_c = inside + slots_with layout c in
      let after_a = after_c + slots_with layout a in
      let e = P a after_c d4 in
      let d5 = closed_draft e in
      let d6 = with_op (op.jump 0) d5 in
      let d7 = closed_draft (P b after_a d6) in
      let there = length d5.ops in
      let second = length d6.ops in
      let d8 = patched split (op.split first second) d7 in
      let m = at_others split first e in
      let below : split < length d6.ops =
      omega (
        arith,
        es,
        ap (λ (x : Draft). length x.ops) e2,
        length_with_op (op.split 0 0) d1,
        length_pat c inside d2,
        length_closed (P c inside d2),
        length_with_op (op.end_atomic slot) d3,
        length_pat a after_c d4,
        length_closed e,
        length_with_op (op.jump 0) d5,
      ) in
      let early : d8 ≡ closed_draft (P b after_a m) = patch_before split (op.split first second) d6 b after_a (text_op (op.jump 0) d5 ∙ text_closed e) below in
      let end : length (closed_draft (P b after_a m)).ops ≡ length d7.ops = ap (λ (x : Draft). length x.ops) (sym early) ∙ length_patched split (op.split first second) d7 in
      ap₂ (λ k x. patched there (op.jump k) x) end (sym early)
      ∙ drew_conditional layout u w c a b slot inside after_c after_a split first there second (length d7.ops) d0 d1 d2 d3 d4 d5 d6 d7 d8 (patched there (op.jump (length d7.ops)) d8)
      ei e1 es e2 ef refl refl refl refl refl refl refl refl refl refl refl refl
