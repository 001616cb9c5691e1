-- Steps to rows, branches, conditionals and calls.
use Rattle.std.proofs.Common.{◌≡◌, ℕ, zero, suc, ◌+◌, ◌-◌, ◌≤◌, ◌<◌, Bool, false, List, [], ◌∷◌, ◌++◌, length, map, take, None, Some, refl, sym, ap, ap₂, ◌∙◌, subst, arith, length-append}
use Rattle.std.proofs.Math.Seq.{take-append_seam}
use Rattle.std.specs.Prelude.{slice_get, unwrap_or}
use Rattle.std.proofs.lemmas.Option.{none-some}
use Rattle.std.specs.Borrow.{Bor}
use Rattle.fancy_regex_tree.specs.Tree.{tree_of}
use Rattle.fancy_regex_tree.specs.declared.expr.Expr.{Expr}
use Rattle.fancy_regex_meaning.specs.Ways.{is_at_call_limit}
use Rattle.fancy_regex_desugar.specs.CorePatterns.{CorePattern, nothing, fail, cat, alt, conditional, called}
use Rattle.fancy_regex_desugar.specs.Unfolded.{alt_all}
use Rattle.fancy_regex_info.specs.Infos.{info_of}
use Rattle.fancy_regex_info.specs.declared.info.Info.{Info}
use Rattle.fancy_regex_program.specs.Ops as op
use Rattle.fancy_regex_program.specs.Ops.{Place}
use Rattle.fancy_regex_program.specs.Code.{Layout, slots_with}
use Rattle.fancy_regex_compiler.specs.Extents.{extent}
use Rattle.fancy_regex_compiler.specs.Rooms.{room_with}
use Rattle.fancy_regex_compiler.specs.Known.{info_written, info_call}
use Rattle.fancy_regex_compiler.specs.Refusals.{TreeContext, IsExpandedPart, AreExpandedParts, IsExpandedConditional, IsExpandedTarget}
use Rattle.fancy_regex_compiler.specs.Needs.{IsNoted}
use Rattle.fancy_regex_compiler.specs.Tasks.{Progress, progress, closed_by, closing_room, at_others, listed, node_pattern, body_pattern, row_pattern, branches_pattern, past_pattern, past_closing, past_others, past, room_of, IsLetThrough, Leads, LeadsTo}
use Rattle.fancy_regex_compiler.specs.Writing.{Draft, draft_of, with_op, closed_draft, added, patched, with_pat, layout_of, infos_of}
use Rattle.fancy_regex_compiler.specs.declared.closing.Closing.{Closing}
use Rattle.fancy_regex_compiler.specs.declared.closing.Closing.TheVariants as ends
use Rattle.fancy_regex_compiler.specs.declared.emitter.CompileContext.{CompileContext}
use Rattle.fancy_regex_compiler.specs.declared.emitter.Emitter.{Emitter}
use Rattle.fancy_regex_compiler.specs.declared.emitter.Need.{Need}
use Rattle.fancy_regex_compiler.specs.declared.needs.Needs.{Needs}
use Rattle.fancy_regex_compiler.specs.declared.emitter.Scope.{Scope}
use Rattle.fancy_regex_compiler.specs.declared.program_builder.ProgramBuilder.{ProgramBuilder}
use Rattle.fancy_regex_compiler.specs.declared.task.Task.TheVariants as task
use Rattle.fancy_regex_compiler.specs.declared.task.Tasks.TheVariants as tasks
use Rattle.fancy_regex_compiler.specs.declared.task.Step.{Step}
use Rattle.fancy_regex_compiler.proofs.Drafts.{pat_called, slots_called}
use Rattle.fancy_regex_compiler.proofs.NeedLemmas.{none_noted, same_noted, need_noted, kept_allowed, called_allowed}
use Rattle.fancy_regex_compiler.proofs.RoomLemmas.{room_alt, room_fail, room_conditional, room_called, room_stays, call_is}
use Rattle.fancy_regex_compiler.proofs.RowLemmas.{wrote_nothing, wrote_fail, wrote_no_call, wrote_kept_call}
use Rattle.fancy_regex_compiler.proofs.StepLemmas.{same_progress, closing_fits, row_step, leads_nowhere, leads_one, drew_alternatives, drew_tested}

-- the first of a row, and the others
pub expanded_rest : (tree_context : TreeContext) (keeps absents steps_back : Bool) (xs rest : List Info) (x : Info) → xs ≡ x ∷ rest →
    AreExpandedParts tree_context keeps absents steps_back xs →
    IsExpandedPart tree_context keeps absents steps_back (info_of x) × AreExpandedParts tree_context keeps absents steps_back rest
expanded_rest tree_context keeps absents steps_back xs rest x is h =
    let all : AreExpandedParts tree_context keeps absents steps_back (x ∷ rest) = subst (AreExpandedParts tree_context keeps absents steps_back) is h in
    (all 0 x refl, λ k y at. all (suc k) y at)

room_row : (layout : Layout) (a b : CorePattern) → room_with layout (cat a b) ≡ room_with layout a + room_with layout b
unfolding room_with
room_row layout a b = refl

-- a row with a first part
pub leads_row : (context : CompileContext) (e : Emitter) (slot : ℕ) (parts : List Info) (scope : Scope) (x : Bor Info) (rest : Bor (List Info)) → parts ≡ x.now ∷ rest.now →
    Leads context e e slot slot (task.Row rest scope ∷ task.Node x false scope ∷ []) (past_pattern context (row_pattern context parts scope e.opened.items) (progress e slot))
    (IsLetThrough context scope.may_keep (row_pattern context parts scope e.opened.items)) (room_of context (row_pattern context parts scope e.opened.items))
    (λ tree_context. AreExpandedParts tree_context scope.may_keep scope.may_be_absent false parts)
leads_row context e slot parts scope x rest is =
    let row = λ (xs : List Info). row_pattern context xs scope e.opened.items in
    record {
      ends = row_step context parts rest.now x.now scope (progress e slot) is;
      allowed = λ all among h. subst (λ xs. IsLetThrough context scope.may_keep (row xs) all) (sym is) (h.1.0, h.0);
      fits = (let rooms = ap (λ xs. room_of context (row xs)) is in let sum = room_row (layout_of context) (node_pattern context x.now false scope e.opened.items) (row rest.now) in omega (arith, rooms, sum));
      stands = λ tree_context s stand.
          let both = expanded_rest tree_context scope.may_keep scope.may_be_absent false parts rest.now x.now is stand in
          (both.1, (both.0, tt));
      notes = none_noted (infos_of context) e.needs.list.items (λ tree_context. AreExpandedParts tree_context scope.may_keep scope.may_be_absent false parts);
    }

-- a row of no part
pub leads_no_row : (context : CompileContext) (e : Emitter) (slot : ℕ) (parts : List Info) (scope : Scope) → parts ≡ [] →
    Leads context e e slot slot [] (past_pattern context (row_pattern context parts scope e.opened.items) (progress e slot))
    (IsLetThrough context scope.may_keep (row_pattern context parts scope e.opened.items)) (room_of context (row_pattern context parts scope e.opened.items))
    (λ tree_context. AreExpandedParts tree_context scope.may_keep scope.may_be_absent false parts)
leads_no_row context e slot parts scope is =
    let row = λ (xs : List Info). row_pattern context xs scope e.opened.items in
    subst (λ xs. Leads context e e slot slot [] (past_pattern context (row xs) (progress e slot)) (IsLetThrough context scope.may_keep (row xs)) (room_of context (row xs))
    (λ tree_context. AreExpandedParts tree_context scope.may_keep scope.may_be_absent false xs)) (sym is)
    (leads_nowhere context e e slot scope.may_keep nothing (λ tree_context. AreExpandedParts tree_context scope.may_keep scope.may_be_absent false [])
    (wrote_nothing (layout_of context) context.unicode context.whole e slot nothing refl) (omega arith) (λ all among. tt)
    (none_noted (infos_of context) e.needs.list.items (λ tree_context. AreExpandedParts tree_context scope.may_keep scope.may_be_absent false [])))

-- what fails
pub leads_fail : (context : CompileContext) (old : Emitter) (body : ProgramBuilder) (slot : ℕ) (keeps : Bool) (p : CorePattern) (S : TreeContext → Type 0) (step : Step) → p ≡ fail →
    step ≡ record { slot = slot; tasks = tasks.Nothing } → draft_of body ≡ added op.fail (draft_of old.body) → extent (draft_of body) ≡ extent (draft_of old.body) + 1 →
    LeadsTo context p keeps S old (record { body = body; classes = old.classes; opened = old.opened; parts = old.parts; needs = old.needs }) slot step
leads_fail context old body slot keeps p S step fails step_is drew long =
    let new : Emitter = record { body = body; classes = old.classes; opened = old.opened; parts = old.parts; needs = old.needs } in
    subst (λ r. LeadsTo context p keeps S old new slot r) (sym step_is)
    (leads_nowhere context old new slot keeps p S (wrote_fail (layout_of context) context.unicode context.whole old new slot p fails drew refl)
    (let rooms = ap (room_of context) fails in omega (arith, long, rooms, room_fail (layout_of context)))
    (λ all among. subst (λ q. IsLetThrough context keeps q all) (sym fails) tt) (none_noted (infos_of context) old.needs.list.items S))

-- a call that fails
pub leads_no_call : (context : CompileContext) (old : Emitter) (body : ProgramBuilder) (slot : ℕ) (keeps : Bool) (k : ℕ) (p : CorePattern) (S : TreeContext → Type 0) (step : Step) → layout_of context k ≡ None → p ≡ called k fail →
    step ≡ record { slot = slot; tasks = tasks.Nothing } → draft_of body ≡ added op.fail (draft_of old.body) → extent (draft_of body) ≡ extent (draft_of old.body) + 1 →
    LeadsTo context p keeps S old (record { body = body; classes = old.classes; opened = old.opened; parts = old.parts; needs = old.needs }) slot step
leads_no_call context old body slot keeps k p S step none fails step_is drew long =
    let new : Emitter = record { body = body; classes = old.classes; opened = old.opened; parts = old.parts; needs = old.needs } in
    subst (λ r. LeadsTo context p keeps S old new slot r) (sym step_is)
    (leads_nowhere context old new slot keeps p S (wrote_no_call (layout_of context) context.unicode context.whole old new slot k p none fails drew refl)
    (let rooms = ap (room_of context) fails in omega (arith, long, rooms, room_called (layout_of context) k fail none, room_fail (layout_of context)))
    (λ all among. subst (λ q. IsLetThrough context keeps q all) (sym fails) (called_allowed (layout_of context) all context.unicode keeps k fail none tt))
    (none_noted (infos_of context) old.needs.list.items S))

-- a call that stays
pub leads_kept_call : (context : CompileContext) (old : Emitter) (body : ProgramBuilder) (needs : Needs) (slot : ℕ) (need : Need) (c : Place) (p : CorePattern) (step : Step) →
    layout_of context need.group ≡ Some c → need.group < length (infos_of context) → IsNoted old.needs.list.items needs.list.items need →
    step ≡ record { slot = slot; tasks = tasks.Nothing } → draft_of body ≡ added (op.call c) (draft_of old.body) → extent (draft_of body) ≡ extent (draft_of old.body) + 1 →
    LeadsTo context (called need.group p) need.may_keep
    (λ tree_context. IsExpandedTarget tree_context need.may_keep need.may_be_absent (infos_of context) need.group) old
    (record { body = body; classes = old.classes; opened = old.opened; parts = old.parts; needs = needs }) slot step
leads_kept_call context old body needs slot need c p step some there noted step_is drew long =
    let new : Emitter = record { body = body; classes = old.classes; opened = old.opened; parts = old.parts; needs = needs } in
    let S = λ (tree_context : TreeContext). IsExpandedTarget tree_context need.may_keep need.may_be_absent (infos_of context) need.group in
    subst (λ r. LeadsTo context (called need.group p) need.may_keep S old new slot r) (sym step_is)
    (leads_nowhere context old new slot need.may_keep (called need.group p) S
    (wrote_kept_call (layout_of context) context.unicode context.whole old new slot need.group c p some drew refl)
    (omega (arith, long, room_stays (layout_of context) need.group c p some))
    (λ all among. kept_allowed (layout_of context) all context.unicode need c p some (among need noted.there))
    (need_noted (infos_of context) old.needs.list.items needs.list.items need noted there))

-- an alternation of no branch
pub leads_no_branch : (context : CompileContext) (old : Emitter) (body : ProgramBuilder) (slot : ℕ) (branches : List Info) (steps_back : Bool) (scope : Scope) (step : Step) → branches ≡ [] →
    step ≡ record { slot = slot; tasks = tasks.Nothing } → draft_of body ≡ added op.fail (draft_of old.body) → extent (draft_of body) ≡ extent (draft_of old.body) + 1 →
    LeadsTo context (branches_pattern context branches steps_back scope old.opened.items) scope.may_keep
    (λ tree_context. AreExpandedParts tree_context scope.may_keep scope.may_be_absent steps_back branches) old (record { body = body; classes = old.classes; opened = old.opened; parts = old.parts; needs = old.needs }) slot step
leads_no_branch context old body slot branches steps_back scope step is step_is drew long =
    leads_fail context old body slot scope.may_keep (branches_pattern context branches steps_back scope old.opened.items)
    (λ tree_context. AreExpandedParts tree_context scope.may_keep scope.may_be_absent steps_back branches) step
    (ap (λ xs. branches_pattern context xs steps_back scope old.opened.items) is) step_is drew long

-- an alternation of one branch
pub leads_branch : (context : CompileContext) (e : Emitter) (slot : ℕ) (branches : List Info) (steps_back : Bool) (scope : Scope) (step : Step) (x : Bor Info) → branches ≡ x.now ∷ [] →
    step ≡ record { slot = slot; tasks = tasks.One (task.Node x steps_back scope) } →
    LeadsTo context (branches_pattern context branches steps_back scope e.opened.items) scope.may_keep
    (λ tree_context. AreExpandedParts tree_context scope.may_keep scope.may_be_absent steps_back branches) e e slot step
leads_branch context e slot branches steps_back scope step x is step_is =
    let p = branches_pattern context branches steps_back scope e.opened.items in
    let S = λ (tree_context : TreeContext). AreExpandedParts tree_context scope.may_keep scope.may_be_absent steps_back branches in
    let one : p ≡ node_pattern context x.now steps_back scope e.opened.items = ap (λ xs. branches_pattern context xs steps_back scope e.opened.items) is in
    subst (λ r. LeadsTo context p scope.may_keep S e e slot r) (sym step_is)
    (leads_one context e slot scope.may_keep (node_pattern context x.now steps_back scope e.opened.items) p (task.Node x steps_back scope) S one refl (λ all h. h) refl (omega arith)
    (λ tree_context s stand. (expanded_rest tree_context scope.may_keep scope.may_be_absent steps_back branches [] x.now is stand).0))

-- two branches or more
alt_more : (f : Info → CorePattern) (x : Info) (xs : List Info) → 1 ≤ length xs → alt_all (map f (x ∷ xs)) ≡ alt (f x) (alt_all (map f xs))
alt_more f x [] some = absurd (omega (arith, some))
alt_more f x (y ∷ ys) some = refl

pub leads_alternatives : (context : CompileContext) (old : Emitter) (body : ProgramBuilder) (slot : ℕ) (branches : List Info) (steps_back : Bool) (scope : Scope) (step : Step)
    (split first : ℕ) (x : Bor Info) (rest : Bor (List Info)) (d : Draft) → branches ≡ x.now ∷ rest.now → 1 ≤ length rest.now →
    step ≡ record { slot = slot; tasks = tasks.Two (task.Node x steps_back scope) (task.Otherwise split first rest steps_back scope) } →
    d ≡ closed_draft (draft_of old.body) → split ≡ length d.ops → draft_of body ≡ with_op (op.split 0 0) d → first ≡ length (draft_of body).ops →
    extent (draft_of body) ≤ extent (draft_of old.body) + 1 →
    LeadsTo context (branches_pattern context branches steps_back scope old.opened.items) scope.may_keep
    (λ tree_context. AreExpandedParts tree_context scope.may_keep scope.may_be_absent steps_back branches) old (record { body = body; classes = old.classes; opened = old.opened; parts = old.parts; needs = old.needs }) slot step
leads_alternatives context old body slot branches steps_back scope step split first x rest d is some step_is closes at begun at_first long =
    let new : Emitter = record { body = body; classes = old.classes; opened = old.opened; parts = old.parts; needs = old.needs } in
    let layout = layout_of context in
    let u = context.unicode in
    let w = context.whole in
    let f = λ (y : Info). node_pattern context y steps_back scope old.opened.items in
    let a = f x.now in
    let b = alt_all (map f rest.now) in
    let p = branches_pattern context branches steps_back scope old.opened.items in
    let S = λ (tree_context : TreeContext). AreExpandedParts tree_context scope.may_keep scope.may_be_absent steps_back branches in
    let whole : p ≡ alt a b = ap (λ xs. alt_all (map f xs)) is ∙ alt_more f x.now rest.now some in
    let drew = drew_alternatives layout u w a b slot split first (draft_of old.body) d (draft_of body) closes at begun at_first in
    subst (λ r. LeadsTo context p scope.may_keep S old new slot r) (sym step_is)
    (record {
      ends = same_progress (drew ∙ ap (λ q. with_pat layout u w q slot (draft_of old.body)) (sym whole)) (let slots = ap (slots_with (layout_of context)) whole in omega (arith, slots)) refl;
      allowed = λ all among h. subst (λ q. IsLetThrough context scope.may_keep q all) (sym whole) (h.1.0, h.0);
      fits = (let rooms = ap (room_of context) whole in omega (arith, long, rooms, room_alt layout a b));
      stands = λ tree_context s stand.
          let both = expanded_rest tree_context scope.may_keep scope.may_be_absent steps_back branches rest.now x.now is stand in
          (both.1, (both.0, tt));
      notes = none_noted (infos_of context) old.needs.list.items S;
    })

-- the room of an alternation of no branch, and of two or more
pub none_need : (context : CompileContext) (branches : List Info) (steps_back : Bool) (scope : Scope) (opened : List ℕ) → branches ≡ [] →
    1 ≤ room_of context (branches_pattern context branches steps_back scope opened)
none_need context branches steps_back scope opened is =
    let rooms = ap (λ xs. room_of context (branches_pattern context xs steps_back scope opened)) is in
    omega (arith, rooms, room_fail (layout_of context))

pub branches_need : (context : CompileContext) (branches : List Info) (steps_back : Bool) (scope : Scope) (opened : List ℕ) (x : Info) (rest : List Info) → branches ≡ x ∷ rest →
    1 ≤ length rest → 1 ≤ room_of context (branches_pattern context branches steps_back scope opened)
branches_need context branches steps_back scope opened x rest is some =
    let f = λ (y : Info). node_pattern context y steps_back scope opened in
    let whole = ap (λ xs. room_of context (alt_all (map f xs))) is ∙ ap (room_of context) (alt_more f x rest some) in
    omega (arith, whole, room_alt (layout_of context) (f x) (alt_all (map f rest)))

-- from the end of a branch to the others
pub leads_otherwise : (context : CompileContext) (old : Emitter) (body : ProgramBuilder) (slot : ℕ) (branches : Bor (List Info)) (steps_back : Bool) (scope : Scope) (step : Step)
    (split first second jump : ℕ) (d1 d2 : Draft) →
    step ≡ record { slot = slot; tasks = tasks.Two (task.Branches branches steps_back scope) (task.Close (ends.Alternatives jump)) } →
    d1 ≡ closed_draft (draft_of old.body) → jump ≡ length d1.ops → d2 ≡ with_op (op.jump 0) d1 → second ≡ length d2.ops →
    draft_of body ≡ patched split (op.split first second) d2 → extent (draft_of body) ≤ extent (draft_of old.body) + 1 →
    Leads context old (record { body = body; classes = old.classes; opened = old.opened; parts = old.parts; needs = old.needs }) slot step.slot (listed step.tasks)
    (past_others context split first (branches_pattern context branches.now steps_back scope old.opened.items) (progress old slot))
    (IsLetThrough context scope.may_keep (branches_pattern context branches.now steps_back scope old.opened.items))
    (1 + room_of context (branches_pattern context branches.now steps_back scope old.opened.items))
    (λ tree_context. AreExpandedParts tree_context scope.may_keep scope.may_be_absent steps_back branches.now)
leads_otherwise context old body slot branches steps_back scope step split first second jump d1 d2 step_is closes at jumps at_second patches long =
    let new : Emitter = record { body = body; classes = old.classes; opened = old.opened; parts = old.parts; needs = old.needs } in
    let b = branches_pattern context branches.now steps_back scope old.opened.items in
    let end = past_others context split first b (progress old slot) in
    let drawn : draft_of body ≡ at_others split first (draft_of old.body) =
    patches ∙ ap₂ (λ k x. patched split (op.split first k) x) at_second (jumps ∙ ap (with_op (op.jump 0)) closes)
    ∙ ap (λ (x : Draft). patched split (op.split first (length x.ops)) (with_op (op.jump 0) (closed_draft (draft_of old.body)))) (jumps ∙ ap (with_op (op.jump 0)) closes) in
    let there : jump ≡ length (closed_draft (draft_of old.body)).ops = at ∙ ap (λ (x : Draft). length x.ops) closes in
    subst (λ r. Leads context old new slot r.slot (listed r.tasks) end (IsLetThrough context scope.may_keep b) (1 + room_of context b)
    (λ tree_context. AreExpandedParts tree_context scope.may_keep scope.may_be_absent steps_back branches.now)) (sym step_is)
    (record {
      ends = ap₂ (λ k x. past_closing context (ends.Alternatives k) (past_pattern context b (let s : Progress = record { draft = x; slot = slot; opened = old.opened.items } in s))) there drawn;
      allowed = λ all among h. h.1.0;
      fits = omega (arith, long);
      stands = λ tree_context s stand. (tt, (stand, tt));
      notes = none_noted (infos_of context) old.needs.list.items (λ tree_context. AreExpandedParts tree_context scope.may_keep scope.may_be_absent steps_back branches.now);
    })

-- from the condition of a conditional to its branches
pub leads_tested : (context : CompileContext) (old : Emitter) (body : ProgramBuilder) (slot height_slot : ℕ) (scope : Scope) (step : Step) (split first : ℕ) (hit miss : Bor Info)
    (rest : Bor (List Info)) → rest.now ≡ miss.now ∷ [] →
    step ≡ record { slot = slot; tasks = tasks.Two (task.Node hit false scope) (task.Otherwise split first rest false scope) } →
    draft_of body ≡ added (op.end_atomic height_slot) (draft_of old.body) → extent (draft_of body) ≤ extent (draft_of old.body) + 1 →
    Leads context old (record { body = body; classes = old.classes; opened = old.opened; parts = old.parts; needs = old.needs }) slot step.slot (listed step.tasks)
    (past_others context split first (node_pattern context miss.now false scope old.opened.items) (past_pattern context (node_pattern context hit.now false scope old.opened.items)
    (record { draft = with_op (op.end_atomic height_slot) (closed_draft (draft_of old.body)); slot = slot; opened = old.opened.items })))
    (λ all. IsLetThrough context scope.may_keep (node_pattern context hit.now false scope old.opened.items) all
    × IsLetThrough context scope.may_keep (node_pattern context miss.now false scope old.opened.items) all)
    (2 + (room_of context (node_pattern context hit.now false scope old.opened.items) + room_of context (node_pattern context miss.now false scope old.opened.items)))
    (λ tree_context. IsExpandedPart tree_context scope.may_keep scope.may_be_absent false (info_of hit.now)
    × IsExpandedPart tree_context scope.may_keep scope.may_be_absent false (info_of miss.now))
leads_tested context old body slot height_slot scope step split first hit miss rest one step_is drawn long =
    let new : Emitter = record { body = body; classes = old.classes; opened = old.opened; parts = old.parts; needs = old.needs } in
    let y = node_pattern context hit.now false scope old.opened.items in
    let n = node_pattern context miss.now false scope old.opened.items in
    let r = branches_pattern context rest.now false scope old.opened.items in
    let only : r ≡ n = ap (λ xs. branches_pattern context xs false scope old.opened.items) one in
    let end = past_others context split first n (past_pattern context y (let s : Progress = record { draft = added (op.end_atomic height_slot) (draft_of old.body); slot = slot; opened = old.opened.items } in s)) in
    subst (λ r. Leads context old new slot r.slot (listed r.tasks) end (λ all. IsLetThrough context scope.may_keep y all × IsLetThrough context scope.may_keep n all) (2 + (room_of context y + room_of context n))
    (λ tree_context. IsExpandedPart tree_context scope.may_keep scope.may_be_absent false (info_of hit.now)
    × IsExpandedPart tree_context scope.may_keep scope.may_be_absent false (info_of miss.now))) (sym step_is)
    (record {
      ends = ap₂ (λ q x. past_others context split first q (past_pattern context y (let s : Progress = record { draft = x; slot = slot; opened = old.opened.items } in s))) only drawn;
      allowed = λ all among h. (h.1.0, subst (λ q. IsLetThrough context scope.may_keep q all) only h.0);
      fits = (let rooms = ap (room_of context) only in omega (arith, long, rooms));
      stands = λ tree_context s stand.
          let all : AreExpandedParts tree_context scope.may_keep scope.may_be_absent false rest.now =
          subst (AreExpandedParts tree_context scope.may_keep scope.may_be_absent false) (sym one) (alone tree_context scope.may_keep scope.may_be_absent miss.now stand.1) in
          (all, (stand.0, tt));
      notes = none_noted (infos_of context) old.needs.list.items (λ tree_context. IsExpandedPart tree_context scope.may_keep scope.may_be_absent false (info_of hit.now)
          × IsExpandedPart tree_context scope.may_keep scope.may_be_absent false (info_of miss.now));
    })
  where
    alone : (tree_context : TreeContext) (keeps absents : Bool) (x : Info) → IsExpandedPart tree_context keeps absents false (info_of x) →
        AreExpandedParts tree_context keeps absents false (x ∷ [])
    alone tree_context keeps absents x h zero y at = subst (λ i. IsExpandedPart tree_context keeps absents false (info_of i)) (ap (λ o. unwrap_or o x) at) h
    alone tree_context keeps absents x h (suc k) y at = absurd (none-some _ at)

pub leads_condition : (context : CompileContext) (old : Emitter) (body : ProgramBuilder) (slot inside : ℕ) (scope : Scope) (step : Step) (split first : ℕ) (t : Bor Expr) (x y z : Bor Info) (d : Draft) →
    step ≡ record { slot = inside; tasks = tasks.Two (task.Body t false x scope) (task.Tested slot split first y z scope) } →
    inside ≡ slot + 1 → d ≡ added (op.begin_atomic slot) (draft_of old.body) → split ≡ length d.ops → draft_of body ≡ with_op (op.split 0 0) d →
    first ≡ length (draft_of body).ops → extent (draft_of body) ≤ extent (draft_of old.body) + 2 →
    LeadsTo context (conditional (body_pattern context false t.now x.now scope old.opened.items) (node_pattern context y.now false scope old.opened.items)
    (node_pattern context z.now false scope old.opened.items)) scope.may_keep
    (λ tree_context. IsExpandedConditional tree_context scope.may_keep scope.may_be_absent (tree_of t.now) (info_of x.now) (info_of y.now) (info_of z.now))
    old (record { body = body; classes = old.classes; opened = old.opened; parts = old.parts; needs = old.needs }) slot step
leads_condition context old body slot inside scope step split first t x y z d step_is one begun at splits at_first long =
    let new : Emitter = record { body = body; classes = old.classes; opened = old.opened; parts = old.parts; needs = old.needs } in
    let f = λ (i : Info). node_pattern context i false scope old.opened.items in
    let q = body_pattern context false t.now x.now scope old.opened.items in
    let p = conditional q (f y.now) (f z.now) in
    let drew = drew_tested (layout_of context) context.unicode context.whole q (f y.now) (f z.now) slot inside split first (draft_of old.body) d (draft_of body) one begun at splits at_first in
    subst (λ r. LeadsTo context p scope.may_keep
    (λ tree_context. IsExpandedConditional tree_context scope.may_keep scope.may_be_absent (tree_of t.now) (info_of x.now) (info_of y.now) (info_of z.now)) old new slot r) (sym step_is)
    (record {
      ends = same_progress drew (omega (arith, one)) refl;
      allowed = λ all among h. (h.1.0, h.0.0, h.0.1);
      fits = omega (arith, long, room_conditional (layout_of context) q (f y.now) (f z.now));
      stands = λ tree_context s stand. ((stand.yes, stand.no), (stand.condition, tt));
      notes = none_noted (infos_of context) old.needs.list.items
          (λ tree_context. IsExpandedConditional tree_context scope.may_keep scope.may_be_absent (tree_of t.now) (info_of x.now) (info_of y.now) (info_of z.now));
    })

-- a call that opens
pub leads_call : (context : CompileContext) (old new : Emitter) (slot m k : ℕ) (scope inner : Scope) (x : Bor Info) → layout_of context k ≡ None → scope.calls_left ≡ suc m → inner.calls_left ≡ m →
    inner.may_keep ≡ scope.may_keep → inner.may_be_absent ≡ scope.may_be_absent → slice_get (infos_of context) k ≡ Some (info_of x.now) →
    is_at_call_limit old.opened.items k ≡ false → draft_of new.body ≡ draft_of old.body → new.opened.items ≡ old.opened.items ++ k ∷ [] → new.needs.list.items ≡ old.needs.list.items →
    Leads context old new slot slot (task.EndCall ∷ task.Node x false inner ∷ []) (past_pattern context (info_call (infos_of context) scope.calls_left old.opened.items k) (progress old slot))
    (IsLetThrough context scope.may_keep (info_call (infos_of context) scope.calls_left old.opened.items k)) (room_of context (info_call (infos_of context) scope.calls_left old.opened.items k))
    (λ tree_context. IsExpandedTarget tree_context scope.may_keep scope.may_be_absent (infos_of context) k)
leads_call context old new slot m k scope inner x none more less keeps absents at free same pushed needs =
    let p = info_call (infos_of context) scope.calls_left old.opened.items k in
    let q = node_pattern context x.now false inner new.opened.items in
    let is : p ≡ called k q =
    call_is (infos_of context) scope.calls_left m old.opened.items new.opened.items k (info_of x.now) more at free pushed
    ∙ ap (λ n. called k (info_written (info_call (infos_of context) n new.opened.items) (info_of x.now)).front) (sym less) in
    let one_less : length new.opened.items - 1 ≡ length old.opened.items = (let long = ap length pushed in omega (arith, long, length-append old.opened.items (k ∷ []))) in
    record {
      ends = same_progress
          (sym (pat_called (layout_of context) context.unicode context.whole k q slot (draft_of new.body) none) ∙ ap₂ (λ r d. with_pat (layout_of context) context.unicode context.whole r slot d) (sym is) same)
          (ap (λ n. slot + n) (sym (slots_called (layout_of context) context.unicode context.whole k q none) ∙ ap (slots_with (layout_of context)) (sym is)))
          (ap₂ take one_less pushed ∙ take-append_seam old.opened.items (k ∷ []));
      allowed = λ all among h. subst (λ r. IsLetThrough context scope.may_keep r all) (sym is)
          (called_allowed (layout_of context) all context.unicode scope.may_keep k q none (subst (λ b. IsLetThrough context b q all) keeps h.1.0));
      fits = (let rooms = ap (room_of context) is in let extents = ap extent same in omega (arith, rooms, room_called (layout_of context) k q none, extents));
      notes = same_noted (infos_of context) old.needs.list.items new.needs.list.items
          (λ tree_context. IsExpandedTarget tree_context scope.may_keep scope.may_be_absent (infos_of context) k) needs;
      stands = λ tree_context s stand.
          let body : IsExpandedPart tree_context inner.may_keep inner.may_be_absent false (info_of x.now) =
          subst (λ b. IsExpandedPart tree_context b inner.may_be_absent false (info_of x.now)) (sym keeps)
          (subst (λ b. IsExpandedPart tree_context scope.may_keep b false (info_of x.now)) (sym absents) (stand.body (info_of x.now) at)) in
          (tt, (body, tt));
    }

-- the end of a construct
pub leads_close : (context : CompileContext) (old : Emitter) (body : ProgramBuilder) (slot : ℕ) (c : Closing) (S : TreeContext → Type 0) (step : Step) →
    step ≡ record { slot = slot; tasks = tasks.Nothing } → draft_of body ≡ closed_by c (draft_of old.body) →
    Leads context old (record { body = body; classes = old.classes; opened = old.opened; parts = old.parts; needs = old.needs }) slot step.slot (listed step.tasks) (past context (task.Close c) (progress old slot)) (λ all. Unit {0}) (closing_room c) S
leads_close context old body slot c S step step_is drew =
    let new : Emitter = record { body = body; classes = old.classes; opened = old.opened; parts = old.parts; needs = old.needs } in
    subst (λ r. Leads context old new slot r.slot (listed r.tasks) (past context (task.Close c) (progress old slot)) (λ all. Unit {0}) (closing_room c) S) (sym step_is) (record {
      ends = same_progress drew refl refl;
      allowed = λ all among h. tt;
      fits = (let same = ap extent drew in omega (arith, same, closing_fits c (draft_of old.body)));
      stands = λ tree_context s stand. tt;
      notes = none_noted (infos_of context) old.needs.list.items S;
    })

-- the end of a call
pub leads_end_call : (context : CompileContext) (old new : Emitter) (slot : ℕ) (S : TreeContext → Type 0) (step : Step) →
    step ≡ record { slot = slot; tasks = tasks.Nothing } → draft_of new.body ≡ draft_of old.body → new.opened.items ≡ take (length old.opened.items - 1) old.opened.items →
    new.needs.list.items ≡ old.needs.list.items →
    Leads context old new slot step.slot (listed step.tasks) (past context task.EndCall (progress old slot)) (λ all. Unit {0}) 0 S
leads_end_call context old new slot S step step_is same popped needs =
    subst (λ r. Leads context old new slot r.slot (listed r.tasks) (past context task.EndCall (progress old slot)) (λ all. Unit {0}) 0 S) (sym step_is) (record {
      ends = same_progress same refl popped;
      allowed = λ all among h. tt;
      fits = (let extents = ap extent same in omega (arith, extents));
      stands = λ tree_context s stand. tt;
      notes = same_noted (infos_of context) old.needs.list.items new.needs.list.items S needs;
    })
