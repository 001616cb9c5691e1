use Rattle.std.proofs.Common.{◌≡◌, ◌∙◌, ℕ, ◌+◌, ◌++◌, List, Option, length, sym, ap, subst, arith}
use Rattle.std.proofs.lemmas.List.{get_or_read}
use Rattle.std.specs.Prelude.{IfSome, IsCharBoundary}
use Rattle.std.specs.Char.{len_utf8}
use Rattle.regex_hir.specs.Text.{char_at, char_before}
use Rattle.fancy_regex_class.specs.Looks.{looked_text}
use Rattle.fancy_regex_states.specs.First.{state_at}
use Rattle.fancy_regex_states.specs.declared.state.State.{State}
use Rattle.fancy_regex_states.specs.declared.state.State.TheVariants.{Match}
use Rattle.fancy_regex_parts.specs.Tables.{owed}
use Rattle.fancy_regex_parts.specs.Walk.{AreLeft, last_first, part_end_of, tasks_at, walk_tasks}
use Rattle.fancy_regex_parts.proofs.PlaceLemmas.{IsPrior, fits_before, place_back}
use Rattle.fancy_regex_parts.proofs.VisitLemmas.{leads_in_reach, right_at}
use Rattle.fancy_regex_parts.proofs.WalkLemmas.{left_at}
use Rattle.fancy_regex_parts.proofs.groups.follow.Goals as goal

pub part_end-requires-clause-place : goal.part_end-requires-clause-place
part_end-requires-clause-place c =
    let table = c.args.context.now.table.now in
    let state_is : c.index-state.result.now ≡ state_at table.states.items c.args.q = get_or_read table.states.items c.args.q _ c.requires.place.state c.index-state.ensures Match in
    leads_in_reach table (looked_text c.args.text.now) c.args.memory.now.recall.base c.args.q c.args.at _ c.requires.ready.table c.requires.place state_is

-- the character before the place begins at a place
prior_is : (text other : List ℕ) (at : ℕ) (before : Option ℕ) → other ≡ text → before ≡ char_before other at → IfSome before (IsPrior text at)
prior_is text other at before same is = place_back text at before (sym (is ∙ ap (λ (t : List ℕ). char_before t at) same))

pub leave_tasks-requires-clause-before : goal.leave_tasks-requires-clause-before
leave_tasks-requires-clause-before c =
    let text : List ℕ = looked_text c.args.text.now in
    fits_before text c.args.at _ (prior_is text _ c.args.at _ c.part_end.ensures.leaves.looks.text c.look-before.ensures.before)

pub returns-clause-tasks : goal.returns-clause-tasks
returns-clause-tasks c view ways has true_of =
    let table = c.args.context.now.table.now in
    let at = c.args.at in
    let text : List ℕ = looked_text c.args.text.now in
    let old = last_first c.args.tasks.now.items in
    let state : State = c.index-state.result.now in
    let state_is : c.index-state.result.now ≡ state_at table.states.items c.args.q = get_or_read table.states.items c.args.q _ c.requires.place.state c.index-state.ensures Match in
    let before_is : c.look-before.result.0 ≡ char_before text at = c.look-before.ensures.before ∙ ap (λ (t : List ℕ). char_before t at) c.part_end.ensures.leaves.looks.text in
    let after_is : c.look-before.result.1 ≡ char_at text at = c.look-before.ensures.after ∙ ap (λ (t : List ℕ). char_at t at) c.part_end.ensures.leaves.looks.text in
    let end_is : c.in_ok-end.end ≡ part_end_of ways state at = c.in_ok-end.ensures.end view ways has true_of in
    c.in_ok-leave_tasks.ensures
    ∙ ap (λ (o : Option ℕ). tasks_at state at o c.look-before.result.1 c.in_ok-end.end ++ old) before_is
    ∙ ap (λ (o : Option ℕ). tasks_at state at (char_before text at) o c.in_ok-end.end ++ old) after_is
    ∙ ap (λ (o : Option ℕ). tasks_at state at (char_before text at) (char_at text at) o ++ old) end_is
    ∙ ap (λ (s : State). walk_tasks ways (char_before text at) (char_at text at) s at ++ old) state_is

pub returns-clause-left : goal.returns-clause-left
returns-clause-left c =
    let table = c.args.context.now.table.now in
    let text : List ℕ = looked_text c.args.text.now in
    let base = c.args.memory.now.recall.base in
    let old = last_first c.args.tasks.now.items in
    let state_is : c.index-state.result.now ≡ state_at table.states.items c.args.q = get_or_read table.states.items c.args.q _ c.requires.place.state c.index-state.ensures Match in
    let next = subst (λ (t : List ℕ). IfSome c.look-before.result.1 (λ k. IsCharBoundary t (c.args.at + len_utf8 k))) c.part_end.ensures.leaves.looks.text c.look-before.ensures.next in
    let prior = prior_is text _ c.args.at _ c.part_end.ensures.leaves.looks.text c.look-before.ensures.before in
    subst (AreLeft table text base c.args.q c.args.at old) (sym c.in_ok-leave_tasks.ensures)
    (left_at table text base c.args.q c.args.at c.index-state.result.now c.look-before.result.0 c.look-before.result.1 c.in_ok-end.end old c.requires.ready.table
    c.requires.ready.small c.requires.place state_is prior next c.in_ok-end.ensures.place)

pub returns-clause-counted : goal.returns-clause-counted
returns-clause-counted c =
    let table = c.args.context.now.table.now in
    let state_is : c.index-state.result.now ≡ state_at table.states.items c.args.q = get_or_read table.states.items c.args.q _ c.requires.place.state c.index-state.ensures Match in
    let owes : owed table c.index-state.result.now ≡ owed table (state_at table.states.items c.args.q) = ap (owed table) state_is in
    omega (arith, c.in_ok-end.ensures.counted, c.look-before.ensures.ticked, owes, (right_at table c.args.q c.requires.ready.table c.requires.place.state).paid)
