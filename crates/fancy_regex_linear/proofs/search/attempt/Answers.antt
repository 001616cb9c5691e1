use Rattle.std.proofs.Common.{◌≡◌, ℕ, ◌+◌, ◌-◌, ◌≤◌, ◌∙◌, [], Some, None, Bool, true, refl, sym, ap, arith, length, vec_len, true≢false}
use Rattle.std.proofs.lemmas.List.{nil_from_length}
use Rattle.std.specs.Prelude.{is_some}
use Rattle.fancy_regex_class.specs.Looks.{looked_text}
use Rattle.fancy_regex_states.specs.Attempts.{View, Continuation}
use Rattle.fancy_regex_linear.specs.Attempt.{better_spot, trace_end}
use Rattle.fancy_regex_linear.specs.Visited.{Has, pair_count}
use Rattle.fancy_regex_linear.specs.Search.{AllFail, Explains, Dfs, top_first, end_spot}
use Rattle.fancy_regex_linear.proofs.VisitedLemmas.{pair_count_cap}
use Rattle.fancy_regex_linear.proofs.DfsLemmas.{Dfs-root, Dfs-popped, Dfs-done, Dfs-best, first_done, none_from}
use Rattle.fancy_regex_linear.proofs.LayerLemmas.{looks_on, at_next, at_popped}
use Rattle.fancy_regex_linear.proofs.search.attempt.Goals as goal
use Rattle.fancy_regex_linear.proofs.search.attempt.Goals.{in-Backtrack, in-Matched+else-not-context, After-pop_explore}

pub pairs-init : goal.pairs-init
unfolding top_first
pairs-init c =
    let none : c.args.memory.now.backtrack.stack.items ≡ [] = nil_from_length _ (omega (arith, c.requires.between.empty, c.args.memory.now.backtrack.stack.ok.0)) in
    record {
      tracking = λ view go explains failed. rw none (Dfs-root c.args.entry c.args.from c.args.memory.now.backtrack.slots.items failed);
      first = λ e. refl;
      place = record { pair = c.requires.pair; count = c.requires.between.count; within = rw none tt };
      base = refl;
      rows = c.requires.between.rows;
      slots = refl;
      farthest = refl;
      counted = omega arith;
      looks = record { more = omega arith; text = refl; same_counter = refl };
    }

pub pairs-smaller-in-Pair : goal.pairs-smaller-in-Pair
pairs-smaller-in-Pair c =
    let progress = rw c.in-Pair.is at c.in_ok-state.ensures.visit.progress in
    let rows = rw c.pairs.invariant.base at c.visit.ensures.marking.rows in
    let cap = pair_count_cap c.visit.new.visited (c.args.context.now.stop - c.args.memory.now.visited.base + 1) (length c.args.context.now.states.now)
    (omega (arith, rows, c.pairs.invariant.rows)) (c.visit.ensures.marking.count ∙ c.pairs.invariant.place.count) in
    omega (arith, cap, progress.0, progress.1)

pub pairs-preserved-in-Pair : goal.pairs-preserved-in-Pair
pairs-preserved-in-Pair c = record {
  tracking = λ view go explains failed.
      rw c.in-Pair.is at (c.in_ok-state.ensures.visit.tracking view go (rw c.pairs.invariant.looks.text explains) _ _ _ (c.pairs.invariant.tracking view go explains failed));
  first = c.pairs.invariant.first;
  place = at_next c.in_ok-state.ensures.visit c.visit.ensures.marking c.pairs.invariant.place.count _ _ c.in-Pair.is;
  base = c.visit.ensures.marking.base ∙ c.pairs.invariant.base;
  rows = let r = rw c.pairs.invariant.base at c.visit.ensures.marking.rows in omega (arith, r, c.pairs.invariant.rows);
  slots = c.visit.ensures.slots ∙ c.pairs.invariant.slots;
  farthest = c.pairs.invariant.farthest;
  counted = omega (arith, c.visit.ensures.marking.counted, c.pairs.invariant.counted);
  looks = looks_on c.pairs.invariant.looks c.visit.ensures.marking.looks;
}

some_none : {A : Type 0} {x : A} → Some x ≡ None → ⊥
some_none e = cc

pub returns-then-not-context-clause-end : goal.returns-then-not-context-clause-end
returns-then-not-context-clause-end c = record {
  value = λ view go explains failed.
      let d = rw c.in-Matched.is at (c.in_ok-state.ensures.visit.tracking view go (rw c.pairs.invariant.looks.text explains) _ _ _ (c.pairs.invariant.tracking view go explains failed)) in
      sym (first_done (record { at = c.pairs.at; slots = c.visit.new.backtrack.slots.items }) (explains.longest ∙ c.if-not-context.true)
      (ap (λ o. end_spot o c.pairs.memory.farthest.items) (c.pairs.invariant.first c.if-not-context.true)) d);
  failed = λ none. absurd (some_none none);
  empty = λ none. absurd (some_none none);
}

-- the memory after a pair that did not lead on: only the farthest way may be another
same : (c : After-pop_explore) → (c.match-branch-2.memory.visited ≡ c.visit.new.visited) × (c.match-branch-2.memory.backtrack ≡ c.visit.new.backtrack)
    × (vec_len c.match-branch-2.memory.farthest ≡ vec_len c.pairs.memory.farthest)
same c =
    elim c.match-branch-2.branch [
      | in-Backtrack w ↦ (ap (λ m. m.visited) w.memory-is, ap (λ m. m.backtrack) w.memory-is, ap (λ m. vec_len m.farthest) w.memory-is)
      | in-Matched+else-not-context w ↦ (
        ap (λ m. m.visited) w.memory-is ∙ w.store_farther-best.ensures.visited,
        ap (λ m. m.backtrack) w.memory-is ∙ w.store_farther-best.ensures.backtrack,
        ap (λ m. vec_len m.farthest) w.memory-is ∙ w.store_farther-best.ensures.len,
      )
    ]

-- after a pair that did not lead on
joined : (c : After-pop_explore) (view : View) (go : ℕ → Continuation) → Explains c.args.context.now (looked_text c.args.text.now) view go
    → AllFail view.longest go (Has c.args.memory.now.visited)
    → Dfs view.longest go (trace_end c.args.memory.now.backtrack.slots.items (go c.args.entry c.args.from).answer) (end_spot c.match-branch-2.best c.match-branch-2.memory.farthest.items)
    c.args.memory.now.backtrack.slots.items (Has c.visit.new.visited) (top_first c.visit.new.backtrack.stack.items) c.visit.new.backtrack.slots.items
joined c view go explains failed =
    let was = c.in_ok-state.ensures.visit.tracking view go (rw c.pairs.invariant.looks.text explains) _ _ _ (c.pairs.invariant.tracking view go explains failed) in
    elim c.match-branch-2.branch [
      | in-Backtrack w ↦
          let farthest : c.match-branch-2.memory.farthest ≡ c.pairs.memory.farthest = ap (λ m. m.farthest) w.memory-is in
          rw (w.best-is, farthest) (rw w.in-Backtrack.is at was)
      | in-Matched+else-not-context w ↦
          let matched = rw w.in-Matched.is at was in
          let far : view.longest ≡ true = explains.longest ∙ w.if-not-context.false in
          let farthest : c.match-branch-2.memory.farthest ≡ w.store_farther-best.new.self.farthest = ap (λ m. m.farthest) w.memory-is in
          let e : better_spot true (end_spot c.pairs.best c.pairs.memory.farthest.items) (end_spot (Some c.pairs.at) c.visit.new.backtrack.slots.items)
          ≡ end_spot c.match-branch-2.best c.match-branch-2.memory.farthest.items =
          sym (rw (w.best-is, farthest) w.store_farther-best.ensures.best) in
          Dfs-best (ap (λ (l : Bool). better_spot l (end_spot c.pairs.best c.pairs.memory.farthest.items) (Some (record { at = c.pairs.at; slots = c.visit.new.backtrack.slots.items }))) far ∙ e) matched
    ]

-- it left no more frames than it marked pairs
progressed : (c : After-pop_explore) → (pair_count c.pairs.memory.visited ≤ pair_count c.visit.new.visited)
    × (vec_len c.visit.new.backtrack.stack + pair_count c.pairs.memory.visited ≤ vec_len c.pairs.memory.backtrack.stack + pair_count c.visit.new.visited)
progressed c =
    elim c.match-branch-2.branch [
      | in-Backtrack w ↦ rw w.in-Backtrack.is at c.in_ok-state.ensures.visit.progress
      | in-Matched+else-not-context w ↦ rw w.in-Matched.is at c.in_ok-state.ensures.visit.progress
    ]

pub pairs-smaller : goal.pairs-smaller
pairs-smaller c =
    let d = (goal.at.pairs-smaller c).After-pop_explore in
    let is = same d in
    let progress = progressed d in
    let count = ap pair_count is.0 in
    let len = ap (λ b. vec_len b.stack) is.1 in
    let rows = rw c.pairs.invariant.base at c.visit.ensures.marking.rows in
    let cap = pair_count_cap c.visit.new.visited (c.args.context.now.stop - c.args.memory.now.visited.base + 1) (length c.args.context.now.states.now)
    (omega (arith, rows, c.pairs.invariant.rows)) (c.visit.ensures.marking.count ∙ c.pairs.invariant.place.count) in
    omega (arith, cap, progress.0, progress.1, c.in-Some.ensures.shorter, count, len)

pub returns-then-is_some-clause-end : goal.returns-then-is_some-clause-end
returns-then-is_some-clause-end c =
    let d = (goal.at.returns-then-is_some-clause-end c).After-pop_explore in
    let popped = rw (same d).1 at c.in_default.ensures.popped in
    let some : c.match-branch-2.best ≡ None → ⊥ = λ none. true≢false (sym c.if-is_some.true ∙ c.is_some.ensures ∙ ap is_some none) in
    record {
      value = λ view go explains failed.
          let done = Dfs-popped view.longest (joined d view go explains failed) popped in
          ap (end_spot c.match-branch-2.best) c.load_farthest.ensures.slots ∙ sym (Dfs-done view.longest done).0;
      failed = λ none. absurd (some none);
      empty = λ none. absurd (some none);
    }

pub returns-else-is_some-clause-end : goal.returns-else-is_some-clause-end
returns-else-is_some-clause-end c =
    let d = (goal.at.returns-else-is_some-clause-end c).After-pop_explore in
    let popped = rw (same d).1 at c.in_default.ensures.popped in
    let none : c.match-branch-2.best ≡ None = none_from _ (sym c.is_some.ensures ∙ c.if-is_some.false) in
    record {
      value = λ view go explains failed.
          let done = Dfs-popped view.longest (joined d view go explains failed) popped in
          ap (λ o. end_spot o c.pop_explore.new.self.slots.items) none ∙ ap (λ o. end_spot o c.match-branch-2.memory.farthest.items) (sym none) ∙ sym (Dfs-done view.longest done).0;
      failed = λ is view go explains failed.
          let done = Dfs-popped view.longest (joined d view go explains failed) popped in
          let e = Dfs-best (ap (λ o. end_spot o c.match-branch-2.memory.farthest.items) none) done in
          (rw (same d).0 e.covers, (Dfs-done view.longest e).1);
      empty = λ is. c.in_default.ensures.empty;
    }

pub pairs-preserved : goal.pairs-preserved
pairs-preserved c =
    let d = (goal.at.pairs-preserved c).After-pop_explore in
    let is = same d in
    let popped = rw is.1 at c.in-Some.ensures.popped in
    let place = at_popped c.in_ok-state.ensures.visit c.visit.ensures.marking c.pairs.invariant.place.count c.pop_explore.new.self (c.in-Some.state, c.in-Some.position) popped in
    record {
      tracking = λ view go explains failed. rw is.0 (Dfs-popped view.longest (joined d view go explains failed) popped);
      first = λ e. elim c.match-branch-2.branch [
        | in-Backtrack w ↦ w.best-is ∙ c.pairs.invariant.first e
        | in-Matched+else-not-context w ↦ absurd (true≢false (sym w.if-not-context.false ∙ e))
      ];
      place = rw is.0 place;
      base = ap (λ v. v.base) is.0 ∙ c.visit.ensures.marking.base ∙ c.pairs.invariant.base;
      rows =
          let r = rw c.pairs.invariant.base at c.visit.ensures.marking.rows in
          let e = ap (λ v. v.rows) is.0 in omega (arith, r, e, c.pairs.invariant.rows);
      slots = c.pop_explore.ensures.slots ∙ ap (λ b. vec_len b.slots) is.1 ∙ c.visit.ensures.slots ∙ c.pairs.invariant.slots;
      farthest = is.2 ∙ c.pairs.invariant.farthest;
      counted = let e = ap pair_count is.0 in omega (arith, e, c.visit.ensures.marking.counted, c.pairs.invariant.counted);
      looks = looks_on c.pairs.invariant.looks c.visit.ensures.marking.looks;
    }
