use Rattle.std.proofs.Common.{◌≡◌, ℕ, ◌+◌, ◌-◌, ◌∙◌, ◌++◌, ◌∷◌, [], List, take, length, ap, sym, arith, rules, ◌<◌, eqb-true}
use Rattle.std.proofs.lemmas.List.{nil_from_length}
use Rattle.fancy_regex_linear.specs.Re.{shape, shapes, cats, alts}
use Rattle.fancy_regex_linear.specs.Program.{emitted, with_branches}
use Rattle.fancy_regex_states.specs.declared.state.State.{State}
use Rattle.fancy_regex_linear.proofs.RowLemmas.{last_first, row_of_none, no_branches, with_no_branches, with_branches_last, with_branch_is, branches_are, shapes_last, shapes_split}
use Rattle.fancy_regex_linear.proofs.emit.+emit.Goals as goal

pub emit_row-parts-preserved : goal.emit_row-parts-preserved
emit_row-parts-preserved t c =
    let i : ℕ = c.parts.left - 1 in
    let x = c.index-parts-left.result in
    let one : i + 1 ≡ c.parts.left = omega arith in
    let split : shapes (take c.parts.left c.args.parts.now) ≡ shapes (take i c.args.parts.now) ++ shape x ∷ [] =
    ap (λ n. shapes (take n c.args.parts.now)) (sym one)
    ∙ shapes_last c.args.parts.now i x (omega (arith, c.parts.invariant.inside)) c.index-parts-left.is in
    record {
      longer = omega (arith, c.parts.invariant.longer, c.in_ok-entry.ensures.longer);
      inside = omega (arith, c.parts.invariant.inside);
      made =
          ap (λ (m : List State × ℕ). emitted (cats (shapes (take i c.args.parts.now))) m.0 m.1) (sym c.in_ok-entry.ensures.made)
          ∙ sym (last_first (shapes (take i c.args.parts.now)) (shape x) c.parts.states.items c.parts.entry)
          ∙ ap (λ xs. emitted (cats xs) c.parts.states.items c.parts.entry) (sym split)
          ∙ c.parts.invariant.made;
    }

pub emit_row-returns-clause-made : goal.emit_row-returns-clause-made
emit_row-returns-clause-made t c =
    let none : c.parts.left ≡ 0 = omega arith in
    sym c.parts.invariant.made
    ∙ ap (λ n. emitted (cats (shapes (take n c.args.parts.now))) c.parts.states.items c.parts.entry) none
    ∙ row_of_none c.parts.states.items c.parts.entry

pub emit_branches-returns-then-is_empty-clause-made : goal.emit_branches-returns-then-is_empty-clause-made
emit_branches-returns-then-is_empty-clause-made t c =
    let none : c.args.parts.now ≡ [] = nil_from_length c.args.parts.now (eqb-true _ _ (sym c.is_empty.ensures ∙ c.if-is_empty.true)) in
    ap (λ xs. emitted (alts (shapes xs)) c.args.states.now.items c.args.next) none ∙ no_branches c.args.states.now.items c.args.next

pub emit_branches-branches-init : goal.emit_branches-branches-init
emit_branches-branches-init t c =
    let i : ℕ = length c.args.parts.now - 1 in
    let x = c.index-parts-left.result in
    let some : 0 < length c.args.parts.now = search rules in
    let split = shapes_split c.args.parts.now i x (omega arith) (omega arith) c.index-parts-left.is in
    record {
      longer = c.in_ok-entry.ensures.longer;
      inside = omega arith;
      made =
          ap (with_branches (shapes (take i c.args.parts.now)) c.args.next) (sym c.in_ok-entry.ensures.made)
          ∙ sym (branches_are (shapes (take i c.args.parts.now)) (shape x) c.args.states.now.items c.args.next)
          ∙ ap (λ xs. emitted (alts xs) c.args.states.now.items c.args.next) (sym split);
    }

pub emit_branches-branches-preserved : goal.emit_branches-branches-preserved
emit_branches-branches-preserved t c =
    let i : ℕ = c.branches.left - 1 in
    let x = c.index-parts-left-in-branches.result in
    let one : i + 1 ≡ c.branches.left = omega arith in
    let split : shapes (take c.branches.left c.args.parts.now) ≡ shapes (take i c.args.parts.now) ++ shape x ∷ [] =
    ap (λ n. shapes (take n c.args.parts.now)) (sym one)
    ∙ shapes_last c.args.parts.now i x (omega (arith, c.branches.invariant.inside)) c.index-parts-left-in-branches.is in
    record {
      longer = omega (arith, c.branches.invariant.longer, c.in_ok-first.ensures.longer, c.in_ok-entry-2.ensures.longer);
      inside = omega (arith, c.branches.invariant.inside);
      made =
          ap (with_branches (shapes (take i c.args.parts.now)) c.args.next)
          (sym (with_branch_is (shape x) c.args.next c.branches.entry c.branches.states.items _ _ _ _ c.in_ok-first.ensures.made c.in_ok-entry-2.ensures.states c.in_ok-entry-2.ensures.number))
          ∙ sym (with_branches_last (shapes (take i c.args.parts.now)) (shape x) c.args.next (c.branches.states.items, c.branches.entry))
          ∙ ap (λ xs. with_branches xs c.args.next (c.branches.states.items, c.branches.entry)) (sym split)
          ∙ c.branches.invariant.made;
    }

pub emit_branches-returns-clause-made : goal.emit_branches-returns-clause-made
emit_branches-returns-clause-made t c =
    let none : c.branches.left ≡ 0 = omega arith in
    sym c.branches.invariant.made
    ∙ ap (λ n. with_branches (shapes (take n c.args.parts.now)) c.args.next (c.branches.states.items, c.branches.entry)) none
    ∙ with_no_branches c.args.next (c.branches.states.items, c.branches.entry)
