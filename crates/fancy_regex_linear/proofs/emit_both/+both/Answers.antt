use Rattle.std.proofs.Common.{◌≡◌, ℕ, ◌+◌, ◌-◌, ◌∙◌, ◌++◌, ◌∷◌, [], List, take, length, ap, sym, arith, rules, ◌<◌, eqb-true}
use Rattle.std.proofs.lemmas.List.{nil_from_length}
use Rattle.fancy_regex_linear.specs.Re.{shape, shapes, cats, alts}
use Rattle.fancy_regex_linear.specs.Program.{emitted_both, with_branches_both}
use Rattle.fancy_regex_states.specs.declared.state.State.{State}
use Rattle.fancy_regex_linear.proofs.RowLemmas.{last_first_both, row_of_none_both, no_branches_both, with_no_branches_both, with_branches_last_both, with_branch_is_both, branches_are_both, shapes_last, shapes_split}
use Rattle.fancy_regex_linear.proofs.emit_both.+both.Goals as goal

pub emit_row_both-parts-preserved : goal.emit_row_both-parts-preserved
emit_row_both-parts-preserved t c =
    let i : ℕ = c.parts.left - 1 in
    let x = c.index-parts-left.result in
    let one : i + 1 ≡ c.parts.left = omega arith in
    let split : shapes (take c.parts.left c.args.parts.now) ≡ shapes (take i c.args.parts.now) ++ shape x ∷ [] =
    ap (λ n. shapes (take n c.args.parts.now)) (sym one)
    ∙ shapes_last c.args.parts.now i x (omega (arith, c.parts.invariant.inside)) c.index-parts-left.is in
    record {
      longer = omega (arith, c.parts.invariant.longer, c.in_ok-entries.ensures.longer);
      inside = omega (arith, c.parts.invariant.inside);
      made =
          ap (λ (m : List State × ℕ × ℕ). emitted_both (cats (shapes (take i c.args.parts.now))) m.0 m.1 m.2) (sym c.in_ok-entries.ensures.made)
          ∙ sym (last_first_both (shapes (take i c.args.parts.now)) (shape x) c.parts.states.items c.parts.first c.parts.second)
          ∙ ap (λ xs. emitted_both (cats xs) c.parts.states.items c.parts.first c.parts.second) (sym split)
          ∙ c.parts.invariant.made;
    }

pub emit_row_both-returns-clause-made : goal.emit_row_both-returns-clause-made
emit_row_both-returns-clause-made t c =
    let none : c.parts.left ≡ 0 = omega arith in
    sym c.parts.invariant.made
    ∙ ap (λ n. emitted_both (cats (shapes (take n c.args.parts.now))) c.parts.states.items c.parts.first c.parts.second) none
    ∙ row_of_none_both c.parts.states.items c.parts.first c.parts.second

pub emit_branches_both-returns-then-is_empty-clause-made : goal.emit_branches_both-returns-then-is_empty-clause-made
emit_branches_both-returns-then-is_empty-clause-made t c =
    let none : c.args.parts.now ≡ [] = nil_from_length c.args.parts.now (eqb-true _ _ (sym c.is_empty.ensures ∙ c.if-is_empty.true)) in
    ap (λ xs. emitted_both (alts (shapes xs)) c.args.states.now.items c.args.same c.args.moved) none
    ∙ no_branches_both c.args.states.now.items c.args.same c.args.moved

pub emit_branches_both-branches-init : goal.emit_branches_both-branches-init
emit_branches_both-branches-init t c =
    let i : ℕ = length c.args.parts.now - 1 in
    let x = c.index-parts-left.result in
    let some : 0 < length c.args.parts.now = search rules in
    let split = shapes_split c.args.parts.now i x (omega arith) (omega arith) c.index-parts-left.is in
    record {
      longer = c.in_ok-first.ensures.longer;
      inside = omega arith;
      made =
          ap (with_branches_both (shapes (take i c.args.parts.now)) c.args.same c.args.moved) (sym c.in_ok-first.ensures.made)
          ∙ sym (branches_are_both (shapes (take i c.args.parts.now)) (shape x) c.args.states.now.items c.args.same c.args.moved)
          ∙ ap (λ xs. emitted_both (alts xs) c.args.states.now.items c.args.same c.args.moved) (sym split);
    }

pub emit_branches_both-branches-preserved : goal.emit_branches_both-branches-preserved
emit_branches_both-branches-preserved t c =
    let i : ℕ = c.branches.left - 1 in
    let x = c.index-parts-left-in-branches.result in
    let one : i + 1 ≡ c.branches.left = omega arith in
    let split : shapes (take c.branches.left c.args.parts.now) ≡ shapes (take i c.args.parts.now) ++ shape x ∷ [] =
    ap (λ n. shapes (take n c.args.parts.now)) (sym one)
    ∙ shapes_last c.args.parts.now i x (omega (arith, c.branches.invariant.inside)) c.index-parts-left-in-branches.is in
    record {
      longer = omega (arith, c.branches.invariant.longer, c.in_ok-entries.ensures.longer, c.in_ok-heads.ensures.longer);
      inside = omega (arith, c.branches.invariant.inside);
      made =
          ap (with_branches_both (shapes (take i c.args.parts.now)) c.args.same c.args.moved)
          (sym (with_branch_is_both (shape x) c.args.same c.args.moved c.branches.first c.branches.second c.branches.states.items _ _ _ _ _ _ c.in_ok-entries.ensures.made c.in_ok-heads.ensures.states c.in_ok-heads.ensures.numbers.0 c.in_ok-heads.ensures.numbers.1))
          ∙ sym (with_branches_last_both (shapes (take i c.args.parts.now)) (shape x) c.args.same c.args.moved (c.branches.states.items, c.branches.first, c.branches.second))
          ∙ ap (λ xs. with_branches_both xs c.args.same c.args.moved (c.branches.states.items, c.branches.first, c.branches.second)) (sym split)
          ∙ c.branches.invariant.made;
    }

pub emit_branches_both-returns-clause-made : goal.emit_branches_both-returns-clause-made
emit_branches_both-returns-clause-made t c =
    let none : c.branches.left ≡ 0 = omega arith in
    sym c.branches.invariant.made
    ∙ ap (λ n. with_branches_both (shapes (take n c.args.parts.now)) c.args.same c.args.moved (c.branches.states.items, c.branches.first, c.branches.second)) none
    ∙ with_no_branches_both c.args.same c.args.moved (c.branches.states.items, c.branches.first, c.branches.second)
