-- What holds of each node of a tree before its references are resolved holds of each node after it.
use Rattle.std.proofs.Common.{◌≡◌, ℕ, ℤ, suc, Bool, true, false, ◌&&◌, List, ◌++◌, Option, Some, None, Ok, refl, sym, ◌∙◌, subst, true≢false}
use Rattle.std.specs.List.{list_all}
use Rattle.std.proofs.lemmas.Bool.{and_parts}
use Rattle.std.proofs.lemmas.List.Folds.{list_all-append}
use Rattle.fancy_regex_tree.specs.Tree as tree
use Rattle.fancy_regex_tree.specs.Tree.{Tree, Trees, Text, Target, no_trees, more_trees, empty, any, assertion, general_newline, literal, literal_bytes, concat, alt, look_around, delegate}
use Rattle.fancy_regex_tree.specs.Tree.{backref_with_level, atomic_group, keep_out, continue, backref_exists, subroutine_call, verb, absent_repeater, absent_expression, absent_stopper}
use Rattle.fancy_regex_tree.specs.Tree.{absent_clear, define_group, ast_group, ast_backref, ast_call, ast_condition}
use Rattle.fancy_regex_tree.specs.Traversal.{nodes, all_nodes}
use Rattle.fancy_regex_tree.specs.Numbering.{◌⨟◌, backref_of, call_of, call_target, group_target, resolved, all_resolved, last_named}
use Rattle.fancy_regex_tree_laws.specs.ParsedNodes.{is_parsed_node, NodesAreParsed}
use Rattle.fancy_regex_tree_laws.proofs.ResolvedGroupProofs.{answer, ok_same, after, all_hold}
use Rattle.fancy_regex_tree_laws.proofs.ParsedGroupProofs.{steps}

abbrev Kept : List Tree → Type 0
Kept ts = list_all is_parsed_node ts ≡ true

split : (xs ys : List Tree) → Kept (xs ++ ys) → Kept xs × Kept ys
split xs ys h = and_parts (list_all is_parsed_node xs) (list_all is_parsed_node ys) (sym (list_all-append is_parsed_node xs ys) ∙ h)

both : (xs ys : List Tree) → Kept xs → Kept ys → Kept (xs ++ ys)
both xs ys h k = list_all-append is_parsed_node xs ys ∙ (λ i. h i && k i)

-- a node that stays
stays : (n : ℕ) (t : Tree) (found : Tree × ℕ) → answer (t, n) ≡ Ok found → Kept (nodes t) → Kept (nodes found.0)
stays n t found h kept = subst (λ r. Kept (nodes r.0)) (ok_same (t, n) found h) kept

backref_kept : (level : Option ℤ) (casei : Bool) (g : ℕ) → Kept (nodes (backref_of level casei g))
backref_kept None casei g = refl
backref_kept (Some level) casei g = refl

call_kept : (target : Target) (position : ℕ) (o : Option ℕ) → Kept (nodes (elim o [ Some g ↦ subroutine_call g | None ↦ ast_call target position ]))
call_kept target position (Some g) = refl
call_kept target position None = refl

module _ (i : Bool) (g : Text → Option ℕ) where
  -- a node with one child, whose body is kept
  over : (n : ℕ) (e : Tree) (f : Tree → Tree) (found : Tree × ℕ) → (resolved i g n e ⨟ λ r. Ok (f r.0, r.1)) ≡ Ok found →
      ((r : Tree × ℕ) → resolved i g n e ≡ Ok r → Kept (nodes (f r.0))) → Kept (nodes found.0)
  over n e f found h below =
      let step = after (resolved i g n e) (λ r. Ok (f r.0, r.1)) found h in
      subst (λ r. Kept (nodes r.0)) (ok_same (f step.0.0, step.0.1) found step.2) (below step.0 step.1)

mutual
  kept : (i : Bool) (g : Text → Option ℕ) (n : ℕ) (t : Tree) (found : Tree × ℕ) → resolved i g n t ≡ Ok found → Kept (nodes t) → Kept (nodes found.0)
  kept i g n (concat es) found h k =
      let step = after (all_resolved i g n es) (λ r. Ok (concat r.0, r.1)) found h in
      subst (λ r. Kept (nodes r.0)) (ok_same (concat step.0.0, step.0.1) found step.2) (row_kept i g n es step.0 step.1 k)
  kept i g n (alt no_trees) found h k = absurd (true≢false (sym k))
  kept i g n (alt (more_trees e es)) found h k =
      let step = after (all_resolved i g n (more_trees e es)) (λ r. Ok (alt r.0, r.1)) found h in
      let first = after (resolved i g n e) (λ r. all_resolved i g r.1 es ⨟ λ others. Ok (more_trees r.0 others.0, others.1)) step.0 step.1 in
      let others = after (all_resolved i g first.0.1 es) (λ r. Ok (more_trees first.0.0 r.0, r.1)) step.0 first.2 in
      let parts = split (nodes e) (all_nodes es) k in
      let row : Kept (nodes first.0.0 ++ all_nodes others.0.0) =
      both (nodes first.0.0) (all_nodes others.0.0) (kept i g n e first.0 first.1 parts.0) (row_kept i g first.0.1 es others.0 others.1 parts.1) in
      subst (λ r. Kept (nodes r.0)) (ok_same (alt step.0.0, step.0.1) found step.2)
      (subst (λ r. Kept (nodes (alt r.0))) (ok_same (more_trees first.0.0 others.0.0, others.0.1) step.0 others.2) row)
  kept i g n (tree.group e) found h k = over i g (suc n) e (λ u. tree.group u) found h (λ r is. kept i g (suc n) e r is k)
  kept i g n (look_around e a) found h k = over i g n e (λ u. look_around u a) found h (λ r is. kept i g n e r is k)
  kept i g n (tree.repeat e lo hi greedy) found h k = over i g n e (λ u. tree.repeat u lo hi greedy) found h (λ r is. kept i g n e r is k)
  kept i g n (atomic_group e) found h k = over i g n e (λ u. atomic_group u) found h (λ r is. kept i g n e r is k)
  kept i g n (tree.conditional c a b) found h k =
      let first = after (resolved i g n c) (λ r. resolved i g r.1 a ⨟ λ second. resolved i g second.1 b ⨟ λ third. Ok (tree.conditional r.0 second.0 third.0, third.1)) found h in
      let second = after (resolved i g first.0.1 a) (λ r. resolved i g r.1 b ⨟ λ third. Ok (tree.conditional first.0.0 r.0 third.0, third.1)) found first.2 in
      let third = after (resolved i g second.0.1 b) (λ r. Ok (tree.conditional first.0.0 second.0.0 r.0, r.1)) found second.2 in
      let outer = split (nodes c) (nodes a ++ nodes b) k in
      let inner = split (nodes a) (nodes b) outer.1 in
      let all : Kept (nodes first.0.0 ++ (nodes second.0.0 ++ nodes third.0.0)) =
      both (nodes first.0.0) (nodes second.0.0 ++ nodes third.0.0) (kept i g n c first.0 first.1 outer.0)
      (both (nodes second.0.0) (nodes third.0.0) (kept i g first.0.1 a second.0 second.1 inner.0) (kept i g second.0.1 b third.0 third.1 inner.1)) in
      subst (λ r. Kept (nodes r.0)) (ok_same (tree.conditional first.0.0 second.0.0 third.0.0, third.0.1) found third.2) all
  kept i g n (absent_repeater e) found h k = over i g n e (λ u. absent_repeater u) found h (λ r is. kept i g n e r is k)
  kept i g n (absent_expression e d) found h k =
      let first = after (resolved i g n e) (λ r. resolved i g r.1 d ⨟ λ second. Ok (absent_expression r.0 second.0, second.1)) found h in
      let second = after (resolved i g first.0.1 d) (λ r. Ok (absent_expression first.0.0 r.0, r.1)) found first.2 in
      let parts = split (nodes e) (nodes d) k in
      let all : Kept (nodes first.0.0 ++ nodes second.0.0) =
      both (nodes first.0.0) (nodes second.0.0) (kept i g n e first.0 first.1 parts.0) (kept i g first.0.1 d second.0 second.1 parts.1) in
      subst (λ r. Kept (nodes r.0)) (ok_same (absent_expression first.0.0 second.0.0, second.0.1) found second.2) all
  kept i g n (absent_stopper e) found h k = over i g n e (λ u. absent_stopper u) found h (λ r is. kept i g n e r is k)
  kept i g n (define_group e) found h k = over i g n e (λ u. define_group u) found h (λ r is. kept i g n e r is k)
  kept i g n (ast_group (Some name) e position) found h k = over i g (suc n) e (λ u. tree.group u) found h (λ r is. kept i g (suc n) e r is k)
  kept false g n (ast_group None e position) found h k = over false g (suc n) e (λ u. tree.group u) found h (λ r is. kept false g (suc n) e r is k)
  kept true g n (ast_group None e position) found h k = kept true g n e found h k
  kept i g n (ast_backref target casei level position) found h k =
      let step = after (group_target g (Some n) n position target) (λ m. Ok (backref_of level casei m, n)) found h in
      stays n (backref_of level casei step.0) found step.2 (backref_kept level casei step.0)
  kept i g n (ast_call target position) found h k = stays n (call_of g n position target) found h (call_kept target position (call_target g n target))
  kept i g n (ast_condition target level position) found h k =
      let step = after (group_target g None n position target) (λ m. Ok (backref_exists m level, n)) found h in
      stays n (backref_exists step.0 level) found step.2 refl
  kept i g n t found h k = stays n t found h k

  row_kept : (i : Bool) (g : Text → Option ℕ) (n : ℕ) (ts : Trees) (found : Trees × ℕ) → all_resolved i g n ts ≡ Ok found → Kept (all_nodes ts) →
      Kept (all_nodes found.0)
  row_kept i g n no_trees found h k = subst (λ r. Kept (all_nodes r.0)) (ok_same (no_trees, n) found h) refl
  row_kept i g n (more_trees t ts) found h k =
      let first = after (resolved i g n t) (λ r. all_resolved i g r.1 ts ⨟ λ others. Ok (more_trees r.0 others.0, others.1)) found h in
      let others = after (all_resolved i g first.0.1 ts) (λ r. Ok (more_trees first.0.0 r.0, r.1)) found first.2 in
      let parts = split (nodes t) (all_nodes ts) k in
      let row : Kept (nodes first.0.0 ++ all_nodes others.0.0) =
      both (nodes first.0.0) (all_nodes others.0.0) (kept i g n t first.0 first.1 parts.0) (row_kept i g first.0.1 ts others.0 others.1 parts.1) in
      subst (λ r. Kept (all_nodes r.0)) (ok_same (more_trees first.0.0 others.0.0, others.0.1) found others.2) row

pub nodes_are_parsed : NodesAreParsed
nodes_are_parsed o t found h =
    let s = steps o t found h in
    all_hold is_parsed_node (nodes found.tree)
    (kept found.ignored (last_named found.names) 0 found.unresolved (found.tree, s.following) s.resolving s.read.well_made)
