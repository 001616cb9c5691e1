-- What stands in a group stands where the group does.
use Rattle.std.proofs.Common.{◌≡◌, ◌⊎◌, ◌∙◌, ℕ, zero, suc, ◌+◌, List, Option, Some, None, slice_get, refl, sym, ap, subst, inl, inr, ⊎_elim, zero-add, arith, Bool, true, false}
use Rattle.std.proofs.lemmas.Option.{none-some, same_Some}
use Rattle.fancy_regex_tree.specs.Tree.{Tree, Trees, concat, alt, group, look_around, repeat, atomic_group, conditional, absent_repeater, absent_expression, absent_stopper, define_group, ast_group, no_trees, more_trees}
use Rattle.fancy_regex_meaning.specs.Groups.{Pattern, group_count}
use Rattle.fancy_regex_meaning.specs.GroupLaws.{AreSame, OccursAt, OccursInRowAt}
use Rattle.fancy_regex_meaning.proofs.GroupProofs.{bodies_stand, targets_are_groups}
use Rattle.fancy_regex_info.specs.Views.{pattern_in}
use Rattle.fancy_regex_linear.specs.Calls.{IsOfTree}

abbrev body_of : Tree → Option Tree
body_of (group t) = Some t
body_of _ = None

other : (n : ℕ) (t : Tree) (j : ℕ) (body : Tree) (P : Type 0) → body_of t ≡ None → AreSame n t j (group body) → P
other n t j body P e same = absurd (none-some body (sym e ∙ ap body_of same.1))

module _ (j : ℕ) (body : Tree) (k : ℕ) (x : Tree) (there : OccursAt (j + 1) body k x) where
  here : (n : ℕ) (t : Tree) → AreSame n (group t) j (group body) → OccursAt (n + 1) t k x
  here n t same =
      subst (λ (u : Tree). OccursAt (n + 1) u k x) (sym (same_Some t body (ap body_of same.1)))
      (subst (λ (m : ℕ). OccursAt (m + 1) body k x) (sym same.0) there)

  mutual
    unfolding OccursAt

    within : (n : ℕ) (t : Tree) → OccursAt n t j (group body) → OccursAt n t k x
    within n (group t) o = inr (⊎_elim (λ (same : AreSame n (group t) j (group body)). here n t same) (λ (p : OccursAt (n + 1) t j (group body)). within (n + 1) t p) o)
    within n (concat ts) o =
        inr (⊎_elim (λ (same : AreSame n (concat ts) j (group body)). other n (concat ts) j body _ refl same) (λ (p : OccursInRowAt n ts j (group body)). row_within n ts p) o)
    within n (alt ts) o =
        inr (⊎_elim (λ (same : AreSame n (alt ts) j (group body)). other n (alt ts) j body _ refl same) (λ (p : OccursInRowAt n ts j (group body)). row_within n ts p) o)
    within n (look_around t how) o =
        inr (⊎_elim (λ (same : AreSame n (look_around t how) j (group body)). other n (look_around t how) j body _ refl same) (λ (p : OccursAt n t j (group body)). within n t p) o)
    within n (repeat t lo hi greedy) o =
        inr (⊎_elim (λ (same : AreSame n (repeat t lo hi greedy) j (group body)). other n (repeat t lo hi greedy) j body _ refl same) (λ (p : OccursAt n t j (group body)). within n t p) o)
    within n (atomic_group t) o =
        inr (⊎_elim (λ (same : AreSame n (atomic_group t) j (group body)). other n (atomic_group t) j body _ refl same) (λ (p : OccursAt n t j (group body)). within n t p) o)
    within n (absent_repeater t) o =
        inr (⊎_elim (λ (same : AreSame n (absent_repeater t) j (group body)). other n (absent_repeater t) j body _ refl same) (λ (p : OccursAt n t j (group body)). within n t p) o)
    within n (absent_stopper t) o =
        inr (⊎_elim (λ (same : AreSame n (absent_stopper t) j (group body)). other n (absent_stopper t) j body _ refl same) (λ (p : OccursAt n t j (group body)). within n t p) o)
    within n (define_group t) o =
        inr (⊎_elim (λ (same : AreSame n (define_group t) j (group body)). other n (define_group t) j body _ refl same) (λ (p : OccursAt n t j (group body)). within n t p) o)
    within n (ast_group name t position) o =
        inr (⊎_elim (λ (same : AreSame n (ast_group name t position) j (group body)). other n (ast_group name t position) j body _ refl same) (λ (p : OccursAt n t j (group body)). within n t p) o)
    within n (absent_expression a t) o =
        inr (⊎_elim (λ (same : AreSame n (absent_expression a t) j (group body)). other n (absent_expression a t) j body _ refl same)
        (λ (p : OccursAt n a j (group body) ⊎ OccursAt (n + group_count a) t j (group body)).
        ⊎_elim (λ (l : OccursAt n a j (group body)). inl (within n a l)) (λ (r : OccursAt (n + group_count a) t j (group body)). inr (within (n + group_count a) t r)) p) o)
    within n (conditional c a b) o =
        inr (⊎_elim (λ (same : AreSame n (conditional c a b) j (group body)). other n (conditional c a b) j body _ refl same)
        (λ (p : OccursAt n c j (group body) ⊎ (OccursAt (n + group_count c) a j (group body) ⊎ OccursAt (n + group_count c + group_count a) b j (group body))).
        ⊎_elim (λ (l : OccursAt n c j (group body)). inl (within n c l))
        (λ (q : OccursAt (n + group_count c) a j (group body) ⊎ OccursAt (n + group_count c + group_count a) b j (group body)).
        inr (⊎_elim (λ (l : OccursAt (n + group_count c) a j (group body)). inl (within (n + group_count c) a l))
        (λ (r : OccursAt (n + group_count c + group_count a) b j (group body)). inr (within (n + group_count c + group_count a) b r)) q)) p) o)
    within n t o = other n t j body _ refl o

    row_within : (n : ℕ) (ts : Trees) → OccursInRowAt n ts j (group body) → OccursInRowAt n ts k x
    row_within n no_trees o = o
    row_within n (more_trees t ts) o =
        ⊎_elim (λ (p : OccursAt n t j (group body)). inl (within n t p)) (λ (p : OccursInRowAt (n + group_count t) ts j (group body)). inr (row_within (n + group_count t) ts p)) o

-- the groups that stand in the tree, where the first one has this number, are among these
abbrev pub Stands : List Tree → ℕ → Tree → Type 0
Stands groups n t = (k : ℕ) (body : Tree) → OccursAt n t k (group body) → slice_get groups k ≡ Some body

-- all bodies are so
abbrev pub AllStand : List Tree → Type 0
AllStand groups = (j : ℕ) (body : Tree) → slice_get groups j ≡ Some body → Stands groups (j + 1) body

pub tree_stands : (explicit : Bool) (t : Tree) → Stands (pattern_in explicit t).groups (pattern_in explicit t).first_group (pattern_in explicit t).tree
tree_stands true t k body o = (targets_are_groups t k body).1 o
tree_stands false t k body o = (targets_are_groups t k body).0 o

pub bodies_all_stand : (explicit : Bool) (t : Tree) → AllStand (pattern_in explicit t).groups
bodies_all_stand true t j body e k inner o = (targets_are_groups t k inner).1 (within j body k (group inner) o 0 t
    (subst (λ (m : ℕ). OccursAt 0 t m (group body)) (zero-add j) (bodies_stand 0 t j body e)))
bodies_all_stand false t zero body e k inner o = (targets_are_groups t k inner).0 (subst (λ (u : Tree). OccursAt 1 u k (group inner)) (sym (same_Some t body e)) o)
bodies_all_stand false t (suc j) body e k inner o = (targets_are_groups t k inner).0 (within (suc j) body k (group inner) o 1 t
    (subst (λ (m : ℕ). OccursAt 1 t m (group body)) (let one : 1 + j ≡ suc j = omega arith in one) (bodies_stand 1 t j body e)))

-- so it is in a pattern that is that of a tree
module _ (pattern : Pattern) (of : IsOfTree pattern) where
  pub pattern_stands : Stands pattern.groups pattern.first_group pattern.tree
  pattern_stands = subst (λ (p : Pattern). Stands p.groups p.first_group p.tree) (sym of.2) (tree_stands of.0 of.1)

  pub pattern_bodies_stand : AllStand pattern.groups
  pattern_bodies_stand = subst (λ (p : Pattern). AllStand p.groups) (sym of.2) (bodies_all_stand of.0 of.1)
