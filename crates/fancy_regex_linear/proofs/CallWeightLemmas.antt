-- The weight of a tree by those of the trees below it, where weights stop at the greatest number.
use Rattle.std.proofs.Common.{◌≡◌, ◌∙◌, ℕ, ◌+◌, ◌-◌, ◌*◌, ◌==◌, max, min, Bool, List, [], ◌∷◌, ◌++◌, length, Box, Vec, Global, if◌then◌else◌, ap, arith}
use Rattle.fancy_regex_tree.specs.Tree.{Tree, Trees, trees, concat, alt, group, look_around, repeat, atomic_group, conditional}
use Rattle.fancy_regex_tree.specs.declared.expr.Expr.{Expr}
use Rattle.fancy_regex_tree.specs.declared.expr.Expr.TheVariants as view
use Rattle.fancy_regex_tree.specs.declared.expr.LookAround.{LookAround}
use Rattle.fancy_regex_meaning.specs.Sizes.{unbounded, add, bound_of, may_be_empty, repeat_weight, branch_gaps}
use Rattle.fancy_regex_info.specs.PropertyRules.{finite_weight, loop_weight}
use Rattle.fancy_regex_info.proofs.SaturationLemmas.{stop_add, stop_more, repeat_stops}
use Rattle.fancy_regex_linear.specs.Calls.{weight_with, weights_with}
use Rattle.fancy_regex_linear.specs.Translation.{all_trees}

-- the weight of a row with one more tree
pub weights_more : (groups : List Tree) (call : ℕ → ℕ) (ts : List Tree) (t : Tree)
    → weights_with groups call (trees (ts ++ t ∷ [])) ≡ weights_with groups call (trees ts) + weight_with groups call t
unfolding weight_with
weights_more groups call [] t = omega arith
weights_more groups call (u ∷ ts) t = omega (arith, weights_more groups call ts t)

-- one less than there are branches
pub gaps_are : (groups : List Tree) (es : List Expr) → branch_gaps groups (all_trees es) ≡ length es - 1
unfolding branch_gaps
gaps_are groups [] = omega arith
gaps_are groups (e ∷ []) = omega arith
gaps_are groups (e ∷ (f ∷ es)) = ap (λ (n : ℕ). n + 1) (gaps_are groups (f ∷ es)) ∙ omega arith

pub branches_stop : (gaps row b : ℕ) → b ≡ add (min unbounded row) (min unbounded (3 * gaps)) → b ≡ min unbounded (row + 3 * gaps)
branches_stop gaps row b h = h ∙ stop_add row (3 * gaps)

-- the weight of each kind of node, from those of its children
module _ (groups : List Tree) (call : ℕ → ℕ) where
  pub concat_weight : (ts : Trees) (w r : ℕ) → w ≡ min unbounded (weights_with groups call ts) → r ≡ max w 1
      → r ≡ min unbounded (weight_with groups call (concat ts))
  unfolding weight_with
  concat_weight ts w r is made = omega (arith, is, made)

  pub alt_weight : (ts : Trees) (r : ℕ) → r ≡ min unbounded (weights_with groups call ts + 3 * branch_gaps groups ts)
      → r ≡ min unbounded (weight_with groups call (alt ts))
  unfolding weight_with
  alt_weight ts r is = is

  pub group_weight : (t : Tree) (w r : ℕ) → w ≡ min unbounded (weight_with groups call t) → r ≡ add w 2
      → r ≡ min unbounded (weight_with groups call (group t))
  unfolding weight_with
  group_weight t w r is made = made ∙ ap (λ k. add k 2) is ∙ stop_more (weight_with groups call t) 2 (omega arith)

  pub look_weight : (t : Tree) (how : LookAround) (w r : ℕ) → w ≡ min unbounded (weight_with groups call t) → r ≡ add w 1
      → r ≡ min unbounded (weight_with groups call (look_around t how))
  unfolding weight_with
  look_weight t how w r is made = omega (arith, is, made)

  pub atomic_weight : (t : Tree) (w r : ℕ) → w ≡ min unbounded (weight_with groups call t) → r ≡ add w 1
      → r ≡ min unbounded (weight_with groups call (atomic_group t))
  unfolding weight_with
  atomic_weight t w r is made = omega (arith, is, made)

  pub repeat_weighs : (t : Tree) (lo hi : ℕ) (greedy : Bool) (w r : ℕ) (may : Bool) → w ≡ min unbounded (weight_with groups call t)
      → may ≡ may_be_empty groups t → r ≡ (if hi == unbounded then loop_weight lo w may else finite_weight lo hi w)
      → r ≡ min unbounded (weight_with groups call (repeat t lo hi greedy))
  unfolding weight_with
  repeat_weighs t lo hi greedy w r may is flag made =
      made
      ∙ ap (λ (k : ℕ). if hi == unbounded then loop_weight lo k may else finite_weight lo hi k) is
      ∙ repeat_stops groups lo hi (weight_with groups call t) may
      ∙ ap (λ b. min unbounded (repeat_weight groups lo (bound_of hi) (weight_with groups call t) b)) flag

-- a node that is no call, and none of those that have calls below them
pub record CallsNone (e : Expr) : Type 0 where
  pub concat : (ts : Vec Expr Global) → e ≡ view.Concat ts → ⊥
  pub alt : (ts : Vec Expr Global) → e ≡ view.Alt ts → ⊥
  pub group : (t : Box Expr Global) → e ≡ view.Group t → ⊥
  pub look_around : (t : Box Expr Global) (how : LookAround) → e ≡ view.LookAround t how → ⊥
  pub repeat : (t : Box Expr Global) (lo hi : ℕ) (greedy : Bool) → e ≡ view.Repeat t lo hi greedy → ⊥
  pub atomic : (t : Box Expr Global) → e ≡ view.AtomicGroup t → ⊥
  pub conditional : (c a b : Box Expr Global) → e ≡ view.Conditional c a b → ⊥
  pub call : (j : ℕ) → e ≡ view.SubroutineCall j → ⊥

-- the weight of a call of a group, by that of its body and its depth
pub body_stops : (weight deep w d : ℕ) → w ≡ min unbounded weight → d ≡ min unbounded deep
    → add w (min unbounded (d * 2)) ≡ min unbounded (weight + 2 * deep)
body_stops weight deep w d weighs is = omega (arith, weighs, is)
