-- Calls of groups that are written out in place: which may be, what they weigh, and what they become.
use Rattle.std.specs.Prelude.{◌≡◌, ◌<◌, ℕ, zero, suc, ◌+◌, ◌*◌, max, min, Bool, false, not, ◌==◌, List, length, slice_get, Option, Some, None}
use Rattle.fancy_regex_tree.specs.Tree.{Tree, Trees, Text, concat, alt, group, look_around, repeat, atomic_group, conditional, keep_out, subroutine_call, no_trees, more_trees}
use Rattle.fancy_regex_tree.specs.Bounds.{depth as tree_depth}
use Rattle.fancy_regex_meaning.specs.Groups.{Pattern}
use Rattle.fancy_regex_info.specs.Views.{pattern_in}
use Rattle.fancy_regex_meaning.specs.Sizes.{target, bound_of, may_be_empty, repeat_weight, branch_gaps}
use Rattle.fancy_regex_linear.specs.Plain.{IsRegular, classes, re_of}
use Rattle.fancy_regex_linear.specs.Re.{Re}

-- the pattern is that of a tree, whose groups count from 1, or from 0
abbrev pub IsOfTree : Pattern → Type 0
IsOfTree pattern = (explicit : Bool) × (t : Tree) × (pattern ≡ pattern_in explicit t)

-- the tree does not write group 0 itself: that holds where the match begins, and `\K` may reset it
abbrev pub has_own_span : Pattern → Bool
has_own_span pattern = not (pattern.first_group == 0)

-- How deep calls may nest: 18 of them, or as many as there are groups where these are fewer. No call that does not recur nests deeper than
-- there are groups.
abbrev pub greatest_nesting : ℕ → ℕ
greatest_nesting count = min 18 count

-- what holds of the body of a group, if there is that group
abbrev pub OfBody : (Tree → Type 0) → Option Tree → Type 0
OfBody P None = ⊥
OfBody P (Some body) = P body

-- the classes of a tree stand among these, from this number on
abbrev pub AreAt : List (Text × Bool) → ℕ → List (Text × Bool) → Type 0
AreAt cs k xs = (j : ℕ) → j < length xs → slice_get cs (k + j) ≡ slice_get xs j

-- over the bodies of all groups
module _ (groups : List Tree) where
  -- a call of this group can be written out, where calls nest at most so deep; no `\K` is in it
  unfoldable pub IsCallable : ℕ → ℕ → Type 0
  IsCallable zero j = ⊥
  IsCallable (suc depth) j = OfBody (IsRegular false (IsCallable depth)) (target groups j)

  -- The tree with its calls written out is regular, where `\K` may reset the start of the match or not. A call that recurs has no such form.
  abbrev pub IsWrittenOut : Bool → Tree → Type 0
  IsWrittenOut resets = IsRegular resets (IsCallable (greatest_nesting (length groups)))

  -- The weight of a node, where that of calls is given. A definition weighs 1, whatever is in it.
  unfoldable mutual
    pub weight_with : (ℕ → ℕ) → Tree → ℕ
    weight_with call (subroutine_call j) = call j
    weight_with call keep_out = 3
    weight_with call (concat ts) = max 1 (weights_with call ts)
    weight_with call (alt ts) = weights_with call ts + 3 * branch_gaps groups ts
    weight_with call (group t) = weight_with call t + 2
    weight_with call (repeat t lo hi greedy) = repeat_weight groups lo (bound_of hi) (weight_with call t) (may_be_empty groups t)
    weight_with call (look_around t how) = 1 + weight_with call t
    weight_with call (atomic_group t) = 1 + weight_with call t
    weight_with call (conditional c a b) = 1 + (weight_with call c + (weight_with call a + weight_with call b))
    weight_with call t = 1

    pub weights_with : (ℕ → ℕ) → Trees → ℕ
    weights_with call no_trees = 0
    weights_with call (more_trees t ts) = weight_with call t + weights_with call ts

  -- The weight of a call of a group with this body, where that of the calls in it is given: that of the body, and twice its depth. So what is
  -- written out is no deeper than the tree that is read and half of its weight: 832 and 2,000 at most (`written_low` of `DepthLemmas`).
  abbrev pub body_weight : (ℕ → ℕ) → Tree → ℕ
  body_weight call body = weight_with call body + 2 * tree_depth body

  -- the weight of a call, where calls nest at most so deep; what nests deeper weighs 1
  unfoldable pub call_weight : ℕ → ℕ → ℕ
  call_weight zero j = 1
  call_weight (suc depth) j = elim (target groups j) [ None ↦ 1 | Some body ↦ body_weight (call_weight depth) body ]

  -- the weight of a tree, each call counted as the body of its group and twice its depth
  abbrev pub written_weight : Tree → ℕ
  written_weight = weight_with (call_weight (greatest_nesting (length groups)))

  -- A pattern is that of a group's body, with what the calls in it become: its groups have their own numbers, and its classes stand somewhere
  -- among these. The pair of the group itself is not written.
  abbrev pub IsOfBody : Bool → List (Text × Bool) → (ℕ → Re → Type 0) → ℕ → Re → Tree → Type 0
  IsOfBody unicode cs inside j x body =
      (called : ℕ → Re) × (base : ℕ) × IsRegular false (λ i. inside i (called i)) body
      × (x ≡ re_of unicode groups called (j + 1) base body) × AreAt cs base (classes body)

  -- the pattern that a call of this group becomes, where calls nest at most so deep
  unfoldable pub IsCalled : Bool → List (Text × Bool) → ℕ → ℕ → Re → Type 0
  IsCalled unicode cs zero j x = ⊥
  IsCalled unicode cs (suc depth) j x = OfBody (IsOfBody unicode cs (IsCalled unicode cs depth) j x) (target groups j)
