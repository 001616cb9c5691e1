-- Laws of the sizes: how many characters the ways of a pattern take.
use Rattle.std.specs.Prelude.{◌≡◌, ℕ, ◌<◌, ◌≤◌, ⊤, true, false, List, [], length, chars, slice_range}
use Rattle.std.specs.Str.{IsUtf8}
use Rattle.fancy_regex_tree.specs.Tree.{Tree, Trees, concat, alt, group, look_around, repeat, atomic_group, conditional, absent_repeater, absent_expression, absent_stopper, define_group, ast_group, no_trees, more_trees}
use Rattle.fancy_regex_meaning.specs.Sizes.{unbounded, size, may_be_empty}
use Rattle.fancy_regex_meaning.specs.Ways.{MatchState, Setting, ways}
use Rattle.fancy_regex_meaning.specs.WayLaws.{Each, HasCharBoundaries}

-- how many characters stand between two places
abbrev pub characters_between : List ℕ → ℕ → ℕ → ℕ
characters_between text p q = length (chars (slice_range text p q))

-- The bounds of each repeat in a tree are as they should be.
unfoldable mutual
  pub EachRepeat : (ℕ → ℕ → Type 0) → Tree → Type 0
  EachRepeat P (group t) = EachRepeat P t
  EachRepeat P (concat ts) = EachRepeatInRow P ts
  EachRepeat P (alt ts) = EachRepeatInRow P ts
  EachRepeat P (look_around t how) = EachRepeat P t
  EachRepeat P (repeat t lo hi greedy) = P lo hi × EachRepeat P t
  EachRepeat P (atomic_group t) = EachRepeat P t
  EachRepeat P (conditional c a b) = EachRepeat P c × EachRepeat P a × EachRepeat P b
  EachRepeat P (absent_repeater t) = EachRepeat P t
  EachRepeat P (absent_expression a t) = EachRepeat P a × EachRepeat P t
  EachRepeat P (absent_stopper t) = EachRepeat P t
  EachRepeat P (define_group t) = EachRepeat P t
  EachRepeat P (ast_group name t position) = EachRepeat P t
  EachRepeat P _ = ⊤

  pub EachRepeatInRow : (ℕ → ℕ → Type 0) → Trees → Type 0
  EachRepeatInRow P no_trees = ⊤
  EachRepeatInRow P (more_trees t ts) = EachRepeat P t × EachRepeatInRow P ts

-- no repeat's least count is above its greatest
abbrev pub IsInOrder : Tree → Type 0
IsInOrder = EachRepeat (λ lo hi. lo ≤ hi)

module _ (s : Setting) (groups : List Tree) where
  -- each way of the tree from here takes a number of characters that passes
  abbrev pub EachTakes : (ℕ → Type 0) → ℕ → Tree → MatchState → Type 0
  EachTakes P n t w = Each (λ v. P (characters_between s.text w.position v.position)) (ways s groups n t w)

  -- In a text, from a way that cuts it between characters, each way takes at least as many as the least size says.
  abbrev pub LeastIsLowerBound : Type 0
  LeastIsLowerBound = IsUtf8 s.text → (n : ℕ) (t : Tree) (w : MatchState) → HasCharBoundaries s.text w →
      EachTakes (λ c. (size groups t).least ≤ c) n t w

  -- and at most as many as the greatest, where that is a bound and no repeat is reversed
  abbrev pub GreatestIsUpperBound : Type 0
  GreatestIsUpperBound = IsUtf8 s.text → Each IsInOrder groups → (n : ℕ) (t : Tree) (w : MatchState) → HasCharBoundaries s.text w → IsInOrder t →
      (size groups t).greatest < unbounded → EachTakes (λ c. c ≤ (size groups t).greatest) n t w

  -- and exactly the least, where the size is always the same and ends
  abbrev pub ConstSizeIsExact : Type 0
  ConstSizeIsExact = IsUtf8 s.text → Each IsInOrder groups → (n : ℕ) (t : Tree) (w : MatchState) → HasCharBoundaries s.text w → IsInOrder t →
      (size groups t).always ≡ true → (size groups t).least < unbounded → EachTakes (λ c. c ≡ (size groups t).least) n t w

  -- What may not be empty moves on in the text on each way.
  abbrev pub NonEmptyMoves : Type 0
  NonEmptyMoves = IsUtf8 s.text → (n : ℕ) (t : Tree) (w : MatchState) → HasCharBoundaries s.text w → may_be_empty groups t ≡ false →
      Each (λ v. w.position < v.position) (ways s groups n t w)

  -- Where the least has no bound, there is no way, as no text is so long.
  abbrev pub UnboundedLeastHasNoWay : Type 0
  UnboundedLeastHasNoWay = IsUtf8 s.text → length s.text < unbounded → (n : ℕ) (t : Tree) (w : MatchState) → HasCharBoundaries s.text w →
      (size groups t).least ≡ unbounded → ways s groups n t w ≡ []
