-- Trees whose only quantifiers are `?`, `*` and `+`.
use Rattle.std.specs.Prelude.{◌≡◌, ◌≤◌, ◌⊎◌, false, List}
use Rattle.fancy_regex_tree.specs.Tree.{Tree, Trees, no_trees, more_trees, concat, alt, group, look_around, repeat, atomic_group, conditional, absent_repeater, absent_expression}
use Rattle.fancy_regex_tree.specs.Tree.{absent_stopper, define_group, ast_group}
use Rattle.fancy_regex_meaning.specs.Sizes.{unbounded, may_be_empty}

-- over the bodies of all groups by their numbers
module _ (groups : List Tree) where
  abbrev mutual
    -- Each quantifier in the tree has a lower bound of at most 1 and an upper bound of at most 1 or none; one without an upper bound applies
    -- to an expression that cannot match the empty string.
    pub HasNoCountedRepeats : Tree → Type 0
    HasNoCountedRepeats (concat ts) = HaveNoCountedRepeats ts
    HasNoCountedRepeats (alt ts) = HaveNoCountedRepeats ts
    HasNoCountedRepeats (group t) = HasNoCountedRepeats t
    HasNoCountedRepeats (look_around t how) = HasNoCountedRepeats t
    HasNoCountedRepeats (repeat t lo hi greedy) =
        (lo ≤ 1) × ((hi ≤ 1) ⊎ ((hi ≡ unbounded) × (may_be_empty groups t ≡ false))) × HasNoCountedRepeats t
    HasNoCountedRepeats (atomic_group t) = HasNoCountedRepeats t
    HasNoCountedRepeats (conditional c t u) = HasNoCountedRepeats c × HasNoCountedRepeats t × HasNoCountedRepeats u
    HasNoCountedRepeats (absent_repeater t) = HasNoCountedRepeats t
    HasNoCountedRepeats (absent_expression a t) = HasNoCountedRepeats a × HasNoCountedRepeats t
    HasNoCountedRepeats (absent_stopper t) = HasNoCountedRepeats t
    HasNoCountedRepeats (define_group t) = HasNoCountedRepeats t
    HasNoCountedRepeats (ast_group name t position) = HasNoCountedRepeats t
    HasNoCountedRepeats _ = Unit {0}

    -- the same for each tree of a list
    pub HaveNoCountedRepeats : Trees → Type 0
    HaveNoCountedRepeats no_trees = Unit {0}
    HaveNoCountedRepeats (more_trees t ts) = HasNoCountedRepeats t × HaveNoCountedRepeats ts
