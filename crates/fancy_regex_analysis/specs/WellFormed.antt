-- Well-formed trees: those that the parser can make.
use Rattle.std.specs.Prelude.{◌≡◌, ℕ, Bool, true, false, not, ◌&&◌, nat_lt, nat_le, Option, Some, None}
use Rattle.std.specs.List.{list_any}
use Rattle.fancy_regex_tree.specs.ReferenceSummary.{refers_to, is_call}
use Rattle.fancy_regex_tree.specs.Printable.{is_one_character}
use Rattle.fancy_regex_tree.specs.Tree.{Tree, literal, alt, group, repeat, no_trees}
use Rattle.fancy_regex_tree.specs.Traversal.{nodes}
use Rattle.fancy_regex_meaning.specs.Groups.{group_count}

-- the capture groups that a node is itself: one or none
abbrev pub own_groups : Tree → ℕ
own_groups (group t) = 1
own_groups _ = 0

-- an alternation without a branch, a literal that is not one character, or a repeat whose least count is above its greatest
abbrev pub is_ill_formed : Tree → Bool
is_ill_formed (alt no_trees) = true
is_ill_formed (literal val casei) = not (is_one_character val)
is_ill_formed (repeat t lo hi greedy) = nat_lt hi lo
is_ill_formed t = false

-- a back reference or a condition on a group up to the total that is not in the set
abbrev pub is_unlisted_reference : ℕ → (ℕ → Bool) → Option ℕ → Bool
is_unlisted_reference total set None = false
is_unlisted_reference total set (Some k) = nat_le k total && not (set k)

-- back references and conditions name this group, which is within the total
abbrev pub is_named_in : ℕ → Tree → ℕ → Bool
is_named_in total t k = nat_le k total && list_any (refers_to k) (nodes t)

-- Of a tree with so many groups, of which it is said whether something is called in it, and which groups its back references
-- and conditions name.
pub record IsWellFormed (t : Tree) (total : ℕ) (is_called : Bool) (set : ℕ → Bool) : Type 0 where
  pub nodes_are : list_any is_ill_formed (nodes t) ≡ false
  pub groups_are : total ≡ group_count t
  pub calls_are : is_called ≡ list_any is_call (nodes t)
  pub references_are : (k : ℕ) → set k ≡ is_named_in total t k
