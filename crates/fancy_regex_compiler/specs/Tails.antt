-- The end of a whole pattern: the last parts of its concatenation.
use Rattle.std.specs.Prelude.{◌≡◌, ℕ, ◌+◌, ◌<◌, ◌≤◌, true, false, List, length, map, slice_get, Some}
use Rattle.fancy_regex_tree.specs.Tree.{Trees, trees}
use Rattle.fancy_regex_desugar.specs.Delegates.{may_explode}
use Rattle.fancy_regex_info.specs.Infos.{info_of}
use Rattle.fancy_regex_info.specs.declared.info.Info.{Info}
use Rattle.fancy_regex_compiler.specs.Known.{is_plain_info, tree_in}

-- the trees of the parts of a row
abbrev pub row_trees : List Info → Trees
row_trees parts = trees (map (λ x. tree_in (info_of x)) parts)

-- From this index on the parts of the row are plain, and the part before it is not.
pub record IsPlainFrom (parts : List Info) (first : ℕ) : Type 0 where
  pub inside : first ≤ length parts
  pub plain : (k : ℕ) (x : Info) → first ≤ k → slice_get parts k ≡ Some x → is_plain_info (info_of x) ≡ true
  pub other : (k : ℕ) (x : Info) → k + 1 ≡ first → slice_get parts k ≡ Some x → is_plain_info (info_of x) ≡ false

-- At this index the tail of the row begins, if it has one: of the last parts, which are all plain, the first whose ways may be many.
pub record SplitsRow (parts : List Info) (first : ℕ) : Type 0 where
  pub from : ℕ
  pub last : IsPlainFrom parts from
  pub not_before : from ≤ first
  pub inside : first ≤ length parts
  pub other : (k : ℕ) (x : Info) → from ≤ k → k < first → slice_get parts k ≡ Some x → may_explode (tree_in (info_of x)) ≡ false
  pub many : (x : Info) → slice_get parts first ≡ Some x → may_explode (tree_in (info_of x)) ≡ true
