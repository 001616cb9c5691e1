-- What the analysis of a node is given, and the relation of its result to the definitions.
use Rattle.std.specs.Prelude.{◌≡◌, ℕ, ◌+◌, ◌^◌, ◌<◌, Bool, true, false, not, List, map, slice_get, Option, Some, None}
use Rattle.fancy_regex_tree.specs.Tree.{Tree, Trees, subroutine_call}
use Rattle.fancy_regex_meaning.specs.Termination.{has_parts}
use Rattle.fancy_regex_meaning.specs.Groups.{group_count, row_group_count}
use Rattle.fancy_regex_meaning.specs.Sizes.{size, size_with}
use Rattle.fancy_regex_info.specs.Views.{size_at}
use Rattle.fancy_regex_info.specs.Infos.{InfoTree, InfoTrees, known, infos, info_of, properties_of, expected_info, expected_infos}
use Rattle.fancy_regex_info.specs.declared.analyze_node.Parts.{Parts}
use Rattle.fancy_regex_info.specs.declared.size.Size as code

-- `calls` holds the sizes of subroutine calls, by group number.
abbrev pub AreCallSizes : List Tree → List code.Size → Type 0
AreCallSizes groups calls = (t : Tree) → size groups t ≡ size_with (size_at calls) t

abbrev pub or_false : Option Bool → Bool
or_false None = false
or_false (Some b) = b

abbrev pub mark_at : List Bool → ℕ → Bool
mark_at read k = or_false (slice_get read k)

-- `x` is the analysis of the tree, given the sizes of calls and the marked groups, if its group numbers fit in 64 bits.
abbrev pub IsAnalysisOf : List code.Size → List Bool → ℕ → Tree → InfoTree → Type 0
IsAnalysisOf calls read n t x =
    (groups : List Tree) → AreCallSizes groups calls → n + group_count t < 2 ^ 64 → x ≡ expected_info groups (mark_at read) n t

-- `xs` is the analysis of the trees in a row, and m the number of the next group after them.
abbrev pub AreAnalysesOf : List code.Size → List Bool → ℕ → Trees → InfoTrees → ℕ → Type 0
AreAnalysesOf calls read n ts xs m =
    (groups : List Tree) → AreCallSizes groups calls → n + row_group_count ts < 2 ^ 64 →
    (xs ≡ expected_infos groups (mark_at read) n ts) × (m ≡ n + row_group_count ts)

-- a node of this tree by its parts
abbrev pub node_of : Parts → Tree → InfoTree
node_of p t = known (properties_of p.properties) t (infos (map info_of p.children.items))

-- a node without parts
abbrev pub is_leaf : Tree → Bool
is_leaf (subroutine_call k) = true
is_leaf t = not (has_parts t)
