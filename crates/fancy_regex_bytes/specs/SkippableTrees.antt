-- Start bytes by the sizes of calls that the code holds.
use Rattle.std.specs.Prelude.{Bool, List, Option, ◌==◌}
use Rattle.fancy_regex_tree.specs.Tree.{Tree, Trees}
use Rattle.fancy_regex_meaning.specs.Sizes.{size_with}
use Rattle.fancy_regex_info.specs.Views.{size_at}
use Rattle.fancy_regex_info.specs.declared.size.Size as code
use Rattle.fancy_regex_class.specs.Classes.{in_class, folded}
use Rattle.fancy_regex_bytes.specs.ByteSets.{Bytes}
use Rattle.fancy_regex_bytes.specs.StartBytes.{start_set, row_start_set, branches_start_set}

-- whether a tree whose calls have these sizes may match the empty string
abbrev pub is_skippable : List code.Size → Tree → Bool
is_skippable sizes t = (size_with (size_at sizes) t).least == 0

-- in Unicode mode or outside it
abbrev pub start_set_in : Bool → List code.Size → Tree → Option Bytes
start_set_in unicode sizes = start_set (in_class unicode) (folded unicode) (is_skippable sizes)

abbrev pub row_set_in : Bool → List code.Size → Trees → Option Bytes
row_set_in unicode sizes = row_start_set (in_class unicode) (folded unicode) (is_skippable sizes)

abbrev pub branches_set_in : Bool → List code.Size → Trees → Option Bytes
branches_set_in unicode sizes = branches_start_set (in_class unicode) (folded unicode) (is_skippable sizes)
