-- The names and numbers of the groups of a pattern.
use Rattle.std.specs.Prelude.{◌≡◌, ℕ, zero, suc, List, Option, Some, None, String, Vec, chars, slice_get, IsUtf8, if◌then◌else◌}
use Rattle.std.specs.Global.{Global}
use Rattle.std.specs.BTreeMap.{BTreeMap}
use Rattle.std.specs.Str.{all_scalars}
use Rattle.fancy_regex_tree.specs.Tree.{Text}
use Rattle.fancy_regex_tree.specs.Numbering.{Names, numbers_of, numbers_under}

-- The map holds under each name the numbers of the groups with that name, where the list begins with the name of group 1.
abbrev pub AreGroupNumbersOf : BTreeMap (String Global) (Vec ℕ Global) → Names → Type 0
AreGroupNumbersOf named names = (q : List ℕ) → IsUtf8 q → numbers_under named q ≡ numbers_of (chars q) 0 names

-- a group's name, if it consists of Unicode scalar values
abbrev pub valid_name : Option (Option Text) → Option Text
valid_name None = None
valid_name (Some None) = None
valid_name (Some (Some name)) = if all_scalars name then Some name else None

-- the name of the group with this number; group 0 has none
abbrev pub name_at : Names → ℕ → Option Text
name_at names zero = None
name_at names (suc k) = valid_name (slice_get names k)
