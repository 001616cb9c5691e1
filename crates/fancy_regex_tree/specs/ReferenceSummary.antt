-- The summary of a pattern: its groups, and what its references refer to.
use Rattle.std.specs.Prelude.{ℕ, zero, suc, Bool, true, false, ◌&&◌, ◌==◌, nat_lt, nat_le, length, Option, Some, None, if◌then◌else◌}
use Rattle.std.specs.List.{list_any}
use Rattle.fancy_regex_tree.specs.Tree.{Tree, Target, by_number, by_name, relative, backref, backref_with_level, backref_exists, subroutine_call, ast_group, ast_backref, ast_call, ast_condition}
use Rattle.fancy_regex_tree.specs.Traversal.{nodes}
use Rattle.fancy_regex_tree.specs.Parse.{Parsed}

-- a back reference or a condition on this group
abbrev pub refers_to : ℕ → Tree → Bool
refers_to k (backref g casei) = g == k
refers_to k (backref_with_level g level casei) = g == k
refers_to k (backref_exists g level) = g == k
refers_to k _ = false

-- the group of a back reference or a condition
abbrev pub back_group : Tree → Option ℕ
back_group (backref g casei) = Some g
back_group (backref_with_level g level casei) = Some g
back_group (backref_exists g level) = Some g
back_group _ = None

abbrev pub up_to_total : ℕ → Option ℕ → Option ℕ
up_to_total total None = None
up_to_total total (Some g) = if nat_le g total then Some g else None

-- a named capture group
abbrev pub is_named : Tree → Bool
is_named (ast_group (Some name) t position) = true
is_named _ = false

-- a call, resolved or not
abbrev pub is_call : Tree → Bool
is_call (subroutine_call g) = true
is_call (ast_call target position) = true
is_call _ = false

-- a call of the whole pattern
abbrev pub is_call_of_whole : Tree → Bool
is_call_of_whole (subroutine_call g) = g == 0
is_call_of_whole _ = false

-- a back reference, a condition or a call of a group above this number
abbrev pub is_reference_above : ℕ → Tree → Bool
is_reference_above total (backref g casei) = nat_lt total g
is_reference_above total (backref_with_level g level casei) = nat_lt total g
is_reference_above total (backref_exists g level) = nat_lt total g
is_reference_above total (subroutine_call g) = nat_lt total g
is_reference_above total _ = false

abbrev pub is_not_by_name : Target → Bool
is_not_by_name (by_name name) = false
is_not_by_name (by_number k) = true
is_not_by_name (relative k) = true

-- a target other than the whole pattern, by number or relative
abbrev pub is_group_by_number : Target → Bool
is_group_by_number (by_number zero) = false
is_group_by_number (by_number (suc k)) = true
is_group_by_number (by_name name) = false
is_group_by_number (relative k) = true

-- an unresolved reference by number or relative, other than a call of group 0
abbrev pub is_numbered : Tree → Bool
is_numbered (ast_backref target casei level position) = is_not_by_name target
is_numbered (ast_condition target level position) = is_not_by_name target
is_numbered (ast_call target position) = is_group_by_number target
is_numbered _ = false

abbrev pub total_groups : Parsed → ℕ
total_groups found = length found.names

-- back references and conditions name this group, which is within the total
abbrev pub is_backref : Parsed → ℕ → Bool
is_backref found k = nat_le k (total_groups found) && list_any (refers_to k) (nodes found.tree)

abbrev pub contains_subroutines : Parsed → Bool
contains_subroutines found = list_any is_call (nodes found.tree)

-- a back reference, a condition or a call names a number above the total
abbrev pub reference_above_total : Parsed → Bool
reference_above_total found = list_any (is_reference_above (total_groups found)) (nodes found.tree)

-- a call names group 0
abbrev pub calls_whole : Parsed → Bool
calls_whole found = list_any is_call_of_whole (nodes found.tree)

-- groups without a name are ignored, and a reference goes by number
abbrev pub named_backref_only : Parsed → Bool
named_backref_only found = found.ignored && list_any is_numbered (nodes found.unresolved)
