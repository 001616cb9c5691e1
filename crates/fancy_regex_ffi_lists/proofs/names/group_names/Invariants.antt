use Rattle.std.proofs.Common.{◌≡◌, ◌++◌, ◌-◌, ◌≤◌, length, string_bytes}
use Rattle.fancy_regex.specs.MetaMatches.{meta_pattern}
use Rattle.fancy_regex.specs.GroupLookup.{meta_group_names}
use Rattle.fancy_regex_ffi_lists.specs.Names.{name_lines}
use Rattle.fancy_regex_ffi_lists.proofs.names.group_names.Given as goal

-- the lines so far, and those that are left, are all lines
abbrev pub invariant-loop-name : goal.invariant-loop-name
invariant-loop-name l =
    let s = l.fn.regex.meta in
    let count = length (meta_pattern s).groups in record {
      regex : l.names.regex.now.meta ≡ s;
      next : l.names.next ≤ count;
      lines : string_bytes l.text ++ name_lines (meta_group_names s) (count - l.names.next) l.names.next ≡ name_lines (meta_group_names s) count 0;
    }

abbrev pub decreases-loop-name : goal.decreases-loop-name
decreases-loop-name l = length (meta_pattern l.names.regex.now.meta).groups - l.names.next
