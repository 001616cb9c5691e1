use Rattle.std.proofs.Common.{◌≡◌, ◌++◌, List, length}
use Rattle.fancy_regex_ffi_lists.specs.Groups.{AreGroupsFrom}
use Rattle.fancy_regex_ffi_lists.specs.declared.member.Member.{Member}
use Rattle.fancy_regex_ffi_lists.proofs.groups.push_groups.Given as goal

-- the groups before the number are added
abbrev pub invariant-loop-group : goal.invariant-loop-group
invariant-loop-group l = record {
  added : List Member;
  is : l.groups.items ≡ l.fn.groups.items ++ added;
  many : length added ≡ l.group;
  are : AreGroupsFrom l.captures.haystack.now l.captures.slots.items l.number 0 added;
}
