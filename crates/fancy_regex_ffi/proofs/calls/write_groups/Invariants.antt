-- The spans below the group are written.
use Rattle.std.specs.Prelude.{ℕ, ◌<◌, HoldsAt}
use Rattle.fancy_regex_ffi_lists.specs.Groups.{IsGroupSpan}
use Rattle.fancy_regex_ffi.proofs.calls.write_groups.Given as goal

abbrev pub invariant-loop-group : goal.invariant-loop-group
invariant-loop-group l = (k : ℕ) → k < l.group → HoldsAt (IsGroupSpan l.captures.haystack.now l.captures.slots.items k) l.spans k
