use Rattle.std.proofs.Common.{◌≡◌, ℕ, ◌≤◌, true, length, Some}
use Rattle.std.specs.Prelude.{slice_get}
use Rattle.fancy_regex_info.specs.Infos.{info_of}
use Rattle.fancy_regex_info.specs.declared.info.Info.{Info}
use Rattle.fancy_regex_compiler.specs.Known.{is_plain_info}
use Rattle.fancy_regex_compiler.proofs.tail.plain_from.Given as goal

abbrev pub invariant-loop-first : goal.invariant-loop-first
invariant-loop-first l = record {
  inside : l.first ≤ length l.parts;
  plain : (k : ℕ) (x : Info) → l.first ≤ k → slice_get l.parts k ≡ Some x → is_plain_info (info_of x) ≡ true;
}

abbrev pub decreases-loop-first : goal.decreases-loop-first
decreases-loop-first l = l.first
