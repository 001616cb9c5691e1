use Rattle.std.proofs.Common.{◌≡◌, ℕ, ◌≤◌, ◌<◌, ◌-◌, false, length, Some}
use Rattle.std.specs.Prelude.{slice_get}
use Rattle.fancy_regex_info.specs.Infos.{info_of}
use Rattle.fancy_regex_info.specs.declared.info.Info.{Info}
use Rattle.fancy_regex_desugar.specs.Delegates.{may_explode}
use Rattle.fancy_regex_compiler.specs.Known.{tree_in}
use Rattle.fancy_regex_compiler.proofs.tail.tail_from.Given as goal

abbrev pub invariant-loop-first : goal.invariant-loop-first
invariant-loop-first l = record {
  not_before : l.initial.first ≤ l.first;
  inside : l.first ≤ length l.parts;
  other : (k : ℕ) (x : Info) → l.initial.first ≤ k → k < l.first → slice_get l.parts k ≡ Some x → may_explode (tree_in (info_of x)) ≡ false;
}

abbrev pub decreases-loop-first : goal.decreases-loop-first
decreases-loop-first l = length l.parts - l.first
