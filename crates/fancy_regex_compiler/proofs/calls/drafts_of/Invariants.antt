use Rattle.std.proofs.Common.{◌≡◌, ℕ, not, Option, Some, length}
use Rattle.std.specs.Prelude.{slice_get, is_some}
use Rattle.std.specs.declared.alloc.Global.{Global}
use Rattle.std.specs.declared.sync.Arc.{Arc}
use Rattle.fancy_regex_program.specs.declared.insn.Callee.{Callee}
use Rattle.fancy_regex_compiler.specs.Inlined.{is_inlined, AreNamed}
use Rattle.fancy_regex_compiler.proofs.calls.drafts_of.Given as goal

abbrev pub invariant-loop-group : goal.invariant-loop-group
invariant-loop-group l = record {
  count : length l.drafts.items ≡ l.group;
  named : AreNamed l.drafts.items;
  laid_out : (k : ℕ) (d : Option (Arc Callee Global)) → slice_get l.drafts.items k ≡ Some d → is_some d ≡ not (is_inlined l.inlined.rooms.items k);
}
