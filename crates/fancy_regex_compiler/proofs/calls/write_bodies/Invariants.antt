use Rattle.std.proofs.Common.{◌≡◌, ℕ, ◌-◌, ◌<◌, List, [], Some}
use Rattle.std.specs.Prelude.{slice_get}
use Rattle.std.specs.List.{Contains}
use Rattle.fancy_regex_compiler.specs.Kept.{HasBodies, IsMetUnder, IsNeededBody}
use Rattle.fancy_regex_compiler.specs.Needs.{AreAmong, AreStanding, Notes}
use Rattle.fancy_regex_compiler.specs.Writing.{draft_of, infos_of}
use Rattle.fancy_regex_compiler.specs.declared.calls.Body.{Body}
use Rattle.fancy_regex_compiler.specs.declared.emitter.Need.{Need}
use Rattle.fancy_regex_compiler.proofs.calls.write_bodies.Given as goal

abbrev pub invariant-loop-done : goal.invariant-loop-done
invariant-loop-done l =
    let start = l.fn.emitter.needs.list.items in
    record {
      bodies : HasBodies l.context (draft_of l.fn.emitter.body).ops l.slot (draft_of l.emitter.body) l.bodies;
      opened : l.emitter.opened.items ≡ [];
      notes : Notes (infos_of l.context) start l.emitter.needs.list.items (λ tree_context. AreStanding tree_context (infos_of l.context) start);
      met : (all : List Need) → AreAmong l.emitter.needs.list.items all → (i : ℕ) (n : Need) → i < l.done → slice_get l.emitter.needs.list.items i ≡ Some n →
          IsMetUnder l.context l.bodies all n;
      needed : (b : Body) → Contains l.bodies.list.items b → IsNeededBody l.emitter.needs.list.items b;
    }

abbrev pub decreases-loop-done : goal.decreases-loop-done
decreases-loop-done l = 18446744073709551616 - l.done
