use Rattle.std.proofs.Common.{◌≡◌, ℕ, ◌+◌, ◌≤◌, length}
use Rattle.fancy_regex_class.specs.Looks.{looked_text, look_count}
use Rattle.fancy_regex_states.specs.Attempts.{View, Continuation}
use Rattle.fancy_regex_table.specs.Ends.{or_else, end_at}
use Rattle.fancy_regex_linear.specs.Layers.{IsOnlyLookedAt}
use Rattle.fancy_regex_linear.specs.Quick.{open_of, open_end, AreWithin}
use Rattle.fancy_regex_linear.specs.Search.{IsPair, Explains}
use Rattle.fancy_regex_linear.proofs.quick.quick_end.Given as goal

abbrev pub invariant-loop-visit : goal.invariant-loop-visit
invariant-loop-visit l = record {
  pair : IsPair (looked_text l.text) (length l.context.states.now) l.context.stop 0 l.id l.at;
  open_within : AreWithin (looked_text l.text) (length l.context.states.now) l.context.stop (open_of l.open);
  end : (view : View) (go : ℕ → Continuation) → Explains l.context (looked_text l.text) view go
      → end_at go l.fn.from l.fn.entry ≡ or_else (end_at go l.at l.id) (open_end go (open_of l.open));
  looks : IsOnlyLookedAt l.initial.text l.text;
  at_most : look_count l.text ≤ look_count l.initial.text + l._visit;
}
