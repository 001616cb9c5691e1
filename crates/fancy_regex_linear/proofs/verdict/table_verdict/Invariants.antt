use Rattle.std.proofs.Common.{◌≡◌, ◌-◌, ◌≤◌, ℕ, List, false, IsCharBoundary}
use Rattle.fancy_regex_class.specs.Looks.{looked_text}
use Rattle.fancy_regex_states.specs.Attempts.{View, Continuation}
use Rattle.fancy_regex_linear.specs.Find.{earliest, places}
use Rattle.fancy_regex_linear.specs.Search.{Explains}
use Rattle.fancy_regex_linear.specs.Starts.{spot_from}
use Rattle.fancy_regex_linear.proofs.verdict.table_verdict.Given as goal

abbrev pub invariant-starts : goal.invariant-starts
invariant-starts l = record {
  range : (l.from ≤ l.at) × (l.at ≤ l.context.stop);
  text : looked_text l.text ≡ looked_text l.fn.text;
  boundary : IsCharBoundary (looked_text l.fn.text) l.at;
  passed : (view : View) (go : ℕ → Continuation) → Explains l.context (looked_text l.fn.text) view go → (slots : List ℕ)
      → earliest (spot_from go l.context.entry slots) (places (looked_text l.fn.text) false l.from l.context.stop)
      ≡ earliest (spot_from go l.context.entry slots) (places (looked_text l.fn.text) false l.at l.context.stop);
}

abbrev pub decreases-starts : goal.decreases-starts
decreases-starts l = l.context.stop - l.at
