-- From one question to the next.
use Rattle.std.proofs.Common.{ℕ, ◌≤◌, ◌∙◌, List, refl, sym, subst}
use Rattle.fancy_regex_class.specs.Looks.{looked_text}
use Rattle.fancy_regex_class.specs.declared.counted.Counted.{Counted}
use Rattle.fancy_regex_parts.specs.Ways.{Ways}
use Rattle.fancy_regex_parts.specs.Tables.{cost_from, known_cost}
use Rattle.fancy_regex_parts.specs.Layers.{CanAsk, ForTrueWays, HasWays, IsOfText, IsOnlyLookedAt, IsTrueOf, LeavesMemory}
use Rattle.fancy_regex_parts.specs.declared.memory.PartMemory.{PartMemory}
use Rattle.fancy_regex_parts.specs.declared.step.PartContext.{PartContext}
use Rattle.fancy_regex_parts.proofs.LoopLemmas.{known_cap}
use Rattle.fancy_regex_parts.proofs.VisitLemmas.{no_look, looks_on}

-- nothing was asked
pub leaves_none : {context : PartContext} {text : Counted} {memory : PartMemory} → CanAsk context text memory
    → LeavesMemory context text text memory memory
leaves_none {text = text} can = record {
  remembers = λ view ways has true_of. true_of;
  of_text = can.of_text;
  base = refl;
  stack = can.stack;
  looks = no_look text;
}

module _ {context : PartContext} {one two : Counted} {first second : PartMemory} where
  -- parts can be asked after questions, as they could before
  pub asks_on : CanAsk context one first → LeavesMemory context one two first second → CanAsk context two second
  asks_on can leaves = record {
    table = can.table;
    of_text = subst (λ (t : List ℕ). IsOfText context t second.recall) (sym leaves.looks.text) leaves.of_text;
    small = rw leaves.looks.text can.small;
    stack = leaves.stack;
  }

  -- what is so of the ways after questions is so of them before
  pub true_before : (Holds : Ways → Type 0) → LeavesMemory context one two first second → ForTrueWays context two second Holds
      → ForTrueWays context one first Holds
  true_before Holds leaves holds view ways has true_of =
      holds view ways (subst (λ (t : List ℕ). HasWays context t view ways) (sym leaves.looks.text) has) (leaves.remembers view ways has true_of)

  -- no more is paid for than the parts weigh at each place
  pub leaves_cap : LeavesMemory context one two first second
      → known_cost context.table.now second.recall ≤ cost_from context.table.now (looked_text one) first.recall.base
  leaves_cap leaves = known_cap context (looked_text one) first.recall.base second.recall leaves.of_text leaves.base

  -- the text is looked at after questions
  pub leaves_looked : {three : Counted} → LeavesMemory context one two first second → IsOnlyLookedAt two three
      → LeavesMemory context one three first second
  leaves_looked leaves looks = record {
    remembers = leaves.remembers;
    of_text = leaves.of_text;
    base = leaves.base;
    stack = leaves.stack;
    looks = looks_on leaves.looks looks;
  }

  -- more is asked
  pub leaves_on : {three : Counted} {third : PartMemory} → LeavesMemory context one two first second → LeavesMemory context two three second third
      → LeavesMemory context one three first third
  leaves_on {third = third} a b = record {
    remembers = true_before (λ ways. IsTrueOf context ways third.recall) a b.remembers;
    of_text = subst (λ (t : List ℕ). IsOfText context t third.recall) a.looks.text b.of_text;
    base = b.base ∙ a.base;
    stack = b.stack;
    looks = looks_on a.looks b.looks;
  }
