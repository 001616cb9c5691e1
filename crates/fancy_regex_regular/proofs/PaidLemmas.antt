-- What is paid before a search, and after it.
use Rattle.std.proofs.Common.{◌≡◌, ◌+◌, ◌*◌, ◌-◌, ◌≤◌, ℕ, List, Option, Some, None, length, ap, arith}
use Rattle.std.specs.Prelude.{IfSome}
use Rattle.std.proofs.Math.Nat.{mul-le-mul_left}
use Rattle.fancy_regex_class.specs.declared.input.RunInput.{RunInput}
use Rattle.fancy_regex_parts.specs.Tables.{cost_of, due, mark_of, table_weight}
use Rattle.fancy_regex_parts.specs.declared.memory.PartMemory.{PartMemory}
use Rattle.fancy_regex_parts.proofs.WeightLemmas.{known_most}
use Rattle.fancy_regex_regular.specs.Inputs.{MemoryServes}
use Rattle.fancy_regex_regular.specs.Iterations.{paid_by, paid_in, MayServe, IsPaidWithin}
use Rattle.fancy_regex_regular.specs.Kept.{IsTrueFor}
use Rattle.fancy_regex_regular.specs.Regulars.{IsRegularOf, continue_place, lowest_asked}
use Rattle.fancy_regex_regular.specs.Weights.{tree_state_weight}
use Rattle.fancy_regex_meaning.specs.Groups.{Pattern}
use Rattle.fancy_regex_regular.proofs.RegularWeightLemmas.{states_light, due_most}
use Rattle.fancy_regex_regular.specs.declared.memory.Kept.{Kept}
use Rattle.fancy_regex_regular.specs.declared.regular.Regular.{Regular}

module _ (regular : Regular) where
  -- where the memory serves the search
  pub paid_served : (input : RunInput) (parts : PartMemory) (o : Option Kept) → MemoryServes o input (continue_place regular input) (lowest_asked regular input) → paid_in regular input parts o ≤ paid_by regular parts
  paid_served input parts None serves = absurd serves
  paid_served input parts (Some kept) serves = omega arith

  -- where it begins anew, since it has no row for the first start
  pub paid_anew : (text : List ℕ) (input : RunInput) (parts new : PartMemory) (o : Option Kept) → IfSome o (IsTrueFor regular text parts) → MayServe regular o input
      → (MemoryServes o input (continue_place regular input) (lowest_asked regular input) → parts.recall.rows ≤ lowest_asked regular input - parts.recall.base)
      → new.recall.base ≡ lowest_asked regular input
      → paid_in regular input parts o ≤ paid_by regular new
  paid_anew text input parts new None is_true serves past is =
      let same = ap (λ (b : ℕ). table_weight regular.table * b) is in
      omega (arith, same)
  paid_anew text input parts new (Some kept) is_true serves past is =
      let behind : ℕ = lowest_asked regular input - parts.recall.base in
      let known = known_most regular.table parts.recall behind (past serves) is_true.width in
      let more : table_weight regular.table * (parts.recall.base + behind) ≤ table_weight regular.table * new.recall.base =
      mul-le-mul_left (table_weight regular.table) (omega (arith, is, is_true.first, serves.low)) in
      omega (arith, known, more)

  -- what is paid is of the text
  paid_within : (text : List ℕ) (parts : PartMemory) (kept : Kept) → IsTrueFor regular text parts kept → parts.recall.base ≤ length text
      → IsPaidWithin regular text parts
  paid_within text parts kept is_true low pattern is =
      let places : ℕ = length text - parts.recall.base + 1 in
      let known = known_most regular.table parts.recall places is_true.rows is_true.width in
      let light = states_light regular.unicode regular.resets_start regular.table.states.items regular.entry regular.matchers.items pattern is.states in
      let all : table_weight regular.table * (parts.recall.base + places) ≤ table_weight regular.table * (length text + 1) =
      mul-le-mul_left (table_weight regular.table) (omega (arith, low)) in
      let weighs : (length text + 1) * table_weight regular.table ≤ (length text + 1) * (2 * tree_state_weight pattern.groups pattern.tree) =
      mul-le-mul_left (length text + 1) (omega (arith, regular.right.light, light)) in
      omega (arith, known, all, weighs)

  pub paid_of : (text : List ℕ) (input : RunInput) (parts : PartMemory) (o : Option Kept) → MemoryServes o input (continue_place regular input) (lowest_asked regular input) → IfSome o (IsTrueFor regular text parts)
      → parts.recall.base ≤ length text → IsPaidWithin regular text parts
  paid_of text input parts None serves is_true low = absurd serves
  paid_of text input parts (Some kept) serves is_true low = paid_within text parts kept is_true low

  -- the looks of a search that was paid for by so much before it, and pays this after it
  pub looks_on : (pattern : Pattern) → IsRegularOf regular pattern → (starts before after known known_after base old new : ℕ)
      → before ≤ base + known → new + known ≤ old + starts * (due regular.table regular.entry + 1) + known_after → after ≡ base + known_after
      → new + before ≤ old + after + 2 * tree_state_weight pattern.groups pattern.tree * starts
  looks_on pattern is starts before after known known_after base old new paid counted is_after =
      let light = states_light regular.unicode regular.resets_start regular.table.states.items regular.entry regular.matchers.items pattern is.states in
      let cheap = (regular.right.right regular.entry regular.inside).cheap in
      let due_is = due_most (mark_of regular.table regular.entry) (cost_of regular.table regular.entry) in
      let each : starts * (due regular.table regular.entry + 1) ≤ starts * (2 * tree_state_weight pattern.groups pattern.tree) =
      mul-le-mul_left starts (omega (arith, light, cheap, due_is)) in
      omega (arith, paid, counted, is_after, each)
