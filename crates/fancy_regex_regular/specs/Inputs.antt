-- What of an input the answers of parts depend on.
use Rattle.std.specs.Prelude.{◌≡◌, ◌≤◌, ℕ, Option, Some, None}
use Rattle.fancy_regex_class.specs.declared.input.RunInput.{RunInput}
use Rattle.fancy_regex_regular.specs.declared.memory.Kept.{Kept}

-- the answers of parts are the same in a search with this input, where `\G` holds at this place for a pattern that asks for it
pub record IsOfInput (kept : Kept) (input : RunInput) (place : Option ℕ) : Type 0 where
  pub stop : kept.stop ≡ input.range.end
  pub no_start_text : kept.no_start_text ≡ input.no_start_text
  pub no_end_text : kept.no_end_text ≡ input.no_end_text
  pub continue_at : kept.continue_at ≡ place

-- and the search, which asks about no byte offset before `lowest`, asks about none before the first
pub record Serves (kept : Kept) (input : RunInput) (place : Option ℕ) (lowest : ℕ) : Type 0 where
  pub low : kept.first ≤ lowest
  pub input_is : IsOfInput kept input place

-- something is kept, and serves a search with this input
abbrev pub MemoryServes : Option Kept → RunInput → Option ℕ → ℕ → Type 0
MemoryServes None input place lowest = ⊥
MemoryServes (Some kept) input place lowest = Serves kept input place lowest
