-- What a memory keeps of the searches of one text.
use Rattle.std.specs.Prelude.{◌≡◌, ◌+◌, ◌-◌, ◌≤◌, ℕ, List, Some, None, length, vec_len, false, IfSome}
use Rattle.fancy_regex_class.specs.declared.input.RunInput.{RunInput}
use Rattle.fancy_regex_states.specs.Attempts.{View, Continuation, ShowsAll}
use Rattle.fancy_regex_states.specs.declared.rules.Rules.{Rules}
use Rattle.fancy_regex_parts.specs.Frames.{EndsWithin, cell_end}
use Rattle.fancy_regex_parts.specs.Layers.{HasWays, IsOfText, IsTrueOf}
use Rattle.fancy_regex_parts.specs.Recall.{cell}
use Rattle.fancy_regex_parts.specs.Tables.{lowest_of}
use Rattle.fancy_regex_parts.specs.Ways.{Ways, Explains, text_view}
use Rattle.fancy_regex_parts.specs.Does.{DoWhat}
use Rattle.fancy_regex_parts.specs.Walk.{AreWalked, IsWalkedIn}
use Rattle.fancy_regex_parts.specs.declared.groups.WalkMemory.{WalkMemory}
use Rattle.fancy_regex_parts.specs.declared.recall.Recall.{Recall}
use Rattle.fancy_regex_parts.specs.declared.memory.PartMemory.{PartMemory}
use Rattle.fancy_regex_parts.specs.declared.step.PartContext.{PartContext}
use Rattle.fancy_regex_regular.specs.Inputs.{IsOfInput}
use Rattle.fancy_regex_regular.specs.Regulars.{continue_place, ends_from}
use Rattle.fancy_regex_regular.specs.declared.memory.Kept.{Kept}
use Rattle.fancy_regex_regular.specs.declared.memory.RegularMemory.{RegularMemory}
use Rattle.fancy_regex_regular.specs.declared.regular.Regular.{Regular}

-- the flags of the searches that are kept
abbrev pub kept_rules : Regular → Kept → Rules
kept_rules regular kept = record {
  unicode = regular.unicode;
  no_start_text = kept.no_start_text;
  no_end_text = kept.no_end_text;
  longest = false;
  continue_at = kept.continue_at;
}

-- all that is known of pairs is true
pub record AreTrue (ways : Ways) (heads : List ℕ) (recall : Recall) : Type 0 where
  pub fails : (k : ℕ) → cell recall k ≡ 1 → cell_end ways heads recall.base k ≡ None
  pub ends : (k e : ℕ) → cell recall k ≡ e + 2 → cell_end ways heads recall.base k ≡ Some e

-- The memory is of this pattern and this text: a row has a cell for each mark, each end is a place, and what is known is true.
pub record IsTrueFor (regular : Regular) (text : List ℕ) (parts : PartMemory) (kept : Kept) : Type 0 where
  pub first : parts.recall.base ≡ kept.first
  pub stack : vec_len parts.stack ≡ 0
  pub width : parts.recall.width ≡ length regular.table.heads.items
  pub rows : parts.recall.rows ≤ length text - parts.recall.base + 1
  pub ends : EndsWithin text parts.recall.base parts.recall
  pub remembers : (view : View) (ways : Ways)
      → Explains regular.matchers.items (kept_rules regular kept) (ends_from 0 kept.stop) regular.table.states.items text view ways
      → AreTrue ways regular.table.heads.items parts.recall

-- in the searches that are kept the states do in this text what `go` says
pub record IsTriedFor (regular : Regular) (text : List ℕ) (kept : Kept) (view : View) (go : ℕ → Continuation) : Type 0 where
  pub first : view.longest ≡ false
  pub does : DoWhat view (length text) (ends_from 0 kept.stop) regular.table.states.items go
  pub shows : ShowsAll regular.matchers.items (kept_rules regular kept) text (text_view view)

-- Where the first match is wanted, the memory of walks is of this pattern and this text, and what they have found out is true.
pub record IsWalkedFor (regular : Regular) (text : List ℕ) (walked : WalkMemory) (kept : Kept) : Type 0 where
  pub within : regular.longest ≡ false → IsWalkedIn regular.table (length text) kept.first walked
  pub known : regular.longest ≡ false → (view : View) (go : ℕ → Continuation) → IsTriedFor regular text kept view go
      → AreWalked go regular.table.heads.items walked

-- what the memory keeps, if it keeps anything, is true of this pattern and this text
abbrev pub IsKeptOf : Regular → List ℕ → RegularMemory → Type 0
IsKeptOf regular text memory =
    IfSome memory.kept (IsTrueFor regular text memory.parts) × IfSome memory.kept (IsWalkedFor regular text memory.walked)

-- the memory can be asked in a search with this input
pub record IsReady (regular : Regular) (context : PartContext) (text : List ℕ) (input : RunInput) (memory : RegularMemory) : Type 0 where
  pub low : memory.parts.recall.base ≤ lowest_of context.table.now context.entry input.first
  pub stack : vec_len memory.parts.stack ≡ 0
  pub of_text : IsOfText context text memory.parts.recall
  pub remembers : (view : View) (ways : Ways) → HasWays context text view ways → IsTrueOf context ways memory.parts.recall
  pub of_input : IfSome memory.kept (λ kept. (memory.parts.recall.base ≡ kept.first) × IsOfInput kept input (continue_place regular input))
  pub walked : IfSome memory.kept (IsWalkedFor regular text memory.walked)
