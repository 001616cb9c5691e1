-- The table of a compiled pattern, and the searches that go by it.
use Rattle.std.specs.Prelude.{◌≡◌, ℕ, false, List, length}
use Rattle.fancy_regex_class.specs.declared.input.RunInput.{RunInput}
use Rattle.fancy_regex_table.specs.Tables.{IsTable}
use Rattle.fancy_regex_linear.specs.declared.by_table.TableSearch.{TableSearch}
use Rattle.fancy_regex_linear.specs.declared.easy.Easy.{Easy}
use Rattle.fancy_regex_linear.specs.declared.search.SearchContext.{SearchContext}
use Rattle.fancy_regex_linear.specs.Easy.{rules_for}

-- The table is that of the pattern, and so is what is known of starts. The text is searched to its end, with no end of it hidden, for the
-- first match.
pub record IsTableFor (easy : Easy) (text : List ℕ) (input : RunInput) (it : TableSearch) : Type 0 where
  pub table : ∥ IsTable (record { states = easy.states.items; entry = easy.entry; matchers = easy.matchers.items; unicode = easy.unicode }) it.table.now ∥₁
  pub text_is : it.text.now ≡ text
  pub passing : it.passing.now ≡ easy.passing
  pub before : it.before.now ≡ easy.before
  pub first : easy.longest ≡ false
  pub start_shown : input.no_start_text ≡ false
  pub end_shown : input.no_end_text ≡ false
  pub whole : input.range.end ≡ length text

-- the context is that of the pattern and the input
pub record IsContextOf (easy : Easy) (input : RunInput) (context : SearchContext) : Type 0 where
  pub states : context.states.now ≡ easy.states.items
  pub matchers : context.matchers.now ≡ easy.matchers.items
  pub rules : context.rules ≡ rules_for easy.unicode easy.longest input
  pub entry : context.entry ≡ easy.entry
  pub first : context.first.now ≡ easy.first
  pub stop : context.stop ≡ input.range.end
  pub refused : context.refused.now ≡ easy.passing.first
