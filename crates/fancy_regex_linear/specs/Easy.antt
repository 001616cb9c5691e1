-- Compiled easy patterns.
use Rattle.std.specs.Prelude.{◌≡◌, ℕ, Bool, List, [], ◌∷◌, if◌then◌else◌, slice_set}
use Rattle.fancy_regex_tree.specs.Tree.{Text}
use Rattle.fancy_regex_meaning.specs.Groups.{Pattern}
use Rattle.fancy_regex_class.specs.Matchers.{IsMatcherOf}
use Rattle.fancy_regex_class.specs.declared.class.CharClassMatcher.{CharClassMatcher}
use Rattle.fancy_regex_linear.specs.Re.{Re}
use Rattle.fancy_regex_linear.specs.Program.{emitted, IsSound}
use Rattle.fancy_regex_linear.specs.Plain.{IsPlain, no_calls, classes, re_of}
use Rattle.fancy_regex_linear.specs.Find.{FoundMatch}
use Rattle.fancy_regex_states.specs.declared.state.State.{State}
use Rattle.fancy_regex_states.specs.declared.state.State.TheVariants.{Match as End}
use Rattle.fancy_regex_states.specs.declared.rules.Rules.{Rules}
use Rattle.fancy_regex_class.specs.declared.input.RunInput.{RunInput}

-- these are the states of the pattern, which continue at the final state
abbrev pub AreStatesOf : List State → ℕ → Re → Type 0
AreStatesOf states entry pattern = (emitted pattern (End ∷ []) 0 ≡ (states, entry)) × IsSound pattern

-- the states of some pattern
abbrev pub IsMade : List State → ℕ → Type 0
IsMade states entry = ∥ ((pattern : Re) × AreStatesOf states entry pattern) ∥₁

-- a matcher for each class
abbrev pub HaveMatchers : Bool → List CharClassMatcher → List (Text × Bool) → Type 0
HaveMatchers unicode [] [] = Unit {0}
HaveMatchers unicode (m ∷ ms) (c ∷ cs) = IsMatcherOf m unicode c.0 c.1 × HaveMatchers unicode ms cs
HaveMatchers unicode [] (c ∷ cs) = ⊥
HaveMatchers unicode (m ∷ ms) [] = ⊥

-- The states and matchers are those of the pattern, which is plain.
pub record IsCompiledPattern (unicode : Bool) (states : List State) (entry : ℕ) (matchers : List CharClassMatcher) (pattern : Pattern) : Type 0 where
  pub plain : IsPlain pattern.tree
  pub program : emitted (re_of unicode [] no_calls pattern.first_group 0 pattern.tree) (End ∷ []) 0 ≡ (states, entry)
  pub matchers_are : HaveMatchers unicode matchers (classes pattern.tree)

-- the flags of a search
abbrev pub rules_for : Bool → Bool → RunInput → Rules
rules_for unicode longest input = record {
  unicode = unicode;
  no_start_text = input.no_start_text;
  no_end_text = input.no_end_text;
  longest = longest;
  continue_at = input.continue_at;
}

-- the byte offsets of the groups of a match
abbrev pub found_slots : Bool → FoundMatch → List ℕ
found_slots whole h = if whole then slice_set (slice_set h.way.slots 0 h.start) 1 h.way.at else h.way.slots

-- the match from `start` to `end`, with these slots
abbrev pub found_at : ℕ → ℕ → List ℕ → FoundMatch
found_at start end slots = record { start = start; way = record { at = end; slots = slots } }
