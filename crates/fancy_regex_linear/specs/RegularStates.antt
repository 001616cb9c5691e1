-- The states of patterns with parts.
use Rattle.std.specs.Prelude.{◌≡◌, ◌≤◌, ◌⊎◌, ℕ, Bool, true, false, List, [], ◌∷◌, length, slice_set, if◌then◌else◌}
use Rattle.fancy_regex_tree.specs.Tree.{Text}
use Rattle.fancy_regex_meaning.specs.Groups.{Pattern}
use Rattle.fancy_regex_class.specs.declared.class.CharClassMatcher.{CharClassMatcher}
use Rattle.fancy_regex_info.specs.declared.error.CompileError.{CompileError}
use Rattle.fancy_regex_info.specs.declared.error.CompileError.TheVariants.{Memory}
use Rattle.fancy_regex_linear.specs.Re.{Re}
use Rattle.fancy_regex_linear.specs.Easy.{HaveMatchers}
use Rattle.fancy_regex_linear.specs.Plain.{IsRegular, classes, re_of}
use Rattle.fancy_regex_linear.specs.Calls.{IsOfTree, greatest_nesting, has_own_span, AreAt, IsWrittenOut, written_weight, IsCalled}
use Rattle.fancy_regex_linear.specs.Program.{emitted, IsSound}
use Rattle.fancy_regex_states.specs.declared.state.State.{State}
use Rattle.fancy_regex_states.specs.declared.state.State.TheVariants.{Match as End}

-- Slots where those of group 0, unless the tree writes it itself, hold the place where the match will be said to begin: before an attempt, its
-- start.
abbrev pub started : Bool → ℕ → List ℕ → List ℕ
started has_span start slots = if has_span then slice_set (slice_set slots 0 start) 1 start else slots

-- the slots of a match that ends at this place, where the walk of an attempt left these
abbrev pub ended : Bool → ℕ → List ℕ → List ℕ
ended has_span end slots = if has_span then slice_set slots 1 end else slots

-- The states and matchers are those of the pattern with its calls written out, which is regular; state 0 is its final state. Where the flag is
-- not set no match begins elsewhere than the attempt that finds it.
pub record AreRegularStates (unicode resets : Bool) (states : List State) (entry : ℕ) (matchers : List CharClassMatcher) (pattern : Pattern)
    : Type 0 where
  pub of_tree : IsOfTree pattern
  -- the classes of the matchers, the number of the first of the tree itself, and what a call of each group becomes
  pub all_classes : List (Text × Bool)
  pub base : ℕ
  pub called : ℕ → Re
  pub own_span : resets ≡ true → has_own_span pattern ≡ true
  pub regular : IsRegular resets (λ j. IsCalled pattern.groups unicode all_classes (greatest_nesting (length pattern.groups)) j (called j)) pattern.tree
  pub program : emitted (re_of unicode pattern.groups called pattern.first_group base pattern.tree) (End ∷ []) 0 ≡ (states, entry)
  pub sound : IsSound (re_of unicode pattern.groups called pattern.first_group base pattern.tree)
  pub stand : AreAt all_classes base (classes pattern.tree)
  pub matchers_are : HaveMatchers unicode matchers all_classes

-- the patterns that have such states: the tree with its calls written out is regular, and weighs at most so much
pub record IsMadeFor (pattern : Pattern) : Type 0 where
  pub regular : IsWrittenOut pattern.groups (has_own_span pattern) pattern.tree
  pub light : written_weight pattern.groups pattern.tree ≤ 4000

-- No match of such a pattern begins elsewhere than the attempt that finds it: the tree with its calls written out is regular without `\K`.
abbrev pub KeepsStart : Pattern → Type 0
KeepsStart pattern = IsWrittenOut pattern.groups false pattern.tree

-- An error comes only where the pattern has states; or it is want of memory, and the tree is not regular by itself, so that this is not known yet.
abbrev pub IsMadeOrShort : Pattern → CompileError → Type 0
IsMadeOrShort pattern error = IsMadeFor pattern ⊎ ((error ≡ Memory) × (IsRegular (has_own_span pattern) (λ j. ⊥) pattern.tree → ⊥))
