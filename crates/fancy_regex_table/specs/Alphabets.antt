-- Classes of characters.
use Rattle.std.specs.Prelude.{◌≡◌, ◌<◌, ◌≤◌, ℕ, Bool, List, Option, Some, None, slice_get, slice_index, slice_index_or, length, Contains}
use Rattle.std.specs.Char.{IsScalar}
use Rattle.regex_hir.specs.Text.{is_some_and}
use Rattle.fancy_regex_class.specs.declared.class.CharClassMatcher.{CharClassMatcher}
use Rattle.fancy_regex_states.specs.CharTests.{leaf_matches_char}
use Rattle.fancy_regex_states.specs.First.{state_at}
use Rattle.fancy_regex_states.specs.declared.atom.Leaf.{Leaf}
use Rattle.fancy_regex_states.specs.declared.state.State.{State}
use Rattle.fancy_regex_states.specs.declared.state.State.TheVariants as S
use Rattle.fancy_regex_table.specs.Making.{AreAlike}
use Rattle.fancy_regex_table.specs.Sorts.{sort_at, AreAsked}
use Rattle.fancy_regex_table.specs.declared.alphabet.Alphabet.{Alphabet}
use Rattle.fancy_regex_table.specs.Questions.{number_of}
use Rattle.fancy_regex_table.specs.Wides.{class_of}
use Rattle.fancy_regex_table.specs.declared.question.Question.{Question}
use Rattle.fancy_regex_table.specs.declared.sort.Asked.{Asked}
use Rattle.fancy_regex_table.specs.declared.wide.Wide.{Wide}

-- the state's leaf is in the list, if it reads
abbrev pub HasLeaf : List Leaf → State → Type 0
HasLeaf leaves (S.Read leaf next) = Contains leaves leaf
HasLeaf leaves _ = Unit {0}

abbrev pub HaveLeaves : List Leaf → List State → Type 0
HaveLeaves leaves states = (q : ℕ) → q < length states → HasLeaf leaves (state_at states q)

-- the leaf matches one character as the other
abbrev pub MatchesAlike : Bool → List CharClassMatcher → Option ℕ → Option ℕ → Leaf → Type 0
MatchesAlike unicode matchers one other leaf =
    is_some_and one (leaf_matches_char unicode matchers leaf) ≡ is_some_and other (leaf_matches_char unicode matchers leaf)

-- neither the leaves nor the assertions tell the characters apart
abbrev pub Agree : Bool → List CharClassMatcher → List Leaf → Asked → Option ℕ → Option ℕ → Type 0
Agree unicode matchers leaves asked one other =
    (sort_at matchers asked unicode one ≡ sort_at matchers asked unicode other) × ((leaf : Leaf) → Contains leaves leaf → MatchesAlike unicode matchers one other leaf)

-- the class of this number has a sample that is not told apart from the character
pub record HasClass (unicode : Bool) (matchers : List CharClassMatcher) (leaves : List Leaf) (asked : Asked) (samples : List (Option ℕ)) (c : Option ℕ) (class : ℕ) : Type 0 where
  pub sample : Option ℕ
  pub is_there : slice_get samples class ≡ Some sample
  pub agrees : Agree unicode matchers leaves asked c sample

-- the samples stay where they are
abbrev pub KeepsSamples : List (Option ℕ) → List (Option ℕ) → Type 0
KeepsSamples old new = (k : ℕ) (sample : Option ℕ) → slice_get old k ≡ Some sample → slice_get new k ≡ Some sample

-- the classes of the numbers of answers: a class that is known has a sample that is not told apart from its characters
pub record AreKnown (unicode : Bool) (matchers : List CharClassMatcher) (leaves : List Leaf) (asked : Asked) (samples : List (Option ℕ)) (questions : List Question) (by_answers : List ℕ) : Type 0 where
  pub wide : length by_answers ≡ 256
  pub classes : (c : ℕ) → IsScalar c → 128 ≤ c → 0 < slice_index_or by_answers (number_of unicode matchers questions c) 0
      → HasClass unicode matchers leaves asked samples (Some c) (slice_index_or by_answers (number_of unicode matchers questions c) 0)

-- each class that is known has a sample that is not told apart from its characters
abbrev pub AreWide : Bool → List CharClassMatcher → List Leaf → Asked → List (Option ℕ) → Wide → Type 0
AreWide unicode matchers leaves asked samples wide = (c : ℕ) → IsScalar c → 128 ≤ c → 0 < class_of unicode matchers wide c
    → HasClass unicode matchers leaves asked samples (Some c) (class_of unicode matchers wide c)

-- a class of this number whose sample the states do not tell apart from the character
pub record IsSampled (unicode : Bool) (matchers : List CharClassMatcher) (states : List State) (asked : Asked) (samples : List (Option ℕ)) (c class : ℕ) : Type 0 where
  pub sample : Option ℕ
  pub is_there : slice_get samples class ≡ Some sample
  pub alike : AreAlike unicode matchers states asked (Some c) sample

pub record IsAlphabetOf (unicode : Bool) (matchers : List CharClassMatcher) (states : List State) (alphabet : Alphabet) : Type 0 where
  pub asks : AreAsked alphabet.asked states
  pub end : slice_get alphabet.samples.items 0 ≡ Some None
  pub classes : (c : ℕ) → c < 128 → IsSampled unicode matchers states alphabet.asked alphabet.samples.items c (slice_index alphabet.ascii c)
  pub wide : (c : ℕ) → IsScalar c → 128 ≤ c → 0 < class_of unicode matchers alphabet.wide c
      → IsSampled unicode matchers states alphabet.asked alphabet.samples.items c (class_of unicode matchers alphabet.wide c)
