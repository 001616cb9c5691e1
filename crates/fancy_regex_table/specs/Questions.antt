-- What tells characters apart that are not ASCII.
use Rattle.std.specs.Prelude.{◌≡◌, ◌⊎◌, ◌<◌, ◌≤◌, ◌+◌, ◌*◌, ◌/◌, ◌%◌, ◌==◌, ℕ, Bool, true, List, [], ◌∷◌, Vec, map, length, slice_index_or, if◌then◌else◌, Contains, All}
use Rattle.std.specs.Char.{IsScalar}
use Rattle.std.specs.Int.{bit_at}
use Rattle.std.specs.declared.alloc.Global.{Global}
use Rattle.fancy_regex_class.specs.declared.class.CharClassMatcher.{CharClassMatcher}
use Rattle.fancy_regex_states.specs.CharTests.{leaf_matches_char, is_word_char}
use Rattle.fancy_regex_states.specs.declared.atom.Leaf.{Leaf}
use Rattle.fancy_regex_table.specs.LeafSets.{HasLeaf}
use Rattle.fancy_regex_table.specs.declared.question.Question.{Question}
use Rattle.fancy_regex_table.specs.declared.question.Question.TheVariants.{IsWord, Matches}
use Rattle.fancy_regex_table.specs.declared.sort.Asked.{Asked}

-- what is answered about a character
abbrev pub answer : Bool → List CharClassMatcher → Question → ℕ → Bool
answer unicode matchers IsWord c = is_word_char unicode c
answer unicode matchers (Matches leaf) c = leaf_matches_char unicode matchers leaf c

abbrev pub answers_of : Bool → List CharClassMatcher → List Question → ℕ → List Bool
answers_of unicode matchers questions c = map (λ question. answer unicode matchers question c) questions

-- a number of answers, with one answer more
abbrev pub with_answer : ℕ → Bool → ℕ
with_answer number holds = number % 128 * 2 + (if holds then 1 else 0)

-- the number of the answers, where those before had this one
abbrev pub number_from : ℕ → List Bool → ℕ
number_from number [] = number
number_from number (holds ∷ answers) = number_from (with_answer number holds) answers

-- the number of what is answered about a character
abbrev pub number_of : Bool → List CharClassMatcher → List Question → ℕ → ℕ
number_of unicode matchers questions c = number_from 0 (answers_of unicode matchers questions c)

-- the leaf matches all characters that are not ASCII, or none
abbrev pub IsConstant : Bool → List CharClassMatcher → Leaf → Type 0
IsConstant unicode matchers leaf =
    (c d : ℕ) → 128 ≤ c → 128 ≤ d → leaf_matches_char unicode matchers leaf c ≡ leaf_matches_char unicode matchers leaf d

-- the leaf is asked about, unless it is constant
abbrev pub IsAskedIn : Bool → List CharClassMatcher → List Question → Leaf → Type 0
IsAskedIn unicode matchers questions leaf = Contains questions (Matches leaf) ⊎ IsConstant unicode matchers leaf

-- each question is still there
abbrev pub KeepsQuestions : List Question → List Question → Type 0
KeepsQuestions old new = (question : Question) → Contains old question → Contains new question

-- all is asked that may tell characters apart that are not ASCII
pub record AreQuestions (unicode : Bool) (matchers : List CharClassMatcher) (leaves : List Leaf) (asked : Asked) (questions : List Question) : Type 0 where
  pub reads : (leaf : Leaf) → Contains leaves leaf → IsAskedIn unicode matchers questions leaf
  pub looks : (leaf : Leaf) → HasLeaf asked.leaves leaf → IsAskedIn unicode matchers questions leaf
  pub words : asked.words ≡ true → Contains questions IsWord

-- the answers by the bits of each question, at one place of a row of 64 characters
abbrev pub bits_at : List (Vec ℕ Global) → ℕ → ℕ → List Bool
bits_at bits row place = map (λ (words : Vec ℕ Global). bit_at (slice_index_or words.items row 0) place == 1) bits

abbrev pub number_at : List (Vec ℕ Global) → ℕ → ℕ → ℕ
number_at bits row place = number_from 0 (bits_at bits row place)

-- there is a word for each row
abbrev pub AreFilled : List (Vec ℕ Global) → Type 0
AreFilled bits = All (λ (words : Vec ℕ Global). length words.items ≡ 1024) bits

-- the bits are those of the questions
pub record AreBits (unicode : Bool) (matchers : List CharClassMatcher) (questions : List Question) (bits : List (Vec ℕ Global)) : Type 0 where
  pub filled : AreFilled bits
  pub answers : (c : ℕ) → IsScalar c → 128 ≤ c → c < 65536 → bits_at bits (c / 64) (c % 64) ≡ answers_of unicode matchers questions c
