-- Classes of characters that are not ASCII.
use Rattle.std.specs.Prelude.{true, false, ◌≡◌, ◌+◌, ◌*◌, ◌/◌, ◌%◌, ◌<◌, ◌≤◌, ℕ, Bool, List, Some, length, nat_lt, slice_index, slice_index_or, if◌then◌else◌, IsCharBoundary}
use Rattle.std.specs.Char.{len_utf8}
use Rattle.regex_hir.specs.Text.{char_at}
use Rattle.fancy_regex_class.specs.declared.class.CharClassMatcher.{CharClassMatcher}
use Rattle.fancy_regex_table.specs.Questions.{number_of}
use Rattle.fancy_regex_table.specs.declared.wide.Wide.{Wide}
use Rattle.fancy_regex_table.specs.declared.wide.WideChar.{WideChar}

-- the class of a character below U+10000, by its row and its place in the row
abbrev pub class_in : Wide → ℕ → ℕ → ℕ
class_in wide row place = slice_index_or wide.classes.items (slice_index_or wide.rows row 0 * 64 + place) 0

-- the class of a character; 0 where none is known
abbrev pub class_of : Bool → List CharClassMatcher → Wide → ℕ → ℕ
class_of unicode matchers wide c =
    if nat_lt c 65536 then class_in wide (c / 64) (c % 64) else slice_index_or wide.by_answers (number_of unicode matchers wide.questions.items c) 0

-- a character begins here that is not ASCII
pub record IsWideAt (text : List ℕ) (at : ℕ) : Type 0 where
  pub boundary : IsCharBoundary text at
  pub inside : at < length text
  pub byte : 128 ≤ slice_index text at

-- the class of the character here, and the place after it
pub record IsDecoded (unicode : Bool) (matchers : List CharClassMatcher) (wide : Wide) (text : List ℕ) (at : ℕ) (it : WideChar) : Type 0 where
  pub c : ℕ
  pub low : 128 ≤ c
  pub here : char_at text at ≡ Some c
  pub next : it.next ≡ at + len_utf8 c
  pub class : it.class ≡ class_of unicode matchers wide c

-- each class of a character below U+10000 that is not ASCII is marked
abbrev pub AllShortAre : Wide → List Bool → Type 0
AllShortAre wide marked = (c : ℕ) → 128 ≤ c → c < 65536 → slice_index_or marked (class_in wide (c / 64) (c % 64)) false ≡ true
