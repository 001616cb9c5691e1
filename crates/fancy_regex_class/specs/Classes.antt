-- The members of a class, by the meaning that `regex` gives its text; the folding of characters; and the setting of both.
use Rattle.std.specs.Prelude.{List, None, false, ◌≡◌, ℕ, ◌+◌, ◌&&◌, ◌||◌, ◌==◌, not, nat_lt, Bool, ◌++◌, Option, option_map, is_some, codes, chars, encode_utf8, nat_le, if◌then◌else◌}
use Rattle.std.specs.Char.{IsScalar}
use Rattle.regex_hir.specs.Text.{is_some_and}
use Rattle.regex_hir.specs.Re.{Re}
use Rattle.regex_hir.specs.Find.{find_str}
use Rattle.regex_syntax.specs.Verdict.{default_config}
use Rattle.regex_syntax.specs.Grammar.{read}
use Rattle.regex.specs.Strings.{regex_pattern, regex_source, regex_config, IsReadFromSource}
use Rattle.regex.specs.declared.string.regex.Regex.{Regex}
use Rattle.ucd_case.specs.CaseFolding.{simple_fold}
use Rattle.fancy_regex_tree.specs.Tree.{Text}
use Rattle.fancy_regex_meaning.specs.Ways.{Setting}

-- the text that stands for the class, where case is disregarded, and outside Unicode mode
abbrev pub with_case : Bool → Text → Text
with_case casei class = if casei then codes "(?i:" ++ class ++ codes ")" else class

abbrev pub class_text : Bool → Bool → Text → Text
class_text unicode casei class =
    if unicode then with_case casei class else codes "(?-u:" ++ with_case casei class ++ codes ")"

-- what `regex` reads in a text, if it reads it
unfoldable pub read_tree : Text → Option Re
read_tree text = option_map (λ r. r.0.value) (read default_config text)

abbrev pub is_read : Text → Bool
is_read text = is_some (read_tree text)

-- the text of the one character is matched
abbrev pub matches_single_char : Re → ℕ → Bool
matches_single_char re c = is_some (find_str re (encode_utf8 c) 0)

abbrev pub text_matches_char : Text → ℕ → Bool
text_matches_char text c = is_some_and (read_tree text) (λ re. matches_single_char re c)

-- `regex` reads the class
abbrev pub is_class : Bool → Text → Bool → Bool
is_class unicode class casei = is_read (class_text unicode casei class)

-- the class has the character
unfoldable pub in_class : Bool → Text → Bool → ℕ → Bool
in_class unicode class casei c = text_matches_char (class_text unicode casei class) c

abbrev pub ascii_lower : ℕ → ℕ
ascii_lower c = if nat_le 65 c && nat_le c 90 then c + 32 else c

-- what two characters share that differ in case alone; outside Unicode mode only ASCII letters have case
abbrev pub folded : Bool → ℕ → ℕ
folded unicode c = if unicode then simple_fold c else ascii_lower c

-- no character that is not ASCII has this folding: in Unicode mode the long s and the Kelvin sign fold to two ASCII letters
abbrev pub folds_ascii : Bool → ℕ → Bool
folds_ascii unicode folding = if folding == 115 || folding == 107 then not unicode else nat_lt folding 128

-- A regex that is read from the text of a class matches the text of a character exactly where the class has it.
abbrev pub RegexMatchesMembers : Type 0
RegexMatchesMembers = (r : Regex) (unicode casei : Bool) (class : Text) → chars (regex_source r) ≡ class_text unicode casei class →
    regex_config r ≡ default_config → IsReadFromSource r → (c : ℕ) → IsScalar c →
    is_some (find_str (regex_pattern r) (encode_utf8 c) 0) ≡ in_class unicode class casei c

-- the setting of a pattern in Unicode mode or outside it, over the text
abbrev pub setting_of : Bool → List ℕ → Setting
setting_of unicode text = record {
  text = text;
  no_start_text = false;
  no_end_text = false;
  continue_at = None;
  has_member = in_class unicode;
  fold = folded unicode;
}
