-- Which characters a leaf matches, and between which characters an assertion holds.
use Rattle.std.specs.Prelude.{◌≡◌, ◌≤◌, ℕ, Bool, false, true, not, ◌&&◌, ◌||◌, List, Option, ◌==◌, is_none, slice_get, codes}
use Rattle.regex_hir.specs.Text.{is_some_and}
use Rattle.fancy_regex_class.specs.Matchers.{has}
use Rattle.fancy_regex_class.specs.Classes.{in_class, folded}
use Rattle.fancy_regex_states.specs.declared.atom.Leaf.{Leaf}
use Rattle.fancy_regex_states.specs.declared.atom.Leaf.TheVariants.{Any, Char, Folded, Class}
use Rattle.fancy_regex_states.specs.declared.atom.Test.{Test}
use Rattle.fancy_regex_states.specs.declared.atom.Test.TheVariants.{StartText, EndText, StartLine, EndLine, WordBoundary, NotWordBoundary, LeftWordBoundary, RightWordBoundary, LeftWordHalfBoundary, RightWordHalfBoundary, StartLineOniguruma, Never, Continue, LookAhead, LookAheadNeg, LookBehind, LookBehindNeg}
use Rattle.fancy_regex_class.specs.declared.class.CharClassMatcher.{CharClassMatcher}
use Rattle.fancy_regex_states.specs.declared.rules.Rules.{Rules}

-- whether the leaf matches the character
abbrev pub leaf_matches_char : Bool → List CharClassMatcher → Leaf → ℕ → Bool
leaf_matches_char unicode matchers (Any newline crlf) c = newline || not (c == 10 || (crlf && c == 13))
leaf_matches_char unicode matchers (Char d) c = c == d
leaf_matches_char unicode matchers (Folded d) c = folded unicode c == d
leaf_matches_char unicode matchers (Class k) c = is_some_and (slice_get matchers k) (λ m. has m c)

-- all characters that the leaf matches are ASCII characters
abbrev pub IsAsciiLeaf : Bool → List CharClassMatcher → Leaf → Type 0
IsAsciiLeaf unicode matchers leaf = (c : ℕ) → 128 ≤ c → leaf_matches_char unicode matchers leaf c ≡ false

-- `\w` has the character
abbrev pub is_word_char : Bool → ℕ → Bool
is_word_char unicode = in_class unicode (codes "\\w") false

abbrev pub is_char : ℕ → Option ℕ → Bool
is_char d o = is_some_and o (λ c. c == d)

-- a line begins between two characters
abbrev pub begins_line : Bool → Option ℕ → Option ℕ → Bool
begins_line crlf before after = is_none before || is_char 10 before || (crlf && is_char 13 before && not (is_char 10 after))

-- whether the assertion holds at a place between two characters
abbrev pub passes : List CharClassMatcher → Rules → Test → ℕ → Option ℕ → Option ℕ → Bool
passes matchers rules StartText at before after = is_none before && not rules.no_start_text
passes matchers rules EndText at before after = is_none after && not rules.no_end_text
passes matchers rules (StartLine crlf) at before after = begins_line crlf before after
passes matchers rules (EndLine false) at before after = is_none after || is_char 10 after
passes matchers rules (EndLine true) at before after =
    is_none after || is_char 13 after || (is_char 10 after && not (is_char 13 before))
passes matchers rules WordBoundary at before after =
    not (is_some_and before (is_word_char rules.unicode)) && is_some_and after (is_word_char rules.unicode)
    || is_some_and before (is_word_char rules.unicode) && not (is_some_and after (is_word_char rules.unicode))
passes matchers rules NotWordBoundary at before after =
    not (is_some_and before (is_word_char rules.unicode)) && not (is_some_and after (is_word_char rules.unicode))
    || is_some_and before (is_word_char rules.unicode) && is_some_and after (is_word_char rules.unicode)
passes matchers rules LeftWordBoundary at before after =
    not (is_some_and before (is_word_char rules.unicode)) && is_some_and after (is_word_char rules.unicode)
passes matchers rules RightWordBoundary at before after =
    is_some_and before (is_word_char rules.unicode) && not (is_some_and after (is_word_char rules.unicode))
passes matchers rules LeftWordHalfBoundary at before after = not (is_some_and before (is_word_char rules.unicode))
passes matchers rules RightWordHalfBoundary at before after = not (is_some_and after (is_word_char rules.unicode))
passes matchers rules (StartLineOniguruma crlf) at before after = begins_line crlf before after && not (is_none after && is_char 10 before)
passes matchers rules Never at before after = false
passes matchers rules Continue at before after = is_some_and rules.continue_at (λ g. g == at)
passes matchers rules (LookAhead leaf) at before after = is_some_and after (leaf_matches_char rules.unicode matchers leaf)
passes matchers rules (LookAheadNeg leaf) at before after = not (is_some_and after (leaf_matches_char rules.unicode matchers leaf))
passes matchers rules (LookBehind leaf) at before after = is_some_and before (leaf_matches_char rules.unicode matchers leaf)
passes matchers rules (LookBehindNeg leaf) at before after = not (is_some_and before (leaf_matches_char rules.unicode matchers leaf))
