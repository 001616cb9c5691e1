-- The text of a setting, as the linear engine reads it.
use Rattle.std.specs.Prelude.{ℕ, Bool, false, not, List, ◌==◌, slice_get, option_map}
use Rattle.std.specs.Char.{len_utf8}
use Rattle.regex_hir.specs.Text.{is_some_and, char_at, char_before}
use Rattle.fancy_regex_tree.specs.Tree.{Text}
use Rattle.fancy_regex_tree.specs.declared.expr.Assertion.TheVariants as A
use Rattle.fancy_regex_meaning.specs.Positions.{position_after}
use Rattle.fancy_regex_meaning.specs.Ways.{Setting, is_any, holds}
use Rattle.fancy_regex_states.specs.Attempts.{View}
use Rattle.fancy_regex_states.specs.declared.atom.Leaf.{Leaf}
use Rattle.fancy_regex_states.specs.declared.atom.Leaf.TheVariants.{Any, Char, Folded, Class}
use Rattle.fancy_regex_states.specs.declared.atom.Test.{Test}
use Rattle.fancy_regex_states.specs.declared.atom.Test.TheVariants.{StartText, EndText, StartLine, EndLine, WordBoundary, NotWordBoundary, LeftWordBoundary, RightWordBoundary, LeftWordHalfBoundary, RightWordHalfBoundary, StartLineOniguruma, Never, Continue, LookAhead, LookAheadNeg, LookBehind, LookBehindNeg}

-- whether the leaf matches the character, where the classes are these
abbrev pub leaf_matches : Setting → List (Text × Bool) → Leaf → ℕ → Bool
leaf_matches s cs (Any newline crlf) c = is_any s newline crlf c
leaf_matches s cs (Char d) c = c == d
leaf_matches s cs (Folded d) c = s.fold c == d
leaf_matches s cs (Class k) c = is_some_and (slice_get cs k) (λ p. s.has_member p.0 p.1 c)

-- whether the test holds at a place, where the classes are these
abbrev pub test_holds : Setting → List (Text × Bool) → Test → ℕ → Bool
test_holds s cs StartText p = holds s A.StartText p
test_holds s cs EndText p = holds s A.EndText p
test_holds s cs (StartLine crlf) p = holds s (A.StartLine crlf) p
test_holds s cs (EndLine crlf) p = holds s (A.EndLine crlf) p
test_holds s cs WordBoundary p = holds s A.WordBoundary p
test_holds s cs NotWordBoundary p = holds s A.NotWordBoundary p
test_holds s cs LeftWordBoundary p = holds s A.LeftWordBoundary p
test_holds s cs RightWordBoundary p = holds s A.RightWordBoundary p
test_holds s cs LeftWordHalfBoundary p = holds s A.LeftWordHalfBoundary p
test_holds s cs RightWordHalfBoundary p = holds s A.RightWordHalfBoundary p
test_holds s cs (StartLineOniguruma crlf) p = holds s (A.StartLineOniguruma crlf) p
test_holds s cs Never p = false
test_holds s cs Continue p = is_some_and s.continue_at (λ g. g == p)
test_holds s cs (LookAhead leaf) p = is_some_and (char_at s.text p) (leaf_matches s cs leaf)
test_holds s cs (LookAheadNeg leaf) p = not (is_some_and (char_at s.text p) (leaf_matches s cs leaf))
test_holds s cs (LookBehind leaf) p = is_some_and (char_before s.text p) (leaf_matches s cs leaf)
test_holds s cs (LookBehindNeg leaf) p = not (is_some_and (char_before s.text p) (leaf_matches s cs leaf))

abbrev pub view_of : Setting → List (Text × Bool) → Bool → View
view_of s cs far = record {
  has = λ leaf i. is_some_and (char_at s.text i) (leaf_matches s cs leaf);
  next = position_after s.text;
  back = λ i. option_map len_utf8 (char_before s.text i);
  holds = test_holds s cs;
  longest = far;
  has_parts = false;
}
