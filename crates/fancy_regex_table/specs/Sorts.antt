-- What assertions see of the characters around a place.
use Rattle.std.specs.Prelude.{◌≡◌, ◌<◌, ℕ, Bool, true, false, not, ◌&&◌, ◌||◌, List, Option, is_none, length}
use Rattle.regex_hir.specs.Text.{is_some_and}
use Rattle.fancy_regex_states.specs.CharTests.{is_char, is_word_char}
use Rattle.fancy_regex_states.specs.First.{state_at}
use Rattle.fancy_regex_states.specs.declared.atom.Test.{Test}
use Rattle.fancy_regex_states.specs.declared.atom.Test.TheVariants.{StartText, EndText, StartLine, EndLine, WordBoundary, NotWordBoundary, LeftWordBoundary, RightWordBoundary, LeftWordHalfBoundary, RightWordHalfBoundary, StartLineOniguruma, Never, Continue, LookAhead, LookAheadNeg, LookBehind, LookBehindNeg}
use Rattle.fancy_regex_states.specs.declared.state.State.{State}
use Rattle.fancy_regex_states.specs.declared.state.State.TheVariants as S
use Rattle.fancy_regex_class.specs.declared.class.CharClassMatcher.{CharClassMatcher}
use Rattle.fancy_regex_table.specs.LeafSets.{has_leaf, matching_set, HasLeaf, HasAll}
use Rattle.fancy_regex_table.specs.declared.leaf_set.LeafSet.{LeafSet}
use Rattle.fancy_regex_table.specs.declared.sort.Asked.{Asked}
use Rattle.fancy_regex_table.specs.declared.sort.Sort.{Sort}

-- what the assertions ask of a character; `None` is an end of the text
abbrev pub sort_at : List CharClassMatcher → Asked → Bool → Option ℕ → Sort
sort_at matchers asked unicode c = record {
  edge = asked.edges && is_none c;
  newline = asked.lines && is_char 10 c;
  carriage_return = asked.lines && is_char 13 c;
  word = asked.words && is_some_and c (is_word_char unicode);
  matched = matching_set unicode matchers asked.leaves c;
}

-- a line begins between characters of these sorts
abbrev pub line_begins_between : Bool → Sort → Sort → Bool
line_begins_between crlf before after = before.edge || before.newline || (crlf && before.carriage_return && not after.newline)

-- whether the assertion holds between characters of these sorts
abbrev pub holds_between : Test → Sort → Sort → Bool
holds_between StartText before after = before.edge
holds_between EndText before after = after.edge
holds_between (StartLine crlf) before after = line_begins_between crlf before after
holds_between (EndLine false) before after = after.edge || after.newline
holds_between (EndLine true) before after = after.edge || after.carriage_return || (after.newline && not before.carriage_return)
holds_between WordBoundary before after = not before.word && after.word || before.word && not after.word
holds_between NotWordBoundary before after = not before.word && not after.word || before.word && after.word
holds_between LeftWordBoundary before after = not before.word && after.word
holds_between RightWordBoundary before after = before.word && not after.word
holds_between LeftWordHalfBoundary before after = not before.word
holds_between RightWordHalfBoundary before after = not after.word
holds_between (StartLineOniguruma crlf) before after = line_begins_between crlf before after && not (after.edge && before.newline)
holds_between Never before after = false
holds_between Continue before after = false
holds_between (LookAhead leaf) before after = has_leaf after.matched leaf
holds_between (LookAheadNeg leaf) before after = not (has_leaf after.matched leaf)
holds_between (LookBehind leaf) before after = has_leaf before.matched leaf
holds_between (LookBehindNeg leaf) before after = not (has_leaf before.matched leaf)

-- the assertion asks where the text begins or ends
abbrev pub asks_for_edges : Test → Bool
asks_for_edges StartText = true
asks_for_edges EndText = true
asks_for_edges (StartLine crlf) = true
asks_for_edges (EndLine crlf) = true
asks_for_edges (StartLineOniguruma crlf) = true
asks_for_edges _ = false

-- the assertion asks where lines end
abbrev pub asks_for_lines : Test → Bool
asks_for_lines (StartLine crlf) = true
asks_for_lines (EndLine crlf) = true
asks_for_lines (StartLineOniguruma crlf) = true
asks_for_lines _ = false

-- the assertion asks for word characters
abbrev pub asks_for_words : Test → Bool
asks_for_words WordBoundary = true
asks_for_words NotWordBoundary = true
asks_for_words LeftWordBoundary = true
asks_for_words RightWordBoundary = true
asks_for_words LeftWordHalfBoundary = true
asks_for_words RightWordHalfBoundary = true
asks_for_words _ = false

-- the leaf that the assertion asks about is in the set, and it asks for no place
abbrev pub AsksLeaf : Asked → Test → Type 0
AsksLeaf asked (LookAhead leaf) = HasLeaf asked.leaves leaf
AsksLeaf asked (LookAheadNeg leaf) = HasLeaf asked.leaves leaf
AsksLeaf asked (LookBehind leaf) = HasLeaf asked.leaves leaf
AsksLeaf asked (LookBehindNeg leaf) = HasLeaf asked.leaves leaf
AsksLeaf asked Continue = ⊥
AsksLeaf asked _ = Unit {0}

-- all is asked that the assertion asks
pub record AsksTest (asked : Asked) (test : Test) : Type 0 where
  pub edges : asks_for_edges test ≡ true → asked.edges ≡ true
  pub lines : asks_for_lines test ≡ true → asked.lines ≡ true
  pub words : asks_for_words test ≡ true → asked.words ≡ true
  pub leaf : AsksLeaf asked test

-- all is asked that the state asks, if it is an assertion
abbrev pub IsAsked : Asked → State → Type 0
IsAsked asked (S.Look test next) = AsksTest asked test
IsAsked asked _ = Unit {0}

-- all is asked that one of the states asks
abbrev pub AreAsked : Asked → List State → Type 0
AreAsked asked states = (q : ℕ) → q < length states → IsAsked asked (state_at states q)

-- what was asked is asked
pub record AsksMore (less more : Asked) : Type 0 where
  pub edges : less.edges ≡ true → more.edges ≡ true
  pub lines : less.lines ≡ true → more.lines ≡ true
  pub words : less.words ≡ true → more.words ≡ true
  pub leaves : HasAll less.leaves more.leaves

-- what is asked, with what this assertion asks, and with these leaves
abbrev pub asked_with : Asked → Test → LeafSet → Asked
asked_with asked test leaves = record {
  edges = asked.edges || asks_for_edges test;
  lines = asked.lines || asks_for_lines test;
  words = asked.words || asks_for_words test;
  leaves = leaves;
}
