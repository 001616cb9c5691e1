-- What is asked of characters, as assertions are added.
use Rattle.std.proofs.Common.{◌≡◌, ◌||◌, Bool, true, false, refl}
use Rattle.fancy_regex_states.specs.declared.atom.Test.{Test}
use Rattle.fancy_regex_states.specs.declared.atom.Test.TheVariants.{StartText, EndText, StartLine, EndLine, WordBoundary, NotWordBoundary, LeftWordBoundary, RightWordBoundary, LeftWordHalfBoundary, RightWordHalfBoundary, StartLineOniguruma, Never, Continue, LookAhead, LookAheadNeg, LookBehind, LookBehindNeg}
use Rattle.fancy_regex_states.specs.declared.state.State.{State}
use Rattle.fancy_regex_states.specs.declared.state.State.TheVariants as S
use Rattle.fancy_regex_table.specs.LeafSets.{HasAll}
use Rattle.fancy_regex_table.specs.Sorts.{asks_for_edges, asks_for_lines, asks_for_words, AsksLeaf, AsksTest, AsksMore, IsAsked, asked_with}
use Rattle.fancy_regex_table.specs.declared.leaf_set.LeafSet.{LeafSet}
use Rattle.fancy_regex_table.specs.declared.sort.Asked.{Asked}

or_left : (a b : Bool) → a ≡ true → (a || b) ≡ true
or_left true b e = refl
or_left false true e = refl
or_left false false e = e

or_right : (a b : Bool) → b ≡ true → (a || b) ≡ true
or_right true b e = refl
or_right false b e = e

module _ (asked : Asked) (test : Test) (leaves : LeafSet) where
  pub asks_test : ((more : Asked) → more.leaves ≡ leaves → AsksLeaf more test) → AsksTest (asked_with asked test leaves) test
  asks_test leaf = record {
    edges = or_right asked.edges (asks_for_edges test);
    lines = or_right asked.lines (asks_for_lines test);
    words = or_right asked.words (asks_for_words test);
    leaf = leaf (asked_with asked test leaves) refl;
  }

  pub asks_more : HasAll asked.leaves leaves → AsksMore asked (asked_with asked test leaves)
  asks_more all = record {
    edges = or_left asked.edges (asks_for_edges test);
    lines = or_left asked.lines (asks_for_lines test);
    words = or_left asked.words (asks_for_words test);
    leaves = all;
  }

module _ (less more : Asked) (h : AsksMore less more) where
  leaf_still : (test : Test) → AsksLeaf less test → AsksLeaf more test
  leaf_still StartText a = tt
  leaf_still EndText a = tt
  leaf_still (StartLine crlf) a = tt
  leaf_still (EndLine crlf) a = tt
  leaf_still WordBoundary a = tt
  leaf_still NotWordBoundary a = tt
  leaf_still LeftWordBoundary a = tt
  leaf_still RightWordBoundary a = tt
  leaf_still LeftWordHalfBoundary a = tt
  leaf_still RightWordHalfBoundary a = tt
  leaf_still (StartLineOniguruma crlf) a = tt
  leaf_still Never a = tt
  leaf_still Continue a = a
  leaf_still (LookAhead leaf) a = h.leaves leaf a
  leaf_still (LookAheadNeg leaf) a = h.leaves leaf a
  leaf_still (LookBehind leaf) a = h.leaves leaf a
  leaf_still (LookBehindNeg leaf) a = h.leaves leaf a

  -- what a state asks is still asked
  pub still_asked : (state : State) → IsAsked less state → IsAsked more state
  still_asked (S.Look test next) a = record {
    edges = λ e. h.edges (a.edges e);
    lines = λ e. h.lines (a.lines e);
    words = λ e. h.words (a.words e);
    leaf = leaf_still test a.leaf;
  }
  still_asked (S.Read leaf next) a = tt
  still_asked (S.Split first second) a = tt
  still_asked (S.Enter group next) a = tt
  still_asked (S.Leave group next) a = tt
  still_asked (S.Back next) a = tt
  still_asked (S.Ask part negated next) a = tt
  still_asked (S.Atomic part same moved) a = tt
  still_asked S.Match a = tt
