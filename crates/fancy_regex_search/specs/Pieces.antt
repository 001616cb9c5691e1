-- The pieces of a text between its matches, as splitting returns them.
use Rattle.std.specs.Prelude.{◌≡◌, ◌≢◌, ℕ, zero, suc, Bool, true, false, List, [], ◌∷◌, drop, take, slice_range, Option, MatchOption, MatchBool, MatchResult, if◌then◌else◌}
use Rattle.std.proofs.Common.{Bor}
use Rattle.std.specs.declared.result.Result.{Result}
use Rattle.fancy_regex_meaning.specs.Searches.{Match, pieces_from}
use Rattle.fancy_regex_meaning.specs.Groups.{Pattern}
use Rattle.fancy_regex_meta.specs.FoundParts.{wanted_groups}
use Rattle.fancy_regex_meta.specs.declared.found.MatchDetail.{MatchDetail}
use Rattle.fancy_regex_search.specs.declared.match_iter.IterState.{IterState}

-- The call returned the first of the remaining matches, with the text between the previous match and it; or `None`, and there
-- was none; or an error, and none remains. The number is where the last match ended.
abbrev pub YieldsGap : {A E : Type 0} → (A → List ℕ) → (A → List ℕ) → MatchDetail → Pattern → List ℕ → ℕ → List Match → Option (Result A E) → ℕ → List Match → Type 0
YieldsGap text_of groups_of wanted pattern text old before result new after =
    MatchOption result ((before ≡ []) × (after ≡ []) × (new ≡ old))
    (λ item. MatchResult item
    (λ gap. (m : Match) × (before ≡ m ∷ after) × (groups_of gap ≡ wanted_groups wanted pattern m) × (text_of gap ≡ slice_range text old m.start) × (new ≡ m.end))
    (λ _. (after ≡ []) × (new ≡ old)))

-- the pieces that a split has still to return: from where the last match ended, unless it is done
abbrev pub pieces_left : Bool → List ℕ → ℕ → List Match → List (List ℕ)
pieces_left is_done text from ms = if is_done then [] else pieces_from text from ms

-- the same of a split that returns at most so many
abbrev pub pieces_left_up_to : ℕ → Bool → List ℕ → ℕ → List Match → List (List ℕ)
pieces_left_up_to zero is_done text from ms = []
pieces_left_up_to (suc n) is_done text from ms = pieces_left is_done text from (take n ms)

-- A call on a split moved it: it returned `None`, and the split was done; or the text before the first remaining match; or the
-- rest, where none remained, and the split is done; or an error, and no match remains. The numbers are where the last match
-- ended.
abbrev pub MovesPiece : {E : Type 0} → List ℕ → Bool → ℕ → List Match → Option (Result (Bor (List ℕ)) E) → Bool → ℕ → List Match → Type 0
MovesPiece text was_done old before result is_done new after =
    MatchOption result ((was_done ≡ true) × (is_done ≡ true))
    (λ item. (was_done ≡ false) × MatchResult item
    (λ piece. MatchBool is_done ((before ≡ []) × (piece.now ≡ drop old text))
    ((m : Match) × (before ≡ m ∷ after) × (piece.now ≡ slice_range text old m.start) × (new ≡ m.end)))
    (λ _. (is_done ≡ false) × (after ≡ []) × (new ≡ old)))

-- The call returned the first of the remaining pieces; or `None`, and there was none; or an error, and then only this rest
-- of the text remains.
abbrev pub YieldsPiece : {E : Type 0} → List ℕ → List (List ℕ) → Option (Result (Bor (List ℕ)) E) → List (List ℕ) → Type 0
YieldsPiece rest before result after =
    MatchOption result ((before ≡ []) × (after ≡ []))
    (λ item. MatchResult item (λ piece. before ≡ piece.now ∷ after) (λ _. (before ≢ []) × (after ≡ rest ∷ [])))

-- An error of a call on a split is one of an iteration over the matches that is not over, and ends it. So there is no second one.
-- A piece after which the split is not done does not end it.
abbrev pub PieceEnds : {A E : Type 0} → Option (Result A E) → IterState → Bool → IterState → Type 0
PieceEnds result before is_done after =
    MatchOption result (Unit {0}) (λ item. MatchResult item (λ _. is_done ≡ false → after.is_done ≡ false) (λ _. (before.is_done ≡ false) × (after.is_done ≡ true)))
