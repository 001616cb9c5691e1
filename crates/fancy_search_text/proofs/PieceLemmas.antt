-- The lines of pieces, one after another.
use Rattle.std.proofs.Common.{◌≡◌, ◌∙◌, ◌++◌, Bool, true, false, List, [], ◌∷◌, ℕ, ap, sym, refl, append_assoc, append-nil}
use Rattle.std.proofs.lemmas.Bool.{false≢true}
use Rattle.fancy_regex.specs.Searches.{Match, pieces_from}
use Rattle.fancy_regex.specs.Pieces.{pieces_left}
use Rattle.fancy_search_text.specs.Lines.{piece_line, piece_lines}

-- the line of the first piece is out
pub line_more : (out piece : List ℕ) (before after : List (List ℕ)) → before ≡ piece ∷ after →
    (out ++ piece_line piece) ++ piece_lines after ≡ out ++ piece_lines before
line_more out piece before after e = append_assoc out (piece_line piece) (piece_lines after) ∙ ap (λ ps. out ++ piece_lines ps) (sym e)

-- all are out
pub lines_all : (out all : List ℕ) (left : List (List ℕ)) → left ≡ [] → out ++ piece_lines left ≡ all → out ≡ all
lines_all out all left e f = sym (append-nil out) ∙ ap (λ ps. out ++ piece_lines ps) (sym e) ∙ f

-- a split that has pieces left is not done
pub not_done : (is_done : Bool) (text : List ℕ) (from : ℕ) (ms : List Match) → (pieces_left is_done text from ms ≡ [] → ⊥) → is_done ≡ false
not_done true text from ms h = absurd (h refl)
not_done false text from ms h = refl

pub not_done_before : (is_done : Bool) (text : List ℕ) (from : ℕ) (ms : List Match) (piece : List ℕ) (after : List (List ℕ)) → pieces_left is_done text from ms ≡ piece ∷ after → is_done ≡ false
not_done_before is_done text from ms piece after e = not_done is_done text from ms (λ none. some_left piece after (sym none ∙ e))
  where
    some_left : (x : List ℕ) (xs : List (List ℕ)) → [] ≡ x ∷ xs → ⊥
    some_left x xs f = cc

-- there is always a piece
some_piece : (text : List ℕ) (from : ℕ) (ms : List Match) → pieces_from text from ms ≡ [] → ⊥
some_piece text from [] e = cc
some_piece text from (m ∷ ms) e = cc

-- the piece with which a split is done is the rest, after the last match
pub none_left : (was_done is_done : Bool) (text later : List ℕ) (from to : ℕ) (ms others : List Match) (piece : List ℕ)
    → pieces_left was_done text from ms ≡ piece ∷ pieces_left is_done later to others → is_done ≡ true → ms ≡ []
none_left was_done false text later from to ms others piece e done = absurd (false≢true done)
none_left true true text later from to ms others piece e done = cc
none_left false true text later from to [] others piece e done = refl
none_left false true text later from to (m ∷ ms) others piece e done = absurd (some_piece text m.end ms (cc e))

-- a split without pieces is done
pub done_at_end : (is_done : Bool) (text : List ℕ) (from : ℕ) (ms : List Match) → pieces_left is_done text from ms ≡ [] → is_done ≡ true
done_at_end true text from ms e = refl
done_at_end false text from ms e = absurd (some_piece text from ms e)
