-- A split that moves yields a piece.
use Rattle.std.proofs.Common.{◌≡◌, ℕ, zero, suc, ◌-◌, ◌<◌, arith, ◌∷◌, Bool, true, false, List, [], Option, Some, None, Ok, Err, refl, Bor}
use Rattle.std.specs.Prelude.{drop, take}
use Rattle.std.specs.declared.result.Result.{Result}
use Rattle.fancy_regex_meaning.specs.Searches.{Match, pieces_from}
use Rattle.fancy_regex_search.specs.Pieces.{MovesPiece, YieldsPiece, pieces_left, pieces_left_up_to}

-- there is always a piece
some_piece : (text : List ℕ) (p : ℕ) (ms : List Match) → pieces_from text p ms ≡ [] → ⊥
some_piece text p [] e = absurd (cc)
some_piece text p (m ∷ ms) e = absurd (cc)

pub pieces_are_left : (d : Bool) (text : List ℕ) (p : ℕ) (ms : List Match) → d ≡ false → pieces_left d text p ms ≡ [] → ⊥
pieces_are_left d text p ms h e = some_piece text p ms (rw h at e)

-- of a split
pub moves_yields : {E : Type 0} (text : List ℕ) (d : Bool) (p : ℕ) (ms : List Match) (r : Option (Result (Bor (List ℕ)) E)) (d' : Bool) (p' : ℕ) (ms' : List Match) →
    MovesPiece text d p ms r d' p' ms' → YieldsPiece (drop p text) (pieces_left d text p ms) r (pieces_left d' text p' ms')
moves_yields text d p ms None d' p' ms' h = rw (h.0, h.1) (refl, refl)
moves_yields text d p ms (Some (Ok x)) true p' ms' h = rw (h.0, h.1.0, h.1.1) refl
moves_yields text d p ms (Some (Ok x)) false p' ms' h = rw (h.0, h.1.1, h.1.2, h.1.3) refl
moves_yields text d p ms (Some (Err e)) d' p' ms' h = (pieces_are_left d text p ms h.0, rw (h.1.0, h.1.1, h.1.2) refl)

-- of a split with a limit, before its last item
pub moves_yields_up_to : {E : Type 0} (n : ℕ) (text : List ℕ) (d : Bool) (p : ℕ) (ms : List Match) (r : Option (Result (Bor (List ℕ)) E)) (d' : Bool) (p' : ℕ) (ms' : List Match) →
    MovesPiece text d p ms r d' p' ms' → YieldsPiece (drop p text) (pieces_left_up_to (suc (suc n)) d text p ms) r (pieces_left_up_to (suc n) d' text p' ms')
moves_yields_up_to n text d p ms None d' p' ms' h = rw (h.0, h.1) (refl, refl)
moves_yields_up_to n text d p ms (Some (Ok x)) true p' ms' h = rw (h.0, h.1.0, h.1.1) refl
moves_yields_up_to n text d p ms (Some (Ok x)) false p' ms' h = rw (h.0, h.1.1, h.1.2, h.1.3) refl
moves_yields_up_to zero text d p ms (Some (Err e)) d' p' ms' h = (pieces_are_left d text p (take 1 ms) h.0, rw (h.1.0, h.1.2) refl)
moves_yields_up_to (suc n) text d p ms (Some (Err e)) d' p' ms' h = (pieces_are_left d text p (take (suc (suc n)) ms) h.0, rw (h.1.0, h.1.1, h.1.2) refl)

-- the same for the numbers of the code
pub limit_yields : {E : Type 0} (n : ℕ) (text : List ℕ) (d : Bool) (p : ℕ) (ms : List Match) (r : Option (Result (Bor (List ℕ)) E)) (d' : Bool) (p' : ℕ) (ms' : List Match) → 0 < n - 1 →
    MovesPiece text d p ms r d' p' ms' → YieldsPiece (drop p text) (pieces_left_up_to n d text p ms) r (pieces_left_up_to (n - 1) d' text p' ms')
limit_yields zero text d p ms r d' p' ms' h moves = absurd (omega arith)
limit_yields (suc zero) text d p ms r d' p' ms' h moves = absurd (omega arith)
limit_yields (suc (suc n)) text d p ms r d' p' ms' h moves =
    let e : suc (suc n) - 1 ≡ suc n = omega arith in rw e (moves_yields_up_to n text d p ms r d' p' ms' moves)
