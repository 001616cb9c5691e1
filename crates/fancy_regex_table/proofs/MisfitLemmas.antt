-- Characters that are passed over where a search goes on to those that each match needs.
use Rattle.std.proofs.Common.{◌≡◌, ◌⊎◌, inl, inr, ℕ, ◌+◌, ◌<◌, ◌≤◌, true, false, List, length, arith, ⊎_elim, subst, sym}
use Rattle.std.specs.Prelude.{slice_index, slice_index_or}
use Rattle.std.proofs.lemmas.Option.{slice_get-get_or}
use Rattle.fancy_regex_stops.specs.Stops.{IsShortAt, IsBeforeOther, IsShortPairAt}
use Rattle.fancy_regex_table.specs.Needed.{AreMarks, IsMisfitIn, IsOther, IsPassedIn}
use Rattle.fancy_regex_table.specs.declared.needed.Needed.{Needed}

-- a character that stands at a place of the string and is of another class is a misfit
other_misfit : (classes string bytes : List ℕ) (i place : ℕ) → IsOther string place (slice_index classes (slice_index_or bytes (i + place) 0)) → IsMisfitIn classes string bytes i
other_misfit classes string bytes i place other = record { place = place; wanted = other.wanted; is_there = other.is_there; differs = λ small. other.differs }

-- the characters that the first stops pass over
pub short_passed : (classes : List ℕ) (needed : Needed) (bytes : List ℕ) (i : ℕ) → AreMarks classes needed
    → IsShortAt bytes needed.others needed.passes_short i → IsPassedIn classes needed bytes i
short_passed classes needed bytes i marks short =
    ⊎_elim
    (λ (one : (slice_index_or bytes i 0 < 128) × (slice_index_or needed.others (slice_index_or bytes i 0) false ≡ true)).
    let here : i + 0 ≡ i = omega arith in
    let other : IsOther needed.string.items 0 (slice_index classes (slice_index_or bytes i 0)) = marks.first (slice_index_or bytes i 0) one.0 one.1 in
    inl (
      one.0,
      other_misfit classes needed.string.items bytes i 0
          (subst (λ (k : ℕ). IsOther needed.string.items 0 (slice_index classes (slice_index_or bytes k 0))) (sym here) other),
    ))
    (λ (wide : (128 ≤ slice_index_or bytes i 0) × (slice_index_or bytes i 0 < 240) × (needed.passes_short ≡ true)). inr wide)
    short

-- the characters that the stops of pairs pass over
pub pair_passed : (classes : List ℕ) (needed : Needed) (bytes : List ℕ) (i : ℕ) → AreMarks classes needed → 1 < length needed.string.items
    → IsShortPairAt bytes needed.others needed.passes_short needed.next_others i → IsPassedIn classes needed bytes i
pair_passed classes needed bytes i marks long pair =
    ⊎_elim (short_passed classes needed bytes i marks)
    (λ (before : IsBeforeOther bytes needed.next_others i).
    ⊎_elim
    (λ (one : (slice_index_or bytes (i + 1) 0 < 128) × (slice_index_or needed.next_others (slice_index_or bytes (i + 1) 0) false ≡ true)).
    inl (before.ascii, other_misfit classes needed.string.items bytes i 1 (marks.second (slice_index_or bytes (i + 1) 0) one.0 one.1)))
    (λ (wide : (128 ≤ slice_index_or bytes (i + 1) 0) × (true ≡ true)).
    inl (
      before.ascii,
      record {
        place = 1;
        wanted = slice_index_or needed.string.items 1 0;
        is_there = slice_get-get_or needed.string.items 1 0 long;
        differs = λ small. absurd (omega (arith, wide.0, small));
      },
    ))
    before.next)
    pair
