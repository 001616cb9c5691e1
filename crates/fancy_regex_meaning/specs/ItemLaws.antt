-- Laws of the lists that are made of matches.
use Rattle.std.specs.Prelude.{◌-◌, ◌≡◌, ℕ, ◌+◌, ◌<◌, ◌≤◌, ⊤, Bool, false, List, [], ◌∷◌, ◌++◌, length, Option, Some, None, slice_range, suc, min, take, map}
use Rattle.fancy_regex_meaning.specs.Searches.{Match, Options, Input, items, all_items, search_from, pieces, pieces_up_to, counted, replaced, first_item, find_input}
use Rattle.fancy_regex_meaning.specs.Groups.{Pattern}
use Rattle.fancy_regex_meaning.specs.Ways.{Setting}

-- a search from a place finds nothing that begins before it
abbrev pub LooksOnward : (ℕ → Bool → Option Match) → Type 0
LooksOnward search = (q : ℕ) (off : Bool) (m : Match) → search q off ≡ Some m → (q ≤ m.start) × (m.start ≤ m.end)

-- each starts at or after the end before it, and ends past that
abbrev pub Ascends : ℕ → List Match → Type 0
Ascends e [] = ⊤
Ascends e (m ∷ ms) = (e ≤ m.start) × (m.start ≤ m.end) × (e < m.end) × Ascends m.end ms

-- the same of a list whose first has nothing before it
abbrev pub AreInOrder : List Match → Type 0
AreInOrder [] = ⊤
AreInOrder (m ∷ ms) = (m.start ≤ m.end) × Ascends m.end ms

abbrev pub ItemsAscend : Type 0
ItemsAscend = (text : List ℕ) (search : ℕ → Bool → Option Match) (range_start range_end : ℕ) → LooksOnward search →
    (n p : ℕ) → AreInOrder (items text search range_start range_end n p None false)

-- pieces and matched texts in turn
abbrev pub in_turn : List ℕ → List (List ℕ) → List Match → List ℕ
in_turn text [] ms = []
in_turn text (x ∷ xs) [] = x
in_turn text (x ∷ xs) (m ∷ ms) = x ++ (slice_range text m.start m.end ++ in_turn text xs ms)

abbrev pub OneMorePiece : Type 0
OneMorePiece = (text : List ℕ) (ms : List Match) → length (pieces text ms) ≡ length ms + 1

abbrev pub PiecesAreAll : Type 0
PiecesAreAll = (text : List ℕ) (ms : List Match) → AreInOrder ms → in_turn text (pieces text ms) ms ≡ text

-- the items of each pattern, on each text
abbrev pub PatternsAscend : Type 0
PatternsAscend = (s : Setting) (pattern : Pattern) (options : Options) (input : Input) → AreInOrder (all_items s pattern options input)

-- the first item is what is found
abbrev pub FirstItemIsFound : Type 0
FirstItemIsFound = (s : Setting) (pattern : Pattern) (options : Options) (input : Input) →
    first_item (all_items s pattern options input) ≡ find_input s pattern options input

-- Wherever an iteration stands, a bound on the count of its items that is past the places that are left never ends them.
abbrev pub ItemsNeedNoMore : Type 0
ItemsNeedNoMore = (s : Setting) (pattern : Pattern) (options : Options) (input : Input) (n m p : ℕ) (last : Option ℕ) (off : Bool) →
    input.range_end + 1 - p < n → input.range_end + 1 - p < m →
    items s.text (search_from s pattern options input) input.range_start input.range_end n p last off
    ≡ items s.text (search_from s pattern options input) input.range_start input.range_end m p last off

-- The bound on the count of items is never what ends them.
abbrev pub ItemsAreUnbounded : Type 0
ItemsAreUnbounded = (s : Setting) (pattern : Pattern) (options : Options) (input : Input) → input.range_end ≤ length s.text → (n : ℕ) → length s.text + 2 ≤ n →
    items s.text (search_from s pattern options input) input.range_start input.range_end n input.start None false
    ≡ all_items s pattern options input

-- at most n pieces, and where there are fewer of all, these
abbrev pub PiecesUpToAreCounted : Type 0
PiecesUpToAreCounted = (n : ℕ) (text : List ℕ) (ms : List Match) → length (pieces_up_to n text ms) ≡ min n (length ms + 1)

-- all of them but the last are the first of all pieces
abbrev pub PiecesUpToAreFirst : Type 0
PiecesUpToAreFirst = (n : ℕ) (text : List ℕ) (ms : List Match) → take n (pieces_up_to (suc n) text ms) ≡ take n (pieces text ms)

-- where each match is replaced by its own text nothing changes
abbrev pub ReplacedBySelf : Type 0
ReplacedBySelf = (text : List ℕ) (limit : ℕ) (ms : List Match) → AreInOrder ms →
    replaced text (λ m. slice_range text m.start m.end) limit ms ≡ text

-- texts of two lists in turn, the first list's first
abbrev pub alternately : List (List ℕ) → List (List ℕ) → List ℕ
alternately [] ys = []
alternately (x ∷ xs) [] = x
alternately (x ∷ xs) (y ∷ ys) = x ++ (y ++ alternately xs ys)

-- the replaced text is the pieces and the answers for the matches in turn
abbrev pub ReplacedIsInTurn : Type 0
ReplacedIsInTurn = (text : List ℕ) (by : Match → List ℕ) (limit : ℕ) (ms : List Match) →
    replaced text by limit ms ≡ alternately (pieces text (counted limit ms)) (map by (counted limit ms))

-- nothing is replaced where nothing matches
abbrev pub NothingReplaced : Type 0
NothingReplaced = (text : List ℕ) (by : Match → List ℕ) (limit : ℕ) → replaced text by limit [] ≡ text
