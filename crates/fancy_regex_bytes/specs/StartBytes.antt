-- The bytes that the matches of a pattern start with.
use Rattle.std.specs.Prelude.{◌≡◌, ℕ, ◌≤◌, length, Bool, true, false, ◌&&◌, ◌||◌, ◌==◌, nat_lt, List, [], ◌∷◌, Option, Some, None, if◌then◌else◌, slice_get, slice_index}
use Rattle.std.specs.List.{filter, list_any}
use Rattle.std.specs.Str.{IsUtf8, IsCharBoundary}
use Rattle.regex_hir.specs.Text.{is_some_and, is_scalar}
use Rattle.fancy_regex_tree.specs.Tree.{Tree, Trees, Text, empty, assertion, general_newline, literal, concat, alt, group, look_around, repeat, delegate, atomic_group, keep_out, continue, backref_exists, verb, define_group, ast_group, ast_condition, no_trees, more_trees}
use Rattle.fancy_regex_tree.specs.Traversal.{nodes}
use Rattle.fancy_regex_meaning.specs.Positions.{numbers_from}
use Rattle.fancy_regex_meaning.specs.Groups.{pattern_of}
use Rattle.fancy_regex_meaning.specs.Sizes.{may_be_empty}
use Rattle.fancy_regex_meaning.specs.SizeLaws.{IsInOrder}
use Rattle.fancy_regex_meaning.specs.Ways.{Setting}
use Rattle.fancy_regex_meaning.specs.Searches.{Search, Match, match_at, starts, first_match, first_some}
use Rattle.fancy_regex_class.specs.Classes.{in_class, folded}
use Rattle.fancy_regex_bytes.specs.ByteSets.{Bytes, no_bytes, either_bytes, bytes_in, first_byte}

-- the code points
unfoldable pub code_points : List ℕ
code_points = numbers_from 0x11_0000 0

-- the first bytes of the characters that pass the test
abbrev pub first_bytes : (ℕ → Bool) → Bytes
first_bytes test b = list_any (λ c. is_scalar c && test c && first_byte c == b) code_points

-- a literal: with `casei` all characters that fold alike
abbrev pub literal_starts : (ℕ → ℕ) → ℕ → Bool → Bytes
literal_starts fold d true = first_bytes (λ c. fold c == fold d)
literal_starts fold d false = λ b. first_byte d == b

-- the first bytes of the second ones of the pairs whose first one is this character
abbrev pub paired_starts : List (ℕ × ℕ) → ℕ → Bytes
paired_starts pairs c b = list_any (λ p. p.0 == c && is_scalar p.1 && first_byte p.1 == b) pairs

-- a class: its ASCII members, and each byte outside ASCII
abbrev pub class_starts : (ℕ → Bool) → Bytes
class_starts member b = if nat_lt b 128 then member b else nat_lt b 256

-- `\R`: in Unicode mode C2 begins U+0085, and E2 begins U+2028 and U+2029
abbrev pub newline_starts : Bool → Bytes
newline_starts true = bytes_in (0x0A ∷ 0x0B ∷ 0x0C ∷ 0x0D ∷ 0xC2 ∷ 0xE2 ∷ [])
newline_starts false = bytes_in (0x0A ∷ 0x0B ∷ 0x0C ∷ 0x0D ∷ [])

-- the union, if both are known
abbrev pub either_set : Option Bytes → Option Bytes → Option Bytes
either_set None g = None
either_set (Some f) None = None
either_set (Some f) (Some g) = Some (either_bytes f g)

-- the set, if it is known
abbrev pub if_known : Bool → Bytes → Option Bytes
if_known true f = Some f
if_known false f = None

-- Over the members of classes, the folding of characters, and which trees may be empty.
module _ (has_member : Text → Bool → ℕ → Bool) (fold : ℕ → ℕ) (is_skippable : Tree → Bool) where
  -- The bytes that a way of the node may read first, if they are known. A node that takes nothing reads none.
  unfoldable mutual
    pub start_set : Tree → Option Bytes
    start_set (literal val casei) = Some (literal_starts fold (slice_index val 0) casei)
    start_set (delegate class casei) = Some (class_starts (has_member class casei))
    start_set (general_newline unicode) = Some (newline_starts unicode)
    start_set (concat ts) = row_start_set ts
    start_set (alt ts) = branches_start_set ts
    start_set (group t) = start_set t
    start_set (atomic_group t) = start_set t
    start_set (repeat t lo hi greedy) = if hi == 0 then Some no_bytes else start_set t
    start_set empty = Some no_bytes
    start_set (assertion a) = Some no_bytes
    start_set (look_around t how) = Some no_bytes
    start_set keep_out = Some no_bytes
    start_set continue = Some no_bytes
    start_set (backref_exists k level) = Some no_bytes
    start_set (verb v) = Some no_bytes
    start_set (define_group t) = Some no_bytes
    start_set (ast_group name t position) = Some no_bytes
    start_set (ast_condition target level position) = Some no_bytes
    start_set _ = None

    -- up to and with the first part that is not skippable
    pub row_start_set : Trees → Option Bytes
    row_start_set no_trees = Some no_bytes
    row_start_set (more_trees t ts) = if is_skippable t then either_set (start_set t) (row_start_set ts) else start_set t

    pub branches_start_set : Trees → Option Bytes
    branches_start_set no_trees = Some no_bytes
    branches_start_set (more_trees t ts) = either_set (start_set t) (branches_start_set ts)

abbrev pub is_keep_out : Tree → Bool
is_keep_out keep_out = true
is_keep_out _ = false

abbrev pub has_keep_out : Tree → Bool
has_keep_out t = list_any is_keep_out (nodes t)

-- The bytes that the matches of the pattern start with. They are unknown where a match may be empty, or its start may be moved.
abbrev pub start_bytes_by : (Text → Bool → ℕ → Bool) → (ℕ → ℕ) → Tree → Option Bytes
start_bytes_by has_member fold t =
    let is_skippable = may_be_empty (pattern_of t).groups in
    let known = start_set has_member fold is_skippable t in
    if is_skippable t || has_keep_out t then None else known

-- in Unicode mode or outside it
abbrev pub start_bytes : Bool → Tree → Option Bytes
start_bytes unicode = start_bytes_by (in_class unicode) (folded unicode)

-- classes and folding are those of Unicode mode, or of ASCII
abbrev pub HasMode : Bool → Setting → Type 0
HasMode unicode s = (s.has_member ≡ in_class unicode) × (s.fold ≡ folded unicode)

-- Law: a match of an attempt at a place starts there, and a byte of the set stands there. No repeat is reversed.
abbrev pub MatchesStartIn : Setting → Tree → Bytes → Type 0
MatchesStartIn s t set = IsUtf8 s.text → IsInOrder t → (find : Search) (p : ℕ) (m : Match) → IsCharBoundary s.text p →
    match_at s (pattern_of t) find p ≡ Some m → (m.start ≡ p) × (is_some_and (slice_get s.text p) set ≡ true)

-- Law: a search finds the same without the starts at which no byte of the set stands.
abbrev pub SeekFindsSame : Setting → Tree → Bytes → Type 0
SeekFindsSame s t set = IsUtf8 s.text → IsInOrder t → (find : Search) → IsCharBoundary s.text find.first → find.stop ≤ length s.text →
    first_some (match_at s (pattern_of t) find) (filter (λ p. is_some_and (slice_get s.text p) set) (starts s (pattern_of t) find))
    ≡ first_match s (pattern_of t) find

-- Law: the match of a search starts at a byte of the set.
abbrev pub SearchesStartIn : Setting → Tree → Bytes → Type 0
SearchesStartIn s t set = IsUtf8 s.text → IsInOrder t → (find : Search) (m : Match) → IsCharBoundary s.text find.first → find.stop ≤ length s.text →
    first_match s (pattern_of t) find ≡ Some m → is_some_and (slice_get s.text m.start) set ≡ true

-- all three, in the mode
abbrev pub StartBytesHold : Bool → Tree → Bytes → Type 0
StartBytesHold unicode t set = (s : Setting) → HasMode unicode s → MatchesStartIn s t set × SearchesStartIn s t set × SeekFindsSame s t set
