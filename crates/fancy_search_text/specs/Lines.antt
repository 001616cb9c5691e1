-- The output lines for matches and pieces.
use Rattle.std.specs.Prelude.{ℕ, List, ◌++◌, length, Option, Some, None, codes, slice_set}
use Rattle.std.specs.Fmt.{decimal}
use Rattle.std.specs.List.{flat_map, join_by}
use Rattle.fancy_regex.specs.Ways.{Pairs}
use Rattle.fancy_regex.specs.Searches.{Match}

-- `START..END`, in decimal digits
abbrev pub span_text : ℕ × ℕ → List ℕ
span_text span = decimal span.0 ++ (codes ".." ++ decimal span.1)

-- the span of a group, or `-` where it is not set
abbrev pub group_text : Option (ℕ × ℕ) → List ℕ
group_text None = codes "-"
group_text (Some span) = span_text span

-- the spans of all groups, separated by a space
abbrev pub groups_text : Pairs → List ℕ
groups_text spans = join_by group_text (codes " ") spans

-- the spans of the groups by number; that of group 0 is the whole match
abbrev pub spans_of : Match → Pairs
spans_of m = slice_set m.pairs 0 (Some (m.start, m.end))

-- a line for each match, with its text
abbrev pub lines_of : (Match → List ℕ) → List Match → List ℕ
lines_of text_of ms = flat_map (λ m. text_of m ++ codes "\n") ms

-- the span of each match
abbrev pub span_lines : List Match → List ℕ
span_lines ms = lines_of (λ m. span_text (m.start, m.end)) ms

-- the spans of all groups of each match
abbrev pub group_lines : List Match → List ℕ
group_lines ms = lines_of (λ m. groups_text (spans_of m)) ms

-- the length of a piece in bytes, in decimal digits, and the piece
abbrev pub piece_line : List ℕ → List ℕ
piece_line piece = decimal (length piece) ++ (codes ":" ++ (piece ++ codes "\n"))

-- a line for each piece
abbrev pub piece_lines : List (List ℕ) → List ℕ
piece_lines ps = flat_map piece_line ps
