-- Searches and their match, iteration, splitting, replacement, and pattern sets.
use Rattle.std.specs.Prelude.{ℕ, zero, suc, ◌+◌, max, Bool, true, false, not, ◌&&◌, ◌||◌, List, [], ◌∷◌, ◌++◌, length, replicate, take, drop, Option, Some, None, option_map, ◌==◌, nat_le, nat_lt, slice_range, if◌then◌else◌}
use Rattle.std.specs.List.{filter}
use Rattle.fancy_regex_meaning.specs.Groups.{Pattern}
use Rattle.fancy_regex_meaning.specs.Positions.{boundaries, position_after}
use Rattle.fancy_regex_meaning.specs.Ways.{Pairs, MatchState, Setting, ways, for_some}

-- The options of a regex that affect which match is reported.
pub record Options : Type 0 where
  pub find_not_empty : Bool
  -- leftmost-longest instead of leftmost-first
  pub longest : Bool

abbrev pub default_options : Options
default_options = record { find_not_empty = false; longest = false }

-- A search: its first start, its end, and its options.
pub record Search : Type 0 where
  pub first : ℕ
  -- no match ends after this position
  pub stop : ℕ
  pub anchored : Bool
  pub options : Options

pub record Match : Type 0 where
  pub start : ℕ
  pub end : ℕ
  -- of the groups, by number; where group 0 is the whole, its pair is not set here
  pub pairs : Pairs

-- the first value that f has on the list
abbrev pub first_some : {A B : Type 0} → (A → Option B) → List A → Option B
first_some f [] = None
first_some f (x ∷ xs) = elim (f x) [ None ↦ first_some f xs | Some y ↦ Some y ]

abbrev pub first_item : {A : Type 0} → List A → Option A
first_item [] = None
first_item (x ∷ xs) = Some x

-- w, unless the other one ends later
abbrev pub farther : MatchState → Option MatchState → MatchState
farther w None = w
farther w (Some v) = if nat_lt w.position v.position then v else w

-- the first of those that end last
abbrev pub first_longest : List MatchState → Option MatchState
first_longest [] = None
first_longest (w ∷ ws) = Some (farther w (first_longest ws))

-- the reported way: the first, or with `true` the longest
abbrev pub chosen : Bool → List MatchState → Option MatchState
chosen false ws = first_item ws
chosen true ws = first_longest ws

abbrev pub is_admitted : Search → MatchState → Bool
is_admitted find w = nat_le w.position find.stop && not (find.options.find_not_empty && w.match_start == w.position)

abbrev pub match_of : MatchState → Match
match_of w = record { start = w.match_start; end = w.position; pairs = w.pairs }

-- the initial state of an attempt at this position
abbrev pub start_way : Pattern → ℕ → MatchState
start_way pattern p = record { position = p; pairs = replicate (length pattern.groups) None; match_start = p }

module _ (s : Setting) (pattern : Pattern) (find : Search) where
  -- the ways of the whole pattern from this position
  abbrev pub ways_at : ℕ → List MatchState
  ways_at p = ways s pattern.groups pattern.first_group pattern.tree (start_way pattern p)

  -- the match of an attempt at this position: the reported one among the admitted ways
  unfoldable pub match_at : ℕ → Option Match
  match_at p = option_map match_of (chosen find.options.longest (filter (is_admitted find) (ways_at p)))

  -- the positions at which matches are attempted, in order
  abbrev pub starts : List ℕ
  starts =
      if nat_lt find.stop find.first then [] else if find.anchored then find.first ∷ [] else boundaries s.text find.first find.stop

  unfoldable pub first_match : Option Match
  first_match = first_some match_at starts

-- The input of a search: where it starts, the range that it may match in, and its modes.
pub record Input : Type 0 where
  pub start : ℕ
  pub range_start : ℕ
  pub range_end : ℕ
  pub anchored : Bool
  -- `\G` fails at every position
  pub no_continue : Bool

-- the whole text from its start
abbrev pub input_of : List ℕ → Input
input_of text = record { start = 0; range_start = 0; range_end = length text; anchored = false; no_continue = false }

module _ (s : Setting) (pattern : Pattern) (options : Options) (input : Input) where
  -- the first match from a position on; `\G` matches at that position unless it is switched off
  unfoldable pub search_from : ℕ → Bool → Option Match
  search_from q off =
      first_match (record s { continue_at = if off || input.no_continue then None else Some q }) pattern
      (record { first = q; stop = input.range_end; anchored = input.anchored; options = options })

  unfoldable pub find_input : Option Match
  find_input = search_from (max input.start input.range_start) false

-- Iteration, over a search from a position that may have `\G` switched off.
module _ (text : List ℕ) (search : ℕ → Bool → Option Match) (range_start range_end : ℕ) where
  abbrev pub is_last_end : Option ℕ → ℕ → Bool
  is_last_end None e = false
  is_last_end (Some l) e = l == e

  -- the matches that an iterator yields from p on, at most n. An empty match at the end of the previous match is skipped.
  unfoldable pub items : ℕ → ℕ → Option ℕ → Bool → List Match
  items zero p last off = []
  items (suc n) p last off =
      let q = max p range_start in
      let found = for_some (λ m.
      let onward = m ∷ items n m.end (Some m.end) false in
      let next = items n (position_after text m.end) (Some m.end) (m.end == q) in
      if nat_lt m.start m.end then onward else if is_last_end last m.end then next else m ∷ next) (search q off) in
      if nat_lt range_end q then [] else found

module _ (s : Setting) (pattern : Pattern) (options : Options) (input : Input) where
  unfoldable pub all_items : List Match
  all_items =
      items s.text (search_from s pattern options input) input.range_start input.range_end
      (length s.text + 2) input.start None false

-- the texts between the matches, from p on, and the rest
abbrev pub pieces_from : List ℕ → ℕ → List Match → List (List ℕ)
pieces_from text p [] = drop p text ∷ []
pieces_from text p (m ∷ ms) = slice_range text p m.start ∷ pieces_from text m.end ms

abbrev pub pieces : List ℕ → List Match → List (List ℕ)
pieces text ms = pieces_from text 0 ms

-- at most n pieces, the last of them the rest
abbrev pub pieces_up_to : ℕ → List ℕ → List Match → List (List ℕ)
pieces_up_to zero text ms = []
pieces_up_to (suc n) text ms = pieces text (take n ms)

-- each piece and the replacement of the match after it, and then the rest
abbrev pub replaced_from : List ℕ → (Match → List ℕ) → ℕ → List Match → List ℕ
replaced_from text by p [] = drop p text
replaced_from text by p (m ∷ ms) = slice_range text p m.start ++ by m ++ replaced_from text by m.end ms

-- all of them for limit 0, else the first of them
abbrev pub counted : ℕ → List Match → List Match
counted zero ms = ms
counted (suc n) ms = take (suc n) ms

abbrev pub replaced : List ℕ → (Match → List ℕ) → ℕ → List Match → List ℕ
replaced text by limit ms = replaced_from text by 0 (counted limit ms)

-- A member of a pattern set: its pattern, its options, and its setting.
pub record Member : Type 0 where
  pub pattern : Pattern
  pub options : Options
  pub setting : Setting

pub record SetAnswer : Type 0 where
  pub position : ℕ
  -- the members that match there, each with its number
  pub found : List (ℕ × Match)

module _ (members : List Member) (input : Input) where
  abbrev pub set_start : ℕ
  set_start = max input.start input.range_start

  -- the member's own match at this place, with `\G` where the search of the set began
  unfoldable pub member_match : ℕ → Member → Option Match
  member_match p m =
      match_at (record (m.setting) { continue_at = if input.no_continue then None else Some set_start }) (m.pattern)
      (record { first = p; stop = input.range_end; anchored = true; options = m.options }) p

  abbrev pub found_at : ℕ → ℕ → List Member → List (ℕ × Match)
  found_at p i [] = []
  found_at p i (m ∷ ms) = elim (member_match p m) [ None ↦ found_at p (i + 1) ms | Some found ↦ (i, found) ∷ found_at p (i + 1) ms ]

  abbrev pub answer_if_any : ℕ → List (ℕ × Match) → Option SetAnswer
  answer_if_any p [] = None
  answer_if_any p (x ∷ xs) = Some (record { position = p; found = x ∷ xs })

  abbrev pub set_starts : List ℕ → List ℕ
  set_starts text = if nat_lt input.range_end set_start then [] else if input.anchored then set_start ∷ [] else boundaries text set_start input.range_end

  unfoldable pub set_answer : List ℕ → Option SetAnswer
  set_answer text = first_some (λ p. answer_if_any p (found_at p 0 members)) (set_starts text)
