-- What a pattern means: its ways from a place of a text, the preferred ones first.
use Rattle.std.specs.Prelude.{ℕ, zero, suc, ◌+◌, ◌-◌, ◌*◌, Bool, true, false, not, ◌&&◌, ◌||◌, List, [], ◌∷◌, ◌++◌, length, map, reverse, drop, chars, Option, Some, None, is_some, ◌==◌, nat_le, nat_lt, nat_eq, slice_range, if◌then◌else◌, slice_index, slice_index_or, slice_set, codes, count_by}
use Rattle.std.specs.List.{flat_map, filter, list_all}
use Rattle.std.specs.Char.{len_utf8}
use lib.Pointwise.{pointwise}
use Rattle.regex_hir.specs.Text.{is_some_and, char_at, char_before, is_boundary}
use Rattle.fancy_regex_meaning.specs.Positions.{boundaries, position_before, is_at_end, is_after_byte, is_before_byte, is_line_start, is_line_end, are_newlines}
use Rattle.fancy_regex_meaning.specs.Groups.{group_count}
use Rattle.fancy_regex_meaning.specs.Sizes.{size, target, bound_of}
use Rattle.fancy_regex_tree.specs.declared.expr.Assertion.{Assertion}
use Rattle.fancy_regex_tree.specs.declared.expr.Assertion.TheVariants.{StartText, EndText, WordBoundary, NotWordBoundary, LeftWordBoundary, RightWordBoundary, LeftWordHalfBoundary, RightWordHalfBoundary, EndTextIgnoreTrailingNewlines, StartLine, StartLineOniguruma, EndLine}
use Rattle.fancy_regex_tree.specs.declared.expr.LookAround.{LookAround}
use Rattle.fancy_regex_tree.specs.declared.expr.LookAround.TheVariants.{LookAhead, LookAheadNeg, LookBehind, LookBehindNeg}
use Rattle.fancy_regex_tree.specs.Tree as tree
use Rattle.fancy_regex_tree.specs.Tree.{Tree, Trees, Text, empty, any, assertion, general_newline, literal, literal_bytes, concat, alt, look_around, delegate, backref_with_level, atomic_group, keep_out, continue, backref_exists, subroutine_call, verb, absent_repeater, absent_expression, absent_stopper, absent_clear, define_group, ast_group, ast_backref, ast_call, ast_condition, no_trees, more_trees}

abbrev pub Pairs : Type 0
Pairs = List (Option (ℕ × ℕ))

-- The state of a backtracking matcher where a node is entered or left.
pub record MatchState : Type 0 where
  pub position : ℕ
  -- the start and the end of each group that is set, by its number
  pub pairs : Pairs
  -- the reported start of the match, which `\K` moves
  pub match_start : ℕ

-- from a state, the states that a node can lead to, the preferred one first
abbrev pub Moves : Type 0
Moves = MatchState → List MatchState

-- The ways of a node that start at the current position, and, for look-behind, those that start as many characters before it
-- as the node is long.
pub record Meaning : Type 0 where
  pub from : Moves
  pub behind : Moves

-- The haystack and the options that matching depends on besides the pattern.
pub record Setting : Type 0 where
  pub text : List ℕ
  -- the assertion `StartText`, and `EndText`, fails at every position
  pub no_start_text : Bool
  pub no_end_text : Bool
  -- the position at which `\G` matches, if there is one
  pub continue_at : Option ℕ
  -- whether a class contains a character: the text of the class, whether case is ignored, the character
  pub has_member : Text → Bool → ℕ → Bool
  -- case folding: equal for two characters that differ in case only
  pub fold : ℕ → ℕ

-- the same state at another position
abbrev pub with_position : MatchState → ℕ → MatchState
with_position w p = record w { position = p }

abbrev pub set_pair : ℕ → ℕ × ℕ → MatchState → MatchState
set_pair k pair w = record w { pairs = slice_set w.pairs k (Some pair) }

abbrev pub pair_of : MatchState → ℕ → Option (ℕ × ℕ)
pair_of w k = slice_index_or w.pairs k None

-- the list for the value, and nothing where there is none
abbrev pub for_some : {A B : Type 0} → (A → List B) → Option A → List B
for_some f None = []
for_some f (Some x) = f x

-- matches the empty string
abbrev pub match_empty : Moves
match_empty w = w ∷ []

abbrev pub never_match : Moves
never_match w = []

-- `\K`: the reported start of the match is the current position
abbrev pub reset_match_start : Moves
reset_match_start w = record w { match_start = w.position } ∷ []

-- matches the empty string if the test holds, and else fails
abbrev pub match_empty_if : Bool → Moves
match_empty_if test w = if test then w ∷ [] else []

abbrev pub is_none_of : List MatchState → Bool
is_none_of [] = true
is_none_of (w ∷ ws) = false

-- concatenation
abbrev pub all_of : List Meaning → Moves
all_of [] w = w ∷ []
all_of (m ∷ ms) w = flat_map (all_of ms) (m.from w)

-- alternation: the ways of the first branch, then those of the next
abbrev pub any_of : List Meaning → Meaning
any_of ms = record { from = λ w. flat_map (λ m. m.from w) ms; behind = λ w. flat_map (λ m. m.behind w) ms }

-- capture group k with this body
abbrev pub group : ℕ → Moves → Moves
group k body w = map (λ v. set_pair k (w.position, v.position) v) (body w)

-- only the first way: what an atomic group keeps
abbrev pub first_only : List MatchState → List MatchState
first_only [] = []
first_only (w ∷ ws) = w ∷ []

-- the current position and match start, with the captures of each way: what a look-around leaves. `\K` inside of a look-around
-- is refused by the compiler.
abbrev pub keep_only_pairs : MatchState → List MatchState → List MatchState
keep_only_pairs w = map (λ v. record w { pairs = v.pairs })

abbrev pub look : LookAround → Meaning → Moves
look LookAhead m w = keep_only_pairs w (m.from w)
look LookAheadNeg m w = match_empty_if (is_none_of (m.from w)) w
look LookBehind m w = keep_only_pairs w (m.behind w)
look LookBehindNeg m w = match_empty_if (is_none_of (m.behind w)) w

-- a greedy repeat goes on before it stops, a lazy one stops first
abbrev pub prefer : Bool → List MatchState → List MatchState → List MatchState
prefer true on stop = on ++ stop
prefer false on stop = stop ++ on

-- n required iterations, and then the rest
abbrev pub due : ℕ → Moves → Moves → Moves
due zero body rest w = rest w
due (suc n) body rest w = flat_map (due n body rest) (body w)

-- up to n optional iterations
abbrev pub up_to : ℕ → Bool → Moves → Moves
up_to zero greedy body w = w ∷ []
up_to (suc n) greedy body w = prefer greedy (flat_map (up_to n greedy body) (body w)) (w ∷ [])

-- Any number of iterations, where one that moves nothing is the last. Each of the others reads a byte at least, so
-- where n is above the count of bytes that are left, it never ends the loop.
abbrev pub loop : ℕ → Bool → Moves → Moves
loop zero greedy body w = []
loop (suc n) greedy body w =
    prefer greedy
    (flat_map (λ v. let next = loop n greedy body v in if v.position == w.position then v ∷ [] else next) (body w))
    (w ∷ [])

-- from the first way of the condition the yes branch; where there is none the no branch
abbrev pub conditional : List MatchState → Moves → Moves → Moves
conditional [] a b w = b w
conditional (v ∷ vs) a b w = a v

-- The limit of recursion: a group may have this many open calls at once, and a further call of it fails.
abbrev pub max_open_calls_per_group : ℕ
max_open_calls_per_group = 19

-- the open calls contain the group as often as the limit allows
abbrev pub is_at_call_limit : List ℕ → ℕ → Bool
is_at_call_limit opened k = nat_le max_open_calls_per_group (count_by (λ j. j == k) opened)

-- the number of open calls at which every group is at the limit
abbrev pub max_open_calls : List Tree → ℕ
max_open_calls groups = max_open_calls_per_group * length groups

module _ (s : Setting) where
  -- one character that passes the test
  abbrev pub character : (ℕ → Bool) → Moves
  character test w =
      for_some (λ c. if test c then with_position w (w.position + len_utf8 c) ∷ [] else []) (char_at s.text w.position)

  abbrev pub is_any : Bool → Bool → ℕ → Bool
  is_any newline crlf c = newline || not (c == 10 || (crlf && c == 13))

  abbrev pub is_literal : ℕ → Bool → ℕ → Bool
  is_literal d casei c = if casei then s.fold c == s.fold d else c == d

  abbrev pub is_newline : Bool → ℕ → Bool
  is_newline unicode c =
      (nat_le 10 c && nat_le c 13) || (unicode && (c == 0x85 || c == 0x2028 || c == 0x2029))

  abbrev pub general_newline_ways : Bool → Moves
  general_newline_ways unicode w =
      if is_before_byte s.text 13 w.position && is_before_byte s.text 10 (w.position + 1)
      then with_position w (w.position + 2) ∷ [] else character (is_newline unicode) w

  -- the character before the position, and the one at it, matches `\w`
  abbrev pub is_after_word : ℕ → Bool
  is_after_word p = is_some_and (char_before s.text p) (s.has_member (codes "\\w") false)

  abbrev pub is_before_word : ℕ → Bool
  is_before_word p = is_some_and (char_at s.text p) (s.has_member (codes "\\w") false)

  abbrev pub holds : Assertion → ℕ → Bool
  holds StartText p = p == 0 && not s.no_start_text
  holds EndText p = is_at_end s.text p && not s.no_end_text
  holds WordBoundary p = not (is_after_word p) && is_before_word p || is_after_word p && not (is_before_word p)
  holds NotWordBoundary p = not (is_after_word p) && not (is_before_word p) || is_after_word p && is_before_word p
  holds LeftWordBoundary p = not (is_after_word p) && is_before_word p
  holds RightWordBoundary p = is_after_word p && not (is_before_word p)
  holds LeftWordHalfBoundary p = not (is_after_word p)
  holds RightWordHalfBoundary p = not (is_before_word p)
  holds (EndTextIgnoreTrailingNewlines crlf) p = are_newlines crlf (drop p s.text)
  holds (StartLine crlf) p = is_line_start s.text crlf p
  holds (StartLineOniguruma crlf) p =
      is_line_start s.text crlf p && not (is_at_end s.text p && is_after_byte s.text 10 p)
  holds (EndLine crlf) p = is_line_end s.text crlf p

  -- the text from a to b and the text from p to q are equal up to case
  abbrev pub spells_alike : ℕ → ℕ → ℕ → ℕ → Bool
  spells_alike a b p q =
      nat_le q (length s.text) && is_boundary s.text q
      && pointwise (λ c d. s.fold c == s.fold d) (chars (slice_range s.text a b)) (chars (slice_range s.text p q))

  abbrev pub same_bytes : ℕ → ℕ → ℕ → ℕ → Bool
  same_bytes a b p q = nat_le q (length s.text) && pointwise nat_eq (slice_range s.text a b) (slice_range s.text p q)

  -- matches the text from a to b again: a back reference to it
  abbrev pub again : Bool → ℕ → ℕ → Moves
  again casei a b w =
      let q = w.position + (b - a) in
      if (if casei then spells_alike a b w.position q else same_bytes a b w.position q) then with_position w q ∷ [] else []

  abbrev pub backref : Bool → Option (ℕ × ℕ) → Moves
  backref casei None w = []
  backref casei (Some pair) w = again casei pair.0 pair.1 w

  abbrev pub repeat : ℕ → Option ℕ → Bool → Moves → Moves
  repeat lo None greedy body = due lo body (loop (length s.text + 1) greedy body)
  repeat lo (Some hi) greedy body = due lo body (up_to (hi - lo) greedy body)

  -- the body has no match that starts at or after the state's position and ends at or before q
  abbrev pub is_free : Moves → MatchState → ℕ → Bool
  is_free body w q =
      list_all (λ b. list_all (λ v. nat_lt q v.position) (body (with_position w b)))
      (boundaries s.text w.position (length s.text))

  abbrev pub absent : Moves → Moves
  absent body w =
      map (with_position w) (filter (is_free body w) (reverse (boundaries s.text w.position (length s.text))))

  -- over the bodies of all groups, by their numbers
  module _ (groups : List Tree) where
    -- a node other than an alternation: in a look-behind it starts its least size before the position
    abbrev pub node : Tree → Moves → Meaning
    node t moves = record {
      from = moves;
      behind = λ w. for_some (λ p. moves (with_position w p)) (position_before s.text (size groups t).least w.position);
    }

    -- In a look-behind an alternation of fixed length is like any other node; else each branch starts its own size before the position.
    abbrev pub branches : Tree → List Meaning → Meaning
    branches t ms = record {
      from = (any_of ms).from;
      behind = λ w. if (size groups t).always then (node t (any_of ms).from).behind w else (any_of ms).behind w;
    }

    -- The meaning of a tree, where that of its calls is given, and the number of the group that opens first in it.
    -- Nodes that are never built have no way.
    unfoldable mutual
      pub meaning : (ℕ → Moves) → ℕ → Tree → Meaning
      meaning call n (alt ts) = branches (alt ts) (meanings call n ts)
      meaning call n (concat ts) = node (concat ts) (all_of (meanings call n ts))
      meaning call n empty = node empty match_empty
      meaning call n (any newline crlf) = node (any newline crlf) (character (is_any newline crlf))
      meaning call n (assertion a) = node (assertion a) (λ w. match_empty_if (holds a w.position) w)
      meaning call n (general_newline unicode) = node (general_newline unicode) (general_newline_ways unicode)
      meaning call n (literal val casei) = node (literal val casei) (character (is_literal (slice_index val 0) casei))
      meaning call n (delegate class casei) = node (delegate class casei) (character (s.has_member class casei))
      meaning call n (tree.group t) = node (tree.group t) (group n (meaning call (n + 1) t).from)
      meaning call n (look_around t how) = node (look_around t how) (look how (meaning call n t))
      meaning call n (tree.repeat t lo hi greedy) =
          node (tree.repeat t lo hi greedy) (repeat lo (bound_of hi) greedy (meaning call n t).from)
      meaning call n (atomic_group t) = node (atomic_group t) (λ w. first_only ((meaning call n t).from w))
      meaning call n (tree.backref k casei) = node (tree.backref k casei) (λ w. backref casei (pair_of w k) w)
      meaning call n (backref_exists k None) = node (backref_exists k None) (λ w. match_empty_if (is_some (pair_of w k)) w)
      meaning call n (backref_exists k (Some level)) = node (backref_exists k (Some level)) never_match
      meaning call n (tree.conditional c a b) = node (tree.conditional c a b)
          (λ w. conditional ((meaning call n c).from w) (meaning call (n + group_count c) a).from
          (meaning call (n + group_count c + group_count a) b).from w)
      meaning call n (subroutine_call k) = node (subroutine_call k) (call k)
      meaning call n keep_out = node keep_out reset_match_start
      meaning call n continue = node continue (λ w. match_empty_if (is_some_and s.continue_at (λ g. g == w.position)) w)
      meaning call n (verb v) = node (verb v) never_match
      meaning call n (absent_repeater t) = node (absent_repeater t) (absent (meaning call n t).from)
      meaning call n (define_group t) = node (define_group t) match_empty
      meaning call n (literal_bytes bytes) = node (literal_bytes bytes) never_match
      meaning call n (backref_with_level k level casei) = node (backref_with_level k level casei) never_match
      meaning call n (absent_expression a t) = node (absent_expression a t) never_match
      meaning call n (absent_stopper t) = node (absent_stopper t) never_match
      meaning call n absent_clear = node absent_clear never_match
      meaning call n (ast_group name t position) = node (ast_group name t position) never_match
      meaning call n (ast_backref goal casei level position) = node (ast_backref goal casei level position) never_match
      meaning call n (ast_call goal position) = node (ast_call goal position) never_match
      meaning call n (ast_condition goal level position) = node (ast_condition goal level position) never_match

      pub meanings : (ℕ → Moves) → ℕ → Trees → List Meaning
      meanings call n no_trees = []
      meanings call n (more_trees t ts) = meaning call n t ∷ meanings call (n + group_count t) ts

    -- a call of group k, where `opened` lists the groups of the open calls and n more calls may open
    unfoldable pub call_ways : ℕ → List ℕ → ℕ → Moves
    call_ways zero opened k w = []
    call_ways (suc n) opened k w =
        let inside = for_some (λ body. (meaning (call_ways n (k ∷ opened)) (k + 1) body).from w) (target groups k) in
        if is_at_call_limit opened k then [] else inside

    -- the ways of a part of the pattern, whose first group has this number
    unfoldable pub ways : ℕ → Tree → Moves
    ways n t = (meaning (call_ways (max_open_calls groups) []) n t).from
