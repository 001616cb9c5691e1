-- The cost of a search in choice points of a backtracking matcher, and the size of a program with its calls expanded.
use Rattle.std.specs.Prelude.{ℕ, zero, suc, ◌+◌, ◌-◌, true, false, List, [], ◌∷◌, length, Option, Some, None, ◌==◌, sum_by, if◌then◌else◌}
use Rattle.fancy_regex_tree.specs.declared.expr.LookAround.{LookAround}
use Rattle.fancy_regex_tree.specs.declared.expr.LookAround.TheVariants.{LookAhead, LookAheadNeg, LookBehind, LookBehindNeg}
use Rattle.fancy_regex_tree.specs.Tree.{Tree, Trees, general_newline, concat, alt, group, look_around, repeat, atomic_group, conditional, subroutine_call, absent_repeater, absent_expression, absent_stopper, define_group, ast_group, no_trees, more_trees}
use Rattle.fancy_regex_meaning.specs.Positions.{boundaries, position_before}
use Rattle.fancy_regex_meaning.specs.Groups.{Pattern, group_count}
use Rattle.fancy_regex_meaning.specs.Sizes.{size, target, bound_of}
use Rattle.fancy_regex_meaning.specs.Ways.{MatchState, Moves, Meaning, Setting, with_position, meaning, meanings, call_ways, is_at_call_limit, max_open_calls}
use Rattle.fancy_regex_meaning.specs.Searches.{Search, Match, start_way, starts, match_at}

-- The number of choice points passed while all ways of a node are listed: from the current position, and after it as for
-- `Meaning`.
pub record Count : Type 0 where
  pub from : MatchState → ℕ
  pub behind : MatchState → ℕ

-- of a node and what follows it: its own, and those of what follows from each of its ways
abbrev pub and_then : Moves → (MatchState → ℕ) → (MatchState → ℕ) → MatchState → ℕ
and_then moves own rest w = own w + sum_by rest (moves w)

abbrev pub all_choices : List Meaning → List Count → MatchState → ℕ
all_choices [] cs w = 0
all_choices (m ∷ ms) [] w = 0
all_choices (m ∷ ms) (c ∷ cs) w = and_then m.from c.from (all_choices ms cs) w

-- one for each branch but the last
abbrev pub any_choices : List Count → Count
any_choices cs = record {
  from = λ w. length cs - 1 + sum_by (λ c. c.from w) cs;
  behind = λ w. length cs - 1 + sum_by (λ c. c.behind w) cs;
}

abbrev pub due_choices : ℕ → Moves → (MatchState → ℕ) → (MatchState → ℕ) → MatchState → ℕ
due_choices zero moves own rest w = rest w
due_choices (suc n) moves own rest w = and_then moves own (due_choices n moves own rest) w

-- one each time that it may both go on and stop
abbrev pub up_to_choices : ℕ → Moves → (MatchState → ℕ) → MatchState → ℕ
up_to_choices zero moves own w = 0
up_to_choices (suc n) moves own w = 1 + and_then moves own (up_to_choices n moves own) w

abbrev pub loop_choices : ℕ → Moves → (MatchState → ℕ) → MatchState → ℕ
loop_choices zero moves own w = 0
loop_choices (suc n) moves own w =
    1 + and_then moves own (λ v. let next = loop_choices n moves own v in if v.position == w.position then 0 else next) w

abbrev pub look_choices : LookAround → Count → MatchState → ℕ
look_choices LookAhead c w = c.from w
look_choices LookAheadNeg c w = 1 + c.from w
look_choices LookBehind c w = c.behind w
look_choices LookBehindNeg c w = 1 + c.behind w

abbrev pub branch_choices : List MatchState → (MatchState → ℕ) → (MatchState → ℕ) → MatchState → ℕ
branch_choices [] a b w = b w
branch_choices (v ∷ vs) a b w = a v

module _ (s : Setting) where
  abbrev pub repeat_choices : ℕ → Option ℕ → Moves → (MatchState → ℕ) → MatchState → ℕ
  repeat_choices lo None moves own = due_choices lo moves own (loop_choices (length s.text + 1) moves own)
  repeat_choices lo (Some hi) moves own = due_choices lo moves own (up_to_choices (hi - lo) moves own)

  -- one for each position from here to the end of the haystack, and the body's from each of these
  abbrev pub absent_choices : (MatchState → ℕ) → MatchState → ℕ
  absent_choices own w = sum_by (λ p. 1 + own (with_position w p)) (boundaries s.text w.position (length s.text))

  module _ (groups : List Tree) where
    abbrev pub count_of : Tree → (MatchState → ℕ) → Count
    count_of t own = record {
      from = own;
      behind = λ w. elim (position_before s.text (size groups t).least w.position) [ None ↦ 0 | Some p ↦ own (with_position w p) ];
    }

    -- Branches of one fixed length are entered together, if there are so many characters before the position.
    abbrev pub branch_counts : Tree → List Count → Count
    branch_counts t cs = record {
      from = (any_choices cs).from;
      behind = λ w. if (size groups t).always then (count_of t (any_choices cs).from).behind w else (any_choices cs).behind w;
    }

    module _ (call : ℕ → Moves) (call_count : ℕ → MatchState → ℕ) where
      abbrev pub moves : ℕ → Tree → Moves
      moves n t = (meaning s groups call n t).from

      -- the choices of a tree, and the number of the group that opens first in it
      unfoldable mutual
        pub count : ℕ → Tree → Count
        count n (alt ts) = branch_counts (alt ts) (counts n ts)
        count n (concat ts) = count_of (concat ts) (all_choices (meanings s groups call n ts) (counts n ts))
        count n (general_newline unicode) = count_of (general_newline unicode) (λ w. 1)
        count n (group t) = count_of (group t) (count (n + 1) t).from
        count n (look_around t how) = count_of (look_around t how) (look_choices how (count n t))
        count n (repeat t lo hi greedy) =
            count_of (repeat t lo hi greedy) (repeat_choices lo (bound_of hi) (moves n t) (count n t).from)
        count n (atomic_group t) = count_of (atomic_group t) (count n t).from
        count n (conditional c a b) = count_of (conditional c a b)
            (λ w. 1 + (count n c).from w
            + branch_choices (moves n c w) (count (n + group_count c) a).from (count (n + group_count c + group_count a) b).from w)
        count n (subroutine_call k) = count_of (subroutine_call k) (call_count k)
        count n (absent_repeater t) = count_of (absent_repeater t) (absent_choices (count n t).from)
        count n _ = record { from = λ w. 0; behind = λ w. 0 }

        pub counts : ℕ → Trees → List Count
        counts n no_trees = []
        counts n (more_trees t ts) = count n t ∷ counts (n + group_count t) ts

    unfoldable pub call_choices : ℕ → List ℕ → ℕ → MatchState → ℕ
    call_choices zero opened k w = 0
    call_choices (suc n) opened k w = elim (is_at_call_limit opened k) [
      | true ↦ 0
      | false ↦ elim (target groups k) [
        | None ↦ 0
        | Some body ↦ (count (call_ways s groups n (k ∷ opened)) (call_choices n (k ∷ opened)) (k + 1) body).from w
      ]
    ]

  module _ (pattern : Pattern) where
    -- the choices of the whole pattern from a position
    unfoldable pub choices_at : ℕ → ℕ
    choices_at p =
        (count pattern.groups (call_ways s pattern.groups (max_open_calls pattern.groups) []) (call_choices pattern.groups (max_open_calls pattern.groups) [])
        pattern.first_group pattern.tree).from (start_way pattern p)

    -- one for each attempted start, and its choices, up to the start that matches
    abbrev pub choices_through : (ℕ → Option Match) → List ℕ → ℕ
    choices_through at [] = 0
    choices_through at (p ∷ ps) = 1 + choices_at p + elim (at p) [ None ↦ choices_through at ps | Some m ↦ 0 ]

    unfoldable pub choices : Search → ℕ
    choices find = choices_through (match_at s pattern find) (starts s pattern find)

abbrev pub sum_some : (Tree → ℕ) → Option Tree → ℕ
sum_some f None = 1
sum_some f (Some t) = f t

-- the nodes of a tree with each call replaced by its target's body
unfoldable mutual
  pub nodes_with : (ℕ → ℕ) → Tree → ℕ
  nodes_with call (subroutine_call k) = call k
  nodes_with call (concat ts) = 1 + row_nodes_with call ts
  nodes_with call (alt ts) = 1 + row_nodes_with call ts
  nodes_with call (group t) = 1 + nodes_with call t
  nodes_with call (look_around t how) = 1 + nodes_with call t
  nodes_with call (repeat t lo hi greedy) = 1 + nodes_with call t
  nodes_with call (atomic_group t) = 1 + nodes_with call t
  nodes_with call (conditional c a b) = 1 + (nodes_with call c + (nodes_with call a + nodes_with call b))
  nodes_with call (absent_repeater t) = 1 + nodes_with call t
  nodes_with call (absent_expression a t) = 1 + (nodes_with call a + nodes_with call t)
  nodes_with call (absent_stopper t) = 1 + nodes_with call t
  nodes_with call (define_group t) = 1 + nodes_with call t
  nodes_with call (ast_group name t position) = 1 + nodes_with call t
  nodes_with call _ = 1

  pub row_nodes_with : (ℕ → ℕ) → Trees → ℕ
  row_nodes_with call no_trees = 0
  row_nodes_with call (more_trees t ts) = nodes_with call t + row_nodes_with call ts

-- the nodes of an expanded call of group k, where `opened` lists the open calls: one node where the group is at the call limit
unfoldable pub nodes_of_call : List Tree → ℕ → List ℕ → ℕ → ℕ
nodes_of_call groups zero opened k = 1
nodes_of_call groups (suc n) opened k =
    let inside = sum_some (nodes_with (nodes_of_call groups n (k ∷ opened))) (target groups k) in
    if is_at_call_limit opened k then 1 else inside

-- the nodes of the program
unfoldable pub program_nodes : Pattern → ℕ
program_nodes pattern = nodes_with (nodes_of_call pattern.groups (max_open_calls pattern.groups) []) pattern.tree
