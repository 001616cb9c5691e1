-- How heavy a pattern is as states: its weight, but that `\R`, `\Z` and a conditional become several states, and a look-behind has one
-- more for each character that it steps back over.
use Rattle.std.specs.Prelude.{ℕ, zero, suc, length, Some, None, ◌+◌, ◌*◌, max, Bool, true, false, if◌then◌else◌, List}
use Rattle.fancy_regex_tree.specs.Tree.{Tree, Trees, any, assertion, general_newline, literal, delegate, concat, alt, group, look_around, repeat, atomic_group, conditional, keep_out, subroutine_call, no_trees, more_trees}
use Rattle.fancy_regex_tree.specs.declared.expr.Assertion.{Assertion}
use Rattle.fancy_regex_tree.specs.declared.expr.Assertion.TheVariants.{EndTextIgnoreTrailingNewlines}
use Rattle.fancy_regex_tree.specs.declared.expr.LookAround.{LookAround}
use Rattle.fancy_regex_tree.specs.declared.expr.LookAround.TheVariants as L
use Rattle.fancy_regex_meaning.specs.Sizes.{target, size, bound_of, may_be_empty, repeat_weight, branch_gaps}
use Rattle.fancy_regex_linear.specs.Calls.{greatest_nesting}

-- `\Z` weighs 7, each other assertion 1
abbrev pub assertion_weight : Assertion → ℕ
assertion_weight (EndTextIgnoreTrailingNewlines crlf) = 7
assertion_weight _ = 1

-- whether a look-around over this tree is a test
abbrev pub is_one_char : Tree → Bool
is_one_char (any newline crlf) = true
is_one_char (literal val casei) = true
is_one_char (delegate class casei) = true
is_one_char _ = false

module _ (groups : List Tree) where
  -- over how many characters a look-around steps back, all its branches together
  unfoldable mutual
    pub steps_of : Tree → ℕ
    steps_of (alt ts) = if (size groups (alt ts)).always then (size groups (alt ts)).least else each_steps ts
    steps_of t = if is_one_char t then 0 else (size groups t).least

    pub each_steps : Trees → ℕ
    each_steps no_trees = 0
    each_steps (more_trees t ts) = steps_of t + each_steps ts

  abbrev pub stepping_weight : LookAround → Tree → ℕ
  stepping_weight L.LookAhead t = 0
  stepping_weight L.LookAheadNeg t = 0
  stepping_weight L.LookBehind t = steps_of t
  stepping_weight L.LookBehindNeg t = steps_of t

  -- over how many characters the look-behinds in a tree step back, all of them together, where that of calls is given
  unfoldable mutual
    pub steps_in : (ℕ → ℕ) → Tree → ℕ
    steps_in call (concat ts) = each_steps_in call ts
    steps_in call (alt ts) = each_steps_in call ts
    steps_in call (group t) = steps_in call t
    steps_in call (look_around t how) = steps_in call t + stepping_weight how t
    steps_in call (atomic_group t) = steps_in call t
    steps_in call (conditional c a b) = steps_in call c + (steps_in call a + steps_in call b)
    steps_in call (repeat t lo hi greedy) = steps_in call t
    steps_in call (subroutine_call j) = call j
    steps_in call _ = 0

    pub each_steps_in : (ℕ → ℕ) → Trees → ℕ
    each_steps_in call no_trees = 0
    each_steps_in call (more_trees t ts) = steps_in call t + each_steps_in call ts

  -- those of a call, which are those of the body of its group, where calls nest at most so deep
  unfoldable pub call_steps : ℕ → ℕ → ℕ
  call_steps zero j = 0
  call_steps (suc depth) j = elim (target groups j) [ None ↦ 0 | Some body ↦ steps_in (call_steps depth) body ]

  -- those of a tree with its calls written out
  abbrev pub written_steps : Tree → ℕ
  written_steps = steps_in (call_steps (greatest_nesting (length groups)))

  -- the weight of a node, where `\R` weighs 16, and a conditional 2 by itself, and where the weight of calls is given
  unfoldable mutual
    pub state_weight : (ℕ → ℕ) → Tree → ℕ
    state_weight call (general_newline wide) = 16
    state_weight call (assertion a) = assertion_weight a
    state_weight call (concat ts) = max 1 (state_weights call ts)
    state_weight call (alt ts) = state_weights call ts + 3 * branch_gaps groups ts
    state_weight call (group t) = state_weight call t + 2
    state_weight call (repeat t lo hi greedy) = repeat_weight groups lo (bound_of hi) (state_weight call t) (may_be_empty groups t)
    state_weight call (look_around t how) = 1 + state_weight call t + stepping_weight how t
    state_weight call (atomic_group t) = 1 + state_weight call t
    state_weight call (conditional c a b) = 2 + (state_weight call c + (state_weight call a + state_weight call b))
    state_weight call (subroutine_call j) = call j
    state_weight call keep_out = 3
    state_weight call _ = 1

    pub state_weights : (ℕ → ℕ) → Trees → ℕ
    state_weights call no_trees = 0
    state_weights call (more_trees t ts) = state_weight call t + state_weights call ts

  -- that of a call, which is that of the body of its group, where calls nest at most so deep
  unfoldable pub call_state_weight : ℕ → ℕ → ℕ
  call_state_weight zero j = 1
  call_state_weight (suc depth) j = elim (target groups j) [ None ↦ 1 | Some body ↦ state_weight (call_state_weight depth) body ]

  -- the weight of a whole tree, each call counted as the body of its group
  abbrev pub tree_state_weight : Tree → ℕ
  tree_state_weight t = state_weight (call_state_weight (greatest_nesting (length groups))) t + 2
