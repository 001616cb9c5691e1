-- The core pattern that a tree is desugared to.
use Rattle.std.specs.Prelude.{ℕ, zero, suc, ◌+◌, Bool, true, false, List, [], ◌∷◌, map, slice_index, Option, Some, None, if◌then◌else◌}
use Rattle.fancy_regex_tree.specs.declared.expr.LookAround.{LookAround}
use Rattle.fancy_regex_tree.specs.declared.expr.LookAround.TheVariants.{LookAhead, LookAheadNeg, LookBehind, LookBehindNeg}
use Rattle.fancy_regex_tree.specs.Tree as tree
use Rattle.fancy_regex_tree.specs.Tree.{Tree, Trees, no_trees, more_trees}
use Rattle.fancy_regex_meaning.specs.Groups.{Pattern, group_count}
use Rattle.fancy_regex_meaning.specs.Sizes.{size, target, bound_of}
use Rattle.fancy_regex_meaning.specs.Ways.{is_at_call_limit, max_open_calls}
use Rattle.fancy_regex_desugar.specs.CorePatterns.{any, literal, class, CorePattern, nothing, read, general_newline, check, continue, keep_out, fail, cat, alt, group, ahead, never, back, atomic, delegate, tail, repeat, backref, exists, conditional, absent, called}
use Rattle.fancy_regex_desugar.specs.Delegates.{searched, is_delegated, begins_tail}

-- The two forms of a node: `front` matches forwards from a position, `behind` steps back first, to end at the position (for look-behind).
pub record Written : Type 0 where
  pub front : CorePattern
  pub behind : CorePattern

-- the pattern for the value, or one that never matches where there is none
abbrev pub pat_for : {A : Type 0} → (A → CorePattern) → Option A → CorePattern
pat_for f None = fail
pat_for f (Some x) = f x

-- concatenation of a list
abbrev pub cat_all : List Written → CorePattern
cat_all [] = nothing
cat_all (u ∷ us) = cat u.front (cat_all us)

-- alternation of a list
abbrev pub alt_all : List CorePattern → CorePattern
alt_all [] = fail
alt_all (p ∷ []) = p
alt_all (p ∷ q ∷ ps) = alt p (alt_all (q ∷ ps))

-- the forward forms
abbrev pub fronts : List Written → List CorePattern
fronts us = map (λ u. u.front) us

-- the look-behind forms
abbrev pub behinds : List Written → List CorePattern
behinds us = map (λ u. u.behind) us

-- A repetition; the empty expression where the upper bound is 0.
abbrev pub repeated : CorePattern → ℕ → ℕ → Bool → CorePattern
repeated p zero zero greedy = nothing
repeated p zero (suc hi) greedy = repeat p 0 (bound_of (suc hi)) greedy
repeated p (suc lo) hi greedy = repeat p (suc lo) (bound_of hi) greedy

-- A body with its pattern, delegated where it can be.
abbrev pub body_of : Bool → Tree → CorePattern → CorePattern
body_of for_any t p = if is_delegated for_any t then delegate (searched for_any t) p else p

-- a body of which only the first way counts
abbrev pub first_way_of : Tree → CorePattern → CorePattern
first_way_of = body_of false

-- a body of which it counts only whether it has a way
abbrev pub any_way_of : Tree → CorePattern → CorePattern
any_way_of = body_of true

-- a look-around with this body, by its kind
abbrev pub look : Tree → LookAround → Written → CorePattern
look t LookAhead u = ahead (any_way_of t u.front)
look t LookAheadNeg u = never (any_way_of t u.front)
look t LookBehind u = ahead u.behind
look t LookBehindNeg u = never u.behind

-- `groups` are the bodies of all groups, by their numbers
module _ (groups : List Tree) where
  -- a node other than an alternation: all of its matches have the same length
  abbrev pub node : Tree → CorePattern → Written
  node t p = record { front = p; behind = cat (back (size groups t).least) p }

  -- An alternation whose branches have one common length steps back once; otherwise each branch steps back by its own length.
  abbrev pub branches : Tree → List Written → Written
  branches t us = record {
    front = alt_all (fronts us);
    behind = if (size groups t).always then cat (back (size groups t).least) (alt_all (fronts us)) else alt_all (behinds us);
  }

  -- Desugars a tree, given the pattern of each call target and the number of the first group in the tree. Nodes for which no program is
  -- ever built become `fail`.
  unfoldable mutual
    pub written : (ℕ → CorePattern) → ℕ → Tree → Written
    written call n (tree.alt ts) = branches (tree.alt ts) (written_all call n ts)
    written call n (tree.concat ts) = node (tree.concat ts) (cat_all (written_all call n ts))
    written call n tree.empty = node tree.empty nothing
    written call n (tree.any newline crlf) = node (tree.any newline crlf) (read (any newline crlf))
    written call n (tree.assertion a) = node (tree.assertion a) (check a)
    written call n (tree.general_newline unicode) = node (tree.general_newline unicode) (general_newline unicode)
    written call n (tree.literal val casei) = node (tree.literal val casei) (read (literal (slice_index val 0) casei))
    written call n (tree.delegate text casei) = node (tree.delegate text casei) (read (class text casei))
    written call n (tree.group t) = node (tree.group t) (group n (written call (n + 1) t).front)
    written call n (tree.look_around t how) = node (tree.look_around t how) (look t how (written call n t))
    written call n (tree.repeat t lo hi greedy) =
        node (tree.repeat t lo hi greedy) (repeated (written call n t).front lo hi greedy)
    written call n (tree.atomic_group t) = node (tree.atomic_group t) (atomic (first_way_of t (written call n t).front))
    written call n (tree.backref k casei) = node (tree.backref k casei) (backref k casei)
    written call n (tree.backref_exists k None) = node (tree.backref_exists k None) (exists k)
    written call n (tree.backref_exists k (Some level)) = node (tree.backref_exists k (Some level)) fail
    written call n (tree.conditional c a b) = node (tree.conditional c a b)
        (conditional (first_way_of c (written call n c).front) (written call (n + group_count c) a).front
        (written call (n + group_count c + group_count a) b).front)
    written call n (tree.subroutine_call k) = node (tree.subroutine_call k) (call k)
    written call n tree.keep_out = node tree.keep_out keep_out
    written call n tree.continue = node tree.continue continue
    written call n (tree.verb v) = node (tree.verb v) fail
    written call n (tree.absent_repeater t) = node (tree.absent_repeater t) (absent (written call n t).front)
    written call n (tree.define_group t) = node (tree.define_group t) nothing
    written call n (tree.literal_bytes bytes) = node (tree.literal_bytes bytes) fail
    written call n (tree.backref_with_level k level casei) = node (tree.backref_with_level k level casei) fail
    written call n (tree.absent_expression a t) = node (tree.absent_expression a t) fail
    written call n (tree.absent_stopper t) = node (tree.absent_stopper t) fail
    written call n tree.absent_clear = node tree.absent_clear fail
    written call n (tree.ast_group name t position) = node (tree.ast_group name t position) fail
    written call n (tree.ast_backref goal casei level position) = node (tree.ast_backref goal casei level position) fail
    written call n (tree.ast_call goal position) = node (tree.ast_call goal position) fail
    written call n (tree.ast_condition goal level position) = node (tree.ast_condition goal level position) fail

    -- the same for each tree of a list
    pub written_all : (ℕ → CorePattern) → ℕ → Trees → List Written
    written_all call n no_trees = []
    written_all call n (more_trees t ts) = written call n t ∷ written_all call (n + group_count t) ts

  -- The call of group k, with its body inlined. `opened` are the groups being inlined around it, and m more calls may nest.
  unfoldable pub written_call : ℕ → List ℕ → ℕ → CorePattern
  written_call zero opened k = called k fail
  written_call (suc m) opened k =
      let inside = pat_for (λ body. (written (written_call m (k ∷ opened)) (k + 1) body).front) (target groups k) in
      called k (if is_at_call_limit opened k then fail else inside)

  -- The desugared form of a part of the pattern whose first group has the number n, inside of the calls `opened`; m more calls may nest.
  abbrev pub unfolded : ℕ → List ℕ → ℕ → Tree → CorePattern
  unfolded m opened n t = (written (written_call m opened) n t).front

  -- the same part for look-behind: it steps back first
  abbrev pub unfolded_behind : ℕ → List ℕ → ℕ → Tree → CorePattern
  unfolded_behind m opened n t = (written (written_call m opened) n t).behind

  -- a row at the end of a whole pattern with which its tail begins: a tail where it can be delegated
  abbrev pub written_plain : (ℕ → CorePattern) → ℕ → Trees → CorePattern
  written_plain call n ts =
      let row = cat_all (written_all call n ts) in
      if is_delegated false (tree.concat ts) then tail (tree.concat ts) row else row

  -- A row at the end of a whole pattern. Its last trees, as far as they are all plain, from the first on whose ways may be many, are a tail
  -- where they can be delegated.
  unfoldable pub written_tail : (ℕ → CorePattern) → ℕ → Trees → CorePattern
  written_tail call n no_trees = nothing
  written_tail call n (more_trees t ts) =
      let rest = cat (written call n t).front (written_tail call (n + group_count t) ts) in
      if begins_tail (more_trees t ts) then written_plain call n (more_trees t ts) else rest

  -- a whole pattern
  unfoldable pub written_whole : (ℕ → CorePattern) → ℕ → Tree → CorePattern
  written_whole call n (tree.concat ts) = written_tail call n ts
  written_whole call n t = (written call n t).front

-- the desugared whole pattern
unfoldable pub core_pattern_of : Pattern → CorePattern
core_pattern_of pattern =
    written_whole pattern.groups (written_call pattern.groups (max_open_calls pattern.groups) []) pattern.first_group pattern.tree
