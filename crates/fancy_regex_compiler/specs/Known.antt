-- The pattern of a node, by what the analysis says of it and of its children.
use Rattle.std.specs.Prelude.{ℕ, zero, suc, ◌*◌, length, Bool, true, false, not, ◌&&◌, ◌==◌, List, [], ◌∷◌, ◌++◌, slice_index, slice_get, Option, Some, None, if◌then◌else◌}
use Rattle.fancy_regex_tree.specs.Tree as tree
use Rattle.fancy_regex_tree.specs.Tree.{Tree, Trees, no_trees, more_trees}
use Rattle.fancy_regex_meaning.specs.Ways.{is_at_call_limit, max_open_calls_per_group}
use Rattle.fancy_regex_desugar.specs.CorePatterns.{any, literal, class, CorePattern, nothing, read, general_newline, check, continue, keep_out, fail, cat, group, back, atomic, tail, backref, exists, conditional, absent, called}
use Rattle.fancy_regex_desugar.specs.Delegates.{is_delegated, may_explode}
use Rattle.fancy_regex_desugar.specs.Unfolded.{Written, cat_all, alt_all, fronts, behinds, first_way_of, repeated, look, pat_for}
use Rattle.fancy_regex_info.specs.Infos.{NodeProperties, InfoTree, InfoTrees, known, no_infos, more_infos, properties_in}

-- what fails, from here and from as far back as it is long
abbrev pub fails : Written
fails = record { front = fail; behind = fail }

abbrev pub or_fails : Option Written → Written
or_fails None = fails
or_fails (Some u) = u

-- the child at that place
abbrev pub child : List Written → ℕ → Written
child us k = or_fails (slice_get us k)

-- The pattern from here, by the pattern of each call, the number of the group that opens first, the tree, and what its
-- children are.
unfoldable pub front_of : (ℕ → CorePattern) → ℕ → Tree → List Written → CorePattern
front_of call n (tree.concat ts) us = cat_all us
front_of call n (tree.alt ts) us = alt_all (fronts us)
front_of call n tree.empty us = nothing
front_of call n (tree.any newline crlf) us = read (any newline crlf)
front_of call n (tree.assertion a) us = check a
front_of call n (tree.general_newline unicode) us = general_newline unicode
front_of call n (tree.literal val casei) us = read (literal (slice_index val 0) casei)
front_of call n (tree.delegate text casei) us = read (class text casei)
front_of call n (tree.group t) us = group n (child us 0).front
front_of call n (tree.look_around t how) us = look t how (child us 0)
front_of call n (tree.repeat t lo hi greedy) us = repeated (child us 0).front lo hi greedy
front_of call n (tree.atomic_group t) us = atomic (first_way_of t (child us 0).front)
front_of call n (tree.backref k casei) us = backref k casei
front_of call n (tree.backref_exists k None) us = exists k
front_of call n (tree.backref_exists k (Some level)) us = fail
front_of call n (tree.conditional c a b) us = conditional (first_way_of c (child us 0).front) (child us 1).front (child us 2).front
front_of call n (tree.subroutine_call k) us = call k
front_of call n tree.keep_out us = keep_out
front_of call n tree.continue us = continue
front_of call n (tree.absent_repeater t) us = absent (child us 0).front
front_of call n (tree.define_group t) us = nothing
front_of call n _ us = fail

-- The pattern from as far back as the node is long: branches of unequal lengths each go back for themselves.
unfoldable pub behind_of : NodeProperties → Tree → CorePattern → List Written → CorePattern
behind_of f (tree.alt ts) p us = if f.size.always then cat (back f.size.least) p else alt_all (behinds us)
behind_of f t p us = cat (back f.size.least) p

abbrev pub layer : (ℕ → CorePattern) → NodeProperties → Tree → List Written → Written
layer call f t us =
    let p = front_of call f.start t us in
    record { front = p; behind = behind_of f t p us }

unfoldable mutual
  pub info_written : (ℕ → CorePattern) → InfoTree → Written
  info_written call (known f t xs) = layer call f t (info_written_all call xs)

  pub info_written_all : (ℕ → CorePattern) → InfoTrees → List Written
  info_written_all call no_infos = []
  info_written_all call (more_infos x xs) = info_written call x ∷ info_written_all call xs

-- easy, and without a capture group
abbrev pub is_plain_info : InfoTree → Bool
is_plain_info x = let f = properties_in x in not f.hard && f.start == f.end

abbrev pub are_plain_infos : InfoTrees → Bool
are_plain_infos no_infos = true
are_plain_infos (more_infos x xs) = is_plain_info x && are_plain_infos xs

abbrev pub tree_in : InfoTree → Tree
tree_in (known f t xs) = t

abbrev pub trees_in : InfoTrees → Trees
trees_in no_infos = no_trees
trees_in (more_infos x xs) = more_trees (tree_in x) (trees_in xs)

-- the tail of the row may begin at its first tree
abbrev pub info_begins_tail : InfoTrees → Bool
info_begins_tail no_infos = false
info_begins_tail (more_infos x xs) = are_plain_infos (more_infos x xs) && may_explode (tree_in x)

-- a row at the end of a whole pattern with which its tail begins, with the patterns of its trees: a tail where it can be delegated
abbrev pub plain_row : Trees → List Written → CorePattern
plain_row ts us = if is_delegated false (tree.concat ts) then tail (tree.concat ts) (cat_all us) else cat_all us

-- a row at the end of a whole pattern
unfoldable pub info_tail : (ℕ → CorePattern) → InfoTrees → CorePattern
info_tail call no_infos = nothing
info_tail call (more_infos x xs) =
    let rest = cat (info_written call x).front (info_tail call xs) in
    if info_begins_tail (more_infos x xs) then plain_row (trees_in (more_infos x xs)) (info_written_all call (more_infos x xs)) else rest

-- a whole pattern
unfoldable pub info_whole : (ℕ → CorePattern) → InfoTree → CorePattern
info_whole call (known f (tree.concat ts) xs) = info_tail call xs
info_whole call x = (info_written call x).front

-- a call of the target k, where those targets are open, the last of them at the end, and m more calls may open
unfoldable pub info_call : List InfoTree → ℕ → List ℕ → ℕ → CorePattern
info_call groups zero opened k = called k fail
info_call groups (suc m) opened k =
    let inside = pat_for (λ x. (info_written (info_call groups m (opened ++ k ∷ [])) x).front) (slice_get groups k) in
    called k (if is_at_call_limit opened k then fail else inside)

abbrev pub is_group : Tree → Bool
is_group (tree.group t) = true
is_group _ = false

abbrev pub listed : InfoTrees → List InfoTree
listed no_infos = []
listed (more_infos x xs) = x ∷ listed xs

-- the bodies of the groups, in the order in which they open
unfoldable mutual
  pub bodies_in : InfoTree → List InfoTree
  bodies_in (known f t xs) =
      let own = listed xs in
      let inner = row_bodies_in xs in
      if is_group t then own ++ inner else inner

  pub row_bodies_in : InfoTrees → List InfoTree
  row_bodies_in no_infos = []
  row_bodies_in (more_infos x xs) = bodies_in x ++ row_bodies_in xs

-- the groups by their numbers, where group 0 may be the whole
abbrev pub groups_in : Bool → InfoTree → List InfoTree
groups_in whole x = if whole then x ∷ bodies_in x else bodies_in x

-- so many open calls fill each of the groups
abbrev pub most_calls_in : List InfoTree → ℕ
most_calls_in groups = max_open_calls_per_group * length groups

-- the whole pattern, where these are its groups
abbrev pub pat_with : List InfoTree → InfoTree → CorePattern
pat_with groups x = info_whole (info_call groups (most_calls_in groups) []) x

-- the whole pattern
unfoldable pub pat_in : Bool → InfoTree → CorePattern
pat_in whole x = pat_with (groups_in whole x) x
