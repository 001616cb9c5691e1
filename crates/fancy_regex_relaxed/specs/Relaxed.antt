-- Plain trees that have a way wherever another tree has one.
use Rattle.std.specs.Prelude.{Bool, true, false, Option, Some, None, if◌then◌else◌}
use Rattle.fancy_regex_tree.specs.Tree.{Tree, Trees, empty, any, assertion, literal, concat, alt, group, look_around, repeat, delegate, atomic_group, keep_out, continue, define_group, no_trees, more_trees}
use Rattle.fancy_regex_tree.specs.declared.expr.Assertion.{Assertion}
use Rattle.fancy_regex_tree.specs.declared.expr.LookAround.{LookAround}
use Rattle.fancy_regex_tree.specs.declared.expr.LookAround.TheVariants as L
use Rattle.fancy_regex_states.specs.declared.atom.Test.{Test}
use Rattle.fancy_regex_linear.specs.Plain.{test_of}

-- the trees that are relaxed: they refer to no matched text, and call nothing
abbrev mutual
  pub IsRelaxable : Tree → Type 0
  IsRelaxable empty = Unit {0}
  IsRelaxable (any newline crlf) = Unit {0}
  IsRelaxable (literal val casei) = Unit {0}
  IsRelaxable (delegate class casei) = Unit {0}
  IsRelaxable (assertion a) = Unit {0}
  IsRelaxable (concat ts) = AreRelaxable ts
  IsRelaxable (alt ts) = AreRelaxable ts
  IsRelaxable (group t) = IsRelaxable t
  IsRelaxable (look_around t how) = IsRelaxable t
  IsRelaxable (atomic_group t) = IsRelaxable t
  IsRelaxable (repeat t lo hi greedy) = IsRelaxable t
  IsRelaxable keep_out = Unit {0}
  IsRelaxable continue = Unit {0}
  IsRelaxable (define_group t) = Unit {0}
  IsRelaxable _ = ⊥

  pub AreRelaxable : Trees → Type 0
  AreRelaxable no_trees = Unit {0}
  AreRelaxable (more_trees t ts) = IsRelaxable t × AreRelaxable ts

-- an assertion with its test; `\Z` has none, and is left out
abbrev pub if_tested : Assertion → Option Test → Tree
if_tested a None = empty
if_tested a (Some test) = assertion a

-- whether the tree reads one character
abbrev pub reads_one : Tree → Bool
reads_one (any newline crlf) = true
reads_one (literal val casei) = true
reads_one (delegate class casei) = true
reads_one _ = false

-- A plain tree with a way to each place to which the tree has one: without groups, look-arounds for more than one character and what asks
-- more than the text.
unfoldable mutual
  pub relaxed : Tree → Tree
  relaxed (any newline crlf) = any newline crlf
  relaxed (literal val casei) = literal val casei
  relaxed (delegate class casei) = delegate class casei
  relaxed (assertion a) = if_tested a (test_of a)
  relaxed (concat ts) = concat (relaxed_row ts)
  relaxed (alt ts) = alt (relaxed_row ts)
  relaxed (group t) = relaxed t
  relaxed (look_around t how) = if reads_one t then look_around t how else empty
  relaxed (atomic_group t) = relaxed t
  relaxed (repeat t lo hi greedy) = repeat (relaxed t) lo hi greedy
  relaxed _ = empty

  pub relaxed_row : Trees → Trees
  relaxed_row no_trees = no_trees
  relaxed_row (more_trees t ts) = more_trees (relaxed t) (relaxed_row ts)

abbrev pub is_look_ahead : LookAround → Bool
is_look_ahead L.LookAhead = true
is_look_ahead L.LookAheadNeg = false
is_look_ahead L.LookBehind = false
is_look_ahead L.LookBehindNeg = false

-- A plain tree with a way where the tree has one: what a look-ahead at the end asks for is read.
unfoldable mutual
  pub extended : Tree → Tree
  extended (concat ts) = concat (extended_row ts)
  extended (alt ts) = alt (extended_branches ts)
  extended (group t) = extended t
  extended (atomic_group t) = extended t
  extended (look_around t how) = if is_look_ahead how then extended t else relaxed (look_around t how)
  extended t = relaxed t

  pub extended_row : Trees → Trees
  extended_row no_trees = no_trees
  extended_row (more_trees t no_trees) = more_trees (extended t) no_trees
  extended_row (more_trees t (more_trees u us)) = more_trees (relaxed t) (extended_row (more_trees u us))

  pub extended_branches : Trees → Trees
  extended_branches no_trees = no_trees
  extended_branches (more_trees t ts) = more_trees (extended t) (extended_branches ts)
