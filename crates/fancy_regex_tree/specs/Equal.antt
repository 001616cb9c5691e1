-- Equality of trees as a function to `Bool`.
use Rattle.std.specs.Prelude.{ℕ, ℤ, Bool, true, false, ◌&&◌, nat_eq, List, Option}
use Rattle.std.specs.Cmp.Lexicographic.{pointwise}
use Rattle.std.specs.Ordering.{int_eq}
use Rattle.std.specs.Option.{option_eq}
use mathlib.Core.Bool.{beq}
use Rattle.fancy_regex_tree.specs.declared.expr.Assertion.{Assertion}
use Rattle.fancy_regex_tree.specs.declared.expr.Assertion.TheVariants.{StartText, EndText, EndTextIgnoreTrailingNewlines, StartLine, StartLineOniguruma, EndLine, LeftWordBoundary}
use Rattle.fancy_regex_tree.specs.declared.expr.Assertion.TheVariants.{LeftWordHalfBoundary, RightWordBoundary, RightWordHalfBoundary, WordBoundary, NotWordBoundary}
use Rattle.fancy_regex_tree.specs.declared.expr.LookAround.{LookAround}
use Rattle.fancy_regex_tree.specs.declared.expr.LookAround.TheVariants.{LookAhead, LookAheadNeg, LookBehind, LookBehindNeg}
use Rattle.fancy_regex_tree.specs.declared.expr.BacktrackingControlVerb.{BacktrackingControlVerb}
use Rattle.fancy_regex_tree.specs.declared.expr.BacktrackingControlVerb.TheVariants.{Fail, Accept, Commit, Skip, Prune}
use Rattle.fancy_regex_tree.specs.Tree.{Text, Target, by_number, by_name, relative, Tree, Trees, empty, any, assertion, general_newline, literal, literal_bytes, concat, alt, group}
use Rattle.fancy_regex_tree.specs.Tree.{look_around, repeat, delegate, backref, backref_with_level, atomic_group, keep_out, continue, backref_exists, conditional, subroutine_call, verb}
use Rattle.fancy_regex_tree.specs.Tree.{absent_repeater, absent_expression, absent_stopper, absent_clear, define_group, ast_group, ast_backref, ast_call, ast_condition, no_trees}
use Rattle.fancy_regex_tree.specs.Tree.{more_trees}

-- the same numbers in the same order
abbrev pub same_list : List ℕ → List ℕ → Bool
same_list = pointwise nat_eq

abbrev pub same_look : LookAround → LookAround → Bool
same_look LookAhead LookAhead = true
same_look LookAheadNeg LookAheadNeg = true
same_look LookBehind LookBehind = true
same_look LookBehindNeg LookBehindNeg = true
same_look _ _ = false

abbrev pub same_verb : BacktrackingControlVerb → BacktrackingControlVerb → Bool
same_verb Fail Fail = true
same_verb Accept Accept = true
same_verb Commit Commit = true
same_verb Skip Skip = true
same_verb Prune Prune = true
same_verb _ _ = false

abbrev pub same_assertion : Assertion → Assertion → Bool
same_assertion StartText StartText = true
same_assertion EndText EndText = true
same_assertion (EndTextIgnoreTrailingNewlines a) (EndTextIgnoreTrailingNewlines b) = beq a b
same_assertion (StartLine a) (StartLine b) = beq a b
same_assertion (StartLineOniguruma a) (StartLineOniguruma b) = beq a b
same_assertion (EndLine a) (EndLine b) = beq a b
same_assertion LeftWordBoundary LeftWordBoundary = true
same_assertion LeftWordHalfBoundary LeftWordHalfBoundary = true
same_assertion RightWordBoundary RightWordBoundary = true
same_assertion RightWordHalfBoundary RightWordHalfBoundary = true
same_assertion WordBoundary WordBoundary = true
same_assertion NotWordBoundary NotWordBoundary = true
same_assertion _ _ = false

abbrev pub same_target : Target → Target → Bool
same_target (by_number n) (by_number m) = nat_eq n m
same_target (by_name s) (by_name t) = same_list s t
same_target (relative y) (relative z) = int_eq y z
same_target _ _ = false

abbrev pub same_level : Option ℤ → Option ℤ → Bool
same_level = option_eq int_eq

abbrev pub same_name : Option Text → Option Text → Bool
same_name = option_eq same_list

abbrev mutual
  pub same_tree : Tree → Tree → Bool
  same_tree empty empty = true
  same_tree (any n c) (any m d) = beq n m && beq c d
  same_tree (assertion a) (assertion b) = same_assertion a b
  same_tree (general_newline a) (general_newline b) = beq a b
  same_tree (literal s c) (literal t d) = same_list s t && beq c d
  same_tree (literal_bytes s) (literal_bytes t) = same_list s t
  same_tree (concat ts) (concat us) = same_trees ts us
  same_tree (alt ts) (alt us) = same_trees ts us
  same_tree (group t) (group u) = same_tree t u
  same_tree (look_around t k) (look_around u l) = same_tree t u && same_look k l
  same_tree (repeat t lo hi g) (repeat u low high h) = same_tree t u && (nat_eq lo low && (nat_eq hi high && beq g h))
  same_tree (delegate s c) (delegate t d) = same_list s t && beq c d
  same_tree (backref n c) (backref m d) = nat_eq n m && beq c d
  same_tree (backref_with_level n y c) (backref_with_level m z d) = nat_eq n m && (int_eq y z && beq c d)
  same_tree (atomic_group t) (atomic_group u) = same_tree t u
  same_tree keep_out keep_out = true
  same_tree continue continue = true
  same_tree (backref_exists n y) (backref_exists m z) = nat_eq n m && same_level y z
  same_tree (conditional t a b) (conditional u c d) = same_tree t u && (same_tree a c && same_tree b d)
  same_tree (subroutine_call n) (subroutine_call m) = nat_eq n m
  same_tree (verb v) (verb w) = same_verb v w
  same_tree (absent_repeater t) (absent_repeater u) = same_tree t u
  same_tree (absent_expression t a) (absent_expression u b) = same_tree t u && same_tree a b
  same_tree (absent_stopper t) (absent_stopper u) = same_tree t u
  same_tree absent_clear absent_clear = true
  same_tree (define_group t) (define_group u) = same_tree t u
  same_tree (ast_group n t p) (ast_group m u q) = (same_name n m && same_tree t u) && nat_eq p q
  same_tree (ast_backref t c y p) (ast_backref u d z q) = (same_target t u && (beq c d && same_level y z)) && nat_eq p q
  same_tree (ast_call t p) (ast_call u q) = same_target t u && nat_eq p q
  same_tree (ast_condition t y p) (ast_condition u z q) = (same_target t u && same_level y z) && nat_eq p q
  same_tree _ _ = false

  pub same_trees : Trees → Trees → Bool
  same_trees no_trees no_trees = true
  same_trees (more_trees t ts) (more_trees u us) = same_tree t u && same_trees ts us
  same_trees _ _ = false
