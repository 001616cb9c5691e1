-- The test of equality decides equality.
use Rattle.std.specs.Prelude.{◌≡◌, ℕ, ℤ, Bool, true, ◌&&◌, nat_eq, List, Option, Some, None}
use Rattle.std.proofs.Common.{refl, ap, subst}
use Rattle.std.proofs.lemmas.Bool.{false≢true, and_parts, and_from}
use Rattle.std.specs.Bool.{Decides}
use Rattle.std.specs.Cmp.{IsEquivalence, decided, booleans_Decides, unsigned_Decides, signed_Decides}
use Rattle.std.specs.Cmp.Lexicographic.{bytes_decides}
use Rattle.std.specs.Ordering.{int_eq}
use Rattle.std.specs.Option.{option_eq}
use mathlib.Core.Bool.{beq}
use Rattle.fancy_regex_tree.specs.declared.expr.Assertion.{Assertion}
use Rattle.fancy_regex_tree.specs.declared.expr.Assertion.TheVariants.{StartText, EndText, EndTextIgnoreTrailingNewlines, StartLine, StartLineOniguruma, EndLine, LeftWordBoundary}
use Rattle.fancy_regex_tree.specs.declared.expr.Assertion.TheVariants.{LeftWordHalfBoundary, RightWordBoundary, RightWordHalfBoundary, WordBoundary, NotWordBoundary}
use Rattle.fancy_regex_tree.specs.declared.expr.LookAround.{LookAround}
use Rattle.fancy_regex_tree.specs.declared.expr.LookAround.TheVariants.{LookAhead, LookAheadNeg, LookBehind, LookBehindNeg}
use Rattle.fancy_regex_tree.specs.declared.expr.BacktrackingControlVerb.{BacktrackingControlVerb}
use Rattle.fancy_regex_tree.specs.declared.expr.BacktrackingControlVerb.TheVariants.{Fail, Accept, Commit, Skip, Prune}
use Rattle.fancy_regex_tree.specs.Tree.{Text, Target, by_number, by_name, relative, Tree, Trees, empty, any, assertion, general_newline, literal, literal_bytes, concat, alt, group}
use Rattle.fancy_regex_tree.specs.Tree.{look_around, repeat, delegate, backref, backref_with_level, atomic_group, keep_out, continue, backref_exists, conditional, subroutine_call, verb}
use Rattle.fancy_regex_tree.specs.Tree.{absent_repeater, absent_expression, absent_stopper, absent_clear, define_group, ast_group, ast_backref, ast_call, ast_condition, no_trees}
use Rattle.fancy_regex_tree.specs.Tree.{more_trees}
use Rattle.fancy_regex_tree.specs.Equal.{same_list, same_look, same_verb, same_assertion, same_target, same_level, same_name, same_tree, same_trees}

-- a test that is true of each thing and itself, and of no two others, decides equality
decides_from : {K : Type 0} (test : K → K → Bool) → ((x y : K) → test x y ≡ true → x ≡ y) → ((x : K) → test x x ≡ true) → (x y : K) → Decides (test x y) (x ≡ y)
decides_from test sound itself x y = (sound x y, λ e. subst (λ z. test x z ≡ true) e (itself x))

bools_same : (a b : Bool) → beq a b ≡ true → a ≡ b
bools_same a b h = (booleans_Decides a b).0 h

bool_itself : (a : Bool) → beq a a ≡ true
bool_itself a = (booleans_Decides a a).1 refl

numbers_same : (n m : ℕ) → nat_eq n m ≡ true → n ≡ m
numbers_same n m h = (unsigned_Decides n m).0 h

number_itself : (n : ℕ) → nat_eq n n ≡ true
number_itself n = (unsigned_Decides n n).1 refl

integers_same : (y z : ℤ) → int_eq y z ≡ true → y ≡ z
integers_same y z h = (signed_Decides y z).0 h

integer_itself : (z : ℤ) → int_eq z z ≡ true
integer_itself z = (signed_Decides z z).1 refl

lists_same : (xs ys : List ℕ) → same_list xs ys ≡ true → xs ≡ ys
lists_same xs ys h = (bytes_decides xs ys).0 h

list_itself : (xs : List ℕ) → same_list xs xs ≡ true
list_itself xs = (bytes_decides xs xs).1 refl

module _ {K : Type 0} (test : K → K → Bool) (sound : (x y : K) → test x y ≡ true → x ≡ y) (itself : (x : K) → test x x ≡ true) where
  options_same : (o p : Option K) → option_eq test o p ≡ true → o ≡ p
  options_same None None h = refl
  options_same None (Some y) h = absurd (false≢true h)
  options_same (Some x) None h = absurd (false≢true h)
  options_same (Some x) (Some y) h = ap (λ z. Some z) (sound x y h)

  option_itself : (o : Option K) → option_eq test o o ≡ true
  option_itself None = refl
  option_itself (Some x) = itself x

levels_same : (y z : Option ℤ) → same_level y z ≡ true → y ≡ z
levels_same = options_same int_eq integers_same integer_itself

level_itself : (z : Option ℤ) → same_level z z ≡ true
level_itself = option_itself int_eq integers_same integer_itself

names_same : (y z : Option Text) → same_name y z ≡ true → y ≡ z
names_same = options_same same_list lists_same list_itself

name_itself : (z : Option Text) → same_name z z ≡ true
name_itself = option_itself same_list lists_same list_itself

looks_same : (k l : LookAround) → same_look k l ≡ true → k ≡ l
looks_same LookAhead LookAhead h = refl
looks_same LookAheadNeg LookAheadNeg h = refl
looks_same LookBehind LookBehind h = refl
looks_same LookBehindNeg LookBehindNeg h = refl
looks_same _ _ h = absurd (false≢true h)

look_itself : (k : LookAround) → same_look k k ≡ true
look_itself LookAhead = refl
look_itself LookAheadNeg = refl
look_itself LookBehind = refl
look_itself LookBehindNeg = refl

verbs_same : (v w : BacktrackingControlVerb) → same_verb v w ≡ true → v ≡ w
verbs_same Fail Fail h = refl
verbs_same Accept Accept h = refl
verbs_same Commit Commit h = refl
verbs_same Skip Skip h = refl
verbs_same Prune Prune h = refl
verbs_same _ _ h = absurd (false≢true h)

verb_itself : (v : BacktrackingControlVerb) → same_verb v v ≡ true
verb_itself Fail = refl
verb_itself Accept = refl
verb_itself Commit = refl
verb_itself Skip = refl
verb_itself Prune = refl

assertions_same : (a b : Assertion) → same_assertion a b ≡ true → a ≡ b
assertions_same StartText StartText h = refl
assertions_same EndText EndText h = refl
assertions_same (EndTextIgnoreTrailingNewlines a) (EndTextIgnoreTrailingNewlines b) h = ap EndTextIgnoreTrailingNewlines (bools_same a b h)
assertions_same (StartLine a) (StartLine b) h = ap StartLine (bools_same a b h)
assertions_same (StartLineOniguruma a) (StartLineOniguruma b) h = ap StartLineOniguruma (bools_same a b h)
assertions_same (EndLine a) (EndLine b) h = ap EndLine (bools_same a b h)
assertions_same LeftWordBoundary LeftWordBoundary h = refl
assertions_same LeftWordHalfBoundary LeftWordHalfBoundary h = refl
assertions_same RightWordBoundary RightWordBoundary h = refl
assertions_same RightWordHalfBoundary RightWordHalfBoundary h = refl
assertions_same WordBoundary WordBoundary h = refl
assertions_same NotWordBoundary NotWordBoundary h = refl
assertions_same _ _ h = absurd (false≢true h)

assertion_itself : (a : Assertion) → same_assertion a a ≡ true
assertion_itself StartText = refl
assertion_itself EndText = refl
assertion_itself (EndTextIgnoreTrailingNewlines a) = bool_itself a
assertion_itself (StartLine a) = bool_itself a
assertion_itself (StartLineOniguruma a) = bool_itself a
assertion_itself (EndLine a) = bool_itself a
assertion_itself LeftWordBoundary = refl
assertion_itself LeftWordHalfBoundary = refl
assertion_itself RightWordBoundary = refl
assertion_itself RightWordHalfBoundary = refl
assertion_itself WordBoundary = refl
assertion_itself NotWordBoundary = refl

targets_same : (t u : Target) → same_target t u ≡ true → t ≡ u
targets_same (by_number n) (by_number m) h = ap by_number (numbers_same n m h)
targets_same (by_name s) (by_name t) h = ap by_name (lists_same s t h)
targets_same (relative y) (relative z) h = ap relative (integers_same y z h)
targets_same _ _ h = absurd (false≢true h)

target_itself : (t : Target) → same_target t t ≡ true
target_itself (by_number n) = number_itself n
target_itself (by_name s) = list_itself s
target_itself (relative z) = integer_itself z

mutual
  tree_same : (t u : Tree) → same_tree t u ≡ true → t ≡ u
  tree_same empty empty h = refl
  tree_same (any n c) (any m d) h =
      let w = and_parts (beq n m) (beq c d) h in let p = bools_same n m w.0 in let q = bools_same c d w.1 in λ i. any (p i) (q i)
  tree_same (assertion a) (assertion b) h = ap assertion (assertions_same a b h)
  tree_same (general_newline a) (general_newline b) h = ap general_newline (bools_same a b h)
  tree_same (literal s c) (literal t d) h =
      let w = and_parts (same_list s t) (beq c d) h in let p = lists_same s t w.0 in let q = bools_same c d w.1 in λ i. literal (p i) (q i)
  tree_same (literal_bytes s) (literal_bytes t) h = ap literal_bytes (lists_same s t h)
  tree_same (concat ts) (concat us) h = ap concat (all_same ts us h)
  tree_same (alt ts) (alt us) h = ap alt (all_same ts us h)
  tree_same (group t) (group u) h = ap group (tree_same t u h)
  tree_same (look_around t k) (look_around u l) h =
      let w = and_parts (same_tree t u) (same_look k l) h in let p = tree_same t u w.0 in let q = looks_same k l w.1 in λ i. look_around (p i) (q i)
  tree_same (repeat t lo hi g) (repeat u low high k) h =
      let w = and_parts (same_tree t u) (nat_eq lo low && (nat_eq hi high && beq g k)) h in
      let v = and_parts (nat_eq lo low) (nat_eq hi high && beq g k) w.1 in
      let x = and_parts (nat_eq hi high) (beq g k) v.1 in
      let p = tree_same t u w.0 in let q = numbers_same lo low v.0 in let r = numbers_same hi high x.0 in let s = bools_same g k x.1 in
      λ i. repeat (p i) (q i) (r i) (s i)
  tree_same (delegate s c) (delegate t d) h =
      let w = and_parts (same_list s t) (beq c d) h in let p = lists_same s t w.0 in let q = bools_same c d w.1 in λ i. delegate (p i) (q i)
  tree_same (backref n c) (backref m d) h =
      let w = and_parts (nat_eq n m) (beq c d) h in let p = numbers_same n m w.0 in let q = bools_same c d w.1 in λ i. backref (p i) (q i)
  tree_same (backref_with_level n y c) (backref_with_level m z d) h =
      let w = and_parts (nat_eq n m) (int_eq y z && beq c d) h in let v = and_parts (int_eq y z) (beq c d) w.1 in
      let p = numbers_same n m w.0 in let q = integers_same y z v.0 in let r = bools_same c d v.1 in λ i. backref_with_level (p i) (q i) (r i)
  tree_same (atomic_group t) (atomic_group u) h = ap atomic_group (tree_same t u h)
  tree_same keep_out keep_out h = refl
  tree_same continue continue h = refl
  tree_same (backref_exists n y) (backref_exists m z) h =
      let w = and_parts (nat_eq n m) (same_level y z) h in let p = numbers_same n m w.0 in let q = levels_same y z w.1 in λ i. backref_exists (p i) (q i)
  tree_same (conditional t a b) (conditional u c d) h =
      let w = and_parts (same_tree t u) (same_tree a c && same_tree b d) h in let v = and_parts (same_tree a c) (same_tree b d) w.1 in
      let p = tree_same t u w.0 in let q = tree_same a c v.0 in let r = tree_same b d v.1 in λ i. conditional (p i) (q i) (r i)
  tree_same (subroutine_call n) (subroutine_call m) h = ap subroutine_call (numbers_same n m h)
  tree_same (verb v) (verb w) h = ap verb (verbs_same v w h)
  tree_same (absent_repeater t) (absent_repeater u) h = ap absent_repeater (tree_same t u h)
  tree_same (absent_expression t a) (absent_expression u b) h =
      let w = and_parts (same_tree t u) (same_tree a b) h in let p = tree_same t u w.0 in let q = tree_same a b w.1 in λ i. absent_expression (p i) (q i)
  tree_same (absent_stopper t) (absent_stopper u) h = ap absent_stopper (tree_same t u h)
  tree_same absent_clear absent_clear h = refl
  tree_same (define_group t) (define_group u) h = ap define_group (tree_same t u h)
  tree_same (ast_group n t p) (ast_group m u q) h =
      let w = and_parts (same_name n m && same_tree t u) (nat_eq p q) h in let v = and_parts (same_name n m) (same_tree t u) w.0 in
      let a = names_same n m v.0 in let b = tree_same t u v.1 in let c = numbers_same p q w.1 in λ i. ast_group (a i) (b i) (c i)
  tree_same (ast_backref t c y p) (ast_backref u d z q) h =
      let w = and_parts (same_target t u && (beq c d && same_level y z)) (nat_eq p q) h in
      let v = and_parts (same_target t u) (beq c d && same_level y z) w.0 in let x = and_parts (beq c d) (same_level y z) v.1 in
      let j = targets_same t u v.0 in let k = bools_same c d x.0 in let l = levels_same y z x.1 in let r = numbers_same p q w.1 in
      λ i. ast_backref (j i) (k i) (l i) (r i)
  tree_same (ast_call t p) (ast_call u q) h =
      let w = and_parts (same_target t u) (nat_eq p q) h in let a = targets_same t u w.0 in let b = numbers_same p q w.1 in λ i. ast_call (a i) (b i)
  tree_same (ast_condition t y p) (ast_condition u z q) h =
      let w = and_parts (same_target t u && same_level y z) (nat_eq p q) h in let v = and_parts (same_target t u) (same_level y z) w.0 in
      let a = targets_same t u v.0 in let b = levels_same y z v.1 in let c = numbers_same p q w.1 in λ i. ast_condition (a i) (b i) (c i)
  tree_same _ _ h = absurd (false≢true h)

  all_same : (ts us : Trees) → same_trees ts us ≡ true → ts ≡ us
  all_same no_trees no_trees h = refl
  all_same (more_trees t ts) (more_trees u us) h =
      let w = and_parts (same_tree t u) (same_trees ts us) h in let p = tree_same t u w.0 in let q = all_same ts us w.1 in λ i. more_trees (p i) (q i)
  all_same _ _ h = absurd (false≢true h)

mutual
  tree_itself : (t : Tree) → same_tree t t ≡ true
  tree_itself empty = refl
  tree_itself (any n c) = and_from _ _ (bool_itself n) (bool_itself c)
  tree_itself (assertion a) = assertion_itself a
  tree_itself (general_newline a) = bool_itself a
  tree_itself (literal s c) = and_from _ _ (list_itself s) (bool_itself c)
  tree_itself (literal_bytes s) = list_itself s
  tree_itself (concat ts) = all_themselves ts
  tree_itself (alt ts) = all_themselves ts
  tree_itself (group t) = tree_itself t
  tree_itself (look_around t k) = and_from _ _ (tree_itself t) (look_itself k)
  tree_itself (repeat t lo hi g) = and_from _ _ (tree_itself t) (and_from _ _ (number_itself lo) (and_from _ _ (number_itself hi) (bool_itself g)))
  tree_itself (delegate s c) = and_from _ _ (list_itself s) (bool_itself c)
  tree_itself (backref n c) = and_from _ _ (number_itself n) (bool_itself c)
  tree_itself (backref_with_level n y c) = and_from _ _ (number_itself n) (and_from _ _ (integer_itself y) (bool_itself c))
  tree_itself (atomic_group t) = tree_itself t
  tree_itself keep_out = refl
  tree_itself continue = refl
  tree_itself (backref_exists n y) = and_from _ _ (number_itself n) (level_itself y)
  tree_itself (conditional t a b) = and_from _ _ (tree_itself t) (and_from _ _ (tree_itself a) (tree_itself b))
  tree_itself (subroutine_call n) = number_itself n
  tree_itself (verb v) = verb_itself v
  tree_itself (absent_repeater t) = tree_itself t
  tree_itself (absent_expression t a) = and_from _ _ (tree_itself t) (tree_itself a)
  tree_itself (absent_stopper t) = tree_itself t
  tree_itself absent_clear = refl
  tree_itself (define_group t) = tree_itself t
  tree_itself (ast_group n t p) = and_from _ _ (and_from _ _ (name_itself n) (tree_itself t)) (number_itself p)
  tree_itself (ast_backref t c y p) = and_from _ _ (and_from _ _ (target_itself t) (and_from _ _ (bool_itself c) (level_itself y))) (number_itself p)
  tree_itself (ast_call t p) = and_from _ _ (target_itself t) (number_itself p)
  tree_itself (ast_condition t y p) = and_from _ _ (and_from _ _ (target_itself t) (level_itself y)) (number_itself p)

  all_themselves : (ts : Trees) → same_trees ts ts ≡ true
  all_themselves no_trees = refl
  all_themselves (more_trees t ts) = and_from _ _ (tree_itself t) (all_themselves ts)

pub target_decides : (t u : Target) → Decides (same_target t u) (t ≡ u)
target_decides = decides_from same_target targets_same target_itself

pub tree_decides : (t u : Tree) → Decides (same_tree t u) (t ≡ u)
tree_decides = decides_from same_tree tree_same tree_itself

pub targets_equiv : IsEquivalence same_target
targets_equiv = decided same_target target_decides

pub trees_equiv : IsEquivalence same_tree
trees_equiv = decided same_tree tree_decides
