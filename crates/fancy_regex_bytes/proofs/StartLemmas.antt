-- The start bytes of rows, part by part, and the errors on the way.
use Rattle.std.proofs.Common.{◌≡◌, inl, inr, ⊎_elim, ℕ, zero, suc, ◌+◌, ◌<◌, ◌≤◌, Bool, true, false, cond, ◌||◌, ◌==◌, List, [], ◌∷◌, ◌++◌, length, drop, get_or, map, Option, Some, None, Result, Ok, Err, IfErr, IsErrAnd, string_bytes, chars, refl, sym, ap, subst, ◌∙◌, arith}
use Rattle.std.specs.List.{list_any}
use Rattle.std.proofs.lemmas.List.{at_drop_more}
use Rattle.std.proofs.lemmas.Bool.{cond-true, cond-false, or_from}
use Rattle.std.proofs.lemmas.Option.{none-some, same_Some}
use Rattle.std.proofs.Math.ListN.{drop_of_length-le}
use Rattle.fancy_regex_tree.specs.Tree.{Tree, Trees, Text, absent_tree, ast_tree, node_tree, tree_of, ast_tree_of, trees, concat, alt, delegate}
use Rattle.fancy_regex_tree.specs.Traversal.{nodes, all_nodes}
use Rattle.fancy_regex_tree.specs.declared.expr.Expr.{Expr}
use Rattle.fancy_regex_tree.specs.declared.expr.Expr.TheVariants as view
use Rattle.fancy_regex_tree.specs.declared.expr.AstNode.{AstNode}
use Rattle.fancy_regex_tree.specs.declared.expr.Absent.TheOpen.{Expr-F}
use Rattle.fancy_regex_tree.specs.declared.expr.Absent.TheFolds.{fold-roll-Expr}
use Rattle.fancy_regex_meaning.specs.Groups.{pattern_of}
use Rattle.fancy_regex_meaning.specs.Sizes.{may_be_empty}
use Rattle.fancy_regex_info.specs.AnalysisRelations.{AreCallSizes}
use Rattle.fancy_regex_info.specs.declared.size.Size as code
use Rattle.fancy_regex_class.specs.Classes.{in_class, folded}
use Rattle.fancy_regex_class.specs.Matchers.{IsClassError}
use Rattle.fancy_regex_class.specs.declared.class.ClassError.{ClassError}
use Rattle.fancy_regex_class.specs.declared.class.ClassError.TheVariants.{InnerError, Memory}
use Rattle.fancy_regex_bytes.specs.ByteSets.{Bytes, no_bytes, either_bytes}
use Rattle.fancy_regex_bytes.specs.StartBytes.{either_set, if_known, start_set, row_start_set, branches_start_set, start_bytes, has_keep_out}
use Rattle.fancy_regex_bytes.specs.SkippableTrees.{is_skippable}
use Rattle.fancy_regex_bytes.specs.StartErrors.{SomeOf, IsRefusedClass, IsStartError, AreStartErrors}
use Rattle.fancy_regex_bytes.proofs.ByteSetLemmas.{same_bytes, or_false, or_swap}

-- nothing beside known bytes
after_nothing : (o : Option Bytes) → either_set o (Some no_bytes) ≡ o
after_nothing None = refl
after_nothing (Some f) = ap Some (same_bytes (λ b. or_false (f b)))

-- a part that is not known
unknown : (o : Option Bytes) (f : Bytes) → None ≡ either_set o (Some f) → o ≡ None
unknown None f e = refl
unknown (Some g) f e = absurd (none-some _ e)

-- a part, and then what follows it
exchange : (o p : Option Bytes) (f h : Bytes) → Some h ≡ either_set o (Some f) → either_set p (Some h) ≡ either_set (either_set o p) (Some f)
exchange None p f h e = absurd (none-some h (sym e))
exchange (Some g) None f h e = refl
exchange (Some g) (Some r) f h e =
    ap (λ k. Some (either_bytes r k)) (same_Some h (either_bytes g f) e) ∙ ap Some (same_bytes (λ b. or_swap (r b) (g b) (f b)))

module _ (has_member : Text → Bool → ℕ → Bool) (fold : ℕ → ℕ) (is_skippable : Tree → Bool) where
  abbrev S : Tree → Option Bytes
  S = start_set has_member fold is_skippable

  abbrev row : List Expr → Option Bytes
  row xs = row_start_set has_member fold is_skippable (trees (map tree_of xs))

  abbrev branches : List Expr → Option Bytes
  branches xs = branches_start_set has_member fold is_skippable (trees (map tree_of xs))

  row_of_none : row [] ≡ Some no_bytes
  unfolding start_set row_start_set branches_start_set
  row_of_none = refl

  row_of_more : (x : Expr) (xs : List Expr) → row (x ∷ xs) ≡ cond (is_skippable (tree_of x)) (either_set (S (tree_of x)) (row xs)) (S (tree_of x))
  unfolding start_set row_start_set branches_start_set
  row_of_more x xs = refl

  branches_of_none : branches [] ≡ Some no_bytes
  unfolding start_set row_start_set branches_start_set
  branches_of_none = refl

  branches_of_more : (x : Expr) (xs : List Expr) → branches (x ∷ xs) ≡ either_set (S (tree_of x)) (branches xs)
  unfolding start_set row_start_set branches_start_set
  branches_of_more x xs = refl

  step : {Y : Type 0} (F : List Expr → Y) (xs : List Expr) (i : ℕ) (x : Expr) → i < length xs → x ≡ get_or xs i x → F (drop i xs) ≡ F (x ∷ drop (i + 1) xs)
  step F xs i x inside is = at_drop_more F xs i x inside ∙ ap (λ y. F (y ∷ drop (i + 1) xs)) (sym is)

  -- what the rest of a row adds to f is the answer r
  pub row_unknown : (xs : List Expr) (i : ℕ) (x : Expr) (f : Bytes) (r : Option Bytes) → i < length xs → x ≡ get_or xs i x →
      either_set (row (drop i xs)) (Some f) ≡ r → None ≡ either_set (S (tree_of x)) (Some f) → None ≡ r
  row_unknown xs i x f r inside is so_far none =
      sym (ap (λ o. either_set o (Some f))
      (step row xs i x inside is ∙ row_of_more x (drop (i + 1) xs)
      ∙ ap (λ o. cond (is_skippable (tree_of x)) (either_set o (row (drop (i + 1) xs))) o) (unknown (S (tree_of x)) f none) ∙ either_way (is_skippable (tree_of x))))
      ∙ so_far
    where
      either_way : (b : Bool) → ◌≡◌ {A = Option Bytes} (cond b None None) None
      either_way true = refl
      either_way false = refl

  pub row_goes_on : (xs : List Expr) (i : ℕ) (x : Expr) (f h : Bytes) (r : Option Bytes) → i < length xs → x ≡ get_or xs i x →
      either_set (row (drop i xs)) (Some f) ≡ r → Some h ≡ either_set (S (tree_of x)) (Some f) → is_skippable (tree_of x) ≡ true →
      either_set (row (drop (i + 1) xs)) (Some h) ≡ r
  row_goes_on xs i x f h r inside is so_far known skips =
      exchange (S (tree_of x)) (row (drop (i + 1) xs)) f h known
      ∙ ap (λ o. either_set o (Some f))
      (sym (cond-true (is_skippable (tree_of x)) _ (S (tree_of x)) skips) ∙ sym (row_of_more x (drop (i + 1) xs)) ∙ sym (step row xs i x inside is))
      ∙ so_far

  pub row_stops : (xs : List Expr) (i : ℕ) (x : Expr) (f h : Bytes) (r : Option Bytes) → i < length xs → x ≡ get_or xs i x →
      either_set (row (drop i xs)) (Some f) ≡ r → Some h ≡ either_set (S (tree_of x)) (Some f) → is_skippable (tree_of x) ≡ false → Some h ≡ r
  row_stops xs i x f h r inside is so_far known skips =
      known
      ∙ ap (λ o. either_set o (Some f))
      (sym (cond-false (is_skippable (tree_of x)) (either_set (S (tree_of x)) (row (drop (i + 1) xs))) (S (tree_of x)) skips)
      ∙ sym (row_of_more x (drop (i + 1) xs)) ∙ sym (step row xs i x inside is))
      ∙ so_far

  pub row_ends : (xs : List Expr) (i : ℕ) (f : Bytes) (r : Option Bytes) → length xs ≤ i → either_set (row (drop i xs)) (Some f) ≡ r → Some f ≡ r
  row_ends xs i f r past so_far = sym (ap (λ o. either_set o (Some f)) (ap row (drop_of_length-le xs past) ∙ row_of_none)) ∙ so_far

  -- and the same of an alternation
  pub branch_unknown : (xs : List Expr) (i : ℕ) (x : Expr) (f : Bytes) (r : Option Bytes) → i < length xs → x ≡ get_or xs i x →
      either_set (branches (drop i xs)) (Some f) ≡ r → None ≡ either_set (S (tree_of x)) (Some f) → None ≡ r
  branch_unknown xs i x f r inside is so_far none =
      sym (ap (λ o. either_set o (Some f))
      (step branches xs i x inside is ∙ branches_of_more x (drop (i + 1) xs)
      ∙ ap (λ o. either_set o (branches (drop (i + 1) xs))) (unknown (S (tree_of x)) f none)))
      ∙ so_far

  pub branches_go_on : (xs : List Expr) (i : ℕ) (x : Expr) (f h : Bytes) (r : Option Bytes) → i < length xs → x ≡ get_or xs i x →
      either_set (branches (drop i xs)) (Some f) ≡ r → Some h ≡ either_set (S (tree_of x)) (Some f) →
      either_set (branches (drop (i + 1) xs)) (Some h) ≡ r
  branches_go_on xs i x f h r inside is so_far known =
      exchange (S (tree_of x)) (branches (drop (i + 1) xs)) f h known
      ∙ ap (λ o. either_set o (Some f)) (sym (branches_of_more x (drop (i + 1) xs)) ∙ sym (step branches xs i x inside is))
      ∙ so_far

  pub branches_end : (xs : List Expr) (i : ℕ) (f : Bytes) (r : Option Bytes) → length xs ≤ i → either_set (branches (drop i xs)) (Some f) ≡ r → Some f ≡ r
  branches_end xs i f r past so_far = sym (ap (λ o. either_set o (Some f)) (ap branches (drop_of_length-le xs past) ∙ branches_of_none)) ∙ so_far

-- ---- errors

some_left : {A : Type 0} (P : A → Type 0) (xs ys : List A) → SomeOf P xs → SomeOf P (xs ++ ys)
some_left P [] ys h = absurd h
some_left P (x ∷ xs) ys h = ⊎_elim (λ here. inl here) (λ later. inr (some_left P xs ys later)) h

some_right : {A : Type 0} (P : A → Type 0) (xs ys : List A) → SomeOf P ys → SomeOf P (xs ++ ys)
some_right P [] ys h = h
some_right P (x ∷ xs) ys h = inr (some_right P xs ys h)

some_in_row : (P : Tree → Type 0) (xs : List Expr) (i : ℕ) (x : Expr) → i < length xs → x ≡ get_or xs i x → SomeOf P (nodes (tree_of x)) →
    SomeOf P (all_nodes (trees (map tree_of xs)))
some_in_row P [] i x inside is h = absurd (omega (arith, inside))
some_in_row P (y ∷ ys) zero x inside is h = some_left P (nodes (tree_of y)) (all_nodes (trees (map tree_of ys))) (subst (λ z. SomeOf P (nodes (tree_of z))) is h)
some_in_row P (y ∷ ys) (suc i) x inside is h = some_right P (nodes (tree_of y)) (all_nodes (trees (map tree_of ys))) (some_in_row P ys i x (omega (arith, inside)) is h)

-- an error of a part is one of the row
pub part_error : (unicode : Bool) (xs : List Expr) (i : ℕ) (x : Expr) (e : ClassError) → i < length xs → x ≡ get_or xs i x →
    IsStartError unicode (tree_of x) e → AreStartErrors unicode (trees (map tree_of xs)) e
part_error unicode xs i x (InnerError shown) inside is h = some_in_row (IsRefusedClass unicode (string_bytes shown)) xs i x inside is h
part_error unicode xs i x Memory inside is h = tt

-- an error of a row is one of the node that has it
pub row_error : (unicode : Bool) (ts : Trees) (e : ClassError) → AreStartErrors unicode ts e → IsStartError unicode (concat ts) e
row_error unicode ts (InnerError shown) h = inr h
row_error unicode ts Memory h = tt

pub branches_error : (unicode : Bool) (ts : Trees) (e : ClassError) → AreStartErrors unicode ts e → IsStartError unicode (alt ts) e
branches_error unicode ts (InnerError shown) h = inr h
branches_error unicode ts Memory h = tt

-- an error of the only child
pub child_error : (unicode : Bool) (t u : Tree) (e : ClassError) → nodes u ≡ u ∷ nodes t → IsStartError unicode t e → IsStartError unicode u e
child_error unicode t u (InnerError shown) all h = subst (λ ns. SomeOf (IsRefusedClass unicode (string_bytes shown)) ns) (sym all) (inr h)
child_error unicode t u Memory all h = tt

-- an error that is handed on with what is known of it
pub gives : {T : Type 0} (r : Result T ClassError) (e : ClassError) (P : ClassError → Type 0) → IsErrAnd r (λ f. f ≡ e) → P e → IfErr r P
gives (Ok x) e P d h = absurd d
gives (Err y) e P d h = subst P (sym d) h

-- a node of a list that passes a test
pub node_passes : {X : Type 0} (view : X → Tree) (p : Tree → Bool) (xs : List X) (i : ℕ) (x : X) → i < length xs → x ≡ get_or xs i x →
    p (view x) ≡ true → list_any p (map view xs) ≡ true
node_passes view p [] i x inside is holds = absurd (omega (arith, inside))
node_passes view p (y ∷ ys) zero x inside is holds = ap (λ b. b || list_any p (map view ys)) (ap (λ z. p (view z)) (sym is) ∙ holds)
node_passes view p (y ∷ ys) (suc i) x inside is holds =
    ap (λ b. p (view y) || b) (node_passes view p ys i x (omega (arith, inside)) is holds) ∙ or_true (p (view y))
  where
    or_true : (b : Bool) → (b || true) ≡ true
    or_true true = refl
    or_true false = refl

-- the sizes of calls say which trees are skippable
pub same_skippable : (sizes : List code.Size) (groups : List Tree) → AreCallSizes groups sizes → is_skippable sizes ≡ may_be_empty groups
same_skippable sizes groups known = λ i t. (sym (known t) i).least == 0

pub known_answer : (unicode : Bool) (t : Tree) (sizes : List code.Size) (o : Option Bytes) → AreCallSizes (pattern_of t).groups sizes →
    is_skippable sizes t ≡ false → has_keep_out t ≡ false → o ≡ start_set (in_class unicode) (folded unicode) (is_skippable sizes) t →
    o ≡ start_bytes unicode t
known_answer unicode t sizes o known some clean e =
    let same = same_skippable sizes (pattern_of t).groups known in
    e ∙ ap (λ skips. start_set (in_class unicode) (folded unicode) skips t) same
    ∙ sym (cond-false (may_be_empty (pattern_of t).groups t || has_keep_out t) None _
    (or_from (may_be_empty (pattern_of t).groups t) (has_keep_out t) (sym (ap (λ skips. skips t) same) ∙ some) clean))

pub empty_answer : (unicode : Bool) (t : Tree) (sizes : List code.Size) → AreCallSizes (pattern_of t).groups sizes →
    is_skippable sizes t ≡ true → None ≡ start_bytes unicode t
empty_answer unicode t sizes known some =
    let same = same_skippable sizes (pattern_of t).groups known in
    sym (cond-true (may_be_empty (pattern_of t).groups t || has_keep_out t) None _
    (ap (λ b. b || has_keep_out t) (sym (ap (λ skips. skips t) same) ∙ some)))

pub kept_answer : (unicode : Bool) (t : Tree) → has_keep_out t ≡ true → None ≡ start_bytes unicode t
kept_answer unicode t some =
    sym (cond-true (may_be_empty (pattern_of t).groups t || has_keep_out t) None _
    (ap (λ b. may_be_empty (pattern_of t).groups t || b) some ∙ or_true (may_be_empty (pattern_of t).groups t)))
  where
    or_true : (b : Bool) → (b || true) ≡ true
    or_true true = refl
    or_true false = refl

-- an unresolved node
pub tree_unresolved : (node : AstNode) (position : ℕ) → tree_of (view.AstNode node position) ≡ ast_tree_of node position
tree_unresolved node position =
    ap tree_of (sym (view.rolls-AstNode node position)) ∙ fold-roll-Expr Tree (ℕ → Tree) Tree absent_tree ast_tree node_tree (Expr-F.AstNode node position)

-- what is added to nothing, for a tree that is not skippable and has no `\K`
pub answer_of : (unicode : Bool) (t : Tree) (groups : List Tree) (sizes asked used : List code.Size) (o : Option Bytes) (first : Bytes) →
    groups ≡ (pattern_of t).groups → AreCallSizes groups sizes → asked ≡ sizes → used ≡ sizes → is_skippable asked t ≡ false → has_keep_out t ≡ false →
    first ≡ no_bytes → o ≡ either_set (start_set (in_class unicode) (folded unicode) (is_skippable used) t) (Some first) → o ≡ start_bytes unicode t
answer_of unicode t groups sizes asked used o first same known left right some clean nothing h =
    known_answer unicode t sizes o (subst (λ gs. AreCallSizes gs sizes) same known) (ap (λ ss. is_skippable ss t) (sym left) ∙ some) clean
    (h ∙ ap (λ f. either_set (start_set (in_class unicode) (folded unicode) (is_skippable used) t) (Some f)) nothing ∙ after_nothing _
    ∙ ap (λ ss. start_set (in_class unicode) (folded unicode) (is_skippable ss) t) right)

pub unresolved_adds : (known : Bool) (old : Bytes) (o : Option Bytes) → if_known known no_bytes ≡ o → if_known known old ≡ either_set o (Some old)
unresolved_adds true old o e = ap (λ p. either_set p (Some old)) e
unresolved_adds false old o e = ap (λ p. either_set p (Some old)) e

-- the error of a class alone
pub class_error : (unicode casei : Bool) (class : List ℕ) (e : ClassError) → IsClassError unicode class casei e → IsStartError unicode (delegate (chars class) casei) e
class_error unicode casei class (InnerError shown) h = inl (ap chars h.0, h.1)
class_error unicode casei class Memory h = tt
