-- Groups that write nothing but characters.
use Rattle.std.proofs.Common.{◌≡◌, ℕ, zero, suc, ◌+◌, ◌-◌, ◌<◌, ◌≤◌, ⊎_elim, Bool, true, false, cond, List, [], ◌∷◌, ◌++◌, length, take, map, set, count_by, Option, Some, None, IfSome, Box, Vec, String, Global, refl, sym, ap, ap₂, ◌∙◌, subst, arith}
use Rattle.std.specs.Prelude.{slice_get, slice_index, ◌==◌, nat_le, chars, string_bytes}
use Rattle.std.specs.List.{Contains}
use Rattle.std.proofs.lemmas.Bool.Decides.{nat_tests}
use Rattle.std.proofs.lemmas.List.{map-append, take_all}
use Rattle.std.proofs.lemmas.List.Elements.{Contains-push_cases}
use Rattle.std.proofs.lemmas.List.Sums.{sum_by-append, sum_by-cons}
use Rattle.std.proofs.lemmas.Option.{none-some, same_Some}
use Rattle.fancy_regex_tree.specs.declared.expr.Expr.{Expr}
use Rattle.fancy_regex_tree.specs.declared.expr.Expr.TheVariants as view
use Rattle.fancy_regex_tree.specs.Tree as tree
use Rattle.fancy_regex_tree.specs.Tree.{tree_of}
use Rattle.fancy_regex_meaning.specs.Ways.{is_at_call_limit, max_open_calls_per_group}
use Rattle.fancy_regex_desugar.specs.CorePatterns.{CorePattern, literal, nothing, read, called}
use Rattle.fancy_regex_desugar.specs.ProgramSizes.{room}
use Rattle.fancy_regex_desugar.specs.Unfolded.{Written, cat_all, repeated}
use Rattle.fancy_regex_info.specs.Infos.{InfoTree, info_of}
use Rattle.fancy_regex_info.specs.declared.info.Info.{Info}
use Rattle.fancy_regex_info.specs.declared.info.Info.TheViews.{out-Info}
use Rattle.fancy_regex_program.specs.Code.{Layout, written_out}
use Rattle.fancy_regex_compiler.specs.Rooms.{room_with}
use Rattle.fancy_regex_compiler.specs.CalledTexts.{IsText, WritesText, IsFree, AreTexts}
use Rattle.fancy_regex_compiler.specs.Known.{child, front_of, info_written, info_call}
use Rattle.fancy_regex_compiler.proofs.NodeLemmas.{front_leaf, front_concat, front_call}
use Rattle.fancy_regex_compiler.proofs.RoomLemmas.{room_written_out}
use Rattle.fancy_regex_compiler.proofs.RowLemmas.{call_opens}
use Rattle.fancy_regex_compiler.proofs.TreeLemmas.{tree_literal, tree_repeat}

-- the room for the characters of a call
pub text_fits : (layout : Layout) (n : ℕ) (p : CorePattern) → layout ≡ written_out → IsText n p → n ≤ room_with layout p
text_fits layout n p none h = omega (arith, h.fits, room_written_out p, ap (λ (l : Layout). room_with l p) none)

-- One node and a row.
text_nothing : IsText 0 nothing
unfolding room
text_nothing = record { fits = omega arith }

text_one : (c : ℕ) → IsText 1 (read (literal c false))
unfolding room
text_one c = record { fits = omega arith }

text_called : (k n : ℕ) (p : CorePattern) → IsText n p → IsText n (called k p)
unfolding room
text_called k n p h = record { fits = h.fits }

room_row : (us : List Written) (u : Written) → room (cat_all (us ++ u ∷ [])) ≡ room (cat_all us) + room u.front
unfolding room
room_row [] u = omega arith
room_row (x ∷ us) u = omega (arith, room_row us u)

text_row : (us : List Written) (u : Written) (a b n : ℕ) → a ≤ n → b ≤ n → n ≤ a + b → IsText a (cat_all us) → IsText b u.front → IsText n (cat_all (us ++ u ∷ []))
text_row us u a b n first second sum h k = record { fits = omega (arith, h.fits, k.fits, sum, room_row us u) }

-- what is repeated no times
pub front_never : (call : ℕ → CorePattern) (i : Info) (t : Box Expr Global) (lo hi : ℕ) (greedy : Bool) → (out-Info i).expr.now ≡ view.Repeat t lo hi greedy → lo ≡ 0 → hi ≡ 0 →
    (info_written call (info_of i)).front ≡ nothing
unfolding front_of
front_never call i t lo hi greedy is none never =
    let us = map (λ x. info_written call (info_of x)) (out-Info i).children.items in
    front_leaf call i ∙ ap (λ v. front_of call (out-Info i).start_group v us) (ap tree_of is ∙ tree_repeat t lo hi greedy)
    ∙ ap₂ (λ a b. repeated (child us 0).front a b greedy) none never

pub some_weaker : {A : Type 0} {P Q : A → Type 0} (o : Option A) → ((x : A) → P x → Q x) → IfSome o P → IfSome o Q
some_weaker None f h = tt
some_weaker (Some x) f h = f x h

-- The nodes of which that is known.
module _ (lengths : List (Option ℕ)) where
  pub writes_nothing : (i : Info) → ((call : ℕ → CorePattern) → (info_written call (info_of i)).front ≡ nothing) →
      WritesText lengths 0 (λ call. (info_written call (info_of i)).front)
  writes_nothing i is call inner = subst (IsText 0) (sym (is call)) text_nothing

  pub writes_one : (i : Info) (val : String Global) → (out-Info i).expr.now ≡ view.Literal val false → WritesText lengths 1 (λ call. (info_written call (info_of i)).front)
  unfolding front_of
  writes_one i val is call inner =
      let us = map (λ x. info_written call (info_of x)) (out-Info i).children.items in
      let one : (info_written call (info_of i)).front ≡ read (literal (slice_index (chars (string_bytes val)) 0) false) =
      front_leaf call i ∙ ap (λ t. front_of call (out-Info i).start_group t us) (ap tree_of is ∙ tree_literal val false) in
      subst (IsText 1) (sym one) (text_one (slice_index (chars (string_bytes val)) 0))

  pub never_text : (i : Info) (t : Box Expr Global) (lo hi : ℕ) (greedy : Bool) → (out-Info i).expr.now ≡ view.Repeat t lo hi greedy → (o : Option ℕ) →
      IfSome o (λ n. n ≡ 0) → IfSome o (λ n. lo ≡ 0) → IfSome o (λ n. hi ≡ 0) → IfSome o (λ n. WritesText lengths n (λ call. (info_written call (info_of i)).front))
  never_text i t lo hi greedy is None none_due least greatest = tt
  never_text i t lo hi greedy is (Some n) none_due least greatest =
      subst (λ m. WritesText lengths m (λ call. (info_written call (info_of i)).front)) (sym none_due)
      (writes_nothing i (λ call. front_never call i t lo hi greedy is least greatest))

  pub literal_text : (i : Info) (val : String Global) (casei : Bool) → (out-Info i).expr.now ≡ view.Literal val casei → (o : Option ℕ) →
      IfSome o (λ n. n ≡ 1) → IfSome o (λ n. casei ≡ false) → IfSome o (λ n. WritesText lengths n (λ call. (info_written call (info_of i)).front))
  literal_text i val casei is None one case = tt
  literal_text i val casei is (Some n) one case =
      subst (λ m. WritesText lengths m (λ call. (info_written call (info_of i)).front)) (sym one)
      (writes_one i val (is ∙ ap (view.Literal val) case))

  pub writes_call : (i : Info) (k n : ℕ) → tree_of (out-Info i).expr.now ≡ tree.subroutine_call k → slice_get lengths k ≡ Some (Some n) →
      WritesText lengths n (λ call. (info_written call (info_of i)).front)
  writes_call i k n is at call inner = subst (IsText n) (sym (front_call call i k is)) (inner k n at (omega arith))

  pub writes_row : (i : Info) (ts : Vec Expr Global) (n : ℕ) (xs : List Info) → (out-Info i).expr.now ≡ view.Concat ts → xs ≡ (out-Info i).children.items →
      WritesText lengths n (λ call. cat_all (map (λ x. info_written call (info_of x)) xs)) → WritesText lengths n (λ call. (info_written call (info_of i)).front)
  writes_row i ts n xs is all h call inner =
      let W = λ (x : Info). info_written call (info_of x) in
      subst (IsText n) (sym (front_concat call i ts is ∙ ap (λ l. cat_all (map W l)) (sym all))) (h call inner)

  abbrev pub row : List Info → (ℕ → CorePattern) → CorePattern
  row xs call = cat_all (map (λ i. info_written call (info_of i)) xs)

  pub writes_none : WritesText lengths 0 (row [])
  writes_none call inner = text_nothing

  pub writes_more : (xs ys : List Info) (x : Info) (a b n : ℕ) → ys ≡ xs ++ x ∷ [] → a ≤ n → b ≤ n → n ≤ a + b → WritesText lengths a (row xs) →
      WritesText lengths b (λ call. (info_written call (info_of x)).front) → WritesText lengths n (row ys)
  writes_more xs ys x a b n is first second sum h k call inner =
      let W = λ (i : Info). info_written call (info_of i) in
      subst (λ us. IsText n (cat_all us)) (sym (ap (map W) is ∙ map-append W xs (x ∷ [])))
      (text_row (map W xs) (W x) a b n first second sum
      (h call (λ j m at le. inner j m at (omega (arith, le, first)))) (k call (λ j m at le. inner j m at (omega (arith, le, second)))))

  -- The calls that are open.
  pub other_open : (opened : List ℕ) (k j : ℕ) → (j ≡ k → ⊥) → is_at_call_limit (opened ++ k ∷ []) j ≡ is_at_call_limit opened j
  other_open opened k j other =
      let f : ℕ → ℕ = λ i. cond (i == j) 1 0 in
      let none : (k == j) ≡ false = grind (arith, nat_tests, other) in
      let nothing : f k ≡ 0 = ap (λ b. cond b 1 0) none in
      let same : count_by (λ i. i == j) (opened ++ k ∷ []) ≡ count_by (λ i. i == j) opened = omega (arith, sum_by-append f opened (k ∷ []), sum_by-cons f k [], nothing) in
      ap (nat_le max_open_calls_per_group) same

  -- none of these groups has a number of characters that is at most that
  abbrev pub NoneHas : ℕ → List ℕ → Type 0
  NoneHas most groups = (k n : ℕ) → Contains groups k → slice_get lengths k ≡ Some (Some n) → n ≤ most → ⊥

  pub none_has_none : (most : ℕ) → NoneHas most []
  none_has_none most k n there at le = let low : there.0 < 0 = there.1 in omega arith

  pub none_has_more : (most : ℕ) (groups more : List ℕ) (k : ℕ) → more ≡ groups ++ k ∷ [] → ((n : ℕ) → slice_get lengths k ≡ Some (Some n) → n ≤ most → ⊥) →
      NoneHas most groups → NoneHas most more
  none_has_more most groups more k is not_one none j n there at le =
      ⊎_elim (λ before. none j n before at le) (λ same. not_one n (ap (slice_get lengths) same ∙ at) le)
      (Contains-push_cases groups k j (subst (λ l. Contains l j) is there))

  pub none_has_all : (most : ℕ) (groups : List ℕ) (i : ℕ) → length groups ≤ i → NoneHas most (take i groups) → NoneHas most groups
  none_has_all most groups i all none = subst (NoneHas most) (take_all i groups all) none

  pub free_unless : (most : ℕ) (opened full : List ℕ) → ((k : ℕ) → is_at_call_limit opened k ≡ true → Contains full k) → NoneHas most full →
      IsFree lengths most opened
  free_unless most opened full among none k n at le = either (is_at_call_limit opened k) refl
    where
      either : (b : Bool) → is_at_call_limit opened k ≡ b → is_at_call_limit opened k ≡ false
      either true e = absurd (none k n (among k e) at le)
      either false e = e

-- What is known where a group more is taken up.
get_same : (xs : List (Option ℕ)) (k : ℕ) (o y : Option ℕ) → slice_get xs k ≡ Some o → slice_get (set xs k y) k ≡ Some y
get_same [] k o y at = absurd (none-some o at)
get_same (x ∷ xs) zero o y at = refl
get_same (x ∷ xs) (suc k) o y at = get_same xs k o y at

get_other : (xs : List (Option ℕ)) (k j : ℕ) (y : Option ℕ) → (j ≡ k → ⊥) → slice_get (set xs k y) j ≡ slice_get xs j
get_other [] k j y other = refl
get_other (x ∷ xs) zero zero y other = absurd (other refl)
get_other (x ∷ xs) zero (suc j) y other = refl
get_other (x ∷ xs) (suc k) zero y other = refl
get_other (x ∷ xs) (suc k) (suc j) y other = get_other xs k j y (λ e. other (ap suc e))

pub texts_more : (groups : List InfoTree) (lengths : List (Option ℕ)) (known k n : ℕ) (x : InfoTree) → slice_get groups k ≡ Some x → slice_get lengths k ≡ Some None →
    WritesText lengths n (λ call. (info_written call x).front) → AreTexts groups lengths known → AreTexts groups (set lengths k (Some n)) (known + 1)
texts_more groups lengths known k n x body unknown writes texts j m left opened at enough free = either (j == k) refl
  where
    differs : (i l : ℕ) → slice_get lengths i ≡ Some (Some l) → i ≡ k → ⊥
    differs i l h same = none-some l (same_Some None (Some l) (sym unknown ∙ ap (slice_get lengths) (sym same) ∙ h))

    kept : (i l : ℕ) → slice_get lengths i ≡ Some (Some l) → slice_get (set lengths k (Some n)) i ≡ Some (Some l)
    kept i l h = get_other lengths k i (Some n) (differs i l h) ∙ h

    opens : (calls : ℕ) → left ≡ suc calls → j ≡ k → m ≡ n → IsText m (info_call groups left opened j)
    opens calls more same number =
        let call = info_call groups calls (opened ++ k ∷ []) in
        let inner : (i l : ℕ) → slice_get lengths i ≡ Some (Some l) → l ≤ n → IsText l (call i) =
        λ i l h le. texts i l calls (opened ++ k ∷ []) h (omega (arith, enough, more))
        (λ p q found below. other_open lengths opened k p (differs p q found) ∙ free p q (kept p q found) (omega (arith, below, le, number))) in
        let is : info_call groups left opened j ≡ called k (info_written call x).front =
        ap (λ c. info_call groups c opened j) more ∙ ap (info_call groups (suc calls) opened) same
        ∙ call_opens groups calls opened k x (ap (is_at_call_limit opened) (sym same) ∙ free j m at (omega arith)) body in
        subst (IsText m) (sym is)
        (text_called k m (info_written call x).front (subst (λ l. IsText l (info_written call x).front) (sym number) (writes call inner)))

    either : (b : Bool) → (j == k) ≡ b → IsText m (info_call groups left opened j)
    either true e =
        let same : j ≡ k = grind (arith, nat_tests, e) in
        let there : Some (Some m) ≡ Some (Some n) =
        sym at ∙ ap (slice_get (set lengths k (Some n))) same ∙ get_same lengths k None (Some n) unknown in
        opens (left - 1) (omega (arith, enough)) same (same_Some m n (same_Some (Some m) (Some n) there))
    either false e =
        let other : j ≡ k → ⊥ = grind (arith, nat_tests, e) in
        texts j m left opened (sym (get_other lengths k j (Some n) other) ∙ at) (omega (arith, enough)) (λ p q found below. free p q (kept p q found) below)
