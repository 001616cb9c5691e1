-- A class of a tree for which there is no matcher is one that is written out, so the compiler may refuse the tree for it.
use Rattle.std.proofs.Common.{◌≡◌, ◌∙◌, ℕ, zero, suc, ◌<◌, ◌⊎◌, ⊎_elim, Bool, true, false, not, cond, true≢false, List, [], ◌∷◌, ◌++◌, length, Some, refl, sym, ap, subst, arith}
use Rattle.std.specs.Prelude.{◌==◌, ◌&&◌, ◌||◌, nat_lt, bytes_eq}
use Rattle.std.specs.List.{Contains}
use Rattle.std.proofs.lemmas.Bool.Decides.{nat_tests}
use Rattle.std.proofs.lemmas.List.Elements.{Contains-append_cases}
use Rattle.std.proofs.lemmas.Slice.Eq.{bytes_eq-Decides}
use Rattle.fancy_regex_tree.specs.Tree as tree
use Rattle.fancy_regex_tree.specs.Tree.{Text, Tree, Trees, no_trees, more_trees}
use Rattle.fancy_regex_tree.specs.Traversal.{listed}
use Rattle.fancy_regex_meaning.specs.Groups.{pattern_of}
use Rattle.fancy_regex_meaning.specs.Sizes.{target}
use Rattle.fancy_regex_class.specs.Classes.{class_text}
use Rattle.fancy_regex_class.specs.Matchers.{RefusesText}
use Rattle.fancy_regex_info.specs.declared.error.CompileError.{CompileError}
use Rattle.fancy_regex_info.specs.declared.error.CompileError.TheVariants.{InnerError, Memory}
use Rattle.fancy_regex_analysis.specs.AnalysisErrors.{is_too_complex}
use Rattle.fancy_regex_analysis.specs.NodeErrors.{some_node, some_node_of, is_invalid_node}
use Rattle.fancy_regex_analysis.specs.EmittedParts.{in_look_around, IsEmitted, the_root, child, body, SomeEmittedPart}
use Rattle.fancy_regex_linear.specs.Plain.{has_no_iteration, classes, row_classes}
use Rattle.fancy_regex_linear.specs.Calls.{OfBody}
use Rattle.fancy_regex_linear.specs.CalledClasses.{HasCall, RowHasCall, IsReached, from_root, from_body, IsWrittenCause}
use Rattle.fancy_regex_linear.specs.CalledClasses.{IsWritten as IsWrittenClass}
use Rattle.fancy_regex_linear.proofs.ApartLemmas.{some_body}
use Rattle.fancy_regex_compiler.proofs.ClearLemmas.{group_body_node}
use Rattle.fancy_regex_compiler.specs.Refusals.{Inside, is_class, IsClear}
use Rattle.fancy_regex_meta.specs.Refusals.{compile_options_of, IsCompileRefusal}
use Rattle.fancy_regex_meta.specs.declared.options.RegexOptions.{RegexOptions}

here : {X : Type 0} (x : X) (xs : List X) → Contains (x ∷ xs) x
here x xs = (0, omega arith, refl)

there : {X : Type 0} (y : X) (xs : List X) (x : X) → Contains xs x → Contains (y ∷ xs) x
there y xs x c = (suc c.0, omega (arith, c.1), c.2)

none_there : {X : Type 0} (x : X) → Contains [] x → ⊥
none_there x c = let low : c.0 < 0 = c.1 in omega arith

only_one : {X : Type 0} (y x : X) → Contains (y ∷ []) x → y ≡ x
only_one y x (zero, low, is) = is
only_one y x (suc n, low, is) = absurd (let no : suc n < 1 = low in omega arith)

same_case : (casei : Bool) → cond casei casei (not casei) ≡ true
same_case true = refl
same_case false = refl

neither : (a b : Bool) → (a || b) ≡ false → (a ≡ false) × (b ≡ false)
neither true b h = absurd (true≢false h)
neither false b h = (refl, h)

in_iterations : {X : Type 0} (none : Bool) (xs : List X) (x : X) → Contains (cond none [] xs) x → (none ≡ false) × Contains xs x
in_iterations true xs x m = absurd (none_there x m)
in_iterations false xs x m = (refl, m)

-- a repeat with an iteration, whose counts are in order, is run
never_run : (lo hi : ℕ) → nat_lt hi lo ≡ false → (hi == 0) ≡ true → has_no_iteration lo hi ≡ true
never_run lo hi order none = grind (arith, nat_tests)

is_run : (lo hi : ℕ) → nat_lt hi lo ≡ false → has_no_iteration lo hi ≡ false → (hi == 0) ≡ false
is_run lo hi order some = at (hi == 0) refl
  where
    at : (b : Bool) → (hi == 0) ≡ b → (hi == 0) ≡ false
    at true is = absurd (true≢false (sym (never_run lo hi order is) ∙ some))
    at false is = is

module _ (groups : List Tree) (root : Tree) (c : Text × Bool) where
  -- the class is written out
  abbrev IsWritten : Type 0
  IsWritten = SomeEmittedPart groups root (λ _. is_class c.0 c.1)

  abbrev wrong : Tree → Bool
  wrong = is_invalid_node (length groups)

  mutual
    unfolding classes row_classes some_node some_node_of

    written : (i : Inside) (t : Tree) → IsEmitted groups root i t → some_node wrong t ≡ false → Contains (classes t) c → IsWritten
    written i (tree.delegate text casei) w ok m =
        let is = only_one (text, casei) c m in (
          i,
          tree.delegate text casei,
          w,
          subst (λ (x : Text × Bool). (bytes_eq text x.0 && cond x.1 casei (not casei)) ≡ true) is
              (ap (λ b. b && cond casei casei (not casei)) ((bytes_eq-Decides text text).1 refl) ∙ same_case casei),
        )
    written i (tree.concat ts) w ok m = row_written i ts (λ u e. child i (tree.concat ts) u w refl e) ok m
    written i (tree.alt ts) w ok m = row_written i ts (λ u e. child i (tree.alt ts) u w refl e) ok m
    written i (tree.group t) w ok m = written i t (child i (tree.group t) t w refl (here t [])) ok m
    written i (tree.look_around t how) w ok m =
        written (in_look_around i) t (child i (tree.look_around t how) t w refl (here t [])) ok m
    written i (tree.atomic_group t) w ok m = written i t (child i (tree.atomic_group t) t w refl (here t [])) ok m
    written i (tree.conditional t a b) w ok m =
        let fine = neither (some_node wrong t) (some_node wrong a || some_node wrong b) ok in
        let rest = neither (some_node wrong a) (some_node wrong b) fine.1 in
        let root_of : (u : Tree) → Contains (t ∷ a ∷ b ∷ []) u → IsEmitted groups root i u = λ u e. child i (tree.conditional t a b) u w refl e in
        ⊎_elim
        (λ (h : Contains (classes t) c). written i t (root_of t (here t (a ∷ b ∷ []))) fine.0 h)
        (λ (h : Contains (classes a ++ classes b) c).
        ⊎_elim
        (λ (l : Contains (classes a) c). written i a (root_of a (there t (a ∷ b ∷ []) a (here a (b ∷ [])))) rest.0 l)
        (λ (r : Contains (classes b) c). written i b (root_of b (there t (a ∷ b ∷ []) b (there a (b ∷ []) b (here b [])))) rest.1 r)
        (Contains-append_cases (classes a) (classes b) c h))
        (Contains-append_cases (classes t) (classes a ++ classes b) c m)
    written i (tree.repeat t lo hi greedy) w ok m =
        let fine = neither (nat_lt hi lo) (some_node wrong t) ok in
        let some = in_iterations (has_no_iteration lo hi) (classes t) c m in
        written i t (child i (tree.repeat t lo hi greedy) t w (is_run lo hi fine.0 some.0) (here t [])) fine.1 some.1
    written i t w ok m = absurd (none_there c m)

    row_written : (i : Inside) (ts : Trees) → ((u : Tree) → Contains (listed ts) u → IsEmitted groups root i u) → some_node_of wrong ts ≡ false
        → Contains (row_classes ts) c → IsWritten
    row_written i no_trees all ok m = absurd (none_there c m)
    row_written i (more_trees t ts) all ok m =
        let fine = neither (some_node wrong t) (some_node_of wrong ts) ok in
        ⊎_elim
        (λ (h : Contains (classes t) c). written i t (all t (here t (listed ts))) fine.0 h)
        (λ (h : Contains (row_classes ts) c). row_written i ts (λ u e. all u (there t (listed ts) u e)) fine.1 h)
        (Contains-append_cases (classes t) (row_classes ts) c m)

-- what is called from what is written out is written out too
module _ (groups : List Tree) (root : Tree) (j : ℕ) where
  abbrev CallIsWritten : Type 0
  CallIsWritten = (k : Inside) × IsEmitted groups root k (tree.subroutine_call j)

  mutual
    unfolding some_node some_node_of

    call_written : (i : Inside) (t : Tree) → IsEmitted groups root i t → some_node (is_invalid_node (length groups)) t ≡ false → HasCall j t → CallIsWritten
    call_written i (tree.subroutine_call k) w ok h = (i, subst (λ (m : ℕ). IsEmitted groups root i (tree.subroutine_call m)) h w)
    call_written i (tree.concat ts) w ok h = row_call_written i ts (λ u e. child i (tree.concat ts) u w refl e) ok h
    call_written i (tree.alt ts) w ok h = row_call_written i ts (λ u e. child i (tree.alt ts) u w refl e) ok h
    call_written i (tree.group t) w ok h = call_written i t (child i (tree.group t) t w refl (here t [])) ok h
    call_written i (tree.look_around t how) w ok h =
        call_written (in_look_around i) t (child i (tree.look_around t how) t w refl (here t [])) ok h
    call_written i (tree.atomic_group t) w ok h = call_written i t (child i (tree.atomic_group t) t w refl (here t [])) ok h
    call_written i (tree.conditional t a b) w ok h =
        let wrong = is_invalid_node (length groups) in
        let fine = neither (some_node wrong t) (some_node wrong a || some_node wrong b) ok in
        let rest = neither (some_node wrong a) (some_node wrong b) fine.1 in
        let root_of : (u : Tree) → Contains (t ∷ a ∷ b ∷ []) u → IsEmitted groups root i u = λ u e. child i (tree.conditional t a b) u w refl e in
        ⊎_elim
        (λ (l : HasCall j t). call_written i t (root_of t (here t (a ∷ b ∷ []))) fine.0 l)
        (λ (r : HasCall j a ⊎ HasCall j b).
        ⊎_elim
        (λ (l : HasCall j a). call_written i a (root_of a (there t (a ∷ b ∷ []) a (here a (b ∷ [])))) rest.0 l)
        (λ (m : HasCall j b). call_written i b (root_of b (there t (a ∷ b ∷ []) b (there a (b ∷ []) b (here b [])))) rest.1 m) r)
        h
    call_written i (tree.repeat t lo hi greedy) w ok h =
        let fine = neither (nat_lt hi lo) (some_node (is_invalid_node (length groups)) t) ok in
        call_written i t (child i (tree.repeat t lo hi greedy) t w (is_run lo hi fine.0 h.0) (here t [])) fine.1 h.1
    call_written i t w ok h = absurd h

    row_call_written : (i : Inside) (ts : Trees) → ((u : Tree) → Contains (listed ts) u → IsEmitted groups root i u)
        → some_node_of (is_invalid_node (length groups)) ts ≡ false → RowHasCall j ts → CallIsWritten
    row_call_written i no_trees all ok h = absurd h
    row_call_written i (more_trees t ts) all ok h =
        let fine = neither (some_node (is_invalid_node (length groups)) t) (some_node_of (is_invalid_node (length groups)) ts) ok in
        ⊎_elim
        (λ (l : HasCall j t). call_written i t (all t (here t (listed ts))) fine.0 l)
        (λ (r : RowHasCall j ts). row_call_written i ts (λ u e. all u (there t (listed ts) u e)) fine.1 r)
        h

module _ (t : Tree) (clear : IsClear (pattern_of t).groups t) where
  abbrev groups : List Tree
  groups = (pattern_of t).groups

  -- no node of a body is wrong, since none of the tree is
  body_right : (k : ℕ) (inner : Tree) → target groups k ≡ Some inner → some_node (is_invalid_node (length groups)) inner ≡ false
  body_right k inner found = at (some_node (is_invalid_node (length groups)) inner) refl
    where
      at : (b : Bool) → some_node (is_invalid_node (length groups)) inner ≡ b → some_node (is_invalid_node (length groups)) inner ≡ false
      at true is = absurd (true≢false (sym (group_body_node (is_invalid_node (length groups)) false t k inner found is) ∙ clear.nodes))
      at false is = is

  reached_written : (j : ℕ) → IsReached groups t j → (k : Inside) × IsEmitted groups t k (tree.subroutine_call j)
  reached_written j (from_root _ h) = call_written groups t j _ t the_root clear.nodes h
  reached_written j (from_body i _ inner reached found h) =
      let w = reached_written i reached in
      call_written groups t j w.0 inner (body w.0 i inner w.1 found) (body_right i inner found) h

  class_written : (c : Text × Bool) → IsWrittenClass groups t c → IsWritten groups t c
  class_written c h =
      ⊎_elim
      (λ (own : Contains (classes t) c). written groups t c _ t the_root clear.nodes own)
      (λ (called : (j : ℕ) × IsReached groups t j × OfBody (λ u. Contains (classes u) c) (target groups j)).
      let w = reached_written called.0 called.1 in
      let found = some_body (λ u. Contains (classes u) c) (target groups called.0) called.2 in
      written groups t c w.0 found.0 (body w.0 called.0 found.0 w.1 found.1) (body_right called.0 found.0 found.1) found.2)
      h

-- why there is no matcher for each class that is written with a tree is a reason of the compiler too
pub class_refusal : (o : RegexOptions) (calls : Bool) (t : Tree) (cause : CompileError) → IsClear (pattern_of t).groups t
    → IsWrittenCause o.unicode_mode (pattern_of t) cause → IsCompileRefusal (compile_options_of o calls) t cause
class_refusal o calls t (InnerError shown) clear why =
    let casei = why.class.1 in
    record {
      casei = casei;
      is_there = subst (λ (y : Text). SomeEmittedPart (pattern_of t).groups t (λ _. is_class y casei)) (sym why.is_shown)
          (class_written t clear why.class why.is_there);
      refused = subst (λ (y : Text). RefusesText (class_text o.unicode_mode casei y)) (sym why.is_shown) why.refused;
    }
class_refusal o calls t Memory clear why = tt
class_refusal o calls t _ clear why = absurd why

-- and none that the tree is too complex
pub class_not_complex : (unicode : Bool) (t : Tree) (cause : CompileError) → IsWrittenCause unicode (pattern_of t) cause → is_too_complex cause ≡ false
class_not_complex unicode t (InnerError shown) why = refl
class_not_complex unicode t Memory why = refl
class_not_complex unicode t _ why = absurd why
