-- Which parts are delegated, and why one is refused.
use Rattle.std.proofs.Common.{◌≡◌, ℕ, zero, suc, ◌+◌, ◌-◌, ◌<◌, Bool, true, false, not, cond, true≢false, List, [], ◌∷◌, length, map, Some, None, Vec, Global, refl, sym, ap, ◌∙◌, subst, arith, ⊎_elim}
use Rattle.std.specs.Prelude.{◌==◌, ◌&&◌, ◌||◌, nat_lt, nat_le, bytes_eq, chars, count_by, slice_get, string_bytes}
use Rattle.std.specs.List.{Contains}
use Rattle.std.proofs.lemmas.Bool.Decides.{nat_tests}
use Rattle.std.proofs.lemmas.List.Elements.{Contains-append_cases}
use Rattle.std.proofs.lemmas.Option.{none-some, same_Some, slice_get-get_or}
use Rattle.std.proofs.lemmas.Slice.Eq.{bytes_eq-Decides}
use Rattle.fancy_regex_tree.specs.Tree as tree
use Rattle.fancy_regex_tree.specs.Tree.{Text, Tree, Trees, no_trees, more_trees, trees, tree_of}
use Rattle.fancy_regex_tree.specs.declared.expr.Expr.{Expr}
use Rattle.fancy_regex_tree.specs.declared.expr.Expr.TheVariants as view
use Rattle.fancy_regex_tree.specs.Traversal.{nodes}
use Rattle.fancy_regex_tree.specs.Printable.{is_printable}
use Rattle.fancy_regex_meaning.specs.Groups.{pattern_of, group_count}
use Rattle.fancy_regex_class.specs.Classes.{class_text}
use Rattle.fancy_regex_class.specs.Matchers.{RefusesText}
use Rattle.fancy_regex_info.specs.Easy.{is_easy, all_easy}
use Rattle.fancy_regex_linear.specs.Plain.{has_no_iteration, classes, row_classes}
use Rattle.fancy_regex_analysis.specs.NodeErrors.{is_invalid_node}
use Rattle.fancy_regex_analysis.specs.EmittedParts.{some_descendant, some_of_row, some_emitted}
use Rattle.fancy_regex_info.specs.References.{is_read}
use Rattle.fancy_regex_info.specs.Analysis.{analysis}
use Rattle.fancy_regex_info.specs.Infos.{InfoTree, properties_in}
use Rattle.fancy_regex_info.specs.declared.error.CompileError.{CompileError}
use Rattle.fancy_regex_info.specs.declared.error.CompileError.TheVariants.{InnerError, Memory}
use Rattle.fancy_regex_desugar.specs.Delegates.{is_choice, own_properties, is_light_part, is_searchable, ends_in_choice, row_ends_in_choice, searched, offers_choices, is_delegated}
use Rattle.fancy_regex_desugar.proofs.DelegateProofs.{part_of, searched_can_be}
use Rattle.fancy_regex_program.specs.Parts.{IsPartCause}
use Rattle.fancy_regex_compiler.specs.Refusals.{Inside, is_class, IsReason, TreeContext, IsAnalyzed, ExpandedPart, IsExpandedBody}
use Rattle.fancy_regex_compiler.proofs.KnownLemmas.{own}
use Rattle.fancy_regex_compiler.proofs.TreeLemmas.{tree_concat}
use Rattle.fancy_regex_program.proofs.LazyLemmas.{searched_easy, searched_classes, searched_printable}

or_left : (a b : Bool) → a ≡ true → (a || b) ≡ true
or_left true b h = refl
or_left false b h = absurd (true≢false (sym h))

or_right : (a b : Bool) → b ≡ true → (a || b) ≡ true
or_right true b h = refl
or_right false b h = h

pub both_true : (a b : Bool) → (a && b) ≡ true → (a ≡ true) × (b ≡ true)
both_true true b h = (refl, h)
both_true false b h = absurd (true≢false (sym h))

same_case : (casei : Bool) → cond casei casei (not casei) ≡ true
same_case true = refl
same_case false = refl

pub none_there : {X : Type 0} (x : X) → Contains [] x → ⊥
none_there x c = let low : c.0 < 0 = c.1 in omega arith

only_one : {X : Type 0} (y x : X) → Contains (y ∷ []) x → y ≡ x
only_one y x (zero, low, is) = is
only_one y x (suc n, low, is) = absurd (let no : suc n < 1 = low in omega arith)

-- a class of an easy part is written out with it, where each quantifier's counts are in order
module _ (reads : ℕ → Bool) (count : ℕ) (c : Text × Bool) (i : Inside) where
  abbrev Test : Inside → Tree → Bool
  Test _ = is_class c.0 c.1

  abbrev Wrong : Inside → Tree → Bool
  Wrong _ = is_invalid_node count

  in_order : (lo hi : ℕ) → (nat_lt hi lo ≡ true → ⊥) → (hi == 0) ≡ true → has_no_iteration lo hi ≡ true
  in_order lo hi h e = at (nat_lt hi lo) refl
    where
      at : (b : Bool) → nat_lt hi lo ≡ b → has_no_iteration lo hi ≡ true
      at true is = absurd (h is)
      at false is = grind (arith, nat_tests)

  mutual
    unfolding is_easy all_easy classes row_classes some_descendant some_of_row

    pub class_emitted : (k : ℕ) (t : Tree) → is_easy reads k t ≡ true → (some_emitted Wrong i t ≡ true → ⊥) → Contains (classes t) c → some_emitted Test i t ≡ true
    class_emitted k (tree.delegate text casei) e ok m =
        let is = only_one (text, casei) c m in
        subst (λ (x : Text × Bool). ((bytes_eq text x.0 && cond x.1 casei (not casei)) || false) ≡ true) is
        (ap (λ b. (b && cond casei casei (not casei)) || false) ((bytes_eq-Decides text text).1 refl) ∙ ap (λ b. b || false) (same_case casei))
    class_emitted k (tree.concat ts) e ok m = row_emitted k ts e ok m
    class_emitted k (tree.alt no_trees) e ok m = absurd (true≢false (sym e))
    class_emitted k (tree.alt (more_trees t ts)) e ok m = row_emitted k (more_trees t ts) e ok m
    class_emitted k (tree.group t) e ok m = class_emitted (k + 1) t (both_true (is_easy reads (k + 1) t) (not (reads k)) e).0 ok m
    class_emitted k (tree.repeat t lo hi greedy) e ok m =
        elim (hi == 0) as (λ b. (hi == 0) ≡ b → cond b false (some_emitted Test i t) ≡ true) [
          | true ↦ λ zero_is.
              absurd (none_there c (subst (λ b. Contains (cond b [] (classes t)) c)
              (in_order lo hi (λ bad. ok (or_left (nat_lt hi lo) _ bad)) zero_is) m))
          | false ↦ λ more.
              class_emitted k t e (λ bad. ok (or_right (nat_lt hi lo) _ (ap (λ b. cond b false (some_emitted Wrong i t)) more ∙ bad)))
              (in_iterations (has_no_iteration lo hi) m)
        ] refl
      where
        in_iterations : (b : Bool) → Contains (cond b [] (classes t)) c → Contains (classes t) c
        in_iterations true m = absurd (none_there c m)
        in_iterations false m = m
    class_emitted k (tree.look_around t how) e ok m = absurd (true≢false (sym e))
    class_emitted k (tree.atomic_group t) e ok m = absurd (true≢false (sym e))
    class_emitted k (tree.conditional t a b) e ok m = absurd (true≢false (sym e))
    class_emitted k t e ok m = absurd (none_there c m)

    row_emitted : (k : ℕ) (ts : Trees) → all_easy reads k ts ≡ true → (some_of_row Wrong i ts ≡ true → ⊥) → Contains (row_classes ts) c → some_of_row Test i ts ≡ true
    row_emitted k no_trees e ok m = absurd (none_there c m)
    row_emitted k (more_trees t ts) e ok m =
        let both = both_true (is_easy reads k t) (all_easy reads (k + group_count t) ts) e in
        ⊎_elim
        (λ (h : Contains (classes t) c). or_left (some_emitted Test i t) _ (class_emitted k t both.0 (λ bad. ok (or_left (some_emitted Wrong i t) _ bad)) h))
        (λ (h : Contains (row_classes ts) c). or_right (some_emitted Test i t) _ (row_emitted (k + group_count t) ts both.1 (λ bad. ok (or_right (some_emitted Wrong i t) _ bad)) h))
        (Contains-append_cases (classes t) (row_classes ts) c m)

-- what is said of a class of a delegated part holds where the part stands
pub part_reason : (tree_context : TreeContext) (keeps absents steps_back u : Bool) (gs : List InfoTree) (for_any : Bool) (t : Tree) (x : InfoTree) (e : CompileError) →
    IsAnalyzed tree_context gs → IsExpandedBody tree_context keeps absents steps_back t x → IsPartCause u for_any t e → IsReason u tree_context.groups tree_context.root e
part_reason tree_context keeps absents steps_back u gs for_any t x (InnerError shown) s h cause =
    let stands = subst (ExpandedPart tree_context keeps absents steps_back x) h.is h.part in
    let sought = searched for_any t in
    let reads = is_read (length (pattern_of sought).groups) sought in
    let easy : is_easy reads 1 t ≡ true = sym (searched_easy for_any reads 1 t) ∙ (part_of sought (searched_can_be for_any t cause.0)).easy in
    let text = chars (string_bytes shown) in
    let there : Contains (classes t) (text, cause.1.class.1) =
    subst (λ l. Contains l (text, cause.1.class.1)) (searched_classes for_any t) (subst (λ y. Contains (classes sought) (y, cause.1.class.1)) (sym cause.1.is_shown) cause.1.is_there) in
    record {
      casei = cause.1.class.1;
      is_there = stands.parts (λ _. is_class text cause.1.class.1)
          (class_emitted reads (length tree_context.groups) (text, cause.1.class.1) stands.inside 1 t easy
          (λ bad. s.nodes (stands.parts (λ _. is_invalid_node (length tree_context.groups)) bad)) there);
      refused = subst (λ y. RefusesText (class_text u cause.1.class.1 y)) (sym cause.1.is_shown) cause.1.refused;
    }
part_reason tree_context keeps absents steps_back u gs for_any t x Memory s h cause = tt
part_reason tree_context keeps absents steps_back u gs for_any t x _ s h cause = absurd cause

-- what the analysis of a part says
pub own_is : (t : Tree) (x : InfoTree) → x ≡ analysis false t → properties_in x ≡ own_properties t
own_is t x is =
    let pattern = pattern_of t in
    ap properties_in is ∙ own pattern.groups (is_read (length pattern.groups) t) pattern.first_group t

pub light_part_is : (t : Tree) (x : InfoTree) (b : Bool) → x ≡ analysis false t → b ≡ is_light_part (properties_in x) → is_light_part (own_properties t) ≡ b
light_part_is t x b is e = ap is_light_part (sym (own_is t x is)) ∙ sym e

pub and_false : (a : Bool) → (a && false) ≡ false
and_false true = refl
and_false false = refl

-- whether a concatenation ends in a choice, by its last part
pub last_ends : (es : List Expr) (x : Expr) → slice_get es (length es - 1) ≡ Some x → row_ends_in_choice (trees (map tree_of es)) ≡ ends_in_choice (tree_of x)
unfolding ends_in_choice row_ends_in_choice
last_ends [] x at = absurd (none-some _ at)
last_ends (e ∷ []) x at = ap (λ y. ends_in_choice (tree_of y)) (same_Some e x at)
last_ends (e ∷ f ∷ fs) x at =
    let step : length (e ∷ f ∷ fs) - 1 ≡ suc (length (f ∷ fs) - 1) = omega arith in
    last_ends (f ∷ fs) x (ap (slice_get (e ∷ f ∷ fs)) (sym step) ∙ at)

pub none_ends : (es : List Expr) → slice_get es (length es - 1) ≡ None → row_ends_in_choice (trees (map tree_of es)) ≡ false
unfolding row_ends_in_choice
none_ends [] at = refl
none_ends (e ∷ es) at = absurd (let inside : length (e ∷ es) - 1 < length (e ∷ es) = omega arith in none-some _ (sym at ∙ slice_get-get_or (e ∷ es) (length (e ∷ es) - 1) e inside))

pub concat_ends : (es : Vec Expr Global) (e : Expr) → e ≡ view.Concat es → ends_in_choice (tree_of e) ≡ row_ends_in_choice (trees (map tree_of es.items))
unfolding ends_in_choice row_ends_in_choice
concat_ends es e is = ap ends_in_choice (ap tree_of is ∙ tree_concat es)

-- which trees offer choices
module _ (for_any : Bool) (t : Tree) where
  pub ends_with_one : (for_any && ends_in_choice t) ≡ true → offers_choices for_any t ≡ true
  unfolding offers_choices
  ends_with_one ends = ap (λ b. b || nat_le 2 (count_by is_choice (nodes t))) ends

  pub has_so_many : (for_any && ends_in_choice t) ≡ false → (n : ℕ) → n ≡ count_by is_choice (nodes t) → offers_choices for_any t ≡ nat_le 2 n
  unfolding offers_choices
  has_so_many ends n count = ap (λ b. b || nat_le 2 (count_by is_choice (nodes t))) ends ∙ ap (nat_le 2) (sym count)

-- which trees are delegated
module _ (for_any : Bool) (t : Tree) where
  pub too_few : offers_choices for_any t ≡ false → is_delegated for_any t ≡ false
  unfolding is_delegated
  too_few few = ap (λ b. b && is_searchable (searched for_any t)) few

  pub too_heavy : is_light_part (own_properties (searched for_any t)) ≡ false → is_delegated for_any t ≡ false
  unfolding is_delegated is_searchable
  too_heavy heavy =
      ap (λ b. offers_choices for_any t && (b && is_printable (searched for_any t))) heavy ∙ and_false (offers_choices for_any t)

  pub unprintable : is_printable t ≡ false → is_delegated for_any t ≡ false
  unfolding is_delegated is_searchable
  unprintable none =
      ap (λ b. offers_choices for_any t && (is_light_part (own_properties (searched for_any t)) && b)) (searched_printable for_any t ∙ none)
      ∙ ap (λ b. offers_choices for_any t && b) (and_false (is_light_part (own_properties (searched for_any t))))
      ∙ and_false (offers_choices for_any t)

  pub is_part : offers_choices for_any t ≡ true → is_light_part (own_properties (searched for_any t)) ≡ true → is_printable t ≡ true → is_delegated for_any t ≡ true
  unfolding is_delegated is_searchable
  is_part offers light printable =
      ap (λ b. b && (is_light_part (own_properties (searched for_any t)) && is_printable (searched for_any t))) offers
      ∙ ap (λ b. b && is_printable (searched for_any t)) light ∙ searched_printable for_any t ∙ printable
