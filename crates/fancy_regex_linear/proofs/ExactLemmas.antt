-- Exactly which trees become states with parts.
use Rattle.std.proofs.Common.{◌≡◌, ◌↔◌, ◌∙◌, ◌==◌, ◌+◌, ◌-◌, ◌*◌, ℕ, zero, suc, ◌<◌, ◌≤◌, min, max, not, ◌&&◌, if◌then◌else◌, Bool, true, false, true≢false, List, [], ◌∷◌, length, map, get_or, Option, Some, None, Bor, refl, sym, ap, ap₂, subst, arith}
use Rattle.std.proofs.lemmas.Bool.{eqb-true}
use Rattle.fancy_regex_tree.specs.Tree.{Tree, Trees, tree_of, empty, any, assertion, general_newline, literal, concat, alt, group, look_around, repeat, delegate, atomic_group, conditional, verb, keep_out, continue, define_group, no_trees, more_trees}
use Rattle.fancy_regex_tree.specs.declared.expr.Expr.{Expr}
use Rattle.fancy_regex_meaning.specs.Sizes.{unbounded, bound_of, may_be_empty, repeat_weight, branch_gaps}
use Rattle.fancy_regex_meaning.specs.Groups.{Pattern}
use Rattle.fancy_regex_info.specs.AnalysisRelations.{mark_at}
use Rattle.fancy_regex_info.specs.Views.{pattern_in, body_tree}
use Rattle.fancy_regex_linear.specs.Re.{nothing}
use Rattle.fancy_regex_linear.specs.Plain.{IsRegular, AreRegular, has_no_iteration}
use Rattle.fancy_regex_linear.specs.Calls.{IsCallable, IsWrittenOut, has_own_span, greatest_nesting, weight_with, weights_with, call_weight, written_weight}
use Rattle.fancy_regex_linear.specs.Facts.{facts_in, calls_after}
use Rattle.fancy_regex_linear.specs.declared.facts.CallFacts.{CallFacts}
use Rattle.fancy_regex_linear.specs.declared.facts.TreeFacts.{TreeFacts}
use Rattle.fancy_regex_info.specs.Analysis.{analysis}
use Rattle.fancy_regex_info.specs.Infos.{InfoTree, properties_in}
use Rattle.fancy_regex_linear.proofs.FactLemmas.{written_known, alone_known_at}
use Rattle.fancy_regex_linear.proofs.PlainLemmas.{NoCall, regular_into, flag_is}
use Rattle.fancy_regex_linear.proofs.KeepLemmas.{regular_as}
use Rattle.fancy_regex_linear.proofs.TranslationLemmas.{whole_is}
use Rattle.fancy_regex_linear.specs.RegularStates.{IsMadeFor, KeepsStart}
use Rattle.fancy_regex_linear.specs.Translation.{all_trees}

-- each tree of a row is regular
pub regular_at : (resets : Bool) (called : ℕ → Type 0) (es : List Expr) (i : ℕ) (e : Expr) → i < length es → e ≡ get_or es i e
    → AreRegular resets called (all_trees es) → IsRegular resets called (tree_of e)
regular_at resets called [] i e h is all = absurd (omega (arith, h))
regular_at resets called (x ∷ xs) zero e h is all = subst (λ (y : Expr). IsRegular resets called (tree_of y)) (sym is) all.0
regular_at resets called (x ∷ xs) (suc i) e h is all = regular_at resets called xs i e (omega (arith, h)) is all.1

-- the groups of a pattern, by those of its tree
pub groups_same : (gs all : List (Bor Expr)) → gs ≡ all → (b explicit : Bool) (u t : Tree) → b ≡ explicit → u ≡ t
    → map body_tree all ≡ (pattern_in b u).groups → map body_tree gs ≡ (pattern_in explicit t).groups
groups_same gs all same b explicit u t begins is of =
    ap (map body_tree) same ∙ of ∙ ap₂ (λ (e : Bool) (v : Tree). (pattern_in e v).groups) begins is

-- where `\K` may stand: where the tree does not write group 0 itself
pub may_reset : (explicit : Bool) (t : Tree) (start : ℕ) → (start == 0) ≡ explicit → not (start == 0) ≡ has_own_span (pattern_in explicit t)
may_reset explicit t start is = ap not is ∙ whole_is explicit t

-- what is made, of the parts of a pattern
made_for : (explicit : Bool) (t : Tree) → IsWrittenOut (pattern_in explicit t).groups (has_own_span (pattern_in explicit t)) t
    → written_weight (pattern_in explicit t).groups t ≤ 4000 → IsMadeFor (pattern_in explicit t)
made_for true t r l = record { regular = r; light = l }
made_for false t r l = record { regular = r; light = l }

made_regular : (explicit : Bool) (t : Tree) → IsMadeFor (pattern_in explicit t)
    → IsWrittenOut (pattern_in explicit t).groups (has_own_span (pattern_in explicit t)) t
made_regular true t m = m.regular
made_regular false t m = m.regular

made_light : (explicit : Bool) (t : Tree) → IsMadeFor (pattern_in explicit t) → written_weight (pattern_in explicit t).groups t ≤ 4000
made_light true t m = m.light
made_light false t m = m.light

-- a test of a weight
by_weight : (P S : Type 0) (w real : ℕ) → w ≡ min unbounded real → (S ↔ (w ≤ 4000)) → (real ≤ 4000 → P) → (P → real ≤ 4000) → (S ↔ P)
by_weight P S w real is light into out =
    (λ s. let low : w ≤ 4000 = light.0 s in into (omega (arith, is, low)), λ p. let low : real ≤ 4000 = out p in light.1 (omega (arith, is, low)))

-- a flag that is set where another is not
unset : (b c : Bool) (P : Type 0) → b ≡ not c → (c ≡ true ↔ P) → (b ≡ false ↔ P)
unset b true P is h = (λ e. h.0 refl, λ p. is)
unset b false P is h = (λ e. absurd (true≢false (sym is ∙ e)), λ p. absurd (true≢false (sym (h.1 p))))

keeps_pattern : (explicit : Bool) (t : Tree) (b : Bool) → ((b ≡ false) ↔ IsWrittenOut (pattern_in explicit t).groups false t)
    → ((b ≡ false) ↔ KeepsStart (pattern_in explicit t))
keeps_pattern true t b h = h
keeps_pattern false t b h = h

-- what is asked of a tree, where `\K` may stand in it or not
known_as : (resets regular keeps : Bool) (P : Bool → Type 0) → (regular ≡ true ↔ P true) → (keeps ≡ true ↔ P false)
    → ((if resets then regular else keeps) ≡ true ↔ P resets)
known_as true regular keeps P p q = p
known_as false regular keeps P p q = q

-- what is known of an analyzed tree decides
module _ (x : InfoTree) (explicit : Bool) (t : Tree) (is : x ≡ analysis explicit t) (calls : List CallFacts)
    (made : calls ≡ calls_after x (greatest_nesting (properties_in x).end)) where
  abbrev facts : TreeFacts
  facts = facts_in calls x

  written_as : (resets : Bool) → ((if resets then facts.is_regular else facts.keeps_start) ≡ true) ↔ IsWrittenOut (pattern_in explicit t).groups resets t
  written_as resets =
      let known = written_known x explicit t is calls made in
      known_as resets facts.is_regular facts.keeps_start (λ r. IsWrittenOut (pattern_in explicit t).groups r t) known.regular known.keeps

  pub not_made : (resets : Bool) → resets ≡ has_own_span (pattern_in explicit t) → (if resets then facts.is_regular else facts.keeps_start) ≡ false
      → IsMadeFor (pattern_in explicit t) → ⊥
  not_made resets own none m =
      let regular = subst (λ r. IsWrittenOut (pattern_in explicit t).groups r t) (sym own) (made_regular explicit t m) in
      true≢false (sym ((written_as resets).1 regular) ∙ none)

  pub exact_by : (resets : Bool) → resets ≡ has_own_span (pattern_in explicit t) → (S : Type 0)
      → (if resets then facts.is_regular else facts.keeps_start) ≡ true → (S ↔ (facts.weight ≤ 4000)) → (S ↔ IsMadeFor (pattern_in explicit t))
  exact_by resets own S regular light =
      let out = subst (λ r. IsWrittenOut (pattern_in explicit t).groups r t) own ((written_as resets).0 regular) in
      by_weight (IsMadeFor (pattern_in explicit t)) S facts.weight (written_weight (pattern_in explicit t).groups t) (written_known x explicit t is calls made).weight
      light (made_for explicit t out) (made_light explicit t)

  pub keeps_by : (b : Bool) → b ≡ not facts.keeps_start → ((b ≡ false) ↔ KeepsStart (pattern_in explicit t))
  keeps_by b set =
      keeps_pattern explicit t b
      (unset b facts.keeps_start (IsWrittenOut (pattern_in explicit t).groups false t) set (written_known x explicit t is calls made).keeps)

-- The weight of a tree without calls rests on no other groups, nor on what calls weigh.
pub not_both : (b c : Bool) → not b ≡ not c → b ≡ c
not_both true true e = refl
not_both true false e = absurd (true≢false (sym e))
not_both false true e = absurd (true≢false e)
not_both false false e = refl

both_true : (b c : Bool) → (b && c) ≡ true → (b ≡ true) × (c ≡ true)
both_true true true e = (refl, refl)
both_true true false e = absurd (true≢false (sym e))
both_true false c e = absurd (true≢false (sym e))

none_repeated : (lo hi : ℕ) → has_no_iteration lo hi ≡ true → (lo ≡ 0) × (hi ≡ 0)
none_repeated lo hi e = let both = both_true (lo == 0) (hi == 0) e in (eqb-true lo 0 both.0, eqb-true hi 0 both.1)

repeats_none : (w v : ℕ) → max 1 (0 * w + (0 - 0) * (w + 3)) ≡ max 1 (0 * v + (0 - 0) * (v + 3))
repeats_none w v = omega arith

module _ (groups others : List Tree) (call other : ℕ → ℕ) where
  same_empty : (resets : Bool) (t : Tree) → IsRegular resets NoCall t → may_be_empty groups t ≡ may_be_empty others t
  same_empty resets t p =
      not_both (may_be_empty groups t) (may_be_empty others t) (flag_is true [] (λ j. nothing) resets groups 0 0 t p ∙ sym (flag_is true [] (λ j. nothing) resets others 0 0 t p))

  same_gaps : (ts : Trees) → branch_gaps groups ts ≡ branch_gaps others ts
  unfolding branch_gaps
  same_gaps no_trees = refl
  same_gaps (more_trees t no_trees) = refl
  same_gaps (more_trees t (more_trees u ts)) = ap (λ n. n + 1) (same_gaps (more_trees u ts))

  same_repeat : (lo : ℕ) (hi : Option ℕ) (w : ℕ) (b : Bool) → repeat_weight groups lo hi w b ≡ repeat_weight others lo hi w b
  same_repeat lo (Some hi) w b = refl
  same_repeat lo None w true = refl
  same_repeat lo None w false = refl

  repeats_same : (lo hi w v : ℕ) (b c : Bool) → (none : Bool) → has_no_iteration lo hi ≡ none → (none ≡ false → w ≡ v) → (none ≡ false → b ≡ c)
      → repeat_weight groups lo (bound_of hi) w b ≡ repeat_weight others lo (bound_of hi) v c
  repeats_same lo hi w v b c true e same flags = let both = none_repeated lo hi e in rw (both.0, both.1) (repeats_none w v)
  repeats_same lo hi w v b c false e same flags = same_repeat lo (bound_of hi) w b ∙ ap₂ (repeat_weight others lo (bound_of hi)) (same refl) (flags refl)

  mutual
    unfolding weight_with

    same_weight : (resets : Bool) (t : Tree) → IsRegular resets NoCall t → weight_with groups call t ≡ weight_with others other t
    same_weight resets empty p = refl
    same_weight resets (any newline crlf) p = refl
    same_weight resets (literal val casei) p = refl
    same_weight resets (delegate class casei) p = refl
    same_weight resets (general_newline wide) p = refl
    same_weight resets (assertion a) p = refl
    same_weight resets (concat ts) p = ap (max 1) (same_weights resets ts p)
    same_weight resets (alt ts) p = ap₂ (λ (a b : ℕ). a + 3 * b) (same_weights resets ts p.1) (same_gaps ts)
    same_weight resets (group t) p = ap (λ n. n + 2) (same_weight resets t p)
    same_weight resets (look_around t how) p = ap (λ n. 1 + n) (same_weight false t p)
    same_weight resets (atomic_group t) p = ap (λ n. 1 + n) (same_weight resets t p)
    same_weight resets (conditional c a b) p =
        ap₂ (λ (x y : ℕ). 1 + (x + y)) (same_weight resets c p.0) (ap₂ (λ (x y : ℕ). x + y) (same_weight resets a p.1.0) (same_weight resets b p.1.1))
    same_weight resets (define_group t) p = refl
    same_weight resets (verb v) p = refl
    same_weight resets keep_out p = refl
    same_weight resets continue p = refl
    same_weight resets (repeat t lo hi greedy) p =
        repeats_same lo hi (weight_with groups call t) (weight_with others other t) (may_be_empty groups t) (may_be_empty others t) (has_no_iteration lo hi) refl
        (λ made. same_weight resets t (p made)) (λ made. same_empty resets t (p made))
    same_weight resets _ p = absurd p

    same_weights : (resets : Bool) (ts : Trees) → AreRegular resets NoCall ts → weights_with groups call ts ≡ weights_with others other ts
    same_weights resets no_trees p = refl
    same_weights resets (more_trees t ts) p = ap₂ (λ (x y : ℕ). x + y) (same_weight resets t p.0) (same_weights resets ts p.1)

-- where a tree has no calls, no table is needed
module _ (x : InfoTree) (explicit : Bool) (t u : Tree) (is : x ≡ analysis explicit t) (same : u ≡ t) (resets : Bool)
    (own : resets ≡ has_own_span (pattern_in explicit t)) (alone : IsRegular resets (λ j. mark_at [] j ≡ true) u) where
  abbrev callable : ℕ → Type 0
  callable = IsCallable (pattern_in explicit t).groups (greatest_nesting (length (pattern_in explicit t).groups))

  plain : IsRegular resets NoCall t
  plain = subst (IsRegular resets NoCall) same (regular_into (λ j. mark_at [] j ≡ true) NoCall (λ j e. true≢false (sym e)) resets u alone)

  pub alone_exact : (S : Type 0) → (S ↔ ((facts_in [] x).weight ≤ 4000)) → (S ↔ IsMadeFor (pattern_in explicit t))
  alone_exact S light =
      let groups = (pattern_in explicit t).groups in
      let regular = subst (λ r. IsRegular r callable t) own (regular_into NoCall callable (λ j h. absurd h) resets t plain) in
      by_weight (IsMadeFor (pattern_in explicit t)) S (facts_in [] x).weight (written_weight groups t)
      ((alone_known_at x explicit t is).weight
      ∙ ap (min unbounded) (same_weight groups groups (λ j. 1) (call_weight groups (greatest_nesting (length groups))) resets t plain))
      light (made_for explicit t regular) (made_light explicit t)

  pub alone_keeps : (b : Bool) → b ≡ not (facts_in [] x).keeps_start → ((b ≡ false) ↔ KeepsStart (pattern_in explicit t))
  alone_keeps b set =
      let known = (alone_known_at x explicit t is).keeps in
      keeps_pattern explicit t b
      (unset b (facts_in [] x).keeps_start (IsWrittenOut (pattern_in explicit t).groups false t) set (
        λ e. regular_into NoCall callable (λ j h. absurd h) false t (known.0 e),
        λ w. known.1 (regular_as NoCall callable resets false t plain w),
      ))

-- where a tree is not regular without calls, it has some
pub has_calls : (explicit : Bool) (t u : Tree) (resets : Bool) → u ≡ t → resets ≡ has_own_span (pattern_in explicit t)
    → (IsRegular resets (λ j. mark_at [] j ≡ true) u → ⊥) → IsRegular (has_own_span (pattern_in explicit t)) (λ j. ⊥) t → ⊥
has_calls explicit t u resets same own other p =
    let here : IsRegular resets NoCall u = subst (λ r. IsRegular r NoCall u) (sym own) (subst (IsRegular (has_own_span (pattern_in explicit t)) NoCall) (sym same) p) in
    other (regular_into NoCall (λ j. mark_at [] j ≡ true) (λ j h. absurd h) resets u here)

-- A match of a pattern that has states may begin elsewhere than its attempt only where the tree does not write group 0 itself.
pub starts_by : (pattern : Pattern) (resets : Bool) → ((resets ≡ false) ↔ KeepsStart pattern) → IsMadeFor pattern
    → (resets ≡ true → has_own_span pattern ≡ true) × IsWrittenOut pattern.groups resets pattern.tree
starts_by pattern resets keeps made = by_span (has_own_span pattern) resets keeps made.regular
  where
    by_span : (own r : Bool) → ((r ≡ false) ↔ KeepsStart pattern) → IsWrittenOut pattern.groups own pattern.tree
        → (r ≡ true → own ≡ true) × IsWrittenOut pattern.groups r pattern.tree
    by_span true true h w = (λ e. refl, w)
    by_span false true h w = absurd (true≢false (h.1 w))
    by_span own false h w = (λ e. absurd (true≢false (sym e)), h.0 refl)
