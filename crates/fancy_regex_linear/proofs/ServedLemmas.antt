-- A tree that is not hard is plain, and the analysis of a tree says which tree it is of.
use Rattle.std.proofs.Common.{◌≡◌, ◌==◌, ℕ, ◌+◌, ◌-◌, ◌^◌, ◌≤◌, ◌<◌, min, All, Bool, true, false, not, true≢false, List, length, refl, sym, ap, ◌∙◌, arith}
use Rattle.std.proofs.lemmas.Bool.{and_parts}
use Rattle.fancy_regex_tree.specs.declared.expr.Assertion.{Assertion}
use Rattle.fancy_regex_tree.specs.declared.expr.Assertion.TheVariants as A
use Rattle.fancy_regex_tree.specs.Tree.{Tree, Trees, tree_of, empty, any, assertion, general_newline, literal, literal_bytes, concat, alt, group, look_around, repeat, delegate, backref, backref_with_level, atomic_group, keep_out, continue, backref_exists, conditional, subroutine_call, verb, absent_repeater, absent_expression, absent_stopper, absent_clear, define_group, ast_group, ast_backref, ast_call, ast_condition, no_trees, more_trees}
use Rattle.fancy_regex_meaning.specs.Groups.{group_count}
use Rattle.fancy_regex_meaning.specs.Sizes.{unbounded, weight, tree_weight}
use Rattle.fancy_regex_info.specs.declared.options.CompileOptions.{CompileOptions}
use Rattle.fancy_regex_info.specs.declared.error.CompileError.{CompileError}
use Rattle.fancy_regex_info.specs.declared.error.CompileError.TheVariants.{InnerError, Memory}
use Rattle.fancy_regex_info.specs.Analysis.{analysis}
use Rattle.fancy_regex_info.specs.Easy.{is_easy, all_easy, is_easy_assertion}
use Rattle.fancy_regex_info.specs.Infos.{NodeProperties, InfoTree, known, properties_in, properties, expected_info, expected_infos, info_layer, info_of}
use Rattle.fancy_regex_info.specs.declared.info.Info.{Info, out-Info}
use Rattle.fancy_regex_info.specs.declared.info.Info.TheFolds.{fold_out-Info}
use Rattle.fancy_regex_info.specs.References.{is_read}
use Rattle.fancy_regex_info.specs.Views.{pattern_in}
use Rattle.fancy_regex_linear.specs.Plain.{IsPlain, ArePlain, IsServed, test_of, classes}
use Rattle.fancy_regex_linear.specs.Refusals.{greatest_weight, IsRead, IsClassCause, IsCause}

served : (a : Assertion) → is_easy_assertion a ≡ true → IsServed (test_of a)
served A.StartText e = tt
served A.EndText e = tt
served (A.StartLine crlf) e = tt
served (A.EndLine crlf) e = tt
served A.WordBoundary e = tt
served A.NotWordBoundary e = tt
served A.LeftWordBoundary e = tt
served A.RightWordBoundary e = tt
served A.LeftWordHalfBoundary e = tt
served A.RightWordHalfBoundary e = tt
served (A.StartLineOniguruma crlf) e = tt
served (A.EndTextIgnoreTrailingNewlines crlf) e = absurd (true≢false (sym e))

module _ (reads : ℕ → Bool) where
  mutual
    unfolding is_easy

    pub plain : (n : ℕ) (t : Tree) → is_easy reads n t ≡ true → IsPlain t
    plain n empty e = tt
    plain n (any newline crlf) e = tt
    plain n (literal val casei) e = tt
    plain n (delegate class casei) e = tt
    plain n (assertion a) e = served a e
    plain n (concat ts) e = all_plain n ts e
    plain n (alt no_trees) e = absurd (true≢false (sym e))
    plain n (alt (more_trees t ts)) e =
        let both = and_parts _ _ e in
        (λ is. cc, (plain n t both.0, all_plain (n + group_count t) ts both.1))
    plain n (group t) e = plain (n + 1) t (and_parts _ _ e).0
    plain n (repeat t lo hi greedy) e = plain n t e
    plain n _ e = absurd (true≢false (sym e))

    all_plain : (n : ℕ) (ts : Trees) → all_easy reads n ts ≡ true → ArePlain ts
    all_plain n no_trees e = tt
    all_plain n (more_trees t ts) e =
        let both = and_parts _ _ e in
        (plain n t both.0, all_plain (n + group_count t) ts both.1)

-- the tree that is spoken of
abbrev pub tree_in : InfoTree → Tree
tree_in (known f t xs) = t

-- what the code holds
pub hard_is : (i : Info) → (properties_in (info_of i)).hard ≡ (out-Info i).hard
hard_is i = ap (λ x. (properties_in x).hard) (fold_out-Info InfoTree info_layer i)

pub weight_is : (i : Info) → (properties_in (info_of i)).weight ≡ (out-Info i).weight
weight_is i = ap (λ x. (properties_in x).weight) (fold_out-Info InfoTree info_layer i)

pub tree_is : (i : Info) → tree_in (info_of i) ≡ tree_of (out-Info i).expr.now
tree_is i = ap tree_in (fold_out-Info InfoTree info_layer i)

-- what is known of a tree is of this tree, and its properties are these
pub record IsRoot (x : InfoTree) (f : NodeProperties) (t : Tree) : Type 0 where
  pub facts_are : properties_in x ≡ f
  pub tree_is : tree_in x ≡ t

root : (groups : List Tree) (reads : ℕ → Bool) (n : ℕ) (t : Tree) → IsRoot (expected_info groups reads n t) (properties groups reads n t) t
unfolding expected_info expected_infos
root groups reads n (concat ts) = record { facts_are = refl; tree_is = refl }
root groups reads n (alt ts) = record { facts_are = refl; tree_is = refl }
root groups reads n (group t) = record { facts_are = refl; tree_is = refl }
root groups reads n (look_around t how) = record { facts_are = refl; tree_is = refl }
root groups reads n (repeat t lo hi greedy) = record { facts_are = refl; tree_is = refl }
root groups reads n (atomic_group t) = record { facts_are = refl; tree_is = refl }
root groups reads n (conditional c a b) = record { facts_are = refl; tree_is = refl }
root groups reads n (absent_repeater t) = record { facts_are = refl; tree_is = refl }
root groups reads n (absent_expression a t) = record { facts_are = refl; tree_is = refl }
root groups reads n (absent_stopper t) = record { facts_are = refl; tree_is = refl }
root groups reads n (define_group t) = record { facts_are = refl; tree_is = refl }
root groups reads n (ast_group name t position) = record { facts_are = refl; tree_is = refl }
root groups reads n empty = record { facts_are = refl; tree_is = refl }
root groups reads n (any newline crlf) = record { facts_are = refl; tree_is = refl }
root groups reads n (assertion a) = record { facts_are = refl; tree_is = refl }
root groups reads n (general_newline unicode) = record { facts_are = refl; tree_is = refl }
root groups reads n (literal val casei) = record { facts_are = refl; tree_is = refl }
root groups reads n (literal_bytes bytes) = record { facts_are = refl; tree_is = refl }
root groups reads n (delegate inner casei) = record { facts_are = refl; tree_is = refl }
root groups reads n (backref k casei) = record { facts_are = refl; tree_is = refl }
root groups reads n (backref_with_level k level casei) = record { facts_are = refl; tree_is = refl }
root groups reads n keep_out = record { facts_are = refl; tree_is = refl }
root groups reads n continue = record { facts_are = refl; tree_is = refl }
root groups reads n (backref_exists k level) = record { facts_are = refl; tree_is = refl }
root groups reads n (subroutine_call k) = record { facts_are = refl; tree_is = refl }
root groups reads n (verb v) = record { facts_are = refl; tree_is = refl }
root groups reads n absent_clear = record { facts_are = refl; tree_is = refl }
root groups reads n (ast_backref goal casei level position) = record { facts_are = refl; tree_is = refl }
root groups reads n (ast_call goal position) = record { facts_are = refl; tree_is = refl }
root groups reads n (ast_condition goal level position) = record { facts_are = refl; tree_is = refl }

not_false : (b : Bool) → not b ≡ false → b ≡ true
not_false true e = refl
not_false false e = absurd (true≢false e)

-- of the analysis of a tree
pub root_is : (x : InfoTree) (explicit : Bool) (t : Tree) → x ≡ analysis explicit t
    → IsRoot x (properties (pattern_in explicit t).groups (is_read (length (pattern_in explicit t).groups) t) (pattern_in explicit t).first_group t) t
root_is x explicit t is = rw is (root (pattern_in explicit t).groups (is_read (length (pattern_in explicit t).groups) t) (pattern_in explicit t).first_group t)

-- its root is plain if it is not hard
pub root_plain : (x : InfoTree) (explicit : Bool) (t : Tree) → x ≡ analysis explicit t → (properties_in x).hard ≡ false → IsPlain t
root_plain x explicit t is easy =
    let p = pattern_in explicit t in
    let reads : ℕ → Bool = is_read (length p.groups) t in
    let hard : not (is_easy reads p.first_group t) ≡ false = sym (ap (λ f. f.hard) (root_is x explicit t is).facts_are) ∙ easy in
    plain reads p.first_group t (not_false _ hard)

-- where its groups begin to count
explicit_is : (explicit : Bool) (t : Tree) → ((pattern_in explicit t).first_group == 0) ≡ explicit
explicit_is true t = refl
explicit_is false t = refl

-- What the analysis of this tree says to the code.
pub record IsOf (i : Info) (explicit : Bool) (t : Tree) : Type 0 where
  pub tree : tree_of (out-Info i).expr.now ≡ t
  pub start : ((properties_in (info_of i)).start == 0) ≡ explicit
  pub weight : (out-Info i).weight ≡ min unbounded (weight (pattern_in explicit t).groups t)

pub info_is_of : (i : Info) (explicit : Bool) (t : Tree) → info_of i ≡ analysis explicit t → IsOf i explicit t
info_is_of i explicit t is =
    let root = root_is (info_of i) explicit t is in
    record {
      tree = sym (tree_is i) ∙ root.tree_is;
      start = ap (λ f. f.start == 0) root.facts_are ∙ explicit_is explicit t;
      weight = sym (weight_is i) ∙ ap (λ f. f.weight) root.facts_are;
    }

pub info_plain : (i : Info) (explicit : Bool) (t : Tree) → info_of i ≡ analysis explicit t → (out-Info i).hard ≡ false → IsPlain t
info_plain i explicit t is easy = root_plain (info_of i) explicit t is (hard_is i ∙ easy)

same_tree : (explicit : Bool) (t : Tree) → (pattern_in explicit t).tree ≡ t
same_tree true t = refl
same_tree false t = refl

-- a weight that stops at the greatest number of 64 bits is compared as the weight itself
pub light_by : (explicit : Bool) (t : Tree) (v s : ℕ) → v ≡ min unbounded (weight (pattern_in explicit t).groups t) → s ≡ min (v + 2) (2 ^ 64 - 1)
    → s ≤ greatest_weight → tree_weight (pattern_in explicit t).groups (pattern_in explicit t).tree ≤ greatest_weight
light_by explicit t v s is stops h = rw (same_tree explicit t) (omega (arith, is, stops, h))

pub heavy_by : (explicit : Bool) (t : Tree) (v s : ℕ) → v ≡ min unbounded (weight (pattern_in explicit t).groups t) → s ≡ min (v + 2) (2 ^ 64 - 1)
    → greatest_weight < s → greatest_weight < tree_weight (pattern_in explicit t).groups (pattern_in explicit t).tree
heavy_by explicit t v s is stops h = rw (same_tree explicit t) (omega (arith, is, stops, h))

pub read_by : (options : CompileOptions) (explicit : Bool) (t : Tree) → All (IsRead options.unicode) (classes t)
    → All (IsRead options.unicode) (classes (pattern_in explicit t).tree)
read_by options explicit t h = rw (same_tree explicit t) h

-- a cause among the classes is a cause of the pattern
pub cause_of : (options : CompileOptions) (explicit : Bool) (t : Tree) (error : CompileError) → IsClassCause options.unicode (classes t) error
    → IsCause options (pattern_in explicit t) error
cause_of options explicit t (InnerError shown) h = rw (same_tree explicit t) h
cause_of options explicit t Memory h = tt
cause_of options explicit t _ h = absurd h
