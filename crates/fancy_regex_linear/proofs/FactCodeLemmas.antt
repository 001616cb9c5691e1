-- How the walk over an analyzed tree finds what is known of it.
use Rattle.std.proofs.Common.{eqb-true, arith, ◌≡◌, ◌∙◌, ℕ, ◌+◌, ◌-◌, ◌*◌, ◌<◌, ◌==◌, min, Bool, true, false, true≢false, List, [], ◌∷◌, ◌++◌, length, take, get_or, map, set, if◌then◌else◌, refl, sym, ap, ap₂, append_assoc, append-nil}
use Rattle.std.proofs.lemmas.List.{take_more, set_at}
use Rattle.fancy_regex_tree.specs.Tree.{tree_of, alt}
use Rattle.fancy_regex_tree.specs.declared.expr.Expr.{Expr}
use Rattle.fancy_regex_meaning.specs.Sizes.{unbounded, add}
use Rattle.fancy_regex_info.specs.Infos.{NodeProperties, InfoTree, known, infos, info_of, info_layer}
use Rattle.fancy_regex_info.specs.declared.info.Info.{Info, out-Info}
use Rattle.fancy_regex_info.specs.declared.info.Info.TheFolds.{fold_out-Info}
use Rattle.fancy_regex_linear.specs.Translation.{all_trees}
use Rattle.fancy_regex_linear.specs.declared.facts.CallFacts.{CallFacts}
use Rattle.fancy_regex_linear.specs.declared.facts.TreeFacts.{TreeFacts}
use Rattle.fancy_regex_linear.specs.Facts.{nothing_known, no_parts, with_part, is_group, regular_by, weight_by, facts_by, call_of, own_call, facts_in, row_facts, found_in, row_found}
use Rattle.fancy_regex_linear.proofs.CallWeightLemmas.{gaps_are}

-- a node by its children
abbrev facts_at : Info → NodeProperties
facts_at i = record {
  size = record { least = (out-Info i).min_size; greatest = (out-Info i).max_size; always = (out-Info i).const_size };
  weight = (out-Info i).weight;
  hard = (out-Info i).hard;
  start = (out-Info i).start_group;
  end = (out-Info i).end_group;
}

info_known : (i : Info) → info_of i ≡ known (facts_at i) (tree_of (out-Info i).expr.now) (infos (map info_of (out-Info i).children.items))
info_known i = fold_out-Info InfoTree info_layer i

module _ (calls : List CallFacts) where
  abbrev pub parts_of : List Info → TreeFacts
  parts_of xs = row_facts calls no_parts (infos (map info_of xs))

  abbrev pub found_of : List Info → List CallFacts
  found_of xs = row_found calls (infos (map info_of xs))

  pub facts_is : (i : Info) → facts_in calls (info_of i)
      ≡ facts_by calls (tree_of (out-Info i).expr.now) ((out-Info i).min_size == 0) (parts_of (out-Info i).children.items)
  unfolding facts_in row_facts
  facts_is i = ap (facts_in calls) (info_known i)

  pub found_is : (i : Info) → found_in calls (info_of i)
      ≡ own_call (is_group (tree_of (out-Info i).expr.now)) (parts_of (out-Info i).children.items) ++ found_of (out-Info i).children.items
  unfolding found_in row_found
  found_is i = ap (found_in calls) (info_known i)

  -- what is found of a node, where this is written in the room of its own call
  pub found_node : (i : Info) (opens : Bool) (call : CallFacts) (parts : TreeFacts) (xs : List Info) → opens ≡ is_group (tree_of (out-Info i).expr.now) → call ≡ call_of parts
      → parts ≡ parts_of xs → xs ≡ (out-Info i).children.items → (if opens then call ∷ [] else []) ++ found_of xs ≡ found_in calls (info_of i)
  found_node i opens call parts xs kind is made same =
      ap₂ (λ (b : Bool) (k : CallFacts). (if b then k ∷ [] else []) ++ found_of xs) kind (is ∙ ap call_of made)
      ∙ ap (λ ys. own_call (is_group (tree_of (out-Info i).expr.now)) (parts_of ys) ++ found_of ys) same
      ∙ sym (found_is i)

  -- a row with one more
  after : (p : TreeFacts) (ys : List Info) (y : Info)
      → row_facts calls p (infos (map info_of (ys ++ y ∷ []))) ≡ with_part (row_facts calls p (infos (map info_of ys))) (facts_in calls (info_of y))
  unfolding facts_in row_facts
  after p [] y = refl
  after p (x ∷ ys) y = after (with_part p (facts_in calls (info_of x))) ys y

  pub no_children : no_parts ≡ parts_of []
  unfolding facts_in row_facts
  no_children = refl

  pub parts_more : (xs : List Info) (i : ℕ) (x : Info) (now next part : TreeFacts) → i < length xs → x ≡ get_or xs i x → now ≡ parts_of (take i xs)
      → part ≡ facts_in calls (info_of x) → next ≡ with_part now part → next ≡ parts_of (take (i + 1) xs)
  parts_more xs i x now next part inside is was one made =
      made ∙ ap₂ with_part was one ∙ sym (after no_parts (take i xs) x)
      ∙ ap (λ y. parts_of (take i xs ++ y ∷ [])) is ∙ ap parts_of (sym (take_more xs i x inside))

  found_after : (ys : List Info) (y : Info) → found_of (ys ++ y ∷ []) ≡ found_of ys ++ found_in calls (info_of y)
  unfolding found_in row_found
  found_after [] y = append-nil (found_in calls (info_of y))
  found_after (x ∷ ys) y =
      ap (λ zs. found_in calls (info_of x) ++ zs) (found_after ys y)
      ∙ sym (append_assoc (found_in calls (info_of x)) (found_of ys) (found_in calls (info_of y)))

  pub found_none : (start : List CallFacts) → start ≡ start ++ found_of []
  unfolding found_in row_found
  found_none start = sym (append-nil start)

  pub found_more : (xs : List Info) (i : ℕ) (x : Info) (start now next : List CallFacts) → i < length xs → x ≡ get_or xs i x
      → now ≡ start ++ found_of (take i xs) → next ≡ now ++ found_in calls (info_of x) → next ≡ start ++ found_of (take (i + 1) xs)
  found_more xs i x start now next inside is was made =
      made ∙ ap (λ zs. zs ++ found_in calls (info_of x)) was ∙ append_assoc start (found_of (take i xs)) (found_in calls (info_of x))
      ∙ ap (λ zs. start ++ zs) (sym (found_after (take i xs) x))
      ∙ ap (λ y. start ++ found_of (take i xs ++ y ∷ [])) is ∙ ap (λ zs. start ++ found_of zs) (sym (take_more xs i x inside))

-- what is written in the room that was made
pub closed : (b : Bool) (before rest : List CallFacts) (call : CallFacts) (place : ℕ) (old : List CallFacts) → b ≡ true → place ≡ length before
    → old ≡ before ++ (if b then nothing_known ∷ [] else []) ++ rest → set old place call ≡ before ++ (if b then call ∷ [] else []) ++ rest
closed true before rest call place old e at is =
    ap (λ xs. set xs place call) (is ∙ append_assoc before (nothing_known ∷ []) rest)
    ∙ set_at before nothing_known rest call place (sym at)
    ∙ sym (append_assoc before (call ∷ []) rest)
closed false before rest call place old e at is = absurd (true≢false (sym e))

-- an alternation by its branches
pub alt_some : (calls : List CallFacts) (resets : Bool) (es : List Expr) (parts keep : Bool) → (length es == 0) ≡ false
    → regular_by calls resets (alt (all_trees es)) parts keep ≡ parts
alt_some calls resets [] parts keep e = absurd (true≢false e)
alt_some calls resets (x ∷ es) parts keep e = refl

pub alt_none : (calls : List CallFacts) (resets : Bool) (es : List Expr) (parts keep : Bool) → (length es == 0) ≡ true
    → regular_by calls resets (alt (all_trees es)) parts keep ≡ false
alt_none calls resets [] parts keep e = refl
alt_none calls resets (x ∷ es) parts keep e = absurd (let none : length (x ∷ es) ≡ 0 = eqb-true _ _ e in omega (arith, none))

pub alt_weighs : (calls : List CallFacts) (es : List Expr) (parts : TreeFacts) (gaps r : ℕ) → gaps ≡ min unbounded (3 * (length es - 1))
    → r ≡ min (parts.weight + gaps) unbounded → r ≡ weight_by calls (alt (all_trees es)) parts
alt_weighs calls es parts gaps r is made =
    let stops : r ≡ add parts.weight gaps = omega (arith, made) in
    stops ∙ ap (add parts.weight) (is ∙ ap (λ (n : ℕ). min unbounded (3 * n)) (sym (gaps_are [] es)))
