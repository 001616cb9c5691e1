-- Nodes in a row, of which some are resolved.
use Rattle.std.proofs.Common.{◌≡◌, ℕ, suc, ◌+◌, ◌<◌, ◌≤◌, Bool, Option, Result, Ok, Err, List, [], ◌∷◌, ◌++◌, length, map, take, drop, set, get_or, refl, ap, sym, ◌∙◌, drop-cons, add-one}
use Rattle.std.proofs.lemmas.List.{take_more_set, map-append, drop_all, take_all}
use Rattle.fancy_regex_tree.specs.declared.expr.Expr.{Expr}
use Rattle.fancy_regex_tree.specs.Tree.{Text, Tree, Trees, no_trees, more_trees, trees, tree_of}
use Rattle.fancy_regex_tree.specs.declared.error.Error.{Error}
use Rattle.fancy_regex_tree.specs.declared.error.Error.TheVariants.{ParseError, Memory}
use Rattle.fancy_regex_tree.specs.Numbering.{PositionedFault, ◌⨟◌, AgreesWith, resolved, all_resolved}

abbrev pub after_trees : List Tree → Trees → Trees
after_trees [] rest = rest
after_trees (t ∷ ts) rest = more_trees t (after_trees ts rest)

-- what is answered after these trees
abbrev pub prefixed : List Tree → Result (Trees × ℕ) PositionedFault → Result (Trees × ℕ) PositionedFault
prefixed ts (Ok found) = Ok (after_trees ts found.0, found.1)
prefixed ts (Err e) = Err e

pub after_none : (ts : List Tree) → after_trees ts no_trees ≡ trees ts
after_none [] = refl
after_none (t ∷ ts) = ap (more_trees t) (after_none ts)

pub following_one : (ts : List Tree) (t : Tree) (rest : Trees) → after_trees (ts ++ t ∷ []) rest ≡ after_trees ts (more_trees t rest)
following_one [] t rest = refl
following_one (s ∷ ts) t rest = ap (more_trees s) (following_one ts t rest)

prefixed_one : (ts : List Tree) (t : Tree) (r : Result (Trees × ℕ) PositionedFault) → prefixed (ts ++ t ∷ []) r ≡ prefixed ts (r ⨟ λ others. Ok (more_trees t others.0, others.1))
prefixed_one ts t (Ok found) = ap (λ us. Ok (us, found.1)) (following_one ts t found.0)
prefixed_one ts t (Err e) = refl

module _ (ignored : Bool) (group_named : Text → Option ℕ) where
  -- one more is resolved
  pub prefixed_next : (ts : List Tree) (n m : ℕ) (old new : Tree) (rest : Trees) → resolved ignored group_named n old ≡ Ok (new, m)
      → prefixed (ts ++ new ∷ []) (all_resolved ignored group_named m rest) ≡ prefixed ts (all_resolved ignored group_named n (more_trees old rest))
  prefixed_next ts n m old new rest h =
      prefixed_one ts new (all_resolved ignored group_named m rest)
      ∙ sym (ap (λ r. prefixed ts (r ⨟ λ first. all_resolved ignored group_named first.1 rest ⨟ λ others. Ok (more_trees first.0 others.0, others.1))) h)

  -- one is refused
  pub prefixed_refused : (ts : List Tree) (n : ℕ) (old : Tree) (rest : Trees) (e : PositionedFault) → resolved ignored group_named n old ≡ Err e
      → prefixed ts (all_resolved ignored group_named n (more_trees old rest)) ≡ Err e
  prefixed_refused ts n old rest e h =
      ap (λ r. prefixed ts (r ⨟ λ first. all_resolved ignored group_named first.1 rest ⨟ λ others. Ok (more_trees first.0 others.0, others.1))) h

module _ (ignored : Bool) (group_named : Text → Option ℕ) where
  at_place : (old : List Expr) (i : ℕ) (d x : Expr) → i < length old → get_or old i d ≡ x → map tree_of (drop i old) ≡ tree_of x ∷ map tree_of (drop (suc i) old)
  at_place old i d x inside is = ap (map tree_of) (drop-cons old i d inside) ∙ ap (λ e. tree_of e ∷ map tree_of (drop (suc i) old)) is

  -- one more node of a row is resolved
  pub row_next : (old now : List Expr) (whole : Result (Trees × ℕ) PositionedFault) (i n m : ℕ) (d x new : Expr) → i < length now → i < length old → get_or old i d ≡ x
      → resolved ignored group_named n (tree_of x) ≡ Ok (tree_of new, m)
      → prefixed (map tree_of (take i now)) (all_resolved ignored group_named n (trees (map tree_of (drop i old)))) ≡ whole
      → prefixed (map tree_of (take (i + 1) (set now i new))) (all_resolved ignored group_named m (trees (map tree_of (drop (i + 1) old)))) ≡ whole
  row_next old now whole i n m d x new short inside is found made =
      ap (λ ts. prefixed ts (all_resolved ignored group_named m (trees (map tree_of (drop (i + 1) old)))))
      (ap (map tree_of) (take_more_set now i new short) ∙ map-append tree_of (take i now) (new ∷ []))
      ∙ ap (λ k. prefixed (map tree_of (take i now) ++ tree_of new ∷ []) (all_resolved ignored group_named m (trees (map tree_of (drop k old))))) (add-one i)
      ∙ prefixed_next ignored group_named (map tree_of (take i now)) n m (tree_of x) (tree_of new) (trees (map tree_of (drop (suc i) old))) found
      ∙ ap (λ ts. prefixed (map tree_of (take i now)) (all_resolved ignored group_named n (trees ts))) (sym (at_place old i d x inside is))
      ∙ made

  -- one node of a row is refused
  pub row_refused : (old now : List Expr) (whole : Result (Trees × ℕ) PositionedFault) (i n : ℕ) (d x : Expr) (e : PositionedFault) → i < length old → get_or old i d ≡ x
      → resolved ignored group_named n (tree_of x) ≡ Err e
      → prefixed (map tree_of (take i now)) (all_resolved ignored group_named n (trees (map tree_of (drop i old)))) ≡ whole
      → whole ≡ Err e
  row_refused old now whole i n d x e inside is refused made =
      sym made
      ∙ ap (λ ts. prefixed (map tree_of (take i now)) (all_resolved ignored group_named n (trees ts))) (at_place old i d x inside is)
      ∙ prefixed_refused ignored group_named (map tree_of (take i now)) n (tree_of x) (trees (map tree_of (drop (suc i) old))) e refused

  -- the whole row is resolved
  pub row_end : (old now : List Expr) (whole : Result (Trees × ℕ) PositionedFault) (i n : ℕ) → length old ≤ i → length now ≤ i
      → prefixed (map tree_of (take i now)) (all_resolved ignored group_named n (trees (map tree_of (drop i old)))) ≡ whole
      → whole ≡ Ok (trees (map tree_of now), n)
  row_end old now whole i n past short made =
      sym made
      ∙ ap (λ es. prefixed (map tree_of (take i now)) (all_resolved ignored group_named n (trees (map tree_of es)))) (drop_all i old past)
      ∙ ap (λ ts. Ok (ts, n)) (after_none (map tree_of (take i now)) ∙ ap (λ es. trees (map tree_of es)) (take_all i now short))

  -- the same, or memory ran out
  pub row_fails : {Y : Type 0} (w : Y → Trees × ℕ) (v : ℕ → Tree × ℕ) (old now : List Expr) (whole : Result (Trees × ℕ) PositionedFault) (i n : ℕ) (d x : Expr) (e : Error) → i < length old → get_or old i d ≡ x
      → AgreesWith v (Err e) (resolved ignored group_named n (tree_of x))
      → prefixed (map tree_of (take i now)) (all_resolved ignored group_named n (trees (map tree_of (drop i old)))) ≡ whole
      → AgreesWith w (Err e) whole
  row_fails w v old now whole i n d x (ParseError position kind) inside is refused made = row_refused old now whole i n d x _ inside is refused made
  row_fails w v old now whole i n d x Memory inside is refused made = tt

pub prefixed_none : (r : Result (Trees × ℕ) PositionedFault) → prefixed [] r ≡ r
prefixed_none (Ok found) = refl
prefixed_none (Err e) = refl
