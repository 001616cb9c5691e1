-- What one walk finds of an analyzed tree is right, and what is found of calls level by level.
use Rattle.std.proofs.Common.{◌≡◌, ◌↔◌, ◌∙◌, ◌==◌, ◌+◌, ◌-◌, ◌*◌, ℕ, zero, suc, ◌≤◌, min, max, not, ◌&&◌, ◌||◌, Bool, true, false, true≢false, List, [], ◌∷◌, ◌++◌, length, Some, None, slice_get, refl, sym, ap, ap₂, subst, arith, append_assoc, append-nil}
use Rattle.std.proofs.lemmas.List.{length-append}
use Rattle.std.proofs.lemmas.Bool.{and_parts}
use Rattle.fancy_regex_tree.specs.Tree.{Tree, Trees, trees, empty, any, assertion, general_newline, literal, concat, alt, group, look_around, repeat, delegate, atomic_group, conditional, subroutine_call, verb, keep_out, continue, absent_repeater, absent_expression, absent_stopper, define_group, ast_group, no_trees, more_trees}
use Rattle.fancy_regex_tree.specs.declared.expr.BacktrackingControlVerb.{BacktrackingControlVerb}
use Rattle.fancy_regex_tree.specs.declared.expr.BacktrackingControlVerb.TheVariants.{Fail}
use Rattle.fancy_regex_tree.specs.Traversal.{listed, subtrees}
use Rattle.fancy_regex_tree.specs.Bounds.{depth as tree_depth, max_depth}
use Rattle.fancy_regex_meaning.specs.Groups.{bodies, row_bodies, group_count, row_group_count}
use Rattle.fancy_regex_meaning.specs.Sizes.{unbounded, add, may_be_empty, branch_gaps}
use Rattle.fancy_regex_info.specs.Analysis.{analysis}
use Rattle.fancy_regex_info.specs.Infos.{InfoTree, expected_info, expected_infos, properties_in}
use Rattle.fancy_regex_info.specs.References.{is_read}
use Rattle.fancy_regex_info.specs.Views.{pattern_in}
use Rattle.fancy_regex_linear.specs.Plain.{IsRegular, AreRegular, IsFail, has_no_iteration}
use Rattle.fancy_regex_linear.specs.Calls.{OfBody, IsCallable, greatest_nesting, weight_with, weights_with, body_weight, call_weight}
use Rattle.fancy_regex_linear.specs.declared.facts.CallFacts.{CallFacts}
use Rattle.fancy_regex_linear.specs.declared.facts.TreeFacts.{TreeFacts}
use Rattle.fancy_regex_linear.specs.Facts.{callable_in, weight_in, no_parts, with_part, is_fail, regular_by, weight_by, facts_by, call_of, own_call, facts_in, row_facts, found_in, row_found, next_calls, calls_after}
use Rattle.fancy_regex_linear.proofs.CallWeightLemmas.{weights_more, concat_weight, alt_weight, group_weight, look_weight, atomic_weight, repeat_weighs, branches_stop, body_stops}
use Rattle.fancy_regex_linear.proofs.DepthLemmas.{depth_by_parts}
use Rattle.fancy_regex_linear.proofs.ServedLemmas.{root_is}

trees_listed : (ts : Trees) → trees (listed ts) ≡ ts
trees_listed no_trees = refl
trees_listed (more_trees t ts) = ap (more_trees t) (trees_listed ts)

deepest_more : (ts : List Tree) (t : Tree) → max_depth (ts ++ t ∷ []) ≡ max (max_depth ts) (tree_depth t)
deepest_more [] t = omega arith
deepest_more (u ∷ ts) t = omega (arith, deepest_more ts t)

and_assoc : (a b c : Bool) → (a && (b && c)) ≡ (a && b && c)
and_assoc true b c = refl
and_assoc false b c = refl

and_one : (b : Bool) → (b && true) ≡ b
and_one true = refl
and_one false = refl

same_gaps : (groups others : List Tree) (ts : Trees) → branch_gaps groups ts ≡ branch_gaps others ts
unfolding branch_gaps
same_gaps groups others no_trees = refl
same_gaps groups others (more_trees t no_trees) = refl
same_gaps groups others (more_trees t (more_trees u ts)) = ap (λ n. n + 1) (same_gaps groups others (more_trees u ts))

-- equivalent facts
and_both : (a b : Bool) (P Q : Type 0) → (a ≡ true ↔ P) → (b ≡ true ↔ Q) → ((a && b) ≡ true ↔ (P × Q))
and_both a b P Q p q = (
  λ e. let both = and_parts a b e in (p.0 both.0, q.0 both.1),
  λ h. rw (p.1 h.0, q.1 h.1) refl,
)

unless_true : (none b : Bool) (P : Type 0) → (b ≡ true ↔ P) → ((none || b) ≡ true ↔ (none ≡ false → P))
unless_true true b P h = (λ e made. absurd (true≢false made), λ p. refl)
unless_true false b P h = (λ e made. h.0 e, λ p. h.1 (p refl))

-- over the bodies of the groups, and a table of what is known of their calls
module _ (groups : List Tree) (called : ℕ → Type 0) (call : ℕ → ℕ) where
  abbrev all_empty : List Tree → Bool
  all_empty [] = true
  all_empty (t ∷ ts) = may_be_empty groups t && all_empty ts

  pub record IsKnown (t : Tree) (facts : TreeFacts) : Type 0 where
    pub regular : (facts.is_regular ≡ true) ↔ IsRegular true called t
    pub keeps : (facts.keeps_start ≡ true) ↔ IsRegular false called t
    pub weight : facts.weight ≡ min unbounded (weight_with groups call t)
    pub depth : facts.depth ≡ min unbounded (tree_depth t)
    pub empty : facts.may_be_empty ≡ may_be_empty groups t

  record AreKnown (ts : List Tree) (facts : TreeFacts) : Type 0 where
    regular : (facts.is_regular ≡ true) ↔ AreRegular true called (trees ts)
    keeps : (facts.keeps_start ≡ true) ↔ AreRegular false called (trees ts)
    weight : facts.weight ≡ min unbounded (weights_with groups call (trees ts))
    depth : facts.depth ≡ min unbounded (max_depth ts)
    empty : facts.may_be_empty ≡ all_empty ts

  none_known : AreKnown [] no_parts
  unfolding weight_with
  none_known = record { regular = (λ e. tt, λ h. refl); keeps = (λ e. tt, λ h. refl); weight = refl; depth = refl; empty = refl }

  regular_more : (resets : Bool) (ts : List Tree) (t : Tree)
      → (AreRegular resets called (trees ts) × IsRegular resets called t) ↔ AreRegular resets called (trees (ts ++ t ∷ []))
  regular_more resets [] t = (λ h. (h.1, tt), λ h. (tt, h.0))
  regular_more resets (u ∷ ts) t =
      let more = regular_more resets ts t in
      (λ h. (h.0.0, more.0 (h.0.1, h.1)), λ h. let both = more.1 h.1 in ((h.0, both.0), both.1))

  empty_more : (ts : List Tree) (t : Tree) → all_empty (ts ++ t ∷ []) ≡ (all_empty ts && may_be_empty groups t)
  empty_more [] t = and_one (may_be_empty groups t)
  empty_more (u ∷ ts) t = ap (λ b. may_be_empty groups u && b) (empty_more ts t) ∙ and_assoc (may_be_empty groups u) (all_empty ts) (may_be_empty groups t)

  part_known : (ts : List Tree) (t : Tree) (parts part : TreeFacts) → AreKnown ts parts → IsKnown t part → AreKnown (ts ++ t ∷ []) (with_part parts part)
  part_known ts t parts part p f =
      let both = and_both parts.is_regular part.is_regular (AreRegular true called (trees ts)) (IsRegular true called t) p.regular f.regular in
      let more = regular_more true ts t in
      let both_keep = and_both parts.keeps_start part.keeps_start (AreRegular false called (trees ts)) (IsRegular false called t) p.keeps f.keeps in
      let more_keep = regular_more false ts t in
      record {
        regular = (λ e. more.0 (both.0 e), λ h. both.1 (more.1 h));
        keeps = (λ e. more_keep.0 (both_keep.0 e), λ h. both_keep.1 (more_keep.1 h));
        weight = omega (arith, p.weight, f.weight, weights_more groups call ts t);
        depth = omega (arith, p.depth, f.depth, deepest_more ts t);
        empty = ap₂ (λ a b. a && b) p.empty f.empty ∙ sym (empty_more ts t);
      }

  single : (t : Tree) (facts : TreeFacts) → AreKnown (t ∷ []) facts → IsKnown t facts
  unfolding weight_with
  single t facts p = record {
    regular = (λ e. (p.regular.0 e).0, λ h. p.regular.1 (h, tt));
    keeps = (λ e. (p.keeps.0 e).0, λ h. p.keeps.1 (h, tt));
    weight = omega (arith, p.weight);
    depth = omega (arith, p.depth);
    empty = p.empty ∙ and_one (may_be_empty groups t);
  }

  module _ (calls : List CallFacts) (marks : (j : ℕ) → (callable_in calls j ≡ true ↔ called j)) (weighs : (j : ℕ) → weight_in calls j ≡ min unbounded (call j)) where
    regular_right : (resets : Bool) (t : Tree) (b keep : Bool) → (b ≡ true ↔ AreRegular resets called (trees (subtrees t)))
        → (keep ≡ true ↔ AreRegular false called (trees (subtrees t))) → (regular_by calls resets t b keep ≡ true ↔ IsRegular resets called t)
    regular_right resets empty b keep h k = (λ e. tt, λ r. refl)
    regular_right resets (any newline crlf) b keep h k = (λ e. tt, λ r. refl)
    regular_right resets (literal val casei) b keep h k = (λ e. tt, λ r. refl)
    regular_right resets (delegate class casei) b keep h k = (λ e. tt, λ r. refl)
    regular_right resets (general_newline wide) b keep h k = (λ e. tt, λ r. refl)
    regular_right resets (assertion a) b keep h k = (λ e. tt, λ r. refl)
    regular_right resets continue b keep h k = (λ e. tt, λ r. refl)
    regular_right resets (define_group t) b keep h k = (λ e. tt, λ r. refl)
    regular_right resets keep_out b keep h k = (λ e. e, λ r. r)
    regular_right resets (verb v) b keep h k = of_verb v
      where
        of_verb : (v : BacktrackingControlVerb) → (is_fail v ≡ true ↔ IsFail v)
        of_verb Fail = (λ e. tt, λ r. refl)
        of_verb _ = (λ e. absurd (true≢false (sym e)), λ r. absurd r)
    regular_right resets (concat ts) b keep h k = subst (λ us. b ≡ true ↔ AreRegular resets called us) (trees_listed ts) h
    regular_right resets (group t) b keep h k = (λ e. (h.0 e).0, λ r. h.1 (r, tt))
    regular_right resets (look_around t how) b keep h k = (λ e. (k.0 e).0, λ r. k.1 (r, tt))
    regular_right resets (atomic_group t) b keep h k = (λ e. (h.0 e).0, λ r. h.1 (r, tt))
    regular_right resets (conditional c a d) b keep h k =
        (λ e. let p = h.0 e in (p.0, (p.1.0, p.1.1.0)), λ r. h.1 (r.0, (r.1.0, (r.1.1, tt))))
    regular_right resets (alt no_trees) b keep h k = (λ e. absurd (true≢false (sym e)), λ r. absurd (r.0 refl))
    regular_right resets (alt (more_trees t ts)) b keep h k =
        let all = subst (λ us. b ≡ true ↔ AreRegular resets called us) (trees_listed (more_trees t ts)) h in
        (λ e. ((λ is. cc), all.0 e), λ r. all.1 r.1)
    regular_right resets (repeat t lo hi greedy) b keep h k =
        unless_true (has_no_iteration lo hi) b (IsRegular resets called t) (λ e. (h.0 e).0, λ r. h.1 (r, tt))
    regular_right resets (subroutine_call j) b keep h k = marks j
    regular_right resets _ b keep h k = (λ e. absurd (true≢false (sym e)), λ r. absurd r)

    weight_right : (t : Tree) (parts : TreeFacts) → AreKnown (subtrees t) parts → weight_by calls t parts ≡ min unbounded (weight_with groups call t)
    unfolding weight_with
    weight_right (concat ts) parts p =
        concat_weight groups call ts parts.weight _ (p.weight ∙ ap (λ us. min unbounded (weights_with groups call us)) (trees_listed ts)) refl
    weight_right (alt ts) parts p =
        alt_weight groups call ts _
        (branches_stop (branch_gaps groups ts) (weights_with groups call ts) _
        (ap₂ (λ w n. add w (min unbounded (3 * n))) (p.weight ∙ ap (λ us. min unbounded (weights_with groups call us)) (trees_listed ts)) (same_gaps [] groups ts)))
    weight_right (group t) parts p = group_weight groups call t parts.weight _ (single t parts p).weight refl
    weight_right (look_around t how) parts p = look_weight groups call t how parts.weight _ (single t parts p).weight refl
    weight_right (atomic_group t) parts p = atomic_weight groups call t parts.weight _ (single t parts p).weight refl
    weight_right (conditional c a b) parts p = omega (arith, p.weight)
    weight_right (repeat t lo hi greedy) parts p =
        repeat_weighs groups call t lo hi greedy parts.weight _ parts.may_be_empty (single t parts p).weight (single t parts p).empty refl
    weight_right (subroutine_call j) parts p = weighs j
    weight_right _ parts p = refl

    node_known : (t : Tree) (may : Bool) (parts : TreeFacts) → AreKnown (subtrees t) parts → may ≡ may_be_empty groups t → IsKnown t (facts_by calls t may parts)
    node_known t may parts p is = record {
      regular = regular_right true t parts.is_regular parts.keeps_start p.regular p.keeps;
      keeps = regular_right false t parts.keeps_start parts.keeps_start p.keeps p.keeps;
      weight = weight_right t parts p;
      depth = omega (arith, p.depth, depth_by_parts t);
      empty = is;
    }

    -- what is known of the calls of a group with this body
    pub record IsCallKnown (body : Tree) (facts : CallFacts) : Type 0 where
      pub regular : (facts.is_callable ≡ true) ↔ IsRegular false called body
      pub weight : facts.weight ≡ min unbounded (body_weight groups call body)

    call_known : (body : Tree) (facts : TreeFacts) → IsKnown body facts → IsCallKnown body (call_of facts)
    call_known body facts f = record {
      regular = f.keeps;
      weight = body_stops (weight_with groups call body) (tree_depth body) facts.weight facts.depth f.weight f.depth;
    }

    abbrev AreCallsKnown : List Tree → List CallFacts → Type 0
    AreCallsKnown [] [] = Unit {0}
    AreCallsKnown (t ∷ ts) (x ∷ xs) = IsCallKnown t x × AreCallsKnown ts xs
    AreCallsKnown _ _ = ⊥

    both_known : (ts us : List Tree) (xs ys : List CallFacts) → AreCallsKnown ts xs → AreCallsKnown us ys → AreCallsKnown (ts ++ us) (xs ++ ys)
    both_known [] us [] ys h k = k
    both_known [] us (x ∷ xs) ys h k = absurd h
    both_known (t ∷ ts) us [] ys h k = absurd h
    both_known (t ∷ ts) us (x ∷ xs) ys h k = (h.0, both_known ts us xs ys h.1 k)

    alone_known : (ts : List Tree) (xs : List CallFacts) → AreCallsKnown ts xs → AreCallsKnown ts (xs ++ [])
    alone_known ts xs h = subst (AreCallsKnown ts) (sym (append-nil xs)) h

    -- a call of each group, by its number
    by_number : (ts : List Tree) (xs : List CallFacts) → AreCallsKnown ts xs → (j : ℕ)
        → (callable_in xs j ≡ true ↔ OfBody (IsRegular false called) (slice_get ts j))
        × (weight_in xs j ≡ min unbounded (elim (slice_get ts j) [ None ↦ 1 | Some body ↦ body_weight groups call body ]))
    by_number [] [] h j = ((λ e. absurd (true≢false (sym e)), λ b. absurd b), refl)
    by_number [] (x ∷ xs) h j = absurd h
    by_number (t ∷ ts) [] h j = absurd h
    by_number (t ∷ ts) (x ∷ xs) h zero = (h.0.regular, h.0.weight)
    by_number (t ∷ ts) (x ∷ xs) h (suc j) = by_number ts xs h.1 j

    module _ (reads : ℕ → Bool) where
      mutual
        unfolding expected_info expected_infos facts_in row_facts

        tree_known : (n : ℕ) (t : Tree) → IsKnown t (facts_in calls (expected_info groups reads n t))
        tree_known n (concat ts) = node_known (concat ts) _ _ (row_known n ts [] no_parts none_known) refl
        tree_known n (alt ts) = node_known (alt ts) _ _ (row_known n ts [] no_parts none_known) refl
        tree_known n (group t) = node_known (group t) _ _ (part_known [] t _ _ none_known (tree_known (n + 1) t)) refl
        tree_known n (look_around t how) = node_known (look_around t how) _ _ (part_known [] t _ _ none_known (tree_known n t)) refl
        tree_known n (repeat t lo hi greedy) = node_known (repeat t lo hi greedy) _ _ (part_known [] t _ _ none_known (tree_known n t)) refl
        tree_known n (atomic_group t) = node_known (atomic_group t) _ _ (part_known [] t _ _ none_known (tree_known n t)) refl
        tree_known n (conditional c a b) =
            node_known (conditional c a b) _ _
            (part_known (c ∷ a ∷ []) b _ _
            (part_known (c ∷ []) a _ _ (part_known [] c _ _ none_known (tree_known n c)) (tree_known (n + group_count c) a))
            (tree_known (n + group_count c + group_count a) b)) refl
        tree_known n (absent_repeater t) = node_known (absent_repeater t) _ _ (part_known [] t _ _ none_known (tree_known n t)) refl
        tree_known n (absent_expression a t) =
            node_known (absent_expression a t) _ _
            (part_known (a ∷ []) t _ _ (part_known [] a _ _ none_known (tree_known n a)) (tree_known (n + group_count a) t)) refl
        tree_known n (absent_stopper t) = node_known (absent_stopper t) _ _ (part_known [] t _ _ none_known (tree_known n t)) refl
        tree_known n (define_group t) = node_known (define_group t) _ _ (part_known [] t _ _ none_known (tree_known n t)) refl
        tree_known n (ast_group name t position) = node_known (ast_group name t position) _ _ (part_known [] t _ _ none_known (tree_known n t)) refl
        tree_known n t = node_known t _ _ none_known refl

        row_known : (n : ℕ) (ts : Trees) (us : List Tree) (parts : TreeFacts) → AreKnown us parts
            → AreKnown (us ++ listed ts) (row_facts calls parts (expected_infos groups reads n ts))
        row_known n no_trees us parts p = subst (λ vs. AreKnown vs parts) (sym (append-nil us)) p
        row_known n (more_trees t ts) us parts p =
            let one = facts_in calls (expected_info groups reads n t) in
            let rest = row_facts calls (with_part parts one) (expected_infos groups reads (n + group_count t) ts) in
            subst (λ vs. AreKnown vs rest) (append_assoc us (t ∷ []) (listed ts))
            (row_known (n + group_count t) ts (us ++ t ∷ []) (with_part parts one) (part_known us t parts one p (tree_known n t)))

      mutual
        unfolding expected_info expected_infos facts_in row_facts found_in row_found bodies row_bodies

        calls_known : (n : ℕ) (t : Tree) → AreCallsKnown (bodies t) (found_in calls (expected_info groups reads n t))
        calls_known n (group t) =
            (call_known t _ (single t _ (part_known [] t _ _ none_known (tree_known (n + 1) t))), alone_known _ _ (calls_known (n + 1) t))
        calls_known n (concat ts) = row_calls_known n ts
        calls_known n (alt ts) = row_calls_known n ts
        calls_known n (look_around t how) = alone_known _ _ (calls_known n t)
        calls_known n (repeat t lo hi greedy) = alone_known _ _ (calls_known n t)
        calls_known n (atomic_group t) = alone_known _ _ (calls_known n t)
        calls_known n (conditional c a b) =
            both_known _ _ _ _ (calls_known n c)
            (both_known _ _ _ _ (calls_known (n + group_count c) a) (alone_known _ _ (calls_known (n + group_count c + group_count a) b)))
        calls_known n (absent_repeater t) = alone_known _ _ (calls_known n t)
        calls_known n (absent_expression a t) = both_known _ _ _ _ (calls_known n a) (alone_known _ _ (calls_known (n + group_count a) t))
        calls_known n (absent_stopper t) = alone_known _ _ (calls_known n t)
        calls_known n (define_group t) = alone_known _ _ (calls_known n t)
        calls_known n (ast_group name t position) = alone_known _ _ (calls_known n t)
        calls_known n t = tt

        row_calls_known : (n : ℕ) (ts : Trees) → AreCallsKnown (row_bodies ts) (row_found calls (expected_infos groups reads n ts))
        row_calls_known n no_trees = tt
        row_calls_known n (more_trees t ts) = both_known _ _ _ _ (calls_known n t) (row_calls_known (n + group_count t) ts)

    -- the whole before the groups of its tree, where it is one
    none_first : (b : Bool) (facts : TreeFacts) (ts : List Tree) (xs : List CallFacts) → b ≡ false → AreCallsKnown ts xs → AreCallsKnown ts (own_call b facts ++ xs)
    none_first true facts ts xs e h = absurd (true≢false e)
    none_first false facts ts xs e h = h

    whole_first : (b : Bool) (facts : TreeFacts) (t : Tree) (ts : List Tree) (xs : List CallFacts) → b ≡ true → IsKnown t facts → AreCallsKnown ts xs
        → AreCallsKnown (t ∷ ts) (own_call b facts ++ xs)
    whole_first true facts t ts xs e f h = (call_known t facts f, h)
    whole_first false facts t ts xs e f h = absurd (true≢false (sym e))

-- the groups that are counted
mutual
  unfolding bodies row_bodies group_count row_group_count

  counted : (t : Tree) → length (bodies t) ≡ group_count t
  counted (group t) = omega (arith, counted t)
  counted (concat ts) = counted_row ts
  counted (alt ts) = counted_row ts
  counted (look_around t how) = counted t
  counted (repeat t lo hi greedy) = counted t
  counted (atomic_group t) = counted t
  counted (conditional c a b) = omega (arith, length-append (bodies c) (bodies a ++ bodies b), length-append (bodies a) (bodies b), counted c, counted a, counted b)
  counted (absent_repeater t) = counted t
  counted (absent_expression a t) = omega (arith, length-append (bodies a) (bodies t), counted a, counted t)
  counted (absent_stopper t) = counted t
  counted (define_group t) = counted t
  counted (ast_group name t position) = counted t
  counted _ = refl

  counted_row : (ts : Trees) → length (row_bodies ts) ≡ row_group_count ts
  counted_row no_trees = refl
  counted_row (more_trees t ts) = omega (arith, length-append (bodies t) (row_bodies ts), counted t, counted_row ts)

-- what is known of an analyzed tree, and of the calls of its groups
module _ (called : ℕ → Type 0) (call : ℕ → ℕ) (calls : List CallFacts) (x : InfoTree) where
  pub whole_known : (explicit : Bool) (t : Tree) → x ≡ analysis explicit t → ((j : ℕ) → (callable_in calls j ≡ true ↔ called j))
      → ((j : ℕ) → weight_in calls j ≡ min unbounded (call j)) → IsKnown (pattern_in explicit t).groups called call t (facts_in calls x)
  whole_known explicit t is marks weighs =
      let p = pattern_in explicit t in
      subst (λ y. IsKnown p.groups called call t (facts_in calls y)) (sym is) (tree_known p.groups called call calls marks weighs (is_read (length p.groups) t) p.first_group t)

  next_known : (explicit : Bool) (t : Tree) → x ≡ analysis explicit t → (marks : (j : ℕ) → (callable_in calls j ≡ true ↔ called j))
      → (weighs : (j : ℕ) → weight_in calls j ≡ min unbounded (call j))
      → AreCallsKnown (pattern_in explicit t).groups called call calls marks weighs (pattern_in explicit t).groups (next_calls x calls)
  next_known true t is marks weighs =
      let groups = bodies t in
      let start : not ((properties_in x).start == 0) ≡ false = ap (λ f. not (f.start == 0)) (root_is x true t is).facts_are in
      none_first groups called call calls marks weighs _ (facts_in calls x) groups (found_in calls x) start
      (subst (λ y. AreCallsKnown groups called call calls marks weighs groups (found_in calls y)) (sym is)
      (calls_known groups called call calls marks weighs (is_read (length groups) t) 0 t))
  next_known false t is marks weighs =
      let groups = t ∷ bodies t in
      let start : not ((properties_in x).start == 0) ≡ true = ap (λ f. not (f.start == 0)) (root_is x false t is).facts_are in
      whole_first groups called call calls marks weighs _ (facts_in calls x) t (bodies t) (found_in calls x) start (whole_known false t is marks weighs)
      (subst (λ y. AreCallsKnown groups called call calls marks weighs (bodies t) (found_in calls y)) (sym is)
      (calls_known groups called call calls marks weighs (is_read (length groups) t) 1 t))

-- what is known of calls that nest so deep
record IsLevel (groups : List Tree) (depth : ℕ) (calls : List CallFacts) : Type 0 where
  marks : (j : ℕ) → (callable_in calls j ≡ true ↔ IsCallable groups depth j)
  weighs : (j : ℕ) → weight_in calls j ≡ min unbounded (call_weight groups depth j)

first_level : (groups : List Tree) → IsLevel groups 0 []
unfolding IsCallable call_weight
first_level groups = record {
  marks = λ j. (λ e. absurd (true≢false (sym e)), λ h. absurd h);
  weighs = λ j. refl;
}

module _ (x : InfoTree) (explicit : Bool) (t : Tree) (is : x ≡ analysis explicit t) where
  abbrev groups : List Tree
  groups = (pattern_in explicit t).groups

  next_level : (depth : ℕ) (calls : List CallFacts) → IsLevel groups depth calls → IsLevel groups (suc depth) (next_calls x calls)
  unfolding IsCallable call_weight
  next_level depth calls known =
      let each = by_number groups (IsCallable groups depth) (call_weight groups depth) calls known.marks known.weighs groups (next_calls x calls)
      (next_known (IsCallable groups depth) (call_weight groups depth) calls x explicit t is known.marks known.weighs) in
      record { marks = λ j. (each j).0; weighs = λ j. (each j).1 }

  level : (depth : ℕ) → IsLevel groups depth (calls_after x depth)
  unfolding calls_after
  level zero = first_level groups
  level (suc depth) = next_level depth (calls_after x depth) (level depth)

  -- there are so many groups
  groups_counted : (properties_in x).end ≡ length groups
  groups_counted = by_kind explicit is
    where
      by_kind : (b : Bool) → x ≡ analysis b t → (properties_in x).end ≡ length (pattern_in b t).groups
      by_kind true e =
          let end : (properties_in x).end ≡ 0 + group_count t = ap (λ f. f.end) (root_is x true t e).facts_are in
          omega (arith, end, counted t)
      by_kind false e =
          let end : (properties_in x).end ≡ 1 + group_count t = ap (λ f. f.end) (root_is x false t e).facts_are in
          omega (arith, end, counted t)

  -- where calls nest as deep as they may
  pub written_known : (calls : List CallFacts) → calls ≡ calls_after x (greatest_nesting (properties_in x).end)
      → IsKnown groups (IsCallable groups (greatest_nesting (length groups))) (call_weight groups (greatest_nesting (length groups))) t (facts_in calls x)
  written_known calls made =
      let n = greatest_nesting (length groups) in
      let last : calls ≡ calls_after x n = made ∙ ap (λ k. calls_after x (greatest_nesting k)) groups_counted in
      let known = subst (IsLevel groups n) (sym last) (level n) in
      whole_known (IsCallable groups n) (call_weight groups n) calls x explicit t is known.marks known.weighs

  -- where there are none
  pub alone_known_at : IsKnown groups (λ j. ⊥) (λ j. 1) t (facts_in [] x)
  alone_known_at = whole_known (λ j. ⊥) (λ j. 1) [] x explicit t is (λ j. (λ e. true≢false (sym e), λ h. absurd h)) (λ j. refl)

-- the levels
pub first_calls : (x : InfoTree) → [] ≡ calls_after x 0
unfolding calls_after
first_calls x = refl

pub one_level_more : (x : InfoTree) (n : ℕ) (calls next : List CallFacts) → calls ≡ calls_after x n → next ≡ next_calls x calls → next ≡ calls_after x (n + 1)
unfolding calls_after
one_level_more x n calls next before made = made ∙ ap (next_calls x) before ∙ ap (calls_after x) (let e : suc n ≡ n + 1 = omega arith in e)

-- a level that changes nothing is the last
pub no_more_levels : (x : InfoTree) (n m : ℕ) (calls next : List CallFacts) → n ≤ m → calls ≡ calls_after x n → next ≡ next_calls x calls → next ≡ calls
    → calls ≡ calls_after x m
unfolding calls_after
no_more_levels x n m calls next le before made same = before ∙ sym (stays (m - n)) ∙ ap (calls_after x) (let e : m - n + n ≡ m = omega arith in e)
  where
    still : next_calls x (calls_after x n) ≡ calls_after x n
    still = ap (next_calls x) (sym before) ∙ sym made ∙ same ∙ before

    stays : (d : ℕ) → calls_after x (d + n) ≡ calls_after x n
    stays zero = ap (calls_after x) (let e : 0 + n ≡ n = omega arith in e)
    stays (suc d) = ap (calls_after x) (let e : suc d + n ≡ suc (d + n) = omega arith in e) ∙ ap (next_calls x) (stays d) ∙ still
