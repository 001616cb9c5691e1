-- What is known of a node, from what is known of its parts.
use Rattle.std.proofs.Common.{◌≡◌, ℕ, ◌+◌, ◌-◌, ◌*◌, ◌^◌, ◌<◌, ℤ, min, Bool, true, false, not, ◌&&◌, ◌||◌, ◌==◌, List, [], ◌∷◌, ◌++◌}
use Rattle.std.proofs.Common.{Option, refl, sym, ap, ap₂, subst, ◌∙◌, arith, length, get_or, take, map, Result, Ok, Err, IfOk}
use Rattle.std.proofs.lemmas.List.{take_more, map-append}
use Rattle.std.specs.declared.alloc.AllocError.{AllocError}
use Rattle.fancy_regex_tree.specs.declared.expr.Expr.{Expr}
use Rattle.fancy_regex_tree.specs.declared.expr.LookAround.{LookAround}
use Rattle.fancy_regex_tree.specs.Tree.{Text, Target, Tree, Trees, empty, any, assertion, general_newline, literal, literal_bytes, concat, alt, group, look_around, repeat, delegate}
use Rattle.fancy_regex_tree.specs.Tree.{backref, backref_with_level, atomic_group, keep_out, continue, backref_exists, conditional, subroutine_call, verb, absent_repeater, absent_expression}
use Rattle.fancy_regex_tree.specs.Tree.{absent_stopper, absent_clear, define_group, ast_group, ast_backref, ast_call, ast_condition, no_trees, more_trees, trees, tree_of}
use Rattle.fancy_regex_meaning.specs.Groups.{group_count, row_group_count}
use Rattle.fancy_regex_meaning.specs.Sizes.{Size, unbounded, add, size, size_with, concat_size, alternation_size, weight, weights}
use Rattle.fancy_regex_meaning.specs.Sizes.{branch_gaps, always_size, any_size, both_sizes, either_size, repeated_size}
use Rattle.fancy_regex_info.specs.PropertyRules.{concat_properties, sum_properties, alternation_properties, prepend_part, prepend_branch, leaf, group_properties}
use Rattle.fancy_regex_info.specs.PropertyRules.{wrapper_properties, repeat_properties, conditional_properties, absent_expression_properties}
use Rattle.fancy_regex_info.specs.Easy.{is_easy, all_easy}
use Rattle.fancy_regex_info.specs.Infos.{NodeProperties, InfoTree, InfoTrees, infos, known, no_infos, more_infos, properties_in, properties, info_of, expected_info, expected_infos}
use Rattle.fancy_regex_info.specs.AnalysisRelations.{AreCallSizes, is_leaf, mark_at, IsAnalysisOf, AreAnalysesOf, node_of}
use Rattle.fancy_regex_info.specs.Views.{size_at}
use Rattle.fancy_regex_info.proofs.SaturationLemmas.{stop_add, stop_more, stop_one, not_and, repeat_stops}
use Rattle.fancy_regex_info.specs.declared.analyze_node.Parts.{Parts}
use Rattle.fancy_regex_info.specs.declared.info.Info.{Info}
use Rattle.fancy_regex_info.specs.declared.size.Size as code

-- properties that agree in each part are the same
pub same_facts : {s s2 : Size} {w w2 : ℕ} {h h2 : Bool} {n n2 m m2 : ℕ} → s ≡ s2 → w ≡ w2 → h ≡ h2 → n ≡ n2 → m ≡ m2 →
    let a : NodeProperties = record { size = s; weight = w; hard = h; start = n; end = m } in
    let b : NodeProperties = record { size = s2; weight = w2; hard = h2; start = n2; end = m2 } in a ≡ b
same_facts es ew eh en em = cc

module _ (groups : List Tree) (reads : ℕ → Bool) where
  pub own : (n : ℕ) (t : Tree) → properties_in (expected_info groups reads n t) ≡ properties groups reads n t
  unfolding expected_info expected_infos
  own n (concat ts) = refl
  own n (alt ts) = refl
  own n (group t) = refl
  own n (look_around t how) = refl
  own n (repeat t lo hi greedy) = refl
  own n (atomic_group t) = refl
  own n (conditional c a b) = refl
  own n (absent_repeater t) = refl
  own n (absent_expression a t) = refl
  own n (absent_stopper t) = refl
  own n (define_group t) = refl
  own n (ast_group name t position) = refl
  own n empty = refl
  own n (any newline crlf) = refl
  own n (assertion a) = refl
  own n (general_newline unicode) = refl
  own n (literal val casei) = refl
  own n (literal_bytes bytes) = refl
  own n (delegate inner casei) = refl
  own n (backref k casei) = refl
  own n (backref_with_level k level casei) = refl
  own n keep_out = refl
  own n continue = refl
  own n (backref_exists k level) = refl
  own n (subroutine_call k) = refl
  own n (verb v) = refl
  own n absent_clear = refl
  own n (ast_backref goal casei level position) = refl
  own n (ast_call goal position) = refl
  own n (ast_condition goal level position) = refl

-- one more at the end of a row
abbrev following : InfoTrees → InfoTree → InfoTrees
following no_infos y = more_infos y no_infos
following (more_infos x xs) y = more_infos x (following xs y)

infos_last : (xs : List InfoTree) (y : InfoTree) → infos (xs ++ y ∷ []) ≡ following (infos xs) y
infos_last [] y = refl
infos_last (x ∷ xs) y = ap (more_infos x) (infos_last xs y)

counted_last : (us : List Tree) (t : Tree) → row_group_count (trees (us ++ t ∷ [])) ≡ row_group_count (trees us) + group_count t
unfolding group_count row_group_count
counted_last [] t = omega arith
counted_last (u ∷ us) t = omega (arith, counted_last us t)

described_last : (groups : List Tree) (reads : ℕ → Bool) (n : ℕ) (us : List Tree) (t : Tree) →
    expected_infos groups reads n (trees (us ++ t ∷ []))
    ≡ following (expected_infos groups reads n (trees us)) (expected_info groups reads (n + row_group_count (trees us)) t)
unfolding group_count row_group_count expected_info expected_infos
described_last groups reads n [] t =
    let zero_more : n + 0 ≡ n = omega arith in
    ap (λ k. more_infos (expected_info groups reads k t) no_infos) (sym zero_more)
described_last groups reads n (u ∷ us) t =
    let same : n + group_count u + row_group_count (trees us) ≡ n + (group_count u + row_group_count (trees us)) = omega arith in
    ap (more_infos (expected_info groups reads n u))
    (described_last groups reads (n + group_count u) us t
    ∙ ap (λ k. following (expected_infos groups reads (n + group_count u) (trees us)) (expected_info groups reads k t)) same)

triple : {x x2 y y2 z z2 : InfoTree} → x ≡ x2 → y ≡ y2 → z ≡ z2 →
    let a : InfoTree × InfoTree × InfoTree = (x, y, z) in let b : InfoTree × InfoTree × InfoTree = (x2, y2, z2) in a ≡ b
triple ex ey ez = cc

chosen_same : {a a2 b b2 c c2 : NodeProperties} → a ≡ a2 → b ≡ b2 → c ≡ c2 → conditional_properties a b c ≡ conditional_properties a2 b2 c2
chosen_same {a2 = a2} {b2 = b2} {c = c} ea eb ec = ap₂ (λ f g. conditional_properties f g c) ea eb ∙ ap (conditional_properties a2 b2) ec

abbrev pub listed : InfoTrees → List NodeProperties
listed no_infos = []
listed (more_infos x xs) = properties_in x ∷ listed xs

module _ (calls : List code.Size) (read : List Bool) where
  abbrev call : ℕ → Size
  call = size_at calls

  module _ (groups : List Tree) (knows : AreCallSizes groups calls) where
    abbrev R : ℕ → Bool
    R = mark_at read

    abbrev D : ℕ → Tree → InfoTree
    D = expected_info groups R

    abbrev F : ℕ → Tree → NodeProperties
    F = properties groups R

    fact_leaf : (n : ℕ) (t : Tree) (s : Size) (h : Bool) → size_with call t ≡ s → weight groups t ≡ 1 → not (is_easy R n t) ≡ h →
        group_count t ≡ 0 → leaf n s h ≡ F n t
    fact_leaf n t s h es ew eh eg = same_facts (sym (knows t ∙ es)) (sym (ap (min unbounded) ew)) (sym eh) refl (omega arith)

    fact_wrapped : (n : ℕ) (t u : Tree) (s : Size) → size_with call u ≡ s → weight groups u ≡ 1 + weight groups t →
        is_easy R n u ≡ false → group_count u ≡ group_count t → wrapper_properties s (F n t) ≡ F n u
    fact_wrapped n t u s es ew eh eg =
        same_facts (sym (knows u ∙ es)) (stop_more (weight groups t) 1 (omega arith) ∙ ap (min unbounded) (omega arith)) (sym (ap not eh)) refl
        (omega arith)

    fact_group : (n : ℕ) (t : Tree) → group_properties n (R n) (F (n + 1) t) ≡ F n (group t)
    unfolding size_with weight group_count is_easy
    fact_group n t =
        same_facts (knows t ∙ sym (knows (group t))) (stop_more (weight groups t) 2 (omega arith)) (not_and (is_easy R (n + 1) t) (R n)) refl (omega arith)

    fact_atomic : (n : ℕ) (t : Tree) → wrapper_properties (size groups t) (F n t) ≡ F n (atomic_group t)
    unfolding size_with weight group_count is_easy
    fact_atomic n t = fact_wrapped n t (atomic_group t) (size groups t) (sym (knows t)) refl refl refl

    fact_two : (n : ℕ) (a b u : Tree) (s : Size) → size_with call u ≡ s → weight groups u ≡ 1 + (weight groups a + weight groups b) →
        is_easy R n u ≡ false → group_count u ≡ group_count a + group_count b →
        absent_expression_properties s (F n a) (F (n + group_count a) b) ≡ F n u
    fact_two n a b u s es ew eh eg =
        same_facts (sym (knows u ∙ es))
        (ap (add 1) (stop_add (weight groups a) (weight groups b)) ∙ stop_one (weight groups a + weight groups b) ∙ ap (min unbounded) (sym ew))
        (sym (ap not eh)) refl (omega arith)

    fact_three : (n : ℕ) (c a b : Tree) →
        conditional_properties (F n c) (F (n + group_count c) a) (F (n + group_count c + group_count a) b) ≡ F n (conditional c a b)
    unfolding size_with weight group_count is_easy
    fact_three n c a b =
        same_facts
        (ap₂ either_size (ap₂ both_sizes (knows c) (knows a)) (knows b) ∙ sym (knows (conditional c a b)))
        (ap (add 1) (ap (add (min unbounded (weight groups c))) (stop_add (weight groups a) (weight groups b)) ∙ stop_add (weight groups c) (weight groups a + weight groups b))
        ∙ stop_one (weight groups c + (weight groups a + weight groups b)))
        refl refl (omega arith)

    fact_repeat : (n : ℕ) (t : Tree) (lo hi : ℕ) (greedy : Bool) → repeat_properties lo hi (F n t) ≡ F n (repeat t lo hi greedy)
    unfolding size_with weight group_count is_easy
    fact_repeat n t lo hi greedy =
        same_facts (ap (λ s. repeated_size s lo hi) (knows t) ∙ sym (knows (repeat t lo hi greedy)))
        (repeat_stops groups lo hi (weight groups t) ((size groups t).least == 0)) refl refl refl

    leaf_cases : (n : ℕ) (t : Tree) → is_leaf t ≡ true →
        (weight groups t ≡ 1) × (group_count t ≡ 0) × (known (F n t) t no_infos ≡ D n t)
    unfolding weight group_count expected_info expected_infos
    leaf_cases n empty h = (refl, refl, refl)
    leaf_cases n (any newline crlf) h = (refl, refl, refl)
    leaf_cases n (assertion a) h = (refl, refl, refl)
    leaf_cases n (general_newline unicode) h = (refl, refl, refl)
    leaf_cases n (literal val casei) h = (refl, refl, refl)
    leaf_cases n (literal_bytes bytes) h = (refl, refl, refl)
    leaf_cases n (delegate inner casei) h = (refl, refl, refl)
    leaf_cases n (backref k casei) h = (refl, refl, refl)
    leaf_cases n (backref_with_level k level casei) h = (refl, refl, refl)
    leaf_cases n keep_out h = (refl, refl, refl)
    leaf_cases n continue h = (refl, refl, refl)
    leaf_cases n (backref_exists k level) h = (refl, refl, refl)
    leaf_cases n (subroutine_call k) h = (refl, refl, refl)
    leaf_cases n (verb v) h = (refl, refl, refl)
    leaf_cases n absent_clear h = (refl, refl, refl)
    leaf_cases n (ast_backref goal casei level position) h = (refl, refl, refl)
    leaf_cases n (ast_call goal position) h = (refl, refl, refl)
    leaf_cases n (ast_condition goal level position) h = (refl, refl, refl)
    leaf_cases n (concat ts) h = cc
    leaf_cases n (alt ts) h = cc
    leaf_cases n (group t) h = cc
    leaf_cases n (look_around t how) h = cc
    leaf_cases n (repeat t lo hi greedy) h = cc
    leaf_cases n (atomic_group t) h = cc
    leaf_cases n (conditional c a b) h = cc
    leaf_cases n (absent_repeater t) h = cc
    leaf_cases n (absent_expression a t) h = cc
    leaf_cases n (absent_stopper t) h = cc
    leaf_cases n (define_group t) h = cc
    leaf_cases n (ast_group name t position) h = cc

    leaf_known : (n : ℕ) (t : Tree) → is_leaf t ≡ true → (h : Bool) → h ≡ is_easy R n t →
        known (leaf n (size_with call t) (not h)) t no_infos ≡ D n t
    leaf_known n t is h easy =
        let parts = leaf_cases n t is in
        ap (λ f. known f t no_infos) (fact_leaf n t (size_with call t) (not h) refl parts.0 (ap not (sym easy)) parts.1) ∙ parts.2

    -- around one part
    one_known : (n m : ℕ) (t u : Tree) (x : InfoTree) (f : NodeProperties) (wrap : NodeProperties → NodeProperties) → x ≡ D m t → f ≡ wrap (properties_in x) →
        wrap (F m t) ≡ F n u → known (F n u) u (more_infos (D m t) no_infos) ≡ D n u → known f u (more_infos x no_infos) ≡ D n u
    one_known n m t u x f wrap is same fact whole =
        ap₂ (λ g y. known g u (more_infos y no_infos))
        (same ∙ ap wrap (ap properties_in is ∙ own groups R m t) ∙ fact) is
        ∙ whole

    two_known : (n m k : ℕ) (a b u : Tree) (x y : InfoTree) (f : NodeProperties) (join : NodeProperties → NodeProperties → NodeProperties) → x ≡ D m a → y ≡ D k b →
        f ≡ join (properties_in x) (properties_in y) → join (F m a) (F k b) ≡ F n u →
        known (F n u) u (more_infos (D m a) (more_infos (D k b) no_infos)) ≡ D n u → known f u (more_infos x (more_infos y no_infos)) ≡ D n u
    two_known n m k a b u x y f join isx isy same fact whole =
        ap₂ (λ (p : InfoTree × InfoTree) g. known g u (more_infos p.0 (more_infos p.1 no_infos))) (ap₂ (λ p q. (p, q)) isx isy)
        (same ∙ ap₂ join (ap properties_in isx ∙ own groups R m a) (ap properties_in isy ∙ own groups R k b) ∙ fact)
        ∙ whole

    not_both : (a b : Bool) → (not a || not b) ≡ not (a && b)
    not_both true b = refl
    not_both false b = refl

    and_true : (a : Bool) → not a ≡ not (a && true)
    and_true true = refl
    and_true false = refl

    row_known : (n m k : ℕ) (ts : Trees) → sum_properties n m (listed (expected_infos groups R k ts))
        ≡ (let f : NodeProperties = record { size = concat_size call ts; weight = min unbounded (weights groups ts); hard = not (all_easy R k ts); start = n; end = m } in f)
    unfolding expected_info expected_infos size_with concat_size weight weights is_easy all_easy
    row_known n m k no_trees = refl
    row_known n m k (more_trees t ts) =
        ap₂ prepend_part (own groups R k t) (row_known n m (k + group_count t) ts)
        ∙ same_facts (ap (λ s. both_sizes s (concat_size call ts)) (knows t)) (stop_add (weight groups t) (weights groups ts))
        (not_both (is_easy R k t) (all_easy R (k + group_count t) ts)) refl refl

    branches_known : (n m k : ℕ) (ts : Trees) → alternation_properties n m (listed (expected_infos groups R k ts))
        ≡ (let f : NodeProperties = record {
          size = alternation_size call ts;
          weight = min unbounded (weights groups ts + 3 * branch_gaps groups ts);
          hard = not (is_easy R k (alt ts));
          start = n;
          end = m;
        } in f)
    unfolding expected_info expected_infos size_with alternation_size weight weights branch_gaps is_easy all_easy
    branches_known n m k no_trees = refl
    branches_known n m k (more_trees t no_trees) =
        ap (λ (f : NodeProperties). let g : NodeProperties = record { size = f.size; weight = f.weight; hard = f.hard; start = n; end = m } in g) (own groups R k t)
        ∙ same_facts (knows t) (omega arith) (and_true (is_easy R k t)) refl refl
    branches_known n m k (more_trees t (more_trees u ts)) =
        ap₂ prepend_branch (own groups R k t) (branches_known n m (k + group_count t) (more_trees u ts))
        ∙ same_facts (ap (λ s. either_size s (alternation_size call (more_trees u ts))) (knows t))
        (omega arith)
        (not_both (is_easy R k t) (is_easy R (k + group_count t) u && all_easy R (k + group_count t + group_count u) ts)) refl refl

  -- Each kind of node, around what is known of its parts.
  pub arm_leaf : (n : ℕ) (root : Tree) (h : Bool) (f : NodeProperties) → is_leaf root ≡ true → h ≡ is_easy (mark_at read) n root →
      f ≡ leaf n (size_with call root) (not h) → IsAnalysisOf calls read n root (known f root no_infos)
  arm_leaf n root h f is easy same groups knows fits =
      ap (λ g. known g root no_infos) same ∙ leaf_known groups knows n root is h easy

  pub arm_bare : (n : ℕ) (u root : Tree) (s : Size) → root ≡ u → is_leaf u ≡ true → s ≡ size_with call u → is_easy (mark_at read) n u ≡ false →
      IsAnalysisOf calls read n root (known (leaf n s true) root no_infos)
  arm_bare n u root s is bare size hard groups knows fits =
      ap₂ (λ z r. known (leaf n z true) r no_infos) size is ∙ leaf_known groups knows n u bare false (sym hard)
      ∙ ap (expected_info groups (mark_at read) n) (sym is)

  pub arm_clear : (n : ℕ) (root : Tree) (s : Size) → root ≡ absent_clear → s ≡ any_size → IsAnalysisOf calls read n root (known (leaf n s true) root no_infos)
  unfolding size_with is_easy
  arm_clear n root s is size = arm_bare n absent_clear root s is refl size refl

  pub arm_ast_backref : (n : ℕ) (target : Target) (casei : Bool) (level : Option ℤ) (position : ℕ) (root : Tree) (s : Size) →
      root ≡ ast_backref target casei level position → s ≡ any_size → IsAnalysisOf calls read n root (known (leaf n s true) root no_infos)
  unfolding size_with is_easy
  arm_ast_backref n target casei level position root s is size =
      arm_bare n (ast_backref target casei level position) root s is refl size refl

  pub arm_ast_call : (n : ℕ) (target : Target) (position : ℕ) (root : Tree) (s : Size) →
      root ≡ ast_call target position → s ≡ any_size → IsAnalysisOf calls read n root (known (leaf n s true) root no_infos)
  unfolding size_with is_easy
  arm_ast_call n target position root s is size = arm_bare n (ast_call target position) root s is refl size refl

  pub arm_ast_condition : (n : ℕ) (target : Target) (level : Option ℤ) (position : ℕ) (root : Tree) (s : Size) →
      root ≡ ast_condition target level position → s ≡ always_size 0 → IsAnalysisOf calls read n root (known (leaf n s true) root no_infos)
  unfolding size_with is_easy
  arm_ast_condition n target level position root s is size = arm_bare n (ast_condition target level position) root s is refl size refl

  pub arm_one : (n : ℕ) (t u root : Tree) (x : InfoTree) (f : NodeProperties) (wrap : NodeProperties → NodeProperties) → root ≡ u → IsAnalysisOf calls read n t x →
      f ≡ wrap (properties_in x) → group_count u ≡ group_count t →
      ((groups : List Tree) → AreCallSizes groups calls → wrap (properties groups (mark_at read) n t) ≡ properties groups (mark_at read) n u) →
      ((groups : List Tree) →
      known (properties groups (mark_at read) n u) u (more_infos (expected_info groups (mark_at read) n t) no_infos) ≡ expected_info groups (mark_at read) n u) →
      IsAnalysisOf calls read n root (known f root (more_infos x no_infos))
  arm_one n t u root x f wrap is inner same count fact whole groups knows fits =
      let inside : n + group_count t < 2 ^ 64 = omega (arith, count, ap group_count is) in
      ap (λ r. known f r (more_infos x no_infos)) is
      ∙ one_known groups knows n n t u x f wrap (inner groups knows inside) same (fact groups knows) (whole groups)
      ∙ ap (expected_info groups (mark_at read) n) (sym is)

  pub arm_group : (n m : ℕ) (t root : Tree) (x : InfoTree) (f : NodeProperties) → root ≡ group t → m ≡ min (n + 1) (2 ^ 64 - 1) →
      IsAnalysisOf calls read m t x → f ≡ group_properties n (mark_at read n) (properties_in x) → IsAnalysisOf calls read n root (known f root (more_infos x no_infos))
  unfolding group_count expected_info expected_infos
  arm_group n m t root x f is next inner same groups knows fits =
      let count : group_count root ≡ group_count t + 1 = ap group_count is in
      let one : m ≡ n + 1 = omega (arith, count) in
      ap (λ r. known f r (more_infos x no_infos)) is
      ∙ one_known groups knows n (n + 1) t (group t) x f (group_properties n (mark_at read n))
      (inner groups knows (omega (arith, count)) ∙ ap (λ k. expected_info groups (mark_at read) k t) one) same (fact_group groups knows n t) refl
      ∙ ap (expected_info groups (mark_at read) n) (sym is)

  pub arm_look : (n : ℕ) (t : Tree) (how : LookAround) (root : Tree) (x : InfoTree) (f : NodeProperties) → root ≡ look_around t how →
      IsAnalysisOf calls read n t x → f ≡ wrapper_properties (always_size 0) (properties_in x) → IsAnalysisOf calls read n root (known f root (more_infos x no_infos))
  unfolding size_with weight group_count is_easy expected_info expected_infos
  arm_look n t how root x f is inner same =
      arm_one n t (look_around t how) root x f (wrapper_properties (always_size 0)) is inner same refl
      (λ groups knows. fact_wrapped groups knows n t (look_around t how) (always_size 0) refl refl refl refl) (λ groups. refl)

  pub arm_repeat : (n : ℕ) (t : Tree) (lo hi : ℕ) (greedy : Bool) (root : Tree) (x : InfoTree) (f : NodeProperties) → root ≡ repeat t lo hi greedy →
      IsAnalysisOf calls read n t x → f ≡ repeat_properties lo hi (properties_in x) → IsAnalysisOf calls read n root (known f root (more_infos x no_infos))
  unfolding size_with weight group_count is_easy expected_info expected_infos
  arm_repeat n t lo hi greedy root x f is inner same =
      arm_one n t (repeat t lo hi greedy) root x f (repeat_properties lo hi) is inner same refl
      (λ groups knows. fact_repeat groups knows n t lo hi greedy) (λ groups. refl)

  pub arm_atomic : (n : ℕ) (t root : Tree) (x : InfoTree) (f : NodeProperties) → root ≡ atomic_group t →
      IsAnalysisOf calls read n t x → f ≡ wrapper_properties (properties_in x).size (properties_in x) → IsAnalysisOf calls read n root (known f root (more_infos x no_infos))
  unfolding size_with weight group_count is_easy expected_info expected_infos
  arm_atomic n t root x f is inner same =
      arm_one n t (atomic_group t) root x f (λ g. wrapper_properties g.size g) is inner same refl
      (λ groups knows. fact_atomic groups knows n t) (λ groups. refl)

  pub arm_define : (n : ℕ) (t root : Tree) (x : InfoTree) (f : NodeProperties) → root ≡ define_group t →
      IsAnalysisOf calls read n t x → f ≡ wrapper_properties (always_size 0) (properties_in x) → IsAnalysisOf calls read n root (known f root (more_infos x no_infos))
  unfolding size_with weight group_count is_easy expected_info expected_infos
  arm_define n t root x f is inner same =
      arm_one n t (define_group t) root x f (wrapper_properties (always_size 0)) is inner same refl
      (λ groups knows. fact_wrapped groups knows n t (define_group t) (always_size 0) refl refl refl refl) (λ groups. refl)

  pub arm_ast_group : (n : ℕ) (name : Option Text) (t : Tree) (position : ℕ) (root : Tree) (x : InfoTree) (f : NodeProperties) → root ≡ ast_group name t position →
      IsAnalysisOf calls read n t x → f ≡ wrapper_properties (always_size 0) (properties_in x) → IsAnalysisOf calls read n root (known f root (more_infos x no_infos))
  unfolding size_with weight group_count is_easy expected_info expected_infos
  arm_ast_group n name t position root x f is inner same =
      arm_one n t (ast_group name t position) root x f (wrapper_properties (always_size 0)) is inner same refl
      (λ groups knows. fact_wrapped groups knows n t (ast_group name t position) (always_size 0) refl refl refl refl) (λ groups. refl)

  pub arm_repeater : (n : ℕ) (t root : Tree) (x : InfoTree) (f : NodeProperties) → root ≡ absent_repeater t →
      IsAnalysisOf calls read n t x → f ≡ wrapper_properties any_size (properties_in x) → IsAnalysisOf calls read n root (known f root (more_infos x no_infos))
  unfolding size_with weight group_count is_easy expected_info expected_infos
  arm_repeater n t root x f is inner same =
      arm_one n t (absent_repeater t) root x f (wrapper_properties any_size) is inner same refl
      (λ groups knows. fact_wrapped groups knows n t (absent_repeater t) any_size refl refl refl refl) (λ groups. refl)

  pub arm_stopper : (n : ℕ) (t root : Tree) (x : InfoTree) (f : NodeProperties) → root ≡ absent_stopper t →
      IsAnalysisOf calls read n t x → f ≡ wrapper_properties any_size (properties_in x) → IsAnalysisOf calls read n root (known f root (more_infos x no_infos))
  unfolding size_with weight group_count is_easy expected_info expected_infos
  arm_stopper n t root x f is inner same =
      arm_one n t (absent_stopper t) root x f (wrapper_properties any_size) is inner same refl
      (λ groups knows. fact_wrapped groups knows n t (absent_stopper t) any_size refl refl refl refl) (λ groups. refl)

  pub arm_expression : (n m : ℕ) (a t root : Tree) (x y : InfoTree) (f : NodeProperties) → root ≡ absent_expression a t → IsAnalysisOf calls read n a x →
      m ≡ (properties_in x).end → IsAnalysisOf calls read m t y → f ≡ absent_expression_properties any_size (properties_in x) (properties_in y) →
      IsAnalysisOf calls read n root (known f root (more_infos x (more_infos y no_infos)))
  unfolding size_with weight group_count is_easy expected_info expected_infos
  arm_expression n m a t root x y f is first next second same groups knows fits =
      let count : group_count root ≡ group_count a + group_count t = ap group_count is in
      let isx = first groups knows (omega (arith, count)) in
      let at : m ≡ n + group_count a = next ∙ ap (λ z. (properties_in z).end) isx ∙ ap (λ g. g.end) (own groups (mark_at read) n a) in
      let isy = second groups knows (omega (arith, count)) ∙ ap (λ k. expected_info groups (mark_at read) k t) at in
      ap (λ r. known f r (more_infos x (more_infos y no_infos))) is
      ∙ two_known groups knows n n (n + group_count a) a t (absent_expression a t) x y f (absent_expression_properties any_size) isx isy same
      (fact_two groups knows n a t (absent_expression a t) any_size refl refl refl refl) refl
      ∙ ap (expected_info groups (mark_at read) n) (sym is)

  pub arm_conditional : (n m k : ℕ) (c a b root : Tree) (x y z : InfoTree) (f : NodeProperties) → root ≡ conditional c a b → IsAnalysisOf calls read n c x →
      m ≡ (properties_in x).end → IsAnalysisOf calls read m a y → k ≡ (properties_in y).end → IsAnalysisOf calls read k b z →
      f ≡ conditional_properties (properties_in x) (properties_in y) (properties_in z) →
      IsAnalysisOf calls read n root (known f root (more_infos x (more_infos y (more_infos z no_infos))))
  unfolding size_with weight group_count is_easy expected_info expected_infos
  arm_conditional n m k c a b root x y z f is first next second after third same groups knows fits =
      let count : group_count root ≡ group_count c + (group_count a + group_count b) = ap group_count is in
      let isx = first groups knows (omega (arith, count)) in
      let at : m ≡ n + group_count c = next ∙ ap (λ v. (properties_in v).end) isx ∙ ap (λ g. g.end) (own groups (mark_at read) n c) in
      let isy = second groups knows (omega (arith, count)) ∙ ap (λ j. expected_info groups (mark_at read) j a) at in
      let there : k ≡ n + group_count c + group_count a =
      after ∙ ap (λ v. (properties_in v).end) isy ∙ ap (λ g. g.end) (own groups (mark_at read) (n + group_count c) a) in
      let isz = third groups knows (omega (arith, count)) ∙ ap (λ j. expected_info groups (mark_at read) j b) there in
      ap (λ r. known f r (more_infos x (more_infos y (more_infos z no_infos)))) is
      ∙ ap₂ (λ (p : InfoTree × InfoTree × InfoTree) g. known g (conditional c a b) (more_infos p.0 (more_infos p.1 (more_infos p.2 no_infos))))
      (triple isx isy isz)
      (same
      ∙ chosen_same (ap properties_in isx ∙ own groups (mark_at read) n c) (ap properties_in isy ∙ own groups (mark_at read) (n + group_count c) a)
      (ap properties_in isz ∙ own groups (mark_at read) (n + group_count c + group_count a) b)
      ∙ fact_three groups knows n c a b)
      ∙ ap (expected_info groups (mark_at read) n) (sym is)

  pub arm_concat : (n m : ℕ) (ts : Trees) (root : Tree) (xs : InfoTrees) (f : NodeProperties) → root ≡ concat ts → AreAnalysesOf calls read n ts xs m →
      f ≡ concat_properties (sum_properties n m (listed xs)) → IsAnalysisOf calls read n root (known f root xs)
  unfolding size_with weight group_count is_easy expected_info expected_infos
  arm_concat n m ts root xs f is inner same groups knows fits =
      let parts = inner groups knows (omega (arith, ap group_count is)) in
      ap (λ r. known f r xs) is
      ∙ ap₂ (λ g ys. known g (concat ts) ys)
      (same ∙ ap (λ ys. concat_properties (sum_properties n m (listed ys))) parts.0
      ∙ ap concat_properties (row_known groups knows n m n ts)
      ∙ same_facts (sym (knows (concat ts))) (omega arith) refl refl parts.1)
      parts.0
      ∙ ap (expected_info groups (mark_at read) n) (sym is)

  pub arm_alt : (n m : ℕ) (ts : Trees) (root : Tree) (xs : InfoTrees) (f : NodeProperties) → root ≡ alt ts → AreAnalysesOf calls read n ts xs m →
      f ≡ alternation_properties n m (listed xs) → IsAnalysisOf calls read n root (known f root xs)
  unfolding size_with weight group_count is_easy expected_info expected_infos
  arm_alt n m ts root xs f is inner same groups knows fits =
      let parts = inner groups knows (omega (arith, ap group_count is)) in
      ap (λ r. known f r xs) is
      ∙ ap₂ (λ g ys. known g (alt ts) ys)
      (same ∙ ap (λ ys. alternation_properties n m (listed ys)) parts.0
      ∙ branches_known groups knows n m n ts
      ∙ same_facts (sym (knows (alt ts))) refl refl refl parts.1)
      parts.0
      ∙ ap (expected_info groups (mark_at read) n) (sym is)

  -- A row that is walked from its front.
  pub row_begins : (n : ℕ) → AreAnalysesOf calls read n no_trees no_infos n
  unfolding group_count row_group_count expected_info expected_infos
  row_begins n groups knows fits = (refl, omega arith)

  pub row_goes_on : (n m k : ℕ) (us : List Tree) (t : Tree) (xs : List InfoTree) (x : InfoTree) → AreAnalysesOf calls read n (trees us) (infos xs) m →
      IsAnalysisOf calls read m t x → k ≡ (properties_in x).end → AreAnalysesOf calls read n (trees (us ++ t ∷ [])) (infos (xs ++ x ∷ [])) k
  row_goes_on n m k us t xs x before next is groups knows fits =
      let count = counted_last us t in
      let parts = before groups knows (omega (arith, count)) in
      let isx = next groups knows (omega (arith, count, parts.1)) in (
        infos_last xs x
            ∙ ap₂ following parts.0 (isx ∙ ap (λ j. expected_info groups (mark_at read) j t) parts.1)
            ∙ sym (described_last groups (mark_at read) n us t),
        is ∙ ap (λ v. (properties_in v).end) isx ∙ ap (λ g. g.end) (own groups (mark_at read) m t) ∙ omega (arith, count, parts.1),
      )

-- what is known of nodes in a row, in code and in mathematics
pub listed_infos : (xs : List Info) → map (λ i. properties_in (info_of i)) xs ≡ listed (infos (map info_of xs))
listed_infos [] = refl
listed_infos (x ∷ xs) = ap (λ fs. properties_in (info_of x) ∷ fs) (listed_infos xs)

module _ (calls : List code.Size) (read : List Bool) where
  pub lift : (r : Result Parts AllocError) (y : Tree → InfoTree) (t : Tree) (n : ℕ) → IfOk r (λ p. (u : Tree) → node_of p u ≡ y u) →
      IsAnalysisOf calls read n t (y t) → IfOk r (λ p. IsAnalysisOf calls read n t (node_of p t))
  lift (Ok p) y t n is inner = λ groups knows fits. is t ∙ inner groups knows fits
  lift (Err e) y t n is inner = tt

  pub row_walk : (n m k : ℕ) (es : List Expr) (i : ℕ) (e : Expr) (xs ys : List Info) (x : Info) → i < length es → e ≡ get_or es i e →
      AreAnalysesOf calls read n (trees (map tree_of (take i es))) (infos (map info_of xs)) m →
      IsAnalysisOf calls read m (tree_of e) (info_of x) → k ≡ (properties_in (info_of x)).end → ys ≡ xs ++ x ∷ [] →
      AreAnalysesOf calls read n (trees (map tree_of (take (i + 1) es))) (infos (map info_of ys)) k
  row_walk n m k es i e xs ys x inside is before next end more =
      subst (λ zs. AreAnalysesOf calls read n (trees (map tree_of (take (i + 1) es))) (infos (map info_of zs)) k) (sym more)
      (subst (λ us. AreAnalysesOf calls read n (trees us) (infos (map info_of (xs ++ x ∷ []))) k)
      (sym (map-append tree_of (take i es) (e ∷ []))
      ∙ ap (λ d. map tree_of (take i es ++ d ∷ [])) is
      ∙ ap (map tree_of) (sym (take_more es i e inside)))
      (subst (λ zs. AreAnalysesOf calls read n (trees (map tree_of (take i es) ++ tree_of e ∷ [])) (infos zs) k)
      (sym (map-append info_of xs (x ∷ [])))
      (row_goes_on calls read n m k (map tree_of (take i es)) (tree_of e) (map info_of xs) (info_of x) before next end)))

-- what holds of an answer for each number
pub over : (r : Result Parts AllocError) (P : Parts → ℕ → Type 0) → ((k : ℕ) → IfOk r (λ p. P p k)) → IfOk r (λ p. (k : ℕ) → P p k)
over (Ok p) P h = h
over (Err e) P h = tt
