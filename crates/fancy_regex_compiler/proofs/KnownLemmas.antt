-- What the analysis says of a tree gives the pattern of the definitions.
use Rattle.std.proofs.Common.{◌≡◌, ℕ, zero, suc, ◌+◌, ◌*◌, Bool, true, false, cond, not, List, [], ◌∷◌, ◌++◌, length, count_by, Option, Some, None, option_map, refl, sym, ap, ap₂, ◌∙◌, arith, append-nil, length-append}
use Rattle.std.specs.Prelude.{slice_get, ◌==◌, ◌&&◌, nat_le}
use Rattle.std.proofs.lemmas.Bool.Decides.{nat_tests}
use Rattle.std.proofs.lemmas.List.Sums.{sum_by-append, sum_by-cons}
use Rattle.std.proofs.Math.Path.{fun_ext}
use Rattle.fancy_regex_tree.specs.Tree as tree
use Rattle.fancy_regex_tree.specs.Tree.{Tree, Trees, no_trees, more_trees}
use Rattle.fancy_regex_meaning.specs.Groups.{Pattern, bodies, row_bodies, group_count, row_group_count}
use Rattle.fancy_regex_meaning.specs.Ways.{max_open_calls_per_group, max_open_calls}
use Rattle.fancy_regex_desugar.specs.CorePatterns.{CorePattern, fail, cat, group, atomic, conditional, absent, called}
use Rattle.fancy_regex_desugar.specs.Delegates.{may_explode, is_plain, are_plain, begins_tail}
use Rattle.fancy_regex_desugar.specs.Unfolded.{pat_for, cat_all, first_way_of, look, node, branches, written, written_all, written_call, written_plain, written_tail, written_whole, core_pattern_of}
use Rattle.fancy_regex_info.specs.Analysis.{analysis}
use Rattle.fancy_regex_info.specs.Easy.{is_easy, all_easy}
use Rattle.fancy_regex_info.specs.References.{is_read}
use Rattle.fancy_regex_info.specs.Infos.{InfoTree, properties_in, properties, expected_info, expected_infos}
use Rattle.fancy_regex_info.specs.Views.{pattern_in}
use Rattle.fancy_regex_compiler.specs.Known.{front_of, behind_of, info_written, info_written_all, is_plain_info, are_plain_infos, info_begins_tail, tree_in, trees_in, plain_row, info_tail, info_whole, info_call, bodies_in, row_bodies_in, groups_in, most_calls_in, pat_in}

-- Whether a tree without groups is easy does not depend on which groups are read.
module _ (reads others : ℕ → Bool) where
  mutual
    unfolding is_easy all_easy group_count row_group_count

    same_easy : (n m : ℕ) (t : Tree) → group_count t ≡ 0 → is_easy reads n t ≡ is_easy others m t
    same_easy n m (tree.concat ts) e = all_same_easy n m ts e
    same_easy n m (tree.alt no_trees) e = refl
    same_easy n m (tree.alt (more_trees t ts)) e =
        ap₂ (λ a b. a && b) (same_easy n m t (omega (arith, e))) (all_same_easy (n + group_count t) (m + group_count t) ts (omega (arith, e)))
    same_easy n m (tree.group t) e = absurd (omega (arith, e))
    same_easy n m (tree.repeat t lo hi greedy) e = same_easy n m t e
    same_easy n m _ e = refl

    all_same_easy : (n m : ℕ) (ts : Trees) → row_group_count ts ≡ 0 → all_easy reads n ts ≡ all_easy others m ts
    all_same_easy n m no_trees e = refl
    all_same_easy n m (more_trees t ts) e =
        ap₂ (λ a b. a && b) (same_easy n m t (omega (arith, e))) (all_same_easy (n + group_count t) (m + group_count t) ts (omega (arith, e)))

not_not : (b : Bool) → not (not b) ≡ b
not_not true = refl
not_not false = refl

and_none : (b c : Bool) → c ≡ false → (b && c) ≡ false
and_none true c e = e
and_none false c e = refl

choice_same : {b c : Bool} {p q r s : CorePattern} → b ≡ c → p ≡ q → r ≡ s → cond b p r ≡ cond c q s
choice_same {b = b} {c = c} {p = p} {q = q} {r = r} {s = s} x y z = ap₂ (λ d v. cond d v r) x y ∙ ap (λ v. cond c q v) z

module _ (groups : List Tree) (reads : ℕ → Bool) where
  abbrev D : ℕ → Tree → InfoTree
  D = expected_info groups reads

  pub own : (n : ℕ) (t : Tree) → properties_in (D n t) ≡ properties groups reads n t
  unfolding expected_info
  own n (tree.concat ts) = refl
  own n _ = refl

  module _ (call : ℕ → CorePattern) where
    mutual
      unfolding expected_info expected_infos info_written info_written_all front_of behind_of written written_all

      pub known_is : (n : ℕ) (t : Tree) → info_written call (D n t) ≡ written groups call n t
      known_is n (tree.alt ts) = ap (branches groups (tree.alt ts)) (known_all n ts)
      known_is n (tree.concat ts) = ap (λ us. node groups (tree.concat ts) (cat_all us)) (known_all n ts)
      known_is n (tree.group t) = ap (λ v. node groups (tree.group t) (group n v.front)) (known_is (n + 1) t)
      known_is n (tree.look_around t how) = ap (λ v. node groups (tree.look_around t how) (look t how v)) (known_is n t)
      known_is n (tree.repeat t lo hi greedy) = ap (λ v. node groups (tree.repeat t lo hi greedy) (front_of call n (tree.repeat t lo hi greedy) (v ∷ []))) (known_is n t)
      known_is n (tree.atomic_group t) = ap (λ v. node groups (tree.atomic_group t) (atomic (first_way_of t v.front))) (known_is n t)
      known_is n (tree.conditional c a b) =
          ap₂ (λ x y. node groups (tree.conditional c a b) (conditional (first_way_of c x.front) y.front (info_written call (D (n + group_count c + group_count a) b)).front))
          (known_is n c) (known_is (n + group_count c) a)
          ∙ ap (λ z. node groups (tree.conditional c a b) (conditional (first_way_of c (written groups call n c).front) (written groups call (n + group_count c) a).front z.front))
          (known_is (n + group_count c + group_count a) b)
      known_is n (tree.absent_repeater t) = ap (λ v. node groups (tree.absent_repeater t) (absent v.front)) (known_is n t)
      known_is n (tree.backref_exists k None) = refl
      known_is n (tree.backref_exists k (Some level)) = refl
      known_is n _ = refl

      known_all : (n : ℕ) (ts : Trees) → info_written_all call (expected_infos groups reads n ts) ≡ written_all groups call n ts
      known_all n no_trees = refl
      known_all n (more_trees t ts) = ap₂ (λ v vs. v ∷ vs) (known_is n t) (known_all (n + group_count t) ts)

  tree_known : (n : ℕ) (t : Tree) → tree_in (D n t) ≡ t
  unfolding expected_info
  tree_known n (tree.concat ts) = refl
  tree_known n _ = refl

  plain_is : (n : ℕ) (t : Tree) → is_plain_info (D n t) ≡ is_plain t
  plain_is n t = ap (λ f. not f.hard && f.start == f.end) (own n t) ∙ at (group_count t) refl
    where
      at : (c : ℕ) → group_count t ≡ c → (not (not (is_easy reads n t)) && n == n + group_count t) ≡ (is_easy (λ k. false) 0 t && group_count t == 0)
      at zero e =
          ap₂ (λ a b. a && b) (not_not (is_easy reads n t) ∙ same_easy reads (λ k. false) n 0 t e)
          (let here : (n == n + group_count t) ≡ true = grind (arith, nat_tests, e) in let there : (group_count t == 0) ≡ true = grind (arith, nat_tests, e) in here ∙ sym there)
      at (suc c) e =
          and_none (not (not (is_easy reads n t))) (n == n + group_count t) (grind (arith, nat_tests, e))
          ∙ sym (and_none (is_easy (λ k. false) 0 t) (group_count t == 0) (grind (arith, nat_tests, e)))

  trees_are : (n : ℕ) (ts : Trees) → trees_in (expected_infos groups reads n ts) ≡ ts
  unfolding expected_infos
  trees_are n no_trees = refl
  trees_are n (more_trees t ts) = ap₂ more_trees (tree_known n t) (trees_are (n + group_count t) ts)

  all_plain_is : (n : ℕ) (ts : Trees) → are_plain_infos (expected_infos groups reads n ts) ≡ are_plain ts
  unfolding expected_infos
  all_plain_is n no_trees = refl
  all_plain_is n (more_trees t ts) = ap₂ (λ a b. a && b) (plain_is n t) (all_plain_is (n + group_count t) ts)

  begins_is : (n : ℕ) (ts : Trees) → info_begins_tail (expected_infos groups reads n ts) ≡ begins_tail ts
  unfolding expected_infos
  begins_is n no_trees = refl
  begins_is n (more_trees t ts) = ap₂ (λ a u. a && may_explode u) (all_plain_is n (more_trees t ts)) (tree_known n t)

  module _ (call : ℕ → CorePattern) where
    row_is : (n : ℕ) (ts : Trees) →
        plain_row (trees_in (expected_infos groups reads n ts)) (info_written_all call (expected_infos groups reads n ts)) ≡ written_plain groups call n ts
    row_is n ts = ap₂ plain_row (trees_are n ts) (known_all call n ts)

    tail_is : (n : ℕ) (ts : Trees) → info_tail call (expected_infos groups reads n ts) ≡ written_tail groups call n ts
    unfolding info_tail written_tail expected_infos
    tail_is n no_trees = refl
    tail_is n (more_trees t ts) =
        choice_same (begins_is n (more_trees t ts)) (row_is n (more_trees t ts))
        (ap₂ (λ v p. cat v.front p) (known_is call n t) (tail_is (n + group_count t) ts))

    whole_is : (n : ℕ) (t : Tree) → info_whole call (D n t) ≡ written_whole groups call n t
    unfolding info_whole written_whole expected_info
    whole_is n (tree.concat ts) = tail_is n ts
    whole_is n t = ap (λ v. v.front) (known_is call n t)

  -- the bodies of groups, of which the first has that number
  abbrev pub bodies_from : ℕ → List Tree → List InfoTree
  bodies_from n [] = []
  bodies_from n (t ∷ ts) = D (n + 1) t ∷ bodies_from (n + 1) ts

  length_from : (n : ℕ) (ts : List Tree) → length (bodies_from n ts) ≡ length ts
  length_from n [] = refl
  length_from n (t ∷ ts) = ap suc (length_from (n + 1) ts)

  from_append : (n : ℕ) (xs ys : List Tree) → bodies_from n (xs ++ ys) ≡ bodies_from n xs ++ bodies_from (n + length xs) ys
  from_append n [] ys = let same : n ≡ n + 0 = omega arith in ap (λ k. bodies_from k ys) same
  from_append n (x ∷ xs) ys =
      let same : n + 1 + length xs ≡ n + suc (length xs) = omega arith in
      ap (λ l. D (n + 1) x ∷ l) (from_append (n + 1) xs ys ∙ ap (λ k. bodies_from (n + 1) xs ++ bodies_from k ys) same)

  pub get_from : (n : ℕ) (ts : List Tree) (k : ℕ) → slice_get (bodies_from n ts) k ≡ option_map (D (n + k + 1)) (slice_get ts k)
  get_from n [] k = refl
  get_from n (t ∷ ts) zero = let same : n + 1 ≡ n + 0 + 1 = omega arith in ap (λ j. Some (D j t)) same
  get_from n (t ∷ ts) (suc k) =
      let same : n + 1 + k + 1 ≡ n + suc k + 1 = omega arith in
      get_from (n + 1) ts k ∙ ap (λ j. option_map (D j) (slice_get ts k)) same

  mutual
    unfolding bodies row_bodies group_count row_group_count

    counted : (t : Tree) → length (bodies t) ≡ group_count t
    counted (tree.group t) = omega (arith, counted t)
    counted (tree.concat ts) = counted_row ts
    counted (tree.alt ts) = counted_row ts
    counted (tree.look_around t how) = counted t
    counted (tree.repeat t lo hi greedy) = counted t
    counted (tree.atomic_group t) = counted t
    counted (tree.conditional c a b) = omega (arith, length-append (bodies c) (bodies a ++ bodies b), length-append (bodies a) (bodies b), counted c, counted a, counted b)
    counted (tree.absent_repeater t) = counted t
    counted (tree.absent_expression a t) = omega (arith, length-append (bodies a) (bodies t), counted a, counted t)
    counted (tree.absent_stopper t) = counted t
    counted (tree.define_group t) = counted t
    counted (tree.ast_group name t position) = counted t
    counted _ = refl

    counted_row : (ts : Trees) → length (row_bodies ts) ≡ row_group_count ts
    counted_row no_trees = refl
    counted_row (more_trees t ts) = omega (arith, length-append (bodies t) (row_bodies ts), counted t, counted_row ts)

  one_body : (n : ℕ) (t : Tree) → bodies_in (D n t) ≡ bodies_from n (bodies t) → bodies_in (D n t) ++ [] ≡ bodies_from n (bodies t)
  one_body n t e = append-nil (bodies_in (D n t)) ∙ e

  behind_bodies : (n : ℕ) (t : Tree) (us : List Tree) (xs : List InfoTree) → bodies_in (D n t) ≡ bodies_from n (bodies t) →
      xs ≡ bodies_from (n + group_count t) us → bodies_in (D n t) ++ xs ≡ bodies_from n (bodies t ++ us)
  behind_bodies n t us xs e f =
      ap₂ (λ l m. l ++ m) e (f ∙ ap (λ k. bodies_from (n + k) us) (sym (counted t))) ∙ sym (from_append n (bodies t) us)

  mutual
    unfolding expected_info expected_infos bodies row_bodies bodies_in row_bodies_in

    bodies_are : (n : ℕ) (t : Tree) → bodies_in (D n t) ≡ bodies_from n (bodies t)
    bodies_are n (tree.group t) = ap (λ l. D (n + 1) t ∷ l) (one_body (n + 1) t (bodies_are (n + 1) t))
    bodies_are n (tree.concat ts) = row_bodies_are n ts
    bodies_are n (tree.alt ts) = row_bodies_are n ts
    bodies_are n (tree.look_around t how) = one_body n t (bodies_are n t)
    bodies_are n (tree.repeat t lo hi greedy) = one_body n t (bodies_are n t)
    bodies_are n (tree.atomic_group t) = one_body n t (bodies_are n t)
    bodies_are n (tree.conditional c a b) =
        behind_bodies n c (bodies a ++ bodies b) _ (bodies_are n c)
        (behind_bodies (n + group_count c) a (bodies b) _ (bodies_are (n + group_count c) a)
        (one_body (n + group_count c + group_count a) b (bodies_are (n + group_count c + group_count a) b)))
    bodies_are n (tree.absent_repeater t) = one_body n t (bodies_are n t)
    bodies_are n (tree.absent_expression a t) =
        behind_bodies n a (bodies t) _ (bodies_are n a) (one_body (n + group_count a) t (bodies_are (n + group_count a) t))
    bodies_are n (tree.absent_stopper t) = one_body n t (bodies_are n t)
    bodies_are n (tree.define_group t) = one_body n t (bodies_are n t)
    bodies_are n (tree.ast_group name t position) = one_body n t (bodies_are n t)
    bodies_are n _ = refl

    row_bodies_are : (n : ℕ) (ts : Trees) → row_bodies_in (expected_infos groups reads n ts) ≡ bodies_from n (row_bodies ts)
    row_bodies_are n no_trees = refl
    row_bodies_are n (more_trees t ts) = behind_bodies n t (row_bodies ts) _ (bodies_are n t) (row_bodies_are (n + group_count t) ts)

  -- as often open in the one list as in the other
  abbrev AsOpen : List ℕ → List ℕ → Type 0
  AsOpen xs ys = (j : ℕ) → count_by (λ i. i == j) xs ≡ count_by (λ i. i == j) ys

  one_more_open : (xs ys : List ℕ) (k : ℕ) → AsOpen xs ys → AsOpen (xs ++ k ∷ []) (k ∷ ys)
  one_more_open xs ys k same j =
      let f : ℕ → ℕ = λ i. cond (i == j) 1 0 in
      omega (arith, sum_by-append f xs (k ∷ []), sum_by-cons f k [], sum_by-cons f k ys, same j)

  pub picked : (f : InfoTree → CorePattern) (g : Tree → CorePattern) (d : Tree → InfoTree) → ((t : Tree) → f (d t) ≡ g t) → (o : Option Tree) →
      pat_for f (option_map d o) ≡ pat_for g o
  picked f g d same None = refl
  picked f g d same (Some t) = same t

  call_is : (m : ℕ) (xs ys : List ℕ) → AsOpen xs ys → (k : ℕ) → info_call (bodies_from 0 groups) m xs k ≡ written_call groups m ys k
  unfolding info_call written_call
  call_is zero xs ys same k = refl
  call_is (suc m) xs ys same k =
      let inner = info_call (bodies_from 0 groups) m (xs ++ k ∷ []) in
      let next : 0 + k + 1 ≡ k + 1 = omega arith in
      let calls : inner ≡ written_call groups m (k ∷ ys) = fun_ext (call_is m (xs ++ k ∷ []) (k ∷ ys) (one_more_open xs ys k same)) in
      ap₂ (λ b p. called k (cond b fail p)) (ap (λ c. nat_le max_open_calls_per_group c) (same k))
      (ap (pat_for (λ x. (info_written inner x).front)) (get_from 0 groups k ∙ ap (λ j. option_map (D j) (slice_get groups k)) next)
      ∙ picked (λ x. (info_written inner x).front) (λ body. (written groups (written_call groups m (k ∷ ys)) (k + 1) body).front) (D (k + 1))
      (λ body. ap (λ v. v.front) (known_is inner (k + 1) body) ∙ ap (λ c. (written groups c (k + 1) body).front) calls)
      (slice_get groups k))

pub start_is : (explicit : Bool) (t : Tree) → (properties_in (analysis explicit t)).start ≡ (pattern_in explicit t).first_group
start_is explicit t =
    let pattern = pattern_in explicit t in
    ap (λ f. f.start) (own pattern.groups (is_read (length pattern.groups) t) pattern.first_group t)

pub groups_are : (explicit : Bool) (t : Tree) → groups_in (not explicit) (analysis explicit t)
    ≡ bodies_from (pattern_in explicit t).groups (is_read (length (pattern_in explicit t).groups) t) 0 (pattern_in explicit t).groups
groups_are true t = bodies_are (bodies t) (is_read (length (bodies t)) t) 0 t
groups_are false t =
    let gs = t ∷ bodies t in
    ap (λ l. analysis false t ∷ l) (bodies_are gs (is_read (length gs) t) 1 t)

pub count_is : (explicit : Bool) (t : Tree) → length (groups_in (not explicit) (analysis explicit t)) ≡ length (pattern_in explicit t).groups
count_is explicit t =
    let pattern = pattern_in explicit t in
    ap length (groups_are explicit t) ∙ length_from pattern.groups (is_read (length pattern.groups) t) 0 pattern.groups

pat_of_groups : (whole : Bool) (x : InfoTree) →
    pat_in whole x ≡ info_whole (info_call (groups_in whole x) (max_open_calls_per_group * length (groups_in whole x)) []) x
unfolding pat_in
pat_of_groups whole x = refl

pat_of_written : (p : Pattern) → written_whole p.groups (written_call p.groups (max_open_calls p.groups) []) p.first_group p.tree ≡ core_pattern_of p
unfolding core_pattern_of
pat_of_written p = refl

tree_is : (explicit : Bool) (t : Tree) → (pattern_in explicit t).tree ≡ t
tree_is true t = refl
tree_is false t = refl

-- The whole pattern is that of the definitions.
pub pat_is : (explicit : Bool) (t : Tree) → pat_in (not explicit) (analysis explicit t) ≡ core_pattern_of (pattern_in explicit t)
pat_is explicit t =
    let pattern = pattern_in explicit t in
    let reads = is_read (length pattern.groups) t in
    let n = max_open_calls pattern.groups in
    let x = analysis explicit t in
    let front : List InfoTree → ℕ → CorePattern = λ gs m. info_whole (info_call gs (max_open_calls_per_group * m) []) x in
    pat_of_groups (not explicit) x
    ∙ ap₂ front (groups_are explicit t) (count_is explicit t)
    ∙ ap (λ (c : ℕ → CorePattern). info_whole c x) (fun_ext (call_is pattern.groups reads n [] [] (λ j. refl)))
    ∙ whole_is pattern.groups reads (written_call pattern.groups n []) pattern.first_group t
    ∙ ap (λ r. written_whole pattern.groups (written_call pattern.groups n []) pattern.first_group r) (sym (tree_is explicit t))
    ∙ pat_of_written pattern

-- What stands for calls around which none is open is that of the definitions.
pub calls_are : (explicit : Bool) (t : Tree) → info_call (groups_in (not explicit) (analysis explicit t)) (most_calls_in (groups_in (not explicit) (analysis explicit t))) []
    ≡ written_call (pattern_in explicit t).groups (max_open_calls (pattern_in explicit t).groups) []
calls_are explicit t =
    let pattern = pattern_in explicit t in
    let reads = is_read (length pattern.groups) t in
    ap₂ (λ gs m. info_call gs (max_open_calls_per_group * m) []) (groups_are explicit t) (count_is explicit t)
    ∙ fun_ext (call_is pattern.groups reads (max_open_calls pattern.groups) [] [] (λ j. refl))
