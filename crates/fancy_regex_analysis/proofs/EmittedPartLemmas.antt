-- What is written out as a whole has all parts that are written out.
use Rattle.std.proofs.Common.{◌≡◌, ℕ, zero, suc, ◌<◌, ◌⊎◌, ⊎_elim, inl, inr, Bool, true, false, ◌||◌, ◌==◌, if◌then◌else◌, List, [], ◌∷◌, ◌++◌, refl, ap, sym, subst, ◌∙◌, arith}
use Rattle.std.specs.List.{Contains, list_any}
use Rattle.std.proofs.lemmas.List.Elements.{Contains-push_cases, Contains-append_left, Contains-append_right, Contains-append_cases}
use Rattle.fancy_regex_tree.specs.Tree.{Tree, Trees, concat, alt, group, look_around, repeat, atomic_group, conditional, subroutine_call, absent_repeater}
use Rattle.fancy_regex_tree.specs.Tree.{absent_expression, absent_stopper, define_group, ast_group, no_trees, more_trees}
use Rattle.fancy_regex_tree.specs.Traversal.{subtrees, listed}
use Rattle.fancy_regex_analysis.specs.EmittedParts.{in_look_around, some_descendant, some_of_row, some_emitted, emitted_calls, emitted_calls_in_row, IsWhole}
use Rattle.fancy_regex_analysis.specs.EmittedParts.{itself, called, inside_of_children, skips_children, IsEmitted, the_root, child, body, SomeEmittedPart}
use Rattle.fancy_regex_analysis.specs.declared.emitted.Inside.{Inside}
use Rattle.fancy_regex_analysis.specs.declared.emitted.Inside.TheVariants.{Nothing, Absent}
use Rattle.fancy_regex_analysis.specs.declared.emitted.EmittedCall.{EmittedCall}
use Rattle.fancy_regex_info.proofs.ReachabilityLemmas.{or_left, or_right, or_cases}
use Rattle.fancy_regex_analysis.proofs.AnyLemmas.{any_has}

here : {X : Type 0} (x : X) (xs : List X) → Contains (x ∷ xs) x
here x xs = (0, omega arith, refl)

there : {X : Type 0} (y : X) (xs : List X) (x : X) → Contains xs x → Contains (y ∷ xs) x
there y xs x c = (suc c.0, omega (arith, c.1), c.2)

none_there : {X : Type 0} (x : X) → Contains [] x → ⊥
none_there x c = let low : c.0 < 0 = c.1 in omega arith

first_or_later : {X : Type 0} (y : X) (xs : List X) (x : X) → Contains (y ∷ xs) x → (y ≡ x) ⊎ Contains xs x
first_or_later y xs x (zero, low, is) = inl is
first_or_later y xs x (suc n, low, is) = inr (n, omega arith, is)

unless : (b : Bool) (xs : List EmittedCall) (c : EmittedCall) → Contains (if b then [] else xs) c → (b ≡ false) × Contains xs c
unless true xs c h = absurd (none_there c h)
unless false xs c h = (refl, h)

unless_true : (b c : Bool) → (if b then false else c) ≡ true → (b ≡ false) × (c ≡ true)
unless_true true c h = cc
unless_true false c h = (refl, h)

-- What shows in a child shows in the node, and so does what is called.
or_nothing : (b : Bool) → b ≡ (b || false)
or_nothing true = refl
or_nothing false = refl

module _ (test : Inside → Tree → Bool) where
  row_is : (i : Inside) (ts : Trees) → some_of_row test i ts ≡ list_any (some_emitted test i) (listed ts)
  unfolding some_descendant some_of_row
  row_is i no_trees = refl
  row_is i (more_trees t ts) = ap (λ b. some_emitted test i t || b) (row_is i ts)

  below_is : (i : Inside) (t : Tree) → skips_children t ≡ false →
      some_descendant test i t ≡ list_any (some_emitted test (inside_of_children i t)) (subtrees t)
  unfolding some_descendant some_of_row
  below_is i (concat ts) h = row_is i ts
  below_is i (alt ts) h = row_is i ts
  below_is i (group t) h = or_nothing (some_emitted test i t)
  below_is i (look_around t how) h = or_nothing (some_emitted test (in_look_around i) t)
  below_is i (repeat t lo hi greedy) h =
      ap (λ b. if b then false else some_emitted test i t) h ∙ or_nothing (some_emitted test i t)
  below_is i (atomic_group t) h = or_nothing (some_emitted test i t)
  below_is i (conditional c a b) h =
      ap (λ x. some_emitted test i c || (some_emitted test i a || x)) (or_nothing (some_emitted test i b))
  below_is i (absent_repeater t) h = or_nothing (some_emitted test Absent t)
  below_is i (absent_expression a t) h = ap (λ x. some_emitted test Absent a || x) (or_nothing (some_emitted test Absent t))
  below_is i (absent_stopper t) h = or_nothing (some_emitted test Absent t)
  below_is i (define_group t) h = cc
  below_is i (ast_group name t position) h = or_nothing (some_emitted test i t)
  below_is i t h = refl

  child_shows : (i : Inside) (t u : Tree) → skips_children t ≡ false → Contains (subtrees t) u →
      some_emitted test (inside_of_children i t) u ≡ true → some_emitted test i t ≡ true
  child_shows i t u seen c h =
      or_right (test i t) (some_descendant test i t)
      (below_is i t seen ∙ any_has (some_emitted test (inside_of_children i t)) (subtrees t) u c h)

only_child : (t u : Tree) → Contains (t ∷ []) u → t ≡ u
only_child t u m = ⊎_elim (λ e. e) (λ e. absurd (none_there u e)) (first_or_later t [] u m)

row_calls : (i : Inside) (ts : Trees) (u : Tree) → Contains (listed ts) u → (c : EmittedCall) → Contains (emitted_calls i u) c →
    Contains (emitted_calls_in_row i ts) c
unfolding emitted_calls emitted_calls_in_row
row_calls i no_trees u m c h = absurd (none_there u m)
row_calls i (more_trees t ts) u m c h =
    ⊎_elim
    (λ e. Contains-append_left (emitted_calls i t) (emitted_calls_in_row i ts) c (subst (λ v. Contains (emitted_calls i v) c) (sym e) h))
    (λ e. Contains-append_right (emitted_calls i t) (emitted_calls_in_row i ts) c (row_calls i ts u e c h))
    (first_or_later t (listed ts) u m)

child_calls : (i : Inside) (t u : Tree) → skips_children t ≡ false → Contains (subtrees t) u → (c : EmittedCall) →
    Contains (emitted_calls (inside_of_children i t) u) c → Contains (emitted_calls i t) c
unfolding emitted_calls emitted_calls_in_row
child_calls i (concat ts) u seen m c h = row_calls i ts u m c h
child_calls i (alt ts) u seen m c h = row_calls i ts u m c h
child_calls i (group t) u seen m c h = subst (λ v. Contains (emitted_calls i v) c) (sym (only_child t u m)) h
child_calls i (look_around t how) u seen m c h = subst (λ v. Contains (emitted_calls (in_look_around i) v) c) (sym (only_child t u m)) h
child_calls i (repeat t lo hi greedy) u seen m c h =
    subst (λ b. Contains (if b then [] else emitted_calls i t) c) (sym seen) (subst (λ v. Contains (emitted_calls i v) c) (sym (only_child t u m)) h)
child_calls i (atomic_group t) u seen m c h = subst (λ v. Contains (emitted_calls i v) c) (sym (only_child t u m)) h
child_calls i (conditional p a b) u seen m c h =
    ⊎_elim
    (λ e. Contains-append_left (emitted_calls i p) (emitted_calls i a ++ emitted_calls i b) c (subst (λ v. Contains (emitted_calls i v) c) (sym e) h))
    (λ e. Contains-append_right (emitted_calls i p) (emitted_calls i a ++ emitted_calls i b) c
    (⊎_elim
    (λ f. Contains-append_left (emitted_calls i a) (emitted_calls i b) c (subst (λ v. Contains (emitted_calls i v) c) (sym f) h))
    (λ f. Contains-append_right (emitted_calls i a) (emitted_calls i b) c (subst (λ v. Contains (emitted_calls i v) c) (sym (only_child b u f)) h))
    (first_or_later a (b ∷ []) u e)))
    (first_or_later p (a ∷ b ∷ []) u m)
child_calls i (absent_repeater t) u seen m c h = subst (λ v. Contains (emitted_calls Absent v) c) (sym (only_child t u m)) h
child_calls i (absent_expression a t) u seen m c h =
    ⊎_elim
    (λ e. Contains-append_left (emitted_calls Absent a) (emitted_calls Absent t) c (subst (λ v. Contains (emitted_calls Absent v) c) (sym e) h))
    (λ e. Contains-append_right (emitted_calls Absent a) (emitted_calls Absent t) c (subst (λ v. Contains (emitted_calls Absent v) c) (sym (only_child t u e)) h))
    (first_or_later a (t ∷ []) u m)
child_calls i (absent_stopper t) u seen m c h = subst (λ v. Contains (emitted_calls Absent v) c) (sym (only_child t u m)) h
child_calls i (define_group t) u seen m c h = cc
child_calls i (ast_group name t position) u seen m c h = subst (λ v. Contains (emitted_calls i v) c) (sym (only_child t u m)) h
child_calls i t u seen m c h = absurd (none_there u m)

module _ (groups : List Tree) (root : Tree) where
  abbrev W : Inside → Tree → Type 0
  W = IsEmitted groups root

  -- Down from a part that is written out.
  mutual
    unfolding emitted_calls emitted_calls_in_row

    call_written : (i : Inside) (t : Tree) → W i t → (c : EmittedCall) → Contains (emitted_calls i t) c → W c.inside (subroutine_call c.group)
    call_written i (subroutine_call k) w c h =
        ⊎_elim (λ e. absurd (none_there c e))
        (λ (e : record { group = k; inside = i } ≡ c). subst (λ (d : EmittedCall). W d.inside (subroutine_call d.group)) e w)
        (Contains-push_cases [] (record { group = k; inside = i }) c h)
    call_written i (concat ts) w c h = row_written i ts (λ u e. child i (concat ts) u w refl e) c h
    call_written i (alt ts) w c h = row_written i ts (λ u e. child i (alt ts) u w refl e) c h
    call_written i (group t) w c h = call_written i t (child i (group t) t w refl (here t [])) c h
    call_written i (look_around t how) w c h = call_written (in_look_around i) t (child i (look_around t how) t w refl (here t [])) c h
    call_written i (repeat t lo hi greedy) w c h =
        let some = unless (hi == 0) (emitted_calls i t) c h in
        call_written i t (child i (repeat t lo hi greedy) t w some.0 (here t [])) c some.1
    call_written i (atomic_group t) w c h = call_written i t (child i (atomic_group t) t w refl (here t [])) c h
    call_written i (conditional p a b) w c h =
        ⊎_elim
        (λ e. call_written i p (child i (conditional p a b) p w refl (here p (a ∷ b ∷ []))) c e)
        (λ e. ⊎_elim
        (λ f. call_written i a (child i (conditional p a b) a w refl (there p (a ∷ b ∷ []) a (here a (b ∷ [])))) c f)
        (λ f. call_written i b (child i (conditional p a b) b w refl (there p (a ∷ b ∷ []) b (there a (b ∷ []) b (here b [])))) c f)
        (Contains-append_cases (emitted_calls i a) (emitted_calls i b) c e))
        (Contains-append_cases (emitted_calls i p) (emitted_calls i a ++ emitted_calls i b) c h)
    call_written i (absent_repeater t) w c h = call_written Absent t (child i (absent_repeater t) t w refl (here t [])) c h
    call_written i (absent_expression a t) w c h =
        ⊎_elim
        (λ e. call_written Absent a (child i (absent_expression a t) a w refl (here a (t ∷ []))) c e)
        (λ e. call_written Absent t (child i (absent_expression a t) t w refl (there a (t ∷ []) t (here t []))) c e)
        (Contains-append_cases (emitted_calls Absent a) (emitted_calls Absent t) c h)
    call_written i (absent_stopper t) w c h = call_written Absent t (child i (absent_stopper t) t w refl (here t [])) c h
    call_written i (ast_group name t position) w c h = call_written i t (child i (ast_group name t position) t w refl (here t [])) c h
    call_written i t w c h = absurd (none_there c h)

    row_written : (i : Inside) (ts : Trees) → ((u : Tree) → Contains (listed ts) u → W i u) → (c : EmittedCall) →
        Contains (emitted_calls_in_row i ts) c → W c.inside (subroutine_call c.group)
    row_written i no_trees all c h = absurd (none_there c h)
    row_written i (more_trees t ts) all c h =
        ⊎_elim (λ e. call_written i t (all t (here t (listed ts))) c e)
        (λ e. row_written i ts (λ u f. all u (there t (listed ts) u f)) c e)
        (Contains-append_cases (emitted_calls i t) (emitted_calls_in_row i ts) c h)

  whole_written : (x : Inside) (y : Tree) → IsWhole groups root x y → W x y
  whole_written x y itself = the_root
  whole_written x y (called i t u c whole h is) = body c.inside c.group u (call_written i t (whole_written i t whole) c h) is

  module _ (test : Inside → Tree → Bool) where
    step : (i : Inside) (t : Tree) → W i t → (some_descendant test i t ≡ true → SomeEmittedPart groups root test) →
        some_emitted test i t ≡ true → SomeEmittedPart groups root test
    step i t w rest h = ⊎_elim (λ e. (i, t, w, e)) rest (or_cases (test i t) (some_descendant test i t) h)

    mutual
      unfolding some_descendant some_of_row

      below_found : (i : Inside) (t : Tree) → W i t → some_descendant test i t ≡ true → SomeEmittedPart groups root test
      below_found i (concat ts) w h = row_found i ts (λ u e. child i (concat ts) u w refl e) h
      below_found i (alt ts) w h = row_found i ts (λ u e. child i (alt ts) u w refl e) h
      below_found i (group t) w h = let v = child i (group t) t w refl (here t []) in step i t v (below_found i t v) h
      below_found i (look_around t how) w h =
          let v = child i (look_around t how) t w refl (here t []) in step (in_look_around i) t v (below_found (in_look_around i) t v) h
      below_found i (repeat t lo hi greedy) w h =
          let some = unless_true (hi == 0) (some_emitted test i t) h in
          let v = child i (repeat t lo hi greedy) t w some.0 (here t []) in step i t v (below_found i t v) some.1
      below_found i (atomic_group t) w h = let v = child i (atomic_group t) t w refl (here t []) in step i t v (below_found i t v) h
      below_found i (conditional p a b) w h =
          let x = child i (conditional p a b) p w refl (here p (a ∷ b ∷ [])) in
          let y = child i (conditional p a b) a w refl (there p (a ∷ b ∷ []) a (here a (b ∷ []))) in
          let z = child i (conditional p a b) b w refl (there p (a ∷ b ∷ []) b (there a (b ∷ []) b (here b []))) in
          ⊎_elim (λ e. step i p x (below_found i p x) e)
          (λ e. ⊎_elim (λ f. step i a y (below_found i a y) f) (λ f. step i b z (below_found i b z) f)
          (or_cases (some_emitted test i a) (some_emitted test i b) e))
          (or_cases (some_emitted test i p) (some_emitted test i a || some_emitted test i b) h)
      below_found i (absent_repeater t) w h =
          let v = child i (absent_repeater t) t w refl (here t []) in step Absent t v (below_found Absent t v) h
      below_found i (absent_expression a t) w h =
          let y = child i (absent_expression a t) a w refl (here a (t ∷ [])) in
          let z = child i (absent_expression a t) t w refl (there a (t ∷ []) t (here t [])) in
          ⊎_elim (λ e. step Absent a y (below_found Absent a y) e) (λ e. step Absent t z (below_found Absent t z) e)
          (or_cases (some_emitted test Absent a) (some_emitted test Absent t) h)
      below_found i (absent_stopper t) w h =
          let v = child i (absent_stopper t) t w refl (here t []) in step Absent t v (below_found Absent t v) h
      below_found i (ast_group name t position) w h =
          let v = child i (ast_group name t position) t w refl (here t []) in step i t v (below_found i t v) h
      below_found i t w h = cc

      row_found : (i : Inside) (ts : Trees) → ((u : Tree) → Contains (listed ts) u → W i u) → some_of_row test i ts ≡ true → SomeEmittedPart groups root test
      row_found i no_trees all h = cc
      row_found i (more_trees t ts) all h =
          let v = all t (here t (listed ts)) in
          ⊎_elim (λ e. step i t v (below_found i t v) e)
          (λ e. row_found i ts (λ u f. all u (there t (listed ts) u f)) e)
          (or_cases (some_emitted test i t) (some_of_row test i ts) h)

    -- what shows in the whole shows in a part that is written out
    pub part_found : (i : Inside) (t : Tree) → IsWhole groups root i t → some_emitted test i t ≡ true → SomeEmittedPart groups root test
    part_found i t whole = let w = whole_written i t whole in step i t w (below_found i t w)

  -- Up from a part that is written out: what shows or is called in it does in a whole.
  abbrev Above : Inside → Tree → Type 0
  Above i t = (j : Inside) × (r : Tree) × IsWhole groups root j r
      × ((test : Inside → Tree → Bool) → some_emitted test i t ≡ true → some_emitted test j r ≡ true)
      × ((c : EmittedCall) → Contains (emitted_calls i t) c → Contains (emitted_calls j r) c)

  own_call : (i : Inside) (k : ℕ) → Contains (emitted_calls i (subroutine_call k)) (record { group = k; inside = i })
  unfolding emitted_calls emitted_calls_in_row
  own_call i k = here (record { group = k; inside = i }) []

  above : (x : Inside) (y : Tree) → W x y → Above x y
  above x y the_root = (Nothing, root, itself, (λ test h. h), (λ c h. h))
  above x y (child i t u w seen m) =
      let a = above i t w in
      (a.0, a.1, a.2, (λ test h. a.3 test (child_shows test i t u seen m h)), (λ c h. a.4 c (child_calls i t u seen m c h)))
  above x y (body i k u w is) =
      let a = above i (subroutine_call k) w in
      let c : EmittedCall = record { group = k; inside = i } in
      (i, u, called a.0 a.1 u c a.2 (a.4 c (own_call i k)) is, (λ test h. h), (λ d h. h))

  -- what a part that is written out shows, a whole does
  pub whole_found : (test : Inside → Tree → Bool) → SomeEmittedPart groups root test →
      (j : Inside) × (r : Tree) × IsWhole groups root j r × (some_emitted test j r ≡ true)
  whole_found test p =
      let a = above p.0 p.1 p.2 in
      (a.0, a.1, a.2, a.3 test (or_left (test p.0 p.1) (some_descendant test p.0 p.1) p.3))
