-- Trees after resolving.
use Rattle.std.proofs.Common.{◌≡◌, ℕ, ℤ, suc, ◌+◌, Bool, true, false, ◌&&◌, List, [], ◌∷◌, ◌++◌, length, Option, Some, None, Result, Ok, Err, refl, ap, sym, ◌∙◌, subst, arith, add-zero}
use Rattle.std.specs.List.{All, filter_map, list_all}
use Rattle.std.proofs.lemmas.Bool.{and_parts, false≢true}
use Rattle.std.proofs.lemmas.List.Folds.{list_all-append}
use Rattle.std.proofs.lemmas.List.{length-append}
use Rattle.std.proofs.lemmas.List.Elements.{filter_map-append, All-nil, All-cons, All-head, All-tail}
use Rattle.fancy_regex_tree.specs.Tree as tree
use Rattle.fancy_regex_tree.specs.Tree.{Tree, Trees, Text, Target, no_trees, more_trees, empty, any, assertion, general_newline, literal, literal_bytes, concat, alt, look_around, delegate}
use Rattle.fancy_regex_tree.specs.Tree.{backref_with_level, atomic_group, keep_out, continue, backref_exists, subroutine_call, verb, absent_repeater, absent_expression, absent_stopper}
use Rattle.fancy_regex_tree.specs.Tree.{absent_clear, define_group, ast_group, ast_backref, ast_call, ast_condition, by_number, by_name, relative}
use Rattle.fancy_regex_tree.specs.Traversal.{nodes, all_nodes}
use Rattle.fancy_regex_tree.specs.Numbering.{PositionedFault, ◌⨟◌, backref_of, call_of, call_target, group_target, resolved, all_resolved, opening_of, counted}
use Rattle.fancy_regex_tree_laws.specs.ResolvedGroups.{counted_body, counted_bodies, group_body, group_bodies, is_group, is_resolved_node, AreGroups, GroupsLaw, ResolvedLaw}

abbrev pub answer : {A : Type 0} → A → Result A PositionedFault
answer a = Ok a

pub ok_same : {A : Type 0} (x y : A) → answer x ≡ Ok y → x ≡ y
ok_same x y h = ap (λ r. elim r [ Ok z ↦ z | Err e ↦ x ]) h

-- what is answered after a step
pub after : {A B : Type 0} (r : Result A PositionedFault) (f : A → Result B PositionedFault) (y : B) → r ⨟ f ≡ Ok y → (x : A) × (r ≡ Ok x) × (f x ≡ Ok y)
after (Ok x) f y h = (x, refl, h)
after (Err e) f y h = cc

all_both : (p : Tree → Bool) (xs ys : List Tree) → list_all p xs ≡ true → list_all p ys ≡ true → list_all p (xs ++ ys) ≡ true
all_both p xs ys h k = list_all-append p xs ys ∙ (λ i. h i && k i)

module _ (ignored : Bool) (named : Text → Option ℕ) where
  bodies : List Tree → List Tree
  bodies = filter_map (counted_body ignored)

  -- nodes after n openings became these, with so many openings before their end
  pub record Became (n : ℕ) (from to : List Tree) (m : ℕ) : Type 0 where
    pub count : m ≡ n + length (filter_map (counted_body ignored) from)
    pub groups : AreGroups ignored named n (filter_map (counted_body ignored) from) (filter_map group_body to)
    pub done : list_all is_resolved_node to ≡ true

  both_groups : (n : ℕ) (bs gs cs hs : List Tree) → AreGroups ignored named n bs gs → AreGroups ignored named (n + length bs) cs hs →
      AreGroups ignored named n (bs ++ cs) (gs ++ hs)
  both_groups n [] [] cs hs h k = subst (λ m. AreGroups ignored named m cs hs) (add-zero n) k
  both_groups n [] (g ∷ gs) cs hs h k = absurd h
  both_groups n (b ∷ bs) [] cs hs h k = absurd h
  both_groups n (b ∷ bs) (g ∷ gs) cs hs h k =
      let e : n + suc (length bs) ≡ suc n + length bs = omega arith in
      (h.0, both_groups (suc n) bs gs cs hs h.1 (subst (λ m. AreGroups ignored named m cs hs) e k))

  both : {n m l : ℕ} {xs ys us vs : List Tree} → Became n xs ys m → Became m us vs l → Became n (xs ++ us) (ys ++ vs) l
  both {n} {m} {l} {xs} {ys} {us} {vs} h k =
      let split = filter_map-append (counted_body ignored) xs us in
      let parted = filter_map-append group_body ys vs in
      let size = length-append (filter_map (counted_body ignored) xs) (filter_map (counted_body ignored) us) in
      let total : length (filter_map (counted_body ignored) (xs ++ us)) ≡ length (filter_map (counted_body ignored) xs) + length (filter_map (counted_body ignored) us) =
      ap length split ∙ size in
      record {
        count = omega (arith, h.count, k.count, total);
        groups = subst (λ bs. AreGroups ignored named n bs (filter_map group_body (ys ++ vs))) (sym split)
            (subst (λ gs. AreGroups ignored named n (filter_map (counted_body ignored) xs ++ filter_map (counted_body ignored) us) gs) (sym parted)
            (both_groups n (filter_map (counted_body ignored) xs) (filter_map group_body ys) (filter_map (counted_body ignored) us) (filter_map group_body vs) h.groups
            (subst (λ j. AreGroups ignored named j (filter_map (counted_body ignored) us) (filter_map group_body vs)) h.count k.groups)));
        done = all_both is_resolved_node ys vs h.done k.done;
      }

  -- a tree
  abbrev pub Turns : ℕ → Tree → Tree × ℕ → Type 0
  Turns n t found = Became n (nodes t) (nodes found.0) found.1

  -- one that stays
  stays : (n : ℕ) (t u : Tree) (found : Tree × ℕ) → answer (u, n) ≡ Ok found → Became n (nodes t) (nodes u) n → Turns n t found
  stays n t u found h same = subst (λ r. Turns n t r) (ok_same (u, n) found h) same

  alone : (n : ℕ) (t u : Tree) → filter_map (counted_body ignored) (nodes t) ≡ [] → filter_map group_body (nodes u) ≡ [] → list_all is_resolved_node (nodes u) ≡ true →
      Became n (nodes t) (nodes u) n
  alone n t u h k done = record {
    count = sym (ap (λ bs. n + length bs) h ∙ add-zero n);
    groups = subst (λ bs. AreGroups ignored named n bs (filter_map group_body (nodes u))) (sym h) (subst (λ gs. AreGroups ignored named n [] gs) (sym k) tt);
    done = done;
  }

  leaf : (n : ℕ) (t : Tree) (found : Tree × ℕ) → answer (t, n) ≡ Ok found → filter_map (counted_body ignored) (nodes t) ≡ [] → filter_map group_body (nodes t) ≡ []
      → list_all is_resolved_node (nodes t) ≡ true → Turns n t found
  leaf n t found h bs gs done = stays n t t found h (alone n t t bs gs done)

  -- a node with one child
  over : (n : ℕ) (t e : Tree) (f : Tree → Tree) (found : Tree × ℕ) → (resolved ignored named n e ⨟ λ r. Ok (f r.0, r.1)) ≡ Ok found
      → ((r : Tree × ℕ) → resolved ignored named n e ≡ Ok r → Turns n e r) → ((r : Tree × ℕ) → Turns n e r → Turns n t (f r.0, r.1)) → Turns n t found
  over n t e f found h below lift =
      let step = after (resolved ignored named n e) (λ r. Ok (f r.0, r.1)) found h in
      subst (λ r. Turns n t r) (ok_same (f step.0.0, step.0.1) found step.2) (lift step.0 (below step.0 step.1))

  -- a group
  opened : (n : ℕ) (t e : Tree) (found : Tree × ℕ) → (resolved ignored named (suc n) e ⨟ λ r. Ok (tree.group r.0, r.1)) ≡ Ok found
      → ((r : Tree × ℕ) → resolved ignored named (suc n) e ≡ Ok r → Turns (suc n) e r)
      → filter_map (counted_body ignored) (nodes t) ≡ e ∷ filter_map (counted_body ignored) (nodes e) → Turns n t found
  opened n t e found h below first =
      let step = after (resolved ignored named (suc n) e) (λ r. Ok (tree.group r.0, r.1)) found h in
      let inner = below step.0 step.1 in
      let size : length (filter_map (counted_body ignored) (nodes t)) ≡ suc (length (filter_map (counted_body ignored) (nodes e))) = ap length first in
      subst (λ r. Turns n t r) (ok_same (tree.group step.0.0, step.0.1) found step.2) (record {
        count = omega (arith, inner.count, size);
        groups = subst (λ bs. AreGroups ignored named n bs (step.0.0 ∷ filter_map group_body (nodes step.0.0))) (sym first) ((step.0.1, step.1), inner.groups);
        done = inner.done;
      })

  -- the same nodes but for one that is no group
  under : (n m : ℕ) (t u : Tree) (xs ys : List Tree) → filter_map (counted_body ignored) (nodes t) ≡ filter_map (counted_body ignored) xs
      → filter_map group_body (nodes u) ≡ filter_map group_body ys → list_all is_resolved_node (nodes u) ≡ list_all is_resolved_node ys → Became n xs ys m → Became n (nodes t) (nodes u) m
  under n m t u xs ys bs gs done h = record {
    count = h.count ∙ ap (λ cs. n + length cs) (sym bs);
    groups = subst (λ cs. AreGroups ignored named n cs (filter_map group_body (nodes u))) (sym bs)
        (subst (λ ds. AreGroups ignored named n (filter_map (counted_body ignored) xs) ds) (sym gs) h.groups);
    done = done ∙ h.done;
  }

  -- references
  backref_alone : (n : ℕ) (t : Tree) (level : Option ℤ) (casei : Bool) (g : ℕ) → filter_map (counted_body ignored) (nodes t) ≡ [] → Became n (nodes t) (nodes (backref_of level casei g)) n
  backref_alone n t None casei g h = alone n t (tree.backref g casei) h refl refl
  backref_alone n t (Some level) casei g h = alone n t (backref_with_level g level casei) h refl refl

  call_alone : (n : ℕ) (t : Tree) (target : Target) (position : ℕ) (o : Option ℕ) → filter_map (counted_body ignored) (nodes t) ≡ [] →
      Became n (nodes t) (nodes (elim o [ Some g ↦ subroutine_call g | None ↦ ast_call target position ])) n
  call_alone n t target position (Some g) h = alone n t (subroutine_call g) h refl refl
  call_alone n t target position None h = alone n t (ast_call target position) h refl refl

  two_parts : (n : ℕ) (t e d : Tree) (f : Tree → Tree → Tree) (found : Tree × ℕ)
      → (resolved ignored named n e ⨟ λ first. resolved ignored named first.1 d ⨟ λ second. Ok (f first.0 second.0, second.1)) ≡ Ok found
      → ((r : Tree × ℕ) → resolved ignored named n e ≡ Ok r → Turns n e r) → ((m : ℕ) (r : Tree × ℕ) → resolved ignored named m d ≡ Ok r → Turns m d r)
      → ((u v : Tree) (m : ℕ) → Became n (nodes e ++ nodes d) (nodes u ++ nodes v) m → Turns n t (f u v, m)) → Turns n t found
  two_parts n t e d f found h left right lift =
      let first = after (resolved ignored named n e) (λ r. resolved ignored named r.1 d ⨟ λ second. Ok (f r.0 second.0, second.1)) found h in
      let second = after (resolved ignored named first.0.1 d) (λ r. Ok (f first.0.0 r.0, r.1)) found first.2 in
      subst (λ r. Turns n t r) (ok_same (f first.0.0 second.0.0, second.0.1) found second.2)
      (lift first.0.0 second.0.0 second.0.1 (both (left first.0 first.1) (right first.0.1 second.0 second.1)))

  row_of : (n : ℕ) (t : Tree) (es : Trees) (f : Trees → Tree) (found : Tree × ℕ) → (all_resolved ignored named n es ⨟ λ r. Ok (f r.0, r.1)) ≡ Ok found
      → ((r : Trees × ℕ) → all_resolved ignored named n es ≡ Ok r → Became n (all_nodes es) (all_nodes r.0) r.1)
      → ((r : Trees × ℕ) → Became n (all_nodes es) (all_nodes r.0) r.1 → Turns n t (f r.0, r.1)) → Turns n t found
  row_of n t es f found h below lift =
      let step = after (all_resolved ignored named n es) (λ r. Ok (f r.0, r.1)) found h in
      subst (λ r. Turns n t r) (ok_same (f step.0.0, step.0.1) found step.2) (lift step.0 (below step.0 step.1))

mutual
  pub turns : (ignored : Bool) (named : Text → Option ℕ) (n : ℕ) (t : Tree) (found : Tree × ℕ) → resolved ignored named n t ≡ Ok found → Turns ignored named n t found
  turns i g n empty found h = leaf i g n empty found h refl refl refl
  turns i g n (any a b) found h = leaf i g n (any a b) found h refl refl refl
  turns i g n (assertion a) found h = leaf i g n (assertion a) found h refl refl refl
  turns i g n (general_newline a) found h = leaf i g n (general_newline a) found h refl refl refl
  turns i g n (literal a b) found h = leaf i g n (literal a b) found h refl refl refl
  turns i g n (literal_bytes a) found h = leaf i g n (literal_bytes a) found h refl refl refl
  turns i g n (concat es) found h =
      row_of i g n (concat es) es (λ us. concat us) found h (λ r k. row_turns i g n es r k) (λ r k. under i g n r.1 (concat es) (concat r.0) (all_nodes es) (all_nodes r.0) refl refl refl k)
  turns i g n (alt es) found h =
      row_of i g n (alt es) es (λ us. alt us) found h (λ r k. row_turns i g n es r k) (λ r k. under i g n r.1 (alt es) (alt r.0) (all_nodes es) (all_nodes r.0) refl refl refl k)
  turns i g n (tree.group e) found h = opened i g n (tree.group e) e found h (λ r k. turns i g (suc n) e r k) refl
  turns i g n (look_around e a) found h =
      over i g n (look_around e a) e (λ u. look_around u a) found h (λ r k. turns i g n e r k) (λ r k. under i g n r.1 (look_around e a) (look_around r.0 a) (nodes e) (nodes r.0) refl refl refl k)
  turns i g n (tree.repeat e lo hi greedy) found h =
      over i g n (tree.repeat e lo hi greedy) e (λ u. tree.repeat u lo hi greedy) found h (λ r k. turns i g n e r k)
      (λ r k. under i g n r.1 (tree.repeat e lo hi greedy) (tree.repeat r.0 lo hi greedy) (nodes e) (nodes r.0) refl refl refl k)
  turns i g n (delegate a b) found h = leaf i g n (delegate a b) found h refl refl refl
  turns i g n (tree.backref a b) found h = leaf i g n (tree.backref a b) found h refl refl refl
  turns i g n (backref_with_level a b d) found h = leaf i g n (backref_with_level a b d) found h refl refl refl
  turns i g n (atomic_group e) found h =
      over i g n (atomic_group e) e (λ u. atomic_group u) found h (λ r k. turns i g n e r k) (λ r k. under i g n r.1 (atomic_group e) (atomic_group r.0) (nodes e) (nodes r.0) refl refl refl k)
  turns i g n keep_out found h = leaf i g n keep_out found h refl refl refl
  turns i g n continue found h = leaf i g n continue found h refl refl refl
  turns i g n (backref_exists a b) found h = leaf i g n (backref_exists a b) found h refl refl refl
  turns i g n (tree.conditional c a b) found h =
      let first = after (resolved i g n c) (λ r. resolved i g r.1 a ⨟ λ second. resolved i g second.1 b ⨟ λ third. Ok (tree.conditional r.0 second.0 third.0, third.1)) found h in
      let second = after (resolved i g first.0.1 a) (λ r. resolved i g r.1 b ⨟ λ third. Ok (tree.conditional first.0.0 r.0 third.0, third.1)) found first.2 in
      let third = after (resolved i g second.0.1 b) (λ r. Ok (tree.conditional first.0.0 second.0.0 r.0, r.1)) found second.2 in
      subst (λ r. Turns i g n (tree.conditional c a b) r) (ok_same (tree.conditional first.0.0 second.0.0 third.0.0, third.0.1) found third.2)
      (under i g n third.0.1 (tree.conditional c a b) (tree.conditional first.0.0 second.0.0 third.0.0) (nodes c ++ (nodes a ++ nodes b)) (nodes first.0.0 ++ (nodes second.0.0 ++ nodes third.0.0))
      refl refl refl
      (both i g (turns i g n c first.0 first.1) (both i g (turns i g first.0.1 a second.0 second.1) (turns i g second.0.1 b third.0 third.1))))
  turns i g n (subroutine_call a) found h = leaf i g n (subroutine_call a) found h refl refl refl
  turns i g n (verb a) found h = leaf i g n (verb a) found h refl refl refl
  turns i g n (absent_repeater e) found h =
      over i g n (absent_repeater e) e (λ u. absent_repeater u) found h (λ r k. turns i g n e r k)
      (λ r k. under i g n r.1 (absent_repeater e) (absent_repeater r.0) (nodes e) (nodes r.0) refl refl refl k)
  turns i g n (absent_expression e d) found h =
      two_parts i g n (absent_expression e d) e d (λ u v. absent_expression u v) found h (λ r k. turns i g n e r k) (λ m r k. turns i g m d r k)
      (λ u v m k. under i g n m (absent_expression e d) (absent_expression u v) (nodes e ++ nodes d) (nodes u ++ nodes v) refl refl refl k)
  turns i g n (absent_stopper e) found h =
      over i g n (absent_stopper e) e (λ u. absent_stopper u) found h (λ r k. turns i g n e r k)
      (λ r k. under i g n r.1 (absent_stopper e) (absent_stopper r.0) (nodes e) (nodes r.0) refl refl refl k)
  turns i g n absent_clear found h = leaf i g n absent_clear found h refl refl refl
  turns i g n (define_group e) found h =
      over i g n (define_group e) e (λ u. define_group u) found h (λ r k. turns i g n e r k)
      (λ r k. under i g n r.1 (define_group e) (define_group r.0) (nodes e) (nodes r.0) refl refl refl k)
  turns i g n (ast_group (Some name) e position) found h = opened i g n (ast_group (Some name) e position) e found h (λ r k. turns i g (suc n) e r k) refl
  turns false g n (ast_group None e position) found h = opened false g n (ast_group None e position) e found h (λ r k. turns false g (suc n) e r k) refl
  turns true g n (ast_group None e position) found h =
      under true g n found.1 (ast_group None e position) found.0 (nodes e) (nodes found.0) refl refl refl (turns true g n e found h)
  turns i g n (ast_backref target casei level position) found h =
      let step = after (group_target g (Some n) n position target) (λ k. Ok (backref_of level casei k, n)) found h in
      stays i g n (ast_backref target casei level position) (backref_of level casei step.0) found step.2 (backref_alone i g n (ast_backref target casei level position) level casei step.0 refl)
  turns i g n (ast_call target position) found h =
      stays i g n (ast_call target position) (call_of g n position target) found h (call_alone i g n (ast_call target position) target position (call_target g n target) refl)
  turns i g n (ast_condition target level position) found h =
      let step = after (group_target g None n position target) (λ k. Ok (backref_exists k level, n)) found h in
      stays i g n (ast_condition target level position) (backref_exists step.0 level) found step.2
      (alone i g n (ast_condition target level position) (backref_exists step.0 level) refl refl refl)

  row_turns : (ignored : Bool) (named : Text → Option ℕ) (n : ℕ) (ts : Trees) (found : Trees × ℕ) → all_resolved ignored named n ts ≡ Ok found
      → Became ignored named n (all_nodes ts) (all_nodes found.0) found.1
  row_turns i g n no_trees found h =
      subst (λ r. Became i g n [] (all_nodes r.0) r.1) (ok_same (no_trees, n) found h) (record { count = sym (add-zero n); groups = tt; done = refl })
  row_turns i g n (more_trees t ts) found h =
      let first = after (resolved i g n t) (λ r. all_resolved i g r.1 ts ⨟ λ others. Ok (more_trees r.0 others.0, others.1)) found h in
      let others = after (all_resolved i g first.0.1 ts) (λ r. Ok (more_trees first.0.0 r.0, r.1)) found first.2 in
      subst (λ r. Became i g n (all_nodes (more_trees t ts)) (all_nodes r.0) r.1) (ok_same (more_trees first.0.0 others.0.0, others.0.1) found others.2)
      (both i g (turns i g n t first.0 first.1) (row_turns i g first.0.1 ts others.0 others.1))

-- the openings that count and their bodies are as many
module _ (ts : List Tree) where
  unnamed : (i : Bool) (e : Tree) (position : ℕ) → length (filter_map (counted_body i) ts) ≡ length (counted i (filter_map opening_of ts)) →
      length (filter_map (counted_body i) (ast_group None e position ∷ ts)) ≡ length (counted i (filter_map opening_of (ast_group None e position ∷ ts)))
  unnamed true e position h = h
  unnamed false e position h = ap (λ k. suc k) h

  one : (i : Bool) (t : Tree) → is_group t ≡ false → length (filter_map (counted_body i) ts) ≡ length (counted i (filter_map opening_of ts)) →
      length (filter_map (counted_body i) (t ∷ ts)) ≡ length (counted i (filter_map opening_of (t ∷ ts)))
  one i (ast_group (Some name) e position) free h = ap (λ k. suc k) h
  one i (ast_group None e position) free h = unnamed i e position h
  one i (tree.group e) free h = absurd (false≢true (sym free))
  one i _ free h = h

pub no_group : (ignored : Bool) (ts : List Tree) → All (λ u. is_group u ≡ false) ts →
    length (filter_map (counted_body ignored) ts) ≡ length (counted ignored (filter_map opening_of ts))
no_group ignored [] h = refl
no_group ignored (t ∷ ts) h =
    one ts ignored t (All-head (λ u. is_group u ≡ false) t ts h) (no_group ignored ts (All-tail (λ u. is_group u ≡ false) t ts h))

pub groups_are_many : (ignored : Bool) (named : Text → Option ℕ) (n : ℕ) (bs gs : List Tree) → AreGroups ignored named n bs gs → length gs ≡ length bs
groups_are_many ignored named n [] [] h = refl
groups_are_many ignored named n [] (g ∷ gs) h = absurd h
groups_are_many ignored named n (b ∷ bs) [] h = absurd h
groups_are_many ignored named n (b ∷ bs) (g ∷ gs) h = ap (λ k. suc k) (groups_are_many ignored named (suc n) bs gs h.1)

pub groups_law : GroupsLaw
groups_law = record {
  bodies = λ ignored named n m t u h. (turns ignored named n t (u, m) h).groups;
  number = λ ignored named n m t u read h. (turns ignored named n t (u, m) h).count ∙ ap (λ k. n + k) (no_group ignored (nodes t) read);
  count = λ ignored named n m t u read h.
      groups_are_many ignored named n (counted_bodies ignored t) (group_bodies u) (turns ignored named n t (u, m) h).groups ∙ no_group ignored (nodes t) read;
}

pub all_hold : (p : Tree → Bool) (ts : List Tree) → list_all p ts ≡ true → All (λ t. p t ≡ true) ts
all_hold p [] h = All-nil (λ t. p t ≡ true)
all_hold p (t ∷ ts) h = let parts = and_parts (p t) (list_all p ts) h in All-cons (λ t. p t ≡ true) t ts parts.0 (all_hold p ts parts.1)

pub resolved_law : ResolvedLaw
resolved_law = record { nothing_left = λ ignored named n m t u h. all_hold is_resolved_node (nodes u) (turns ignored named n t (u, m) h).done }
