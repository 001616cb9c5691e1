-- A pattern that is written out has the ways of its tree, where a look-ahead may leave out repeated ones.
use Rattle.std.proofs.Common.{◌≡◌, ℕ, zero, suc, ◌+◌, ◌-◌, Bool, true, false, cond, List, [], ◌∷◌, length, map, Option, Some, None, refl, sym, ap, ◌∙◌, subst, slice_index}
use Rattle.std.specs.Prelude.{◌==◌, ◌&&◌, ◌||◌, not, nat_le, nat_lt, option_map, reverse}
use Rattle.std.specs.List.{find, flat_map, filter, list_all}
use Rattle.std.proofs.lemmas.List.{append-nil}
use mathlib.Core.Path.{fun_ext}
use Rattle.fancy_regex_tree.specs.declared.expr.LookAround.{LookAround}
use Rattle.fancy_regex_tree.specs.declared.expr.LookAround.TheVariants.{LookAhead, LookAheadNeg, LookBehind, LookBehindNeg}
use Rattle.fancy_regex_tree.specs.Tree as tree
use Rattle.fancy_regex_tree.specs.Tree.{Tree, Trees, no_trees, more_trees}
use Rattle.fancy_regex_meaning.specs.Positions.{boundaries, position_before}
use Rattle.fancy_regex_meaning.specs.Groups.{pattern_of, group_count}
use Rattle.fancy_regex_meaning.specs.Sizes.{size, target, bound_of}
use Rattle.fancy_regex_meaning.specs.Ways as row
use Rattle.fancy_regex_meaning.specs.Ways.{MatchState, Moves, Meaning, Setting, with_position, set_pair, for_some, is_free, all_of, any_of, keep_only_pairs, match_empty_if, is_none_of, first_only, call_ways, meaning, meanings, ways, is_at_call_limit, max_open_calls}
use Rattle.fancy_regex_meaning.specs.Searches.{first_item, start_way, chosen}
use Rattle.fancy_regex_info.specs.References.{is_read}
use Rattle.fancy_regex_desugar.specs.CorePatterns.{any, literal, class, CorePattern, nothing, read, general_newline, check, continue, keep_out, fail, cat, group, back, atomic, delegate, tail, repeat, backref, exists, conditional, absent}
use Rattle.fancy_regex_desugar.specs.Delegates.{lazily, is_searchable, is_delegated, first_end, begins_tail, ends_until, first_end_until}
use Rattle.fancy_regex_desugar.specs.CoreWays.{end_ways, core_ways}
use Rattle.fancy_regex_desugar.specs.Unfolded.{repeated, Written, pat_for, cat_all, alt_all, first_way_of, any_way_of, look, node, branches, written, written_all, written_call, written_plain, written_tail, written_whole, core_pattern_of}
use Rattle.fancy_regex_desugar.specs.DesugarLaws.{UnfoldedKeepsWays, PatternKeepsMatches}
use Rattle.fancy_regex_desugar.specs.Thinned.{Thinned}
use Rattle.fancy_regex_desugar.proofs.ThinnedLemmas.{Thins, thin_same, thin_equal, thin_append, thin_flat_map, same_found, thin_map, thin_due, thin_up_to, thin_loop, same_first, same_none, same_all_pass, same_choice}
use Rattle.fancy_regex_desugar.proofs.DelegateProofs.{tree_ends, ends_tree, part_of, searched_can_be, own_ways, searchable_way}
use Rattle.fancy_regex_desugar.proofs.LazyLemmas.{any_way}

-- The pattern has these ways, where repeated ones may be left out.
pub record Has (s : Setting) (bound : Option ℕ) (f : Moves) (p : CorePattern) : Type 0 where
  pub is : (w : MatchState) → Thinned (f w) (core_ways s bound p w)

-- And so it has from as far back.
pub record Same (s : Setting) (bound : Option ℕ) (m : Meaning) (u : Written) : Type 0 where
  pub front : Has s bound m.from u.front
  pub behind : Has s bound m.behind u.behind

abbrev pub AllSame : Setting → Option ℕ → List Meaning → List Written → Type 0
AllSame s bound [] [] = Unit {0}
AllSame s bound [] (u ∷ us) = ⊥
AllSame s bound (m ∷ ms) [] = ⊥
AllSame s bound (m ∷ ms) (u ∷ us) = Same s bound m u × AllSame s bound ms us

-- the branch that follows goes by the first way alone
branch_of_first : (ws : List MatchState) (g h : Moves) (w : MatchState) → row.conditional ws g h w ≡ row.conditional (first_only ws) g h w
branch_of_first [] g h w = refl
branch_of_first (v ∷ vs) g h w = refl

thin_branch : (ws : List MatchState) (f g k l : Moves) → Thins f k → Thins g l → (w : MatchState) → Thinned (row.conditional ws f g w) (row.conditional ws k l w)
thin_branch [] f g k l h j w = j w
thin_branch (v ∷ vs) f g k l h j w = h v

-- a look-around leaves a way where there is one
none_left : (w : MatchState) (ws : List MatchState) → is_none_of ws ≡ is_none_of (keep_only_pairs w ws)
none_left w [] = refl
none_left w (v ∷ vs) = refl

module _ (s : Setting) (bound : Option ℕ) where
  has_row : (ms : List Meaning) (us : List Written) → AllSame s bound ms us → Has s bound (all_of ms) (cat_all us)
  unfolding core_ways
  has_row [] [] h = record { is = λ w. thin_same (w ∷ []) }
  has_row [] (u ∷ us) h = absurd h
  has_row (m ∷ ms) [] h = absurd h
  has_row (m ∷ ms) (u ∷ us) h = record {
    is = λ w. thin_flat_map (all_of ms) (core_ways s bound (cat_all us)) (has_row ms us h.1).is (m.from w) (core_ways s bound u.front w) (h.0.front.is w);
  }

  has_front : (ms : List Meaning) (us : List Written) → AllSame s bound ms us → (w : MatchState) →
      Thinned (flat_map (λ m. m.from w) ms) (core_ways s bound (alt_all (map (λ u. u.front) us)) w)
  unfolding core_ways
  has_front [] [] h w = thin_same []
  has_front [] (u ∷ us) h w = absurd h
  has_front (m ∷ ms) [] h w = absurd h
  has_front (m ∷ []) (u ∷ []) h w = subst (λ l. Thinned l (core_ways s bound u.front w)) (sym (append-nil (m.from w))) (h.0.front.is w)
  has_front (m ∷ []) (u ∷ v ∷ us) h w = absurd h.1
  has_front (m ∷ l ∷ ms) (u ∷ []) h w = absurd h.1
  has_front (m ∷ l ∷ ms) (u ∷ v ∷ us) h w =
      thin_append (m.from w) (core_ways s bound u.front w) (flat_map (λ k. k.from w) (l ∷ ms)) (core_ways s bound (alt_all (map (λ x. x.front) (v ∷ us))) w)
      (h.0.front.is w) (has_front (l ∷ ms) (v ∷ us) h.1 w)

  has_behind : (ms : List Meaning) (us : List Written) → AllSame s bound ms us → (w : MatchState) →
      Thinned (flat_map (λ m. m.behind w) ms) (core_ways s bound (alt_all (map (λ u. u.behind) us)) w)
  unfolding core_ways
  has_behind [] [] h w = thin_same []
  has_behind [] (u ∷ us) h w = absurd h
  has_behind (m ∷ ms) [] h w = absurd h
  has_behind (m ∷ []) (u ∷ []) h w = subst (λ l. Thinned l (core_ways s bound u.behind w)) (sym (append-nil (m.behind w))) (h.0.behind.is w)
  has_behind (m ∷ []) (u ∷ v ∷ us) h w = absurd h.1
  has_behind (m ∷ l ∷ ms) (u ∷ []) h w = absurd h.1
  has_behind (m ∷ l ∷ ms) (u ∷ v ∷ us) h w =
      thin_append (m.behind w) (core_ways s bound u.behind w) (flat_map (λ k. k.behind w) (l ∷ ms)) (core_ways s bound (alt_all (map (λ x. x.behind) (v ∷ us))) w)
      (h.0.behind.is w) (has_behind (l ∷ ms) (v ∷ us) h.1 w)

  -- so many characters back, and from there
  has_back : (n : ℕ) (f : Moves) (p : CorePattern) → Has s bound f p →
      Has s bound (λ w. for_some (λ q. f (with_position w q)) (position_before s.text n w.position)) (cat (back n) p)
  unfolding core_ways
  has_back n f p h = record { is = λ w. from_there w (position_before s.text n w.position) }
    where
      from_there : (w : MatchState) (o : Option ℕ) →
          Thinned (for_some (λ q. f (with_position w q)) o) (flat_map (core_ways s bound p) (for_some (λ q. with_position w q ∷ []) o))
      from_there w None = thin_same []
      from_there w (Some q) =
          subst (Thinned (f (with_position w q))) (sym (append-nil (core_ways s bound p (with_position w q)))) (h.is (with_position w q))

  has_choice : (b : Bool) (f g : Moves) (p q : CorePattern) → Has s bound f p → Has s bound g q → Has s bound (λ w. cond b (f w) (g w)) (cond b p q)
  has_choice true f g p q h k = record { is = h.is }
  has_choice false f g p q h k = record { is = k.is }

  -- where a body is delegated, of which the first way counts, that way leads to the end of the search
  abbrev pub FirstIsFound : Tree → Moves → Type 0
  FirstIsFound t f = is_delegated false t ≡ true → (w : MatchState) → first_only (f w) ≡ end_ways (first_end s t w.position) w

  -- where a body is delegated, of which any way counts, a look-around leaves no more of its ways than of the search
  abbrev pub AnyIsFound : Tree → Moves → Type 0
  AnyIsFound t f = is_delegated true t ≡ true → (w : MatchState) →
      Thinned (keep_only_pairs w (f w)) (keep_only_pairs w (end_ways (first_end s (lazily t) w.position) w))

  pub found_first : (groups : List Tree) (call : ℕ → Moves) (n : ℕ) (t : Tree) → FirstIsFound t (meaning s groups call n t).from
  found_first groups call n t h = searchable_way s groups call n t (searched_can_be false t h)

  -- the first way of a body, delegated where it can be
  pub first_way : (t : Tree) (f : Moves) (p : CorePattern) → Has s bound f p → FirstIsFound t f → (w : MatchState) →
      first_only (f w) ≡ first_only (core_ways s bound (first_way_of t p) w)
  unfolding core_ways
  first_way t f p h d w =
      elim (is_delegated false t) as (λ b. is_delegated false t ≡ b → first_only (f w) ≡ first_only (core_ways s bound (cond b (delegate t p) p) w)) [
        | true ↦ λ e. d e w ∙ one_way (first_end s t w.position)
        | false ↦ λ e. same_first (f w) (core_ways s bound p w) (h.is w)
      ] refl
    where
      one_way : (o : Option ℕ) → end_ways o w ≡ first_only (end_ways o w)
      one_way None = refl
      one_way (Some q) = refl

  -- what a look-around leaves
  left : (f : Moves) (p : CorePattern) → Has s bound f p → (w : MatchState) → Thinned (keep_only_pairs w (f w)) (keep_only_pairs w (core_ways s bound p w))
  left f p h w = thin_map (λ v. record w { pairs = v.pairs }) (f w) (core_ways s bound p w) (h.is w)

  -- what a look-ahead leaves of a body, delegated where it can be
  left_of_body : (t : Tree) (f : Moves) (p : CorePattern) → Has s bound f p → AnyIsFound t f → (w : MatchState) →
      Thinned (keep_only_pairs w (f w)) (keep_only_pairs w (core_ways s bound (any_way_of t p) w))
  unfolding core_ways
  left_of_body t f p h d w =
      elim (is_delegated true t) as (λ b. is_delegated true t ≡ b →
      Thinned (keep_only_pairs w (f w)) (keep_only_pairs w (core_ways s bound (cond b (delegate (lazily t) p) p) w))) [
        | true ↦ λ e. d e w
        | false ↦ λ e. left f p h w
      ] refl

  has_look : (t : Tree) (how : LookAround) (m : Meaning) (u : Written) → Same s bound m u → AnyIsFound t m.from → Has s bound (row.look how m) (look t how u)
  unfolding core_ways
  has_look t LookAhead m u h d = record { is = left_of_body t m.from u.front h.front d }
  has_look t LookAheadNeg m u h d = record {
    is = λ w.
        let body : List MatchState = core_ways s bound (any_way_of t u.front) w in
        thin_equal _ _ (ap (λ b. match_empty_if b w)
        (none_left w (m.from w) ∙ same_none (keep_only_pairs w (m.from w)) (keep_only_pairs w body) (left_of_body t m.from u.front h.front d w)
        ∙ sym (none_left w body)));
  }
  has_look t LookBehind m u h d = record { is = left m.behind u.behind h.behind }
  has_look t LookBehindNeg m u h d = record {
    is = λ w. thin_equal _ _ (ap (λ b. match_empty_if b w) (same_none (m.behind w) (core_ways s bound u.behind w) (h.behind.is w)));
  }

  pub has_either : (b : Bool) (f : Moves) (p q : CorePattern) → Has s bound f p → Has s bound f q → Has s bound f (cond b p q)
  has_either true f p q h k = h
  has_either false f p q h k = k

  has_group : (k : ℕ) (f : Moves) (p : CorePattern) → Has s bound f p → Has s bound (row.group k f) (group k p)
  unfolding core_ways
  has_group k f p h = record { is = λ w. thin_map (λ v. set_pair k (w.position, v.position) v) (f w) (core_ways s bound p w) (h.is w) }

  has_atomic : (t : Tree) (f : Moves) (p : CorePattern) → Has s bound f p → FirstIsFound t f → Has s bound (λ w. first_only (f w)) (atomic (first_way_of t p))
  unfolding core_ways
  has_atomic t f p h d = record { is = λ w. thin_equal _ _ (first_way t f p h d w) }

  has_repeat : (lo : ℕ) (hi : Option ℕ) (greedy : Bool) (f : Moves) (p : CorePattern) → Has s bound f p →
      Has s bound (row.repeat s lo hi greedy f) (repeat p lo hi greedy)
  unfolding core_ways
  has_repeat lo None greedy f p h = record { is = thin_due lo f (core_ways s bound p) _ _ h.is (thin_loop (length s.text + 1) greedy f (core_ways s bound p) h.is) }
  has_repeat lo (Some hi) greedy f p h = record { is = thin_due lo f (core_ways s bound p) _ _ h.is (thin_up_to (hi - lo) greedy f (core_ways s bound p) h.is) }

  has_repeated : (lo hi : ℕ) (greedy : Bool) (f : Moves) (p : CorePattern) → Has s bound f p →
      Has s bound (row.repeat s lo (bound_of hi) greedy f) (repeated p lo hi greedy)
  unfolding core_ways
  has_repeated zero zero greedy f p h = record { is = λ w. thin_same (w ∷ []) }
  has_repeated zero (suc hi) greedy f p h = has_repeat 0 (bound_of (suc hi)) greedy f p h
  has_repeated (suc lo) hi greedy f p h = has_repeat (suc lo) (bound_of hi) greedy f p h

  has_conditional : (t : Tree) (f g h : Moves) (p q r : CorePattern) → Has s bound f p → FirstIsFound t f → Has s bound g q → Has s bound h r →
      Has s bound (λ w. row.conditional (f w) g h w) (conditional (first_way_of t p) q r)
  unfolding core_ways
  has_conditional t f g h p q r c d a b = record {
    is = λ w.
        let body : List MatchState = core_ways s bound (first_way_of t p) w in
        let same : row.conditional body g h w ≡ row.conditional (f w) g h w = branch_of_first body g h w
        ∙ ap (λ ws. row.conditional ws g h w) (sym (first_way t f p c d w)) ∙ sym (branch_of_first (f w) g h w) in
        subst (λ l. Thinned l (row.conditional body (core_ways s bound q) (core_ways s bound r) w)) same
        (thin_branch body g h (core_ways s bound q) (core_ways s bound r) a.is b.is w);
  }

  has_absent : (f : Moves) (p : CorePattern) → Has s bound f p → Has s bound (row.absent s f) (absent p)
  unfolding core_ways
  has_absent f p h = record {
    is = λ w.
        let ends : List ℕ = boundaries s.text w.position (length s.text) in
        let ends_after : Moves → ℕ → ℕ → Bool = λ g q b. list_all (λ v. nat_lt q v.position) (g (with_position w b)) in
        let same : (q : ℕ) → ends_after f q ≡ ends_after (core_ways s bound p) q = λ q. fun_ext (λ b.
        same_all_pass (λ v. nat_lt q v.position) (f (with_position w b)) (core_ways s bound p (with_position w b)) (h.is (with_position w b))) in
        let free : is_free s f w ≡ is_free s (core_ways s bound p) w = fun_ext (λ q. ap (λ test. list_all test ends) (same q)) in
        thin_equal _ _ (ap (λ test. map (with_position w) (filter test (reverse ends))) free);
  }

  module _ (groups : List Tree) where
    same_node : (t : Tree) (f : Moves) (p : CorePattern) → Has s bound f p → Same s bound (row.node s groups t f) (node groups t p)
    same_node t f p h = record { front = h; behind = has_back (size groups t).least f p h }

    -- a pattern whose ways are those by definition
    same_leaf : (t : Tree) (p : CorePattern) → Same s bound (row.node s groups t (core_ways s bound p)) (node groups t p)
    same_leaf t p = same_node t (core_ways s bound p) p (record { is = λ w. thin_same (core_ways s bound p w) })

    same_branches : (t : Tree) (ms : List Meaning) (us : List Written) → AllSame s bound ms us →
        Same s bound (row.branches s groups t ms) (branches groups t us)
    same_branches t ms us h =
        let front : Has s bound (any_of ms).from (alt_all (map (λ u. u.front) us)) = record { is = has_front ms us h } in
        let behind : Has s bound (any_of ms).behind (alt_all (map (λ u. u.behind) us)) = record { is = has_behind ms us h } in
        record {
          front = front;
          behind = has_choice (size groups t).always _ _ _ _ (has_back (size groups t).least _ _ front) behind;
        }

    module _ (call : ℕ → Moves) (pat : ℕ → CorePattern) (same_call : (k : ℕ) → Has s bound (call k) (pat k)) where
      mutual
        unfolding core_ways meaning written

        pub same : (n : ℕ) (t : Tree) → Same s bound (meaning s groups call n t) (written groups pat n t)
        same n (tree.alt ts) =
            same_branches (tree.alt ts) (meanings s groups call n ts) (written_all groups pat n ts) (same_all n ts)
        same n (tree.concat ts) =
            same_node (tree.concat ts) _ _ (has_row (meanings s groups call n ts) (written_all groups pat n ts) (same_all n ts))
        same n tree.empty = same_leaf tree.empty nothing
        same n (tree.any newline crlf) = same_leaf (tree.any newline crlf) (read (any newline crlf))
        same n (tree.assertion a) = same_leaf (tree.assertion a) (check a)
        same n (tree.general_newline unicode) = same_leaf (tree.general_newline unicode) (general_newline unicode)
        same n (tree.literal val casei) = same_leaf (tree.literal val casei) (read (literal (slice_index val 0) casei))
        same n (tree.delegate text casei) = same_leaf (tree.delegate text casei) (read (class text casei))
        same n (tree.group t) = same_node (tree.group t) _ _ (has_group n _ _ (same (n + 1) t).front)
        same n (tree.look_around t how) = same_node (tree.look_around t how) _ _
            (has_look t how (meaning s groups call n t) (written groups pat n t) (same n t) (any_way s groups call n t))
        same n (tree.repeat t lo hi greedy) =
            same_node (tree.repeat t lo hi greedy) _ _ (has_repeated lo hi greedy _ _ (same n t).front)
        same n (tree.atomic_group t) =
            same_node (tree.atomic_group t) _ _
            (has_atomic t _ _ (same n t).front (found_first groups call n t))
        same n (tree.backref k casei) = same_leaf (tree.backref k casei) (backref k casei)
        same n (tree.backref_exists k None) = same_leaf (tree.backref_exists k None) (exists k)
        same n (tree.backref_exists k (Some level)) = same_leaf (tree.backref_exists k (Some level)) fail
        same n (tree.conditional c a b) = same_node (tree.conditional c a b) _ _
            (has_conditional c _ _ _ _ _ _ (same n c).front (found_first groups call n c) (same (n + group_count c) a).front
            (same (n + group_count c + group_count a) b).front)
        same n (tree.subroutine_call k) = same_node (tree.subroutine_call k) _ _ (same_call k)
        same n tree.keep_out = same_leaf tree.keep_out keep_out
        same n tree.continue = same_leaf tree.continue continue
        same n (tree.verb v) = same_leaf (tree.verb v) fail
        same n (tree.absent_repeater t) = same_node (tree.absent_repeater t) _ _ (has_absent _ _ (same n t).front)
        same n (tree.define_group t) = same_leaf (tree.define_group t) nothing
        same n (tree.literal_bytes bytes) = same_leaf (tree.literal_bytes bytes) fail
        same n (tree.backref_with_level k level casei) = same_leaf (tree.backref_with_level k level casei) fail
        same n (tree.absent_expression a t) = same_leaf (tree.absent_expression a t) fail
        same n (tree.absent_stopper t) = same_leaf (tree.absent_stopper t) fail
        same n tree.absent_clear = same_leaf tree.absent_clear fail
        same n (tree.ast_group name t position) = same_leaf (tree.ast_group name t position) fail
        same n (tree.ast_backref goal casei level position) = same_leaf (tree.ast_backref goal casei level position) fail
        same n (tree.ast_call goal position) = same_leaf (tree.ast_call goal position) fail
        same n (tree.ast_condition goal level position) = same_leaf (tree.ast_condition goal level position) fail

        pub same_all : (n : ℕ) (ts : Trees) → AllSame s bound (meanings s groups call n ts) (written_all groups pat n ts)
        same_all n no_trees = tt
        same_all n (more_trees t ts) = (same n t, same_all (n + group_count t) ts)

    has_target : (b : Bool) (o : Option Tree) (f : Tree → Moves) (p : Tree → CorePattern) → ((t : Tree) → Has s bound (f t) (p t)) →
        Has s bound (λ w. cond b [] (for_some (λ t. f t w) o)) (cond b fail (pat_for p o))
    unfolding core_ways
    has_target true o f p h = record { is = λ w. thin_same [] }
    has_target false None f p h = record { is = λ w. thin_same [] }
    has_target false (Some t) f p h = record { is = (h t).is }

    pub same_calls : (m : ℕ) (opened : List ℕ) (k : ℕ) → Has s bound (call_ways s groups m opened k) (written_call groups m opened k)
    unfolding core_ways call_ways written_call
    same_calls zero opened k = record { is = λ w. thin_same [] }
    same_calls (suc m) opened k = record {
      is = (has_target (is_at_call_limit opened k) (target groups k)
          (λ body. (meaning s groups (call_ways s groups m (k ∷ opened)) (k + 1) body).from)
          (λ body. (written groups (written_call groups m (k ∷ opened)) (k + 1) body).front)
          (λ body. (same _ _ (same_calls m (k ∷ opened)) (k + 1) body).front)).is;
    }

pub unfolded_has_the_ways : UnfoldedKeepsWays
unfolded_has_the_ways s bound groups m opened n t w =
    let h = same s bound groups _ _ (same_calls s bound groups m opened) n t in
    (h.front.is w, h.behind.is w)

-- the first of the positions that is not after `stop`
until_ends : (stop : ℕ) (w alone : MatchState) (ps : List ℕ) →
    find (ends_until stop) (map (with_position w) ps)
    ≡ find (ends_until stop) (end_ways (option_map (λ v. v.position) (first_item (filter (ends_until stop) (map (with_position alone) ps)))) w)
until_ends stop w alone [] = refl
until_ends stop w alone (p ∷ ps) = by_test (nat_le p stop) refl (until_ends stop w alone ps)
  where
    others : List MatchState
    others = map (with_position alone) ps

    by_test : (b : Bool) → nat_le p stop ≡ b →
        find (ends_until stop) (map (with_position w) ps)
        ≡ find (ends_until stop) (end_ways (option_map (λ v. v.position) (first_item (filter (ends_until stop) others))) w) →
        cond b (Some (with_position w p)) (find (ends_until stop) (map (with_position w) ps))
        ≡ find (ends_until stop) (end_ways (option_map (λ v. v.position)
        (first_item (cond b (with_position alone p ∷ filter (ends_until stop) others) (filter (ends_until stop) others)))) w)
    by_test true e later = ap (λ c. cond c (Some (with_position w p)) None) (sym e)
    by_test false e later = later

-- The first way of a searchable tree that ends in range leads to where its first way in range as a pattern of its own ends.
searchable_way_until : (s : Setting) (groups : List Tree) (call : ℕ → Moves) (n : ℕ) (t : Tree) → is_searchable t ≡ true → (stop : ℕ) (w : MatchState) →
    find (ends_until stop) ((meaning s groups call n t).from w) ≡ find (ends_until stop) (end_ways (first_end_until s t stop w.position) w)
unfolding first_end_until
searchable_way_until s groups call n t h stop w =
    let part = part_of t h in
    let alone = start_way (pattern_of t) w.position in
    ap (find (ends_until stop)) (ends_tree s (is_read (length (pattern_of t).groups) t) groups call 1 n t part.easy part.groupless w)
    ∙ until_ends stop w alone (tree_ends s t w.position)
    ∙ ap (λ l. find (ends_until stop) (end_ways (option_map (λ v. v.position) (first_item (filter (ends_until stop) l))) w)) (sym (own_ways s t h w.position))

module _ (s : Setting) (groups : List Tree) (call : ℕ → Moves) (pat : ℕ → CorePattern) where
  abbrev SameCalls : Option ℕ → Type 0
  SameCalls bound = (k : ℕ) → Has s bound (call k) (pat k)

  -- Without a bound a tail has the ways of its pattern.
  module _ (same_call : SameCalls None) where
    has_plain : (n : ℕ) (ts : Trees) → Has s None (all_of (meanings s groups call n ts)) (written_plain groups pat n ts)
    unfolding core_ways
    has_plain n ts =
        let row : CorePattern = cat_all (written_all groups pat n ts) in
        let h = has_row s None (meanings s groups call n ts) (written_all groups pat n ts) (same_all s None groups call pat same_call n ts) in
        elim (is_delegated false (tree.concat ts)) as (λ b. Has s None (all_of (meanings s groups call n ts)) (cond b (tail (tree.concat ts) row) row)) [
          | true ↦ record { is = h.is }
          | false ↦ h
        ]

    has_tail : (n : ℕ) (ts : Trees) → Has s None (all_of (meanings s groups call n ts)) (written_tail groups pat n ts)
    unfolding core_ways meaning written written_tail
    has_tail n no_trees = record { is = λ w. thin_same (w ∷ []) }
    has_tail n (more_trees t ts) = has_either s None (begins_tail (more_trees t ts)) (all_of (meanings s groups call n (more_trees t ts))) _ _
        (has_plain n (more_trees t ts))
        (record {
          is = λ w. thin_flat_map (all_of (meanings s groups call (n + group_count t) ts)) (core_ways s None (written_tail groups pat (n + group_count t) ts))
              (has_tail (n + group_count t) ts).is _ _ ((same s None groups call pat same_call n t).front.is w);
        })

    has_whole : (n : ℕ) (t : Tree) → Has s None (meaning s groups call n t).from (written_whole groups pat n t)
    unfolding meaning written written_whole
    has_whole n (tree.concat ts) = has_tail n ts
    has_whole n t = (same s None groups call pat same_call n t).front

  -- With a bound the first way in range is the same.
  module _ (stop : ℕ) (same_call : SameCalls (Some stop)) where
    record Reaches (f : Moves) (p : CorePattern) : Type 0 where
      is : (w : MatchState) → find (ends_until stop) (f w) ≡ find (ends_until stop) (core_ways s (Some stop) p w)

    reaches_either : (b : Bool) (f : Moves) (p q : CorePattern) → Reaches f p → Reaches f q → Reaches f (cond b p q)
    reaches_either true f p q h k = h
    reaches_either false f p q h k = k

    reaches_plain : (n : ℕ) (ts : Trees) → Reaches (all_of (meanings s groups call n ts)) (written_plain groups pat n ts)
    unfolding core_ways meaning
    reaches_plain n ts =
        let row : CorePattern = cat_all (written_all groups pat n ts) in
        let h = has_row s (Some stop) (meanings s groups call n ts) (written_all groups pat n ts) (same_all s (Some stop) groups call pat same_call n ts) in
        elim (is_delegated false (tree.concat ts)) as (λ b. is_delegated false (tree.concat ts) ≡ b →
        Reaches (all_of (meanings s groups call n ts)) (cond b (tail (tree.concat ts) row) row)) [
          | true ↦ λ e. record { is = searchable_way_until s groups call n (tree.concat ts) (searched_can_be false (tree.concat ts) e) stop }
          | false ↦ λ e. record { is = λ w. (h.is w).firsts (ends_until stop) }
        ] refl

    reaches_tail : (n : ℕ) (ts : Trees) → Reaches (all_of (meanings s groups call n ts)) (written_tail groups pat n ts)
    unfolding core_ways meaning written written_tail
    reaches_tail n no_trees = record { is = λ w. refl }
    reaches_tail n (more_trees t ts) = reaches_either (begins_tail (more_trees t ts)) (all_of (meanings s groups call n (more_trees t ts))) _ _
        (reaches_plain n (more_trees t ts))
        (record {
          is = λ w. same_found (ends_until stop) (all_of (meanings s groups call (n + group_count t) ts))
              (core_ways s (Some stop) (written_tail groups pat (n + group_count t) ts)) (reaches_tail (n + group_count t) ts).is _ _
              ((same s (Some stop) groups call pat same_call n t).front.is w);
        })

    reaches_whole : (n : ℕ) (t : Tree) → Reaches (meaning s groups call n t).from (written_whole groups pat n t)
    unfolding meaning written written_whole
    reaches_whole n (tree.concat ts) = reaches_tail n ts
    reaches_whole n t = record { is = λ w. ((same s (Some stop) groups call pat same_call n t).front.is w).firsts (ends_until stop) }

-- of the ways that end in range, where no more is asked of them
in_range : (stop : ℕ) (ws : List MatchState) →
    first_item (filter (λ v. nat_le v.position stop && not (false && v.match_start == v.position)) ws) ≡ find (ends_until stop) ws
in_range stop [] = refl
in_range stop (w ∷ ws) = by_test (nat_le w.position stop) (in_range stop ws)
  where
    by_test : (b : Bool) → first_item (filter (λ v. nat_le v.position stop && not (false && v.match_start == v.position)) ws) ≡ find (ends_until stop) ws →
        first_item (cond (b && true) (w ∷ filter (λ v. nat_le v.position stop && not (false && v.match_start == v.position)) ws)
        (filter (λ v. nat_le v.position stop && not (false && v.match_start == v.position)) ws)) ≡ cond b (Some w) (find (ends_until stop) ws)
    by_test true later = refl
    by_test false later = later

abbrev admits : ℕ → Bool → MatchState → Bool
admits stop not_empty v = nat_le v.position stop && not (not_empty && v.match_start == v.position)

by_options : (s : Setting) (p : CorePattern) (w : MatchState) (all : List MatchState) (stop : ℕ) → Thinned all (core_ways s None p w) →
    find (ends_until stop) all ≡ find (ends_until stop) (core_ways s (Some stop) p w) → (longest not_empty : Bool) →
    chosen longest (filter (admits stop not_empty) all)
    ≡ chosen longest (filter (admits stop not_empty) (core_ways s (cond (longest || not_empty) None (Some stop)) p w))
by_options s p w all stop h k true not_empty = same_choice true (admits stop not_empty) all (core_ways s None p w) h
by_options s p w all stop h k false true = same_choice false (admits stop true) all (core_ways s None p w) h
by_options s p w all stop h k false false = in_range stop all ∙ k ∙ sym (in_range stop (core_ways s (Some stop) p w))

pub pattern_has_the_matches : PatternKeepsMatches
unfolding core_pattern_of ways
pattern_has_the_matches s pattern find w =
    let groups = pattern.groups in
    let m = max_open_calls groups in
    let call = call_ways s groups m [] in
    let pat = written_call groups m [] in
    by_options s (core_pattern_of pattern) w _ find.stop
    ((has_whole s groups call pat (same_calls s None groups m []) pattern.first_group pattern.tree).is w)
    ((reaches_whole s groups call pat find.stop (same_calls s (Some find.stop) groups m []) pattern.first_group pattern.tree).is w)
    find.options.longest find.options.find_not_empty
