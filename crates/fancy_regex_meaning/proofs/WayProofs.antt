-- The proofs of the laws.
use Rattle.std.proofs.Common.{◌≡◌, ℕ, zero, suc, ◌+◌, ◌-◌, ◌<◌, ◌≤◌, Bool, true, false, cond, List, [], ◌∷◌, ◌++◌, length, Option, Some, None, refl, sym, ap, subst, ◌∙◌, arith, ◌==◌}
use Rattle.std.specs.List.{flat_map}
use Rattle.std.proofs.lemmas.Grind.{flat_map-append}
use Rattle.std.proofs.lemmas.List.{append-nil}
use Rattle.std.proofs.lemmas.Bool.{cond_both, and_parts, eqb-true, false≢true}
use Rattle.std.proofs.lemmas.Option.{same_Some, option_and_then_some}
use Rattle.std.specs.Prelude.{◌&&◌}
use Rattle.std.specs.Char.{len_utf8}
use Rattle.std.proofs.lemmas.Str.{len_utf8_ascii}
use Rattle.std.proofs.Math.Nat.{le_trans, le_refl}
use Rattle.regex_hir.specs.Text.{char_at, char_before, is_some_and, is_boundary}
use Rattle.fancy_regex_meaning.specs.Positions.{position_before, is_before_byte}
use Rattle.fancy_regex_meaning.specs.Sizes.{size, target, bound_of}
use Rattle.fancy_regex_meaning.specs.Groups.{group_count}
use Rattle.regex_hir.proofs.TextLemmas.{char_at_ascii}
use Rattle.fancy_regex_tree.specs.declared.expr.LookAround.{LookAround}
use Rattle.fancy_regex_tree.specs.declared.expr.LookAround.TheVariants.{LookAhead, LookAheadNeg, LookBehind, LookBehindNeg}
use Rattle.fancy_regex_tree.specs.Tree as tree
use Rattle.fancy_regex_tree.specs.Tree.{Tree, Trees, empty, any, assertion, general_newline, literal, literal_bytes, concat, alt, look_around, delegate, backref_with_level, atomic_group, keep_out, continue, backref_exists, subroutine_call, verb, absent_repeater, absent_expression, absent_stopper, absent_clear, define_group, ast_group, ast_backref, ast_call, ast_condition, no_trees, more_trees}
use Rattle.fancy_regex_meaning.specs.Ways.{MatchState, Moves, Meaning, Setting, all_of, any_of, branches, meaning, meanings, call_ways, ways, max_open_calls, keep_only_pairs, first_only, set_pair, with_position, match_empty, never_match, reset_match_start, look, match_empty_if, is_none_of, prefer, due, up_to, loop, conditional, character, group, node, repeat, absent, backref, again, pair_of, general_newline_ways, spells_alike, same_bytes, is_newline, is_free}
use Rattle.fancy_regex_meaning.specs.WayLaws.{Each, PreservesForward, Preserves, IsForwardTo, AtomicHasOne, LookAroundHasEach, NegativeStays, RowSplits}
use Rattle.fancy_regex_meaning.proofs.EachLemmas.{Each-weaker, Each-append, Each-map, Each-flat_map, Each-filter, Each-cond, Each-for_some, Each-reverse, boundaries_pass}

one_at_most : (ws : List MatchState) → length (first_only ws) ≤ 1
one_at_most [] = omega arith
one_at_most (w ∷ ws) = omega arith

pub atomic_has_one : (s : Setting) (groups : List Tree) → AtomicHasOne s groups
unfolding meaning
atomic_has_one s groups call n t w = one_at_most _

pub look_around_has_each : (s : Setting) (groups : List Tree) → LookAroundHasEach s groups
unfolding meaning
look_around_has_each s groups call n t w = (refl, refl)

pub negative_stays : (s : Setting) (groups : List Tree) → NegativeStays s groups
unfolding meaning
negative_stays s groups call n t w = (refl, refl)

flat_map_twice : {A B C : Type 0} (f : A → List B) (g : B → List C) (xs : List A) →
    flat_map g (flat_map f xs) ≡ flat_map (λ x. flat_map g (f x)) xs
flat_map_twice f g [] = refl
flat_map_twice f g (x ∷ xs) = flat_map-append g (f x) (flat_map f xs) ∙ ap (λ ys. flat_map g (f x) ++ ys) (flat_map_twice f g xs)

flat_map_same : {A B : Type 0} (f g : A → List B) → ((x : A) → f x ≡ g x) → (xs : List A) → flat_map f xs ≡ flat_map g xs
flat_map_same f g h [] = refl
flat_map_same f g h (x ∷ xs) = λ i. h x i ++ flat_map_same f g h xs i

one_way : (f : Moves) (w : MatchState) → f w ≡ flat_map f (w ∷ [])
one_way f w = sym (append-nil (f w))

pub row_splits : RowSplits
row_splits [] ns w = one_way (all_of ns) w
row_splits (m ∷ ms) ns w =
    flat_map_same _ _ (λ v. row_splits ms ns v) (m.from w) ∙ sym (flat_map_twice (all_of ms) (all_of ns) (m.from w))

-- What keeps a fact about ways: the steps that a way is made of.
pub record Keeps (s : Setting) (Good : MatchState → Type 0) : Type 0 where
  pub past_char : (w : MatchState) (c : ℕ) → Good w → char_at s.text w.position ≡ Some c → Good (with_position w (w.position + len_utf8 c))
  pub before_char : (w : MatchState) (c : ℕ) → Good w → char_before s.text w.position ≡ Some c → Good (with_position w (w.position - len_utf8 c))
  pub goes_back : (w v : MatchState) → Good w → Good v → Good (record w { pairs = v.pairs })
  pub pair : (k : ℕ) (w v : MatchState) → Good w → Good v → w.position ≤ v.position → Good (set_pair k (w.position, v.position) v)
  pub keep : (w : MatchState) → Good w → Good (record w { match_start = w.position })
  pub again : (k : ℕ) (casei : Bool) (a b : ℕ) (w : MatchState) → Good w → pair_of w k ≡ Some (a, b) →
      cond casei (spells_alike s a b w.position (w.position + (b - a))) (same_bytes s a b w.position (w.position + (b - a))) ≡ true →
      Good (with_position w (w.position + (b - a)))
  pub jump : (w : MatchState) (q : ℕ) → Good w → q ≤ length s.text → is_boundary s.text q ≡ true → Good (with_position w q)

module _ (s : Setting) (Good : MatchState → Type 0) (keeps : Keeps s Good) where
  -- a relation between where a way begins and where it leads, kept by each step
  onward_same : PreservesForward Good match_empty
  onward_same w h = ((le_refl w.position, h), tt)

  -- one after the other
  onward_flat_map : (f g : Moves) → PreservesForward Good f → PreservesForward Good g → PreservesForward Good (λ w. flat_map g (f w))
  onward_flat_map f g p q w h =
      Each-flat_map (IsForwardTo Good w) (IsForwardTo Good w) g
      (λ v o. Each-weaker _ _ (λ u k. (le_trans o.0 k.0, k.1)) (g v) (q v o.1)) (f w) (p w h)

  character_onward : (test : ℕ → Bool) → PreservesForward Good (character s test)
  character_onward test w h =
      Each-for_some (IsForwardTo Good w) _ (char_at s.text w.position) (λ c e.
      Each-cond _ (test c) (with_position w (w.position + len_utf8 c) ∷ []) []
      ((omega arith, keeps.past_char w c h e), tt) tt)

  stay_onward : (test : MatchState → Bool) → PreservesForward Good (λ w. match_empty_if (test w) w)
  stay_onward test w h = Each-cond _ (test w) (w ∷ []) [] (onward_same w h) tt

  prefer_onward : (greedy : Bool) (w : MatchState) (xs ys : List MatchState) → Each (IsForwardTo Good w) xs → Each (IsForwardTo Good w) ys →
      Each (IsForwardTo Good w) (prefer greedy xs ys)
  prefer_onward true w xs ys h k = Each-append _ xs ys h k
  prefer_onward false w xs ys h k = Each-append _ ys xs k h

  due_onward : (n : ℕ) (body rest : Moves) → PreservesForward Good body → PreservesForward Good rest → PreservesForward Good (due n body rest)
  due_onward zero body rest p q = q
  due_onward (suc n) body rest p q = onward_flat_map body (due n body rest) p (due_onward n body rest p q)

  up_to_onward : (n : ℕ) (greedy : Bool) (body : Moves) → PreservesForward Good body → PreservesForward Good (up_to n greedy body)
  up_to_onward zero greedy body p w h = onward_same w h
  up_to_onward (suc n) greedy body p w h =
      prefer_onward greedy w _ _ (onward_flat_map body (up_to n greedy body) p (up_to_onward n greedy body p) w h) (onward_same w h)

  loop_onward : (n : ℕ) (greedy : Bool) (body : Moves) → PreservesForward Good body → PreservesForward Good (loop n greedy body)
  loop_onward zero greedy body p w h = tt
  loop_onward (suc n) greedy body p w h =
      prefer_onward greedy w _ _
      (Each-flat_map (IsForwardTo Good w) (IsForwardTo Good w) _
      (λ v o. Each-cond _ (v.position == w.position) (v ∷ []) (loop n greedy body v) (o, tt)
      (Each-weaker _ _ (λ u k. (omega arith, k.1)) (loop n greedy body v) (loop_onward n greedy body p v o.1)))
      (body w) (p w h))
      (onward_same w h)

  repeat_onward : (lo : ℕ) (hi : Option ℕ) (greedy : Bool) (body : Moves) → PreservesForward Good body →
      PreservesForward Good (repeat s lo hi greedy body)
  repeat_onward lo None greedy body p = due_onward lo body _ p (loop_onward (length s.text + 1) greedy body p)
  repeat_onward lo (Some hi) greedy body p = due_onward lo body _ p (up_to_onward (hi - lo) greedy body p)

  keep_onward : PreservesForward Good reset_match_start
  keep_onward w h = ((omega arith, keeps.keep w h), tt)

  group_onward : (k : ℕ) (body : Moves) → PreservesForward Good body → PreservesForward Good (group k body)
  group_onward k body p w h = Each-map (IsForwardTo Good w) (IsForwardTo Good w) _ (λ v o. (o.0, keeps.pair k w v h o.1 o.0)) (body w) (p w h)

  pairs_onward : (w : MatchState) → Good w → (vs : List MatchState) → Each Good vs → Each (IsForwardTo Good w) (keep_only_pairs w vs)
  pairs_onward w h [] e = tt
  pairs_onward w h (v ∷ vs) e = ((omega arith, keeps.goes_back w v h e.0), pairs_onward w h vs e.1)

  look_onward : (how : LookAround) (m : Meaning) → PreservesForward Good m.from × Preserves Good m.behind → PreservesForward Good (look how m)
  look_onward LookAhead m p w h = pairs_onward w h (m.from w) (Each-weaker _ _ (λ v o. o.1) (m.from w) (p.0 w h))
  look_onward LookAheadNeg m p w h = stay_onward (λ v. is_none_of (m.from v)) w h
  look_onward LookBehind m p w h = pairs_onward w h (m.behind w) (p.1 w h)
  look_onward LookBehindNeg m p w h = stay_onward (λ v. is_none_of (m.behind v)) w h

  first_onward : (w : MatchState) (vs : List MatchState) → Each (IsForwardTo Good w) vs → Each (IsForwardTo Good w) (first_only vs)
  first_onward w [] h = tt
  first_onward w (v ∷ vs) h = (h.0, tt)

  conditional_onward : (w : MatchState) → Good w → (vs : List MatchState) (a b : Moves) → Each (IsForwardTo Good w) vs →
      PreservesForward Good a → PreservesForward Good b → Each (IsForwardTo Good w) (conditional vs a b w)
  conditional_onward w h [] a b e p q = q w h
  conditional_onward w h (v ∷ vs) a b e p q = Each-weaker _ _ (λ u k. (omega arith, k.1)) (a v) (p v e.0.1)

  again_onward : (k : ℕ) (casei : Bool) (x y : ℕ) (w : MatchState) → Good w → pair_of w k ≡ Some (x, y) → Each (IsForwardTo Good w) (again s casei x y w)
  again_onward k casei x y w h e =
      let q : ℕ = w.position + (y - x) in
      cond_both (cond casei (spells_alike s x y w.position q) (same_bytes s x y w.position q)) (with_position w q ∷ []) [] (Each (IsForwardTo Good w))
      (λ same. ((omega arith, keeps.again k casei x y w h e same), tt)) (λ other. tt)

  backref_onward : (k : ℕ) (casei : Bool) (o : Option (ℕ × ℕ)) (w : MatchState) → Good w → pair_of w k ≡ o → Each (IsForwardTo Good w) (backref s casei o w)
  backref_onward k casei None w h e = tt
  backref_onward k casei (Some pair) w h e = again_onward k casei pair.0 pair.1 w h e

  pub byte_is : (o : Option ℕ) (x : ℕ) → is_some_and o (λ c. c == x) ≡ true → o ≡ Some x
  byte_is None x e = absurd (false≢true e)
  byte_is (Some y) x e = ap Some (eqb-true y x e)

  past_ascii : (w : MatchState) (x : ℕ) → x < 128 → Good w → is_before_byte s.text x w.position ≡ true → Good (with_position w (w.position + 1))
  past_ascii w x small h e =
      subst (λ n. Good (with_position w (w.position + n))) (len_utf8_ascii x small)
      (keeps.past_char w x h (char_at_ascii s.text w.position x (byte_is _ x e) small))

  newline_onward : (unicode : Bool) → PreservesForward Good (general_newline_ways s unicode)
  newline_onward unicode w h =
      cond_both (is_before_byte s.text 13 w.position && is_before_byte s.text 10 (w.position + 1)) (with_position w (w.position + 2) ∷ [])
      (character s (is_newline s unicode) w) (Each (IsForwardTo Good w))
      (λ e. let both = and_parts _ _ e in
      let two : w.position + 1 + 1 ≡ w.position + 2 = omega arith in (
        (
          omega arith,
          subst (λ q. Good (with_position w q)) two
              (past_ascii (with_position w (w.position + 1)) 10 (omega arith) (past_ascii w 13 (omega arith) h both.0) both.1),
        ),
        tt,
      ))
      (λ e. character_onward (is_newline s unicode) w h)

  absent_onward : (body : Moves) → PreservesForward Good (absent s body)
  absent_onward body w h =
      Each-map _ (IsForwardTo Good w) (with_position w) (λ q k. (k.0.0, keeps.jump w q h k.0.1 k.1)) _
      (Each-filter _ (is_free s body w) _ (Each-reverse _ _ (boundaries_pass s.text w.position (length s.text))))

  all_onward : (ms : List Meaning) → Each (λ m. PreservesForward Good m.from × Preserves Good m.behind) ms → PreservesForward Good (all_of ms)
  all_onward [] h = onward_same
  all_onward (m ∷ ms) h = onward_flat_map m.from (all_of ms) h.0.0 (all_onward ms h.1)

  any_onward : (ms : List Meaning) → Each (λ m. PreservesForward Good m.from × Preserves Good m.behind) ms →
      PreservesForward Good (any_of ms).from × Preserves Good (any_of ms).behind
  any_onward [] h = (λ w k. tt, λ w k. tt)
  any_onward (m ∷ ms) h =
      let rest = any_onward ms h.1 in
      (λ w k. Each-append _ (m.from w) _ (h.0.0 w k) (rest.0 w k), λ w k. Each-append _ (m.behind w) _ (h.0.1 w k) (rest.1 w k))

  before_well : (n : ℕ) (w : MatchState) (q : ℕ) → Good w → position_before s.text n w.position ≡ Some q → Good (with_position w q)
  before_well zero w q h e = subst (λ x. Good (with_position w x)) (same_Some w.position q e) h
  before_well (suc n) w q h e =
      option_and_then_some _ (char_before s.text w.position) q e (λ c found next.
      before_well n (with_position w (w.position - len_utf8 c)) q (keeps.before_char w c h found) next)

  module _ (groups : List Tree) where
    node_onward : (t : Tree) (moves : Moves) → PreservesForward Good moves →
        PreservesForward Good (node s groups t moves).from × Preserves Good (node s groups t moves).behind
    node_onward t moves p = (
      p,
      λ w h.
          Each-for_some _ _ (position_before s.text (size groups t).least w.position) (λ q e.
          Each-weaker _ _ (λ v o. o.1) (moves (with_position w q)) (p (with_position w q) (before_well _ w q h e))),
    )

    branches_onward : (t : Tree) (ms : List Meaning) → Each (λ m. PreservesForward Good m.from × Preserves Good m.behind) ms →
        PreservesForward Good (branches s groups t ms).from × Preserves Good (branches s groups t ms).behind
    branches_onward t ms h =
        let any = any_onward ms h in
        (any.0, λ w k. Each-cond Good (size groups t).always _ _ ((node_onward t (any_of ms).from any.0).1 w k) (any.1 w k))

    module _ (call : ℕ → Moves) (calls_onward : (k : ℕ) → PreservesForward Good (call k)) where
      mutual
        unfolding meaning

        pub meaning_onward : (n : ℕ) (t : Tree) →
            PreservesForward Good (meaning s groups call n t).from × Preserves Good (meaning s groups call n t).behind
        meaning_onward n (alt ts) = branches_onward (alt ts) _ (meanings_onward n ts)
        meaning_onward n (concat ts) = node_onward _ _ (all_onward _ (meanings_onward n ts))
        meaning_onward n empty = node_onward _ match_empty onward_same
        meaning_onward n (any newline crlf) = node_onward _ _ (character_onward _)
        meaning_onward n (assertion a) = node_onward _ _ (stay_onward _)
        meaning_onward n (general_newline unicode) = node_onward _ _ (newline_onward unicode)
        meaning_onward n (literal val casei) = node_onward _ _ (character_onward _)
        meaning_onward n (delegate class casei) = node_onward _ _ (character_onward _)
        meaning_onward n (tree.group t) = node_onward _ _ (group_onward n _ (meaning_onward (n + 1) t).0)
        meaning_onward n (look_around t how) = node_onward _ _ (look_onward how _ (meaning_onward n t))
        meaning_onward n (tree.repeat t lo hi greedy) =
            node_onward _ _ (repeat_onward lo (bound_of hi) greedy _ (meaning_onward n t).0)
        meaning_onward n (atomic_group t) = node_onward _ _ (λ w h. first_onward w _ ((meaning_onward n t).0 w h))
        meaning_onward n (tree.backref k casei) = node_onward _ _ (λ w h. backref_onward k casei _ w h refl)
        meaning_onward n (backref_exists k None) = node_onward _ _ (stay_onward _)
        meaning_onward n (backref_exists k (Some level)) = node_onward _ never_match (λ w h. tt)
        meaning_onward n (tree.conditional c a b) = node_onward _ _ (λ w h.
            conditional_onward w h _ _ _ ((meaning_onward n c).0 w h) (meaning_onward (n + group_count c) a).0
            (meaning_onward (n + group_count c + group_count a) b).0)
        meaning_onward n (subroutine_call k) = node_onward _ _ (calls_onward k)
        meaning_onward n keep_out = node_onward _ reset_match_start keep_onward
        meaning_onward n continue = node_onward _ _ (stay_onward _)
        meaning_onward n (verb v) = node_onward _ never_match (λ w h. tt)
        meaning_onward n (absent_repeater t) = node_onward _ _ (absent_onward (meaning s groups call n t).from)
        meaning_onward n (define_group t) = node_onward _ match_empty onward_same
        meaning_onward n (literal_bytes bytes) = node_onward _ never_match (λ w h. tt)
        meaning_onward n (backref_with_level k level casei) = node_onward _ never_match (λ w h. tt)
        meaning_onward n (absent_expression a t) = node_onward _ never_match (λ w h. tt)
        meaning_onward n (absent_stopper t) = node_onward _ never_match (λ w h. tt)
        meaning_onward n absent_clear = node_onward _ never_match (λ w h. tt)
        meaning_onward n (ast_group name t position) = node_onward _ never_match (λ w h. tt)
        meaning_onward n (ast_backref goal casei level position) = node_onward _ never_match (λ w h. tt)
        meaning_onward n (ast_call goal position) = node_onward _ never_match (λ w h. tt)
        meaning_onward n (ast_condition goal level position) = node_onward _ never_match (λ w h. tt)

        meanings_onward : (n : ℕ) (ts : Trees) →
            Each (λ m. PreservesForward Good m.from × Preserves Good m.behind) (meanings s groups call n ts)
        meanings_onward n no_trees = tt
        meanings_onward n (more_trees t ts) = (meaning_onward n t, meanings_onward (n + group_count t) ts)

    pub calls_onward : (n : ℕ) (opened : List ℕ) (k : ℕ) → PreservesForward Good (call_ways s groups n opened k)
    unfolding call_ways
    calls_onward zero opened k w h = tt
    calls_onward (suc n) opened k w h =
        Each-cond _ _ [] _ tt (Each-for_some _ _ (target groups k) (λ body e.
        (meaning_onward (call_ways s groups n (k ∷ opened)) (calls_onward n (k ∷ opened)) (k + 1) body).0 w h))

pub ways_go_well : (s : Setting) (Good : MatchState → Type 0) → Keeps s Good → (groups : List Tree) (n : ℕ) (t : Tree) → PreservesForward Good (ways s groups n t)
unfolding ways
ways_go_well s Good keeps groups n t =
    (meaning_onward s Good keeps groups (call_ways s groups (max_open_calls groups) []) (calls_onward s Good keeps groups _ []) n t).0
