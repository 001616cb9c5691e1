-- Where no node is `\K`, the start of a match stays where it was tried.
use Rattle.std.proofs.Common.{◌≡◌, ℕ, zero, suc, ◌+◌, ◌-◌, Bool, true, false, cond, List, [], ◌∷◌, ◌++◌, length, Option, Some, None, refl, sym, subst, ◌∙◌, ◌==◌, slice_get}
use Rattle.std.specs.Prelude.{◌&&◌}
use Rattle.std.specs.List.{flat_map, list_any}
use Rattle.std.proofs.lemmas.Bool.{or_parts, false≢true}
use Rattle.std.proofs.lemmas.Option.{none-some, same_Some}
use Rattle.std.proofs.lemmas.List.Folds.{list_any-append}
use Rattle.regex_hir.specs.Text.{char_at}
use Rattle.fancy_regex_meaning.specs.Positions.{is_before_byte}
use Rattle.fancy_regex_meaning.specs.Sizes.{target, bound_of}
use Rattle.fancy_regex_meaning.specs.Groups.{group_count, bodies, row_bodies, pattern_of}
use Rattle.fancy_regex_tree.specs.declared.expr.LookAround.{LookAround}
use Rattle.fancy_regex_tree.specs.declared.expr.LookAround.TheVariants.{LookAhead, LookAheadNeg, LookBehind, LookBehindNeg}
use Rattle.fancy_regex_tree.specs.Tree as tree
use Rattle.fancy_regex_tree.specs.Tree.{Tree, Trees, empty, any, assertion, general_newline, literal, literal_bytes, concat, alt, look_around, delegate, backref_with_level, atomic_group, keep_out, continue, backref_exists, subroutine_call, verb, absent_repeater, absent_expression, absent_stopper, absent_clear, define_group, ast_group, ast_backref, ast_call, ast_condition, no_trees, more_trees}
use Rattle.fancy_regex_tree.specs.Traversal.{nodes, all_nodes}
use Rattle.fancy_regex_meaning.specs.Ways.{MatchState, Moves, Meaning, Setting, all_of, any_of, meaning, meanings, call_ways, ways, max_open_calls, keep_only_pairs, first_only, with_position, match_empty, look, match_empty_if, is_none_of, prefer, due, up_to, loop, conditional, character, group, repeat, absent, backref, general_newline_ways, is_newline, is_free}
use Rattle.fancy_regex_meaning.specs.WayLaws.{Each}
use Rattle.fancy_regex_meaning.proofs.EachLemmas.{Each-weaker, Each-append, Each-map, Each-flat_map, Each-filter, Each-cond, Each-for_some, Each-reverse, boundaries_pass}
use Rattle.fancy_regex_bytes.specs.StartBytes.{is_keep_out, has_keep_out}

abbrev pub SameStart : MatchState → MatchState → Type 0
SameStart w v = v.match_start ≡ w.match_start

abbrev Keeps : Moves → Type 0
Keeps moves = (w : MatchState) → Each (SameStart w) (moves w)

abbrev IsClean : Tree → Type 0
IsClean t = list_any is_keep_out (nodes t) ≡ false

clean_in_both : (xs ys : List Tree) → list_any is_keep_out (xs ++ ys) ≡ false → (list_any is_keep_out xs ≡ false) × (list_any is_keep_out ys ≡ false)
clean_in_both xs ys h = or_parts _ _ (sym (list_any-append is_keep_out xs ys) ∙ h)

clean_at : (groups : List Tree) (k : ℕ) (body : Tree) → Each IsClean groups → slice_get groups k ≡ Some body → IsClean body
clean_at [] k body h e = absurd (none-some body e)
clean_at (t ∷ ts) zero body h e = subst IsClean (same_Some t body e) h.0
clean_at (t ∷ ts) (suc k) body h e = clean_at ts k body h.1 e

kept_same : Keeps match_empty
kept_same w = (refl, tt)

follows : (w v : MatchState) (us : List MatchState) → SameStart w v → Each (SameStart v) us → Each (SameStart w) us
follows w v us h k = Each-weaker _ _ (λ u o. o ∙ h) us k

kept_flat_map : (f g : Moves) → Keeps f → Keeps g → Keeps (λ w. flat_map g (f w))
kept_flat_map f g p q w = Each-flat_map (SameStart w) (SameStart w) g (λ v o. follows w v (g v) o (q v)) (f w) (p w)

kept_if : (b : Bool) (w v : MatchState) → SameStart w v → Each (SameStart w) (cond b (v ∷ []) [])
kept_if b w v h = Each-cond _ b (v ∷ []) [] (h, tt) tt

kept_stay : (test : MatchState → Bool) → Keeps (λ w. match_empty_if (test w) w)
kept_stay test w = kept_if (test w) w w refl

kept_prefer : (greedy : Bool) (w : MatchState) (xs ys : List MatchState) → Each (SameStart w) xs → Each (SameStart w) ys →
    Each (SameStart w) (prefer greedy xs ys)
kept_prefer true w xs ys h k = Each-append _ xs ys h k
kept_prefer false w xs ys h k = Each-append _ ys xs k h

kept_due : (n : ℕ) (body rest : Moves) → Keeps body → Keeps rest → Keeps (due n body rest)
kept_due zero body rest p q = q
kept_due (suc n) body rest p q = kept_flat_map body (due n body rest) p (kept_due n body rest p q)

kept_up_to : (n : ℕ) (greedy : Bool) (body : Moves) → Keeps body → Keeps (up_to n greedy body)
kept_up_to zero greedy body p w = kept_same w
kept_up_to (suc n) greedy body p w =
    kept_prefer greedy w _ _ (kept_flat_map body (up_to n greedy body) p (kept_up_to n greedy body p) w) (kept_same w)

kept_loop : (n : ℕ) (greedy : Bool) (body : Moves) → Keeps body → Keeps (loop n greedy body)
kept_loop zero greedy body p w = tt
kept_loop (suc n) greedy body p w =
    kept_prefer greedy w _ _
    (Each-flat_map (SameStart w) (SameStart w) _
    (λ v o. Each-cond _ (v.position == w.position) (v ∷ []) (loop n greedy body v) (o, tt) (follows w v _ o (kept_loop n greedy body p v)))
    (body w) (p w))
    (kept_same w)

kept_pairs : (w : MatchState) (vs : List MatchState) → Each (SameStart w) (keep_only_pairs w vs)
kept_pairs w [] = tt
kept_pairs w (v ∷ vs) = (refl, kept_pairs w vs)

kept_look : (how : LookAround) (m : Meaning) → Keeps (look how m)
kept_look LookAhead m w = kept_pairs w (m.from w)
kept_look LookAheadNeg m w = kept_stay (λ v. is_none_of (m.from v)) w
kept_look LookBehind m w = kept_pairs w (m.behind w)
kept_look LookBehindNeg m w = kept_stay (λ v. is_none_of (m.behind v)) w

kept_first : (w : MatchState) (vs : List MatchState) → Each (SameStart w) vs → Each (SameStart w) (first_only vs)
kept_first w [] h = tt
kept_first w (v ∷ vs) h = (h.0, tt)

kept_conditional : (w : MatchState) (vs : List MatchState) (a b : Moves) → Each (SameStart w) vs → Keeps a → Keeps b →
    Each (SameStart w) (conditional vs a b w)
kept_conditional w [] a b e p q = q w
kept_conditional w (v ∷ vs) a b e p q = follows w v _ e.0 (p v)

kept_all : (ms : List Meaning) → Each (λ m. Keeps m.from) ms → Keeps (all_of ms)
kept_all [] h = kept_same
kept_all (m ∷ ms) h = kept_flat_map m.from (all_of ms) h.0 (kept_all ms h.1)

kept_any : (ms : List Meaning) → Each (λ m. Keeps m.from) ms → Keeps (any_of ms).from
kept_any [] h w = tt
kept_any (m ∷ ms) h w = Each-append _ (m.from w) _ (h.0 w) (kept_any ms h.1 w)

kept_group : (k : ℕ) (body : Moves) → Keeps body → Keeps (group k body)
kept_group k body p w = Each-map (SameStart w) (SameStart w) _ (λ v o. o) (body w) (p w)

module _ (s : Setting) where
  kept_character : (test : ℕ → Bool) → Keeps (character s test)
  kept_character test w =
      Each-for_some (SameStart w) _ (char_at s.text w.position) (λ c e. kept_if (test c) w _ refl)

  kept_newline : (unicode : Bool) → Keeps (general_newline_ways s unicode)
  kept_newline unicode w =
      Each-cond _ (is_before_byte s.text 13 w.position && is_before_byte s.text 10 (w.position + 1)) (with_position w (w.position + 2) ∷ []) _
      (refl, tt) (kept_character (is_newline s unicode) w)

  kept_backref : (casei : Bool) (o : Option (ℕ × ℕ)) → Keeps (backref s casei o)
  kept_backref casei None w = tt
  kept_backref casei (Some pair) w = kept_if _ w _ refl

  kept_repeat : (lo : ℕ) (hi : Option ℕ) (greedy : Bool) (body : Moves) → Keeps body → Keeps (repeat s lo hi greedy body)
  kept_repeat lo None greedy body p = kept_due lo body _ p (kept_loop (length s.text + 1) greedy body p)
  kept_repeat lo (Some hi) greedy body p = kept_due lo body _ p (kept_up_to (hi - lo) greedy body p)

  kept_absent : (body : Moves) → Keeps (absent s body)
  kept_absent body w =
      Each-map _ (SameStart w) (with_position w) (λ q k. refl) _
      (Each-filter _ (is_free s body w) _ (Each-reverse _ _ (boundaries_pass s.text w.position (length s.text))))

  module _ (groups : List Tree) where
    module _ (call : ℕ → Moves) (kept_calls : (k : ℕ) → Keeps (call k)) where
      mutual
        unfolding meaning

        kept : (n : ℕ) (t : Tree) → IsClean t → Keeps (meaning s groups call n t).from
        kept n (alt ts) clean = kept_any _ (kept_row n ts clean)
        kept n (concat ts) clean = kept_all _ (kept_row n ts clean)
        kept n empty clean = kept_same
        kept n (any newline crlf) clean = kept_character _
        kept n (assertion a) clean = kept_stay _
        kept n (general_newline unicode) clean = kept_newline unicode
        kept n (literal val casei) clean = kept_character _
        kept n (delegate class casei) clean = kept_character _
        kept n (tree.group t) clean = kept_group n _ (kept (n + 1) t clean)
        kept n (look_around t how) clean = kept_look how _
        kept n (tree.repeat t lo hi greedy) clean = kept_repeat lo (bound_of hi) greedy _ (kept n t clean)
        kept n (atomic_group t) clean = λ w. kept_first w _ (kept n t clean w)
        kept n (tree.backref k casei) clean = λ w. kept_backref casei _ w
        kept n (backref_exists k None) clean = kept_stay _
        kept n (backref_exists k (Some level)) clean = λ w. tt
        kept n (tree.conditional c a b) clean = λ w.
            let first = clean_in_both (nodes c) (nodes a ++ nodes b) clean in
            let second = clean_in_both (nodes a) (nodes b) first.1 in
            kept_conditional w _ _ _ (kept n c first.0 w) (kept (n + group_count c) a second.0)
            (kept (n + group_count c + group_count a) b second.1)
        kept n (subroutine_call k) clean = kept_calls k
        kept n keep_out clean = absurd (false≢true (sym clean))
        kept n continue clean = kept_stay _
        kept n (verb v) clean = λ w. tt
        kept n (absent_repeater t) clean = kept_absent (meaning s groups call n t).from
        kept n (define_group t) clean = kept_same
        kept n (literal_bytes bytes) clean = λ w. tt
        kept n (backref_with_level k level casei) clean = λ w. tt
        kept n (absent_expression a t) clean = λ w. tt
        kept n (absent_stopper t) clean = λ w. tt
        kept n absent_clear clean = λ w. tt
        kept n (ast_group name t position) clean = λ w. tt
        kept n (ast_backref goal casei level position) clean = λ w. tt
        kept n (ast_call goal position) clean = λ w. tt
        kept n (ast_condition goal level position) clean = λ w. tt

        kept_row : (n : ℕ) (ts : Trees) → list_any is_keep_out (all_nodes ts) ≡ false → Each (λ m. Keeps m.from) (meanings s groups call n ts)
        kept_row n no_trees clean = tt
        kept_row n (more_trees t ts) clean =
            let both = clean_in_both (nodes t) (all_nodes ts) clean in
            (kept n t both.0, kept_row (n + group_count t) ts both.1)

    module _ (clean : Each IsClean groups) where
      kept_calls : (n : ℕ) (opened : List ℕ) (k : ℕ) → Keeps (call_ways s groups n opened k)
      unfolding call_ways
      kept_calls zero opened k w = tt
      kept_calls (suc n) opened k w =
          Each-cond _ _ [] _ tt (Each-for_some _ _ (target groups k) (λ body e.
          kept (call_ways s groups n (k ∷ opened)) (kept_calls n (k ∷ opened)) (k + 1) body (clean_at groups k body clean e) w))

      pub keeps_start : (n : ℕ) (t : Tree) → IsClean t → (w : MatchState) → Each (SameStart w) (ways s groups n t w)
      unfolding ways
      keeps_start n t own w = kept (call_ways s groups (max_open_calls groups) []) (kept_calls (max_open_calls groups) []) n t own w

-- the bodies of the groups of such a tree
mutual
  unfolding bodies row_bodies

  clean_bodies : (t : Tree) → IsClean t → Each IsClean (bodies t)
  clean_bodies (tree.group t) clean = (clean, clean_bodies t clean)
  clean_bodies (concat ts) clean = clean_row_bodies ts clean
  clean_bodies (alt ts) clean = clean_row_bodies ts clean
  clean_bodies (look_around t how) clean = clean_bodies t clean
  clean_bodies (tree.repeat t lo hi greedy) clean = clean_bodies t clean
  clean_bodies (atomic_group t) clean = clean_bodies t clean
  clean_bodies (tree.conditional c a b) clean =
      let first = clean_in_both (nodes c) (nodes a ++ nodes b) clean in
      let second = clean_in_both (nodes a) (nodes b) first.1 in
      Each-append _ (bodies c) _ (clean_bodies c first.0) (Each-append _ (bodies a) (bodies b) (clean_bodies a second.0) (clean_bodies b second.1))
  clean_bodies (absent_repeater t) clean = clean_bodies t clean
  clean_bodies (absent_expression a t) clean =
      let both = clean_in_both (nodes a) (nodes t) clean in Each-append _ (bodies a) (bodies t) (clean_bodies a both.0) (clean_bodies t both.1)
  clean_bodies (absent_stopper t) clean = clean_bodies t clean
  clean_bodies (define_group t) clean = clean_bodies t clean
  clean_bodies (ast_group name t position) clean = clean_bodies t clean
  clean_bodies t clean = tt

  clean_row_bodies : (ts : Trees) → list_any is_keep_out (all_nodes ts) ≡ false → Each IsClean (row_bodies ts)
  clean_row_bodies no_trees clean = tt
  clean_row_bodies (more_trees t ts) clean =
      let both = clean_in_both (nodes t) (all_nodes ts) clean in Each-append _ (bodies t) (row_bodies ts) (clean_bodies t both.0) (clean_row_bodies ts both.1)

-- each way of the whole pattern keeps its start
pub pattern_keeps_start : (s : Setting) (t : Tree) → has_keep_out t ≡ false → (w : MatchState) →
    Each (SameStart w) (ways s (pattern_of t).groups (pattern_of t).first_group t w)
pattern_keeps_start s t clean w = keeps_start s (pattern_of t).groups (clean, clean_bodies t clean) (pattern_of t).first_group t clean w
