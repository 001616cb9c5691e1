-- The match start lies between where a pattern begins and where it leads.
use Rattle.std.proofs.Common.{◌≡◌, ℕ, zero, suc, ◌+◌, ◌-◌, ◌≤◌, Bool, true, false, cond, List, [], ◌∷◌, length, Option, Some, None, refl, subst, ◌∙◌, ⊎_elim, inl, inr, arith, ◌==◌, nat_lt}
use Rattle.std.specs.Prelude.{◌&&◌, option_map}
use Rattle.std.specs.List.{flat_map}
use Rattle.std.proofs.lemmas.Option.{none-some, same_Some}
use Rattle.std.proofs.lemmas.Bool.{cond_both}
use Rattle.regex_hir.specs.Text.{char_at}
use Rattle.fancy_regex_meaning.specs.Positions.{is_before_byte}
use Rattle.fancy_regex_meaning.specs.Sizes.{target, bound_of}
use Rattle.fancy_regex_meaning.specs.Groups.{Pattern, group_count}
use Rattle.fancy_regex_tree.specs.declared.expr.LookAround.{LookAround}
use Rattle.fancy_regex_tree.specs.declared.expr.LookAround.TheVariants.{LookAhead, LookAheadNeg, LookBehind, LookBehindNeg}
use Rattle.fancy_regex_tree.specs.Tree as tree
use Rattle.fancy_regex_tree.specs.Tree.{Tree, Trees, empty, any, assertion, general_newline, literal, literal_bytes, concat, alt, look_around, delegate, backref_with_level, atomic_group, keep_out, continue, backref_exists, subroutine_call, verb, absent_repeater, absent_expression, absent_stopper, absent_clear, define_group, ast_group, ast_backref, ast_call, ast_condition, no_trees, more_trees}
use Rattle.fancy_regex_meaning.specs.Ways.{MatchState, Moves, Meaning, Setting, all_of, any_of, meaning, meanings, call_ways, ways, max_open_calls, keep_only_pairs, first_only, with_position, match_empty, reset_match_start, look, match_empty_if, is_none_of, prefer, due, up_to, loop, conditional, character, group, repeat, absent, backref, general_newline_ways, is_newline, is_free}
use Rattle.fancy_regex_meaning.specs.ItemLaws.{LooksOnward, PatternsAscend}
use Rattle.fancy_regex_meaning.proofs.ListProofs.{items_ascend}
use Rattle.fancy_regex_meaning.specs.Searches.{Input, Options, chosen, first_longest, farther, first_some, starts, first_match, search_from, all_items, Search, Match, match_at, match_of, first_item, is_admitted, start_way}
use Rattle.fancy_regex_meaning.specs.WayLaws.{Each, HasStartBetween, KeepsStart, MatchesAreSpans}
use Rattle.fancy_regex_meaning.proofs.EachLemmas.{Each-weaker, Each-append, Each-map, Each-flat_map, Each-filter, Each-cond, Each-for_some, Each-reverse, boundaries_pass}

abbrev Keeps : Moves → Type 0
Keeps moves = (w : MatchState) → Each (HasStartBetween w) (moves w)

chain : (w v u : MatchState) → HasStartBetween w v → HasStartBetween v u → HasStartBetween w u
chain w v u h k = (
  omega (arith, h.0, k.0),
  ⊎_elim
      (λ (same : u.match_start ≡ v.match_start). ⊎_elim
      (λ (first : v.match_start ≡ w.match_start). inl (same ∙ first))
      (λ (moved : (w.position ≤ v.match_start) × (v.match_start ≤ v.position)). inr (omega (arith, moved.0, same), omega (arith, moved.1, same, k.0)))
      h.1)
      (λ (later : (v.position ≤ u.match_start) × (u.match_start ≤ u.position)). inr (omega (arith, later.0, h.0), later.1))
      k.1,
)

-- further on in the text, with the same match start
onward : (w : MatchState) (q : ℕ) → w.position ≤ q → HasStartBetween w (with_position w q)
onward w q h = (h, inl refl)

kept_same : Keeps match_empty
kept_same w = ((omega arith, inl refl), tt)

follows : (w v : MatchState) (us : List MatchState) → HasStartBetween w v → Each (HasStartBetween v) us → Each (HasStartBetween w) us
follows w v us h k = Each-weaker _ _ (λ u o. chain w v u h o) us k

kept_flat_map : (f g : Moves) → Keeps f → Keeps g → Keeps (λ w. flat_map g (f w))
kept_flat_map f g p q w = Each-flat_map (HasStartBetween w) (HasStartBetween w) g (λ v o. follows w v (g v) o (q v)) (f w) (p w)

kept_if : (b : Bool) (w v : MatchState) → HasStartBetween w v → Each (HasStartBetween w) (cond b (v ∷ []) [])
kept_if b w v h = Each-cond _ b (v ∷ []) [] (h, tt) tt

kept_stay : (test : MatchState → Bool) → Keeps (λ w. match_empty_if (test w) w)
kept_stay test w = kept_if (test w) w w (omega arith, inl refl)

kept_prefer : (greedy : Bool) (w : MatchState) (xs ys : List MatchState) → Each (HasStartBetween w) xs → Each (HasStartBetween w) ys →
    Each (HasStartBetween w) (prefer greedy xs ys)
kept_prefer true w xs ys h k = Each-append _ xs ys h k
kept_prefer false w xs ys h k = Each-append _ ys xs k h

kept_due : (n : ℕ) (body rest : Moves) → Keeps body → Keeps rest → Keeps (due n body rest)
kept_due zero body rest p q = q
kept_due (suc n) body rest p q = kept_flat_map body (due n body rest) p (kept_due n body rest p q)

kept_up_to : (n : ℕ) (greedy : Bool) (body : Moves) → Keeps body → Keeps (up_to n greedy body)
kept_up_to zero greedy body p w = kept_same w
kept_up_to (suc n) greedy body p w =
    kept_prefer greedy w _ _ (kept_flat_map body (up_to n greedy body) p (kept_up_to n greedy body p) w) (kept_same w)

kept_loop : (n : ℕ) (greedy : Bool) (body : Moves) → Keeps body → Keeps (loop n greedy body)
kept_loop zero greedy body p w = tt
kept_loop (suc n) greedy body p w =
    kept_prefer greedy w _ _
    (Each-flat_map (HasStartBetween w) (HasStartBetween w) _
    (λ v o. Each-cond _ (v.position == w.position) (v ∷ []) (loop n greedy body v) (o, tt) (follows w v _ o (kept_loop n greedy body p v)))
    (body w) (p w))
    (kept_same w)

kept_pairs : (w : MatchState) (vs : List MatchState) → Each (HasStartBetween w) (keep_only_pairs w vs)
kept_pairs w [] = tt
kept_pairs w (v ∷ vs) = ((omega arith, inl refl), kept_pairs w vs)

kept_look : (how : LookAround) (m : Meaning) → Keeps (look how m)
kept_look LookAhead m w = kept_pairs w (m.from w)
kept_look LookAheadNeg m w = kept_stay (λ v. is_none_of (m.from v)) w
kept_look LookBehind m w = kept_pairs w (m.behind w)
kept_look LookBehindNeg m w = kept_stay (λ v. is_none_of (m.behind v)) w

kept_first : (w : MatchState) (vs : List MatchState) → Each (HasStartBetween w) vs → Each (HasStartBetween w) (first_only vs)
kept_first w [] h = tt
kept_first w (v ∷ vs) h = (h.0, tt)

kept_conditional : (w : MatchState) (vs : List MatchState) (a b : Moves) → Each (HasStartBetween w) vs → Keeps a → Keeps b →
    Each (HasStartBetween w) (conditional vs a b w)
kept_conditional w [] a b e p q = q w
kept_conditional w (v ∷ vs) a b e p q = follows w v _ e.0 (p v)

kept_all : (ms : List Meaning) → Each (λ m. Keeps m.from) ms → Keeps (all_of ms)
kept_all [] h = kept_same
kept_all (m ∷ ms) h = kept_flat_map m.from (all_of ms) h.0 (kept_all ms h.1)

kept_any : (ms : List Meaning) → Each (λ m. Keeps m.from) ms → Keeps (any_of ms).from
kept_any [] h w = tt
kept_any (m ∷ ms) h w = Each-append _ (m.from w) _ (h.0 w) (kept_any ms h.1 w)

kept_group : (k : ℕ) (body : Moves) → Keeps body → Keeps (group k body)
kept_group k body p w = Each-map (HasStartBetween w) (HasStartBetween w) _ (λ v o. o) (body w) (p w)

kept_here : Keeps reset_match_start
kept_here w = ((omega arith, inr (omega arith, omega arith)), tt)

module _ (s : Setting) where
  kept_character : (test : ℕ → Bool) → Keeps (character s test)
  kept_character test w =
      Each-for_some (HasStartBetween w) _ (char_at s.text w.position) (λ c e. kept_if (test c) w _ (onward w _ (omega arith)))

  kept_newline : (unicode : Bool) → Keeps (general_newline_ways s unicode)
  kept_newline unicode w =
      Each-cond _ (is_before_byte s.text 13 w.position && is_before_byte s.text 10 (w.position + 1)) (with_position w (w.position + 2) ∷ []) _
      (onward w _ (omega arith), tt) (kept_character (is_newline s unicode) w)

  kept_backref : (casei : Bool) (o : Option (ℕ × ℕ)) → Keeps (backref s casei o)
  kept_backref casei None w = tt
  kept_backref casei (Some pair) w = kept_if _ w _ (onward w (w.position + (pair.1 - pair.0)) (omega arith))

  kept_repeat : (lo : ℕ) (hi : Option ℕ) (greedy : Bool) (body : Moves) → Keeps body → Keeps (repeat s lo hi greedy body)
  kept_repeat lo None greedy body p = kept_due lo body _ p (kept_loop (length s.text + 1) greedy body p)
  kept_repeat lo (Some hi) greedy body p = kept_due lo body _ p (kept_up_to (hi - lo) greedy body p)

  kept_absent : (body : Moves) → Keeps (absent s body)
  kept_absent body w =
      Each-map _ (HasStartBetween w) (with_position w) (λ q k. onward w q k.0.0) _
      (Each-filter _ (is_free s body w) _ (Each-reverse _ _ (boundaries_pass s.text w.position (length s.text))))

  module _ (groups : List Tree) where
    module _ (call : ℕ → Moves) (kept_calls : (k : ℕ) → Keeps (call k)) where
      mutual
        unfolding meaning

        kept : (n : ℕ) (t : Tree) → Keeps (meaning s groups call n t).from
        kept n (alt ts) = kept_any _ (kept_row n ts)
        kept n (concat ts) = kept_all _ (kept_row n ts)
        kept n empty = kept_same
        kept n (any newline crlf) = kept_character _
        kept n (assertion a) = kept_stay _
        kept n (general_newline unicode) = kept_newline unicode
        kept n (literal val casei) = kept_character _
        kept n (delegate class casei) = kept_character _
        kept n (tree.group t) = kept_group n _ (kept (n + 1) t)
        kept n (look_around t how) = kept_look how _
        kept n (tree.repeat t lo hi greedy) = kept_repeat lo (bound_of hi) greedy _ (kept n t)
        kept n (atomic_group t) = λ w. kept_first w _ (kept n t w)
        kept n (tree.backref k casei) = λ w. kept_backref casei _ w
        kept n (backref_exists k None) = kept_stay _
        kept n (backref_exists k (Some level)) = λ w. tt
        kept n (tree.conditional c a b) = λ w.
            kept_conditional w _ _ _ (kept n c w) (kept (n + group_count c) a) (kept (n + group_count c + group_count a) b)
        kept n (subroutine_call k) = kept_calls k
        kept n keep_out = kept_here
        kept n continue = kept_stay _
        kept n (verb v) = λ w. tt
        kept n (absent_repeater t) = kept_absent (meaning s groups call n t).from
        kept n (define_group t) = kept_same
        kept n (literal_bytes bytes) = λ w. tt
        kept n (backref_with_level k level casei) = λ w. tt
        kept n (absent_expression a t) = λ w. tt
        kept n (absent_stopper t) = λ w. tt
        kept n absent_clear = λ w. tt
        kept n (ast_group name t position) = λ w. tt
        kept n (ast_backref goal casei level position) = λ w. tt
        kept n (ast_call goal position) = λ w. tt
        kept n (ast_condition goal level position) = λ w. tt

        kept_row : (n : ℕ) (ts : Trees) → Each (λ m. Keeps m.from) (meanings s groups call n ts)
        kept_row n no_trees = tt
        kept_row n (more_trees t ts) = (kept n t, kept_row (n + group_count t) ts)

    kept_calls : (n : ℕ) (opened : List ℕ) (k : ℕ) → Keeps (call_ways s groups n opened k)
    unfolding call_ways
    kept_calls zero opened k w = tt
    kept_calls (suc n) opened k w =
        Each-cond _ _ [] _ tt (Each-for_some _ _ (target groups k) (λ body e. kept (call_ways s groups n (k ∷ opened)) (kept_calls n (k ∷ opened)) (k + 1) body w))

pub keeps_start : (s : Setting) (groups : List Tree) → KeepsStart s groups
unfolding ways
keeps_start s groups n t w = kept s groups (call_ways s groups (max_open_calls groups) []) (kept_calls s groups _ []) n t w

-- the way that is chosen is one of the list
picks : {A : Type 0} (P : A → Type 0) (xs : List A) → Each P xs → (x : A) → first_item xs ≡ Some x → P x
picks P [] h x e = absurd (none-some x e)
picks P (y ∷ ys) h x e = subst P (same_Some y x e) h.0

goes_farther : (P : MatchState → Type 0) (w : MatchState) → P w → (o : Option MatchState) → ((v : MatchState) → o ≡ Some v → P v) → P (farther w o)
goes_farther P w p None h = p
goes_farther P w p (Some v) h =
    cond_both (nat_lt w.position v.position) v w P (λ e. h v refl) (λ e. p)

picks_longest : (P : MatchState → Type 0) (ws : List MatchState) → Each P ws → (v : MatchState) → first_longest ws ≡ Some v → P v
picks_longest P [] h v e = absurd (none-some v e)
picks_longest P (w ∷ ws) h v e =
    subst P (same_Some _ v e) (goes_farther P w h.0 (first_longest ws) (λ u f. picks_longest P ws h.1 u f))

pub chosen_holds : (P : MatchState → Type 0) (longest : Bool) (ws : List MatchState) → Each P ws → (v : MatchState) → chosen longest ws ≡ Some v → P v
chosen_holds P false ws h v e = picks P ws h v e
chosen_holds P true ws h v e = picks_longest P ws h v e

pub found_in_list : {A : Type 0} (f : A → Match) (o : Option A) (m : Match) → option_map f o ≡ Some m → (x : A) × (o ≡ Some x) × (f x ≡ m)
found_in_list f None m e = absurd (none-some m e)
found_in_list f (Some x) m e = (x, refl, same_Some (f x) m e)

module _ (s : Setting) (pattern : Pattern) (find : Search) (p : ℕ) where
  start : MatchState
  start = start_way pattern p

  between : (v : MatchState) → HasStartBetween (start_way pattern p) v → (p ≤ v.match_start) × (v.match_start ≤ v.position)
  between v h = ⊎_elim (λ (same : v.match_start ≡ p). (omega arith, omega (arith, h.0))) (λ (moved : (p ≤ v.match_start) × (v.match_start ≤ v.position)). moved) h.1

  is_span : (m : Match) → match_at s pattern find p ≡ Some m → (p ≤ m.start) × (m.start ≤ m.end)
  unfolding match_at
  is_span m e =
      let found = found_in_list match_of _ m e in
      let all = Each-filter _ (is_admitted find) _ (keeps_start s pattern.groups pattern.first_group pattern.tree (start_way pattern p)) in
      let kept = chosen_holds (HasStartBetween (start_way pattern p)) find.options.longest _ all found.0 found.1 in
      subst (λ (x : Match). (p ≤ x.start) × (x.start ≤ x.end)) found.2 (between found.0 kept)

pub matches_are_spans : MatchesAreSpans
matches_are_spans s pattern find p m e = is_span s pattern find p m e

first_or_later : {A B : Type 0} (P : A → Type 0) (f : A → Option B) (x : A) (xs : List A) (m : B) (o : Option B) → f x ≡ o → P x →
    (first_some f xs ≡ Some m → (z : A) × P z × (f z ≡ Some m)) → (elim o [ None ↦ first_some f xs | Some y ↦ Some y ]) ≡ Some m →
    (z : A) × P z × (f z ≡ Some m)
first_or_later P f x xs m None is p later e = later e
first_or_later P f x xs m (Some y) is p later e = (x, p, is ∙ e)

pub first_in_list : {A B : Type 0} (P : A → Type 0) (f : A → Option B) (xs : List A) → Each P xs → (m : B) → first_some f xs ≡ Some m →
    (x : A) × P x × (f x ≡ Some m)
first_in_list P f [] h m e = absurd (none-some m e)
first_in_list P f (x ∷ xs) h m e = first_or_later P f x xs m (f x) refl h.0 (λ k. first_in_list P f xs h.1 m k) e

starts_onward : (s : Setting) (pattern : Pattern) (find : Search) → Each (λ p. find.first ≤ p) (starts s pattern find)
starts_onward s pattern find =
    Each-cond _ (nat_lt find.stop find.first) [] _ tt
    (Each-cond _ find.anchored (find.first ∷ []) _ (omega arith, tt)
    (Each-weaker _ _ (λ b h. h.0.0) _ (boundaries_pass s.text find.first find.stop)))

match_onward : (s : Setting) (pattern : Pattern) (find : Search) (m : Match) → first_match s pattern find ≡ Some m → (find.first ≤ m.start) × (m.start ≤ m.end)
unfolding first_match
match_onward s pattern find m e =
    let found = first_in_list _ _ _ (starts_onward s pattern find) m e in
    let span = matches_are_spans s pattern find found.0 m found.2 in
    (omega (arith, found.1, span.0), span.1)

pub search_onward : (s : Setting) (pattern : Pattern) (options : Options) (input : Input) → LooksOnward (search_from s pattern options input)
unfolding search_from
search_onward s pattern options input q off m e = match_onward _ pattern _ m e

pub patterns_ascend : PatternsAscend
unfolding all_items
patterns_ascend s pattern options input =
    items_ascend s.text (search_from s pattern options input) input.range_start input.range_end
    (search_onward s pattern options input) _ input.start
