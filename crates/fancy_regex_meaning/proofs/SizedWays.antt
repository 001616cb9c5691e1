-- The ways of a node take as many characters as its size says, if those of its parts do.
use Rattle.std.proofs.Common.{◌≡◌, ℕ, zero, suc, ◌+◌, ◌-◌, ◌<◌, ◌≤◌, Bool, true, false, List, [], ◌∷◌, length, max, Some, None, refl, sym, ap, subst, ◌∙◌, ◌⊎◌, inl, inr, arith, ◌==◌}
use Rattle.std.specs.Prelude.{◌&&◌}
use Rattle.std.specs.List.{flat_map}
use Rattle.std.specs.Char.{len_utf8}
use Rattle.std.specs.Str.{IsUtf8}
use Rattle.std.proofs.lemmas.Bool.{cond_both, eqb-true, and_parts}
use Rattle.std.proofs.lemmas.Str.{len_utf8_ascii}
use Rattle.std.proofs.Math.Nat.{le_trans, le_refl}
use Rattle.regex_hir.specs.Text.{char_at}
use Rattle.regex_hir.proofs.TextLemmas.{char_at_ascii}
use Rattle.fancy_regex_meaning.specs.Positions.{is_before_byte}
use Rattle.fancy_regex_meaning.specs.Sizes.{Size, unbounded, bound_of, always_size, any_size, both_sizes, either_size, repeated_size, size_with, concat_size, alternation_size}
use Rattle.fancy_regex_meaning.specs.Groups.{group_count}
use Rattle.fancy_regex_tree.specs.declared.expr.LookAround.{LookAround}
use Rattle.fancy_regex_tree.specs.declared.expr.LookAround.TheVariants.{LookAhead, LookAheadNeg, LookBehind, LookBehindNeg}
use Rattle.fancy_regex_tree.specs.Tree as tree
use Rattle.fancy_regex_tree.specs.Tree.{Tree, Trees, empty, any, assertion, general_newline, literal, literal_bytes, concat, alt, look_around, delegate, backref_with_level, atomic_group, keep_out, continue, backref_exists, subroutine_call, verb, absent_repeater, absent_expression, absent_stopper, absent_clear, define_group, ast_group, ast_backref, ast_call, ast_condition, no_trees, more_trees}
use Rattle.fancy_regex_meaning.specs.Ways.{MatchState, Moves, Meaning, Setting, all_of, any_of, meaning, meanings, keep_only_pairs, first_only, with_position, match_empty, reset_match_start, look, match_empty_if, prefer, due, up_to, loop, conditional, character, group, repeat, general_newline_ways, is_newline}
use Rattle.fancy_regex_meaning.specs.WayLaws.{Each, PreservesForward, IsForwardTo, HasCharBoundaries}
use Rattle.fancy_regex_meaning.specs.SizeLaws.{characters_between, EachRepeat, EachRepeatInRow}
use Rattle.fancy_regex_meaning.proofs.EachLemmas.{Each-weaker, Each-append, Each-map, Each-flat_map, Each-cond, Each-for_some}
use Rattle.fancy_regex_meaning.proofs.CharacterLemmas.{between_splits, between_same, between_char}
use Rattle.fancy_regex_meaning.proofs.WayProofs.{meaning_onward, byte_is}
use Rattle.fancy_regex_meaning.proofs.ForwardProofs.{keeps_cuts}

-- so many counts, each of which passes, one after another
abbrev pub Repetitions : (ℕ → Type 0) → ℕ → ℕ → Type 0
Repetitions P zero c = c ≡ 0
Repetitions P (suc n) c = (x : ℕ) × (y : ℕ) × P x × Repetitions P n y × (c ≡ x + y)

-- from lo to hi of them
abbrev pub RepetitionsBetween : (ℕ → Type 0) → ℕ → ℕ → ℕ → Type 0
RepetitionsBetween P lo hi c = (n : ℕ) × (lo ≤ n) × (n ≤ hi) × Repetitions P n c

-- What bounds a count by a size: the steps of which sizes are made. The bounds of a repeat are as they should be.
pub record Bounds (Fits : Size → ℕ → Type 0) (Good : ℕ → ℕ → Type 0) : Type 0 where
  pub fixed : (n : ℕ) → Fits (always_size n) n
  pub newline : (c : ℕ) → 1 ≤ c → c ≤ 2 → Fits (record { least = 1; greatest = 2; always = false }) c
  pub some : (c : ℕ) → Fits any_size c
  pub both : (a b : Size) (x y : ℕ) → Fits a x → Fits b y → Fits (both_sizes a b) (x + y)
  pub left : (a b : Size) (x : ℕ) → Fits a x → Fits (either_size a b) x
  pub right : (a b : Size) (x : ℕ) → Fits b x → Fits (either_size a b) x
  pub repeated : (a : Size) (lo hi n c : ℕ) → Good lo hi → Repetitions (Fits a) n c → lo ≤ n → (n ≤ max lo hi) ⊎ (hi ≡ unbounded) →
      Fits (repeated_size a lo hi) c

pub both_hold : {A : Type 0} (P Q : A → Type 0) (xs : List A) → Each P xs → Each Q xs → Each (λ x. P x × Q x) xs
both_hold P Q [] h k = tt
both_hold P Q (x ∷ xs) h k = ((h.0, k.0), both_hold P Q xs h.1 k.1)

module _ (s : Setting) (utf8 : IsUtf8 s.text) where
  abbrev taken : MatchState → MatchState → ℕ
  taken w v = characters_between s.text w.position v.position

  abbrev Takes : (ℕ → Type 0) → MatchState → MatchState → Type 0
  Takes P w v = IsForwardTo (HasCharBoundaries s.text) w v × P (taken w v)

  -- from a way that cuts the text between characters, each way leads onward to such a one, and takes what passes
  abbrev pub Sized : (ℕ → Type 0) → Moves → Type 0
  Sized P moves = (w : MatchState) → HasCharBoundaries s.text w → Each (Takes P w) (moves w)

  sized_of : (P : ℕ → Type 0) (moves : Moves) → PreservesForward (HasCharBoundaries s.text) moves →
      ((w : MatchState) → HasCharBoundaries s.text w → Each (λ v. P (taken w v)) (moves w)) → Sized P moves
  sized_of P moves p q w h = both_hold _ _ (moves w) (p w h) (q w h)

  -- what passes for every count
  pub sized_any : (P : ℕ → Type 0) (moves : Moves) → PreservesForward (HasCharBoundaries s.text) moves → ((c : ℕ) → P c) → Sized P moves
  sized_any P moves p all w h = Each-weaker _ _ (λ v o. (o, all _)) (moves w) (p w h)

  pub sized_weaker : (P Q : ℕ → Type 0) (moves : Moves) → ((c : ℕ) → P c → Q c) → Sized P moves → Sized Q moves
  sized_weaker P Q moves f p w h = Each-weaker _ _ (λ v o. (o.0, f _ o.1)) (moves w) (p w h)

  -- nothing is taken
  takes_none : (P : ℕ → Type 0) (w v : MatchState) → P 0 → HasCharBoundaries s.text w → v.position ≡ w.position → P (taken w v)
  takes_none P w v p h e =
      subst P (sym (ap (λ q. characters_between s.text w.position q) e ∙ between_same s.text utf8 w.position h.0)) p

  sized_still : (P : ℕ → Type 0) (moves : Moves) → P 0 → PreservesForward (HasCharBoundaries s.text) moves →
      ((w : MatchState) → Each (λ v. v.position ≡ w.position) (moves w)) → Sized P moves
  sized_still P moves p well still = sized_of P moves well (λ w h. Each-weaker _ _ (λ v e. takes_none P w v p h e) (moves w) (still w))

  -- one after the other
  follows : (P Q R : ℕ → Type 0) → ((x y : ℕ) → P x → Q y → R (x + y)) → (w v : MatchState) → HasCharBoundaries s.text w → Takes P w v →
      (us : List MatchState) → Each (Takes Q v) us → Each (Takes R w) us
  follows P Q R f w v h o us k =
      Each-weaker _ _ (λ (u : MatchState) (i : Takes Q v u). (
        (le_trans o.0.0 i.0.0, i.0.1),
        subst R (sym (between_splits s.text utf8 w.position v.position u.position o.0.0 i.0.0 h.0 o.0.1.0 i.0.1.0)) (f _ _ o.1 i.1),
      )) us k

  sized_then : (P Q R : ℕ → Type 0) → ((x y : ℕ) → P x → Q y → R (x + y)) → (f g : Moves) → Sized P f → Sized Q g →
      Sized R (λ w. flat_map g (f w))
  sized_then P Q R both f g p q w h =
      Each-flat_map (Takes P w) (Takes R w) g (λ v o. follows P Q R both w v h o (g v) (q v o.0.1)) (f w) (p w h)

  takes_stay : (P : ℕ → Type 0) → P 0 → Sized P match_empty
  takes_stay P p w h = (((le_refl w.position, h), takes_none P w w p h refl), tt)

  sized_prefer : (P : ℕ → Type 0) (greedy : Bool) (w : MatchState) (xs ys : List MatchState) → Each (Takes P w) xs → Each (Takes P w) ys →
      Each (Takes P w) (prefer greedy xs ys)
  sized_prefer P true w xs ys h k = Each-append _ xs ys h k
  sized_prefer P false w xs ys h k = Each-append _ ys xs k h

  module _ (P : ℕ → Type 0) where
    one_more : (lo hi x y : ℕ) → P x → RepetitionsBetween P lo hi y → RepetitionsBetween P (suc lo) (suc hi) (x + y)
    one_more lo hi x y p r = (suc r.0, omega (arith, r.1), omega (arith, r.2), (x, y, p, r.3, refl))

    wider : (lo hi n m c : ℕ) → n ≤ lo → hi ≤ m → RepetitionsBetween P lo hi c → RepetitionsBetween P n m c
    wider lo hi n m c low high r = (r.0, omega (arith, r.1), omega (arith, r.2), r.3)

    no_repetition : (hi : ℕ) → RepetitionsBetween P 0 hi 0
    no_repetition hi = (0, omega arith, omega arith, refl)

    one_repetition : (hi x : ℕ) → P x → RepetitionsBetween P 0 (suc hi) x
    one_repetition hi x p = (1, omega arith, omega arith, (x, 0, p, refl, omega arith))

    due_sized : (n top : ℕ) (body rest : Moves) → Sized P body → Sized (RepetitionsBetween P 0 top) rest →
        Sized (RepetitionsBetween P n (n + top)) (due n body rest)
    due_sized zero top body rest p q = sized_weaker _ _ rest (λ c r. wider 0 top 0 (0 + top) c (omega arith) (omega arith) r) q
    due_sized (suc n) top body rest p q =
        sized_then P (RepetitionsBetween P n (n + top)) (RepetitionsBetween P (suc n) (suc n + top))
        (λ x y i r. wider (suc n) (suc (n + top)) (suc n) (suc n + top) (x + y) (omega arith) (omega arith) (one_more n (n + top) x y i r))
        body (due n body rest) p (due_sized n top body rest p q)

    up_to_sized : (n : ℕ) (greedy : Bool) (body : Moves) → Sized P body → Sized (RepetitionsBetween P 0 n) (up_to n greedy body)
    up_to_sized zero greedy body p w h = takes_stay (RepetitionsBetween P 0 0) (no_repetition 0) w h
    up_to_sized (suc n) greedy body p w h =
        sized_prefer (RepetitionsBetween P 0 (suc n)) greedy w _ _
        (sized_then P (RepetitionsBetween P 0 n) (RepetitionsBetween P 0 (suc n))
        (λ x y i r. wider 1 (suc n) 0 (suc n) (x + y) (omega arith) (omega arith) (one_more 0 n x y i r))
        body (up_to n greedy body) p (up_to_sized n greedy body p) w h)
        (takes_stay (RepetitionsBetween P 0 (suc n)) (no_repetition (suc n)) w h)

    loop_sized : (n : ℕ) (greedy : Bool) (body : Moves) → Sized P body → Sized (RepetitionsBetween P 0 n) (loop n greedy body)
    loop_sized zero greedy body p w h = tt
    loop_sized (suc n) greedy body p w h =
        sized_prefer (RepetitionsBetween P 0 (suc n)) greedy w _ _
        (Each-flat_map (Takes P w) (Takes (RepetitionsBetween P 0 (suc n)) w) _
        (λ v o. Each-cond _ (v.position == w.position) (v ∷ []) (loop n greedy body v) ((o.0, one_repetition n _ o.1), tt)
        (follows P (RepetitionsBetween P 0 n) (RepetitionsBetween P 0 (suc n))
        (λ x y i r. wider 1 (suc n) 0 (suc n) (x + y) (omega arith) (omega arith) (one_more 0 n x y i r))
        w v h o (loop n greedy body v) (loop_sized n greedy body p v o.0.1)))
        (body w) (p w h))
        (takes_stay (RepetitionsBetween P 0 (suc n)) (no_repetition (suc n)) w h)

  -- where a node stays
  still_if : (b : Bool) (w : MatchState) → Each (λ v. v.position ≡ w.position) (match_empty_if b w)
  still_if b w = Each-cond _ b (w ∷ []) [] (refl, tt) tt

  still_pairs : (w : MatchState) (vs : List MatchState) → Each (λ v. v.position ≡ w.position) (keep_only_pairs w vs)
  still_pairs w [] = tt
  still_pairs w (v ∷ vs) = (refl, still_pairs w vs)

  still_look : (how : LookAround) (m : Meaning) (w : MatchState) → Each (λ v. v.position ≡ w.position) (look how m w)
  still_look LookAhead m w = still_pairs w (m.from w)
  still_look LookAheadNeg m w = still_if _ w
  still_look LookBehind m w = still_pairs w (m.behind w)
  still_look LookBehindNeg m w = still_if _ w

  character_takes : (P : ℕ → Type 0) → P 1 → (test : ℕ → Bool) (w : MatchState) → HasCharBoundaries s.text w → Each (λ v. P (taken w v)) (character s test w)
  character_takes P p test w h =
      Each-for_some _ _ (char_at s.text w.position) (λ c e.
      Each-cond _ (test c) (with_position w (w.position + len_utf8 c) ∷ []) []
      (subst P (sym (between_char s.text utf8 w.position c h.0 ((keeps_cuts s utf8).past_char w c h e).0 e)) p, tt) tt)

  ascii_char : (w : MatchState) (x : ℕ) → x < 128 → is_before_byte s.text x w.position ≡ true → char_at s.text w.position ≡ Some x
  ascii_char w x small e =
      char_at_ascii s.text w.position x (byte_is s (HasCharBoundaries s.text) (keeps_cuts s utf8) _ x e) small

  past_byte : (w : MatchState) (x : ℕ) → x < 128 → HasCharBoundaries s.text w → is_before_byte s.text x w.position ≡ true →
      HasCharBoundaries s.text (with_position w (w.position + 1)) × (characters_between s.text w.position (w.position + 1) ≡ 1)
  past_byte w x small h e =
      let found = ascii_char w x small e in
      let one : len_utf8 x ≡ 1 = len_utf8_ascii x small in
      let next = (keeps_cuts s utf8).past_char w x h found in (
        subst (λ n. HasCharBoundaries s.text (with_position w (w.position + n))) one next,
        subst (λ n. characters_between s.text w.position (w.position + n) ≡ 1) one (between_char s.text utf8 w.position x h.0 next.0 found),
      )

  two_bytes : (w : MatchState) → HasCharBoundaries s.text w → is_before_byte s.text 13 w.position ≡ true → is_before_byte s.text 10 (w.position + 1) ≡ true →
      characters_between s.text w.position (w.position + 2) ≡ 2
  two_bytes w h e f =
      let first = past_byte w 13 (omega arith) h e in
      let second = past_byte (with_position w (w.position + 1)) 10 (omega arith) first.0 f in
      let same : w.position + 1 + 1 ≡ w.position + 2 = omega arith in
      subst (λ q. characters_between s.text w.position q ≡ 2) same
      (omega (
        arith,
        between_splits s.text utf8 w.position (w.position + 1) (w.position + 1 + 1) (omega arith) (omega arith) h.0 first.0.0 second.0.0,
        first.1,
        second.1,
      ))

  sized_group : (P : ℕ → Type 0) (k : ℕ) (body : Moves) → Sized P body → Sized P (group k body)
  sized_group P k body p w h =
      Each-map (Takes P w) (Takes P w) _ (λ v o. ((o.0.0, (keeps_cuts s utf8).pair k w v h o.0.1 o.0.0), o.1)) (body w) (p w h)

  sized_first : (P : ℕ → Type 0) (w : MatchState) (vs : List MatchState) → Each (Takes P w) vs → Each (Takes P w) (first_only vs)
  sized_first P w [] h = tt
  sized_first P w (v ∷ vs) h = (h.0, tt)

  sized_conditional : (P Q R : ℕ → Type 0) → ((x y : ℕ) → P x → Q y → R (x + y)) → (w : MatchState) → HasCharBoundaries s.text w → (vs : List MatchState) (a b : Moves) →
      Each (Takes P w) vs → Sized Q a → Sized R b → Each (Takes R w) (conditional vs a b w)
  sized_conditional P Q R both w h [] a b e p q = q w h
  sized_conditional P Q R both w h (v ∷ vs) a b e p q = follows P Q R both w v h e.0 (a v) (p v e.0.0.1)

  module _ (Fits : Size → ℕ → Type 0) (Good : ℕ → ℕ → Type 0) (bounds : Bounds Fits Good) where
    newline_takes : (unicode : Bool) (w : MatchState) → HasCharBoundaries s.text w →
        Each (λ v. Fits (record { least = 1; greatest = 2; always = false }) (taken w v)) (general_newline_ways s unicode w)
    newline_takes unicode w h =
        cond_both (is_before_byte s.text 13 w.position && is_before_byte s.text 10 (w.position + 1)) (with_position w (w.position + 2) ∷ [])
        (character s (is_newline s unicode) w) (Each (λ v. Fits (record { least = 1; greatest = 2; always = false }) (taken w v)))
        (λ e. let parts = and_parts _ _ e in
        let two = two_bytes w h parts.0 parts.1 in
        (bounds.newline _ (omega (arith, two)) (omega (arith, two)), tt))
        (λ e. character_takes (Fits (record { least = 1; greatest = 2; always = false })) (bounds.newline 1 (omega arith) (omega arith)) (is_newline s unicode) w h)

    sized_repeat : (a : Size) (lo hi : ℕ) (greedy : Bool) (body : Moves) → Good lo hi → Sized (Fits a) body →
        Sized (Fits (repeated_size a lo hi)) (repeat s lo (bound_of hi) greedy body)
    sized_repeat a lo hi greedy body good p =
        cond_both (hi == unbounded) None (Some hi) (λ o. Sized (Fits (repeated_size a lo hi)) (repeat s lo o greedy body))
        (λ e. sized_weaker (RepetitionsBetween (Fits a) lo (lo + (length s.text + 1))) (Fits (repeated_size a lo hi)) _
        (λ c r. bounds.repeated a lo hi r.0 c good r.3 r.1 (inr (eqb-true hi unbounded e)))
        (due_sized (Fits a) lo (length s.text + 1) body _ p (loop_sized (Fits a) _ greedy body p)))
        (λ e. sized_weaker (RepetitionsBetween (Fits a) lo (lo + (hi - lo))) (Fits (repeated_size a lo hi)) _
        (λ c r. bounds.repeated a lo hi r.0 c good r.3 r.1 (inl (omega (arith, r.2))))
        (due_sized (Fits a) lo (hi - lo) body _ p (up_to_sized (Fits a) _ greedy body p)))

    module _ (groups : List Tree) (sizes : ℕ → Size) (call : ℕ → Moves) (calls_sized : (k : ℕ) → Sized (Fits (sizes k)) (call k)) where
      calls_well : (k : ℕ) → PreservesForward (HasCharBoundaries s.text) (call k)
      calls_well k w h = Each-weaker _ _ (λ v o. o.0) (call k w) (calls_sized k w h)

      well : (n : ℕ) (t : Tree) → PreservesForward (HasCharBoundaries s.text) (meaning s groups call n t).from
      well n t = (meaning_onward s (HasCharBoundaries s.text) (keeps_cuts s utf8) groups call calls_well n t).0

      mutual
        unfolding meaning size_with EachRepeat

        pub sized : (n : ℕ) (t : Tree) → EachRepeat Good t → Sized (Fits (size_with sizes t)) (meaning s groups call n t).from
        sized n (alt ts) r = sized_branches n ts r
        sized n (concat ts) r = sized_row n ts r
        sized n empty r = sized_still (Fits (always_size 0)) match_empty (bounds.fixed 0) (well n empty) (λ w. (refl, tt))
        sized n (any newline crlf) r = sized_of (Fits (always_size 1)) _ (well n (any newline crlf)) (character_takes (Fits (always_size 1)) (bounds.fixed 1) _)
        sized n (assertion a) r = sized_still (Fits (always_size 0)) _ (bounds.fixed 0) (well n (assertion a)) (λ w. still_if _ w)
        sized n (general_newline unicode) r = sized_of (Fits (record { least = 1; greatest = 2; always = false })) _ (well n (general_newline unicode)) (newline_takes unicode)
        sized n (literal val casei) r = sized_of (Fits (always_size 1)) _ (well n (literal val casei)) (character_takes (Fits (always_size 1)) (bounds.fixed 1) _)
        sized n (delegate class casei) r = sized_of (Fits (always_size 1)) _ (well n (delegate class casei)) (character_takes (Fits (always_size 1)) (bounds.fixed 1) _)
        sized n (tree.group t) r = sized_group (Fits (size_with sizes t)) n _ (sized (n + 1) t r)
        sized n (look_around t how) r = sized_still (Fits (always_size 0)) _ (bounds.fixed 0) (well n (look_around t how)) (λ w. still_look how _ w)
        sized n (tree.repeat t lo hi greedy) r = sized_repeat _ lo hi greedy _ r.0 (sized n t r.1)
        sized n (atomic_group t) r = λ w h. sized_first (Fits (size_with sizes t)) w _ (sized n t r w h)
        sized n (tree.backref k casei) r = sized_any (Fits any_size) _ (well n (tree.backref k casei)) bounds.some
        sized n (backref_exists k None) r = sized_still (Fits (always_size 0)) _ (bounds.fixed 0) (well n (backref_exists k None)) (λ w. still_if _ w)
        sized n (backref_exists k (Some level)) r = λ w h. tt
        sized n (tree.conditional c a b) r = λ w h.
            sized_conditional (Fits (size_with sizes c)) (Fits (size_with sizes a)) (Fits (either_size (both_sizes (size_with sizes c) (size_with sizes a)) (size_with sizes b)))
            (λ x y i j. bounds.left _ _ _ (bounds.both _ _ x y i j)) w h _ _ _ (sized n c r.0 w h)
            (sized (n + group_count c) a r.1)
            (sized_weaker (Fits (size_with sizes b)) (Fits (either_size (both_sizes (size_with sizes c) (size_with sizes a)) (size_with sizes b))) _ (λ x i. bounds.right _ _ x i) (sized (n + group_count c + group_count a) b r.2))
        sized n (subroutine_call k) r = calls_sized k
        sized n keep_out r = sized_still (Fits (always_size 0)) reset_match_start (bounds.fixed 0) (well n keep_out) (λ w. (refl, tt))
        sized n continue r = sized_still (Fits (always_size 0)) _ (bounds.fixed 0) (well n continue) (λ w. still_if _ w)
        sized n (verb v) r = λ w h. tt
        sized n (absent_repeater t) r = sized_any (Fits any_size) _ (well n (absent_repeater t)) bounds.some
        sized n (define_group t) r = sized_still (Fits (always_size 0)) match_empty (bounds.fixed 0) (well n (define_group t)) (λ w. (refl, tt))
        sized n (literal_bytes bytes) r = λ w h. tt
        sized n (backref_with_level k level casei) r = λ w h. tt
        sized n (absent_expression a t) r = λ w h. tt
        sized n (absent_stopper t) r = λ w h. tt
        sized n absent_clear r = λ w h. tt
        sized n (ast_group name t position) r = λ w h. tt
        sized n (ast_backref goal casei level position) r = λ w h. tt
        sized n (ast_call goal position) r = λ w h. tt
        sized n (ast_condition goal level position) r = λ w h. tt

        sized_row : (n : ℕ) (ts : Trees) → EachRepeatInRow Good ts → Sized (Fits (concat_size sizes ts)) (all_of (meanings s groups call n ts))
        sized_row n no_trees r = takes_stay (Fits (always_size 0)) (bounds.fixed 0)
        sized_row n (more_trees t ts) r =
            sized_then (Fits (size_with sizes t)) (Fits (concat_size sizes ts)) (Fits (both_sizes (size_with sizes t) (concat_size sizes ts))) (λ x y i j. bounds.both _ _ x y i j) _ _ (sized n t r.0) (sized_row (n + group_count t) ts r.1)

        sized_branches : (n : ℕ) (ts : Trees) → EachRepeatInRow Good ts →
            Sized (Fits (alternation_size sizes ts)) (any_of (meanings s groups call n ts)).from
        sized_branches n no_trees r w h = tt
        sized_branches n (more_trees t no_trees) r w h = Each-append _ _ [] (sized n t r.0 w h) tt
        sized_branches n (more_trees t (more_trees u ts)) r w h =
            Each-append _ _ _
            (sized_weaker (Fits (size_with sizes t)) (Fits (either_size (size_with sizes t) (alternation_size sizes (more_trees u ts)))) _ (λ x i. bounds.left _ _ x i) (sized n t r.0) w h)
            (sized_weaker (Fits (alternation_size sizes (more_trees u ts))) (Fits (either_size (size_with sizes t) (alternation_size sizes (more_trees u ts)))) _ (λ x i. bounds.right _ _ x i) (sized_branches (n + group_count t) (more_trees u ts) r.1) w h)
