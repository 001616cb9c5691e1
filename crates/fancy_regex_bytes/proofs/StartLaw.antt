-- A match begins at a byte of the start bytes.
use Rattle.std.proofs.Common.{◌≡◌, ◌⊎◌, inl, inr, ⊎_elim, ℕ, zero, suc, ◌+◌, ◌-◌, ◌<◌, ◌≤◌, Bool, true, false, cond, ◌&&◌, ◌||◌, ◌==◌, nat_lt, nat_le, List, [], ◌∷◌, ◌++◌, length, Option, Some, None, slice_get, slice_index, replicate, refl, sym, ap, subst, ◌∙◌, arith, eqb-true, eq-eqb, lt-ltb, le-ltb}
use Rattle.std.specs.List.{flat_map, filter}
use Rattle.std.specs.Char.{IsScalar, len_utf8}
use Rattle.std.specs.Str.{IsUtf8, IsCharBoundary}
use Rattle.std.proofs.lemmas.Bool.{and_parts, or_parts, or_cases, cond_both, cases_lt, cond-true, cond-false, leb-true, or_left, or_right, false≢true}
use Rattle.std.proofs.lemmas.Bool.Decides.{nat_tests}
use Rattle.std.proofs.lemmas.Str.{encode_ascii}
use Rattle.std.proofs.lemmas.List.{get_or-replicate, get_or_past, length-replicate}
use Rattle.std.specs.Prelude.{slice_index_or, if◌then◌else◌}
use Rattle.std.proofs.lemmas.Option.{none-some, same_Some}
use Rattle.regex_hir.specs.Text.{is_some_and, char_at}
use Rattle.regex_hir.proofs.TextLemmas.{char_at_parts}
use Rattle.regex_hir.proofs.Utf8Lemmas.{encode_two, encode_three}
use Rattle.fancy_regex_tree.specs.declared.expr.LookAround.{LookAround}
use Rattle.fancy_regex_tree.specs.declared.expr.LookAround.TheVariants.{LookAhead, LookAheadNeg, LookBehind, LookBehindNeg}
use Rattle.fancy_regex_tree.specs.Tree as tree
use Rattle.fancy_regex_tree.specs.Tree.{Tree, Trees, empty, assertion, general_newline, literal, concat, alt, look_around, delegate, atomic_group, keep_out, continue, backref_exists, verb, define_group, ast_group, ast_condition, no_trees, more_trees}
use Rattle.fancy_regex_meaning.specs.Positions.{is_before_byte}
use Rattle.fancy_regex_meaning.specs.Groups.{Pattern, group_count, pattern_of}
use Rattle.fancy_regex_meaning.specs.Sizes.{bound_of, may_be_empty}
use Rattle.fancy_regex_meaning.specs.SizeLaws.{EachRepeat, EachRepeatInRow, IsInOrder}
use Rattle.fancy_regex_meaning.specs.Ways.{MatchState, Moves, Meaning, Setting, all_of, meaning, meanings, call_ways, ways, max_open_calls, keep_only_pairs, first_only, with_position, match_empty, look, match_empty_if, prefer, due, up_to, loop, character, repeat, general_newline_ways, is_newline, is_literal}
use Rattle.fancy_regex_meaning.specs.WayLaws.{Each, PreservesForward, IsForwardTo, HasCharBoundaries}
use Rattle.fancy_regex_meaning.specs.Searches.{Search, Match, starts as tried, first_match, first_some, match_at, match_of, is_admitted, start_way}
use Rattle.fancy_regex_meaning.proofs.EachLemmas.{Each-weaker, Each-append, Each-map, Each-flat_map, Each-filter, Each-cond, Each-for_some, boundaries_pass}
use Rattle.fancy_regex_meaning.proofs.BoundaryLemmas.{IsCharBoundary-of_test}
use Rattle.fancy_regex_meaning.proofs.ForwardProofs.{ways_cut_well}
use Rattle.fancy_regex_meaning.proofs.SizedWays.{both_hold}
use Rattle.fancy_regex_meaning.proofs.SizeProofs.{non_empty_moves}
use Rattle.fancy_regex_meaning.proofs.MatchStartProofs.{chosen_holds, found_in_list, first_in_list}
use Rattle.fancy_regex_class.specs.Classes.{in_class}
use Rattle.fancy_regex_bytes.specs.ByteSets.{Bytes, no_bytes, either_bytes, first_byte}
use Rattle.fancy_regex_bytes.specs.StartBytes.{literal_starts, class_starts, newline_starts, either_set, start_set, row_start_set, branches_start_set, start_bytes_by, start_bytes, has_keep_out, MatchesStartIn, SearchesStartIn, SeekFindsSame, StartBytesHold}
use Rattle.fancy_regex_bytes.proofs.CharacterLemmas.{read_first, first_byte_cases, in_first_bytes}
use Rattle.fancy_regex_bytes.proofs.KeptStartLaw.{SameStart, pattern_keeps_start}

-- a known union has two known parts
known_parts : (o p : Option Bytes) (f : Bytes) → either_set o p ≡ Some f → (g : Bytes) × (h : Bytes) × (o ≡ Some g) × (p ≡ Some h) × (either_bytes g h ≡ f)
known_parts None p f e = absurd (none-some f e)
known_parts (Some g) None f e = absurd (none-some f e)
known_parts (Some g) (Some h) f e = (g, h, refl, refl, same_Some (either_bytes g h) f e)

known_if : (b : Bool) (o : Option Bytes) (f : Bytes) → cond b None o ≡ Some f → (b ≡ false) × (o ≡ Some f)
known_if true o f e = absurd (none-some f e)
known_if false o f e = (refl, e)

-- the first bytes of what a node reads
literal_reads : (fold : ℕ → ℕ) (d c : ℕ) (casei : Bool) → IsScalar c → (if casei then fold c == fold d else c == d) ≡ true →
    literal_starts fold d casei (first_byte c) ≡ true
literal_reads fold d c true scalar h = in_first_bytes (λ x. fold x == fold d) c (first_byte c) scalar h refl
literal_reads fold d c false scalar h = eq-eqb _ _ (ap first_byte (sym (eqb-true c d h)))

class_reads : (member : ℕ → Bool) (c : ℕ) → IsScalar c → member c ≡ true → class_starts member (first_byte c) ≡ true
class_reads member c scalar h =
    ⊎_elim (λ (ascii : (c < 128) × (first_byte c ≡ c)).
    subst (λ b. class_starts member b ≡ true) (sym ascii.1) (cond-true (nat_lt c 128) (member c) (nat_lt c 256) (lt-ltb c 128 ascii.0) ∙ h))
    (λ (other : (128 ≤ first_byte c) × (first_byte c < 256)).
    cond-false (nat_lt (first_byte c) 128) (member (first_byte c)) (nat_lt (first_byte c) 256) (le-ltb (first_byte c) 128 other.0) ∙ lt-ltb (first_byte c) 256 other.1)
    (first_byte_cases c scalar)

newline_13 : (unicode : Bool) → newline_starts unicode 13 ≡ true
newline_13 true = refl
newline_13 false = refl

control : (unicode : Bool) (c : ℕ) → 10 ≤ c → c ≤ 13 → newline_starts unicode c ≡ true
control true c low high = grind (arith, nat_tests)
control false c low high = grind (arith, nat_tests)

separator : (c : ℕ) → (c == 0x85 || c == 0x2028 || c == 0x2029) ≡ true → newline_starts true (first_byte c) ≡ true
separator c h =
    ⊎_elim (λ front. ⊎_elim (λ e. by_first 0x85 0xC2 (eqb-true c 0x85 e) (ap (λ bs. slice_index bs 0) (encode_two 0x85 (omega arith) (omega arith))) refl)
    (λ e. by_first 0x2028 0xE2 (eqb-true c 0x2028 e) (ap (λ bs. slice_index bs 0) (encode_three 0x2028 (omega arith) (omega arith))) refl)
    (or_cases (c == 0x85) (c == 0x2028) front))
    (λ e. by_first 0x2029 0xE2 (eqb-true c 0x2029 e) (ap (λ bs. slice_index bs 0) (encode_three 0x2029 (omega arith) (omega arith))) refl)
    (or_cases (c == 0x85 || c == 0x2028) (c == 0x2029) h)
  where
    by_first : (d b : ℕ) → c ≡ d → first_byte d ≡ b → newline_starts true b ≡ true → newline_starts true (first_byte c) ≡ true
    by_first d b same first h = subst (λ x. newline_starts true x ≡ true) (sym (ap first_byte same ∙ first)) h

newline_reads : (s : Setting) (unicode : Bool) (c : ℕ) → IsScalar c → is_newline s unicode c ≡ true → newline_starts unicode (first_byte c) ≡ true
newline_reads s unicode c scalar h =
    ⊎_elim
    (λ low. let ends = and_parts (nat_le 10 c) (nat_le c 13) low in
    let from : 10 ≤ c = leb-true 10 c ends.0 in
    let to : c ≤ 13 = leb-true c 13 ends.1 in
    subst (λ x. newline_starts unicode x ≡ true) (sym (own_byte c from to)) (control unicode c from to))
    (λ wide. let parts = and_parts unicode (c == 0x85 || c == 0x2028 || c == 0x2029) wide in
    subst (λ u. newline_starts u (first_byte c) ≡ true) (sym parts.0) (separator c parts.1))
    (or_cases (nat_le 10 c && nat_le c 13) (unicode && (c == 0x85 || c == 0x2028 || c == 0x2029)) h)
  where
    own_byte : (c : ℕ) → 10 ≤ c → c ≤ 13 → first_byte c ≡ c
    own_byte c from to = ap (λ bs. slice_index bs 0) (encode_ascii c (omega (arith, to)))

module _ (s : Setting) (utf8 : IsUtf8 s.text) where
  abbrev Good : MatchState → Type 0
  Good = HasCharBoundaries s.text

  -- a byte of the set stands at the position
  abbrev IsAt : Bytes → ℕ → Type 0
  IsAt f p = is_some_and (slice_get s.text p) f ≡ true

  -- a way moves nothing, or begins at a byte of the set
  abbrev Begins : Bytes → MatchState → MatchState → Type 0
  Begins f w v = (v.position ≡ w.position) ⊎ IsAt f w.position

  abbrev Starts : Bytes → Moves → Type 0
  Starts f moves = (w : MatchState) → Good w → Each (Begins f w) (moves w)

  chain : (f : Bytes) (w v u : MatchState) → Begins f w v → Begins f v u → Begins f w u
  chain f w v u h k =
      ⊎_elim (λ same. ⊎_elim (λ again. inl (again ∙ same)) (λ here. inr (subst (IsAt f) same here)) k) (λ here. inr here) h

  wider : (f g : Bytes) → ((b : ℕ) → f b ≡ true → g b ≡ true) → (p : ℕ) → IsAt f p → IsAt g p
  wider f g more p h = widen (slice_get s.text p) h
    where
      widen : (o : Option ℕ) → is_some_and o f ≡ true → is_some_and o g ≡ true
      widen None e = e
      widen (Some b) e = more b e

  wider_ways : (f g : Bytes) → ((b : ℕ) → f b ≡ true → g b ≡ true) → (w : MatchState) (vs : List MatchState) → Each (Begins f w) vs → Each (Begins g w) vs
  wider_ways f g more w vs h = Each-weaker _ _ (λ v o. ⊎_elim (λ same. inl same) (λ here. inr (wider f g more w.position here)) o) vs h

  in_left : (f g : Bytes) (b : ℕ) → f b ≡ true → either_bytes f g b ≡ true
  in_left f g b h = or_left (f b) (g b) h

  in_right : (f g : Bytes) (b : ℕ) → g b ≡ true → either_bytes f g b ≡ true
  in_right f g b h = or_right (f b) (g b) h

  -- one after the other
  starts_then : (f : Bytes) (body next : Moves) → PreservesForward Good body → Starts f body → Starts f next → Starts f (λ w. flat_map next (body w))
  starts_then f body next well p q w h =
      Each-flat_map (λ v. IsForwardTo Good w v × Begins f w v) (Begins f w) next
      (λ v o. Each-weaker _ _ (λ u k. chain f w v u o.1 k) (next v) (q v o.0.1)) (body w)
      (both_hold _ _ (body w) (well w h) (p w h))

  stay : (f : Bytes) → Starts f match_empty
  stay f w h = (inl refl, tt)

  stay_if : (f : Bytes) (b : Bool) (w : MatchState) → Each (Begins f w) (match_empty_if b w)
  stay_if f b w = Each-cond _ b (w ∷ []) [] (inl refl, tt) tt

  stay_pairs : (f : Bytes) (w : MatchState) (vs : List MatchState) → Each (Begins f w) (keep_only_pairs w vs)
  stay_pairs f w [] = tt
  stay_pairs f w (v ∷ vs) = (inl refl, stay_pairs f w vs)

  stay_look : (f : Bytes) (how : LookAround) (m : Meaning) (w : MatchState) → Each (Begins f w) (look how m w)
  stay_look f LookAhead m w = stay_pairs f w (m.from w)
  stay_look f LookAheadNeg m w = stay_if f _ w
  stay_look f LookBehind m w = stay_pairs f w (m.behind w)
  stay_look f LookBehindNeg m w = stay_if f _ w

  -- a character whose first byte is in the set
  starts_character : (f : Bytes) (test : ℕ → Bool) → ((c : ℕ) → IsScalar c → test c ≡ true → f (first_byte c) ≡ true) → Starts f (character s test)
  starts_character f test reads w h =
      Each-for_some _ _ (char_at s.text w.position) (λ c e.
      cond_both (test c) (with_position w (w.position + len_utf8 c) ∷ []) [] (Each (Begins f w))
      (λ passes. (inr (subst (λ o. is_some_and o f ≡ true) (sym (read_first s.text w.position c e)) (reads c (char_at_parts s.text w.position c e).0 passes)), tt))
      (λ fails. tt))

  starts_newline : (unicode : Bool) → Starts (newline_starts unicode) (general_newline_ways s unicode)
  starts_newline unicode w h =
      cond_both (is_before_byte s.text 13 w.position && is_before_byte s.text 10 (w.position + 1)) (with_position w (w.position + 2) ∷ [])
      (character s (is_newline s unicode) w) (Each (Begins (newline_starts unicode) w))
      (λ e. (inr (subst (λ o. is_some_and o (newline_starts unicode) ≡ true) (sym (byte_at (slice_get s.text w.position) 13 (and_parts _ _ e).0)) (newline_13 unicode)), tt))
      (λ e. starts_character (newline_starts unicode) (is_newline s unicode) (newline_reads s unicode) w h)
    where
      byte_at : (o : Option ℕ) (x : ℕ) → is_some_and o (λ c. c == x) ≡ true → o ≡ Some x
      byte_at None x e = absurd (false≢true e)
      byte_at (Some y) x e = ap Some (eqb-true y x e)

  starts_first : (f : Bytes) (w : MatchState) (vs : List MatchState) → Each (Begins f w) vs → Each (Begins f w) (first_only vs)
  starts_first f w [] h = tt
  starts_first f w (v ∷ vs) h = (h.0, tt)

  starts_prefer : (f : Bytes) (greedy : Bool) (w : MatchState) (xs ys : List MatchState) → Each (Begins f w) xs → Each (Begins f w) ys →
      Each (Begins f w) (prefer greedy xs ys)
  starts_prefer f true w xs ys h k = Each-append _ xs ys h k
  starts_prefer f false w xs ys h k = Each-append _ ys xs k h

  module _ (f : Bytes) (body : Moves) (well : PreservesForward Good body) (p : Starts f body) where
    starts_due : (n : ℕ) (rest : Moves) → Starts f rest → Starts f (due n body rest)
    starts_due zero rest q = q
    starts_due (suc n) rest q = starts_then f body (due n body rest) well p (starts_due n rest q)

    starts_up_to : (n : ℕ) (greedy : Bool) → Starts f (up_to n greedy body)
    starts_up_to zero greedy w h = stay f w h
    starts_up_to (suc n) greedy w h =
        starts_prefer f greedy w _ _ (starts_then f body (up_to n greedy body) well p (starts_up_to n greedy) w h) (stay f w h)

    starts_loop : (n : ℕ) (greedy : Bool) → Starts f (loop n greedy body)
    starts_loop zero greedy w h = tt
    starts_loop (suc n) greedy w h =
        starts_prefer f greedy w _ _
        (Each-flat_map (λ v. IsForwardTo Good w v × Begins f w v) (Begins f w) _
        (λ v o. Each-cond _ (v.position == w.position) (v ∷ []) (loop n greedy body v) (o.1, tt)
        (Each-weaker _ _ (λ u k. chain f w v u o.1 k) (loop n greedy body v) (starts_loop n greedy v o.0.1)))
        (body w) (both_hold _ _ (body w) (well w h) (p w h)))
        (stay f w h)

    starts_repeat : (lo : ℕ) (hi : Option ℕ) (greedy : Bool) → Starts f (repeat s lo hi greedy body)
    starts_repeat lo None greedy = starts_due lo _ (starts_loop (length s.text + 1) greedy)
    starts_repeat lo (Some hi) greedy = starts_due lo _ (starts_up_to (hi - lo) greedy)

  -- a repeat that is never entered
  starts_never : (f : Bytes) (lo hi : ℕ) (greedy : Bool) (body : Moves) → (hi == 0) ≡ true → lo ≤ hi → Starts f (repeat s lo (bound_of hi) greedy body)
  starts_never f zero hi greedy body none le =
      subst (λ n. Starts f (repeat s 0 (bound_of n) greedy body)) (sym (eqb-true hi 0 none)) (stay f)
  starts_never f (suc lo) hi greedy body none le = absurd (omega (arith, le, eqb-true hi 0 none))

  module _ (groups : List Tree) where
    abbrev calls : ℕ → Moves
    calls = call_ways s groups (max_open_calls groups) []

    abbrev M : ℕ → Tree → Meaning
    M = meaning s groups calls

    abbrev S : Tree → Option Bytes
    S = start_set s.has_member s.fold (may_be_empty groups)

    well : (n : ℕ) (t : Tree) → PreservesForward Good (M n t).from
    unfolding ways
    well n t = ways_cut_well s groups utf8 n t

    moves : (n : ℕ) (t : Tree) (w : MatchState) → Good w → may_be_empty groups t ≡ false → Each (λ v. w.position < v.position) ((M n t).from w)
    unfolding ways
    moves n t w h e = non_empty_moves s groups utf8 n t w h e

    -- after a part that moves on, whatever follows
    begun : (f : Bytes) (t : Tree) (n : ℕ) (next : Moves) → may_be_empty groups t ≡ false → Starts f (M n t).from → Starts f (λ w. flat_map next ((M n t).from w))
    begun f t n next some p w h =
        Each-flat_map (λ v. (w.position < v.position) × Begins f w v) (Begins f w) next
        (λ v o. every (next v) (⊎_elim (λ (same : v.position ≡ w.position). absurd (omega (arith, same, o.0))) (λ here. here) o.1)) ((M n t).from w)
        (both_hold _ _ ((M n t).from w) (moves n t w h some) (p w h))
      where
        every : (us : List MatchState) → IsAt f w.position → Each (Begins f w) us
        every [] here = tt
        every (u ∷ us) here = (inr here, every us here)

    abbrev row : Trees → Option Bytes
    row = row_start_set s.has_member s.fold (may_be_empty groups)

    -- from what is known of the parts
    repeat_by : (n : ℕ) (t : Tree) (lo hi : ℕ) (greedy : Bool) (f : Bytes) (b : Bool) → (hi == 0) ≡ b → cond b (Some no_bytes) (S t) ≡ Some f → lo ≤ hi →
        (S t ≡ Some f → Starts f (M n t).from) → Starts f (repeat s lo (bound_of hi) greedy (M n t).from)
    repeat_by n t lo hi greedy f true is e le known = starts_never f lo hi greedy (M n t).from is le
    repeat_by n t lo hi greedy f false is e le known = starts_repeat f (M n t).from (well n t) (known e) lo (bound_of hi) greedy

    row_by : (n : ℕ) (t : Tree) (ts : Trees) (next : Moves) (f : Bytes) (b : Bool) → may_be_empty groups t ≡ b →
        cond b (either_set (S t) (row ts)) (S t) ≡ Some f → ((g : Bytes) → S t ≡ Some g → Starts g (M n t).from) →
        ((g : Bytes) → row ts ≡ Some g → Starts g next) → Starts f (λ w. flat_map next ((M n t).from w))
    row_by n t ts next f true is e first rest =
        let parts = known_parts (S t) (row ts) f e in
        subst (λ g. Starts g (λ w. flat_map next ((M n t).from w))) parts.4
        (starts_then (either_bytes parts.0 parts.1) (M n t).from next (well n t)
        (λ w h. wider_ways parts.0 (either_bytes parts.0 parts.1) (in_left parts.0 parts.1) w _ (first parts.0 parts.2 w h))
        (λ w h. wider_ways parts.1 (either_bytes parts.0 parts.1) (in_right parts.0 parts.1) w _ (rest parts.1 parts.3 w h)))
    row_by n t ts next f false is e first rest = begun f t n next is (first f e)

    branches_by : (f : Bytes) (o p : Option Bytes) (one others : Moves) → either_set o p ≡ Some f → ((g : Bytes) → o ≡ Some g → Starts g one) →
        ((g : Bytes) → p ≡ Some g → Starts g others) → Starts f (λ w. one w ++ others w)
    branches_by f o p one others e first rest =
        let parts = known_parts o p f e in
        subst (λ g. Starts g (λ w. one w ++ others w)) parts.4
        (λ w h. Each-append _ (one w) (others w)
        (wider_ways parts.0 (either_bytes parts.0 parts.1) (in_left parts.0 parts.1) w _ (first parts.0 parts.2 w h))
        (wider_ways parts.1 (either_bytes parts.0 parts.1) (in_right parts.0 parts.1) w _ (rest parts.1 parts.3 w h)))

    mutual
      unfolding meaning meanings start_set row_start_set branches_start_set EachRepeat EachRepeatInRow

      starts : (n : ℕ) (t : Tree) (f : Bytes) → S t ≡ Some f → IsInOrder t → Starts f (M n t).from
      starts n (literal val casei) f e order =
          subst (λ g. Starts g (M n (literal val casei)).from) (same_Some _ f e)
          (starts_character _ (is_literal s (slice_index val 0) casei) (λ c scalar h. literal_reads s.fold (slice_index val 0) c casei scalar h))
      starts n (delegate class casei) f e order =
          subst (λ g. Starts g (M n (delegate class casei)).from) (same_Some _ f e)
          (starts_character _ (s.has_member class casei) (λ c scalar h. class_reads (s.has_member class casei) c scalar h))
      starts n (general_newline unicode) f e order =
          subst (λ g. Starts g (M n (general_newline unicode)).from) (same_Some _ f e) (starts_newline unicode)
      starts n (concat ts) f e order = starts_row n ts f e order
      starts n (alt ts) f e order = starts_branches n ts f e order
      starts n (tree.group t) f e order = λ w h.
          Each-map (Begins f w) (Begins f w) _ (λ v o. o) ((M (n + 1) t).from w) (starts (n + 1) t f e order w h)
      starts n (atomic_group t) f e order = λ w h. starts_first f w _ (starts n t f e order w h)
      starts n (tree.repeat t lo hi greedy) f e order = repeat_by n t lo hi greedy f (hi == 0) refl e order.0 (λ k. starts n t f k order.1)
      starts n empty f e order = stay f
      starts n (assertion a) f e order = λ w h. stay_if f _ w
      starts n (look_around t how) f e order = λ w h. stay_look f how _ w
      starts n keep_out f e order = λ w h. (inl refl, tt)
      starts n continue f e order = λ w h. stay_if f _ w
      starts n (backref_exists k None) f e order = λ w h. stay_if f _ w
      starts n (backref_exists k (Some level)) f e order = λ w h. tt
      starts n (verb v) f e order = λ w h. tt
      starts n (define_group t) f e order = stay f
      starts n (ast_group name t position) f e order = λ w h. tt
      starts n (ast_condition goal level position) f e order = λ w h. tt
      starts n t f e order = absurd (none-some f e)

      starts_row : (n : ℕ) (ts : Trees) (f : Bytes) → row ts ≡ Some f → EachRepeatInRow (λ lo hi. lo ≤ hi) ts →
          Starts f (all_of (meanings s groups calls n ts))
      starts_row n no_trees f e order = stay f
      starts_row n (more_trees t ts) f e order =
          row_by n t ts (all_of (meanings s groups calls (n + group_count t) ts)) f (may_be_empty groups t) refl e
          (λ g k. starts n t g k order.0) (λ g k. starts_row (n + group_count t) ts g k order.1)

      starts_branches : (n : ℕ) (ts : Trees) (f : Bytes) → branches_start_set s.has_member s.fold (may_be_empty groups) ts ≡ Some f →
          EachRepeatInRow (λ lo hi. lo ≤ hi) ts → Starts f (λ w. flat_map (λ m. m.from w) (meanings s groups calls n ts))
      starts_branches n no_trees f e order = λ w h. tt
      starts_branches n (more_trees t ts) f e order =
          branches_by f _ _ (M n t).from (λ w. flat_map (λ m. m.from w) (meanings s groups calls (n + group_count t) ts)) e
          (λ g k. starts n t g k order.0) (λ g k. starts_branches (n + group_count t) ts g k order.1)

    -- and so the ways of a tree that is not skippable
    pub ways_start : (n : ℕ) (t : Tree) (f : Bytes) → may_be_empty groups t ≡ false → S t ≡ Some f → IsInOrder t → (w : MatchState) → Good w →
        Each (λ v. IsAt f w.position) (ways s groups n t w)
    unfolding ways
    ways_start n t f some e order w h =
        Each-weaker _ _ (λ v o. ⊎_elim (λ (same : v.position ≡ w.position). absurd (omega (arith, same, o.0))) (λ here. here) o.1) ((M n t).from w)
        (both_hold _ _ ((M n t).from w) (moves n t w h some) (starts n t f e order w h))

-- no group is set where an attempt begins
no_pairs : (n k : ℕ) → ◌≡◌ {A = Option (ℕ × ℕ)} (slice_index_or (replicate n None) k None) None
no_pairs n k =
    ⊎_elim (λ (lt : k < n). get_or-replicate n k None None lt)
    (λ (ge : n ≤ k). get_or_past (replicate n None) k None (omega (arith, ge, length-replicate n (no_pair))))
    (cases_lt k n)
  where
    no_pair : Option (ℕ × ℕ)
    no_pair = None

starts_well : (text : List ℕ) (pattern : Pattern) (p : ℕ) → IsCharBoundary text p → HasCharBoundaries text (start_way pattern p)
starts_well text pattern p h = (h, λ k a b e. absurd (none-some (a, b) (sym (no_pairs (length pattern.groups) k) ∙ e)), h)

-- each way of the whole pattern from a place begins at a byte of the set
pub ways_begin : (s : Setting) (t : Tree) (set : Bytes) → start_bytes_by s.has_member s.fold t ≡ Some set → IsUtf8 s.text → IsInOrder t → (p : ℕ) → IsCharBoundary s.text p →
    Each (λ v. is_some_and (slice_get s.text p) set ≡ true) (ways s (pattern_of t).groups (pattern_of t).first_group t (start_way (pattern_of t) p))
ways_begin s t set known utf8 order p at =
    let outer = known_if (may_be_empty (pattern_of t).groups t || has_keep_out t) _ set known in
    let tests = or_parts (may_be_empty (pattern_of t).groups t) (has_keep_out t) outer.0 in
    let pattern = pattern_of t in
    ways_start s utf8 pattern.groups pattern.first_group t set tests.0 outer.1 order (start_way pattern p) (starts_well s.text pattern p at)

pub matches_start : (s : Setting) (t : Tree) (set : Bytes) → start_bytes_by s.has_member s.fold t ≡ Some set → MatchesStartIn s t set
unfolding match_at
matches_start s t set known utf8 order find p m at e =
    let outer = known_if (may_be_empty (pattern_of t).groups t || has_keep_out t) _ set known in
    let tests = or_parts (may_be_empty (pattern_of t).groups t) (has_keep_out t) outer.0 in
    let pattern = pattern_of t in
    let found = found_in_list match_of _ m e in
    let begins = Each-filter _ (is_admitted find) _ (ways_begin s t set known utf8 order p at) in
    let same = Each-filter _ (is_admitted find) _ (pattern_keeps_start s t tests.1 (start_way pattern p)) in
    let kept : found.0.match_start ≡ p = chosen_holds (SameStart (start_way pattern p)) find.options.longest _ same found.0 found.1 in
    let here = chosen_holds (λ v. is_some_and (slice_get s.text p) set ≡ true) find.options.longest _ begins found.0 found.1 in
    (ap (λ (x : Match). x.start) (sym found.2) ∙ kept, here)

-- starts without a match may be left out
leaves_out : (f : ℕ → Option Match) (test : ℕ → Bool) (xs : List ℕ) → Each (λ p. (m : Match) → f p ≡ Some m → test p ≡ true) xs →
    first_some f (filter test xs) ≡ first_some f xs
leaves_out f test [] h = refl
leaves_out f test (x ∷ xs) h = by_test (leaves_out f test xs h.1) (test x) refl
  where
    none_of : (o : Option Match) → ((m : Match) → o ≡ Some m → ⊥) → o ≡ None
    none_of None k = refl
    none_of (Some m) k = absurd (k m refl)

    by_test : first_some f (filter test xs) ≡ first_some f xs → (b : Bool) → test x ≡ b → first_some f (cond b (x ∷ filter test xs) (filter test xs)) ≡ first_some f (x ∷ xs)
    by_test rest true e = ap (λ r. elim (f x) [ None ↦ r | Some y ↦ Some y ]) rest
    by_test rest false e =
        rest
        ∙ sym (ap (λ o. elim o [ None ↦ first_some f xs | Some y ↦ Some y ]) (none_of (f x) (λ m k. false≢true (sym e ∙ h.0 m k))))

starts_cut : (s : Setting) (pattern : Pattern) (find : Search) → IsCharBoundary s.text find.first → find.stop ≤ length s.text →
    Each (IsCharBoundary s.text) (tried s pattern find)
starts_cut s pattern find h inside =
    Each-cond _ (nat_lt find.stop find.first) [] _ tt
    (Each-cond _ find.anchored (find.first ∷ []) _ (h, tt)
    (Each-weaker _ _ (λ b o. IsCharBoundary-of_test s.text b (omega (arith, o.0.1, inside)) o.1) _ (boundaries_pass s.text find.first find.stop)))

pub seek_finds_same : (s : Setting) (t : Tree) (set : Bytes) → start_bytes_by s.has_member s.fold t ≡ Some set → SeekFindsSame s t set
unfolding first_match
seek_finds_same s t set known utf8 order find at inside =
    leaves_out (match_at s (pattern_of t) find) (λ p. is_some_and (slice_get s.text p) set) (tried s (pattern_of t) find)
    (Each-weaker _ _ (λ p cut m e. (matches_start s t set known utf8 order find p m cut e).1) _ (starts_cut s (pattern_of t) find at inside))

pub searches_start : (s : Setting) (t : Tree) (set : Bytes) → start_bytes_by s.has_member s.fold t ≡ Some set → SearchesStartIn s t set
unfolding first_match
searches_start s t set known utf8 order find m at inside e =
    let found = first_in_list (IsCharBoundary s.text) (match_at s (pattern_of t) find) (tried s (pattern_of t) find) (starts_cut s (pattern_of t) find at inside) m e in
    let here = matches_start s t set known utf8 order find found.0 m found.1 found.2 in
    subst (λ q. is_some_and (slice_get s.text q) set ≡ true) (sym here.0) here.1

-- in a mode
pub start_bytes_hold : (unicode : Bool) (t : Tree) (set : Bytes) → start_bytes unicode t ≡ Some set → StartBytesHold unicode t set
start_bytes_hold unicode t set known s mode =
    let same = ap (λ f. start_bytes_by f s.fold t) mode.0 ∙ ap (λ f. start_bytes_by (in_class unicode) f t) mode.1 ∙ known in
    (matches_start s t set same, searches_start s t set same, seek_finds_same s t set same)
