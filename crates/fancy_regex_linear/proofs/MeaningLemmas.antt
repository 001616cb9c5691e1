-- A plain pattern has the ways of its tree.
use Rattle.std.proofs.Common.{◌≡◌, ◌≢◌, ℕ, zero, suc, ◌+◌, ◌*◌, ◌-◌, ◌<◌, ◌≤◌, ◌==◌, Bool, true, false, cond, not, ◌&&◌, List, [], ◌∷◌, ◌++◌, map, length, Option, Some, None, if◌then◌else◌, slice_get, slice_index, set, refl, sym, ap, ap₂, ◌∙◌, subst, inl, inr, arith, lt-ltb, le-ltb, le-leb, eq-eqb, ne_eqb, eqb-true, true≢false, length-append, append-nil}
use Rattle.std.specs.List.{flat_map}
use Rattle.std.specs.Char.{len_utf8}
use Rattle.std.proofs.lemmas.Bool.{and_parts, cases_lt}
use Rattle.std.proofs.lemmas.List.{map-append}
use Rattle.std.proofs.lemmas.Str.{len_utf8_bounds}
use Rattle.regex_hir.specs.Text.{is_some_and, char_at, char_before}
use Rattle.regex_hir.proofs.TextLemmas.{char_at_fits}
use Rattle.fancy_regex_tree.specs.Tree.{Tree, Trees, Text, empty, any, assertion, literal, concat, alt, group, look_around, repeat, delegate, no_trees, more_trees}
use Rattle.fancy_regex_tree.specs.declared.expr.Assertion.{Assertion}
use Rattle.fancy_regex_tree.specs.declared.expr.Assertion.TheVariants as A
use Rattle.fancy_regex_tree.specs.declared.expr.LookAround.{LookAround}
use Rattle.fancy_regex_tree.specs.declared.expr.LookAround.TheVariants.{LookAhead, LookAheadNeg, LookBehind, LookBehindNeg}
use Rattle.fancy_regex_meaning.specs.Groups.{group_count}
use Rattle.fancy_regex_meaning.specs.Sizes.{Size, bound_of, size, size_with, size_through}
use Rattle.fancy_regex_meaning.specs.Ways.{MatchState, Moves, Pairs, Setting, meaning, meanings, all_of, any_of, prefer, due, up_to, loop, character, with_position, match_empty_if, holds}
use Rattle.fancy_regex_meaning.specs.Ways as ways
use Rattle.fancy_regex_class.specs.Classes.{folded}
use Rattle.fancy_regex_linear.specs.Re.{Re, nothing, read, test}
use Rattle.fancy_regex_linear.specs.Re as re
use Rattle.fancy_regex_states.specs.Attempts.{View, reads}
use Rattle.fancy_regex_linear.specs.Meaning.{Spot, each, in_order, after_iteration, loop_ways, times_ways, upto_ways, tail_ways, is_unbounded}
use Rattle.fancy_regex_linear.specs.Meaning as plain
use Rattle.fancy_regex_linear.specs.Plain.{IsPlain, ArePlain, IsOneChar, IsServed, test_of, served, looked, around, look_test, char_leaf, has_no_iteration, unless, classes, row_classes, re_of, row_of, branches_of}
use Rattle.fancy_regex_class.specs.RunInputs.{group_slots}
use Rattle.fancy_regex_linear.specs.SettingView.{view_of, leaf_matches, test_holds}
use Rattle.fancy_regex_states.specs.declared.atom.Leaf.{Leaf}
use Rattle.fancy_regex_states.specs.declared.atom.Leaf.TheVariants.{Any, Char, Folded, Class}
use Rattle.fancy_regex_linear.proofs.BoundLemmas.{AllOf, Between, Ends, ways_end, tail_ends}
use Rattle.fancy_regex_linear.proofs.LookLemmas.{asks, looks_as}
use Rattle.fancy_regex_linear.proofs.PlainLemmas.{plain_regular, below, lacks}
use Rattle.fancy_regex_linear.proofs.CarryLemmas.{Lacks, put, ways_carry, map_twice}

-- where a way is, with its pairs as places
abbrev pub spot_of : MatchState → Spot
spot_of w = record { at = w.position; slots = group_slots w.pairs }

-- these moves have those ways
abbrev pub Same : ℕ → Moves → (Spot → List Spot) → Type 0
Same len f list = (w : MatchState) → w.position ≤ len → map spot_of (f w) ≡ list (spot_of w)

-- one after another
map_flat : (P : Spot → Type 0) (g : Moves) (h : Spot → List Spot) (vs : List MatchState) → AllOf P (map spot_of vs) → ((v : MatchState) → P (spot_of v) → map spot_of (g v) ≡ h (spot_of v))
    → map spot_of (flat_map g vs) ≡ each h (map spot_of vs)
map_flat P g h [] all same = refl
map_flat P g h (v ∷ vs) all same = map-append spot_of (g v) (flat_map g vs) ∙ ap₂ ◌++◌ (same v all.0) (map_flat P g h vs all.1 same)

seq_same : (len : ℕ) (f g : Moves) (lf lg : Spot → List Spot) → Ends len lf → Same len f lf → Same len g lg → Same len (λ w. flat_map g (f w)) (λ s. each lg (lf s))
seq_same len f g lf lg ends a b w p =
    map_flat (Between w.position len) g lg (f w) (subst (AllOf (Between w.position len)) (sym (a w p)) (ends (spot_of w) p)) (λ v q. b v q.1)
    ∙ ap (each lg) (a w p)

map_prefer : (g : Bool) (us vs : List MatchState) → map spot_of (prefer g us vs) ≡ in_order g (map spot_of us) (map spot_of vs)
map_prefer true us vs = map-append spot_of us vs
map_prefer false us vs = map-append spot_of vs us

due_same : (len n : ℕ) (f g : Moves) (lf lg : Spot → List Spot) → Ends len lf → Ends len lg → Same len f lf → Same len g lg → Same len (due n f g) (times_ways lf n lg)
unfolding times_ways
due_same len zero f g lf lg ef eg a b w p = b w p
due_same len (suc n) f g lf lg ef eg a b w p =
    seq_same len f (due n f g) lf (times_ways lf n lg) ef a (due_same len n f g lf lg ef eg a b) w p

upto_same : (len n : ℕ) (g : Bool) (f : Moves) (lf : Spot → List Spot) → Ends len lf → Same len f lf → Same len (up_to n g f) (upto_ways g lf n)
unfolding upto_ways
upto_same len zero g f lf ef a w p = refl
upto_same len (suc n) g f lf ef a w p =
    map_prefer g (flat_map (up_to n g f) (f w)) (w ∷ [])
    ∙ ap (λ ws. in_order g ws (spot_of w ∷ [])) (seq_same len f (up_to n g f) lf (upto_ways g lf n) ef a (upto_same len n g f lf ef a) w p)

-- a iteration, and what follows it
pub iteration_same : (w v : MatchState) (again : List MatchState) (next : Spot → List Spot) → w.position ≤ v.position → (w.position < v.position → map spot_of again ≡ next (spot_of v))
    → map spot_of (if v.position == w.position then v ∷ [] else again) ≡ after_iteration next (spot_of w) (spot_of v)
unfolding after_iteration
iteration_same w v again next le same =
    elim (cases_lt w.position v.position) [
      | inl lt ↦ rw (ne_eqb v.position w.position (omega arith), lt-ltb w.position v.position lt) (same lt)
      | inr ge ↦ rw (eq-eqb v.position w.position (omega arith), le-ltb w.position v.position ge) refl
    ]

loop_same : (len n m : ℕ) (g : Bool) (f : Moves) (lf : Spot → List Spot) → Ends len lf → Same len f lf → (w : MatchState) → w.position ≤ len
    → len - w.position < n → len - w.position ≤ m → map spot_of (loop n g f w) ≡ loop_ways g lf m (spot_of w)
unfolding loop_ways
loop_same len zero m g f lf ef a w p x y = absurd (omega arith)
loop_same len (suc n) zero g f lf ef a w p x y =
    map_prefer g _ (w ∷ [])
    ∙ ap (λ ws. in_order g ws (spot_of w ∷ []))
    (map_flat (Between w.position len) _ (after_iteration (λ _. []) (spot_of w)) (f w) (subst (AllOf (Between w.position len)) (sym (a w p)) (ef (spot_of w) p))
    (λ v q. iteration_same w v (loop n g f v) (λ _. []) q.0 (λ lt. absurd {0} (omega (arith, q.0, q.1))))
    ∙ ap (each (after_iteration (λ _. []) (spot_of w))) (a w p))
loop_same len (suc n) (suc m) g f lf ef a w p x y =
    map_prefer g _ (w ∷ [])
    ∙ ap (λ ws. in_order g ws (spot_of w ∷ []))
    (map_flat (Between w.position len) _ (after_iteration (loop_ways g lf m) (spot_of w)) (f w) (subst (AllOf (Between w.position len)) (sym (a w p)) (ef (spot_of w) p))
    (λ v q. iteration_same w v (loop n g f v) (loop_ways g lf m) q.0 (λ lt. loop_same len n m g f lf ef a v q.1 (omega (arith, q.1)) (omega (arith, q.1))))
    ∙ ap (each (after_iteration (loop_ways g lf m) (spot_of w))) (a w p))

-- a repeat, whether it has a bound or none
repeat_same : (s : Setting) (lo hi : ℕ) (g u : Bool) (f : Moves) (lf : Spot → List Spot) → is_unbounded hi ≡ u → Ends (length s.text) lf → Same (length s.text) f lf
    → Same (length s.text) (ways.repeat s lo (cond u None (Some hi)) g f) (times_ways lf lo (tail_ways u (length s.text) g lf (hi - lo)))
unfolding tail_ways
repeat_same s lo hi g true f lf e ef a w p =
    due_same (length s.text) lo f (loop (length s.text + 1) g f) lf (tail_ways true (length s.text) g lf (hi - lo)) ef (tail_ends true (length s.text) g lf ef (hi - lo)) a
    (λ v q. loop_same (length s.text) (length s.text + 1) (length s.text - v.position) g f lf ef a v q (omega arith) (omega arith)) w p
repeat_same s lo hi g false f lf e ef a w p =
    due_same (length s.text) lo f (up_to (hi - lo) g f) lf (tail_ways false (length s.text) g lf (hi - lo)) ef (tail_ends false (length s.text) g lf ef (hi - lo)) a
    (λ v q. upto_same (length s.text) (hi - lo) g f lf ef a v q) w p

-- a repeat that may be left out
pub no_iterations : (lo hi : ℕ) → has_no_iteration lo hi ≡ true → (lo ≡ 0) × (hi ≡ 0)
no_iterations lo hi e = let both = and_parts _ _ e in (eqb-true lo 0 both.0, eqb-true hi 0 both.1)

out_by : (s : Setting) (lo hi : ℕ) (g : Bool) (f : Moves) (view : View) (a : Re) (b : Bool) → (b ≡ true → (lo ≡ 0) × (hi ≡ 0))
    → (b ≡ false → Same (length s.text) (ways.repeat s lo (bound_of hi) g f) (plain.ways view (length s.text) a))
    → Same (length s.text) (ways.repeat s lo (bound_of hi) g f) (plain.ways view (length s.text) (unless b a))
unfolding plain.ways
out_by s lo hi g f view a true zeros h w p = rw ((zeros refl).0, (zeros refl).1) refl
out_by s lo hi g f view a false zeros h w p = h refl w p

-- places of a pair that is written
pub flat_set : (ps : Pairs) (k a b : ℕ) → group_slots (set ps k (Some (a, b))) ≡ set (set (group_slots ps) (2 * k) a) (2 * k + 1) b
flat_set [] k a b = refl
flat_set (None ∷ ps) zero a b = refl
flat_set (Some q ∷ ps) zero a b = refl
flat_set (None ∷ ps) (suc k) a b =
    let two : 2 * suc k ≡ suc (suc (2 * k)) = omega arith in
    let three : 2 * suc k + 1 ≡ suc (suc (2 * k + 1)) = omega arith in
    rw (three, two) (ap (λ xs. 18446744073709551615 ∷ 18446744073709551615 ∷ xs) (flat_set ps k a b))
flat_set (Some q ∷ ps) (suc k) a b =
    let two : 2 * suc k ≡ suc (suc (2 * k)) = omega arith in
    let three : 2 * suc k + 1 ≡ suc (suc (2 * k + 1)) = omega arith in
    rw (three, two) (ap (λ xs. q.0 ∷ q.1 ∷ xs) (flat_set ps k a b))

pub map_map : (f : MatchState → MatchState) (g : Spot → Spot) (vs : List MatchState) → ((v : MatchState) → spot_of (f v) ≡ g (spot_of v)) → map spot_of (map f vs) ≡ map g (map spot_of vs)
map_map f g [] h = refl
map_map f g (v ∷ vs) h = ap₂ ◌∷◌ (h v) (map_map f g vs h)

-- a group: its pair is written at its close, and its slots at its opening and its close
group_same : (view : View) (len n : ℕ) (f : Moves) (a : Re) → Lacks n a → Same len f (plain.ways view len a) → Same len (ways.group n f) (plain.ways view len (re.group n a))
unfolding plain.ways
group_same view len n f a lacks same w p =
    let close : Spot → Spot = λ v. record { at = v.at; slots = set v.slots (2 * n + 1) v.at } in
    map_map (λ v. ways.set_pair n (w.position, v.position) v) (λ v. close (put (2 * n) w.position v)) (f w)
    (λ v. ap (λ (xs : List ℕ). let r : Spot = record { at = v.position; slots = xs } in r) (flat_set v.pairs n w.position v.position))
    ∙ ap (map (λ v. close (put (2 * n) w.position v))) (same w p)
    ∙ sym (map_twice close (put (2 * n) w.position) (plain.ways view len a (spot_of w)))
    ∙ ap (map close) (sym (ways_carry view len n w.position a lacks (spot_of w)))

-- a test
pub stay_same : (b : Bool) (w : MatchState) → map spot_of (if b then w ∷ [] else []) ≡ (if b then spot_of w ∷ [] else [])
stay_same true w = refl
stay_same false w = refl

taken_same : (b : Bool) (w : MatchState) → map spot_of (if b then w ∷ [] else []) ≡ (if b && (true && true) then spot_of w ∷ [] else [])
taken_same true w = refl
taken_same false w = refl

-- one character
module _ (s : Setting) (cs : List (Text × Bool)) (far : Bool) where
  pub char_same : (leaf : Leaf) (w : MatchState) (o : Option ℕ) → char_at s.text w.position ≡ o → (is_taken : ℕ → Bool) → ((c : ℕ) → o ≡ Some c → is_taken c ≡ leaf_matches s cs leaf c)
      → map spot_of (ways.for_some (λ c. if is_taken c then with_position w (w.position + len_utf8 c) ∷ [] else []) o)
      ≡ (if reads (view_of s cs far) (length s.text) leaf w.position then record { at = (view_of s cs far).next w.position; slots = group_slots w.pairs } ∷ [] else [])
  unfolding reads
  char_same leaf w None e is_taken same = rw e refl
  char_same leaf w (Some c) e is_taken same =
      let width = len_utf8_bounds c in
      let fits = char_at_fits s.text w.position c e in
      let lower : w.position < w.position + len_utf8 c = omega arith in
      rw (e, same c refl, lt-ltb w.position (w.position + len_utf8 c) lower, le-leb (w.position + len_utf8 c) (length s.text) fits)
      (taken_same (leaf_matches s cs leaf c) (with_position w (w.position + len_utf8 c)))

pub get_left : {A : Type 0} (xs ys : List A) (j : ℕ) → j < length xs → slice_get (xs ++ ys) j ≡ slice_get xs j
get_left [] ys j h = absurd (omega arith)
get_left (x ∷ xs) ys zero h = refl
get_left (x ∷ xs) ys (suc j) h = get_left xs ys j (omega arith)

pub get_right : {A : Type 0} (xs ys : List A) (j : ℕ) → slice_get (xs ++ ys) (length xs + j) ≡ slice_get ys j
get_right [] ys j = let e : 0 + j ≡ j = omega arith in ap (slice_get ys) e
get_right (x ∷ xs) ys j =
    let e : length (x ∷ xs) + j ≡ suc (length xs + j) = omega arith in
    ap (slice_get (x ∷ (xs ++ ys))) e ∙ get_right xs ys j

-- a tree of one character is one character long
least_with : (call : ℕ → Size) (t : Tree) → IsOneChar t → (size_with call t).least ≡ 1
unfolding size_with
least_with call (any newline crlf) p = refl
least_with call (literal val casei) p = refl
least_with call (delegate class casei) p = refl
least_with call _ p = absurd p

least_through : (groups : List Tree) (m : ℕ) (t : Tree) → IsOneChar t → (size_through groups m t).least ≡ 1
unfolding size_through
least_through groups zero t p = least_with _ t p
least_through groups (suc m) t p = least_with _ t p

pub least_one : (groups : List Tree) (t : Tree) → IsOneChar t → (size groups t).least ≡ 1
unfolding size
least_one groups t p = least_through groups (length groups) t p

-- of no character or one, by tests that agree
some_same : (s : Setting) (cs : List (Text × Bool)) (passes : ℕ → Bool) (leaf : Leaf) → ((c : ℕ) → passes c ≡ leaf_matches s cs leaf c) → (o : Option ℕ)
    → is_some_and o passes ≡ is_some_and o (leaf_matches s cs leaf)
some_same s cs passes leaf same None = refl
some_same s cs passes leaf same (Some c) = same c

module _ (s : Setting) (groups : List Tree) (unicode : Bool) (call : ℕ → Moves) (cs : List (Text × Bool)) (far : Bool) (same_fold : (c : ℕ) → s.fold c ≡ folded unicode c) where
  abbrev len : ℕ
  len = length s.text

  abbrev view : View
  view = view_of s cs far

  -- the classes of a child have the numbers from k on
  abbrev pub StandAt : ℕ → List (Text × Bool) → Type 0
  StandAt k xs = (j : ℕ) → j < length xs → slice_get cs (k + j) ≡ slice_get xs j

  pub stand_left : (k : ℕ) (xs ys : List (Text × Bool)) → StandAt k (xs ++ ys) → StandAt k xs
  stand_left k xs ys h j lt = h j (omega (arith, length-append xs ys)) ∙ get_left xs ys j lt

  pub stand_right : (k : ℕ) (xs ys : List (Text × Bool)) → StandAt k (xs ++ ys) → StandAt (k + length xs) ys
  stand_right k xs ys h j lt =
      let e : k + length xs + j ≡ k + (length xs + j) = omega arith in
      ap (slice_get cs) e ∙ h (length xs + j) (omega (arith, length-append xs ys)) ∙ get_right xs ys j

  -- the classes of a repeat that is not left out are its body's
  pub all_stand : (k lo hi : ℕ) (t : Tree) → has_no_iteration lo hi ≡ false → StandAt k (if has_no_iteration lo hi then [] else classes t) → StandAt k (classes t)
  all_stand k lo hi t made h = subst (λ b. StandAt k (if b then [] else classes t)) made h

  pub assertion_same : (a : Assertion) → IsServed (test_of a) → Same len (λ w. match_empty_if (holds s a w.position) w) (plain.ways view len (served a (test_of a)))
  unfolding plain.ways
  assertion_same A.StartText p w q = stay_same _ w
  assertion_same A.EndText p w q = stay_same _ w
  assertion_same (A.StartLine crlf) p w q = stay_same _ w
  assertion_same (A.EndLine crlf) p w q = stay_same _ w
  assertion_same A.WordBoundary p w q = stay_same _ w
  assertion_same A.NotWordBoundary p w q = stay_same _ w
  assertion_same A.LeftWordBoundary p w q = stay_same _ w
  assertion_same A.RightWordBoundary p w q = stay_same _ w
  assertion_same A.LeftWordHalfBoundary p w q = stay_same _ w
  assertion_same A.RightWordHalfBoundary p w q = stay_same _ w
  assertion_same (A.StartLineOniguruma crlf) p w q = stay_same _ w
  assertion_same (A.EndTextIgnoreTrailingNewlines crlf) p w q = absurd p

  pub literal_same : (d : ℕ) (casei : Bool) → Same len (character s (ways.is_literal s d casei)) (plain.ways view len (read (if casei then Folded (folded unicode d) else Char d)))
  unfolding plain.ways
  literal_same d true w q = char_same s cs far (Folded (folded unicode d)) w (char_at s.text w.position) refl _ (λ c e. ap (λ x. s.fold c == x) (same_fold d))
  literal_same d false w q = char_same s cs far (Char d) w (char_at s.text w.position) refl _ (λ c e. refl)

  pub class_same : (k : ℕ) (class : Text) (casei : Bool) → StandAt k ((class, casei) ∷ []) → Same len (character s (s.has_member class casei)) (plain.ways view len (read (Class k)))
  unfolding plain.ways
  class_same k class casei h w q =
      let here : slice_get cs k ≡ Some (class, casei) = (let e : k ≡ k + 0 = omega arith in ap (slice_get cs) e) ∙ h 0 (omega arith) in
      char_same s cs far (Class k) w (char_at s.text w.position) refl _ (λ c e. sym (ap (λ o. is_some_and o (λ p. s.has_member p.0 p.1 c)) here))

  -- a look-around asks what its test does, where the character's test is that of its leaf
  asked : (passes : ℕ → Bool) (leaf : Leaf) → ((c : ℕ) → passes c ≡ leaf_matches s cs leaf c) → (t : Tree) (one : (size groups t).least ≡ 1) (how : LookAround) (p : ℕ)
      → asks s passes groups t one how p ≡ test_holds s cs (look_test how leaf) p
  asked passes leaf same t one LookAhead p = some_same s cs passes leaf same (char_at s.text p)
  asked passes leaf same t one LookAheadNeg p = ap not (some_same s cs passes leaf same (char_at s.text p))
  asked passes leaf same t one LookBehind p = some_same s cs passes leaf same (char_before s.text p)
  asked passes leaf same t one LookBehindNeg p = ap not (some_same s cs passes leaf same (char_before s.text p))

  one_look : (passes : ℕ → Bool) (leaf : Leaf) → ((c : ℕ) → passes c ≡ leaf_matches s cs leaf c) → (t : Tree) (one : (size groups t).least ≡ 1) (how : LookAround)
      → Same len (ways.look how (ways.node s groups t (character s passes))) (plain.ways view len (re.test (look_test how leaf)))
  unfolding plain.ways
  one_look passes leaf same t one how w q =
      ap (map spot_of) (looks_as s passes groups t one how w ∙ ap (λ b. match_empty_if b w) (asked passes leaf same t one how w.position))
      ∙ stay_same (test_holds s cs (look_test how leaf) w.position) w

  -- a look-around for one character
  pub look_same : (n k : ℕ) (t : Tree) (how : LookAround) → IsOneChar t → StandAt k (classes t) → (body : Re)
      → Same len (ways.look how (meaning s groups call n t)) (plain.ways view len (looked how (char_leaf unicode k t) body))
  unfolding meaning classes
  look_same n k (any newline crlf) how p h body = one_look (ways.is_any s newline crlf) (Any newline crlf) (λ c. refl) (any newline crlf) (least_one groups (any newline crlf) tt) how
  look_same n k (literal val true) how p h body =
      one_look (ways.is_literal s (slice_index val 0) true) (Folded (folded unicode (slice_index val 0))) (λ c. ap (λ x. s.fold c == x) (same_fold (slice_index val 0)))
      (literal val true) (least_one groups (literal val true) tt) how
  look_same n k (literal val false) how p h body =
      one_look (ways.is_literal s (slice_index val 0) false) (Char (slice_index val 0)) (λ c. refl) (literal val false) (least_one groups (literal val false) tt) how
  look_same n k (delegate class casei) how p h body =
      let here : slice_get cs k ≡ Some (class, casei) = (let e : k ≡ k + 0 = omega arith in ap (slice_get cs) e) ∙ h 0 (omega arith) in
      one_look (s.has_member class casei) (Class k) (λ c. sym (ap (λ o. is_some_and o (λ p. s.has_member p.0 p.1 c)) here))
      (delegate class casei) (least_one groups (delegate class casei) tt) how
  look_same n k _ how p h body = absurd p

  -- of a pattern that is made over these bodies
  module _ (gs : List Tree) (called : ℕ → Re) where
    pub around_same : (n k : ℕ) (t : Tree) (how : LookAround) (body : Re) → IsOneChar t → StandAt k (classes t)
        → Same len (ways.look how (meaning s groups call n t)) (plain.ways view len (around unicode gs called n k how body t))
    unfolding around
    around_same n k (any newline crlf) how body p h = look_same n k (any newline crlf) how p h re.nothing
    around_same n k (literal val casei) how body p h = look_same n k (literal val casei) how p h re.nothing
    around_same n k (delegate class casei) how body p h = look_same n k (delegate class casei) how p h re.nothing
    around_same n k _ how body p h = absurd p

    mutual
      unfolding meaning re_of classes plain.ways

      -- a plain tree has the ways of its pattern
      pub tree_same : (n k : ℕ) (t : Tree) → IsPlain t → StandAt k (classes t) → Same len (meaning s groups call n t).from (plain.ways view len (re_of unicode gs called n k t))
      tree_same n k empty p h w q = refl
      tree_same n k (any newline crlf) p h w q = char_same s cs far (Any newline crlf) w (char_at s.text w.position) refl _ (λ c e. refl)
      tree_same n k (literal val casei) p h w q = literal_same (slice_index val 0) casei w q
      tree_same n k (delegate class casei) p h w q = class_same k class casei h w q
      tree_same n k (assertion a) p h w q = assertion_same a p w q
      tree_same n k (concat ts) p h w q = row_same n k ts p h w q
      tree_same n k (alt ts) p h w q = branches_same n k ts p.0 p.1 h w q
      tree_same n k (group t) p h w q =
          group_same view len n (meaning s groups call (n + 1) t).from (re_of unicode gs called (n + 1) k t)
          (lacks unicode gs called n false (λ e. absurd (true≢false (sym e))) (n + 1) k t (plain_regular _ false t p) (below n (n + 1) t (omega arith)))
          (tree_same (n + 1) k t p h) w q
      tree_same n k (look_around t how) p h w q = around_same n k t how (re_of unicode gs called n k t) p h w q
      tree_same n k (repeat t lo hi greedy) p h w q =
          out_by s lo hi greedy (meaning s groups call n t).from view _ (has_no_iteration lo hi) (no_iterations lo hi)
          (λ made. repeat_same s lo hi greedy (is_unbounded hi) (meaning s groups call n t).from (plain.ways view len (re_of unicode gs called n k t)) refl
          (ways_end view len (re_of unicode gs called n k t)) (tree_same n k t p (all_stand k lo hi t made h))) w q
      tree_same n k _ p h w q = absurd p

      row_same : (n k : ℕ) (ts : Trees) → ArePlain ts → StandAt k (row_classes ts) → Same len (all_of (meanings s groups call n ts)) (plain.ways view len (row_of unicode gs called n k ts))
      row_same n k no_trees p h w q = refl
      row_same n k (more_trees t ts) p h w q =
          seq_same len (meaning s groups call n t).from (all_of (meanings s groups call (n + group_count t) ts))
          (plain.ways view len (re_of unicode gs called n k t)) (plain.ways view len (row_of unicode gs called (n + group_count t) (k + length (classes t)) ts))
          (ways_end view len (re_of unicode gs called n k t))
          (tree_same n k t p.0 (stand_left k (classes t) (row_classes ts) h))
          (row_same (n + group_count t) (k + length (classes t)) ts p.1 (stand_right k (classes t) (row_classes ts) h)) w q

      branches_same : (n k : ℕ) (ts : Trees) → (ts ≢ no_trees) → ArePlain ts → StandAt k (row_classes ts)
          → Same len (any_of (meanings s groups call n ts)).from (plain.ways view len (branches_of unicode gs called n k ts))
      branches_same n k no_trees some p h w q = absurd (some refl)
      branches_same n k (more_trees t no_trees) some p h w q =
          ap (map spot_of) (append-nil ((meaning s groups call n t).from w)) ∙ tree_same n k t p.0 (stand_left k (classes t) (row_classes no_trees) h) w q
      branches_same n k (more_trees t (more_trees u us)) some p h w q =
          map-append spot_of ((meaning s groups call n t).from w) ((any_of (meanings s groups call (n + group_count t) (more_trees u us))).from w)
          ∙ ap₂ ◌++◌ (tree_same n k t p.0 (stand_left k (classes t) (row_classes (more_trees u us)) h) w q)
          (branches_same (n + group_count t) (k + length (classes t)) (more_trees u us) (λ e. cc) p.1 (stand_right k (classes t) (row_classes (more_trees u us)) h) w q)
