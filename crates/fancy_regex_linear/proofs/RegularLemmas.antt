-- A regular tree and its pattern have the same first way, whichever places are wanted. A look-around keeps each way of its body,
-- and its pattern the first, so that their other ways differ.
use Rattle.std.proofs.Common.{◌≡◌, ◌≢◌, ℕ, zero, suc, ◌+◌, ◌-◌, ◌<◌, ◌≤◌, ◌==◌, Bool, true, false, cond, not, ◌&&◌, ◌||◌, ◌*◌, List, [], ◌∷◌, ◌++◌, map, length, slice_index, Option, Some, None, if◌then◌else◌, nat_le, set, true≢false, refl, sym, subst, ap, ap₂, ◌∙◌, inl, inr, ◌⊎◌, arith, lt-ltb, le-ltb, le-leb, leb-true, eq-eqb, ne_eqb, append-nil}
use Rattle.std.specs.Prelude.{option_map, is_some, IfSome}
use Rattle.std.specs.List.{flat_map, find, list_any}
use Rattle.std.specs.Option.{option_or, option_and_then}
use Rattle.std.proofs.lemmas.Bool.{and_parts, cases_lt}
use Rattle.std.proofs.lemmas.List.{map-append, set_comm, set-set}
use Rattle.std.proofs.lemmas.List.Folds.{find-append}
use Rattle.std.proofs.lemmas.Option.{none-some, same_Some}
use Rattle.fancy_regex_tree.specs.Tree.{Tree, Trees, Text, empty, any, assertion, general_newline, literal, concat, alt, group, look_around, repeat, delegate, atomic_group, conditional, verb, keep_out, continue, define_group, subroutine_call, no_trees, more_trees}
use Rattle.fancy_regex_tree.specs.declared.expr.Assertion.{Assertion}
use Rattle.fancy_regex_tree.specs.declared.expr.Assertion.TheVariants.{EndTextIgnoreTrailingNewlines}
use Rattle.fancy_regex_tree.specs.declared.expr.LookAround.{LookAround}
use Rattle.fancy_regex_tree.specs.declared.expr.LookAround.TheVariants.{LookAhead, LookAheadNeg, LookBehind, LookBehindNeg}
use Rattle.regex_hir.specs.Text.{char_at, char_before}
use Rattle.std.specs.Char.{len_utf8}
use Rattle.fancy_regex_meaning.specs.Positions.{position_before, is_before_byte}
use Rattle.fancy_regex_class.specs.Classes.{folded}
use Rattle.fancy_regex_class.specs.RunInputs.{group_slots}
use Rattle.fancy_regex_meaning.specs.Groups.{group_count}
use Rattle.fancy_regex_meaning.specs.Sizes.{size, bound_of}
use Rattle.fancy_regex_meaning.specs.Ways.{MatchState, Moves, Pairs, Setting, Meaning, meaning, meanings, character, general_newline_ways, is_newline, reset_match_start, all_of, any_of, prefer, due, up_to, loop, keep_only_pairs, first_only, is_none_of, match_empty_if, for_some, with_position}
use Rattle.fancy_regex_meaning.specs.Ways as ways
use Rattle.fancy_regex_states.specs.Attempts.{View, reads}
use Rattle.fancy_regex_states.specs.declared.atom.Leaf.TheVariants.{Any}
use Rattle.fancy_regex_states.specs.declared.atom.Test.{Test}
use Rattle.fancy_regex_linear.specs.Re.{Re}
use Rattle.fancy_regex_linear.specs.Re as re
use Rattle.fancy_regex_linear.specs.Plain.{IsRegular, AreRegular, IsOneChar, IsServed, test_of, ends_by_crlf, text_end_re, served, joined, is_negated_look, is_look_behind, steps_back, looked, around, each_around, char_leaf, has_no_iteration, unless, classes, row_classes, re_of, row_of, branches_of}
use Rattle.fancy_regex_linear.specs.SettingView.{view_of}
use Rattle.fancy_regex_linear.specs.Meaning.{Spot, each, in_order, after_iteration, loop_ways, times_ways, upto_ways, tail_ways, is_unbounded, asked_ways, at_bytes_before, place_before, ways_at, first_way}
use Rattle.fancy_regex_linear.specs.Meaning as plain
use Rattle.fancy_regex_linear.proofs.BoundLemmas.{AllOf, Between, Ends, ways_end}
use Rattle.fancy_regex_linear.proofs.EndLemmas.{ends, GoesByPlace, after_alike, loop_alike, times_alike, upto_alike, tail_alike, ways_alike}
use Rattle.fancy_regex_linear.proofs.MeaningLemmas.{spot_of, stay_same, no_iterations, flat_set, least_one, char_same, StandAt, stand_left, stand_right, all_stand, assertion_same, literal_same, class_same, look_same}
use Rattle.fancy_regex_linear.proofs.LookLemmas.{asks, looks_as}
use Rattle.fancy_regex_linear.proofs.SameStartLemmas.{HaveStartOf, KeepsStart, regular_keeps_start, branches_keeps}
use Rattle.fancy_regex_linear.proofs.NewlineLemmas.{newline_same}
use Rattle.fancy_regex_linear.proofs.TextEndLemmas.{text_end_same}
use Rattle.fancy_regex_linear.proofs.CarryLemmas.{Lacks, put, map_twice, ways_carry}
use Rattle.fancy_regex_linear.proofs.ApartLemmas.{IsApart, AreApart}

-- the first of these spots at a place that is wanted
abbrev pub first_at : (ℕ → Bool) → List Spot → Option Spot
first_at wanted = find (λ s. wanted s.at)

-- both lists have the same first spot, whichever places are wanted
abbrev pub SameFirst : List Spot → List Spot → Type 0
SameFirst us ws = (wanted : ℕ → Bool) → first_at wanted us ≡ first_at wanted ws

first_append : (us vs ws xs : List Spot) → SameFirst us ws → SameFirst vs xs → SameFirst (us ++ vs) (ws ++ xs)
first_append us vs ws xs a b wanted =
    find-append (λ s. wanted s.at) us vs ∙ ap₂ option_or (a wanted) (b wanted) ∙ sym (find-append (λ s. wanted s.at) ws xs)

first_order : (g : Bool) (us vs ws xs : List Spot) → SameFirst us ws → SameFirst vs xs → SameFirst (in_order g us vs) (in_order g ws xs)
first_order true us vs ws xs a b = first_append us vs ws xs a b
first_order false us vs ws xs a b = first_append vs us xs ws b a

-- whether there is one
some_here : (b : Bool) (u : Spot) (o : Option Spot) (c : Bool) → is_some o ≡ c → is_some (cond b (Some u) o) ≡ (b || c)
some_here true u o c e = refl
some_here false u o c e = e

any_at : (wanted : ℕ → Bool) (us : List Spot) → is_some (first_at wanted us) ≡ list_any wanted (ends us)
any_at wanted [] = refl
any_at wanted (u ∷ us) = some_here (wanted u.at) u (first_at wanted us) (list_any wanted (ends us)) (any_at wanted us)

-- From each spot of a list: the first is from the first spot from which there is one.
module _ (list : Spot → List Spot) (by_place : GoesByPlace list) (wanted : ℕ → Bool) where
  abbrev leads : ℕ → Bool
  leads p = is_some (first_at wanted (list (record { at = p; slots = [] })))

  leads_on : (u : Spot) → leads u.at ≡ is_some (first_at wanted (list u))
  leads_on u =
      let here : Spot = record { at = u.at; slots = [] } in
      any_at wanted (list here) ∙ ap (list_any wanted) (by_place here u refl) ∙ sym (any_at wanted (list u))

  or_later : (b : Bool) (u : Spot) (o later first : Option Spot) → b ≡ is_some o → first_at wanted (list u) ≡ o → later ≡ option_and_then (λ w. first_at wanted (list w)) first
      → option_or o later ≡ option_and_then (λ w. first_at wanted (list w)) (cond b (Some u) first)
  or_later true u (Some x) later first e f g = sym f
  or_later true u None later first e f g = cc
  or_later false u (Some x) later first e f g = cc
  or_later false u None later first e f g = g

  first_each : (us : List Spot) → first_at wanted (each list us) ≡ option_and_then (λ w. first_at wanted (list w)) (first_at leads us)
  first_each [] = refl
  first_each (u ∷ us) =
      find-append (λ s. wanted s.at) (list u) (each list us)
      ∙ or_later (leads u.at) u (first_at wanted (list u)) (first_at wanted (each list us)) (first_at leads us) (leads_on u) refl (first_each us)

same_each : (list : Spot → List Spot) → GoesByPlace list → (us ws : List Spot) → SameFirst us ws → SameFirst (each list us) (each list ws)
same_each list by_place us ws same wanted =
    first_each list by_place wanted us
    ∙ ap (option_and_then (λ w. first_at wanted (list w))) (same (leads list by_place wanted))
    ∙ sym (first_each list by_place wanted ws)

-- Ways with the same firsts end within the same bounds.
abbrev is_outside : ℕ → ℕ → ℕ → Bool
is_outside low stop p = not (nat_le low p && nat_le p stop)

inside_here : (b : Bool) (u : Spot) (rest : Option Spot) → b ≡ true → cond (not b) (Some u) rest ≡ rest
inside_here true u rest e = refl
inside_here false u rest e = cc

none_outside : (low stop : ℕ) (ws : List Spot) → AllOf (Between low stop) ws → first_at (is_outside low stop) ws ≡ None
none_outside low stop [] all = refl
none_outside low stop (w ∷ ws) all =
    inside_here (nat_le low w.at && nat_le w.at stop) w (first_at (is_outside low stop) ws) (ap₂ ◌&&◌ (le-leb low w.at all.0.0) (le-leb w.at stop all.0.1))
    ∙ none_outside low stop ws all.1

inside_if : (b : Bool) (u : Spot) (rest : Option Spot) → cond (not b) (Some u) rest ≡ None → (b ≡ true) × (rest ≡ None)
inside_if true u rest e = (refl, e)
inside_if false u rest e = absurd (none-some u (sym e))

all_inside : (low stop : ℕ) (us : List Spot) → first_at (is_outside low stop) us ≡ None → AllOf (Between low stop) us
all_inside low stop [] e = tt
all_inside low stop (u ∷ us) e =
    let here = inside_if (nat_le low u.at && nat_le u.at stop) u (first_at (is_outside low stop) us) e in
    let both = and_parts (nat_le low u.at) (nat_le u.at stop) here.0 in
    ((leb-true low u.at both.0, leb-true u.at stop both.1), all_inside low stop us here.1)

same_ends : (low stop : ℕ) (us ws : List Spot) → SameFirst us ws → AllOf (Between low stop) ws → AllOf (Between low stop) us
same_ends low stop us ws same all = all_inside low stop us (same (is_outside low stop) ∙ none_outside low stop ws all)

-- writes of slots
map_here : (h : Spot → Spot) (b : Bool) (u : Spot) (o : Option Spot) → cond b (Some (h u)) (option_map h o) ≡ option_map h (cond b (Some u) o)
map_here h true u o = refl
map_here h false u o = refl

first_map : (wanted : ℕ → Bool) (h : Spot → Spot) → ((u : Spot) → (h u).at ≡ u.at) → (us : List Spot) → first_at wanted (map h us) ≡ option_map h (first_at wanted us)
first_map wanted h same [] = refl
first_map wanted h same (u ∷ us) =
    ap₂ (λ (p : ℕ) (o : Option Spot). cond (wanted p) (Some (h u)) o) (same u) (first_map wanted h same us)
    ∙ map_here h (wanted u.at) u (first_at wanted us)

same_map : (h : Spot → Spot) → ((u : Spot) → (h u).at ≡ u.at) → (us ws : List Spot) → SameFirst us ws → SameFirst (map h us) (map h ws)
same_map h at us ws same wanted = first_map wanted h at us ∙ ap (option_map h) (same wanted) ∙ sym (first_map wanted h at ws)

-- The first way at all decides what a look-ahead and an atomic group leave.
abbrev anywhere : ℕ → Bool
anywhere p = true

kept_here : (b : Bool) (x y : Spot) (o : Option Spot) → x ≡ y → (b ≡ false → o ≡ None) → cond b (Some x) o ≡ cond b (Some y) None
kept_here true x y o e none = ap Some e
kept_here false x y o e none = none refl

-- whether the tree reads one character, so that a look-around is a test
one_char_cases : (unicode : Bool) (k : ℕ) (t : Tree) → IsOneChar t ⊎ (char_leaf unicode k t ≡ None)
one_char_cases unicode k (any newline crlf) = inl tt
one_char_cases unicode k (literal val casei) = inl tt
one_char_cases unicode k (delegate class casei) = inl tt
one_char_cases unicode k _ = inr refl

-- the text, for states that ask parts
abbrev pub asking_view : Setting → List (Text × Bool) → View
asking_view s cs = record (view_of s cs false) { has_parts = true }

-- The pairs of groups, where group 0 holds the place where the match will be said to begin, unless the tree writes that group itself.
abbrev pub span_pairs : Bool → ℕ → Pairs → Pairs
span_pairs true start ps = set ps 0 (Some (start, start))
span_pairs false start ps = ps

-- where a way is, with its pairs as places, and with the place where the match will be said to begin
abbrev pub spot_in : Bool → MatchState → Spot
spot_in has_span w = record { at = w.position; slots = group_slots (span_pairs has_span w.match_start w.pairs) }

-- a write of another group
pair_slots : (has_span : Bool) (start : ℕ) (ps : Pairs) (n a b : ℕ) → (has_span ≡ true → 1 ≤ n)
    → group_slots (span_pairs has_span start (set ps n (Some (a, b)))) ≡ set (set (group_slots (span_pairs has_span start ps)) (2 * n) a) (2 * n + 1) b
pair_slots true start ps n a b low =
    let le = low refl in
    ap group_slots (set_comm ps n 0 (Some (a, b)) (Some (start, start)) (λ e. omega (arith, e, le))) ∙ flat_set (set ps 0 (Some (start, start))) n a b
pair_slots false start ps n a b low = flat_set ps n a b

-- `\K` writes group 0
reset_same : (view : View) (len : ℕ) (has_span : Bool) → has_span ≡ true → (w : MatchState)
    → map (spot_in has_span) (reset_match_start w) ≡ plain.ways view len (re.group 0 re.nothing) (spot_in has_span w)
unfolding plain.ways
reset_same view len true e w =
    ap (λ (xs : List ℕ). let r : Spot = record { at = w.position; slots = xs } in r ∷ [])
    (sym (ap group_slots (set-set w.pairs 0 (Some (w.match_start, w.match_start)) (Some (w.position, w.position))))
    ∙ flat_set (set w.pairs 0 (Some (w.match_start, w.match_start))) 0 w.position w.position)
reset_same view len false e w = absurd (true≢false (sym e))

-- What leaves pairs and starts as they are does so with other pairs too.
module _ (has_span : Bool) (w : MatchState) where
  abbrev lifted : MatchState
  lifted = record w { pairs = span_pairs has_span w.match_start w.pairs }

  stay_lifted : (b : Bool) → map (spot_in has_span) (match_empty_if b w) ≡ map spot_of (match_empty_if b lifted)
  stay_lifted true = refl
  stay_lifted false = refl

  move_lifted : (b : Bool) (p : ℕ) → map (spot_in has_span) (if b then with_position w p ∷ [] else []) ≡ map spot_of (if b then with_position lifted p ∷ [] else [])
  move_lifted true p = refl
  move_lifted false p = refl

  char_lifted : (is_taken : ℕ → Bool) (o : Option ℕ)
      → map (spot_in has_span) (for_some (λ c. if is_taken c then with_position w (w.position + len_utf8 c) ∷ [] else []) o)
      ≡ map spot_of (for_some (λ c. if is_taken c then with_position lifted (w.position + len_utf8 c) ∷ [] else []) o)
  char_lifted is_taken None = refl
  char_lifted is_taken (Some c) = move_lifted (is_taken c) (w.position + len_utf8 c)

  either_lifted : (b : Bool) (us vs us_lifted vs_lifted : List MatchState) → map (spot_in has_span) us ≡ map spot_of us_lifted
      → map (spot_in has_span) vs ≡ map spot_of vs_lifted → map (spot_in has_span) (if b then us else vs) ≡ map spot_of (if b then us_lifted else vs_lifted)
  either_lifted true us vs us_lifted vs_lifted e h = e
  either_lifted false us vs us_lifted vs_lifted e h = h

  newline_lifted : (s : Setting) (wide : Bool) → map (spot_in has_span) (general_newline_ways s wide w) ≡ map spot_of (general_newline_ways s wide lifted)
  newline_lifted s wide =
      either_lifted (is_before_byte s.text 13 w.position && is_before_byte s.text 10 (w.position + 1)) (with_position w (w.position + 2) ∷ [])
      (character s (is_newline s wide) w) (with_position lifted (w.position + 2) ∷ []) (character s (is_newline s wide) lifted) refl
      (char_lifted (is_newline s wide) (char_at s.text w.position))

-- Over whether the tree leaves group 0 to the place where the match will be said to begin.
module _ (has_span : Bool) where
  abbrev spot : MatchState → Spot
  spot = spot_in has_span

  -- these moves have the first ways of that list
  abbrev pub HasFirsts : ℕ → Moves → (Spot → List Spot) → Type 0
  HasFirsts len f list = (w : MatchState) → w.position ≤ len → SameFirst (map spot (f w)) (list (spot w))

  -- one after another
  flat_firsts : (P : Spot → Type 0) (g : Moves) (list : Spot → List Spot) (vs : List MatchState) → AllOf P (map spot vs)
      → ((v : MatchState) → P (spot v) → SameFirst (map spot (g v)) (list (spot v))) → SameFirst (map spot (flat_map g vs)) (each list (map spot vs))
  flat_firsts P g list [] all same wanted = refl
  flat_firsts P g list (v ∷ vs) all same wanted =
      ap (first_at wanted) (map-append spot (g v) (flat_map g vs))
      ∙ first_append (map spot (g v)) (map spot (flat_map g vs)) (list (spot v)) (each list (map spot vs)) (same v all.0) (flat_firsts P g list vs all.1 same) wanted

  -- where the moves of a body lead
  body_ends : (len : ℕ) (f : Moves) (lf : Spot → List Spot) → Ends len lf → HasFirsts len f lf → (w : MatchState) → w.position ≤ len → AllOf (Between w.position len) (map spot (f w))
  body_ends len f lf ef a w p = same_ends w.position len (map spot (f w)) (lf (spot w)) (a w p) (ef (spot w) p)

  then_firsts : (len : ℕ) (f g : Moves) (lf lg : Spot → List Spot) → Ends len lf → GoesByPlace lg → HasFirsts len f lf → (w : MatchState) → w.position ≤ len
      → ((v : MatchState) → w.position ≤ v.position → v.position ≤ len → SameFirst (map spot (g v)) (lg (spot v)))
      → SameFirst (map spot (flat_map g (f w))) (each lg (lf (spot w)))
  then_firsts len f g lf lg ef pg a w p b wanted =
      flat_firsts (Between w.position len) g lg (f w) (body_ends len f lf ef a w p) (λ v q. b v q.0 q.1) wanted
      ∙ same_each lg pg (map spot (f w)) (lf (spot w)) (a w p) wanted

  seq_firsts : (len : ℕ) (f g : Moves) (lf lg : Spot → List Spot) → Ends len lf → GoesByPlace lg → HasFirsts len f lf → HasFirsts len g lg
      → HasFirsts len (λ w. flat_map g (f w)) (λ s. each lg (lf s))
  seq_firsts len f g lf lg ef pg a b w p = then_firsts len f g lf lg ef pg a w p (λ v low high. b v high)

  due_firsts : (len n : ℕ) (f g : Moves) (lf lg : Spot → List Spot) → Ends len lf → GoesByPlace lf → GoesByPlace lg → HasFirsts len f lf → HasFirsts len g lg
      → HasFirsts len (due n f g) (times_ways lf n lg)
  unfolding times_ways
  due_firsts len zero f g lf lg ef pf pg a b w p = b w p
  due_firsts len (suc n) f g lf lg ef pf pg a b w p =
      seq_firsts len f (due n f g) lf (times_ways lf n lg) ef (times_alike lf lg pf pg n) a (due_firsts len n f g lf lg ef pf pg a b) w p

  -- a greedy or lazy choice between what goes on and the exit
  turn_firsts : (g : Bool) (us : List MatchState) (ws : List Spot) (w : MatchState) → SameFirst (map spot us) ws
      → SameFirst (map spot (prefer g us (w ∷ []))) (in_order g ws (spot w ∷ []))
  turn_firsts true us ws w same wanted =
      ap (first_at wanted) (map-append spot us (w ∷ [])) ∙ first_append (map spot us) (spot w ∷ []) ws (spot w ∷ []) same (λ _. refl) wanted
  turn_firsts false us ws w same wanted = first_append (spot w ∷ []) (map spot us) (spot w ∷ []) ws (λ _. refl) same wanted

  up_to_firsts : (len n : ℕ) (g : Bool) (f : Moves) (lf : Spot → List Spot) → Ends len lf → GoesByPlace lf → HasFirsts len f lf → HasFirsts len (up_to n g f) (upto_ways g lf n)
  unfolding upto_ways
  up_to_firsts len zero g f lf ef pf a w p = λ wanted. refl
  up_to_firsts len (suc n) g f lf ef pf a w p =
      turn_firsts g (flat_map (up_to n g f) (f w)) (each (upto_ways g lf n) (lf (spot w))) w
      (seq_firsts len f (up_to n g f) lf (upto_ways g lf n) ef (upto_alike g lf pf n) a (up_to_firsts len n g f lf ef pf a) w p)

  -- an iteration, and what follows it
  iteration_firsts : (w v : MatchState) (again : List MatchState) (next : Spot → List Spot) → w.position ≤ v.position → (w.position < v.position → SameFirst (map spot again) (next (spot v)))
      → SameFirst (map spot (if v.position == w.position then v ∷ [] else again)) (after_iteration next (spot w) (spot v))
  unfolding after_iteration
  iteration_firsts w v again next le same wanted =
      elim (cases_lt w.position v.position) [
        | inl lt ↦ rw (ne_eqb v.position w.position (omega arith), lt-ltb w.position v.position lt) (same lt wanted)
        | inr ge ↦ rw (eq-eqb v.position w.position (omega arith), le-ltb w.position v.position ge) refl
      ]

  -- an iteration of a loop, and then the loop again
  round_firsts : (len : ℕ) (g : Bool) (f again : Moves) (lf next : Spot → List Spot) → Ends len lf → GoesByPlace next → HasFirsts len f lf → (w : MatchState) → w.position ≤ len
      → ((v : MatchState) → w.position < v.position → v.position ≤ len → SameFirst (map spot (again v)) (next (spot v)))
      → SameFirst (map spot (prefer g (flat_map (λ v. if v.position == w.position then v ∷ [] else again v) (f w)) (w ∷ [])))
      (in_order g (each (after_iteration next (spot w)) (lf (spot w))) (spot w ∷ []))
  round_firsts len g f again lf next ef pn a w p b =
      turn_firsts g (flat_map (λ v. if v.position == w.position then v ∷ [] else again v) (f w)) (each (after_iteration next (spot w)) (lf (spot w))) w
      (then_firsts len f (λ v. if v.position == w.position then v ∷ [] else again v) lf (after_iteration next (spot w)) ef
      (after_alike next pn (spot w) (spot w) refl) a w p
      (λ v low high. iteration_firsts w v (again v) next low (λ lt. b v lt high)))

  loop_firsts : (len n m : ℕ) (g : Bool) (f : Moves) (lf : Spot → List Spot) → Ends len lf → GoesByPlace lf → HasFirsts len f lf → (w : MatchState) → w.position ≤ len
      → len - w.position < n → len - w.position ≤ m → SameFirst (map spot (loop n g f w)) (loop_ways g lf m (spot w))
  unfolding loop_ways
  loop_firsts len zero m g f lf ef pf a w p x y = absurd (omega arith)
  loop_firsts len (suc n) zero g f lf ef pf a w p x y =
      round_firsts len g f (loop n g f) lf (λ _. []) ef (λ v u e. refl) a w p (λ v low high. absurd {0} (omega arith))
  loop_firsts len (suc n) (suc m) g f lf ef pf a w p x y =
      round_firsts len g f (loop n g f) lf (loop_ways g lf m) ef (loop_alike g lf pf m) a w p
      (λ v low high. loop_firsts len n m g f lf ef pf a v high (omega arith) (omega arith))

  repeat_firsts : (s : Setting) (lo hi : ℕ) (g u : Bool) (f : Moves) (lf : Spot → List Spot) → Ends (length s.text) lf → GoesByPlace lf → HasFirsts (length s.text) f lf
      → HasFirsts (length s.text) (ways.repeat s lo (cond u None (Some hi)) g f) (times_ways lf lo (tail_ways u (length s.text) g lf (hi - lo)))
  unfolding tail_ways
  repeat_firsts s lo hi g true f lf ef pf a w p =
      due_firsts (length s.text) lo f (loop (length s.text + 1) g f) lf (tail_ways true (length s.text) g lf (hi - lo)) ef pf (tail_alike true (length s.text) g lf pf (hi - lo)) a
      (λ v q. loop_firsts (length s.text) (length s.text + 1) (length s.text - v.position) g f lf ef pf a v q (omega arith) (omega arith)) w p
  repeat_firsts s lo hi g false f lf ef pf a w p =
      due_firsts (length s.text) lo f (up_to (hi - lo) g f) lf (tail_ways false (length s.text) g lf (hi - lo)) ef pf (tail_alike false (length s.text) g lf pf (hi - lo)) a
      (up_to_firsts (length s.text) (hi - lo) g f lf ef pf a) w p

  -- a repeat that may be left out
  out_firsts : (s : Setting) (lo hi : ℕ) (g : Bool) (f : Moves) (view : View) (a : Re) (b : Bool) → (b ≡ true → (lo ≡ 0) × (hi ≡ 0))
      → (b ≡ false → HasFirsts (length s.text) (ways.repeat s lo (bound_of hi) g f) (plain.ways view (length s.text) a))
      → HasFirsts (length s.text) (ways.repeat s lo (bound_of hi) g f) (plain.ways view (length s.text) (unless b a))
  unfolding plain.ways
  out_firsts s lo hi g f view a true zeros h w p = rw ((zeros refl).0, (zeros refl).1) (λ wanted. refl)
  out_firsts s lo hi g f view a false zeros h w p = h refl w p

  map_through : (f : MatchState → MatchState) (g : Spot → Spot) (vs : List MatchState) → ((v : MatchState) → spot (f v) ≡ g (spot v))
      → map spot (map f vs) ≡ map g (map spot vs)
  map_through f g [] h = refl
  map_through f g (v ∷ vs) h = ap₂ ◌∷◌ (h v) (map_through f g vs h)

  -- A group: its pair is written at its close, and its slots at its opening and its close. It is not group 0, where that holds the start.
  group_firsts : (view : View) (len n : ℕ) (f : Moves) (a : Re) → (has_span ≡ true → 1 ≤ n) → Lacks n a → HasFirsts len f (plain.ways view len a)
      → HasFirsts len (ways.group n f) (plain.ways view len (re.group n a))
  unfolding plain.ways
  group_firsts view len n f a low lacks same w p wanted =
      let close : Spot → Spot = λ v. record { at = v.at; slots = set v.slots (2 * n + 1) v.at } in
      let both : Spot → Spot = λ v. close (put (2 * n) w.position v) in
      ap (first_at wanted)
      (map_through (λ v. ways.set_pair n (w.position, v.position) v) both (f w)
      (λ v. ap (λ (xs : List ℕ). let r : Spot = record { at = v.position; slots = xs } in r)
      (pair_slots has_span v.match_start v.pairs n w.position v.position low)))
      ∙ same_map both (λ v. refl) (map spot (f w)) (plain.ways view len a (spot w)) (same w p) wanted
      ∙ ap (first_at wanted)
      (sym (map_twice close (put (2 * n) w.position) (plain.ways view len a (spot w)))
      ∙ ap (map close) (sym (ways_carry view len n w.position a lacks (spot w))))

  -- what a look-around leaves, whose body keeps the start
  none_kept : (w : MatchState) (vs : List MatchState) (wanted : ℕ → Bool) → wanted w.position ≡ false → first_at wanted (map spot (keep_only_pairs w vs)) ≡ None
  none_kept w [] wanted no_match = refl
  none_kept w (v ∷ vs) wanted no_match =
      ap (λ (b : Bool). cond b (Some (spot (record w { pairs = v.pairs }))) (first_at wanted (map spot (keep_only_pairs w vs)))) no_match
      ∙ none_kept w vs wanted no_match

  first_kept : (w : MatchState) (vs : List MatchState) (ws : List Spot) → HaveStartOf w vs → first_at anywhere (map spot vs) ≡ first_at anywhere ws
      → SameFirst (map spot (keep_only_pairs w vs)) (asked_ways false (spot w) ws)
  first_kept w [] [] h e wanted = refl
  first_kept w [] (u ∷ us) h e wanted = absurd (none-some u e)
  first_kept w (v ∷ vs) [] h e wanted = absurd (none-some (spot v) (sym e))
  first_kept w (v ∷ vs) (u ∷ us) h e wanted =
      kept_here (wanted w.position) (spot (record w { pairs = v.pairs })) (record { at = w.position; slots = u.slots }) _
      (ap (λ (start : ℕ). let r : Spot = record { at = w.position; slots = group_slots (span_pairs has_span start v.pairs) } in r) (sym h.0)
      ∙ ap (λ (x : Spot). let r : Spot = record { at = w.position; slots = x.slots } in r) (same_Some (spot v) u e)) (none_kept w vs wanted)

  first_refused : (w : MatchState) (vs : List MatchState) (ws : List Spot) → first_at anywhere (map spot vs) ≡ first_at anywhere ws
      → SameFirst (map spot (match_empty_if (is_none_of vs) w)) (asked_ways true (spot w) ws)
  first_refused w [] [] e wanted = refl
  first_refused w [] (u ∷ us) e wanted = absurd (none-some u e)
  first_refused w (v ∷ vs) [] e wanted = absurd (none-some (spot v) (sym e))
  first_refused w (v ∷ vs) (u ∷ us) e wanted = refl

  first_alone : (vs : List MatchState) (ws : List Spot) → first_at anywhere (map spot vs) ≡ first_at anywhere ws
      → SameFirst (map spot (first_only vs)) (first_way ws)
  first_alone [] [] e wanted = refl
  first_alone [] (u ∷ us) e wanted = absurd (none-some u e)
  first_alone (v ∷ vs) [] e wanted = absurd (none-some (spot v) (sym e))
  first_alone (v ∷ vs) (u ∷ us) e wanted = ap (λ (x : Spot). first_at wanted (x ∷ [])) (same_Some (spot v) u e)

  -- from a place that is there
  module _ (view : View) (len : ℕ) (from : Moves) (body : Re) (same : HasFirsts len from (plain.ways view len body)) (w : MatchState) where
    -- the ways from this place, if there is one
    abbrev ways_from : Option ℕ → List MatchState
    ways_from o = for_some (λ p. from (with_position w p)) o

    first_from : (o : Option ℕ) → IfSome o (λ p. p ≤ len)
        → first_at anywhere (map spot (ways_from o)) ≡ first_at anywhere (ways_at (plain.ways view len body) (spot w) o)
    first_from None le = refl
    first_from (Some p) le = same (with_position w p) le anywhere

    starts_from : KeepsStart from → (o : Option ℕ) → HaveStartOf w (ways_from o)
    starts_from keeps None = tt
    starts_from keeps (Some p) = keeps (with_position w p)

    kept_from : KeepsStart from → (o : Option ℕ) → IfSome o (λ p. p ≤ len)
        → SameFirst (map spot (keep_only_pairs w (ways_from o))) (asked_ways false (spot w) (ways_at (plain.ways view len body) (spot w) o))
    kept_from keeps o le = first_kept w (ways_from o) (ways_at (plain.ways view len body) (spot w) o) (starts_from keeps o) (first_from o le)

    refused_from : (o : Option ℕ) → IfSome o (λ p. p ≤ len)
        → SameFirst (map spot (match_empty_if (is_none_of (ways_from o)) w)) (asked_ways true (spot w) (ways_at (plain.ways view len body) (spot w) o))
    refused_from o le = first_refused w (ways_from o) (ways_at (plain.ways view len body) (spot w) o) (first_from o le)

  -- an atomic group, where the body has the first ways of this pattern
  module _ (view : View) (len : ℕ) (m : Meaning) (body : Re) (same : HasFirsts len m.from (plain.ways view len body)) where
    atomic_firsts : HasFirsts len (λ w. first_only (m.from w)) (plain.ways view len (re.atomic body))
    unfolding plain.ways
    atomic_firsts w p = first_alone (m.from w) (plain.ways view len body (spot w)) (same w p anywhere)

  -- of branches none has a way where neither the first nor another has one
  none_of_both : (us vs : List MatchState) (w : MatchState) (a : List Spot) (b : Spot → List Spot) → GoesByPlace b
      → SameFirst (map spot (match_empty_if (is_none_of us) w)) a → SameFirst (map spot (match_empty_if (is_none_of vs) w)) (b (spot w))
      → SameFirst (map spot (match_empty_if (is_none_of (us ++ vs)) w)) (each b a)
  none_of_both [] vs w a b by_place first rest wanted =
      rest wanted ∙ ap (first_at wanted) (sym (append-nil (b (spot w)))) ∙ same_each b by_place (spot w ∷ []) a first wanted
  none_of_both (u ∷ us) vs w a b by_place first rest wanted = same_each b by_place [] a first wanted

  -- a conditional, where its three trees have the first ways of these patterns
  module _ (view : View) (len : ℕ) (f g h : Moves) (c a b : Re) (asks : HasFirsts len f (plain.ways view len c))
      (leads : HasFirsts len g (plain.ways view len a)) (leaves : HasFirsts len h (plain.ways view len b)) where
    abbrev yes_ways : List Spot → List Spot
    yes_ways ws = each (plain.ways view len a) (first_way ws)

    abbrev no_ways : Spot → List Spot → List Spot
    no_ways s ws = each (plain.ways view len b) (asked_ways true s ws)

    chosen_firsts : (w : MatchState) → w.position ≤ len → (vs : List MatchState) (ws : List Spot) → first_at anywhere (map spot vs) ≡ first_at anywhere ws
        → AllOf (Between w.position len) (map spot vs) → SameFirst (map spot (ways.conditional vs g h w)) (yes_ways ws ++ no_ways (spot w) ws)
    chosen_firsts w p [] [] e inside wanted =
        leaves w p wanted ∙ ap (first_at wanted) (sym (append-nil (plain.ways view len b (spot w))))
    chosen_firsts w p [] (u ∷ us) e inside wanted = absurd (none-some u e)
    chosen_firsts w p (v ∷ vs) [] e inside wanted = absurd (none-some (spot v) (sym e))
    chosen_firsts w p (v ∷ vs) (u ∷ us) e inside wanted =
        leads v inside.0.1 wanted
        ∙ ap (λ (x : Spot). first_at wanted (plain.ways view len a x)) (same_Some (spot v) u e)
        ∙ ap (first_at wanted) (sym (append-nil (plain.ways view len a u ++ []) ∙ append-nil (plain.ways view len a u)))

    conditional_firsts : HasFirsts len (λ w. ways.conditional (f w) g h w) (plain.ways view len (re.conditional c a b))
    unfolding plain.ways
    conditional_firsts w p =
        chosen_firsts w p (f w) (plain.ways view len c (spot w)) (asks w p anywhere)
        (body_ends len f (plain.ways view len c) (ways_end view len c) asks w p)

  -- Over what is called, where it is known of some calls what they become: these serve them, and keep the start.
  module _ (s : Setting) (groups : List Tree) (unicode : Bool) (call : ℕ → Moves) (cs : List (Text × Bool)) (same_fold : (c : ℕ) → s.fold c ≡ folded unicode c)
      (called : ℕ → Re) (known : ℕ → Type 0)
      (serves : (j : ℕ) → known j → HasFirsts (length s.text) (call j) (plain.ways (asking_view s cs) (length s.text) (called j)))
      (call_keeps : (j : ℕ) → known j → KeepsStart (call j)) where
    abbrev len : ℕ
    len = length s.text

    abbrev view : View
    view = asking_view s cs

    -- a look-around for one character is a test
    test_lifted : (passes : ℕ → Bool) (t : Tree) → (size groups t).least ≡ 1 → (how : LookAround) (w : MatchState)
        → map spot (ways.look how (ways.node s groups t (character s passes)) w) ≡ map spot_of (ways.look how (ways.node s groups t (character s passes)) (lifted has_span w))
    test_lifted passes t one how w =
        ap (map spot) (looks_as s passes groups t one how w) ∙ stay_lifted has_span w (asks s passes groups t one how w.position)
        ∙ sym (ap (map spot_of) (looks_as s passes groups t one how (lifted has_span w)))

    test_firsts : (n k : ℕ) (t : Tree) (how : LookAround) → IsOneChar t → StandAt s groups unicode call cs false same_fold k (classes t) → (body : Re)
        → HasFirsts len (ways.look how (meaning s groups call n t)) (plain.ways view len (looked how (char_leaf unicode k t) body))
    unfolding meaning plain.ways
    test_firsts n k (any newline crlf) how p h body w q =
        λ wanted. ap (first_at wanted) (test_lifted (ways.is_any s newline crlf) (any newline crlf) (least_one groups (any newline crlf) tt) how w
        ∙ look_same s groups unicode call cs false same_fold n k (any newline crlf) how p h body (lifted has_span w) q)
    test_firsts n k (literal val casei) how p h body w q =
        λ wanted. ap (first_at wanted) (test_lifted (ways.is_literal s (slice_index val 0) casei) (literal val casei) (least_one groups (literal val casei) tt) how w
        ∙ look_same s groups unicode call cs false same_fold n k (literal val casei) how p h body (lifted has_span w) q)
    test_firsts n k (delegate class casei) how p h body w q =
        λ wanted. ap (first_at wanted) (test_lifted (s.has_member class casei) (delegate class casei) (least_one groups (delegate class casei) tt) how w
        ∙ look_same s groups unicode call cs false same_fold n k (delegate class casei) how p h body (lifted has_span w) q)
    test_firsts n k _ how p h body w q = absurd p

    -- a look-around is such a test, or asks a part
    look_firsts : (n k : ℕ) (t : Tree) (how : LookAround) → StandAt s groups unicode call cs false same_fold k (classes t) → (asked : Re)
        → HasFirsts len (ways.look how (meaning s groups call n t)) (plain.ways view len asked)
        → HasFirsts len (ways.look how (meaning s groups call n t)) (plain.ways view len (looked how (char_leaf unicode k t) asked))
    look_firsts n k t how h asked part =
        elim (one_char_cases unicode k t) [
          | inl one ↦ test_firsts n k t how one h asked
          | inr more ↦ rw more part
        ]

    -- so many characters before
    before_same : (n i : ℕ) (o : Option ℕ) → ((j : ℕ) → place_before view n j ≡ position_before s.text n j)
        → at_bytes_before (place_before view n) i (option_map len_utf8 o) ≡ option_and_then (λ c. position_before s.text n (i - len_utf8 c)) o
    before_same n i None same = refl
    before_same n i (Some c) same = same (i - len_utf8 c)

    place_same : (n i : ℕ) → place_before view n i ≡ position_before s.text n i
    unfolding place_before
    place_same zero i = refl
    place_same (suc n) i = before_same n i (char_before s.text i) (place_same n)

    before_inside : (n i : ℕ) (o : Option ℕ) → i ≤ len → ((j : ℕ) → j ≤ len → IfSome (position_before s.text n j) (λ p. p ≤ len))
        → IfSome (option_and_then (λ c. position_before s.text n (i - len_utf8 c)) o) (λ p. p ≤ len)
    before_inside n i None le inside = tt
    before_inside n i (Some c) le inside = inside (i - len_utf8 c) (omega (arith, le))

    place_inside : (n i : ℕ) → i ≤ len → IfSome (position_before s.text n i) (λ p. p ≤ len)
    place_inside zero i le = le
    place_inside (suc n) i le = before_inside n i (char_before s.text i) le (place_inside n)

    -- a look-around that asks a part, of a tree that steps back over so many characters in a look-behind
    asks_firsts : (m : Meaning) (how : LookAround) (t : Tree) (body : Re) → KeepsStart m.from → HasFirsts len m.from (plain.ways view len body)
        → ((w : MatchState) → m.behind w ≡ for_some (λ p. m.from (with_position w p)) (position_before s.text (size groups t).least w.position))
        → HasFirsts len (ways.look how m) (plain.ways view len (re.ask (is_negated_look how) (steps_back groups how t) body))
    unfolding plain.ways place_before
    asks_firsts m LookAhead t body keeps same node w q = first_kept w (m.from w) (plain.ways view len body (spot w)) (keeps w) (same w q anywhere)
    asks_firsts m LookAheadNeg t body keeps same node w q = first_refused w (m.from w) (plain.ways view len body (spot w)) (same w q anywhere)
    asks_firsts m LookBehind t body keeps same node w q =
        rw (node w, place_same (size groups t).least w.position)
        (kept_from view len m.from body same w keeps (position_before s.text (size groups t).least w.position) (place_inside (size groups t).least w.position q))
    asks_firsts m LookBehindNeg t body keeps same node w q =
        rw (node w, place_same (size groups t).least w.position)
        (refused_from view len m.from body same w (position_before s.text (size groups t).least w.position) (place_inside (size groups t).least w.position q))

    -- in a look-behind a tree other than an alternation begins its least size before the place
    abbrev StepsBack : ℕ → Tree → Type 0
    StepsBack n (alt ts) = Unit {0}
    StepsBack n t =
        (w : MatchState) → (meaning s groups call n t).behind w
        ≡ for_some (λ p. (meaning s groups call n t).from (with_position w p)) (position_before s.text (size groups t).least w.position)

    node_steps : (n : ℕ) (t : Tree) → IsRegular false known t → StepsBack n t
    unfolding meaning
    node_steps n (alt ts) p = tt
    node_steps n empty p = λ w. refl
    node_steps n (any newline crlf) p = λ w. refl
    node_steps n (literal val casei) p = λ w. refl
    node_steps n (delegate class casei) p = λ w. refl
    node_steps n (general_newline wide) p = λ w. refl
    node_steps n (assertion a) p = λ w. refl
    node_steps n (concat ts) p = λ w. refl
    node_steps n (group t) p = λ w. refl
    node_steps n (look_around t how) p = λ w. refl
    node_steps n (atomic_group t) p = λ w. refl
    node_steps n (conditional c a b) p = λ w. refl
    node_steps n (define_group t) p = λ w. refl
    node_steps n (verb v) p = λ w. refl
    node_steps n keep_out p = λ w. refl
    node_steps n continue p = λ w. refl
    node_steps n (subroutine_call j) p = λ w. refl
    node_steps n (repeat t lo hi greedy) p = λ w. refl
    node_steps n _ p = absurd p

    -- an assertion: a test, or `\Z`
    text_end_firsts : (a : Assertion) → (IsServed (test_of a) → ⊥)
        → HasFirsts len (λ w. match_empty_if (ways.holds s a w.position) w) (plain.ways view len (text_end_re (ends_by_crlf a)))
    unfolding plain.ways reads place_before
    text_end_firsts (EndTextIgnoreTrailingNewlines crlf) p w q =
        λ wanted. ap (first_at wanted) (stay_lifted has_span w (ways.holds s (EndTextIgnoreTrailingNewlines crlf) w.position) ∙ text_end_same s cs crlf (lifted has_span w) q)
    text_end_firsts _ p w q = absurd (p tt)

    assertion_firsts : (o : Option Test) (a : Assertion) → test_of a ≡ o
        → HasFirsts len (λ w. match_empty_if (ways.holds s a w.position) w) (plain.ways view len (served a o))
    unfolding plain.ways reads place_before
    assertion_firsts None a e w q = text_end_firsts a (subst IsServed e) w q
    assertion_firsts (Some check) a e w q =
        λ wanted. ap (first_at wanted) (stay_lifted has_span w (ways.holds s a w.position)
        ∙ subst (λ (o : Option Test). map spot_of (match_empty_if (ways.holds s a w.position) (lifted has_span w)) ≡ plain.ways view len (served a o) (spot w)) e
        (assertion_same s groups unicode call cs false same_fold a (subst IsServed (sym e) tt) (lifted has_span w) q))

    -- branches that are equally long, or a look-ahead: they are one part; else each is looked for by itself
    branch_looks : (behind : Bool) (n k : ℕ) (how : LookAround) (ts : Trees) (always : Bool) → is_look_behind how ≡ behind → (size groups (alt ts)).always ≡ always
        → KeepsStart (any_of (meanings s groups call n ts)).from
        → HasFirsts len (any_of (meanings s groups call n ts)).from (plain.ways view len (branches_of unicode groups called n k ts))
        → ((w : MatchState) → w.position ≤ len → SameFirst (map spot (keep_only_pairs w ((any_of (meanings s groups call n ts)).behind w)))
        (plain.ways view len (re.alts (each_around unicode groups called n k LookBehind ts)) (spot w)))
        → ((w : MatchState) → w.position ≤ len → SameFirst (map spot (match_empty_if (is_none_of ((any_of (meanings s groups call n ts)).behind w)) w))
        (plain.ways view len (re.cats (each_around unicode groups called n k LookBehindNeg ts)) (spot w)))
        → HasFirsts len (ways.look how (meaning s groups call n (alt ts))) (plain.ways view len
        (if behind && not always then joined (is_negated_look how) (each_around unicode groups called n k how ts)
        else re.ask (is_negated_look how) (steps_back groups how (alt ts)) (branches_of unicode groups called n k ts)))
    unfolding meaning re_of classes plain.ways place_before
    branch_looks true n k LookBehind ts false e f keeps same kept refused w q = rw f (kept w q)
    branch_looks true n k LookBehindNeg ts false e f keeps same kept refused w q = rw f (refused w q)
    branch_looks true n k how ts true e f keeps same kept refused w q =
        asks_firsts (meaning s groups call n (alt ts)) how (alt ts) (branches_of unicode groups called n k ts) keeps same (λ v. rw f refl) w q
    branch_looks false n k LookAhead ts always e f keeps same kept refused w q =
        first_kept w ((any_of (meanings s groups call n ts)).from w) (plain.ways view len (branches_of unicode groups called n k ts) (spot w)) (keeps w) (same w q anywhere)
    branch_looks false n k LookAheadNeg ts always e f keeps same kept refused w q =
        first_refused w ((any_of (meanings s groups call n ts)).from w) (plain.ways view len (branches_of unicode groups called n k ts) (spot w)) (same w q anywhere)
    branch_looks _ n k how ts always e f keeps same kept refused w q = cc

    -- group 0 is not in the tree, where it holds the start
    abbrev IsLow : ℕ → Type 0
    IsLow n = has_span ≡ true → 1 ≤ n

    higher : (n more : ℕ) → IsLow n → IsLow (n + more)
    higher n more low e = let le = low e in omega (arith, le)

    no_reset : false ≡ true → has_span ≡ true
    no_reset e = absurd (true≢false (sym e))

    mutual
      unfolding meaning re_of around each_around classes plain.ways reads

      -- a regular tree has the first ways of its pattern
      pub tree_firsts : (resets : Bool) → (resets ≡ true → has_span ≡ true) → (n k : ℕ) (t : Tree) → IsRegular resets known t → IsApart unicode groups called n t → IsLow n
          → StandAt s groups unicode call cs false same_fold k (classes t)
          → HasFirsts len (meaning s groups call n t).from (plain.ways view len (re_of unicode groups called n k t))
      tree_firsts resets has n k empty p z low h w q = λ wanted. refl
      tree_firsts resets has n k (any newline crlf) p z low h w q =
          λ wanted. ap (first_at wanted) (char_lifted has_span w (ways.is_any s newline crlf) (char_at s.text w.position)
          ∙ char_same s cs false (Any newline crlf) (lifted has_span w) (char_at s.text w.position) refl _ (λ c e. refl))
      tree_firsts resets has n k (literal val casei) p z low h w q =
          λ wanted. ap (first_at wanted) (char_lifted has_span w (ways.is_literal s (slice_index val 0) casei) (char_at s.text w.position)
          ∙ literal_same s groups unicode call cs false same_fold (slice_index val 0) casei (lifted has_span w) q)
      tree_firsts resets has n k (delegate class casei) p z low h w q = λ wanted. ap (first_at wanted) (char_lifted has_span w (s.has_member class casei) (char_at s.text w.position)
          ∙ class_same s groups unicode call cs false same_fold k class casei h (lifted has_span w) q)
      tree_firsts resets has n k (general_newline wide) p z low h w q = λ wanted. ap (first_at wanted) (newline_lifted has_span w s wide ∙ newline_same s cs wide (lifted has_span w))
      tree_firsts resets has n k (assertion a) p z low h w q = assertion_firsts (test_of a) a refl w q
      tree_firsts resets has n k (concat ts) p z low h w q = row_firsts resets has n k ts p z low h w q
      tree_firsts resets has n k (alt ts) p z low h w q = branches_firsts resets has n k ts p.0 p.1 z low h w q
      tree_firsts resets has n k (group t) p z low h w q =
          group_firsts view len n (meaning s groups call (n + 1) t).from (re_of unicode groups called (n + 1) k t) low (z.0 k)
          (tree_firsts resets has (n + 1) k t p z.1 (higher n 1 low) h) w q
      tree_firsts resets has n k (look_around t how) p z low h w q = around_firsts n k how t p z low h (tree_firsts false no_reset n k t p z low h) w q
      tree_firsts resets has n k (atomic_group t) p z low h w q = atomic_firsts view len (meaning s groups call n t) (re_of unicode groups called n k t) (tree_firsts resets has n k t p z low h) w q
      tree_firsts resets has n k (repeat t lo hi greedy) p z low h w q =
          out_firsts s lo hi greedy (meaning s groups call n t).from view _ (has_no_iteration lo hi) (no_iterations lo hi)
          (λ made. repeat_firsts s lo hi greedy (is_unbounded hi) (meaning s groups call n t).from (plain.ways view len (re_of unicode groups called n k t))
          (ways_end view len (re_of unicode groups called n k t)) (ways_alike view len (re_of unicode groups called n k t))
          (tree_firsts resets has n k t (p made) (z made) low (all_stand s groups unicode call cs false same_fold k lo hi t made h))) w q
      tree_firsts resets has n k (conditional c a b) p z low h w q =
          let after = stand_right s groups unicode call cs false same_fold k (classes c) (classes a ++ classes b) h in
          conditional_firsts view len (meaning s groups call n c).from (meaning s groups call (n + group_count c) a).from
          (meaning s groups call (n + group_count c + group_count a) b).from
          (re_of unicode groups called n k c) (re_of unicode groups called (n + group_count c) (k + length (classes c)) a)
          (re_of unicode groups called (n + group_count c + group_count a) (k + length (classes c) + length (classes a)) b)
          (tree_firsts resets has n k c p.0 z.0 low (stand_left s groups unicode call cs false same_fold k (classes c) (classes a ++ classes b) h))
          (tree_firsts resets has (n + group_count c) (k + length (classes c)) a p.1.0 z.1.0 (higher n (group_count c) low)
          (stand_left s groups unicode call cs false same_fold (k + length (classes c)) (classes a) (classes b) after))
          (tree_firsts resets has (n + group_count c + group_count a) (k + length (classes c) + length (classes a)) b p.1.1 z.1.1 (higher (n + group_count c) (group_count a) (higher n (group_count c) low))
          (stand_right s groups unicode call cs false same_fold (k + length (classes c)) (classes a) (classes b) after)) w q
      tree_firsts resets has n k (subroutine_call j) p z low h w q = serves j p w q
      tree_firsts resets has n k (define_group t) p z low h w q = λ wanted. refl
      tree_firsts resets has n k (verb v) p z low h w q = λ wanted. refl
      tree_firsts resets has n k keep_out p z low h w q = λ wanted. ap (first_at wanted) (reset_same view len has_span (has p) w)
      tree_firsts resets has n k continue p z low h w q = λ wanted. ap (first_at wanted) (stay_lifted has_span w _ ∙ stay_same _ (lifted has_span w))
      tree_firsts resets has n k _ p z low h w q = absurd p

      row_firsts : (resets : Bool) → (resets ≡ true → has_span ≡ true) → (n k : ℕ) (ts : Trees) → AreRegular resets known ts → AreApart unicode groups called n ts → IsLow n
          → StandAt s groups unicode call cs false same_fold k (row_classes ts)
          → HasFirsts len (all_of (meanings s groups call n ts)) (plain.ways view len (row_of unicode groups called n k ts))
      row_firsts resets has n k no_trees p z low h w q = λ wanted. refl
      row_firsts resets has n k (more_trees t ts) p z low h w q =
          seq_firsts len (meaning s groups call n t).from (all_of (meanings s groups call (n + group_count t) ts))
          (plain.ways view len (re_of unicode groups called n k t)) (plain.ways view len (row_of unicode groups called (n + group_count t) (k + length (classes t)) ts))
          (ways_end view len (re_of unicode groups called n k t)) (ways_alike view len (row_of unicode groups called (n + group_count t) (k + length (classes t)) ts))
          (tree_firsts resets has n k t p.0 z.0 low (stand_left s groups unicode call cs false same_fold k (classes t) (row_classes ts) h))
          (row_firsts resets has (n + group_count t) (k + length (classes t)) ts p.1 z.1 (higher n (group_count t) low)
          (stand_right s groups unicode call cs false same_fold k (classes t) (row_classes ts) h)) w q

      branches_firsts : (resets : Bool) → (resets ≡ true → has_span ≡ true) → (n k : ℕ) (ts : Trees) → (ts ≢ no_trees) → AreRegular resets known ts
          → AreApart unicode groups called n ts → IsLow n → StandAt s groups unicode call cs false same_fold k (row_classes ts)
          → HasFirsts len (any_of (meanings s groups call n ts)).from (plain.ways view len (branches_of unicode groups called n k ts))
      branches_firsts resets has n k no_trees some p z low h w q = absurd (some refl)
      branches_firsts resets has n k (more_trees t no_trees) some p z low h w q =
          λ wanted. ap (λ vs. first_at wanted (map spot vs)) (append-nil ((meaning s groups call n t).from w))
          ∙ tree_firsts resets has n k t p.0 z.0 low (stand_left s groups unicode call cs false same_fold k (classes t) (row_classes no_trees) h) w q wanted
      branches_firsts resets has n k (more_trees t (more_trees u us)) some p z low h w q =
          let rest = any_of (meanings s groups call (n + group_count t) (more_trees u us)) in
          λ wanted. ap (first_at wanted) (map-append spot ((meaning s groups call n t).from w) (rest.from w))
          ∙ first_append (map spot ((meaning s groups call n t).from w)) (map spot (rest.from w))
          (plain.ways view len (re_of unicode groups called n k t) (spot w)) (plain.ways view len (branches_of unicode groups called (n + group_count t) (k + length (classes t)) (more_trees u us)) (spot w))
          (tree_firsts resets has n k t p.0 z.0 low (stand_left s groups unicode call cs false same_fold k (classes t) (row_classes (more_trees u us)) h) w q)
          (branches_firsts resets has (n + group_count t) (k + length (classes t)) (more_trees u us) (λ e. cc) p.1 z.1 (higher n (group_count t) low)
          (stand_right s groups unicode call cs false same_fold k (classes t) (row_classes (more_trees u us)) h) w q)
          wanted

      -- so has a look-around over it
      around_firsts : (n k : ℕ) (how : LookAround) (t : Tree) → IsRegular false known t → IsApart unicode groups called n t → IsLow n
          → StandAt s groups unicode call cs false same_fold k (classes t)
          → HasFirsts len (meaning s groups call n t).from (plain.ways view len (re_of unicode groups called n k t))
          → HasFirsts len (ways.look how (meaning s groups call n t)) (plain.ways view len (around unicode groups called n k how (re_of unicode groups called n k t) t))
      around_firsts n k how (alt ts) p z low h same w q =
          branch_looks (is_look_behind how) n k how ts ((size groups (alt ts)).always) refl refl
          (branches_keeps s groups call known call_keeps n ts p.1) same
          (λ v r. each_kept n k ts p.0 p.1 z low h v r) (λ v r. each_refused n k ts p.1 z low h v r) w q
      around_firsts n k how t p z low h same w q =
          look_firsts n k t how h (re.ask (is_negated_look how) (steps_back groups how t) (re_of unicode groups called n k t))
          (asks_firsts (meaning s groups call n t) how t (re_of unicode groups called n k t) (regular_keeps_start s groups call known call_keeps n t p) same
          (node_steps n t p)) w q

      -- one of these branches, each from its own place
      each_kept : (n k : ℕ) (ts : Trees) → (ts ≢ no_trees) → AreRegular false known ts → AreApart unicode groups called n ts → IsLow n
          → StandAt s groups unicode call cs false same_fold k (row_classes ts) → (w : MatchState) → w.position ≤ len
          → SameFirst (map spot (keep_only_pairs w ((any_of (meanings s groups call n ts)).behind w)))
          (plain.ways view len (re.alts (each_around unicode groups called n k LookBehind ts)) (spot w))
      each_kept n k no_trees some p z low h w q = absurd (some refl)
      each_kept n k (more_trees t no_trees) some p z low h w q =
          λ wanted. ap (λ vs. first_at wanted (map spot (keep_only_pairs w vs))) (append-nil ((meaning s groups call n t).behind w))
          ∙ around_firsts n k LookBehind t p.0 z.0 low (stand_left s groups unicode call cs false same_fold k (classes t) (row_classes no_trees) h)
          (tree_firsts false no_reset n k t p.0 z.0 low (stand_left s groups unicode call cs false same_fold k (classes t) (row_classes no_trees) h)) w q wanted
      each_kept n k (more_trees t (more_trees u us)) some p z low h w q =
          let here = (meaning s groups call n t).behind w in
          let rest = (any_of (meanings s groups call (n + group_count t) (more_trees u us))).behind w in
          λ wanted. ap (λ vs. first_at wanted (map spot vs)) (map-append (λ (v : MatchState). record w { pairs = v.pairs }) here rest)
          ∙ ap (first_at wanted) (map-append spot (keep_only_pairs w here) (keep_only_pairs w rest))
          ∙ first_append (map spot (keep_only_pairs w here)) (map spot (keep_only_pairs w rest))
          (plain.ways view len (around unicode groups called n k LookBehind (re_of unicode groups called n k t) t) (spot w))
          (plain.ways view len (re.alts (each_around unicode groups called (n + group_count t) (k + length (classes t)) LookBehind (more_trees u us))) (spot w))
          (around_firsts n k LookBehind t p.0 z.0 low (stand_left s groups unicode call cs false same_fold k (classes t) (row_classes (more_trees u us)) h)
          (tree_firsts false no_reset n k t p.0 z.0 low (stand_left s groups unicode call cs false same_fold k (classes t) (row_classes (more_trees u us)) h)) w q)
          (each_kept (n + group_count t) (k + length (classes t)) (more_trees u us) (λ e. cc) p.1 z.1 (higher n (group_count t) low)
          (stand_right s groups unicode call cs false same_fold k (classes t) (row_classes (more_trees u us)) h) w q)
          wanted

      -- none of these branches, each from its own place
      each_refused : (n k : ℕ) (ts : Trees) → AreRegular false known ts → AreApart unicode groups called n ts → IsLow n
          → StandAt s groups unicode call cs false same_fold k (row_classes ts) → (w : MatchState) → w.position ≤ len
          → SameFirst (map spot (match_empty_if (is_none_of ((any_of (meanings s groups call n ts)).behind w)) w))
          (plain.ways view len (re.cats (each_around unicode groups called n k LookBehindNeg ts)) (spot w))
      each_refused n k no_trees p z low h w q = λ wanted. refl
      each_refused n k (more_trees t ts) p z low h w q =
          none_of_both ((meaning s groups call n t).behind w) ((any_of (meanings s groups call (n + group_count t) ts)).behind w) w
          (plain.ways view len (around unicode groups called n k LookBehindNeg (re_of unicode groups called n k t) t) (spot w))
          (plain.ways view len (re.cats (each_around unicode groups called (n + group_count t) (k + length (classes t)) LookBehindNeg ts)))
          (ways_alike view len (re.cats (each_around unicode groups called (n + group_count t) (k + length (classes t)) LookBehindNeg ts)))
          (around_firsts n k LookBehindNeg t p.0 z.0 low (stand_left s groups unicode call cs false same_fold k (classes t) (row_classes ts) h)
          (tree_firsts false no_reset n k t p.0 z.0 low (stand_left s groups unicode call cs false same_fold k (classes t) (row_classes ts) h)) w q)
          (each_refused (n + group_count t) (k + length (classes t)) ts p.1 z.1 (higher n (group_count t) low)
          (stand_right s groups unicode call cs false same_fold k (classes t) (row_classes ts) h) w q)
