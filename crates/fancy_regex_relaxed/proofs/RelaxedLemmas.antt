-- The relaxed tree has a way to each place to which the tree has one.
use Rattle.std.proofs.Common.{◌≡◌, ℕ, zero, suc, ◌+◌, ◌-◌, ◌==◌, Bool, true, false, List, [], ◌∷◌, ◌++◌, length, Option, Some, None, if◌then◌else◌, slice_index, true≢false, refl, sym, ap, ap₂, subst, ◌∙◌, inl, inr, ◌⊎◌}
use Rattle.std.specs.List.{flat_map}
use Rattle.std.specs.Char.{len_utf8}
use Rattle.regex_hir.specs.Text.{char_at, is_some_and}
use Rattle.fancy_regex_tree.specs.Tree.{Tree, Trees, empty, any, assertion, literal, concat, alt, group, look_around, repeat, delegate, atomic_group, keep_out, continue, define_group, no_trees, more_trees}
use Rattle.fancy_regex_tree.specs.declared.expr.Assertion.{Assertion}
use Rattle.fancy_regex_tree.specs.declared.expr.LookAround.{LookAround}
use Rattle.fancy_regex_tree.specs.declared.expr.LookAround.TheVariants.{LookAhead, LookAheadNeg, LookBehind, LookBehindNeg}
use Rattle.fancy_regex_meaning.specs.Groups.{group_count}
use Rattle.fancy_regex_meaning.specs.Positions.{position_before}
use Rattle.fancy_regex_meaning.specs.Sizes.{bound_of, size}
use Rattle.fancy_regex_meaning.specs.Ways.{MatchState, Moves, Setting, Meaning, meaning, meanings, all_of, any_of, prefer, due, up_to, loop, with_position, for_some, match_empty_if, is_none_of, keep_only_pairs, first_only, look, holds, set_pair, character, is_any, is_literal, node}
use Rattle.fancy_regex_meaning.specs.Ways as ways
use Rattle.fancy_regex_meaning.specs.WayLaws.{Each}
use Rattle.fancy_regex_meaning.proofs.EachLemmas.{Each-weaker, Each-append, Each-map}
use Rattle.fancy_regex_states.specs.declared.atom.Test.{Test}
use Rattle.fancy_regex_linear.specs.Plain.{test_of, IsOneChar}
use Rattle.fancy_regex_linear.proofs.MeaningLemmas.{least_one}
use Rattle.fancy_regex_relaxed.specs.Relaxed.{IsRelaxable, AreRelaxable, if_tested, reads_one, relaxed, relaxed_row}

-- some way of the list is at this place
abbrev pub Reaches : ℕ → List MatchState → Type 0
Reaches p [] = ⊥
Reaches p (v ∷ vs) = (p ≡ v.position) ⊎ Reaches p vs

-- the second list has a way wherever the first has one
abbrev pub AreReached : List MatchState → List MatchState → Type 0
AreReached us vs = Each (λ u. Reaches u.position vs) us

-- so it is with the ways from any two states at the same place
abbrev pub Covers : Moves → Moves → Type 0
Covers f g = (w v : MatchState) → w.position ≡ v.position → AreReached (f w) (g v)

reaches_left : (p : ℕ) (us vs : List MatchState) → Reaches p us → Reaches p (us ++ vs)
reaches_left p [] vs h = absurd h
reaches_left p (u ∷ us) vs (inl e) = inl e
reaches_left p (u ∷ us) vs (inr h) = inr (reaches_left p us vs h)

reaches_right : (p : ℕ) (us vs : List MatchState) → Reaches p vs → Reaches p (us ++ vs)
reaches_right p [] vs h = h
reaches_right p (u ∷ us) vs h = inr (reaches_right p us vs h)

-- the ways that are reached in a list are reached in a longer one
left_reached : (ws us vs : List MatchState) → AreReached ws us → AreReached ws (us ++ vs)
left_reached ws us vs h = Each-weaker _ _ (λ w r. reaches_left w.position us vs r) ws h

right_reached : (ws us vs : List MatchState) → AreReached ws vs → AreReached ws (us ++ vs)
right_reached ws us vs h = Each-weaker _ _ (λ w r. reaches_right w.position us vs r) ws h

both_reached : (ws xs us vs : List MatchState) → AreReached ws us → AreReached xs vs → AreReached (ws ++ xs) (us ++ vs)
both_reached ws xs us vs h k = Each-append (λ w. Reaches w.position (us ++ vs)) ws xs (left_reached ws us vs h) (right_reached xs us vs k)

-- what follows a way is reached by what follows the other way at its place
onward_reached : (f g : Moves) → Covers f g → (w : MatchState) (vs : List MatchState) → Reaches w.position vs → AreReached (f w) (flat_map g vs)
onward_reached f g h w [] r = absurd r
onward_reached f g h w (v ∷ vs) (inl e) = left_reached (f w) (g v) (flat_map g vs) (h w v e)
onward_reached f g h w (v ∷ vs) (inr r) = right_reached (f w) (g v) (flat_map g vs) (onward_reached f g h w vs r)

pub follow_reached : (f g : Moves) → Covers f g → (ws vs : List MatchState) → AreReached ws vs → AreReached (flat_map f ws) (flat_map g vs)
follow_reached f g h [] vs r = tt
follow_reached f g h (w ∷ ws) vs r =
    Each-append (λ u. Reaches u.position (flat_map g vs)) (f w) (flat_map f ws) (onward_reached f g h w vs r.0) (follow_reached f g h ws vs r.1)

-- a way that stays where it is
abbrev stays : (w v : MatchState) → w.position ≡ v.position → AreReached (w ∷ []) (v ∷ [])
stays w v e = (inl e, tt)

turn_reached : (greedy : Bool) (ws xs us vs : List MatchState) → AreReached ws us → AreReached xs vs → AreReached (prefer greedy ws xs) (prefer greedy us vs)
turn_reached true ws xs us vs h k = both_reached ws xs us vs h k
turn_reached false ws xs us vs h k = both_reached xs ws vs us k h

due_covers : (n : ℕ) (f g a b : Moves) → Covers f g → Covers a b → Covers (due n f a) (due n g b)
due_covers zero f g a b h k w v e = k w v e
due_covers (suc n) f g a b h k w v e = follow_reached (due n f a) (due n g b) (due_covers n f g a b h k) (f w) (g v) (h w v e)

up_to_covers : (n : ℕ) (greedy : Bool) (f g : Moves) → Covers f g → Covers (up_to n greedy f) (up_to n greedy g)
up_to_covers zero greedy f g h w v e = stays w v e
up_to_covers (suc n) greedy f g h w v e =
    turn_reached greedy (flat_map (up_to n greedy f) (f w)) (w ∷ []) (flat_map (up_to n greedy g) (g v)) (v ∷ [])
    (follow_reached (up_to n greedy f) (up_to n greedy g) (up_to_covers n greedy f g h) (f w) (g v) (h w v e)) (stays w v e)

-- one more iteration, which is the last if it moves nothing
iteration_reached : (a b : Bool) (w v : MatchState) (ws vs : List MatchState) → a ≡ b → w.position ≡ v.position → AreReached ws vs
    → AreReached (if a then w ∷ [] else ws) (if b then v ∷ [] else vs)
iteration_reached true b w v ws vs same e h = rw (sym same) (stays w v e)
iteration_reached false b w v ws vs same e h = rw (sym same) h

loop_covers : (n : ℕ) (greedy : Bool) (f g : Moves) → Covers f g → Covers (loop n greedy f) (loop n greedy g)
loop_covers zero greedy f g h w v e = tt
loop_covers (suc n) greedy f g h w v e =
    let a : Moves = λ u. if u.position == w.position then u ∷ [] else loop n greedy f u in
    let b : Moves = λ u. if u.position == v.position then u ∷ [] else loop n greedy g u in
    let covers : Covers a b = λ x y same.
    iteration_reached (x.position == w.position) (y.position == v.position) x y (loop n greedy f x) (loop n greedy g y) (rw (same, e) refl) same
    (loop_covers n greedy f g h x y same) in
    turn_reached greedy (flat_map a (f w)) (w ∷ []) (flat_map b (g v)) (v ∷ []) (follow_reached a b covers (f w) (g v) (h w v e)) (stays w v e)

repeat_covers : (s : Setting) (lo : ℕ) (bound : Option ℕ) (greedy : Bool) (f g : Moves) → Covers f g → Covers (ways.repeat s lo bound greedy f) (ways.repeat s lo bound greedy g)
repeat_covers s lo None greedy f g h =
    due_covers lo f g (loop (length s.text + 1) greedy f) (loop (length s.text + 1) greedy g) h (loop_covers (length s.text + 1) greedy f g h)
repeat_covers s lo (Some hi) greedy f g h =
    due_covers lo f g (up_to (hi - lo) greedy f) (up_to (hi - lo) greedy g) h (up_to_covers (hi - lo) greedy f g h)

-- A character is read on both sides.
read_reached : (test : ℕ → Bool) (w v : MatchState) → w.position ≡ v.position → (o : Option ℕ)
    → AreReached (for_some (λ c. if test c then with_position w (w.position + len_utf8 c) ∷ [] else []) o) (for_some (λ c. if test c then with_position v (v.position + len_utf8 c) ∷ [] else []) o)
read_reached test w v e None = tt
read_reached test w v e (Some c) = if_read (test c)
  where
    if_read : (b : Bool) → AreReached (if b then with_position w (w.position + len_utf8 c) ∷ [] else []) (if b then with_position v (v.position + len_utf8 c) ∷ [] else [])
    if_read true = (inl (ap (λ n. n + len_utf8 c) e), tt)
    if_read false = tt

character_covers : (s : Setting) (test : ℕ → Bool) → Covers (character s test) (character s test)
character_covers s test w v e =
    subst (λ o. AreReached (character s test w) (for_some (λ c. if test c then with_position v (v.position + len_utf8 c) ∷ [] else []) o))
    (ap (char_at s.text) e) (read_reached test w v e (char_at s.text w.position))

-- What stays where it is, or has no way, is covered by what stays.
if_stays : (b : Bool) (w v : MatchState) → w.position ≡ v.position → AreReached (match_empty_if b w) (v ∷ [])
if_stays true w v e = stays w v e
if_stays false w v e = tt

if_both_stay : (a b : Bool) (w v : MatchState) → a ≡ b → w.position ≡ v.position → AreReached (match_empty_if a w) (match_empty_if b v)
if_both_stay true b w v same e = rw (sym same) (stays w v e)
if_both_stay false b w v same e = tt

pairs_stay : (w v : MatchState) (ws : List MatchState) → w.position ≡ v.position → AreReached (keep_only_pairs w ws) (v ∷ [])
pairs_stay w v [] e = tt
pairs_stay w v (u ∷ ws) e = (inl e, pairs_stay w v ws e)

pub look_stays : (how : LookAround) (m : Meaning) (w v : MatchState) → w.position ≡ v.position → AreReached (look how m w) (v ∷ [])
look_stays LookAhead m w v e = pairs_stay w v (m.from w) e
look_stays LookAheadNeg m w v e = if_stays (is_none_of (m.from w)) w v e
look_stays LookBehind m w v e = pairs_stay w v (m.behind w) e
look_stays LookBehindNeg m w v e = if_stays (is_none_of (m.behind w)) w v e

-- A look-around for one character that is read on both sides, or on neither.
pairs_reached : (w v : MatchState) (us vs : List MatchState) → w.position ≡ v.position → is_none_of us ≡ is_none_of vs
    → AreReached (keep_only_pairs w us) (keep_only_pairs v vs)
pairs_reached w v [] vs e same = tt
pairs_reached w v (u ∷ us) [] e same = absurd (true≢false (sym same))
pairs_reached w v (u ∷ us) (x ∷ vs) e same =
    let first : MatchState = record v { pairs = x.pairs } in
    left_reached (keep_only_pairs w (u ∷ us)) (first ∷ []) (keep_only_pairs v vs) (pairs_stay w first (u ∷ us) e)

look_reached : (how : LookAround) (a b : Meaning) (w v : MatchState) → w.position ≡ v.position → is_none_of (a.from w) ≡ is_none_of (b.from v)
    → is_none_of (a.behind w) ≡ is_none_of (b.behind v) → AreReached (look how a w) (look how b v)
look_reached LookAhead a b w v e ahead behind = pairs_reached w v (a.from w) (b.from v) e ahead
look_reached LookAheadNeg a b w v e ahead behind = if_both_stay (is_none_of (a.from w)) (is_none_of (b.from v)) w v ahead e
look_reached LookBehind a b w v e ahead behind = pairs_reached w v (a.behind w) (b.behind v) e behind
look_reached LookBehindNeg a b w v e ahead behind = if_both_stay (is_none_of (a.behind w)) (is_none_of (b.behind v)) w v behind e

-- whether a character is read hangs on the place alone
read_alike : (test : ℕ → Bool) (w v : MatchState) (o : Option ℕ)
    → is_none_of (for_some (λ c. if test c then with_position w (w.position + len_utf8 c) ∷ [] else []) o)
    ≡ is_none_of (for_some (λ c. if test c then with_position v (v.position + len_utf8 c) ∷ [] else []) o)
read_alike test w v None = refl
read_alike test w v (Some c) = if_alike (test c)
  where
    if_alike : (b : Bool) → is_none_of (if b then with_position w (w.position + len_utf8 c) ∷ [] else [])
        ≡ is_none_of (if b then with_position v (v.position + len_utf8 c) ∷ [] else [])
    if_alike true = refl
    if_alike false = refl

character_alike : (s : Setting) (test : ℕ → Bool) (w v : MatchState) → w.position ≡ v.position → is_none_of (character s test w) ≡ is_none_of (character s test v)
character_alike s test w v e =
    read_alike test w v (char_at s.text w.position)
    ∙ ap (λ o. is_none_of (for_some (λ c. if test c then with_position v (v.position + len_utf8 c) ∷ [] else []) o)) (ap (char_at s.text) e)

-- and so before it
before_alike : (s : Setting) (test : ℕ → Bool) (w v : MatchState) (o : Option ℕ)
    → is_none_of (for_some (λ p. character s test (with_position w p)) o) ≡ is_none_of (for_some (λ p. character s test (with_position v p)) o)
before_alike s test w v None = refl
before_alike s test w v (Some p) = character_alike s test (with_position w p) (with_position v p) refl

one_covers : (s : Setting) (groups others : List Tree) (test : ℕ → Bool) (t : Tree) → IsOneChar t → (how : LookAround)
    → Covers (look how (node s groups t (character s test))) (look how (node s others t (character s test)))
one_covers s groups others test t one how w v e =
    look_reached how (node s groups t (character s test)) (node s others t (character s test)) w v e (character_alike s test w v e)
    (before_alike s test w v (position_before s.text (size groups t).least w.position)
    ∙ ap (λ o. is_none_of (for_some (λ p. character s test (with_position v p)) o))
    (ap₂ (position_before s.text) (least_one groups t one ∙ sym (least_one others t one)) e))

first_reached : (ws vs : List MatchState) → AreReached ws vs → AreReached (first_only ws) vs
first_reached [] vs h = tt
first_reached (w ∷ ws) vs h = (h.0, tt)

-- Groups, calls and the numbers of groups of the two sides are any.
module _ (s : Setting) (groups others : List Tree) (call other : ℕ → Moves) where
  -- an assertion, or nothing in its place
  tested_covers : (n m : ℕ) (a : Assertion) (o : Option Test)
      → Covers (meaning s groups call n (assertion a)).from (meaning s others other m (if_tested a o)).from
  unfolding meaning
  tested_covers n m a None w v e = if_stays (holds s a w.position) w v e
  tested_covers n m a (Some test) w v e = if_both_stay (holds s a w.position) (holds s a v.position) w v (ap (holds s a) e) e

  -- a look-around for one character, or nothing in its place
  look_covers : (n m : ℕ) (t : Tree) (how : LookAround)
      → Covers (meaning s groups call n (look_around t how)).from (meaning s others other m (if reads_one t then look_around t how else empty)).from
  unfolding meaning
  look_covers n m (any newline crlf) how w v e = one_covers s groups others (is_any s newline crlf) (any newline crlf) tt how w v e
  look_covers n m (literal val casei) how w v e = one_covers s groups others (is_literal s (slice_index val 0) casei) (literal val casei) tt how w v e
  look_covers n m (delegate class casei) how w v e = one_covers s groups others (s.has_member class casei) (delegate class casei) tt how w v e
  look_covers n m t how w v e = look_stays how (meaning s groups call n t) w v e

  mutual
    unfolding meaning relaxed

    pub relaxed_covers : (n m : ℕ) (t : Tree) → IsRelaxable t → Covers (meaning s groups call n t).from (meaning s others other m (relaxed t)).from
    relaxed_covers n m empty p w v e = stays w v e
    relaxed_covers n m (any newline crlf) p w v e = character_covers s (is_any s newline crlf) w v e
    relaxed_covers n m (literal val casei) p w v e = character_covers s _ w v e
    relaxed_covers n m (delegate class casei) p w v e = character_covers s (s.has_member class casei) w v e
    relaxed_covers n m (assertion a) p w v e = tested_covers n m a (test_of a) w v e
    relaxed_covers n m (concat ts) p w v e = row_covers n m ts p w v e
    relaxed_covers n m (alt ts) p w v e = branches_covers n m ts p w v e
    relaxed_covers n m (group t) p w v e =
        Each-map (λ u. Reaches u.position ((meaning s others other m (relaxed t)).from v)) (λ u. Reaches u.position ((meaning s others other m (relaxed t)).from v))
        (λ u. set_pair n (w.position, u.position) u) (λ u r. r) ((meaning s groups call (n + 1) t).from w) (relaxed_covers (n + 1) m t p w v e)
    relaxed_covers n m (look_around t how) p w v e = look_covers n m t how w v e
    relaxed_covers n m (atomic_group t) p w v e =
        first_reached ((meaning s groups call n t).from w) ((meaning s others other m (relaxed t)).from v) (relaxed_covers n m t p w v e)
    relaxed_covers n m (repeat t lo hi greedy) p w v e =
        repeat_covers s lo (bound_of hi) greedy (meaning s groups call n t).from (meaning s others other m (relaxed t)).from (relaxed_covers n m t p) w v e
    relaxed_covers n m keep_out p w v e = (inl e, tt)
    relaxed_covers n m continue p w v e = if_stays (is_some_and s.continue_at (λ g. g == w.position)) w v e
    relaxed_covers n m (define_group t) p w v e = stays w v e
    relaxed_covers n m _ p w v e = absurd p

    pub row_covers : (n m : ℕ) (ts : Trees) → AreRelaxable ts → Covers (all_of (meanings s groups call n ts)) (all_of (meanings s others other m (relaxed_row ts)))
    row_covers n m no_trees p w v e = stays w v e
    row_covers n m (more_trees t ts) p w v e =
        follow_reached (all_of (meanings s groups call (n + group_count t) ts)) (all_of (meanings s others other (m + group_count (relaxed t)) (relaxed_row ts)))
        (row_covers (n + group_count t) (m + group_count (relaxed t)) ts p.1)
        ((meaning s groups call n t).from w) ((meaning s others other m (relaxed t)).from v) (relaxed_covers n m t p.0 w v e)

    branches_covers : (n m : ℕ) (ts : Trees) → AreRelaxable ts → Covers (any_of (meanings s groups call n ts)).from (any_of (meanings s others other m (relaxed_row ts))).from
    branches_covers n m no_trees p w v e = tt
    branches_covers n m (more_trees t ts) p w v e =
        both_reached ((meaning s groups call n t).from w) ((any_of (meanings s groups call (n + group_count t) ts)).from w)
        ((meaning s others other m (relaxed t)).from v) ((any_of (meanings s others other (m + group_count (relaxed t)) (relaxed_row ts))).from v)
        (relaxed_covers n m t p.0 w v e) (branches_covers (n + group_count t) (m + group_count (relaxed t)) ts p.1 w v e)
