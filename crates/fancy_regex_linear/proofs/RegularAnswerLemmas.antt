-- What an attempt at the pattern of a regular tree finds is the match of the tree there. Where the tree does not write group 0 itself, its
-- slots hold where the match will be said to begin: at first where the attempt begins.
use Rattle.std.proofs.Common.{◌≡◌, ℕ, zero, suc, ◌*◌, ◌≤◌, ◌==◌, Bool, true, false, cond, not, ◌&&◌, List, [], ◌∷◌, length, map, replicate, Option, Some, None, nat_le, set, set-set, true≢false, refl, sym, subst, ap, ◌∙◌, inl, inr, arith, lt-ltb, le-ltb}
use Rattle.std.specs.Prelude.{option_map}
use Rattle.std.specs.List.{filter}
use Rattle.std.proofs.lemmas.Bool.{cases_lt}
use Rattle.fancy_regex_meaning.specs.Groups.{Pattern}
use Rattle.fancy_regex_meaning.specs.Positions.{boundaries}
use Rattle.fancy_regex_meaning.specs.Ways.{MatchState, Pairs, Setting, ways, call_ways, max_open_calls}
use Rattle.fancy_regex_meaning.specs.Searches.{Search, first_some, chosen, first_item, is_admitted, match_of, start_way, ways_at, match_at, starts, first_match}
use Rattle.fancy_regex_meaning.specs.WayLaws.{Each}
use Rattle.fancy_regex_meaning.proofs.EachLemmas.{Each-filter, Each-cond, Each-weaker, boundaries_within}
use Rattle.fancy_regex_meaning.proofs.MatchStartProofs.{chosen_holds}
use Rattle.fancy_regex_class.specs.RunInputs.{group_slots, match_slots, setting_for, search_for}
use Rattle.fancy_regex_class.specs.declared.input.RunInput.{RunInput}
use Rattle.fancy_regex_states.specs.Attempts.{View, Trace, accept_by}
use Rattle.fancy_regex_linear.specs.Re.{Re}
use Rattle.fancy_regex_linear.specs.Meaning.{Spot}
use Rattle.fancy_regex_linear.specs.Meaning as plain
use Rattle.fancy_regex_linear.specs.Attempt.{attempt, better_spot, apply, trace_end}
use Rattle.fancy_regex_linear.specs.Plain.{IsRegular, classes, re_of}
use Rattle.fancy_regex_linear.specs.EasyPatterns.{span_of_match}
use Rattle.fancy_regex_linear.proofs.TreeLemmas.{may_all}
use Rattle.fancy_regex_linear.proofs.WaysLemmas.{best_from, onward, attempt_lists}
use Rattle.fancy_regex_linear.proofs.MeaningLemmas.{flat_set}
use Rattle.fancy_regex_linear.proofs.SameStartLemmas.{KeepsStart, regular_keeps_start}
use Rattle.fancy_regex_linear.proofs.RegularLemmas.{HasFirsts, first_at, asking_view, span_pairs, spot_in, tree_firsts}
use Rattle.fancy_regex_linear.specs.Calls.{IsOfTree, greatest_nesting, has_own_span, AreAt, IsCalled}
use Rattle.fancy_regex_linear.specs.RegularStates.{started, ended}
use Rattle.fancy_regex_linear.proofs.OccurrenceLemmas.{pattern_stands, pattern_bodies_stand}
use Rattle.fancy_regex_linear.proofs.ApartLemmas.{IsApart, apart, called_callable}
use Rattle.fancy_regex_linear.proofs.CallLemmas.{served, call_keeps_start}
use Rattle.fancy_regex_tree.specs.Tree.{Text}

-- the first of the ways that a search admits
module _ (has_span : Bool) where
  kept_first : (b : Bool) (w : MatchState) (vs : List MatchState) (o : Option Spot) → option_map (spot_in has_span) (first_item vs) ≡ o
      → option_map (spot_in has_span) (first_item (cond (b && true) (w ∷ vs) vs)) ≡ cond b (Some (spot_in has_span w)) o
  kept_first true w vs o e = refl
  kept_first false w vs o e = e

  admitted_first : (input : RunInput) (ws : List MatchState)
      → option_map (spot_in has_span) (first_item (filter (is_admitted (search_for false input)) ws))
      ≡ first_at (λ p. nat_le p input.range.end) (map (spot_in has_span) ws)
  admitted_first input [] = refl
  admitted_first input (w ∷ ws) = kept_first (nat_le w.position input.range.end) w (filter (is_admitted (search_for false input)) ws) _ (admitted_first input ws)

-- the first of the ways from which a range accepts
accepted_here : (b : Bool) (w : Spot) (stop : ℕ) (o p : Option Spot) → b ≡ nat_le w.at stop → o ≡ p
    → better_spot false (onward (accept_by stop) w) o ≡ cond b (Some w) p
unfolding trace_end apply
accepted_here true w stop None p e f = rw (sym e) refl
accepted_here true w stop (Some v) p e f = rw (sym e) refl
accepted_here false w stop o p e f = rw (sym e) f

accepted_first : (stop : ℕ) (ws : List Spot) → best_from false (onward (accept_by stop)) ws ≡ first_at (λ p. nat_le p stop) ws
unfolding best_from
accepted_first stop [] = refl
accepted_first stop (w ∷ ws) = accepted_here (nat_le w.at stop) w stop _ _ refl (accepted_first stop ws)

no_slots : (n : ℕ) → group_slots (replicate n None) ≡ replicate (2 * n) 18446744073709551615
no_slots zero = refl
no_slots (suc n) =
    let two : 2 * suc n ≡ suc (suc (2 * n)) = omega arith in
    ap (λ xs. 18446744073709551615 ∷ 18446744073709551615 ∷ xs) (no_slots n) ∙ sym (ap (λ k. replicate k 18446744073709551615) two)

-- the slots at the start of an attempt
start_slots : (has_span : Bool) (p n : ℕ) → group_slots (span_pairs has_span p (replicate n None)) ≡ started has_span p (replicate (2 * n) 18446744073709551615)
start_slots true p n = flat_set (replicate n None) 0 p p ∙ ap (λ xs. set (set xs 0 p) 1 p) (no_slots n)
start_slots false p n = no_slots n

-- the slots of a match, with its span for group 0 where that is not in the pattern
end_slots : (b : Bool) (ps : Pairs) (start end : ℕ)
    → cond b (group_slots ps) (set (set (group_slots ps) 0 start) 1 end) ≡ ended (not b) end (group_slots (span_pairs (not b) start ps))
end_slots true ps start end = refl
end_slots false ps start end =
    sym (ap (λ xs. set xs 1 end) (flat_set ps 0 start start) ∙ set-set (set (group_slots ps) 0 start) 1 start end)

map_map : {A B C : Type 0} (f : A → B) (g : B → C) (o : Option A) → option_map g (option_map f o) ≡ option_map (λ a. g (f a)) o
map_map f g None = refl
map_map f g (Some a) = refl

-- where each of a list answers alike, the first answers are alike
module _ {A B C : Type 0} (v : B → C) (f : A → Option B) (g : A → Option C) where
  some_here : (a : Option B) (later : Option B) (b : Option C) (rest : Option C) → option_map v a ≡ b → option_map v later ≡ rest
      → option_map v (elim a [ None ↦ later | Some y ↦ Some y ]) ≡ elim b [ None ↦ rest | Some y ↦ Some y ]
  some_here None later b rest e h = rw (sym e) h
  some_here (Some y) later b rest e h = rw (sym e) refl

  first_some_same : (xs : List A) → Each (λ x. option_map v (f x) ≡ g x) xs → option_map v (first_some f xs) ≡ first_some g xs
  first_some_same [] h = refl
  first_some_same (x ∷ xs) h = some_here (f x) (first_some f xs) (g x) (first_some g xs) h.0 (first_some_same xs h.1)

above_zero : (n : ℕ) (b : Bool) → (n == 0) ≡ b → not b ≡ true → 1 ≤ n
above_zero zero b e h = absurd (true≢false (sym h ∙ ap not (sym e)))
above_zero (suc n) b e h = omega arith

module _ (unicode resets : Bool) (text : List ℕ) (input : RunInput) (pattern : Pattern) (of_tree : IsOfTree pattern) (cs : List (Text × Bool)) (base : ℕ)
    (called : ℕ → Re) (own_span : resets ≡ true → has_own_span pattern ≡ true)
    (is_regular : IsRegular resets (λ j. IsCalled pattern.groups unicode cs (greatest_nesting (length pattern.groups)) j (called j)) pattern.tree)
    (stand : AreAt cs base (classes pattern.tree)) where
  -- how deep calls may nest, and what a call has to be
  abbrev nesting : ℕ
  nesting = greatest_nesting (length pattern.groups)

  abbrev known : ℕ → Type 0
  known j = IsCalled pattern.groups unicode cs nesting j (called j)

  abbrev s : Setting
  s = setting_for unicode text input

  abbrev find : Search
  find = search_for false input

  abbrev re : Re
  re = re_of unicode pattern.groups called pattern.first_group base pattern.tree

  abbrev view : View
  view = asking_view s cs

  abbrev unset : List ℕ
  unset = replicate (2 * length pattern.groups) 18446744073709551615

  abbrev has_span : Bool
  has_span = has_own_span pattern

  -- what an attempt from this place finds
  abbrev pub tried : ℕ → Option Trace
  tried p = (attempt view (length text) re (accept_by input.range.end) p).answer

  -- what is called serves a call with none open, and keeps the start of the match
  pub call_serves : (j : ℕ) → known j
      → HasFirsts has_span (length text) (call_ways s pattern.groups (max_open_calls pattern.groups) [] j) (plain.ways view (length text) (called j))
  call_serves j is =
      served has_span s pattern.groups unicode cs (λ c. refl) (pattern_bodies_stand pattern of_tree) nesting j (called j) is (max_open_calls pattern.groups) []
      (omega arith) (omega arith)

  pub call_keeps : (j : ℕ) → known j → KeepsStart (call_ways s pattern.groups (max_open_calls pattern.groups) [] j)
  call_keeps j is =
      call_keeps_start s pattern.groups nesting j (called_callable pattern.groups unicode cs nesting j (called j) is) (max_open_calls pattern.groups) []

  -- the tree has no group 0 where its pattern has a span of its own
  pub groups_from_one : has_span ≡ true → 1 ≤ pattern.first_group
  groups_from_one e = above_zero pattern.first_group (pattern.first_group == 0) refl e

  pub are_apart : IsApart unicode pattern.groups called pattern.first_group pattern.tree
  are_apart =
      apart pattern.groups unicode cs (pattern_bodies_stand pattern of_tree) nesting called resets pattern.first_group pattern.tree
      (λ e. groups_from_one (own_span e)) (pattern_stands pattern of_tree) is_regular

  first_way_found : (p : ℕ) → p ≤ length text
      → option_map (spot_in has_span) (chosen false (filter (is_admitted find) (ways_at s pattern find p))) ≡ trace_end (started has_span p unset) (tried p)
  unfolding ways
  first_way_found p h =
      admitted_first has_span input (ways_at s pattern find p)
      ∙ tree_firsts has_span s pattern.groups unicode (call_ways s pattern.groups (max_open_calls pattern.groups) []) cs (λ c. refl) called known call_serves
      call_keeps resets own_span pattern.first_group base pattern.tree is_regular are_apart groups_from_one stand (start_way pattern p) h
      (λ p. nat_le p input.range.end)
      ∙ sym (accepted_first input.range.end (plain.ways view (length text) re (spot_in has_span (start_way pattern p))))
      ∙ sym (attempt_lists view (length text) (λ e. refl) re (may_all re) (accept_by input.range.end) (spot_in has_span (start_way pattern p)))
      ∙ ap (λ slots. trace_end slots (tried p)) (start_slots has_span p (length pattern.groups))

  -- the slots of the match that such a way is
  abbrev pub slots_of_way : Spot → List ℕ
  slots_of_way w = ended (has_own_span pattern) w.at w.slots

  way_has_slots : (o : Option MatchState) → option_map (match_slots pattern) (option_map match_of o) ≡ option_map slots_of_way (option_map (spot_in has_span) o)
  way_has_slots None = refl
  way_has_slots (Some v) = ap Some (end_slots (pattern.first_group == 0) v.pairs v.match_start v.position)

  -- an attempt finds the slots of the match at its place
  pub slots_found : (p : ℕ) → p ≤ length text
      → option_map (match_slots pattern) (match_at s pattern find p) ≡ option_map slots_of_way (trace_end (started (has_own_span pattern) p unset) (tried p))
  unfolding match_at
  slots_found p h =
      way_has_slots (chosen false (filter (is_admitted find) (ways_at s pattern find p))) ∙ ap (option_map slots_of_way) (first_way_found p h)

  -- and its end
  way_has_end : (o : Option MatchState) → option_map (λ m. m.end) (option_map match_of o) ≡ option_map (λ w. w.at) (option_map (spot_in has_span) o)
  way_has_end None = refl
  way_has_end (Some v) = refl

  end_of_trace : (slots : List ℕ) (o : Option Trace) → option_map (λ w. w.at) (trace_end slots o) ≡ option_map (λ t. t.end) o
  unfolding trace_end
  end_of_trace slots None = refl
  end_of_trace slots (Some t) = refl

  pub end_found : (p : ℕ) → p ≤ length text → option_map (λ m. m.end) (match_at s pattern find p) ≡ option_map (λ t. t.end) (tried p)
  unfolding match_at
  end_found p h =
      way_has_end (chosen false (filter (is_admitted find) (ways_at s pattern find p))) ∙ ap (option_map (λ w. w.at)) (first_way_found p h)
      ∙ end_of_trace (started has_span p unset) (tried p)

  -- where no `\K` is in the tree, the match begins where the attempt does
  starts_here : resets ≡ false → (p : ℕ) → Each (λ v. v.match_start ≡ p) (filter (is_admitted find) (ways_at s pattern find p))
  unfolding ways
  starts_here none p =
      Each-filter (λ v. v.match_start ≡ p) (is_admitted find) _
      (regular_keeps_start s pattern.groups (call_ways s pattern.groups (max_open_calls pattern.groups) []) known call_keeps
      pattern.first_group pattern.tree (subst (λ b. IsRegular b known pattern.tree) none is_regular) (start_way pattern p))

  -- the span of an attempt from a place
  abbrev pub tried_span : ℕ → Option (ℕ × ℕ)
  tried_span p = option_map (λ t. (p, t.end)) (tried p)

  way_is_span : (p : ℕ) (o : Option MatchState) (b : Option ℕ) → option_map (λ m. m.end) (option_map match_of o) ≡ b
      → ((v : MatchState) → o ≡ Some v → v.match_start ≡ p) → option_map span_of_match (option_map match_of o) ≡ option_map (λ e. (p, e)) b
  way_is_span p None b e h = ap (option_map (λ e. (p, e))) e
  way_is_span p (Some v) b e h = ap (λ (start : ℕ). Some (start, v.position)) (h v refl) ∙ ap (option_map (λ e. (p, e))) e

  pub span_found : resets ≡ false → (p : ℕ) → p ≤ length text → option_map span_of_match (match_at s pattern find p) ≡ tried_span p
  unfolding match_at
  span_found none p h =
      way_is_span p (chosen false (filter (is_admitted find) (ways_at s pattern find p))) (option_map (λ t. t.end) (tried p)) (end_found p h)
      (λ v e. chosen_holds (λ v. v.match_start ≡ p) false _ (starts_here none p) v e)
      ∙ map_map (λ t. t.end) (λ e. (p, e)) (tried p)

  starts_within : input.range.end ≤ length text → Each (λ p. p ≤ length text) (starts s pattern find)
  starts_within fits =
      elim (cases_lt input.range.end input.first) [
        | inl past ↦ rw (lt-ltb input.range.end input.first past) tt
        | inr le ↦ rw (le-ltb input.range.end input.first le)
            (Each-cond (λ p. p ≤ length text) input.anchored (input.first ∷ []) (boundaries text input.first input.range.end) (omega arith, tt)
            (Each-weaker (λ p. (input.first ≤ p) × (p ≤ input.range.end)) (λ p. p ≤ length text) (λ p both. omega (arith, both.1)) (boundaries text input.first input.range.end)
            (boundaries_within text input.first input.range.end)))
      ]

  -- the attempts find the slots of the first match
  pub first_slots_found : input.range.end ≤ length text
      → option_map (match_slots pattern) (first_match s pattern find)
      ≡ first_some (λ p. option_map slots_of_way (trace_end (started (has_own_span pattern) p unset) (tried p))) (starts s pattern find)
  unfolding first_match
  first_slots_found fits =
      first_some_same (match_slots pattern) (match_at s pattern find) (λ p. option_map slots_of_way (trace_end (started (has_own_span pattern) p unset) (tried p)))
      (starts s pattern find)
      (Each-weaker (λ p. p ≤ length text)
      (λ p. option_map (match_slots pattern) (match_at s pattern find p) ≡ option_map slots_of_way (trace_end (started (has_own_span pattern) p unset) (tried p)))
      slots_found (starts s pattern find) (starts_within fits))

  -- and its span, where it begins where the attempt does
  pub first_span_found : resets ≡ false → input.range.end ≤ length text
      → option_map span_of_match (first_match s pattern find) ≡ first_some tried_span (starts s pattern find)
  unfolding first_match
  first_span_found none fits =
      first_some_same span_of_match (match_at s pattern find) tried_span (starts s pattern find)
      (Each-weaker (λ p. p ≤ length text) (λ p. option_map span_of_match (match_at s pattern find p) ≡ tried_span p) (span_found none)
      (starts s pattern find) (starts_within fits))

  -- so does what knows the ends of the attempts alone
  pub first_span_by_ends : resets ≡ false → (end : ℕ → Option ℕ) → ((p : ℕ) → p ≤ length text → end p ≡ option_map (λ t. t.end) (tried p))
      → input.range.end ≤ length text
      → option_map span_of_match (first_match s pattern find) ≡ first_some (λ p. option_map (λ e. (p, e)) (end p)) (starts s pattern find)
  unfolding first_match
  first_span_by_ends none end ends fits =
      first_some_same span_of_match (match_at s pattern find) (λ p. option_map (λ e. (p, e)) (end p)) (starts s pattern find)
      (Each-weaker (λ p. p ≤ length text) (λ p. option_map span_of_match (match_at s pattern find p) ≡ option_map (λ e. (p, e)) (end p))
      (λ p h. span_found none p h ∙ sym (map_map (λ t. t.end) (λ e. (p, e)) (tried p)) ∙ ap (option_map (λ e. (p, e))) (sym (ends p h)))
      (starts s pattern find) (starts_within fits))
