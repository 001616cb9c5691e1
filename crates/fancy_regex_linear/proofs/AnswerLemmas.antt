-- What a search over the states of a plain pattern finds is the match of its tree.
use Rattle.std.proofs.Common.{ap₂, ◌≡◌, ℕ, zero, suc, ◌+◌, ◌*◌, ◌<◌, ◌≤◌, ◌==◌, Bool, true, false, cond, not, ◌&&◌, List, [], ◌∷◌, length, map, replicate, Option, Some, None, if◌then◌else◌, nat_le, nat_lt, set, refl, sym, ap, ◌∙◌, subst, inr, ⊎_elim, arith, lt-ltb, le-ltb, true≢false, slice_get}
use Rattle.std.specs.Prelude.{option_map}
use Rattle.std.specs.List.{filter}
use Rattle.std.proofs.lemmas.Bool.{cond-true, cond-false}
use native.Mathlib.Bridge.{le_prop}
use mathlib.Core.HLevel.{Π_prop, ×_prop, ×₃_prop, Unit-prop}
use mathlib.Core.Logic.{∥∥₁_elim}
use Rattle.std.proofs.Math.Nat.{mul-le-mul_left}
use Rattle.fancy_regex_meaning.specs.Groups.{Pattern}
use Rattle.fancy_regex_meaning.specs.Positions.{boundaries}
use Rattle.fancy_regex_meaning.specs.Sizes.{tree_weight}
use Rattle.fancy_regex_meaning.specs.Ways.{MatchState, Setting, ways, call_ways, max_open_calls}
use Rattle.fancy_regex_meaning.specs.Searches.{Search, Match, first_some, farther, first_longest, chosen, is_admitted, match_of, start_way, ways_at, match_at, starts, first_match}
use Rattle.fancy_regex_meaning.specs.WayLaws.{Each}
use Rattle.fancy_regex_meaning.proofs.EachLemmas.{Each-filter, Each-weaker, boundaries_within}
use Rattle.fancy_regex_meaning.proofs.MatchStartProofs.{chosen_holds}
use Rattle.fancy_regex_linear.specs.Re.{Re}
use Rattle.fancy_regex_states.specs.Attempts.{View, Continuation, accept, NamesBelow, AllAgree}
use Rattle.fancy_regex_linear.specs.Meaning.{Spot, ending_by}
use Rattle.fancy_regex_linear.specs.Meaning as plain
use Rattle.fancy_regex_linear.specs.Attempt.{attempt, better_spot, apply, trace_end}
use Rattle.fancy_regex_linear.specs.Program.{emitted, AgreeBut, MayAskIn}
use Rattle.fancy_regex_linear.specs.Search.{Closed}
use Rattle.fancy_regex_linear.specs.EasyPatterns.{span_of_match}
use Rattle.fancy_regex_linear.specs.Find.{found_of_span, span_of_found, FoundMatch, earliest, attempted, places}
use Rattle.fancy_regex_linear.specs.Plain.{no_calls, IsPlain, classes, re_of}
use Rattle.fancy_regex_class.specs.RunInputs.{group_slots, match_slots, setting_for, search_for}
use Rattle.fancy_regex_linear.specs.SettingView.{view_of}
use Rattle.fancy_regex_linear.specs.Easy.{AreStatesOf, IsMade, found_slots}
use Rattle.fancy_regex_class.specs.declared.input.RunInput.{RunInput}
use Rattle.fancy_regex_states.specs.declared.state.State.{State}
use Rattle.fancy_regex_states.specs.declared.state.State.TheVariants.{Split, Enter, Leave, Ask, Atomic}
use Rattle.fancy_regex_states.specs.declared.state.State.TheVariants as S
use Rattle.fancy_regex_linear.proofs.TreeLemmas.{emit_means, may_all}
use Rattle.fancy_regex_linear.proofs.WeightLemmas.{emitted_weighs}
use Rattle.fancy_regex_linear.proofs.WaysLemmas.{best_from, onward, attempt_lists}
use Rattle.fancy_regex_linear.proofs.BoundLemmas.{ways_ending_by}
use Rattle.fancy_regex_linear.proofs.DfsLemmas.{first_is_best}
use Rattle.fancy_regex_linear.proofs.PlainLemmas.{light, plain_may}
use Rattle.fancy_regex_linear.proofs.MeaningLemmas.{spot_of, tree_same}
use Rattle.fancy_regex_linear.proofs.SameStartLemmas.{keeps_start}

NamesBelow-prop : (n : ℕ) (s : State) → IsProp (NamesBelow n s)
NamesBelow-prop n (S.Read leaf next) = le_prop
NamesBelow-prop n (S.Look check next) = le_prop
NamesBelow-prop n (S.Back next) = le_prop
NamesBelow-prop n (Split first second) = ×_prop le_prop le_prop
NamesBelow-prop n (Enter g next) = le_prop
NamesBelow-prop n (Leave g next) = le_prop
NamesBelow-prop n (Ask part negated next) = ×_prop le_prop le_prop
NamesBelow-prop n (Atomic part same moved) = ×₃_prop le_prop le_prop le_prop
NamesBelow-prop n S.Match = Unit-prop

-- what the states of a pattern do
pub record Does (view : View) (stop : ℕ) (states : List State) (entry : ℕ) (pattern : Re) : Type 0 where
  pub go : ℕ → Continuation
  pub agree : AllAgree view stop states go
  pub entry_in : entry < length states
  pub means : (i : ℕ) → i ≤ stop → go entry i ≡ attempt view stop pattern accept i

pub program_does : (view : View) (stop : ℕ) (states : List State) (entry : ℕ) (pattern : Re) → AreStatesOf states entry pattern
    → MayAskIn view.has_parts pattern → Does view stop states entry pattern
program_does view stop states entry pattern e may =
    let start : AgreeBut view stop (λ _. ⊥) (S.Match ∷ []) (λ _. accept) =
    λ q h. inr (let zero_is : q ≡ 0 = omega arith in rw zero_is (record { names = tt; asks = tt; does = λ i p. refl })) in
    let d = emit_means view stop pattern e.1 may (S.Match ∷ []) (λ _. accept) 0 start (omega arith) in
    let made : Does view stop (emitted pattern (S.Match ∷ []) 0).0 (emitted pattern (S.Match ∷ []) 0).1 pattern = record {
      go = d.next_go;
      agree = λ q h. ⊎_elim (λ o. absurd o) (λ a. a) (d.agree q h);
      entry_in = d.entry;
      means = d.means;
    } in
    subst (λ (m : List State × ℕ). Does view stop m.0 m.1 pattern) e.0 made

abbrev blind : View
blind = record { has = λ leaf i. false; next = λ i. i; back = λ i. None; holds = λ test i. false; longest = false; has_parts = true }

pub closed : (states : List State) (entry : ℕ) → IsMade states entry → Closed states
closed states entry made =
    ∥∥₁_elim made (Π_prop λ q. Π_prop λ _. NamesBelow-prop _ _)
    (λ t. let d = program_does blind 0 states entry t.0 t.1 (may_all t.0) in λ q h. (d.agree q h).names)

pub entry_in : (states : List State) (entry : ℕ) → IsMade states entry → entry < length states
entry_in states entry made = ∥∥₁_elim made le_prop (λ t. (program_does blind 0 states entry t.0 t.1 (may_all t.0)).entry_in)

either_way : (b : Bool) (w v : MatchState) → Some (spot_of (if b then v else w)) ≡ (if b then Some (spot_of v) else Some (spot_of w))
either_way true w v = refl
either_way false w v = refl

longest_same : (w : MatchState) (o : Option MatchState) → Some (spot_of (farther w o)) ≡ better_spot true (Some (spot_of w)) (option_map spot_of o)
longest_same w None = refl
longest_same w (Some v) = either_way (nat_lt w.position v.position) w v

-- the wanted one of some ways
chosen_same : (far : Bool) (ws : List MatchState) → option_map spot_of (chosen far ws) ≡ best_from far (onward accept) (map spot_of ws)
unfolding best_from trace_end apply
chosen_same true [] = refl
chosen_same true (w ∷ ws) = longest_same w (first_longest ws) ∙ ap (better_spot true (Some (spot_of w))) (chosen_same true ws)
chosen_same false [] = refl
chosen_same false (w ∷ ws) = sym (first_is_best (spot_of w) (best_from false (onward accept) (map spot_of ws)))

admitted_here : (b : Bool) (w : MatchState) (us : List MatchState) (rest : List Spot) → map spot_of us ≡ rest
    → map spot_of (cond (b && true) (w ∷ us) us) ≡ (if b then spot_of w ∷ rest else rest)
admitted_here true w us rest e = ap (λ xs. spot_of w ∷ xs) e
admitted_here false w us rest e = e

-- those that a range admits
admitted_same : (longest : Bool) (input : RunInput) (ws : List MatchState)
    → map spot_of (filter (is_admitted (search_for longest input)) ws) ≡ ending_by input.range.end (map spot_of ws)
unfolding ending_by
admitted_same longest input [] = refl
admitted_same longest input (w ∷ ws) = admitted_here (nat_le w.position input.range.end) w _ _ (admitted_same longest input ws)

flat_none : (n : ℕ) → group_slots (replicate n None) ≡ replicate (2 * n) 18446744073709551615
flat_none zero = refl
flat_none (suc n) =
    let two : 2 * suc n ≡ suc (suc (2 * n)) = omega arith in
    ap (λ xs. 18446744073709551615 ∷ 18446744073709551615 ∷ xs) (flat_none n) ∙ sym (ap (λ k. replicate k 18446744073709551615) two)

-- two answers at a place say the same
module _ {X : Type 0} (from_match : Match → X) (from_found : FoundMatch → X) where
  answer_here : (p : ℕ) (a : Option Match) (b : Option Spot) (r : Option Match) (q : Option FoundMatch)
      → option_map from_match a ≡ option_map (λ w. from_found (record { start = p; way = w })) b
      → option_map from_match r ≡ option_map from_found q
      → option_map from_match (elim a [ None ↦ r | Some y ↦ Some y ]) ≡ option_map from_found (elim b [ None ↦ q | Some w ↦ Some (record { start = p; way = w }) ])
  answer_here p None None r q e f = f
  answer_here p (Some y) (Some w) r q e f = e
  answer_here p None (Some w) r q e f = cc
  answer_here p (Some y) None r q e f = cc

  tried_same_here : (p : ℕ) (a : Option Match) (b : Option Spot) (r q : ℕ)
      → option_map from_match a ≡ option_map (λ w. from_found (record { start = p; way = w })) b → r ≡ q
      → 1 + elim a [ None ↦ r | Some y ↦ 0 ] ≡ 1 + elim b [ None ↦ q | Some w ↦ 0 ]
  tried_same_here p None None r q e f = ap (λ n. 1 + n) f
  tried_same_here p (Some y) (Some w) r q e f = refl
  tried_same_here p None (Some w) r q e f = cc
  tried_same_here p (Some y) None r q e f = cc

  module _ (g : ℕ → Option Match) (f : ℕ → Option Spot) where
    abbrev Agree : ℕ → Type 0
    Agree p = option_map from_match (g p) ≡ option_map (λ w. from_found (record { start = p; way = w })) (f p)

    found_same : (ps : List ℕ) → Each Agree ps → option_map from_match (first_some g ps) ≡ option_map from_found (earliest f ps)
    unfolding earliest
    found_same [] h = refl
    found_same (p ∷ ps) h = answer_here p (g p) (f p) (first_some g ps) (earliest f ps) h.0 (found_same ps h.1)

    tried_same : (ps : List ℕ) → Each Agree ps → attempted g ps ≡ attempted f ps
    unfolding attempted
    tried_same [] h = refl
    tried_same (p ∷ ps) h = tried_same_here p (g p) (f p) (attempted g ps) (attempted f ps) h.0 (tried_same ps h.1)

-- one after the other
map_twice : {A B C : Type 0} (f : A → B) (g : B → C) (o : Option A) → option_map g (option_map f o) ≡ option_map (λ a. g (f a)) o
map_twice f g None = refl
map_twice f g (Some a) = refl

-- the span that was found
pub span_back : (o : Option (ℕ × ℕ)) (slots : List ℕ) → option_map span_of_found (found_of_span o slots) ≡ o
span_back None slots = refl
span_back (Some s) slots = refl

-- the places of a way
places_here : (b : Bool) (xs : List ℕ) (p k e : ℕ) → k ≡ p
    → cond b xs (set (set xs 0 k) 1 e) ≡ cond (not b) (set (set xs 0 p) 1 e) xs
places_here true xs p k e h = refl
places_here false xs p k e h = ap (λ n. set (set xs 0 n) 1 e) h

module _ (unicode longest : Bool) (text : List ℕ) (input : RunInput) (states : List State) (entry : ℕ) (pattern : Pattern)
    (is_plain : IsPlain pattern.tree) (fits : input.range.end ≤ length text) where
  abbrev s : Setting
  s = setting_for unicode text input

  abbrev find : Search
  find = search_for longest input

  abbrev re : Re
  re = re_of unicode [] no_calls pattern.first_group 0 pattern.tree

  abbrev view : View
  view = view_of s (classes pattern.tree) longest

  abbrev stop : ℕ
  stop = input.range.end

  may : MayAskIn view.has_parts re
  may = plain_may unicode [] no_calls pattern.first_group 0 pattern.tree is_plain

  abbrev whole : Bool
  whole = not (pattern.first_group == 0)

  -- the span and the slots of a match
  abbrev of_match : Match → (ℕ × ℕ) × List ℕ
  of_match m = (span_of_match m, match_slots pattern m)

  abbrev of_found : FoundMatch → (ℕ × ℕ) × List ℕ
  of_found h = (span_of_found h, found_slots whole h)

  abbrev unset : List ℕ
  unset = replicate (2 * length pattern.groups) 18446744073709551615

  all_ways : (p : ℕ) → p ≤ length text → map spot_of (ways_at s pattern find p) ≡ plain.ways view (length text) re (record { at = p; slots = unset })
  unfolding ways
  all_ways p h =
      tree_same s pattern.groups unicode (call_ways s pattern.groups (max_open_calls pattern.groups) []) (classes pattern.tree) longest (λ c. refl) [] no_calls pattern.first_group 0 pattern.tree is_plain
      (λ j lt. let e : 0 + j ≡ j = omega arith in ap (slice_get (classes pattern.tree)) e) (start_way pattern p) h
      ∙ ap (λ (xs : List ℕ). plain.ways view (length text) re (record { at = p; slots = xs })) (flat_none (length pattern.groups))

  module _ (d : Does view stop states entry re) where
    abbrev from_place : ℕ → Option Spot
    from_place i = trace_end unset (d.go entry i).answer

    -- the wanted way from a place
    wanted : (p : ℕ) → p ≤ stop → option_map spot_of (chosen longest (filter (is_admitted find) (ways_at s pattern find p))) ≡ from_place p
    wanted p h =
        chosen_same longest _
        ∙ ap (best_from longest (onward accept)) (admitted_same longest input _ ∙ ap (ending_by stop) (all_ways p (omega arith)) ∙ ways_ending_by (length text) stop fits view re may (record { at = p; slots = unset }) h)
        ∙ sym (attempt_lists view stop (λ asks. absurd (true≢false (sym asks))) re may accept (record { at = p; slots = unset }))
        ∙ ap (λ r. trace_end unset r.answer) (sym (d.means p h))

    start_same : (p : ℕ) → Each (λ v. v.match_start ≡ p) (filter (is_admitted find) (ways_at s pattern find p))
    unfolding ways
    start_same p = Each-filter (λ v. v.match_start ≡ p) (is_admitted find) _ (keeps_start s pattern.groups (call_ways s pattern.groups (max_open_calls pattern.groups) []) pattern.first_group pattern.tree is_plain (start_way pattern p))

    same_here : (p : ℕ) (o : Option MatchState) (b : Option Spot) → option_map spot_of o ≡ b → ((v : MatchState) → o ≡ Some v → v.match_start ≡ p)
        → option_map of_match (option_map match_of o) ≡ option_map (λ w. of_found (record { start = p; way = w })) b
    same_here p None b e h = ap (option_map (λ w. of_found (record { start = p; way = w }))) e
    same_here p (Some v) b e h =
        ap₂ (λ (start : ℕ) (slots : List ℕ). Some ((start, v.position), slots)) (h v refl)
        (places_here (pattern.first_group == 0) (group_slots v.pairs) p v.match_start v.position (h v refl))
        ∙ ap (option_map (λ w. of_found (record { start = p; way = w }))) e

    agree_at : (p : ℕ) → p ≤ stop → option_map of_match (match_at s pattern find p) ≡ option_map (λ w. of_found (record { start = p; way = w })) (from_place p)
    unfolding match_at
    agree_at p h =
        same_here p (chosen longest (filter (is_admitted find) (ways_at s pattern find p))) (from_place p) (wanted p h)
        (λ v e. chosen_holds (λ v. v.match_start ≡ p) longest _ (start_same p) v e)

    agree_all : (anchored : Bool) → input.first ≤ stop → Each (Agree of_match of_found (match_at s pattern find) from_place) (places text anchored input.first stop)
    agree_all true h = (agree_at input.first h, tt)
    agree_all false h =
        Each-weaker (λ b. (input.first ≤ b) × (b ≤ stop)) (Agree of_match of_found (match_at s pattern find) from_place) (λ p q. agree_at p q.1) (boundaries text input.first stop)
        (boundaries_within text input.first stop)

    starts_are : input.first ≤ stop → starts s pattern find ≡ places text input.anchored input.first stop
    starts_are h = cond-false (nat_lt stop input.first) _ _ (le-ltb stop input.first h)

    -- what a search finds is the match
    both_are_match : input.first ≤ stop
        → option_map of_match (first_match s pattern find) ≡ option_map of_found (earliest from_place (places text input.anchored input.first stop))
    unfolding first_match
    both_are_match h =
        ap (λ ps. option_map of_match (first_some (match_at s pattern find) ps)) (starts_are h)
        ∙ found_same of_match of_found (match_at s pattern find) from_place (places text input.anchored input.first stop) (agree_all input.anchored h)

    pub slots_are_match : input.first ≤ stop
        → option_map (match_slots pattern) (first_match s pattern find) ≡ option_map (found_slots whole) (earliest from_place (places text input.anchored input.first stop))
    slots_are_match h =
        sym (map_twice of_match (λ both. both.1) (first_match s pattern find))
        ∙ ap (option_map (λ both. both.1)) (both_are_match h)
        ∙ map_twice of_found (λ both. both.1) (earliest from_place (places text input.anchored input.first stop))

    pub span_is_match : input.first ≤ stop
        → option_map span_of_match (first_match s pattern find) ≡ option_map span_of_found (earliest from_place (places text input.anchored input.first stop))
    span_is_match h =
        sym (map_twice of_match (λ both. both.0) (first_match s pattern find))
        ∙ ap (option_map (λ both. both.0)) (both_are_match h)
        ∙ map_twice of_found (λ both. both.0) (earliest from_place (places text input.anchored input.first stop))

    -- and tries as many places
    pub tried_is_same : input.first ≤ stop
        → attempted (match_at s pattern find) (starts s pattern find) ≡ attempted from_place (places text input.anchored input.first stop)
    tried_is_same h =
        ap (attempted (match_at s pattern find)) (starts_are h)
        ∙ tried_same of_match of_found (match_at s pattern find) from_place (places text input.anchored input.first stop) (agree_all input.anchored h)

  no_starts : stop < input.first → starts s pattern find ≡ []
  no_starts h = cond-true (nat_lt stop input.first) [] (cond input.anchored (input.first ∷ []) (boundaries text input.first stop)) (lt-ltb stop input.first h)

  -- past the range's end no place is attempted
  pub none_past : stop < input.first → first_match s pattern find ≡ None
  unfolding first_match
  none_past h = ap (first_some (match_at s pattern find)) (no_starts h)

  pub none_tried : stop < input.first → attempted (match_at s pattern find) (starts s pattern find) ≡ 0
  unfolding attempted
  none_tried h = ap (attempted (match_at s pattern find)) (no_starts h)

-- the states of a plain tree weigh no more than it
pub states_weigh : (unicode : Bool) (states : List State) (entry : ℕ) (pattern : Pattern) → IsPlain pattern.tree
    → emitted (re_of unicode [] no_calls pattern.first_group 0 pattern.tree) (S.Match ∷ []) 0 ≡ (states, entry)
    → length states + 1 ≤ tree_weight pattern.groups pattern.tree
states_weigh unicode states entry pattern p e =
    let re = re_of unicode [] no_calls pattern.first_group 0 pattern.tree in
    let most = emitted_weighs re (S.Match ∷ []) 0 in
    let same : length (emitted re (S.Match ∷ []) 0).0 ≡ length states = ap (λ (m : List State × ℕ). length m.0) e in
    omega (arith, most, same, light unicode [] no_calls pattern.groups pattern.first_group 0 pattern.tree p)

-- each place is looked at once, and each pair of a state and a place once
pub steps_bound : (count old m n w : ℕ) → count ≤ old + m * n + m → n + 1 ≤ w → count ≤ old + w * m
steps_bound count old m n w a h =
    let big : m * (n + 1) ≤ m * w = mul-le-mul_left m h in
    omega (arith, big)
