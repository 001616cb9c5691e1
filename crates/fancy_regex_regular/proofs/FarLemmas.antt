-- From where the attempt that finds the first match starts to the end of the longest way there.
use Rattle.std.proofs.Common.{◌≡◌, ◌∙◌, ℕ, ◌+◌, ◌<◌, ◌≤◌, Bool, true, false, List, [], ◌∷◌, Option, Some, None, refl, sym, ap, subst}
use Rattle.std.specs.Prelude.{option_map, IfSome}
use Rattle.std.specs.List.{filter}
use Rattle.std.proofs.lemmas.Option.{none-some, same_Some}
use Rattle.fancy_regex_meaning.specs.Groups.{Pattern}
use Rattle.fancy_regex_meaning.specs.Searches.{Match, chosen, first_match, first_some, is_admitted, match_at, match_of, starts, ways_at}
use Rattle.fancy_regex_meaning.specs.Ways.{MatchState, Setting}
use Rattle.fancy_regex_class.specs.RunInputs.{search_for}
use Rattle.fancy_regex_class.specs.declared.input.RunInput.{RunInput}
use Rattle.fancy_regex_linear.specs.EasyPatterns.{span_of_match}
use Rattle.fancy_regex_regular.specs.Attempts.{attempt_at, first_attempt}
use Rattle.fancy_regex_regular.specs.Ends.{first_in, end_in, ways_from, IsEndFrom}
use Rattle.fancy_regex_regular.specs.declared.regular.Regular.{Regular}
use Rattle.fancy_regex_regular.proofs.LongestLemmas.{IsLongest, first_at_all, first_start, first_there, found_between, is_longest, longest_is, none_at_all, none_later, none_longest, none_over}

-- what was mapped
pub record IsMapped {A B : Type 0} (f : A → B) (o : Option A) (y : B) : Type 0 where
  pub item : A
  pub is : o ≡ Some item
  pub value : f item ≡ y

mapped : {A B : Type 0} (f : A → B) (o : Option A) (y : B) → option_map f o ≡ Some y → IsMapped f o y
mapped f None y e = absurd (none-some y e)
mapped f (Some x) y e = record { item = x; is = refl; value = same_Some (f x) y e }

none_mapped : {A B : Type 0} (f : A → B) (o : Option A) → option_map f o ≡ None → o ≡ None
none_mapped f None e = refl
none_mapped f (Some x) e = absurd (none-some (f x) (sym e))

-- where each of a list answers alike, the first answers are alike
module _ {A B C : Type 0} (v : B → C) (f : A → Option B) (g : A → Option C) where
  mapped_here : (a later : Option B) (b rest : Option C) → option_map v a ≡ b → option_map v later ≡ rest
      → option_map v (elim a [ None ↦ later | Some y ↦ Some y ]) ≡ elim b [ None ↦ rest | Some y ↦ Some y ]
  mapped_here None later b rest e h = rw (sym e) h
  mapped_here (Some y) later b rest e h = rw (sym e) refl

  first_some_mapped : ((x : A) → option_map v (f x) ≡ g x) → (xs : List A) → option_map v (first_some f xs) ≡ first_some g xs
  first_some_mapped h [] = refl
  first_some_mapped h (x ∷ xs) = mapped_here (f x) (first_some f xs) (g x) (first_some g xs) (h x) (first_some_mapped h xs)

abbrev position_of : MatchState → ℕ
position_of w = w.position

module _ (regular : Regular) (text : List ℕ) (input : RunInput) (start : ℕ) where
  -- past the range no way ends
  pub none_past_range : (least : ℕ) → input.range.end < least → IsEndFrom regular text input start least None
  none_past_range least over pattern is =
      sym (ap (option_map position_of) (none_over least input.range.end (ways_from regular text input pattern start) over))

  -- what ends at e is the first that ends there or later
  pub found_there : (least e : ℕ) → IsEndFrom regular text input start least (Some e) → IsEndFrom regular text input start e (Some e)
  found_there least e h pattern is =
      let ws = ways_from regular text input pattern start in
      let m = mapped position_of (first_in least input.range.end ws) e (sym (h pattern is)) in
      sym (ap (option_map position_of) (subst (λ (p : ℕ). first_in p input.range.end ws ≡ Some m.item) m.value
      (first_there least input.range.end ws m.item m.is))
      ∙ ap Some m.value)

  -- where none ends at a place or later, none ends later than that
  pub none_farther : (least more : ℕ) → least ≤ more → IsEndFrom regular text input start least None → IsEndFrom regular text input start more None
  none_farther least more le h pattern is =
      let ws = ways_from regular text input pattern start in
      sym (ap (option_map position_of) (none_later least more input.range.end ws le (none_mapped position_of (first_in least input.range.end ws) (sym (h pattern is)))))

-- a way that is found ends in the range
pub end_between : (least stop e : ℕ) (ws : List MatchState) → end_in least stop ws ≡ Some e → (least ≤ e) × (e ≤ stop)
end_between least stop e ws is =
    let m = mapped position_of (first_in least stop ws) e is in
    subst (λ (p : ℕ). (least ≤ p) × (p ≤ stop)) m.value (found_between least stop ws m.item m.is)

pub end_is_between : (least stop : ℕ) (ws : List MatchState) (o : Option ℕ) → o ≡ end_in least stop ws → IfSome o (λ e. (least ≤ e) × (e ≤ stop))
end_is_between least stop ws None is = tt
end_is_between least stop ws (Some e) is = end_between least stop e ws (sym is)

module _ (s : Setting) (pattern : Pattern) (input : RunInput) where
  abbrev stop : ℕ
  stop = input.range.end

  -- the attempt and the match at a place, and the places
  abbrev attempt_there : Bool → ℕ → Option (ℕ × ℕ)
  attempt_there longest = attempt_at s pattern (search_for longest input)

  abbrev match_there : Bool → ℕ → Option Match
  match_there longest = match_at s pattern (search_for longest input)

  abbrev places : List ℕ
  places = starts s pattern (search_for false input)

  abbrev pub ways_there : ℕ → List MatchState
  ways_there = ways_at s pattern (search_for false input)

  abbrev admitted : ℕ → List MatchState
  admitted p = filter (is_admitted (search_for false input)) (ways_there p)

  -- the way that an attempt at a place finds
  pub record IsWayOf (longest : Bool) (p : ℕ) (span : ℕ × ℕ) : Type 0 where
    pub state : MatchState
    pub chosen_is : chosen longest (admitted p) ≡ Some state
    pub start_is : p ≡ span.0
    pub end_is : state.position ≡ span.1

  way_of : (longest : Bool) (p : ℕ) (span : ℕ × ℕ) → attempt_there longest p ≡ Some span → IsWayOf longest p span
  way_of longest p span e =
      let w = mapped (λ (w : MatchState). (p, w.position)) (chosen longest (admitted p)) span e in
      record { state = w.item; chosen_is = w.is; start_is = ap (λ (x : ℕ × ℕ). x.0) w.value; end_is = ap (λ (x : ℕ × ℕ). x.1) w.value }

  -- where there is no first way, there is no longest
  no_attempt : (p : ℕ) → attempt_there false p ≡ None → attempt_there true p ≡ None
  no_attempt p e =
      ap (option_map (λ w. (p, w.position))) (none_longest (admitted p) (none_mapped (λ (w : MatchState). (p, w.position)) (chosen false (admitted p)) e))

  -- where there is no way, there is no match
  no_match : (longest : Bool) (p : ℕ) → attempt_there longest p ≡ None → match_there longest p ≡ None
  unfolding match_at
  no_match longest p e = ap (option_map match_of) (none_mapped (λ (w : MatchState). (p, w.position)) (chosen longest (admitted p)) e)

  pub none_found : {A : Type 0} (longest : Bool) (f : Match → A) → None ≡ first_attempt s pattern (search_for longest input)
      → None ≡ option_map f (first_match s pattern (search_for longest input))
  unfolding first_match
  none_found longest f e = sym (ap (option_map f) (none_at_all (attempt_there longest) (match_there longest) (no_match longest) places (sym e)))

  -- What is known of the longest match where the attempt that finds the first one starts at a place: a way ends where the first match does, and
  -- the longest match ends where the last way does.
  pub record IsFirstAt (start end : ℕ) : Type 0 where
    pub way : Some end ≡ end_in end stop (ways_there start)
    pub longest : (e : ℕ) → Some e ≡ end_in e stop (ways_there start) → None ≡ end_in (e + 1) stop (ways_there start)
        → Some (start, e) ≡ first_attempt s pattern (search_for true input)

  pub first_at : (start end : ℕ) → Some (start, end) ≡ first_attempt s pattern (search_for false input) → IsFirstAt start end
  first_at start end e =
      let here = first_start (attempt_there false) (attempt_there true) no_attempt places (start, end) (sym e) in
      let of = way_of false here.start (start, end) here.found in
      let found : first_in 0 stop (ways_there here.start) ≡ Some of.state = sym (first_at_all false input (ways_there here.start)) ∙ of.chosen_is in
      let there = first_there 0 stop (ways_there here.start) of.state found in
      subst (λ (p : ℕ). IsFirstAt p end) of.start_is (record {
        way = subst (λ (x : ℕ). Some x ≡ end_in x stop (ways_there here.start)) of.end_is (sym (ap (option_map position_of) there));
        longest = λ e way none.
            let w = mapped position_of (first_in e stop (ways_there here.start)) e (sym way) in
            let last = none_mapped position_of (first_in (e + 1) stop (ways_there here.start)) (sym none) in
            let longest : IsLongest input (ways_there here.start) w.item = record {
              there = subst (λ (x : ℕ). first_in x stop (ways_there here.start) ≡ Some w.item) (sym w.value) w.is;
              last = subst (λ (x : ℕ). first_in (x + 1) stop (ways_there here.start) ≡ None) (sym w.value) last;
            } in
            let chosen_is : chosen true (admitted here.start) ≡ Some w.item = is_longest input (ways_there here.start) w.item longest in
            let all = here.other (here.start, w.item.position) (ap (option_map (λ w. (here.start, w.position))) chosen_is) in
            ap (λ (x : ℕ). Some (here.start, x)) (sym w.value) ∙ sym all;
      })

  -- where the first match is not found, the wanted one is not
  pub none_wanted : (longest : Bool) → None ≡ first_attempt s pattern (search_for false input) → None ≡ first_attempt s pattern (search_for longest input)
  none_wanted false e = e
  none_wanted true e = sym (none_at_all (attempt_there false) (attempt_there true) no_attempt places (sym e))

  -- the way of the match whose attempt is from a place to another
  pub record IsMatchFrom (longest : Bool) (start end : ℕ) : Type 0 where
    pub state : MatchState
    pub chosen_is : chosen longest (admitted start) ≡ Some state
    pub ends : state.position ≡ end
    pub here : match_at s pattern (search_for longest input) start ≡ Some (match_of state)
    pub matched : first_match s pattern (search_for longest input) ≡ Some (match_of state)

  pub match_from : (longest : Bool) (start end : ℕ) → Some (start, end) ≡ first_attempt s pattern (search_for longest input) → IsMatchFrom longest start end
  unfolding first_match match_at
  match_from longest start end e =
      let here = first_start (attempt_there longest) (match_there longest) (no_match longest) places (start, end) (sym e) in
      let of = way_of longest here.start (start, end) here.found in
      let match_is : match_there longest here.start ≡ Some (match_of of.state) = ap (option_map match_of) of.chosen_is in
      record {
        state = of.state;
        chosen_is = subst (λ (p : ℕ). chosen longest (admitted p) ≡ Some of.state) of.start_is of.chosen_is;
        ends = of.end_is;
        here = subst (λ (p : ℕ). match_there longest p ≡ Some (match_of of.state)) of.start_is match_is;
        matched = here.other (match_of of.state) match_is;
      }

  -- it is the first that ends in the range, or the first that ends where the longest does
  pub first_from : (start end : ℕ) (m : IsMatchFrom false start end) → first_in 0 stop (ways_there start) ≡ Some m.state
  first_from start end m = sym (first_at_all false input (ways_there start)) ∙ m.chosen_is

  pub last_from : (start end : ℕ) (m : IsMatchFrom true start end) → first_in end stop (ways_there start) ≡ Some m.state
  last_from start end m =
      let longest = longest_is input (ways_there start) m.state m.chosen_is in
      subst (λ (x : ℕ). first_in x stop (ways_there start) ≡ Some m.state) m.ends longest.there

  -- Where each way begins at the start of its attempt, the span of the match is that of the attempt.
  span_there : (longest : Bool) (p : ℕ) (o : Option MatchState) → ((w : MatchState) → o ≡ Some w → w.match_start ≡ p)
      → option_map span_of_match (option_map match_of o) ≡ option_map (λ w. (p, w.position)) o
  span_there longest p None begins = refl
  span_there longest p (Some w) begins = ap (λ (k : ℕ). Some (k, w.position)) (begins w refl)

  pub spans_are : (longest : Bool) → ((p : ℕ) (w : MatchState) → chosen longest (admitted p) ≡ Some w → w.match_start ≡ p)
      → option_map span_of_match (first_match s pattern (search_for longest input)) ≡ first_attempt s pattern (search_for longest input)
  unfolding first_match match_at
  spans_are longest begins =
      first_some_mapped span_of_match (match_there longest) (attempt_there longest) (λ p. span_there longest p (chosen longest (admitted p)) (begins p)) places
