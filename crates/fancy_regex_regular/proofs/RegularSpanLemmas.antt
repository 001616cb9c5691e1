-- What a search in parts finds is the attempt that finds the match of the definitions.
use Rattle.std.proofs.Common.{◌≡◌, ◌∙◌, ℕ, ◌-◌, ◌<◌, ◌≤◌, Bool, true, false, cond, List, [], ◌∷◌, length, Option, Some, None, if◌then◌else◌, refl, sym, ap, arith, lt-ltb, le-ltb, IsUtf8, IsCharBoundary}
use Rattle.std.specs.Prelude.{option_map}
use Rattle.std.specs.List.{filter}
use Rattle.fancy_regex_meaning.specs.Ways.{MatchState, Setting}
use Rattle.fancy_regex_meaning.specs.WayLaws.{Each}
use Rattle.fancy_regex_meaning.proofs.EachLemmas.{Each-weaker, boundaries_within}
use Rattle.fancy_regex_meaning.specs.Groups.{Pattern}
use Rattle.fancy_regex_meaning.specs.Positions.{boundaries}
use Rattle.fancy_regex_meaning.specs.Searches.{Search, chosen, first_some, is_admitted, starts, ways_at}
use Rattle.fancy_regex_meaning.proofs.NextBoundaryLemmas.{from_here}
use Rattle.fancy_regex_class.specs.RunInputs.{setting_for, search_for}
use Rattle.fancy_regex_class.specs.declared.class.CharClassMatcher.{CharClassMatcher}
use Rattle.fancy_regex_class.specs.declared.input.RunInput.{RunInput}
use Rattle.fancy_regex_states.specs.declared.state.State.{State}
use Rattle.fancy_regex_parts.specs.Find.{earliest}
use Rattle.fancy_regex_parts.specs.Ways.{ways_of}
use Rattle.fancy_regex_linear.specs.RegularStates.{AreRegularStates}
use Rattle.fancy_regex_regular.specs.Attempts.{attempt_at, first_attempt}
use Rattle.fancy_regex_regular.specs.Starts.{last_start}
use Rattle.fancy_regex_regular.proofs.AskedLemmas.{IsAsked, is_asked, end_from}
use Rattle.fancy_regex_regular.proofs.ContinueLemmas.{IsPlaceFor}
use Rattle.fancy_regex_regular.proofs.LongestLemmas.{first_at_all}

-- the first of the starts that has a way, with the end of that
module _ (f : ℕ → Option ℕ) where
  abbrev span_from : ℕ → Option (ℕ × ℕ)
  span_from p = option_map (λ e. (p, e)) (f p)

  first_here : (p : ℕ) (o : Option ℕ) (r q : Option (ℕ × ℕ)) → r ≡ q
      → ◌≡◌ {A = Option (ℕ × ℕ)} (elim o [ None ↦ r | Some e ↦ Some (p, e) ]) (elim (option_map (λ e. (p, e)) o) [ None ↦ q | Some y ↦ Some y ])
  first_here p None r q h = h
  first_here p (Some e) r q h = refl

  earliest_is : (ps : List ℕ) → earliest f ps ≡ first_some span_from ps
  unfolding earliest
  earliest_is [] = refl
  earliest_is (p ∷ ps) = first_here p (f p) (earliest f ps) (first_some span_from ps) (earliest_is ps)

-- where each of a list answers alike, the first answers are alike
module _ {A B : Type 0} (f g : A → Option B) where
  some_here : (a b later rest : Option B) → a ≡ b → later ≡ rest
      → ◌≡◌ {A = Option B} (elim a [ None ↦ later | Some y ↦ Some y ]) (elim b [ None ↦ rest | Some y ↦ Some y ])
  some_here None b later rest e h = rw (sym e) h
  some_here (Some y) b later rest e h = rw (sym e) refl

  first_some_same : (xs : List A) → Each (λ x. f x ≡ g x) xs → first_some f xs ≡ first_some g xs
  first_some_same [] h = refl
  first_some_same (x ∷ xs) h = some_here (f x) (g x) (first_some f xs) (first_some g xs) h.0 (first_some_same xs h.1)

map_map : {A B C : Type 0} (f : A → B) (g : B → C) (o : Option A) → option_map g (option_map f o) ≡ option_map (λ a. g (f a)) o
map_map f g None = refl
map_map f g (Some a) = refl

-- the last start is in the range
last_within : (anchored : Bool) (first stop : ℕ) → first ≤ stop → (if anchored then first else stop) ≤ stop
last_within true first stop le = le
last_within false first stop le = omega arith

-- one start alone
one_start : (text : List ℕ) (p : ℕ) → IsCharBoundary text p → boundaries text p p ≡ p ∷ []
one_start text p b =
    let none : p - p ≡ 0 = omega arith in
    let split = from_here text p p b (omega arith) in
    rw none at split

module _ (text : List ℕ) (input : RunInput) where
  -- the starts of a search within its range
  all_starts : (anchored : Bool) → IsCharBoundary text input.first
      → cond anchored (input.first ∷ []) (boundaries text input.first input.range.end)
      ≡ boundaries text input.first (if anchored then input.first else input.range.end)
  all_starts true b = sym (one_start text input.first b)
  all_starts false b = refl

  pub starts_are : (unicode : Bool) (pattern : Pattern) → IsCharBoundary text input.first → input.first ≤ input.range.end
      → starts (setting_for unicode text input) pattern (search_for false input) ≡ boundaries text input.first (last_start input)
  starts_are unicode pattern b below = rw (le-ltb input.range.end input.first below) (all_starts input.anchored b)

-- What the states of a pattern do in a text: the first start that has a way is that of the attempt that finds the match.
pub record IsSearched (unicode resets : Bool) (states : List State) (entry : ℕ) (matchers : List CharClassMatcher) (pattern : Pattern)
    (is : AreRegularStates unicode resets states entry matchers pattern) (text : List ℕ) (input : RunInput) (place : Option ℕ) : Type 0 where
  pub asked : IsAsked unicode resets states entry matchers pattern is text input place 0
  pub first_is : earliest ((ways_of asked.go).end entry) (boundaries text input.first (last_start input))
      ≡ first_attempt (setting_for unicode text input) pattern (search_for false input)

module _ (unicode resets : Bool) (states : List State) (entry : ℕ) (matchers : List CharClassMatcher) (pattern : Pattern)
    (is : AreRegularStates unicode resets states entry matchers pattern) (text : List ℕ) (input : RunInput) where
  abbrev s : Setting
  s = setting_for unicode text input

  abbrev find : Search
  find = search_for false input

  module _ (place : Option ℕ) (asked : IsAsked unicode resets states entry matchers pattern is text input place 0) where
    -- the end of an attempt is that of the first way that a search admits
    end_is : (p : ℕ) → p ≤ length text
        → (ways_of asked.go).end entry p ≡ option_map (λ w. w.position) (chosen false (filter (is_admitted find) (ways_at s pattern find p)))
    end_is p h =
        ap (option_map (λ t. t.end)) (asked.means p h)
        ∙ end_from unicode resets text input pattern is.of_tree is.all_classes is.base is.called is.own_span is.regular is.stand false 0 p h
        ∙ ap (option_map (λ w. w.position)) (sym (first_at_all false input (ways_at s pattern find p)))

    span_is : (p : ℕ) → p ≤ length text → span_from ((ways_of asked.go).end entry) p ≡ attempt_at s pattern find p
    span_is p h =
        ap (option_map (λ e. (p, e))) (end_is p h)
        ∙ map_map (λ (w : MatchState). w.position) (λ e. (p, e)) (chosen false (filter (is_admitted find) (ways_at s pattern find p)))

    starts_within : input.first ≤ input.range.end → input.range.end ≤ length text → Each (λ p. p ≤ length text) (boundaries text input.first (last_start input))
    starts_within below fits =
        let last = last_within input.anchored input.first input.range.end below in
        Each-weaker (λ p. (input.first ≤ p) × (p ≤ last_start input)) (λ p. p ≤ length text) (λ p both. omega (arith, both.1, last))
        (boundaries text input.first (last_start input)) (boundaries_within text input.first (last_start input))

    is_first : IsCharBoundary text input.first → input.first ≤ input.range.end → input.range.end ≤ length text
        → earliest ((ways_of asked.go).end entry) (boundaries text input.first (last_start input)) ≡ first_attempt s pattern find
    is_first b below fits =
        earliest_is ((ways_of asked.go).end entry) (boundaries text input.first (last_start input))
        ∙ first_some_same (span_from ((ways_of asked.go).end entry)) (attempt_at s pattern find) (boundaries text input.first (last_start input))
        (Each-weaker (λ p. p ≤ length text) (λ p. span_from ((ways_of asked.go).end entry) p ≡ attempt_at s pattern find p) span_is
        (boundaries text input.first (last_start input)) (starts_within below fits))
        ∙ ap (first_some (attempt_at s pattern find)) (sym (starts_are text input unicode pattern b below))

  pub is_searched : (place : Option ℕ) → IsPlaceFor place input states → IsUtf8 text → IsCharBoundary text input.first
      → input.first ≤ input.range.end → input.range.end ≤ length text → IsSearched unicode resets states entry matchers pattern is text input place
  is_searched place is_place u b below fits =
      let asked = is_asked unicode resets states entry matchers pattern is text input place 0 is_place u in
      record { asked = asked; first_is = is_first place asked b below fits }

-- a search that begins past its range has no starts
pub none_past : (unicode : Bool) (pattern : Pattern) (text : List ℕ) (input : RunInput) (longest : Bool) → input.range.end < input.first
    → None ≡ first_attempt (setting_for unicode text input) pattern (search_for longest input)
none_past unicode pattern text input longest past = rw (lt-ltb input.range.end input.first past) refl
