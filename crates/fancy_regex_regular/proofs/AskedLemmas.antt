-- What the states of a pattern do in a text, where a match has to end at a place or later: an attempt finds the first of the ways from
-- its start that end there or later.
use Rattle.std.proofs.Common.{◌≡◌, ◌∙◌, ℕ, zero, suc, ◌*◌, ◌≤◌, ◌&&◌, Bool, true, false, cond, List, [], ◌∷◌, length, map, replicate, Option, Some, None, nat_le, refl, sym, ap, subst, inl, arith, IsUtf8}
use Rattle.std.specs.Prelude.{option_map}
use Rattle.std.specs.List.{filter}
use Rattle.std.proofs.lemmas.Option.{none-some, same_Some}
use Rattle.fancy_regex_meaning.specs.Groups.{Pattern}
use Rattle.fancy_regex_meaning.specs.Searches.{first_item, chosen, is_admitted, start_way, ways_at}
use Rattle.fancy_regex_meaning.specs.Ways.{MatchState, Pairs, Setting, ways, call_ways, max_open_calls}
use Rattle.fancy_regex_meaning.proofs.EachLemmas.{Each-filter}
use Rattle.fancy_regex_meaning.proofs.MatchStartProofs.{chosen_holds}
use Rattle.fancy_regex_class.specs.RunInputs.{group_slots, setting_for, search_for}
use Rattle.fancy_regex_class.specs.declared.class.CharClassMatcher.{CharClassMatcher}
use Rattle.fancy_regex_class.specs.declared.input.RunInput.{RunInput}
use Rattle.fancy_regex_states.specs.Attempts.{View, Trace, Continuation, ShowsAll}
use Rattle.fancy_regex_states.specs.declared.state.State.{State}
use Rattle.fancy_regex_states.specs.declared.state.State.TheVariants.{Match as End}
use Rattle.fancy_regex_parts.specs.Does.{DoWhat, accept_in}
use Rattle.fancy_regex_parts.specs.Ways.{Explains, admits, ways_of, text_view}
use Rattle.fancy_regex_parts.specs.declared.step.EndRange.{EndRange}
use Rattle.fancy_regex_parts.proofs.EmittedLemmas.{explains_of}
use Rattle.fancy_regex_tree.specs.Tree.{Text}
use Rattle.fancy_regex_linear.specs.Calls.{IsOfTree, greatest_nesting, has_own_span, AreAt, IsCalled}
use Rattle.fancy_regex_linear.specs.Attempt.{attempt, better_spot, apply, trace_end}
use Rattle.fancy_regex_linear.specs.Meaning.{Spot}
use Rattle.fancy_regex_linear.specs.Meaning as plain
use Rattle.fancy_regex_linear.specs.Plain.{IsRegular, classes, re_of}
use Rattle.fancy_regex_linear.specs.Program.{emitted, IsSound, MayAskIn, AgreeBut}
use Rattle.fancy_regex_linear.specs.Re.{Re}
use Rattle.fancy_regex_linear.specs.RegularStates.{AreRegularStates, started}
use Rattle.fancy_regex_linear.proofs.CharTestLemmas.{shows_all}
use Rattle.fancy_regex_linear.proofs.MeaningLemmas.{flat_set}
use Rattle.fancy_regex_linear.proofs.RegularAnswerLemmas.{are_apart, call_keeps, call_serves, groups_from_one}
use Rattle.fancy_regex_linear.proofs.RegularLemmas.{first_at, asking_view, span_pairs, spot_in, tree_firsts}
use Rattle.fancy_regex_linear.proofs.RegularStateLemmas.{first_is_final}
use Rattle.fancy_regex_linear.proofs.SameStartLemmas.{regular_keeps_start}
use Rattle.fancy_regex_linear.proofs.TreeLemmas.{emit_done, emit_both_done, may_all}
use Rattle.fancy_regex_linear.proofs.WaysLemmas.{best_from, onward, attempt_lists}
use Rattle.fancy_regex_regular.specs.Ends.{first_in}
use Rattle.fancy_regex_regular.specs.Regulars.{ends_from, rules_at}
use Rattle.fancy_regex_regular.proofs.ContinueLemmas.{IsPlaceFor, placed, does_placed, shows_placed}

-- What the states of a pattern do whose final state accepts in a range; parts may read the whole text.
record DoesIn (view : View) (len : ℕ) (range : EndRange) (states : List State) (entry : ℕ) (re : Re) : Type 0 where
  pub go : ℕ → Continuation
  pub zero_is : go 0 ≡ accept_in range
  pub agree : AgreeBut view len (λ q. q ≡ 0) states go
  pub means : (i : ℕ) → i ≤ len → go entry i ≡ attempt view len re (accept_in range) i

does_in : (states : List State) (entry : ℕ) (re : Re) → IsSound re → emitted re (End ∷ []) 0 ≡ (states, entry)
    → (view : View) (len : ℕ) (range : EndRange) → view.has_parts ≡ true → DoesIn view len range states entry re
does_in states entry re sound program view len range asks =
    let start : AgreeBut view len (λ q. q ≡ 0) (End ∷ []) (λ _. accept_in range) = λ q h. inl (omega arith) in
    let may : MayAskIn view.has_parts re = subst (λ b. MayAskIn b re) (sym asks) (may_all re) in
    let d = emit_done view len (emit_both_done view len) re sound may (λ q. q ≡ 0) (End ∷ []) (λ _. accept_in range) 0 start (omega arith) in
    let made : DoesIn view len range (emitted re (End ∷ []) 0).0 (emitted re (End ∷ []) 0).1 re = record {
      go = d.next_go;
      zero_is = d.unchanged 0 (omega arith);
      agree = d.agree;
      means = d.means;
    } in
    subst (λ (m : List State × ℕ). DoesIn view len range m.0 m.1 re) program made

-- the first of the ways that end in a range
module _ (has_span : Bool) where
  wanted_here : (b : Bool) (w : MatchState) (vs : List MatchState) (o : Option Spot) → option_map (spot_in has_span) (first_item vs) ≡ o
      → option_map (spot_in has_span) (first_item (cond b (w ∷ vs) vs)) ≡ cond b (Some (spot_in has_span w)) o
  wanted_here true w vs o e = refl
  wanted_here false w vs o e = e

  wanted_first : (least stop : ℕ) (ws : List MatchState)
      → option_map (spot_in has_span) (first_in least stop ws) ≡ first_at (λ p. nat_le least p && nat_le p stop) (map (spot_in has_span) ws)
  wanted_first least stop [] = refl
  wanted_first least stop (w ∷ ws) =
      wanted_here (nat_le least w.position && nat_le w.position stop) w (filter (λ v. nat_le least v.position && nat_le v.position stop) ws) _
      (wanted_first least stop ws)

accepted_here : (b : Bool) (w : Spot) (range : EndRange) (o p : Option Spot) → b ≡ admits range w.at → o ≡ p
    → better_spot false (onward (accept_in range) w) o ≡ cond b (Some w) p
unfolding trace_end apply
accepted_here true w range None p e f = rw (sym e) refl
accepted_here true w range (Some v) p e f = rw (sym e) refl
accepted_here false w range o p e f = rw (sym e) f

accepted_first : (range : EndRange) (ws : List Spot) → best_from false (onward (accept_in range)) ws ≡ first_at (admits range) ws
unfolding best_from
accepted_first range [] = refl
accepted_first range (w ∷ ws) = accepted_here (admits range w.at) w range _ _ refl (accepted_first range ws)

-- the slots of a way: those of its groups, and where the match will be said to begin
slots_in : (has_span : Bool) (start : ℕ) (ps : Pairs) → group_slots (span_pairs has_span start ps) ≡ started has_span start (group_slots ps)
slots_in true start ps = flat_set ps 0 start start
slots_in false start ps = refl

no_slots : (n : ℕ) → group_slots (replicate n None) ≡ replicate (2 * n) 18446744073709551615
no_slots zero = refl
no_slots (suc n) =
    let two : 2 * suc n ≡ suc (suc (2 * n)) = omega arith in
    ap (λ xs. 18446744073709551615 ∷ 18446744073709551615 ∷ xs) (no_slots n) ∙ sym (ap (λ k. replicate k 18446744073709551615) two)

-- a way that was found, and its attempt, before which the slots are these
module _ (has_span : Bool) (slots : List ℕ) where
  end_of_way : (o : Option MatchState) (t : Option Trace) → option_map (spot_in has_span) o ≡ trace_end slots t
      → option_map (λ r. r.end) t ≡ option_map (λ w. w.position) o
  unfolding trace_end
  end_of_way None None e = refl
  end_of_way None (Some t) e = absurd (none-some _ e)
  end_of_way (Some w) None e = absurd (none-some _ (sym e))
  end_of_way (Some w) (Some t) e =
      ap (λ (s : Spot). Some s.at) (sym (same_Some (spot_in has_span w) (record { at = t.end; slots = apply t.writes slots }) e))

  -- the attempt of a way that was found
  pub record IsTraceOf (w : MatchState) (answer : Option Trace) : Type 0 where
    pub trace : Trace
    pub answer_is : answer ≡ Some trace
    pub slots_are : apply trace.writes slots ≡ started has_span w.match_start (group_slots w.pairs)

  pub trace_of : (w : MatchState) (t : Option Trace) → Some (spot_in has_span w) ≡ trace_end slots t → IsTraceOf w t
  unfolding trace_end
  trace_of w None e = absurd (none-some _ (sym e))
  trace_of w (Some t) e = record {
    trace = t;
    answer_is = refl;
    slots_are = ap (λ (s : Spot). s.slots) (sym (same_Some (spot_in has_span w) (record { at = t.end; slots = apply t.writes slots }) e))
        ∙ slots_in has_span w.match_start w.pairs;
  }

module _ (unicode resets : Bool) (text : List ℕ) (input : RunInput) (pattern : Pattern) (of_tree : IsOfTree pattern) (cs : List (Text × Bool)) (base : ℕ)
    (called : ℕ → Re) (own_span : resets ≡ true → has_own_span pattern ≡ true)
    (is_regular : IsRegular resets (λ j. IsCalled pattern.groups unicode cs (greatest_nesting (length pattern.groups)) j (called j)) pattern.tree)
    (stand : AreAt cs base (classes pattern.tree)) where
  -- how deep calls may nest, and what a call has to be
  abbrev nesting : ℕ
  nesting = greatest_nesting (length pattern.groups)

  abbrev known : ℕ → Type 0
  known j = IsCalled pattern.groups unicode cs nesting j (called j)

  abbrev s : Setting
  s = setting_for unicode text input

  abbrev re : Re
  re = re_of unicode pattern.groups called pattern.first_group base pattern.tree

  abbrev view : View
  view = asking_view s cs

  abbrev pub unset : List ℕ
  unset = replicate (2 * length pattern.groups) 18446744073709551615

  -- what an attempt from this place finds that has to end at `least` or later
  abbrev pub tried_from : ℕ → ℕ → Option Trace
  tried_from least p = (attempt view (length text) re (accept_in (ends_from least input.range.end)) p).answer

  -- it is the first way that does
  pub way_from : (longest : Bool) (least p : ℕ) → p ≤ length text
      → option_map (spot_in (has_own_span pattern)) (first_in least input.range.end (ways_at s pattern (search_for longest input) p))
      ≡ trace_end (started (has_own_span pattern) p unset) (tried_from least p)
  unfolding ways
  way_from longest least p h =
      wanted_first (has_own_span pattern) least input.range.end (ways_at s pattern (search_for longest input) p)
      ∙ tree_firsts (has_own_span pattern) s pattern.groups unicode (call_ways s pattern.groups (max_open_calls pattern.groups) []) cs (λ c. refl) called known
      (call_serves unicode resets text input pattern of_tree cs base called own_span is_regular stand)
      (call_keeps unicode resets text input pattern of_tree cs base called own_span is_regular stand)
      resets own_span pattern.first_group base pattern.tree is_regular
      (are_apart unicode resets text input pattern of_tree cs base called own_span is_regular stand)
      (groups_from_one unicode resets text input pattern of_tree cs base called own_span is_regular stand)
      stand (start_way pattern p) h (admits (ends_from least input.range.end))
      ∙ sym (accepted_first (ends_from least input.range.end) (plain.ways view (length text) re (spot_in (has_own_span pattern) (start_way pattern p))))
      ∙ sym (attempt_lists view (length text) (λ e. refl) re (may_all re) (accept_in (ends_from least input.range.end))
      (spot_in (has_own_span pattern) (start_way pattern p)))
      ∙ ap (λ slots. trace_end slots (tried_from least p)) (slots_in (has_own_span pattern) p (replicate (length pattern.groups) None)
      ∙ ap (started (has_own_span pattern) p) (no_slots (length pattern.groups)))

  pub end_from : (longest : Bool) (least p : ℕ) → p ≤ length text
      → option_map (λ t. t.end) (tried_from least p) ≡ option_map (λ w. w.position) (first_in least input.range.end (ways_at s pattern (search_for longest input) p))
  end_from longest least p h =
      end_of_way (has_own_span pattern) (started (has_own_span pattern) p unset)
      (first_in least input.range.end (ways_at s pattern (search_for longest input) p)) (tried_from least p) (way_from longest least p h)

  -- each way begins there, where none resets the start
  pub begins_at : resets ≡ false → (longest : Bool) (p : ℕ) (w : MatchState)
      → chosen longest (filter (is_admitted (search_for longest input)) (ways_at s pattern (search_for longest input) p)) ≡ Some w → w.match_start ≡ p
  unfolding ways
  begins_at still longest p w e =
      chosen_holds (λ v. v.match_start ≡ p) longest _
      (Each-filter (λ v. v.match_start ≡ p) (is_admitted (search_for longest input)) _
      (regular_keeps_start s pattern.groups (call_ways s pattern.groups (max_open_calls pattern.groups) []) known
      (call_keeps unicode resets text input pattern of_tree cs base called own_span is_regular stand)
      pattern.first_group pattern.tree (subst (λ b. IsRegular b known pattern.tree) still is_regular) (start_way pattern p)))
      w e

-- What the states of a pattern do in a text, where a match has to end at a place or later.
pub record IsAsked (unicode resets : Bool) (states : List State) (entry : ℕ) (matchers : List CharClassMatcher) (pattern : Pattern)
    (is : AreRegularStates unicode resets states entry matchers pattern) (text : List ℕ) (input : RunInput) (place : Option ℕ) (least : ℕ) : Type 0 where
  pub view : View
  pub go : ℕ → Continuation
  pub does : DoWhat view (length text) (ends_from least input.range.end) states go
  pub shows : ShowsAll matchers (rules_at unicode input place) text (text_view view)
  pub first : view.longest ≡ false
  pub explains : Explains matchers (rules_at unicode input place) (ends_from least input.range.end) states text (text_view view) (ways_of go)
  pub means : (p : ℕ) → p ≤ length text
      → (go entry p).answer ≡ tried_from unicode resets text input pattern is.of_tree is.all_classes is.base is.called is.own_span is.regular is.stand least p

pub is_asked : (unicode resets : Bool) (states : List State) (entry : ℕ) (matchers : List CharClassMatcher) (pattern : Pattern)
    (is : AreRegularStates unicode resets states entry matchers pattern) (text : List ℕ) (input : RunInput) (place : Option ℕ) (least : ℕ)
    → IsPlaceFor place input states → IsUtf8 text → IsAsked unicode resets states entry matchers pattern is text input place least
is_asked unicode resets states entry matchers pattern is text input place least is_place u =
    let re = re_of unicode pattern.groups is.called pattern.first_group is.base pattern.tree in
    let asking = asking_view (setting_for unicode text input) is.all_classes in
    let view = placed asking place in
    let range = ends_from least input.range.end in
    let d = does_in states entry re is.sound is.program asking (length text) range refl in
    let final = first_is_final states entry re is.sound is.program in
    let shows = shows_placed matchers unicode input place asking text (shows_all unicode false text input matchers is.all_classes is.matchers_are u) in
    let does : DoWhat view (length text) range states d.go =
    does_placed asking input place (λ i. refl) (length text) range states d.go is_place (record { zero = d.zero_is; final = final; agree = d.agree }) in
    record {
      view = view;
      go = d.go;
      does = does;
      shows = shows;
      first = refl;
      means = λ p h. ap (λ r. r.answer) (d.means p h);
      explains = explains_of matchers (rules_at unicode input place) range text view d.go refl shows states does.zero does.final does.agree;
    }
