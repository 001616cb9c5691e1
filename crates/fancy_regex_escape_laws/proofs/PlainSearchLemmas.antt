-- Searches with a pattern that has one way past a plain text.
use Rattle.std.proofs.Common.{◌≡◌, ◌≢◌, ℕ, zero, suc, ◌+◌, ◌-◌, ◌<◌, ◌≤◌, Bool, true, false, not, cond, ◌&&◌, List, [], ◌∷◌, ◌++◌, length, take, drop, Option, Some, None, option_map, nat_eq, nat_lt, ◌==◌, slice_range, replicate, refl, sym, ap, ◌∙◌, ⊎_elim, arith, append_assoc, length-append, length-take, drop-drop, ne_eqb, le-leb, encode_utf8, encode_utf8_all}
use Rattle.std.specs.List.{starts_with, filter}
use Rattle.std.specs.Str.{all_scalars}
use Rattle.std.proofs.lemmas.Bool.{cond-true, cond-false, and_parts, false≢true, leb-true, ltb-true, and_from}
use Rattle.std.proofs.lemmas.List.{take-append-drop}
use Rattle.std.proofs.lemmas.Str.{length-encode, len_utf8_bounds}
use Rattle.regex_hir.specs.Text.{char_at, is_boundary}
use Rattle.regex_hir.proofs.TextLemmas.{char_at_from, char_at_fits}
use Rattle.regex_hir.proofs.Utf8Lemmas.{char_at_cases, IsOneByteAt, IsTwoBytesAt, IsThreeBytesAt, IsFourBytesAt}
use Rattle.std.specs.Prelude.{slice_index}
use Rattle.fancy_regex_tree.specs.Tree.{Text, Tree}
use Rattle.fancy_regex_meaning.specs.Groups.{Pattern, pattern_of}
use Rattle.fancy_regex_meaning.specs.Positions.{boundaries, numbers_from}
use Rattle.fancy_regex_meaning.specs.Ways.{MatchState, Setting, with_position, ways}
use Rattle.fancy_regex_meaning.specs.Searches.{Match, Search, match_at, match_of, chosen, is_admitted, start_way, first_some, first_match, search_from}
use Rattle.fancy_regex_meaning.proofs.NextBoundaryLemmas.{test_of_IsCharBoundary}
use Rattle.fancy_regex_escape_laws.specs.Literals.{plain_tree}
use Rattle.fancy_regex_escape_laws.specs.Occurrences.{first_occurrence}
use Rattle.fancy_regex_escape_laws.specs.PlainSearch.{past_needle, plain_match, match_if_there, first_plain_match, IsPlainSearch, PlainTreesArePlainSearches}
use Rattle.fancy_regex_escape_laws.proofs.LiteralWays.{plain_ways, without_bodies}
use Rattle.fancy_regex_escape_laws.proofs.OccurrenceLemmas.{begins_parts, begins_from, occurs_here, occurs_in_nothing, occurs_later}

-- the bytes from an offset to the end of the range begin with the needle
abbrev pub is_there : List ℕ → List ℕ → ℕ → ℕ → Bool
is_there text needle stop p = starts_with nat_eq (slice_range text p stop) needle

-- where the needle is in the range, it is in the text and ends in time
pub there_parts : (text needle : List ℕ) (stop p : ℕ) → 0 < length needle → is_there text needle stop p ≡ true →
    (starts_with nat_eq (drop p text) needle ≡ true) × (p + length needle ≤ stop)
there_parts text needle stop p some e =
    let is = begins_parts (slice_range text p stop) needle e in
    let long : length needle ≤ stop - p = omega (arith, ap length is, length-append needle (drop (length needle) (slice_range text p stop)), length-take (stop - p) (drop p text)) in (
      begins_from (drop p text) needle (drop (length needle) (slice_range text p stop) ++ drop (stop - p) (drop p text))
          (sym (take-append-drop (stop - p) (drop p text)) ∙ ap (λ front. front ++ drop (stop - p) (drop p text)) is ∙ append_assoc needle _ _),
      omega arith,
    )

take_front : (needle rest : List ℕ) (n : ℕ) → length needle ≤ n → take n (needle ++ rest) ≡ needle ++ take (n - length needle) rest
take_front [] rest n le = ap (λ (m : ℕ). take m rest) (let m : n ≡ n - 0 = omega arith in m)
take_front (b ∷ needle) rest zero le = absurd (omega arith)
take_front (b ∷ needle) rest (suc n) le =
    ap (λ front. b ∷ front) (take_front needle rest n (omega arith) ∙ ap (λ (m : ℕ). needle ++ take m rest) (let m : n - length needle ≡ suc n - suc (length needle) = omega arith in m))

pub there_from : (text needle : List ℕ) (stop p : ℕ) → starts_with nat_eq (drop p text) needle ≡ true → p + length needle ≤ stop → is_there text needle stop p ≡ true
there_from text needle stop p e le =
    begins_from (slice_range text p stop) needle _
    (ap (take (stop - p)) (begins_parts (drop p text) needle e) ∙ take_front needle (drop (length needle) (drop p text)) (stop - p) (omega arith))

take-nil : (n : ℕ) → take {A = ℕ} n [] ≡ []
take-nil zero = refl
take-nil (suc n) = refl

drop_one : (text : List ℕ) (n : ℕ) → drop 1 (take n text) ≡ take (n - 1) (drop 1 text)
drop_one [] zero = refl
drop_one [] (suc n) = sym (take-nil (suc n - 1))
drop_one (b ∷ text) zero = refl
drop_one (b ∷ text) (suc n) = ap (λ (m : ℕ). take m text) (let m : n ≡ suc n - 1 = omega arith in m)

-- one byte less of the range
range_after : (text : List ℕ) (stop p : ℕ) → drop 1 (slice_range text p stop) ≡ slice_range text (p + 1) stop
range_after text stop p =
    drop_one (drop p text) (stop - p)
    ∙ ap (take (stop - p - 1)) (drop-drop 1 p text)
    ∙ ap (λ (m : ℕ). take m (drop (p + 1) text)) (let m : stop - p - 1 ≡ stop - (p + 1) = omega arith in m)

module _ (text needle : List ℕ) (stop : ℕ) (some : 0 < length needle) where
  -- no occurrence is left where the range ends
  none_left : (p : ℕ) → stop ≤ p → first_plain_match text needle stop p ≡ None
  none_left p le =
      ap (λ (m : ℕ). option_map (λ k. plain_match needle (p + k)) (first_occurrence needle (take m (drop p text)))) (let m : stop - p ≡ 0 = omega arith in m)
      ∙ ap (option_map (λ k. plain_match needle (p + k))) (occurs_in_nothing needle some)

  found_here : (p : ℕ) → is_there text needle stop p ≡ true → first_plain_match text needle stop p ≡ Some (plain_match needle p)
  found_here p e =
      ap (option_map (λ k. plain_match needle (p + k))) (occurs_here needle (slice_range text p stop) e)
      ∙ ap (λ (q : ℕ). Some (plain_match needle q)) (let q : p + 0 ≡ p = omega arith in q)

  shifted : (p : ℕ) (o : Option ℕ) → option_map (λ k. plain_match needle (p + k)) (option_map (λ k. suc k) o) ≡ option_map (λ k. plain_match needle (p + 1 + k)) o
  shifted p None = refl
  shifted p (Some k) = ap (λ (q : ℕ). Some (plain_match needle q)) (let q : p + suc k ≡ p + 1 + k = omega arith in q)

  found_later : (p : ℕ) → is_there text needle stop p ≡ false → first_plain_match text needle stop p ≡ first_plain_match text needle stop (p + 1)
  found_later p e =
      ap (option_map (λ k. plain_match needle (p + k))) (occurs_later needle (slice_range text p stop) some e)
      ∙ shifted p (first_occurrence needle (drop 1 (slice_range text p stop)))
      ∙ ap (λ rest. option_map (λ k. plain_match needle (p + 1 + k)) (first_occurrence needle rest)) (range_after text stop p)

chosen_one : (longest : Bool) (w : MatchState) → chosen longest (w ∷ []) ≡ Some w
chosen_one true w = refl
chosen_one false w = refl

chosen_none : (longest : Bool) → chosen longest [] ≡ None
chosen_none true = refl
chosen_none false = refl

first_here : (f : ℕ → Option Match) (p : ℕ) (ps : List ℕ) (m : Match) → f p ≡ Some m → first_some f (p ∷ ps) ≡ Some m
first_here f p ps m e = rw (first_some, e) refl

first_later : (f : ℕ → Option Match) (p : ℕ) (ps : List ℕ) → f p ≡ None → first_some f (p ∷ ps) ≡ first_some f ps
first_later f p ps e = rw (first_some, e) refl

first_only : (f : ℕ → Option Match) (p : ℕ) (o : Option Match) → f p ≡ o → first_some f (p ∷ []) ≡ o
first_only f p None e = first_later f p [] e
first_only f p (Some m) e = first_here f p [] m e

module _ (pattern : Pattern) (needle : List ℕ) (some : 0 < length needle)
    (single : pattern.groups ≡ pattern.tree ∷ [])
    (one_way : (s : Setting) (groups : List Tree) (n : ℕ) (w : MatchState) → ways s groups n pattern.tree w ≡ past_needle s.text needle w)
    (starts_well : (text : List ℕ) (p : ℕ) → starts_with nat_eq (drop p text) needle ≡ true → is_boundary text p ≡ true) where
  abbrev pick : Search → List MatchState → Option Match
  pick find ws = option_map match_of (chosen find.options.longest (filter (is_admitted find) ws))

  -- the state past the needle
  abbrev past : ℕ → MatchState
  past p = with_position (start_way pattern p) (p + length needle)

  not_empty : (p : ℕ) (b : Bool) → not (b && (p == (p + length needle))) ≡ true
  not_empty p true = ap not (ne_eqb p (p + length needle) (omega arith))
  not_empty p false = refl

  admitted : (find : Search) (p : ℕ) → p + length needle ≤ find.stop → is_admitted find (past p) ≡ true
  admitted find p le = and_from _ _ (le-leb (p + length needle) find.stop le) (not_empty p find.options.find_not_empty)

  picked : (find : Search) (p : ℕ) → p + length needle ≤ find.stop → pick find (past p ∷ []) ≡ Some (plain_match needle p)
  picked find p le =
      ap (λ ws. option_map match_of (chosen find.options.longest ws)) (cond-true (is_admitted find (past p)) (past p ∷ []) [] (admitted find p le))
      ∙ ap (option_map match_of) (chosen_one find.options.longest (past p))
      ∙ ap (λ (groups : List Tree). Some (record { start = p; end = p + length needle; pairs = replicate (length groups) None })) single

  none_picked : (find : Search) → pick find [] ≡ None
  none_picked find = ap (option_map match_of) (chosen_none find.options.longest)

  module _ (s : Setting) (find : Search) where
    hits : (p : ℕ) → is_there s.text needle find.stop p ≡ true → match_at s pattern find p ≡ Some (plain_match needle p)
    unfolding match_at
    hits p e =
        let parts = there_parts s.text needle find.stop p some e in
        ap (pick find) (one_way s pattern.groups pattern.first_group (start_way pattern p) ∙ cond-true _ (past p ∷ []) [] parts.0)
        ∙ picked find p parts.1

    -- where the needle is not in the range, a way past it ends too late
    too_late : (p : ℕ) → is_there s.text needle find.stop p ≡ false → (v : Bool) → is_admitted find (past p) ≡ v →
        starts_with nat_eq (drop p s.text) needle ≡ true → v ≡ false
    too_late p e false h here = refl
    too_late p e true h here =
        let inside = leb-true (p + length needle) find.stop (and_parts _ _ h).0 in
        absurd (false≢true (sym e ∙ there_from s.text needle find.stop p here inside))

    misses : (p : ℕ) → is_there s.text needle find.stop p ≡ false → match_at s pattern find p ≡ None
    unfolding match_at
    misses p e = ap (pick find) (one_way s pattern.groups pattern.first_group (start_way pattern p)) ∙ at (starts_with nat_eq (drop p s.text) needle) refl
      where
        at : (v : Bool) → starts_with nat_eq (drop p s.text) needle ≡ v → pick find (cond v (past p ∷ []) []) ≡ None
        at false here = none_picked find
        at true here =
            ap (λ ws. option_map match_of (chosen find.options.longest ws)) (cond-false (is_admitted find (past p)) (past p ∷ []) [] (too_late p e _ refl here))
            ∙ none_picked find

    attempts : (p : ℕ) → match_at s pattern find p ≡ match_if_there s.text needle find.stop p
    attempts p = at (is_there s.text needle find.stop p) refl
      where
        at : (v : Bool) → is_there s.text needle find.stop p ≡ v → match_at s pattern find p ≡ match_if_there s.text needle find.stop p
        at true e = hits p e ∙ sym (cond-true _ _ None e)
        at false e = misses p e ∙ sym (cond-false _ (Some (plain_match needle p)) None e)

    -- over the boundaries from an offset on
    numbered : (n p : ℕ) → n ≡ find.stop + 1 - p →
        first_some (match_at s pattern find) (filter (is_boundary s.text) (numbers_from n p)) ≡ first_plain_match s.text needle find.stop p
    numbered zero p e = sym (none_left s.text needle find.stop some p (omega arith))
    numbered (suc n) p e = at (is_there s.text needle find.stop p) refl (numbered n (p + 1) (omega arith))
      where
        others : List ℕ
        others = filter (is_boundary s.text) (numbers_from n (p + 1))

        past_it : (v : Bool) → match_at s pattern find p ≡ None →
            first_some (match_at s pattern find) (cond v (p ∷ others) others) ≡ first_some (match_at s pattern find) others
        past_it true none = first_later (match_at s pattern find) p others none
        past_it false none = refl

        at : (v : Bool) → is_there s.text needle find.stop p ≡ v →
            first_some (match_at s pattern find) others ≡ first_plain_match s.text needle find.stop (p + 1) →
            first_some (match_at s pattern find) (cond (is_boundary s.text p) (p ∷ others) others) ≡ first_plain_match s.text needle find.stop p
        at true there after =
            ap (first_some (match_at s pattern find)) (cond-true _ (p ∷ others) others (starts_well s.text p (there_parts s.text needle find.stop p some there).0))
            ∙ first_here (match_at s pattern find) p others (plain_match needle p) (hits p there)
            ∙ sym (found_here s.text needle find.stop some p there)
        at false there after =
            past_it (is_boundary s.text p) (misses p there) ∙ after ∙ sym (found_later s.text needle find.stop some p there)

    abbrev found_in : List ℕ → Option Match
    found_in ps = first_some (match_at s pattern find) ps

    searches : find.anchored ≡ false → first_match s pattern find ≡ first_plain_match s.text needle find.stop find.first
    unfolding first_match
    searches h = at (nat_lt find.stop find.first) refl
      where
        at : (v : Bool) → nat_lt find.stop find.first ≡ v →
            found_in (cond v [] (cond find.anchored (find.first ∷ []) (boundaries s.text find.first find.stop))) ≡ first_plain_match s.text needle find.stop find.first
        at true e = let past_end = ltb-true find.stop find.first e in sym (none_left s.text needle find.stop some find.first (omega arith))
        at false e = ap found_in (cond-false _ _ _ h) ∙ numbered (find.stop + 1 - find.first) find.first refl

    not_there : find.stop ≤ find.first → match_if_there s.text needle find.stop find.first ≡ None
    not_there le = at (is_there s.text needle find.stop find.first) refl
      where
        at : (v : Bool) → is_there s.text needle find.stop find.first ≡ v → cond v (Some (plain_match needle find.first)) None ≡ None
        at false e = refl
        at true e = absurd (omega (arith, (there_parts s.text needle find.stop find.first some e).1))

    anchors : find.anchored ≡ true → first_match s pattern find ≡ match_if_there s.text needle find.stop find.first
    unfolding first_match
    anchors h = at (nat_lt find.stop find.first) refl
      where
        at : (v : Bool) → nat_lt find.stop find.first ≡ v →
            found_in (cond v [] (cond find.anchored (find.first ∷ []) (boundaries s.text find.first find.stop))) ≡ match_if_there s.text needle find.stop find.first
        at true e = let past_end = ltb-true find.stop find.first e in sym (not_there (omega arith))
        at false e = ap found_in (cond-true _ _ _ h) ∙ first_only (match_at s pattern find) find.first _ (attempts find.first)

  pub is_plain_search : IsPlainSearch pattern needle
  unfolding search_from
  is_plain_search = record {
    one_way = one_way;
    attempt = attempts;
    search = λ s options input from off h. searches _ _ h;
    anchored = λ s options input from off h. anchors _ _ h;
  }

-- the lead byte of a character is no continuation byte
is_lead : (text : List ℕ) (i c : ℕ) → char_at text i ≡ Some c → 128 ≤ slice_index text i → 192 ≤ slice_index text i
is_lead text i c e high =
    ⊎_elim (λ (x : IsOneByteAt text i c). absurd (omega (arith, x.0, x.2)))
    (⊎_elim (λ (x : IsTwoBytesAt text i c). omega (arith, x.3))
    (⊎_elim (λ (x : IsThreeBytesAt text i c). omega (arith, x.3)) (λ (x : IsFourBytesAt text i c). omega (arith, x.2))))
    (char_at_cases text i c e).1

starts_character : (text : List ℕ) (i c : ℕ) → char_at text i ≡ Some c → is_boundary text i ≡ true
starts_character text i c e = test_of_IsCharBoundary text i (omega (arith, char_at_fits text i c e), λ lt high. is_lead text i c e high)

-- a text begins at a character boundary
text_starts_well : (t : Text) → all_scalars t ≡ true → t ≢ [] → (text : List ℕ) (p : ℕ) → starts_with nat_eq (drop p text) (encode_utf8_all t) ≡ true → is_boundary text p ≡ true
text_starts_well [] ok some text p e = absurd (some refl)
text_starts_well (c ∷ t) ok some text p e =
    starts_character text p c
    (char_at_from text p c _ (and_parts _ _ ok).0 (begins_parts (drop p text) (encode_utf8_all (c ∷ t)) e ∙ append_assoc (encode_utf8 c) (encode_utf8_all t) _))

text_is_long : (t : Text) → t ≢ [] → 0 < length (encode_utf8_all t)
text_is_long [] some = absurd (some refl)
text_is_long (c ∷ t) some = omega (arith, length-append (encode_utf8 c) (encode_utf8_all t), length-encode c, len_utf8_bounds c)

pub plain_trees_are_plain_searches : PlainTreesArePlainSearches
plain_trees_are_plain_searches t ok some =
    is_plain_search (pattern_of (plain_tree t)) (encode_utf8_all t) (text_is_long t some) (ap (λ bodies. plain_tree t ∷ bodies) (without_bodies t))
    (λ s groups n w. plain_ways s groups n t ok some w) (text_starts_well t ok some)
