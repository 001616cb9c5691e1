-- Matches are admitted ways, and cut the text between characters.
use Rattle.std.proofs.Common.{◌≡◌, ℕ, zero, suc, ◌+◌, ◌<◌, ◌≤◌, max, Bool, true, false, List, [], ◌∷◌, ◌++◌, length, drop, replicate, Option, Some, None, refl, sym, ap, subst, ◌∙◌, ⊎_elim, arith, nat_lt, ◌==◌}
use Rattle.std.specs.Prelude.{slice_get, option_map, slice_index_or, unwrap_or, encode_utf8_all, encode_utf8}
use Rattle.std.specs.List.{filter}
use Rattle.std.specs.Char.{len_utf8, IsScalar}
use Rattle.std.specs.Str.{IsUtf8, IsCharBoundary, all_scalars}
use Rattle.std.proofs.lemmas.Bool.{and_parts, leb-true, ltb-true, ltb-false, cond_both, cases_lt}
use Rattle.std.proofs.lemmas.Option.{none-some, same_Some}
use Rattle.std.proofs.lemmas.Str.{IsUtf8-drop, IsCharBoundary-past_char}
use Rattle.std.proofs.lemmas.List.{get_or-replicate, get_or_past, length-replicate}
use Rattle.std.proofs.Common.{length-drop}
use Rattle.regex_hir.specs.Text.{char_at}
use Rattle.regex_hir.proofs.TextLemmas.{char_at_parts, char_at_from}
use Rattle.fancy_regex_meaning.specs.Positions.{position_after}
use Rattle.fancy_regex_meaning.specs.Groups.{Pattern}
use Rattle.fancy_regex_meaning.specs.Ways.{MatchState, Setting}
use Rattle.fancy_regex_meaning.specs.Searches.{Search, Match, Input, Options, Member, match_of, is_admitted, ways_at, match_at, first_some, first_longest, farther, chosen, start_way, starts, first_match, search_from, find_input, items, all_items, is_last_end, member_match, set_answer, answer_if_any, found_at, set_starts, SetAnswer}
use Rattle.fancy_regex_meaning.specs.WayLaws.{Each, HasCharBoundaries}
use Rattle.fancy_regex_meaning.specs.SearchLaws.{admitted_at, MatchesAreAdmitted, NoneIsNone, LongestEndsLast, MatchHasCharBoundaries, MatchesHaveCharBoundaries, FitsText, FoundHasCharBoundaries, ItemsHaveCharBoundaries, OneMemberFinds, Rises, IsFoundAt, SetsFindMembers}
use Rattle.fancy_regex_meaning.proofs.EachLemmas.{Each-for_some, Each-weaker, Each-filter, Each-filter_passes, Each-cond, boundaries_pass}
use Rattle.fancy_regex_meaning.proofs.BoundaryLemmas.{IsCharBoundary-of_test}
use Rattle.fancy_regex_meaning.proofs.ForwardProofs.{ways_cut_well}
use Rattle.fancy_regex_meaning.proofs.ListProofs.{advances}
use Rattle.fancy_regex_meaning.proofs.MatchStartProofs.{chosen_holds, found_in_list, first_in_list}

each_admitted : (find : Search) (ws : List MatchState) → Each (λ w. is_admitted find w ≡ true) (filter (is_admitted find) ws)
each_admitted find ws = Each-weaker _ _ (λ w h. h.1) _ (Each-filter_passes (λ w. Unit {0}) (is_admitted find) ws (all_of_them ws))
  where
    all_of_them : (vs : List MatchState) → Each (λ w. Unit {0}) vs
    all_of_them [] = tt
    all_of_them (v ∷ vs) = (tt, all_of_them vs)

pub matches_are_admitted : MatchesAreAdmitted
unfolding match_at
matches_are_admitted s pattern find p m e =
    let found = found_in_list match_of _ m e in
    let admitted = chosen_holds (λ w. is_admitted find w ≡ true) find.options.longest _ (each_admitted find (ways_at s pattern find p)) found.0 found.1 in (
      found.0,
      sym found.2,
      admitted,
      subst (λ (x : Match). x.end ≤ find.stop) found.2 (leb-true _ _ (and_parts _ _ admitted).0),
    )

nothing_chosen : (longest : Bool) (ws : List MatchState) → option_map match_of (chosen longest ws) ≡ None → ws ≡ []
nothing_chosen longest [] e = refl
nothing_chosen false (w ∷ ws) e = absurd (none-some _ (sym e))
nothing_chosen true (w ∷ ws) e = absurd (none-some _ (sym e))

pub none_is_none : NoneIsNone
unfolding match_at
none_is_none s pattern find p e = nothing_chosen find.options.longest _ e

ends_last : (ws : List MatchState) (v : MatchState) → first_longest ws ≡ Some v → Each (λ w. w.position ≤ v.position) ws
ends_last [] v e = absurd (none-some v e)
ends_last (w ∷ []) v e = subst (λ (x : MatchState). Each (λ y. y.position ≤ x.position) (w ∷ [])) (same_Some w v e) (omega arith, tt)
ends_last (w ∷ u ∷ us) v e =
    let best : MatchState = farther u (first_longest us) in
    let rest : Each (λ y. y.position ≤ best.position) (u ∷ us) = ends_last (u ∷ us) best refl in
    subst (λ (x : MatchState). Each (λ y. y.position ≤ x.position) (w ∷ u ∷ us)) (same_Some _ v e)
    (cond_both (nat_lt w.position best.position) best w (λ (x : MatchState). Each (λ y. y.position ≤ x.position) (w ∷ u ∷ us))
    (λ lt. (omega (arith, ltb-true _ _ lt), rest))
    (λ ge. let no_farther = ltb-false _ _ ge in
    (omega arith, Each-weaker _ _ (λ y h. omega (arith, h, no_farther)) (u ∷ us) rest)))

pub longest_ends_last : LongestEndsLast
unfolding match_at
longest_ends_last s pattern find p m e longest =
    let ws : List MatchState = admitted_at s pattern find p in
    let found = found_in_list match_of _ m e in
    let farthest : first_longest ws ≡ Some found.0 = subst (λ b. chosen b ws ≡ Some found.0) longest found.1 in
    subst (λ (x : Match). Each (λ w. w.position ≤ x.end) ws) found.2 (ends_last ws found.0 farthest)

-- no group is set where a search enters a pattern
no_pairs : (n k : ℕ) → ◌≡◌ {A = Option (ℕ × ℕ)} (slice_index_or (replicate n None) k None) None
no_pairs n k =
    ⊎_elim (λ (lt : k < n). get_or-replicate n k None None lt)
    (λ (ge : n ≤ k). get_or_past (replicate n None) k None (omega (arith, length-replicate n (no_pair))))
    (cases_lt k n)
  where
    no_pair : Option (ℕ × ℕ)
    no_pair = None

starts_well : (text : List ℕ) (pattern : Pattern) (p : ℕ) → IsCharBoundary text p → HasCharBoundaries text (start_way pattern p)
starts_well text pattern p h = (h, λ k a b e. absurd (none-some _ (sym (no_pairs (length pattern.groups) k) ∙ e)), h)

pub matches_cut_well : MatchesHaveCharBoundaries
unfolding match_at
matches_cut_well s pattern find p m utf8 h e =
    let found = found_in_list match_of _ m e in
    let lead = ways_cut_well s pattern.groups utf8 pattern.first_group pattern.tree (start_way pattern p) (starts_well s.text pattern p h) in
    let all = Each-filter _ (is_admitted find) _ (Each-weaker _ (HasCharBoundaries s.text) (λ w o. o.1) _ lead) in
    let well = chosen_holds (HasCharBoundaries s.text) find.options.longest _ all found.0 found.1 in
    subst (MatchHasCharBoundaries s.text) found.2 (well.2, well.0, well.1)

starts_cut : (s : Setting) (pattern : Pattern) (find : Search) → IsCharBoundary s.text find.first → find.stop ≤ length s.text →
    Each (IsCharBoundary s.text) (starts s pattern find)
starts_cut s pattern find h inside =
    Each-cond _ (nat_lt find.stop find.first) [] _ tt
    (Each-cond _ find.anchored (find.first ∷ []) _ (h, tt)
    (Each-weaker _ _ (λ b o. IsCharBoundary-of_test s.text b (omega (arith, o.0.1)) o.1) _ (boundaries_pass s.text find.first find.stop)))

-- what is found by a search of a text
abbrev FoundWell : List ℕ → ℕ → Match → Type 0
FoundWell text stop m = MatchHasCharBoundaries text m × (m.end ≤ stop)

first_cuts : (s : Setting) (pattern : Pattern) (find : Search) (m : Match) → IsUtf8 s.text → IsCharBoundary s.text find.first →
    find.stop ≤ length s.text → first_match s pattern find ≡ Some m → FoundWell s.text find.stop m
unfolding first_match
first_cuts s pattern find m utf8 h inside e =
    let found = first_in_list _ _ _ (starts_cut s pattern find h inside) m e in
    (matches_cut_well s pattern find found.0 m utf8 found.1 found.2, (matches_are_admitted s pattern find found.0 m found.2).3)

later_of : (P : ℕ → Type 0) (a b : ℕ) → P a → P b → P (max a b)
later_of P a b p q =
    ⊎_elim (λ (lt : a < b). let e : b ≡ max a b = omega arith in subst P e q)
    (λ (ge : b ≤ a). let e : a ≡ max a b = omega arith in subst P e p)
    (cases_lt a b)

search_cuts : (s : Setting) (pattern : Pattern) (options : Options) (input : Input) → IsUtf8 s.text → FitsText s.text input →
    (q : ℕ) (off : Bool) (m : Match) → IsCharBoundary s.text q → search_from s pattern options input q off ≡ Some m →
    FoundWell s.text input.range_end m
unfolding search_from
search_cuts s pattern options input utf8 fits q off m h e = first_cuts _ pattern _ m utf8 h fits.2 e

pub found_cuts_well : FoundHasCharBoundaries
unfolding find_input
found_cuts_well s pattern options input utf8 fits m e =
    search_cuts s pattern options input utf8 fits (max input.start input.range_start) false m
    (later_of (IsCharBoundary s.text) input.start input.range_start fits.0 fits.1) e

-- a character begins at each boundary before the end
a_character : (bs : List ℕ) → IsUtf8 bs → 0 < length bs → (c : ℕ) × (rest : List ℕ) × IsScalar c × (bs ≡ encode_utf8 c ++ rest)
a_character bs h more = from_characters h.0 h.1.0 h.1.1
  where
    from_characters : (cs : List ℕ) → all_scalars cs ≡ true → encode_utf8_all cs ≡ bs →
        (c : ℕ) × (rest : List ℕ) × IsScalar c × (bs ≡ encode_utf8 c ++ rest)
    from_characters [] s e = absurd (omega (arith, more, ap length e))
    from_characters (c ∷ cs) s e = (c, encode_utf8_all cs, (and_parts _ _ s).0, sym e)

character_there : (text : List ℕ) (p : ℕ) → IsUtf8 text → IsCharBoundary text p → p < length text → (c : ℕ) × (char_at text p ≡ Some c)
character_there text p utf8 h lt =
    let first = a_character (drop p text) (IsUtf8-drop text p utf8 h) (omega (arith, lt, length-drop p text)) in
    (first.0, char_at_from text p first.0 first.1 first.2 first.3)

cuts_after : (text : List ℕ) (p : ℕ) → IsUtf8 text → IsCharBoundary text p → p < length text → IsCharBoundary text (position_after text p)
cuts_after text p utf8 h lt =
    let there = character_there text p utf8 h lt in
    subst (λ o. IsCharBoundary text (p + unwrap_or (option_map len_utf8 o) 1)) (sym there.1)
    (IsCharBoundary-past_char text _ p there.0 h.0 (IsUtf8-drop text p utf8 h) (char_at_parts text p there.0 there.1).1)

module _ (text : List ℕ) (search : ℕ → Bool → Option Match) (range_start range_end : ℕ) (utf8 : IsUtf8 text) (inside : range_end ≤ length text)
    (begins : IsCharBoundary text range_start)
    (finds : (q : ℕ) (off : Bool) (m : Match) → IsCharBoundary text q → search q off ≡ Some m → FoundWell text range_end m) where
  items_cut : (n p : ℕ) (last : Option ℕ) (off : Bool) → (p ≤ range_end → IsCharBoundary text p) →
      Each (FoundWell text range_end) (items text search range_start range_end n p last off)
  unfolding items
  items_cut zero p last off h = tt
  items_cut (suc n) p last off h =
      let q : ℕ = max p range_start in
      cond_both (nat_lt range_end q) [] _ (Each (FoundWell text range_end)) (λ e. tt) (λ e.
      let le : q ≤ range_end = ltb-false _ _ e in
      Each-for_some _ _ (search q off) (λ m is.
      let well = finds q off m (later_of (IsCharBoundary text) p range_start (h (omega arith)) begins) is in
      let step = advances text m.end in
      let next =
      items_cut n (position_after text m.end) (Some m.end) (m.end == q) (λ more. cuts_after text m.end utf8 well.0.1 (omega arith)) in
      Each-cond _ (nat_lt m.start m.end) _ _ (well, items_cut n m.end (Some m.end) false (λ more. well.0.1))
      (Each-cond _ (is_last_end text search range_start range_end last m.end) _ _ next (well, next))))

pub items_cut_well : ItemsHaveCharBoundaries
unfolding all_items
items_cut_well s pattern options input utf8 fits =
    items_cut s.text (search_from s pattern options input) input.range_start input.range_end utf8 fits.2 fits.1
    (search_cuts s pattern options input utf8 fits) _ input.start None false (λ more. fits.0)

module _ (m : Member) (input : Input) where
  abbrev own : ℕ → Option Match
  own p = member_match (m ∷ []) input p m

  by_value : (p : ℕ) (later : Option SetAnswer) (rest : Option Match) →
      option_map (λ answer. answer.found) later ≡ option_map (λ x. (0, x) ∷ []) rest →
      (o : Option Match) →
      option_map (λ answer. answer.found) (elim (answer_if_any (m ∷ []) input p (elim o [ None ↦ [] | Some x ↦ (0, x) ∷ [] ])) [ None ↦ later | Some y ↦ Some y ])
      ≡ option_map (λ x. (0, x) ∷ []) (elim o [ None ↦ rest | Some y ↦ Some y ])
  by_value p later rest h None = h
  by_value p later rest h (Some x) = refl

  by_places : (ps : List ℕ) →
      option_map (λ answer. answer.found) (first_some (λ p. answer_if_any (m ∷ []) input p (found_at (m ∷ []) input p 0 (m ∷ []))) ps)
      ≡ option_map (λ x. (0, x) ∷ []) (first_some own ps)
  by_places [] = refl
  by_places (p ∷ ps) = by_value p _ _ (by_places ps) (own p)

pub one_member_finds : OneMemberFinds
unfolding set_answer find_input search_from first_match match_at member_match
one_member_finds m input = by_places m input (set_starts (m ∷ []) input m.setting.text)

module _ (members : List Member) (input : Input) (p : ℕ) where
  -- found from a list whose members are numbered from i on
  abbrev Own : List Member → ℕ → ℕ × Match → Type 0
  Own ms i x = (j : ℕ) × (x.0 ≡ i + j) × (m : Member) × (slice_get ms j ≡ Some m) × (member_match members input p m ≡ Some x.1)

  own_later : (m : Member) (ms : List Member) (i : ℕ) (xs : List (ℕ × Match)) → Each (Own ms (i + 1)) xs → Each (Own (m ∷ ms) i) xs
  own_later m ms i xs h = Each-weaker _ _ (λ x o. (suc o.0, omega (arith, o.1), o.2, o.3, o.4)) xs h

  own_first : (m : Member) (ms : List Member) (i : ℕ) (o : Option Match) (rest : List (ℕ × Match)) → member_match members input p m ≡ o →
      Each (Own (m ∷ ms) i) rest → Each (Own (m ∷ ms) i) (elim o [ None ↦ rest | Some found ↦ (i, found) ∷ rest ])
  own_first m ms i None rest e h = h
  own_first m ms i (Some found) rest e h = ((0, omega arith, m, refl, e), h)

  are_own : (ms : List Member) (i : ℕ) → Each (Own ms i) (found_at members input p i ms)
  are_own [] i = tt
  are_own (m ∷ ms) i = own_first m ms i (member_match members input p m) _ refl (own_later m ms i _ (are_own ms (i + 1)))

  abbrev Listed : List (ℕ × Match) → ℕ × Match → Type 0
  Listed xs x = (l : ℕ) × (slice_get xs l ≡ Some x)

  listed_first : (i : ℕ) (o : Option Match) (rest : List (ℕ × Match)) (found : Match) → o ≡ Some found →
      Listed (elim o [ None ↦ rest | Some r ↦ (i, r) ∷ rest ]) (i, found)
  listed_first i None rest found e = absurd (none-some found e)
  listed_first i (Some r) rest found e = (0, ap (λ y. Some (i, y)) (same_Some r found e))

  listed_later : (i : ℕ) (o : Option Match) (rest : List (ℕ × Match)) (x : ℕ × Match) → Listed rest x →
      Listed (elim o [ None ↦ rest | Some r ↦ (i, r) ∷ rest ]) x
  listed_later i None rest x h = h
  listed_later i (Some r) rest x h = (suc h.0, h.1)

  are_listed : (ms : List Member) (i j : ℕ) (m : Member) (found : Match) → slice_get ms j ≡ Some m → member_match members input p m ≡ Some found →
      (k : ℕ) → k ≡ i + j → Listed (found_at members input p i ms) (k, found)
  are_listed [] i j m found e is k at = absurd (none-some m e)
  are_listed (n ∷ ms) i zero m found e is k at =
      let same : i ≡ k = omega (arith, at) in
      subst (λ x. Listed (found_at members input p i (n ∷ ms)) (x, found)) same
      (listed_first i (member_match members input p n) _ found (ap (member_match members input p) (same_Some n m e) ∙ is))
  are_listed (n ∷ ms) i (suc j) m found e is k at =
      listed_later i (member_match members input p n) _ (k, found) (are_listed ms (i + 1) j m found e is k (omega (arith, at)))

  rises_from : (i j : ℕ) (xs : List (ℕ × Match)) → i ≤ j → Rises j xs → Rises i xs
  rises_from i j [] le h = tt
  rises_from i j (x ∷ xs) le h = (omega (arith, h.0), h.1)

  rises_first : (i : ℕ) (o : Option Match) (rest : List (ℕ × Match)) → Rises (i + 1) rest →
      Rises i (elim o [ None ↦ rest | Some r ↦ (i, r) ∷ rest ])
  rises_first i None rest h = rises_from i (i + 1) rest (omega arith) h
  rises_first i (Some r) rest h = (omega arith, h)

  rise : (ms : List Member) (i : ℕ) → Rises i (found_at members input p i ms)
  rise [] i = tt
  rise (m ∷ ms) i = rises_first i (member_match members input p m) _ (rise ms (i + 1))

module _ (members : List Member) (input : Input) where
  answers : (p : ℕ) (xs : List (ℕ × Match)) (answer : SetAnswer) → answer_if_any members input p xs ≡ Some answer →
      (answer.position ≡ p) × (answer.found ≡ xs) × (1 ≤ length xs)
  answers p [] answer e = absurd (none-some answer e)
  answers p (x ∷ xs) answer e =
      let same = same_Some _ answer e in
      (ap (λ r. r.position) (sym same), ap (λ r. r.found) (sym same), omega arith)

  always : (ps : List ℕ) → Each (λ p. Unit {0}) ps
  always [] = tt
  always (p ∷ ps) = (tt, always ps)

pub sets_find_members : SetsFindMembers
unfolding set_answer
sets_find_members members input text answer e =
    let first = first_in_list (λ p. Unit {0}) (λ p. answer_if_any members input p (found_at members input p 0 members)) _
    (always members input (set_starts members input text)) answer e in
    let is = answers members input first.0 _ answer first.2 in
    let P : ℕ → List (ℕ × Match) → Type 0 = λ p xs.
    Each (IsFoundAt members input p) xs
    × ((k : ℕ) (found : Match) → IsFoundAt members input p (k, found) → (i : ℕ) × (slice_get xs i ≡ Some (k, found)))
    × Rises 0 xs × (1 ≤ length xs) in
    subst (λ p. P p answer.found) (sym is.0) (subst (P first.0) (sym is.1) (
      Each-weaker _ _ (λ x o. (o.2, subst (λ k. slice_get members k ≡ Some o.2) (nothing_added x.0 o.0 o.1) o.3, o.4)) _
          (are_own members input first.0 members 0),
      λ k found h. are_listed members input first.0 members 0 k h.0 found h.1 h.2 k (omega arith),
      rise members input first.0 members 0,
      is.2,
    ))
  where
    nothing_added : (k j : ℕ) → k ≡ 0 + j → j ≡ k
    nothing_added k j h = omega (arith, h)
