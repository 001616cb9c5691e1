-- What the members of a set find at a position, member by member.
use Rattle.std.proofs.Common.{◌≡◌, ℕ, zero, suc, ◌+◌, ◌-◌, ◌<◌, ◌≤◌, Bool, true, false, IsUtf8, IsCharBoundary, List, [], ◌∷◌, length, get_or, drop, Option, Some, None, inl, inr, refl, sym, ap, subst, ◌∙◌, ⊎_elim, arith}
use Rattle.std.specs.Prelude.{slice_get, not, ◌&&◌, if◌then◌else◌}
use Rattle.std.proofs.lemmas.List.{drop_more, drop_all}
use Rattle.std.proofs.lemmas.Option.{get_or_from_slice_get, slice_get_within, slice_get_cases, same_Some}
use Rattle.fancy_regex_meaning.specs.Searches.{Match, member_match, found_at}
use Rattle.fancy_regex_input.specs.SearchInputs.{input_of, effective_start}
use Rattle.fancy_regex_input.specs.declared.config.SearchConfig.{SearchConfig}
use Rattle.fancy_regex_search.specs.MetaMatches.{meta_pattern}
use Rattle.fancy_regex_search.specs.MemberSearches.{meta_match_at, IsMemberError, MemberStaysInLimits}
use Rattle.fancy_regex_search.specs.Error.{Error}
use Rattle.fancy_regex_search.specs.AnchoredSearches.{continues_at}
use Rattle.fancy_regex_search.specs.CaptureSpans.{AreGroupsOf, span_in}
use Rattle.fancy_regex_search.specs.declared.regex.Regex.{Regex}
use Rattle.std.proofs.lemmas.Bool.{cases_lt}
use Rattle.fancy_regex.specs.SetAnswers.{member_of, members_of, match_of_member, found_from, set_continue_at, IsErrorOfMember, IsInLimits, AreInLimits, IsMatchOfMember}
use Rattle.fancy_regex.specs.SetStarts.{FindsNoneAt, FindNoneBetween}

pub drop_here : {A : Type 0} (xs : List A) (k : ℕ) (x : A) → slice_get xs k ≡ Some x → drop k xs ≡ x ∷ drop (k + 1) xs
drop_here xs k x e = drop_more xs k x (slice_get_within xs k x e) ∙ ap (λ y. y ∷ drop (k + 1) xs) (get_or_from_slice_get xs k x x e)

continues_alike : (b : Bool) (first : ℕ) → ◌≡◌ {A = Option ℕ} (if b && true then Some first else None) (if not b then None else Some first)
continues_alike true first = refl
continues_alike false first = refl

-- the search for a member's match at a position continues where the search of the set does
continues : (config : SearchConfig) → continues_at config ≡ set_continue_at config
continues config = continues_alike config.continues (effective_start config)

module _ (regexes : List Regex) (text : List ℕ) (config : SearchConfig) (p : ℕ) where
  abbrev found : ℕ → List (ℕ × Match)
  found = found_from regexes text config p

  abbrev own : Regex → Option Match
  own = match_of_member text config p

  same_match : (regex : Regex) → member_match (members_of text config regexes) (input_of config) p (member_of text config regex) ≡ own regex
  unfolding member_match
  same_match regex = refl

  -- a member adds its match to what those after it find
  pub found_step : (k : ℕ) (regex : Regex) → slice_get regexes k ≡ Some regex →
      found k ≡ elim (own regex) [ None ↦ found (k + 1) | Some m ↦ (k, m) ∷ found (k + 1) ]
  found_step k regex e =
      ap (λ rs. found_at (members_of text config regexes) (input_of config) p k (members_of text config rs)) (drop_here regexes k regex e)
      ∙ ap (λ o. elim o [ None ↦ found (k + 1) | Some m ↦ (k, m) ∷ found (k + 1) ]) (same_match regex)

  pub found_none : (k : ℕ) (regex : Regex) → slice_get regexes k ≡ Some regex → own regex ≡ None → found k ≡ found (k + 1)
  found_none k regex e none = found_step k regex e ∙ ap (λ o. elim o [ None ↦ found (k + 1) | Some m ↦ (k, m) ∷ found (k + 1) ]) none

  pub found_some : (k : ℕ) (regex : Regex) (m : Match) → slice_get regexes k ≡ Some regex → own regex ≡ Some m → found k ≡ (k, m) ∷ found (k + 1)
  found_some k regex m e is = found_step k regex e ∙ ap (λ o. elim o [ None ↦ found (k + 1) | Some n ↦ (k, n) ∷ found (k + 1) ]) is

  -- after the last member nothing is found
  pub found_past : (k : ℕ) → length regexes ≤ k → found k ≡ []
  found_past k past =
      ap (λ rs. found_at (members_of text config regexes) (input_of config) p k (members_of text config rs)) (drop_all k regexes past)

  pub some_member : (k : ℕ) → k < length regexes → (regex : Regex) × (slice_get regexes k ≡ Some regex)
  some_member k lt =
      ⊎_elim (λ (h : (regex : Regex) × (k < length regexes) × (slice_get regexes k ≡ Some regex) × (get_or regexes k regex ≡ regex)). (h.0, h.2))
      (λ (h : (length regexes ≤ k) × (slice_get regexes k ≡ None)). absurd (omega (arith, lt, h.0)))
      (slice_get_cases regexes k).1

  none_of : (o : Option Match) → ((m : Match) → o ≡ Some m → ⊥) → o ≡ None
  none_of None k = refl
  none_of (Some m) k = absurd (k m refl)

  -- members that cannot match for the byte at the position add nothing
  module _ (utf8 : IsUtf8 text) (cut : IsCharBoundary text p) (byte : Option ℕ) (here : slice_get text p ≡ byte) where
    found_over : (n i k : ℕ) → i + n ≡ k → k ≤ length regexes → FindNoneBetween regexes byte i k → found i ≡ found k
    found_over zero i k is le none = let same : i ≡ k = omega (arith, is) in ap found same
    found_over (suc n) i k is le none =
        let r = some_member i (omega (arith, is, le)) in
        let nothing : own r.0 ≡ None =
        none_of (own r.0) (λ m e. none i (omega arith) (omega (arith, is)) r.0 r.1 text config (set_continue_at config) p m utf8 cut here e) in
        found_none i r.0 r.1 nothing
        ∙ found_over n (i + 1) k (omega (arith, is)) le (λ j low high. none j (omega (arith, low)) high)

    pub found_passed : (i k : ℕ) → i ≤ k → k ≤ length regexes → FindNoneBetween regexes byte i k → found i ≡ found k
    found_passed i k low le none = found_over (k - i) i k (omega (arith, low)) le none

    pub found_rest : (i : ℕ) → FindNoneBetween regexes byte i (length regexes) → found i ≡ []
    found_rest i none =
        ⊎_elim (λ (lt : i < length regexes). found_passed i (length regexes) (omega (arith, lt)) (omega arith) none ∙ found_past (length regexes) (omega arith))
        (λ (past : length regexes ≤ i). found_past i past)
        (cases_lt i (length regexes))

  -- the search of the member with a number is that of the regex that stands there
  pub asked : (k : ℕ) (taken regex : Regex) (o : Option Match) → slice_get regexes k ≡ Some taken → slice_get regexes k ≡ Some regex →
      meta_match_at taken.meta text config (continues_at config) p ≡ o → own regex ≡ o
  asked k taken regex o here there is =
      ap own (same_Some regex taken (sym there ∙ here))
      ∙ sym (ap (λ (a : Option ℕ). meta_match_at taken.meta text config a p) (continues config))
      ∙ is

  -- and so is its error
  pub asked_fails : (k : ℕ) (taken : Regex) (e : Error) → slice_get regexes k ≡ Some taken →
      IsMemberError taken.meta text config (continues_at config) p e → IsErrorOfMember regexes text config p k e
  asked_fails k taken e here h =
      (taken, here, subst (λ (a : Option ℕ). IsMemberError taken.meta text config a p e) (continues config) h)

  abbrev limits_at : ℕ → Type 0
  limits_at = IsInLimits regexes text config p

  abbrev limits_from : ℕ → ℕ → Type 0
  limits_from = AreInLimits regexes text config p

  -- the member that was asked stays within its limits
  pub asked_stays : (k : ℕ) (taken : Regex) → slice_get regexes k ≡ Some taken →
      MemberStaysInLimits taken.meta text config (continues_at config) p → limits_at k
  asked_stays k taken here h = λ regex there.
      inr (subst (λ (a : Option ℕ). MemberStaysInLimits regex.meta text config a p) (continues config)
      (subst (λ (r : Regex). MemberStaysInLimits r.meta text config (continues_at config) p) (same_Some taken regex (sym here ∙ there)) h))

  pub limits_over : (before i k : ℕ) (byte : Option ℕ) → slice_get text p ≡ byte → limits_from before i → FindNoneBetween regexes byte i k → limits_from before k
  limits_over before i k byte here h none = λ j low high.
      ⊎_elim (λ (lt : j < i). h j low lt)
      (λ (ge : i ≤ j). λ regex there. inl (subst (λ (b : Option ℕ). FindsNoneAt regex b) (sym here) (none j ge high regex there)))
      (cases_lt j i)

  pub limits_one : (before k : ℕ) → limits_from before k → limits_at k → limits_from before (k + 1)
  limits_one before k h last = λ j low high.
      ⊎_elim (λ (lt : j < k). h j low lt)
      (λ (ge : k ≤ j). let same : k ≡ j = omega (arith, ge, high) in subst limits_at same last)
      (cases_lt j k)

  pub is_match : (k : ℕ) (taken shown : Regex) (m : Match) (slots : List ℕ) (span : ℕ × ℕ) → slice_get regexes k ≡ Some taken → shown ≡ taken →
      AreGroupsOf (meta_pattern taken.meta) slots m → span ≡ span_in m → IsMatchOfMember regexes (k, m) k shown slots span
  is_match k taken shown m slots span here same groups spans = record {
    number_is = refl;
    member = here ∙ ap Some (sym same);
    groups = subst (λ (r : Regex). AreGroupsOf (meta_pattern r.meta) slots m) (sym same) groups;
    span_is = spans;
  }
