-- The items of a search for a plain text, and what replacing them gives.
use Rattle.std.proofs.Common.{◌≡◌, ℕ, zero, suc, ◌+◌, ◌-◌, ◌<◌, ◌≤◌, Bool, false, cond, List, [], ◌∷◌, ◌++◌, length, take, drop, max, Option, Some, None, option_map, nat_lt, ◌==◌, if◌then◌else◌, slice_range, refl, sym, ap, ◌∙◌, arith, append_assoc, length-drop, drop-drop, lt-ltb, le-ltb}
use Rattle.std.proofs.lemmas.Bool.{cond-true, cond-false}
use Rattle.std.proofs.lemmas.List.{take_rest}
use Rattle.fancy_regex_meaning.specs.Positions.{position_after}
use Rattle.fancy_regex_meaning.specs.Ways.{for_some}
use Rattle.fancy_regex_meaning.specs.Searches.{Match, items, all_items, input_of, is_last_end, replaced_from, search_from}
use Rattle.fancy_regex_escape_laws.specs.Occurrences.{first_occurrence, plain_replaced}
use Rattle.fancy_regex_escape_laws.specs.PlainSearch.{first_plain_match, plain_match}
use Rattle.fancy_regex_escape_laws.specs.PlainReplacement.{MatchesAreReplacedPlainly}
use Rattle.fancy_regex_escape_laws.proofs.OccurrenceLemmas.{FirstIsReplaced, first_is_replaced, is_not_empty, nothing_replaced}

module _ (text needle replacement : List ℕ) (some : 0 < length needle) (search : ℕ → Bool → Option Match)
    (finds : (q : ℕ) (off : Bool) → search q off ≡ first_plain_match text needle (length text) q) where
  -- the items from p on, and the replaced text from there
  abbrev items_from : ℕ → ℕ → Option ℕ → Bool → List Match
  items_from n p last off = items text search 0 (length text) n p last off

  abbrev out : ℕ → List Match → List ℕ
  out p ms = replaced_from text (λ _. replacement) p ms

  -- what follows the search from q
  abbrev after_search : ℕ → ℕ → Option ℕ → Option Match → List Match
  after_search n q last o =
      for_some (λ m.
      let onward = m ∷ items_from n m.end (Some m.end) false in
      let next = items_from n (position_after text m.end) (Some m.end) (m.end == q) in
      if nat_lt m.start m.end then onward else if is_last_end text search 0 (length text) last m.end then next else m ∷ next) o

  -- one more item
  one_more : (n p k : ℕ) (last : Option ℕ) → after_search n p last (Some (plain_match needle (p + k)))
      ≡ plain_match needle (p + k) ∷ items_from n (p + k + length needle) (Some (p + k + length needle)) false
  one_more n p k last = cond-true _ _ _ (lt-ltb (p + k) (p + k + length needle) (omega arith))

  rest_is : (p : ℕ) → slice_range text p (length text) ≡ drop p text
  rest_is p = take_rest text p

  -- the text from p on, where the needle first occurs k bytes after p
  step : (p k : ℕ) (ms : List Match) → p ≤ length text → FirstIsReplaced needle replacement (drop p text) k →
      out (p + k + length needle) ms ≡ plain_replaced needle replacement (drop (p + k + length needle) text) →
      out p (plain_match needle (p + k) ∷ ms) ≡ plain_replaced needle replacement (drop p text)
  step p k ms le first after =
      append_assoc (slice_range text p (p + k)) replacement (out (p + k + length needle) ms)
      ∙ ap (λ (m : ℕ). take m (drop p text) ++ (replacement ++ out (p + k + length needle) ms)) (let m : p + k - p ≡ k = omega arith in m)
      ∙ ap (λ rest. take k (drop p text) ++ (replacement ++ rest))
      (after
      ∙ ap (λ (m : ℕ). plain_replaced needle replacement (drop m text)) (let m : p + k + length needle ≡ p + (k + length needle) = omega arith in m)
      ∙ ap (plain_replaced needle replacement) (sym (drop-drop (k + length needle) p text)))
      ∙ sym first.is

  -- as many items as there may be
  pub replaced_is : (n p : ℕ) (last : Option ℕ) (off : Bool) → p ≤ length text → length text + 1 - p ≤ n →
      out p (items_from n p last off) ≡ plain_replaced needle replacement (drop p text)
  unfolding items
  replaced_is zero p last off le fuel = absurd (omega arith)
  replaced_is (suc n) p last off le fuel =
      let here : max p 0 ≡ p = omega arith in
      ap (λ (q : ℕ). out p (cond (nat_lt (length text) q) [] (after_search n q last (search q off)))) here
      ∙ ap (out p) (cond-false _ [] (after_search n p last (search p off)) (le-ltb (length text) p le))
      ∙ ap (λ o. out p (after_search n p last o)) (finds p off)
      ∙ ap (λ rest. out p (after_search n p last (option_map (λ k. plain_match needle (p + k)) (first_occurrence needle rest)))) (rest_is p)
      ∙ at (first_occurrence needle (drop p text)) refl (λ q e l below fits. replaced_is n q e l below fits)
    where
      at : (o : Option ℕ) → first_occurrence needle (drop p text) ≡ o →
          ((q : ℕ) (e : Option ℕ) (l : Bool) → q ≤ length text → length text + 1 - q ≤ n → out q (items_from n q e l) ≡ plain_replaced needle replacement (drop q text)) →
          out p (after_search n p last (option_map (λ k. plain_match needle (p + k)) o)) ≡ plain_replaced needle replacement (drop p text)
      at None e others = sym (nothing_replaced needle replacement (drop p text) e)
      at (Some k) e others =
          let first = first_is_replaced needle replacement (drop p text) k some e in
          let inside : p + k + length needle ≤ length text = omega (arith, first.fits, length-drop p text) in
          ap (out p) (one_more n p k last)
          ∙ step p k (items_from n (p + k + length needle) (Some (p + k + length needle)) false) le first
          (others (p + k + length needle) (Some (p + k + length needle)) false inside (omega arith))

pub matches_are_replaced_plainly : MatchesAreReplacedPlainly
unfolding all_items
matches_are_replaced_plainly pattern needle replacement some plain s options =
    replaced_is s.text needle replacement (is_not_empty needle some) (search_from s pattern options (input_of s.text))
    (λ q off. plain.search s options (input_of s.text) q off refl) (length s.text + 2) 0 None false (omega arith) (omega arith)
