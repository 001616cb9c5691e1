-- The number that bounds items never ends them.
use Rattle.std.proofs.Common.{◌≡◌, ℕ, zero, suc, ◌+◌, ◌-◌, ◌<◌, ◌≤◌, max, Bool, true, false, cond, List, [], ◌∷◌, length, Option, Some, None, refl, sym, ap, ◌∙◌, arith, ◌==◌, nat_lt}
use Rattle.std.specs.Prelude.{if◌then◌else◌}
use Rattle.fancy_regex_meaning.specs.Groups.{Pattern}
use Rattle.fancy_regex_meaning.specs.Ways.{Setting, for_some}
use Rattle.std.proofs.lemmas.Bool.{ltb-true, ltb-false, lt-ltb, cond_both}
use Rattle.fancy_regex_meaning.specs.Positions.{position_after, boundaries}
use Rattle.fancy_regex_meaning.specs.Searches.{Match, Search, match_at, Options, Input, first_item, first_some, first_match, find_input, items, all_items, search_from, is_last_end}
use Rattle.fancy_regex_meaning.specs.ItemLaws.{LooksOnward, ItemsAreUnbounded, ItemsNeedNoMore, FirstItemIsFound}
use Rattle.fancy_regex_meaning.proofs.BoundProofs.{else_same, for_some_same}
use Rattle.fancy_regex_meaning.proofs.ListProofs.{advances}
use Rattle.fancy_regex_meaning.proofs.MatchStartProofs.{search_onward}

cond_same : {A : Type 0} (b : Bool) (x y u v : A) → (b ≡ true → x ≡ u) → (b ≡ false → y ≡ v) → cond b x y ≡ cond b u v
cond_same true x y u v h k = h refl
cond_same false x y u v h k = k refl

module _ (text : List ℕ) (search : ℕ → Bool → Option Match) (range_start range_end : ℕ) (looks : LooksOnward search) where
  items_enough : (n m p : ℕ) (last : Option ℕ) (off : Bool) → range_end + 1 - p < n → range_end + 1 - p < m →
      items text search range_start range_end n p last off ≡ items text search range_start range_end m p last off
  unfolding items
  items_enough zero m p last off en em = absurd (omega arith)
  items_enough (suc n) zero p last off en em = absurd (omega arith)
  items_enough (suc n) (suc m) p last off en em =
      let q : ℕ = max p range_start in
      else_same (nat_lt range_end q) _ _ [] (λ e.
      let le : q ≤ range_end = ltb-false _ _ e in
      for_some_same _ _ (search q off) (λ r is.
      let on = looks q off r is in
      let step = advances text r.end in
      cond_same (nat_lt r.start r.end) _ _ _ _
      (λ lt. let more : r.start < r.end = ltb-true _ _ lt in
      ap (λ xs. r ∷ xs) (items_enough n m r.end (Some r.end) false (omega (arith, on.0)) (omega (arith, on.0))))
      (λ ge.
      let next = items_enough n m (position_after text r.end) (Some r.end) (r.end == q) (omega (arith, on.0, on.1)) (omega (arith, on.0, on.1)) in
      cond_same (is_last_end text search range_start range_end last r.end) _ _ _ _ (λ e. next) (λ e. ap (λ xs. r ∷ xs) next))))

pub items_need_no_more : ItemsNeedNoMore
items_need_no_more s pattern options input n m p last off en em =
    items_enough s.text (search_from s pattern options input) input.range_start input.range_end
    (search_onward s pattern options input) n m p last off en em

pub items_are_unbounded : ItemsAreUnbounded
unfolding all_items
items_are_unbounded s pattern options input h n le =
    items_enough s.text (search_from s pattern options input) input.range_start input.range_end
    (search_onward s pattern options input) n (length s.text + 2) input.start None false (omega arith) (omega arith)

-- what is found by a search that tries no place past the range's end
first_of : (text : List ℕ) (search : ℕ → Bool → Option Match) (range_start range_end n p : ℕ) →
    (range_end < max p range_start → search (max p range_start) false ≡ None) →
    first_item (items text search range_start range_end (suc n) p None false) ≡ search (max p range_start) false
unfolding items
first_of text search range_start range_end n p nothing =
    let q : ℕ = max p range_start in
    cond_both (nat_lt range_end q) [] _ (λ ms. first_item ms ≡ search q false) (λ e. sym (nothing (ltb-true _ _ e)))
    (λ e. by_found (search q false))
  where
    by_found : (o : Option Match) →
        first_item (for_some (λ m.
        let onward = m ∷ items text search range_start range_end n m.end (Some m.end) false in
        let next = items text search range_start range_end n (position_after text m.end) (Some m.end) (m.end == max p range_start) in
        if nat_lt m.start m.end then onward else if is_last_end text search range_start range_end None m.end then next else m ∷ next) o)
        ≡ o
    by_found None = refl
    by_found (Some m) =
        cond_both (nat_lt m.start m.end) _ _ (λ (ms : List Match). first_item ms ≡ Some m) (λ e. refl) (λ e. refl)

first_past : (s : Setting) (pattern : Pattern) (find : Search) → find.stop < find.first → first_match s pattern find ≡ None
unfolding first_match
first_past s pattern find past =
    ap (λ b. first_some (match_at s pattern find) (cond b [] (cond find.anchored (find.first ∷ []) (boundaries s.text find.first find.stop))))
    (lt-ltb _ _ past)

nothing_past : (s : Setting) (pattern : Pattern) (options : Options) (input : Input) (q : ℕ) → input.range_end < q →
    search_from s pattern options input q false ≡ None
unfolding search_from
nothing_past s pattern options input q past = first_past _ pattern _ past

next_of : (n : ℕ) → n + 2 ≡ suc (n + 1)
next_of n = omega arith

pub first_item_is_found : FirstItemIsFound
unfolding all_items find_input
first_item_is_found s pattern options input =
    ap (λ n. first_item (items s.text (search_from s pattern options input) input.range_start input.range_end n input.start None false))
    (next_of (length s.text))
    ∙ first_of s.text (search_from s pattern options input) input.range_start input.range_end (length s.text + 1) input.start
    (nothing_past s pattern options input (max input.start input.range_start))
