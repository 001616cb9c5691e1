-- The proofs of the laws of lists of matches.
use Rattle.std.proofs.Common.{◌≡◌, ℕ, zero, suc, ◌+◌, ◌<◌, ◌≤◌, max, Bool, false, List, [], ◌∷◌, ◌++◌, length, drop, take, map, append_assoc, length-take, Option, Some, None, refl, sym, ap, ◌∙◌, arith, ◌==◌, nat_lt}
use Rattle.std.proofs.lemmas.Bool.{cond_both, ltb-true, ltb-false, eqb-true, eqb-false}
use Rattle.std.specs.Prelude.{slice_range, option_map, unwrap_or}
use Rattle.std.proofs.lemmas.List.Folds.{drop_split}
use Rattle.std.specs.Char.{len_utf8}
use Rattle.std.proofs.lemmas.Str.{len_utf8_bounds}
use Rattle.regex_hir.specs.Text.{char_at}
use Rattle.fancy_regex_meaning.specs.Positions.{position_after}
use Rattle.fancy_regex_meaning.specs.Ways.{for_some}
use Rattle.fancy_regex_meaning.specs.Searches.{Match, items, pieces_from, replaced_from, counted}
use Rattle.fancy_regex_meaning.specs.ItemLaws.{LooksOnward, Ascends, AreInOrder, ItemsAscend, in_turn, OneMorePiece, PiecesAreAll, PiecesUpToAreCounted, PiecesUpToAreFirst, alternately, ReplacedBySelf, ReplacedIsInTurn, NothingReplaced}

one_at_least : (o : Option ℕ) → 1 ≤ unwrap_or (option_map len_utf8 o) 1
one_at_least None = omega arith
one_at_least (Some c) = omega (arith, len_utf8_bounds c)

pub advances : (text : List ℕ) (p : ℕ) → p < position_after text p
advances text p = omega (arith, one_at_least (char_at text p))

for_some_has : {A B : Type 0} (P : List B → Type 0) (f : A → List B) (o : Option A) → P [] → ((x : A) → o ≡ Some x → P (f x)) → P (for_some f o)
for_some_has P f None h k = h
for_some_has P f (Some x) h k = k x refl

module _ (text : List ℕ) (search : ℕ → Bool → Option Match) (range_start range_end : ℕ) (looks : LooksOnward search) where
  ascends : (n p l : ℕ) (off : Bool) → l ≤ p → Ascends l (items text search range_start range_end n p (Some l) off)
  unfolding items
  ascends zero p l off h = tt
  ascends (suc n) p l off h =
      let q : ℕ = max p range_start in
      cond_both (nat_lt range_end q) [] _ (Ascends l) (λ e. tt) (λ e.
      for_some_has (Ascends l) _ (search q off) tt (λ m is.
      let on = looks q off m is in
      let step = advances text m.end in
      cond_both (nat_lt m.start m.end) _ _ (Ascends l)
      (λ lt. (omega (arith, on.0), on.1, omega (arith, on.0, ltb-true _ _ lt), ascends n m.end m.end false (omega arith)))
      (λ ge. let same = ltb-false _ _ ge in
      cond_both (l == m.end) _ _ (Ascends l)
      (λ e. let eq : l ≡ m.end = eqb-true l m.end e in
      rw eq (ascends n (position_after text m.end) m.end (m.end == q) (omega arith)))
      (λ ne. let other = eqb-false l m.end ne in
      (omega (arith, on.0), on.1, omega (arith, on.0, on.1, same), ascends n (position_after text m.end) m.end (m.end == q) (omega arith))))))

  in_order : (n p : ℕ) → AreInOrder (items text search range_start range_end n p None false)
  unfolding items
  in_order zero p = tt
  in_order (suc n) p =
      let q : ℕ = max p range_start in
      cond_both (nat_lt range_end q) [] _ AreInOrder (λ e. tt) (λ e.
      for_some_has AreInOrder _ (search q false) tt (λ m is.
      let on = looks q false m is in
      let step = advances text m.end in
      cond_both (nat_lt m.start m.end) _ _ AreInOrder
      (λ lt. (on.1, ascends n m.end m.end false (omega arith)))
      (λ ge. (on.1, ascends n (position_after text m.end) m.end (m.end == q) (omega arith)))))

pub items_ascend : ItemsAscend
items_ascend text search range_start range_end looks n p = in_order text search range_start range_end looks n p

one_more_from : (text : List ℕ) (p : ℕ) (ms : List Match) → length (pieces_from text p ms) ≡ length ms + 1
one_more_from text p [] = omega arith
one_more_from text p (m ∷ ms) = omega (arith, one_more_from text m.end ms)

pub one_more_piece : OneMorePiece
one_more_piece text ms = one_more_from text 0 ms

-- what a piece leaves
rest_of : (text : List ℕ) (p q : ℕ) → p ≤ q → slice_range text p q ++ drop q text ≡ drop p text
rest_of text p q le = sym (drop_split text p q le)

all_from : (text : List ℕ) (p : ℕ) (ms : List Match) → Ascends p ms → in_turn text (pieces_from text p ms) ms ≡ drop p text
all_from text p [] h = refl
all_from text p (m ∷ ms) h =
    ap (λ xs. slice_range text p m.start ++ (slice_range text m.start m.end ++ xs)) (all_from text m.end ms h.3)
    ∙ ap (λ xs. slice_range text p m.start ++ xs) (rest_of text m.start m.end h.1)
    ∙ rest_of text p m.start h.0

pub pieces_are_all : PiecesAreAll
pieces_are_all text [] h = refl
pieces_are_all text (m ∷ ms) h =
    ap (λ xs. slice_range text 0 m.start ++ (slice_range text m.start m.end ++ xs)) (all_from text m.end ms h.1)
    ∙ ap (λ xs. slice_range text 0 m.start ++ xs) (rest_of text m.start m.end h.0)
    ∙ rest_of text 0 m.start (omega arith)

pub pieces_up_to_are_counted : PiecesUpToAreCounted
pieces_up_to_are_counted zero text ms = omega arith
pieces_up_to_are_counted (suc n) text ms = omega (arith, one_more_piece text (take n ms), length-take n ms)

first_from : (n : ℕ) (text : List ℕ) (p : ℕ) (ms : List Match) → take n (pieces_from text p (take n ms)) ≡ take n (pieces_from text p ms)
first_from zero text p ms = refl
first_from (suc n) text p [] = refl
first_from (suc n) text p (m ∷ ms) = ap (λ xs. slice_range text p m.start ∷ xs) (first_from n text m.end ms)

pub pieces_up_to_are_first : PiecesUpToAreFirst
pieces_up_to_are_first n text ms = first_from n text 0 ms

in_turn_from : (text : List ℕ) (by : Match → List ℕ) (p : ℕ) (ms : List Match) →
    replaced_from text by p ms ≡ alternately (pieces_from text p ms) (map by ms)
in_turn_from text by p [] = refl
in_turn_from text by p (m ∷ ms) =
    append_assoc (slice_range text p m.start) (by m) (replaced_from text by m.end ms)
    ∙ ap (λ xs. slice_range text p m.start ++ (by m ++ xs)) (in_turn_from text by m.end ms)

pub replaced_is_in_turn : ReplacedIsInTurn
replaced_is_in_turn text by limit ms = in_turn_from text by 0 (counted limit ms)

by_themselves : (text : List ℕ) (p : ℕ) (ms : List Match) →
    replaced_from text (λ m. slice_range text m.start m.end) p ms ≡ in_turn text (pieces_from text p ms) ms
by_themselves text p [] = refl
by_themselves text p (m ∷ ms) =
    append_assoc (slice_range text p m.start) (slice_range text m.start m.end) (replaced_from text _ m.end ms)
    ∙ ap (λ xs. slice_range text p m.start ++ (slice_range text m.start m.end ++ xs)) (by_themselves text m.end ms)

ascends_take : (n e : ℕ) (ms : List Match) → Ascends e ms → Ascends e (take n ms)
ascends_take zero e ms h = tt
ascends_take (suc n) e [] h = tt
ascends_take (suc n) e (m ∷ ms) h = (h.0, h.1, h.2, ascends_take n m.end ms h.3)

order_counted : (limit : ℕ) (ms : List Match) → AreInOrder ms → AreInOrder (counted limit ms)
order_counted zero ms h = h
order_counted (suc n) [] h = tt
order_counted (suc n) (m ∷ ms) h = (h.0, ascends_take n m.end ms h.1)

pub replaced_by_self : ReplacedBySelf
replaced_by_self text limit ms h =
    by_themselves text 0 (counted limit ms) ∙ pieces_are_all text (counted limit ms) (order_counted limit ms h)

pub nothing_replaced : NothingReplaced
nothing_replaced text by zero = refl
nothing_replaced text by (suc n) = refl
