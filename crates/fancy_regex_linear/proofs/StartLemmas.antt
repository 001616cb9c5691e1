-- The starts that a search tries, one character after another.
use Rattle.std.proofs.Common.{◌≡◌, ℕ, zero, suc, ◌+◌, ◌-◌, ◌^◌, ◌<◌, ◌≤◌, min, ◌⊎◌, Bool, true, false, List, [], ◌∷◌, Option, Some, None, IfSome, unwrap_or, length, inl, inr, refl, sym, ap, ◌∙◌, arith, IsUtf8, IsCharBoundary, true≢false, lt-ltb}
use Rattle.std.specs.Char.{len_utf8}
use Rattle.std.proofs.lemmas.Bool.{cond-true, cond-false}
use Rattle.std.specs.List.{filter}
use Rattle.fancy_regex_class.proofs.AdjacentCharLemmas.{boundary_past_ascii}
use Rattle.regex_hir.specs.Text.{char_at, is_boundary}
use Rattle.fancy_regex_meaning.specs.Positions.{numbers_from, boundaries}
use Rattle.fancy_regex_meaning.proofs.BoundaryLemmas.{IsCharBoundary-of_test}
use Rattle.fancy_regex_meaning.proofs.NextBoundaryLemmas.{from_here, next_place}
use Rattle.fancy_regex_linear.specs.Meaning.{Spot}
use Rattle.fancy_regex_linear.specs.Find.{earliest, attempted, places}
use Rattle.fancy_regex_class.specs.Looks.{look_count}
use Rattle.fancy_regex_class.specs.declared.counted.Counted.{Counted}
use Rattle.fancy_regex_linear.specs.Starts.{IsAfter, IsCandidateFrom, IsDropped, IsPlaceFrom}
use Rattle.fancy_regex_linear.specs.declared.starts.Candidate.{Candidate}
use Rattle.fancy_regex_linear.specs.declared.visited.Visited.{Visited}

pub earliest_next : (f : ℕ → Option Spot) (p : ℕ) (ps : List ℕ) → f p ≡ None → earliest f (p ∷ ps) ≡ earliest f ps
unfolding earliest
earliest_next f p ps e = rw (e, earliest)

pub earliest_here : (f : ℕ → Option Spot) (p : ℕ) (ps : List ℕ) (w : Spot) → f p ≡ Some w → earliest f (p ∷ ps) ≡ Some (record { start = p; way = w })
unfolding earliest
earliest_here f p ps w e = rw (e, earliest)

pub earliest_none : (f : ℕ → Option Spot) → earliest f [] ≡ None
unfolding earliest
earliest_none f = refl

pub tried_next : {A : Type 0} (f : ℕ → Option A) (p : ℕ) (ps : List ℕ) → f p ≡ None → attempted f (p ∷ ps) ≡ 1 + attempted f ps
unfolding attempted
tried_next f p ps e = rw (e, attempted)

pub tried_here : {A : Type 0} (f : ℕ → Option A) (p : ℕ) (ps : List ℕ) (w : A) → f p ≡ Some w → attempted f (p ∷ ps) ≡ 1
unfolding attempted
tried_here f p ps w e = rw (e, attempted)

pub tried_none : {A : Type 0} (f : ℕ → Option A) → attempted f [] ≡ 0
unfolding attempted
tried_none f = refl

-- the place has a way
pub found_here : (f : ℕ → Option Spot) (text : List ℕ) (anchored : Bool) (from stop : ℕ) (w : Spot) → IsCharBoundary text from → from ≤ stop → f from ≡ Some w
    → (earliest f (places text anchored from stop) ≡ Some (record { start = from; way = w })) × (attempted f (places text anchored from stop) ≡ 1)
found_here f text true from stop w b le e = (earliest_here f from [] w e, tried_here f from [] w e)
found_here f text false from stop w b le e =
    let split = from_here text from stop b le in
    (ap (earliest f) split ∙ earliest_here f from _ w e, ap (attempted f) split ∙ tried_here f from _ w e)

-- the place has none, and more come
pub failed_next : (f : ℕ → Option Spot) (from : ℕ) (ps qs : List ℕ) → ps ≡ from ∷ qs → f from ≡ None
    → (earliest f ps ≡ earliest f qs) × (attempted f ps ≡ 1 + attempted f qs)
failed_next f from ps qs split e = (ap (earliest f) split ∙ earliest_next f from qs e, ap (attempted f) split ∙ tried_next f from qs e)

-- the place has none, and no more come
pub failed_last : (f : ℕ → Option Spot) (from : ℕ) (ps : List ℕ) → ps ≡ from ∷ [] → f from ≡ None → (earliest f ps ≡ None) × (attempted f ps ≡ 1)
failed_last f from ps split e =
    let next = failed_next f from ps [] split e in
    let none = tried_none f in
    (next.0 ∙ earliest_none f, omega (arith, next.1, none))

-- a start is tried
pub tried_some : {A : Type 0} (f : ℕ → Option A) (p : ℕ) (ps : List ℕ) → 1 ≤ attempted f (p ∷ ps)
unfolding attempted
tried_some f p ps = omega arith

-- after a character that ends in time comes the next place
pub place_after : (text : List ℕ) (anchored : Bool) (at stop c n : ℕ) → anchored ≡ false → IsCharBoundary text at → char_at text at ≡ Some c → n ≡ len_utf8 c → len_utf8 c ≤ stop - at
    → at ≤ stop → places text anchored at stop ≡ at ∷ places text anchored (at + n) stop
place_after text true at stop c n many b is width fits le = absurd (true≢false many)
place_after text false at stop c n many b is width fits le =
    next_place text at stop c b is fits le ∙ ap (λ (k : ℕ). at ∷ boundaries text (at + k) stop) (sym width)

-- an anchored search has one place, and another where no more boundaries come
pub last_of : (text : List ℕ) (anchored : Bool) (at stop : ℕ) → (anchored ≡ false → boundaries text at stop ≡ at ∷ []) → places text anchored at stop ≡ at ∷ []
last_of text true at stop h = refl
last_of text false at stop h = h refl

-- the start after one of a search is one of it
pub after_from : (text : List ℕ) (stop start at : ℕ) (next : Option ℕ) → start ≤ at → IfSome next (IsAfter text stop at)
    → IfSome next (λ i. (start ≤ i) × (i ≤ stop) × IsCharBoundary text i)
after_from text stop start at None low h = tt
after_from text stop start at (Some i) low h = (omega (arith, h.0), h.1, h.2)

pub above_base : (text : List ℕ) (stop base at : ℕ) (next : Option ℕ) → base ≤ at → IfSome next (IsAfter text stop at) → IfSome next (λ i. base ≤ i)
above_base text stop base at None low h = tt
above_base text stop base at (Some i) low h = omega (arith, h.0)

pub next_after : (text : List ℕ) (stop at : ℕ) (next : Option ℕ) → at ≤ stop → IfSome next (IsAfter text stop at) → at + 1 ≤ unwrap_or next (stop + 1)
next_after text stop at None high h = omega arith
next_after text stop at (Some i) high h = omega (arith, h.0)

-- places with an ASCII character and no way are passed over
pub passed_over : (f : ℕ → Option Spot) (text : List ℕ) (anchored : Bool) (stop n at to : ℕ) → to ≡ at + n → IsUtf8 text → IsCharBoundary text at → to ≤ stop
    → ((i : ℕ) → IsCharBoundary text i → at ≤ i → i < to → (anchored ≡ false) × (f i ≡ None) × ((b : ℕ) × (b < 128) × (char_at text i ≡ Some b)))
    → (earliest f (places text anchored at stop) ≡ earliest f (places text anchored to stop)) × (attempted f (places text anchored at stop) ≡ n + attempted f (places text anchored to stop))
passed_over f text anchored stop zero at to e u b le h =
    let same : at ≡ to = omega arith in
    let tried = ap (λ (i : ℕ). attempted f (places text anchored i stop)) same in
    (ap (λ (i : ℕ). earliest f (places text anchored i stop)) same, omega (arith, tried))
passed_over f text anchored stop (suc n) at to e u b le h =
    let here = h at b (omega arith) (omega arith) in
    let c : ℕ = here.2.0 in
    let long : len_utf8 c ≡ 1 = cond-true _ _ _ (lt-ltb c 0x80 here.2.1) in
    let split = place_after text anchored at stop c 1 here.0 b here.2.2 (sym long) (omega (arith, long)) (omega arith) in
    let both = failed_next f at (places text anchored at stop) (places text anchored (at + 1) stop) split here.1 in
    let later = passed_over f text anchored stop n (at + 1) to (omega arith) u (boundary_past_ascii text at c u b here.2.1 here.2.2) le (λ i bound low high. h i bound (omega arith) high) in
    (both.0 ∙ later.0, omega (arith, both.1, later.1))

-- where no way begins at any place, none is found, and no more places are tried than there are offsets
none_among : (f : ℕ → Option Spot) (text : List ℕ) (n i : ℕ) → ((j : ℕ) → i ≤ j → j < i + n → is_boundary text j ≡ true → f j ≡ None)
    → (earliest f (filter (is_boundary text) (numbers_from n i)) ≡ None) × (attempted f (filter (is_boundary text) (numbers_from n i)) ≤ n)
none_among f text zero i none = let tried = tried_none f in (earliest_none f, omega (arith, tried))
none_among f text (suc n) i none =
    let rest = none_among f text n (i + 1) (λ j low high is. none j (omega arith) (omega arith) is) in
    let all : List ℕ = filter (is_boundary text) (numbers_from (suc n) i) in
    let others : List ℕ = filter (is_boundary text) (numbers_from n (i + 1)) in
    elim (true_or_not (is_boundary text i)) [
      | inl is ↦
          let split : all ≡ i ∷ others = cond-true (is_boundary text i) _ _ is in
          let both = failed_next f i all others split (none i (omega arith) (omega arith) is) in
          (both.0 ∙ rest.0, omega (arith, both.1, rest.1))
      | inr other ↦
          let same : all ≡ others = cond-false (is_boundary text i) _ _ other in
          let tried = ap (attempted f) same in
          (ap (earliest f) same ∙ rest.0, omega (arith, tried, rest.1))
    ]
  where
    true_or_not : (b : Bool) → (b ≡ true) ⊎ (b ≡ false)
    true_or_not true = inl refl
    true_or_not false = inr refl

pub none_from : (f : ℕ → Option Spot) (text : List ℕ) (anchored : Bool) (from stop : ℕ) → IsCharBoundary text from → from ≤ stop → stop ≤ length text
    → ((i : ℕ) → IsCharBoundary text i → from ≤ i → i ≤ stop → f i ≡ None)
    → (earliest f (places text anchored from stop) ≡ None) × (attempted f (places text anchored from stop) ≤ stop - from + 1)
none_from f text true from stop b le inside none =
    let one = failed_last f from (from ∷ []) refl (none from b (omega arith) le) in (one.0, omega (arith, one.1))
none_from f text false from stop b le inside none =
    let all = none_among f text (stop + 1 - from) from
    (λ j low high is. none j (IsCharBoundary-of_test text j (omega arith) is) low (omega arith)) in
    (all.0, omega (arith, all.1))

-- rows dropped one after the other
pub dropped_on : {a b c : Visited} {low high next : ℕ} → IsDropped a b low → IsDropped b c high → high ≤ next → IsDropped a c next
dropped_on one two on = record {
  count = two.count ∙ one.count;
  base = (omega (arith, one.base.0, two.base.0), omega (arith, two.base.1, on));
  rows = λ stop rows. two.rows stop (one.rows stop rows);
  pairs = λ q i has. one.pairs q i (two.pairs q i has);
}

-- none was dropped
pub none_dropped : (v : Visited) (low : ℕ) → v.base ≤ low → IsDropped v v low
none_dropped v low base = record { count = refl; base = (omega arith, base); rows = λ stop rows. rows; pairs = λ q i has. has }

-- a place to which starts were passed over, with a look for each
pub candidate_at : {old new : Counted} {visited : Visited} {from last stop : ℕ} {place : ℕ × Option ℕ} {found : Candidate} → IsPlaceFrom old new from last place → last ≤ stop
    → look_count new ≡ min (look_count old + (place.0 - from + 1)) (2 ^ 64 - 1) → (found.at ≡ place.0) × (found.after ≡ place.1) → visited.base ≤ from
    → IsCandidateFrom old new visited visited from stop found
candidate_at {old} {new} {visited} {from} {last} {stop} {place} {found} is inside ticked same base = record {
  place = record {
    range = (omega (arith, same.0, is.range.0), omega (arith, same.0, is.range.1, inside));
    boundary = rw same.0 is.boundary;
    after = rw (same.0, same.1) is.after;
    next = rw (same.0, same.1) is.next;
    text = is.text;
    same_counter = is.same_counter;
  };
  at_least = omega (arith, same.0, ticked);
  counted = omega (arith, same.0, ticked);
  dropped = none_dropped visited found.at (omega (arith, base, same.0, is.range.0));
}
