-- The starts of a search, one place after another.
use Rattle.std.proofs.Common.{◌≡◌, ◌∙◌, ℕ, ◌+◌, ◌-◌, ◌*◌, ◌<◌, ◌≤◌, List, [], ◌∷◌, length, Option, Some, None, refl, ap, arith, add-mul, one-mul, IsUtf8, IsCharBoundary}
use Rattle.std.proofs.Math.Nat.{mul-le-mul_left}
use Rattle.std.specs.Char.{len_utf8}
use Rattle.std.proofs.lemmas.Str.{len_utf8_bounds}
use Rattle.regex_hir.specs.Text.{char_at}
use Rattle.fancy_regex_meaning.specs.Positions.{boundaries}
use Rattle.fancy_regex_meaning.proofs.NextBoundaryLemmas.{from_here, next_place, last_place, end_place}
use Rattle.fancy_regex_parts.specs.Find.{earliest, attempted, IsNext}

module _ (f : ℕ → Option ℕ) (p : ℕ) where
  earliest_here : (ps : List ℕ) (e : ℕ) → f p ≡ Some e → earliest f (p ∷ ps) ≡ Some (p, e)
  unfolding earliest
  earliest_here ps e is = rw (is, earliest)

  earliest_next : (ps : List ℕ) → f p ≡ None → earliest f (p ∷ ps) ≡ earliest f ps
  unfolding earliest
  earliest_next ps is = rw (is, earliest)

  attempted_here : (ps : List ℕ) (e : ℕ) → f p ≡ Some e → attempted f (p ∷ ps) ≡ 1
  unfolding attempted
  attempted_here ps e is = rw (is, attempted)

  attempted_next : (ps : List ℕ) → f p ≡ None → attempted f (p ∷ ps) ≡ 1 + attempted f ps
  unfolding attempted
  attempted_next ps is = rw (is, attempted)

earliest_none : (f : ℕ → Option ℕ) → earliest f [] ≡ None
unfolding earliest
earliest_none f = refl

attempted_none : (f : ℕ → Option ℕ) → attempted f [] ≡ 0
unfolding attempted
attempted_none f = refl

module _ (f : ℕ → Option ℕ) (p : ℕ) where
  -- the start has a way
  pub found_here : (text : List ℕ) (last e : ℕ) → IsCharBoundary text p → p ≤ last → f p ≡ Some e
      → (earliest f (boundaries text p last) ≡ Some (p, e)) × (attempted f (boundaries text p last) ≡ 1)
  found_here text last e b le is =
      let split = from_here text p last b le in
      (ap (earliest f) split ∙ earliest_here f p _ e is, ap (attempted f) split ∙ attempted_here f p _ e is)

  -- it has none, and more come
  pub failed_next : (ps qs : List ℕ) → ps ≡ p ∷ qs → f p ≡ None → (earliest f ps ≡ earliest f qs) × (attempted f ps ≡ 1 + attempted f qs)
  failed_next ps qs split is = (ap (earliest f) split ∙ earliest_next f p qs is, ap (attempted f) split ∙ attempted_next f p qs is)

  -- it has none, and no more come
  pub failed_last : (ps : List ℕ) → ps ≡ p ∷ [] → f p ≡ None → (earliest f ps ≡ None) × (attempted f ps ≡ 1)
  failed_last ps split is =
      let next = failed_next ps [] split is in
      let none = attempted_none f in
      (next.0 ∙ earliest_none f, omega (arith, next.1, none))

-- one start more
pub one_more : (all rest cost : ℕ) → all ≡ 1 + rest → all * cost ≡ cost + rest * cost
one_more all rest cost is = ap (λ (n : ℕ). n * cost) is ∙ add-mul 1 rest cost ∙ ap (λ (n : ℕ). n + rest * cost) (one-mul cost)

pub one_start : (all cost : ℕ) → all ≡ 1 → all * cost ≡ cost
one_start all cost is = ap (λ (n : ℕ). n * cost) is ∙ one-mul cost

-- after a character that ends in time comes the next start
pub next_after : (text : List ℕ) (last at c width : ℕ) → at ≤ last → IsCharBoundary text at → char_at text at ≡ Some c → width ≡ len_utf8 c → width ≤ last - at
    → IsCharBoundary text (at + len_utf8 c) → IsNext text last at (at + width)
next_after text last at c width le b is width_is fits next =
    let some = len_utf8_bounds c in
    let in_time : len_utf8 c ≤ last - at = omega arith in
    rw width_is (record {
      later = omega arith;
      early = omega arith;
      boundary = next;
      starts = next_place text at last c b is in_time le;
    })

-- after one that ends too late, and at the end of the text, comes none
pub late_after : (text : List ℕ) (last at c width : ℕ) → at ≤ last → IsCharBoundary text at → char_at text at ≡ Some c → width ≡ len_utf8 c → last - at < width
    → boundaries text at last ≡ at ∷ []
late_after text last at c width le b is width_is late = let too_late : last - at < len_utf8 c = omega arith in last_place text at last c b is too_late le

pub none_after : (text : List ℕ) (last at : ℕ) → IsUtf8 text → at ≤ last → last ≤ length text → IsCharBoundary text at → char_at text at ≡ None
    → boundaries text at last ≡ at ∷ []
none_after text last at u le inside b is = end_place text at last u b is le inside

-- one place more
pub place_more : (before after cost : ℕ) → before < after → before * cost + cost ≤ after * cost
place_more before after cost less =
    let more : cost * (before + 1) ≤ cost * after = mul-le-mul_left cost (omega arith) in
    omega (arith, more)
