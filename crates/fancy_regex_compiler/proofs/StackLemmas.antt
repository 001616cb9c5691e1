-- Own slots of bodies that follow each other, and the places of those bodies.
use Rattle.std.proofs.Common.{◌≡◌, ℕ, zero, suc, ◌+◌, ◌<◌, ◌≤◌, Bool, true, false, cond, List, [], ◌∷◌, ◌++◌, length, Option, Some, None, refl, sym, ap, subst, ◌∙◌, arith}
use Rattle.std.specs.Prelude.{slice_get, ◌==◌, is_some}
use Rattle.std.proofs.lemmas.Bool.Decides.{nat_tests}
use Rattle.std.proofs.lemmas.Option.{none-some, same_Some}
use Rattle.fancy_regex_program.specs.Code.{Layout}
use Rattle.fancy_regex_program.specs.Layouts.{frames_end, AreApart}
use Rattle.fancy_regex_program.specs.Ops.{Place}
use Rattle.fancy_regex_program.proofs.PlacesApart.{apart_none, apart_more}
use Rattle.fancy_regex_compiler.specs.Kept.{AreStacked, IsPlaceIn, place_for, with_place, ArePlaces}
use Rattle.fancy_regex_compiler.specs.declared.calls.Body.{Body}

-- the slots do not end before they begin
pub stacked_on : (from end : ℕ) (list : List Body) → AreStacked from end list → from ≤ end
stacked_on from end [] h = omega (arith, h)
stacked_on from end (b ∷ bs) h = omega (arith, stacked_on (from + b.own) end bs h.1)

-- a body's own slots are among them
pub stacked_at : (from end : ℕ) (list : List Body) (i : ℕ) (b : Body) → AreStacked from end list → slice_get list i ≡ Some b → (from ≤ b.first) × (b.first + b.own ≤ end)
stacked_at from end [] i b h at = absurd (none-some b at)
stacked_at from end (c ∷ bs) zero b h at =
    let P = λ (x : Body). (from ≤ x.first) × (x.first + x.own ≤ end) in
    let first = h.0 in
    let there = stacked_on (from + c.own) end bs h.1 in
    let low : from ≤ c.first = omega (arith, first) in
    let high : c.first + c.own ≤ end = omega (arith, first, there) in
    subst P (same_Some c b at) (low, high)
stacked_at from end (c ∷ bs) (suc i) b h at =
    let there = stacked_at (from + c.own) end bs i b h.1 at in
    (omega (arith, there.0), there.1)

-- those of a body that comes earlier are before them
pub stacked_before : (from end : ℕ) (list : List Body) (i j : ℕ) (b d : Body) → AreStacked from end list → i < j → slice_get list i ≡ Some b → slice_get list j ≡ Some d →
    b.first + b.own ≤ d.first
stacked_before from end [] i j b d h lt at there = absurd (none-some b at)
stacked_before from end (c ∷ bs) i zero b d h lt at there = absurd (omega (arith, lt))
stacked_before from end (c ∷ bs) zero (suc j) b d h lt at there =
    let later = stacked_at (from + c.own) end bs j d h.1 there in
    let first = h.0 in
    let P = λ (x : Body). x.first + x.own ≤ d.first in
    let here : c.first + c.own ≤ d.first = omega (arith, first, later.0) in
    subst P (same_Some c b at) here
stacked_before from end (c ∷ bs) (suc i) (suc j) b d h lt at there =
    stacked_before (from + c.own) end bs i j b d h.1 (omega (arith, lt)) at there

-- with one body more
pub stacked_more : (from end : ℕ) (list : List Body) (b : Body) → AreStacked from end list → b.first ≡ end → AreStacked from (end + b.own) (list ++ b ∷ [])
stacked_more from end [] b h first = (first ∙ sym h, ap (λ n. n + b.own) h)
stacked_more from end (c ∷ bs) b h first = (h.0, stacked_more (from + c.own) end bs b h.1 first)

-- no place yet
pub places_none : (list : List Body) (from bodies_end : ℕ) (table : Layout) → ((k : ℕ) → table k ≡ None) → ArePlaces list from bodies_end 0 table bodies_end
places_none list from bodies_end table none = record {
  each = λ k c is. absurd (none-some c (sym (none k) ∙ is));
  covers = λ i b low at. absurd (omega (arith, low));
  apart = apart_none table from bodies_end none;
  room = omega arith;
}

-- one place more
module _ (list : List Body) (from bodies_end done end : ℕ) (table new : Layout) (b : Body) (stacked : AreStacked from bodies_end list)
    (at : slice_get list done ≡ Some b) (places : ArePlaces list from bodies_end done table end)
    (new_is : (j : ℕ) → new j ≡ with_place b.group (place_for end b) table j) where
  later : (k : ℕ) (c : Place) → IsPlaceIn list done k c → IsPlaceIn list (done + 1) k c
  later k c is = record {
    index = is.index;
    body = is.body;
    before = omega (arith, is.before);
    at = is.at;
    group = is.group;
    start = is.start;
    first = is.first;
    own = is.own;
  }

  each_now : (k : ℕ) (c : Place) → new k ≡ Some c → IsPlaceIn list (done + 1) k c
  each_now k c is = choose (k == b.group) refl (sym (new_is k) ∙ is)
    where
      choose : (t : Bool) → t ≡ (k == b.group) → cond t (Some (place_for end b)) (table k) ≡ Some c → IsPlaceIn list (done + 1) k c
      choose true e same =
          let it = same_Some (place_for end b) c same in
          let here : b.group ≡ k = grind (arith, nat_tests) in
          record {
            index = done;
            body = b;
            before = omega arith;
            at = at;
            group = here;
            start = sym (ap (λ (p : Place). p.start) it);
            first = sym (ap (λ (p : Place). p.first) it);
            own = sym (ap (λ (p : Place). p.own) it);
          }
      choose false e same = later k c (places.each k c same)

  covered : (k : ℕ) (t : Bool) → is_some (table k) ≡ true → is_some (cond t (Some (place_for end b)) (table k)) ≡ true
  covered k true h = refl
  covered k false h = h

  covers_here : (t : Bool) → t ≡ true → is_some (cond t (Some (place_for end b)) (table b.group)) ≡ true
  covers_here t e = ap (λ x. is_some (cond x (Some (place_for end b)) (table b.group))) e

  covers_now : (i : ℕ) (d : Body) → i < done + 1 → slice_get list i ≡ Some d → is_some (new d.group) ≡ true
  covers_now i d low there = choose (i == done) refl
    where
      choose : (t : Bool) → t ≡ (i == done) → is_some (new d.group) ≡ true
      choose true e =
          let same : i ≡ done = grind (arith, nat_tests) in
          let it : b ≡ d = same_Some b d (sym at ∙ ap (slice_get list) (sym same) ∙ there) in
          let own : (b.group == b.group) ≡ true = grind (arith, nat_tests) in
          subst (λ (x : Body). is_some (new x.group) ≡ true) it (ap is_some (new_is b.group) ∙ covers_here (b.group == b.group) own)
      choose false e =
          let less : i < done = grind (arith, nat_tests) in
          ap is_some (new_is d.group) ∙ covered d.group (d.group == b.group) (places.covers i d less there)

  pub places_more : ArePlaces list from bodies_end (done + 1) new (frames_end (place_for end b))
  places_more =
      let own = stacked_at from bodies_end list done b stacked at in
      record {
        each = each_now;
        covers = covers_now;
        apart = apart_more table new from bodies_end end b.group (place_for end b) places.apart new_is places.room refl refl refl own.0 own.1
            (λ j d is.
            let it = places.each j d is in
            let before = stacked_before from bodies_end list it.index done it.body b stacked it.before it.at at in
            omega (arith, before, it.first, it.own));
        room = omega (arith, places.room);
      }
