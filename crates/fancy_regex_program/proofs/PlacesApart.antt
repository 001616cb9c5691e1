-- Places that are given one after another are apart.
use Rattle.std.proofs.Common.{◌≡◌, ℕ, ◌+◌, ◌≤◌, Bool, true, false, cond, Some, None, refl, sym, subst, ◌∙◌, arith, ◌⊎◌, inl, inr}
use Rattle.std.specs.Prelude.{◌==◌}
use Rattle.std.proofs.lemmas.Bool.Decides.{nat_tests}
use Rattle.std.proofs.lemmas.Option.{none-some, same_Some}
use Rattle.fancy_regex_program.specs.Code.{Layout}
use Rattle.fancy_regex_program.specs.Layouts.{frames_end, IsPlaced, AreApart}
use Rattle.fancy_regex_program.specs.Ops.{Place}

pub apart_none : (layout : Layout) (from bodies_end : ℕ) → ((k : ℕ) → layout k ≡ None) → AreApart layout from bodies_end bodies_end
apart_none layout from bodies_end none = record {
  placed = λ k c is. absurd (none-some c (sym (none k) ∙ is));
  own = λ k j c d is isd other. absurd (none-some c (sym (none k) ∙ is));
  frames = λ k j c d is isd other. absurd (none-some c (sym (none k) ∙ is));
}

-- The layout has one place more, at the end of the slots.
module _ (layout new : Layout) (from bodies_end slots k : ℕ) (c : Place) (apart : AreApart layout from bodies_end slots)
    (new_is : (j : ℕ) → new j ≡ cond (j == k) (Some c) (layout j)) where
  -- a place is the new one, or one of those before
  record IsOld (j : ℕ) (d : Place) : Type 0 where
    other : j ≡ k → ⊥
    is : layout j ≡ Some d

  record IsNew (j : ℕ) (d : Place) : Type 0 where
    same : j ≡ k
    is : c ≡ d

  which : (j : ℕ) (d : Place) → new j ≡ Some d → IsNew j d ⊎ IsOld j d
  which j d is = choose (j == k) refl (sym (new_is j) ∙ is)
    where
      choose : (b : Bool) → b ≡ (j == k) → cond b (Some c) (layout j) ≡ Some d → IsNew j d ⊎ IsOld j d
      choose true e is = inl (record { same = grind (arith, nat_tests); is = same_Some c d is })
      choose false e is = inr (record { other = grind (arith, nat_tests); is = is })

  module _ (behind : bodies_end ≤ slots) (count : c.count ≡ slots) (frames : c.frames ≡ slots + 1) (most : c.most ≡ 19) (from_is : from ≤ c.first) (to : c.first + c.own ≤ bodies_end)
      (before : (j : ℕ) (d : Place) → layout j ≡ Some d → d.first + d.own ≤ c.first) where
    new_placed : IsPlaced from bodies_end (frames_end c) c
    new_placed = record { own_from = from_is; own_to = to; count_from = omega (arith, behind, count); frames_from = omega (arith, count, frames); frames_to = omega arith; most_is = most }

    old_placed : (d : Place) → IsPlaced from bodies_end slots d → IsPlaced from bodies_end (frames_end c) d
    old_placed d is = record {
      own_from = is.own_from;
      own_to = is.own_to;
      count_from = is.count_from;
      frames_from = is.frames_from;
      frames_to = omega (arith, is.frames_to, frames);
      most_is = is.most_is;
    }

    placed_now : (j : ℕ) (d : Place) → IsNew j d ⊎ IsOld j d → IsPlaced from bodies_end (frames_end c) d
    placed_now j d (inl now) = let P = IsPlaced from bodies_end (frames_end c) in subst P now.is new_placed
    placed_now j d (inr old) = old_placed d (apart.placed j d old.is)

    -- the new one's own slots are behind those before, and so are its frames
    own_now : (i j : ℕ) (d e : Place) → (i ≡ j → ⊥) → IsNew i d ⊎ IsOld i d → IsNew j e ⊎ IsOld j e → (d.first + d.own ≤ e.first) ⊎ (e.first + e.own ≤ d.first)
    own_now i j d e other (inl a) (inl b) = absurd (other (a.same ∙ sym b.same))
    own_now i j d e other (inl a) (inr b) = let P = λ (x : Place). e.first + e.own ≤ x.first in inr (subst P a.is (before j e b.is))
    own_now i j d e other (inr a) (inl b) = let P = λ (x : Place). d.first + d.own ≤ x.first in inl (subst P b.is (before i d a.is))
    own_now i j d e other (inr a) (inr b) = apart.own i j d e a.is b.is other

    below : (j : ℕ) (d : Place) → layout j ≡ Some d → frames_end d ≤ c.count
    below j d is = omega (arith, (apart.placed j d is).frames_to, count)

    frames_now : (i j : ℕ) (d e : Place) → (i ≡ j → ⊥) → IsNew i d ⊎ IsOld i d → IsNew j e ⊎ IsOld j e → (frames_end d ≤ e.count) ⊎ (frames_end e ≤ d.count)
    frames_now i j d e other (inl a) (inl b) = absurd (other (a.same ∙ sym b.same))
    frames_now i j d e other (inl a) (inr b) = let P = λ (x : Place). frames_end e ≤ x.count in inr (subst P a.is (below j e b.is))
    frames_now i j d e other (inr a) (inl b) = let P = λ (x : Place). frames_end d ≤ x.count in inl (subst P b.is (below i d a.is))
    frames_now i j d e other (inr a) (inr b) = apart.frames i j d e a.is b.is other

    pub apart_more : AreApart new from bodies_end (frames_end c)
    apart_more = record {
      placed = λ j d is. placed_now j d (which j d is);
      own = λ i j d e isd ise other. own_now i j d e other (which i d isd) (which j e ise);
      frames = λ i j d e isd ise other. frames_now i j d e other (which i d isd) (which j e ise);
    }
