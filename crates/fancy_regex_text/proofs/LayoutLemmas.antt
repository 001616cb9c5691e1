-- Layout character by character.
use Rattle.std.proofs.Common.{◌≡◌, ℕ, Bool, true, false, Option, Some, None, [], ◌∷◌, option_map, refl, sym, ap, ◌∙◌, cond, ◌==◌}
use Rattle.std.proofs.lemmas.Option.{none-some, same_Some}
use Rattle.fancy_regex_text.specs.Text.{Text}
use Rattle.fancy_regex_text.specs.Layout.{LayoutState, nothing, line, comment, comment_escape, state_after, layout_step, skip_layout_from, ended}

mapped : {A B : Type 0} (f : A → B) (o : Option A) (b : B) → Some b ≡ option_map f o → (a : A) × (o ≡ Some a) × (f a ≡ b)
mapped f None b h = absurd (none-some b (sym h))
mapped f (Some a) b h = (a, refl, sym (same_Some b (f a) h))

-- a step goes on from where it leads
pub step_goes : (v : Bool) (m n : LayoutState) (t u : Text) → Some (n, u) ≡ layout_step v m t → skip_layout_from v m t ≡ skip_layout_from v n u
unfolding layout_step skip_layout_from
step_goes v m n [] u h = absurd (none-some (n, u) (sym h))
step_goes v m n (c ∷ t) u h =
    let (next, found, same) = mapped (λ next. (next, t)) (state_after v m c (c ∷ t)) (n, u) h in
    ap (λ o. elim o [ None ↦ Some (c ∷ t) | Some m ↦ skip_layout_from v m t ]) found ∙ ap (λ x. skip_layout_from v x.0 x.1) same

only_nothing : (v : Bool) (m : LayoutState) (c : ℕ) (t : Text) → state_after v m c (c ∷ t) ≡ None → Some (c ∷ t) ≡ ended m (c ∷ t)
unfolding state_after ended
only_nothing v nothing c t h = refl
only_nothing v line c t h = refl
only_nothing v comment c t h = absurd (some_cond (c == 0x29) (c == 0x5C) h)
  where
    some_cond : (a b : Bool) → cond a (Some nothing) (cond b (Some comment_escape) (Some comment)) ≡ None → ⊥
    some_cond true b e = none-some nothing (sym e)
    some_cond false true e = none-some comment_escape (sym e)
    some_cond false false e = none-some comment (sym e)
only_nothing v comment_escape c t h = absurd (none-some comment (sym h))

none_mapped : {A B : Type 0} (f : A → B) (o : Option A) → None ≡ option_map f o → o ≡ None
none_mapped f None h = refl
none_mapped f (Some a) h = absurd (none-some (f a) h)

-- where no step is taken, the layout has ended
pub step_ends : (v : Bool) (m : LayoutState) (t : Text) → None ≡ layout_step v m t → skip_layout_from v m t ≡ ended m t
unfolding layout_step skip_layout_from
step_ends v m [] h = refl
step_ends v m (c ∷ t) h =
    let none = none_mapped (λ next. (next, t)) (state_after v m c (c ∷ t)) h in
    ap (λ o. elim o [ None ↦ Some (c ∷ t) | Some m ↦ skip_layout_from v m t ]) none ∙ only_nothing v m c t none
