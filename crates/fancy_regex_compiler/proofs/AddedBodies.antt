-- A body that is written behind the main program.
use Rattle.std.proofs.Common.{◌≡◌, ℕ, zero, suc, ◌+◌, ◌-◌, ◌<◌, Bool, true, false, true≢false, List, [], ◌∷◌, ◌++◌, length, get_or, set, Some, ◌⊎◌, inl, inr, ⊎_elim, refl, sym, ap, ap₂, subst, ◌∙◌, arith, append_assoc, length-append, get_or-set_same, get_or-set_other}
use Rattle.std.specs.Prelude.{All, slice_get, ◌==◌, is_some}
use Rattle.std.specs.List.{Contains}
use Rattle.std.proofs.lemmas.Bool.Decides.{nat_tests}
use Rattle.std.proofs.lemmas.List.{map-append, length-set}
use Rattle.std.proofs.lemmas.List.Elements.{All-push, All-weaker, All-contains, Contains-push, Contains-append_left, Contains-push_cases}
use Rattle.std.proofs.lemmas.Option.{none-some, same_Some, slice_get_within, get_or_from_slice_get}
use Rattle.fancy_regex_tree.specs.Tree.{Text}
use Rattle.fancy_regex_class.specs.Classes.{in_class, folded}
use Rattle.fancy_regex_desugar.specs.CorePatterns.{CorePattern}
use Rattle.fancy_regex_desugar.specs.Unfolded.{pat_for}
use Rattle.fancy_regex_info.specs.Infos.{InfoTree}
use Rattle.fancy_regex_program.specs.Assembled as assembled
use Rattle.fancy_regex_program.specs.Assembled.{return_code, stretch, stretches, StandFrom}
use Rattle.fancy_regex_program.specs.Code.{Layout, flushed, closed, slots_with, waits_with, code_with}
use Rattle.fancy_regex_program.specs.Ops as op
use Rattle.fancy_regex_program.specs.Ops.{Op, Place}
use Rattle.fancy_regex_program.proofs.Stretches.{stretches_more, stand_more}
use Rattle.fancy_regex_compiler.specs.Kept.{called_pattern, pattern_at, with_pattern, bodies_of, AreStacked, HasBodyOf, IsMarked, HasBodies, IsMet}
use Rattle.fancy_regex_compiler.specs.Known.{info_written, info_call, most_calls_in}
use Rattle.fancy_regex_compiler.specs.Writing.{Draft, with_op, closed_draft, added, with_pat, layout_of, infos_of}
use Rattle.fancy_regex_compiler.specs.declared.calls.Bodies.{Bodies}
use Rattle.fancy_regex_compiler.specs.declared.calls.Body.{Body}
use Rattle.fancy_regex_compiler.specs.declared.emitter.CompileContext.{CompileContext}
use Rattle.fancy_regex_compiler.specs.declared.emitter.Need.{Need}
use Rattle.fancy_regex_compiler.proofs.StackLemmas.{stacked_more}

-- the pattern of a body, around which no call is open
pub called_is : (infos : List InfoTree) (opened : List ℕ) (x : InfoTree) → opened ≡ [] → (info_written (info_call infos (most_calls_in infos) opened) x).front ≡ called_pattern infos x
called_is infos opened x none = ap (λ o. (info_written (info_call infos (most_calls_in infos) o) x).front) none

pub pattern_is : (infos : List InfoTree) (k : ℕ) (x : InfoTree) → slice_get infos k ≡ Some x → pattern_at infos k ≡ called_pattern infos x
pattern_is infos k x at = ap (pat_for (called_pattern infos)) at

-- one element more
pub got_more : {A : Type 0} (xs : List A) (y x : A) (k : ℕ) → slice_get (xs ++ y ∷ []) k ≡ Some x → (slice_get xs k ≡ Some x) ⊎ ((k ≡ length xs) × (y ≡ x))
got_more [] y x zero at = inr (refl, same_Some y x at)
got_more [] y x (suc k) at = absurd (none-some x at)
got_more (z ∷ xs) y x zero at = inl at
got_more (z ∷ xs) y x (suc k) at = ⊎_elim (λ there. inl there) (λ here. inr (ap suc here.0, here.1)) (got_more xs y x k at)

all_got : {A : Type 0} (P : A → Type 0) (xs : List A) (k : ℕ) (x : A) → All P xs → slice_get xs k ≡ Some x → P x
all_got P xs k x all at = All-contains P xs x all (k, slice_get_within xs k x at, get_or_from_slice_get xs k x x at)

-- what stands once a pattern and a return are written
module _ (u w : Bool) (layout : Layout) where
  abbrev C : CorePattern → ℕ → ℕ → List Op
  C p = closed (code_with (in_class u) (folded u) w layout p []) (waits_with layout p [])

  regroup : (a b c d : List Op) → ((a ++ b) ++ c) ++ d ≡ a ++ ((b ++ c) ++ d)
  regroup a b c d = simp append_assoc

  body_ops : (p : CorePattern) (c : Place) (first : ℕ) (d : Draft) → d.text ≡ [] →
      (added (op.return c) (with_pat layout u w p first d)).ops ≡ d.ops ++ (C p (length d.ops) first ++ op.return c ∷ [])
  unfolding with_op closed_draft with_pat
  body_ops p c first d none =
      let start = length d.ops in
      ap (λ (t : Text). ((d.ops ++ code_with (in_class u) (folded u) w layout p t start first) ++ flushed (waits_with layout p t)) ++ op.return c ∷ []) none
      ∙ regroup d.ops (code_with (in_class u) (folded u) w layout p [] start first) (flushed (waits_with layout p [])) (op.return c ∷ [])

  body_text : (p : CorePattern) (c : Place) (first : ℕ) (d : Draft) → (added (op.return c) (with_pat layout u w p first d)).text ≡ []
  unfolding with_op closed_draft with_pat
  body_text p c first d = refl

-- one mark more
module _ (marks : List Bool) (group : ℕ) (low : group < length marks) where
  pub marked_now : get_or (set marks group true) group false ≡ true
  marked_now = get_or-set_same marks group true false low

  pub marked_before : (k : ℕ) → get_or marks k false ≡ true → get_or (set marks group true) k false ≡ true
  marked_before k h = choose (k == group) refl
    where
      choose : (t : Bool) → t ≡ (k == group) → get_or (set marks group true) k false ≡ true
      choose true e = let same : group ≡ k = grind (arith, nat_tests) in subst (λ (j : ℕ). get_or (set marks group true) j false ≡ true) same marked_now
      choose false e = let other : k ≡ group → ⊥ = grind (arith, nat_tests) in get_or-set_other marks group k true false other ∙ h

  pub which_marked : (k : ℕ) → get_or (set marks group true) k false ≡ true → (group ≡ k) ⊎ (get_or marks k false ≡ true)
  which_marked k h = choose (k == group) refl
    where
      choose : (t : Bool) → t ≡ (k == group) → (group ≡ k) ⊎ (get_or marks k false ≡ true)
      choose true e = inl (grind (arith, nat_tests))
      choose false e = let other : k ≡ group → ⊥ = grind (arith, nat_tests) in inr (sym (get_or-set_other marks group k true false other) ∙ h)

module _ (context : CompileContext) (main : List Op) (from : ℕ) (d0 d1 d2 : Draft) (old new : Bodies) (group end : ℕ) (c : Place) (p : CorePattern)
    (had : HasBodies context main from d0 old) (is : pattern_at (infos_of context) group ≡ p) (low : group < length (infos_of context))
    (draft : layout_of context group ≡ Some c) (wrote : d1 ≡ with_pat (layout_of context) context.unicode context.whole p old.end d0)
    (slots : end ≡ old.end + slots_with (layout_of context) p) (returns : d2 ≡ added (op.return c) d1) where
  abbrev b : Body
  b = record { group = group; start = length d0.ops; first = old.end; own = end - old.end }

  abbrev infos : List InfoTree
  infos = infos_of context

  abbrev S : List assembled.Body → List Op
  S = stretches (in_class context.unicode) (folded context.unicode) context.whole (layout_of context)

  abbrev one : assembled.Body → List Op
  one = stretch (in_class context.unicode) (folded context.unicode) context.whole (layout_of context)

  abbrev code : CorePattern → List Op
  code q = C context.unicode context.whole (layout_of context) q (length d0.ops) old.end

  one_is : code p ++ op.return c ∷ [] ≡ one (with_pattern infos b)
  one_is = ap₂ (λ q r. code q ++ return_code r) (sym is) (sym draft)

  more_is : (list : List Body) → S (bodies_of infos (list ++ b ∷ [])) ≡ S (bodies_of infos list) ++ one (with_pattern infos b)
  more_is list =
      ap S (map-append (with_pattern infos) list (b ∷ []))
      ∙ stretches_more (in_class context.unicode) (folded context.unicode) context.whole (layout_of context) (bodies_of infos list) (with_pattern infos b)

  ops_now : d2.ops ≡ main ++ S (bodies_of infos (old.list.items ++ b ∷ []))
  ops_now =
      ap (λ (d : Draft). d.ops) (returns ∙ ap (added (op.return c)) wrote)
      ∙ body_ops context.unicode context.whole (layout_of context) p c old.end d0 had.text
      ∙ ap₂ (λ x y. x ++ y) had.ops one_is ∙ append_assoc main (S (bodies_of infos old.list.items)) (one (with_pattern infos b))
      ∙ ap (λ x. main ++ x) (sym (more_is old.list.items))

  text_now : d2.text ≡ []
  text_now =
      ap (λ (d : Draft). d.text) (returns ∙ ap (added (op.return c)) wrote) ∙ body_text context.unicode context.whole (layout_of context) p c old.end d0

  own_is : b.own ≡ slots_with (layout_of context) (pattern_at infos group)
  own_is = let it = ap (slots_with (layout_of context)) is in omega (arith, slots, it)

  stand_now : StandFrom (in_class context.unicode) (folded context.unicode) context.whole (layout_of context) (length main) (bodies_of infos (old.list.items ++ b ∷ []))
  stand_now =
      let at : length d0.ops ≡ length main + length (S (bodies_of infos old.list.items)) = ap length had.ops ∙ length-append main (S (bodies_of infos old.list.items)) in
      subst (StandFrom (in_class context.unicode) (folded context.unicode) context.whole (layout_of context) (length main))
      (sym (map-append (with_pattern infos) old.list.items (b ∷ [])))
      (stand_more (in_class context.unicode) (folded context.unicode) context.whole (layout_of context) (length main) (bodies_of infos old.list.items) (with_pattern infos b)
      had.stand at own_is)

  module _ (fresh : get_or old.written.items group false ≡ false) where
    distinct_now : (i j : ℕ) (x y : Body) → slice_get (old.list.items ++ b ∷ []) i ≡ Some x → slice_get (old.list.items ++ b ∷ []) j ≡ Some y → x.group ≡ y.group → i ≡ j
    distinct_now i j x y at there same = choose (got_more old.list.items b x i at) (got_more old.list.items b y j there)
      where
        unmarked : (z : Body) (k : ℕ) → slice_get old.list.items k ≡ Some z → group ≡ z.group → ⊥
        unmarked z k got e =
            let marked = all_got (λ (v : Body). IsMarked old v.group) old.list.items k z had.all_marked got in
            true≢false (sym marked ∙ ap (λ g. get_or old.written.items g false) (sym e) ∙ fresh)

        choose : (slice_get old.list.items i ≡ Some x) ⊎ ((i ≡ length old.list.items) × (b ≡ x)) →
            (slice_get old.list.items j ≡ Some y) ⊎ ((j ≡ length old.list.items) × (b ≡ y)) → i ≡ j
        choose (inl s) (inl t) = had.distinct i j x y s t same
        choose (inl s) (inr t) = absurd (unmarked x i s (ap (λ (v : Body). v.group) t.1 ∙ sym same))
        choose (inr s) (inl t) = absurd (unmarked y j t (ap (λ (v : Body). v.group) s.1 ∙ same))
        choose (inr s) (inr t) = s.0 ∙ sym t.0

    module _ (list_is : new.list.items ≡ old.list.items ++ b ∷ []) (written_is : new.written.items ≡ set old.written.items group true) (end_is : new.end ≡ end) where
      inside : group < length old.written.items
      inside = let count = had.count in omega (arith, low, count)

      kept_mark : (k : ℕ) → IsMarked old k → IsMarked new k
      kept_mark k h = ap (λ m. get_or m k false) written_is ∙ marked_before old.written.items group inside k h

      new_mark : IsMarked new group
      new_mark = ap (λ m. get_or m group false) written_is ∙ marked_now old.written.items group inside

      marked_has : (k : ℕ) → IsMarked new k → HasBodyOf (old.list.items ++ b ∷ []) k
      marked_has k h = ⊎_elim
          (λ here. record { body = b; there = Contains-push old.list.items b; group = here })
          (λ before. let it = had.marked k before in record { body = it.body; there = Contains-append_left old.list.items (b ∷ []) it.body it.there; group = it.group })
          (which_marked old.written.items group inside k (sym (ap (λ m. get_or m k false) written_is) ∙ h))

      abbrev StackedTo : ℕ → List Body → Type 0
      StackedTo e l = AreStacked from e l

      abbrev IsDistinctList : List Body → Type 0
      IsDistinctList l = (i j : ℕ) (x y : Body) → slice_get l i ≡ Some x → slice_get l j ≡ Some y → x.group ≡ y.group → i ≡ j

      pub body_added : HasBodies context main from d2 new
      body_added =
          let ends : end ≡ old.end + b.own = omega (arith, slots) in
          record {
            text = text_now;
            ops = ops_now ∙ ap (λ l. main ++ S (bodies_of infos l)) (sym list_is);
            stand = subst (λ l. StandFrom (in_class context.unicode) (folded context.unicode) context.whole (layout_of context) (length main) (bodies_of infos l)) (sym list_is) stand_now;
            stacked = subst (λ (e : ℕ). StackedTo e new.list.items) (sym end_is) (subst (λ l. StackedTo end l) (sym list_is)
                (subst (λ (e : ℕ). StackedTo e (old.list.items ++ b ∷ [])) (sym ends) (stacked_more from old.end old.list.items b had.stacked refl)));
            marked = λ k h. subst (λ l. HasBodyOf l k) (sym list_is) (marked_has k h);
            all_marked = subst (All (λ (v : Body). IsMarked new v.group)) (sym list_is)
                (All-push (λ (v : Body). IsMarked new v.group) old.list.items b
                (All-weaker (λ (v : Body). IsMarked old v.group) (λ (v : Body). IsMarked new v.group) (λ v h. kept_mark v.group h) old.list.items had.all_marked) new_mark);
            distinct = subst IsDistinctList (sym list_is) distinct_now;
            count = ap length written_is ∙ length-set old.written.items group true ∙ had.count;
            groups = subst (All (λ (v : Body). v.group < length infos)) (sym list_is)
                (All-push (λ (v : Body). v.group < length infos) old.list.items b had.groups low);
            drafted = subst (All (λ (v : Body). is_some (layout_of context v.group) ≡ true)) (sym list_is)
                (All-push (λ (v : Body). is_some (layout_of context v.group) ≡ true) old.list.items b had.drafted (ap is_some draft));
          }

-- what is marked then
pub added_met : (context : CompileContext) (old new : Bodies) (need : Need) (b : Body) → need.group ≡ b.group → need.group < length old.written.items → new.list.items ≡ old.list.items ++ b ∷ [] →
    new.written.items ≡ set old.written.items need.group true → IsMet context old new need
added_met context old new need b same low list_is written_is = record {
  it = λ stays. ap (λ m. get_or m need.group false) written_is ∙ marked_now old.written.items need.group low;
  others = λ k h. ap (λ m. get_or m k false) written_is ∙ marked_before old.written.items need.group low k h;
  only = λ v there. ⊎_elim (λ before. inl before) (λ now. inr (same ∙ ap (λ (z : Body). z.group) now))
      (Contains-push_cases old.list.items b v (subst (λ l. Contains l v) list_is there));
}
