-- Rows, branches and calls, as the functions of the emitter go over them.
use Rattle.std.proofs.Common.{◌≡◌, ℕ, suc, zero, ◌+◌, ◌≤◌, Bool, true, false, cond, List, [], ◌∷◌, ◌++◌, Some, None, refl, sym, ap, ◌∙◌, subst, arith}
use Rattle.std.specs.Prelude.{slice_get, ◌==◌}
use Rattle.fancy_regex_meaning.specs.Ways.{is_at_call_limit}
use Rattle.fancy_regex_desugar.specs.CorePatterns.{CorePattern, nothing, fail, repeat, called}
use Rattle.fancy_regex_meaning.specs.Sizes.{unbounded, bound_of}
use Rattle.std.proofs.lemmas.Bool.Decides.{nat_tests}
use Rattle.fancy_regex_desugar.specs.Unfolded.{repeated, pat_for}
use Rattle.fancy_regex_info.specs.Infos.{InfoTree}
use Rattle.fancy_regex_program.specs.Code.{Layout}
use Rattle.fancy_regex_program.specs.Ops as op
use Rattle.fancy_regex_program.specs.Ops.{Place}
use Rattle.fancy_regex_compiler.specs.Known.{info_written, info_call}
use Rattle.fancy_regex_compiler.specs.Writing.{Draft, draft_of, added, with_pat, Wrote}
use Rattle.fancy_regex_compiler.specs.declared.emitter.Emitter.{Emitter}
use Rattle.fancy_regex_compiler.proofs.Drafts.{pat_nothing, pat_fail, pat_called, slots_called, pat_stays, slots_stays}

-- What is repeated no times is nothing.
pub repeated_never : (p : CorePattern) (lo hi : ℕ) (greedy : Bool) → lo ≤ hi → hi ≡ 0 → repeated p lo hi greedy ≡ nothing
repeated_never p zero zero greedy le is = refl
repeated_never p zero (suc hi) greedy le is = absurd (omega (arith, is))
repeated_never p (suc lo) hi greedy le is = absurd (omega (arith, le, is))

-- what is repeated at all, with and without a greatest count
pub repeated_some : (p : CorePattern) (lo hi : ℕ) (greedy : Bool) → lo ≤ hi → (hi ≡ 0 → ⊥) → repeated p lo hi greedy ≡ repeat p lo (bound_of hi) greedy
repeated_some p zero zero greedy le some = absurd (some refl)
repeated_some p zero (suc hi) greedy le some = refl
repeated_some p (suc lo) hi greedy le some = refl

pub repeated_endless : (p : CorePattern) (lo hi : ℕ) (greedy : Bool) → lo ≤ hi → hi ≡ unbounded → repeated p lo hi greedy ≡ repeat p lo None greedy
repeated_endless p lo hi greedy le is =
    repeated_some p lo hi greedy le (λ none. absurd (let never : 0 ≡ unbounded = sym none ∙ is in omega (arith, never)))
    ∙ ap (λ n. repeat p lo (bound_of n) greedy) is

pub repeated_counted : (p : CorePattern) (lo hi : ℕ) (greedy : Bool) → lo ≤ hi → (hi ≡ 0 → ⊥) → (hi ≡ unbounded → ⊥) → repeated p lo hi greedy ≡ repeat p lo (Some hi) greedy
repeated_counted p lo hi greedy le some counted =
    repeated_some p lo hi greedy le some ∙ ap (λ b. repeat p lo (cond b None (Some hi)) greedy) (let other : (hi == unbounded) ≡ false = grind (arith, nat_tests, counted) in other)

module _ (layout : Layout) (u w : Bool) where
  abbrev P : CorePattern → ℕ → Draft → Draft
  P = with_pat layout u w

  pub wrote_nothing : (e : Emitter) (slot : ℕ) (p : CorePattern) → p ≡ nothing → Wrote layout u w e e slot slot p
  wrote_nothing e slot p is = subst (λ x. Wrote layout u w e e slot slot x) (sym is) (record {
    draft = sym (pat_nothing layout u w slot (draft_of e.body));
    slots = omega arith;
    opened = refl;
  })

  pub wrote_fail : (old new : Emitter) (slot : ℕ) (p : CorePattern) → p ≡ fail → draft_of new.body ≡ added op.fail (draft_of old.body) →
      new.opened.items ≡ old.opened.items → Wrote layout u w old new slot slot p
  wrote_fail old new slot p is drew opened = subst (λ x. Wrote layout u w old new slot slot x) (sym is) (record {
    draft = drew ∙ sym (pat_fail layout u w slot (draft_of old.body));
    slots = omega arith;
    opened = opened;
  })

  -- a call that fails
  pub wrote_no_call : (old new : Emitter) (slot k : ℕ) (p : CorePattern) → layout k ≡ None → p ≡ called k fail → draft_of new.body ≡ added op.fail (draft_of old.body) →
      new.opened.items ≡ old.opened.items → Wrote layout u w old new slot slot p
  wrote_no_call old new slot k p none is drew opened = subst (λ x. Wrote layout u w old new slot slot x) (sym is) (record {
    draft = drew ∙ sym (pat_fail layout u w slot (draft_of old.body)) ∙ sym (pat_called layout u w k fail slot (draft_of old.body) none);
    slots = omega (arith, slots_called layout u w k fail none);
    opened = opened;
  })

  -- a call that stays
  pub wrote_kept_call : (old new : Emitter) (slot k : ℕ) (c : Place) (p : CorePattern) → layout k ≡ Some c → draft_of new.body ≡ added (op.call c) (draft_of old.body) →
      new.opened.items ≡ old.opened.items → Wrote layout u w old new slot slot (called k p)
  wrote_kept_call old new slot k c p some drew opened = record {
    draft = drew ∙ sym (pat_stays layout u w k c p slot (draft_of old.body) some);
    slots = omega (arith, slots_stays layout u w k c p some);
    opened = opened;
  }

-- a call past the limit of open calls, and one that opens
pub call_full : (groups : List InfoTree) (m : ℕ) (opened : List ℕ) (k : ℕ) → is_at_call_limit opened k ≡ true → info_call groups m opened k ≡ called k fail
unfolding info_call
call_full groups zero opened k full = refl
call_full groups (suc m) opened k full =
    ap (λ b. called k (cond b fail (pat_for (λ x. (info_written (info_call groups m (opened ++ k ∷ [])) x).front) (slice_get groups k)))) full

pub call_none : (groups : List InfoTree) (m : ℕ) (opened : List ℕ) (k : ℕ) → m ≡ 0 → info_call groups m opened k ≡ called k fail
unfolding info_call
call_none groups m opened k none = ap (λ n. info_call groups n opened k) none

pub call_opens : (groups : List InfoTree) (m : ℕ) (opened : List ℕ) (k : ℕ) (x : InfoTree) → is_at_call_limit opened k ≡ false → slice_get groups k ≡ Some x →
    info_call groups (suc m) opened k ≡ called k (info_written (info_call groups m (opened ++ k ∷ [])) x).front
unfolding info_call
call_opens groups m opened k x free at =
    let inside = λ (y : InfoTree). (info_written (info_call groups m (opened ++ k ∷ [])) y).front in
    ap (λ b. called k (cond b fail (pat_for inside (slice_get groups k)))) free ∙ ap (λ o. called k (pat_for inside o)) at

-- A call is one whatever stands for its body.
pub call_shape : (groups : List InfoTree) (m : ℕ) (opened : List ℕ) (k : ℕ) → (p : CorePattern) × (info_call groups m opened k ≡ called k p)
unfolding info_call
call_shape groups zero opened k = (fail, refl)
call_shape groups (suc m) opened k =
    let inside = pat_for (λ x. (info_written (info_call groups m (opened ++ k ∷ [])) x).front) (slice_get groups k) in
    (cond (is_at_call_limit opened k) fail inside, refl)
