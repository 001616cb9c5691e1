-- Patterns that take no room: nothing is written of them.
use Rattle.std.proofs.Common.{◌≡◌, ℕ, ◌+◌, Bool, List, Option, Some, None, refl, sym, ap, ◌∙◌, arith}
use Rattle.fancy_regex_desugar.specs.CorePatterns.{CorePattern, nothing, cat, called}
use Rattle.fancy_regex_program.specs.Code.{Layout, slots_with}
use Rattle.fancy_regex_program.specs.Ops.{Place}
use Rattle.fancy_regex_compiler.specs.Rooms.{room_at_call, room_with}
use Rattle.fancy_regex_compiler.specs.Needs.{IsAllowedUnder}
use Rattle.fancy_regex_compiler.specs.Writing.{Draft, draft_of, with_pat, Wrote}
use Rattle.fancy_regex_compiler.specs.declared.emitter.Emitter.{Emitter}
use Rattle.fancy_regex_compiler.specs.declared.emitter.Need.{Need}
use Rattle.fancy_regex_compiler.proofs.Drafts.{pat_nothing, pat_cat, pat_called, slots_called}
use Rattle.fancy_regex_compiler.proofs.NeedLemmas.{called_allowed}

-- a call that takes no room is written out, and takes none inside
call_out : (o : Option Place) (n : ℕ) → room_at_call o n ≡ 0 → (o ≡ None) × (n ≡ 0)
call_out None n e = (refl, e)
call_out (Some c) n e = absurd (omega (arith, e))

module _ (layout : Layout) where
  inside_call : (k : ℕ) (a : CorePattern) → room_with layout (called k a) ≡ 0 → (layout k ≡ None) × (room_with layout a ≡ 0)
  unfolding room_with
  inside_call k a e = call_out (layout k) (room_with layout a) e

  silent_slots : (u w : Bool) (p : CorePattern) → room_with layout p ≡ 0 → slots_with layout p ≡ 0
  unfolding room_with
  silent_slots u w nothing e = refl
  silent_slots u w (cat a b) e = omega (arith, silent_slots u w a (omega (arith, e)), silent_slots u w b (omega (arith, e)))
  silent_slots u w (called k a) e = let h = inside_call k a e in slots_called layout u w k a h.0 ∙ silent_slots u w a h.1
  silent_slots u w _ e = absurd (omega (arith, e))

  silent_draft : (u w : Bool) (p : CorePattern) (slot : ℕ) (d : Draft) → room_with layout p ≡ 0 → with_pat layout u w p slot d ≡ d
  unfolding room_with
  silent_draft u w nothing slot d e = pat_nothing layout u w slot d
  silent_draft u w (cat a b) slot d e =
      pat_cat layout u w a b slot d ∙ ap (with_pat layout u w b (slot + slots_with layout a)) (silent_draft u w a slot d (omega (arith, e)))
      ∙ silent_draft u w b (slot + slots_with layout a) d (omega (arith, e))
  silent_draft u w (called k a) slot d e = let h = inside_call k a e in pat_called layout u w k a slot d h.0 ∙ silent_draft u w a slot d h.1
  silent_draft u w _ slot d e = absurd (omega (arith, e))

  pub allowed_silent : (all : List Need) (unicode keeps : Bool) (p : CorePattern) → room_with layout p ≡ 0 → IsAllowedUnder layout all unicode keeps p
  unfolding room_with
  allowed_silent all unicode keeps nothing e = tt
  allowed_silent all unicode keeps (cat a b) e = (allowed_silent all unicode keeps a (omega (arith, e)), allowed_silent all unicode keeps b (omega (arith, e)))
  allowed_silent all unicode keeps (called k a) e =
      let h = inside_call k a e in called_allowed layout all unicode keeps k a h.0 (allowed_silent all unicode keeps a h.1)
  allowed_silent all unicode keeps _ e = absurd (omega (arith, e))

  pub wrote_silent : (u w : Bool) (e : Emitter) (slot : ℕ) (p : CorePattern) → room_with layout p ≡ 0 → Wrote layout u w e e slot slot p
  wrote_silent u w e slot p none = record {
    draft = sym (silent_draft u w p slot (draft_of e.body) none);
    slots = omega (arith, silent_slots u w p none);
    opened = refl;
  }
