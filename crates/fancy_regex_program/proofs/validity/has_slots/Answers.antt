use Rattle.std.proofs.Common.{◌≡◌, ℕ, true, Bool, sym, subst, ⊎_elim}
use Rattle.fancy_regex_program.specs.Ops.{Op, op_of, place_of, call, return}
use Rattle.fancy_regex_program.specs.ValidPrograms.{HasSlots, HasPlace, CountsPastLeast}
use Rattle.fancy_regex_program.specs.declared.insn.Callee.{Callee}
use Rattle.fancy_regex_program.specs.declared.insn.Insn.{Insn}
use Rattle.fancy_regex_program.specs.declared.insn.Insn.TheVariants.{Call, Return}
use Rattle.fancy_regex_program.proofs.validity.has_slots.Goals as goal

pub returns-in-Call-clause-valid : goal.returns-in-Call-clause-valid
returns-in-Call-clause-valid c = λ there.
    let place : HasPlace c.args.slots (place_of c.in-Call.callee.value) =
    subst (λ (v : Callee). HasPlace c.args.slots (place_of v)) c.deref-in-Call.ensures (c.has_place.ensures.valid there) in
    let P = λ (i : Insn). HasSlots c.args.slots (op_of i) × CountsPastLeast (op_of i) in
    ⊎_elim (λ (e : c.args.insn.now ≡ Call c.in-Call.callee). subst P (sym e) (place, tt)) (λ (e : c.args.insn.now ≡ Return c.in-Call.callee). subst P (sym e) (place, tt)) c.in-Call.is

pub returns-in-Call-clause-complete : goal.returns-in-Call-clause-complete
returns-in-Call-clause-complete c = λ slots counts.
    let P = λ (i : Insn). HasSlots c.args.slots (op_of i) in
    let place : HasPlace c.args.slots (place_of c.in-Call.callee.value) =
    ⊎_elim (λ (e : c.args.insn.now ≡ Call c.in-Call.callee). subst P e slots) (λ (e : c.args.insn.now ≡ Return c.in-Call.callee). subst P e slots) c.in-Call.is in
    c.has_place.ensures.complete (subst (λ (v : Callee). HasPlace c.args.slots (place_of v)) (sym c.deref-in-Call.ensures) place)
