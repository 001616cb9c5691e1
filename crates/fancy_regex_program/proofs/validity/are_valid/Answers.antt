use Rattle.std.proofs.Common.{◌≡◌, ◌∙◌, ℕ, Some, length, sym, ap, subst}
use Rattle.std.specs.Prelude.{slice_get}
use Rattle.std.proofs.lemmas.List.{length-map}
use Rattle.std.proofs.lemmas.Option.{slice_get-get_or}
use Rattle.fancy_regex_program.specs.Ops.{op_of, ops_of}
use Rattle.fancy_regex_program.specs.ValidPrograms.{IsValidOp}
use Rattle.fancy_regex_program.proofs.EachOp.{each_more, each_all}
use Rattle.fancy_regex_program.proofs.validity.are_valid.Goals as goal

pub loop-pc-preserved : goal.loop-pc-preserved
loop-pc-preserved c =
    let body = c.args.body.now in
    let pc = c.loop-pc.pc in
    let insn = c.index-body-pc.result in
    let here : slice_get body pc ≡ Some insn = slice_get-get_or body pc insn c.loop-pc-test.true ∙ ap Some (sym c.index-body-pc.is) in
    let P = λ (size : ℕ). IsValidOp size c.args.slots pc (op_of insn) in
    each_more body (IsValidOp (length (ops_of body)) c.args.slots) pc insn here
    (subst P (sym (length-map body op_of)) (c.is_valid.ensures.valid c.if-not-is_valid.false)) c.loop-pc.invariant

pub returns-clause-valid : goal.returns-clause-valid
returns-clause-valid c = λ _.
    each_all c.args.body.now (IsValidOp (length (ops_of c.args.body.now)) c.args.slots) c.loop-pc.pc c.loop-pc-test.false c.loop-pc.invariant
