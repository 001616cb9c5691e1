use Rattle.std.proofs.Common.{◌≡◌, Some, sym, ap, ◌∙◌, arith}
use Rattle.std.specs.Prelude.{slice_get}
use Rattle.std.proofs.lemmas.Option.{slice_get-get_or}
use Rattle.fancy_regex_compiler.specs.Extents.{extent}
use Rattle.fancy_regex_program.specs.Ops.{op_of}
use Rattle.fancy_regex_compiler.specs.Writing.{draft_of, ends_at}
use Rattle.fancy_regex_compiler.proofs.RoomLemmas.{extent_ended}
use Rattle.fancy_regex_compiler.proofs.TailEnds.{ended_there, ended_nowhere}
use Rattle.fancy_regex_compiler.proofs.program_builder.ProgramBuilder.end_tail.Goals as goal

pub returns-then-at-len-clause-draft : goal.returns-then-at-len-clause-draft
returns-then-at-len-clause-draft c =
    let xs = c.args.self.now.insns.items in
    let x = c.index_mut.result.now in
    let found : slice_get xs c.args.at ≡ Some x = slice_get-get_or xs c.args.at x (omega arith) ∙ ap Some (sym c.index_mut.ensures.value) in
    ended_there xs c.args.at c.args.end x c.replace-insn.new.dest c.ended_at.result _ found (c.ended_at.ensures ∙ ap (λ i. ends_at c.args.end (op_of i)) c.replace-insn.ensures.value)

pub returns-then-at-len-clause-long : goal.returns-then-at-len-clause-long
returns-then-at-len-clause-long c = ap extent (returns-then-at-len-clause-draft c) ∙ extent_ended c.args.at c.args.end (draft_of c.args.self.now)

pub returns-else-at-len-clause-draft : goal.returns-else-at-len-clause-draft
returns-else-at-len-clause-draft c =
    let xs = c.args.self.now.insns.items in
    ended_nowhere xs c.args.at c.args.end _ (omega arith)
