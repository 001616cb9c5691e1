use Rattle.std.proofs.Common.{refl, sym, ap, map, ◌∙◌, ◌≤◌, length, arith}
use Rattle.std.proofs.lemmas.List.{map-set, set_past, length-map}
use Rattle.fancy_regex_program.specs.Ops.{op_of}
use Rattle.fancy_regex_compiler.specs.Writing.{patched}
use Rattle.fancy_regex_compiler.proofs.Drafts.{same_draft}
use Rattle.fancy_regex_compiler.specs.Extents.{extent}
use Rattle.fancy_regex_compiler.specs.Writing.{draft_of}
use Rattle.fancy_regex_compiler.proofs.RoomLemmas.{extent_patched}
use Rattle.fancy_regex_compiler.proofs.program_builder.ProgramBuilder.patch.Goals as goal

pub returns-then-at-len-clause-draft : goal.returns-then-at-len-clause-draft
unfolding patched
returns-then-at-len-clause-draft c = same_draft (map-set op_of c.args.self.now.insns.items c.args.at c.args.insn) refl

pub returns-else-at-len-clause-draft : goal.returns-else-at-len-clause-draft
unfolding patched
returns-else-at-len-clause-draft c =
    let xs = c.args.self.now.insns.items in
    let past : length (map op_of xs) ≤ c.args.at = omega (arith, length-map xs op_of) in
    same_draft (sym (set_past (map op_of xs) c.args.at (op_of c.args.insn) past)) refl

pub returns-then-at-len-clause-long : goal.returns-then-at-len-clause-long
returns-then-at-len-clause-long c =
    ap extent (returns-then-at-len-clause-draft c) ∙ extent_patched c.args.at (op_of c.args.insn) (draft_of c.args.self.now)
