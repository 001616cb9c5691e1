use Rattle.std.proofs.Common.{◌≡◌, ℕ, ◌/◌, ◌≤◌, length, arith, rules}
use Rattle.std.proofs.lemmas.List.{length-map}
use Rattle.fancy_regex_program.specs.Ops.{op_of}
use Rattle.fancy_regex_compiler.specs.Writing.{draft_of}
use Rattle.fancy_regex_compiler.proofs.RoomLemmas.{extent_bare}
use Rattle.fancy_regex_compiler.proofs.program_builder.ProgramBuilder.check_room.Goals as goal

less : (n : ℕ) → n / 1000 ≤ n
less n = omega arith

pub returns-then-characters-self-clause-full : goal.returns-then-characters-self-clause-full
returns-then-characters-self-clause-full c = λ too.
    let b = c.args.self.now in
    let long : c.len.result ≡ length b.insns.items = search rules in
    omega (arith, c.if-characters-self.true, less c.args.characters, long, length-map b.insns.items op_of, extent_bare (draft_of b))
