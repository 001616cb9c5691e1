use Rattle.std.proofs.Common.{rules, arith, ◌≡◌, length, refl, ap, map, ◌∙◌, [], ◌∷◌}
use Rattle.std.proofs.lemmas.List.{map-append, length-map}
use Rattle.fancy_regex_program.specs.Ops.{op_of}
use Rattle.fancy_regex_compiler.specs.Writing.{with_op}
use Rattle.fancy_regex_compiler.proofs.Drafts.{same_draft}
use Rattle.fancy_regex_compiler.specs.Extents.{extent}
use Rattle.fancy_regex_compiler.specs.Writing.{draft_of}
use Rattle.fancy_regex_compiler.proofs.RoomLemmas.{extent_op, extent_bare}
use Rattle.fancy_regex_compiler.proofs.program_builder.ProgramBuilder.push_insn.Goals as goal

pub returns : goal.returns
unfolding with_op
returns c =
    record {
      draft = same_draft (ap (map op_of) c.in_ok-push.ensures.items ∙ map-append op_of c.args.self.now.insns.items (c.args.insn ∷ [])) refl;
      cap = refl;
      long = ap extent (same_draft (ap (map op_of) c.in_ok-push.ensures.items ∙ map-append op_of c.args.self.now.insns.items (c.args.insn ∷ [])) refl)
          ∙ extent_op (op_of c.args.insn) (draft_of c.args.self.now);
      full = tt;
      refused = tt;
    }

pub returns-then-len-self : goal.returns-then-len-self
returns-then-len-self c =
    let b = c.args.self.now in
    let long : c.len.result ≡ length b.insns.items = search rules in
    record {
      draft = tt;
      cap = refl;
      long = tt;
      full = λ too. omega (arith, long, c.if-len-self.true, length-map b.insns.items op_of, extent_bare (draft_of b));
      refused = tt;
    }
