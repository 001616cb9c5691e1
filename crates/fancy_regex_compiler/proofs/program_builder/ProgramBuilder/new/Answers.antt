use Rattle.std.proofs.Common.{sym, ap, map, length, ◌∙◌, chars}
use Rattle.std.proofs.lemmas.Str.{chars-nil}
use Rattle.fancy_regex_program.specs.Ops.{op_of}
use Rattle.fancy_regex_compiler.proofs.Drafts.{same_draft}
use Rattle.fancy_regex_compiler.proofs.program_builder.ProgramBuilder.new.Goals as goal

pub invariant_of-result-clause-counted : goal.invariant_of-result-clause-counted
invariant_of-result-clause-counted c = sym (ap length (ap chars c.new-3.ensures.bytes ∙ chars-nil))

pub returns-clause-draft : goal.returns-clause-draft
returns-clause-draft c = same_draft (ap (map op_of) c.new.ensures.items) (ap chars c.new-3.ensures.bytes ∙ chars-nil)
