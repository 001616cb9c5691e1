use Rattle.fancy_regex_program_laws.proofs.WholeProgram.{programs_answer}
use Rattle.fancy_regex_program_laws.proofs.program_law.Goals as goal

pub returns : goal.returns
returns c = programs_answer
