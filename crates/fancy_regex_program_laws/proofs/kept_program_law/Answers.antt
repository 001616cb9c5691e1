use Rattle.fancy_regex_program_laws.proofs.KeptPrograms.{kept_programs_answer}
use Rattle.fancy_regex_program_laws.proofs.kept_program_law.Goals as goal

pub returns : goal.returns
returns c = kept_programs_answer
