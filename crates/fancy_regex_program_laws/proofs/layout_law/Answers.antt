use Rattle.fancy_regex_program_laws.proofs.LayoutsAlike.{layouts_run_alike}
use Rattle.fancy_regex_program_laws.proofs.layout_law.Goals as goal

pub returns : goal.returns
returns c = layouts_run_alike
