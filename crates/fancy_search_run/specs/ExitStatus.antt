-- The exit status of the program.
use Rattle.std.specs.Prelude.{ℕ, Result, Ok, Err}
use Rattle.fancy_search_run.specs.declared.fault.Fault.{Fault}
use Rattle.fancy_search_run.specs.declared.fault.Fault.TheVariants as faults
use Rattle.fancy_search_run.specs.declared.status.Status.{Status}
use Rattle.fancy_search_run.specs.declared.status.Status.TheVariants.{Done, Nothing}

-- 0 where all is done and after help, 1 where nothing was found, 2 on every other fault
abbrev pub exit_status_of : Result Status Fault → ℕ
exit_status_of (Ok Done) = 0
exit_status_of (Ok Nothing) = 1
exit_status_of (Err (faults.Help text)) = 0
exit_status_of (Err _) = 2
