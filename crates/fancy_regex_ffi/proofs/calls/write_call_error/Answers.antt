use Rattle.std.proofs.Common.{sym, subst}
use Rattle.fancy_regex_ffi.specs.Texts.{IsFaultWritten}
use Rattle.fancy_regex_ffi.proofs.calls.write_call_error.Goals as goal

pub returns-in-Regex : goal.returns-in-Regex
returns-in-Regex c = subst (λ fault. IsFaultWritten _ fault c.args.out.now c.write_error.new.out c.write_error.result) (sym c.in-Regex.is) c.write_error.ensures
