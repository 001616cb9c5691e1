use Rattle.std.proofs.lemmas.Result.{err_from_is_err_and}
use Rattle.fancy_regex_ffi.proofs.items.replaced_of.Goals as goal

pub returns-in_err-replaced_text-in-Regex : goal.returns-in_err-replaced_text-in-Regex
returns-in_err-replaced_text-in-Regex c =
    let p = err_from_is_err_and c.from_residual-in_err-replaced_text-in-Regex.result c.from_residual-in_err-replaced_text-in-Regex.ensures.1 in
    let same = c.in_ok-text-in-Regex.ensures.0 in
    let fails = rw same at c.in_err-replaced_text-in-Regex.ensures.fails in
    let passes = rw same at c.in_err-replaced_text-in-Regex.ensures.passes in
    rw (c.in-Regex.is, p.1, p.2) ((c.in_ok-text-in-Regex.ensures.1, c.in_ok-template-in-Regex.ensures.1), fails, passes)
