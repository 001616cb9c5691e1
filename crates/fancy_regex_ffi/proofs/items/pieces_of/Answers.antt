use Rattle.std.proofs.lemmas.Result.{err_from_is_err_and}
use Rattle.fancy_regex_ffi.proofs.items.pieces_of.Goals as goal

pub returns-in_err-piece_spans-in-Ok : goal.returns-in_err-piece_spans-in-Ok
returns-in_err-piece_spans-in-Ok c =
    let p = err_from_is_err_and c.from_residual.result c.from_residual.ensures.1 in
    let same = c.in-Ok.ensures.0 in
    let fails = rw same at c.in_err-piece_spans-in-Ok.ensures.fails in
    let passes = rw same at c.in_err-piece_spans-in-Ok.ensures.passes in
    rw (c.in-Regex.is, p.1, p.2) (c.in-Ok.ensures.1, fails, passes)
