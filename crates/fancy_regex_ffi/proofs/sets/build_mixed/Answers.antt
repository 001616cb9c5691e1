use Rattle.std.proofs.lemmas.Result.{err_from_is_err_and}
use Rattle.fancy_regex_ffi.proofs.SetLemmas.{piece_refuses_mixed}
use Rattle.fancy_regex_ffi.proofs.sets.build_mixed.Goals as goal

pub returns-in_err-texts-clause-refused : goal.returns-in_err-texts-clause-refused
returns-in_err-texts-clause-refused c =
    let p = err_from_is_err_and c.from_residual.result c.from_residual.ensures.1 in
    rw (p.1, p.2) (piece_refuses_mixed c.args.options.now c.args.patterns.now c.args.ends.now _ c.in_err-texts.ensures.refused)
