use Rattle.std.proofs.Common.{Bor, List, ℕ, refl}
use Rattle.std.proofs.lemmas.Result.{err_from_is_err_and}
use Rattle.fancy_regex_ffi.proofs.SetLemmas.{refused_at}
use Rattle.fancy_regex_ffi.proofs.sets.patterns_of.Goals as goal

pub returns-in_err-text-clause-refused : goal.returns-in_err-text-clause-refused
returns-in_err-text-clause-refused c =
    let p = err_from_is_err_and c.from_residual.result c.from_residual.ensures.1 in
    let piece = rw c.in_err-text.was at c.pattern_at.ensures in
    let contents = c.loop-end.invariant in
    rw (p.1, p.2) (refused_at (λ (t : Bor (List ℕ)). t.now) c.args.bytes.now c.args.ends.now c.loop-end.start c.loop-end.end-index _ c.loop-end.texts.items _ c.loop-end-test.true refl piece contents.texts contents.rise)
