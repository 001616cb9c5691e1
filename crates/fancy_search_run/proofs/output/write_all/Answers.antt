use Rattle.std.proofs.Common.{rules, arith, ◌≡◌, ◌-◌, ◌≤◌, take, drop, length, sym, subst, List, ℕ, ◌∙◌}
use Rattle.std.proofs.Math.Seq.{take-add}
use Rattle.std.proofs.lemmas.List.{take-take}
use Rattle.std.specs.Io.KnownBytes.{Appends}
use Rattle.fancy_search_run.proofs.Bytes.{Appends-more, no_bytes}
use Rattle.fancy_search_run.proofs.output.write_all.Goals as goal

pub loop-done-preserved : goal.loop-done-preserved
loop-done-preserved g c =
    let bs = c.args.bytes.now in
    let done = c.loop-done.done in
    let n = c.in-Ok.n in
    let inv = c.loop-done.invariant in
    let C = g.W.Write.contents in
    let first = C c.args.sink.now.writer.now in
    let here = C c.loop-done.sink.writer.now in
    let next = C c.write.new.self.writer.now in
    let within : n ≤ length bs - done = search rules in
    let wrote : Appends here next (take n (drop done bs)) =
    subst (λ (xs : List ℕ). Appends here next xs) (take-take n (length bs - done) (drop done bs) within) c.in-Ok.ensures.bytes in (
      search rules,
      subst (λ (xs : List ℕ). Appends first next xs) (sym (take-add done n bs)) (Appends-more first here next (take done bs) (take n (drop done bs)) inv.1 wrote),
      search rules,
      search rules,
      λ failed. absurd (c.in-Ok.ensures.refused (inv.3 ∙ failed)).0,
      λ failed. absurd (c.in-Ok.ensures.refused (inv.3 ∙ failed)).0,
    )

pub returns-clause-silent : goal.returns-clause-silent
returns-clause-silent g c =
    λ failed.
    let none : c.loop-done.done ≡ 0 = c.loop-done.invariant.5 failed in
    no_bytes c.args.bytes.now (omega (arith, none, c.loop-done-test.false))
