use Rattle.std.proofs.Common.{◌≡◌, ◌∙◌, true, false, refl, sym, arith}
use Rattle.std.proofs.lemmas.Bool.{false≢true}
use Rattle.regex_hir.specs.Text.{is_boundary}
use Rattle.fancy_regex_meaning.proofs.BoundaryLemmas.{IsCharBoundary-of_test}
use Rattle.fancy_regex_prefilter.specs.RunContexts.{may_start, seek_of}
use Rattle.fancy_regex_prefilter.proofs.StartLemmas.{start_here, start_later}
use Rattle.fancy_regex_prefilter.proofs.start.start_from.Goals as goal
use Rattle.fancy_regex_prefilter.proofs.start.start_from.Goals.{else-is_char_boundary-via-then-is_char_boundary+else-is_sought, else-is_char_boundary-via-else-is_char_boundary}

pub returns-then-is_sought-clause-first : goal.returns-then-is_sought-clause-first
returns-then-is_sought-clause-first c =
    let p = c.args.run.now in
    sym (c.loop-cursor.invariant.same ∙ start_here p.text.now (may_start p.text.now (seek_of p)) p.input.now.range.end c.loop-cursor.cursor c.loop-cursor-test.true
    (c.if-is_char_boundary.ensures.test.0 refl) (sym c.if-is_sought.ensures))

pub loop-cursor-preserved : goal.loop-cursor-preserved
loop-cursor-preserved c =
    let p = c.args.run.now in
    let text = p.text.now in
    let at = c.loop-cursor.cursor in
    let never : is_boundary text at ≡ true → may_start text (seek_of p) at ≡ false = elim c.else-is_char_boundary.branch [
      | else-is_char_boundary-via-then-is_char_boundary+else-is_sought w ↦ λ e. sym w.is_sought.ensures ∙ w.if-is_sought.false
      | else-is_char_boundary-via-else-is_char_boundary w ↦ λ e.
          absurd (false≢true (sym w.if-is_char_boundary.false ∙ c.is_char_boundary.ensures.test.1 (IsCharBoundary-of_test text at (omega (arith, c.requires.stop, c.loop-cursor-test.true)) e)))
    ] in
    record {
      same = c.loop-cursor.invariant.same ∙ start_later text (may_start text (seek_of p)) p.input.now.range.end at c.loop-cursor-test.true never;
      from = omega (arith, c.loop-cursor.invariant.from);
    }
