use Rattle.std.proofs.Common.{rules, ◌≡◌, ◌++◌, ◌∙◌, [], List, ℕ, sym, ap, subst, chars, encode_utf8_all}
use Rattle.std.specs.Io.KnownBytes.{Appends}
use Rattle.fancy_regex_template.specs.Parts.{part_of}
use Rattle.fancy_regex_template.specs.Expansion.{part_text, parts_text, expansion}
use Rattle.fancy_regex_template.specs.RemainingParts.{remaining_parts}
use Rattle.fancy_regex_template.proofs.ExpansionLemmas.{more_done}
use Rattle.fancy_regex_template.proofs.WritingLemmas.{Appends-more, Appends-nothing, beginning, one_more, in_front, on_err}
use Rattle.fancy_regex_template.proofs.write.write_expansion.Goals as goal

pub loop-part-init : goal.loop-part-init
loop-part-init g c = (
  tt,
  tt,
  search rules,
  search rules,
  (
    [],
    Appends-nothing (g.W.Write.contents c.args.sink.now.writer.now),
    ap (λ it. parts_text c.args.syntax (g.G.GroupTexts.texts c.args.groups.now) (remaining_parts it)) c.into_iter-part-iterator.ensures.into_iter_gives
        ∙ ap (parts_text c.args.syntax (g.G.GroupTexts.texts c.args.groups.now)) c.template_parts-part-items.ensures,
  ),
)

pub loop-part-preserved : goal.loop-part-preserved
loop-part-preserved g c =
    let (done, so_far, others) = c.loop-part.invariant.4 in
    let r = c.part_text.result.now in
    let C = g.W.Write.contents in (
      tt,
      tt,
      search rules,
      search rules,
      (
        done ++ chars r,
        subst (λ (xs : List ℕ). Appends (C c.args.sink.now.writer.now) (C c.write_text.new.sink.writer.now) xs) (one_more done r c.part_text.utf8)
            (Appends-more (C c.args.sink.now.writer.now) (C c.loop-part.sink.writer.now) (C c.write_text.new.sink.writer.now) (encode_utf8_all done) r so_far c.in_ok-write_text.ensures.ok),
        more_done c.args.syntax (g.G.GroupTexts.texts c.args.groups.now) done (chars r) c.in-Some.part (remaining_parts c.loop-part.part-iterator)
            (remaining_parts c.next.new.self) _ c.part_text.ensures c.in-Some.ensures.steps others,
      ),
    )

pub returns-in_err-write_text-clause-err : goal.returns-in_err-write_text-clause-err
returns-in_err-write_text-clause-err g c =
    let (done, so_far, others) = c.loop-part.invariant.4 in
    let r = c.part_text.result.now in
    let C = g.W.Write.contents in
    let texts = g.G.GroupTexts.texts c.args.groups.now in
    let here = part_text c.args.syntax texts (part_of c.in-Some.part) in
    let later = parts_text c.args.syntax texts (remaining_parts c.next.new.self) in
    let all = expansion c.args.syntax texts (chars c.args.template.now) in
    let order : done ++ (here ++ later) ≡ all = ap (λ ps. done ++ parts_text c.args.syntax texts ps) (sym c.in-Some.ensures.steps) ∙ others in
    on_err c.from_residual.result _
    (beginning (C c.args.sink.now.writer.now) (C c.loop-part.sink.writer.now) (C c.write_text.new.sink.writer.now) (encode_utf8_all done) r (encode_utf8_all later) (encode_utf8_all all)
    (in_front done here later all r c.part_text.utf8 c.part_text.ensures order) so_far c.in_err-write_text.ensures.err)
