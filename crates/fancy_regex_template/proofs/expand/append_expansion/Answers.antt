use Rattle.std.proofs.Common.{◌++◌, ◌∙◌, [], length, sym, ap, chars, string_bytes, encode_utf8_all, append-nil}
use Rattle.std.proofs.lemmas.Str.{IsUtf8-string_bytes}
use Rattle.fancy_regex_template.specs.Expansion.{parts_text}
use Rattle.fancy_regex_template.specs.RemainingParts.{remaining_parts}
use Rattle.fancy_regex_template.proofs.ExpansionLemmas.{appended, more_done, cut_back, bytes_back}
use Rattle.fancy_regex_template.proofs.expand.append_expansion.Goals as goal

pub loop-part-init : goal.loop-part-init
loop-part-init g c = (
  tt,
  tt,
  (
    [],
    sym (append-nil (string_bytes c.args.out.now)),
    ap (λ it. parts_text c.args.syntax (g.G.GroupTexts.texts c.args.groups.now) (remaining_parts it)) c.into_iter-part-iterator.ensures.into_iter_gives
        ∙ ap (parts_text c.args.syntax (g.G.GroupTexts.texts c.args.groups.now)) c.template_parts-part-items.ensures,
  ),
)

pub truncate-requires : goal.truncate-requires
truncate-requires g c _ =
    let (done, so_far, others) = c.loop-part.invariant.2 in
    cut_back (string_bytes c.args.out.now) (string_bytes c.push_str.new.self) (encode_utf8_all done) (length c.as_str-before.result.now)
    (ap length c.as_str-before.ensures.value) (IsUtf8-string_bytes c.args.out.now) (IsUtf8-string_bytes c.push_str.new.self)
    (c.in-Err.ensures.bytes ∙ so_far)

pub returns-in-Err-clause-refused : goal.returns-in-Err-clause-refused
returns-in-Err-clause-refused g c =
    let (done, so_far, others) = c.loop-part.invariant.2 in
    bytes_back (string_bytes c.args.out.now) (string_bytes c.push_str.new.self) (encode_utf8_all done) (string_bytes c.truncate.new.self) (length c.as_str-before.result.now)
    (ap length c.as_str-before.ensures.value) (c.in-Err.ensures.bytes ∙ so_far) c.truncate.ensures.bytes

pub loop-part-preserved : goal.loop-part-preserved
loop-part-preserved g c =
    let (done, so_far, others) = c.loop-part.invariant.2 in (
      tt,
      tt,
      (
        done ++ chars c.part_text.result.now,
        appended (string_bytes c.args.out.now) (string_bytes c.loop-part.out) (string_bytes c.push_str.new.self) c.part_text.result.now done c.part_text.utf8 so_far c.in_default.ensures.bytes,
        more_done c.args.syntax (g.G.GroupTexts.texts c.args.groups.now) done (chars c.part_text.result.now) c.in-Some.part
            (remaining_parts c.loop-part.part-iterator) (remaining_parts c.next.new.self) _ c.part_text.ensures c.in-Some.ensures.steps others,
      ),
    )
