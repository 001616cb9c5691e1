use Rattle.std.proofs.Common.{◌++◌, ◌∙◌, ap, chars}
use Rattle.fancy_regex_template.specs.RemainingParts.{remaining_parts}
use Rattle.fancy_regex_template.proofs.ExpansionLemmas.{appended, more_done}
use Rattle.fancy_regex_template.proofs.write.append_expansion_bytes.Goals as goal

pub loop-part-preserved : goal.loop-part-preserved
loop-part-preserved g c =
    let (done, so_far, others) = c.loop-part.invariant.2 in
    let r = c.part_text-text.result.now in (
      tt,
      tt,
      (
        done ++ chars r,
        appended c.args.out.now.items c.loop-part.out.items c.extend_from_slice.new.self.items r done c.part_text-text.utf8 so_far
            (c.in_default.ensures.items ∙ ap (λ x. c.loop-part.out.items ++ x) c.as_bytes.ensures.value),
        more_done c.args.syntax (g.G.GroupTexts.texts c.args.groups.now) done (chars r) c.in-Some.part (remaining_parts c.loop-part.part-iterator)
            (remaining_parts c.next.new.self) _ c.part_text-text.ensures c.in-Some.ensures.steps others,
      ),
    )
