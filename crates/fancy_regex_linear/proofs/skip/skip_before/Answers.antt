use Rattle.std.proofs.Common.{◌∙◌}
use Rattle.fancy_regex_class.specs.Looks.{looked_text}
use Rattle.fancy_regex_linear.proofs.SkippedLemmas.{after_skipped}
use Rattle.fancy_regex_linear.proofs.skip.skip_before.Goals as goal

pub look-after-requires : goal.look-after-requires
look-after-requires c =
    let is = after_skipped c.args.context.now (looked_text c.args.text.now) c.args.it c.requires.table c.requires.text c.args.from c.requires.boundary
    c.args.before.now c.requires.before c.as_bytes-bytes.result.now c.after_pairs_until-at.result (c.as_bytes-bytes.ensures.value ∙ c.requires.table.text_is)
    c.after_pairs_until-at.ensures in
    rw c.count_places.ensures.text is.boundary

pub returns-clause-place : goal.returns-clause-place
returns-clause-place c =
    let is = after_skipped c.args.context.now (looked_text c.args.text.now) c.args.it c.requires.table c.requires.text c.args.from c.requires.boundary
    c.args.before.now c.requires.before c.as_bytes-bytes.result.now c.after_pairs_until-at.result (c.as_bytes-bytes.ensures.value ∙ c.requires.table.text_is)
    c.after_pairs_until-at.ensures in
    record {
      range = is.range;
      boundary = is.boundary;
      after = rw c.count_places.ensures.text at c.look-after.ensures.after;
      next = rw c.count_places.ensures.text at c.look-after.ensures.next;
      text = c.look-after.ensures.text ∙ c.count_places.ensures.text;
      same_counter = c.look-after.ensures.same_counter ∙ c.count_places.ensures.same_counter;
    }

pub returns-clause-passed : goal.returns-clause-passed
returns-clause-passed c =
    (after_skipped c.args.context.now (looked_text c.args.text.now) c.args.it c.requires.table c.requires.text c.args.from c.requires.boundary
    c.args.before.now c.requires.before c.as_bytes-bytes.result.now c.after_pairs_until-at.result (c.as_bytes-bytes.ensures.value ∙ c.requires.table.text_is)
    c.after_pairs_until-at.ensures).passed
