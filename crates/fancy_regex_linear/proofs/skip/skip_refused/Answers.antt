use Rattle.std.proofs.Common.{◌∙◌, inl}
use Rattle.fancy_regex_class.specs.Looks.{looked_text}
use Rattle.fancy_regex_linear.proofs.SkippedLemmas.{firsts_skipped}
use Rattle.fancy_regex_linear.proofs.skip.skip_refused.Goals as goal

pub look-after-requires : goal.look-after-requires
look-after-requires c =
    let is = firsts_skipped c.args.context.now (looked_text c.args.text.now) c.args.it c.requires.table c.requires.text c.args.from c.requires.boundary
    c.as_bytes.result.now c.in-Some.at (c.as_bytes.ensures.value ∙ c.requires.table.text_is) c.in-Some.ensures in
    rw c.count_places.ensures.text is.boundary

pub returns-clause-place : goal.returns-clause-place
returns-clause-place c =
    let is = firsts_skipped c.args.context.now (looked_text c.args.text.now) c.args.it c.requires.table c.requires.text c.args.from c.requires.boundary
    c.as_bytes.result.now c.in-Some.at (c.as_bytes.ensures.value ∙ c.requires.table.text_is) c.in-Some.ensures in
    record {
      range = is.range;
      boundary = is.boundary;
      after = rw c.count_places.ensures.text at c.look-after.ensures.after;
      next = rw c.count_places.ensures.text at c.look-after.ensures.next;
      text = c.look-after.ensures.text ∙ c.count_places.ensures.text;
      same_counter = c.look-after.ensures.same_counter ∙ c.count_places.ensures.same_counter;
    }

pub returns-clause-passed : goal.returns-clause-passed
returns-clause-passed c =
    (firsts_skipped c.args.context.now (looked_text c.args.text.now) c.args.it c.requires.table c.requires.text c.args.from c.requires.boundary
    c.as_bytes.result.now c.in-Some.at (c.as_bytes.ensures.value ∙ c.requires.table.text_is) c.in-Some.ensures).passed

pub returns-in_default-clause-place : goal.returns-in_default-clause-place
returns-in_default-clause-place c =
    let is = c.skip_ascii.ensures in
    record { range = is.range; boundary = is.boundary; after = is.after; next = is.next; text = is.text; same_counter = is.same_counter }

pub returns-in_default-clause-passed : goal.returns-in_default-clause-passed
returns-in_default-clause-passed c i low high = inl (inl (c.skip_ascii.ensures.passed i low high))
