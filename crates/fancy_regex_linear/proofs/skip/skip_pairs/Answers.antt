use Rattle.std.proofs.Common.{◌≡◌, ◌∙◌, inl}
use Rattle.fancy_regex_class.specs.Looks.{looked_text}
use Rattle.fancy_regex_linear.specs.Starts.{IsSkippedAt}
use Rattle.fancy_regex_linear.proofs.PassingLemmas.{and_after}
use Rattle.fancy_regex_linear.proofs.SkippedLemmas.{pairs_skipped}
use Rattle.fancy_regex_linear.proofs.skip.skip_pairs.Goals as goal

pub pass_pairs-requires-then-bytes-at-le-TOGETHER-clause-boundary : goal.pass_pairs-requires-then-bytes-at-le-TOGETHER-clause-boundary
pass_pairs-requires-then-bytes-at-le-TOGETHER-clause-boundary c =
    rw (c.count_places-2.ensures.text, c.count_places.ensures.text)
    (pairs_skipped c.args.context.now (looked_text c.args.text.now) c.args.it c.requires.table c.requires.text c.args.from c.requires.boundary
    c.as_bytes-bytes.result.now c.in-Some.at (c.as_bytes-bytes.ensures.value ∙ c.requires.table.text_is) c.in-Some.ensures).boundary

pub returns-then-bytes-at-le-TOGETHER-clause-passed : goal.returns-then-bytes-at-le-TOGETHER-clause-passed
returns-then-bytes-at-le-TOGETHER-clause-passed c =
    let rest = rw (c.count_places-2.ensures.text, c.count_places.ensures.text) at c.pass_pairs-then-bytes-at-le-TOGETHER.ensures.passed in
    and_after (IsSkippedAt c.args.context.now (looked_text c.args.text.now)) c.args.from c.in-Some.at c.pass_pairs-then-bytes-at-le-TOGETHER.result.0
    (pairs_skipped c.args.context.now (looked_text c.args.text.now) c.args.it c.requires.table c.requires.text c.args.from c.requires.boundary
    c.as_bytes-bytes.result.now c.in-Some.at (c.as_bytes-bytes.ensures.value ∙ c.requires.table.text_is) c.in-Some.ensures).passed
    (λ i low high. inl (rest i low high))

pub look-after-requires : goal.look-after-requires
look-after-requires c =
    rw (c.count_places-2.ensures.text, c.count_places.ensures.text)
    (pairs_skipped c.args.context.now (looked_text c.args.text.now) c.args.it c.requires.table c.requires.text c.args.from c.requires.boundary
    c.as_bytes-bytes.result.now c.in-Some.at (c.as_bytes-bytes.ensures.value ∙ c.requires.table.text_is) c.in-Some.ensures).boundary

pub returns-clause-place : goal.returns-clause-place
returns-clause-place c =
    let same : looked_text c.count_places-2.new.text ≡ looked_text c.args.text.now = c.count_places-2.ensures.text ∙ c.count_places.ensures.text in
    let is = (pairs_skipped c.args.context.now (looked_text c.args.text.now) c.args.it c.requires.table c.requires.text c.args.from c.requires.boundary
    c.as_bytes-bytes.result.now c.in-Some.at (c.as_bytes-bytes.ensures.value ∙ c.requires.table.text_is) c.in-Some.ensures) in
    record {
      range = is.range;
      boundary = is.boundary;
      after = rw same at c.look-after.ensures.after;
      next = rw same at c.look-after.ensures.next;
      text = c.look-after.ensures.text ∙ same;
      same_counter = c.look-after.ensures.same_counter ∙ c.count_places-2.ensures.same_counter ∙ c.count_places.ensures.same_counter;
    }

pub returns-clause-passed : goal.returns-clause-passed
returns-clause-passed c =
    (pairs_skipped c.args.context.now (looked_text c.args.text.now) c.args.it c.requires.table c.requires.text c.args.from c.requires.boundary
    c.as_bytes-bytes.result.now c.in-Some.at (c.as_bytes-bytes.ensures.value ∙ c.requires.table.text_is) c.in-Some.ensures).passed

pub returns-in_default-clause-passed : goal.returns-in_default-clause-passed
returns-in_default-clause-passed c i low high = inl (c.pass_pairs.ensures.passed i low high)
