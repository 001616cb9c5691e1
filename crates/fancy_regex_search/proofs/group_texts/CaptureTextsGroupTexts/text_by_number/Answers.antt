use Rattle.std.proofs.Common.{◌∙◌, ap, chars, Some, None}
use Rattle.fancy_regex_search.proofs.GroupTextLemmas.{span_text}
use Rattle.fancy_regex_search.proofs.group_texts.CaptureTextsGroupTexts.text_by_number.Goals as goal

pub returns-in_err-start : goal.returns-in_err-start
returns-in_err-start c = rw c.from_residual.ensures (span_text c.args.self.now.haystack.now c.args.self.now.slots.now c.args.number None c.in_err-start.ensures)

pub returns : goal.returns
returns c = ap (λ x. Some (chars x)) c.range.ensures.value
    ∙ span_text c.args.self.now.haystack.now c.args.self.now.slots.now c.args.number (Some (c.in_ok-start.start, c.in_ok-start.end)) c.in_ok-start.ensures
