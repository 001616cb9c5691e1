use Rattle.std.proofs.Common.{◌≡◌, ◌-◌, ◌++◌, take, drop, arith, rules, ap, sym, subst, ◌∙◌, take_all, length-append, append_assoc}
use Rattle.std.specs.Prelude.{IsUtf8, codes, string_bytes}
use Rattle.std.proofs.lemmas.Str.{IsUtf8-from_ascii}
use Rattle.fancy_search_text.specs.Lines.{span_text}
use Rattle.fancy_search_text.proofs.DigitLemmas.{line_ascii}
use Rattle.fancy_search_text.proofs.lines.write_span_line.Goals as goal
use Rattle.fancy_search_text.proofs.lines.write_span_line.Goals.{After-put_span-first}

-- the last bytes are the text of the span and the end of the line
written : (c : After-put_span-first) → take (43 - c.put_span-first.result) (drop c.put_span-first.result c.put_span-first.new.text) ≡ span_text (c.args.found.start, c.args.found.end) ++ codes "\n"
written c =
    let put = c.put_span-first in
    let text_is = rw (c.start.ensures, c.end.ensures) at put.ensures.written in
    let place = rw (c.start.ensures, c.end.ensures) at put.ensures.place in
    ap (λ xs. take (43 - put.result) xs) text_is
    ∙ take_all (43 - put.result) (span_text (c.args.found.start, c.args.found.end) ++ codes "\n") (omega (arith, place, length-append (span_text (c.args.found.start, c.args.found.end)) (codes "\n")))

pub from_utf8_unchecked-requires : goal.from_utf8_unchecked-requires
from_utf8_unchecked-requires c =
    subst IsUtf8 (sym (written (goal.at.from_utf8_unchecked-requires c).After-put_span-first))
    (IsUtf8-from_ascii (span_text (c.args.found.start, c.args.found.end) ++ codes "\n") (line_ascii c.args.found.start c.args.found.end (omega arith) (omega arith)))

pub returns : goal.returns
returns c =
    rw (append_assoc (string_bytes c.args.line.now) (span_text (c.args.found.start, c.args.found.end)) (codes "\n"), sym (c.from_utf8_unchecked.ensures ∙ written (goal.at.returns c).After-put_span-first)) (search rules)
