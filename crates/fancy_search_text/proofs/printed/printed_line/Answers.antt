use Rattle.std.proofs.Common.{◌∙◌, ◌++◌, Option, ap, arith, sym, String}
use Rattle.std.specs.Prelude.{option_map, string_bytes}
use Rattle.std.specs.Global.{Global}
use Rattle.std.proofs.lemmas.Str.{IsUtf8-string_bytes}
use Rattle.fancy_regex.specs.Reprinted.{text_in}
use Rattle.fancy_search_text.proofs.PrintedLemmas.{line_is}
use Rattle.fancy_search_text.proofs.printed.printed_line.Goals as goal

pub returns-in_ok-push-in-Some-clause-line : goal.returns-in_ok-push-in-Some-clause-line
returns-in_ok-push-in-Some-clause-line c =
    let told = c.in_ok-line.ensures in
    let line = c.in-Some.line in
    let texts : Option (String Global) → _ = λ t. option_map text_in t in
    line_is c.args.options.now.options c.args.pattern.now told.parsed.0 told.parsed.1 (string_bytes line) (IsUtf8-string_bytes line) (sym (ap texts c.in-Some.is) ∙ told.printed)
    (string_bytes c.push.new.self) (c.in_ok-push-in-Some.ensures.bytes ∙ ap (λ xs. string_bytes line ++ xs) (c.in_ok-push-in-Some.ensures.ascii (omega arith)))
