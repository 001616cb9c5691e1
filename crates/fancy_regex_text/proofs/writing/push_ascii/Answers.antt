use Rattle.std.proofs.Common.{ap, ◌∙◌, ◌++◌, chars, string_bytes}
use Rattle.std.proofs.lemmas.Str.{chars-IsAscii}
use Rattle.std.proofs.lemmas.Str.Ascii.{IsAscii-from_all}
use Rattle.fancy_regex_text.proofs.writing.push_ascii.Goals as goal

pub returns-clause-added : goal.returns-clause-added
returns-clause-added c =
    c.in_ok-push_text.ensures.added
    ∙ ap (λ t. chars (string_bytes c.args.out.now) ++ t) (chars-IsAscii c.args.text.now (IsAscii-from_all c.args.text.now c.requires))
