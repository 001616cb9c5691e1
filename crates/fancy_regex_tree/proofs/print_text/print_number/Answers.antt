use Rattle.std.proofs.Common.{ap, ◌∙◌, ◌++◌, chars, string_bytes, decimal, arith}
use Rattle.std.proofs.lemmas.Str.{IsUtf8-string_bytes}
use Rattle.fancy_regex_text.proofs.TextLemmas.{joined_chars}
use Rattle.fancy_regex_tree.proofs.PrintedTexts.{chars-decimal}
use Rattle.fancy_regex_tree.proofs.print_text.print_number.Goals as goal

pub returns : goal.returns
returns c =
    joined_chars (string_bytes c.args.out.now) (string_bytes c.write.new.self) (decimal c.args.number) (IsUtf8-string_bytes c.args.out.now)
    c.in_ok-write.ensures.bytes
    ∙ ap (λ t. chars (string_bytes c.args.out.now) ++ t) (chars-decimal c.args.number (omega arith))
