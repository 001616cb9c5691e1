use Rattle.std.proofs.Common.{string_bytes}
use Rattle.std.proofs.lemmas.Str.{IsUtf8-string_bytes}
use Rattle.fancy_regex_text.proofs.TextLemmas.{joined_chars}
use Rattle.fancy_regex_text.proofs.writing.push_text.Goals as goal

pub returns-clause-added : goal.returns-clause-added
returns-clause-added c =
    joined_chars (string_bytes c.args.out.now) (string_bytes c.push_str.new.self) c.args.text.now (IsUtf8-string_bytes c.args.out.now)
    c.in_ok-push_str.ensures.bytes
