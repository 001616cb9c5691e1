use Rattle.std.proofs.Common.{string_bytes}
use Rattle.std.proofs.lemmas.Str.{IsUtf8-string_bytes}
use Rattle.fancy_regex_text.proofs.TextLemmas.{pushed_chars}
use Rattle.fancy_regex_tree.proofs.print_text.print_char.Goals as goal

pub returns : goal.returns
returns c =
    pushed_chars (string_bytes c.args.out.now) (string_bytes c.push.new.self) c.args.c (IsUtf8-string_bytes c.args.out.now)
    (IsUtf8-string_bytes c.push.new.self) c.in_ok-push.ensures.bytes
