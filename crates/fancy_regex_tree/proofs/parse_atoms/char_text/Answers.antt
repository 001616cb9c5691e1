use Rattle.std.proofs.Common.{string_bytes, chars, ap, ◌∙◌, ◌++◌, ◌∷◌, []}
use Rattle.std.proofs.lemmas.Str.{IsUtf8-string_bytes, chars-nil}
use Rattle.fancy_regex_text.proofs.TextLemmas.{pushed_chars}
use Rattle.fancy_regex_tree.proofs.parse_atoms.char_text.Goals as goal

pub returns : goal.returns
returns c =
    pushed_chars (string_bytes c.new-text.result) (string_bytes c.push.new.self) c.args.c (IsUtf8-string_bytes c.new-text.result)
    (IsUtf8-string_bytes c.push.new.self) c.in_ok-push.ensures.bytes ∙ ap (λ t. t ++ c.args.c ∷ []) (ap chars c.new-text.ensures.bytes ∙ chars-nil)
