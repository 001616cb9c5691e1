use Rattle.std.proofs.Common.{◌∙◌, sym, rules}
use Rattle.std.specs.Char.{IsScalar}
use Rattle.fancy_regex_class.proofs.WordLemmas.{word_members}
use Rattle.fancy_regex_prefilter.proofs.assertion.is_word_here.Goals as goal

pub returns-then-unicode : goal.returns-then-unicode
returns-then-unicode c =
    let scalar : IsScalar c.args.c = search rules in
    rw c.if-unicode.true (c.is_word_code.ensures ∙ sym (word_members c.args.c scalar))
