use Rattle.std.proofs.Common.{◌≡◌, ◌∙◌, ap, sym, rules, true, false, ◌||◌, ◌==◌}
use Rattle.std.specs.Char.{IsScalar, is_ascii_alphanumeric}
use Rattle.fancy_regex_class.proofs.WordLemmas.{word_members, byte_word_members}
use Rattle.fancy_regex_class.proofs.folding.is_word.Goals as goal

pub returns-then-unicode : goal.returns-then-unicode
returns-then-unicode c =
    let scalar : IsScalar c.args.c = search rules in
    rw c.if-unicode.true (c.is_word_character.ensures ∙ sym (word_members c.args.c scalar))

pub returns-then-is_ascii_alphanumeric : goal.returns-then-is_ascii_alphanumeric
returns-then-is_ascii_alphanumeric c =
    let scalar : IsScalar c.args.c = search rules in
    let yes_it : is_ascii_alphanumeric c.args.c ≡ true = sym c.is_ascii_alphanumeric.ensures.value ∙ c.if-is_ascii_alphanumeric.true in
    rw c.if-unicode.false (c.if-is_ascii_alphanumeric.true ∙ sym (byte_word_members c.args.c scalar ∙ ap (λ b. b || (c.args.c == 95)) yes_it))

pub returns-else-is_ascii_alphanumeric : goal.returns-else-is_ascii_alphanumeric
returns-else-is_ascii_alphanumeric c =
    let scalar : IsScalar c.args.c = search rules in
    let no_it : is_ascii_alphanumeric c.args.c ≡ false = sym c.is_ascii_alphanumeric.ensures.value ∙ c.if-is_ascii_alphanumeric.false in
    rw c.if-unicode.false (sym (byte_word_members c.args.c scalar ∙ ap (λ b. b || (c.args.c == 95)) no_it))
