use Rattle.std.proofs.Common.{◌≡◌, ◌∙◌, ap, chars, string_bytes, rules, ◌++◌, encode_utf8}
use Rattle.fancy_regex_class.proofs.ClassLemmas.{wrapped_chars}
use Rattle.fancy_regex_class.proofs.class.wrapped.Goals as goal

pub returns : goal.returns
returns c =
    let whole : string_bytes c.push.new.self ≡ c.args.opening.now ++ c.args.text.now ++ encode_utf8 41 = search rules in
    ap chars whole ∙ wrapped_chars c.args.opening.now c.args.text.now c.utf8.opening c.utf8.text
