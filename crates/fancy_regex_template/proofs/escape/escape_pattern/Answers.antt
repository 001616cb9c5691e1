use Rattle.std.proofs.Common.{rules, ◌≡◌, ◌∙◌, true, cond, sym, ap, chars}
use Rattle.std.specs.List.{flat_map}
use Rattle.std.proofs.lemmas.Str.{Chars-Drains, encodes-chars}
use Rattle.fancy_regex_template.specs.PatternEscape.{escaped_char}
use Rattle.fancy_regex_template.proofs.escape.escape_pattern.Goals as goal

pub returns-clause-value : goal.returns-clause-value
returns-clause-value c =
    let t = c.args.text.now in
    let items : c.loop-c.yielded ≡ chars t =
    Chars-Drains (chars t) c.loop-c.yielded c.into_iter-c-iterator.result
    (encodes-chars t c.utf8.text ∙ sym (ap (λ it. it.rest.now) c.into_iter-c-iterator.ensures.into_iter_gives ∙ c.chars-c-items.ensures.rest))
    (c.next.new.self, (c.loop-c.c-iterator, c.loop-c.yielded_by, rw c.in-None.is at c.next.ensures.steps)) in
    let some : c.has_special.result ≡ true = search rules in
    c.loop-c.invariant ∙ ap (flat_map escaped_char) items
    ∙ sym (ap (λ b. cond b (flat_map escaped_char (chars t)) (chars t)) (sym c.has_special.ensures ∙ some))
