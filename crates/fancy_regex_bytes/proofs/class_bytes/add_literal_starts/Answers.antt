use Rattle.std.proofs.Common.{◌==◌, ap, ap₂, sym, ◌∙◌}
use Rattle.ucd_case.specs.CaseFolding.{fold_pairs}
use Rattle.fancy_regex_class.specs.Classes.{folded}
use Rattle.fancy_regex_bytes.specs.ByteSets.{has, either_bytes, first_byte}
use Rattle.fancy_regex_bytes.specs.StartBytes.{literal_starts, paired_starts}
use Rattle.fancy_regex_bytes.proofs.CharacterLemmas.{literal_unicode, literal_ascii}
use Rattle.fancy_regex_bytes.proofs.class_bytes.add_literal_starts.Goals as goal

pub returns-then-unicode : goal.returns-then-unicode
returns-then-unicode c =
    let old = has c.args.set.now in
    c.add_folded_alike.ensures
    ∙ ap (either_bytes (paired_starts fold_pairs c.args.c)) (c.insert.ensures ∙ ap (λ x. either_bytes (λ b. x == b) old) c.first_byte.ensures)
    ∙ literal_unicode c.args.c old c.ranges.c.0
    ∙ sym (ap₂ (λ u i. either_bytes (literal_starts (folded u) c.args.c i) old) c.if-unicode.true c.if-casei.true)

pub returns-else-unicode : goal.returns-else-unicode
returns-else-unicode c =
    let old = has c.args.set.now in
    c.insert-else-unicode-2.ensures
    ∙ ap₂ (λ x f. either_bytes (λ b. x == b) f) (c.first_byte-else-unicode-2.ensures ∙ ap first_byte c.to_ascii_uppercase.ensures.value)
    (c.insert-else-unicode.ensures
    ∙ ap₂ (λ x f. either_bytes (λ b. x == b) f) (c.first_byte-else-unicode.ensures ∙ ap first_byte c.to_ascii_lowercase.ensures.value)
    (c.insert.ensures ∙ ap (λ x. either_bytes (λ b. x == b) old) c.first_byte.ensures))
    ∙ literal_ascii c.args.c old c.ranges.c.0
    ∙ sym (ap₂ (λ u i. either_bytes (literal_starts (folded u) c.args.c i) old) c.if-unicode.false c.if-casei.true)

pub returns-else-casei : goal.returns-else-casei
returns-else-casei c =
    let old = has c.args.set.now in
    c.insert.ensures ∙ ap (λ x. either_bytes (λ b. x == b) old) c.first_byte.ensures
    ∙ sym (ap (λ i. either_bytes (literal_starts (folded c.args.unicode) c.args.c i) old) c.if-casei.false)
