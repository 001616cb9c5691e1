use Rattle.std.proofs.Common.{◌≡◌, ◌∙◌, ap, string_bytes}
use Rattle.std.specs.Prelude.{chars}
use Rattle.fancy_regex_class.specs.Classes.{with_case}
use Rattle.fancy_regex_class.proofs.ClassLemmas.{text_with_case, text_without, text_in_bytes}
use Rattle.fancy_regex_class.proofs.class.class_text.Goals as goal
use Rattle.fancy_regex_class.proofs.class.class_text.Goals.{then-casei+in_ok-with_case, else-casei+in_ok-with_case-2}

pub returns-then-unicode : goal.returns-then-unicode
returns-then-unicode c =
    let inner : chars (string_bytes c.if-casei.with_case) ≡ with_case c.args.casei (chars c.args.text.now) =
    elim c.if-casei.branch [
      | then-casei+in_ok-with_case w ↦ ap (λ s. chars (string_bytes s)) w.with_case-is ∙ text_with_case c.args.casei _ _ w.if-casei.true w.in_ok-with_case.ensures
      | else-casei+in_ok-with_case-2 w ↦ text_without c.args.casei _ _ w.if-casei.false (ap (λ s. chars (string_bytes s)) w.with_case-is ∙ ap chars (w.in_ok-with_case-2.ensures.ok))
    ] in
    rw c.if-unicode.true inner

pub returns-else-unicode : goal.returns-else-unicode
returns-else-unicode c =
    let inner : chars (string_bytes c.if-casei.with_case) ≡ with_case c.args.casei (chars c.args.text.now) =
    elim c.if-casei.branch [
      | then-casei+in_ok-with_case w ↦ ap (λ s. chars (string_bytes s)) w.with_case-is ∙ text_with_case c.args.casei _ _ w.if-casei.true w.in_ok-with_case.ensures
      | else-casei+in_ok-with_case-2 w ↦ text_without c.args.casei _ _ w.if-casei.false (ap (λ s. chars (string_bytes s)) w.with_case-is ∙ ap chars (w.in_ok-with_case-2.ensures.ok))
    ] in
    text_in_bytes c.args.unicode c.args.casei (chars c.deref.result.now) (chars c.args.text.now) c.wrapped-else-unicode.result c.if-unicode.false
    (ap chars c.deref.ensures ∙ inner) c.wrapped-else-unicode.ensures
