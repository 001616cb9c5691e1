use Rattle.std.proofs.Common.{◌≡◌, ◌∙◌, ℕ, ◌+◌, Option, None, sym, subst, rules}
use Rattle.std.specs.Prelude.{IfSome, IsCharBoundary}
use Rattle.std.specs.Char.{len_utf8}
use Rattle.fancy_regex_class.specs.Looks.{looked_text}
use Rattle.fancy_regex_parts.specs.Find.{IsAfter}
use Rattle.fancy_regex_parts.proofs.FindLemmas.{next_after, late_after, none_after}
use Rattle.fancy_regex_parts.proofs.starts.place_after.Goals as goal

pub returns-in_err-after-clause-after : goal.returns-in_err-after-clause-after
returns-in_err-after-clause-after c =
    let gone : c.from_residual.result ≡ None = search rules in
    subst (λ (o : Option ℕ). IsAfter (looked_text c.args.text.now) c.args.last c.args.at o) (sym gone)
    (none_after (looked_text c.args.text.now) c.args.last c.args.at c.requires.text c.requires.range.0 c.requires.range.1 c.requires.boundary
    (sym c.look-after.ensures.after ∙ c.in_err-after.was))

pub returns-then-width-last-clause-after : goal.returns-then-width-last-clause-after
returns-then-width-last-clause-after c =
    let text = looked_text c.args.text.now in
    next_after text c.args.last c.args.at c.in_ok-after.field-0 c.len_utf8-width.result c.requires.range.0 c.requires.boundary
    (sym c.look-after.ensures.after ∙ c.in_ok-after.was) c.len_utf8-width.ensures.value c.if-width-last.true
    (subst (λ (o : Option ℕ). IfSome o (λ k. IsCharBoundary text (c.args.at + len_utf8 k))) c.in_ok-after.was c.look-after.ensures.next)

pub returns-else-width-last-clause-after : goal.returns-else-width-last-clause-after
returns-else-width-last-clause-after c =
    late_after (looked_text c.args.text.now) c.args.last c.args.at c.in_ok-after.field-0 c.len_utf8-width.result c.requires.range.0 c.requires.boundary
    (sym c.look-after.ensures.after ∙ c.in_ok-after.was) c.len_utf8-width.ensures.value c.if-width-last.false
