use Rattle.std.proofs.Common.{◌≡◌, ◌∙◌, sym, ap, chars}
use Rattle.std.specs.List.{flat_map}
use Rattle.std.proofs.lemmas.Str.{Chars-Drains, encodes-chars}
use Rattle.fancy_regex_template.specs.Parts.{is_no_sign}
use Rattle.fancy_regex_template.specs.Cuts.{AllPass}
use Rattle.fancy_regex_template.specs.Expansion.{doubled_if_sign}
use Rattle.fancy_regex_template.proofs.EscapeLemmas.{run_stays}
use Rattle.fancy_regex_template.proofs.Runs.{all_pass, not_all_pass}
use Rattle.fancy_regex_template.proofs.escape.escape_template.Goals as goal

no_sign : (c : goal.After-text-1) → AllPass (is_no_sign c.args.syntax) (chars c.args.text.now)
no_sign c =
    all_pass (is_no_sign c.args.syntax) (chars c.args.text.now) (chars c.split_literal.result.1.now) (ap (λ x. x.1) c.split_literal.ensures)
    (sym c.is_empty.ensures ∙ c.if-is_empty.true)

pub returns-then-is_empty-clause-value : goal.returns-then-is_empty-clause-value
returns-then-is_empty-clause-value c = sym (run_stays c.args.syntax (chars c.args.text.now) (no_sign c))

pub returns-then-is_empty-clause-borrowed : goal.returns-then-is_empty-clause-borrowed
returns-then-is_empty-clause-borrowed c = (λ _. no_sign c, λ _. tt)

pub returns-in_err-push_template_char-clause-succeeds : goal.returns-in_err-push_template_char-clause-succeeds
returns-in_err-push_template_char-clause-succeeds c all = absurd (
    not_all_pass (is_no_sign c.args.syntax) (chars c.args.text.now) (chars c.split_literal.result.1.now) (ap (λ x. x.1) c.split_literal.ensures)
    (sym c.is_empty.ensures ∙ c.if-is_empty.false) all)

pub returns-clause-value : goal.returns-clause-value
returns-clause-value c =
    let t = c.args.text.now in
    let items : c.loop-c.yielded ≡ chars t =
    Chars-Drains (chars t) c.loop-c.yielded c.into_iter-c-iterator.result
    (encodes-chars t c.utf8.text ∙ sym (ap (λ it. it.rest.now) c.into_iter-c-iterator.ensures.into_iter_gives ∙ c.chars-c-items.ensures.rest))
    (c.next.new.self, (c.loop-c.c-iterator, c.loop-c.yielded_by, rw c.in-None.is at c.next.ensures.steps)) in
    c.loop-c.invariant ∙ ap (flat_map (doubled_if_sign c.args.syntax)) items

pub returns-clause-borrowed : goal.returns-clause-borrowed
returns-clause-borrowed c = (
  λ e. absurd e,
  λ all. not_all_pass (is_no_sign c.args.syntax) (chars c.args.text.now) (chars c.split_literal.result.1.now) (ap (λ x. x.1) c.split_literal.ensures)
      (sym c.is_empty.ensures ∙ c.if-is_empty.false) all,
)
