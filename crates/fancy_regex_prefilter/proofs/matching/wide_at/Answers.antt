use Rattle.std.proofs.Common.{rules, ◌≡◌, IfSome, drop, sym, ◌∙◌}
use Rattle.std.specs.Char.{IsScalar}
use Rattle.std.proofs.lemmas.Bool.{false≢true}
use Rattle.fancy_regex_class.proofs.AdjacentCharLemmas.{is_char_at}
use Rattle.fancy_regex_prefilter.proofs.BoundaryLemmas.{none_at}
use Rattle.fancy_regex_prefilter.proofs.matching.wide_at.Goals as goal

pub returns-in_err-rest-clause-char : goal.returns-in_err-rest-clause-char
returns-in_err-rest-clause-char c =
    c.from_residual.ensures ∙ sym (none_at _ _ (λ b. false≢true (c.in_err-rest.ensures.variant.1 b)))

pub returns-clause-char : goal.returns-clause-char
returns-clause-char c =
    let scalar : IfSome c.next.result IsScalar = search rules in
    let same : c.chars.result.rest.now ≡ drop c.args.position c.args.text.now = search rules in
    is_char_at _ c.args.text.now c.next.new.self.rest.now c.args.position c.next.result scalar (rw same at c.next.ensures.steps.0)
