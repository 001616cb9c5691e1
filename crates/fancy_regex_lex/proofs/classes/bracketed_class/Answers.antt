use Rattle.std.proofs.Common.{chars, sym, ◌∙◌, subst}
use Rattle.std.proofs.lemmas.Result.{err_from_is_err_and}
use Rattle.fancy_regex_text.specs.ParseFault.{Fails}
use Rattle.fancy_regex_lex.proofs.ClassPartLemmas.{class_text}
use Rattle.fancy_regex_lex.proofs.classes.bracketed_class.Goals as goal

pub returns-in_err-rest-3-clause-value : goal.returns-in_err-rest-3-clause-value
returns-in_err-rest-3-clause-value c =
    let p = err_from_is_err_and c.from_residual-in_err-rest-3.result c.from_residual-in_err-rest-3.ensures.1 in
    rw (p.1, p.2) (subst (Fails c.in_err-rest-3.field-0.0)
    (class_text c.args.oniguruma (chars c.args.text.now) _ _ _ _ _ _ _ c.empty-out.ensures c.in_ok-push.ensures.added c.rest_after_first.ensures.value
    c.in_ok-rest.ensures.added c.in_ok-rest.ensures.rest c.in_ok-rest-2.ensures.added c.in_ok-rest-2.ensures.rest) c.in_err-rest-3.ensures.value)

pub returns-clause-value : goal.returns-clause-value
returns-clause-value c =
    sym (class_text c.args.oniguruma (chars c.args.text.now) _ _ _ _ _ _ _ c.empty-out.ensures c.in_ok-push.ensures.added c.rest_after_first.ensures.value
    c.in_ok-rest.ensures.added c.in_ok-rest.ensures.rest c.in_ok-rest-2.ensures.added c.in_ok-rest-2.ensures.rest)
    ∙ c.in_ok-rest-3.ensures.value
