use Rattle.std.proofs.Common.{Ok, refl, string_bytes}
use Rattle.fancy_regex_search.proofs.ResultLemmas.{ok_then, err_then}
use Rattle.fancy_regex_search.proofs.replacer.FnReplacerReplacer.replace_append.Goals as goal

pub returns-in-Ok-clause-appends : goal.returns-in-Ok-clause-appends
returns-in-Ok-clause-appends g c = ok_then c.append.result c.append.ensures.appends (λ _ e.
    (string_bytes c.in-Ok.answer, (c.args.captures, Ok c.in-Ok.answer, refl, refl, refl, c.in-Ok.ensures, refl), e))

pub returns-in-Ok-clause-fails : goal.returns-in-Ok-clause-fails
returns-in-Ok-clause-fails g c = err_then c.append.result c.append.ensures.fails (λ _ h.
    ((c.args.captures, Ok c.in-Ok.answer, refl, refl, refl, c.in-Ok.ensures, h.0), h.1))
