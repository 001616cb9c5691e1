use Rattle.std.proofs.Common.{◌≡◌, ℕ, suc, ◌-◌, ◌∙◌, Some, sym, ap, refl}
use Rattle.std.proofs.lemmas.Str.{len_utf8_ascii}
use Rattle.fancy_regex_prefilter.proofs.BoundaryLemmas.{one_back}
use Rattle.fancy_regex_prefilter.proofs.matching.one_back.Goals as goal

pub returns-in-Some : goal.returns-in-Some
returns-in-Some c =
    sym (one_back c.args.text.now 1 0 c.args.position c.in-Some.field-0 refl c.in-Some.ensures.char ∙ ap (λ k. Some (c.args.position - k)) (len_utf8_ascii c.in-Some.field-0 c.in-Some.ensures.ascii))
