use Rattle.std.specs.Cow.{cow_str_bytes}
use Rattle.fancy_regex_search.proofs.ResultLemmas.{ok_then, err_then}
use Rattle.fancy_regex_search.proofs.ReplaceLemmas.{replaced_whatever_is_left, fails_whatever_is_left}
use Rattle.fancy_regex_search.proofs.regex.Regex.try_replacen.Goals as goal

pub returns-clause-replaced : goal.returns-clause-replaced
returns-clause-replaced g c = ok_then c.replacen_by.result c.replacen_by.ensures.replaced (λ v h.
    replaced_whatever_is_left g.R.Replacer.answers c.args.self.now.meta c.args.text.now _ c.args.rep (cow_str_bytes v) c.replacen_by.new.rep _ h)

pub returns-clause-fails : goal.returns-clause-fails
returns-clause-fails g c = err_then c.replacen_by.result c.replacen_by.ensures.fails (λ e h.
    fails_whatever_is_left g.R.Replacer.answers c.args.self.now.meta c.args.text.now _ c.args.rep e c.replacen_by.new.rep _ h)
