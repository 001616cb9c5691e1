use Rattle.std.proofs.Common.{List, ℕ, Bor}
use Rattle.std.specs.Cow.{cow_str_bytes}
use Rattle.fancy_regex.proofs.ReplacedLemmas.{replaced_if_ok, error_if_err, iteration_error_if_err}
use Rattle.fancy_search_text.proofs.replaced.replaced_text.Goals as goal

pub returns-clause-text : goal.returns-clause-text
returns-clause-text c =
    replaced_if_ok (λ (s : Bor (List ℕ)). s.now) c.args.regex.now.meta c.args.text.now c.args.template (λ v. cow_str_bytes v) c.replace_all.result c.replace_all.ensures.replaced

pub returns-clause-fails : goal.returns-clause-fails
returns-clause-fails c = error_if_err (λ (s : Bor (List ℕ)). s.now) c.args.regex.now.meta c.args.text.now c.args.template c.replace_all.result c.replace_all.ensures.fails

pub returns-clause-passes : goal.returns-clause-passes
returns-clause-passes c = iteration_error_if_err (λ (s : Bor (List ℕ)). s.now) c.args.regex.now.meta c.args.text.now c.args.template c.replace_all.result c.replace_all.ensures.fails
