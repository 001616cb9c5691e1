use Rattle.std.proofs.Common.{List, ℕ, Option, None, refl, sym, subst}
use Rattle.std.specs.Cow.{cow_str_bytes}
use Rattle.fancy_regex_input.specs.SearchInputs.{whole}
use Rattle.fancy_regex_meaning.specs.Searches.{Match, counted}
use Rattle.fancy_regex_search.specs.RemainingMatches.{all_matches}
use Rattle.fancy_regex_search.specs.Replacements.{IsReplacedLeaving, IsReplaceErrorLeaving, left_by_calls, left_by_text}
use Rattle.fancy_regex_search.specs.declared.replacer.NoExpand.{NoExpand}
use Rattle.fancy_regex_search.proofs.ResultLemmas.{ok_then, err_then}
use Rattle.fancy_regex_search.proofs.ReplaceLemmas.{fixed_text_replaced, fixed_text_fails, calls_fail}
use Rattle.fancy_regex_search.proofs.regex.Regex.replacen_by.Goals as goal

pub returns-in-Some-clause-replaced : goal.returns-in-Some-clause-replaced
returns-in-Some-clause-replaced g c = ok_then c.replace_by_calls.result c.replace_by_calls.ensures.replaced (λ v h.
    let s = c.args.self.now.meta in
    let text = c.args.text.now in
    let ms : List Match = counted c.args.limit (all_matches s text (whole text)) in
    let t : List ℕ = cow_str_bytes c.in-Some.fixed in
    let rep = c.args.rep.now in
    subst (λ (f : Option (List ℕ)). IsReplacedLeaving g.R.Replacer.answers s text ms rep (cow_str_bytes v) rep f) (sym c.in-Some.ensures)
    (left_by_text t (fixed_text_replaced (λ (x : NoExpand). x.0.now) s text t ms _ (cow_str_bytes v) _ c.as_str.ensures.value h) refl))

pub returns-in-Some-clause-fails : goal.returns-in-Some-clause-fails
returns-in-Some-clause-fails g c = err_then c.replace_by_calls.result c.replace_by_calls.ensures.fails (λ e h.
    let s = c.args.self.now.meta in
    let text = c.args.text.now in
    let ms : List Match = counted c.args.limit (all_matches s text (whole text)) in
    let rep = c.args.rep.now in
    subst (λ (f : Option (List ℕ)). IsReplaceErrorLeaving g.R.Replacer.answers s text ms rep e rep f) (sym c.in-Some.ensures)
    (fixed_text_fails (λ (x : NoExpand). x.0.now) g.R.Replacer.answers s text ms _ _ rep (cow_str_bytes c.in-Some.fixed) e h))

pub returns-clause-replaced : goal.returns-clause-replaced
returns-clause-replaced g c = ok_then c.replace_by_calls-2.result c.replace_by_calls-2.ensures.replaced (λ v h. left_by_calls _ h)

pub returns-clause-fails : goal.returns-clause-fails
returns-clause-fails g c = err_then c.replace_by_calls-2.result c.replace_by_calls-2.ensures.fails (λ e h.
    calls_fail g.R.Replacer.answers c.args.self.now.meta c.args.text.now _ c.args.rep.now c.replace_by_calls-2.new.replacer None _ e refl h)
