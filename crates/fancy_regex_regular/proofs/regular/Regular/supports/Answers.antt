use Rattle.fancy_regex_linear.proofs.BuildLemmas.{if_ok}
use Rattle.fancy_regex_regular.proofs.ExactLemmas.{made_in, supported_in}
use Rattle.fancy_regex_regular.proofs.regular.Regular.supports.Goals as goal

pub returns : goal.returns
returns c = record {
  exact =
      if_ok c.are_made_for.result
      (λ made h explicit t is. (λ yes. supported_in explicit t ((h explicit t is).0 yes), λ supported. (h explicit t is).1 (made_in explicit t supported)))
      c.are_made_for.ensures.exact;
  calls = c.are_made_for.ensures.calls;
}
