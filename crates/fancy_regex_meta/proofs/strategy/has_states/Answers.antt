use Rattle.std.proofs.Common.{false, true≢false, sym, ◌∙◌}
use Rattle.fancy_regex_linear.proofs.BuildLemmas.{if_ok}
use Rattle.fancy_regex_meta.proofs.strategy.has_states.Goals as goal

pub returns-then-options : goal.returns-then-options
returns-then-options c t is =
    (λ some. absurd (true≢false (sym some)), λ has. absurd (true≢false (sym c.if-options.true ∙ has.0)))

pub returns : goal.returns
returns c =
    if_ok c.supports.result (λ is h t e. (λ yes. (c.if-options.false, (h false t e).0 yes), λ has. (h false t e).1 has.1)) c.supports.ensures.exact
