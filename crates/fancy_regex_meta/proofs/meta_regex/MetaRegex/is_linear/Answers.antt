use Rattle.std.proofs.Common.{sym, ◌∙◌}
use Rattle.fancy_regex_meta.specs.SearchLimits.{meta_tree}
use Rattle.fancy_regex_meta.proofs.LinearLemmas.{linear_known, tells_no_limit}
use Rattle.fancy_regex_meta.proofs.meta_regex.MetaRegex.is_linear.Goals as goal

-- exactly where the kept strategy is no program alone
pub returns-clause-exact : goal.returns-clause-exact
returns-clause-exact c =
    let s = c.args.self.now in (
      λ told. linear_known s.options (meta_tree s) (s.linear.0 (sym c.is_linear.ensures ∙ told)),
      λ linear. c.is_linear.ensures ∙ s.linear.1 ∣ linear ∣₁,
    )

pub returns-clause-unlimited : goal.returns-clause-unlimited
returns-clause-unlimited c told = tells_no_limit c.args.self.now (sym c.is_linear.ensures ∙ told)
