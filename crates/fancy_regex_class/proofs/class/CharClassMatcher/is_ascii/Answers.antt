use Rattle.std.proofs.Common.{◌≤◌, ◌≡◌, true, arith}
use Rattle.fancy_regex_class.specs.Matchers.{has}
use Rattle.fancy_regex_class.proofs.FoldLemmas.{not_yes}
use Rattle.fancy_regex_class.proofs.class.CharClassMatcher.is_ascii.Goals as goal

pub returns : goal.returns
returns c said k low =
    not_yes (has c.args.self.now k) (λ inside. let most = c.is_within.ensures.0 said k inside in omega (arith, low, most))
