use Rattle.std.proofs.Common.{◌≡◌, ◌∙◌, codes, ap}
use Rattle.clap.specs.Simple.{App}
use Rattle.clap.specs.Words.{app_of}
use Rattle.fancy_search_words.specs.CommandLine.{with_pattern_subcommand}
use Rattle.fancy_search_words.proofs.Apps.{in_ok}
use Rattle.fancy_search_words.proofs.command.with_searches.Goals as goal

pub returns : goal.returns
returns c =
    let captures = λ (a : App). with_pattern_subcommand a (codes "captures") in
    let split = λ (a : App). with_pattern_subcommand a (codes "split") in
    let found : app_of c.in_ok-find.find ≡ with_pattern_subcommand (app_of c.args.command) (codes "find") = c.in_ok-find.ensures in
    let given : app_of c.in_ok-captures.captures ≡ captures (app_of c.in_ok-find.find) = c.in_ok-captures.ensures in
    in_ok c.with_pattern_subcommand-3.result _ _ (λ x e. e ∙ ap split (given ∙ ap captures found)) c.with_pattern_subcommand-3.ensures
