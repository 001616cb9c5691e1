use Rattle.std.proofs.Common.{◌≡◌, ◌∙◌}
use Rattle.clap.specs.Words.{app_of}
use Rattle.fancy_search_words.specs.CommandLine.{set_subcommand}
use Rattle.fancy_search_words.proofs.Apps.{in_ok, top_same}
use Rattle.fancy_search_words.proofs.command.with_set.Goals as goal

pub returns : goal.returns
returns c =
    let is : app_of c.in_ok-subcommand.subcommand ≡ set_subcommand = c.in_ok-subcommand.ensures.app in
    in_ok c.joined.result _ _ (λ x e. e ∙ top_same (app_of c.args.command) (app_of c.in_ok-subcommand.subcommand) set_subcommand is) c.joined.ensures
