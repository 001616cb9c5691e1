use Rattle.std.proofs.Common.{◌∙◌, map, ap, sym}
use Rattle.std.specs.Prelude.{option_map}
use Rattle.clap.specs.Simple.{app_of}
use Rattle.fancy_search_words.specs.Requests.{request_of_arguments}
use Rattle.fancy_search_words.proofs.Taken.{taken, no_fault, refused_in, missing}
use Rattle.fancy_search_words.proofs.words.read_words.Goals as goal

pub returns-in-Err-clause-err : goal.returns-in-Err-clause-err
returns-in-Err-clause-err g c =
    refused_in (app_of c.in_ok-command.command) (map g.S.AsStr.text c.args.words.now) c.in-Err.error _ c.in_ok-command.ensures c.in-Err.ensures.kinds c.refusal.ensures

pub returns-in-Some-clause-ok : goal.returns-in-Some-clause-ok
returns-in-Some-clause-ok g c =
    taken (app_of c.in_ok-command.command) (map g.S.AsStr.text c.args.words.now) c.in-Ok.matches c.in_ok-command.ensures c.in-Ok.ensures.kinds c.in-Ok.ensures.ok.2
    ∙ sym c.in_ok-requested-in-Ok.ensures ∙ ap (option_map request_of_arguments) c.in-Some.is

pub returns-clause-err : goal.returns-clause-err
returns-clause-err g c =
    let words = map g.S.AsStr.text c.args.words.now in
    let app = app_of c.in_ok-command.command in
    missing words _ _
    (taken app words c.in-Ok.matches c.in_ok-command.ensures c.in-Ok.ensures.kinds c.in-Ok.ensures.ok.2
    ∙ sym c.in_ok-requested-in-Ok.ensures ∙ ap (option_map request_of_arguments) c.in-None.is)
    (no_fault app words c.in_ok-command.ensures c.in-Ok.ensures.kinds) c.in_ok-error-in-None.ensures.kind c.refusal-in-None.ensures
