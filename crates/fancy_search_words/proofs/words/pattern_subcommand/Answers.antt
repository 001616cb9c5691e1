use Rattle.std.proofs.Common.{rules, ◌≡◌, ◌∙◌, Some, None, Option, codes, sym, ap}
use Rattle.clap.specs.Matches.{found_of}
use Rattle.clap.specs.Walk.{Text, rows_of, first_of}
use Rattle.clap.proofs.WalkLemmas.{first_value-rows}
use Rattle.fancy_search_words.specs.Requests.{command_with}
use Rattle.fancy_search_words.proofs.Rows.{command_is, no_pattern}
use Rattle.fancy_search_words.proofs.words.pattern_subcommand.Goals as goal

pub returns-in_err-pattern : goal.returns-in_err-pattern
returns-in_err-pattern c =
    let found = found_of c.args.found.now in
    let none : first_of (codes "pattern") (rows_of found) ≡ None = sym (c.in_err-pattern.ensures ∙ first_value-rows found (codes "pattern")) in
    rw (no_pattern c.args.name.now (rows_of found) none) (search rules)

pub returns : goal.returns
returns c =
    let name = c.args.name.now in
    let found = found_of c.args.found.now in
    let pattern = c.in_ok-pattern.pattern.now in
    let given : first_of (codes "pattern") (rows_of found) ≡ Some pattern = sym (c.in_ok-pattern.ensures ∙ first_value-rows found (codes "pattern")) in
    let with : Option Text → _ = λ t. command_with name pattern t in
    c.subcommand_with.ensures ∙ ap with (c.get_str-2.ensures ∙ first_value-rows found (codes "template")) ∙ sym (command_is name (rows_of found) pattern given)
