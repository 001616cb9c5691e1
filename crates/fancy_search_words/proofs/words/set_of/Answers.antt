use Rattle.std.proofs.Common.{◌≡◌, ◌∙◌, ◌++◌, List, Some, codes, ap}
use Rattle.std.specs.Prelude.{option_map}
use Rattle.std.specs.Borrow.{Bor}
use Rattle.clap.specs.Matches.{found_of}
use Rattle.clap.specs.Walk.{Text}
use Rattle.clap.proofs.WalkLemmas.{raw_values-rows}
use Rattle.fancy_search_words.specs.Requests as requests
use Rattle.fancy_search_words.specs.Requests.{texts_of}
use Rattle.fancy_search_words.proofs.words.set_of.Goals as goal

pub returns-in_default : goal.returns-in_default
returns-in_default c = ap (option_map requests.set) (c.in_default.ensures ∙ raw_values-rows (found_of c.args.found.now) (codes "patterns"))

pub returns : goal.returns
returns c =
    let made = λ (ps : List (Bor Text)). requests.set (texts_of ps) in
    let items : c.extend_from_slice.new.self.items ≡ c.in-Some.patterns.now = c.in_ok-extend_from_slice.ensures.items ∙ ap (λ xs. xs ++ c.in-Some.patterns.now) c.new-copied.ensures.items in
    ap (λ (ps : List (Bor Text)). Some (made ps)) items
    ∙ ap (option_map requests.set) (c.in-Some.ensures ∙ raw_values-rows (found_of c.args.found.now) (codes "patterns"))
