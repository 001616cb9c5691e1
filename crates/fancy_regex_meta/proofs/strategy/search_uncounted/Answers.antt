use Rattle.std.proofs.Common.{◌≡◌, ◌∙◌, ap}
use Rattle.std.specs.Prelude.{option_map}
use Rattle.fancy_regex_meaning.specs.Groups.{pattern_of}
use Rattle.fancy_regex_meaning.specs.Searches.{first_match}
use Rattle.fancy_regex_class.specs.RunInputs.{setting_for, match_slots}
use Rattle.fancy_regex_meta.specs.FoundParts.{parts_in}
use Rattle.fancy_regex_meta.specs.Strategies.{search_of}
use Rattle.fancy_regex_meta.proofs.MatchOffsetLemmas.{first-parts}
use Rattle.fancy_regex_meta.proofs.strategy.search_uncounted.Goals as goal

pub returns-in_ok-found-in-Groups : goal.returns-in_ok-found-in-Groups
returns-in_ok-found-in-Groups c o t of =
    let text = c.args.text.now in
    let input = c.args.input.now in
    let fm = first_match (setting_for o.unicode_mode text input) (pattern_of t) (search_of o input) in
    let found : option_map (λ v. v.items) c.in_ok-found-in-Groups.found ≡ option_map (match_slots (pattern_of t)) fm =
    rw of.3 (rw (of.1, of.2) at (c.in_ok-found-in-Groups.ensures.answer (pattern_of t) of.0)) in
    rw c.in-Groups.is
    (c.found_groups.ensures ∙ ap (option_map parts_in) found ∙ first-parts t (setting_for o.unicode_mode text input) (search_of o input) c.utf8.text c.requires.first c.requires.range)
