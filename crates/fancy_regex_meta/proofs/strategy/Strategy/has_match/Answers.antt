use Rattle.std.proofs.Common.{◌∙◌}
use Rattle.fancy_regex_meaning.specs.Groups.{pattern_of}
use Rattle.fancy_regex_meaning.specs.Searches.{first_match}
use Rattle.fancy_regex_class.specs.RunInputs.{setting_for}
use Rattle.fancy_regex_meta.specs.FoundParts.{found_parts, wanted_parts}
use Rattle.fancy_regex_meta.specs.Strategies.{search_of}
use Rattle.fancy_regex_meta.specs.declared.found.MatchDetail.TheVariants.{Span}
use Rattle.fancy_regex_meta.proofs.SearchLemmas.{some-same}
use Rattle.fancy_regex_meta.proofs.strategy.Strategy.has_match.Goals as goal

pub returns-in_ok-answer-in-Easy-clause-answer : goal.returns-in_ok-answer-in-Easy-clause-answer
returns-in_ok-answer-in-Easy-clause-answer c o t runs =
    let of = rw c.in-Easy.is at runs in rw of.3 (rw (of.1, of.2) at (c.in_ok-answer-in-Easy.ensures (pattern_of t) of.0))

pub returns-in_ok-found-in-Program-clause-answer : goal.returns-in_ok-found-in-Program-clause-answer
returns-in_ok-found-in-Program-clause-answer c o t runs =
    c.is_some.ensures
    ∙ some-same found_parts (wanted_parts Span (pattern_of t)) c.in_ok-found-in-Program.found
    (first_match (setting_for o.unicode_mode c.args.text.now c.args.input.now) (pattern_of t) (search_of o c.args.input.now))
    (c.in_ok-found-in-Program.ensures.answer o t runs)
