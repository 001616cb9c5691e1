use Rattle.std.proofs.Common.{◌≡◌, ◌∙◌, ap}
use Rattle.std.specs.Prelude.{option_map}
use Rattle.fancy_regex_meaning.specs.Groups.{pattern_of}
use Rattle.fancy_regex_meaning.specs.Searches.{first_match}
use Rattle.fancy_regex_class.specs.RunInputs.{setting_for, match_slots}
use Rattle.fancy_regex_meta.specs.FoundParts.{parts_in}
use Rattle.fancy_regex_meta.specs.Strategies.{Executes, unlimited, search_of}
use Rattle.fancy_regex_meta.specs.declared.strategy.Strategy.TheVariants.{Regular}
use Rattle.fancy_regex_meta.proofs.MatchOffsetLemmas.{first-parts}
use Rattle.fancy_regex_meta.proofs.SearchLemmas.{if_ok}
use Rattle.fancy_regex_meta.proofs.strategy.Strategy.search.Goals as goal

pub returns-in_ok-found-in-Groups-clause-answer : goal.returns-in_ok-found-in-Groups-clause-answer
returns-in_ok-found-in-Groups-clause-answer c o t runs =
    let text = c.args.text.now in
    let input = c.args.input.now in
    let of = rw c.in-Easy.is at runs in
    let fm = first_match (setting_for o.unicode_mode text input) (pattern_of t) (search_of o input) in
    let found : option_map (λ v. v.items) c.in_ok-found-in-Groups.found ≡ option_map (match_slots (pattern_of t)) fm =
    rw of.3 (rw (of.1, of.2) at (c.in_ok-found-in-Groups.ensures.answer (pattern_of t) of.0)) in
    rw c.in-Groups.is
    (c.found_groups.ensures ∙ ap (option_map parts_in) found ∙ first-parts t (setting_for o.unicode_mode text input) (search_of o input) c.utf8.text c.requires.first c.requires.range)

pub returns-in_err-found-in-Span-clause-looks_most : goal.returns-in_err-found-in-Span-clause-looks_most
returns-in_err-found-in-Span-clause-looks_most c o t runs served = let of = rw c.in-Easy.is at runs in c.find_span_in.ensures.at_most (pattern_of t) of.0

pub returns-in_ok-found-in-Span-clause-looks_most : goal.returns-in_ok-found-in-Span-clause-looks_most
returns-in_ok-found-in-Span-clause-looks_most c o t runs served = let of = rw c.in-Easy.is at runs in c.find_span_in.ensures.at_most (pattern_of t) of.0

pub returns-in_err-found-in-Groups-clause-looks_most : goal.returns-in_err-found-in-Groups-clause-looks_most
returns-in_err-found-in-Groups-clause-looks_most c o t runs served = let of = rw c.in-Easy.is at runs in c.search_in.ensures.at_most (pattern_of t) of.0

pub returns-in_ok-found-in-Groups-clause-looks_most : goal.returns-in_ok-found-in-Groups-clause-looks_most
returns-in_ok-found-in-Groups-clause-looks_most c o t runs served = let of = rw c.in-Easy.is at runs in c.search_in.ensures.at_most (pattern_of t) of.0

-- an error of the program's run
pub returns-in-Ok-Err-clause-limits : goal.returns-in-Ok-Err-clause-limits
returns-in-Ok-Err-clause-limits c =
    rw c.from.ensures (λ o t runs. rw c.in-Program.is ((rw c.in-Ok-Err.field-0-is at c.in-Ok-Err.ensures.limits) o t (rw c.in-Program.is at runs)))

pub returns-in-Ok-Err-clause-passed : goal.returns-in-Ok-Err-clause-passed
returns-in-Ok-Err-clause-passed c =
    rw c.from.ensures (λ o t runs. rw c.in-Program.is ((rw c.in-Ok-Err.field-0-is at c.in-Ok-Err.ensures.passed) o t (rw c.in-Program.is at runs)))

pub returns-in-Ok-Ok-clause-stays : goal.returns-in-Ok-Ok-clause-stays
returns-in-Ok-Ok-clause-stays c o under =
    rw c.in-Program.is ((rw c.in-Ok-Ok.field-0-is at c.in-Ok-Ok.ensures.stays) o (rw c.in-Program.is at under))

-- the answer of either
pub returns-in-Regular-clause-answer : goal.returns-in-Regular-clause-answer
returns-in-Regular-clause-answer c =
    if_ok c.search_skipping.result c.search_skipping.ensures.answer
    (λ found told o t runs. let of = rw c.in-Regular.is at runs in told o t of.0 of.1 of.2)
