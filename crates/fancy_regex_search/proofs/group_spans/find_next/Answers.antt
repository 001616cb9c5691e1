use Rattle.std.proofs.Common.{◌∙◌, ap}
use Rattle.std.specs.Prelude.{option_map}
use Rattle.fancy_regex_meta.specs.FoundParts.{wanted_parts}
use Rattle.fancy_regex_meta.specs.MetaMatches.{meta_pattern}
use Rattle.fancy_regex_meta.proofs.SearchLemmas.{match-same, error-same}
use Rattle.fancy_regex_meta.proofs.MatchOffsetLemmas.{first_fits}
use Rattle.fancy_regex_search.proofs.ResultLemmas.{ok_then, err_then}
use Rattle.fancy_regex_search.proofs.group_spans.find_next.Goals as goal

-- the search begins between two characters
pub search_again-requires-clause-first : goal.search_again-requires-clause-first
search_again-requires-clause-first g c =
    let input = c.args.request.now.input.now in
    rw (c.as_str.ensures, c.haystack-haystack.ensures, c.run_input_for-run_input.ensures)
    (λ inside. first_fits (g.S.Input.text input.haystack) input.config input.fits inside)

pub search_again-requires-clause-range : goal.search_again-requires-clause-range
search_again-requires-clause-range g c =
    rw (c.as_str.ensures, c.haystack-haystack.ensures, c.run_input_for-run_input.ensures) c.args.request.now.input.now.fits.range_end.0

-- the match that is returned is that of the configured search
pub returns-clause-answer : goal.returns-clause-answer
returns-clause-answer g c =
    let request = c.args.request.now in
    let s = request.regex.now.meta in
    let input = request.input.now in
    let told = rw (c.as_str.ensures, c.haystack-haystack.ensures, c.run_input_for-run_input.ensures) at c.search_again.ensures.answer in
    ok_then c.search_again.result told (λ found is.
    is ∙ ap (option_map (wanted_parts request.wanted (meta_pattern s)))
    (match-same s (g.S.Input.text input.haystack) input.config request.continue_disabled))

pub returns-clause-within : goal.returns-clause-within
returns-clause-within g c = rw (c.as_str.ensures, c.haystack-haystack.ensures, c.run_input_for-run_input.ensures) at c.search_again.ensures.within

pub returns-clause-limits : goal.returns-clause-limits
returns-clause-limits g c =
    let request = c.args.request.now in
    let input = request.input.now in
    let told = rw (c.as_str.ensures, c.haystack-haystack.ensures, c.run_input_for-run_input.ensures) at c.search_again.ensures.limits in
    err_then c.search_again.result told
    (error-same request.regex.now.meta (g.S.Input.text input.haystack) input.config request.continue_disabled)

pub returns-clause-stays : goal.returns-clause-stays
returns-clause-stays g c = rw (c.as_str.ensures, c.haystack-haystack.ensures, c.run_input_for-run_input.ensures) at c.search_again.ensures.stays

-- the memory is of the haystack
pub search_again-requires-clause-kept : goal.search_again-requires-clause-kept
search_again-requires-clause-kept g c = rw (c.as_str.ensures, c.haystack-haystack.ensures) c.requires

pub returns-clause-kept : goal.returns-clause-kept
returns-clause-kept g c = rw (c.as_str.ensures, c.haystack-haystack.ensures) at c.search_again.ensures.kept
