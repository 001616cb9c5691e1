use Rattle.std.proofs.Common.{◌∙◌, ap, sym, false}
use Rattle.std.specs.Prelude.{is_some}
use Rattle.fancy_regex_meta.proofs.SearchLemmas.{match-same, error-same}
use Rattle.fancy_regex_meta.proofs.MatchOffsetLemmas.{first_fits}
use Rattle.fancy_regex_search.proofs.OffsetLemmas.{found-is}
use Rattle.fancy_regex_search.proofs.ResultLemmas.{ok_then, err_then}
use Rattle.fancy_regex_search.proofs.group_spans.has_match.Goals as goal

-- the search begins between two characters
pub has_match-requires-clause-first : goal.has_match-requires-clause-first
has_match-requires-clause-first g c =
    rw (c.as_str.ensures, c.haystack-haystack.ensures, c.run_input_for-run_input.ensures)
    (λ inside. first_fits (g.S.Input.text c.args.input.now.haystack) c.args.input.now.config c.args.input.now.fits inside)

pub has_match-requires-clause-range : goal.has_match-requires-clause-range
has_match-requires-clause-range g c =
    rw (c.as_str.ensures, c.haystack-haystack.ensures, c.run_input_for-run_input.ensures) c.args.input.now.fits.range_end.0

-- the answer is that of the configured search
pub returns-clause-answer : goal.returns-clause-answer
returns-clause-answer g c =
    let s = c.args.regex.now.meta in
    let text = g.S.Input.text c.args.input.now.haystack in
    let told = rw (c.as_str.ensures, c.haystack-haystack.ensures, c.run_input_for-run_input.ensures) at c.has_match.ensures.answer in
    ok_then c.has_match.result told (λ yes is.
    is ∙ ap is_some (match-same s text c.args.input.now.config false) ∙ ap is_some (sym (found-is s text c.args.input.now.config)))

pub returns-clause-limits : goal.returns-clause-limits
returns-clause-limits g c =
    let s = c.args.regex.now.meta in
    let text = g.S.Input.text c.args.input.now.haystack in
    let told = rw (c.as_str.ensures, c.haystack-haystack.ensures, c.run_input_for-run_input.ensures) at c.has_match.ensures.limits in
    err_then c.has_match.result told (error-same s text c.args.input.now.config false)

pub returns-clause-stays : goal.returns-clause-stays
returns-clause-stays g c = rw (c.as_str.ensures, c.haystack-haystack.ensures, c.run_input_for-run_input.ensures) at c.has_match.ensures.stays
