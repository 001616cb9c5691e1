use Rattle.std.proofs.Common.{◌≡◌, [], string_bytes, false}
use Rattle.std.specs.Prelude.{drop}
use denote.Text.{Utf8}
use denote.Shadow.{shadow}
use Rattle.fancy_regex_input.specs.SearchInputs.{whole}
use Rattle.fancy_regex_meaning.specs.Searches.{counted}
use Rattle.fancy_regex_search.specs.RemainingMatches.{all_matches, remaining_matches, remaining_searches}
use Rattle.fancy_regex_search.specs.Replacements.{still_replaced}
use Rattle.fancy_regex_search.proofs.ReplaceLemmas.{Completes, Progress}
use Rattle.fancy_regex_search.proofs.replace.replace_by_calls.Given as goal

-- says that each `&str` the loop changes is text: keep it, and add clauses with ×
abbrev pub invariant-loop-found : goal.invariant-loop-found
invariant-loop-found g l =
    let s = l.fn.regex.meta in
    let text = l.fn.text in
    let iter = l.gaps.match_iter in
    let ms = counted l.fn.limit (all_matches s text (whole text)) in
    let left = still_replaced l.left (remaining_matches s text iter.input.config iter.state) in
    shadow (Utf8 l.rest)
    × g.R.Replacer.is_ready l.replacer
    × (iter.input.haystack.now ≡ text) × (iter.regex.now.meta ≡ s)
    × (iter.input.config ≡ record (whole text) { start = iter.input.config.start })
    × Progress g.R.Replacer.answers s text ms l.fn.replacer iter.input.config iter.state left l.replacer
    × (l.rest ≡ drop l.gaps.last_end text)
    × Completes g.R.Replacer.answers s text ms l.fn.replacer l.gaps.last_end left l.replacer (string_bytes l.out)
    × (ms ≡ [] → (left ≡ []) × (l.is_changed ≡ false))
    × (l.is_changed ≡ false → (string_bytes l.out ≡ []) × (l.gaps.last_end ≡ 0))
    × (iter.state.is_done ≡ false)
    × (iter.wanted ≡ l.fn.wanted)

abbrev pub decreases-loop-found : goal.decreases-loop-found
decreases-loop-found g l = remaining_searches l.gaps.match_iter.input.haystack.now l.gaps.match_iter.input.config l.gaps.match_iter.state
