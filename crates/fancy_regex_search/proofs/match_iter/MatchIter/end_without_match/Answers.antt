use Rattle.std.proofs.Common.{max, refl}
use Rattle.fancy_regex_meta.specs.FoundParts.{wanted_parts}
use Rattle.fancy_regex_meta.specs.MetaMatches.{meta_pattern, meta_match_from}
use Rattle.fancy_regex_search.proofs.OffsetLemmas.{none-of}
use Rattle.fancy_regex_search.proofs.StepLemmas.{found_none_step}
use Rattle.fancy_regex_search.proofs.match_iter.MatchIter.end_without_match.Goals as goal

pub returns-clause-step : goal.returns-clause-step
returns-clause-step g c =
    let self = c.args.self.now in
    let s = self.regex.now.meta in
    let text = g.S.Input.text self.input.haystack in
    let a = self.input.config in
    let none = none-of (wanted_parts self.wanted (meta_pattern s)) (meta_match_from s text a (max a.start a.range_start) self.state.continue_disabled) c.requires.found in
    found_none_step s text a self.state self.wanted c.requires.going _ refl refl c.requires.inside none c.requires.stays
