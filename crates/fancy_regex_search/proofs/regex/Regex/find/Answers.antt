use Rattle.std.proofs.Common.{◌≡◌, ◌∙◌, max, sym, ap, Some, None, false}
use Rattle.std.specs.Prelude.{option_map}
use Rattle.fancy_regex_meta.specs.FoundParts.{found_parts, wanted_parts}
use Rattle.fancy_regex_meta.specs.declared.found.MatchDetail.TheVariants.{Span}
use Rattle.fancy_regex_meta.specs.MetaMatches.{meta_pattern, meta_match, meta_match_from}
use Rattle.fancy_regex_search.specs.CaptureSpans.{span_in}
use Rattle.fancy_regex_search.proofs.OffsetLemmas.{some-of, none-of, parts-of, found-is}
use Rattle.fancy_regex_search.proofs.regex.Regex.find.Goals as goal

pub returns-in-Some-clause-answer : goal.returns-in-Some-clause-answer
returns-in-Some-clause-answer g c =
    let s = c.args.self.now.meta in
    let text = g.S.Input.text c.new-input.result.haystack in
    let a = c.new-input.result.config in
    let x = c.in-Some.found in
    let told : Some (found_parts x) ≡ option_map (wanted_parts Span (meta_pattern s)) (meta_match_from s text a (max a.start a.range_start) false) =
    sym (ap (option_map found_parts) c.in-Some.is) ∙ c.in_ok-found.ensures.answer in
    let f = some-of (wanted_parts Span (meta_pattern s)) (meta_match_from s text a (max a.start a.range_start) false) (found_parts x) told in
    let k = parts-of Span (meta_pattern s) x f.0 f.2 in
    let is : Some (g.S.Input.span c.whole_match.result) ≡ option_map span_in (meta_match s text a) =
    ap Some (c.whole_match.ensures.span ∙ (λ i. (k.0 i, k.1 i)))
    ∙ sym (ap (option_map span_in) (found-is s text a ∙ f.1))
    in
    rw (c.new-input.ensures.haystack, c.new-input.ensures.config) at is

pub returns-clause-answer : goal.returns-clause-answer
returns-clause-answer g c =
    let s = c.args.self.now.meta in
    let text = g.S.Input.text c.new-input.result.haystack in
    let a = c.new-input.result.config in
    let told : None ≡ option_map (wanted_parts Span (meta_pattern s)) (meta_match_from s text a (max a.start a.range_start) false) =
    sym (ap (option_map found_parts) c.in-None.is) ∙ c.in_ok-found.ensures.answer in
    let is = sym (ap (option_map span_in) (found-is s text a ∙ none-of (wanted_parts Span (meta_pattern s)) _ told)) in
    rw (c.new-input.ensures.haystack, c.new-input.ensures.config) at is
