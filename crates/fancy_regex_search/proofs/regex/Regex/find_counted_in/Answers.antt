use Rattle.std.proofs.Common.{◌≡◌, ◌∙◌, max, sym, ap, Some, None, false}
use Rattle.std.specs.Prelude.{option_map}
use Rattle.fancy_regex_meta.specs.FoundParts.{found_parts, wanted_parts}
use Rattle.fancy_regex_meta.specs.declared.found.MatchDetail.TheVariants.{Span}
use Rattle.fancy_regex_meta.specs.MetaMatches.{meta_pattern, meta_match_from}
use Rattle.fancy_regex_search.specs.CaptureSpans.{span_in}
use Rattle.fancy_regex_search.proofs.LookLemmas.{within_plain}
use Rattle.fancy_regex_search.proofs.OffsetLemmas.{some-of, none-of, parts-of, found-is}
use Rattle.fancy_regex_search.proofs.regex.Regex.find_counted_in.Goals as goal

pub returns-in-Some-clause-answer : goal.returns-in-Some-clause-answer
returns-in-Some-clause-answer g c =
    let s = c.args.self.now.meta in
    let text = g.S.Input.text c.args.input.haystack in
    let a = c.args.input.config in
    let x = c.in-Some.found in
    let told : Some (found_parts x) ≡ option_map (wanted_parts Span (meta_pattern s)) (meta_match_from s text a (max a.start a.range_start) false) =
    sym (ap (option_map found_parts) c.in-Some.is) ∙ c.in_ok-found.ensures.answer in
    let f = some-of (wanted_parts Span (meta_pattern s)) (meta_match_from s text a (max a.start a.range_start) false) (found_parts x) told in
    let k = parts-of Span (meta_pattern s) x f.0 f.2 in
    ap Some (c.whole_match.ensures.span ∙ (λ i. (k.0 i, k.1 i)))
    ∙ sym (ap (option_map span_in) (found-is s text a ∙ f.1))

pub returns-in-None-clause-answer : goal.returns-in-None-clause-answer
returns-in-None-clause-answer g c =
    let s = c.args.self.now.meta in
    let text = g.S.Input.text c.args.input.haystack in
    let a = c.args.input.config in
    let told : None ≡ option_map (wanted_parts Span (meta_pattern s)) (meta_match_from s text a (max a.start a.range_start) false) =
    sym (ap (option_map found_parts) c.in-None.is) ∙ c.in_ok-found.ensures.answer in
    sym (ap (option_map span_in) (found-is s text a ∙ none-of (wanted_parts Span (meta_pattern s)) _ told))

pub returns-in_err-found-clause-looks_plain : goal.returns-in_err-found-clause-looks_plain
returns-in_err-found-clause-looks_plain g c light served =
    within_plain c.weight_bound.ensures c.args.self.now.meta light c.args.input.config c.args.steps.now c.find_match.new.steps (c.find_match.ensures.looks_most served)

pub returns-in-Some-clause-looks_plain : goal.returns-in-Some-clause-looks_plain
returns-in-Some-clause-looks_plain g c light served =
    within_plain c.weight_bound.ensures c.args.self.now.meta light c.args.input.config c.args.steps.now c.find_match.new.steps (c.find_match.ensures.looks_most served)

pub returns-in-None-clause-looks_plain : goal.returns-in-None-clause-looks_plain
returns-in-None-clause-looks_plain g c light served =
    within_plain c.weight_bound.ensures c.args.self.now.meta light c.args.input.config c.args.steps.now c.find_match.new.steps (c.find_match.ensures.looks_most served)
