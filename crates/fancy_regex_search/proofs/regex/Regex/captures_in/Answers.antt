use Rattle.std.proofs.Common.{◌≡◌, ◌∙◌, max, sym, ap, Some, None, false}
use Rattle.std.specs.Prelude.{option_map}
use Rattle.fancy_regex_meta.specs.FoundParts.{found_parts, wanted_parts}
use Rattle.fancy_regex_meta.specs.declared.found.MatchDetail.TheVariants.{Groups}
use Rattle.fancy_regex_meta.specs.MetaMatches.{meta_pattern, meta_match_from}
use Rattle.fancy_regex_search.proofs.OffsetLemmas.{some-of, none-of, parts-of, found-is}
use Rattle.fancy_regex_search.proofs.regex.Regex.captures_in.Goals as goal

pub returns-in-Some-clause-answer : goal.returns-in-Some-clause-answer
returns-in-Some-clause-answer g c =
    let s = c.args.self.now.meta in
    let text = g.S.Input.text c.args.input.haystack in
    let a = c.args.input.config in
    let x = c.in-Some.matched in
    let told : Some (found_parts x) ≡ option_map (wanted_parts Groups (meta_pattern s)) (meta_match_from s text a (max a.start a.range_start) false) =
    sym (ap (option_map found_parts) c.in-Some.is) ∙ c.in_ok-found.ensures.answer in
    let f = some-of (wanted_parts Groups (meta_pattern s)) (meta_match_from s text a (max a.start a.range_start) false) (found_parts x) told in
    (f.0, found-is s text a ∙ f.1, ap (λ w. w.items) c.new-in-Some.ensures.slots ∙ (parts-of Groups (meta_pattern s) x f.0 f.2).2)

pub returns-in-None-clause-answer : goal.returns-in-None-clause-answer
returns-in-None-clause-answer g c =
    let s = c.args.self.now.meta in
    let text = g.S.Input.text c.args.input.haystack in
    let a = c.args.input.config in
    let told : None ≡ option_map (wanted_parts Groups (meta_pattern s)) (meta_match_from s text a (max a.start a.range_start) false) =
    sym (ap (option_map found_parts) c.in-None.is) ∙ c.in_ok-found.ensures.answer in
    found-is s text a ∙ none-of (wanted_parts Groups (meta_pattern s)) _ told
