use Rattle.std.proofs.Common.{◌≡◌, ◌∙◌, sym, ap, Some, None, refl}
use Rattle.std.specs.Prelude.{option_map}
use Rattle.fancy_regex_meta.specs.FoundParts.{found_parts, wanted_parts}
use Rattle.fancy_regex_meta.specs.MemberSearches.{member_setting, member_search, meta_match_at}
use Rattle.fancy_regex_meta.specs.MetaMatches.{meta_pattern}
use Rattle.fancy_regex_meta.specs.declared.found.MatchDetail.TheVariants.{Groups}
use Rattle.fancy_regex_meta.proofs.MatchOffsetLemmas.{anchored_match}
use Rattle.fancy_regex_search.specs.AnchoredSearches.{continues_at}
use Rattle.fancy_regex_search.proofs.OffsetLemmas.{some-of, none-of, parts-of}
use Rattle.fancy_regex_search.proofs.anchored.match_at.Goals as goal

pub returns-in-Some-clause-answer : goal.returns-in-Some-clause-answer
returns-in-Some-clause-answer g c =
    let s = c.args.regex.now.meta in
    let text = g.S.Input.text c.args.haystack in
    let config = c.args.config.now in
    let wanted = meta_match_at s text config (continues_at config) c.args.position in
    let setting = member_setting s text config (continues_at config) in
    let alone = anchored_match setting (meta_pattern s) (member_search s config c.args.position) refl c.requires.inside in
    let x = c.in-Some.matched in
    let first = rw (c.as_str.ensures, c.run_input.ensures) at (sym (ap (option_map found_parts) c.in-Some.is) ∙ c.in_ok-found.ensures.answer) in
    let told : Some (found_parts x) ≡ option_map (wanted_parts Groups (meta_pattern s)) wanted =
    first ∙ ap (option_map (wanted_parts Groups (meta_pattern s))) alone in
    let f = some-of (wanted_parts Groups (meta_pattern s)) wanted (found_parts x) told in
    let k = parts-of Groups (meta_pattern s) x f.0 f.2 in
    (f.0, f.1, (ap (λ w. w.items) c.new-in-Some.ensures.slots ∙ k.2, λ i. (k.0 i, k.1 i)))

pub returns-in-None-clause-answer : goal.returns-in-None-clause-answer
returns-in-None-clause-answer g c =
    let s = c.args.regex.now.meta in
    let text = g.S.Input.text c.args.haystack in
    let config = c.args.config.now in
    let wanted = meta_match_at s text config (continues_at config) c.args.position in
    let setting = member_setting s text config (continues_at config) in
    let alone = anchored_match setting (meta_pattern s) (member_search s config c.args.position) refl c.requires.inside in
    let first = rw (c.as_str.ensures, c.run_input.ensures) at (sym (ap (option_map found_parts) c.in-None.is) ∙ c.in_ok-found.ensures.answer) in
    let told : None ≡ option_map (wanted_parts Groups (meta_pattern s)) wanted = first ∙ ap (option_map (wanted_parts Groups (meta_pattern s))) alone in
    none-of (wanted_parts Groups (meta_pattern s)) wanted told
