use Rattle.std.proofs.Common.{◌≡◌, List, ℕ, Some, ◌∙◌, ap, false, subst}
use Rattle.fancy_regex_input.specs.declared.config.SearchConfig.{SearchConfig}
use Rattle.fancy_regex_meaning.specs.Searches.{Match}
use Rattle.fancy_regex_meta.specs.MetaMatches.{meta_match, meta_pattern}
use Rattle.fancy_regex_meta.specs.SearchLimits.{MetaStaysInLimits}
use Rattle.fancy_regex_search.specs.CaptureSpans.{AreGroupsOf}
use Rattle.fancy_regex_ffi.specs.Searches.{config_of, AreGroupSpans}
use Rattle.fancy_regex_ffi.proofs.EndLemmas.{groups_found}
use Rattle.fancy_regex_ffi.proofs.calls.captures_in.Goals as goal

pub returns-in-Some : goal.returns-in-Some
returns-in-Some c =
    let meta = c.args.regex.now.meta in
    let text = c.args.text.now in
    let query = c.args.query.now in
    let captures = c.in-Some.found in
    let input = c.continue_from_previous_match_end-input.result in
    let shown : input.haystack.now ≡ text = λ i. ((c.continue_from_previous_match_end-input.ensures.haystack ∙ c.from_pos.ensures.haystack ∙ c.new.ensures.haystack) i).now in
    let config : input.config ≡ config_of text query = c.continue_from_previous_match_end-input.ensures.config
    ∙ ap (λ (a : SearchConfig). record a { continues = query.continues }) (c.from_pos.ensures.config ∙ ap (λ (a : SearchConfig). record a { start = query.position }) c.new.ensures.config) in
    let gave : (m : Match) × (meta_match meta input.haystack.now input.config ≡ Some m) × AreGroupsOf (meta_pattern meta) captures.slots.items m =
    rw c.in-Some.is at c.in_ok-found.ensures.answer in
    let answer : (m : Match) × (meta_match meta text (config_of text query) ≡ Some m) × AreGroupsOf (meta_pattern meta) captures.slots.items m =
    subst (λ (a : SearchConfig). (m : Match) × (meta_match meta text a ≡ Some m) × AreGroupsOf (meta_pattern meta) captures.slots.items m) config
    (subst (λ (t : List ℕ). (m : Match) × (meta_match meta t input.config ≡ Some m) × AreGroupsOf (meta_pattern meta) captures.slots.items m) shown gave) in
    let of = rw c.in-Some.is at c.in_ok-found.ensures.of in
    let seen : captures.haystack.now ≡ text = λ i. ((of.0 ∙ c.continue_from_previous_match_end-input.ensures.haystack ∙ c.from_pos.ensures.haystack ∙ c.new.ensures.haystack) i).now in (
      (
        rw c.in_ok-check_place.was at c.check_place.ensures,
        subst (λ (a : SearchConfig). MetaStaysInLimits meta text a false) config
            (subst (λ (t : List ℕ). MetaStaysInLimits meta t input.config false) shown c.in_ok-found.ensures.stays),
      ),
      groups_found meta text query captures.slots.items c.write_groups.new.spans answer.0 answer.1 answer.2
          (subst (λ (t : List ℕ). AreGroupSpans t captures.slots.items c.write_groups.new.spans) seen c.write_groups.ensures),
    )
