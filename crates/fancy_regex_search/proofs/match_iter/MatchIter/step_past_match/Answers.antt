use Rattle.std.proofs.Common.{◌≡◌, ◌≤◌, ◌<◌, ◌∙◌, ◌==◌, ℕ, max, refl, sym, ap, arith, Some, eqb}
use Rattle.std.specs.Option.{option_eq}
use Rattle.fancy_regex_meaning.specs.Positions.{position_after}
use Rattle.fancy_regex_meaning.specs.Searches.{Match}
use Rattle.fancy_regex_meta.specs.FoundParts.{found_parts, wanted_parts}
use Rattle.fancy_regex_meta.specs.MetaMatches.{meta_pattern, meta_match_from}
use Rattle.fancy_regex_search.proofs.OffsetLemmas.{some-of, parts-of}
use Rattle.fancy_regex_search.proofs.StepLemmas.{long_step, empty_step, skip_step}
use Rattle.fancy_regex_search.proofs.match_iter.MatchIter.step_past_match.Goals as goal

pub returns-then-start-end-clause-step : goal.returns-then-start-end-clause-step
returns-then-start-end-clause-step g c =
    let self = c.args.self.now in
    let s = self.regex.now.meta in
    let text = g.S.Input.text self.input.haystack in
    let a = self.input.config in
    let f = some-of (wanted_parts self.wanted (meta_pattern s)) (meta_match_from s text a (max a.start a.range_start) self.state.continue_disabled) (found_parts c.args.found) c.requires.found in
    let m : Match = f.0 in
    let k = parts-of self.wanted (meta_pattern s) c.args.found m f.2 in
    let end : c.args.found.end ≡ m.end = k.1 in
    let last = ap (λ (e : ℕ). Some e) end in
    let inside : max a.start a.range_start ≤ a.range_end = omega (arith, c.requires.within.after, c.requires.within.cuts.ordered, c.requires.within.inside) in
    let less : m.start < m.end = omega (arith, k.0, end, c.if-start-end.true) in
    long_step s text a self.state self.wanted c.requires.going inside self.input.fits.range_end.0 c.laws_of_items.ensures.more m c.args.found f.1 k c.requires.within _ _
    c.requires.going last c.requires.stays c.args.found.end less c.set_start.ensures.config end refl

pub returns-then-is_repeated-clause-step : goal.returns-then-is_repeated-clause-step
returns-then-is_repeated-clause-step g c =
    let self = c.args.self.now in
    let s = self.regex.now.meta in
    let text = g.S.Input.text self.input.haystack in
    let a = self.input.config in
    let f = some-of (wanted_parts self.wanted (meta_pattern s)) (meta_match_from s text a (max a.start a.range_start) self.state.continue_disabled) (found_parts c.args.found) c.requires.found in
    let m : Match = f.0 in
    let k = parts-of self.wanted (meta_pattern s) c.args.found m f.2 in
    let end : c.args.found.end ≡ m.end = k.1 in
    let last = ap (λ (e : ℕ). Some e) end in
    let inside : max a.start a.range_start ≤ a.range_end = omega (arith, c.requires.within.after, c.requires.within.cuts.ordered, c.requires.within.inside) in
    let most : m.end ≤ m.start = omega (arith, k.0, end, c.if-start-end.false) in
    let next : c.advance_position-next.result ≡ position_after text m.end = c.advance_position-next.ensures.value ∙ (λ i. position_after (g.S.Input.text (c.haystack.ensures i)) (end i)) in
    let onward : m.end < position_after text m.end = omega (arith, next, end, c.advance_position-next.ensures.after) in
    let flag : (c.args.found.end == c.effective_start.result) ≡ (m.end == max a.start a.range_start) = λ i. end i == c.effective_start.ensures i in
    let alike = ap (λ (e : ℕ). option_eq eqb self.state.last (Some e)) (sym end) ∙ sym c.eq-is_repeated.ensures ∙ c.if-is_repeated.true in
    skip_step s text a self.state self.wanted c.requires.going inside self.input.fits.range_end.0 c.laws_of_items.ensures.more m c.args.found f.1 k c.requires.within _ _
    c.requires.going last c.requires.stays c.advance_position-next.result most c.set_start-2.ensures.config next onward flag alike

pub returns-clause-step : goal.returns-clause-step
returns-clause-step g c =
    let self = c.args.self.now in
    let s = self.regex.now.meta in
    let text = g.S.Input.text self.input.haystack in
    let a = self.input.config in
    let f = some-of (wanted_parts self.wanted (meta_pattern s)) (meta_match_from s text a (max a.start a.range_start) self.state.continue_disabled) (found_parts c.args.found) c.requires.found in
    let m : Match = f.0 in
    let k = parts-of self.wanted (meta_pattern s) c.args.found m f.2 in
    let end : c.args.found.end ≡ m.end = k.1 in
    let last = ap (λ (e : ℕ). Some e) end in
    let inside : max a.start a.range_start ≤ a.range_end = omega (arith, c.requires.within.after, c.requires.within.cuts.ordered, c.requires.within.inside) in
    let most : m.end ≤ m.start = omega (arith, k.0, end, c.if-start-end.false) in
    let next : c.advance_position-next.result ≡ position_after text m.end = c.advance_position-next.ensures.value ∙ (λ i. position_after (g.S.Input.text (c.haystack.ensures i)) (end i)) in
    let onward : m.end < position_after text m.end = omega (arith, next, end, c.advance_position-next.ensures.after) in
    let flag : (c.args.found.end == c.effective_start.result) ≡ (m.end == max a.start a.range_start) = λ i. end i == c.effective_start.ensures i in
    let unlike = ap (λ (e : ℕ). option_eq eqb self.state.last (Some e)) (sym end) ∙ sym c.eq-is_repeated.ensures ∙ c.if-is_repeated.false in
    empty_step s text a self.state self.wanted c.requires.going inside self.input.fits.range_end.0 c.laws_of_items.ensures.more m c.args.found f.1 k c.requires.within _ _
    c.requires.going last c.requires.stays c.advance_position-next.result most c.set_start-2.ensures.config next onward flag unlike
