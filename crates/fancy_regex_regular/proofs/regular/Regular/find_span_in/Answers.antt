use Rattle.std.proofs.Common.{ℕ, ◌+◌, ◌-◌, ◌*◌, ◌≤◌, length, ap, arith}
use Rattle.fancy_regex_class.specs.RunInputs.{setting_for}
use Rattle.fancy_regex_linear.specs.EasyPatterns.{span_of_match}
use Rattle.fancy_regex_regular.specs.Weights.{tree_state_weight}
use Rattle.fancy_regex_regular.proofs.FarLemmas.{none_found}
use Rattle.fancy_regex_regular.proofs.RegularGroupLemmas.{on_ok}
use Rattle.fancy_regex_regular.proofs.StillLemmas.{seen_is_asked}
use Rattle.fancy_regex_regular.proofs.RegularSpanLemmas.{none_past}
use Rattle.fancy_regex_regular.proofs.regular.Regular.find_span_in.Goals as goal

pub returns-then-input-clause-answer : goal.returns-then-input-clause-answer
returns-then-input-clause-answer c pattern is =
    none_found (setting_for c.args.self.now.unicode c.args.text.now c.args.input.now) pattern c.args.input.now c.args.self.now.longest span_of_match
    (none_past c.args.self.now.unicode pattern c.args.text.now c.args.input.now c.args.self.now.longest (omega (arith, c.if-input.true)))

pub returns-clause-at_most : goal.returns-clause-at_most
returns-clause-at_most c first still pattern is =
    let low : c.args.input.now.first ≤ c.args.input.now.range.end = omega (arith, c.if-input.false) in
    let base = c.find_span_again.ensures.anew c.forget.ensures low in
    let most = c.find_span_again.ensures.at_most first still low pattern is in
    let seen = ap (λ (first : ℕ). 4 * tree_state_weight pattern.groups pattern.tree * (length c.args.text.now - first + 1))
    (seen_is_asked c.args.self.now c.args.input.now pattern is) in
    let begun = ap (λ (first : ℕ). 4 * tree_state_weight pattern.groups pattern.tree * (length c.args.text.now - first + 1)) base in
    omega (arith, most, seen, begun)

pub returns-clause-walked : goal.returns-clause-walked
returns-clause-walked c first =
    let low : c.args.input.now.first ≤ c.args.input.now.range.end = omega (arith, c.if-input.false) in
    let base = c.find_span_again.ensures.anew c.forget.ensures low in
    on_ok c.find_span_again.result
    (λ walked pattern is.
    let weight = tree_state_weight pattern.groups pattern.tree in
    let most = walked low pattern is in
    let seen = ap (λ (first : ℕ). 12 * (weight * weight) * (length c.args.text.now - first + 1)) (seen_is_asked c.args.self.now c.args.input.now pattern is) in
    let begun = ap (λ (first : ℕ). 12 * (weight * weight) * (length c.args.text.now - first + 1)) base in
    omega (arith, most, seen, begun))
    (c.find_span_again.ensures.walked first)
