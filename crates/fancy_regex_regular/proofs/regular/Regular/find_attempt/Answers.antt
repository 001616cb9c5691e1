use Rattle.std.proofs.Common.{◌≡◌, ◌∙◌, ◌+◌, Bool, Some, sym, subst, arith}
use Rattle.fancy_regex_class.specs.RunInputs.{setting_for, search_for}
use Rattle.fancy_regex_meaning.specs.Groups.{Pattern}
use Rattle.fancy_regex_regular.specs.Attempts.{first_attempt}
use Rattle.fancy_regex_regular.specs.Regulars.{IsRegularOf}
use Rattle.fancy_regex_regular.proofs.FarLemmas.{IsFirstAt, first_at, none_past_range, none_wanted}
use Rattle.fancy_regex_regular.proofs.regular.Regular.find_attempt.Goals as goal
use Rattle.fancy_regex_regular.proofs.regular.Regular.find_attempt.Goals.{In-Some}

pub returns-in_default-clause-answer : goal.returns-in_default-clause-answer
returns-in_default-clause-answer c pattern is =
    none_wanted (setting_for c.args.self.now.unicode c.args.text.now c.args.input.now) pattern c.args.input.now c.args.self.now.longest
    (sym c.in_default.is ∙ c.in_ok-first.ensures.answer pattern is)

-- where the attempt that finds the first match starts and ends
found : (c : In-Some) (pattern : Pattern) (is : IsRegularOf c.args.self.now pattern)
    → IsFirstAt (setting_for c.args.self.now.unicode c.args.text.now c.args.input.now) pattern c.args.input.now c.in-Some.start c.in-Some.end
found c pattern is =
    first_at (setting_for c.args.self.now.unicode c.args.text.now c.args.input.now) pattern c.args.input.now c.in-Some.start c.in-Some.end
    (sym c.in-Some.is ∙ c.in_ok-first.ensures.answer pattern is)

pub returns-then-end-input-clause-answer : goal.returns-then-end-input-clause-answer
returns-then-end-input-clause-answer c pattern is =
    let self = c.args.self.now in
    let text = c.args.text.now in
    let input = c.args.input.now in
    let start = c.in-Some.start in
    let end = c.in-Some.end in
    let f = found (goal.at.returns-then-end-input-clause-answer c).In-Some pattern is in
    subst (λ (b : Bool). Some (start, end) ≡ first_attempt (setting_for self.unicode text input) pattern (search_for b input)) (sym c.if-not-self.false)
    (f.longest end f.way (none_past_range self text input start (end + 1) (omega (arith, c.if-end-input.true)) pattern is))

pub longest_end-requires-clause-way : goal.longest_end-requires-clause-way
longest_end-requires-clause-way c pattern is = (found (goal.at.longest_end-requires-clause-way c).In-Some pattern is).way

pub returns-clause-answer : goal.returns-clause-answer
returns-clause-answer c pattern is =
    let self = c.args.self.now in
    let text = c.args.text.now in
    let input = c.args.input.now in
    let f = found (goal.at.returns-clause-answer c).In-Some pattern is in
    subst (λ (b : Bool). Some (c.in-Some.start, c.in_ok-last.last) ≡ first_attempt (setting_for self.unicode text input) pattern (search_for b input))
    (sym c.if-not-self.false)
    (f.longest c.in_ok-last.last (c.in_ok-last.ensures.way pattern is) (c.in_ok-last.ensures.last pattern is))
