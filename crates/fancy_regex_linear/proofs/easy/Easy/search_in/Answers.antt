use Rattle.std.proofs.Common.{◌≡◌, Option, None, sym, ap, arith}
use Rattle.std.specs.Prelude.{option_map}
use Rattle.fancy_regex_meaning.specs.Groups.{Pattern}
use Rattle.fancy_regex_class.specs.RunInputs.{match_slots}
use Rattle.fancy_regex_linear.specs.EasyPatterns.{IsEasyOf, match_for}
use Rattle.fancy_regex_linear.proofs.AnswerLemmas.{none_past, none_tried}
use Rattle.fancy_regex_linear.proofs.easy.Easy.search_in.Goals as goal
use Rattle.fancy_regex_linear.proofs.easy.Easy.search_in.Goals.{Then-input}

-- past the end of the range the definitions have no match
none : (c : Then-input) (pattern : Pattern) → IsEasyOf c.args.self.now pattern → match_for c.args.self.now c.args.text.now c.args.input.now pattern ≡ None
none c pattern is = none_past c.args.self.now.unicode c.args.self.now.longest c.args.text.now c.args.input.now c.args.self.now.states.items c.args.self.now.entry pattern is.serves.plain c.requires.range c.if-input.true

pub returns-then-input-clause-answer : goal.returns-then-input-clause-answer
returns-then-input-clause-answer c pattern is =
    sym (ap (option_map (match_slots pattern)) (none (goal.at.returns-then-input-clause-answer c).Then-input pattern is))

pub returns-then-input-clause-at_least : goal.returns-then-input-clause-at_least
returns-then-input-clause-at_least c pattern is =
    let none = none_tried c.args.self.now.unicode c.args.self.now.longest c.args.text.now c.args.input.now c.args.self.now.states.items c.args.self.now.entry pattern is.serves.plain c.requires.range c.if-input.true in
    omega (arith, none)
