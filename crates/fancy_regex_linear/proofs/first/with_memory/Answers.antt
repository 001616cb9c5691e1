use Rattle.std.proofs.Common.{◌≡◌, ◌∙◌, ◌+◌, ◌-◌, ◌*◌, ◌≤◌, ◌^◌, ℕ, List, min, subst, arith, length}
use Rattle.fancy_regex_class.specs.Looks.{looked_text, look_count}
use Rattle.fancy_regex_linear.specs.Find.{earliest, attempted, places}
use Rattle.fancy_regex_linear.specs.Settled.{IsAnswer}
use Rattle.fancy_regex_linear.specs.Starts.{spot_from}
use Rattle.fancy_regex_linear.proofs.AloneLemmas.{looks_anew, none_visited}
use Rattle.fancy_regex_linear.proofs.first.with_memory.Goals as goal
use Rattle.fancy_regex_linear.proofs.first.with_memory.Goals.{After-earliest_match}

-- the bound, after the search
bound : (c : After-earliest_match) → look_count c.earliest_match.new.text
    ≤ look_count c.args.text.now + (c.args.context.now.stop - c.args.request.now.start + 1) * length c.args.context.now.states.now + (c.args.context.now.stop - c.args.request.now.start + 1)
bound c =
    looks_anew (look_count c.earliest_match.new.text) (look_count c.args.text.now) c.restart.new.self.visited c.args.request.now.start c.args.context.now.stop (length c.args.context.now.states.now)
    (c.args.context.now.stop - c.args.request.now.start + 1) c.requires.range.0 c.in_ok-restart.ensures.visited.1 c.in_ok-restart.ensures.visited.0 c.earliest_match.ensures.at_most

pub returns-in_err-span-clause-at_most : goal.returns-in_err-span-clause-at_most
returns-in_err-span-clause-at_most c = bound (goal.at.returns-in_err-span-clause-at_most c).After-earliest_match

pub returns-clause-at_most : goal.returns-clause-at_most
returns-clause-at_most c = bound (goal.at.returns-clause-at_most c).After-earliest_match

pub returns-clause-answer : goal.returns-clause-answer
returns-clause-answer c view go explains =
    rw c.in_ok-restart.ensures.slots at (c.in_ok-span.ensures.answer view go explains (none_visited view.longest go c.restart.new.self.visited c.in_ok-restart.ensures.visited.2))

pub returns-clause-at_least : goal.returns-clause-at_least
returns-clause-at_least c view go explains =
    rw c.in_ok-restart.ensures.slots at (c.in_ok-span.ensures.at_least view go explains (none_visited view.longest go c.restart.new.self.visited c.in_ok-restart.ensures.visited.2))
