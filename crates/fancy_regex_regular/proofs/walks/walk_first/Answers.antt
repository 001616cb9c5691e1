use Rattle.std.proofs.Common.{◌≡◌, ◌∙◌, ◌+◌, ◌-◌, ◌*◌, ◌≤◌, ℕ, false, Some, length, sym, subst, arith, rules}
use Rattle.fancy_regex_class.specs.Looks.{look_count}
use Rattle.fancy_regex_class.specs.RunInputs.{setting_for}
use Rattle.fancy_regex_parts.specs.Layers.{HasWays, IsTrueOf}
use Rattle.fancy_regex_parts.specs.Ways.{ways_of, text_view}
use Rattle.fancy_regex_parts.proofs.WalkLemmas.{trace_by}
use Rattle.fancy_regex_regular.specs.Regulars.{continue_place}
use Rattle.fancy_regex_regular.specs.Weights.{tree_state_weight}
use Rattle.fancy_regex_regular.proofs.AskedLemmas.{is_asked}
use Rattle.fancy_regex_regular.proofs.ContinueLemmas.{place_for}
use Rattle.fancy_regex_regular.proofs.FarLemmas.{match_from, first_from}
use Rattle.fancy_regex_regular.proofs.KeptLemmas.{can_ask, can_walk_on, kept_after, ready_of, walked_after, walks_known}
use Rattle.fancy_regex_regular.proofs.RegularGroupLemmas.{along, tried_in, ways_in}
use Rattle.fancy_regex_regular.proofs.RegularWeightLemmas.{looks_for_groups}
use Rattle.fancy_regex_regular.proofs.walks.walk_first.Goals as goal
use Rattle.fancy_regex_regular.proofs.walks.walk_first.Goals.{After-walk}
use Rattle.fancy_regex_regular.specs.Kept.{IsWalkedFor}
use Rattle.std.specs.Prelude.{IfSome}

pub walk-requires-clause-ready : goal.walk-requires-clause-ready
walk-requires-clause-ready c =
    let regular = c.args.regular.now in
    let context = c.context-context.ensures in
    can_ask regular c.args.text.now c.args.input.now c.context-context.result context c.args.memory.now c.new-looked.result c.new-looked.ensures.text
    (omega arith) (rw context.table_is regular.right)
    (ready_of regular c.args.text.now c.args.input.now c.context-context.result context c.args.memory.now c.requires.walks.serves c.requires.kept)

pub walk-requires-clause-walked : goal.walk-requires-clause-walked
walk-requires-clause-walked c =
    rw c.new-looked.ensures.text
    (can_walk_on c.args.regular.now c.args.text.now c.args.input.now c.context-context.result c.context-context.ensures c.args.memory.now c.requires.walks.serves
    c.requires.kept c.requires.plain)

-- what the walk has found out is kept
walked : (c : After-walk) → IfSome c.args.memory.now.kept (IsWalkedFor c.args.regular.now c.args.text.now c.walk.new.walked)
walked c =
    walked_after c.args.regular.now c.args.text.now c.args.input.now c.context-context.result c.context-context.ensures c.args.memory.now c.walk.new.walked
    c.args.start c.requires.walks c.requires.kept c.requires.plain (rw c.new-looked.ensures.text at c.walk.ensures.walked)
    (rw c.new-looked.ensures.text at c.walk.ensures.known)

pub returns-in_err-walk-clause-kept : goal.returns-in_err-walk-clause-kept
returns-in_err-walk-clause-kept c =
    let regular = c.args.regular.now in
    let context = c.context-context.ensures in (
      kept_after regular c.args.text.now c.args.input.now c.context-context.result context c.args.memory.now c.walk.new.memory c.new-looked.result c.walk.new.text
          c.new-looked.ensures.text
          (ready_of regular c.args.text.now c.args.input.now c.context-context.result context c.args.memory.now c.requires.walks.serves c.requires.kept)
          c.walk.ensures.leaves,
      walked (goal.at.returns-in_err-walk-clause-kept c).After-walk,
    )

pub returns-clause-kept : goal.returns-clause-kept
returns-clause-kept c =
    let regular = c.args.regular.now in
    let context = c.context-context.ensures in (
      kept_after regular c.args.text.now c.args.input.now c.context-context.result context c.args.memory.now c.walk.new.memory c.new-looked.result c.walk.new.text
          c.new-looked.ensures.text
          (ready_of regular c.args.text.now c.args.input.now c.context-context.result context c.args.memory.now c.requires.walks.serves c.requires.kept)
          c.walk.ensures.leaves,
      walked (goal.at.returns-clause-kept c).After-walk,
    )

pub returns-clause-told : goal.returns-clause-told
returns-clause-told c end attempt pattern is =
    let regular = c.args.regular.now in
    let text = c.args.text.now in
    let input = c.args.input.now in
    let start = c.args.start in
    let context = c.context-context.ensures in
    let place = c.requires.walks.place in
    let m = match_from (setting_for regular.unicode text input) pattern input false start end (attempt pattern is) in
    let l = along false regular text input start end pattern is m 0 (first_from (setting_for regular.unicode text input) pattern input start end m)
    (omega arith) c.utf8.text place.boundary in
    let a = is_asked regular.unicode regular.resets_start regular.table.states.items regular.entry regular.matchers.items pattern is.states text input
    (continue_place regular input) 0 (place_for regular input) c.utf8.text in
    let ways = ways_of a.go in
    let has_ways : HasWays c.context-context.result text (text_view a.view) ways =
    ways_in c.context-context.result regular input 0 context text (text_view a.view) ways a.explains in
    let is_ready = ready_of regular text input c.context-context.result context c.args.memory.now c.requires.walks.serves c.requires.kept in
    let true_of : IsTrueOf c.context-context.result ways c.args.memory.now.parts.recall = is_ready.remembers (text_view a.view) ways has_ways in
    let tried = tried_in c.context-context.result regular input 0 context text a.view a.go a.first a.does a.shows in
    let answer : (a.go regular.entry start).answer ≡ Some l.trace = a.means start place.boundary.0 ∙ l.answer_is in
    let by = trace_by c.context-context.result text a.view a.go tried regular.entry start (rw context.table_is regular.inside) place.boundary.0 l.trace answer in
    let written = (rw c.new-looked.ensures.text at c.in_ok-walk.ensures.written) a.view a.go tried true_of
    (walks_known regular text input c.context-context.result context c.args.memory.now c.requires.walks.serves c.requires.kept c.requires.plain a.view a.go tried) l.trace
    (subst (λ (q : ℕ). (a.go q start).answer ≡ Some l.trace) (sym context.entry_is) answer) in
    l.told by (length c.args.slots.now) c.walk.new.slots written

pub returns-clause-at_most : goal.returns-clause-at_most
returns-clause-at_most c before first pattern is =
    let regular = c.args.regular.now in
    let text = c.args.text.now in
    let context = c.context-context.ensures in
    let most = rw (context.table_is, context.entry_is, c.new-looked.ensures.text, c.new-looked.ensures.count) at c.in_ok-walk.ensures.at_most in
    let all = looks_for_groups regular text c.args.input.now pattern is c.args.memory.now.parts.recall.base c.args.memory.now.parts.recall.base
    before c.args.steps.now (look_count c.walk.new.text) (omega arith) (first pattern is) most in
    let b : look_count c.walk.new.text ≤ before + 12 * (tree_state_weight pattern.groups pattern.tree * tree_state_weight pattern.groups pattern.tree)
    * (length text - c.walk.new.memory.recall.base + 1) = rw c.walk.ensures.leaves.base all in
    search rules
