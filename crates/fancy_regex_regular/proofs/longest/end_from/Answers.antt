use Rattle.std.proofs.Common.{◌≡◌, ◌∙◌, ap, arith}
use Rattle.std.specs.Prelude.{option_map}
use Rattle.fancy_regex_parts.specs.Layers.{HasWays}
use Rattle.fancy_regex_parts.specs.Ways.{ways_of, text_view}
use Rattle.fancy_regex_regular.specs.Ends.{end_in, ways_from}
use Rattle.fancy_regex_regular.specs.Regulars.{continue_place}
use Rattle.fancy_regex_regular.proofs.AskedLemmas.{is_asked, end_from}
use Rattle.fancy_regex_regular.proofs.ContinueLemmas.{place_for}
use Rattle.fancy_regex_regular.proofs.FarLemmas.{none_past_range, end_is_between}
use Rattle.fancy_regex_regular.proofs.RegularGroupLemmas.{ways_in}
use Rattle.fancy_regex_regular.proofs.longest.end_from.Goals as goal

pub returns-then-least-input-clause-end : goal.returns-then-least-input-clause-end
returns-then-least-input-clause-end c =
    none_past_range c.args.regular.now c.args.text.now c.args.input.now c.args.start c.args.least (omega (arith, c.if-least-input.true))

pub ask-requires-clause-ready : goal.ask-requires-clause-ready
ask-requires-clause-ready c = record {
  table = rw c.context-context.ensures.table_is c.args.regular.now.right;
  of_text = rw c.new-looked.ensures.text (c.restart.ensures.of_text c.args.text.now);
  small = rw c.new-looked.ensures.text (omega arith);
  stack = c.restart.ensures.stack;
}

pub ask-requires-clause-place : goal.ask-requires-clause-place
ask-requires-clause-place c = record {
  state = rw c.context-context.ensures.table_is c.args.regular.now.inside;
  boundary = rw c.new-looked.ensures.text c.requires.start;
  low = rw c.context-context.ensures.table_is (omega (arith, c.restart.ensures.base, c.lowest.ensures));
}

pub returns-clause-end : goal.returns-clause-end
returns-clause-end c pattern is =
    let regular = c.args.regular.now in
    let text = c.args.text.now in
    let input = c.args.input.now in
    let stop = input.range.end in
    let a = is_asked regular.unicode regular.resets_start regular.table.states.items regular.entry regular.matchers.items pattern is.states text input
    (continue_place regular input) c.args.least (place_for regular input) c.utf8.text in
    let ways = ways_of a.go in
    let has_ways : HasWays c.context-context.result text (text_view a.view) ways =
    ways_in c.context-context.result regular input c.args.least c.context-context.ensures text (text_view a.view) ways a.explains in
    let said : c.in_ok-end.end ≡ ways.end regular.entry c.args.start =
    (rw c.new-looked.ensures.text at c.in_ok-end.ensures.answer) (text_view a.view) ways has_ways (c.restart.ensures.remembers ways) in
    let is_end : c.in_ok-end.end ≡ end_in c.args.least stop (ways_from regular text input pattern c.args.start) =
    said
    ∙ ap (option_map (λ t. t.end)) (a.means c.args.start c.requires.start.0)
    ∙ end_from regular.unicode regular.resets_start text input pattern is.states.of_tree is.states.all_classes is.states.base is.states.called is.states.own_span
    is.states.regular is.states.stand regular.longest c.args.least c.args.start c.requires.start.0 in
    c.if_inside.ensures.same (end_is_between c.args.least stop (ways_from regular text input pattern c.args.start) c.in_ok-end.end is_end) ∙ is_end
