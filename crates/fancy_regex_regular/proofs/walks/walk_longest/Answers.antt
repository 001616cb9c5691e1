use Rattle.std.proofs.Common.{◌≡◌, ◌∙◌, ℕ, true, Some, length, sym, subst, arith}
use Rattle.fancy_regex_class.specs.RunInputs.{setting_for}
use Rattle.fancy_regex_parts.specs.Ways.{ways_of}
use Rattle.fancy_regex_parts.proofs.WalkLemmas.{trace_by}
use Rattle.fancy_regex_regular.specs.Regulars.{continue_place}
use Rattle.fancy_regex_regular.proofs.AskedLemmas.{is_asked}
use Rattle.fancy_regex_regular.proofs.ContinueLemmas.{place_for}
use Rattle.fancy_regex_regular.proofs.FarLemmas.{match_from, last_from}
use Rattle.fancy_regex_regular.proofs.RegularGroupLemmas.{along, tried_in}
use Rattle.fancy_regex_regular.proofs.walks.walk_longest.Goals as goal

pub returns-clause-told : goal.returns-clause-told
returns-clause-told c pattern is =
    let regular = c.args.regular.now in
    let text = c.args.text.now in
    let input = c.args.input.now in
    let start = c.args.start in
    let end = c.args.end in
    let context = c.context-context.ensures in
    let place = c.requires.walks.place in
    let m = match_from (setting_for regular.unicode text input) pattern input true start end (c.requires.attempt pattern is) in
    let l = along true regular text input start end pattern is m end (last_from (setting_for regular.unicode text input) pattern input start end m)
    (omega arith) c.utf8.text place.boundary in
    let a = is_asked regular.unicode regular.resets_start regular.table.states.items regular.entry regular.matchers.items pattern is.states text input
    (continue_place regular input) end (place_for regular input) c.utf8.text in
    let tried = tried_in c.context-context.result regular input end context text a.view a.go a.first a.does a.shows in
    let answer : (a.go regular.entry start).answer ≡ Some l.trace = a.means start place.boundary.0 ∙ l.answer_is in
    let by = trace_by c.context-context.result text a.view a.go tried regular.entry start (rw context.table_is regular.inside) place.boundary.0 l.trace answer in
    let written = (rw c.new-looked.ensures.text at c.in_ok-walk.ensures.written) a.view a.go tried (c.restart.ensures.remembers (ways_of a.go))
    (c.restart-2.ensures.known a.go) l.trace (subst (λ (q : ℕ). (a.go q start).answer ≡ Some l.trace) (sym context.entry_is) answer) in
    l.told by (length c.args.slots.now) c.walk.new.slots written
