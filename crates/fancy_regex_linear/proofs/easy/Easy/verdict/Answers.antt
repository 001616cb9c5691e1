use Rattle.std.proofs.Common.{◌≡◌, ℕ, ◌*◌, ◌≤◌, ◌∙◌, List, [], length, replicate, sym, ap, arith}
use Rattle.std.specs.Prelude.{is_some}
use Rattle.fancy_regex_class.specs.RunInputs.{setting_for}
use Rattle.fancy_regex_linear.specs.EasyPatterns.{match_for, span_of_match}
use Rattle.fancy_regex_linear.specs.Find.{earliest, places, span_of_found}
use Rattle.fancy_regex_linear.specs.Plain.{no_calls, classes, re_of}
use Rattle.fancy_regex_linear.specs.SettingView.{view_of}
use Rattle.fancy_regex_linear.specs.Starts.{spot_from}
use Rattle.fancy_regex_linear.specs.Verdicts.{has_match}
use Rattle.fancy_regex_linear.proofs.AnswerLemmas.{program_does, closed, entry_in, span_is_match}
use Rattle.fancy_regex_linear.proofs.CharTestLemmas.{shows_all}
use Rattle.fancy_regex_linear.proofs.PlainLemmas.{sound, plain_may}
use Rattle.fancy_regex_linear.proofs.VerdictLemmas.{map_some, tells, verdict_goes_on}
use Rattle.fancy_regex_linear.proofs.easy.Easy.verdict.Goals as goal

pub table_verdict-requires-clause-context : goal.table_verdict-requires-clause-context
table_verdict-requires-clause-context c =
    let self = c.args.self.now in
    record {
      entry = rw c.deref.ensures.value (entry_in self.states.items self.entry self.made);
      closed = rw c.deref.ensures.value (closed self.states.items self.entry self.made);
      table = rw (c.deref.ensures.value, c.deref-2.ensures.value, c.rules.ensures) self.table;
      marks = rw (c.deref.ensures.value, c.deref-2.ensures.value, c.rules.ensures) self.marks;
    }

pub table_verdict-requires-clause-table : goal.table_verdict-requires-clause-table
table_verdict-requires-clause-table c =
    let self = c.args.self.now in
    let serves = c.in-Some.ensures in
    record {
      table = rw (c.deref.ensures.value, c.deref-2.ensures.value, c.rules.ensures) serves.table;
      passing = ap (λ p. p.first) serves.passing;
      seconds = rw (serves.passing, c.deref.ensures.value, c.deref-2.ensures.value, c.rules.ensures) self.seconds;
      wide = rw (serves.passing, c.deref.ensures.value, c.deref-2.ensures.value, c.rules.ensures) self.wides;
      before = rw (serves.before, c.deref.ensures.value, c.deref-2.ensures.value, c.rules.ensures) self.befores;
      text_is = serves.text_is ∙ sym c.new-counted.ensures.text;
      first = ap (λ r. r.longest) c.rules.ensures ∙ serves.first;
      start_shown = ap (λ r. r.no_start_text) c.rules.ensures ∙ serves.start_shown;
      end_shown = ap (λ r. r.no_end_text) c.rules.ensures ∙ serves.end_shown;
      whole = serves.whole ∙ ap length (sym c.new-counted.ensures.text);
    }

pub returns-clause-verdict : goal.returns-clause-verdict
returns-clause-verdict c pattern is =
    let self = c.args.self.now in
    let text = c.args.text.now in
    let input = c.args.input.now in
    let re = re_of self.unicode [] no_calls pattern.first_group 0 pattern.tree in
    let view = view_of (setting_for self.unicode text input) (classes pattern.tree) self.longest in
    let d = program_does view input.range.end self.states.items self.entry re (is.serves.program, sound self.unicode [] no_calls pattern.first_group 0 pattern.tree is.serves.plain)
    (plain_may self.unicode [] no_calls pattern.first_group 0 pattern.tree is.serves.plain) in
    let shows = shows_all self.unicode self.longest text input self.matchers.items (classes pattern.tree) is.serves.matchers_are c.utf8.text in
    let below : input.first ≤ input.range.end = omega (arith, c.if-at-stop.false) in
    let free : List ℕ = replicate (2 * length pattern.groups) 18446744073709551615 in
    let same : (at : ℕ) → at ≤ input.range.end
    → has_match self text (record input { first = at }) pattern ≡ is_some (earliest (spot_from d.go self.entry free) (places text input.anchored at input.range.end)) =
    λ at inside.
    sym (map_some span_of_match (match_for self text (record input { first = at }) pattern))
    ∙ ap is_some (span_is_match self.unicode self.longest text (record input { first = at }) self.states.items self.entry pattern is.serves.plain c.requires.range d inside)
    ∙ map_some span_of_found (earliest (spot_from d.go self.entry free) (places text input.anchored at input.range.end)) in
    let said = c.table_verdict.ensures.verdict view d.go (record {
      longest = ap (λ r. r.longest) (sym c.rules.ensures);
      shows = rw (c.deref-2.ensures.value, c.rules.ensures, c.new-counted.ensures.text) shows;
      agree = rw c.deref.ensures.value d.agree;
    }) free in
    let range = c.table_verdict.ensures.range in
    tells self text input pattern self.entry input.range.end d.go free same c.if-input.false below c.table_verdict.result (rw c.new-counted.ensures.text at said) (rw c.new-counted.ensures.text at range)

pub returns-clause-goes_on : goal.returns-clause-goes_on
returns-clause-goes_on c =
    verdict_goes_on c.args.text.now c.args.input.now.first c.args.input.now.range.end c.table_verdict.result (rw c.new-counted.ensures.text at c.table_verdict.ensures.range)
