use Rattle.std.proofs.Common.{◌∙◌, ◌≡◌, ℕ, List, sym, ap, subst, arith, length, IsCharBoundary}
use Rattle.regex_hir.specs.Text.{char_before}
use Rattle.fancy_regex_states.specs.declared.rules.Rules.{Rules}
use Rattle.fancy_regex_table.specs.Cells.{Parts, Search}
use Rattle.fancy_regex_table.specs.Tables.{IsTable, IsSearchOf, Stands}
use Rattle.fancy_regex_table.proofs.TableLemmas.{stands_first, lies_in_range, range_from}
use Rattle.fancy_regex_table.proofs.table.Table.pass.Goals as goal
use Rattle.fancy_regex_table.proofs.table.Table.pass.Goals.{After-run}

-- the search stands where the run ends
stands_there : (c : After-run) (parts : Parts) (rules : Rules) (s : Search) (table : IsTable parts c.args.self.now) → IsSearchOf parts rules s
    → parts.matchers ≡ c.args.matchers.now → s.text ≡ c.args.text.now → s.from ≡ c.args.from → s.stop ≡ c.args.stop
    → Stands parts.matchers c.args.self.now.asked c.args.self.now.unicode table.rows s c.run.new.place
stands_there c parts rules s table search same text from stop =
    c.run.ensures.stands parts rules s table search text stop
    (stands_first s c.args.self.now.fresh.items c.args.before c.in-Some.row c.args.from table.fresh
    (c.in-Some.ensures parts table same)
    (c.requires.before ∙ ap (λ (t : List ℕ). char_before t c.args.from) (sym text)) from (omega (arith, c.requires.range.0, stop))
    (subst (λ (t : List ℕ). IsCharBoundary t c.args.from) (sym text) c.requires.boundary))

pub run-requires-clause-place : goal.run-requires-clause-place
run-requires-clause-place c = record {
  order = omega arith;
  high = c.requires.range.0;
  boundary = c.requires.boundary;
  start_boundary = c.requires.boundary;
}

pub pass_on-requires-clause-place : goal.pass_on-requires-clause-place
pass_on-requires-clause-place c = c.run.ensures.run.place

pub returns-then-goes_on : goal.returns-then-goes_on
returns-then-goes_on c =
    let run = c.run.ensures.run in
    record {
      passed = λ parts rules s table search same text from stop.
          c.pass_on.ensures.passed parts rules s table search same text stop
          (stands_there (goal.at.returns-then-goes_on c).After-run parts rules s table search same text from stop);
      range = range_from c.args.text.now c.args.from c.run.new.place.start c.args.stop c.pass_on.result run.low c.pass_on.ensures.range;
    }

pub returns-then-place-stop : goal.returns-then-place-stop
returns-then-place-stop c =
    let run = c.run.ensures.run in
    let high = run.place.high in
    record {
      passed = λ parts rules s table search same text from stop.
          c.at_stop.ensures.passed parts rules s table search (omega (arith, c.if-place-stop.true, high, stop))
          (λ e. stop ∙ c.requires.end e ∙ ap length (sym text))
          (stands_there (goal.at.returns-then-place-stop c).After-run parts rules s table search same text from stop);
      range = range_from c.args.text.now c.args.from c.run.new.place.start c.args.stop c.at_stop.result run.low
          (lies_in_range c.args.text.now c.args.stop c.run.new.place c.at_stop.result run.place c.at_stop.ensures.lies);
    }

pub returns : goal.returns
returns c =
    let run = c.run.ensures.run in
    record {
      passed = λ parts rules s table search same text from stop.
          c.outcome.ensures.passed parts rules s table search same text stop
          (stands_there (goal.at.returns c).After-run parts rules s table search same text from stop);
      range = range_from c.args.text.now c.args.from c.run.new.place.start c.args.stop c.outcome.result run.low c.outcome.ensures.range;
    }
