use Rattle.std.proofs.Common.{◌∙◌, ◌≡◌, sym, ap, arith, length}
use Rattle.fancy_regex_states.specs.declared.rules.Rules.{Rules}
use Rattle.fancy_regex_table.specs.Cells.{Parts, Search}
use Rattle.fancy_regex_table.specs.Tables.{IsTable, IsSearchOf, Stands}
use Rattle.fancy_regex_table.proofs.TableLemmas.{lies_in_range, range_from}
use Rattle.fancy_regex_table.proofs.table.Table.pass_on.Goals as goal
use Rattle.fancy_regex_table.proofs.table.Table.pass_on.Goals.{After-run_on-place}

-- the search stands where the run ends
stands_there : (c : After-run_on-place) (parts : Parts) (rules : Rules) (s : Search) (table : IsTable parts c.args.self.now) → IsSearchOf parts rules s
    → parts.matchers ≡ c.args.matchers.now → s.text ≡ c.args.text.now → s.stop ≡ c.args.stop
    → Stands parts.matchers c.args.self.now.asked c.args.self.now.unicode table.rows s c.args.first
    → Stands parts.matchers c.args.self.now.asked c.args.self.now.unicode table.rows s c.run_on-place.result
stands_there c parts rules s table search same text stop here = c.run_on-place.ensures.stands parts rules s table search same text stop here

pub returns-then-place-stop : goal.returns-then-place-stop
returns-then-place-stop c =
    let run = c.run_on-place.ensures.run in
    let high = run.place.high in
    record {
      passed = λ parts rules s table search same text stop here.
          c.at_stop.ensures.passed parts rules s table search (omega (arith, c.if-place-stop.true, high, stop))
          (λ e. stop ∙ c.requires.end e ∙ ap length (sym text))
          (stands_there (goal.at.returns-then-place-stop c).After-run_on-place parts rules s table search same text stop here);
      range = range_from c.args.text.now c.args.first.start c.run_on-place.result.start c.args.stop c.at_stop.result run.low
          (lies_in_range c.args.text.now c.args.stop c.run_on-place.result c.at_stop.result run.place c.at_stop.ensures.lies);
    }

pub returns : goal.returns
returns c =
    let run = c.run_on-place.ensures.run in
    record {
      passed = λ parts rules s table search same text stop here.
          c.outcome.ensures.passed parts rules s table search same text stop
          (stands_there (goal.at.returns c).After-run_on-place parts rules s table search same text stop here);
      range = range_from c.args.text.now c.args.first.start c.run_on-place.result.start c.args.stop c.outcome.result run.low c.outcome.ensures.range;
    }
