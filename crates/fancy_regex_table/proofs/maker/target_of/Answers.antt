use Rattle.fancy_regex_table.specs.Making.{parts_of}
use Rattle.fancy_regex_table.proofs.MakerLemmas.{fresh_right, open_right}
use Rattle.fancy_regex_table.proofs.maker.target_of.Goals as goal

pub returns-in_ok-target-in-Fresh : goal.returns-in_ok-target-in-Fresh
returns-in_ok-target-in-Fresh c rows readings begun right =
    fresh_right (parts_of c.args.context.now.pattern.now) rows c.args.row.now c.in-Fresh.before c.args.column.sort c.args.column.sample c.args.beginning.now.begun.now
    c.in_ok-target-in-Fresh.target c.in-Fresh.is c.in_ok-target-in-Fresh.ensures begun

pub returns-in_ok-target-in-Open : goal.returns-in_ok-target-in-Open
returns-in_ok-target-in-Open c rows readings begun right =
    open_right (parts_of c.args.context.now.pattern.now) rows c.args.row.now c.in-Open.before c.in-Open.own c.in-Open.later c.in-Open.found c.args.readings.now
    c.in-Some.reading.now c.args.column.sort c.args.column.sample c.args.beginning.now.begun.now c.args.beginning.now.fresh c.in_ok-target-in-Open.target c.in-Open.is
    c.in-Some.ensures c.in_ok-target-in-Open.ensures readings begun right
