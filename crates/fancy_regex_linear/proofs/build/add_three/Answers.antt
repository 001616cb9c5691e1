use Rattle.fancy_regex_linear.proofs.LineEndLemmas.{three_read}
use Rattle.fancy_regex_linear.proofs.build.add_three.Goals as goal

pub returns : goal.returns
returns c =
    three_read c.args.first c.args.second c.args.third c.args.branches.now.items c.add.new.values.items c.add-2.new.values.items c.add-3.new.values.items
    c.in_ok-add.ensures c.in_ok-add-2.ensures c.in_ok-add-3.ensures
