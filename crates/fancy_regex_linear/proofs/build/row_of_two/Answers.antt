use Rattle.fancy_regex_linear.proofs.LineEndLemmas.{row_is_of_two}
use Rattle.fancy_regex_linear.proofs.build.row_of_two.Goals as goal

pub returns : goal.returns
returns c =
    row_is_of_two c.args.first c.args.second c.add-2.new.values c.new-parts.result.items c.add.new.values.items c.new-parts.ensures.items c.in_ok-add.ensures
    c.in_ok-add-2.ensures
