use Rattle.std.proofs.Common.{◌≡◌, ◌∙◌, Bool, false, List, Option, replicate, slice_index_or, sym, ap, subst}
use Rattle.fancy_regex_linear.specs.Passing.{HasMarksOf}
use Rattle.fancy_regex_linear.proofs.PassingLemmas.{none_marked}
use Rattle.fancy_regex_linear.proofs.passing.Passing.new.Goals as goal
use Rattle.fancy_regex_linear.proofs.passing.Passing.new.Goals.{in-Some, in-None}

pub returns-clause-second : goal.returns-clause-second
returns-clause-second c =
    let marks : List Bool = c.match-second.second in
    elim c.match-second.branch [
      | in-Some w ↦ subst (λ (o : Option (List Bool)). HasMarksOf o marks) (sym w.in-Some.is) w.second-is
      | in-None w ↦ subst (λ (o : Option (List Bool)). HasMarksOf o marks) (sym w.in-None.is) (λ k. ap (λ (ms : List Bool). slice_index_or ms k false) w.second-is ∙ none_marked 128 k)
    ]
