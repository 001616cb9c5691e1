use Rattle.std.proofs.Common.{◌∙◌, Option, Some, None, ap, subst, sym, List, Bool}
use Rattle.std.proofs.lemmas.Bool.{false≢true}
use mathlib.Core.Logic.{∥∥₁_map, ∥∥₁_elim}
use Rattle.std.specs.Prelude.{IfSome}
use Rattle.fancy_regex_states.specs.First.{IsTableOf, RefusesSecond}
use Rattle.fancy_regex_states.specs.declared.first.FirstChars.{FirstChars}
use Rattle.fancy_regex_linear.specs.Passing.{HasMarksOf}
use Rattle.fancy_regex_linear.proofs.PassingLemmas.{seconds_of}
use Rattle.fancy_regex_linear.proofs.easy.passing_of.Goals as goal

pub returns-in-Some-clause-second : goal.returns-in-Some-clause-second
returns-in-Some-clause-second c unicode matchers states entry is =
    let marks = c.new.result.second in
    let known = subst (λ (o : Option (List Bool)). HasMarksOf o marks) c.refused_second.ensures c.new.ensures.second in
    ∥∥₁_map (subst (λ (o : Option FirstChars). ∥ IfSome o (IsTableOf unicode matchers states entry) ∥₁) c.in-Some.is is)
    (λ table. seconds_of unicode matchers states entry c.in-Some.first.second marks known table.second)

pub returns-in-None-clause-second : goal.returns-in-None-clause-second
returns-in-None-clause-second c unicode matchers states entry is =
    ∣ seconds_of unicode matchers states entry None c.new-in-None.result.second c.new-in-None.ensures.second tt ∣₁

pub returns-in-Some-clause-wide : goal.returns-in-Some-clause-wide
returns-in-Some-clause-wide c states entry is =
    ∥∥₁_map (subst (λ (o : Option FirstChars). ∥ IfSome o (IsTableOf c.args.unicode c.args.matchers.now states entry) ∥₁) c.in-Some.is is)
    (λ table said. c.refuses_wide-wide.ensures (sym c.new.ensures.wide ∙ said) states entry table)

pub returns-in-None-clause-wide : goal.returns-in-None-clause-wide
returns-in-None-clause-wide c states entry is = ∣ (λ said. absurd (false≢true (sym c.new-in-None.ensures.wide ∙ said))) ∣₁
