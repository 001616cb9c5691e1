use Rattle.std.proofs.Common.{◌+◌, ◌∙◌, refl, ap}
use Rattle.fancy_regex_linear.specs.Visited.{flags}
use Rattle.fancy_regex_linear.proofs.VisitedLemmas.{flags-appended, adds_appended, counted_appended, same_flags, on_err}
use Rattle.fancy_regex_linear.proofs.visited.Visited.append.Goals as goal

pub returns-clause-adds : goal.returns-clause-adds
returns-clause-adds c =
    let v = c.args.self.now in
    let e = c.in_ok-push.ensures.items in
    adds_appended v _ c.args.state c.requires.state refl refl
    (ap (flags v.count v.width (v.rows + 1)) e ∙ flags-appended v.count v.width v.rows v.words.items c.args.state v.wide c.requires.narrow v.filled c.requires.state)

pub returns-clause-counted : goal.returns-clause-counted
returns-clause-counted c =
    let v = c.args.self.now in
    let e = c.in_ok-push.ensures.items in
    counted_appended v _ c.args.state c.requires.state
    (ap (flags v.count v.width (v.rows + 1)) e ∙ flags-appended v.count v.width v.rows v.words.items c.args.state v.wide c.requires.narrow v.filled c.requires.state)

pub returns-in_err-push-clause-err : goal.returns-in_err-push-clause-err
returns-in_err-push-clause-err c =
    let v = c.args.self.now in let e = c.in_err-push.ensures.items in
    on_err c.from_residual.result _ (refl, same_flags v _ refl refl (ap (flags v.count v.width v.rows) e))
