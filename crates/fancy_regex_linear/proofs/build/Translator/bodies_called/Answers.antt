use Rattle.std.proofs.Common.{◌≡◌, ◌∙◌, ℕ, List, [], ◌∷◌, Bool, true, map, length, length-append, ap, rules, arith}
use Rattle.fancy_regex_info.specs.AnalysisRelations.{mark_at}
use Rattle.fancy_regex_info.specs.Views.{body_tree}
use Rattle.fancy_regex_linear.specs.CalledClasses.{IsBodyCause}
use Rattle.fancy_regex_linear.specs.Translation.{is_made}
use Rattle.fancy_regex_linear.proofs.CalleeLemmas.{level_begins, level_more, body_cause}
use Rattle.fancy_regex_linear.proofs.build.Translator.bodies_called.Goals as goal

pub loop-group-init : goal.loop-group-init
loop-group-init c = record {
  long = search rules;
  level = rw c.new-next.ensures.items (level_begins c.args.bodies.now c.args.marks.now c.args.self.now);
}

pub loop-group-preserved : goal.loop-group-preserved
loop-group-preserved c =
    let tells : (j : ℕ) → mark_at c.deref-in-loop-group.result.now j ≡ is_made c.args.self.now.called.items j =
    λ j. ap (λ (ms : List Bool). mark_at ms j) c.deref-in-loop-group.ensures.value ∙ c.in_ok-known.ensures j ∙ ap (λ called. is_made called j) c.deref.ensures.value in
    record {
      long = omega (arith, ap length c.in_ok-add.ensures, length-append c.loop-group.next.items (c.in_ok-made.made ∷ []), c.loop-group.invariant.long);
      level =
          level_more c.args.bodies.now c.args.marks.now c.args.self.now c.deref-in-loop-group.result.now tells c.loop-group.self c.callee_if.new.self c.loop-group.next.items
          c.add.new.values.items c.loop-group.group c.index-bodies-group.result c.is_set-is_called.result c.loop-group.invariant.long c.loop-group-test.true
          c.index-bodies-group.is c.is_set-is_called.ensures c.in_ok-made.ensures.unicode c.in_ok-made.ensures.tables c.loop-group.invariant.level
          c.in_ok-made.made c.in_ok-add.ensures c.in_ok-made.ensures.made;
    }

pub returns-in_err-made-clause-refused : goal.returns-in_err-made-clause-refused
returns-in_err-made-clause-refused c =
    let all : IsBodyCause c.args.self.now.unicode (map body_tree c.args.bodies.now) (λ j. mark_at c.args.marks.now j ≡ true) c.in_err-made.field-0.0 =
    body_cause c.args.self.now.unicode c.loop-group.self.unicode c.args.bodies.now c.args.marks.now c.loop-group.group c.index-bodies-group.result
    c.is_set-is_called.result c.in_err-made.field-0.0 c.loop-group-test.true c.index-bodies-group.is c.is_set-is_called.ensures c.in_err-made.ensures.called
    c.loop-group.invariant.level.unicode c.in_err-made.ensures.refused in
    search rules
