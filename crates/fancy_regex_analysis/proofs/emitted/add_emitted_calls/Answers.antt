use Rattle.std.proofs.Common.{ap, sym, ◌∙◌}
use Rattle.fancy_regex_info.proofs.NodeListLemmas.{node_adds, node_adds_none}
use Rattle.fancy_regex_analysis.specs.EmittedParts.{part_at, call_of}
use Rattle.fancy_regex_analysis.proofs.emitted.add_emitted_calls.Goals.{in-Some+in_ok-push, in_default}
use Rattle.fancy_regex_analysis.proofs.emitted.add_emitted_calls.Goals as goal

pub loop-part-preserved : goal.loop-part-preserved
loop-part-preserved c =
    let parts = c.args.parts.now in
    let i = c.loop-part.part-index in
    let x = c.part-item.result in
    let start = c.args.calls.now.items in
    let now = c.loop-part.calls.items in
    let next = c.match-call_of.calls.items in
    elim c.match-call_of.branch [
      | in-Some+in_ok-push w ↦
          node_adds part_at call_of start now next parts i x w.in-Some.call c.loop-part-test.true c.part-item.is c.loop-part.invariant
          (sym w.in-Some.ensures) (ap (λ v. v.items) w.calls-is ∙ w.in_ok-push.ensures.items)
      | in_default w ↦
          node_adds_none part_at call_of start now next parts i x c.loop-part-test.true c.part-item.is c.loop-part.invariant
          (sym w.in_default.ensures) (ap (λ v. v.items) w.calls-is)
    ]
