use Rattle.std.proofs.Common.{◌-◌, length, ap, ◌∙◌, rules, arith}
use Rattle.fancy_regex_info.specs.SizeFixpoint.{size_when}
use Rattle.fancy_regex_info.specs.Views.{size_of}
use Rattle.fancy_regex_info.proofs.BodySizeLemmas.{calls_more, calls_all}
use Rattle.fancy_regex_info.proofs.tables.called_sizes.Goals as goal

pub loop-group-preserved : goal.loop-group-preserved
loop-group-preserved c = record {
  same = search rules;
  sizes =
      calls_more c.args.bodies.now c.loop-group.sizes.items c.push.new.self.items c.args.recursive.now c.loop-group.group
      (length c.args.bodies.now - 1 - c.loop-group.group) (size_of c.size_at_place-body.result) c.called_size-size.result
      c.loop-group.invariant.same (omega arith) (omega arith) c.size_at_place-body.ensures
      (c.called_size-size.ensures ∙ ap (λ b. size_when b (size_of c.size_at_place-body.result)) c.is_marked.ensures)
      c.in_ok-push.ensures.items c.loop-group.invariant.sizes;
}

pub returns : goal.returns
returns c =
    calls_all c.args.bodies.now c.loop-group.sizes.items c.args.recursive.now c.loop-group.group c.loop-group.invariant.same (omega arith)
    c.loop-group.invariant.sizes
