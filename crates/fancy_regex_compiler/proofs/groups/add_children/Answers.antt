use Rattle.std.proofs.Common.{[], ◌∷◌, map, ap, ◌∙◌}
use Rattle.std.proofs.lemmas.List.{map-append}
use Rattle.fancy_regex_compiler.specs.Writing.{info_at}
use Rattle.fancy_regex_compiler.proofs.GroupLemmas.{each_goes_on}
use Rattle.fancy_regex_compiler.proofs.groups.add_children.Goals as goal

pub loop-child-preserved : goal.loop-child-preserved
loop-child-preserved c =
    each_goes_on (map info_at c.args.groups.now.items) (map info_at c.loop-child.groups.items) (map info_at c.push.new.self.items)
    c.args.children.now c.loop-child.child-index c.child-item.result c.loop-child-test.true c.child-item.is c.loop-child.invariant
    (ap (map info_at) c.in_ok-push.ensures.items ∙ map-append info_at c.loop-child.groups.items (_ ∷ []))
