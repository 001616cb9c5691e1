use Rattle.std.proofs.Common.{◌++◌, map, sym, ap, ◌∙◌, append_assoc}
use Rattle.fancy_regex_info.specs.Infos.{info_of}
use Rattle.fancy_regex_info.specs.declared.info.Info.TheViews.{out-Info}
use Rattle.fancy_regex_compiler.specs.Groups.{own_bodies, bodies_in_row}
use Rattle.fancy_regex_compiler.specs.Writing.{info_at}
use Rattle.fancy_regex_compiler.proofs.GroupLemmas.{bodies_are_both, row_begins, row_goes_on}
use Rattle.fancy_regex_compiler.proofs.groups.+bodies.Goals as goal

pub add_bodies-returns : goal.add_bodies-returns
add_bodies-returns t c =
    let info = c.args.info.now in
    let start = map info_at c.args.groups.now.items in
    let own = own_bodies (info_of info) in
    c.in_ok-add_row_bodies.ensures
    ∙ ap (λ xs. map info_at c.add_own_body.new.groups.items ++ bodies_in_row xs) c.deref.ensures.value
    ∙ ap (λ zs. zs ++ bodies_in_row (out-Info info).children.items) c.in_ok-add_own_body.ensures
    ∙ append_assoc start own (bodies_in_row (out-Info info).children.items)
    ∙ ap (λ zs. start ++ zs) (sym (bodies_are_both info))

pub add_row_bodies-loop-child-init : goal.add_row_bodies-loop-child-init
add_row_bodies-loop-child-init t c = row_begins (map info_at c.args.groups.now.items)

pub add_row_bodies-loop-child-preserved : goal.add_row_bodies-loop-child-preserved
add_row_bodies-loop-child-preserved t c =
    row_goes_on (map info_at c.args.groups.now.items) (map info_at c.loop-child.groups.items) (map info_at c.add_bodies.new.groups.items)
    c.args.children.now c.loop-child.child-index c.child-item.result c.loop-child-test.true c.child-item.is c.loop-child.invariant
    c.in_ok-add_bodies.ensures
