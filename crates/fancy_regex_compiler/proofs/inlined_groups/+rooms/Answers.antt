use Rattle.std.proofs.Common.{◌+◌, ◌++◌, [], ◌∷◌, Some, take, sym, ap, ◌∙◌, arith}
use Rattle.std.proofs.lemmas.List.{take_more}
use Rattle.fancy_regex_tree.specs.Tree.{tree_of}
use Rattle.fancy_regex_compiler.specs.Inlined.{node_front}
use Rattle.fancy_regex_compiler.proofs.CalledTextLemmas.{some_weaker}
use Rattle.fancy_regex_compiler.proofs.InlinedRooms.{takes_nothing, takes_call, takes_row, takes_branches, takes_group, takes_atomic, takes_look, takes_repeat, takes_never, takes_leaf, takes_more, takes_work}
use Rattle.fancy_regex_compiler.proofs.NodeLemmas.{front_empty, front_define}
use Rattle.fancy_regex_compiler.proofs.TreeLemmas.{tree_call, tree_empty}
use Rattle.fancy_regex_compiler.proofs.inlined_groups.+rooms.Goals as goal

pub room_of-returns-in-Empty : goal.room_of-returns-in-Empty
room_of-returns-in-Empty t c =
    takes_nothing c.args.rooms.now c.args.info.now (λ call. front_empty call c.args.info.now (ap tree_of c.in-Empty.is ∙ tree_empty))

pub room_of-returns-in-DefineGroup : goal.room_of-returns-in-DefineGroup
room_of-returns-in-DefineGroup t c =
    takes_nothing c.args.rooms.now c.args.info.now (λ call. front_define call c.args.info.now c.in-DefineGroup.definitions c.in-DefineGroup.is)

pub room_of-returns-in_ok-room-in-SubroutineCall : goal.room_of-returns-in_ok-room-in-SubroutineCall
room_of-returns-in_ok-room-in-SubroutineCall t c =
    let r = c.in_ok-room-in-SubroutineCall in
    let takes = takes_call c.args.rooms.now c.args.info.now c.in-SubroutineCall.group (Some r.room) (ap tree_of c.in-SubroutineCall.is ∙ tree_call c.in-SubroutineCall.group)
    (sym c.room_at.ensures ∙ r.was) in
    some_weaker c.with_work.result (λ n le. takes_work c.args.rooms.now (node_front c.args.info.now) r.room n le takes) c.with_work.ensures

pub room_of-returns-in_ok-room-in-Concat : goal.room_of-returns-in_ok-room-in-Concat
room_of-returns-in_ok-room-in-Concat t c =
    let r = c.in_ok-room-in-Concat in
    let takes = takes_row c.args.rooms.now c.args.info.now c.in-Concat.field-0 r.room c.deref.result.now c.in-Concat.is c.deref.ensures.value r.ensures in
    some_weaker c.with_work-in-Concat.result (λ n le. takes_work c.args.rooms.now (node_front c.args.info.now) r.room n le takes) c.with_work-in-Concat.ensures

pub room_of-returns-then-hi-eq0 : goal.room_of-returns-then-hi-eq0
room_of-returns-then-hi-eq0 t c =
    let p = c.in-Repeat in
    takes_never c.args.rooms.now c.args.info.now p.child p.lo p.hi p.greedy p.is (omega (arith, c.if-lo-eq0.true)) (omega (arith, c.if-hi-eq0.true))

pub room_of-returns-in_ok-room-in-Alt : goal.room_of-returns-in_ok-room-in-Alt
room_of-returns-in_ok-room-in-Alt t c =
    let r = c.in_ok-room-in-Alt in
    some_weaker c.sum_of.result
    (λ n sum. takes_branches c.args.rooms.now c.args.info.now c.in-Alt.field-0 r.room n c.deref-in-Alt.result.now c.in-Alt.is c.deref-in-Alt.ensures.value r.ensures sum) c.sum_of.ensures

pub room_of-returns-in_ok-room-in-Group : goal.room_of-returns-in_ok-room-in-Group
room_of-returns-in_ok-room-in-Group t c =
    let r = c.in_ok-room-in-Group in
    some_weaker c.sum_of-in-Group.result
    (λ n sum. takes_group c.args.rooms.now c.args.info.now c.in-Group.field-0 r.room n c.deref-in-Group.result.now c.in-Group.is c.deref-in-Group.ensures.value r.ensures sum)
    c.sum_of-in-Group.ensures

pub room_of-returns-in_ok-room-in-AtomicGroup : goal.room_of-returns-in_ok-room-in-AtomicGroup
room_of-returns-in_ok-room-in-AtomicGroup t c =
    let r = c.in_ok-room-in-AtomicGroup in
    some_weaker c.sum_of-in-AtomicGroup.result
    (λ n sum. takes_atomic c.args.rooms.now c.args.info.now c.in-AtomicGroup.field-0 r.room n c.deref-in-AtomicGroup.result.now c.in-AtomicGroup.is
    c.deref-in-AtomicGroup.ensures.value r.ensures sum) c.sum_of-in-AtomicGroup.ensures

pub room_of-returns-in_ok-room-in-LookAround : goal.room_of-returns-in_ok-room-in-LookAround
room_of-returns-in_ok-room-in-LookAround t c =
    let r = c.in_ok-room-in-LookAround in
    some_weaker c.sum_of-in-LookAround.result
    (λ n sum. takes_look c.args.rooms.now c.args.info.now c.in-LookAround.field-0 c.in-LookAround.how r.room n c.deref-in-LookAround.result.now c.in-LookAround.is
    c.deref-in-LookAround.ensures.value (sym c.looks_behind.ensures ∙ c.if-looks_behind.false) r.ensures sum) c.sum_of-in-LookAround.ensures

pub room_of-returns-in_ok-room-in-Repeat : goal.room_of-returns-in_ok-room-in-Repeat
room_of-returns-in_ok-room-in-Repeat t c =
    let r = c.in_ok-room-in-Repeat in
    let p = c.in-Repeat in
    some_weaker c.sum_of-in-Repeat.result
    (λ n sum. takes_repeat c.args.rooms.now c.args.info.now p.child p.lo p.hi p.greedy r.room n c.deref-in-Repeat.result.now p.is c.deref-in-Repeat.ensures.value r.ensures sum)
    c.sum_of-in-Repeat.ensures

pub room_of-returns-in_default : goal.room_of-returns-in_default
room_of-returns-in_default t c = takes_leaf c.args.rooms.now c.args.info.now c.room_of_leaf.result c.room_of_leaf.ensures

pub room_of_all-loop-child-preserved : goal.room_of_all-loop-child-preserved
room_of_all-loop-child-preserved t c =
    let xs = c.args.children.now in
    let i = c.loop-child.child-index in
    let x = c.child-item.result in
    let r = c.in_ok-room in
    takes_more c.args.rooms.now c.args.more (take i xs) (take (i + 1) xs) x c.loop-child.all r.room c.in_ok-all.all
    (take_more xs i x c.loop-child-test.true ∙ ap (λ y. take i xs ++ y ∷ []) (sym c.child-item.is))
    (c.in_ok-all.ensures ∙ ap (λ s. c.loop-child.all + s) c.in_ok-both.ensures) c.loop-child.invariant r.ensures
