use Rattle.std.proofs.Common.{◌+◌, ◌++◌, [], ◌∷◌, take, sym, ap, ◌∙◌}
use Rattle.std.proofs.lemmas.List.{take_more}
use Rattle.fancy_regex_tree.specs.Tree.{tree_of}
use Rattle.fancy_regex_compiler.proofs.CalledTextLemmas.{some_weaker, never_text, literal_text, writes_nothing, writes_call, writes_row, writes_none, writes_more}
use Rattle.fancy_regex_compiler.proofs.NodeLemmas.{front_empty, front_define}
use Rattle.fancy_regex_compiler.proofs.TreeLemmas.{tree_call, tree_empty}
use Rattle.fancy_regex_compiler.proofs.called_texts.+texts.Goals as goal

pub characters_of-returns-in-Empty : goal.characters_of-returns-in-Empty
characters_of-returns-in-Empty t c =
    writes_nothing c.args.lengths.now c.args.info.now (λ call. front_empty call c.args.info.now (ap tree_of c.in-Empty.is ∙ tree_empty))

pub characters_of-returns-in-DefineGroup : goal.characters_of-returns-in-DefineGroup
characters_of-returns-in-DefineGroup t c =
    writes_nothing c.args.lengths.now c.args.info.now (λ call. front_define call c.args.info.now c.in-DefineGroup.definitions c.in-DefineGroup.is)

pub characters_of-returns-in-Repeat : goal.characters_of-returns-in-Repeat
characters_of-returns-in-Repeat t c =
    let r = c.in-Repeat in
    let e = c.characters_of_repeat.ensures in
    never_text c.args.lengths.now c.args.info.now r.child r.lo r.hi r.greedy r.is c.characters_of_repeat.result e.none e.least e.greatest

pub characters_of-returns-in-Literal : goal.characters_of-returns-in-Literal
characters_of-returns-in-Literal t c =
    let l = c.in-Literal in
    let e = c.characters_of_literal.ensures in
    literal_text c.args.lengths.now c.args.info.now l.val l.casei l.is c.characters_of_literal.result e.one e.case

pub characters_of-returns-in-SubroutineCall : goal.characters_of-returns-in-SubroutineCall
characters_of-returns-in-SubroutineCall t c =
    let k = c.in-SubroutineCall.group in
    some_weaker c.length_at.result (λ n at. writes_call c.args.lengths.now c.args.info.now k n (ap tree_of c.in-SubroutineCall.is ∙ tree_call k) at) c.length_at.ensures.some

pub characters_of-returns-in-Concat : goal.characters_of-returns-in-Concat
characters_of-returns-in-Concat t c =
    some_weaker c.characters_of_row.result
    (λ n h. writes_row c.args.lengths.now c.args.info.now c.in-Concat.field-0 n c.deref.result.now c.in-Concat.is c.deref.ensures.value h) c.characters_of_row.ensures

pub characters_of_row-loop-child-init : goal.characters_of_row-loop-child-init
characters_of_row-loop-child-init t c = writes_none c.args.lengths.now

pub characters_of_row-loop-child-preserved : goal.characters_of_row-loop-child-preserved
characters_of_row-loop-child-preserved t c =
    let xs = c.args.children.now in
    let i = c.loop-child.child-index in
    let x = c.child-item.result in
    let a = c.loop-child.characters in
    let b = c.in_ok-more.more in
    writes_more c.args.lengths.now (take i xs) (take (i + 1) xs) x a b c.sum_of-characters.result
    (take_more xs i x c.loop-child-test.true ∙ ap (λ y. take i xs ++ y ∷ []) (sym c.child-item.is))
    c.sum_of-characters.ensures.first c.sum_of-characters.ensures.second c.sum_of-characters.ensures.both
    c.loop-child.invariant c.in_ok-more.ensures
