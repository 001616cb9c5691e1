use Rattle.std.proofs.Common.{◌+◌, take, get_or, subst, sym}
use Rattle.std.proofs.lemmas.List.{take_more}
use Rattle.std.specs.List.{Contains}
use Rattle.fancy_regex_compiler.proofs.OpenedLemmas.{is_full_group}
use Rattle.fancy_regex_compiler.proofs.CalledTextLemmas.{none_has_none, none_has_more, none_has_all, free_unless}
use Rattle.fancy_regex_compiler.proofs.called_texts.is_full.Goals as goal

pub loop-group-init : goal.loop-group-init
loop-group-init c = none_has_none c.args.lengths.now c.args.most

pub loop-group-preserved : goal.loop-group-preserved
loop-group-preserved c =
    let xs = c.full_groups-full.result.now in
    let i = c.loop-group.group-index in
    none_has_more c.args.lengths.now c.args.most (take i xs) (take (i + 1) xs) (get_or xs i 0) (take_more xs i 0 c.loop-group-test.true)
    (c.has_at_most.ensures c.if-has_at_most.false) c.loop-group.invariant

pub returns : goal.returns
returns c _ =
    let full = c.full_groups-full.result.now in
    free_unless c.args.lengths.now c.args.most c.args.opened.now.items full
    (λ group limit. subst (λ l. Contains l group) (sym c.full_groups-full.ensures) (is_full_group c.args.opened.now.items group limit))
    (none_has_all c.args.lengths.now c.args.most full c.loop-group.group-index c.loop-group-test.false c.loop-group.invariant)
