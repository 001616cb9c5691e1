use Rattle.std.proofs.Common.{◌≡◌, ℕ, ◌≤◌, ◌+◌, take, get_or, Some, ap, subst, sym, ◌∙◌, arith}
use Rattle.std.specs.Prelude.{slice_get}
use Rattle.std.proofs.lemmas.List.{take_more}
use Rattle.std.specs.List.{Contains}
use Rattle.fancy_regex_compiler.proofs.OpenedLemmas.{is_full_group}
use Rattle.fancy_regex_compiler.proofs.CalledTextLemmas.{none_has_none, none_has_more, none_has_all, free_unless}
use Rattle.fancy_regex_compiler.proofs.InlinedLemmas.{known_room}
use Rattle.fancy_regex_compiler.proofs.inlined_groups.is_full.Goals as goal

pub loop-group-init : goal.loop-group-init
loop-group-init c = none_has_none c.args.rooms.now 0

pub loop-group-preserved : goal.loop-group-preserved
loop-group-preserved c =
    let xs = c.full_groups-full.result.now in
    let i = c.loop-group.group-index in
    let k = get_or xs i 0 in
    let rooms = c.args.rooms.now in
    let none : (n : ℕ) → slice_get rooms k ≡ Some (Some n) → n ≤ 0 → ⊥ =
    λ n at le. c.has_no_room.ensures.no c.if-has_no_room.false (known_room rooms k n at ∙ ap Some (omega (arith, le))) in
    none_has_more rooms 0 (take i xs) (take (i + 1) xs) k (take_more xs i 0 c.loop-group-test.true) none c.loop-group.invariant

pub returns : goal.returns
returns c _ =
    let full = c.full_groups-full.result.now in
    free_unless c.args.rooms.now 0 c.args.opened.now.items full
    (λ group limit. subst (λ l. Contains l group) (sym c.full_groups-full.ensures) (is_full_group c.args.opened.now.items group limit))
    (none_has_all c.args.rooms.now 0 full c.loop-group.group-index c.loop-group-test.false c.loop-group.invariant)
