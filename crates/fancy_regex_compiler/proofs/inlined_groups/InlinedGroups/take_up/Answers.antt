use Rattle.std.proofs.Common.{◌≡◌, ◌<◌, ◌≤◌, length, Some, None, option_map, sym, ap, ◌∙◌, subst, arith}
use Rattle.std.specs.Prelude.{slice_get}
use Rattle.std.proofs.lemmas.List.{length-map}
use Rattle.std.proofs.lemmas.Option.{slice_get-map, slice_get_read}
use Rattle.fancy_regex_info.specs.Infos.{info_of}
use Rattle.fancy_regex_compiler.specs.CalledTexts.{infos_at}
use Rattle.fancy_regex_compiler.specs.Inlined.{TakesRoom, most_room}
use Rattle.fancy_regex_compiler.specs.Known.{info_written}
use Rattle.fancy_regex_compiler.specs.Writing.{info_at}
use Rattle.fancy_regex_compiler.proofs.InlinedLemmas.{inlined_more}
use Rattle.fancy_regex_compiler.proofs.inlined_groups.InlinedGroups.take_up.Goals as goal

pub returns : goal.returns
returns c = λ are.
    let groups = c.args.groups.now.items in
    let rooms = c.args.self.now.rooms.items in
    let known = c.args.self.now.known in
    let k = c.args.group in
    let n = c.in-Some.room in
    let x = c.index.result.now in
    let body = slice_get-map info_at groups k ∙ ap (option_map info_at) (slice_get_read groups c.len.result k x (omega (arith, c.len.ensures, c.args.groups.now.ok.0)) c.if-group-len.false c.index.ensures) in
    let unknown : slice_get rooms k ≡ Some None = ap (λ xs. slice_get xs k) (sym c.deref.ensures.value) ∙ c.is_unknown.ensures c.if-not-is_unknown.false in
    let takes = subst (λ xs. TakesRoom xs n (λ call. (info_written call (info_of x.now)).front)) c.deref-2.ensures.value c.in-Some.ensures in
    let low : n ≤ most_room = omega (arith, c.if-room-gt-MOST_ROOM.false) in
    let left : known < length (infos_at groups) = omega (arith, length-map groups info_at, c.if-self-len.false, c.len-else-group-len.ensures, c.args.groups.now.ok.0) in
    inlined_more (infos_at groups) rooms known k n (info_of x.now) body unknown takes low left are
