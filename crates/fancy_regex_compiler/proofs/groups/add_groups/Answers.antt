use Rattle.std.proofs.Common.{◌≡◌, ◌++◌, [], ◌∷◌, map, cond, sym, ap, ◌∙◌, append-nil}
use Rattle.std.proofs.lemmas.List.{map-append}
use Rattle.fancy_regex_info.specs.Infos.{info_of}
use Rattle.fancy_regex_compiler.specs.Writing.{info_at}
use Rattle.fancy_regex_compiler.proofs.GroupLemmas.{whole_first}
use Rattle.fancy_regex_compiler.proofs.groups.add_groups.Goals as goal
use Rattle.fancy_regex_compiler.proofs.groups.add_groups.Goals.{then-whole+in_ok-push, else-whole}

pub returns : goal.returns
returns c =
    let start = map info_at c.args.groups.now.items in
    let x = info_of c.args.info.now in
    let first : map info_at c.if-whole.groups.items ≡ start ++ cond c.args.whole (x ∷ []) [] = elim c.if-whole.branch [
      | then-whole+in_ok-push w ↦
          ap (λ g. map info_at g.items) w.groups-is ∙ ap (map info_at) w.in_ok-push.ensures.items
          ∙ map-append info_at c.args.groups.now.items (c.args.info ∷ []) ∙ ap (λ b. start ++ cond b (x ∷ []) []) (sym w.if-whole.true)
      | else-whole w ↦
          ap (λ g. map info_at g.items) w.groups-is ∙ sym (append-nil start) ∙ ap (λ b. start ++ cond b (x ∷ []) []) (sym w.if-whole.false)
    ] in
    whole_first c.args.whole start (map info_at c.if-whole.groups.items) (map info_at c.add_bodies.new.groups.items) x first c.in_ok-add_bodies.ensures
