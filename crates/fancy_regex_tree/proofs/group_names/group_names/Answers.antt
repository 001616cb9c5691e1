use Rattle.std.proofs.Common.{◌∙◌, Some, None, ap, map, rules, sym, append-nil}
use Rattle.std.proofs.lemmas.List.{map-append}
use Rattle.fancy_regex_tree.specs.Numbering.{name_view, opening_of, if_counted}
use Rattle.fancy_regex_tree.proofs.GroupNames.{kept_next}
use Rattle.fancy_regex_tree.proofs.group_names.group_names.Goals as goal
use Rattle.fancy_regex_tree.proofs.group_names.group_names.Goals.{in-Some+in_ok-push, in_default}

pub loop-i-preserved : goal.loop-i-preserved
loop-i-preserved c =
    elim c.match-counted_opening.branch [
      | in-Some+in_ok-push w ↦
          kept_next (λ t. if_counted c.args.ignored (opening_of t)) c.args.nodes.now c.loop-i.i c.index-nodes-i.result (map name_view c.loop-i.names.items) _ (Some (name_view w.in-Some.name))
          (search rules) (sym c.index-nodes-i.is) c.loop-i.invariant (rw w.in-Some.is at c.counted_opening.ensures)
          (ap (λ v. map name_view v.items) w.names-is ∙ ap (map name_view) w.in_ok-push.ensures.items ∙ map-append name_view c.loop-i.names.items _)
      | in_default w ↦
          kept_next (λ t. if_counted c.args.ignored (opening_of t)) c.args.nodes.now c.loop-i.i c.index-nodes-i.result (map name_view c.loop-i.names.items) _ None
          (search rules) (sym c.index-nodes-i.is) c.loop-i.invariant (rw w.in_default.is at c.counted_opening.ensures)
          (ap (λ v. map name_view v.items) w.names-is ∙ sym (append-nil _))
    ]
