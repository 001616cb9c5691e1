use Rattle.std.proofs.Common.{◌∙◌, ap, rules, sym}
use Rattle.std.specs.BTreeSet.{contains}
use Rattle.std.specs.Ordering.{nat_cmp}
use Rattle.fancy_regex_tree.proofs.Backrefs.{backref_next, no_backref_next}
use Rattle.fancy_regex_tree.proofs.reference_summary.backrefs.Goals as goal
use Rattle.fancy_regex_tree.proofs.reference_summary.backrefs.Goals.{in-Some+in_ok-insert, in_default}

pub loop-i-preserved : goal.loop-i-preserved
loop-i-preserved c =
    elim c.match-counted_backref.branch [
      | in-Some+in_ok-insert w ↦ λ k.
          backref_next c.args.nodes.now c.loop-i.i c.index-nodes-i.result (search rules) (sym c.index-nodes-i.is) c.args.total k w.in-Some.group (contains nat_cmp c.loop-i.groups k) _
          (sym w.in-Some.is ∙ c.counted_backref.ensures) (c.loop-i.invariant k) (ap (λ s. contains nat_cmp s k) w.groups-is ∙ w.in_ok-insert.ensures.updates.0 k)
      | in_default w ↦ λ k.
          ap (λ s. contains nat_cmp s k) w.groups-is
          ∙ no_backref_next c.args.nodes.now c.loop-i.i c.index-nodes-i.result (search rules) (sym c.index-nodes-i.is) c.args.total k (contains nat_cmp c.loop-i.groups k)
          (sym w.in_default.is ∙ c.counted_backref.ensures) (c.loop-i.invariant k)
    ]
