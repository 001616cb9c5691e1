use Rattle.std.proofs.Common.{◌≡◌, true, sym, ◌∙◌}
use Rattle.fancy_regex_analysis.proofs.well_formed.is_well_formed.Goals as goal
use Rattle.fancy_regex_analysis.proofs.well_formed.is_well_formed.Goals.{then-nodes_agree, else-nodes_agree, then-groups_agree, else-groups_agree}

pub returns-then-calls_agree : goal.returns-then-calls_agree
returns-then-calls_agree c =
    elim c.if-groups_agree.branch [
      | then-groups_agree w ↦
          (elim c.if-nodes_agree.branch [
            | then-nodes_agree v ↦ (
              (λ h. record {
                nodes_are = c.nodes_agree.ensures.0 v.if-nodes_agree.true;
                groups_are = v.groups_agree.ensures.0 (sym v.value-is ∙ w.if-groups_agree.true);
                calls_are = w.calls_agree.ensures.0 (sym w.value-is ∙ c.if-calls_agree.true);
                references_are = c.references_agree.ensures.0 h;
              }),
              (λ h. c.references_agree.ensures.1 h.references_are),
            )
            | else-nodes_agree v ↦ (let no = v.value-is in let yes = w.if-groups_agree.true in cc)
          ])
      | else-groups_agree w ↦ (let no = w.value-is in let yes = c.if-calls_agree.true in cc)
    ]

pub returns-else-calls_agree : goal.returns-else-calls_agree
returns-else-calls_agree c = (
  (λ h. let no = c.if-calls_agree.false in cc),
  (λ h.
      elim c.if-groups_agree.branch [
        | then-groups_agree w ↦ w.value-is ∙ w.calls_agree.ensures.1 h.calls_are
        | else-groups_agree w ↦
            (elim c.if-nodes_agree.branch [
              | then-nodes_agree v ↦
                  (let no = w.if-groups_agree.false in let yes : v.groups_agree.result ≡ true = v.groups_agree.ensures.1 h.groups_are in let is = v.value-is in cc)
              | else-nodes_agree v ↦
                  (let no = v.if-nodes_agree.false in let yes : c.nodes_agree.result ≡ true = c.nodes_agree.ensures.1 h.nodes_are in cc)
            ])
      ]),
)
