use Rattle.std.proofs.Common.{◌≡◌, ◌∙◌, ◌∷◌, ◌++◌, ◌<◌, ◌+◌, [], take, get_or, length, refl, ap, arith}
use Rattle.std.proofs.lemmas.List.{take_more_set}
use Rattle.std.proofs.lemmas.List.Elements.{All-nil, All-same, All-weaker}
use Rattle.fancy_regex_slots.specs.UndoLog.{undone}
use Rattle.fancy_regex_slots.specs.declared.branch.OldValue.{OldValue}
use Rattle.fancy_regex_slots.proofs.ShortenLemmas.{merged-all, merged-same, changes-more, below-more, below-next}
use Rattle.fancy_regex_slots.proofs.undo_log.log_changes.Goals as goal
use Rattle.fancy_regex_slots.proofs.undo_log.log_changes.Goals.{then-values-slot, else-values-slot}

pub loop-slot-init : goal.loop-slot-init
unfolding undone
loop-slot-init c = record { count = omega arith; undone_so_far = refl; below = All-nil _ }

pub loop-slot-preserved : goal.loop-slot-preserved
loop-slot-preserved c =
    let slot = c.loop-slot.slot in
    let written = c.loop-slot.written in
    let log = c.loop-slot.log in
    let values = c.args.values.now in
    let saved = c.args.saved.now in
    let inside : slot < length saved = c.loop-slot-test.true in
    let there : slot < length values = omega arith in
    elim c.if-values-slot.branch [
      | then-values-slot w ↦
          let entry : OldValue = record { slot = slot; value = get_or saved slot 0 } in
          let taken : take c.if-values-slot.written c.if-values-slot.log ≡ take written log ++ (entry ∷ []) =
          ap (take c.if-values-slot.written) w.log-is ∙ rw w.written-is (take_more_set log written entry (omega arith))
          in
          record {
            count = omega arith;
            undone_so_far = ap (undone values) taken ∙ changes-more slot saved values (take written log) inside there c.loop-slot.invariant.below c.loop-slot.invariant.undone_so_far;
            below = All-same (λ (o : OldValue). o.slot < slot + 1) _ _ taken (below-more slot (get_or saved slot 0) (take written log) c.loop-slot.invariant.below);
          }
      | else-values-slot w ↦
          let taken : take c.if-values-slot.written c.if-values-slot.log ≡ take written log = ap (take c.if-values-slot.written) w.log-is ∙ ap (λ n. take n log) w.written-is in
          record {
            count = omega arith;
            undone_so_far = ap (undone values) taken ∙ c.loop-slot.invariant.undone_so_far ∙ merged-same slot saved values inside there w.if-values-slot.false;
            below = All-same (λ (o : OldValue). o.slot < slot + 1) _ _ taken (below-next slot (take written log) c.loop-slot.invariant.below);
          }
    ]

pub returns-clause-undone : goal.returns-clause-undone
returns-clause-undone c = c.loop-slot.invariant.undone_so_far ∙ merged-all c.loop-slot.slot c.args.saved.now c.args.values.now c.loop-slot-test.false (omega arith)

pub returns-clause-logged : goal.returns-clause-logged
returns-clause-logged c = All-weaker (λ (o : OldValue). o.slot < c.loop-slot.slot) (λ (o : OldValue). o.slot < length c.args.values.now) (λ o below. omega (arith, below)) (take c.loop-slot.written c.loop-slot.log) c.loop-slot.invariant.below
