use Rattle.std.proofs.Common.{◌≡◌, ℕ, Bool, true, false, cond, [], sym, ap, ◌∙◌}
use Rattle.fancy_regex_tree.specs.Tree.{Text}
use Rattle.fancy_regex_program.specs.Ops as op
use Rattle.fancy_regex_program.specs.Code.{opening}
use Rattle.fancy_regex_compiler.specs.Writing.{Draft, draft_of, with_op}
use Rattle.fancy_regex_compiler.proofs.main_program.open.Goals as goal
use Rattle.fancy_regex_compiler.proofs.main_program.open.Goals.{then-not-anchored+in_ok-push_insn, else-not-anchored, then-whole+in_ok-push_insn-2, else-whole}

begun : (anchored whole : Bool) (d0 d1 d2 : Draft) → d0 ≡ record { ops = []; text = [] } →
    d1 ≡ cond anchored d0 (with_op op.split_unanchored d0) → d2 ≡ cond whole (with_op (op.save 0) d1) d1 →
    (has_member : Text → Bool → ℕ → Bool) (fold : ℕ → ℕ) → d2 ≡ record { ops = opening has_member fold whole anchored; text = [] }
unfolding with_op
begun true true d0 d1 d2 e0 e1 e2 has_member fold = e2 ∙ ap (with_op (op.save 0)) (e1 ∙ e0)
begun true false d0 d1 d2 e0 e1 e2 has_member fold = e2 ∙ e1 ∙ e0
begun false true d0 d1 d2 e0 e1 e2 has_member fold = e2 ∙ ap (with_op (op.save 0)) (e1 ∙ ap (with_op op.split_unanchored) e0)
begun false false d0 d1 d2 e0 e1 e2 has_member fold = e2 ∙ e1 ∙ ap (with_op op.split_unanchored) e0

pub returns-clause-draft : goal.returns-clause-draft
returns-clause-draft c has_member fold begins =
    let d0 = draft_of c.args.body.now in
    let d1 = draft_of c.if-not-anchored.body in
    let first : d1 ≡ cond c.args.anchored d0 (with_op op.split_unanchored d0) = elim c.if-not-anchored.branch [
      | then-not-anchored+in_ok-push_insn w ↦
          let e = w.if-not-anchored.true in
          ap draft_of w.body-is ∙ w.in_ok-push_insn.ensures.draft ∙ ap (λ b. cond b d0 (with_op op.split_unanchored d0)) (sym e)
      | else-not-anchored w ↦
          let e = w.if-not-anchored.false in
          ap draft_of w.body-is ∙ ap (λ b. cond b d0 (with_op op.split_unanchored d0)) (sym e)
    ] in
    let second : draft_of c.if-whole.body ≡ cond c.args.whole (with_op (op.save 0) d1) d1 = elim c.if-whole.branch [
      | then-whole+in_ok-push_insn-2 w ↦
          ap draft_of w.body-is ∙ w.in_ok-push_insn-2.ensures.draft ∙ ap (λ b. cond b (with_op (op.save 0) d1) d1) (sym w.if-whole.true)
      | else-whole w ↦ ap draft_of w.body-is ∙ ap (λ b. cond b (with_op (op.save 0) d1) d1) (sym w.if-whole.false)
    ] in
    begun c.args.anchored c.args.whole d0 d1 (draft_of c.if-whole.body) begins first second has_member fold
