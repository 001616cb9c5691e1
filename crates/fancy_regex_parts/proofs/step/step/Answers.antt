use Rattle.std.proofs.Common.{◌∙◌, ◌+◌, Option, ℕ, ap₂, subst, sym}
use Rattle.std.specs.Prelude.{IfSome, IsCharBoundary}
use Rattle.std.specs.Char.{len_utf8}
use Rattle.fancy_regex_class.specs.Looks.{looked_text}
use Rattle.fancy_regex_parts.specs.Frames.{step_task}
use Rattle.fancy_regex_parts.proofs.PlaceLemmas.{fits_before, place_back}
use Rattle.fancy_regex_parts.proofs.StackLemmas.{small_after}
use Rattle.fancy_regex_parts.proofs.step.step.Goals as goal

pub returns-clause-task : goal.returns-clause-task
returns-clause-task c =
    c.in_ok-task.ensures.task ∙ ap₂ (step_task c.args.context.now.matchers.now c.args.context.now.rules c.args.context.now.range c.args.q c.args.state c.args.at) c.look-before.ensures.before c.look-before.ensures.after

pub returns-clause-next : goal.returns-clause-next
returns-clause-next c =
    subst (λ (o : Option ℕ). IfSome o (λ k. IsCharBoundary (looked_text c.args.text.now) (c.args.at + len_utf8 k))) c.look-before.ensures.after c.look-before.ensures.next

pub returns-in_err-task-clause-next : goal.returns-in_err-task-clause-next
returns-in_err-task-clause-next c =
    subst (λ (o : Option ℕ). IfSome o (λ k. IsCharBoundary (looked_text c.args.text.now) (c.args.at + len_utf8 k))) c.look-before.ensures.after c.look-before.ensures.next

pub advance-requires-clause-before : goal.advance-requires-clause-before
advance-requires-clause-before c =
    fits_before (looked_text c.args.text.now) c.args.at _ (place_back (looked_text c.args.text.now) c.args.at _ (sym c.look-before.ensures.before))

pub advance-requires-clause-after : goal.advance-requires-clause-after
advance-requires-clause-after c = small_after (looked_text c.args.text.now) c.args.at _ c.requires.small c.look-before.ensures.next
