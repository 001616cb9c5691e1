use Rattle.std.proofs.Common.{◌∙◌, ◌∷◌, ap, arith}
use Rattle.std.proofs.lemmas.List.{get_or_read}
use Rattle.fancy_regex_linear.specs.Search.{top_first}
use Rattle.fancy_regex_linear.specs.declared.frame.Frame.TheVariants.{Restore}
use Rattle.fancy_regex_linear.proofs.StackLemmas.{top_pushed}
use Rattle.fancy_regex_linear.proofs.backtrack.BacktrackState.write.Goals as goal

pub returns-clause-pushed : goal.returns-clause-pushed
returns-clause-pushed c =
    ap top_first c.in_ok-push.ensures.items ∙ top_pushed c.args.self.now.stack.items (Restore c.args.slot _)
    ∙ ap (λ v. Restore c.args.slot v ∷ top_first c.args.self.now.stack.items) (get_or_read c.args.self.now.slots.items c.args.slot _ (omega (arith, c.len.ensures, c.if-slot-len.false, c.args.self.now.slots.ok.0)) c.index.ensures 0)
