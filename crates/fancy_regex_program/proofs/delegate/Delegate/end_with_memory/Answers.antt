use Rattle.std.proofs.Common.{◌∙◌}
use base.Stored.{Coded-set}
use Rattle.std.specs.Coded.{coded_option, coded_ℕ}
use mathlib.Core.Logic.{∥∥₁_elim}
use Rattle.fancy_regex_tree.specs.Tree.{tree_of}
use Rattle.fancy_regex_meaning.specs.Groups.{pattern_of}
use Rattle.fancy_regex_class.specs.RunInputs.{setting_for}
use Rattle.fancy_regex_desugar.specs.Delegates.{searched}
use Rattle.fancy_regex_desugar.proofs.DelegateProofs.{searched_can_be}
use Rattle.fancy_regex_program.proofs.DelegateLemmas.{end_of_span_until}
use Rattle.fancy_regex_program.proofs.delegate.Delegate.end_with_memory.Goals as goal

pub returns : goal.returns
returns c =
    let self = c.args.self.now in
    let t = searched self.for_any (tree_of self.part) in
    let s = setting_for self.easy.unicode c.args.text.now c.args.input.now in
    ∥∥₁_elim self.serves (Coded-set (coded_option coded_ℕ) _ _) (λ serves.
    c.end_of.ensures
    ∙ end_of_span_until s t (searched_can_be self.for_any (tree_of self.part) self.delegated) c.args.input.now c.requires.anchored c.requires.first.0 self.easy.longest self.first c.in_ok-span.span
    (c.in_ok-span.ensures.answer (pattern_of t) serves))
