use Rattle.std.proofs.Common.{Some, None}
use base.Stored.{Coded-set}
use Rattle.std.specs.Coded.{coded_option, coded_ℕ}
use mathlib.Core.Logic.{∥∥₁_elim}
use Rattle.fancy_regex_tree.specs.Tree.{tree_of}
use Rattle.fancy_regex_meaning.specs.Groups.{pattern_of}
use Rattle.fancy_regex_class.specs.RunInputs.{setting_for}
use Rattle.fancy_regex_desugar.specs.Delegates.{searched}
use Rattle.fancy_regex_desugar.proofs.DelegateProofs.{searched_can_be}
use Rattle.fancy_regex_program.proofs.DelegateLemmas.{end_of_span_until}
use Rattle.fancy_regex_program.proofs.delegate.Delegate.end_until.Goals as goal

pub returns-in-Ends : goal.returns-in-Ends
returns-in-Ends c =
    let self = c.args.self.now in
    let t = searched self.for_any (tree_of self.part) in
    let s = setting_for self.easy.unicode c.args.text.now c.args.input.now in
    ∥∥₁_elim self.serves (Coded-set (coded_option coded_ℕ) _ _) (λ serves.
    end_of_span_until s t (searched_can_be self.for_any (tree_of self.part) self.delegated) c.args.input.now c.requires.anchored c.requires.first.0 self.easy.longest self.first (Some (c.args.input.now.first, c.in-Ends.end))
    (c.in-Ends.ensures.answer (pattern_of t) serves))

pub returns-in-Fails : goal.returns-in-Fails
returns-in-Fails c =
    let self = c.args.self.now in
    let t = searched self.for_any (tree_of self.part) in
    let s = setting_for self.easy.unicode c.args.text.now c.args.input.now in
    ∥∥₁_elim self.serves (Coded-set (coded_option coded_ℕ) _ _) (λ serves.
    end_of_span_until s t (searched_can_be self.for_any (tree_of self.part) self.delegated) c.args.input.now c.requires.anchored c.requires.first.0 self.easy.longest self.first None
    (c.in-Fails.ensures.answer (pattern_of t) serves))
