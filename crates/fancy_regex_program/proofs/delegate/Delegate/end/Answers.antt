use Rattle.std.proofs.Common.{◌≡◌, ℕ, Option, subst}
use Rattle.std.specs.Prelude.{IfOk}
use Rattle.fancy_regex_tree.specs.Tree.{tree_of}
use Rattle.fancy_regex_class.specs.RunInputs.{setting_for}
use Rattle.fancy_regex_desugar.specs.Delegates.{searched}
use Rattle.fancy_regex_program.proofs.DelegateLemmas.{until_end}
use Rattle.fancy_regex_program.proofs.delegate.Delegate.end.Goals as goal

-- a match of the part ends in the text, so in the whole range
pub returns : goal.returns
returns c =
    let self = c.args.self.now in
    let s = setting_for self.easy.unicode c.args.text.now c.args.input.now in
    let same = until_end s (searched self.for_any (tree_of self.part)) c.args.input.now.first c.args.input.now.range.end c.requires.first.0 c.requires.range in
    subst (λ (end : Option ℕ). IfOk c.end_until.result (λ found. found ≡ end)) same c.end_until.ensures
