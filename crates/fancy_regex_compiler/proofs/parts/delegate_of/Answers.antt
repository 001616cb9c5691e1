use Rattle.std.proofs.Common.{rules, ◌≡◌, false}
use Rattle.fancy_regex_tree.specs.Tree.{tree_of}
use Rattle.fancy_regex_desugar.specs.Delegates.{offers_choices}
use Rattle.fancy_regex_compiler.proofs.PartLemmas.{too_few}
use Rattle.fancy_regex_compiler.proofs.parts.delegate_of.Goals as goal

pub returns-then-not-branch-clause-value : goal.returns-then-not-branch-clause-value
returns-then-not-branch-clause-value c =
    let t = tree_of c.args.part.now in
    let few : offers_choices c.args.for_any t ≡ false = search rules in
    too_few c.args.for_any t few
