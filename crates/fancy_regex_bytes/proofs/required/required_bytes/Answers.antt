use Rattle.std.proofs.Common.{◌≡◌, sym, subst}
use Rattle.fancy_regex_tree.specs.Tree.{tree_of}
use Rattle.fancy_regex_bytes.specs.ByteSets.{has}
use Rattle.fancy_regex_bytes.specs.RequiredBytes.{required_bytes, RequiredBytesHold}
use Rattle.fancy_regex_bytes.proofs.ByteSetLemmas.{same_bytes}
use Rattle.fancy_regex_bytes.proofs.RequiredLemmas.{after_nothing}
use Rattle.fancy_regex_bytes.proofs.RequiredLaw.{required_bytes_hold}
use Rattle.fancy_regex_bytes.proofs.required.required_bytes.Goals as goal

pub returns-clause-answer : goal.returns-clause-answer
returns-clause-answer c =
    same_bytes (λ b. after_nothing (required_bytes (tree_of c.args.expr.now)) (has c.empty-set.result) (has c.add_required.new.set) b (c.add_required.ensures b) c.empty-set.ensures)

pub returns-clause-law : goal.returns-clause-law
returns-clause-law c =
    let t = tree_of c.args.expr.now in
    let same : has c.add_required.new.set ≡ required_bytes t =
    same_bytes (λ b. after_nothing (required_bytes t) (has c.empty-set.result) (has c.add_required.new.set) b (c.add_required.ensures b) c.empty-set.ensures) in
    subst (RequiredBytesHold t) (sym same) (required_bytes_hold t)
