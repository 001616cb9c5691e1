use Rattle.std.proofs.Common.{◌+◌, sym, ap, ◌∙◌}
use Rattle.fancy_regex_tree.specs.Tree.{tree_of}
use Rattle.fancy_regex_desugar.specs.Delegates.{searched}
use Rattle.fancy_regex_desugar.proofs.DelegateProofs.{part_of, searched_can_be}
use Rattle.fancy_regex_program.proofs.LazyLemmas.{searched_groups}
use Rattle.fancy_regex_program.proofs.delegate.Delegate.capture_groups.Goals as goal

pub returns-clause-count : goal.returns-clause-count
returns-clause-count c =
    let self = c.args.self.now in
    let t = tree_of self.part in
    ap (λ n. 1 + n) (sym (searched_groups self.for_any t) ∙ (part_of (searched self.for_any t) (searched_can_be self.for_any t self.delegated)).groupless)
