use Rattle.std.proofs.Common.{map, sym, ap, ◌∙◌}
use Rattle.std.proofs.lemmas.List.{take_all}
use Rattle.fancy_regex_tree.specs.Tree.{tree_of, trees}
use Rattle.fancy_regex_desugar.specs.Delegates.{lazily}
use Rattle.fancy_regex_program.proofs.LazyLemmas.{lazily_of_all}
use Rattle.fancy_regex_compiler.proofs.lazy.+lazy.Goals as goal

pub lazy_copies-returns : goal.lazy_copies-returns
lazy_copies-returns t c =
    ap trees (c.loop-child.invariant ∙ ap (map (λ e. lazily (tree_of e))) (take_all c.loop-child.child-index c.args.children.now c.loop-child-test.false))
    ∙ sym (lazily_of_all c.args.children.now)
