-- Branches, as the functions read them.
use Rattle.std.proofs.Common.{◌+◌, length, ◌∙◌}
use Rattle.fancy_regex_tree.specs.Parser.{parse_alternation}
use Rattle.fancy_regex_tree.proofs.Loops.{nested_is}
use Rattle.fancy_regex_lex_grammar.proofs.ReadingLemmas.{reads_exactly}
use Rattle.fancy_regex_grammar.specs.GrammarLaws.{BranchesAreExact}
use Rattle.fancy_regex_grammar.proofs.Soundness.{nested_means}
use Rattle.fancy_regex_grammar.proofs.Completeness.{one_more_is_greater, branches_complete, branches_stop}

pub branches_are_exact : BranchesAreExact
branches_are_exact p n in_look f t =
    reads_exactly (parse_alternation p n in_look f t) (nested_means p n in_look f t)
    (λ r b. nested_is p n in_look f t ∙ branches_complete p b (length t + 1) (one_more_is_greater (length t)))
    (λ e s. nested_is p n in_look f t ∙ branches_stop p s (length t + 1) (one_more_is_greater (length t)))
