use Rattle.std.proofs.Common.{◌≡◌, suc, ◌==◌, List, [], ◌∷◌, length, map, ap, sym, refl, ◌∙◌, arith, vec_len}
use Rattle.fancy_regex_tree.specs.Tree.{tree_of, trees, alt}
use Rattle.fancy_regex_tree.specs.declared.expr.Expr.{Expr}
use Rattle.fancy_regex_analysis.specs.WellFormed.{is_ill_formed}
use Rattle.fancy_regex_analysis.proofs.LeftRecursionLemmas.{not_zero}
use Rattle.fancy_regex_info.proofs.TreeLemmas.{tree_alt}
use Rattle.fancy_regex_analysis.proofs.well_formed.is_ill_formed.Goals as goal

no_branch : (xs : List Expr) → (length xs == 0) ≡ is_ill_formed (alt (trees (map tree_of xs)))
no_branch [] = refl
no_branch (x ∷ xs) = not_zero (suc (length xs)) (omega arith)

pub returns-in-Alt : goal.returns-in-Alt
returns-in-Alt c =
    let xs = c.in-Alt.branches.items in
    let long : vec_len c.in-Alt.branches ≡ length xs = c.in-Alt.branches.ok.0 in
    c.is_empty.ensures ∙ ap (λ n. n == 0) long ∙ no_branch xs ∙ sym (ap is_ill_formed (ap tree_of c.in-Alt.is ∙ tree_alt c.in-Alt.branches))
