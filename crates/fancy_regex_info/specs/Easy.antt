-- Easy trees: those that run on the state table, without backtracking.
use Rattle.std.specs.Prelude.{ℕ, ◌+◌, Bool, true, false, not, ◌&&◌}
use Rattle.fancy_regex_tree.specs.Tree.{Tree, Trees, empty, any, assertion, literal, concat, alt, group, repeat, delegate, no_trees, more_trees}
use Rattle.fancy_regex_tree.specs.declared.expr.Assertion.{Assertion}
use Rattle.fancy_regex_tree.specs.declared.expr.Assertion.TheVariants.{StartText, EndText, StartLine, EndLine, LeftWordBoundary, RightWordBoundary, WordBoundary, NotWordBoundary}
use Rattle.fancy_regex_tree.specs.declared.expr.Assertion.TheVariants.{LeftWordHalfBoundary, RightWordHalfBoundary, EndTextIgnoreTrailingNewlines, StartLineOniguruma}
use Rattle.fancy_regex_meaning.specs.Groups.{group_count}

abbrev pub is_easy_assertion : Assertion → Bool
is_easy_assertion StartText = true
is_easy_assertion EndText = true
is_easy_assertion (StartLine crlf) = true
is_easy_assertion (EndLine crlf) = true
is_easy_assertion LeftWordBoundary = true
is_easy_assertion RightWordBoundary = true
is_easy_assertion WordBoundary = true
is_easy_assertion NotWordBoundary = true
is_easy_assertion LeftWordHalfBoundary = false
is_easy_assertion RightWordHalfBoundary = false
is_easy_assertion (EndTextIgnoreTrailingNewlines crlf) = false
is_easy_assertion (StartLineOniguruma crlf) = false

-- where it is known which groups are read by references and conditions
module _ (reads : ℕ → Bool) where
  -- A tree whose first group has the number n. No reference, condition or other construct stands in it, no group in it is
  -- read, and no alternation is without a branch.
  unfoldable mutual
    pub is_easy : ℕ → Tree → Bool
    is_easy n empty = true
    is_easy n (any newline crlf) = true
    is_easy n (literal val casei) = true
    is_easy n (delegate inner casei) = true
    is_easy n (assertion a) = is_easy_assertion a
    is_easy n (concat ts) = all_easy n ts
    is_easy n (alt no_trees) = false
    is_easy n (alt (more_trees t ts)) = is_easy n t && all_easy (n + group_count t) ts
    is_easy n (group t) = is_easy (n + 1) t && not (reads n)
    is_easy n (repeat t lo hi greedy) = is_easy n t
    is_easy n _ = false

    pub all_easy : ℕ → Trees → Bool
    all_easy n no_trees = true
    all_easy n (more_trees t ts) = is_easy n t && all_easy (n + group_count t) ts
