use Rattle.std.proofs.Common.{◌≡◌, ◌++◌, List, ℕ, OnOk, chars, string_bytes, ap, ◌∙◌, subst}
use Rattle.std.proofs.lemmas.Str.{chars-nil}
use Rattle.fancy_regex_tree.specs.Tree.{tree_of}
use Rattle.fancy_regex_tree.specs.Printed.{printed}
use Rattle.fancy_regex_tree.proofs.expr.Expr.to_str.Goals as goal

pub returns-clause-printed : goal.returns-clause-printed
returns-clause-printed c =
    let text = printed c.args.precedence (tree_of c.args.self.now) in
    let whole : chars c.deref.result.now ≡ text =
    ap chars c.deref.ensures ∙ c.in_ok-print.ensures ∙ ap (λ t. t ++ text) (ap chars c.new-text.ensures.bytes ∙ chars-nil) in
    subst (λ (t : List ℕ). OnOk c.print_text.result (chars (string_bytes c.print_text.new.out) ≡ chars (string_bytes c.args.buf.now) ++ t)) whole
    c.print_text.ensures.added
