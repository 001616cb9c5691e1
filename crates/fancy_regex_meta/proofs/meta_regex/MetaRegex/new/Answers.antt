use Rattle.std.proofs.Common.{ℕ, List, subst}
use Rattle.std.specs.Prelude.{string_bytes}
use Rattle.fancy_regex_meta.specs.Reading.{IsReading}
use Rattle.fancy_regex_meta.proofs.LinearLemmas.{easy_of_text, linear_of_text}
use Rattle.fancy_regex_meta.proofs.meta_regex.MetaRegex.new.Goals as goal

-- what is known of the tree that was read is known of the text
pub invariant_of-result-clause-served : goal.invariant_of-result-clause-served
invariant_of-result-clause-served c =
    let o = c.args.options.now in
    easy_of_text o (string_bytes c.args.pattern) c.in_ok-tree.tree _
    (subst (λ (text : List ℕ). IsReading o text c.in_ok-tree.tree) c.as_str.ensures.value c.in_ok-tree.ensures.parsed) c.in_ok-groups.ensures.served

pub invariant_of-result-clause-linear : goal.invariant_of-result-clause-linear
invariant_of-result-clause-linear c =
    let o = c.args.options.now in
    linear_of_text o (string_bytes c.args.pattern) c.in_ok-tree.tree _
    (subst (λ (text : List ℕ). IsReading o text c.in_ok-tree.tree) c.as_str.ensures.value c.in_ok-tree.ensures.parsed) c.in_ok-groups.ensures.linear
