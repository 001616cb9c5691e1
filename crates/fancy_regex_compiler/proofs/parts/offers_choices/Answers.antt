use Rattle.std.proofs.Common.{◌≡◌, false, map, sym, ap, ap₂, ◌∙◌}
use Rattle.std.specs.Prelude.{◌&&◌, count_by}
use Rattle.fancy_regex_tree.specs.Tree.{tree_of}
use Rattle.fancy_regex_tree.specs.Traversal.{tree_at, nodes}
use Rattle.fancy_regex_desugar.specs.Delegates as delegates
use Rattle.fancy_regex_compiler.proofs.PartLemmas.{and_false, ends_with_one, has_so_many}
use Rattle.fancy_regex_compiler.proofs.parts.offers_choices.Goals as goal
use Rattle.fancy_regex_compiler.proofs.parts.offers_choices.Goals.{else-for_any-via-then-for_any+else-ends_in_choice, else-for_any-via-else-for_any}

pub returns-then-ends_in_choice : goal.returns-then-ends_in_choice
returns-then-ends_in_choice c =
    sym (ends_with_one c.args.for_any (tree_of c.args.part.now)
    (ap₂ (λ a b. a && b) c.if-for_any.true (sym c.ends_in_choice.ensures ∙ c.if-ends_in_choice.true)))

pub returns : goal.returns
returns c =
    let t = tree_of c.args.part.now in
    let none : (c.args.for_any && delegates.ends_in_choice t) ≡ false =
    elim c.else-for_any.branch [
      | else-for_any-via-then-for_any+else-ends_in_choice w ↦
          ap (λ b. c.args.for_any && b) (sym w.ends_in_choice.ensures ∙ w.if-ends_in_choice.false) ∙ and_false c.args.for_any
      | else-for_any-via-else-for_any w ↦ ap (λ b. b && delegates.ends_in_choice t) w.if-for_any.false
    ] in
    let count : c.choice_nodes.result ≡ count_by delegates.is_choice (nodes t) =
    c.choice_nodes.ensures ∙ ap (λ l. count_by delegates.is_choice (map tree_at l)) c.deref.ensures.value ∙ ap (count_by delegates.is_choice) c.in_ok-nodes.ensures in
    sym (has_so_many c.args.for_any t none c.choice_nodes.result count)
