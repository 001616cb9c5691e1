use Rattle.std.proofs.Common.{◌≡◌, [], map, ap, ◌∙◌}
use Rattle.fancy_regex_tree.specs.Tree.{tree_of}
use Rattle.fancy_regex_meaning.specs.Sizes.{size_with}
use Rattle.fancy_regex_info.specs.BodySizes.{body_sizes, from_last}
use Rattle.fancy_regex_info.specs.Views.{size_at, pattern_in}
use Rattle.fancy_regex_info.proofs.BodySizeLemmas.{explicit_found, whole_found, next_of}
use Rattle.fancy_regex_info.proofs.tables.next_sizes.Goals.{then-not-explicit+in_ok-push, else-not-explicit}
use Rattle.fancy_regex_info.proofs.tables.next_sizes.Goals as goal

pub returns : goal.returns
returns c =
    let call = size_at c.args.sizes.now in
    let t = tree_of c.args.expr.now in
    let groups = (pattern_in c.args.explicit t).groups in
    let found : from_last c.add_body_sizes.new.sizes.items ≡ body_sizes call t [] =
    c.in_ok-whole.ensures.adds ∙ ap (λ xs. body_sizes call t (from_last xs)) c.new-bodies.ensures.items in
    let all : from_last c.if-not-explicit.bodies.items ≡ map (size_with call) groups = elim c.if-not-explicit.branch [
      | then-not-explicit+in_ok-push w ↦
          whole_found call c.args.explicit t c.add_body_sizes.new.sizes.items c.if-not-explicit.bodies.items c.in_ok-whole.whole w.if-not-explicit.true found
          c.in_ok-whole.ensures.size (ap (λ v. v.items) w.bodies-is ∙ w.in_ok-push.ensures.items)
      | else-not-explicit w ↦
          ap (λ v. from_last v.items) w.bodies-is
          ∙ explicit_found call c.args.explicit t c.add_body_sizes.new.sizes.items w.if-not-explicit.false found
    ] in
    next_of call groups c.args.recursive.now (from_last c.deref.result.now) c.called_sizes.result (ap from_last c.deref.ensures.value ∙ all)
    c.called_sizes.ensures
