use Rattle.std.proofs.Common.{◌≡◌, ◌≤◌, ◌⊎◌, inl, inr, ◌+◌, ◌++◌, [], ◌<◌, true, false, map, length, set, replicate, ap, sym, subst, ◌∙◌, arith, rules, length-append}
use Rattle.std.specs.List.{Contains}
use Rattle.std.proofs.lemmas.List.Elements.{Contains-push}
use Rattle.fancy_regex_tree.specs.Tree.{tree_of}
use Rattle.fancy_regex_meaning.specs.Sizes.{size_with}
use Rattle.fancy_regex_analysis.specs.NodeErrors.{is_memory}
use Rattle.fancy_regex_analysis.specs.UnsupportedParts.{is_unsupported, stops}
use Rattle.fancy_regex_info.specs.Views.{size_at, body_tree}
use Rattle.fancy_regex_analysis.specs.EmittedParts.{emitted_calls, itself, SomeEmittedPart, was_visited_in}
use Rattle.fancy_regex_analysis.specs.declared.emitted.Inside.TheVariants.{Nothing}
use Rattle.fancy_regex_analysis.proofs.PartErrorLemmas.{gives}
use Rattle.fancy_regex_info.proofs.AnalyzeTreeLemmas.{length_trees}
use Rattle.fancy_regex_analysis.proofs.WorklistLemmas.{Progress, nowhere, begins, passes_over, meets, finished, left, left_met, met_at, met_is, target_is, part_told}
use Rattle.fancy_regex_analysis.proofs.unsupported.check_emitted_parts.Goals as goal
use Rattle.fancy_regex_analysis.proofs.unsupported.check_emitted_parts.Goals.{else-call-groups-via-then-call-groups+else-not-was_visited_in, else-call-groups-via-else-call-groups}

pub returns-in_err-check_body-clause-refused : goal.returns-in_err-check_body-clause-refused
returns-in_err-check_body-clause-refused c =
    let S = size_with (size_at c.args.sizes.now) in
    let groups = map body_tree c.args.groups.now in
    let root = tree_of c.args.expr.now in
    let e = c.in_err-check_body.field-0.0 in
    gives c.from_residual.result e (λ f. (is_memory f ≡ true) ⊎ SomeEmittedPart groups root (stops S f)) c.from_residual.ensures.1
    (part_told groups root (stops S) e Nothing root itself c.in_err-check_body.ensures.refused)

pub loop-call-init : goal.loop-call-init
loop-call-init c =
    let S = size_with (size_at c.args.sizes.now) in
    let groups = map body_tree c.args.groups.now in
    let root = tree_of c.args.expr.now in
    let met : c.in_ok-met.met.items ≡ replicate (length c.args.groups.now) nowhere = c.in_ok-met.ensures.items_if_clones_equal (λ y e. e) in
    subst (λ ws. Progress groups root (is_unsupported S) ws c.check_body.new.calls.items) (sym met)
    (begins groups root (is_unsupported S) (length c.args.groups.now) c.check_body.new.calls.items (sym (length_trees c.args.groups.now))
    (c.in_ok-check_body.ensures.calls ∙ ap (λ cs. cs ++ emitted_calls Nothing root) c.new-open.ensures.items)
    c.in_ok-check_body.ensures.complete)

pub returns-in_err-check_body-2-clause-refused : goal.returns-in_err-check_body-2-clause-refused
returns-in_err-check_body-2-clause-refused c =
    let S = size_with (size_at c.args.sizes.now) in
    let groups = map body_tree c.args.groups.now in
    let root = tree_of c.args.expr.now in
    let e = c.in_err-check_body-2.field-0.0 in
    let call = c.in-Some.call in
    let body = c.index-groups-call.result in
    gives c.from_residual-in_err-check_body-2.result e (λ f. (is_memory f ≡ true) ⊎ SomeEmittedPart groups root (stops S f))
    c.from_residual-in_err-check_body-2.ensures.1
    (part_told groups root (stops S) e call.inside (body_tree body)
    (c.loop-call.invariant.todo_is_whole call (body_tree body)
    (subst (λ cs. Contains cs call) (sym c.in-Some.ensures.items) (Contains-push c.pop.new.self.items call))
    (target_is c.args.groups.now call.group body (omega arith) c.index-groups-call.is))
    c.in_err-check_body-2.ensures.refused)

pub loop-call-smaller-then-not-was_visited_in : goal.loop-call-smaller-then-not-was_visited_in
loop-call-smaller-then-not-was_visited_in c =
    let groups = map body_tree c.args.groups.now in
    let call = c.in-Some.call in
    let body = c.index-groups-call.result in
    let met = c.loop-call.met.items in
    let low : call.group < length met = omega (arith, c.loop-call.invariant.same, length_trees c.args.groups.now) in
    let v = c.index-then-not-was_visited_in.result.now in
    let same : v ≡ met_at met call.group = met_is met call.group v low c.index-then-not-was_visited_in.ensures in
    let fails : was_visited_in v call.inside ≡ false =
    ap (λ w. was_visited_in w call.inside) (same ∙ sym (met_is met call.group c.index.result.now low c.index.ensures)) ∙ sym c.was_visited_in.ensures ∙ c.if-not-was_visited_in.true in
    let fewer : left (set met call.group c.with.result) groups + (length (emitted_calls call.inside (body_tree body)) + 1) ≡ left met groups =
    subst (λ w. left (set met call.group w) groups + (length (emitted_calls call.inside (body_tree body)) + 1) ≡ left met groups) (sym c.with.ensures)
    (left_met met groups call.group v call.inside (body_tree body) c.loop-call.invariant.same same fails
    (target_is c.args.groups.now call.group body (omega arith) c.index-groups-call.is)) in
    omega (
      arith,
      fewer,
      ap length c.in_ok-check_body-2.ensures.calls,
      length-append c.pop.new.self.items (emitted_calls call.inside (body_tree body)),
      c.check_body-then-not-was_visited_in.new.calls.ok.0,
      c.pop.new.self.ok.0,
      c.in-Some.ensures.len,
    )

pub loop-call-preserved-then-not-was_visited_in : goal.loop-call-preserved-then-not-was_visited_in
loop-call-preserved-then-not-was_visited_in c =
    let S = size_with (size_at c.args.sizes.now) in
    let groups = map body_tree c.args.groups.now in
    let root = tree_of c.args.expr.now in
    let call = c.in-Some.call in
    let body = c.index-groups-call.result in
    let met = c.loop-call.met.items in
    let low : call.group < length met = omega (arith, c.loop-call.invariant.same, length_trees c.args.groups.now) in
    let v = c.index-then-not-was_visited_in.result.now in
    let same : v ≡ met_at met call.group = met_is met call.group v low c.index-then-not-was_visited_in.ensures in
    subst (λ w. Progress groups root (is_unsupported S) (set met call.group w) c.check_body-then-not-was_visited_in.new.calls.items) (sym c.with.ensures)
    (meets groups root (is_unsupported S) met c.loop-call.open.items c.pop.new.self.items c.check_body-then-not-was_visited_in.new.calls.items call v (body_tree body)
    c.loop-call.invariant c.in-Some.ensures.items same
    (target_is c.args.groups.now call.group body (omega arith) c.index-groups-call.is)
    c.in_ok-check_body-2.ensures.calls c.in_ok-check_body-2.ensures.complete)

pub loop-call-preserved : goal.loop-call-preserved
loop-call-preserved c =
    let S = size_with (size_at c.args.sizes.now) in
    let groups = map body_tree c.args.groups.now in
    let root = tree_of c.args.expr.now in
    let call = c.in-Some.call in
    let met = c.loop-call.met.items in
    let over : (length groups ≤ call.group) ⊎ (was_visited_in (met_at met call.group) call.inside ≡ true) =
    elim c.else-call-groups.branch [
      | else-call-groups-via-then-call-groups+else-not-was_visited_in w ↦
          (let low : call.group < length met = omega (arith, c.loop-call.invariant.same, length_trees c.args.groups.now) in
          inr (ap (λ x. was_visited_in x call.inside) (sym (met_is met call.group w.index.result.now low w.index.ensures)) ∙ sym w.was_visited_in.ensures ∙ w.if-not-was_visited_in.false))
      | else-call-groups-via-else-call-groups w ↦ inl (omega (arith, w.if-call-groups.false, length_trees c.args.groups.now))
    ] in
    passes_over groups root (is_unsupported S) met c.loop-call.open.items c.pop.new.self.items call c.loop-call.invariant c.in-Some.ensures.items over

pub returns-clause-complete : goal.returns-clause-complete
returns-clause-complete c =
    let S = size_with (size_at c.args.sizes.now) in
    let nothing : c.loop-call.open.items ≡ [] = search rules in
    finished (map body_tree c.args.groups.now) (tree_of c.args.expr.now) (is_unsupported S) c.loop-call.met.items c.loop-call.open.items nothing c.loop-call.invariant
