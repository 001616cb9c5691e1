use Rattle.std.proofs.Common.{◌≡◌, ◌++◌, ◌<◌, [], ap, subst, replicate, false, length, get_or, sym, ◌∙◌, arith, rules}
use Rattle.std.proofs.lemmas.List.{get_or_default}
use Rattle.fancy_regex_info.specs.Reachability.{rows, has, through}
use Rattle.fancy_regex_info.proofs.WorklistLemmas.{left_marked}
use Rattle.fancy_regex_info.proofs.ReachabilityLemmas.{Progress, begins, marks, finished, row_at, length_rows}
use Rattle.fancy_regex_info.proofs.reachability.reachable.Goals as goal

pub loop-place-smaller-then-not-index : goal.loop-place-smaller-then-not-index
loop-place-smaller-then-not-index c =
    let inside : c.in-Some.place < length c.loop-place.seen.items = search rules in
    let here : get_or c.loop-place.seen.items c.in-Some.place c.index.result.now ≡ false = sym c.index.ensures ∙ c.if-not-index.true in
    let fewer = left_marked c.loop-place.seen.items c.args.edges.now c.in-Some.place c.index.result.now c.index-edges-place.result
    c.loop-place.invariant.same inside here c.index-edges-place.is in
    omega (arith, fewer, c.in-Some.ensures.len, c.in_ok-extend_from_slice.ensures.len, c.deref.ensures.len)

pub loop-place-init : goal.loop-place-init
loop-place-init c =
    let seen : c.in_ok-seen.seen.items ≡ replicate (length c.args.edges.now) false = c.in_ok-seen.ensures.items_if_clones_equal (λ y e. e) in
    record {
      same = search rules;
      progress =
          subst (λ bs. Progress (rows c.args.edges.now) c.args.starts.now bs c.in_ok-open.open.items) (sym seen)
          (subst (λ ks. Progress (rows c.args.edges.now) c.args.starts.now (replicate (length c.args.edges.now) false) ks)
          (sym c.in_ok-open.ensures.items)
          (begins (rows c.args.edges.now) c.args.starts.now (length c.args.edges.now) (sym (length_rows c.args.edges.now))));
    }

pub loop-place-preserved-then-not-index : goal.loop-place-preserved-then-not-index
loop-place-preserved-then-not-index c =
    let inside : c.in-Some.place < length c.loop-place.seen.items = search rules in
    let here : get_or c.loop-place.seen.items c.in-Some.place false ≡ false =
    get_or_default c.loop-place.seen.items c.in-Some.place false c.index.result.now inside ∙ sym c.index.ensures ∙ c.if-not-index.true in
    let within : c.in-Some.place < length c.args.edges.now = omega (arith, c.loop-place.invariant.same) in
    record {
      same = search rules;
      progress =
          marks (rows c.args.edges.now) c.args.starts.now c.loop-place.seen.items c.loop-place.open.items c.pop.new.self.items
          c.extend_from_slice.new.self.items c.in-Some.place c.loop-place.invariant.progress c.in-Some.ensures.items inside here
          (c.in_ok-extend_from_slice.ensures.items
          ∙ ap (λ xs. c.pop.new.self.items ++ xs)
          (c.deref.ensures.value ∙ sym (row_at c.args.edges.now c.in-Some.place c.index-edges-place.result within c.index-edges-place.is)));
    }

pub returns-clause-marks : goal.returns-clause-marks
returns-clause-marks c = λ k lt.
    let nothing : c.loop-place.open.items ≡ [] = search rules in
    let same : length (rows c.args.edges.now) ≡ length c.args.edges.now = length_rows c.args.edges.now in
    finished (rows c.args.edges.now) c.args.starts.now c.loop-place.seen.items
    (subst (λ ks. Progress (rows c.args.edges.now) c.args.starts.now c.loop-place.seen.items ks) nothing c.loop-place.invariant.progress)
    k (omega (arith, same))
    ∙ ap (λ n. has (through (rows c.args.edges.now) n c.args.starts.now) k) same
