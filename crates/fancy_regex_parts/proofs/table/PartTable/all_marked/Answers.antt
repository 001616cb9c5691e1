use Rattle.std.proofs.Common.{◌≡◌, ◌∙◌, ◌⊎◌, ◌-◌, ◌^◌, ℕ, List, [], ◌∷◌, length, length-append, get_or, replicate, Option, Some, None, refl, sym, ap, subst, arith}
use Rattle.fancy_regex_states.specs.declared.state.State.{State}
use Rattle.fancy_regex_parts.specs.Tables.{AreStill}
use Rattle.fancy_regex_parts.proofs.MarkLemmas.{grown_at, all_marked_right}
use Rattle.fancy_regex_parts.proofs.table.PartTable.all_marked.Goals as goal

pub loop-q-preserved : goal.loop-q-preserved
loop-q-preserved c =
    let invariant = c.loop-q.invariant in
    let marks = c.in_ok-push.ensures.items in
    let heads = c.in_ok-push-2.ensures.items in
    record {
      marks_len = omega (arith, ap length marks, length-append c.loop-q.marks.items (Some c.loop-q.q ∷ []), invariant.marks_len);
      heads_len = omega (arith, ap length heads, length-append c.loop-q.heads.items (c.loop-q.q ∷ []), invariant.heads_len);
      marks = λ k h.
          ap (λ (xs : List (Option ℕ)). get_or xs k None) marks
          ∙ grown_at c.loop-q.marks.items (Some c.loop-q.q) None Some (λ j l. invariant.marks j (omega (arith, l, invariant.marks_len)))
          (ap Some (sym invariant.marks_len)) k (omega (arith, h, invariant.marks_len));
      heads = λ k h.
          ap (λ (xs : List ℕ). get_or xs k 0) heads
          ∙ grown_at c.loop-q.heads.items c.loop-q.q 0 (λ n. n) (λ j l. invariant.heads j (omega (arith, l, invariant.heads_len)))
          (sym invariant.heads_len) k (omega (arith, h, invariant.heads_len));
    }

pub returns : goal.returns
returns c =
    let invariant = c.loop-q.invariant in
    let states = c.args.states in
    let reach : ℕ = c.farthest_reach-reach.result in
    let all : c.loop-q.q ≡ length states.items = omega (arith, c.len-q-end.ensures, c.loop-q-test.false, c.loop-q.auto.q-end, states.ok.0) in
    let count : c.len.result ≡ length states.items = omega (arith, c.len.ensures, states.ok.0) in (
      all_marked_right _
          (record {
            count = invariant.heads_len ∙ all;
            marks = λ k h. invariant.marks k (omega (arith, h, all));
            heads = λ k h. invariant.heads k (omega (arith, h, all));
            costs = c.in_ok-costs.ensures ∙ ap (λ (n : ℕ). replicate n 1) count;
            most = refl;
            writes = c.new.ensures.items;
            reach = reach;
            reaches = c.in_ok-reaches.ensures ∙ ap (λ (n : ℕ). replicate n reach) (omega (arith, c.len-2.ensures, states.ok.0));
            reach_is = subst (λ (xs : List State). (reach ≡ 2 ^ 64 - 1) ⊎ (AreStill xs × (reach ≡ 0))) c.deref.ensures.value c.farthest_reach-reach.ensures.far;
            still = λ still. c.farthest_reach-reach.ensures.still (subst AreStill (sym c.deref.ensures.value) still);
          })
          c.requires,
      refl,
    )
