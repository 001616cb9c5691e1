use Rattle.std.proofs.Common.{◌≡◌, ◌∙◌, ℕ, ◌+◌, ◌-◌, ◌<◌, suc, true, List, Bool, Vec, Global, map, length, refl, sym, ap, subst, rules, arith}
use Rattle.std.proofs.lemmas.List.{length-map}
use Rattle.fancy_regex_tree.specs.Tree.{tree_of}
use Rattle.fancy_regex_info.specs.AnalysisRelations.{AreCallSizes, mark_at}
use Rattle.fancy_regex_info.specs.Views.{body_tree}
use Rattle.fancy_regex_linear.specs.Calls.{greatest_nesting}
use Rattle.fancy_regex_linear.specs.CalledClasses.{IsReached, IsBodyCause}
use Rattle.fancy_regex_linear.specs.CallMarks.{FollowsMarks, marks_at, AreLevels, MakesLevel}
use Rattle.fancy_regex_linear.specs.declared.build.Translator.{Translator}
use Rattle.fancy_regex_linear.proofs.CalleeLemmas.{HasLevel, no_level, level_next, all_written, cause_into}
use Rattle.fancy_regex_linear.proofs.MarkLemmas.{table_at}
use Rattle.fancy_regex_linear.proofs.build.Translator.write_calls.Goals as goal

pub loop-depth-init : goal.loop-depth-init
loop-depth-init c = record {
  unicode = refl;
  sized = subst (λ ts. AreCallSizes ts c.in_ok-sizes.sizes.items) (sym c.requires) c.in_ok-sizes.ensures;
  level = λ no_matchers none. no_level (map body_tree c.args.bodies.now) c.args.self.now.unicode _ _ no_matchers none;
}

pub loop-depth-preserved : goal.loop-depth-preserved
loop-depth-preserved c =
    let gs = c.args.bodies.now in
    let groups = map body_tree gs in
    let root = tree_of c.args.expr.now in
    let nesting = c.greatest_nesting-nesting.result in
    let depth = c.loop-depth.depth in
    let tables = c.in_ok-tables.tables.items in
    let level = nesting - 1 - depth in
    let low : depth < nesting = c.loop-depth-test.true in
    let levels : AreLevels groups nesting root tables =
    subst (λ (n : ℕ). AreLevels groups n root tables) (sym c.greatest_nesting-nesting.ensures) c.in_ok-tables.ensures in
    let table : marks_at tables level ≡ c.deref.result.now =
    table_at tables level c.index.result.now (omega (arith, low, levels.count)) c.index.ensures ∙ sym c.deref.ensures.value in
    let deeper : suc level ≡ nesting - depth = omega (arith, low) in
    let here : level ≡ nesting - (depth + 1) = omega arith in
    let follows : FollowsMarks groups (marks_at tables level) (marks_at tables (nesting - depth)) =
    subst (λ (k : ℕ). FollowsMarks groups (marks_at tables level) (marks_at tables k)) deeper (levels.next level (omega (arith, low))) in
    let made : MakesLevel groups (marks_at tables level) c.loop-depth.self c.bodies_called.new.self c.in_ok-next.next.items (length gs) =
    subst (λ (ms : List Bool). MakesLevel groups ms c.loop-depth.self c.bodies_called.new.self c.in_ok-next.next.items (length gs)) (sym table)
    c.in_ok-next.ensures.level in
    let final : Translator = record c.bodies_called.new.self { called = c.in_ok-next.next } in
    record {
      unicode = c.in_ok-next.ensures.unicode ∙ c.loop-depth.invariant.unicode;
      sized = subst (λ (v : Vec _ Global). AreCallSizes groups v.items) (sym c.in_ok-next.ensures.tables.0) c.loop-depth.invariant.sized;
      level = λ no_matchers none.
          subst (λ (k : ℕ). HasLevel groups c.args.self.now.unicode (depth + 1) (marks_at tables k) final) here
          (level_next gs c.args.self.now.unicode depth (marks_at tables level) (marks_at tables (nesting - depth)) c.loop-depth.self c.bodies_called.new.self final
          c.in_ok-next.next c.loop-depth.invariant.unicode c.loop-depth.invariant.sized follows made refl refl (c.loop-depth.invariant.level no_matchers none));
    }

pub returns-clause-calls : goal.returns-clause-calls
returns-clause-calls c = λ no_matchers none.
    let gs = c.args.bodies.now in
    let groups = map body_tree gs in
    let root = tree_of c.args.expr.now in
    let unicode = c.args.self.now.unicode in
    let nesting = c.greatest_nesting-nesting.result in
    let depth = c.loop-depth.depth in
    let tables = c.in_ok-tables.tables.items in
    let levels : AreLevels groups nesting root tables =
    subst (λ (n : ℕ). AreLevels groups n root tables) (sym c.greatest_nesting-nesting.ensures) c.in_ok-tables.ensures in
    let deep : nesting ≡ greatest_nesting (length groups) = c.greatest_nesting-nesting.ensures ∙ ap greatest_nesting (sym (length-map gs body_tree)) in
    let end : depth ≡ nesting = omega (arith, c.loop-depth-test.false, c.loop-depth.auto.depth-end) in
    let whole : nesting - depth ≡ 0 = omega (arith, c.loop-depth-test.false) in
    let has : HasLevel groups unicode nesting (marks_at tables 0) c.loop-depth.self =
    subst (λ (d : ℕ). HasLevel groups unicode d (marks_at tables 0) c.loop-depth.self) end
    (subst (λ (k : ℕ). HasLevel groups unicode depth (marks_at tables k) c.loop-depth.self) whole (c.loop-depth.invariant.level no_matchers none)) in
    all_written gs root unicode nesting tables c.loop-depth.self _ deep levels refl refl has

pub returns-in_err-next-clause-refused : goal.returns-in_err-next-clause-refused
returns-in_err-next-clause-refused c =
    let groups = map body_tree c.args.bodies.now in
    let root = tree_of c.args.expr.now in
    let unicode = c.args.self.now.unicode in
    let nesting = c.greatest_nesting-nesting.result in
    let depth = c.loop-depth.depth in
    let tables = c.in_ok-tables.tables.items in
    let level = nesting - 1 - depth in
    let low : depth < nesting = c.loop-depth-test.true in
    let levels : AreLevels groups nesting root tables =
    subst (λ (n : ℕ). AreLevels groups n root tables) (sym c.greatest_nesting-nesting.ensures) c.in_ok-tables.ensures in
    let table : marks_at tables level ≡ c.deref.result.now =
    table_at tables level c.index.result.now (omega (arith, low, levels.count)) c.index.ensures ∙ sym c.deref.ensures.value in
    let marked : ℕ → Type 0 = λ j. mark_at c.deref.result.now j ≡ true in
    let why : IsBodyCause unicode groups marked c.in_err-next.field-0.0 =
    subst (λ (u : Bool). IsBodyCause u groups marked c.in_err-next.field-0.0) c.loop-depth.invariant.unicode c.in_err-next.ensures.refused in
    let all : IsBodyCause unicode groups (IsReached groups root) c.in_err-next.field-0.0 =
    cause_into unicode groups marked (IsReached groups root) (λ j h. levels.reached level j (ap (λ (ms : List Bool). mark_at ms j) table ∙ h)) c.in_err-next.field-0.0 why in
    search rules
