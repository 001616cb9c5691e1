use Rattle.std.proofs.Common.{length, refl, sym, ap, ◌∙◌, subst, arith, chars}
use Rattle.std.specs.Prelude.{slice_index}
use Rattle.fancy_regex_tree.specs.Tree.{tree_of}
use Rattle.fancy_regex_desugar.specs.CorePatterns.{read, literal}
use Rattle.fancy_regex_compiler.specs.Known.{front_of}
use Rattle.fancy_regex_compiler.specs.Refusals.{IsNoLeaf}
use Rattle.fancy_regex_compiler.specs.Tasks.{room_of, IsLetThrough}
use Rattle.fancy_regex_compiler.specs.Writing.{layout_of, Wrote, draft_of}
use Rattle.fancy_regex_compiler.proofs.TreeLemmas.{tree_literal, tree_keep_out}
use Rattle.fancy_regex_compiler.specs.Extents.{IsFull}
use Rattle.fancy_regex_compiler.proofs.KindLemmas.{no_leaf}
use Rattle.fancy_regex_compiler.proofs.LeafLemmas.{unkept_leaf}
use Rattle.fancy_regex_compiler.proofs.OutcomeLemmas.{writes_error}
use Rattle.fancy_regex_compiler.proofs.RefusalLemmas.{passed_on}
use Rattle.fancy_regex_compiler.proofs.RoomLemmas.{room_leaf}
use Rattle.fancy_regex_compiler.proofs.leaf.emit_leaf.Goals as goal

pub returns-in_ok-emit_literal-in-Literal-clause-writes : goal.returns-in_ok-emit_literal-in-Literal-clause-writes
unfolding front_of
returns-in_ok-emit_literal-in-Literal-clause-writes c call n us =
    let is = ap tree_of c.in-Literal.is ∙ tree_literal c.in-Literal.val c.in-Literal.casei in
    let char = c.first_character.ensures ∙ ap (λ t. slice_index (chars t) 0) c.deref.ensures in
    let writes = c.in_ok-emit_literal-in-Literal.ensures.writes in
    let u = c.args.context.now.unicode in
    let w = c.args.context.now.whole in
    let layout = layout_of c.args.context.now in
    record {
      cap = writes.cap;
      wrote = λ slot.
          subst (λ t. Wrote layout u w c.args.emitter.now c.emit_literal.new.emitter slot slot (front_of call n t us)) (sym is)
          (subst (λ k. Wrote layout u w c.args.emitter.now c.emit_literal.new.emitter slot slot (read (literal k c.in-Literal.casei))) char (writes.wrote slot));
      needs = writes.needs;
      full = tt;
    }

pub returns-in_ok-emit_keep_out-in-KeepOut-clause-writes : goal.returns-in_ok-emit_keep_out-in-KeepOut-clause-writes
unfolding front_of
returns-in_ok-emit_keep_out-in-KeepOut-clause-writes c call n us =
    let is = ap tree_of c.in-KeepOut.is ∙ tree_keep_out in
    let writes = c.in_ok-emit_keep_out-in-KeepOut.ensures.writes in
    record {
      cap = writes.cap;
      wrote = λ slot.
          subst (λ t. Wrote (layout_of c.args.context.now) c.args.context.now.unicode c.args.context.now.whole c.args.emitter.now c.emit_keep_out.new.emitter slot slot (front_of call n t us)) (sym is)
          (writes.wrote slot);
      needs = writes.needs;
      full = tt;
    }

pub returns-in_err-emit_literal-in-Literal-clause-writes : goal.returns-in_err-emit_literal-in-Literal-clause-writes
unfolding front_of
returns-in_err-emit_literal-in-Literal-clause-writes c call n us =
    let is = ap tree_of c.in-Literal.is ∙ tree_literal c.in-Literal.val c.in-Literal.casei in
    let char = c.first_character.ensures ∙ ap (λ t. slice_index (chars t) 0) c.deref.ensures in
    let e = c.in_err-emit_literal-in-Literal in
    writes_error c.from_residual.result e.field-0.0 c.from_residual.ensures.1 e.ensures.writes.cap
    (subst (λ t. IsFull c.args.emitter.now.body (room_of c.args.context.now (front_of call n t us)) e.field-0.0) (sym is)
    (subst (λ k. IsFull c.args.emitter.now.body (room_of c.args.context.now (read (literal k c.in-Literal.casei))) e.field-0.0) char e.ensures.writes.full))

pub returns-in_err-emit_keep_out-in-KeepOut-clause-writes : goal.returns-in_err-emit_keep_out-in-KeepOut-clause-writes
unfolding front_of
returns-in_err-emit_keep_out-in-KeepOut-clause-writes c call n us =
    let is = ap tree_of c.in-KeepOut.is ∙ tree_keep_out in
    let e = c.in_err-emit_keep_out-in-KeepOut in
    let r = c.from_residual-in_err-emit_keep_out-in-KeepOut in
    writes_error r.result e.field-0.0 r.ensures.1 e.ensures.writes.cap
    (subst (λ t. IsFull c.args.emitter.now.body (room_of c.args.context.now (front_of call n t us)) e.field-0.0) (sym is) e.ensures.writes.full)

pub returns-in_ok-flush_and_push-in_default-clause-writes : goal.returns-in_ok-flush_and_push-in_default-clause-writes
returns-in_ok-flush_and_push-in_default-clause-writes c call n us =
    let is = c.in_ok-insn-in_default.ensures.insn in
    let after = c.in_ok-flush_and_push-in_default.ensures in
    record {
      cap = after.cap;
      wrote = λ slot. record {
        draft = after.draft ∙ sym (is.draft (layout_of c.args.context.now) c.args.context.now.whole call n slot us (draft_of c.args.emitter.now.body));
        slots = let none = is.slots (layout_of c.args.context.now) call n us in omega (arith, none);
        opened = refl;
      };
      needs = refl;
      full = tt;
    }

pub returns-in_err-flush_and_push-in_default-clause-writes : goal.returns-in_err-flush_and_push-in_default-clause-writes
returns-in_err-flush_and_push-in_default-clause-writes c call n us =
    let e = c.in_err-flush_and_push-in_default in
    let r = c.from_residual-in_err-flush_and_push-in_default in
    let t = tree_of c.args.leaf.now in
    writes_error r.result e.field-0.0 r.ensures.1 e.ensures.cap
    (λ too. let lt = e.ensures.full too in omega (arith, lt, room_leaf (layout_of c.args.context.now) c.args.context.now.unicode c.in_ok-insn-in_default.insn t c.in_ok-insn-in_default.ensures.insn call n us))

pub returns-in_ok-emit_literal-in-Literal-clause-allowed : goal.returns-in_ok-emit_literal-in-Literal-clause-allowed
unfolding front_of
returns-in_ok-emit_literal-in-Literal-clause-allowed c all call n us =
    let is = ap tree_of c.in-Literal.is ∙ tree_literal c.in-Literal.val c.in-Literal.casei in
    subst (λ t. IsLetThrough c.args.context.now c.args.scope.may_keep (front_of call n t us) all) (sym is) tt

pub returns-in_ok-emit_keep_out-in-KeepOut-clause-allowed : goal.returns-in_ok-emit_keep_out-in-KeepOut-clause-allowed
unfolding front_of
returns-in_ok-emit_keep_out-in-KeepOut-clause-allowed c all call n us =
    let is = ap tree_of c.in-KeepOut.is ∙ tree_keep_out in
    subst (λ t. IsLetThrough c.args.context.now c.args.scope.may_keep (front_of call n t us) all) (sym is) c.in_ok-emit_keep_out-in-KeepOut.ensures.allowed

pub returns-in_err-insn-in_default-clause-refused : goal.returns-in_err-insn-in_default-clause-refused
returns-in_err-insn-in_default-clause-refused c =
    let u = c.args.context.now.unicode in
    let count = length c.args.context.now.groups.now.items in
    let t = tree_of c.args.leaf.now in
    let r = c.from_residual-in_err-insn-in_default in
    let e = c.in_err-insn-in_default in
    passed_on r.result e.field-0.0 (IsNoLeaf u count c.args.scope.may_keep t) r.ensures.1
    (unkept_leaf u count c.args.scope.may_keep t e.field-0.0
    (no_leaf c.args.leaf.now (record { literal = c.in_default.not-Literal; keep = c.in_default.not-KeepOut })) e.ensures.refused)

pub returns-in_err-emit_keep_out-in-KeepOut-clause-refused : goal.returns-in_err-emit_keep_out-in-KeepOut-clause-refused
returns-in_err-emit_keep_out-in-KeepOut-clause-refused c =
    let u = c.args.context.now.unicode in
    let count = length c.args.context.now.groups.now.items in
    let r = c.from_residual-in_err-emit_keep_out-in-KeepOut in
    let e = c.in_err-emit_keep_out-in-KeepOut in
    passed_on r.result e.field-0.0 (IsNoLeaf u count c.args.scope.may_keep (tree_of c.args.leaf.now)) r.ensures.1
    (subst (λ x. IsNoLeaf u count c.args.scope.may_keep x e.field-0.0) (sym (ap tree_of c.in-KeepOut.is ∙ tree_keep_out)) e.ensures.refused)
