use Rattle.std.proofs.Common.{IsTrue, length, refl, sym, subst, ap, ◌∙◌, chars, string_bytes}
use Rattle.fancy_regex_tree.specs.Tree as tree
use Rattle.fancy_regex_tree.specs.Tree.{tree_of}
use Rattle.fancy_regex_class.specs.Classes.{is_class}
use Rattle.fancy_regex_class.specs.Matchers.{IsMatcherOf}
use Rattle.fancy_regex_program.specs.Ops as op
use Rattle.fancy_regex_compiler.specs.Refusals.{IsUnfit, IsNoSingle, IsNoClass}
use Rattle.fancy_regex_program.specs.declared.insn.Insn.TheVariants as insn
use Rattle.fancy_regex_compiler.proofs.TreeLemmas.{tree_any, tree_assertion, tree_newline, tree_delegate, tree_backref, tree_continue, tree_exists, tree_verb}
use Rattle.fancy_regex_compiler.proofs.LeafLemmas.{unfit_leaf, class_refused, leaf_any, leaf_assertion, leaf_newline, leaf_continue, leaf_verb, leaf_backref, leaf_exists, leaf_class}
use Rattle.fancy_regex_compiler.proofs.KindLemmas.{no_single}
use Rattle.fancy_regex_compiler.proofs.RefusalLemmas.{passed_on}
use Rattle.fancy_regex_compiler.proofs.leaf.insn_of.Goals as goal

pub returns-in-Any-clause-insn : goal.returns-in-Any-clause-insn
returns-in-Any-clause-insn c =
    leaf_any c.args.context.now.unicode c.any.result (tree_of c.args.leaf.now) c.in-Any.newline c.in-Any.crlf
    (ap tree_of c.in-Any.is ∙ tree_any c.in-Any.newline c.in-Any.crlf) c.any.ensures

pub returns-in-Assertion-clause-insn : goal.returns-in-Assertion-clause-insn
returns-in-Assertion-clause-insn c =
    leaf_assertion c.args.context.now.unicode (insn.Assertion c.in-Assertion.assertion) (tree_of c.args.leaf.now) c.in-Assertion.assertion
    (ap tree_of c.in-Assertion.is ∙ tree_assertion c.in-Assertion.assertion) refl

pub returns-in-GeneralNewline-clause-insn : goal.returns-in-GeneralNewline-clause-insn
returns-in-GeneralNewline-clause-insn c =
    leaf_newline c.args.context.now.unicode (insn.GeneralNewline c.in-GeneralNewline.unicode) (tree_of c.args.leaf.now) c.in-GeneralNewline.unicode
    (ap tree_of c.in-GeneralNewline.is ∙ tree_newline c.in-GeneralNewline.unicode) refl

pub returns-in_ok-matcher-in-Delegate-clause-insn : goal.returns-in_ok-matcher-in-Delegate-clause-insn
returns-in_ok-matcher-in-Delegate-clause-insn c =
    let inner = c.in-Delegate.inner in
    let casei = c.in-Delegate.casei in
    let m = c.in_ok-matcher-in-Delegate.matcher in
    let is : IsMatcherOf m.value c.args.context.now.unicode (chars (string_bytes inner)) casei =
    rw c.deref.ensures at c.in_ok-matcher-in-Delegate.ensures.members in
    let readable : IsTrue (is_class c.args.context.now.unicode (chars (string_bytes inner)) casei) =
    rw c.deref.ensures at c.in_ok-matcher-in-Delegate.ensures.read in
    leaf_class c.args.context.now.unicode m (tree_of c.args.leaf.now) (chars (string_bytes inner)) casei
    (ap tree_of c.in-Delegate.is ∙ tree_delegate inner casei) is readable

pub returns-in_ok-slot-in-Backref-clause-insn : goal.returns-in_ok-slot-in-Backref-clause-insn
returns-in_ok-slot-in-Backref-clause-insn c =
    let k = c.in-Backref.group in
    let casei = c.in-Backref.casei in
    leaf_backref c.args.context.now.unicode (insn.Backref c.in_ok-slot-in-Backref.slot casei) (tree_of c.args.leaf.now) k casei
    (ap tree_of c.in-Backref.is ∙ tree_backref k casei) (ap (λ s. op.backref s casei) c.in_ok-slot-in-Backref.ensures.value)

pub returns-in_ok-insn-in-BackrefExistsCondition-clause-insn : goal.returns-in_ok-insn-in-BackrefExistsCondition-clause-insn
returns-in_ok-insn-in-BackrefExistsCondition-clause-insn c =
    let v = c.in-BackrefExistsCondition in
    let s = c.in_ok-insn-in-BackrefExistsCondition in
    leaf_exists c.args.context.now.unicode s.insn (tree_of c.args.leaf.now) v.group
    (ap tree_of v.is ∙ tree_exists v.group v.relative_recursion_level ∙ ap (tree.backref_exists v.group) s.ensures.level)
    s.ensures.op

pub returns-in-ContinueFromPreviousMatchEnd-clause-insn : goal.returns-in-ContinueFromPreviousMatchEnd-clause-insn
returns-in-ContinueFromPreviousMatchEnd-clause-insn c =
    leaf_continue c.args.context.now.unicode insn.ContinueFromPreviousMatchEnd (tree_of c.args.leaf.now)
    (ap tree_of c.in-ContinueFromPreviousMatchEnd.is ∙ tree_continue) refl

pub returns-in_ok-insn-in-BacktrackingControlVerb-clause-insn : goal.returns-in_ok-insn-in-BacktrackingControlVerb-clause-insn
returns-in_ok-insn-in-BacktrackingControlVerb-clause-insn c =
    let v = c.in-BacktrackingControlVerb.verb in
    let made = c.in_ok-insn-in-BacktrackingControlVerb in
    leaf_verb c.args.context.now.unicode made.insn (tree_of c.args.leaf.now) v (ap tree_of c.in-BacktrackingControlVerb.is ∙ tree_verb v) made.ensures.op

pub returns-in_err-insn-in-BacktrackingControlVerb-clause-refused : goal.returns-in_err-insn-in-BacktrackingControlVerb-clause-refused
returns-in_err-insn-in-BacktrackingControlVerb-clause-refused c =
    let u = c.args.context.now.unicode in
    let count = length c.args.context.now.groups.now.items in
    let t = tree_of c.args.leaf.now in
    let v = c.in-BacktrackingControlVerb.verb in
    let r = c.from_residual-in_err-insn-in-BacktrackingControlVerb in
    let e = c.in_err-insn-in-BacktrackingControlVerb in
    passed_on r.result e.field-0.0 (IsNoSingle u count t) r.ensures.1
    (unfit_leaf u count t e.field-0.0
    (subst (λ x. IsUnfit x e.field-0.0) (sym (ap tree_of c.in-BacktrackingControlVerb.is ∙ tree_verb v)) e.ensures.refused))

pub returns-in_default-clause-refused : goal.returns-in_default-clause-refused
returns-in_default-clause-refused c =
    no_single c.args.leaf.now (record {
      any = c.in_default.not-Any;
      assertion = c.in_default.not-Assertion;
      newline = c.in_default.not-GeneralNewline;
      bytes = c.in_default.not-LiteralBytes;
      delegate = c.in_default.not-Delegate;
      backref = c.in_default.not-Backref;
      level = c.in_default.not-BackrefWithRelativeRecursionLevel;
      continue = c.in_default.not-ContinueFromPreviousMatchEnd;
      exists = c.in_default.not-BackrefExistsCondition;
      verb = c.in_default.not-BacktrackingControlVerb;
    })

pub returns-in_err-matcher-in-Delegate-clause-refused : goal.returns-in_err-matcher-in-Delegate-clause-refused
returns-in_err-matcher-in-Delegate-clause-refused c =
    let u = c.args.context.now.unicode in
    let count = length c.args.context.now.groups.now.items in
    let t = tree_of c.args.leaf.now in
    let inner = c.in-Delegate.inner in
    let casei = c.in-Delegate.casei in
    let e = c.in_err-matcher-in-Delegate in
    let refused : IsNoClass u (chars (string_bytes inner)) casei e.field-0.0 = rw c.deref.ensures at e.ensures.refused in
    passed_on c.from_residual.result e.field-0.0 (IsNoSingle u count t) c.from_residual.ensures.1
    (class_refused u count t (chars (string_bytes inner)) casei e.field-0.0 (ap tree_of c.in-Delegate.is ∙ tree_delegate inner casei) refused)
