-- The instruction of a node without children is all that it is.
use Rattle.std.proofs.Common.{◌≡◌, ℕ, ◌*◌, Bool, true, false, not, ◌&&◌, List, None, IsTrue, refl, sym, ap, subst, ◌∙◌, arith, chars, string_bytes}
use Rattle.std.specs.Prelude.{slice_index, ◌==◌}
use Rattle.std.specs.Char.{IsScalar}
use Rattle.std.specs.declared.sync.Arc.{Arc}
use Rattle.std.specs.declared.alloc.Global.{Global}
use Rattle.std.proofs.Math.Path.{fun_ext}
use Rattle.std.proofs.lemmas.Bool.Decides.{nat_tests}
use Rattle.std.proofs.lemmas.Slice.Eq.{bytes_eq-Decides}
use Rattle.regex_hir.specs.Text.{is_scalar}
use Rattle.fancy_regex_tree.specs.declared.expr.Assertion.{Assertion}
use Rattle.fancy_regex_tree.specs.declared.expr.BacktrackingControlVerb.{BacktrackingControlVerb}
use Rattle.fancy_regex_tree.specs.Tree as tree
use Rattle.fancy_regex_tree.specs.Tree.{Tree, Text}
use Rattle.fancy_regex_class.specs.Classes.{is_class, in_class, folded, class_text}
use Rattle.fancy_regex_class.specs.Matchers.{has, equals_ignoring_case, IsMatcherOf, RefusesText}
use Rattle.fancy_regex_class.specs.declared.class.CharClassMatcher.{CharClassMatcher}
use Rattle.fancy_regex_class.specs.declared.folding.CaseiLiteral.{CaseiLiteral}
use Rattle.fancy_regex_desugar.specs.CorePatterns.{CorePattern, any, literal, class, read, general_newline, check, continue, fail, backref, exists}
use Rattle.fancy_regex_desugar.specs.Unfolded.{Written}
use Rattle.fancy_regex_info.specs.declared.error.CompileError.{CompileError}
use Rattle.fancy_regex_info.specs.declared.error.CompileError.TheVariants.{InnerError, InvalidBackref, FeatureNotYetSupported, UnresolvedAstNode}
use Rattle.fancy_regex_program.specs.Ops as op
use Rattle.fancy_regex_program.specs.Ops.{Op, op_of, among_scalars}
use Rattle.fancy_regex_program.specs.Code.{Layout, slots_with, code_with}
use Rattle.fancy_regex_compiler.specs.Known.{front_of}
use Rattle.fancy_regex_compiler.specs.Refusals.{IsUnfit, IsNoClass, IsNoSingle, IsNoLeaf, is_single, is_leaf}
use Rattle.fancy_regex_compiler.specs.Refusals.{is_class as is_class_node}
use Rattle.fancy_regex_compiler.specs.Needs.{IsAllowedUnder}
use Rattle.fancy_regex_compiler.specs.Writing.{Draft, added, with_pat, IsInsn}
use Rattle.fancy_regex_compiler.specs.declared.emitter.Need.{Need}
use Rattle.fancy_regex_program.specs.declared.insn.Insn.{Insn}
use Rattle.fancy_regex_program.specs.declared.insn.Insn.TheVariants as insn
use Rattle.fancy_regex_compiler.proofs.Drafts.{alone}

module _ (u : Bool) where
  is_insn : (i : Insn) (t : Tree) (o : Op) (p : CorePattern) → op_of i ≡ o → ((call : ℕ → CorePattern) (n : ℕ) (us : List Written) → front_of call n t us ≡ p) →
      ((layout : Layout) (w : Bool) (slot : ℕ) (d : Draft) → with_pat layout u w p slot d ≡ added o d) → ((layout : Layout) → slots_with layout p ≡ 0) →
      ((layout : Layout) (all : List Need) (keeps : Bool) → IsAllowedUnder layout all u keeps p) → IsInsn u i t
  is_insn i t o p same is one none allowed = record {
    draft = λ layout w call n slot us d. ap (λ q. with_pat layout u w q slot d) (is call n us) ∙ one layout w slot d ∙ ap (λ x. added x d) (sym same);
    slots = λ layout call n us. ap (slots_with layout) (is call n us) ∙ none layout;
    allowed = λ layout all keeps call n us. subst (IsAllowedUnder layout all u keeps) (sym (is call n us)) (allowed layout all keeps);
  }

  pub leaf_any : (i : Insn) (t : Tree) (newline crlf : Bool) → t ≡ tree.any newline crlf → op_of i ≡ op.any newline (crlf && not newline) → IsInsn u i t
  unfolding front_of with_pat code_with
  leaf_any i t newline crlf is same =
      is_insn i t (op.any newline (crlf && not newline)) (read (any newline crlf)) same (λ call n us. ap (λ x. front_of call n x us) is)
      (λ layout w slot d. alone layout u w (op.any newline (crlf && not newline)) d) (λ layout. refl) (λ _ _ _. tt)

  pub leaf_assertion : (i : Insn) (t : Tree) (a : Assertion) → t ≡ tree.assertion a → op_of i ≡ op.assertion a → IsInsn u i t
  unfolding front_of with_pat code_with
  leaf_assertion i t a is same =
      is_insn i t (op.assertion a) (check a) same (λ call n us. ap (λ x. front_of call n x us) is)
      (λ layout w slot d. alone layout u w (op.assertion a) d) (λ layout. refl) (λ _ _ _. tt)

  pub leaf_newline : (i : Insn) (t : Tree) (unicode : Bool) → t ≡ tree.general_newline unicode → op_of i ≡ op.general_newline unicode → IsInsn u i t
  unfolding front_of with_pat code_with
  leaf_newline i t unicode is same =
      is_insn i t (op.general_newline unicode) (general_newline unicode) same (λ call n us. ap (λ x. front_of call n x us) is)
      (λ layout w slot d. alone layout u w (op.general_newline unicode) d) (λ layout. refl) (λ _ _ _. tt)

  pub leaf_continue : (i : Insn) (t : Tree) → t ≡ tree.continue → op_of i ≡ op.continue → IsInsn u i t
  unfolding front_of with_pat code_with
  leaf_continue i t is same =
      is_insn i t op.continue continue same (λ call n us. ap (λ x. front_of call n x us) is) (λ layout w slot d. alone layout u w op.continue d) (λ layout. refl) (λ _ _ _. tt)

  pub leaf_verb : (i : Insn) (t : Tree) (v : BacktrackingControlVerb) → t ≡ tree.verb v → op_of i ≡ op.fail → IsInsn u i t
  unfolding front_of with_pat code_with
  leaf_verb i t v is same =
      is_insn i t op.fail fail same (λ call n us. ap (λ x. front_of call n x us) is) (λ layout w slot d. alone layout u w op.fail d) (λ layout. refl) (λ _ _ _. tt)

  pub leaf_backref : (i : Insn) (t : Tree) (k : ℕ) (casei : Bool) → t ≡ tree.backref k casei → op_of i ≡ op.backref (2 * k) casei → IsInsn u i t
  unfolding front_of with_pat code_with
  leaf_backref i t k casei is same =
      is_insn i t (op.backref (2 * k) casei) (backref k casei) same (λ call n us. ap (λ x. front_of call n x us) is)
      (λ layout w slot d. alone layout u w (op.backref (2 * k) casei) d) (λ layout. refl) (λ _ _ _. tt)

  pub leaf_exists : (i : Insn) (t : Tree) (k : ℕ) → t ≡ tree.backref_exists k None → op_of i ≡ op.exists (2 * k) → IsInsn u i t
  unfolding front_of with_pat code_with
  leaf_exists i t k is same =
      is_insn i t (op.exists (2 * k)) (exists k) same (λ call n us. ap (λ x. front_of call n x us) is)
      (λ layout w slot d. alone layout u w (op.exists (2 * k)) d) (λ layout. refl) (λ _ _ _. tt)

  pub leaf_caseless : (l : CaseiLiteral) (t : Tree) (val : Text) (c : ℕ) → t ≡ tree.literal val true → c ≡ slice_index val 0 →
      ((d : ℕ) → equals_ignoring_case l d ≡ (folded u d == folded u c)) → IsInsn u (insn.LitCasei l) t
  unfolding front_of with_pat code_with
  leaf_caseless l t val c is first alike =
      let o = op.test (λ d. folded u d == folded u (slice_index val 0)) in
      is_insn (insn.LitCasei l) t o (read (literal (slice_index val 0) true))
      (ap op.test (fun_ext alike) ∙ ap (λ k. op.test (λ d. folded u d == folded u k)) first)
      (λ call n us. ap (λ x. front_of call n x us) is)
      (λ layout w slot d. alone layout u w o d) (λ layout. refl) (λ _ _ _. tt)

  scalar_of : (c : ℕ) → is_scalar c ≡ true → IsScalar c
  scalar_of c h = grind (arith, nat_tests)

  among_same : (p q : ℕ → Bool) → ((c : ℕ) → IsScalar c → p c ≡ q c) → among_scalars p ≡ among_scalars q
  among_same p q same = fun_ext (λ c. at c (is_scalar c) refl)
    where
      at : (c : ℕ) (b : Bool) → is_scalar c ≡ b → (b && p c) ≡ (b && q c)
      at c true e = same c (scalar_of c e)
      at c false e = refl

  pub leaf_class : (m : Arc CharClassMatcher Global) (t : Tree) (name : Text) (casei : Bool) → t ≡ tree.delegate name casei → IsMatcherOf m.value u name casei →
      IsTrue (is_class u name casei) → IsInsn u (insn.CharClass m) t
  unfolding front_of with_pat code_with
  leaf_class m t name casei is members readable =
      let o = op.test (among_scalars (in_class u name casei)) in
      is_insn (insn.CharClass m) t o (read (class name casei)) (ap op.test (among_same (has m.value) (in_class u name casei) members))
      (λ call n us. ap (λ x. front_of call n x us) is) (λ layout w slot d. alone layout u w o d) (λ layout. refl) (λ _ _ _. readable)

-- a node that is made nowhere, said of a node without children
pub unfit_leaf : (u : Bool) (count : ℕ) (t : Tree) (e : CompileError) → IsUnfit t e → IsNoSingle u count t e
unfit_leaf u count t (InnerError shown) h = absurd h
unfit_leaf u count t (InvalidBackref n) h = absurd h
unfit_leaf u count t UnresolvedAstNode h = absurd h
unfit_leaf u count t e h = h

-- a class that is refused
pub class_refused : (u : Bool) (count : ℕ) (t : Tree) (inner : Text) (casei : Bool) (e : CompileError) → t ≡ tree.delegate inner casei → IsNoClass u inner casei e →
    IsNoSingle u count t e
class_refused u count t inner casei (InnerError shown) is h = record {
  casei = casei;
  is_it = ap (λ x. is_class_node (chars (string_bytes shown)) casei x) is ∙ ap (λ x. is_class_node x casei (tree.delegate inner casei)) h.0 ∙ own_class inner casei;
  refused = subst (λ x. RefusesText (class_text u casei x)) (sym h.0) h.1;
}
  where
    own_class : (text : Text) (b : Bool) → is_class_node text b (tree.delegate text b) ≡ true
    own_class text true = ap (λ x. x && true) ((bytes_eq-Decides text text).1 refl)
    own_class text false = ap (λ x. x && true) ((bytes_eq-Decides text text).1 refl)
class_refused u count t inner casei (InvalidBackref n) is h = absurd h
class_refused u count t inner casei (FeatureNotYetSupported feature) is h = absurd h
class_refused u count t inner casei UnresolvedAstNode is h = absurd h
class_refused u count t inner casei e is h = h

-- what is said of a node wherever it stands
pub unkept_leaf : (u : Bool) (count : ℕ) (keeps : Bool) (t : Tree) (e : CompileError) → (is_single t ≡ false → is_leaf t ≡ false) →
    IsNoSingle u count t e → IsNoLeaf u count keeps t e
unkept_leaf u count keeps t (FeatureNotYetSupported feature) kind h = λ i _. h i (λ never. absurd (let wrong : true ≡ false = never in cc))
unkept_leaf u count keeps t UnresolvedAstNode kind h = kind h
unkept_leaf u count keeps t e kind h = h
