-- Where a part stands in a clear tree, so do the parts that are written out with it.
use Rattle.std.proofs.Common.{◌≡◌, ℕ, zero, suc, ◌+◌, ◌<◌, ◌≤◌, nat_lt, Bool, true, false, not, cond, ◌&&◌, ◌||◌, ◌==◌, List, [], ◌∷◌, ◌++◌, length, map, String, Some, None, is_some, option_map, Box, Vec, Global, Result, Ok, Err, IfErr, IsErrAnd, refl, sym, ap, ◌∙◌, subst, arith}
use Rattle.std.specs.Prelude.{slice_get, unwrap_or, chars, string_bytes}
use Rattle.std.specs.List.{Contains}
use Rattle.std.proofs.lemmas.Bool.Decides.{nat_tests}
use Rattle.std.proofs.lemmas.List.Elements.{Contains-append_left, Contains-append_right}
use Rattle.std.proofs.lemmas.Option.{slice_get-map, none-some}
use Rattle.std.proofs.lemmas.Result.{IfErr-weaker}
use Rattle.fancy_regex_tree.specs.declared.expr.Absent.{Absent}
use Rattle.fancy_regex_tree.specs.declared.expr.Absent.TheVariants as variants
use Rattle.fancy_regex_tree.specs.declared.expr.Absent.TheViews.{roll-Expr, roll-out-Expr, out-Expr, roll-Absent, roll-out-Absent, out-Absent, roll-AstNode, roll-out-AstNode, out-AstNode}
use Rattle.fancy_regex_tree.specs.declared.expr.Absent.TheOpen.{Expr-F, Absent-F, AstNode-F}
use Rattle.fancy_regex_tree.specs.declared.expr.Absent.TheFolds.{fold-roll-Expr, fold-roll-Absent, fold-roll-AstNode}
use Rattle.fancy_regex_tree.specs.declared.expr.AstNode.{AstNode}
use Rattle.fancy_regex_tree.specs.declared.expr.Expr.{Expr}
use Rattle.fancy_regex_tree.specs.declared.expr.Expr.TheVariants as view
use Rattle.fancy_regex_tree.specs.declared.expr.LookAround.{LookAround}
use Rattle.fancy_regex_tree.specs.declared.expr.LookAround.TheVariants.{LookAhead, LookAheadNeg, LookBehind, LookBehindNeg}
use Rattle.fancy_regex_tree.specs.Tree as tree
use Rattle.fancy_regex_tree.specs.Tree.{Tree, Trees, absent_tree, ast_tree, node_tree, tree_of, absent_tree_of, ast_tree_of, trees, no_trees, more_trees}
use Rattle.fancy_regex_meaning.specs.Groups.{group_count}
use Rattle.fancy_regex_meaning.specs.Sizes.{Size, size}
use Rattle.fancy_regex_info.specs.Infos.{InfoTree, InfoTrees, known, info_of, expected_info, expected_infos, properties_in}
use Rattle.fancy_regex_analysis.specs.NodeErrors.{is_invalid_node}
use Rattle.fancy_regex_analysis.specs.UnsupportedParts.{is_fixed_length, are_fixed_length, is_variable_look_behind, is_unsupported, unsupported_feature_in}
use Rattle.fancy_regex_analysis.specs.EmittedParts.{in_look_around, some_descendant, some_of_row, some_emitted, emitted_calls, emitted_calls_in_row, IsWhole, called}
use Rattle.fancy_regex_analysis.proofs.InsideLemmas.{no_keep_around, no_absent_around}
use Rattle.fancy_regex_analysis.proofs.EmittedPartLemmas.{part_found}
use Rattle.fancy_regex_info.specs.declared.error.CompileError.{CompileError}
use Rattle.fancy_regex_info.specs.declared.error.CompileError.TheVariants.{InnerError, InvalidBackref, FeatureNotYetSupported, UnresolvedAstNode, Memory}
use Rattle.fancy_regex_info.specs.declared.info.Info.{Info}
use Rattle.fancy_regex_info.specs.declared.info.Info.TheViews.{out-Info}
use Rattle.fancy_regex_compiler.specs.Known.{listed}
use Rattle.fancy_regex_compiler.specs.Known.{tree_in}
use Rattle.fancy_regex_compiler.specs.Refusals.{Inside, EmittedCall, is_class, IsMissing, KeepsNone, NoneAbsent, IsNoLeaf, IsReason, TreeContext, IsAnalyzed, ExpandedPart, IsExpandedPart, AreExpandedParts, IsExpandedBody, IsExpandedRepeat, IsExpandedAbsent, IsExpandedConditional, IsExpandedTarget, looks_behind, IsReasonWhere}
use Rattle.fancy_regex_compiler.proofs.KindLemmas.{NoParts, faulty}
use Rattle.fancy_regex_compiler.proofs.NodeLemmas.{info_known}
use Rattle.fancy_regex_compiler.proofs.GroupLemmas.{listed_infos}
use Rattle.fancy_regex_compiler.proofs.TreeLemmas.{tree_concat, tree_alt, tree_group, tree_look_around, tree_repeat, tree_atomic, tree_conditional, tree_absent, tree_repeater}

or_left : (a b : Bool) → a ≡ true → (a || b) ≡ true
or_left true b h = refl
or_left false b h = cc

or_right : (a b : Bool) → b ≡ true → (a || b) ≡ true
or_right true b h = refl
or_right false b h = h

and_first : (a b : Bool) → (a && b) ≡ true → a ≡ true
and_first true b h = refl
and_first false b h = cc

and_second : (a b : Bool) → (a && b) ≡ true → b ≡ true
and_second true b h = h
and_second false b h = cc

same_or_not : (b : Bool) → (b ≡ true → ⊥) → b ≡ false
same_or_not true h = absurd (h refl)
same_or_not false h = refl

turned : (b : Bool) → (not b ≡ true → ⊥) → b ≡ true
turned true fails = refl
turned false fails = absurd (fails refl)

wrong : (P : Type 0) → false ≡ true → P
wrong P h = absurd (let never : false ≡ true = h in cc)

unsteady_stops : (S : Tree → Size) (j : Inside) (t : Tree) → is_variable_look_behind S t ≡ true → is_unsupported S j t ≡ true
unsteady_stops S j t bad = or_right (is_some (unsupported_feature_in j t)) (is_variable_look_behind S t) bad

not_above : (hi lo : ℕ) → (nat_lt hi lo ≡ true → ⊥) → lo ≤ hi
not_above hi lo fails = (let is : nat_lt hi lo ≡ false = same_or_not (nat_lt hi lo) fails in grind (arith, nat_tests))

is_zero : (n : ℕ) → (n == 0) ≡ true → n ≡ 0
is_zero n h = grind (arith, nat_tests)

one_only : (call : EmittedCall) → Contains (call ∷ []) call
one_only call = (0, omega arith, refl)

-- an error that is handed on with what is known of it
pub passed_on : {T : Type 0} (r : Result T CompileError) (e : CompileError) (P : CompileError → Type 0) → IsErrAnd r (λ f. f ≡ e) → P e → IfErr r P
passed_on (Ok x) e P is h = absurd is
passed_on (Err y) e P is h = subst P (sym is) h

-- what is said of an error, where it follows from what is known elsewhere
pub reason_weaker : {T : Type 0} (r : Result T CompileError) (u : Bool) (gs : List InfoTree) (A B : TreeContext → Type 0) →
    ((tree_context : TreeContext) → IsAnalyzed tree_context gs → B tree_context → A tree_context) → IfErr r (IsReasonWhere u gs A) → IfErr r (IsReasonWhere u gs B)
reason_weaker r u gs A B f h = IfErr-weaker r (IsReasonWhere u gs A) (IsReasonWhere u gs B) (λ e told tree_context s b. told tree_context s (f tree_context s b)) h

-- a tree that is no alternation is steady where it is always as long
module _ (S : Tree → Size) where
  abbrev IsFixed : Tree → Type 0
  IsFixed t = is_fixed_length S t ≡ (S t).always

  absent_layer : (x : Absent-F Tree (ℕ → Tree) Tree) → IsFixed (absent_tree x)
  unfolding is_fixed_length are_fixed_length
  absent_layer (Absent-F.Repeater t) = refl
  absent_layer (Absent-F.Expression a t) = refl
  absent_layer (Absent-F.Stopper t) = refl
  absent_layer Absent-F.Clear = refl

  ast_layer : (x : AstNode-F Tree (ℕ → Tree) Tree) (position : ℕ) → IsFixed (ast_tree x position)
  unfolding is_fixed_length are_fixed_length
  ast_layer (AstNode-F.AstGroup name t) position = refl
  ast_layer (AstNode-F.AstNode::Backref goal casei level) position = refl
  ast_layer (AstNode-F.AstNode::SubroutineCall goal) position = refl
  ast_layer (AstNode-F.AstNode::BackrefExistsCondition goal level) position = refl

  absent_rolled : (x : Absent-F Absent AstNode Expr) → IsFixed (absent_tree_of (roll-Absent x))
  absent_rolled x = subst IsFixed (sym (fold-roll-Absent Tree (ℕ → Tree) Tree absent_tree ast_tree node_tree x)) (absent_layer _)

  ast_rolled : (x : AstNode-F Absent AstNode Expr) (position : ℕ) → IsFixed (ast_tree_of (roll-AstNode x) position)
  ast_rolled x position =
      subst (λ t. IsFixed (t position)) (sym (fold-roll-AstNode Tree (ℕ → Tree) Tree absent_tree ast_tree node_tree x)) (ast_layer _ position)

  absent_fixed : (a : Absent) → IsFixed (absent_tree_of a)
  absent_fixed a = subst (λ b. IsFixed (absent_tree_of b)) (roll-out-Absent a) (absent_rolled (out-Absent a))

  ast_fixed : (a : AstNode) (position : ℕ) → IsFixed (ast_tree_of a position)
  ast_fixed a position = subst (λ b. IsFixed (ast_tree_of b position)) (roll-out-AstNode a) (ast_rolled (out-AstNode a) position)

  abbrev pub IsNoAlt : Expr → Type 0
  IsNoAlt e = (ts : Vec Expr Global) → e ≡ view.Alt ts → ⊥

  rolled_fixed : (x : Expr-F Absent AstNode Expr) → IsNoAlt (roll-Expr x) → IsFixed (tree_of (roll-Expr x))
  unfolding is_fixed_length are_fixed_length
  rolled_fixed (Expr-F.Alt ts) h = absurd (h ts (view.rolls-Alt ts))
  rolled_fixed (Expr-F.Absent a) h =
      subst IsFixed (sym (fold-roll-Expr Tree (ℕ → Tree) Tree absent_tree ast_tree node_tree (Expr-F.Absent a))) (absent_fixed a)
  rolled_fixed (Expr-F.AstNode a position) h =
      subst IsFixed (sym (fold-roll-Expr Tree (ℕ → Tree) Tree absent_tree ast_tree node_tree (Expr-F.AstNode a position))) (ast_fixed a position)
  rolled_fixed x h =
      let same = fold-roll-Expr Tree (ℕ → Tree) Tree absent_tree ast_tree node_tree x in
      ap (is_fixed_length S) same ∙ sym (ap (λ t. (S t).always) same)

  no_alt_fixed : (e : Expr) → IsNoAlt e → IsFixed (tree_of e)
  no_alt_fixed e h =
      let back = roll-out-Expr e in
      subst (λ b. IsFixed (tree_of b)) back (rolled_fixed (out-Expr e) (subst IsNoAlt (sym back) h))

-- an absent operator that is no repeater is missing wherever it stands
module _ (j : Inside) where
  abbrev IsGone : Absent → Type 0
  IsGone a = is_some (unsupported_feature_in j (absent_tree_of a)) ≡ true

  gone_rolled : (x : Absent-F Absent AstNode Expr) → ((t : Box Expr Global) → roll-Absent x ≡ variants.Repeater t → ⊥) → IsGone (roll-Absent x)
  gone_rolled (Absent-F.Repeater t) other = absurd (other t (variants.rolls-Repeater t))
  gone_rolled x other =
      subst (λ t. is_some (unsupported_feature_in j t) ≡ true) (sym (fold-roll-Absent Tree (ℕ → Tree) Tree absent_tree ast_tree node_tree x)) refl

  absent_missing : (a : Absent) → ((t : Box Expr Global) → a ≡ variants.Repeater t → ⊥) → IsGone a
  absent_missing a other =
      subst IsGone (roll-out-Absent a) (gone_rolled (out-Absent a) (subst (λ b. (t : Box Expr Global) → b ≡ variants.Repeater t → ⊥) (sym (roll-out-Absent a)) other))

-- what is said of an error for want of a feature
pub for_want : (P : CompileError → Type 0) (e : CompileError) → IsMissing e → ((feature : String Global) → P (FeatureNotYetSupported feature)) → P Memory → P e
for_want P (FeatureNotYetSupported feature) h f m = f feature
for_want P Memory h f m = m
for_want P _ h f m = absurd h

abbrev row_in : InfoTree → InfoTrees
row_in (known f t xs) = xs

kid_at : (i x : Info) (k : ℕ) → slice_get (out-Info i).children.items k ≡ Some x → slice_get (listed (row_in (info_of i))) k ≡ Some (info_of x)
kid_at i x k at =
    let xs = (out-Info i).children.items in
    ap (λ y. slice_get (listed (row_in y)) k) (info_known i) ∙ ap (λ ys. slice_get ys k) (listed_infos (map info_of xs))
    ∙ slice_get-map info_of xs k ∙ ap (option_map info_of) at

none_at : (i : Info) (k : ℕ) → slice_get (out-Info i).children.items k ≡ None → slice_get (listed (row_in (info_of i))) k ≡ None
none_at i k none =
    let xs = (out-Info i).children.items in
    ap (λ y. slice_get (listed (row_in y)) k) (info_known i) ∙ ap (λ ys. slice_get ys k) (listed_infos (map info_of xs))
    ∙ slice_get-map info_of xs k ∙ ap (option_map info_of) none

module _ (tree_context : TreeContext) (keeps absents : Bool) where
  abbrev D : ℕ → Tree → InfoTree
  D = expected_info tree_context.groups tree_context.reads

  own_tree : (n : ℕ) (t : Tree) → tree_in (D n t) ≡ t
  unfolding expected_info
  own_tree n (tree.concat ts) = refl
  own_tree n _ = refl

  sit : (b : Bool) (i : Info) (t : Tree) → tree_of (out-Info i).expr.now ≡ t → IsExpandedPart tree_context keeps absents b (info_of i) → ExpandedPart tree_context keeps absents b (info_of i) t
  sit b i t is h = subst (ExpandedPart tree_context keeps absents b (info_of i)) (ap tree_in (info_known i) ∙ is) h

  stand : (k a b : Bool) (x : InfoTree) (n : ℕ) (t : Tree) → x ≡ D n t → ExpandedPart tree_context k a b x t → IsExpandedPart tree_context k a b x
  stand k a b x n t is h = subst (ExpandedPart tree_context k a b x) (sym (ap tree_in is ∙ own_tree n t)) h

  -- what holds of a node that stands in a clear tree
  made : (gs : List InfoTree) (b : Bool) (x : InfoTree) (t : Tree) → IsAnalyzed tree_context gs → (h : ExpandedPart tree_context keeps absents b x t) → is_unsupported (size tree_context.groups) h.inside t ≡ true → ⊥
  made gs b x t s h bad =
      let test = is_unsupported (size tree_context.groups) in
      s.parts (h.parts test (or_left (test h.inside t) (some_descendant test h.inside t) bad))

  sound : (gs : List InfoTree) (b : Bool) (x : InfoTree) (t : Tree) → IsAnalyzed tree_context gs → ExpandedPart tree_context keeps absents b x t → is_invalid_node (length tree_context.groups) t ≡ true → ⊥
  sound gs b x t s h bad =
      let test = λ (_ : Inside). is_invalid_node (length tree_context.groups) in
      s.nodes (h.parts test (or_left (test h.inside t) (some_descendant test h.inside t) bad))

  pub in_front : (b : Bool) (x : InfoTree) → IsExpandedPart tree_context keeps absents b x → IsExpandedPart tree_context keeps absents false x
  in_front b x h = record { inside = h.inside; enclosed = h.enclosed; excluded = h.excluded; first = h.first; is = h.is; parts = h.parts; calls = h.calls; steady = wrong _ }

  -- a child at that place, by how it is written out with its node
  below : (k2 a2 b b2 : Bool) (i x : Info) (k : ℕ) (t u : Tree) (o : Inside → Inside) (m : ℕ → ℕ) → ((j : Inside) → (keeps ≡ false → KeepsNone j) → k2 ≡ false → KeepsNone (o j)) →
      ((j : Inside) → (absents ≡ false → NoneAbsent j) → a2 ≡ false → NoneAbsent (o j)) → slice_get (out-Info i).children.items k ≡ Some x →
      ((n : ℕ) → slice_get (listed (row_in (D n t))) k ≡ Some (D (m n) u)) →
      ((test : Inside → Tree → Bool) (j : Inside) → some_emitted test (o j) u ≡ true → some_emitted test j t ≡ true) →
      ((j : Inside) (call : EmittedCall) → Contains (emitted_calls (o j) u) call → Contains (emitted_calls j t) call) →
      (h : ExpandedPart tree_context keeps absents b (info_of i) t) → (b2 ≡ true → is_fixed_length (size tree_context.groups) u ≡ true) → IsExpandedPart tree_context k2 a2 b2 (info_of x)
  below k2 a2 b b2 i x k t u o m keep absent at kid part calling h steady =
      let found = sym (kid_at i x k at) ∙ ap (λ y. slice_get (listed (row_in y)) k) h.is ∙ kid h.first in
      let is : info_of x ≡ D (m h.first) u = ap (λ y. unwrap_or y (info_of x)) found in
      stand k2 a2 b2 (info_of x) (m h.first) u is (record {
        inside = o h.inside;
        enclosed = keep h.inside h.enclosed;
        excluded = absent h.inside h.excluded;
        first = m h.first;
        is = is;
        parts = λ test some. h.parts test (part test h.inside some);
        calls = λ call body has there. h.calls call body (calling h.inside call has) there;
        steady = steady;
      })

  -- a child that is there
  lacks : (i : Info) (k : ℕ) (t u : Tree) (m : ℕ → ℕ) → ((n : ℕ) → slice_get (listed (row_in (D n t))) k ≡ Some (D (m n) u)) →
      tree_of (out-Info i).expr.now ≡ t → IsExpandedPart tree_context keeps absents false (info_of i) → slice_get (out-Info i).children.items k ≡ None → ⊥
  lacks i k t u m kid is h none =
      let seat = sit false i t is h in
      none-some _ (sym (none_at i k none) ∙ ap (λ y. slice_get (listed (row_in y)) k) seat.is ∙ kid seat.first)

  pub lacks_group : (i : Info) (t : Box Expr Global) → (out-Info i).expr.now ≡ view.Group t → IsExpandedPart tree_context keeps absents false (info_of i) →
      slice_get (out-Info i).children.items 0 ≡ None → ⊥
  unfolding expected_info
  lacks_group i t is h none = lacks i 0 (tree.group (tree_of t.value)) (tree_of t.value) (λ n. n + 1) (λ n. refl) (ap tree_of is ∙ tree_group t) h none

  pub lacks_atomic : (i : Info) (t : Box Expr Global) → (out-Info i).expr.now ≡ view.AtomicGroup t → IsExpandedPart tree_context keeps absents false (info_of i) →
      slice_get (out-Info i).children.items 0 ≡ None → ⊥
  unfolding expected_info
  lacks_atomic i t is h none = lacks i 0 (tree.atomic_group (tree_of t.value)) (tree_of t.value) (λ n. n) (λ n. refl) (ap tree_of is ∙ tree_atomic t) h none

  pub lacks_look : (i : Info) (t : Box Expr Global) (how : LookAround) → (out-Info i).expr.now ≡ view.LookAround t how → IsExpandedPart tree_context keeps absents false (info_of i) →
      slice_get (out-Info i).children.items 0 ≡ None → ⊥
  unfolding expected_info
  lacks_look i t how is h none = lacks i 0 (tree.look_around (tree_of t.value) how) (tree_of t.value) (λ n. n) (λ n. refl) (ap tree_of is ∙ tree_look_around t how) h none

  pub lacks_repeat : (i : Info) (t : Box Expr Global) (lo hi : ℕ) (greedy : Bool) → (out-Info i).expr.now ≡ view.Repeat t lo hi greedy →
      IsExpandedPart tree_context keeps absents false (info_of i) → slice_get (out-Info i).children.items 0 ≡ None → ⊥
  unfolding expected_info
  lacks_repeat i t lo hi greedy is h none =
      lacks i 0 (tree.repeat (tree_of t.value) lo hi greedy) (tree_of t.value) (λ n. n) (λ n. refl) (ap tree_of is ∙ tree_repeat t lo hi greedy) h none

  pub lacks_absent : (i : Info) (a : Absent) (t : Box Expr Global) → (out-Info i).expr.now ≡ view.Absent a → a ≡ variants.Repeater t →
      IsExpandedPart tree_context keeps absents false (info_of i) → slice_get (out-Info i).children.items 0 ≡ None → ⊥
  unfolding expected_info
  lacks_absent i a t is repeats h none =
      lacks i 0 (tree.absent_repeater (tree_of t.value)) (tree_of t.value) (λ n. n) (λ n. refl)
      (ap tree_of (is ∙ ap view.Absent repeats) ∙ tree_absent (variants.Repeater t) ∙ tree_repeater t) h none

  pub lacks_condition : (i : Info) (c a b : Box Expr Global) → (out-Info i).expr.now ≡ view.Conditional c a b → IsExpandedPart tree_context keeps absents false (info_of i) →
      slice_get (out-Info i).children.items 0 ≡ None → ⊥
  unfolding expected_info
  lacks_condition i c a b is h none =
      let p = tree_of c.value in
      let q = tree_of a.value in
      let r = tree_of b.value in
      lacks i 0 (tree.conditional p q r) p (λ n. n) (λ n. refl) (ap tree_of is ∙ tree_conditional c a b) h none

  pub lacks_yes : (i : Info) (c a b : Box Expr Global) → (out-Info i).expr.now ≡ view.Conditional c a b → IsExpandedPart tree_context keeps absents false (info_of i) →
      slice_get (out-Info i).children.items 1 ≡ None → ⊥
  unfolding expected_info
  lacks_yes i c a b is h none =
      let p = tree_of c.value in
      let q = tree_of a.value in
      let r = tree_of b.value in
      lacks i 1 (tree.conditional p q r) q (λ n. n + group_count p) (λ n. refl) (ap tree_of is ∙ tree_conditional c a b) h none

  pub lacks_no : (i : Info) (c a b : Box Expr Global) → (out-Info i).expr.now ≡ view.Conditional c a b → IsExpandedPart tree_context keeps absents false (info_of i) →
      slice_get (out-Info i).children.items 2 ≡ None → ⊥
  unfolding expected_info
  lacks_no i c a b is h none =
      let p = tree_of c.value in
      let q = tree_of a.value in
      let r = tree_of b.value in
      lacks i 2 (tree.conditional p q r) r (λ n. n + group_count p + group_count q) (λ n. refl) (ap tree_of is ∙ tree_conditional c a b) h none

  pub kid_group : (i x : Info) (t : Box Expr Global) → (out-Info i).expr.now ≡ view.Group t → slice_get (out-Info i).children.items 0 ≡ Some x →
      IsExpandedPart tree_context keeps absents false (info_of i) → IsExpandedPart tree_context keeps absents false (info_of x)
  unfolding expected_info some_descendant emitted_calls
  kid_group i x t is at h =
      let u = tree_of t.value in
      below keeps absents false false i x 0 (tree.group u) u (λ j. j) (λ n. n + 1) (λ j h. h) (λ j h. h) at (λ n. refl)
      (λ test j some. or_right (test j (tree.group u)) (some_emitted test j u) some) (λ j call has. has)
      (sit false i (tree.group u) (ap tree_of is ∙ tree_group t) h) (wrong _)

  pub kid_atomic : (i x : Info) (t : Box Expr Global) → (out-Info i).expr.now ≡ view.AtomicGroup t → slice_get (out-Info i).children.items 0 ≡ Some x →
      IsExpandedPart tree_context keeps absents false (info_of i) → IsExpandedPart tree_context keeps absents false (info_of x)
  unfolding expected_info some_descendant emitted_calls
  kid_atomic i x t is at h =
      let u = tree_of t.value in
      below keeps absents false false i x 0 (tree.atomic_group u) u (λ j. j) (λ n. n) (λ j h. h) (λ j h. h) at (λ n. refl)
      (λ test j some. or_right (test j (tree.atomic_group u)) (some_emitted test j u) some) (λ j call has. has)
      (sit false i (tree.atomic_group u) (ap tree_of is ∙ tree_atomic t) h) (wrong _)

  -- the tree of the first child
  first_tree : (i x : Info) (t u : Tree) → ((n : ℕ) → slice_get (listed (row_in (D n t))) 0 ≡ Some (D n u)) → tree_of (out-Info i).expr.now ≡ t →
      slice_get (out-Info i).children.items 0 ≡ Some x → IsExpandedPart tree_context keeps absents false (info_of i) → tree_in (info_of x) ≡ u
  first_tree i x t u kid is at h =
      let seat = sit false i t is h in
      let found : Some (info_of x) ≡ Some (D seat.first u) = sym (kid_at i x 0 at) ∙ ap (λ y. slice_get (listed (row_in y)) 0) seat.is ∙ kid seat.first in
      ap (λ y. tree_in (unwrap_or y (info_of x))) found ∙ own_tree seat.first u

  pub body_atomic : (i x : Info) (t : Box Expr Global) → (out-Info i).expr.now ≡ view.AtomicGroup t → slice_get (out-Info i).children.items 0 ≡ Some x →
      IsExpandedPart tree_context keeps absents false (info_of i) → IsExpandedBody tree_context keeps absents false (tree_of t.value) (info_of x)
  unfolding expected_info
  body_atomic i x t is at h = record {
    part = kid_atomic i x t is at h;
    is = first_tree i x (tree.atomic_group (tree_of t.value)) (tree_of t.value) (λ n. refl) (ap tree_of is ∙ tree_atomic t) at h;
  }

  pub kid_absent : (gs : List InfoTree) (i x : Info) (a : Absent) (t : Box Expr Global) → (out-Info i).expr.now ≡ view.Absent a → a ≡ variants.Repeater t →
      slice_get (out-Info i).children.items 0 ≡ Some x → IsAnalyzed tree_context gs → IsExpandedPart tree_context keeps absents false (info_of i) → IsExpandedAbsent tree_context absents (info_of x)
  unfolding expected_info some_descendant emitted_calls
  kid_absent gs i x a t is repeats at s h =
      let u = tree_of t.value in
      let root = tree.absent_repeater u in
      let seat = sit false i root (ap tree_of (is ∙ ap view.Absent repeats) ∙ tree_absent (variants.Repeater t) ∙ tree_repeater t) h in
      let S = size tree_context.groups in
      record {
        fits = λ none. made gs false (info_of i) root s seat
            (or_left (is_some (unsupported_feature_in seat.inside root)) (is_variable_look_behind S root) (seat.excluded none u));
        child = below false false false false i x 0 root u (λ j. _) (λ n. n) (λ j _ _. refl) (λ j _ _ _. refl) at (λ n. refl)
            (λ test j some. or_right (test j root) (some_emitted test _ u) some) (λ j call has. has) seat (wrong _);
      }

  steady_of : (how : LookAround) (u : Tree) → (is_variable_look_behind (size tree_context.groups) (tree.look_around u how) ≡ true → ⊥) →
      looks_behind how ≡ true → is_fixed_length (size tree_context.groups) u ≡ true
  steady_of LookAhead u ok steps_back = wrong _ steps_back
  steady_of LookAheadNeg u ok steps_back = wrong _ steps_back
  steady_of LookBehind u ok steps_back = turned (is_fixed_length (size tree_context.groups) u) ok
  steady_of LookBehindNeg u ok steps_back = turned (is_fixed_length (size tree_context.groups) u) ok

  pub kid_look : (gs : List InfoTree) (i x : Info) (t : Box Expr Global) (how : LookAround) → (out-Info i).expr.now ≡ view.LookAround t how →
      slice_get (out-Info i).children.items 0 ≡ Some x → IsAnalyzed tree_context gs → IsExpandedPart tree_context keeps absents false (info_of i) → IsExpandedPart tree_context false absents (looks_behind how) (info_of x)
  unfolding expected_info some_descendant emitted_calls
  kid_look gs i x t how is at s h =
      let u = tree_of t.value in
      let root = tree.look_around u how in
      let seat = sit false i root (ap tree_of is ∙ tree_look_around t how) h in
      let S = size tree_context.groups in
      below false absents false (looks_behind how) i x 0 root u in_look_around (λ n. n) (λ j _ _. no_keep_around j) (λ j h e t. no_absent_around j t (h e t)) at (λ n. refl)
      (λ test j some. or_right (test j root) (some_emitted test (in_look_around j) u) some) (λ j call has. has) seat
      (steady_of how u (λ bad. made gs false (info_of i) root s seat (unsteady_stops S seat.inside root bad)))

  pub body_look : (gs : List InfoTree) (i x : Info) (t : Box Expr Global) (how : LookAround) → (out-Info i).expr.now ≡ view.LookAround t how →
      slice_get (out-Info i).children.items 0 ≡ Some x → IsAnalyzed tree_context gs → IsExpandedPart tree_context keeps absents false (info_of i) →
      IsExpandedBody tree_context false absents (looks_behind how) (tree_of t.value) (info_of x)
  unfolding expected_info
  body_look gs i x t how is at s h = record {
    part = kid_look gs i x t how is at s h;
    is = first_tree i x (tree.look_around (tree_of t.value) how) (tree_of t.value) (λ n. refl) (ap tree_of is ∙ tree_look_around t how) at h;
  }

  pub kid_repeat : (gs : List InfoTree) (i x : Info) (t : Box Expr Global) (lo hi : ℕ) (greedy : Bool) → (out-Info i).expr.now ≡ view.Repeat t lo hi greedy →
      slice_get (out-Info i).children.items 0 ≡ Some x → IsAnalyzed tree_context gs → IsExpandedPart tree_context keeps absents false (info_of i) → IsExpandedRepeat tree_context keeps absents lo hi (info_of x)
  unfolding expected_info some_descendant emitted_calls
  kid_repeat gs i x t lo hi greedy is at s h =
      let u = tree_of t.value in
      let root = tree.repeat u lo hi greedy in
      let seat = sit false i root (ap tree_of is ∙ tree_repeat t lo hi greedy) h in
      record {
        counts = not_above hi lo (λ bad. sound gs false (info_of i) root s seat bad);
        child = λ some.
            let runs : (hi == 0) ≡ false = same_or_not (hi == 0) (λ z. some (is_zero hi z)) in
            below keeps absents false false i x 0 root u (λ j. j) (λ n. n) (λ j h. h) (λ j h. h) at (λ n. refl)
            (λ test j h2. or_right (test j root) _ (ap (λ b. cond b false (some_emitted test j u)) runs ∙ h2))
            (λ j call has. subst (λ b. Contains (cond b [] (emitted_calls j u)) call) (sym runs) has) seat (wrong _);
      }

  pub kids_conditional : (i x y z : Info) (c a b : Box Expr Global) → (out-Info i).expr.now ≡ view.Conditional c a b → slice_get (out-Info i).children.items 0 ≡ Some x →
      slice_get (out-Info i).children.items 1 ≡ Some y → slice_get (out-Info i).children.items 2 ≡ Some z → IsExpandedPart tree_context keeps absents false (info_of i) →
      IsExpandedConditional tree_context keeps absents (tree_of c.value) (info_of x) (info_of y) (info_of z)
  unfolding expected_info some_descendant emitted_calls
  kids_conditional i x y z c a b is one two three h =
      let p = tree_of c.value in
      let q = tree_of a.value in
      let r = tree_of b.value in
      let root = tree.conditional p q r in
      let seat = sit false i root (ap tree_of is ∙ tree_conditional c a b) h in
      record {
        condition = record {
          part = below keeps absents false false i x 0 root p (λ j. j) (λ n. n) (λ j h. h) (λ j h. h) one (λ n. refl)
              (λ test j some. or_right (test j root) _ (or_left (some_emitted test j p) (some_emitted test j q || some_emitted test j r) some))
              (λ j call has. Contains-append_left (emitted_calls j p) (emitted_calls j q ++ emitted_calls j r) call has) seat (wrong _);
          is = first_tree i x root p (λ n. refl) (ap tree_of is ∙ tree_conditional c a b) one h;
        };
        yes = below keeps absents false false i y 1 root q (λ j. j) (λ n. n + group_count p) (λ j h. h) (λ j h. h) two (λ n. refl)
            (λ test j some. or_right (test j root) _ (or_right (some_emitted test j p) (some_emitted test j q || some_emitted test j r)
            (or_left (some_emitted test j q) (some_emitted test j r) some)))
            (λ j call has. Contains-append_right (emitted_calls j p) (emitted_calls j q ++ emitted_calls j r) call
            (Contains-append_left (emitted_calls j q) (emitted_calls j r) call has)) seat (wrong _);
        no = below keeps absents false false i z 2 root r (λ j. j) (λ n. n + group_count p + group_count q) (λ j h. h) (λ j h. h) three (λ n. refl)
            (λ test j some. or_right (test j root) _ (or_right (some_emitted test j p) (some_emitted test j q || some_emitted test j r)
            (or_right (some_emitted test j q) (some_emitted test j r) some)))
            (λ j call has. Contains-append_right (emitted_calls j p) (emitted_calls j q ++ emitted_calls j r) call
            (Contains-append_right (emitted_calls j q) (emitted_calls j r) call has)) seat (wrong _);
      }

  -- the tree at a place of a row, and what passes from it to the row
  record RowKid (ts : Trees) (x : InfoTree) : Type 0 where
    u : Tree
    first : ℕ
    is : x ≡ D first u
    part : (test : Inside → Tree → Bool) (j : Inside) → some_emitted test j u ≡ true → some_of_row test j ts ≡ true
    calling : (j : Inside) (call : EmittedCall) → Contains (emitted_calls j u) call → Contains (emitted_calls_in_row j ts) call
    steady : are_fixed_length (size tree_context.groups) ts ≡ true → is_fixed_length (size tree_context.groups) u ≡ true

  row_kid : (n : ℕ) (ts : Trees) (k : ℕ) (x : InfoTree) → slice_get (listed (expected_infos tree_context.groups tree_context.reads n ts)) k ≡ Some x → RowKid ts x
  unfolding expected_info expected_infos some_descendant some_of_row emitted_calls emitted_calls_in_row is_fixed_length are_fixed_length
  row_kid n no_trees k x at = absurd (none-some _ at)
  row_kid n (more_trees t ts) zero x at = record {
    u = t;
    first = n;
    is = sym (ap (λ o. unwrap_or o (D n t)) at);
    part = λ test j some. or_left (some_emitted test j t) (some_of_row test j ts) some;
    calling = λ j call has. Contains-append_left (emitted_calls j t) (emitted_calls_in_row j ts) call has;
    steady = λ all. and_first (is_fixed_length (size tree_context.groups) t) (are_fixed_length (size tree_context.groups) ts) all;
  }
  row_kid n (more_trees t ts) (suc k) x at =
      let rest = row_kid (n + group_count t) ts k x at in
      record {
        u = rest.u;
        first = rest.first;
        is = rest.is;
        part = λ test j some. or_right (some_emitted test j t) (some_of_row test j ts) (rest.part test j some);
        calling = λ j call has. Contains-append_right (emitted_calls j t) (emitted_calls_in_row j ts) call (rest.calling j call has);
        steady = λ all. rest.steady (and_second (is_fixed_length (size tree_context.groups) t) (are_fixed_length (size tree_context.groups) ts) all);
      }

  -- each child of a row, by how it is written out with its node
  in_row : (b b2 : Bool) (i : Info) (t : Tree) (ts : Trees) → ((n : ℕ) → row_in (D n t) ≡ expected_infos tree_context.groups tree_context.reads n ts) →
      ((test : Inside → Tree → Bool) (j : Inside) → some_of_row test j ts ≡ true → some_descendant test j t ≡ true) →
      ((j : Inside) (call : EmittedCall) → Contains (emitted_calls_in_row j ts) call → Contains (emitted_calls j t) call) →
      ExpandedPart tree_context keeps absents b (info_of i) t → (b2 ≡ true → are_fixed_length (size tree_context.groups) ts ≡ true) → AreExpandedParts tree_context keeps absents b2 (out-Info i).children.items
  in_row b b2 i t ts row part calling h steady k x at =
      let kid = row_kid h.first ts k (info_of x)
      (sym (ap (λ y. slice_get (listed y) k) (ap row_in h.is ∙ row h.first)) ∙ kid_at i x k at) in
      stand keeps absents b2 (info_of x) kid.first kid.u kid.is (record {
        inside = h.inside;
        enclosed = h.enclosed;
        excluded = h.excluded;
        first = kid.first;
        is = kid.is;
        parts = λ test some. h.parts test (or_right (test h.inside t) (some_descendant test h.inside t) (part test h.inside (kid.part test h.inside some)));
        calls = λ call body has there. h.calls call body (calling h.inside call (kid.calling h.inside call has)) there;
        steady = λ steps_back. kid.steady (steady steps_back);
      })

  pub kids_concat : (i : Info) (ts : Vec Expr Global) → (out-Info i).expr.now ≡ view.Concat ts → IsExpandedPart tree_context keeps absents false (info_of i) → AreExpandedParts tree_context keeps absents false (out-Info i).children.items
  unfolding expected_info some_descendant emitted_calls
  kids_concat i ts is h =
      let us = trees (map tree_of ts.items) in
      in_row false false i (tree.concat us) us (λ n. refl) (λ test j some. some) (λ j call has. has)
      (sit false i (tree.concat us) (ap tree_of is ∙ tree_concat ts) h) (wrong _)

  pub kids_alt : (i : Info) (ts : Vec Expr Global) → (out-Info i).expr.now ≡ view.Alt ts → IsExpandedPart tree_context keeps absents false (info_of i) → AreExpandedParts tree_context keeps absents false (out-Info i).children.items
  unfolding expected_info some_descendant emitted_calls
  kids_alt i ts is h =
      let us = trees (map tree_of ts.items) in
      in_row false false i (tree.alt us) us (λ n. refl) (λ test j some. some) (λ j call has. has)
      (sit false i (tree.alt us) (ap tree_of is ∙ tree_alt ts) h) (wrong _)

  own_size : (n : ℕ) (t : Tree) → (properties_in (D n t)).size ≡ size tree_context.groups t
  unfolding expected_info
  own_size n (tree.concat ts) = refl
  own_size n _ = refl

  always_is : (i : Info) (b : Bool) (t : Tree) → ExpandedPart tree_context keeps absents b (info_of i) t → (size tree_context.groups t).always ≡ (out-Info i).const_size
  always_is i b t h = ap (λ z. z.always) (sym (own_size h.first t)) ∙ ap (λ y. (properties_in y).size.always) (sym h.is) ∙ ap (λ y. (properties_in y).size.always) (info_known i)

  pub kids_behind : (i : Info) (ts : Vec Expr Global) → (out-Info i).const_size ≡ false → (out-Info i).expr.now ≡ view.Alt ts → IsExpandedPart tree_context keeps absents true (info_of i) →
      AreExpandedParts tree_context keeps absents true (out-Info i).children.items
  unfolding expected_info some_descendant emitted_calls is_fixed_length are_fixed_length
  kids_behind i ts differs is h =
      let us = trees (map tree_of ts.items) in
      let seat = sit true i (tree.alt us) (ap tree_of is ∙ tree_alt ts) h in
      let all = ap (λ b. b || are_fixed_length (size tree_context.groups) us) (sym (always_is i true (tree.alt us) seat ∙ differs)) ∙ seat.steady refl in
      in_row true true i (tree.alt us) us (λ n. refl) (λ test j some. some) (λ j call has. has) seat (λ _. all)

  -- after a place, what is not always as long is an alternation
  pub has_branches : (i : Info) → (out-Info i).const_size ≡ false → IsNoAlt (size tree_context.groups) (out-Info i).expr.now → IsExpandedPart tree_context keeps absents true (info_of i) → ⊥
  has_branches i differs other h =
      let t = tree_of (out-Info i).expr.now in
      let seat = sit true i t refl h in
      wrong ⊥ (sym differs ∙ sym (always_is i true t seat) ∙ sym (no_alt_fixed (size tree_context.groups) (out-Info i).expr.now other) ∙ seat.steady refl)

  pub target_stands : (gs : List InfoTree) (i : Info) (k : ℕ) → tree_of (out-Info i).expr.now ≡ tree.subroutine_call k → IsAnalyzed tree_context gs → IsExpandedPart tree_context keeps absents false (info_of i) →
      IsExpandedTarget tree_context keeps absents gs k
  unfolding emitted_calls
  target_stands gs i k is s h =
      let root = tree.subroutine_call k in
      let seat = sit false i root is h in
      let known = turned (nat_lt k (length tree_context.groups)) (λ bad. sound gs false (info_of i) root s seat bad) in
      record {
        is_there = (let there : k < length tree_context.groups = grind (arith, nat_tests) in omega (arith, there, s.count));
        body = λ x at.
            let b = s.bodies k x at in
            let whole = seat.calls _ b.body (one_only _) b.found in
            stand keeps absents false x b.first b.body b.is (record {
              inside = seat.inside;
              enclosed = seat.enclosed;
              excluded = seat.excluded;
              first = b.first;
              is = b.is;
              parts = λ test some. part_found tree_context.groups tree_context.root test _ b.body whole some;
              calls = λ call body has found. called _ b.body body call whole has found;
              steady = wrong _;
            });
      }

  -- a node without children
  pub leaf_reason : (u : Bool) (gs : List InfoTree) (i : Info) (m : ℕ) (e : CompileError) → m ≡ length gs → NoParts (out-Info i).expr.now → IsAnalyzed tree_context gs →
      IsExpandedPart tree_context keeps absents false (info_of i) → IsNoLeaf u m keeps (tree_of (out-Info i).expr.now) e → IsReason u tree_context.groups tree_context.root e
  leaf_reason u gs i m (InnerError shown) count other s h bad =
      let t = tree_of (out-Info i).expr.now in
      let seat = sit false i t refl h in
      let test = λ (_ : Inside) (v : Tree). is_class (chars (string_bytes shown)) bad.casei v in
      record {
        casei = bad.casei;
        is_there = seat.parts test (or_left (test seat.inside t) (some_descendant test seat.inside t) bad.is_it);
        refused = bad.refused;
      }
  leaf_reason u gs i m (InvalidBackref n) count other s h bad =
      let t = tree_of (out-Info i).expr.now in
      sound gs false (info_of i) t s (sit false i t refl h) (ap (λ k. is_invalid_node k t) (sym (count ∙ s.count)) ∙ bad)
  leaf_reason u gs i m (FeatureNotYetSupported feature) count other s h bad =
      let t = tree_of (out-Info i).expr.now in
      let seat = sit false i t refl h in
      made gs false (info_of i) t s seat
      (or_left (is_some (unsupported_feature_in seat.inside t)) (is_variable_look_behind (size tree_context.groups) t) (bad seat.inside seat.enclosed))
  leaf_reason u gs i m UnresolvedAstNode count other s h bad =
      let t = tree_of (out-Info i).expr.now in
      sound gs false (info_of i) t s (sit false i t refl h) (faulty (length tree_context.groups) (out-Info i).expr.now other bad)
  leaf_reason u gs i m e count other s h bad = bad

  -- an absent operator that is no repeater
  pub absent_stops : (gs : List InfoTree) (i : Info) (a : Absent) → (out-Info i).expr.now ≡ view.Absent a → ((t : Box Expr Global) → a ≡ variants.Repeater t → ⊥) →
      IsAnalyzed tree_context gs → IsExpandedPart tree_context keeps absents false (info_of i) → ⊥
  absent_stops gs i a is other s h =
      let t = absent_tree_of a in
      let seat = sit false i t (ap tree_of is ∙ tree_absent a) h in
      made gs false (info_of i) t s seat
      (or_left (is_some (unsupported_feature_in seat.inside t)) (is_variable_look_behind (size tree_context.groups) t) (absent_missing seat.inside a other))

  pub root_stands : (j : Inside) (x : InfoTree) (n : ℕ) → x ≡ D n tree_context.root → IsWhole tree_context.groups tree_context.root j tree_context.root → IsExpandedPart tree_context true true false x
  root_stands j x n is whole = stand true true false x n tree_context.root is (record {
    inside = j;
    enclosed = λ e. wrong _ (sym e);
    excluded = λ e. wrong _ (sym e);
    first = n;
    is = is;
    parts = λ test some. part_found tree_context.groups tree_context.root test _ tree_context.root whole some;
    calls = λ call body has found. called _ tree_context.root body call whole has found;
    steady = wrong _;
  })
