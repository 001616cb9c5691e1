-- A step of the compiler: the end of a whole pattern, and what comes before it.
use Rattle.std.proofs.Common.{◌≡◌, ℕ, zero, suc, ◌+◌, ◌≤◌, ◌<◌, Bool, true, false, cond, true≢false, List, [], ◌∷◌, length, map, take, drop, Option, Some, Vec, refl, sym, ap, ap₂, ◌∙◌, subst, arith, ⊎_elim}
use Rattle.std.specs.Prelude.{slice_get, ◌&&◌, chars, option_map, string_bytes}
use Rattle.std.specs.List.{Contains}
use Rattle.std.specs.Borrow.{Bor}
use Rattle.std.proofs.lemmas.List.Elements.{Contains-append_cases}
use Rattle.std.proofs.lemmas.Option.{none-some}
use Rattle.fancy_regex_tree.specs.Tree as tree
use Rattle.fancy_regex_tree.specs.Tree.{Text, Tree, Trees, absent_tree, ast_tree, node_tree, tree_of, absent_tree_of, ast_tree_of, no_trees, more_trees}
use Rattle.fancy_regex_tree.specs.declared.expr.Expr.{Expr}
use Rattle.fancy_regex_tree.specs.declared.expr.Expr.TheVariants as view
use Rattle.fancy_regex_tree.specs.declared.expr.Absent.{Absent}
use Rattle.fancy_regex_tree.specs.declared.expr.AstNode.{AstNode}
use Rattle.fancy_regex_tree.specs.declared.expr.Absent.TheViews.{roll-Expr, roll-out-Expr, out-Expr, roll-Absent, roll-out-Absent, out-Absent, roll-AstNode, roll-out-AstNode, out-AstNode}
use Rattle.fancy_regex_tree.specs.declared.expr.Absent.TheOpen.{Expr-F, Absent-F, AstNode-F}
use Rattle.fancy_regex_tree.specs.declared.expr.Absent.TheFolds.{fold-roll-Expr, fold-roll-Absent, fold-roll-AstNode}
use Rattle.fancy_regex_meaning.specs.Groups.{pattern_of, group_count}
use Rattle.fancy_regex_class.specs.Classes.{in_class, folded, class_text}
use Rattle.fancy_regex_class.specs.Matchers.{RefusesText}
use Rattle.fancy_regex_desugar.specs.CorePatterns.{CorePattern, nothing, cat, tail}
use Rattle.fancy_regex_desugar.specs.Delegates.{searched, offers_choices, is_delegated, may_explode}
use Rattle.fancy_regex_desugar.specs.Unfolded.{Written, cat_all}
use Rattle.fancy_regex_desugar.proofs.DelegateProofs.{part_of, searched_can_be}
use Rattle.fancy_regex_info.specs.Easy.{is_easy, all_easy}
use Rattle.fancy_regex_info.specs.References.{is_read}
use Rattle.fancy_regex_info.specs.Infos.{NodeProperties, InfoTree, InfoTrees, known, infos, info_of}
use Rattle.fancy_regex_info.specs.declared.error.CompileError.{CompileError}
use Rattle.fancy_regex_info.specs.declared.error.CompileError.TheVariants.{InnerError, Memory}
use Rattle.fancy_regex_info.specs.declared.info.Info.{Info}
use Rattle.fancy_regex_info.specs.declared.info.Info.TheViews.{out-Info}
use Rattle.fancy_regex_linear.specs.Plain.{classes, row_classes}
use Rattle.fancy_regex_analysis.specs.EmittedParts.{SomeEmittedPart}
use Rattle.fancy_regex_analysis.specs.NodeErrors.{is_invalid_node}
use Rattle.fancy_regex_program.specs.Ops as op
use Rattle.fancy_regex_program.specs.Ops.{op_of}
use Rattle.fancy_regex_program.specs.Code.{Layout, slots_with}
use Rattle.fancy_regex_compiler.specs.Extents.{extent}
use Rattle.fancy_regex_compiler.specs.Rooms.{room_with}
use Rattle.fancy_regex_compiler.specs.Known.{info_written, info_written_all, is_plain_info, are_plain_infos, info_begins_tail, tree_in, trees_in, plain_row, info_tail, info_whole}
use Rattle.fancy_regex_program.specs.Parts.{IsDelegateOf, IsDelegateIfAny, IsPartCause}
use Rattle.fancy_regex_compiler.specs.Refusals.{is_class, IsReason, TreeContext, IsAnalyzed, ExpandedPart, AreExpandedParts}
use Rattle.fancy_regex_compiler.specs.Needs.{IsAllowedUnder}
use Rattle.fancy_regex_compiler.specs.Tails.{row_trees, IsPlainFrom, SplitsRow}
use Rattle.fancy_regex_compiler.specs.Tasks.{Progress, progress, row_pattern, tail_pattern, whole_pattern, past_pattern, room_of, IsLetThrough, Leads, LeadsTo}
use Rattle.fancy_regex_compiler.specs.Writing.{Draft, draft_of, with_op, closed_draft, ended, with_pat, layout_of, infos_of, part}
use Rattle.std.specs.declared.alloc.Global.{Global}
use Rattle.std.specs.declared.sync.Arc.{Arc}
use Rattle.fancy_regex_compiler.specs.declared.closing.Closing.TheVariants as ends
use Rattle.fancy_regex_program.specs.declared.delegate.Delegate.{Delegate}
use Rattle.fancy_regex_compiler.specs.declared.emitter.CompileContext.{CompileContext}
use Rattle.fancy_regex_compiler.specs.declared.emitter.Emitter.{Emitter}
use Rattle.fancy_regex_compiler.specs.declared.emitter.Need.{Need}
use Rattle.fancy_regex_compiler.specs.declared.emitter.Scope.{Scope}
use Rattle.fancy_regex_program.specs.declared.insn.Insn.TheVariants as insn
use Rattle.fancy_regex_compiler.specs.declared.task.Step.{Step}
use Rattle.fancy_regex_compiler.specs.declared.task.Task.TheVariants as task
use Rattle.fancy_regex_compiler.specs.declared.task.Tasks.TheVariants as tasks
use Rattle.fancy_regex_compiler.proofs.Drafts.{pat_nothing, pat_cat, pat_tail}
use Rattle.fancy_regex_compiler.proofs.NeedLemmas.{none_noted, same_noted}
use Rattle.fancy_regex_compiler.proofs.NodeLemmas.{info_known, W, written_listed}
use Rattle.fancy_regex_compiler.proofs.PartLemmas.{class_emitted, both_true, none_there}
use Rattle.fancy_regex_compiler.proofs.RoomLemmas.{room_tail}
use Rattle.fancy_regex_compiler.proofs.StepLemmas.{same_progress, leads_one_step}

-- a row of no part is not delegated
none_delegated : is_delegated false (tree.concat no_trees) ≡ false
unfolding is_delegated offers_choices
none_delegated = refl

-- parts, and a pattern after them
abbrev row_then : List Written → CorePattern → CorePattern
row_then [] p = p
row_then (u ∷ us) p = cat u.front (row_then us p)

abbrev pub is_concat : Tree → Bool
is_concat (tree.concat ts) = true
is_concat _ = false

-- an expression that is no concatenation
absent_layer : (x : Absent-F Tree (ℕ → Tree) Tree) → is_concat (absent_tree x) ≡ false
absent_layer (Absent-F.Repeater t) = refl
absent_layer (Absent-F.Expression a t) = refl
absent_layer (Absent-F.Stopper t) = refl
absent_layer Absent-F.Clear = refl

ast_layer : (x : AstNode-F Tree (ℕ → Tree) Tree) (position : ℕ) → is_concat (ast_tree x position) ≡ false
ast_layer (AstNode-F.AstGroup name t) position = refl
ast_layer (AstNode-F.AstNode::Backref goal casei level) position = refl
ast_layer (AstNode-F.AstNode::SubroutineCall goal) position = refl
ast_layer (AstNode-F.AstNode::BackrefExistsCondition goal level) position = refl

absent_rolled : (x : Absent-F Absent AstNode Expr) → is_concat (absent_tree_of (roll-Absent x)) ≡ false
absent_rolled x = ap is_concat (fold-roll-Absent Tree (ℕ → Tree) Tree absent_tree ast_tree node_tree x) ∙ absent_layer _

ast_rolled : (x : AstNode-F Absent AstNode Expr) (position : ℕ) → is_concat (ast_tree_of (roll-AstNode x) position) ≡ false
ast_rolled x position = ap (λ t. is_concat (t position)) (fold-roll-AstNode Tree (ℕ → Tree) Tree absent_tree ast_tree node_tree x) ∙ ast_layer _ position

absent_other : (a : Absent) → is_concat (absent_tree_of a) ≡ false
absent_other a = subst (λ b. is_concat (absent_tree_of b) ≡ false) (roll-out-Absent a) (absent_rolled (out-Absent a))

ast_other : (a : AstNode) (position : ℕ) → is_concat (ast_tree_of a position) ≡ false
ast_other a position = subst (λ b. is_concat (ast_tree_of b position) ≡ false) (roll-out-AstNode a) (ast_rolled (out-AstNode a) position)

abbrev IsNoConcat : Expr → Type 0
IsNoConcat e = (ts : Vec Expr Global) → e ≡ view.Concat ts → ⊥

rolled_other : (x : Expr-F Absent AstNode Expr) → IsNoConcat (roll-Expr x) → is_concat (tree_of (roll-Expr x)) ≡ false
rolled_other (Expr-F.Concat ts) h = absurd (h ts (view.rolls-Concat ts))
rolled_other (Expr-F.Absent a) h = ap is_concat (fold-roll-Expr Tree (ℕ → Tree) Tree absent_tree ast_tree node_tree (Expr-F.Absent a)) ∙ absent_other a
rolled_other (Expr-F.AstNode a position) h = ap is_concat (fold-roll-Expr Tree (ℕ → Tree) Tree absent_tree ast_tree node_tree (Expr-F.AstNode a position)) ∙ ast_other a position
rolled_other x h = ap is_concat (fold-roll-Expr Tree (ℕ → Tree) Tree absent_tree ast_tree node_tree x)

pub no_concat : (e : Expr) → IsNoConcat e → is_concat (tree_of e) ≡ false
no_concat e h = subst (λ b. is_concat (tree_of b) ≡ false) (roll-out-Expr e) (rolled_other (out-Expr e) (subst IsNoConcat (sym (roll-out-Expr e)) h))

-- the parts of a row up to a place, and from it on
get_take : (n : ℕ) (xs : List Info) (k : ℕ) (x : Info) → slice_get (take n xs) k ≡ Some x → slice_get xs k ≡ Some x
get_take zero [] k x at = at
get_take zero (y ∷ ys) k x at = absurd (none-some x at)
get_take (suc n) [] k x at = at
get_take (suc n) (y ∷ ys) zero x at = at
get_take (suc n) (y ∷ ys) (suc k) x at = get_take n ys k x at

get_drop : (n : ℕ) (xs : List Info) (k : ℕ) → slice_get (drop n xs) k ≡ slice_get xs (n + k)
get_drop zero xs k = let same : k ≡ 0 + k = omega arith in ap (slice_get xs) same
get_drop (suc n) [] k = refl
get_drop (suc n) (y ∷ ys) k = get_drop n ys k ∙ (let same : suc (n + k) ≡ suc n + k = omega arith in ap (slice_get (y ∷ ys)) same)

pub expanded_take : (tree_context : TreeContext) (keeps absents : Bool) (n : ℕ) (xs ys : List Info) → ys ≡ take n xs →
    AreExpandedParts tree_context keeps absents false xs → AreExpandedParts tree_context keeps absents false ys
expanded_take tree_context keeps absents n xs ys is h k x at = h k x (get_take n xs k x (ap (λ l. slice_get l k) (sym is) ∙ at))

pub expanded_drop : (tree_context : TreeContext) (keeps absents : Bool) (n : ℕ) (xs ys : List Info) → ys ≡ drop n xs →
    AreExpandedParts tree_context keeps absents false xs → AreExpandedParts tree_context keeps absents false ys
expanded_drop tree_context keeps absents n xs ys is h k x at = h (n + k) x (sym (get_drop n xs k) ∙ ap (λ l. slice_get l k) (sym is) ∙ at)

trees_listed : (xs : List Info) → trees_in (infos (map info_of xs)) ≡ row_trees xs
trees_listed [] = refl
trees_listed (x ∷ xs) = ap (more_trees (tree_in (info_of x))) (trees_listed xs)

all_plain : (xs : List Info) → ((k : ℕ) (x : Info) → slice_get xs k ≡ Some x → is_plain_info (info_of x) ≡ true) → are_plain_infos (infos (map info_of xs)) ≡ true
all_plain [] h = refl
all_plain (x ∷ xs) h = ap₂ (λ a b. a && b) (h 0 x refl) (all_plain xs (λ k y at. h (suc k) y at))

and_other : (a b : Bool) → b ≡ false → (a && b) ≡ false
and_other true b e = e
and_other false b e = refl

-- where one part is not plain, not all are
one_other : (xs : List Info) (k : ℕ) → k < length xs → ((y : Info) → slice_get xs k ≡ Some y → is_plain_info (info_of y) ≡ false) →
    are_plain_infos (infos (map info_of xs)) ≡ false
one_other [] k inside h = absurd (omega (arith, inside))
one_other (y ∷ ys) zero inside h = ap (λ b. b && are_plain_infos (infos (map info_of ys))) (h y refl)
one_other (y ∷ ys) (suc k) inside h = and_other (is_plain_info (info_of y)) (are_plain_infos (infos (map info_of ys))) (one_other ys k (omega (arith, inside)) h)

-- the tail begins at the first part
begins_here : (x : Info) (xs : List Info) → SplitsRow (x ∷ xs) 0 → info_begins_tail (infos (map info_of (x ∷ xs))) ≡ true
begins_here x xs s =
    ap₂ (λ a b. a && b) (all_plain (x ∷ xs) (λ k y at. s.last.plain k y (let low = s.not_before in omega (arith, low)) at)) (s.many x refl)

-- the ways of the parts from there on to that one are few
abbrev pub BareTo : List Info → ℕ → ℕ → Type 0
BareTo xs from k = (j : ℕ) (y : Info) → from ≤ j → j < k → slice_get xs j ≡ Some y → may_explode (tree_in (info_of y)) ≡ false

-- it begins later
begins_later : (x : Info) (xs : List Info) (k from : ℕ) → IsPlainFrom (x ∷ xs) from → suc k ≤ length (x ∷ xs) → BareTo (x ∷ xs) from (suc k) →
    info_begins_tail (infos (map info_of (x ∷ xs))) ≡ false
begins_later x xs k zero p inside bare = and_other (are_plain_infos (infos (map info_of (x ∷ xs)))) (may_explode (tree_in (info_of x))) (bare 0 x (omega arith) (omega arith) refl)
begins_later x xs k (suc j) p inside bare =
    ap (λ b. b && may_explode (tree_in (info_of x))) (one_other (x ∷ xs) j (let low = p.inside in omega (arith, low)) (λ y at. p.other j y (omega arith) at))

-- of the other parts
later_split : (x : Info) (xs : List Info) (k from : ℕ) → IsPlainFrom (x ∷ xs) from → from ≤ suc k → suc k ≤ length (x ∷ xs) → BareTo (x ∷ xs) from (suc k) →
    ((y : Info) → slice_get (x ∷ xs) (suc k) ≡ Some y → may_explode (tree_in (info_of y)) ≡ true) → SplitsRow xs k
later_split x xs k zero p not_before inside bare many = record {
  from = 0;
  last = record {
    inside = omega arith;
    plain = λ j y at_least at. p.plain (suc j) y (omega arith) at;
    other = λ j y next at. absurd (omega (arith, next));
  };
  not_before = omega arith;
  inside = omega (arith, inside);
  other = λ j y at_least below at. bare (suc j) y (omega arith) (omega (arith, below)) at;
  many = λ y at. many y at;
}
later_split x xs k (suc from) p not_before inside bare many = record {
  from = from;
  last = record {
    inside = let low = p.inside in omega (arith, low);
    plain = λ j y at_least at. p.plain (suc j) y (omega (arith, at_least)) at;
    other = λ j y next at. p.other (suc j) y (omega (arith, next)) at;
  };
  not_before = omega (arith, not_before);
  inside = omega (arith, inside);
  other = λ j y at_least below at. bare (suc j) y (omega (arith, at_least)) (omega (arith, below)) at;
  many = λ y at. many y at;
}

module _ (call : ℕ → CorePattern) where
  abbrev listed_all : List Info → List Written
  listed_all xs = info_written_all call (infos (map info_of xs))

  -- the pattern of a row that ends a whole pattern, where its tail begins there
  split_is : (xs : List Info) (k : ℕ) → SplitsRow xs k →
      info_tail call (infos (map info_of xs)) ≡ row_then (map (W call) (take k xs)) (plain_row (row_trees (drop k xs)) (map (W call) (drop k xs)))
  unfolding info_tail
  split_is [] zero s = sym (ap (λ b. cond b (tail (tree.concat no_trees) nothing) nothing) none_delegated)
  split_is [] (suc k) s = absurd (let low = s.inside in omega (arith, low))
  split_is (x ∷ xs) zero s =
      ap (λ b. cond b (plain_row (trees_in (infos (map info_of (x ∷ xs)))) (listed_all (x ∷ xs))) (cat (W call x).front (info_tail call (infos (map info_of xs)))))
      (begins_here x xs s)
      ∙ ap₂ plain_row (trees_listed (x ∷ xs)) (written_listed call (x ∷ xs))
  split_is (x ∷ xs) (suc k) s =
      ap (λ b. cond b (plain_row (trees_in (infos (map info_of (x ∷ xs)))) (listed_all (x ∷ xs))) (cat (W call x).front (info_tail call (infos (map info_of xs)))))
      (begins_later x xs k s.from s.last s.inside s.other)
      ∙ ap (cat (W call x).front) (split_is xs k (later_split x xs k s.from s.last s.not_before s.inside s.other s.many))

  concat_whole : (f : NodeProperties) (t : Tree) (us : Trees) (xs : InfoTrees) → t ≡ tree.concat us → info_whole call (known f t xs) ≡ info_tail call xs
  unfolding info_whole
  concat_whole f t us xs is = ap (λ v. info_whole call (known f v xs)) is

  single_whole : (f : NodeProperties) (t : Tree) (xs : InfoTrees) → is_concat t ≡ false → info_whole call (known f t xs) ≡ (info_written call (known f t xs)).front
  unfolding info_whole
  single_whole f (tree.concat ts) xs e = absurd (true≢false e)
  single_whole f t xs e = refl

  -- the pattern of a whole concatenation
  pub whole_row : (i : Info) (us : Trees) (k : ℕ) (first last : List Info) → tree_of (out-Info i).expr.now ≡ tree.concat us → SplitsRow (out-Info i).children.items k →
      first ≡ take k (out-Info i).children.items → last ≡ drop k (out-Info i).children.items →
      info_whole call (info_of i) ≡ row_then (map (W call) first) (plain_row (row_trees last) (map (W call) last))
  whole_row i us k first last is s e f =
      ap (info_whole call) (info_known i) ∙ concat_whole _ _ us _ is ∙ split_is (out-Info i).children.items k s
      ∙ sym (ap₂ (λ xs ys. row_then (map (W call) xs) (plain_row (row_trees ys) (map (W call) ys))) e f)

  -- the pattern of any other whole
  pub whole_single : (i : Info) → is_concat (tree_of (out-Info i).expr.now) ≡ false → info_whole call (info_of i) ≡ (W call i).front
  whole_single i other = ap (info_whole call) (info_known i) ∙ single_whole _ _ _ other ∙ sym (ap (λ x. (info_written call x).front) (info_known i))

room_then : (layout : Layout) (us : List Written) (p : CorePattern) → room_with layout (row_then us p) ≡ room_with layout (cat_all us) + room_with layout p
unfolding room_with
room_then layout [] p = omega arith
room_then layout (u ∷ us) p = omega (arith, room_then layout us p)

allowed_then : (layout : Layout) (all : List Need) (unicode keeps : Bool) (us : List Written) (p : CorePattern) → IsAllowedUnder layout all unicode keeps (cat_all us) →
    IsAllowedUnder layout all unicode keeps p → IsAllowedUnder layout all unicode keeps (row_then us p)
allowed_then layout all unicode keeps [] p h k = k
allowed_then layout all unicode keeps (u ∷ us) p h k = (h.0, allowed_then layout all unicode keeps us p h.1 k)

module _ (context : CompileContext) where
  past_cat : (a b : CorePattern) (s : Progress) → past_pattern context b (past_pattern context a s) ≡ past_pattern context (cat a b) s
  past_cat a b s = same_progress (sym (pat_cat (layout_of context) context.unicode context.whole a b s.slot s.draft)) (omega arith) refl

  past_then : (us : List Written) (p : CorePattern) (s : Progress) → past_pattern context p (past_pattern context (cat_all us) s) ≡ past_pattern context (row_then us p) s
  past_then [] p s =
      ap (past_pattern context p) (let same : past_pattern context nothing s ≡ s = same_progress (pat_nothing (layout_of context) context.unicode context.whole s.slot s.draft) (omega arith) refl in same)
  past_then (u ∷ us) p s =
      ap (past_pattern context p) (sym (past_cat u.front (cat_all us) s)) ∙ past_then us p (past_pattern context u.front s) ∙ past_cat u.front (row_then us p) s

-- the parts of a whole concatenation
pub leads_whole : (context : CompileContext) (e : Emitter) (slot : ℕ) (i : Info) (scope : Scope) (first last : Bor (List Info)) (S : TreeContext → Type 0) →
    whole_pattern context i scope e.opened.items ≡ row_then (map (part context scope e.opened.items) first.now) (tail_pattern context last.now scope e.opened.items) →
    ((tree_context : TreeContext) → S tree_context → AreExpandedParts tree_context scope.may_keep scope.may_be_absent false first.now) →
    ((tree_context : TreeContext) → S tree_context → AreExpandedParts tree_context scope.may_keep scope.may_be_absent false last.now) →
    Leads context e e slot slot (task.Tail last scope ∷ task.Row first scope ∷ []) (past_pattern context (whole_pattern context i scope e.opened.items) (progress e slot))
    (IsLetThrough context scope.may_keep (whole_pattern context i scope e.opened.items)) (room_of context (whole_pattern context i scope e.opened.items)) S
leads_whole context e slot i scope first last S is begins ends =
    let us = map (part context scope e.opened.items) first.now in
    let p = tail_pattern context last.now scope e.opened.items in
    subst (λ x. Leads context e e slot slot (task.Tail last scope ∷ task.Row first scope ∷ []) (past_pattern context x (progress e slot)) (IsLetThrough context scope.may_keep x) (room_of context x) S) (sym is)
    (record {
      ends = past_then context us p (progress e slot);
      allowed = λ all among h. allowed_then (layout_of context) all context.unicode scope.may_keep us p h.1.0 h.0;
      fits = omega (arith, room_then (layout_of context) us p);
      stands = λ tree_context s stand. (ends tree_context stand, (begins tree_context stand, tt));
      notes = none_noted (infos_of context) e.needs.list.items S;
    })

tail_row : (t : Trees) (us : List Written) → is_delegated false (tree.concat t) ≡ true → plain_row t us ≡ tail (tree.concat t) (cat_all us)
tail_row t us e = ap (λ b. cond b (tail (tree.concat t) (cat_all us)) (cat_all us)) e

is_row : (t : Trees) (us : List Written) → is_delegated false (tree.concat t) ≡ false → plain_row t us ≡ cat_all us
is_row t us e = ap (λ b. cond b (tail (tree.concat t) (cat_all us)) (cat_all us)) e

-- the room of what is delegated
pub tail_room : (layout : Layout) (t : Trees) (us : List Written) → is_delegated false (tree.concat t) ≡ true → 1 ≤ room_with layout (plain_row t us)
tail_room layout t us e = let rooms = ap (room_with layout) (tail_row t us e) in omega (arith, rooms, room_tail layout (tree.concat t) (cat_all us))

-- a plain end that is delegated
module _ (context : CompileContext) (old new : Emitter) (slot : ℕ) (parts : Bor (List Info)) (scope : Scope) (delegated : Arc Delegate Global) (begin : ℕ) (d : Draft)
    (h : IsDelegateOf context.unicode false (tree.concat (row_trees parts.now)) delegated.value) (shut : d ≡ closed_draft (draft_of old.body)) (at : begin ≡ length d.ops)
    (drew : draft_of new.body ≡ with_op (op_of (insn.DelegateTail delegated 0)) d) (long : extent (draft_of new.body) ≤ extent (draft_of old.body) + 1)
    (opened : new.opened.items ≡ old.opened.items) (needs : new.needs.list.items ≡ old.needs.list.items) where
  same_tail : op_of (insn.DelegateTail delegated 0) ≡ op.tail (in_class context.unicode) (folded context.unicode) (tree.concat (row_trees parts.now)) 0
  same_tail = λ i. op.tail (in_class (h.unicode_is i)) (folded (h.unicode_is i)) (searched (h.for_any_is i) (h.part i)) 0

  pub leads_tail : (step : Step) → step ≡ record { slot = slot; tasks = tasks.Two (task.Row parts scope) (task.Close (ends.Tail begin)) } →
      LeadsTo context (tail_pattern context parts.now scope old.opened.items) scope.may_keep
      (λ tree_context. AreExpandedParts tree_context scope.may_keep scope.may_be_absent false parts.now) old new slot step
  leads_tail step is =
      let layout = layout_of context in
      let u = context.unicode in
      let w = context.whole in
      let t = tree.concat (row_trees parts.now) in
      let row = row_pattern context parts.now scope old.opened.items in
      let S = λ (tree_context : TreeContext). AreExpandedParts tree_context scope.may_keep scope.may_be_absent false parts.now in
      let there = task.Close (ends.Tail begin) ∷ task.Row parts scope ∷ [] in
      let now : row_pattern context parts.now scope new.opened.items ≡ row = ap (row_pattern context parts.now scope) opened in
      let drawn : draft_of new.body ≡ with_op (op.tail (in_class u) (folded u) t 0) (closed_draft (draft_of old.body)) = drew ∙ ap₂ with_op same_tail shut in
      let here : begin ≡ length (closed_draft (draft_of old.body)).ops = at ∙ ap (λ (x : Draft). length x.ops) shut in
      subst (λ r. LeadsTo context (tail_pattern context parts.now scope old.opened.items) scope.may_keep S old new slot r) (sym is)
      (subst (λ x. Leads context old new slot slot there (past_pattern context x (progress old slot)) (IsLetThrough context scope.may_keep x) (room_of context x) S)
      (sym (tail_row (row_trees parts.now) (map (part context scope old.opened.items) parts.now) h.delegated)) (record {
        ends = same_progress
            (ap₂ (λ q x. ended begin (length (closed_draft (with_pat layout u w q slot x)).ops) (closed_draft (with_pat layout u w q slot x))) now drawn
            ∙ ap (λ k. let x = closed_draft (with_pat layout u w row slot (with_op (op.tail (in_class u) (folded u) t 0) (closed_draft (draft_of old.body)))) in ended k (length x.ops) x) here
            ∙ sym (pat_tail layout u w t row slot (draft_of old.body)))
            (ap (λ q. slot + slots_with (layout_of context) q) now) opened;
        allowed = λ all among k. (h.read, subst (λ q. IsLetThrough context scope.may_keep q all) now k.1.0);
        fits = (let rooms = ap (room_of context) now in omega (arith, long, rooms, room_tail layout t row));
        stands = λ tree_context s stand. (tt, (stand, tt));
        notes = same_noted (infos_of context) old.needs.list.items new.needs.list.items S needs;
      }))

-- a plain end that is not delegated
pub leads_plain : (context : CompileContext) (e : Emitter) (slot : ℕ) (parts : Bor (List Info)) (scope : Scope) (step : Step) → is_delegated false (tree.concat (row_trees parts.now)) ≡ false →
    step ≡ record { slot = slot; tasks = tasks.One (task.Row parts scope) } →
    LeadsTo context (tail_pattern context parts.now scope e.opened.items) scope.may_keep
    (λ tree_context. AreExpandedParts tree_context scope.may_keep scope.may_be_absent false parts.now) e e slot step
leads_plain context e slot parts scope step none is =
    leads_one_step context e slot scope.may_keep (row_pattern context parts.now scope e.opened.items) (tail_pattern context parts.now scope e.opened.items) (task.Row parts scope)
    (λ tree_context. AreExpandedParts tree_context scope.may_keep scope.may_be_absent false parts.now) step
    (is_row (row_trees parts.now) (map (part context scope e.opened.items) parts.now) none) is refl (λ all h. h) refl (omega arith) (λ tree_context s stand. stand)

-- a class of the parts of a row is written out with them
row_shows : (tree_context : TreeContext) (keeps absents : Bool) (reads : ℕ → Bool) (c : Text × Bool) (xs : List Info) (k : ℕ) →
    (SomeEmittedPart tree_context.groups tree_context.root (λ _. is_invalid_node (length tree_context.groups)) → ⊥) → all_easy reads k (row_trees xs) ≡ true →
    AreExpandedParts tree_context keeps absents false xs → Contains (row_classes (row_trees xs)) c → SomeEmittedPart tree_context.groups tree_context.root (λ _. is_class c.0 c.1)
unfolding all_easy row_classes
row_shows tree_context keeps absents reads c [] k ok easy h m = absurd (none_there c m)
row_shows tree_context keeps absents reads c (x ∷ xs) k ok easy h m =
    let t = tree_in (info_of x) in
    let both = both_true (is_easy reads k t) (all_easy reads (k + group_count t) (row_trees xs)) easy in
    let stands : ExpandedPart tree_context keeps absents false (info_of x) t = h 0 x refl in
    ⊎_elim
    (λ (here : Contains (classes t) c). stands.parts (λ _. is_class c.0 c.1)
    (class_emitted reads (length tree_context.groups) c stands.inside k t both.0 (λ bad. ok (stands.parts (λ _. is_invalid_node (length tree_context.groups)) bad)) here))
    (λ (there : Contains (row_classes (row_trees xs)) c). row_shows tree_context keeps absents reads c xs (k + group_count t) ok both.1 (λ j y at. h (suc j) y at) there)
    (Contains-append_cases (classes t) (row_classes (row_trees xs)) c m)

easy_row : (reads : ℕ → Bool) (k : ℕ) (ts : Trees) → is_easy reads k (tree.concat ts) ≡ true → all_easy reads k ts ≡ true
unfolding is_easy
easy_row reads k ts e = e

classes_of_row : (ts : Trees) (c : Text × Bool) → Contains (classes (tree.concat ts)) c → Contains (row_classes ts) c
unfolding classes
classes_of_row ts c m = m

-- what is said of a class of a delegated end holds where its parts stand
pub row_reason : (tree_context : TreeContext) (keeps absents u : Bool) (gs : List InfoTree) (xs : List Info) (t : Tree) (e : CompileError) → t ≡ tree.concat (row_trees xs) →
    IsAnalyzed tree_context gs → AreExpandedParts tree_context keeps absents false xs → IsPartCause u false t e → IsReason u tree_context.groups tree_context.root e
row_reason tree_context keeps absents u gs xs t (InnerError shown) is s h cause =
    let c : Text × Bool = (chars (string_bytes shown), cause.1.class.1) in
    let reads = is_read (length (pattern_of t).groups) t in
    let easy : is_easy reads 1 t ≡ true = (part_of t (searched_can_be false t cause.0)).easy in
    let there : Contains (classes t) c = subst (λ y. Contains (classes t) (y, cause.1.class.1)) (sym cause.1.is_shown) cause.1.is_there in
    record {
      casei = cause.1.class.1;
      is_there = row_shows tree_context keeps absents reads c xs 1 s.nodes (easy_row reads 1 (row_trees xs) (subst (λ v. is_easy reads 1 v ≡ true) is easy)) h
          (classes_of_row (row_trees xs) c (subst (λ v. Contains (classes v) c) is there));
      refused = subst (λ y. RefusesText (class_text u cause.1.class.1 y)) (sym cause.1.is_shown) cause.1.refused;
    }
row_reason tree_context keeps absents u gs xs t Memory is s h cause = tt
row_reason tree_context keeps absents u gs xs t _ is s h cause = absurd cause

-- what is known of the delegated end that is there
pub delegated_row : (u : Bool) (t : Tree) (xs : List Info) {o : Option (Arc Delegate Global)} {d : Arc Delegate Global} → t ≡ tree.concat (row_trees xs) → o ≡ Some d →
    IsDelegateIfAny u false t (option_map (λ (x : Arc Delegate Global). x.value) o) → IsDelegateOf u false (tree.concat (row_trees xs)) d.value
delegated_row u t xs {o = o} {d = d} is there h =
    subst (λ v. IsDelegateOf u false v d.value) is (subst (λ x. IsDelegateIfAny u false t (option_map (λ (y : Arc Delegate Global). y.value) x)) there h)
