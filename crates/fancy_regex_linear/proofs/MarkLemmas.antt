-- Marks of the groups that are called.
use Rattle.std.proofs.Common.{◌≡◌, ◌⊎◌, ◌∙◌, ℕ, zero, suc, ◌+◌, ◌<◌, ◌≤◌, Bool, true, false, true≢false, List, [], ◌∷◌, ◌++◌, length, length-append, map, take, drop, replicate, get_or, slice_get, Option, Some, None, Bor, Vec, Global, set, refl, sym, ap, subst, inl, inr, ⊎_elim, get_or-set_same, get_or-set_other, length-set, arith}
use Rattle.std.proofs.lemmas.Bool.{cases_lt, cases_eq}
use Rattle.std.proofs.lemmas.List.{take_all, drop_all, append-nil, length-map, length-replicate}
use Rattle.std.proofs.lemmas.Option.{none-some, same_Some}
use Rattle.fancy_regex_tree.specs.declared.expr.LookAround.{LookAround}
use Rattle.fancy_regex_tree.specs.Tree.{Tree, Trees, look_around, absent_tree, ast_tree, node_tree, absent_tree_of, ast_tree_of, tree_of, trees}
use Rattle.fancy_regex_tree.specs.declared.expr.Absent.{Absent}
use Rattle.fancy_regex_tree.specs.declared.expr.Absent.TheViews.{roll-Expr, roll-out-Expr, out-Expr, roll-out-Absent, out-Absent, roll-out-AstNode, out-AstNode}
use Rattle.fancy_regex_tree.specs.declared.expr.Absent.TheOpen.{Expr-F, Absent-F, AstNode-F}
use Rattle.fancy_regex_tree.specs.declared.expr.Absent.TheFolds.{fold-roll-Expr, fold-roll-Absent, fold-roll-AstNode}
use Rattle.fancy_regex_tree.specs.declared.expr.AstNode.{AstNode}
use Rattle.fancy_regex_tree.specs.declared.expr.Expr.{Expr}
use Rattle.fancy_regex_tree.specs.declared.expr.Expr.TheVariants as view
use Rattle.fancy_regex_meaning.specs.Sizes.{target}
use Rattle.fancy_regex_info.specs.AnalysisRelations.{mark_at}
use Rattle.fancy_regex_info.specs.Views.{body_tree}
use Rattle.fancy_regex_info.proofs.TableLemmas.{body_at, no_body, reads_at}
use Rattle.fancy_regex_linear.specs.Plain.{IsRegular, AreRegular}
use Rattle.fancy_regex_linear.specs.CalledClasses.{HasCall, RowHasCall, IsReached, from_root, from_body}
use Rattle.fancy_regex_linear.specs.CallMarks.{KeepsMarks, AllMarked, RowMarked, FollowsMarks, IsCalledFrom, marks_or_none, marks_at, AreLevels}
use Rattle.fancy_regex_linear.specs.Translation.{all_trees}
use Rattle.fancy_regex_linear.proofs.PlainLemmas.{regular_into, all_into, regular_resets}
use Rattle.fancy_regex_linear.proofs.KeepLemmas.{regular_as}
use Rattle.fancy_regex_linear.proofs.BuildLemmas.{regular_added, trees_more}
use Rattle.fancy_regex_linear.proofs.CallWeightLemmas.{CallsNone}

marked_inside : (marks : List Bool) (j : ℕ) → mark_at marks j ≡ true → j < length marks
marked_inside [] j h = absurd (true≢false (sym h))
marked_inside (x ∷ xs) zero h = omega arith
marked_inside (x ∷ xs) (suc j) h = omega (arith, marked_inside xs j h)

pub kept_none : (marks : List Bool) → KeepsMarks marks marks
kept_none marks = record { same = refl; stay = λ j h. h }

pub kept_both : (a b c : List Bool) → KeepsMarks a b → KeepsMarks b c → KeepsMarks a c
kept_both a b c first next = record { same = next.same ∙ first.same; stay = λ j h. next.stay j (first.stay j h) }

pub still_marked : (a b : List Bool) (t : Tree) → KeepsMarks a b → AllMarked a t → AllMarked b t
still_marked a b t kept all p =
    regular_into (λ j. mark_at a j ≡ true) (λ j. mark_at b j ≡ true) (λ j h. kept.stay j h) true t
    (all (regular_into (λ j. j < length b) (λ j. j < length a) (λ j h. omega (arith, h, kept.same)) true t p))

pub still_row : (a b : List Bool) (ts : Trees) → KeepsMarks a b → RowMarked a ts → RowMarked b ts
still_row a b ts kept all p =
    all_into (λ j. mark_at a j ≡ true) (λ j. mark_at b j ≡ true) (λ j h. kept.stay j h) true ts
    (all (all_into (λ j. j < length b) (λ j. j < length a) (λ j h. omega (arith, h, kept.same)) true ts p))

-- A look-around has the calls of its body, which is regular without `\K`.
pub look_marked : (marks : List Bool) (t : Tree) (how : LookAround) → AllMarked marks t → AllMarked marks (look_around t how)
look_marked marks t how all p =
    let inside = λ (j : ℕ). j < length marks in
    regular_as (λ j. mark_at marks j ≡ true) inside true false t (all (regular_resets inside t p)) p

-- one tree more of a row
row_splits : (called : ℕ → Type 0) (ts : List Tree) (t : Tree) → AreRegular true called (trees (ts ++ t ∷ []))
    → AreRegular true called (trees ts) × IsRegular true called t
row_splits called [] t p = (tt, p.0)
row_splits called (u ∷ ts) t p = let rest = row_splits called ts t p.1 in ((p.0, rest.0), rest.1)

row_joined : (marks : List Bool) (ts : List Tree) (t : Tree) → RowMarked marks (trees ts) → AllMarked marks t → RowMarked marks (trees (ts ++ t ∷ []))
row_joined marks ts t row one p =
    let parts = row_splits (λ j. j < length marks) ts t p in regular_added true (λ j. mark_at marks j ≡ true) ts t (row parts.0) (one parts.1)

pub row_begins : (es : List Expr) (marks : List Bool) → RowMarked marks (trees (map tree_of (take 0 es)))
row_begins es marks p = tt

pub row_more : (es : List Expr) (i : ℕ) (e : Expr) (before after : List Bool) → i < length es → e ≡ get_or es i e
    → RowMarked before (trees (map tree_of (take i es))) → KeepsMarks before after → AllMarked after (tree_of e)
    → RowMarked after (trees (map tree_of (take (i + 1) es)))
row_more es i e before after h is row kept one =
    rw (trees_more es i e h is)
    (row_joined after (map tree_of (take i es)) (tree_of e) (still_row before after (trees (map tree_of (take i es))) kept row) one)

pub row_ends : (es : List Expr) (i : ℕ) (marks : List Bool) → length es ≤ i → RowMarked marks (trees (map tree_of (take i es))) → RowMarked marks (all_trees es)
row_ends es i marks h row = rw (take_all i es h) at row

-- one mark is set
module _ (marks : List Bool) (k : ℕ) where
  pub set_kept : KeepsMarks marks (set marks k true)
  set_kept = record {
    same = length-set marks k true;
    stay = λ j h.
        reads_at (set marks k true) j
        ∙ elim (cases_eq j k) as (λ _. get_or (set marks k true) j false ≡ true) [
          | inl here ↦ subst (λ (i : ℕ). get_or (set marks k true) i false ≡ true) (sym here)
              (get_or-set_same marks k true false (subst (λ (i : ℕ). i < length marks) here (marked_inside marks j h)))
          | inr other ↦ get_or-set_other marks k j true false other ∙ sym (reads_at marks j) ∙ h
        ];
  }

  pub set_there : k < length (set marks k true) → mark_at (set marks k true) k ≡ true
  set_there h =
      reads_at (set marks k true) k ∙ get_or-set_same marks k true false (let low : k < length marks = omega (arith, h, length-set marks k true) in low)

  pub set_only : (j : ℕ) → mark_at (set marks k true) j ≡ true → (mark_at marks j ≡ true) ⊎ (k ≡ j)
  set_only j h =
      elim (cases_eq j k) as (λ _. (mark_at marks j ≡ true) ⊎ (k ≡ j)) [
        | inl here ↦ inr (sym here)
        | inr other ↦ inl (reads_at marks j ∙ sym (get_or-set_other marks k j true false other) ∙ sym (reads_at (set marks k true) j) ∙ h)
      ]

-- one tree after another
pub three_only : {W X Y Z P Q R : Type 0} → (X → W ⊎ P) → (Y → X ⊎ Q) → (Z → Y ⊎ R) → Z → W ⊎ (P ⊎ (Q ⊎ R))
three_only {W} {X} {Y} {Z} {P} {Q} {R} f g h z =
    ⊎_elim
    (λ (y : Y). ⊎_elim (λ (x : X). ⊎_elim (λ (w : W). inl w) (λ (p : P). inr (inl p)) (f x)) (λ (q : Q). inr (inr (inl q))) (g y))
    (λ (r : R). inr (inr (inr r))) (h z)

pub row_only : (es : List Expr) (i : ℕ) (e : Expr) (first before after : List Bool) (j : ℕ) → i < length es → e ≡ get_or es i e
    → (mark_at before j ≡ true → (mark_at first j ≡ true) ⊎ RowHasCall j (trees (map tree_of (take i es))))
    → (mark_at after j ≡ true → (mark_at before j ≡ true) ⊎ HasCall j (tree_of e)) → mark_at after j ≡ true
    → (mark_at first j ≡ true) ⊎ RowHasCall j (trees (map tree_of (take (i + 1) es)))
row_only es i e first before after j h is done one m =
    let whole = λ (called : RowHasCall j (trees (map tree_of (take i es) ++ tree_of e ∷ []))).
    subst (λ ts. RowHasCall j (trees ts)) (sym (trees_more es i e h is)) called in
    ⊎_elim
    (λ (old : mark_at before j ≡ true).
    ⊎_elim (λ (w : mark_at first j ≡ true). inl w)
    (λ (r : RowHasCall j (trees (map tree_of (take i es)))). inr (whole (call_before (map tree_of (take i es)) (tree_of e) r))) (done old))
    (λ (new : HasCall j (tree_of e)). inr (whole (call_last (map tree_of (take i es)) (tree_of e) new)))
    (one m)
  where
    call_before : (ts : List Tree) (t : Tree) → RowHasCall j (trees ts) → RowHasCall j (trees (ts ++ t ∷ []))
    call_before [] t c = absurd c
    call_before (u ∷ ts) t c = ⊎_elim (λ (l : HasCall j u). inl l) (λ (r : RowHasCall j (trees ts)). inr (call_before ts t r)) c

    call_last : (ts : List Tree) (t : Tree) → HasCall j t → RowHasCall j (trees (ts ++ t ∷ []))
    call_last [] t c = inl c
    call_last (u ∷ ts) t c = inr (call_last ts t c)

pub row_only_ends : (es : List Expr) (i : ℕ) (first marks : List Bool) (j : ℕ) → length es ≤ i
    → (mark_at marks j ≡ true → (mark_at first j ≡ true) ⊎ RowHasCall j (trees (map tree_of (take i es))))
    → mark_at marks j ≡ true → (mark_at first j ≡ true) ⊎ RowHasCall j (all_trees es)
row_only_ends es i first marks j h only = rw (take_all i es h) at only

-- A node that is none of those with calls below it is regular whatever calls are, or not at all.
module _ (P Q : ℕ → Type 0) where
  abbrev Into : Tree → Type 0
  Into t = IsRegular true P t → IsRegular true Q t

  ast_into : (x : AstNode-F Tree (ℕ → Tree) Tree) (position : ℕ) → Into (ast_tree x position)
  ast_into (AstNode-F.AstGroup name t) position p = absurd p
  ast_into (AstNode-F.AstNode::Backref goal casei level) position p = absurd p
  ast_into (AstNode-F.AstNode::SubroutineCall goal) position p = absurd p
  ast_into (AstNode-F.AstNode::BackrefExistsCondition goal level) position p = absurd p

  ast_of_into : (a : AstNode) (position : ℕ) → Into (ast_tree_of a position)
  ast_of_into a position =
      let x = out-AstNode a in
      subst (λ z. Into (ast_tree_of z position)) (roll-out-AstNode a)
      (subst (λ t. Into (t position)) (sym (fold-roll-AstNode Tree (ℕ → Tree) Tree absent_tree ast_tree node_tree x)) (ast_into _ position))

  absent_into : (x : Absent-F Tree (ℕ → Tree) Tree) → Into (absent_tree x)
  absent_into (Absent-F.Repeater t) p = absurd p
  absent_into (Absent-F.Expression a t) p = absurd p
  absent_into (Absent-F.Stopper t) p = absurd p
  absent_into Absent-F.Clear p = absurd p

  absent_of_into : (a : Absent) → Into (absent_tree_of a)
  absent_of_into a =
      let x = out-Absent a in
      subst (λ z. Into (absent_tree_of z)) (roll-out-Absent a)
      (subst Into (sym (fold-roll-Absent Tree (ℕ → Tree) Tree absent_tree ast_tree node_tree x)) (absent_into _))

  rolled_into : (x : Expr-F Absent AstNode Expr) → CallsNone (roll-Expr x) → Into (tree_of (roll-Expr x))
  rolled_into (Expr-F.Concat ts) h = absurd (h.concat ts (view.rolls-Concat ts))
  rolled_into (Expr-F.Alt ts) h = absurd (h.alt ts (view.rolls-Alt ts))
  rolled_into (Expr-F.Group t) h = absurd (h.group t (view.rolls-Group t))
  rolled_into (Expr-F.LookAround t how) h = absurd (h.look_around t how (view.rolls-LookAround t how))
  rolled_into (Expr-F.Repeat t lo hi greedy) h = absurd (h.repeat t lo hi greedy (view.rolls-Repeat t lo hi greedy))
  rolled_into (Expr-F.AtomicGroup t) h = absurd (h.atomic t (view.rolls-AtomicGroup t))
  rolled_into (Expr-F.Conditional c a b) h = absurd (h.conditional c a b (view.rolls-Conditional c a b))
  rolled_into (Expr-F.Expr::SubroutineCall j) h = absurd (h.call j (view.rolls-SubroutineCall j))
  rolled_into (Expr-F.Absent a) h =
      subst Into (sym (fold-roll-Expr Tree (ℕ → Tree) Tree absent_tree ast_tree node_tree (Expr-F.Absent a))) (absent_of_into a)
  rolled_into (Expr-F.AstNode a position) h =
      subst Into (sym (fold-roll-Expr Tree (ℕ → Tree) Tree absent_tree ast_tree node_tree (Expr-F.AstNode a position))) (ast_of_into a position)
  rolled_into x h = subst Into (sym (fold-roll-Expr Tree (ℕ → Tree) Tree absent_tree ast_tree node_tree x)) (λ p. p)

  pub other_into : (e : Expr) → CallsNone e → IsRegular true P (tree_of e) → IsRegular true Q (tree_of e)
  other_into e h =
      let back = roll-out-Expr e in
      subst (λ b. Into (tree_of b)) back (rolled_into (out-Expr e) (subst CallsNone (sym back) h))

-- tables of which no mark is set
pub none_marked : (n j : ℕ) → mark_at (replicate n false) j ≡ false
none_marked zero j = refl
none_marked (suc n) zero = refl
none_marked (suc n) (suc j) = none_marked n j

-- a body whose number this is
pub body_same : (gs : List (Bor Expr)) (g j : ℕ) (e : Bor Expr) (body : Tree) → g < length gs → e ≡ get_or gs g e → j ≡ g
    → target (map body_tree gs) j ≡ Some body → body ≡ body_tree e
body_same gs g j e body inside is here there =
    same_Some body (body_tree e) (sym there ∙ ap (target (map body_tree gs)) here ∙ body_at gs g e inside is)

pub body_inside : (gs : List (Bor Expr)) (j : ℕ) (body : Tree) → target (map body_tree gs) j ≡ Some body → j < length gs
body_inside gs j body there =
    ⊎_elim (λ (below : j < length gs). below) (λ (above : length gs ≤ j). absurd (none-some body (sym (no_body gs j above) ∙ there))) (cases_lt j (length gs))

-- what a slice is that was lent from a vector, and has kept its length
pub written_back : (xs items : List Bool) (n : ℕ) → length xs ≡ length items → length items ≡ n → take n (xs ++ drop (length xs) items) ≡ xs
written_back xs items n same long =
    ap (λ rest. take n (xs ++ rest)) (drop_all (length xs) items (omega (arith, same))) ∙ ap (take n) (append-nil xs)
    ∙ take_all n xs (omega (arith, same, long))

-- what is called from the bodies of the marked groups below this number is marked, and no more
pub record FollowsTo (gs : List (Bor Expr)) (marks : List Bool) (g : ℕ) (next : List Bool) : Type 0 where
  pub long : length next ≡ length gs
  pub all : (j : ℕ) (body : Tree) → j < g → target (map body_tree gs) j ≡ Some body → mark_at marks j ≡ true → AllMarked next body
  pub only : (j : ℕ) → mark_at next j ≡ true → IsCalledFrom (map body_tree gs) marks j

-- one body more was walked over, if it is called
pub follows_more : (gs : List (Bor Expr)) (marks xs ys : List Bool) (g : ℕ) (e : Bor Expr) (b : Bool) → g < length gs → e ≡ get_or gs g e
    → b ≡ mark_at marks g → KeepsMarks xs ys → (b ≡ true → AllMarked ys (body_tree e))
    → ((j : ℕ) (body : Tree) → j < g → target (map body_tree gs) j ≡ Some body → mark_at marks j ≡ true → AllMarked xs body)
    → (j : ℕ) (body : Tree) → j < g + 1 → target (map body_tree gs) j ≡ Some body → mark_at marks j ≡ true → AllMarked ys body
follows_more gs marks xs ys g e b inside is set kept one before j body lt there marked =
    ⊎_elim
    (λ (below : j < g). still_marked xs ys body kept (before j body below there marked))
    (λ (above : g ≤ j).
    let here : j ≡ g = omega (arith, lt, above) in
    subst (AllMarked ys) (sym (body_same gs g j e body inside is here there)) (one (set ∙ ap (mark_at marks) (sym here) ∙ marked)))
    (cases_lt j g)

pub called_more : (gs : List (Bor Expr)) (marks xs ys : List Bool) (g : ℕ) (e : Bor Expr) (b : Bool) → g < length gs → e ≡ get_or gs g e
    → b ≡ mark_at marks g → ((j : ℕ) → mark_at ys j ≡ true → (mark_at xs j ≡ true) ⊎ ((b ≡ true) × HasCall j (body_tree e)))
    → ((j : ℕ) → mark_at xs j ≡ true → IsCalledFrom (map body_tree gs) marks j) → (j : ℕ) → mark_at ys j ≡ true
    → IsCalledFrom (map body_tree gs) marks j
called_more gs marks xs ys g e b inside is set only before j h =
    ⊎_elim (λ (old : mark_at xs j ≡ true). before j old)
    (λ (new : (b ≡ true) × HasCall j (body_tree e)). (g, body_tree e, sym set ∙ new.0, body_at gs g e inside is, new.1))
    (only j h)

pub follows_none : (gs : List (Bor Expr)) (marks next : List Bool) → next ≡ replicate (length gs) false → FollowsTo gs marks 0 next
follows_none gs marks next none = record {
  long = ap length none ∙ length-replicate (length gs) false;
  all = λ j body low. absurd (omega (arith, low));
  only = λ j h. absurd (true≢false (sym h ∙ ap (λ ms. mark_at ms j) none ∙ none_marked (length gs) j));
}

pub follows_step : (gs : List (Bor Expr)) (marks xs lent ys now : List Bool) (g : ℕ) (e : Bor Expr) (b : Bool) → g < length gs → e ≡ get_or gs g e
    → b ≡ mark_at marks g → lent ≡ xs → now ≡ ys → KeepsMarks lent ys → (b ≡ true → AllMarked ys (body_tree e))
    → ((j : ℕ) → mark_at ys j ≡ true → (mark_at lent j ≡ true) ⊎ ((b ≡ true) × HasCall j (body_tree e))) → FollowsTo gs marks g xs
    → FollowsTo gs marks (g + 1) now
follows_step gs marks xs lent ys now g e b inside is set from back kept all only before =
    let stays = subst (λ ms. KeepsMarks ms ys) from kept in
    let new : (j : ℕ) → mark_at ys j ≡ true → (mark_at xs j ≡ true) ⊎ ((b ≡ true) × HasCall j (body_tree e)) =
    subst (λ ms. (j : ℕ) → mark_at ys j ≡ true → (mark_at ms j ≡ true) ⊎ ((b ≡ true) × HasCall j (body_tree e))) from only in
    subst (FollowsTo gs marks (g + 1)) (sym back) (record {
      long = stays.same ∙ before.long;
      all = follows_more gs marks xs ys g e b inside is set stays all before.all;
      only = called_more gs marks xs ys g e b inside is set new before.only;
    })

pub follows_all : (gs : List (Bor Expr)) (marks next : List Bool) (g : ℕ) → length next ≡ length gs → length gs ≤ g
    → ((j : ℕ) (body : Tree) → j < g → target (map body_tree gs) j ≡ Some body → mark_at marks j ≡ true → AllMarked next body)
    → FollowsMarks (map body_tree gs) marks next
follows_all gs marks next g long past all = record {
  long = long ∙ sym (length-map gs body_tree);
  all = λ j body there marked. all j body (omega (arith, past, body_inside gs j body there)) there marked;
}

-- What each element of a list with one more is, by its place.
pub get_left : {A : Type 0} (xs ys : List A) (j : ℕ) → j < length xs → slice_get (xs ++ ys) j ≡ slice_get xs j
get_left [] ys j h = absurd (omega arith)
get_left (x ∷ xs) ys zero h = refl
get_left (x ∷ xs) ys (suc j) h = get_left xs ys j (omega arith)

pub get_last : {A : Type 0} (xs : List A) (y : A) → slice_get (xs ++ y ∷ []) (length xs) ≡ Some y
get_last [] y = refl
get_last (x ∷ xs) y = get_last xs y

get_past : {A : Type 0} (xs : List A) (j : ℕ) → length xs ≤ j → slice_get xs j ≡ None
get_past [] j h = refl
get_past (x ∷ xs) zero h = absurd (omega arith)
get_past (x ∷ xs) (suc j) h = get_past xs j (omega arith)

pub table_more : {A : Type 0} (P : ℕ → Option A → Type 0) (xs ys : List A) (y : A) → ys ≡ xs ++ y ∷ []
    → ((j : ℕ) → j < length xs → P j (slice_get xs j)) → P (length xs) (Some y) → ((j : ℕ) → length xs < j → P j None)
    → (j : ℕ) → P j (slice_get ys j)
table_more P xs ys y made each last past j =
    subst (λ zs. P j (slice_get zs j)) (sym made)
    (⊎_elim
    (λ (below : j < length xs). subst (P j) (sym (get_left xs (y ∷ []) j below)) (each j below))
    (λ (above : length xs ≤ j).
    ⊎_elim
    (λ (far : length xs < j). subst (P j) (sym (get_past (xs ++ y ∷ []) j (omega (arith, far, length-append xs (y ∷ []))))) (past j far))
    (λ (near : j ≤ length xs).
    let here : length xs ≡ j = omega (arith, above, near) in
    subst (λ (k : ℕ). P k (slice_get (xs ++ y ∷ []) k)) here (subst (P (length xs)) (sym (get_last xs y)) last))
    (cases_lt (length xs) j))
    (cases_lt j (length xs)))

-- a table that is there
pub table_at : (tables : List (Vec Bool Global)) (level : ℕ) (marks : Vec Bool Global) → level < length tables → marks ≡ get_or tables level marks
    → marks_at tables level ≡ marks.items
table_at [] level marks h is = absurd (omega arith)
table_at (x ∷ xs) zero marks h is = ap (λ v. v.items) (sym is)
table_at (x ∷ xs) (suc level) marks h is = table_at xs level marks (omega (arith, h)) is

no_mark_past : (j : ℕ) → mark_at [] j ≡ false
no_mark_past j = refl

-- the first level, and one level more
levels_begin : (groups : List Tree) (root : Tree) (marks : Vec Bool Global) → length marks.items ≡ length groups → AllMarked marks.items root
    → ((j : ℕ) → mark_at marks.items j ≡ true → HasCall j root) → AreLevels groups 0 root (marks ∷ [])
levels_begin groups root marks long first only = record {
  count = omega arith;
  long = long;
  first = first;
  next = λ level h. absurd (omega (arith, h));
  reached = λ level j h. at_level level j h;
}
  where
    at_level : (level j : ℕ) → mark_at (marks_at (marks ∷ []) level) j ≡ true → IsReached groups root j
    at_level zero j h = from_root j (only j h)
    at_level (suc level) j h = absurd (true≢false (sym h ∙ no_mark_past j))

pub levels_first : (gs : List (Bor Expr)) (root : Tree) (marks : Vec Bool Global) (before tables : List (Vec Bool Global)) (lent first now : List Bool)
    → before ≡ [] → tables ≡ before ++ marks ∷ [] → marks.items ≡ now → first ≡ replicate (length gs) false → lent ≡ first → KeepsMarks lent now
    → AllMarked now root → ((j : ℕ) → mark_at now j ≡ true → (mark_at lent j ≡ true) ⊎ HasCall j root) → AreLevels (map body_tree gs) 0 root tables
levels_first gs root marks before tables lent first now none is back unset from kept all only =
    let nothing : lent ≡ replicate (length gs) false = from ∙ unset in
    let long : length marks.items ≡ length (map body_tree gs) =
    ap length back ∙ kept.same ∙ ap length nothing ∙ length-replicate (length gs) false ∙ sym (length-map gs body_tree) in
    let called : (j : ℕ) → mark_at marks.items j ≡ true → HasCall j root =
    λ j h. ⊎_elim
    (λ (old : mark_at lent j ≡ true). absurd (true≢false (sym old ∙ ap (λ ms. mark_at ms j) nothing ∙ none_marked (length gs) j)))
    (λ (new : HasCall j root). new) (only j (sym (ap (λ ms. mark_at ms j) back) ∙ h)) in
    subst (AreLevels (map body_tree gs) 0 root) (sym (is ∙ ap (λ xs. xs ++ marks ∷ []) none))
    (levels_begin (map body_tree gs) root marks long (subst (λ ms. AllMarked ms root) (sym back) all) called)

module _ (groups : List Tree) (root : Tree) (depth : ℕ) (before after : List (Vec Bool Global)) (next : Vec Bool Global) (is : after ≡ before ++ next ∷ [])
    (levels : AreLevels groups depth root before) where
  still_there : (level : ℕ) → level ≤ depth → marks_at after level ≡ marks_at before level
  still_there level le =
      ap (λ tables. marks_at tables level) is ∙ ap marks_or_none (get_left before (next ∷ []) level (omega (arith, le, levels.count)))

  newest : marks_at after (suc depth) ≡ next.items
  newest =
      let here : suc depth ≡ length before = omega (arith, levels.count) in
      ap (λ tables. marks_at tables (suc depth)) is ∙ ap (marks_at (before ++ next ∷ [])) here ∙ ap marks_or_none (get_last before next)

  levels_reached : ((j : ℕ) → mark_at next.items j ≡ true → IsCalledFrom groups (marks_at before depth) j) → (level j : ℕ)
      → mark_at (marks_at after level) j ≡ true → IsReached groups root j
  levels_reached only level j =
      table_more (λ (k : ℕ) (o : Option (Vec Bool Global)). mark_at (marks_or_none o) j ≡ true → IsReached groups root j) before after next is
      (λ k below h. levels.reached k j h)
      (λ h. let from = only j h in from_body from.0 j from.1 (levels.reached depth from.0 from.2) from.3 from.4)
      (λ k past h. absurd (true≢false (sym h)))
      level

  pub levels_more : FollowsMarks groups (marks_at before depth) next.items
      → ((j : ℕ) → mark_at next.items j ≡ true → IsCalledFrom groups (marks_at before depth) j) → AreLevels groups (depth + 1) root after
  levels_more follows only = record {
    count = omega (arith, ap length is, length-append before (next ∷ []), levels.count);
    long = ap length (still_there 0 (omega arith)) ∙ levels.long;
    first = subst (λ marks. AllMarked marks root) (sym (still_there 0 (omega arith))) levels.first;
    next = λ level h.
        ⊎_elim
        (λ (below : level < depth).
        subst (λ marks. FollowsMarks groups marks (marks_at after (suc level))) (sym (still_there level (omega (arith, below))))
        (subst (FollowsMarks groups (marks_at before level)) (sym (still_there (suc level) (omega (arith, below)))) (levels.next level below)))
        (λ (above : depth ≤ level).
        let here : depth ≡ level = omega (arith, h, above) in
        subst (λ (k : ℕ). FollowsMarks groups (marks_at after k) (marks_at after (suc k))) here
        (subst (λ marks. FollowsMarks groups marks (marks_at after (suc depth))) (sym (still_there depth (omega arith)))
        (subst (FollowsMarks groups (marks_at before depth)) (sym newest) follows)))
        (cases_lt level depth);
    reached = levels_reached only;
  }
