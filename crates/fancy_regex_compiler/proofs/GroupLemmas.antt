-- The bodies of groups, as the code gathers them.
use Rattle.std.proofs.Common.{◌≡◌, ℕ, ◌+◌, ◌<◌, Bool, true, false, cond, List, [], ◌∷◌, ◌++◌, length, take, get_or, map, Box, Global, refl, sym, ap, subst, ◌∙◌, append_assoc, append-nil}
use Rattle.std.proofs.lemmas.List.{take_more}
use Rattle.fancy_regex_tree.specs.declared.expr.Absent.{Absent}
use Rattle.fancy_regex_tree.specs.declared.expr.AstNode.{AstNode}
use Rattle.fancy_regex_tree.specs.declared.expr.Expr.{Expr}
use Rattle.fancy_regex_tree.specs.declared.expr.Expr.TheVariants as view
use Rattle.fancy_regex_tree.specs.declared.expr.Absent.TheViews.{roll-Expr, roll-out-Expr, out-Expr, roll-Absent, roll-out-Absent, out-Absent, roll-AstNode, roll-out-AstNode, out-AstNode}
use Rattle.fancy_regex_tree.specs.declared.expr.Absent.TheOpen.{Expr-F, Absent-F, AstNode-F}
use Rattle.fancy_regex_tree.specs.declared.expr.Absent.TheFolds.{fold-roll-Expr, fold-roll-Absent, fold-roll-AstNode}
use Rattle.fancy_regex_tree.specs.Tree.{Tree, absent_tree, ast_tree, node_tree, tree_of, absent_tree_of, ast_tree_of}
use Rattle.fancy_regex_info.specs.Infos.{InfoTree, infos, info_of}
use Rattle.fancy_regex_info.specs.declared.info.Info.{Info}
use Rattle.fancy_regex_info.specs.declared.info.Info.TheViews.{out-Info}
use Rattle.fancy_regex_compiler.specs.Known.{is_group, listed, bodies_in, row_bodies_in, groups_in}
use Rattle.fancy_regex_compiler.specs.Groups.{own_bodies, bodies_in_row}
use Rattle.fancy_regex_compiler.proofs.TreeLemmas.{tree_group}
use Rattle.fancy_regex_compiler.proofs.NodeLemmas.{info_known}

absent_layer : (x : Absent-F Tree (ℕ → Tree) Tree) → is_group (absent_tree x) ≡ false
absent_layer (Absent-F.Repeater t) = refl
absent_layer (Absent-F.Expression a t) = refl
absent_layer (Absent-F.Stopper t) = refl
absent_layer Absent-F.Clear = refl

ast_layer : (x : AstNode-F Tree (ℕ → Tree) Tree) (position : ℕ) → is_group (ast_tree x position) ≡ false
ast_layer (AstNode-F.AstGroup name t) position = refl
ast_layer (AstNode-F.AstNode::Backref goal casei level) position = refl
ast_layer (AstNode-F.AstNode::SubroutineCall goal) position = refl
ast_layer (AstNode-F.AstNode::BackrefExistsCondition goal level) position = refl

absent_rolled : (x : Absent-F Absent AstNode Expr) → is_group (absent_tree_of (roll-Absent x)) ≡ false
absent_rolled x = ap is_group (fold-roll-Absent Tree (ℕ → Tree) Tree absent_tree ast_tree node_tree x) ∙ absent_layer _

ast_rolled : (x : AstNode-F Absent AstNode Expr) (position : ℕ) → is_group (ast_tree_of (roll-AstNode x) position) ≡ false
ast_rolled x position =
    ap (λ t. is_group (t position)) (fold-roll-AstNode Tree (ℕ → Tree) Tree absent_tree ast_tree node_tree x) ∙ ast_layer _ position

absent_none : (a : Absent) → is_group (absent_tree_of a) ≡ false
absent_none a = subst (λ b. is_group (absent_tree_of b) ≡ false) (roll-out-Absent a) (absent_rolled (out-Absent a))

ast_none : (a : AstNode) (position : ℕ) → is_group (ast_tree_of a position) ≡ false
ast_none a position = subst (λ b. is_group (ast_tree_of b position) ≡ false) (roll-out-AstNode a) (ast_rolled (out-AstNode a) position)

abbrev IsOther : Expr → Type 0
IsOther e = (t : Box Expr Global) → e ≡ view.Group t → ⊥

other_rolled : (x : Expr-F Absent AstNode Expr) → IsOther (roll-Expr x) → is_group (tree_of (roll-Expr x)) ≡ false
other_rolled (Expr-F.Group t) h = absurd (h t (view.rolls-Group t))
other_rolled (Expr-F.Absent a) h =
    ap is_group (fold-roll-Expr Tree (ℕ → Tree) Tree absent_tree ast_tree node_tree (Expr-F.Absent a)) ∙ absent_none a
other_rolled (Expr-F.AstNode a position) h =
    ap is_group (fold-roll-Expr Tree (ℕ → Tree) Tree absent_tree ast_tree node_tree (Expr-F.AstNode a position)) ∙ ast_none a position
other_rolled x h = ap is_group (fold-roll-Expr Tree (ℕ → Tree) Tree absent_tree ast_tree node_tree x)

no_group : (e : Expr) → IsOther e → is_group (tree_of e) ≡ false
no_group e h =
    let back = roll-out-Expr e in
    subst (λ b. is_group (tree_of b) ≡ false) back (other_rolled (out-Expr e) (subst IsOther (sym back) h))

pub listed_infos : (xs : List InfoTree) → listed (infos xs) ≡ xs
listed_infos [] = refl
listed_infos (x ∷ xs) = ap (λ ys. x ∷ ys) (listed_infos xs)

-- the body of a group, and that of no group
pub own_is : (i : Info) (t : Box Expr Global) → (out-Info i).expr.now ≡ view.Group t → own_bodies (info_of i) ≡ map info_of (out-Info i).children.items
own_is i t is =
    let xs = infos (map info_of (out-Info i).children.items) in
    ap own_bodies (info_known i)
    ∙ ap (λ b. cond b (listed xs) []) (ap (λ e. is_group (tree_of e)) is ∙ ap is_group (tree_group t))
    ∙ listed_infos (map info_of (out-Info i).children.items)

pub none_is : (i : Info) → IsOther (out-Info i).expr.now → own_bodies (info_of i) ≡ []
none_is i other =
    let xs = infos (map info_of (out-Info i).children.items) in
    ap own_bodies (info_known i) ∙ ap (λ b. cond b (listed xs) []) (no_group (out-Info i).expr.now other)

split_by : (b : Bool) (own inner : List InfoTree) → cond b (own ++ inner) inner ≡ cond b own [] ++ inner
split_by true own inner = refl
split_by false own inner = refl

-- a node's own body, and those inside
pub bodies_are_both : (i : Info) → bodies_in (info_of i) ≡ own_bodies (info_of i) ++ bodies_in_row (out-Info i).children.items
unfolding bodies_in row_bodies_in
bodies_are_both i =
    let xs = infos (map info_of (out-Info i).children.items) in
    let t = tree_of (out-Info i).expr.now in
    ap bodies_in (info_known i) ∙ split_by (is_group t) (listed xs) (row_bodies_in xs)
    ∙ ap (λ ys. ys ++ row_bodies_in xs) (sym (ap own_bodies (info_known i)))

pub row_begins : (start : List InfoTree) → start ≡ start ++ bodies_in_row []
unfolding bodies_in row_bodies_in
row_begins start = sym (append-nil start)

bodies_after : (xs : List Info) (y : Info) → bodies_in_row (xs ++ y ∷ []) ≡ bodies_in_row xs ++ bodies_in (info_of y)
unfolding bodies_in row_bodies_in
bodies_after [] y = append-nil (bodies_in (info_of y))
bodies_after (x ∷ xs) y =
    ap (λ zs. bodies_in (info_of x) ++ zs) (bodies_after xs y) ∙ sym (append_assoc (bodies_in (info_of x)) (bodies_in_row xs) (bodies_in (info_of y)))

pub row_goes_on : (start now next : List InfoTree) (xs : List Info) (i : ℕ) (x : Info) → i < length xs → x ≡ get_or xs i x →
    now ≡ start ++ bodies_in_row (take i xs) → next ≡ now ++ bodies_in (info_of x) → next ≡ start ++ bodies_in_row (take (i + 1) xs)
row_goes_on start now next xs i x inside is was step =
    step ∙ ap (λ zs. zs ++ bodies_in (info_of x)) was ∙ append_assoc start (bodies_in_row (take i xs)) (bodies_in (info_of x))
    ∙ ap (λ zs. start ++ zs) (sym (bodies_after (take i xs) x))
    ∙ ap (λ y. start ++ bodies_in_row (take i xs ++ y ∷ [])) is
    ∙ ap (λ zs. start ++ bodies_in_row zs) (sym (take_more xs i x inside))

each_after : (xs : List Info) (y : Info) → map info_of (xs ++ y ∷ []) ≡ map info_of xs ++ info_of y ∷ []
each_after [] y = refl
each_after (x ∷ xs) y = ap (λ zs. info_of x ∷ zs) (each_after xs y)

pub each_goes_on : (start now next : List InfoTree) (xs : List Info) (i : ℕ) (x : Info) → i < length xs → x ≡ get_or xs i x →
    now ≡ start ++ map info_of (take i xs) → next ≡ now ++ info_of x ∷ [] → next ≡ start ++ map info_of (take (i + 1) xs)
each_goes_on start now next xs i x inside is was step =
    step ∙ ap (λ zs. zs ++ info_of x ∷ []) was ∙ append_assoc start (map info_of (take i xs)) (info_of x ∷ [])
    ∙ ap (λ zs. start ++ zs) (sym (each_after (take i xs) x))
    ∙ ap (λ y. start ++ map info_of (take i xs ++ y ∷ [])) is
    ∙ ap (λ zs. start ++ map info_of zs) (sym (take_more xs i x inside))

-- the whole in front, where it is a group
pub whole_first : (whole : Bool) (start now next : List InfoTree) (x : InfoTree) → now ≡ start ++ cond whole (x ∷ []) [] →
    next ≡ now ++ bodies_in x → next ≡ start ++ groups_in whole x
whole_first true start now next x was step = step ∙ ap (λ zs. zs ++ bodies_in x) was ∙ append_assoc start (x ∷ []) (bodies_in x)
whole_first false start now next x was step = step ∙ ap (λ zs. zs ++ bodies_in x) was ∙ append_assoc start [] (bodies_in x)
