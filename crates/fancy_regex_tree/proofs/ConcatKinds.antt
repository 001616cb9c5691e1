-- The form of a row from the forms of its pieces.
use Rattle.std.proofs.Common.{◌≡◌, ◌++◌, ◌+◌, ◌<◌, [], ◌∷◌, List, ℕ, length, map, take, get_or, refl, ap, sym, subst, ◌∙◌}
use Rattle.std.proofs.lemmas.List.{map_more}
use Rattle.fancy_regex_tree.specs.Tree.{Tree, trees, Trees, no_trees, more_trees}
use Rattle.fancy_regex_tree.specs.NormalForm.{node_kind, with_piece, row_of, normal_form, normal_pieces}
use Rattle.fancy_regex_tree.specs.NormalFormKinds.{followed_by}
use Rattle.fancy_regex_tree.specs.declared.normal_form_kind.NormalFormKind.{NormalFormKind}
use Rattle.fancy_regex_tree.specs.declared.normal_form_kind.NormalFormKind.TheVariants.{Empty, Anchor, Repeatable}

-- no tree of the list is `Empty`
abbrev pub IsFull : NormalFormKind → Type 0
IsFull Empty = ⊥
IsFull Anchor = Unit {0}
IsFull Repeatable = Unit {0}

abbrev pub AllFull : Trees → Type 0
AllFull no_trees = Unit {0}
AllFull (more_trees t ts) = IsFull (node_kind t) × AllFull ts

unfoldable pub piece_at : NormalFormKind → Tree → Trees → Trees
piece_at Empty t ts = ts
piece_at Anchor t ts = more_trees t ts
piece_at Repeatable t ts = more_trees t ts

pub piece_is : (t : Tree) (ts : Trees) (s : NormalFormKind) → node_kind t ≡ s → with_piece t ts ≡ piece_at s t ts
unfolding with_piece piece_at
piece_is t ts s is = ap (λ r. elim r [ Empty ↦ ts | Anchor ↦ more_trees t ts | Repeatable ↦ more_trees t ts ]) is ∙ same s
  where
    same : (r : NormalFormKind) → elim r [ Empty ↦ ts | Anchor ↦ more_trees t ts | Repeatable ↦ more_trees t ts ] ≡ piece_at r t ts
    same Empty = refl
    same Anchor = refl
    same Repeatable = refl

full_at : (s : NormalFormKind) (t : Tree) (ts : Trees) → node_kind t ≡ s → AllFull ts → AllFull (piece_at s t ts)
unfolding piece_at
full_at Empty t ts is full = full
full_at Anchor t ts is full = (subst IsFull (sym is) tt, full)
full_at Repeatable t ts is full = (subst IsFull (sym is) tt, full)

with_piece_full : (t : Tree) (ts : Trees) → AllFull ts → AllFull (with_piece t ts)
with_piece_full t ts full = subst AllFull (sym (piece_is t ts (node_kind t) refl)) (full_at (node_kind t) t ts refl full)

pub normal_pieces_full : (ts : Trees) → AllFull (normal_pieces ts)
unfolding normal_form
normal_pieces_full no_trees = tt
normal_pieces_full (more_trees t ts) = with_piece_full (normal_form t) (normal_pieces ts) (normal_pieces_full ts)

followed_by_nothing : (s : NormalFormKind) → s ≡ followed_by s Empty
unfolding followed_by
followed_by_nothing Empty = refl
followed_by_nothing Anchor = refl
followed_by_nothing Repeatable = refl

two_full : (s r : NormalFormKind) → IsFull s → IsFull r → Repeatable ≡ followed_by s r
unfolding followed_by
two_full Empty r full after = absurd full
two_full Anchor Empty full after = absurd after
two_full Anchor Anchor full after = refl
two_full Anchor Repeatable full after = refl
two_full Repeatable r full after = refl

pub followed_by_assoc : (a b c : NormalFormKind) → followed_by (followed_by a b) c ≡ followed_by a (followed_by b c)
unfolding followed_by
followed_by_assoc Empty b c = refl
followed_by_assoc Repeatable b c = refl
followed_by_assoc Anchor Empty c = refl
followed_by_assoc Anchor Anchor Empty = refl
followed_by_assoc Anchor Anchor Anchor = refl
followed_by_assoc Anchor Anchor Repeatable = refl
followed_by_assoc Anchor Repeatable c = refl

full_front : (t : Tree) (ts : Trees) → IsFull (node_kind t) → AllFull ts →
    node_kind (row_of (more_trees t ts)) ≡ followed_by (node_kind t) (node_kind (row_of ts))
unfolding node_kind row_of
full_front t no_trees full all = followed_by_nothing (node_kind t)
full_front t (more_trees u no_trees) full all = two_full (node_kind t) (node_kind u) full all.0
full_front t (more_trees u (more_trees v ts)) full all = two_full (node_kind t) Repeatable full tt

front_at : (s : NormalFormKind) (t : Tree) (ts : Trees) → node_kind t ≡ s → AllFull ts →
    node_kind (row_of (piece_at s t ts)) ≡ followed_by s (node_kind (row_of ts))
unfolding piece_at followed_by
front_at Empty t ts is all = refl
front_at Anchor t ts is all = full_front t ts (subst IsFull (sym is) tt) all ∙ ap (λ s. followed_by s (node_kind (row_of ts))) is
front_at Repeatable t ts is all = full_front t ts (subst IsFull (sym is) tt) all ∙ ap (λ s. followed_by s (node_kind (row_of ts))) is

-- a piece in front
front : (t : Tree) (ts : Trees) → AllFull ts → node_kind (row_of (with_piece t ts)) ≡ followed_by (node_kind t) (node_kind (row_of ts))
front t ts all = ap (λ r. node_kind (row_of r)) (piece_is t ts (node_kind t) refl) ∙ front_at (node_kind t) t ts refl all

abbrev pub row_form : List Tree → NormalFormKind
row_form ts = node_kind (row_of (normal_pieces (trees ts)))

row_front : (t : Tree) (ts : List Tree) → row_form (t ∷ ts) ≡ followed_by (node_kind (normal_form t)) (row_form ts)
unfolding normal_form
row_front t ts = front (normal_form t) (normal_pieces (trees ts)) (normal_pieces_full (trees ts))

pub no_row : row_form [] ≡ Empty
unfolding normal_form row_of node_kind
no_row = refl

nothing_in_front : (s : NormalFormKind) → s ≡ followed_by Empty s
unfolding followed_by
nothing_in_front s = refl

-- a piece after the others
pub row_more : (ts : List Tree) (t : Tree) → row_form (ts ++ t ∷ []) ≡ followed_by (row_form ts) (node_kind (normal_form t))
row_more [] t =
    row_front t [] ∙ ap (λ s. followed_by (node_kind (normal_form t)) s) no_row ∙ sym (followed_by_nothing (node_kind (normal_form t)))
    ∙ nothing_in_front (node_kind (normal_form t)) ∙ ap (λ s. followed_by s (node_kind (normal_form t))) (sym no_row)
row_more (u ∷ ts) t =
    row_front u (ts ++ t ∷ []) ∙ ap (λ s. followed_by (node_kind (normal_form u)) s) (row_more ts t)
    ∙ sym (followed_by_assoc (node_kind (normal_form u)) (row_form ts) (node_kind (normal_form t)))
    ∙ ap (λ s. followed_by s (node_kind (normal_form t))) (sym (row_front u ts))

pub row_step : {X : Type 0} (f : X → Tree) (xs : List X) (i : ℕ) (x : X) (before next after : NormalFormKind) → i < length xs →
    x ≡ get_or xs i x → before ≡ row_form (map f (take i xs)) → next ≡ node_kind (normal_form (f x)) →
    after ≡ followed_by before next → after ≡ row_form (map f (take (i + 1) xs))
row_step f xs i x before next after inside is so_far one now =
    let done = map f (take i xs) in
    let more : map f (take (i + 1) xs) ≡ done ++ f x ∷ [] = map_more f xs i x inside ∙ ap (λ y. done ++ f y ∷ []) (sym is) in
    now ∙ ap (λ s. followed_by s next) so_far ∙ ap (λ s. followed_by (row_form done) s) one ∙ sym (row_more done (f x))
    ∙ ap row_form (sym more)
