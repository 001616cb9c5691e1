-- Printed rows and branches with one more.
use Rattle.std.proofs.Common.{◌≡◌, ◌++◌, ◌+◌, ◌<◌, [], ◌∷◌, List, ℕ, length, nat_lt, map, take, get_or, ap, sym, ◌∙◌, append_assoc, append-nil, codes, arith}
use Rattle.std.proofs.lemmas.Bool.{lt-ltb}
use Rattle.std.proofs.lemmas.List.{map_more, length-map, length-take-le}
use Rattle.fancy_regex_text.specs.Text.{Text}
use Rattle.fancy_regex_tree.specs.Tree.{Tree, trees}
use Rattle.fancy_regex_tree.specs.Printed.{bar, printed, printed_pieces, printed_branches, later_branches}

pub pieces_more : (ts : List Tree) (t : Tree) → printed_pieces (trees (ts ++ t ∷ [])) ≡ printed_pieces (trees ts) ++ printed 2 t
unfolding printed
pieces_more [] t = append-nil (printed 2 t)
pieces_more (u ∷ ts) t =
    ap (λ x. printed 2 u ++ x) (pieces_more ts t) ∙ sym (append_assoc (printed 2 u) (printed_pieces (trees ts)) (printed 2 t))

pub later_more : (ts : List Tree) (t : Tree) → later_branches (trees (ts ++ t ∷ [])) ≡ later_branches (trees ts) ++ (codes "|" ++ printed 1 t)
unfolding printed
later_more [] t = append-nil (codes "|" ++ printed 1 t)
later_more (u ∷ ts) t =
    ap (λ x. codes "|" ++ printed 1 u ++ x) (later_more ts t)
    ∙ sym (append_assoc (codes "|" ++ printed 1 u) (later_branches (trees ts)) (codes "|" ++ printed 1 t))

pub branches_more : (ts : List Tree) (t : Tree) →
    printed_branches (trees (ts ++ t ∷ [])) ≡ printed_branches (trees ts) ++ (bar (nat_lt 0 (length ts)) ++ printed 1 t)
unfolding printed bar
branches_more [] t = append-nil (printed 1 t)
branches_more (u ∷ ts) t =
    ap (λ x. printed 1 u ++ x) (later_more ts t) ∙ sym (append_assoc (printed 1 u) (later_branches (trees ts)) (codes "|" ++ printed 1 t))
    ∙ ap (λ b. printed_branches (trees (u ∷ ts)) ++ (bar b ++ printed 1 t)) (sym (lt-ltb 0 (length (u ∷ ts)) (omega arith)))

-- the trees of the first elements, with one more
one_more : {X : Type 0} (f : X → Tree) (xs : List X) (i : ℕ) (x : X) → i < length xs → x ≡ get_or xs i x →
    map f (take (i + 1) xs) ≡ map f (take i xs) ++ f x ∷ []
one_more f xs i x inside is = map_more f xs i x inside ∙ ap (λ y. map f (take i xs) ++ f y ∷ []) (sym is)

pub pieces_step : {X : Type 0} (f : X → Tree) (xs : List X) (i : ℕ) (x : X) (whole before after : Text) → i < length xs →
    x ≡ get_or xs i x → before ≡ whole ++ printed_pieces (trees (map f (take i xs))) → after ≡ before ++ printed 2 (f x) →
    after ≡ whole ++ printed_pieces (trees (map f (take (i + 1) xs)))
pieces_step f xs i x whole before after inside is so_far now =
    let done = map f (take i xs) in
    now ∙ ap (λ t. t ++ printed 2 (f x)) so_far ∙ append_assoc whole (printed_pieces (trees done)) (printed 2 (f x))
    ∙ ap (λ t. whole ++ t) (sym (pieces_more done (f x)) ∙ ap (λ ts. printed_pieces (trees ts)) (sym (one_more f xs i x inside is)))

pub branches_step : {X : Type 0} (f : X → Tree) (xs : List X) (i : ℕ) (x : X) (whole before between after : Text) → i < length xs →
    x ≡ get_or xs i x → before ≡ whole ++ printed_branches (trees (map f (take i xs))) → between ≡ before ++ bar (nat_lt 0 i) →
    after ≡ between ++ printed 1 (f x) → after ≡ whole ++ printed_branches (trees (map f (take (i + 1) xs)))
branches_step f xs i x whole before between after inside is so_far barred now =
    let done = map f (take i xs) in
    let count : length done ≡ i = length-map (take i xs) f ∙ length-take-le i xs (omega arith) in
    let last = bar (nat_lt 0 i) ++ printed 1 (f x) in
    now ∙ ap (λ t. t ++ printed 1 (f x)) barred ∙ append_assoc before (bar (nat_lt 0 i)) (printed 1 (f x))
    ∙ ap (λ t. t ++ last) so_far ∙ append_assoc whole (printed_branches (trees done)) last
    ∙ ap (λ t. whole ++ t) (ap (λ n. printed_branches (trees done) ++ (bar (nat_lt 0 n) ++ printed 1 (f x))) (sym count)
    ∙ sym (branches_more done (f x)) ∙ ap (λ ts. printed_branches (trees ts)) (sym (one_more f xs i x inside is)))

pub no_pieces : (whole : Text) → whole ≡ whole ++ printed_pieces (trees [])
unfolding printed
no_pieces whole = sym (append-nil whole)

pub no_branches : (whole : Text) → whole ≡ whole ++ printed_branches (trees [])
unfolding printed
no_branches whole = sym (append-nil whole)
