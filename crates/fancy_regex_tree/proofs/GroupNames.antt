-- The names of groups, one after another.
use Rattle.std.proofs.Common.{◌≡◌, ℕ, suc, ◌+◌, ◌<◌, Bool, true, false, ◌||◌, cond, Option, Some, None, List, [], ◌∷◌, ◌++◌, length, take, map, get_or, refl, ap, sym, ◌∙◌, append_assoc}
use Rattle.std.proofs.Common.{append-nil, arith, add-one, add-zero, zero-add, chars, IsUtf8}
use Rattle.std.proofs.Math.Seq.{take-suc}
use Rattle.std.proofs.lemmas.List.{map-append, length-map, length-take-le}
use Rattle.std.proofs.lemmas.List.Elements.{filter_map-append}
use Rattle.std.specs.List.{filter_map, list_any, cons_option}
use Rattle.std.proofs.lemmas.List.Folds.{list_any-append}
use Rattle.fancy_regex_tree.specs.ParseResult.{carries}
use Rattle.std.specs.Str.{bytes_eq, encode_utf8_all}
use Rattle.std.proofs.lemmas.Str.{encodes-chars}
use Rattle.std.proofs.lemmas.Slice.Eq.{bytes_eq-Decides}
use Rattle.std.proofs.lemmas.Bool.Decides.{same_from_decides}
use Rattle.std.specs.Borrow.{Bor}
use Rattle.fancy_regex_tree.specs.declared.expr.Expr.{Expr}
use Rattle.fancy_regex_tree.specs.Traversal.{tree_at}
use Rattle.fancy_regex_tree.specs.Tree.{Text, Tree}
use Rattle.fancy_regex_tree.specs.Numbering.{Names, opening_of, if_counted, counted, numbers_of, same_text, name_view}

-- the elements up to the next one
pub map_next : {X Y : Type 0} (f : X → Y) (xs : List X) (i : ℕ) (d x : X) → i < length xs → get_or xs i d ≡ x → map f (take (i + 1) xs) ≡ map f (take i xs) ++ f x ∷ []
map_next f xs i d x inside is =
    ap (λ n. map f (take n xs)) (add-one i)
    ∙ ap (map f) (take-suc xs i d inside)
    ∙ map-append f (take i xs) (get_or xs i d ∷ [])
    ∙ ap (λ y. map f (take i xs) ++ f y ∷ []) is

one_counted : (ignored : Bool) (o : Option (Option Text)) (left right : Names) → left ≡ counted ignored right
    → cons_option (if_counted ignored o) left ≡ counted ignored (cons_option o right)
one_counted ignored None left right h = h
one_counted ignored (Some (Some name)) left right h = ap (λ xs. Some name ∷ xs) h
one_counted true (Some None) left right h = h
one_counted false (Some None) left right h = ap (λ xs. None ∷ xs) h

pub counted_is : (ignored : Bool) (ts : List Tree) → filter_map (λ t. if_counted ignored (opening_of t)) ts ≡ counted ignored (filter_map opening_of ts)
counted_is ignored [] = refl
counted_is ignored (t ∷ ts) = one_counted ignored (opening_of t) _ _ (counted_is ignored ts)

pub numbers_more : (name : Text) (n : ℕ) (names : Names) (last : Option Text) → numbers_of name n (names ++ last ∷ []) ≡ numbers_of name n names ++ numbers_of name (n + length names) (last ∷ [])
unfolding numbers_of
numbers_more name n [] last = ap (λ k. numbers_of name k (last ∷ [])) (sym (add-zero n))
numbers_more name n (None ∷ names) last =
    let e : suc n + length names ≡ n + suc (length names) = omega arith in
    numbers_more name (suc n) names last ∙ ap (λ k. numbers_of name (suc n) names ++ numbers_of name k (last ∷ [])) e
numbers_more name n (Some other ∷ names) last =
    let e : suc n + length names ≡ n + suc (length names) = omega arith in
    let one = cond (same_text other name) (suc n ∷ []) [] in
    ap (λ ks. one ++ ks) (numbers_more name (suc n) names last ∙ ap (λ k. numbers_of name (suc n) names ++ numbers_of name k (last ∷ [])) e)
    ∙ sym (append_assoc one (numbers_of name (suc n) names) (numbers_of name (n + suc (length names)) (last ∷ [])))

-- one more node, which may open a group that counts
pub kept_next : (f : Tree → Option (Option Text)) (xs : List (Bor Expr)) (i : ℕ) (x : Bor Expr) (names more : Names) (o : Option (Option Text)) → i < length xs → get_or xs i x ≡ x
    → names ≡ filter_map f (map tree_at (take i xs)) → o ≡ f (tree_at x) → more ≡ names ++ cons_option o []
    → more ≡ filter_map f (map tree_at (take (i + 1) xs))
kept_next f xs i x names more o inside is h found e =
    e
    ∙ ap (λ ns. ns ++ cons_option o []) h
    ∙ ap (λ p. filter_map f (map tree_at (take i xs)) ++ cons_option p []) found
    ∙ sym (ap (filter_map f) (map_next tree_at xs i x x inside is) ∙ filter_map-append f (map tree_at (take i xs)) (tree_at x ∷ []))

-- texts are the same where their bytes are
same_bytes : (q name : List ℕ) → IsUtf8 q → IsUtf8 name → same_text (chars name) (chars q) ≡ bytes_eq q name
same_bytes q name uq un =
    let there : same_text (chars name) (chars q) ≡ true → q ≡ name = λ h.
    sym (encodes-chars q uq) ∙ ap encode_utf8_all (sym ((bytes_eq-Decides (chars name) (chars q)).0 h)) ∙ encodes-chars name un in
    let back : q ≡ name → same_text (chars name) (chars q) ≡ true = λ e. (bytes_eq-Decides (chars name) (chars q)).1 (ap chars (sym e)) in
    same_from_decides (same_text (chars name) (chars q)) (bytes_eq q name) (there, back) (bytes_eq-Decides q name)

one_number : (b : Bool) (i : ℕ) (old : List ℕ) → cond b (old ++ (i + 1) ∷ []) old ≡ old ++ (cond b (suc i ∷ []) [] ++ [])
one_number true i old = ap (λ n. old ++ n ∷ []) (add-one i)
one_number false i old = sym (append-nil old)

-- one more opening with a name
pub named_next : (q name : List ℕ) → IsUtf8 q → IsUtf8 name → (xs : List (Option (Bor (List ℕ)))) (i : ℕ) (d x : Option (Bor (List ℕ))) (old new : List ℕ) → i < length xs → get_or xs i d ≡ x
    → name_view x ≡ Some (chars name) → old ≡ numbers_of (chars q) 0 (map name_view (take i xs)) → new ≡ cond (bytes_eq q name) (old ++ (i + 1) ∷ []) old
    → new ≡ numbers_of (chars q) 0 (map name_view (take (i + 1) xs))
unfolding numbers_of
named_next q name uq un xs i d x old new inside is named h e =
    let front : Names = map name_view (take i xs) in
    let count : 0 + length front ≡ i = zero-add (length front) ∙ length-map (take i xs) name_view ∙ length-take-le i xs (omega (arith, inside)) in
    e
    ∙ one_number (bytes_eq q name) i old
    ∙ ap (λ b. old ++ (cond b (suc i ∷ []) [] ++ [])) (sym (same_bytes q name uq un))
    ∙ ap (λ ns. ns ++ numbers_of (chars q) i (Some (chars name) ∷ [])) h
    ∙ ap (λ k. numbers_of (chars q) 0 front ++ numbers_of (chars q) k (Some (chars name) ∷ [])) (sym count)
    ∙ sym (numbers_more (chars q) 0 front (Some (chars name)))
    ∙ ap (λ o. numbers_of (chars q) 0 (front ++ o ∷ [])) (sym named)
    ∙ ap (numbers_of (chars q) 0) (sym (map_next name_view xs i d x inside is))

-- one more opening without a name
pub unnamed_next : (q : List ℕ) (xs : List (Option (Bor (List ℕ)))) (i : ℕ) (d x : Option (Bor (List ℕ))) (old : List ℕ) → i < length xs → get_or xs i d ≡ x
    → name_view x ≡ None → old ≡ numbers_of (chars q) 0 (map name_view (take i xs)) → old ≡ numbers_of (chars q) 0 (map name_view (take (i + 1) xs))
unfolding numbers_of
unnamed_next q xs i d x old inside is named h =
    let front : Names = map name_view (take i xs) in
    h
    ∙ sym (append-nil (numbers_of (chars q) 0 front))
    ∙ sym (numbers_more (chars q) 0 front None)
    ∙ ap (λ o. numbers_of (chars q) 0 (front ++ o ∷ [])) (sym named)
    ∙ ap (numbers_of (chars q) 0) (sym (map_next name_view xs i d x inside is))

pub none_named : (name : Text) → [] ≡ numbers_of name 0 []
unfolding numbers_of
none_named name = refl

or_none : (b : Bool) → b ≡ (b || false)
or_none true = refl
or_none false = refl

one_key : (q : List ℕ) (names : Names) (o : Option Text) → list_any (carries (chars q)) (names ++ o ∷ []) ≡ (list_any (carries (chars q)) names || carries (chars q) o)
one_key q names o =
    list_any-append (carries (chars q)) names (o ∷ []) ∙ ap (λ b. list_any (carries (chars q)) names || b) (sym (or_none (carries (chars q) o)))

-- one more opening with a name, which is a key
pub key_next : (q name : List ℕ) → IsUtf8 q → IsUtf8 name → (xs : List (Option (Bor (List ℕ)))) (i : ℕ) (d x : Option (Bor (List ℕ))) (old new : Bool) → i < length xs → get_or xs i d ≡ x
    → name_view x ≡ Some (chars name) → old ≡ list_any (carries (chars q)) (map name_view (take i xs)) → new ≡ (old || bytes_eq q name)
    → new ≡ list_any (carries (chars q)) (map name_view (take (i + 1) xs))
key_next q name uq un xs i d x old new inside is named h e =
    let front : Names = map name_view (take i xs) in
    e
    ∙ ap (λ b. b || bytes_eq q name) h
    ∙ ap (λ b. list_any (carries (chars q)) front || b) (sym (same_bytes q name uq un))
    ∙ sym (one_key q front (Some (chars name)))
    ∙ ap (λ o. list_any (carries (chars q)) (front ++ o ∷ [])) (sym named)
    ∙ ap (list_any (carries (chars q))) (sym (map_next name_view xs i d x inside is))

-- one more opening without a name, which is none
pub no_key_next : (q : List ℕ) (xs : List (Option (Bor (List ℕ)))) (i : ℕ) (d x : Option (Bor (List ℕ))) (old : Bool) → i < length xs → get_or xs i d ≡ x
    → name_view x ≡ None → old ≡ list_any (carries (chars q)) (map name_view (take i xs)) → old ≡ list_any (carries (chars q)) (map name_view (take (i + 1) xs))
no_key_next q xs i d x old inside is named h =
    let front : Names = map name_view (take i xs) in
    h
    ∙ or_none (list_any (carries (chars q)) front)
    ∙ sym (one_key q front None)
    ∙ ap (λ o. list_any (carries (chars q)) (front ++ o ∷ [])) (sym named)
    ∙ ap (list_any (carries (chars q))) (sym (map_next name_view xs i d x inside is))
