-- How many nodes pieces and branches make, and how long their paths are.
use Rattle.std.proofs.Common.{◌≡◌, ℕ, zero, suc, ◌+◌, ◌-◌, ◌*◌, ◌≤◌, ◌<◌, max, Bool, true, false, cond, List, [], ◌∷◌, ◌++◌, length, Result, Ok, Err, IfOk, refl, ap, arith}
use Rattle.std.proofs.Math.Nat.{le-max_left, le-max_right, max-le}
use Rattle.fancy_regex_tree.specs.Tree.{Tree, concat, alt, trees}
use Rattle.fancy_regex_tree.specs.TreeBuilders.{is_empty_tree, without_empty, joined, branch_of, all_branches, pattern_of}
use Rattle.fancy_regex_tree.specs.Parser.{Branches, is_empty_body, conditional_of_branches, make_conditional, absent_of_branches, absent_bar_of}
use Rattle.fancy_regex_tree.specs.Bounds.{nodes, nodes_of, depth, depth_of, pieces_measure, branches_measure, max_depth, max_depth_of_all}

max_parts : (a b d : ℕ) → max a b ≤ d → (a ≤ d) × (b ≤ d)
max_parts a b d h = (omega (arith, le-max_left a b, h), omega (arith, le-max_right a b, h))

nodes_trees : (ts : List Tree) → nodes_of (trees ts) + length ts ≡ pieces_measure ts
nodes_trees [] = refl
nodes_trees (t ∷ ts) = omega (arith, nodes_trees ts)

depth_trees : (ts : List Tree) → depth_of (trees ts) ≡ max_depth ts
depth_trees [] = refl
depth_trees (t ∷ ts) = ap (λ d. max (depth t) d) (depth_trees ts)

pub weigh_push : (ts : List Tree) (t : Tree) → pieces_measure (ts ++ t ∷ []) ≡ pieces_measure ts + nodes t + 1
weigh_push [] t = omega arith
weigh_push (u ∷ us) t = omega (arith, weigh_push us t)

pub tallest_push : (d : ℕ) (ts : List Tree) (t : Tree) → max_depth ts ≤ d → depth t ≤ d → max_depth (ts ++ t ∷ []) ≤ d
tallest_push d [] t h k = max-le k (omega arith)
tallest_push d (u ∷ us) t h k = let parts = max_parts (depth u) (max_depth us) d h in max-le parts.0 (tallest_push d us t parts.1 k)

pub weigh_all_push : (bs : Branches) (b : List Tree) → branches_measure (bs ++ b ∷ []) ≡ branches_measure bs + pieces_measure b + 2
weigh_all_push [] b = omega arith
weigh_all_push (c ∷ bs) b = omega (arith, weigh_all_push bs b)

pub tallest_of_all_push : (d : ℕ) (bs : Branches) (b : List Tree) → max_depth_of_all bs ≤ d → max_depth b ≤ d → max_depth_of_all (bs ++ b ∷ []) ≤ d
tallest_of_all_push d [] b h k = max-le k (omega arith)
tallest_of_all_push d (c ∷ bs) b h k =
    let parts = max_parts (max_depth c) (max_depth_of_all bs) d h in max-le parts.0 (tallest_of_all_push d bs b parts.1 k)

kept_small : (e : Tree) (es : List Tree) (n : ℕ) (b : Bool) → pieces_measure es ≤ n → pieces_measure (elim b [ true ↦ es | false ↦ e ∷ es ]) ≤ suc (nodes e) + n
kept_small e es n true h = omega (arith, h)
kept_small e es n false h = omega (arith, h)

without_empty_small : (es : List Tree) → pieces_measure (without_empty es) ≤ pieces_measure es
without_empty_small [] = omega arith
without_empty_small (e ∷ es) = kept_small e (without_empty es) (pieces_measure es) (is_empty_tree e) (without_empty_small es)

kept_low : (d : ℕ) (e : Tree) (es : List Tree) (b : Bool) → depth e ≤ d → max_depth es ≤ d → max_depth (elim b [ true ↦ es | false ↦ e ∷ es ]) ≤ d
kept_low d e es true h k = k
kept_low d e es false h k = max-le h k

without_empty_low : (d : ℕ) (es : List Tree) → max_depth es ≤ d → max_depth (without_empty es) ≤ d
without_empty_low d [] h = h
without_empty_low d (e ∷ es) h =
    let parts = max_parts (depth e) (max_depth es) d h in
    kept_low d e (without_empty es) (is_empty_tree e) parts.0 (without_empty_low d es parts.1)

concat_small : (ts : List Tree) → nodes (joined concat ts) ≤ pieces_measure ts + 1
concat_small [] = omega arith
concat_small (t ∷ []) = omega arith
concat_small (t ∷ u ∷ us) = omega (arith, nodes_trees us)

concat_low : (d : ℕ) (ts : List Tree) → max_depth ts ≤ d → depth (joined concat ts) ≤ d + 1
concat_low d [] h = omega arith
concat_low d (t ∷ []) h = omega (arith, (max_parts (depth t) 0 d h).0)
concat_low d (t ∷ u ∷ us) h = let same = depth_trees (t ∷ u ∷ us) in omega (arith, same, h)

alt_low : (d : ℕ) (ts : List Tree) → max_depth ts ≤ d → depth (joined alt ts) ≤ d + 1
alt_low d [] h = omega arith
alt_low d (t ∷ []) h = omega (arith, (max_parts (depth t) 0 d h).0)
alt_low d (t ∷ u ∷ us) h = let same = depth_trees (t ∷ u ∷ us) in omega (arith, same, h)

pub branch_small : (ps : List Tree) → nodes (branch_of ps) ≤ pieces_measure ps + 1
branch_small ps = omega (arith, concat_small (without_empty ps), without_empty_small ps)

pub branch_low : (d : ℕ) (ps : List Tree) → max_depth ps ≤ d → depth (branch_of ps) ≤ d + 1
branch_low d ps h = concat_low d (without_empty ps) (without_empty_low d ps h)

all_small : (bs : Branches) → pieces_measure (all_branches bs) ≤ branches_measure bs
all_small [] = omega arith
all_small (b ∷ bs) = omega (arith, branch_small b, all_small bs)

all_low : (d : ℕ) (bs : Branches) → max_depth_of_all bs ≤ d → max_depth (all_branches bs) ≤ d + 1
all_low d [] h = omega arith
all_low d (b ∷ bs) h =
    let parts = max_parts (max_depth b) (max_depth_of_all bs) d h in max-le (branch_low d b parts.0) (all_low d bs parts.1)

pub pattern_small : (n : ℕ) (bs : Branches) → branches_measure bs ≤ n → 2 ≤ n → nodes (pattern_of bs) + 1 ≤ n
pattern_small n [] h two = two
pattern_small n (b ∷ []) h two = omega (arith, branch_small b, h)
pattern_small n (b ∷ c ∷ bs) h two =
    omega (arith, nodes_trees (all_branches bs), all_small bs, branch_small b, branch_small c, h)

pub pattern_low : (d : ℕ) (bs : Branches) → max_depth_of_all bs ≤ d → depth (pattern_of bs) ≤ d + 2
pattern_low d bs h = omega (arith, alt_low (d + 1) (all_branches bs) (all_low d bs h))

others_small : (bs : Branches) → nodes (pattern_of bs) ≤ branches_measure bs + 1
others_small [] = omega arith
others_small (b ∷ bs) = omega (arith, pattern_small (branches_measure (b ∷ bs)) (b ∷ bs) (omega arith) (omega arith))

pub yes_and_no_small : (n : ℕ) (c : Tree) (bs : Branches) → branches_measure bs ≤ n → 2 ≤ n → nodes (conditional_of_branches c bs) ≤ nodes c + n + 1
yes_and_no_small n c [] h two = omega (arith, two)
yes_and_no_small n c (b ∷ bs) h two = omega (arith, branch_small b, others_small bs, h)

pub yes_and_no_low : (d : ℕ) (c : Tree) (bs : Branches) → max_depth_of_all bs ≤ d → depth c ≤ d + 2 → depth (conditional_of_branches c bs) ≤ d + 3
yes_and_no_low d c [] h k = let low = max-le {a = depth c} {b = 1} {k = d + 2} k (omega arith) in omega (arith, low)
yes_and_no_low d c (b ∷ bs) h k =
    let parts = max_parts (max_depth b) (max_depth_of_all bs) d h in
    let inner = max-le {a = depth (branch_of b)} {b = depth (pattern_of bs)} {k = d + 2} (omega (arith, branch_low d b parts.0)) (pattern_low d bs parts.1) in
    let low = max-le {a = depth c} {b = max (depth (branch_of b)) (depth (pattern_of bs))} {k = d + 2} k inner in
    omega (arith, low)

if_small : (b : Bool) (t u : Tree) (n : ℕ) → nodes t ≤ n → nodes u ≤ n → nodes (cond b t u) ≤ n
if_small true t u n h k = h
if_small false t u n h k = k

if_low : (b : Bool) (t u : Tree) (d : ℕ) → depth t ≤ d → depth u ≤ d → depth (cond b t u) ≤ d
if_low true t u d h k = h
if_low false t u d h k = k

pub tested_small : (n : ℕ) (c : Tree) (bs : Branches) → branches_measure bs ≤ n → 2 ≤ n → nodes (make_conditional c bs) ≤ nodes c + n + 1
tested_small n c bs h two = if_small (is_empty_body bs) c (conditional_of_branches c bs) _ (omega arith) (yes_and_no_small n c bs h two)

pub tested_low : (d : ℕ) (c : Tree) (bs : Branches) → max_depth_of_all bs ≤ d → depth c ≤ d + 2 → depth (make_conditional c bs) ≤ d + 3
tested_low d c bs h k = if_low (is_empty_body bs) c (conditional_of_branches c bs) _ (omega (arith, k)) (yes_and_no_low d c bs h k)

bounded_small : (n : ℕ) (bs : Branches) → branches_measure bs ≤ n → 2 ≤ n → nodes (absent_of_branches bs) ≤ n
bounded_small n [] h two = omega (arith, two)
bounded_small n (b ∷ []) h two = omega (arith, branch_small b, h)
bounded_small n (b ∷ c ∷ bs) h two =
    omega (arith, branch_small b, pattern_small (branches_measure (c ∷ bs)) (c ∷ bs) (omega arith) (omega arith), h)

bounded_low : (d : ℕ) (bs : Branches) → max_depth_of_all bs ≤ d → depth (absent_of_branches bs) ≤ d + 3
bounded_low d [] h = omega arith
bounded_low d (b ∷ []) h = omega (arith, branch_low d b (max_parts (max_depth b) 0 d h).0)
bounded_low d (b ∷ c ∷ bs) h =
    let parts = max_parts (max_depth b) (max_depth_of_all (c ∷ bs)) d h in
    let low = max-le {a = depth (branch_of b)} {b = depth (pattern_of (c ∷ bs))} {k = d + 2} (omega (arith, branch_low d b parts.0)) (pattern_low d (c ∷ bs) parts.1) in
    omega (arith, low)

pub absent_small : (n : ℕ) (bs : Branches) → branches_measure bs ≤ n → 2 ≤ n → nodes (absent_bar_of bs) ≤ n
absent_small n bs h two = if_small (is_empty_body bs) _ (absent_of_branches bs) n (omega (arith, two)) (bounded_small n bs h two)

pub absent_low : (d : ℕ) (bs : Branches) → max_depth_of_all bs ≤ d → depth (absent_bar_of bs) ≤ d + 3
absent_low d bs h = if_low (is_empty_body bs) _ (absent_of_branches bs) _ (omega arith) (bounded_low d bs h)

-- The steps of the parser. Lengths are those of the texts before and after what is read.

pub if_ok : {X E : Type 0} (P Q : X → Type 0) (r : Result X E) → ((x : X) → P x → Q x) → IfOk r P → IfOk r Q
if_ok P Q (Ok x) f h = f x h
if_ok P Q (Err e) f h = tt

pub piece_read : (before : List Tree) (t : Tree) (text rest here after : ℕ) → pieces_measure before + 2 * rest ≤ 2 * text → here ≤ rest →
    nodes t + 2 * after ≤ 2 * (here - 1) + 1 → 0 < here → pieces_measure (before ++ t ∷ []) + 2 * after ≤ 2 * text
piece_read before t text rest (suc here) after now fits small some = omega (arith, weigh_push before t, now, fits, small)
piece_read before t text rest zero after now fits small some = absurd (omega (arith, some))

pub branch_read : (before : Branches) (b : List Tree) (text rest after : ℕ) → branches_measure before + 2 * rest ≤ 2 * text →
    pieces_measure b + 2 * after ≤ 2 * rest → branches_measure (before ++ b ∷ []) + 2 * after ≤ 2 * text + 2
branch_read before b text rest after now small = omega (arith, weigh_all_push before b, now, small)

pub bar_read : (before : Branches) (b : List Tree) (text rest after next : ℕ) → branches_measure before + 2 * rest ≤ 2 * text →
    pieces_measure b + 2 * after ≤ 2 * rest → next + 1 ≤ after → branches_measure (before ++ b ∷ []) + 2 * next ≤ 2 * text
bar_read before b text rest after next now small bar = omega (arith, weigh_all_push before b, now, small, bar)

room : (w text rest : ℕ) → w + 2 * rest ≤ 2 * text → rest < text → (n : ℕ) × (w ≤ n) × (2 ≤ n) × (n + 2 * rest ≡ 2 * text)
room w text rest h k = (2 * text - 2 * rest, omega (arith, h, k), omega (arith, h, k), omega (arith, h, k))

pub pattern_read : (bs : Branches) (text rest : ℕ) → branches_measure bs + 2 * rest ≤ 2 * text → rest < text →
    nodes (pattern_of bs) + 1 + 2 * rest ≤ 2 * text
pattern_read bs text rest h k =
    let (n, fits, two, is) = room (branches_measure bs) text rest h k in omega (arith, pattern_small n bs fits two, is)

pub tested_read : (c : Tree) (bs : Branches) (text rest : ℕ) → branches_measure bs + 2 * rest ≤ 2 * text → rest < text →
    nodes (make_conditional c bs) + 2 * rest ≤ 2 * text + nodes c + 1
tested_read c bs text rest h k =
    let (n, fits, two, is) = room (branches_measure bs) text rest h k in omega (arith, tested_small n c bs fits two, is)

pub expression_read : (c : Tree) (bs : Branches) (text middle rest : ℕ) → nodes c + 1 + 2 * middle ≤ 2 * text → branches_measure bs + 2 * rest ≤ 2 * middle →
    rest < middle → nodes (conditional_of_branches c bs) + 2 * rest ≤ 2 * text
expression_read c bs text middle rest small h k =
    let (n, fits, two, is) = room (branches_measure bs) middle rest h k in omega (arith, yes_and_no_small n c bs fits two, is, small)

pub absent_read : (bs : Branches) (text rest : ℕ) → branches_measure bs + 2 * rest ≤ 2 * text → rest < text →
    nodes (absent_bar_of bs) + 2 * rest ≤ 2 * text + 1
absent_read bs text rest h k =
    let (n, fits, two, is) = room (branches_measure bs) text rest h k in omega (arith, absent_small n bs fits two, is)

pub whole_read : (bs : Branches) (text rest : ℕ) → branches_measure bs + 2 * rest ≤ 2 * text + 2 → nodes (pattern_of bs) ≤ 2 * text + 1
whole_read bs text rest h = omega (arith, pattern_small (2 * text + 2) bs (omega (arith, h)) (omega arith))

pub opened_read : (n text rest following extra_nodes : ℕ) → n + 2 * rest ≤ 2 * following + 1 + extra_nodes → following ≤ text - 1 → extra_nodes ≤ 1 →
    (0 < extra_nodes → following + 2 ≤ text) → n + 2 * rest ≤ 2 * (text - 1) + 1
opened_read n text rest following zero small fits least long = omega (arith, small, fits)
opened_read n zero rest following (suc extra_nodes) small fits least long = absurd (omega (arith, long (omega arith)))
opened_read n (suc text) rest following (suc extra_nodes) small fits least long = omega (arith, small, least, long (omega arith))
