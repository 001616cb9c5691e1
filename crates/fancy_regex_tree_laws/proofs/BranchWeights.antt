-- How many units pieces and branches make. Lengths are those of the texts before and after what is read.
use Rattle.std.proofs.Common.{◌≡◌, ℕ, ◌+◌, ◌-◌, ◌*◌, ◌≤◌, ◌<◌, Bool, true, false, cond, List, [], ◌∷◌, refl, arith}
use Rattle.fancy_regex_tree.specs.Tree.{Tree, concat, trees}
use Rattle.fancy_regex_tree.specs.TreeBuilders.{is_empty_tree, without_empty, joined, branch_of, all_branches, pattern_of}
use Rattle.fancy_regex_tree.specs.Parser.{Branches, is_empty_body, conditional_of_branches, absent_of_branches, absent_bar_of}
use Rattle.fancy_regex_tree_laws.proofs.WeightUnits.{units, units_of, branch_units, pieces_measure, branches_measure}

-- the parts of a row
units_trees : (ts : List Tree) → units_of (trees ts) ≤ pieces_measure ts
units_trees [] = omega arith
units_trees (t ∷ ts) = omega (arith, units_trees ts)

branch_units_trees : (ts : List Tree) → branch_units (trees ts) ≡ pieces_measure ts
branch_units_trees [] = refl
branch_units_trees (t ∷ ts) = omega (arith, branch_units_trees ts)

kept_small : (e : Tree) (es : List Tree) (n : ℕ) (b : Bool) → pieces_measure es ≤ n → pieces_measure (elim b [ true ↦ es | false ↦ e ∷ es ]) ≤ units e + 3 + n
kept_small e es n true h = omega (arith, h)
kept_small e es n false h = omega (arith, h)

without_empty_small : (es : List Tree) → pieces_measure (without_empty es) ≤ pieces_measure es
without_empty_small [] = omega arith
without_empty_small (e ∷ es) = kept_small e (without_empty es) (pieces_measure es) (is_empty_tree e) (without_empty_small es)

concat_small : (ts : List Tree) → units (joined concat ts) ≤ pieces_measure ts + 1
concat_small [] = omega arith
concat_small (t ∷ []) = omega arith
concat_small (t ∷ u ∷ us) = omega (arith, units_trees us)

branch_small : (ps : List Tree) → units (branch_of ps) ≤ pieces_measure ps + 1
branch_small ps = omega (arith, concat_small (without_empty ps), without_empty_small ps)

all_small : (bs : Branches) → pieces_measure (all_branches bs) ≤ branches_measure bs
all_small [] = omega arith
all_small (b ∷ bs) = omega (arith, branch_small b, all_small bs)

pattern_small : (n : ℕ) (bs : Branches) → branches_measure bs ≤ n → 4 ≤ n → units (pattern_of bs) + 3 ≤ n
pattern_small n [] h four = four
pattern_small n (b ∷ []) h four = omega (arith, branch_small b, h)
pattern_small n (b ∷ c ∷ bs) h four =
    omega (arith, branch_units_trees (all_branches bs), all_small bs, branch_small b, branch_small c, h)

others_small : (bs : Branches) → units (pattern_of bs) ≤ branches_measure bs + 1
others_small [] = omega arith
others_small (b ∷ bs) = omega (arith, pattern_small (branches_measure (b ∷ bs)) (b ∷ bs) (omega arith) (omega arith))

yes_and_no_small : (n : ℕ) (c : Tree) (bs : Branches) → branches_measure bs ≤ n → 4 ≤ n → units (conditional_of_branches c bs) ≤ units c + n + 1
yes_and_no_small n c [] h four = omega (arith, four)
yes_and_no_small n c (b ∷ bs) h four = omega (arith, branch_small b, others_small bs, h)

if_small : (b : Bool) (t u : Tree) (n : ℕ) → units t ≤ n → units u ≤ n → units (cond b t u) ≤ n
if_small true t u n h k = h
if_small false t u n h k = k

bounded_small : (n : ℕ) (bs : Branches) → branches_measure bs ≤ n → 4 ≤ n → units (absent_of_branches bs) ≤ n
bounded_small n [] h four = omega (arith, four)
bounded_small n (b ∷ []) h four = omega (arith, branch_small b, h)
bounded_small n (b ∷ c ∷ bs) h four =
    omega (arith, branch_small b, pattern_small (branches_measure (c ∷ bs)) (c ∷ bs) (omega arith) (omega arith), h)

absent_small : (n : ℕ) (bs : Branches) → branches_measure bs ≤ n → 4 ≤ n → units (absent_bar_of bs) ≤ n
absent_small n bs h four = if_small (is_empty_body bs) _ (absent_of_branches bs) n (omega (arith, four)) (bounded_small n bs h four)

room : (w text rest : ℕ) → w + 4 * rest ≤ 4 * text → rest < text → (n : ℕ) × (w ≤ n) × (4 ≤ n) × (n + 4 * rest ≡ 4 * text)
room w text rest h k = (4 * text - 4 * rest, omega (arith, h, k), omega (arith, h, k), omega (arith, h, k))

pub pattern_read : (bs : Branches) (text rest : ℕ) → branches_measure bs + 4 * rest ≤ 4 * text → rest < text →
    units (pattern_of bs) + 3 + 4 * rest ≤ 4 * text
pattern_read bs text rest h k =
    let (n, fits, four, is) = room (branches_measure bs) text rest h k in omega (arith, pattern_small n bs fits four, is)

pub expression_read : (c : Tree) (bs : Branches) (text middle rest : ℕ) → units c + 3 + 4 * middle ≤ 4 * text → branches_measure bs + 4 * rest ≤ 4 * middle →
    rest < middle → units (conditional_of_branches c bs) + 4 * rest ≤ 4 * text
expression_read c bs text middle rest small h k =
    let (n, fits, four, is) = room (branches_measure bs) middle rest h k in omega (arith, yes_and_no_small n c bs fits four, is, small)

pub absent_read : (bs : Branches) (text rest : ℕ) → branches_measure bs + 4 * rest ≤ 4 * text → rest < text →
    units (absent_bar_of bs) + 4 * rest ≤ 4 * text
absent_read bs text rest h k =
    let (n, fits, four, is) = room (branches_measure bs) text rest h k in omega (arith, absent_small n bs fits four, is)

pub whole_read : (bs : Branches) (text rest : ℕ) → branches_measure bs + 4 * rest ≤ 4 * text + 4 → units (pattern_of bs) ≤ 4 * text + 1
whole_read bs text rest h = omega (arith, pattern_small (4 * text + 4) bs (omega (arith, h)) (omega arith))
