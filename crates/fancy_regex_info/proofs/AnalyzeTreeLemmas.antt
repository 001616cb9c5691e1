-- The analysis of the whole tree is that of the definitions.
use Rattle.std.proofs.Common.{◌≡◌, ℕ, suc, ◌+◌, ◌^◌, ◌<◌, Bool, true, false, List, [], ◌∷◌, map, length, get_or, Vec, Global, Bor, Result, Ok, Err, IfOk, refl, sym, ap, ap₂, ◌∙◌, arith}
use Rattle.std.specs.declared.alloc.AllocError.{AllocError}
use Rattle.std.proofs.Math.Path.{fun_ext}
use Rattle.fancy_regex_tree.specs.Tree.{Tree}
use Rattle.fancy_regex_tree.specs.declared.expr.Expr.{Expr}
use Rattle.fancy_regex_meaning.specs.Groups.{group_count}
use Rattle.fancy_regex_meaning.specs.Sizes.{calls_in}
use Rattle.fancy_regex_meaning.proofs.GroupProofs.{groups_are_counted}
use Rattle.fancy_regex_info.specs.Analysis.{analysis}
use Rattle.fancy_regex_info.specs.Infos.{info_of, expected_info}
use Rattle.fancy_regex_info.specs.Reachability.{rows}
use Rattle.fancy_regex_info.specs.References.{is_read}
use Rattle.fancy_regex_info.specs.SizeFixpoint.{is_on_cycle, iterated_size}
use Rattle.fancy_regex_info.specs.AnalysisRelations.{AreCallSizes, mark_at, IsAnalysisOf}
use Rattle.fancy_regex_info.specs.Views.{size_at, body_tree, pattern_in}
use Rattle.fancy_regex_info.specs.declared.info.Info.{Info}
use Rattle.fancy_regex_info.specs.declared.size.Size as code
use Rattle.fancy_regex_info.proofs.CallSizeLemmas.{knows}
use Rattle.fancy_regex_info.proofs.ReachabilityLemmas.{length_rows}
use Rattle.fancy_regex_info.proofs.TableLemmas.{reads_at}

pub length_trees : (gs : List (Bor Expr)) → length (map body_tree gs) ≡ length gs
length_trees [] = refl
length_trees (g ∷ gs) = ap suc (length_trees gs)

length_calls_in : (ts : List Tree) → length (map calls_in ts) ≡ length ts
length_calls_in [] = refl
length_calls_in (t ∷ ts) = ap suc (length_calls_in ts)

numbers_fit : (explicit : Bool) (t : Tree) → (pattern_in explicit t).first_group + group_count t ≡ length (pattern_in explicit t).groups
numbers_fit true t = omega (arith, groups_are_counted t)
numbers_fit false t = omega (arith, groups_are_counted t)

rows_are : (gs : List (Bor Expr)) (ts : List Tree) (calls : List (Vec ℕ Global)) → map body_tree gs ≡ ts → rows calls ≡ map calls_in (map body_tree gs) →
    rows calls ≡ map calls_in ts
rows_are gs ts calls are made = made ∙ ap (map calls_in) are

-- as many groups as rows of calls
pub as_many : (gs : List (Bor Expr)) (ts : List Tree) (calls : List (Vec ℕ Global)) → map body_tree gs ≡ ts → rows calls ≡ map calls_in (map body_tree gs) →
    length calls ≡ length ts
as_many gs ts calls are made = sym (length_rows calls) ∙ ap length (rows_are gs ts calls are made) ∙ length_calls_in ts

pub sizes_known : (gs : List (Bor Expr)) (ts : List Tree) (calls : List (Vec ℕ Global)) (recursive : List Bool) (sizes : List code.Size) →
    map body_tree gs ≡ ts → rows calls ≡ map calls_in (map body_tree gs) → length recursive ≡ length calls →
    ((k : ℕ) → k < length calls → get_or recursive k false ≡ is_on_cycle (rows calls) k) →
    ((k : ℕ) → size_at sizes k ≡ iterated_size ts recursive (length recursive) k) → AreCallSizes ts sizes
sizes_known gs ts calls recursive sizes are made marked flags settled =
    let many : length calls ≡ length ts = as_many gs ts calls are made in
    knows ts recursive
    (λ k lt. reads_at recursive k ∙ flags k (omega (arith, many)) ∙ ap (λ edges. is_on_cycle edges k) (rows_are gs ts calls are made))
    sizes (λ k. settled k ∙ ap (λ m. iterated_size ts recursive m k) (marked ∙ many))

pub sizes_known_of : (gs : List (Bor Expr)) (ts : List Tree) (calls : List (Vec ℕ Global)) (recursive : List Bool) (r : Result (Vec code.Size Global) AllocError) →
    map body_tree gs ≡ ts → rows calls ≡ map calls_in (map body_tree gs) → length recursive ≡ length calls →
    ((k : ℕ) → k < length calls → get_or recursive k false ≡ is_on_cycle (rows calls) k) →
    IfOk r (λ sizes. (k : ℕ) → size_at sizes.items k ≡ iterated_size ts recursive (length recursive) k) →
    IfOk r (λ sizes. AreCallSizes ts sizes.items)
sizes_known_of gs ts calls recursive (Err e) are made marked flags settled = tt
sizes_known_of gs ts calls recursive (Ok sizes) are made marked flags settled = sizes_known gs ts calls recursive sizes.items are made marked flags settled

pub whole : (explicit : Bool) (t : Tree) (gs : List (Bor Expr)) (read : List Bool) (sizes : List code.Size)
    (r : Result Info AllocError) (n : ℕ) → map body_tree gs ≡ (pattern_in explicit t).groups → AreCallSizes (map body_tree gs) sizes →
    ((k : ℕ) → mark_at read k ≡ is_read (length gs) t k) → n ≡ (pattern_in explicit t).first_group → length gs < 2 ^ 64 →
    IfOk r (λ i. IsAnalysisOf sizes read n t (info_of i)) → IfOk r (λ i. info_of i ≡ analysis explicit t)
whole explicit t gs read sizes (Err e) n is known reads first fits h = tt
whole explicit t gs read sizes (Ok i) n is known reads first fits h =
    let ts : List Tree = map body_tree gs in
    let all : length (pattern_in explicit t).groups ≡ length gs = ap length (sym is) ∙ length_trees gs in
    h ts known (omega (arith, first, numbers_fit explicit t, all))
    ∙ ap (λ us. expected_info us (mark_at read) n t) is
    ∙ ap₂ (λ f m. expected_info (pattern_in explicit t).groups f m t)
    (fun_ext (λ k. reads k ∙ ap (λ m. is_read m t k) (sym all))) first
