-- Each step leaves less to do.
use Rattle.std.proofs.Common.{◌≡◌, ℕ, zero, suc, ◌+◌, ◌-◌, ◌<◌, ◌≤◌, List, [], ◌∷◌, take, drop, Some, refl, ap, ◌∙◌, arith}
use Rattle.std.specs.Prelude.{slice_get, unwrap_or}
use Rattle.std.proofs.lemmas.Option.{none-some}
use Rattle.fancy_regex_tree.specs.Tree as tree
use Rattle.fancy_regex_tree.specs.Tree.{tree_of}
use Rattle.fancy_regex_info.specs.Infos.{InfoTree, info_of}
use Rattle.fancy_regex_info.specs.declared.info.Info.{Info}
use Rattle.fancy_regex_info.specs.declared.info.Info.TheViews.{out-Info}
use Rattle.fancy_regex_compiler.specs.Tasks.{called_work, node_work, row_work, body_work, call_work, info_work, infos_work}
use Rattle.fancy_regex_compiler.specs.declared.emitter.Scope.{Scope}
use Rattle.fancy_regex_compiler.proofs.NodeLemmas.{info_known}

module _ (groups : List InfoTree) (scope : Scope) where
  abbrev one : Info → ℕ
  one i = info_work groups scope i

  abbrev row : List Info → ℕ
  row xs = infos_work groups scope xs

  more : (x : Info) (xs : List Info) → row (x ∷ xs) ≡ 4 + (one x + row xs)
  unfolding row_work
  more x xs = refl

  pub some_work : (xs : List Info) → 0 < row xs
  unfolding row_work
  some_work [] = omega arith
  some_work (x ∷ xs) = omega (arith, more x xs)

  pub first_work : (xs rest : List Info) (x : Info) → xs ≡ x ∷ rest → row xs ≡ 4 + (one x + row rest)
  first_work xs rest x is = ap row is ∙ more x rest

  pub none_work : row [] ≡ 1
  unfolding row_work
  none_work = refl

  -- a row in two parts
  pub split_work : (k : ℕ) (xs : List Info) → row (take k xs) + row (drop k xs) ≡ row xs + 1
  split_work zero [] = omega (arith, none_work)
  split_work zero (x ∷ xs) = omega (arith, none_work)
  split_work (suc k) [] = omega (arith, none_work)
  split_work (suc k) (x ∷ xs) = omega (arith, more x (take k xs), more x xs, split_work k xs)

  node_is : (i : Info) → one i ≡ 3 + (called_work (call_work groups scope.calls_left) (tree_of (out-Info i).expr.now) + row (out-Info i).children.items)
  unfolding node_work row_work
  node_is i = ap (node_work (call_work groups scope.calls_left)) (info_known i)

  -- the children of a node
  pub row_less : (i : Info) (xs : List Info) → xs ≡ (out-Info i).children.items → row xs + 3 ≤ one i
  row_less i xs is = let same = ap row is in omega (arith, node_is i, same)

  in_row : (xs : List Info) (k : ℕ) (x : Info) → slice_get xs k ≡ Some x → one x + 4 ≤ row xs
  in_row [] k x at = absurd (none-some _ at)
  in_row (y ∷ ys) zero x at =
      let same : one y ≡ one x = ap (λ o. one (unwrap_or o y)) at in
      omega (arith, same, more y ys)
  in_row (y ∷ ys) (suc k) x at = omega (arith, in_row ys k x at, more y ys)

  pub child_less : (i : Info) (k : ℕ) (x : Info) → slice_get (out-Info i).children.items k ≡ Some x → one x + 7 ≤ one i
  child_less i k x at = omega (arith, node_is i, in_row (out-Info i).children.items k x at)

  three_in_row : (xs : List Info) (x y z : Info) → slice_get xs 0 ≡ Some x → slice_get xs 1 ≡ Some y → slice_get xs 2 ≡ Some z → one x + (one y + one z) + 12 ≤ row xs
  three_in_row [] x y z first second third = absurd (none-some _ first)
  three_in_row (a ∷ []) x y z first second third = absurd (none-some _ second)
  three_in_row (a ∷ b ∷ cs) x y z first second third =
      let same : one a ≡ one x = ap (λ o. one (unwrap_or o a)) first in
      let alike : one b ≡ one y = ap (λ o. one (unwrap_or o b)) second in
      omega (arith, same, alike, more a (b ∷ cs), more b cs, in_row cs 0 z third)

  pub three_less : (i x y z : Info) → slice_get (out-Info i).children.items 0 ≡ Some x → slice_get (out-Info i).children.items 1 ≡ Some y →
      slice_get (out-Info i).children.items 2 ≡ Some z → one x + (one y + one z) + 15 ≤ one i
  three_less i x y z first second third = omega (arith, node_is i, three_in_row (out-Info i).children.items x y z first second third)

  pub least_work : (i : Info) → 3 ≤ one i
  least_work i = omega (arith, node_is i)

  -- a call of a target
  pub call_less : (i : Info) (k : ℕ) → tree_of (out-Info i).expr.now ≡ tree.subroutine_call k → call_work groups scope.calls_left k + 3 ≤ one i
  call_less i k is =
      let same : called_work (call_work groups scope.calls_left) (tree_of (out-Info i).expr.now) ≡ call_work groups scope.calls_left k =
      ap (called_work (call_work groups scope.calls_left)) is in
      omega (arith, node_is i, same)

-- the body of a target, with one call less
pub body_less : (groups : List InfoTree) (scope called : Scope) (k : ℕ) (x : Info) → scope.calls_left ≡ suc called.calls_left → slice_get groups k ≡ Some (info_of x) →
    call_work groups scope.calls_left k ≡ 2 + info_work groups called x
unfolding call_work
body_less groups scope called k x more at =
    ap (λ n. call_work groups n k) more ∙ ap (λ o. 2 + body_work (call_work groups called.calls_left) o) at
