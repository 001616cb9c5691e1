-- The tables hold the sizes of the calls.
use Rattle.std.proofs.Common.{◌≡◌, ℕ, zero, suc, ◌<◌, Bool, true, false, cond, List, [], ◌∷◌, ◌++◌, Option, Some, None, map, length, refl, sym, ap, ap₂, ◌∙◌, arith}
use Rattle.std.specs.Prelude.{slice_get}
use Rattle.std.specs.List.{flat_map}
use Rattle.std.proofs.Math.Path.{fun_ext}
use Rattle.fancy_regex_tree.specs.Tree.{Tree}
use Rattle.fancy_regex_meaning.specs.Sizes.{Size, any_size, unbounded, size, size_with, size_through, endless_size, target, calls_in, calls_through, is_recursive}
use Rattle.fancy_regex_info.specs.Reachability.{has, following, through}
use Rattle.fancy_regex_info.specs.SizeFixpoint.{is_on_cycle, size_when, size_of_target, iterated_size}
use Rattle.fancy_regex_info.specs.AnalysisRelations.{AreCallSizes, mark_at}
use Rattle.fancy_regex_info.specs.Views.{size_at}
use Rattle.fancy_regex_info.specs.declared.size.Size as code

abbrev pub or_calls : Option Tree → List ℕ
or_calls None = []
or_calls (Some body) = calls_in body

pub follow : (ts : List Tree) (k : ℕ) → following (map calls_in ts) k ≡ or_calls (slice_get ts k)
follow [] k = refl
follow (t ∷ ts) zero = refl
follow (t ∷ ts) (suc k) = follow ts k

length_calls : (ts : List Tree) → length (map calls_in ts) ≡ length ts
length_calls [] = refl
length_calls (t ∷ ts) = ap suc (length_calls ts)

none_through : (edges : List (List ℕ)) (n : ℕ) → through edges n [] ≡ []
unfolding through
none_through edges zero = refl
none_through edges (suc n) = refl

module _ (ts : List Tree) where
  abbrev E : List (List ℕ)
  E = map calls_in ts

  called_are : (n : ℕ) → ((body : Tree) → calls_through ts n body ≡ through E n (calls_in body)) → (o : Option Tree) →
      (elim o as (λ x. List ℕ) [ None ↦ [] | Some body ↦ calls_through ts n body ]) ≡ through E n (or_calls o)
  called_are n each None = sym (none_through E n)
  called_are n each (Some body) = each body

  calls_are : (n : ℕ) (t : Tree) → calls_through ts n t ≡ through E n (calls_in t)
  unfolding calls_through through
  calls_are zero t = refl
  calls_are (suc n) t =
      ap (λ f. calls_in t ++ flat_map f (calls_in t))
      (fun_ext (λ k. called_are n (calls_are n) (target ts k) ∙ ap (through E n) (sym (follow ts k))))

  again_is : (k : ℕ) (body : Tree) → target ts k ≡ Some body → is_on_cycle E k ≡ is_recursive ts k body
  unfolding is_recursive
  again_is k body is =
      ap₂ (λ n s. has (through E n s) k) (length_calls ts) (follow ts k ∙ ap or_calls is)
      ∙ ap (λ xs. has xs k) (sym (calls_are (length ts) body))

  module _ (recursive : List Bool) (flags : (k : ℕ) → k < length ts → mark_at recursive k ≡ is_on_cycle E k) where
    inside : (us : List Tree) (k : ℕ) (body : Tree) → slice_get us k ≡ Some body → k < length us
    inside [] k body is = cc
    inside (u ∷ us) zero body is = omega arith
    inside (u ∷ us) (suc k) body is = omega (arith, inside us k body is)

    when_is : (b : Bool) (s : Size) → cond b (record { least = s.least; greatest = unbounded; always = false }) s ≡ size_when b s
    when_is true s = refl
    when_is false s = refl

    abbrev S : ℕ → ℕ → Size
    S = iterated_size ts recursive

    first_is : (o : Option Tree) → (elim o as (λ x. Size) [ None ↦ any_size | Some body ↦ endless_size ]) ≡ size_of_target (λ body. endless_size) o
    first_is None = refl
    first_is (Some body) = refl

    next_is : (n : ℕ) → ((t : Tree) → size_through ts n t ≡ size_with (S n) t) → (k : ℕ) (o : Option Tree) → target ts k ≡ o →
        (elim o as (λ x. Size) [
          | None ↦ any_size
          | Some body ↦ cond (is_recursive ts k body) (record { least = (size_through ts n body).least; greatest = unbounded; always = false }) (size_through ts n body)
        ]) ≡ size_of_target (λ body. size_when (mark_at recursive k) (size_with (S n) body)) o
    next_is n each k None is = refl
    next_is n each k (Some body) is =
        when_is (is_recursive ts k body) (size_through ts n body)
        ∙ ap₂ size_when (sym (flags k (inside ts k body is) ∙ again_is k body is)) (each body)

    iterations_are : (n : ℕ) (t : Tree) → size_through ts n t ≡ size_with (S n) t
    unfolding size_through iterated_size
    iterations_are zero t = ap (λ c. size_with c t) (fun_ext (λ k. first_is (target ts k)))
    iterations_are (suc n) t = ap (λ c. size_with c t) (fun_ext (λ k. next_is n (iterations_are n) k (target ts k) refl))

    pub knows : (sizes : List code.Size) → ((k : ℕ) → size_at sizes k ≡ S (length ts) k) → AreCallSizes ts sizes
    unfolding size
    knows sizes are t = iterations_are (length ts) t ∙ ap (λ c. size_with c t) (sym (fun_ext are))
