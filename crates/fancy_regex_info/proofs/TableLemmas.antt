-- Tables of what is known of each group, and how they are made in iterations.
use Rattle.std.proofs.Common.{◌≡◌, ℕ, zero, suc, ◌+◌, ◌-◌, ◌<◌, ◌≤◌, ⊎_elim, Bool, false, List, [], ◌∷◌, ◌++◌, Some, None}
use Rattle.std.proofs.Common.{map, length, get_or, replicate, Vec, Global, Bor, refl, sym, ap, ap₂, ◌∙◌, arith}
use Rattle.std.proofs.Math.Path.{fun_ext}
use Rattle.std.proofs.lemmas.Bool.{cases_lt}
use Rattle.fancy_regex_tree.specs.Tree.{Tree}
use Rattle.fancy_regex_tree.specs.declared.expr.Expr.{Expr}
use Rattle.fancy_regex_meaning.specs.Sizes.{Size, endless_size, target}
use Rattle.fancy_regex_info.specs.Reachability.{rows, has, through}
use Rattle.fancy_regex_info.specs.SizeFixpoint.{is_on_cycle, next_size, iterated_size}
use Rattle.fancy_regex_info.specs.AnalysisRelations.{mark_at}
use Rattle.fancy_regex_info.specs.Views.{size_of, size_at, body_tree}
use Rattle.fancy_regex_info.specs.declared.size.Size as code
use Rattle.fancy_regex_info.proofs.ReachabilityLemmas.{row_at, length_rows}

pub reads_at : (bs : List Bool) (k : ℕ) → mark_at bs k ≡ get_or bs k false
reads_at [] k = refl
reads_at (b ∷ bs) zero = refl
reads_at (b ∷ bs) (suc k) = reads_at bs k

none_reached : (edges : List (List ℕ)) (n k : ℕ) → has (through edges n []) k ≡ false
unfolding through
none_reached edges zero k = refl
none_reached edges (suc n) k = refl

pub not_again : (calls : List (Vec ℕ Global)) (k : ℕ) (v : Vec ℕ Global) → k < length calls → v ≡ get_or calls k v → v.items ≡ [] →
    false ≡ is_on_cycle (rows calls) k
not_again calls k v inside is none =
    sym (ap (λ s. has (through (rows calls) (length (rows calls)) s) k) (row_at calls k v inside is ∙ none)
    ∙ none_reached (rows calls) (length (rows calls)) k)

pub again : (calls : List (Vec ℕ Global)) (k : ℕ) (v : Vec ℕ Global) (starts : List ℕ) (seen now : List Bool) (b : Bool) → k < length calls →
    v ≡ get_or calls k v → starts ≡ v.items → now ≡ seen → b ≡ mark_at now k →
    get_or seen k false ≡ has (through (rows calls) (length calls) starts) k → b ≡ is_on_cycle (rows calls) k
again calls k v starts seen now b inside is begun same told marked =
    told ∙ ap (λ bs. mark_at bs k) same ∙ reads_at seen k ∙ marked
    ∙ ap₂ (λ n s. has (through (rows calls) n s) k) (sym (length_rows calls)) (begun ∙ sym (row_at calls k v inside is))

-- one mark more
pub marked_more : (calls : List (List ℕ)) (xs ys : List Bool) (g : ℕ) (y : Bool) → length xs ≡ g → ys ≡ xs ++ y ∷ [] →
    y ≡ is_on_cycle calls g → ((k : ℕ) → k < g → get_or xs k false ≡ is_on_cycle calls k) →
    (k : ℕ) → k < g + 1 → get_or ys k false ≡ is_on_cycle calls k
marked_more calls xs ys g y long is now before k lt =
    ap (λ zs. get_or zs k false) is
    ∙ ⊎_elim
    (λ (below : k < g). get_left xs y k (omega arith) ∙ before k below)
    (λ (above : g ≤ k). get_last xs y k (omega arith) ∙ now ∙ ap (is_on_cycle calls) (let e : g ≡ k = omega arith in e))
    (cases_lt k g)
  where
    get_left : (bs : List Bool) (c : Bool) (i : ℕ) → i < length bs → get_or (bs ++ c ∷ []) i false ≡ get_or bs i false
    get_left [] c i h = absurd (omega arith)
    get_left (b ∷ bs) c zero h = refl
    get_left (b ∷ bs) c (suc i) h = get_left bs c i (omega arith)

    get_last : (bs : List Bool) (c : Bool) (i : ℕ) → i ≡ length bs → get_or (bs ++ c ∷ []) i false ≡ c
    get_last [] c zero h = refl
    get_last [] c (suc i) h = absurd (omega arith)
    get_last (b ∷ bs) c zero h = absurd (omega arith)
    get_last (b ∷ bs) c (suc i) h = get_last bs c i (omega arith)

pub body_at : (gs : List (Bor Expr)) (k : ℕ) (e : Bor Expr) → k < length gs → e ≡ get_or gs k e → target (map body_tree gs) k ≡ Some (body_tree e)
body_at [] k e inside is = absurd (omega arith)
body_at (g ∷ gs) zero e inside is = ap (λ x. Some (body_tree x)) (sym is)
body_at (g ∷ gs) (suc k) e inside is = body_at gs k e (omega arith) is

pub no_body : (gs : List (Bor Expr)) (k : ℕ) → length gs ≤ k → target (map body_tree gs) k ≡ None
no_body [] k h = refl
no_body (g ∷ gs) zero h = absurd (omega arith)
no_body (g ∷ gs) (suc k) h = no_body gs k (omega arith)

-- before the first iteration
pub first_iteration : (ts : List Tree) (recursive : List Bool) (e : code.Size) (n : ℕ) → n ≡ length ts → size_of e ≡ endless_size →
    (k : ℕ) → size_at (replicate n e) k ≡ iterated_size ts recursive 0 k
unfolding iterated_size
first_iteration [] recursive e zero same is k = refl
first_iteration [] recursive e (suc n) same is k = absurd (omega arith)
first_iteration (t ∷ ts) recursive e zero same is k = absurd (omega arith)
first_iteration (t ∷ ts) recursive e (suc n) same is zero = is
first_iteration (t ∷ ts) recursive e (suc n) same is (suc k) = first_iteration ts recursive e n (omega arith) is k

module _ (groups : List Tree) (recursive : List Bool) where
  abbrev S : ℕ → ℕ → Size
  S = iterated_size groups recursive

  iteration_is : (n k : ℕ) → S (suc n) k ≡ next_size groups recursive (S n) k
  unfolding iterated_size
  iteration_is n k = refl

  -- an iteration that is made from the sizes so far
  pub goes_on : (xs ys : List code.Size) (n : ℕ) → ((k : ℕ) → size_at xs k ≡ S n k) →
      ((k : ℕ) → size_at ys k ≡ next_size groups recursive (size_at xs) k) → (k : ℕ) → size_at ys k ≡ S (n + 1) k
  goes_on xs ys n before made k =
      let one : suc n ≡ n + 1 = omega arith in
      made k ∙ ap (λ c. next_size groups recursive c k) (fun_ext before) ∙ sym (iteration_is n k) ∙ ap (λ m. S m k) one

  stays : (n : ℕ) → ((k : ℕ) → S (suc n) k ≡ S n k) → (d k : ℕ) → S (d + n) k ≡ S n k
  stays n still zero k = ap (λ m. S m k) (let e : 0 + n ≡ n = omega arith in e)
  stays n still (suc d) k =
      ap (λ m. S m k) (let e : suc d + n ≡ suc (d + n) = omega arith in e)
      ∙ iteration_is (d + n) k
      ∙ ap (λ c. next_size groups recursive c k) (fun_ext (stays n still d))
      ∙ sym (iteration_is n k) ∙ still k

  -- An iteration that changes nothing is the last.
  pub is_last : (xs ys : List code.Size) (n m : ℕ) → n ≤ m → ((k : ℕ) → size_at xs k ≡ S n k) →
      ((k : ℕ) → size_at ys k ≡ next_size groups recursive (size_at xs) k) → ys ≡ xs → (k : ℕ) → size_at xs k ≡ S m k
  is_last xs ys n m le before made same k =
      let still : (j : ℕ) → S (suc n) j ≡ S n j =
      λ j. iteration_is n j ∙ ap (λ c. next_size groups recursive c j) (sym (fun_ext before)) ∙ sym (made j) ∙ ap (λ zs. size_at zs j) same ∙ before j in
      before k ∙ sym (stays n still (m - n) k) ∙ ap (λ j. S j k) (let e : m - n + n ≡ m = omega arith in e)
