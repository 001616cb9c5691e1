-- How a worklist finds what is written out.
use Rattle.std.proofs.Common.{◌≡◌, ℕ, zero, suc, ◌+◌, ◌<◌, ◌≤◌, ◌⊎◌, ⊎_elim, inl, inr, Bool, true, false, cond, ◌||◌, Some}
use Rattle.std.proofs.Common.{List, [], ◌∷◌, ◌++◌, length, get_or, set, replicate, map, refl, ap, sym, subst, ◌∙◌, arith}
use Rattle.std.specs.Borrow.{Bor}
use Rattle.std.specs.List.{Contains}
use Rattle.std.specs.Prelude.{slice_get}
use Rattle.std.proofs.lemmas.List.{get_or_default}
use Rattle.std.proofs.lemmas.List.Elements.{Contains-push, Contains-push_cases, Contains-append_left, Contains-append_right, Contains-append_cases}
use Rattle.fancy_regex_tree.specs.Tree.{Tree}
use Rattle.fancy_regex_tree.specs.declared.expr.Expr.{Expr}
use Rattle.fancy_regex_meaning.specs.Sizes.{target}
use Rattle.fancy_regex_analysis.specs.NodeErrors.{is_memory}
use Rattle.fancy_regex_info.specs.Views.{body_tree}
use Rattle.fancy_regex_analysis.specs.EmittedParts.{some_emitted, emitted_calls, IsWhole, itself, called, SomeEmittedPart, was_visited_in, with_visited_in}
use Rattle.fancy_regex_info.specs.declared.error.CompileError.{CompileError}
use Rattle.fancy_regex_analysis.specs.declared.emitted.Inside.{Inside}
use Rattle.fancy_regex_analysis.specs.declared.emitted.Inside.TheVariants.{Nothing, LookAround, Absent}
use Rattle.fancy_regex_analysis.specs.declared.emitted.EmittedCall.{EmittedCall}
use Rattle.fancy_regex_analysis.specs.declared.emitted.Visited.{Visited}
use Rattle.fancy_regex_analysis.proofs.EmittedPartLemmas.{part_found}
use Rattle.fancy_regex_info.proofs.ReachabilityLemmas.{or_cases}
use Rattle.fancy_regex_analysis.proofs.LeftRecursionLemmas.{target_inside}

abbrev pub nowhere : Visited
nowhere = record { nothing = false; look_around = false; absent = false }

abbrev pub met_at : List Visited → ℕ → Visited
met_at met k = get_or met k nowhere

-- one that is met in one place more
meet_cases : (w : Visited) (i o : Inside) → was_visited_in (with_visited_in w i) o ≡ true → (i ≡ o) ⊎ (was_visited_in w o ≡ true)
meet_cases w Nothing Nothing h = inl refl
meet_cases w Nothing LookAround h = inr h
meet_cases w Nothing Absent h = inr h
meet_cases w LookAround Nothing h = inr h
meet_cases w LookAround LookAround h = inl refl
meet_cases w LookAround Absent h = inr h
meet_cases w Absent Nothing h = inr h
meet_cases w Absent LookAround h = inr h
meet_cases w Absent Absent h = inl refl

meet_keeps : (w : Visited) (i o : Inside) → was_visited_in w o ≡ true → was_visited_in (with_visited_in w i) o ≡ true
meet_keeps w Nothing Nothing h = refl
meet_keeps w Nothing LookAround h = h
meet_keeps w Nothing Absent h = h
meet_keeps w LookAround Nothing h = h
meet_keeps w LookAround LookAround h = refl
meet_keeps w LookAround Absent h = h
meet_keeps w Absent Nothing h = h
meet_keeps w Absent LookAround h = h
meet_keeps w Absent Absent h = refl

meet_marks : (w : Visited) (i : Inside) → was_visited_in (with_visited_in w i) i ≡ true
meet_marks w Nothing = refl
meet_marks w LookAround = refl
meet_marks w Absent = refl

in_nowhere : (i : Inside) → was_visited_in nowhere i ≡ true → ⊥
in_nowhere Nothing h = cc
in_nowhere LookAround h = cc
in_nowhere Absent h = cc

none_met : (n k : ℕ) → met_at (replicate n nowhere) k ≡ nowhere
none_met zero k = refl
none_met (suc n) zero = refl
none_met (suc n) (suc k) = none_met n k

length_none : (n : ℕ) → length (replicate n nowhere) ≡ n
length_none zero = refl
length_none (suc n) = ap suc (length_none n)

length_set : (ws : List Visited) (k : ℕ) (w : Visited) → length (set ws k w) ≡ length ws
length_set [] k w = refl
length_set (x ∷ ws) zero w = refl
length_set (x ∷ ws) (suc k) w = ap suc (length_set ws k w)

abbrev more_met : List Visited → ℕ → Inside → List Visited
more_met ws k i = set ws k (with_visited_in (met_at ws k) i)

set_cases : (ws : List Visited) (k : ℕ) (v : Visited) (i : Inside) (j : ℕ) (o : Inside) → v ≡ met_at ws k →
    was_visited_in (met_at (set ws k (with_visited_in v i)) j) o ≡ true → ((k ≡ j) × (i ≡ o)) ⊎ (was_visited_in (met_at ws j) o ≡ true)
set_cases [] k v i j o is h = inr h
set_cases (w ∷ ws) zero v i zero o is h =
    ⊎_elim (λ e. inl (refl, e)) (λ e. inr (subst (λ x. was_visited_in x o ≡ true) is e)) (meet_cases v i o h)
set_cases (w ∷ ws) zero v i (suc j) o is h = inr h
set_cases (w ∷ ws) (suc k) v i zero o is h = inr h
set_cases (w ∷ ws) (suc k) v i (suc j) o is h = ⊎_elim (λ e. inl (ap suc e.0, e.1)) (λ e. inr e) (set_cases ws k v i j o is h)

set_keeps : (ws : List Visited) (k : ℕ) (v : Visited) (i : Inside) (j : ℕ) (o : Inside) → v ≡ met_at ws k →
    was_visited_in (met_at ws j) o ≡ true → was_visited_in (met_at (set ws k (with_visited_in v i)) j) o ≡ true
set_keeps [] k v i j o is h = h
set_keeps (w ∷ ws) zero v i zero o is h = meet_keeps v i o (subst (λ x. was_visited_in x o ≡ true) (sym is) h)
set_keeps (w ∷ ws) zero v i (suc j) o is h = h
set_keeps (w ∷ ws) (suc k) v i zero o is h = h
set_keeps (w ∷ ws) (suc k) v i (suc j) o is h = set_keeps ws k v i j o is h

set_marks : (ws : List Visited) (k : ℕ) (v : Visited) (i : Inside) → k < length ws → was_visited_in (met_at (set ws k (with_visited_in v i)) k) i ≡ true
set_marks [] k v i inside = absurd (omega arith)
set_marks (w ∷ ws) zero v i inside = meet_marks v i
set_marks (w ∷ ws) (suc k) v i inside = set_marks ws k v i (omega arith)

-- how much is left to be looked at: for each body and what it may stand inside of the calls in it, and one
abbrev open_calls : Bool → List EmittedCall → ℕ
open_calls is_met calls = cond is_met 0 (length calls + 1)

unfoldable pub left : List Visited → List Tree → ℕ
left [] ts = 0
left (w ∷ ws) [] = 0
left (w ∷ ws) (t ∷ ts) =
    open_calls w.nothing (emitted_calls Nothing t) + open_calls w.look_around (emitted_calls LookAround t) + open_calls w.absent (emitted_calls Absent t) + left ws ts

left_here : (w : Visited) (ws : List Visited) (t : Tree) (ts : List Tree) (i : Inside) → was_visited_in w i ≡ false →
    left (with_visited_in w i ∷ ws) (t ∷ ts) + (length (emitted_calls i t) + 1) ≡ left (w ∷ ws) (t ∷ ts)
unfolding left
left_here w ws t ts Nothing fails = rw fails (omega arith)
left_here w ws t ts LookAround fails = rw fails (omega arith)
left_here w ws t ts Absent fails = rw fails (omega arith)

pub left_met : (ws : List Visited) (ts : List Tree) (k : ℕ) (v : Visited) (i : Inside) (t : Tree) → length ws ≡ length ts → v ≡ met_at ws k →
    was_visited_in v i ≡ false → slice_get ts k ≡ Some t → left (set ws k (with_visited_in v i)) ts + (length (emitted_calls i t) + 1) ≡ left ws ts
unfolding left
left_met [] [] k v i t same is fails here = cc
left_met [] (u ∷ ts) k v i t same is fails here = absurd (omega arith)
left_met (w ∷ ws) [] k v i t same is fails here = absurd (omega arith)
left_met (w ∷ ws) (u ∷ ts) zero v i t same is fails here =
    let e : u ≡ t = cc in
    subst (λ x. left (with_visited_in v i ∷ ws) (u ∷ ts) + (length (emitted_calls i x) + 1) ≡ left (w ∷ ws) (u ∷ ts)) e
    (subst (λ x. left (with_visited_in v i ∷ ws) (u ∷ ts) + (length (emitted_calls i u) + 1) ≡ left (x ∷ ws) (u ∷ ts)) is
    (left_here v ws u ts i fails))
left_met (w ∷ ws) (u ∷ ts) (suc k) v i t same is fails here = omega (arith, left_met ws ts k v i t (omega arith) is fails here)

-- what is read of a list that is as long
pub met_is : (ws : List Visited) (k : ℕ) (w : Visited) → k < length ws → w ≡ get_or ws k w → w ≡ met_at ws k
met_is ws k w inside is = is ∙ get_or_default ws k w nowhere inside

-- what was looked at
abbrev pub IsVisited : List Tree → Tree → List Visited → Inside → Tree → Type 0
IsVisited groups root met i t = ((i ≡ Nothing) × (t ≡ root)) ⊎ ((k : ℕ) × (target groups k ≡ Some t) × (was_visited_in (met_at met k) i ≡ true))

abbrev IsSettled : List Visited → List EmittedCall → EmittedCall → Type 0
IsSettled met todo call = (was_visited_in (met_at met call.group) call.inside ≡ true) ⊎ Contains todo call

-- how far the worklist has come
pub record Progress (groups : List Tree) (root : Tree) (test : Inside → Tree → Bool) (met : List Visited) (todo : List EmittedCall) : Type 0 where
  pub same : length met ≡ length groups
  pub met_is_whole : (k : ℕ) (i : Inside) (body : Tree) → was_visited_in (met_at met k) i ≡ true → target groups k ≡ Some body → IsWhole groups root i body
  pub todo_is_whole : (call : EmittedCall) (body : Tree) → Contains todo call → target groups call.group ≡ Some body → IsWhole groups root call.inside body
  pub closed : (i : Inside) (t : Tree) → IsVisited groups root met i t → (call : EmittedCall) (body : Tree) → Contains (emitted_calls i t) call →
      target groups call.group ≡ Some body → IsSettled met todo call
  pub clear : (i : Inside) (t : Tree) → IsVisited groups root met i t → some_emitted test i t ≡ false

module _ (groups : List Tree) (root : Tree) (test : Inside → Tree → Bool) where
  abbrev P : List Visited → List EmittedCall → Type 0
  P = Progress groups root test

  -- before the first body of a group
  pub begins : (n : ℕ) (todo : List EmittedCall) → n ≡ length groups → todo ≡ emitted_calls Nothing root → some_emitted test Nothing root ≡ false →
      P (replicate n nowhere) todo
  begins n todo long is clear =
      let fresh : (k : ℕ) (i : Inside) → was_visited_in (met_at (replicate n nowhere) k) i ≡ true → ⊥ =
      λ k i h. in_nowhere i (subst (λ w. was_visited_in w i ≡ true) (none_met n k) h) in
      record {
        same = length_none n ∙ long;
        met_is_whole = λ k i body h is_body. absurd (fresh k i h);
        todo_is_whole = λ call body h is_body.
            called Nothing root body call itself (subst (λ cs. Contains cs call) is h) is_body;
        closed = λ i t visited call body h is_body.
            ⊎_elim
            (λ e. inr (subst (λ cs. Contains cs call) (sym is)
            (subst (λ u. Contains (emitted_calls Nothing u) call) e.1 (subst (λ o. Contains (emitted_calls o t) call) e.0 h))))
            (λ e. absurd (fresh e.0 i e.2))
            visited;
        clear = λ i t visited.
            ⊎_elim
            (λ e. subst (λ o. some_emitted test o t ≡ false) (sym e.0) (subst (λ u. some_emitted test Nothing u ≡ false) (sym e.1) clear))
            (λ e. absurd (fresh e.0 i e.2))
            visited;
      }

  -- a call of what was met already, or of no group
  pub passes_over : (met : List Visited) (todo rest : List EmittedCall) (call : EmittedCall) → P met todo → todo ≡ rest ++ call ∷ [] →
      (length groups ≤ call.group) ⊎ (was_visited_in (met_at met call.group) call.inside ≡ true) → P met rest
  passes_over met todo rest call was is why = record {
    same = was.same;
    met_is_whole = was.met_is_whole;
    todo_is_whole = λ c body h is_body. was.todo_is_whole c body (subst (λ cs. Contains cs c) (sym is) (Contains-append_left rest (call ∷ []) c h)) is_body;
    closed = λ i t visited c body h is_body.
        ⊎_elim (λ e. inl e)
        (λ e. ⊎_elim (λ f. inr f)
        (λ (f : call ≡ c).
        ⊎_elim
        (λ (past : length groups ≤ call.group).
        let low : c.group < length groups = target_inside groups c.group body is_body in
        let here : call.group ≡ c.group = ap (λ d. d.group) f in
        absurd (omega arith))
        (λ yes. inl (subst (λ d. was_visited_in (met_at met d.group) d.inside ≡ true) f yes))
        why)
        (Contains-push_cases rest call c (subst (λ cs. Contains cs c) is e)))
        (was.closed i t visited c body h is_body);
    clear = was.clear;
  }

  -- a body that is met puts the calls in it on the list
  pub meets : (met : List Visited) (todo rest more : List EmittedCall) (call : EmittedCall) (v : Visited) (u : Tree) → P met todo → todo ≡ rest ++ call ∷ [] →
      v ≡ met_at met call.group → target groups call.group ≡ Some u → more ≡ rest ++ emitted_calls call.inside u →
      some_emitted test call.inside u ≡ false → P (set met call.group (with_visited_in v call.inside)) more
  meets met todo rest more call v u was is same_v is_u made clear =
      let next : List Visited = set met call.group (with_visited_in v call.inside) in
      let low : call.group < length met = omega (arith, target_inside groups call.group u is_u, was.same) in
      let whole : IsWhole groups root call.inside u =
      was.todo_is_whole call u (subst (λ cs. Contains cs call) (sym is) (Contains-push rest call)) is_u in
      let settle : (c : EmittedCall) → IsSettled met todo c → IsSettled next more c =
      λ c now.
      ⊎_elim (λ e. inl (set_keeps met call.group v call.inside c.group c.inside same_v e))
      (λ e. ⊎_elim
      (λ f. inr (subst (λ cs. Contains cs c) (sym made) (Contains-append_left rest (emitted_calls call.inside u) c f)))
      (λ (f : call ≡ c). inl (subst (λ d. was_visited_in (met_at next d.group) d.inside ≡ true) f (set_marks met call.group v call.inside low)))
      (Contains-push_cases rest call c (subst (λ cs. Contains cs c) is e)))
      now in
      let visits : (i : Inside) (t : Tree) → IsVisited groups root next i t → IsVisited groups root met i t ⊎ ((call.inside ≡ i) × (u ≡ t)) =
      λ i t now.
      ⊎_elim (λ e. inl (inl e))
      (λ e. ⊎_elim
      (λ f. inr (f.1, (let same : Some u ≡ Some t = sym is_u ∙ ap (target groups) f.0 ∙ e.1 in cc)))
      (λ f. inl (inr (e.0, e.1, f)))
      (set_cases met call.group v call.inside e.0 i same_v e.2))
      now in
      record {
        same = length_set met call.group (with_visited_in v call.inside) ∙ was.same;
        met_is_whole = λ k i body h is_body.
            ⊎_elim
            (λ (e : (call.group ≡ k) × (call.inside ≡ i)).
            let same : Some u ≡ Some body = sym is_u ∙ ap (target groups) e.0 ∙ is_body in
            let here : u ≡ body = cc in
            subst (λ o. IsWhole groups root o body) e.1 (subst (λ t. IsWhole groups root call.inside t) here whole))
            (λ e. was.met_is_whole k i body e is_body)
            (set_cases met call.group v call.inside k i same_v h);
        todo_is_whole = λ c body h is_body.
            ⊎_elim
            (λ e. was.todo_is_whole c body (subst (λ cs. Contains cs c) (sym is) (Contains-append_left rest (call ∷ []) c e)) is_body)
            (λ e. called call.inside u body c whole e is_body)
            (Contains-append_cases rest (emitted_calls call.inside u) c (subst (λ cs. Contains cs c) made h));
        closed = λ i t visited c body h is_body.
            ⊎_elim (λ e. settle c (was.closed i t e c body h is_body))
            (λ e. inr (subst (λ cs. Contains cs c) (sym made) (Contains-append_right rest (emitted_calls call.inside u) c
            (subst (λ o. Contains (emitted_calls o u) c) (sym e.0) (subst (λ x. Contains (emitted_calls i x) c) (sym e.1) h)))))
            (visits i t visited);
        clear = λ i t visited.
            ⊎_elim (λ e. was.clear i t e)
            (λ e. subst (λ o. some_emitted test o t ≡ false) e.0 (subst (λ x. some_emitted test call.inside x ≡ false) e.1 clear))
            (visits i t visited);
      }

  all_visited : (met : List Visited) → P met [] → (i : Inside) (t : Tree) → IsWhole groups root i t → IsVisited groups root met i t
  all_visited met was x y itself = inl (refl, refl)
  all_visited met was x y (called i t body call whole h is_body) =
      ⊎_elim (λ e. inr (call.group, is_body, e)) (λ (e : Contains [] call). absurd (let low : e.0 < 0 = e.1 in omega arith))
      (was.closed i t (all_visited met was i t whole) call body h is_body)

  -- When nothing is left, all that is written out was looked at.
  pub finished : (met : List Visited) (todo : List EmittedCall) → todo ≡ [] → P met todo → (i : Inside) (t : Tree) → IsWhole groups root i t →
      some_emitted test i t ≡ false
  finished met todo is was i t whole =
      let end : P met [] = subst (P met) is was in
      end.clear i t (all_visited met end i t whole)

pub target_is : (gs : List (Bor Expr)) (k : ℕ) (x : Bor Expr) → k < length gs → x ≡ get_or gs k x → target (map body_tree gs) k ≡ Some (body_tree x)
target_is [] k x inside is = absurd (omega arith)
target_is (g ∷ gs) zero x inside is = ap (λ y. Some (body_tree y)) (sym is)
target_is (g ∷ gs) (suc k) x inside is = target_is gs k x (omega arith) is

-- a refusal of what is written out as a whole
pub part_told : (groups : List Tree) (root : Tree) (test : CompileError → Inside → Tree → Bool) (e : CompileError) (i : Inside) (t : Tree) →
    IsWhole groups root i t → (is_memory e || some_emitted (test e) i t) ≡ true → (is_memory e ≡ true) ⊎ SomeEmittedPart groups root (test e)
part_told groups root test e i t whole h = ⊎_elim (λ m. inl m) (λ s. inr (part_found groups root (test e) i t whole s)) (or_cases (is_memory e) (some_emitted (test e) i t) h)
