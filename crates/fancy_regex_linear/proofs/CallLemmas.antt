-- What a call becomes has the first ways of the call, and the ways of a call keep the start of the match.
use Rattle.std.proofs.Common.{◌≡◌, ◌∙◌, ℕ, zero, suc, ◌+◌, ◌≤◌, ◌==◌, Bool, true, false, not, List, [], ◌∷◌, length, Option, Some, None, if◌then◌else◌, true≢false, refl, sym, ap, subst, arith}
use Rattle.std.specs.Prelude.{count_by}
use Rattle.std.proofs.lemmas.Bool.{lt-leb}
use Rattle.std.proofs.lemmas.List.Sums.{count_by-le-length}
use Rattle.fancy_regex_tree.specs.Tree.{Tree, Text}
use Rattle.fancy_regex_meaning.specs.Sizes.{Size, unbounded, any_size, target, is_recursive, size, size_through, may_be_empty}
use Rattle.fancy_regex_linear.specs.Program.{never_empty}
use Rattle.fancy_regex_linear.proofs.PlainLemmas.{empties, not_twice}
use Rattle.fancy_regex_meaning.specs.Ways.{MatchState, Setting, meaning, call_ways, is_at_call_limit}
use Rattle.fancy_regex_class.specs.Classes.{folded}
use Rattle.fancy_regex_linear.specs.Re.{Re}
use Rattle.fancy_regex_linear.specs.Meaning as plain
use Rattle.fancy_regex_linear.specs.Plain.{IsRegular, re_of}
use Rattle.fancy_regex_linear.specs.Calls.{IsCallable, IsOfBody, IsCalled}
use Rattle.fancy_regex_linear.proofs.ApartLemmas.{some_body, apart, called_callable}
use Rattle.fancy_regex_linear.proofs.OccurrenceLemmas.{AllStand}
use Rattle.fancy_regex_linear.proofs.RegularLemmas.{HasFirsts, asking_view, tree_firsts}
use Rattle.fancy_regex_linear.proofs.SameStartLemmas.{KeepsStart, HaveStartOf, regular_keeps_start}

-- where few calls are open, no group is at its limit
below_limit : (opened : List ℕ) (k : ℕ) → length opened ≤ 17 → is_at_call_limit opened k ≡ false
below_limit opened k few = lt-leb 19 (count_by (λ j. j == k) opened) (omega (arith, few, count_by-le-length (λ j. j == k) opened))

module _ (s : Setting) (groups : List Tree) where
  if_open : (b : Bool) (w : MatchState) (vs : List MatchState) → HaveStartOf w vs → HaveStartOf w (if b then [] else vs)
  if_open true w vs h = tt
  if_open false w vs h = h

  pub call_keeps_start : (depth j : ℕ) → IsCallable groups depth j → (n : ℕ) (opened : List ℕ) → KeepsStart (call_ways s groups n opened j)
  unfolding call_ways IsCallable
  call_keeps_start zero j h n opened w = absurd h
  call_keeps_start (suc depth) j h zero opened w = tt
  call_keeps_start (suc depth) j h (suc n) opened w =
      let found = some_body (IsRegular false (IsCallable groups depth)) (target groups j) h in
      let keeps =
      regular_keeps_start s groups (call_ways s groups n (j ∷ opened)) (IsCallable groups depth)
      (λ i known. call_keeps_start depth i known n (j ∷ opened)) (j + 1) found.0 found.2 w in
      rw found.1 (if_open (is_at_call_limit opened j) w _ keeps)

-- whether the spots hold the place where the match will be said to begin or not
module _ (has_span : Bool) (s : Setting) (groups : List Tree) (unicode : Bool) (cs : List (Text × Bool)) (same_fold : (c : ℕ) → s.fold c ≡ folded unicode c)
    (stand : AllStand groups) where
  -- a call has the first ways of the body of its group, where the group is not at its limit
  body_firsts : (n : ℕ) (opened : List ℕ) (j : ℕ) (body : Tree) (x y : Re) → is_at_call_limit opened j ≡ false
      → target groups j ≡ Some body → x ≡ y
      → HasFirsts has_span (length s.text) (meaning s groups (call_ways s groups n (j ∷ opened)) (j + 1) body).from
      (plain.ways (asking_view s cs) (length s.text) y)
      → HasFirsts has_span (length s.text) (call_ways s groups (suc n) opened j) (plain.ways (asking_view s cs) (length s.text) x)
  unfolding call_ways
  body_firsts n opened j body x y free found same firsts =
      subst (λ (z : Re). HasFirsts has_span (length s.text) (call_ways s groups (suc n) opened j) (plain.ways (asking_view s cs) (length s.text) z))
      (sym same) (λ w q. rw (free, found) (firsts w q))

  pub served : (depth j : ℕ) (x : Re) → IsCalled groups unicode cs depth j x → (n : ℕ) (opened : List ℕ) → depth ≤ n → length opened + depth ≤ 18
      → HasFirsts has_span (length s.text) (call_ways s groups n opened j) (plain.ways (asking_view s cs) (length s.text) x)
  unfolding IsCalled
  served zero j x h n opened le room = absurd h
  served (suc depth) j x h zero opened le room = absurd (omega (arith, le))
  served (suc depth) j x h (suc n) opened le room =
      let found = some_body (IsOfBody groups unicode cs (IsCalled groups unicode cs depth) j x) (target groups j) h in
      let body = found.0 in
      let called = found.2.0 in
      body_firsts n opened j body x (re_of unicode groups called (j + 1) found.2.1 body) (below_limit opened j (omega (arith, room)))
      found.1 found.2.3
      (tree_firsts has_span s groups unicode (call_ways s groups n (j ∷ opened)) cs same_fold called
      (λ i. IsCalled groups unicode cs depth i (called i))
      (λ i known. served depth i (called i) known n (j ∷ opened) (omega (arith, le)) (omega (arith, room)))
      (λ i known. call_keeps_start s groups depth i (called_callable groups unicode cs depth i (called i) known) n (j ∷ opened))
      false (λ e. absurd (true≢false (sym e))) (j + 1) found.2.1 body found.2.2
      (apart groups unicode cs stand depth called false (j + 1) body (λ e. absurd (true≢false (sym e))) (stand j body found.1) found.2.2)
      (λ e. omega arith) found.2.4)

-- A tree may be empty exactly where its pattern may, also where calls are written out: sizes look as deep as calls nest.
recursive_least : (b : Bool) (size : Size) → (if b then record { least = size.least; greatest = unbounded; always = false } else size).least ≡ size.least
recursive_least true size = refl
recursive_least false size = refl

-- the size of a call, if its group has a body, where the calls in it are followed so deep
abbrev sized : List Tree → ℕ → ℕ → Option Tree → Size
sized groups a j o = elim o [
  | None ↦ any_size
  | Some body ↦ (let s = size_through groups a body in
      if is_recursive groups j body then record { least = s.least; greatest = unbounded; always = false } else s)
]

abbrev call_size : List Tree → ℕ → ℕ → Size
call_size groups a j = sized groups a j (target groups j)

-- the least size of a call is that of the body of its group
body_least : (groups : List Tree) (a j : ℕ) (body : Tree) → target groups j ≡ Some body
    → (call_size groups a j).least ≡ (size_through groups a body).least
body_least groups a j body is =
    ap (λ (o : Option Tree). (sized groups a j o).least) is ∙ recursive_least (is_recursive groups j body) (size_through groups a body)

module _ (groups : List Tree) (unicode : Bool) (cs : List (Text × Bool)) where
  -- the call of any group may be empty exactly where its pattern may
  abbrev CallsAgree : ℕ → ℕ → Type 0
  CallsAgree depth a = (j : ℕ) (x : Re) → IsCalled groups unicode cs depth j x → ((call_size groups a j).least == 0) ≡ not (never_empty x)

  no_depth : (depth j : ℕ) (x : Re) → depth ≤ 0 → IsCalled groups unicode cs depth j x → ⊥
  unfolding IsCalled
  no_depth zero j x le is = is
  no_depth (suc depth) j x le is = omega (arith, le)

  -- a tree, where this is known of the calls in it
  tree_empties : (depth a : ℕ) → depth ≤ a → ((b : ℕ) → suc b ≡ a → CallsAgree depth b) → (called : ℕ → Re) (resets : Bool) (n k : ℕ) (t : Tree)
      → IsRegular resets (λ j. IsCalled groups unicode cs depth j (called j)) t
      → ((size_through groups a t).least == 0) ≡ not (never_empty (re_of unicode groups called n k t))
  unfolding size_through
  tree_empties depth zero le calls called resets n k t p =
      empties unicode groups called _ (λ j. IsCalled groups unicode cs depth j (called j))
      (λ j is. absurd (no_depth depth j (called j) le is)) resets n k t p
  tree_empties depth (suc a) le calls called resets n k t p =
      empties unicode groups called _ (λ j. IsCalled groups unicode cs depth j (called j)) (λ j is. calls a refl j (called j) is) resets n k t p

  call_empties : (depth a : ℕ) → depth ≤ suc a → CallsAgree depth a
  unfolding IsCalled
  call_empties zero a le j x is = absurd is
  call_empties (suc depth) a le j x is =
      let found = some_body (IsOfBody groups unicode cs (IsCalled groups unicode cs depth) j x) (target groups j) is in
      let body = found.0 in
      ap (λ (m : ℕ). m == 0) (body_least groups a j body found.1)
      ∙ tree_empties depth a (omega (arith, le)) (λ b next. call_empties depth b (omega (arith, le, next)))
      found.2.0 false (j + 1) found.2.1 body found.2.2
      ∙ ap (λ (y : Re). not (never_empty y)) (sym found.2.3)

  pub called_flag : (depth : ℕ) → depth ≤ length groups → (called : ℕ → Re) (resets : Bool) (n k : ℕ) (t : Tree)
      → IsRegular resets (λ j. IsCalled groups unicode cs depth j (called j)) t → not (may_be_empty groups t) ≡ never_empty (re_of unicode groups called n k t)
  unfolding size
  called_flag depth le called resets n k t p =
      ap not (tree_empties depth (length groups) le (λ b next. call_empties depth b (omega (arith, le, next))) called resets n k t p)
      ∙ not_twice (never_empty (re_of unicode groups called n k t))
