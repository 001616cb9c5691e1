-- The room of nodes whose calls are of groups with a known room.
use Rattle.std.proofs.Common.{◌≡◌, ℕ, zero, suc, ◌+◌, ◌-◌, ◌≤◌, Bool, true, false, cond, List, [], ◌∷◌, ◌++◌, map, Option, Some, None, IfSome, Box, Vec, Global, refl, sym, ap, ap₂, ◌∙◌, arith}
use Rattle.std.specs.Prelude.{slice_get, slice_index, is_some}
use Rattle.std.proofs.lemmas.Bool.{true≢false}
use Rattle.std.proofs.lemmas.List.{map-append}
use Rattle.fancy_regex_tree.specs.declared.expr.Assertion.{Assertion}
use Rattle.fancy_regex_tree.specs.declared.expr.Expr.{Expr}
use Rattle.fancy_regex_tree.specs.declared.expr.Expr.TheVariants as view
use Rattle.fancy_regex_tree.specs.declared.expr.LookAround.{LookAround}
use Rattle.fancy_regex_tree.specs.declared.expr.LookAround.TheVariants.{LookAhead, LookAheadNeg, LookBehind, LookBehindNeg}
use Rattle.fancy_regex_tree.specs.Tree as tree
use Rattle.fancy_regex_tree.specs.Tree.{Text, Tree, tree_of}
use Rattle.fancy_regex_desugar.specs.CorePatterns.{CorePattern, any, literal, class, nothing, read, general_newline, check, keep_out, cat, group, ahead, never, atomic, delegate, backref}
use Rattle.fancy_regex_desugar.specs.Delegates.{searched, is_delegated}
use Rattle.fancy_regex_desugar.specs.Unfolded.{Written, cat_all, alt_all, body_of, first_way_of, repeated}
use Rattle.fancy_regex_info.specs.Infos.{info_of}
use Rattle.fancy_regex_info.specs.declared.info.Info.{Info}
use Rattle.fancy_regex_info.specs.declared.info.Info.TheViews.{out-Info}
use Rattle.fancy_regex_program.specs.Code.{Layout}
use Rattle.fancy_regex_compiler.specs.Rooms.{room_with}
use Rattle.fancy_regex_compiler.specs.Inlined.{room_at, HaveRooms, TakesRoom, node_front, node_fronts, rooms_with, FirstTakesRoom, AllTakeRoom, IsLeafRoom}
use Rattle.fancy_regex_compiler.specs.Known.{front_of, info_written}
use Rattle.fancy_regex_compiler.specs.Refusals.{looks_behind}
use Rattle.fancy_regex_compiler.proofs.CalledTextLemmas.{front_never}
use Rattle.fancy_regex_compiler.proofs.NodeLemmas.{front_leaf, front_concat, front_alt, front_group, front_look, front_repeat, front_atomic, front_call}

-- what is written by a part's pattern
abbrev Pattern : Type 0
Pattern = (ℕ → CorePattern) → CorePattern

module _ (layout : Layout) where
  abbrev R : CorePattern → ℕ
  R = room_with layout

  room_body : (for_any : Bool) (t : Tree) (p : CorePattern) → R (body_of for_any t p) ≤ R p + 12
  unfolding room_with
  room_body for_any t p =
      elim (is_delegated for_any t) as (λ b. R (cond b (delegate (searched for_any t) p) p) ≤ R p + 12) [ true ↦ omega arith | false ↦ omega arith ]

  room_row : (xs : List Info) (call : ℕ → CorePattern) → R (cat_all (map (λ i. info_written call (info_of i)) xs)) ≤ rooms_with layout 0 (node_fronts xs call)
  unfolding room_with
  room_row [] call = omega arith
  room_row (x ∷ xs) call = omega (arith, room_row xs call)

  room_branches : (ps : List CorePattern) → R (alt_all ps) ≤ rooms_with layout 2 ps + 12
  unfolding room_with
  room_branches [] = omega arith
  room_branches (p ∷ []) = omega arith
  room_branches (p ∷ q ∷ ps) = omega (arith, room_branches (q ∷ ps))

  room_group : (k : ℕ) (p : CorePattern) → R (group k p) ≤ R p + 12
  unfolding room_with
  room_group k p = omega arith

  room_atomic : (t : Tree) (p : CorePattern) → R (atomic (first_way_of t p)) ≤ R p + 24
  unfolding room_with
  room_atomic t p = omega (arith, room_body false t p)

  room_ahead : (t : Tree) (p : CorePattern) → R (ahead (body_of true t p)) ≤ R p + 24
  unfolding room_with
  room_ahead t p = omega (arith, room_body true t p)

  room_never : (t : Tree) (p : CorePattern) → R (never (body_of true t p)) ≤ R p + 24
  unfolding room_with
  room_never t p = omega (arith, room_body true t p)

  room_repeated : (p : CorePattern) (lo hi : ℕ) (greedy : Bool) → R (repeated p lo hi greedy) ≤ R p + 12
  unfolding room_with
  room_repeated p zero zero greedy = omega arith
  room_repeated p zero (suc hi) greedy = omega arith
  room_repeated p (suc lo) hi greedy = omega arith

  rooms_snoc : (more : ℕ) (ps : List CorePattern) (p : CorePattern) → rooms_with layout more (ps ++ p ∷ []) ≡ rooms_with layout more ps + (R p + more)
  rooms_snoc more [] p = omega arith
  rooms_snoc more (q ∷ ps) p = omega (arith, rooms_snoc more ps p)

  room_nothing : R nothing ≡ 0
  unfolding room_with
  room_nothing = refl

module _ (rooms : List (Option ℕ)) where
  fewer : (layout : Layout) (m n : ℕ) (call : ℕ → CorePattern) → m ≤ n → HaveRooms layout rooms n call → HaveRooms layout rooms m call
  fewer layout m n call le h k l at low = h k l at (omega (arith, low, le))

  -- a pattern that is made of one that takes room
  takes_by : (p q : Pattern) (f : CorePattern → CorePattern) (m n : ℕ) → ((call : ℕ → CorePattern) → q call ≡ f (p call)) → ((layout : Layout) (c : CorePattern) → room_with layout (f c) ≤ room_with layout c + (n - m)) →
      m ≤ n → TakesRoom rooms m p → TakesRoom rooms n q
  takes_by p q f m n is more le h = record {
    fits = λ layout call have.
        let same = ap (room_with layout) (is call) in
        let inner = h.fits layout call (fewer layout m n call le have) in
        let outer = more layout (p call) in
        omega (arith, same, inner, outer, le);
    same = λ call other s. is call ∙ ap f (h.same call other s) ∙ sym (is other);
  }

  -- more room is room too
  pub takes_work : (p : Pattern) (m n : ℕ) → m ≤ n → TakesRoom rooms m p → TakesRoom rooms n p
  takes_work p m n le h = record {
    fits = λ layout call have. let inner = h.fits layout call (fewer layout m n call le have) in omega (arith, inner, le);
    same = h.same;
  }

  pub takes_nothing : (i : Info) → ((call : ℕ → CorePattern) → node_front i call ≡ nothing) → TakesRoom rooms 0 (node_front i)
  takes_nothing i is = record {
    fits = λ layout call have. let same = ap (room_with layout) (is call) in omega (arith, same, room_nothing layout);
    same = λ call other s. is call ∙ sym (is other);
  }

  pub takes_call : (i : Info) (k : ℕ) (o : Option ℕ) → tree_of (out-Info i).expr.now ≡ tree.subroutine_call k → room_at rooms k ≡ o → IfSome o (λ n. TakesRoom rooms n (node_front i))
  takes_call i k None is at = tt
  takes_call i k (Some n) is at = record {
    fits = λ layout call have. let same = ap (room_with layout) (front_call call i k is) in let h = have k n at (omega arith) in omega (arith, same, h);
    same = λ call other s. front_call call i k is ∙ s k (ap is_some at) ∙ sym (front_call other i k is);
  }

  pub takes_row : (i : Info) (ts : Vec Expr Global) (n : ℕ) (xs : List Info) → (out-Info i).expr.now ≡ view.Concat ts → xs ≡ (out-Info i).children.items → AllTakeRoom rooms 0 n xs →
      TakesRoom rooms n (node_front i)
  takes_row i ts n xs is all h = record {
    fits = λ layout call have.
        let same = ap (room_with layout) (row_is call) in
        let inner = h.fits layout call have in
        omega (arith, same, inner, room_row layout xs call);
    same = λ call other s. row_is call ∙ cats xs xs call other (h.same call other s) ∙ sym (row_is other);
  }
    where
      row_is : (call : ℕ → CorePattern) → node_front i call ≡ cat_all (map (λ x. info_written call (info_of x)) xs)
      row_is call = front_concat call i ts is ∙ ap (λ ys. cat_all (map (λ x. info_written call (info_of x)) ys)) (sym all)

      cat_fronts : List CorePattern → CorePattern
      cat_fronts [] = nothing
      cat_fronts (p ∷ ps) = cat p (cat_fronts ps)

      cats_are : (ys : List Info) (call : ℕ → CorePattern) → cat_all (map (λ x. info_written call (info_of x)) ys) ≡ cat_fronts (node_fronts ys call)
      cats_are [] call = refl
      cats_are (y ∷ ys) call = ap (cat (node_front y call)) (cats_are ys call)

      cats : (ys zs : List Info) (call other : ℕ → CorePattern) → node_fronts ys call ≡ node_fronts zs other →
          cat_all (map (λ x. info_written call (info_of x)) ys) ≡ cat_all (map (λ x. info_written other (info_of x)) zs)
      cats ys zs call other e = cats_are ys call ∙ ap cat_fronts e ∙ sym (cats_are zs other)

  pub takes_branches : (i : Info) (ts : Vec Expr Global) (m n : ℕ) (xs : List Info) → (out-Info i).expr.now ≡ view.Alt ts → xs ≡ (out-Info i).children.items → AllTakeRoom rooms 2 m xs →
      n ≡ m + 12 → TakesRoom rooms n (node_front i)
  takes_branches i ts m n xs is all h sum = record {
    fits = λ layout call have.
        let same = ap (room_with layout) (branches_are call) in
        let inner = h.fits layout call (fewer layout m n call (omega (arith, sum)) have) in
        omega (arith, same, inner, sum, room_branches layout (node_fronts xs call));
    same = λ call other s. branches_are call ∙ ap alt_all (h.same call other s) ∙ sym (branches_are other);
  }
    where
      branches_are : (call : ℕ → CorePattern) → node_front i call ≡ alt_all (node_fronts xs call)
      branches_are call = front_alt call i ts is ∙ ap (λ ys. alt_all (node_fronts ys call)) (sym all)

  pub takes_group : (i : Info) (t : Box Expr Global) (m n : ℕ) (xs : List Info) → (out-Info i).expr.now ≡ view.Group t → xs ≡ (out-Info i).children.items → FirstTakesRoom rooms m xs → n ≡ m + 12 →
      TakesRoom rooms n (node_front i)
  takes_group i t m n xs is all h sum =
      takes_by (node_front h.first) (node_front i) (group (out-Info i).start_group) m n (λ call. front_group call i t h.first is (sym (ap (λ ys. slice_get ys 0) all) ∙ h.at))
      (λ layout c. omega (arith, sum, room_group layout (out-Info i).start_group c)) (omega (arith, sum)) h.takes

  pub takes_atomic : (i : Info) (t : Box Expr Global) (m n : ℕ) (xs : List Info) → (out-Info i).expr.now ≡ view.AtomicGroup t → xs ≡ (out-Info i).children.items → FirstTakesRoom rooms m xs →
      n ≡ m + 24 → TakesRoom rooms n (node_front i)
  takes_atomic i t m n xs is all h sum =
      takes_by (node_front h.first) (node_front i) (λ p. atomic (first_way_of (tree_of t.value) p)) m n
      (λ call. front_atomic call i t h.first is (sym (ap (λ ys. slice_get ys 0) all) ∙ h.at))
      (λ layout c. omega (arith, sum, room_atomic layout (tree_of t.value) c)) (omega (arith, sum)) h.takes

  pub takes_look : (i : Info) (t : Box Expr Global) (how : LookAround) (m n : ℕ) (xs : List Info) → (out-Info i).expr.now ≡ view.LookAround t how → xs ≡ (out-Info i).children.items →
      looks_behind how ≡ false → FirstTakesRoom rooms m xs → n ≡ m + 24 → TakesRoom rooms n (node_front i)
  takes_look i t LookAhead m n xs is all ahead_of h sum =
      takes_by (node_front h.first) (node_front i) (λ p. ahead (body_of true (tree_of t.value) p)) m n
      (λ call. front_look call i t LookAhead h.first is (sym (ap (λ ys. slice_get ys 0) all) ∙ h.at))
      (λ layout c. omega (arith, sum, room_ahead layout (tree_of t.value) c)) (omega (arith, sum)) h.takes
  takes_look i t LookAheadNeg m n xs is all ahead_of h sum =
      takes_by (node_front h.first) (node_front i) (λ p. never (body_of true (tree_of t.value) p)) m n
      (λ call. front_look call i t LookAheadNeg h.first is (sym (ap (λ ys. slice_get ys 0) all) ∙ h.at))
      (λ layout c. omega (arith, sum, room_never layout (tree_of t.value) c)) (omega (arith, sum)) h.takes
  takes_look i t LookBehind m n xs is all ahead_of h sum = absurd (true≢false ahead_of)
  takes_look i t LookBehindNeg m n xs is all ahead_of h sum = absurd (true≢false ahead_of)

  pub takes_repeat : (i : Info) (t : Box Expr Global) (lo hi : ℕ) (greedy : Bool) (m n : ℕ) (xs : List Info) → (out-Info i).expr.now ≡ view.Repeat t lo hi greedy →
      xs ≡ (out-Info i).children.items → FirstTakesRoom rooms m xs → n ≡ m + 12 → TakesRoom rooms n (node_front i)
  takes_repeat i t lo hi greedy m n xs is all h sum =
      takes_by (node_front h.first) (node_front i) (λ p. repeated p lo hi greedy) m n
      (λ call. front_repeat call i t lo hi greedy h.first is (sym (ap (λ ys. slice_get ys 0) all) ∙ h.at))
      (λ layout c. omega (arith, sum, room_repeated layout c lo hi greedy)) (omega (arith, sum)) h.takes

  pub takes_never : (i : Info) (t : Box Expr Global) (lo hi : ℕ) (greedy : Bool) → (out-Info i).expr.now ≡ view.Repeat t lo hi greedy → lo ≡ 0 → hi ≡ 0 → TakesRoom rooms 0 (node_front i)
  takes_never i t lo hi greedy is least greatest = takes_nothing i (λ call. front_never call i t lo hi greedy is least greatest)

  pub takes_leaf : (i : Info) (o : Option ℕ) → IfSome o (λ n. IsLeafRoom n (tree_of (out-Info i).expr.now)) → IfSome o (λ n. TakesRoom rooms n (node_front i))
  takes_leaf i None h = tt
  takes_leaf i (Some n) h = record {
    fits = λ layout call have. let same = ap (room_with layout) (is_leaf call) in omega (arith, same, h.fits layout);
    same = λ call other s. is_leaf call ∙ sym (is_leaf other);
  }
    where
      is_leaf : (call : ℕ → CorePattern) → node_front i call ≡ h.pattern
      is_leaf call = front_leaf call i ∙ h.is call (out-Info i).start_group (map (λ x. info_written call (info_of x)) (out-Info i).children.items)

  pub takes_none : (more : ℕ) → AllTakeRoom rooms more 0 []
  takes_none more = record { fits = λ layout call have. omega arith; same = λ call other s. refl }

  pub takes_more : (more : ℕ) (xs ys : List Info) (x : Info) (a b n : ℕ) → ys ≡ xs ++ x ∷ [] → n ≡ a + (b + more) → AllTakeRoom rooms more a xs → TakesRoom rooms b (node_front x) →
      AllTakeRoom rooms more n ys
  takes_more more xs ys x a b n is sum h k = record {
    fits = λ layout call have.
        let first = h.fits layout call (fewer layout a n call (omega (arith, sum)) have) in
        let last = k.fits layout call (fewer layout b n call (omega (arith, sum)) have) in
        let same = ap (rooms_with layout more) (fronts_are call) in
        omega (arith, same, first, last, sum, rooms_snoc layout more (node_fronts xs call) (node_front x call));
    same = λ call other s. fronts_are call ∙ ap₂ (λ ps p. ps ++ p ∷ []) (h.same call other s) (k.same call other s) ∙ sym (fronts_are other);
  }
    where
      fronts_are : (call : ℕ → CorePattern) → node_fronts ys call ≡ node_fronts xs call ++ node_front x call ∷ []
      fronts_are call = ap (λ zs. node_fronts zs call) is ∙ map-append (λ i. node_front i call) xs (x ∷ [])

-- a node without parts
leaf_room : (t u : Tree) (p : CorePattern) → t ≡ u → ((call : ℕ → CorePattern) (first : ℕ) (us : List Written) → front_of call first u us ≡ p) →
    ((layout : Layout) → room_with layout p ≤ 12) → IsLeafRoom 12 t
leaf_room t u p is same fits = record {
  pattern = p;
  is = λ call first us. ap (λ v. front_of call first v us) is ∙ same call first us;
  fits = fits;
}

module _ (t : Tree) where
  pub leaf_any : (newline crlf : Bool) → t ≡ tree.any newline crlf → IsLeafRoom 12 t
  unfolding front_of room_with
  leaf_any newline crlf is = leaf_room t (tree.any newline crlf) (read (any newline crlf)) is (λ call first us. refl) (λ layout. omega arith)

  pub leaf_assertion : (a : Assertion) → t ≡ tree.assertion a → IsLeafRoom 12 t
  unfolding front_of room_with
  leaf_assertion a is = leaf_room t (tree.assertion a) (check a) is (λ call first us. refl) (λ layout. omega arith)

  pub leaf_newline : (unicode : Bool) → t ≡ tree.general_newline unicode → IsLeafRoom 12 t
  unfolding front_of room_with
  leaf_newline unicode is = leaf_room t (tree.general_newline unicode) (general_newline unicode) is (λ call first us. refl) (λ layout. omega arith)

  pub leaf_literal : (val : Text) (casei : Bool) → t ≡ tree.literal val casei → IsLeafRoom 12 t
  unfolding front_of room_with
  leaf_literal val casei is = leaf_room t (tree.literal val casei) (read (literal (slice_index val 0) casei)) is (λ call first us. refl) (λ layout. omega arith)

  pub leaf_class : (text : Text) (casei : Bool) → t ≡ tree.delegate text casei → IsLeafRoom 12 t
  unfolding front_of room_with
  leaf_class text casei is = leaf_room t (tree.delegate text casei) (read (class text casei)) is (λ call first us. refl) (λ layout. omega arith)

  pub leaf_backref : (k : ℕ) (casei : Bool) → t ≡ tree.backref k casei → IsLeafRoom 12 t
  unfolding front_of room_with
  leaf_backref k casei is = leaf_room t (tree.backref k casei) (backref k casei) is (λ call first us. refl) (λ layout. omega arith)

  pub leaf_keep_out : t ≡ tree.keep_out → IsLeafRoom 12 t
  unfolding front_of room_with
  leaf_keep_out is = leaf_room t tree.keep_out keep_out is (λ call first us. refl) (λ layout. omega arith)
