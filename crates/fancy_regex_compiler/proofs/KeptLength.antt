-- How long a program is whose calls stay.
use Rattle.std.proofs.Common.{◌≡◌, ℕ, zero, suc, ◌+◌, ◌*◌, ◌-◌, ◌<◌, ◌≤◌, Bool, true, false, List, [], ◌∷◌, ◌++◌, map, length, get_or, Option, Some, None, option_map, sum, refl, sym, ap, ap₂, subst, ⊎_elim, ◌∙◌, arith, length-append}
use Rattle.std.specs.Prelude.{All, is_some, slice_get}
use Rattle.std.proofs.Math.ListN.{set}
use Rattle.std.proofs.lemmas.List.{get_or-set_other, length-map, length-set}
use Rattle.std.proofs.lemmas.List.Elements.{All-head, All-tail, All-get_or}
use Rattle.std.proofs.lemmas.List.Sums.{sum_by-set, sum-map}
use Rattle.std.proofs.lemmas.Option.{get_or_from_slice_get, slice_get_within, slice_get-map}
use Rattle.fancy_regex_tree.specs.Tree.{Tree}
use Rattle.fancy_regex_meaning.specs.Choices.{nodes_with}
use Rattle.fancy_regex_meaning.specs.Groups.{Pattern}
use Rattle.fancy_regex_meaning.specs.Sizes.{target}
use Rattle.fancy_regex_meaning.specs.Ways.{max_open_calls}
use Rattle.fancy_regex_class.specs.Classes.{in_class, folded}
use Rattle.fancy_regex_desugar.specs.CorePatterns.{CorePattern, nothing, cat, back, called}
use Rattle.fancy_regex_desugar.specs.ProgramSizes.{room}
use Rattle.fancy_regex_desugar.specs.Unfolded.{written_call, written_whole, core_pattern_of}
use Rattle.fancy_regex_desugar.proofs.ProgramSizeProofs.{Fits, part_has_room, whole_has_room}
use Rattle.fancy_regex_program.specs.Assembled.{Body, AreDistinct, return_code, stretch, stretches, IsMadeOf, IsBodyOf}
use Rattle.fancy_regex_program.specs.Code.{Layout, waits_with, flushed, closed, code_with, opening, closing}
use Rattle.fancy_regex_program.specs.Layouts.{IsLaidOut, CallsAreLaidOut, body_pattern, main_code}
use Rattle.fancy_regex_program.specs.Ops as op
use Rattle.fancy_regex_program.specs.Ops.{Op, Place}
use Rattle.fancy_regex_program.proofs.WrittenParts.{PartByPart, of_tree, of_whole}
use Rattle.fancy_regex_compiled.specs.Programs.{nodes_of_call, nodes_with_calls}
use Rattle.fancy_regex_program.proofs.WrittenOut.{is_call}
use Rattle.fancy_regex_compiler.specs.Rooms.{room_at_call, room_with}
use Rattle.fancy_regex_compiler.specs.Inlined.{most_room}
use Rattle.fancy_regex_compiler.proofs.LengthLemmas.{opening_long, closing_long}
use Rattle.fancy_regex_compiler.proofs.RoomLemmas.{code_fits}

-- A pattern with so much room, and what stands for a call: it has as much as the call may have, where these calls count as written out.
unfoldable filler : ℕ → CorePattern
filler zero = nothing
filler (suc n) = cat (back 1) (filler n)

filler_room : (n : ℕ) → room (filler n) ≡ n
unfolding room filler
filler_room zero = refl
filler_room (suc n) = omega (arith, filler_room n)

-- a call counts one node at least
call_counts : (out : Bool) → 1 ≤ nodes_of_call out
call_counts true = omega arith
call_counts false = omega arith

-- what takes as much room as so many nodes
abbrev most_in : ℕ → ℕ
most_in nodes = 16 * nodes - 3

unfoldable stand : (ℕ → Bool) → ℕ → CorePattern
stand counted k = called k (filler (most_in (nodes_of_call (counted k))))

stand_room : (counted : ℕ → Bool) (k : ℕ) → room (stand counted k) ≡ most_in (nodes_of_call (counted k))
unfolding room stand
stand_room counted k = filler_room (most_in (nodes_of_call (counted k)))

stand_fits : (counted : ℕ → Bool) (k : ℕ) → Fits (stand counted k) (nodes_of_call (counted k))
stand_fits counted k = record { is = let one = call_counts (counted k) in omega (arith, one, stand_room counted k) }

module _ (layout : Layout) (is_written_out : ℕ → Bool) where
  -- Where the calls of the first pattern stay or are of such groups, it has room in that of the second.
  abbrev FitsIn : CorePattern → CorePattern → Type 0
  FitsIn p q = CallsAreLaidOut layout is_written_out p → room_with layout p ≤ room q

  fit_parts : PartByPart FitsIn
  unfolding room room_with
  fit_parts = record {
    of_nothing = λ s. omega arith;
    of_read = λ c s. omega arith;
    of_newline = λ unicode s. omega arith;
    of_check = λ a s. omega arith;
    of_continue = λ s. omega arith;
    of_keep_out = λ s. omega arith;
    of_fail = λ s. omega arith;
    of_back = λ n s. omega arith;
    of_backref = λ k casei s. omega arith;
    of_exists = λ k s. omega arith;
    of_cat = λ a b c d h k s. omega (arith, h s.0, k s.1);
    of_alt = λ a b c d h k s. omega (arith, h s.0, k s.1);
    of_group = λ k a b h s. omega (arith, h s);
    of_ahead = λ a b h s. omega (arith, h s);
    of_never = λ a b h s. omega (arith, h s);
    of_atomic = λ a b h s. omega (arith, h s);
    of_delegate = λ t a b h s. omega arith;
    of_tail = λ t a b h s. omega (arith, h s);
    of_repeat = λ a b lo hi greedy h s. omega (arith, h s);
    of_conditional = λ a b c d e f h k l s. omega (arith, h s.0, k s.1, l s.2);
    of_absent = λ a b h s. omega (arith, h s);
  }

  module _ (groups : List Tree) (small : (k : ℕ) → is_written_out k ≡ true → room_with layout (written_call groups (max_open_calls groups) [] k) ≤ most_room)
      (counted : ℕ → Bool) (all_counted : (k : ℕ) → is_written_out k ≡ true → counted k ≡ true) where
    abbrev first : ℕ → CorePattern
    first = written_call groups (max_open_calls groups) []

    kept_room : (o : Option Place) (n : ℕ) → is_some o ≡ true → room_at_call o n ≤ 1
    kept_room None n stays = absurd cc
    kept_room (Some c) n stays = omega arith

    fit_kept : (k : ℕ) (p : CorePattern) → is_some (layout k) ≡ true → room_with layout (called k p) ≤ 1
    unfolding room_with
    fit_kept k p stays = kept_room (layout k) (room_with layout p) stays

    -- one that stays, and one that is written out
    first_stays : (k : ℕ) → is_some (layout k) ≡ true → room_with layout (first k) ≤ most_in (nodes_of_call (counted k))
    first_stays k stays =
        let call = is_call groups (max_open_calls groups) [] k in
        let one = subst (λ p. room_with layout p ≤ 1) (sym call.is) (fit_kept k call.inside stays) in
        let counts = call_counts (counted k) in
        omega (arith, one, counts)

    first_out : (k : ℕ) → is_written_out k ≡ true → room_with layout (first k) ≤ most_in (nodes_of_call (counted k))
    first_out k out =
        let low = small k out in
        let many : nodes_of_call (counted k) ≡ 32 = ap nodes_of_call (all_counted k out) in
        omega (arith, low, many)

    fit_first : (k : ℕ) → FitsIn (first k) (stand counted k)
    fit_first k laid_out =
        let call = is_call groups (max_open_calls groups) [] k in
        let is : IsLaidOut layout is_written_out k = subst (CallsAreLaidOut layout is_written_out) call.is laid_out in
        let low = ⊎_elim (first_stays k) (first_out k) is in
        omega (arith, low, stand_room counted k)

    -- a whole pattern, and the body of a group
    room_kept : (n : ℕ) (t : Tree) → CallsAreLaidOut layout is_written_out (written_whole groups first n t) → room_with layout (written_whole groups first n t) + 3 ≤ 16 * nodes_with (λ j. nodes_of_call (counted j)) t
    room_kept n t laid_out =
        let fits = of_whole FitsIn fit_parts groups first (stand counted) fit_first n t laid_out in
        let whole = (whole_has_room groups (stand counted) (λ j. nodes_of_call (counted j)) (stand_fits counted) n t).is in
        omega (arith, fits, whole)

    room_body : (k : ℕ) (t : Tree) → CallsAreLaidOut layout is_written_out (body_pattern groups k t) → room_with layout (body_pattern groups k t) + 3 ≤ 16 * nodes_with (λ j. nodes_of_call (counted j)) t
    room_body k t laid_out =
        let fits = (of_tree FitsIn fit_parts groups first (stand counted) fit_first (k + 1) t).front laid_out in
        let part = (part_has_room groups (stand counted) (λ j. nodes_of_call (counted j)) (stand_fits counted) (k + 1) t).front in
        omega (arith, fits, part)

-- the weights of the bodies' groups
abbrev total : List ℕ → List Body → ℕ
total weights [] = 0
total weights (b ∷ bs) = get_or weights b.group 0 + total weights bs

total_same : (weights : List ℕ) (k : ℕ) (bs : List Body) → ((j : ℕ) (c : Body) → slice_get bs j ≡ Some c → k ≡ c.group → ⊥) → total (set weights k 0) bs ≡ total weights bs
total_same weights k [] other = refl
total_same weights k (b ∷ bs) other =
    ap₂ (λ m n. m + n) (get_or-set_other weights k b.group 0 0 (λ e. other 0 b refl (sym e))) (total_same weights k bs (λ j c at. other (suc j) c at))

-- Bodies of distinct groups weigh together no more than all groups.
total_fits : (weights : List ℕ) (bs : List Body) → ((j : ℕ) (c : Body) → slice_get bs j ≡ Some c → c.group < length weights) → AreDistinct bs → total weights bs ≤ sum weights
total_fits weights [] inside distinct = omega arith
total_fits weights (b ∷ bs) inside distinct =
    let left = set weights b.group 0 in
    let other = λ (j : ℕ) (c : Body) (at : slice_get bs j ≡ Some c) (e : b.group ≡ c.group). absurd {A = ⊥} (apart (distinct 0 (suc j) b c refl at e)) in
    let rest = total_fits left bs (λ j c at. let lt = inside (suc j) c at in omega (arith, lt, length-set weights b.group 0))
    (λ i j c d ci dj e. let same = distinct (suc i) (suc j) c d ci dj e in omega (arith, same)) in
    omega (arith, rest, total_same weights b.group bs other, sum_by-set (λ n. n) weights b.group 0 0 (inside 0 b refl))
  where
    apart : {j : ℕ} → 0 ≡ suc j → ⊥
    apart e = cc

module _ (u w : Bool) (layout : Layout) where
  return_long : (o : Option Place) → length (return_code o) ≤ 1
  return_long None = omega arith
  return_long (Some c) = omega arith

  closed_long : (p : CorePattern) (pc slot : ℕ) → length (closed (code_with (in_class u) (folded u) w layout p []) (waits_with layout p []) pc slot) ≤ room_with layout p
  closed_long p pc slot =
      omega (arith, code_fits layout u w p [] pc slot, length-append (code_with (in_class u) (folded u) w layout p [] pc slot) (flushed (waits_with layout p [])))

  stretch_long : (b : Body) → length (stretch (in_class u) (folded u) w layout b) ≤ room_with layout b.pattern + 1
  stretch_long b =
      let code = closed (code_with (in_class u) (folded u) w layout b.pattern []) (waits_with layout b.pattern []) b.start b.first in
      omega (arith, closed_long b.pattern b.start b.first, return_long (layout b.group), length-append code (return_code (layout b.group)))

  pub main_long : (anchored : Bool) (count : ℕ) (p : CorePattern) → length (main_code (in_class u) (folded u) w layout anchored count p) ≤ room_with layout p + 4
  main_long anchored count p =
      let o = opening (in_class u) (folded u) w anchored in
      let e = closing (in_class u) (folded u) w in
      let body = closed (code_with (in_class u) (folded u) w layout p []) (waits_with layout p []) (length o) (2 * count) in
      omega (
        arith,
        opening_long (in_class u) (folded u) w anchored,
        closing_long (in_class u) (folded u) w,
        closed_long p (length o) (2 * count),
        length-append o (body ++ e),
        length-append body e,
      )

  module _ (is_written_out : ℕ → Bool) (groups : List Tree) (small : (k : ℕ) → is_written_out k ≡ true → room_with layout (written_call groups (max_open_calls groups) [] k) ≤ most_room)
      (counted : ℕ → Bool) (all_counted : (k : ℕ) → is_written_out k ≡ true → counted k ≡ true) where
    -- what the body of a group weighs: its nodes, and one for its return
    abbrev weight : Tree → ℕ
    weight t = 1 + nodes_with (λ k. nodes_of_call (counted k)) t

    weight_at : (b : Body) (t : Tree) → target groups b.group ≡ Some t → get_or (map weight groups) b.group 0 ≡ weight t
    weight_at b t is = get_or_from_slice_get (map weight groups) b.group (weight t) 0 (slice_get-map weight groups b.group ∙ ap (option_map weight) is)

    body_long : (b : Body) → IsBodyOf layout is_written_out groups b → length (stretch (in_class u) (folded u) w layout b) ≤ 16 * get_or (map weight groups) b.group 0
    body_long b is =
        let laid_out = subst (CallsAreLaidOut layout is_written_out) is.pattern is.calls in
        omega (arith, stretch_long b, ap (room_with layout) is.pattern, room_body layout is_written_out groups small counted all_counted b.group is.tree laid_out, weight_at b is.tree is.is_target)

    row_long : (bs : List Body) → All (IsBodyOf layout is_written_out groups) bs → length (stretches (in_class u) (folded u) w layout bs) ≤ 16 * total (map weight groups) bs
    row_long [] each = omega arith
    row_long (b ∷ bs) each =
        omega (
          arith,
          body_long b (All-head (IsBodyOf layout is_written_out groups) b bs each),
          row_long bs (All-tail (IsBodyOf layout is_written_out groups) b bs each),
          length-append (stretch (in_class u) (folded u) w layout b) (stretches (in_class u) (folded u) w layout bs),
        )

    group_there : (bs : List Body) → All (IsBodyOf layout is_written_out groups) bs → (j : ℕ) (c : Body) → slice_get bs j ≡ Some c → c.group < length (map weight groups)
    group_there bs each j c at =
        let P = IsBodyOf layout is_written_out groups in
        let is : IsBodyOf layout is_written_out groups c = subst P (get_or_from_slice_get bs j c c at) (All-get_or P bs j c (slice_get_within bs j c at) each) in
        omega (arith, slice_get_within groups c.group is.tree is.is_target, length-map groups weight)

  -- A program of a tree's pattern has few instructions: sixteen for each node and each return, and sixteen more. Each call that is written out
  -- counts as such.
  pub assembled_is_few : (is_written_out : ℕ → Bool) (anchored : Bool) (count : ℕ) (pattern : Pattern) (bodies : List Body) (code : List Op) →
      IsMadeOf (in_class u) (folded u) w layout anchored count (core_pattern_of pattern) bodies code →
      ((k : ℕ) → is_written_out k ≡ true → room_with layout (written_call pattern.groups (max_open_calls pattern.groups) [] k) ≤ most_room) →
      (counted : ℕ → Bool) → ((k : ℕ) → is_written_out k ≡ true → counted k ≡ true) →
      CallsAreLaidOut layout is_written_out (core_pattern_of pattern) → All (IsBodyOf layout is_written_out pattern.groups) bodies → AreDistinct bodies →
      length code ≤ 16 * (nodes_with_calls counted pattern + 1)
  unfolding core_pattern_of
  assembled_is_few is_written_out anchored count pattern bodies code made small counted all_counted laid_out each distinct =
      let main = main_code (in_class u) (folded u) w layout anchored count (core_pattern_of pattern) in
      let row = stretches (in_class u) (folded u) w layout bodies in
      let groups = pattern.groups in
      let end : List Op = op.finish ∷ [] in
      omega (
        arith,
        ap length made.is,
        length-append main (row ++ end),
        length-append row end,
        main_long anchored count (core_pattern_of pattern),
        room_kept layout is_written_out groups small counted all_counted pattern.first_group pattern.tree laid_out,
        row_long is_written_out groups small counted all_counted bodies each,
        total_fits (map (weight is_written_out groups small counted all_counted) groups) bodies (group_there is_written_out groups small counted all_counted bodies each) distinct,
        sum-map (weight is_written_out groups small counted all_counted) groups,
      )
