-- A program that is put together of a main program and bodies is valid, where their patterns can be written; and it is one whose calls stay.
use Rattle.std.proofs.Common.{◌≡◌, ℕ, ◌+◌, ◌*◌, ◌<◌, ◌≤◌, Bool, true, List, [], ◌∷◌, ◌++◌, length, Option, Some, None, refl, sym, ap, ap₂, subst, ◌∙◌, append_assoc, length-append, arith}
use Rattle.std.specs.Prelude.{All, slice_get}
use Rattle.std.proofs.lemmas.List.Elements.{All-head, All-tail, All-get_or}
use Rattle.std.proofs.lemmas.Option.{get_or_from_slice_get, slice_get_within}
use Rattle.fancy_regex_tree.specs.Tree.{Text, Tree}
use Rattle.fancy_regex_meaning.specs.Sizes.{target}
use Rattle.fancy_regex_desugar.specs.CorePatterns.{CorePattern}
use Rattle.fancy_regex_program.specs.Ops as op
use Rattle.fancy_regex_program.specs.Ops.{Op, Place}
use Rattle.fancy_regex_program.specs.Code.{Layout, Code, slots_with, waits_with, closed, code_with}
use Rattle.fancy_regex_program.specs.Layouts.{IsPlaced, CallsAreLaidOut, AreWrittenOut, body_pattern, body_code, main_code, HasBody, IsKept}
use Rattle.fancy_regex_program.specs.Assembled.{Body, return_code, stretch, stretches, StandFrom, IsAssembled, IsBodyOf}
use Rattle.fancy_regex_program.specs.Shapes.{IsWritable}
use Rattle.fancy_regex_program.specs.ValidPrograms.{HasPlace, IsValidProgram}
use Rattle.fancy_regex_program.proofs.Stretches.{stands_at}
use Rattle.fancy_regex_program.proofs.ValidCode.{AreValid, moved, joined, plain, closed_valid, HasPlaces, code_valid, main_valid, are_valid_ops, finish_last}

-- the place of a group is among the slots
place_inside : (from bodies_end slots : ℕ) (c : Place) → IsPlaced from bodies_end slots c → HasPlace slots c
place_inside from bodies_end slots c is =
    let to = is.frames_to in
    let on = is.frames_from in
    let behind = is.count_from in
    let own = is.own_to in
    (omega (arith, to, on), (omega (arith, own, behind, to, on), to))

regrouped : (a b c d e : List Op) → a ++ ((b ++ (c ++ d)) ++ e) ≡ (a ++ b) ++ (c ++ (d ++ e))
regrouped a b c d e = simp append_assoc

module _ (has_member : Text → Bool → ℕ → Bool) (fold : ℕ → ℕ) (whole : Bool) (layout : Layout) where
  abbrev here : Body → List Op
  here = stretch has_member fold whole layout

  abbrev row : List Body → List Op
  row = stretches has_member fold whole layout

  module _ (size slots : ℕ) (places : HasPlaces size slots layout) (first end : ℕ) (ends : 2 * end ≤ slots) (start : whole ≡ true → 1 < slots) where
    return_valid : (pc : ℕ) (k : ℕ) (o : Option Place) → layout k ≡ o → AreValid size slots pc (return_code o)
    return_valid pc k None e = tt
    return_valid pc k (Some c) e = (plain size slots pc (op.return c) (places k c e).0 tt tt, tt)

    stretch_valid : (b : Body) → IsWritable first end b.pattern → b.own ≡ slots_with layout b.pattern → b.first + b.own ≤ slots → b.start + length (here b) < size →
        AreValid size slots b.start (here b)
    stretch_valid b writable own fits room =
        let code = closed (code_with has_member fold whole layout b.pattern []) (waits_with layout b.pattern []) b.start b.first in
        let last = return_code (layout b.group) in
        let l : length (code ++ last) ≡ length code + length last = length-append code last in
        let r : b.start + length (code ++ last) < size = room in
        let inside = closed_valid size slots (code_with has_member fold whole layout b.pattern []) (slots_with layout b.pattern) (waits_with layout b.pattern [])
        (code_valid size slots has_member fold whole layout places first end ends start b.pattern [] writable) in
        joined size slots code last b.start (inside.at b.start b.first (omega (arith, l, r)) (omega (arith, own, fits)))
        (return_valid (b.start + length code) b.group (layout b.group) refl)

    row_valid : (bs : List Body) (pc : ℕ) → StandFrom has_member fold whole layout pc bs → All (λ b. IsWritable first end b.pattern) bs → All (λ b. b.first + b.own ≤ slots) bs →
        pc + length (row bs) < size → AreValid size slots pc (row bs)
    row_valid [] pc v writable fits room = tt
    row_valid (b ∷ bs) pc v writable fits room =
        let l : length (here b ++ row bs) ≡ length (here b) + length (row bs) = length-append (here b) (row bs) in
        let r : pc + length (here b ++ row bs) < size = room in
        joined size slots (here b) (row bs) pc
        (moved size slots (here b) b.start pc v.0 (stretch_valid b (All-head (λ (x : Body). IsWritable first end x.pattern) b bs writable) v.1
        (All-head (λ (x : Body). x.first + x.own ≤ slots) b bs fits) (omega (arith, l, r, v.0))))
        (row_valid bs (pc + length (here b)) v.2 (All-tail (λ (x : Body). IsWritable first end x.pattern) b bs writable) (All-tail (λ (x : Body). x.first + x.own ≤ slots) b bs fits)
        (omega (arith, l, r)))

  module _ (anchored : Bool) (count : ℕ) (p : CorePattern) (bodies : List Body) (code : List Op) (slots : ℕ)
      (is : IsAssembled has_member fold whole layout anchored count p bodies code slots) where
    abbrev main : List Op
    main = main_code has_member fold whole layout anchored count p

    abbrev whole_row : List Op
    whole_row = main ++ (row bodies ++ op.finish ∷ [])

    long : length whole_row ≡ length main + (length (row bodies) + 1)
    long = omega (arith, length-append main (row bodies ++ op.finish ∷ []), length-append (row bodies) (op.finish ∷ []))

    places : HasPlaces (length whole_row) slots layout
    places k c e =
        let from = is.each k c e in
        let at = stands_at has_member fold whole layout (length main) bodies from.index from.body is.made.stand from.at in
        let l = ap length at.is in
        let l2 = length-append at.before (here from.body ++ at.after) in
        (place_inside _ _ _ c (is.apart.placed k c e), omega (arith, long, l, l2, from.start, at.start))

    pub assembled_is_valid : (first : ℕ) → (whole ≡ true → 0 < count) → IsWritable first count p → All (λ b. IsWritable first count b.pattern) bodies → IsValidProgram code slots
    assembled_is_valid first starts writable all_writable =
        let room = is.room in
        let ends : 2 * count ≤ slots = omega (arith, room) in
        let start : whole ≡ true → 1 < slots = λ h. let some : 0 < count = starts h in omega arith in
        let size = length whole_row in
        let main_ok = main_valid size slots has_member fold whole layout places first count ends start anchored p writable room (omega (arith, long)) in
        let row_ok = row_valid size slots places first count ends start bodies (length main) is.made.stand all_writable is.inside (omega (arith, long)) in
        let last = joined size slots (row bodies) (op.finish ∷ []) (length main) row_ok (plain size slots (length main + length (row bodies)) op.finish tt tt tt, tt) in
        let all = joined size slots main (row bodies ++ op.finish ∷ []) 0 main_ok (moved size slots (row bodies ++ op.finish ∷ []) (length main) (0 + length main) (omega arith) last) in
        let P = λ (ops : List Op). IsValidProgram ops slots in
        let ok : IsValidProgram whole_row slots = record { last = finish_last (main ++ row bodies) whole_row (simp append_assoc); ops = are_valid_ops slots whole_row all } in
        subst P (sym is.made.is) ok

    module _ (groups : List Tree) (is_written_out : ℕ → Bool) (each : All (IsBodyOf layout is_written_out groups) bodies) where
      is_body : (n : ℕ) (b : Body) → slice_get bodies n ≡ Some b → IsBodyOf layout is_written_out groups b
      is_body n b at = let P = IsBodyOf layout is_written_out groups in subst P (get_or_from_slice_get bodies n b b at) (All-get_or P bodies n b (slice_get_within bodies n b at) each)

      has_body : (k : ℕ) (c : Place) → layout k ≡ Some c → HasBody has_member fold whole layout groups is_written_out code k c
      has_body k c e =
          let from = is.each k c e in
          let b = from.body in
          let body = is_body from.index b from.at in
          let at = stands_at has_member fold whole layout (length main) bodies from.index b is.made.stand from.at in
          let q = body_pattern groups k body.tree in
          let same : b.pattern ≡ q = body.pattern ∙ ap (λ j. body_pattern groups j body.tree) from.group in
          let within : CorePattern → Code = λ x. closed (code_with has_member fold whole layout x []) (waits_with layout x []) in
          let here_is : here b ≡ body_code has_member fold whole layout c q =
          ap (λ x. within x b.start b.first ++ return_code (layout b.group)) same
          ∙ ap₂ (λ pc slot. within q pc slot ++ return_code (layout b.group)) (sym from.start) (sym from.first)
          ∙ ap (λ (o : Option Place). within q c.start c.first ++ return_code o) (ap layout from.group ∙ e) in
          let end : List Op = op.finish ∷ [] in
          record {
            tree = body.tree;
            is_target = ap (target groups) (sym from.group) ∙ body.is_target;
            calls = subst (CallsAreLaidOut layout is_written_out) same body.calls;
            own = ap (slots_with layout) (sym same) ∙ sym at.own ∙ sym from.own;
            before = main ++ at.before;
            after = at.after ++ end;
            stands = is.made.is ∙ ap (λ (ops : List Op). main ++ (ops ++ end)) at.is
                ∙ regrouped main at.before (here b) at.after end
                ∙ ap (λ (ops : List Op). (main ++ at.before) ++ (ops ++ (at.after ++ end))) here_is;
            start = omega (arith, length-append main at.before, from.start, at.start);
          }

    pub assembled_is_kept : (groups : List Tree) (is_written_out : ℕ → Bool) → AreWrittenOut layout groups is_written_out → All (IsBodyOf layout is_written_out groups) bodies →
        IsKept has_member fold whole layout anchored count groups p code slots
    assembled_is_kept groups is_written_out written_out each = record {
      bodies = row bodies ++ op.finish ∷ [];
      main = is.made.is;
      is_written_out = is_written_out;
      written_out = written_out;
      each = has_body groups is_written_out each;
      bodies_end = is.bodies_end;
      apart = is.apart;
      room = is.room;
    }
