-- The program of a pattern that can be written is valid.
use Rattle.std.proofs.Common.{◌≡◌, ℕ, zero, suc, ◌+◌, ◌-◌, ◌*◌, ◌<◌, ◌≤◌, Bool, true, false, cond, ◌&&◌, List, [], ◌∷◌, ◌++◌, length, Option, Some, None, refl, sym, ap, ◌∙◌, subst, arith, append_assoc, length-append}
use Rattle.std.specs.Prelude.{nat_le, slice_get}
use Rattle.std.proofs.lemmas.Bool.{true≢false}
use Rattle.std.proofs.lemmas.Bool.Decides.{nat_tests}
use Rattle.std.proofs.lemmas.Option.{none-some, same_Some}
use Rattle.fancy_regex_tree.specs.Tree.{Text, Tree}
use Rattle.fancy_regex_desugar.specs.CorePatterns.{any, literal, class, CorePattern, nothing, read, general_newline, check, continue, keep_out, fail, cat, alt, group, ahead, never, back, atomic, delegate, tail, repeat, backref, exists, conditional, absent, called}
use Rattle.fancy_regex_program.specs.Ops as op
use Rattle.fancy_regex_program.specs.Ops.{Op, Place}
use Rattle.fancy_regex_program.specs.Code.{Code, Layout, written_out, where_written, slots_in, slots_with, waits, waits_with, is_whole_literal, flushed, none, one, after_text, closed, row_code, alt_code, group_code, ahead_code, never_code, atomic_code, tail_code, repeat_code, is_uncounted, split_by, loop_entry, loop_head, loop_code, conditional_code, absent_code, call_code, code_of, code_with, opening, program_of, leaf_op}
use Rattle.fancy_regex_program.specs.Machine.{unset}
use Rattle.fancy_regex_program.specs.Reading.{always_reads}
use Rattle.fancy_regex_program.specs.Shapes.{IsWritable}
use Rattle.fancy_regex_program.specs.ValidPrograms.{HasPlace, HasSlots, CountsPastLeast, LeadsInside, IsValidOp, AreValidOps, IsValidProgram, is_finish}
use Rattle.fancy_regex_program.specs.Layouts.{main_code}

-- in a program with so many operations and slots
module _ (size slots : ℕ) where
  -- The operations are valid where the first one is at this index.
  abbrev pub AreValid : ℕ → List Op → Type 0
  AreValid pc [] = Unit {0}
  AreValid pc (o ∷ os) = IsValidOp size slots pc o × AreValid (pc + 1) os

  pub moved : (os : List Op) (a b : ℕ) → a ≡ b → AreValid a os → AreValid b os
  moved os a b e v = let P = λ (n : ℕ). AreValid n os in subst P e v

  pub joined : (a b : List Op) (pc : ℕ) → AreValid pc a → AreValid (pc + length a) b → AreValid pc (a ++ b)
  joined [] b pc v w = moved b (pc + 0) pc (omega arith) w
  joined (o ∷ a) b pc v w =
      let e : pc + length (o ∷ a) ≡ pc + 1 + length a = omega arith in
      (v.0, joined a b (pc + 1) v.1 (moved b (pc + length (o ∷ a)) (pc + 1 + length a) e w))

  one_of : (os : List Op) (first pc : ℕ) (o : Op) → AreValid first os → slice_get os pc ≡ Some o → IsValidOp size slots (first + pc) o
  one_of [] first pc o v is = absurd (none-some o is)
  one_of (x ∷ os) first zero o v is =
      let e : first ≡ first + 0 = omega arith in
      let P = λ (n : ℕ). IsValidOp size slots n x in
      subst (IsValidOp size slots (first + 0)) (same_Some x o is) (subst P e v.0)
  one_of (x ∷ os) first (suc pc) o v is =
      let e : first + 1 + pc ≡ first + suc pc = omega arith in
      let P = λ (n : ℕ). IsValidOp size slots n o in
      subst P e (one_of os (first + 1) pc o v.1 is)

  -- an operation that leads to the next one and names no slot
  pub plain : (pc : ℕ) (o : Op) → HasSlots slots o → CountsPastLeast o → LeadsInside size pc o → IsValidOp size slots pc o
  plain pc o has counts leads = record { slots_are = has; counts = counts; leads = leads }

  flushed_valid : (text : Text) (pc : ℕ) → pc + length (flushed text) < size → AreValid pc (flushed text)
  flushed_valid [] pc room = tt
  flushed_valid (c ∷ cs) pc room = (plain pc (op.lit (c ∷ cs)) tt tt room, tt)

  -- The code is valid wherever it stands before another operation and its own slots are there.
  pub record IsValidCode (code : Code) (own : ℕ) : Type 0 where
    pub at : (pc slot : ℕ) → pc + length (code pc slot) < size → slot + own ≤ slots → AreValid pc (code pc slot)

  none_valid : IsValidCode none 0
  none_valid = record { at = λ pc slot room fits. tt }

  one_valid : (o : Op) → HasSlots slots o → CountsPastLeast o → ((pc : ℕ) → pc + 1 < size → LeadsInside size pc o) → IsValidCode (one o) 0
  one_valid o has counts leads = record { at = λ pc slot room fits. (plain pc o has counts (leads pc room), tt) }

  -- text that waits, or that has as many characters as a literal may have
  waiting_valid : (is_whole : Bool) (text : Text) → IsValidCode (λ pc slot. cond is_whole (flushed text) []) 0
  waiting_valid true text = record { at = λ pc slot room fits. flushed_valid text pc room }
  waiting_valid false text = record { at = λ pc slot room fits. tt }

  after_text_valid : (text : Text) (code : Code) (own : ℕ) → IsValidCode code own → IsValidCode (after_text text code) own
  after_text_valid text code own v = record {
    at = λ pc slot room fits.
        let f = flushed text in
        let rest = code (pc + length f) slot in
        let l : length (f ++ rest) ≡ length f + length rest = length-append f rest in
        joined f rest pc (flushed_valid text pc (omega (arith, l, room))) (v.at (pc + length f) slot (omega (arith, l, room)) fits);
  }

  pub closed_valid : (code : Code) (own : ℕ) (text : Text) → IsValidCode code own → IsValidCode (closed code text) own
  closed_valid code own text v = record {
    at = λ pc slot room fits.
        let f = flushed text in
        let first = code pc slot in
        let l : length (first ++ f) ≡ length first + length f = length-append first f in
        joined first f pc (v.at pc slot (omega (arith, l, room)) fits) (flushed_valid text (pc + length first) (omega (arith, l, room)));
  }

  row_valid : (a b : Code) (m n : ℕ) → IsValidCode a m → IsValidCode b n → IsValidCode (row_code a b m) (m + n)
  row_valid a b m n v w = record {
    at = λ pc slot room fits.
        let first = a pc slot in
        let second = b (pc + length first) (slot + m) in
        let l : length (first ++ second) ≡ length first + length second = length-append first second in
        joined first second pc (v.at pc slot (omega (arith, l, room)) (omega (arith, fits)))
        (w.at (pc + length first) (slot + m) (omega (arith, l, room)) (omega (arith, fits)));
  }

  alt_valid : (a b : Code) (m n : ℕ) → IsValidCode a m → IsValidCode b n → IsValidCode (alt_code a b m) (m + n)
  alt_valid a b m n v w = record {
    at = λ pc slot room fits.
        let first = a (pc + 1) slot in
        let second = b (pc + 2 + length first) (slot + m) in
        let end = pc + 2 + length first + length second in
        let rest = op.jump end ∷ second in
        let l : length (first ++ rest) ≡ length first + length rest = length-append first rest in
        let room : pc + suc (length (first ++ rest)) < size = room in
        let r : end < size = omega (arith, l, room) in (
          plain pc (op.split (pc + 1) (pc + 2 + length first)) tt tt (omega (arith, r), omega (arith, r)),
          joined first rest (pc + 1) (v.at (pc + 1) slot (omega (arith, r)) (omega (arith, fits))) (
            plain (pc + 1 + length first) (op.jump end) tt tt r,
            moved second (pc + 2 + length first) (pc + 1 + length first + 1) (omega arith) (w.at (pc + 2 + length first) (slot + m) r (omega (arith, fits))),
          ),
        );
  }

  -- the code of a body at this index, and the operations after it
  body_valid : (first slot own : ℕ) (body : Code) (ends : List Op) → IsValidCode body own → first + length (body first slot) < size → slot + own ≤ slots
      → AreValid (first + length (body first slot)) ends → AreValid first (body first slot ++ ends)
  body_valid first slot own body ends v room fits w = joined (body first slot) ends first (v.at first slot room fits) w

  group_valid : (k own : ℕ) (body : Code) → 2 * k + 1 < slots → IsValidCode body own → IsValidCode (group_code k body) (1 + own)
  group_valid k own body there v = record {
    at = λ pc slot room fits.
        let inside = body (pc + 1) (slot + 1) in
        let ends = op.copy slot (2 * k) ∷ op.save (2 * k + 1) ∷ [] in
        let l : length (inside ++ ends) ≡ length inside + 2 = length-append inside ends in
        let r : pc + suc (length (inside ++ ends)) < size = room in
        let here = pc + 1 + length inside in (
          plain pc (op.save slot) (omega arith) tt (omega arith),
          body_valid (pc + 1) (slot + 1) own body ends v (omega arith) (omega arith) (
            plain here (op.copy slot (2 * k)) (omega arith, omega arith) tt (omega arith),
            (plain (here + 1) (op.save (2 * k + 1)) there tt (omega arith), tt),
          ),
        );
  }

  ahead_valid : (own : ℕ) (body : Code) → IsValidCode body own → IsValidCode (ahead_code body) (1 + own)
  ahead_valid own body v = record {
    at = λ pc slot room fits.
        let inside = body (pc + 1) (slot + 1) in
        let ends = op.restore slot ∷ [] in
        let l : length (inside ++ ends) ≡ length inside + 1 = length-append inside ends in
        let r : pc + suc (length (inside ++ ends)) < size = room in (
          plain pc (op.save slot) (omega arith) tt (omega arith),
          body_valid (pc + 1) (slot + 1) own body ends v (omega arith) (omega arith)
              (plain (pc + 1 + length inside) (op.restore slot) (omega arith) tt (omega arith), tt),
        );
  }

  never_valid : (own : ℕ) (body : Code) → IsValidCode body own → IsValidCode (never_code body) (1 + own)
  never_valid own body v = record {
    at = λ pc slot room fits.
        let inside = body (pc + 2) (slot + 1) in
        let ends = op.fail_negative slot ∷ [] in
        let l : length (inside ++ ends) ≡ length inside + 1 = length-append inside ends in
        let r : pc + suc (suc (length (inside ++ ends))) < size = room in (
          plain pc (op.begin_atomic slot) (omega arith) tt (omega arith),
          (
            plain (pc + 1) (op.split (pc + 2) (pc + 3 + length inside)) tt tt (omega arith, omega arith),
            moved (inside ++ ends) (pc + 2) (pc + 1 + 1) (omega arith) (body_valid (pc + 2) (slot + 1) own body ends v (omega arith) (omega arith)
                (plain (pc + 2 + length inside) (op.fail_negative slot) (omega arith) tt tt, tt)),
          ),
        );
  }

  atomic_valid : (own : ℕ) (body : Code) → IsValidCode body own → IsValidCode (atomic_code body) (1 + own)
  atomic_valid own body v = record {
    at = λ pc slot room fits.
        let inside = body (pc + 1) (slot + 1) in
        let ends = op.end_atomic slot ∷ [] in
        let l : length (inside ++ ends) ≡ length inside + 1 = length-append inside ends in
        let r : pc + suc (length (inside ++ ends)) < size = room in (
          plain pc (op.begin_atomic slot) (omega arith) tt (omega arith),
          body_valid (pc + 1) (slot + 1) own body ends v (omega arith) (omega arith)
              (plain (pc + 1 + length inside) (op.end_atomic slot) (omega arith) tt (omega arith), tt),
        );
  }

  tail_valid : (members : Text → Bool → ℕ → Bool) (fold : ℕ → ℕ) (t : Tree) (own : ℕ) (body : Code) → IsValidCode body own
      → IsValidCode (tail_code (op.tail members fold t) body) own
  tail_valid members fold t own body v = record {
    at = λ pc slot room fits.
        let inside = body (pc + 1) slot in
        let r : pc + suc (length inside) < size = room in
        (plain pc (op.tail members fold t (pc + 1 + length inside)) tt tt (omega arith, omega arith), v.at (pc + 1) slot (omega arith) fits);
  }

  repeat_valid : (lo hi : ℕ) (greedy : Bool) (own : ℕ) (body : Code) → IsValidCode body own → IsValidCode (repeat_code lo hi greedy body) (1 + own)
  repeat_valid lo hi greedy own body v = record {
    at = λ pc slot room fits.
        let inside = body (pc + 2) (slot + 1) in
        let ends = op.jump (pc + 1) ∷ [] in
        let l : length (inside ++ ends) ≡ length inside + 1 = length-append inside ends in
        let r : pc + suc (suc (length (inside ++ ends))) < size = room in (
          plain pc (op.begin_repeat slot) (omega arith) tt (omega arith),
          (
            plain (pc + 1) (op.repeat greedy lo hi (pc + 3 + length inside) slot) (omega arith) tt (omega arith, omega arith),
            moved (inside ++ ends) (pc + 2) (pc + 1 + 1) (omega arith) (body_valid (pc + 2) (slot + 1) own body ends v (omega arith) (omega arith)
                (plain (pc + 2 + length inside) (op.jump (pc + 1)) tt tt (omega arith), tt)),
          ),
        );
  }

  split_valid : (greedy : Bool) (pc on stop : ℕ) → on < size → stop < size → IsValidOp size slots pc (split_by greedy on stop)
  split_valid true pc on stop h k = plain pc (op.split on stop) tt tt (h, k)
  split_valid false pc on stop h k = plain pc (op.split stop on) tt tt (k, h)

  entry_valid : (uncounted : Bool) (lo pc slot : ℕ) → (uncounted ≡ true → lo ≤ 1) → slot < slots → pc + 2 < size
      → IsValidOp size slots pc (loop_entry uncounted lo (pc + 1) slot)
  entry_valid true lo pc slot low there room = let few : lo ≤ 1 = low refl in plain pc (op.jump (pc + 1 + lo)) tt tt (omega arith)
  entry_valid false lo pc slot low there room = plain pc (op.begin_repeat slot) there tt (omega arith)

  head_valid : (uncounted : Bool) (lo pc : ℕ) (greedy : Bool) (first next slot last : ℕ) → lo < unset → slot < slots → last < slots → pc + 1 < size → first < size → next < size
      → IsValidOp size slots pc (loop_head uncounted lo greedy first next slot last)
  head_valid true lo pc greedy first next slot last counts there there2 room h k = split_valid greedy pc first next h k
  head_valid false lo pc greedy first next slot last counts there there2 room h k =
      plain pc (op.repeat_epsilon greedy lo next slot last) (there, there2) counts (room, k)

  few_due : (lo first : ℕ) (inside : List Op) → is_uncounted lo first inside ≡ true → lo ≤ 1
  few_due lo first inside h = both (nat_le lo 1) (always_reads first inside) refl h
    where
      both : (a b : Bool) → a ≡ nat_le lo 1 → (a && b) ≡ true → lo ≤ 1
      both true b e h = grind (arith, nat_tests)
      both false b e h = absurd (true≢false (sym h))

  loop_valid : (lo : ℕ) (greedy : Bool) (own : ℕ) (body : Code) → lo < unset → IsValidCode body own → IsValidCode (loop_code lo greedy body) (2 + own)
  loop_valid lo greedy own body counts v = record {
    at = λ pc slot room fits.
        let inside = body (pc + 2) (slot + 2) in
        let ends = op.jump (pc + 1) ∷ [] in
        let uncounted = is_uncounted lo (pc + 2) inside in
        let l : length (inside ++ ends) ≡ length inside + 1 = length-append inside ends in
        let r : pc + suc (suc (length (inside ++ ends))) < size = room in (
          entry_valid uncounted lo pc slot (few_due lo (pc + 2) inside) (omega arith) (omega arith),
          (
            head_valid uncounted lo (pc + 1) greedy (pc + 2) (pc + 3 + length inside) slot (slot + 1) counts (omega arith) (omega arith) (omega arith) (omega arith) (omega arith),
            moved (inside ++ ends) (pc + 2) (pc + 1 + 1) (omega arith) (body_valid (pc + 2) (slot + 2) own body ends v (omega arith) (omega arith)
                (plain (pc + 2 + length inside) (op.jump (pc + 1)) tt tt (omega arith), tt)),
          ),
        );
  }

  conditional_valid : (c a b : Code) (k m n : ℕ) → IsValidCode c k → IsValidCode a m → IsValidCode b n → IsValidCode (conditional_code c a b k m) (1 + (k + (m + n)))
  conditional_valid c a b k m n u v w = record {
    at = λ pc slot room fits.
        let test = c (pc + 2) (slot + 1) in
        let yes = a (pc + 3 + length test) (slot + 1 + k) in
        let no = b (pc + 4 + length test + length yes) (slot + 1 + k + m) in
        let end = pc + 4 + length test + length yes + length no in
        let more = op.jump end ∷ no in
        let rest = op.end_atomic slot ∷ (yes ++ more) in
        let l : length (yes ++ more) ≡ length yes + suc (length no) = length-append yes more in
        let l2 : length (test ++ rest) ≡ length test + suc (length (yes ++ more)) = length-append test rest in
        let r : pc + suc (suc (length (test ++ rest))) < size = room in (
          plain pc (op.begin_atomic slot) (omega arith) tt (omega arith),
          (
            plain (pc + 1) (op.split (pc + 2) (pc + 4 + length test + length yes)) tt tt (omega arith, omega arith),
            moved (test ++ rest) (pc + 2) (pc + 1 + 1) (omega arith) (body_valid (pc + 2) (slot + 1) k c rest u (omega arith) (omega arith) (
              plain (pc + 2 + length test) (op.end_atomic slot) (omega arith) tt (omega arith),
              moved (yes ++ more) (pc + 3 + length test) (pc + 2 + length test + 1) (omega arith)
                  (body_valid (pc + 3 + length test) (slot + 1 + k) m a more v (omega arith) (omega arith) (
                    plain (pc + 3 + length test + length yes) (op.jump end) tt tt (omega arith),
                    moved no (pc + 4 + length test + length yes) (pc + 3 + length test + length yes + 1) (omega arith)
                        (w.at (pc + 4 + length test + length yes) (slot + 1 + k + m) (omega arith) (omega arith)),
                  )),
            )),
          ),
        );
  }

  absent_valid : (own : ℕ) (body : Code) → IsValidCode body own → IsValidCode (absent_code body) (2 + own)
  absent_valid own body v = record {
    at = λ pc slot room fits.
        let inside = body (pc + 2) (slot + 2) in
        let ends = op.absent_limit (slot + 1) ∷ op.absent_end slot (slot + 1) ∷ [] in
        let l : length (inside ++ ends) ≡ length inside + 2 = length-append inside ends in
        let r : pc + suc (suc (length (inside ++ ends))) < size = room in (
          plain pc (op.absent_begin slot (slot + 1)) (omega arith, omega arith) tt (omega arith),
          (
            plain (pc + 1) (op.absent_scan (pc + 3 + length inside) (slot + 1)) (omega arith) tt (omega arith, omega arith),
            moved (inside ++ ends) (pc + 2) (pc + 1 + 1) (omega arith) (body_valid (pc + 2) (slot + 2) own body ends v (omega arith) (omega arith) (
              plain (pc + 2 + length inside) (op.absent_limit (slot + 1)) (omega arith) tt tt,
              (plain (pc + 2 + length inside + 1) (op.absent_end slot (slot + 1)) (omega arith, omega arith) tt (omega arith), tt),
            )),
          ),
        );
  }

  -- a call that stays, or what stands for it
  call_valid : (o : Option Place) (code : Text → Code) (own : ℕ) (text : Text) → ((c : Place) → o ≡ Some c → HasPlace slots c × (c.start < size)) →
      IsValidCode (code text) own → IsValidCode (call_code o code text) (where_written o own)
  call_valid None code own text there v = v
  call_valid (Some c) code own text there v =
      let place = there c refl in
      after_text_valid text (one (op.call c)) 0 (one_valid (op.call c) place.0 tt (λ pc room. (room, place.1)))

  -- each group whose calls stay has a place in the program
  abbrev pub HasPlaces : Layout → Type 0
  HasPlaces layout = (k : ℕ) (c : Place) → layout k ≡ Some c → HasPlace slots c × (c.start < size)

  -- over the members of classes, the foldings of characters, whether group 0 is the whole, the places, and the numbers of the groups
  module _ (has_member : Text → Bool → ℕ → Bool) (fold : ℕ → ℕ) (whole : Bool) (layout : Layout) (places : HasPlaces layout) (first end : ℕ) (ends : 2 * end ≤ slots) (start : whole ≡ true → 1 < slots) where
    kept_valid : (b : Bool) → (b ≡ true → 1 < slots) → IsValidCode (λ pc slot. cond b (op.save 0 ∷ []) []) 0
    kept_valid true there = record { at = λ pc slot room fits. let two : 1 < slots = there refl in (plain pc (op.save 0) (omega arith) tt room, tt) }
    kept_valid false there = record { at = λ pc slot room fits. tt }

    abbrev S : CorePattern → ℕ
    S = slots_with layout

    abbrev W : CorePattern → Text → Text
    W = waits_with layout

    pub code_valid : (p : CorePattern) (text : Text) → IsWritable first end p → IsValidCode (code_with has_member fold whole layout p text) (S p)
    unfolding code_with
    code_valid nothing text w = none_valid
    code_valid (read (literal c false)) text w = waiting_valid (is_whole_literal text) text
    code_valid (read (literal c true)) text w = after_text_valid text _ 0 (one_valid (leaf_op has_member fold whole (literal c true)) tt tt (λ pc room. room))
    code_valid (read (any newline crlf)) text w = after_text_valid text _ 0 (one_valid (leaf_op has_member fold whole (any newline crlf)) tt tt (λ pc room. room))
    code_valid (read (class name casei)) text w = after_text_valid text _ 0 (one_valid (leaf_op has_member fold whole (class name casei)) tt tt (λ pc room. room))
    code_valid (general_newline unicode) text w = after_text_valid text _ 0 (one_valid (op.general_newline unicode) tt tt (λ pc room. room))
    code_valid (check a) text w = after_text_valid text _ 0 (one_valid (op.assertion a) tt tt (λ pc room. room))
    code_valid continue text w = after_text_valid text _ 0 (one_valid op.continue tt tt (λ pc room. room))
    code_valid keep_out text w = after_text_valid text _ 0 (kept_valid whole start)
    code_valid fail text w = after_text_valid text _ 0 (one_valid op.fail tt tt (λ pc room. tt))
    code_valid (cat a b) text w = row_valid _ _ (S a) (S b) (code_valid a text w.0) (code_valid b (W a text) w.1)
    code_valid (alt a b) text w = after_text_valid text _ (S a + S b)
        (alt_valid _ _ (S a) (S b) (closed_valid _ (S a) (W a []) (code_valid a [] w.0)) (closed_valid _ (S b) (W b []) (code_valid b [] w.1)))
    code_valid (group k a) text w = after_text_valid text _ (1 + S a)
        (group_valid k (S a) _ (omega (arith, w.1)) (closed_valid _ (S a) (W a []) (code_valid a [] w.2)))
    code_valid (ahead a) text w = after_text_valid text _ (1 + S a) (ahead_valid (S a) _ (closed_valid _ (S a) (W a []) (code_valid a [] w.1)))
    code_valid (never a) text w = after_text_valid text _ (1 + S a) (never_valid (S a) _ (closed_valid _ (S a) (W a []) (code_valid a [] w)))
    code_valid (back n) text w = after_text_valid text _ 0 (one_valid (op.go_back n) tt tt (λ pc room. room))
    code_valid (atomic a) text w = after_text_valid text _ (1 + S a) (atomic_valid (S a) _ (closed_valid _ (S a) (W a []) (code_valid a [] w)))
    code_valid (delegate t a) text w = after_text_valid text _ 0 (one_valid (op.delegate has_member fold t) tt tt (λ pc room. room))
    code_valid (tail t a) text w = after_text_valid text _ (S a) (tail_valid has_member fold t (S a) _ (closed_valid _ (S a) (W a []) (code_valid a [] w)))
    code_valid (repeat a lo None greedy) text w = after_text_valid text _ (2 + S a)
        (loop_valid lo greedy (S a) _ w.0 (closed_valid _ (S a) (W a []) (code_valid a [] w.1)))
    code_valid (repeat a lo (Some hi) greedy) text w = after_text_valid text _ (1 + S a)
        (repeat_valid lo hi greedy (S a) _ (closed_valid _ (S a) (W a []) (code_valid a [] w.1)))
    code_valid (backref k casei) text w = after_text_valid text _ 0 (one_valid (op.backref (2 * k) casei) (omega (arith, w.1)) tt (λ pc room. room))
    code_valid (exists k) text w = after_text_valid text _ 0 (one_valid (op.exists (2 * k)) (omega (arith, w.1)) tt (λ pc room. room))
    code_valid (conditional c a b) text w = after_text_valid text _ (1 + (S c + (S a + S b)))
        (conditional_valid _ _ _ (S c) (S a) (S b) (closed_valid _ (S c) (W c []) (code_valid c [] w.0))
        (closed_valid _ (S a) (W a []) (code_valid a [] w.1)) (closed_valid _ (S b) (W b []) (code_valid b [] w.2)))
    code_valid (absent a) text w = after_text_valid text _ (2 + S a) (absent_valid (S a) _ (closed_valid _ (S a) (W a []) (code_valid a [] w.1)))
    code_valid (called k a) text w = call_valid (layout k) (code_with has_member fold whole layout a) (S a) text (places k) (code_valid a text w)

    opening_valid : (anchored : Bool) → 1 + length (opening has_member fold whole anchored) ≤ size → AreValid 0 (opening has_member fold whole anchored)
    opening_valid true room = (kept_valid whole start).at 0 0 (omega (arith, room)) (omega arith)
    opening_valid false room =
        let rest : List Op = cond whole (op.save 0 ∷ []) [] in
        let r : 1 + suc (length rest) ≤ size = room in
        (plain 0 op.split_unanchored tt tt (omega arith), (kept_valid whole start).at (0 + 1) 0 (omega (arith, r)) (omega arith))

    closing_valid : (b : Bool) → (b ≡ true → 1 < slots) → (pc : ℕ) → pc + length (cond b (op.save 1 ∷ []) [] ++ op.finish ∷ []) ≤ size
        → AreValid pc (cond b (op.save 1 ∷ []) [] ++ op.finish ∷ [])
    closing_valid true there pc room = let r : pc + 2 ≤ size = room in (plain pc (op.save 1) (there refl) tt (omega arith), (plain (pc + 1) op.finish tt tt tt, tt))
    closing_valid false there pc room = (plain pc op.finish tt tt tt, tt)

    -- the operations of a main program
    pub main_valid : (anchored : Bool) (p : CorePattern) → IsWritable first end p → 2 * end + S p ≤ slots → length (main_code has_member fold whole layout anchored end p) ≤ size →
        AreValid 0 (main_code has_member fold whole layout anchored end p)
    main_valid anchored p writable fits room =
        let o = opening has_member fold whole anchored in
        let body = closed (code_with has_member fold whole layout p []) (W p []) (length o) (2 * end) in
        let pre : List Op = cond whole (op.save 1 ∷ []) [] in
        let last : List Op = pre ++ op.finish ∷ [] in
        let l1 : length (o ++ (body ++ last)) ≡ length o + length (body ++ last) = length-append o (body ++ last) in
        let l2 : length (body ++ last) ≡ length body + length last = length-append body last in
        let l3 : length last ≡ length pre + 1 = length-append pre (op.finish ∷ []) in
        let r : length (o ++ (body ++ last)) ≤ size = room in
        let inside = closed_valid (code_with has_member fold whole layout p []) (S p) (W p []) (code_valid p [] writable) in
        let ended = closing_valid whole start (length o + length body) (omega arith) in
        let rest = joined body last (length o) (inside.at (length o) (2 * end) (omega arith) fits) ended in
        joined o (body ++ last) 0 (opening_valid anchored (omega arith)) (moved (body ++ last) (length o) (0 + length o) (omega arith) rest)

finish_at : (a : List Op) → slice_get (a ++ op.finish ∷ []) (length a) ≡ Some op.finish
finish_at [] = refl
finish_at (o ∷ a) = finish_at a

pub finish_last : (a code : List Op) → code ≡ a ++ op.finish ∷ [] → is_finish (slice_get code (length code - 1)) ≡ true
finish_last a code is =
    let l : length (a ++ op.finish ∷ []) ≡ length a + 1 = length-append a (op.finish ∷ []) in
    let l2 : length code ≡ length (a ++ op.finish ∷ []) = ap length is in
    let at : length code - 1 ≡ length a = omega arith in
    ap is_finish (ap (slice_get code) at ∙ ap (λ (os : List Op). slice_get os (length a)) is ∙ finish_at a)

-- of a whole program
pub are_valid_ops : (slots : ℕ) (code : List Op) → AreValid (length code) slots 0 code → AreValidOps code slots
are_valid_ops slots code all pc x is = let P = λ (n : ℕ). IsValidOp (length code) slots n x in subst P (omega arith) (one_of (length code) slots code 0 pc x all is)

pub program_is_valid : (has_member : Text → Bool → ℕ → Bool) (fold : ℕ → ℕ) (whole anchored : Bool) (first groups : ℕ) (p : CorePattern)
    → (whole ≡ true → 0 < groups) → IsWritable first groups p → IsValidProgram (program_of has_member fold whole anchored groups p) (2 * groups + slots_in p)
unfolding program_of code_of
program_is_valid has_member fold whole anchored first groups p starts writable =
    let slots = 2 * groups + slots_in p in
    let code : List Op = main_code has_member fold whole written_out anchored groups p in
    let size = length code in
    let o = opening has_member fold whole anchored in
    let body = closed (code_of has_member fold whole p []) (waits p []) (length o) (2 * groups) in
    let pre : List Op = cond whole (op.save 1 ∷ []) [] in
    let start : whole ≡ true → 1 < slots = λ h. let some : 0 < groups = starts h in omega arith in
    let all = main_valid size slots has_member fold whole written_out (λ k c e. absurd (none-some c e)) first groups (omega arith) start anchored p writable (omega arith) (omega arith) in
    record {
      last = finish_last (o ++ (body ++ pre)) code (simp append_assoc);
      ops = are_valid_ops slots code all;
    }
