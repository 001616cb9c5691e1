-- What is written for each kind of pattern.
use Rattle.std.proofs.Common.{◌≡◌, ℕ, ◌+◌, ◌*◌, ◌-◌, Bool, true, false, cond, List, [], ◌∷◌, ◌++◌, length, drop, set, Some, None, refl, sym, ap, ap₂, ◌∙◌, arith, append_assoc, append-nil, length-append}
use Rattle.std.specs.Prelude.{slice_get}
use Rattle.std.proofs.Math.Seq.{set-append_seam, drop-append_seam}
use Rattle.fancy_regex_tree.specs.Tree.{Text, Tree}
use Rattle.fancy_regex_class.specs.Classes.{in_class, folded}
use Rattle.fancy_regex_desugar.specs.CorePatterns.{CorePattern, literal, nothing, read, keep_out, fail, cat, group, ahead, never, back, atomic, delegate, tail, repeat, absent, called}
use Rattle.fancy_regex_program.specs.Ops as op
use Rattle.fancy_regex_program.specs.Ops.{Op, Place}
use Rattle.fancy_regex_program.specs.Code.{Layout, where_written, waits_at_call, call_code, waits_with, flushed, slots_with, is_uncounted, loop_entry, loop_head, code_with}
use Rattle.fancy_regex_compiler.specs.Writing.{Draft, with_op, with_char, closed_draft, added, patched, ended_by, ended, with_pat}

pub same_draft : {a b : List Op} {s t : Text} → a ≡ b → s ≡ t → ◌≡◌ {A = Draft} (record { ops = a; text = s }) (record { ops = b; text = t })
same_draft e f = ap₂ (λ o x. let d : Draft = record { ops = o; text = x } in d) e f

-- what stands between a part and what comes before and after it
flat_one : (xs f : List Op) (o : Op) (c g rest : List Op) →
    ((((xs ++ f) ++ o ∷ []) ++ c) ++ g) ++ rest ≡ xs ++ (f ++ (o ∷ ((c ++ g) ++ rest)))
flat_one xs f o c g rest = simp append_assoc

flat_hole : (p : List Op) (x : Op) (c g rest : List Op) → (((p ++ x ∷ []) ++ c) ++ g) ++ rest ≡ p ++ x ∷ ((c ++ g) ++ rest)
flat_hole p x c g rest = simp append_assoc

flat_holes : (q : List Op) (o x : Op) (c g rest : List Op) → ((((q ++ o ∷ []) ++ x ∷ []) ++ c) ++ g) ++ rest ≡ q ++ (o ∷ x ∷ ((c ++ g) ++ rest))
flat_holes q o x c g rest = simp append_assoc

flat_pair : (q : List Op) (o x : Op) (rest : List Op) → ((q ++ o ∷ []) ++ x ∷ []) ++ rest ≡ q ++ (o ∷ x ∷ rest)
flat_pair q o x rest = simp append_assoc

flat_two : (xs f : List Op) (o1 o2 : Op) (rest : List Op) → ((xs ++ f) ++ o1 ∷ []) ++ o2 ∷ rest ≡ xs ++ (f ++ (o1 ∷ o2 ∷ rest))
flat_two xs f o1 o2 rest = simp append_assoc

flat_end : (p : List Op) (x : Op) (c g : List Op) → ((p ++ x ∷ []) ++ c) ++ g ≡ p ++ x ∷ (c ++ g)
flat_end p x c g = simp append_assoc

get_seam : (p : List Op) (x : Op) (rest : List Op) → slice_get (p ++ x ∷ rest) (length p) ≡ Some x
get_seam [] x rest = refl
get_seam (o ∷ p) x rest = get_seam p x rest

-- an operation is written over a hole
fill : (p : List Op) (x y : Op) (c g rest : List Op) → set ((((p ++ x ∷ []) ++ c) ++ g) ++ rest) (length p) y ≡ p ++ y ∷ ((c ++ g) ++ rest)
fill p x y c g rest = ap (λ l. set l (length p) y) (flat_hole p x c g rest) ∙ set-append_seam p x ((c ++ g) ++ rest) y

pub length_with_op : (o : Op) (d : Draft) → length (with_op o d).ops ≡ length d.ops + 1
unfolding with_op
length_with_op o d = length-append d.ops (o ∷ [])

module _ (layout : Layout) (u w : Bool) where
  abbrev C : CorePattern → Text → ℕ → ℕ → List Op
  C = code_with (in_class u) (folded u) w layout

  abbrev P : CorePattern → ℕ → Draft → Draft
  P = with_pat layout u w

  pub pat_nothing : (slot : ℕ) (d : Draft) → P nothing slot d ≡ d
  unfolding with_pat code_with
  pat_nothing slot d = same_draft (append-nil d.ops) refl

  pub pat_cat : (a b : CorePattern) (slot : ℕ) (d : Draft) → P (cat a b) slot d ≡ P b (slot + slots_with layout a) (P a slot d)
  unfolding with_pat code_with
  pat_cat a b slot d =
      let first = C a d.text (length d.ops) slot in
      same_draft
      (ap (λ n. d.ops ++ (first ++ C b (waits_with layout a d.text) n (slot + slots_with layout a))) (sym (length-append d.ops first))
      ∙ sym (append_assoc d.ops first (C b (waits_with layout a d.text) (length (d.ops ++ first)) (slot + slots_with layout a))))
      refl

  pub pat_wait : (c slot : ℕ) (d : Draft) → P (read (literal c false)) slot d ≡ with_char c d
  unfolding with_pat code_with with_char
  pat_wait c slot d = refl

  -- an operation of its own
  pub alone : (o : Op) (d : Draft) → ◌≡◌ {A = Draft} (record { ops = d.ops ++ (flushed d.text ++ o ∷ []); text = [] }) (added o d)
  unfolding with_op closed_draft
  alone o d = same_draft (sym (append_assoc d.ops (flushed d.text) (o ∷ []))) refl

  pub pat_fail : (slot : ℕ) (d : Draft) → P fail slot d ≡ added op.fail d
  unfolding with_pat code_with
  pat_fail slot d = alone op.fail d

  -- what stands for a body is all that a call of it is, where it is written out
  pub pat_called : (k : ℕ) (a : CorePattern) (slot : ℕ) (d : Draft) → layout k ≡ None → P (called k a) slot d ≡ P a slot d
  unfolding with_pat code_with
  pat_called k a slot d none =
      same_draft (ap (λ o. d.ops ++ call_code o (C a) d.text (length d.ops) slot) none) (ap (λ o. waits_at_call o (waits_with layout a d.text)) none)

  pub slots_called : (k : ℕ) (a : CorePattern) → layout k ≡ None → slots_with layout (called k a) ≡ slots_with layout a
  slots_called k a none = ap (λ o. where_written o (slots_with layout a)) none

  -- a call that stays is an operation
  pub pat_stays : (k : ℕ) (c : Place) (a : CorePattern) (slot : ℕ) (d : Draft) → layout k ≡ Some c → P (called k a) slot d ≡ added (op.call c) d
  unfolding with_pat code_with
  pat_stays k c a slot d some =
      same_draft (ap (λ o. d.ops ++ call_code o (C a) d.text (length d.ops) slot) some) (ap (λ o. waits_at_call o (waits_with layout a d.text)) some)
      ∙ alone (op.call c) d

  pub slots_stays : (k : ℕ) (c : Place) (a : CorePattern) → layout k ≡ Some c → slots_with layout (called k a) ≡ 0
  slots_stays k c a some = ap (λ o. where_written o (slots_with layout a)) some

  pub pat_back : (n slot : ℕ) (d : Draft) → P (back n) slot d ≡ added (op.go_back n) d
  unfolding with_pat code_with
  pat_back n slot d = alone (op.go_back n) d

  pub pat_delegate : (t : Tree) (a : CorePattern) (slot : ℕ) (d : Draft) → P (delegate t a) slot d ≡ added (op.delegate (in_class u) (folded u) t) d
  unfolding with_pat code_with
  pat_delegate t a slot d = alone (op.delegate (in_class u) (folded u) t) d

  either_kept : (b : Bool) (d : Draft) → ◌≡◌ {A = Draft} (record { ops = d.ops ++ (flushed d.text ++ cond b (op.save 0 ∷ []) []); text = [] })
      (cond b (added (op.save 0) d) (closed_draft d))
  unfolding closed_draft
  either_kept true d = alone (op.save 0) d
  either_kept false d = same_draft (ap (λ l. d.ops ++ l) (append-nil (flushed d.text))) refl

  pub pat_keep : (slot : ℕ) (d : Draft) → P keep_out slot d ≡ cond w (added (op.save 0) d) (closed_draft d)
  unfolding with_pat code_with
  pat_keep slot d = either_kept w d

  -- a part with its own rest, after one operation
  after_one : (d : Draft) (o : Op) (a : CorePattern) (s : ℕ) (rest : List Op) →
      d.ops ++ (flushed d.text ++ (o ∷ ((C a [] (length d.ops + length (flushed d.text) + 1) s ++ flushed (waits_with layout a [])) ++ rest)))
      ≡ (closed_draft (P a s (added o d))).ops ++ rest
  unfolding with_pat with_op closed_draft
  after_one d o a s rest =
      let f = flushed d.text in
      let g = flushed (waits_with layout a []) in
      let n = length ((d.ops ++ f) ++ o ∷ []) in
      let long : n ≡ length d.ops + length f + 1 = omega (arith, length-append (d.ops ++ f) (o ∷ []), length-append d.ops f) in
      ap (λ k. d.ops ++ (f ++ (o ∷ ((C a [] k s ++ g) ++ rest)))) (sym long)
      ∙ sym (flat_one d.ops f o (C a [] n s) g rest)

  pub pat_group : (k : ℕ) (a : CorePattern) (slot : ℕ) (d : Draft) → P (group k a) slot d
      ≡ with_op (op.save (2 * k + 1)) (with_op (op.copy slot (2 * k)) (closed_draft (P a (slot + 1) (added (op.save slot) d))))
  unfolding with_pat code_with with_op closed_draft
  pat_group k a slot d =
      same_draft
      (after_one d (op.save slot) a (slot + 1) (op.copy slot (2 * k) ∷ op.save (2 * k + 1) ∷ [])
      ∙ sym (append_assoc (closed_draft (P a (slot + 1) (added (op.save slot) d))).ops (op.copy slot (2 * k) ∷ []) (op.save (2 * k + 1) ∷ [])))
      refl

  pub pat_ahead : (a : CorePattern) (slot : ℕ) (d : Draft) → P (ahead a) slot d
      ≡ with_op (op.restore slot) (closed_draft (P a (slot + 1) (added (op.save slot) d)))
  unfolding with_pat code_with with_op closed_draft
  pat_ahead a slot d = same_draft (after_one d (op.save slot) a (slot + 1) (op.restore slot ∷ [])) refl

  pub pat_atomic : (a : CorePattern) (slot : ℕ) (d : Draft) → P (atomic a) slot d
      ≡ with_op (op.end_atomic slot) (closed_draft (P a (slot + 1) (added (op.begin_atomic slot) d)))
  unfolding with_pat code_with with_op closed_draft
  pat_atomic a slot d = same_draft (after_one d (op.begin_atomic slot) a (slot + 1) (op.end_atomic slot ∷ [])) refl

  -- A part with its own rest, after two operations, of which the second was a hole.
  module _ (d : Draft) (o x : Op) (a : CorePattern) (s : ℕ) where
    abbrev pc : ℕ
    pc = length d.ops + length (flushed d.text)

    abbrev body : List Op
    body = C a [] (pc + 2) s ++ flushed (waits_with layout a [])

    abbrev before : Draft
    before = added o d

    abbrev inside : Draft
    inside = closed_draft (P a s (with_op x before))

    pub at_hole : length before.ops ≡ pc + 1
    unfolding with_op closed_draft
    at_hole = omega (arith, length-append (d.ops ++ flushed d.text) (o ∷ []), length-append d.ops (flushed d.text))

    pub past_hole : length (with_op x before).ops ≡ pc + 2
    past_hole = omega (arith, length_with_op x before, at_hole)

    pub past_body : length inside.ops ≡ pc + 2 + length body
    unfolding with_pat closed_draft with_op
    past_body =
        let l = (with_op x before).ops in
        let c = C a (with_op x before).text (length l) s in
        let g = flushed (waits_with layout a (with_op x before).text) in
        let same : length (c ++ g) ≡ length body = ap (λ k. length (C a [] k s ++ g)) past_hole in
        omega (arith, length-append (l ++ c) g, length-append l c, length-append c g, past_hole, same)

    pub filled : (y : Op) (rest : List Op) → d.ops ++ (flushed d.text ++ (o ∷ y ∷ (body ++ rest))) ≡ set (inside.ops ++ rest) (length before.ops) y
    unfolding with_pat with_op closed_draft
    filled y rest =
        let g = flushed (waits_with layout a []) in
        let l = (before.ops ++ x ∷ []) in
        ap (λ k. d.ops ++ (flushed d.text ++ (o ∷ y ∷ ((C a [] k s ++ g) ++ rest)))) (sym past_hole)
        ∙ sym (flat_two d.ops (flushed d.text) o y ((C a [] (length l) s ++ g) ++ rest))
        ∙ sym (fill before.ops x y (C a [] (length l) s) g rest)

    -- the part with its own rest
    pub spread : (rest : List Op) → inside.ops ++ rest ≡ (d.ops ++ flushed d.text) ++ (o ∷ x ∷ (body ++ rest))
    unfolding with_pat with_op closed_draft
    spread rest =
        let q = d.ops ++ flushed d.text in
        let g = flushed (waits_with layout a []) in
        let l = (before.ops ++ x ∷ []) in
        flat_holes q o x (C a [] (length l) s) g rest
        ∙ ap (λ k. q ++ (o ∷ x ∷ ((C a [] k s ++ g) ++ rest))) past_hole

    pub after_holes : drop (length before.ops + 1) inside.ops ≡ body
    unfolding with_pat with_op closed_draft
    after_holes =
        let q = d.ops ++ flushed d.text in
        let far : length before.ops + 1 ≡ length ((q ++ o ∷ []) ++ x ∷ []) = sym (length-append (q ++ o ∷ []) (x ∷ [])) in
        ap₂ (λ n l. drop n l) far (sym (append-nil inside.ops) ∙ spread [] ∙ sym (flat_pair q o x (body ++ [])))
        ∙ drop-append_seam ((q ++ o ∷ []) ++ x ∷ []) (body ++ [])
        ∙ append-nil body

  -- another operation is written over the first
  entered : (d : Draft) (o x : Op) (a : CorePattern) (s : ℕ) (y : Op) (rest : List Op) → (inside d y x a s).ops ++ rest ≡ set ((inside d o x a s).ops ++ rest) (pc d o x a s) y
  entered d o x a s y rest =
      let q = d.ops ++ flushed d.text in
      let tail = x ∷ (body d o x a s ++ rest) in
      let at : length q ≡ pc d o x a s = length-append d.ops (flushed d.text) in
      spread d y x a s rest
      ∙ sym (ap₂ (λ l n. set l n y) (spread d o x a s rest) (sym at) ∙ set-append_seam q o tail y)

  -- a tail, whose own operation is told where it ends
  pub pat_tail : (t : Tree) (a : CorePattern) (slot : ℕ) (d : Draft) → P (tail t a) slot d
      ≡ (let b = closed_draft d in
      let e = closed_draft (P a slot (with_op (op.tail (in_class u) (folded u) t 0) b)) in
      ended (length b.ops) (length e.ops) e)
  unfolding with_pat code_with patched with_op closed_draft ended
  pat_tail t a slot d =
      let o : ℕ → Op = op.tail (in_class u) (folded u) t in
      let q = d.ops ++ flushed d.text in
      let g = flushed (waits_with layout a []) in
      let l = length (q ++ o 0 ∷ []) in
      let n = length d.ops + length (flushed d.text) in
      let c = C a [] l slot in
      let e = ((q ++ o 0 ∷ []) ++ c) ++ g in
      let here : n + 1 ≡ l = omega (arith, length-append q (o 0 ∷ []), length-append d.ops (flushed d.text)) in
      let flat : e ≡ q ++ o 0 ∷ (c ++ g) = flat_end q (o 0) c g in
      let long : l + length (c ++ g) ≡ length e = omega (arith, length-append ((q ++ o 0 ∷ []) ++ c) g, length-append (q ++ o 0 ∷ []) c, length-append c g) in
      let got : slice_get e (length q) ≡ Some (o 0) = ap (λ x. slice_get x (length q)) flat ∙ get_seam q (o 0) (c ++ g) in
      let whole : Draft = record { ops = e; text = [] } in
      same_draft
      (sym (append_assoc d.ops (flushed d.text) (o (n + 1 + length (C a [] (n + 1) slot ++ g)) ∷ (C a [] (n + 1) slot ++ g)))
      ∙ ap (λ k. q ++ (o (k + length (C a [] k slot ++ g)) ∷ (C a [] k slot ++ g))) here
      ∙ ap (λ k. q ++ (o k ∷ (c ++ g))) long
      ∙ sym (ap (λ x. set x (length q) (o (length e))) flat ∙ set-append_seam q (o 0) (c ++ g) (o (length e))))
      refl
      ∙ sym (ap (λ x. ended_by (length q) (length e) x whole) got)

  pub pat_never : (a : CorePattern) (slot : ℕ) (d : Draft) → P (never a) slot d
      ≡ (let b = added (op.begin_atomic slot) d in
      let e = with_op (op.fail_negative slot) (closed_draft (P a (slot + 1) (with_op (op.split 0 0) b))) in
      patched (length b.ops) (op.split (length (with_op (op.split 0 0) b).ops) (length e.ops)) e)
  unfolding with_pat code_with patched with_op closed_draft
  pat_never a slot d =
      let o = op.begin_atomic slot in
      let x = op.split 0 0 in
      let n = pc d o x a (slot + 1) in
      let long = length (body d o x a (slot + 1)) in
      let i = inside d o x a (slot + 1) in
      let last = op.fail_negative slot in
      let e = with_op last i in
      let at = length (before d o x a (slot + 1)).ops in
      let second : n + 3 + long ≡ length e.ops = omega (arith, length_with_op last i, past_body d o x a (slot + 1)) in
      let step : P (never a) slot d ≡ patched at (op.split (n + 2) (n + 3 + long)) e =
      same_draft (filled d o x a (slot + 1) (op.split (n + 2) (n + 3 + long)) (last ∷ [])) refl in
      step ∙ ap₂ (λ j k. patched at (op.split j k) e) (sym (past_hole d o x a (slot + 1))) second

  pub pat_counted : (a : CorePattern) (lo hi : ℕ) (greedy : Bool) (slot : ℕ) (d : Draft) → P (repeat a lo (Some hi) greedy) slot d
      ≡ (let b = added (op.begin_repeat slot) d in
      let e = with_op (op.jump (length b.ops)) (closed_draft (P a (slot + 1) (with_op op.fail b))) in
      patched (length b.ops) (op.repeat greedy lo hi (length e.ops) slot) e)
  unfolding with_pat code_with patched with_op closed_draft
  pat_counted a lo hi greedy slot d =
      let o = op.begin_repeat slot in
      let x = op.fail in
      let n = pc d o x a (slot + 1) in
      let long = length (body d o x a (slot + 1)) in
      let i = inside d o x a (slot + 1) in
      let at = length (before d o x a (slot + 1)).ops in
      let e = with_op (op.jump at) i in
      let past : n + 3 + long ≡ length e.ops = omega (arith, length_with_op (op.jump at) i, past_body d o x a (slot + 1)) in
      let step : P (repeat a lo (Some hi) greedy) slot d ≡ patched at (op.repeat greedy lo hi (n + 3 + long) slot) (with_op (op.jump (n + 1)) i) =
      same_draft (filled d o x a (slot + 1) (op.repeat greedy lo hi (n + 3 + long) slot) (op.jump (n + 1) ∷ [])) refl in
      step
      ∙ ap₂ (λ j k. patched at (op.repeat greedy lo hi j slot) (with_op (op.jump k) i)) past (sym (at_hole d o x a (slot + 1)))

  pub pat_loop : (a : CorePattern) (lo : ℕ) (greedy : Bool) (slot : ℕ) (d : Draft) → P (repeat a lo None greedy) slot d
      ≡ (let b = added op.fail d in
      let i = closed_draft (P a (slot + 2) (with_op op.fail b)) in
      let e = with_op (op.jump (length b.ops)) i in
      let uncounted = is_uncounted lo (length b.ops + 1) (drop (length b.ops + 1) i.ops) in
      patched (length b.ops) (loop_head uncounted lo greedy (length b.ops + 1) (length e.ops) slot (slot + 1))
      (patched (length b.ops - 1) (loop_entry uncounted lo (length b.ops) slot) e))
  unfolding with_pat code_with patched with_op closed_draft
  pat_loop a lo greedy slot d =
      let x = op.fail in
      let n = pc d x x a (slot + 2) in
      let xs = body d x x a (slot + 2) in
      let i = inside d x x a (slot + 2) in
      let at = length (before d x x a (slot + 2)).ops in
      let here = at_hole d x x a (slot + 2) in
      let free = is_uncounted lo (n + 2) xs in
      let entry = loop_entry free lo (n + 1) slot in
      let head = loop_head free lo greedy (n + 2) (n + 3 + length xs) slot (slot + 1) in
      let rest = op.jump (n + 1) ∷ [] in
      let e = with_op (op.jump at) i in
      let past : n + 3 + length xs ≡ length e.ops = omega (arith, length_with_op (op.jump at) i, past_body d x x a (slot + 2)) in
      let second : at + 1 ≡ n + 2 = omega (arith, here) in
      let first : at - 1 ≡ n = omega (arith, here) in
      let seen : is_uncounted lo (at + 1) (drop (at + 1) i.ops) ≡ free =
      ap (λ k. is_uncounted lo k (drop (at + 1) i.ops)) second ∙ ap (is_uncounted lo (n + 2)) (after_holes d x x a (slot + 2)) in
      let step : P (repeat a lo None greedy) slot d ≡ patched at head (patched n entry (with_op (op.jump (n + 1)) i)) =
      same_draft
      (filled d entry x a (slot + 2) head rest
      ∙ ap₂ (λ j l. set l j head) (at_hole d entry x a (slot + 2) ∙ sym here) (entered d x x a (slot + 2) entry rest))
      refl in
      step
      ∙ ap₂ (λ j k. patched at (loop_head free lo greedy (n + 2) j slot (slot + 1)) (patched n (loop_entry free lo k slot) (with_op (op.jump k) i))) past (sym here)
      ∙ ap₂ (λ j k. patched at (loop_head free lo greedy j (length e.ops) slot (slot + 1)) (patched k (loop_entry free lo at slot) e)) (sym second) (sym first)
      ∙ ap (λ b. patched at (loop_head b lo greedy (at + 1) (length e.ops) slot (slot + 1)) (patched (at - 1) (loop_entry b lo at slot) e)) (sym seen)

  pub pat_absent : (a : CorePattern) (slot : ℕ) (d : Draft) → P (absent a) slot d
      ≡ (let b = added (op.absent_begin slot (slot + 1)) d in
      let e = with_op (op.absent_limit (slot + 1)) (closed_draft (P a (slot + 2) (with_op op.fail b))) in
      patched (length b.ops) (op.absent_scan (length e.ops) (slot + 1)) (with_op (op.absent_end slot (slot + 1)) e))
  unfolding with_pat code_with patched with_op closed_draft
  pat_absent a slot d =
      let o = op.absent_begin slot (slot + 1) in
      let x = op.fail in
      let n = pc d o x a (slot + 2) in
      let long = length (body d o x a (slot + 2)) in
      let i = inside d o x a (slot + 2) in
      let at = length (before d o x a (slot + 2)).ops in
      let one = op.absent_limit (slot + 1) in
      let two = op.absent_end slot (slot + 1) in
      let e = with_op one i in
      let past : n + 3 + long ≡ length e.ops = omega (arith, length_with_op one i, past_body d o x a (slot + 2)) in
      let step : P (absent a) slot d ≡ patched at (op.absent_scan (n + 3 + long) (slot + 1)) (with_op two e) =
      same_draft
      (filled d o x a (slot + 2) (op.absent_scan (n + 3 + long) (slot + 1)) (one ∷ two ∷ [])
      ∙ ap (λ l. set l at (op.absent_scan (n + 3 + long) (slot + 1))) (sym (append_assoc i.ops (one ∷ []) (two ∷ []))))
      refl in
      step ∙ ap (λ j. patched at (op.absent_scan j (slot + 1)) (with_op two e)) past
