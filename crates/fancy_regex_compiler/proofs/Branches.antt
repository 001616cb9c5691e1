-- What is written for conditionals and for branches, whose jumps lead past what comes after them.
use Rattle.std.proofs.Common.{◌≡◌, ℕ, ◌+◌, ◌-◌, ◌<◌, Bool, List, [], ◌∷◌, ◌++◌, length, set, refl, sym, ap, ap₂, ◌∙◌, arith, append_assoc, length-append}
use Rattle.std.proofs.lemmas.List.{length-set, set-append_left}
use Rattle.std.proofs.Math.Seq.{set-append_seam}
use Rattle.fancy_regex_tree.specs.Tree.{Text}
use Rattle.fancy_regex_class.specs.Classes.{in_class, folded}
use Rattle.fancy_regex_desugar.specs.CorePatterns.{CorePattern, alt, conditional}
use Rattle.fancy_regex_program.specs.Ops as op
use Rattle.fancy_regex_program.specs.Ops.{Op}
use Rattle.fancy_regex_program.specs.Code.{Layout, waits_with, flushed, slots_with, code_with}
use Rattle.fancy_regex_compiler.specs.Writing.{Draft, with_op, closed_draft, added, patched, with_pat, with_choice}
use Rattle.fancy_regex_compiler.proofs.Drafts.{same_draft, length_with_op}

two_writes : (c a b : List Op) (x y i j : Op) → set (set (c ++ x ∷ (a ++ y ∷ b)) (length c) i) (length (c ++ i ∷ a)) j ≡ c ++ i ∷ (a ++ j ∷ b)
two_writes c a b x y i j =
    ap (λ l. set l (length (c ++ i ∷ a)) j) (set-append_seam c x (a ++ y ∷ b) i ∙ sym (append_assoc c (i ∷ a) (y ∷ b)))
    ∙ set-append_seam (c ++ i ∷ a) y b j
    ∙ append_assoc c (i ∷ a) (j ∷ b)

flat_three : (b : List Op) (x : Op) (t1 t2 : List Op) (e : Op) (y1 y2 : List Op) (j : Op) (n1 n2 : List Op) →
    ((((((((b ++ x ∷ []) ++ t1) ++ t2) ++ e ∷ []) ++ y1) ++ y2) ++ j ∷ []) ++ n1) ++ n2
    ≡ b ++ x ∷ (((t1 ++ t2) ++ e ∷ (y1 ++ y2)) ++ j ∷ (n1 ++ n2))
flat_three b x t1 t2 e y1 y2 j n1 n2 = simp append_assoc

flat_front : (xs f : List Op) (o i : Op) (t : List Op) (e : Op) (y : List Op) (j : Op) (n : List Op) →
    ((xs ++ f) ++ o ∷ []) ++ i ∷ ((t ++ e ∷ y) ++ j ∷ n) ≡ xs ++ (f ++ (o ∷ i ∷ (t ++ e ∷ (y ++ j ∷ n))))
flat_front xs f o i t e y j n = simp append_assoc

module _ (layout : Layout) (u w : Bool) where
  abbrev C : CorePattern → Text → ℕ → ℕ → List Op
  C = code_with (in_class u) (folded u) w layout

  abbrev pub P : CorePattern → ℕ → Draft → Draft
  P = with_pat layout u w

  -- a conditional, with its split and its jump still holes
  module _ (c a b : CorePattern) (slot : ℕ) (d : Draft) where
    abbrev pub begun : Draft
    begun = added (op.begin_atomic slot) d

    abbrev pub split_there : Draft
    split_there = with_op (op.split 0 0) begun

    abbrev pub tested : Draft
    tested = with_op (op.end_atomic slot) (closed_draft (P c (slot + 1) split_there))

    abbrev pub chosen : Draft
    chosen = closed_draft (P a (slot + 1 + slots_with layout c) tested)

    abbrev pub jump_there : Draft
    jump_there = with_op (op.jump 0) chosen

    abbrev pub all_there : Draft
    all_there = closed_draft (P b (slot + 1 + slots_with layout c + slots_with layout a) jump_there)

    abbrev test : ℕ → List Op
    test k = C c [] k (slot + 1) ++ flushed (waits_with layout c [])

    abbrev yes : ℕ → List Op
    yes k = C a [] k (slot + 1 + slots_with layout c) ++ flushed (waits_with layout a [])

    abbrev no : ℕ → List Op
    no k = C b [] k (slot + 1 + slots_with layout c + slots_with layout a) ++ flushed (waits_with layout b [])

    abbrev pc : ℕ
    pc = length d.ops + length (flushed d.text)

    length_begun : length begun.ops ≡ pc + 1
    unfolding with_op closed_draft
    length_begun = omega (arith, length-append (d.ops ++ flushed d.text) (op.begin_atomic slot ∷ []), length-append d.ops (flushed d.text))

    length_closed : (p : CorePattern) (s : ℕ) (e : Draft) → e.text ≡ [] →
        length (closed_draft (P p s e)).ops ≡ length e.ops + length (C p [] (length e.ops) s ++ flushed (waits_with layout p []))
    unfolding with_pat closed_draft
    length_closed p s e none =
        let x = C p e.text (length e.ops) s in
        let y = flushed (waits_with layout p e.text) in
        let same : length (x ++ y) ≡ length (C p [] (length e.ops) s ++ flushed (waits_with layout p [])) =
        ap (λ t. length (C p t (length e.ops) s ++ flushed (waits_with layout p t))) none in
        omega (arith, length-append (e.ops ++ x) y, length-append e.ops x, length-append x y, same)

    at_test : length split_there.ops ≡ pc + 2
    at_test = omega (arith, length_begun, length_with_op (op.split 0 0) begun)

    at_yes : length tested.ops ≡ pc + 3 + length (test (pc + 2))
    unfolding with_op closed_draft
    at_yes =
        let same : length (test (length split_there.ops)) ≡ length (test (pc + 2)) = ap (λ k. length (test k)) at_test in
        omega (arith, at_test, same, length_closed c (slot + 1) split_there refl, length_with_op (op.end_atomic slot) (closed_draft (P c (slot + 1) split_there)))

    abbrev two : ℕ
    two = pc + 3 + length (test (pc + 2))

    at_jump : length chosen.ops ≡ two + length (yes two)
    unfolding with_op closed_draft
    at_jump =
        let same : length (yes (length tested.ops)) ≡ length (yes two) = ap (λ k. length (yes k)) at_yes in
        omega (arith, at_yes, same, length_closed a (slot + 1 + slots_with layout c) tested refl)

    abbrev three : ℕ
    three = pc + 4 + length (test (pc + 2)) + length (yes two)

    at_no : length jump_there.ops ≡ three
    at_no = omega (arith, at_jump, length_with_op (op.jump 0) chosen)

    at_end : length all_there.ops ≡ three + length (no three)
    unfolding with_op closed_draft
    at_end =
        let same : length (no (length jump_there.ops)) ≡ length (no three) = ap (λ k. length (no k)) at_no in
        omega (arith, at_no, same, length_closed b (slot + 1 + slots_with layout c + slots_with layout a) jump_there refl)

    abbrev listed : ℕ → ℕ → ℕ → ℕ → List Op
    listed k1 k2 k3 k4 =
        d.ops ++ (flushed d.text ++ (op.begin_atomic slot ∷ op.split k1 k3 ∷ (test k1 ++ op.end_atomic slot ∷ (yes k2 ++ op.jump k4 ∷ no k3))))

    written_over : (i j : Op) →
        set (set all_there.ops (length begun.ops) i) (length chosen.ops) j
        ≡ d.ops ++ (flushed d.text ++ (op.begin_atomic slot ∷ i ∷ (test (length split_there.ops) ++ op.end_atomic slot ∷ (yes (length tested.ops) ++ j ∷ no (length jump_there.ops)))))
    unfolding with_op closed_draft with_pat
    written_over i j =
        let t = test (length split_there.ops) in
        let y = yes (length tested.ops) in
        let n = no (length jump_there.ops) in
        let e = op.end_atomic slot in
        let there : length chosen.ops ≡ length (begun.ops ++ i ∷ (t ++ e ∷ y)) =
        omega (
          arith,
          at_jump,
          at_yes,
          at_test,
          length_begun,
          length-append begun.ops (i ∷ (t ++ e ∷ y)),
          length-append t (e ∷ y),
          ap (λ k. length (yes k)) at_yes,
          ap (λ k. length (test k)) at_test,
        ) in
        ap (λ l. set (set l (length begun.ops) i) (length chosen.ops) j)
        (flat_three begun.ops (op.split 0 0) (C c [] (length split_there.ops) (slot + 1)) (flushed (waits_with layout c [])) e
        (C a [] (length tested.ops) (slot + 1 + slots_with layout c)) (flushed (waits_with layout a [])) (op.jump 0)
        (C b [] (length jump_there.ops) (slot + 1 + slots_with layout c + slots_with layout a)) (flushed (waits_with layout b [])))
        ∙ ap (λ k. set (set (begun.ops ++ op.split 0 0 ∷ ((t ++ e ∷ y) ++ op.jump 0 ∷ n)) (length begun.ops) i) k j) there
        ∙ two_writes begun.ops (t ++ e ∷ y) n (op.split 0 0) (op.jump 0) i j
        ∙ flat_front d.ops (flushed d.text) (op.begin_atomic slot) i t e y j n

    pub pat_conditional : P (conditional c a b) slot d
        ≡ patched (length chosen.ops) (op.jump (length all_there.ops))
        (patched (length begun.ops) (op.split (length split_there.ops) (length jump_there.ops)) all_there)
    unfolding with_pat code_with patched closed_draft
    pat_conditional =
        let four = three + length (no three) in
        same_draft
        (ap₂ (λ j k. listed j two three k) (sym at_test) (sym at_end)
        ∙ ap₂ (λ j k. listed (length split_there.ops) j k (length all_there.ops)) (sym at_yes) (sym at_no)
        ∙ sym (written_over (op.split (length split_there.ops) (length jump_there.ops)) (op.jump (length all_there.ops))))
        refl

  -- a draft with nothing that waits
  abbrev pub bare : List Op → Draft
  bare xs = record { ops = xs; text = [] }

  abbrev choice_body : CorePattern → ℕ → ℕ → List Op
  choice_body p slot n = C p [] (n + 1) slot ++ flushed (waits_with layout p [])

  -- the operations of a branch with its jump
  abbrev choice_ops : ℕ → CorePattern → ℕ → ℕ → List Op
  choice_ops end p slot n =
      op.split (n + 1) (n + 2 + length (choice_body p slot n)) ∷ (choice_body p slot n ++ op.jump end ∷ [])

  flat_choice : (xs : List Op) (x : Op) (c g : List Op) (j : Op) → (((xs ++ x ∷ []) ++ c) ++ g) ++ j ∷ [] ≡ xs ++ x ∷ ((c ++ g) ++ j ∷ [])
  flat_choice xs x c g j = simp append_assoc

  choice_is : (end : ℕ) (p : CorePattern) (slot : ℕ) (xs : List Op) → with_choice layout u w end p slot (bare xs) ≡ bare (xs ++ choice_ops end p slot (length xs))
  unfolding with_op closed_draft patched with_pat
  choice_is end p slot xs =
      let first = with_op (op.split 0 0) (bare xs) in
      let body = closed_draft (P p slot first) in
      let all = with_op (op.jump end) body in
      let c = C p [] (length first.ops) slot in
      let g = flushed (waits_with layout p []) in
      let n = length xs in
      let one : length first.ops ≡ n + 1 = length-append xs (op.split 0 0 ∷ []) in
      let two : length all.ops ≡ n + 2 + length (choice_body p slot n) =
      omega (
        arith,
        one,
        length-append body.ops (op.jump end ∷ []),
        length-append (first.ops ++ c) g,
        length-append first.ops c,
        length-append c g,
        ap (λ k. length (C p [] k slot ++ g)) one,
      ) in
      same_draft
      (ap (λ l. set l n (op.split (length first.ops) (length all.ops))) (flat_choice xs (op.split 0 0) c g (op.jump end))
      ∙ set-append_seam xs (op.split 0 0) ((c ++ g) ++ op.jump end ∷ []) (op.split (length first.ops) (length all.ops))
      ∙ ap₂ (λ j k. xs ++ op.split j k ∷ ((C p [] j slot ++ g) ++ op.jump end ∷ [])) one two)
      refl

  flat_alt : (xs f : List Op) (s : Op) (a : List Op) (j : Op) (c g : List Op) →
      xs ++ (f ++ (s ∷ (a ++ j ∷ (c ++ g)))) ≡ (((xs ++ f) ++ (s ∷ (a ++ j ∷ []))) ++ c) ++ g
  flat_alt xs f s a j c g = simp append_assoc

  -- two branches, where the jump of the first leads past the second
  pub pat_alt : (a b : CorePattern) (slot end : ℕ) (d : Draft) →
      end ≡ length (closed_draft (P b (slot + slots_with layout a) (with_choice layout u w end a slot (closed_draft d)))).ops →
      P (alt a b) slot d ≡ closed_draft (P b (slot + slots_with layout a) (with_choice layout u w end a slot (closed_draft d)))
  unfolding with_pat code_with closed_draft
  pat_alt a b slot end d is =
      let xs = d.ops ++ flushed d.text in
      let n = length d.ops + length (flushed d.text) in
      let long : length xs ≡ n = length-append d.ops (flushed d.text) in
      let g = flushed (waits_with layout b []) in
      let s = slot + slots_with layout a in
      let first = choice_body a slot n in
      let m = n + 2 + length first in
      let second = C b [] m s ++ g in
      let head = choice_ops end a slot (length xs) in
      let ys = xs ++ head in
      let there : length ys ≡ m = omega (arith, long, length-append xs head, length-append (choice_body a slot (length xs)) (op.jump end ∷ []), ap (λ k. length (choice_body a slot k)) long) in
      let made : closed_draft (P b s (with_choice layout u w end a slot (closed_draft d))) ≡ closed_draft (P b s (bare ys)) =
      ap (λ e. closed_draft (P b s e)) (choice_is end a slot xs) in
      let total : m + length second ≡ end =
      omega (
        arith,
        is,
        ap (λ (e : Draft). length e.ops) made,
        there,
        length-append (ys ++ C b [] (length ys) s) g,
        length-append ys (C b [] (length ys) s),
        length-append (C b [] m s) g,
        ap (λ k. length (C b [] k s)) there,
      ) in
      same_draft
      (ap (λ k. d.ops ++ (flushed d.text ++ (op.split (n + 1) m ∷ (first ++ op.jump k ∷ second)))) total
      ∙ flat_alt d.ops (flushed d.text) (op.split (n + 1) m) first (op.jump end) (C b [] m s) g
      ∙ ap₂ (λ j k. ((xs ++ choice_ops end a slot j) ++ C b [] k s) ++ g) (sym long) (sym there))
      refl
      ∙ sym made

  -- jumps that are patched
  abbrev pub set_right : ℕ → List ℕ → Draft → Draft
  set_right end [] d = d
  set_right end (j ∷ js) d = set_right end js (patched j (op.jump end) d)

  pub set_right_more : (end : ℕ) (js : List ℕ) (j : ℕ) (d : Draft) → set_right end (js ++ j ∷ []) d ≡ patched j (op.jump end) (set_right end js d)
  set_right_more end [] j d = refl
  set_right_more end (i ∷ js) j d = set_right_more end js j (patched i (op.jump end) d)

  -- each of them is there
  abbrev pub AllBelow : ℕ → List ℕ → Type 0
  AllBelow n [] = Unit {0}
  AllBelow n (j ∷ js) = (j < n) × AllBelow n js

  abbrev set_ops : ℕ → List ℕ → List Op → List Op
  set_ops end [] xs = xs
  set_ops end (j ∷ js) xs = set_ops end js (set xs j (op.jump end))

  set_bare : (end : ℕ) (js : List ℕ) (xs : List Op) → set_right end js (bare xs) ≡ bare (set_ops end js xs)
  unfolding patched
  set_bare end [] xs = refl
  set_bare end (j ∷ js) xs = set_bare end js (set xs j (op.jump end))

  set_long : (end : ℕ) (js : List ℕ) (xs : List Op) → length (set_ops end js xs) ≡ length xs
  set_long end [] xs = refl
  set_long end (j ∷ js) xs = set_long end js (set xs j (op.jump end)) ∙ length-set xs j (op.jump end)

  set_front : (end : ℕ) (js : List ℕ) (xs ys : List Op) → AllBelow (length xs) js → set_ops end js (xs ++ ys) ≡ set_ops end js xs ++ ys
  set_front end [] xs ys h = refl
  set_front end (j ∷ js) xs ys h =
      let long = length-set xs j (op.jump end) in
      let rest : AllBelow (length (set xs j (op.jump end))) js = subst_below js (length xs) (length (set xs j (op.jump end))) (sym long) h.1 in
      ap (set_ops end js) (set-append_left xs ys j (op.jump end) h.0) ∙ set_front end js (set xs j (op.jump end)) ys rest
    where
      subst_below : (ks : List ℕ) (n m : ℕ) → n ≡ m → AllBelow n ks → AllBelow m ks
      subst_below [] n m e k = tt
      subst_below (i ∷ ks) n m e k = (omega (arith, e, k.0), subst_below ks n m e k.1)

  -- A branch more, whose jump is patched with those before it.
  pub choice_goes_on : (end : ℕ) (js : List ℕ) (xs : List Op) (p : CorePattern) (slot j : ℕ) → AllBelow (length xs) js →
      j + 1 ≡ length (with_choice layout u w 0 p slot (bare xs)).ops →
      set_right end (js ++ j ∷ []) (with_choice layout u w 0 p slot (bare xs)) ≡ with_choice layout u w end p slot (set_right end js (bare xs))
  unfolding patched
  choice_goes_on end js xs p slot j below is =
      let n = length xs in
      let ys = set_ops end js xs in
      let sp = op.split (n + 1) (n + 2 + length (choice_body p slot n)) in
      let front = sp ∷ choice_body p slot n in
      let long : length ys ≡ n = set_long end js xs in
      let at : j ≡ length (ys ++ front) =
      omega (
        arith,
        is,
        ap (λ (e : Draft). length e.ops) (choice_is 0 p slot xs),
        length-append xs (choice_ops 0 p slot n),
        length-append (choice_body p slot n) (op.jump 0 ∷ []),
        length-append ys front,
        long,
      ) in
      set_right_more end js j (with_choice layout u w 0 p slot (bare xs))
      ∙ ap (λ e. patched j (op.jump end) (set_right end js e)) (choice_is 0 p slot xs)
      ∙ ap (patched j (op.jump end)) (set_bare end js (xs ++ choice_ops 0 p slot n) ∙ ap bare (set_front end js xs (choice_ops 0 p slot n) below))
      ∙ same_draft
      (ap (λ l. set l j (op.jump end)) (sym (append_assoc ys front (op.jump 0 ∷ [])))
      ∙ ap (λ k. set ((ys ++ front) ++ op.jump 0 ∷ []) k (op.jump end)) at
      ∙ set-append_seam (ys ++ front) (op.jump 0) [] (op.jump end)
      ∙ append_assoc ys front (op.jump end ∷ []))
      refl
      ∙ ap (λ k. bare (ys ++ choice_ops end p slot k)) (sym long)
      ∙ sym (choice_is end p slot ys)
      ∙ ap (with_choice layout u w end p slot) (sym (set_bare end js xs))
