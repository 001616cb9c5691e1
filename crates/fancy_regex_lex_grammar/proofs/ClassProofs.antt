-- Classes in brackets, as the function reads them.
use Rattle.std.proofs.Common.{◌≡◌, ◌≢◌, ℕ, zero, suc, ◌+◌, ◌<◌, ◌≤◌, Bool, true, false, cond, ℤ, ◌==◌, Option, Some, None, Ok, Err, [], ◌∷◌, ◌++◌, length, codes, refl, sym, ap, ◌∙◌, subst, true≢false, ne_eqb, eq-eqb, add-one, not-suc-le-zero, arith, if◌then◌else◌}
use Rattle.std.proofs.lemmas.Bool.{or_from, or_parts}
use Rattle.std.proofs.lemmas.List.{length-append}
use Rattle.fancy_regex_text.specs.Text.{Text, ◌∈◌, strip_prefix}
use Rattle.fancy_regex_text.specs.ParseFault.{Kind, ParseFault, ParseOutcome, ◌>>=◌, fail_at, prepend, invalid_class}
use Rattle.fancy_regex_lex.specs.Escapes.{Escape, char_escape, byte_escape, class_escape, any_escape, newline_escape, assertion_escape, continue_escape, keep_out_escape, reference_escape, call_escape, escape}
use Rattle.fancy_regex_text.specs.Names.{Named}
use Rattle.fancy_regex_lex_grammar.proofs.CharacterEscapeProofs.{sign_alone}
use Rattle.fancy_regex_lex.specs.Classes.{is_quoted, quoted, escaped_text, class_escape_at, class_part, nesting_after, class_parts, optional, bracketed_class}
use Rattle.fancy_regex_lex_grammar.specs.Exact.{at}
use Rattle.fancy_regex_lex_grammar.specs.Prefixes.{IsRun, at_end, at_other, one_more, IsRunOfLength, none, and_one, IsTextUntil, here, later, IsOptional, there, absent_at_end, absent}
use Rattle.fancy_regex_lex_grammar.specs.Escapes as escapes
use Rattle.fancy_regex_lex_grammar.specs.Escapes.{IsBoundaryName, IsBracedHex, IsClosedReference, IsBracketed, in_angles, in_quotes, IsEscape, a_byte, ascii, four_or_eight, code_in_braces, property_of_one_letter, negated_property, named_boundary, word_boundary, back_reference, call, EscapeFails, no_code, no_character, property_at_end, property_without_brace, property_without_name, negated_property_without_name}
use Rattle.fancy_regex_lex_grammar.specs.Classes.{IsQuoted, a_sign, no_sign, IsEscapeInClass, a_character, a_class, IsClassItem, itself, backspace, escaped, IsClassItems, closes, closes_inner, opens_inner, and_part, IsClass, class, ClassItemsFail, text_ends, misplaced, no_escape, after_closing, after_opening, after_part, ClassFails, inside_class, ClassesAreExact}
use Rattle.fancy_regex_lex_grammar.proofs.ReadingLemmas.{at_char, Meant, is_read, is_stopped, bind_meant, Found, is_found, is_none, reads_exactly}
use Rattle.fancy_regex_lex_grammar.proofs.PrefixProofs.{word_case, word_lacks}
use Rattle.fancy_regex_lex_grammar.proofs.EscapeProofs.{same_fault, escapes_are_exact}

-- what is left is no longer

before_shorter : {close : ℕ} {t front rest : Text} → IsTextUntil close t front rest → length rest < length t
before_shorter here = omega arith
before_shorter (later n b) = let k = before_shorter b in omega arith

front_shorter : {test : ℕ → Bool} {n : ℕ} {t front rest : Text} → IsRunOfLength test n t front rest → length rest ≤ length t
front_shorter none = omega arith
front_shorter (and_one h f) = let k = front_shorter f in omega arith

run_shorter : {test : ℕ → Bool} {t front rest : Text} → IsRun test t front rest → length rest ≤ length t
run_shorter at_end = omega arith
run_shorter (at_other h) = omega arith
run_shorter (one_more h r) = let k = run_shorter r in omega arith

braced_shorter : {t rest : Text} {code : ℕ} → IsBracedHex t code rest → length rest ≤ length t
braced_shorter (escapes.braced_hex b f x y) = let k = before_shorter b in omega arith

bracketed_shorter : {allow_level : Bool} {t rest : Text} {target : Named} {level : Option ℤ} → IsBracketed allow_level t target level rest → length rest ≤ length t
bracketed_shorter (in_angles c) = let k = before_shorter c.parted in omega arith
bracketed_shorter (in_quotes c) = let k = before_shorter c.parted in omega arith

pub escape_shorter : {oniguruma : Bool} {t rest : Text} {e : Escape} → IsEscape oniguruma t e rest → length rest ≤ length t
escape_shorter (escapes.a_sign s) = omega arith
escape_shorter (a_byte f h) = let k = front_shorter f in omega arith
escape_shorter (ascii f h) = let k = front_shorter f in omega arith
escape_shorter (four_or_eight l n f p) = let k = front_shorter f in omega arith
escape_shorter (code_in_braces l b p) = let k = braced_shorter b in omega arith
escape_shorter (property_of_one_letter l n) = omega arith
escape_shorter (escapes.property l b n) = let k = before_shorter b in omega arith
escape_shorter (negated_property l b) = let k = before_shorter b in omega arith
escape_shorter (named_boundary {name} {rest} b) = let k = length-append name rest in omega arith
escape_shorter (word_boundary n) = omega arith
escape_shorter (escapes.numbered_reference r m) = run_shorter r
escape_shorter (back_reference b) = let k = bracketed_shorter b in omega arith
escape_shorter (call b) = let k = bracketed_shorter b in omega arith

-- quoted characters, and what escapes add

quoted_of : (c : ℕ) → IsQuoted c (quoted c)
unfolding quoted
quoted_of c = by_test (is_quoted c) refl
  where
    by_test : (b : Bool) → is_quoted c ≡ b → IsQuoted c (cond b (0x5C ∷ c ∷ []) (c ∷ []))
    by_test true e = a_sign e
    by_test false e = no_sign e

quoted_read : {c : ℕ} {text : Text} → IsQuoted c text → quoted c ≡ text
unfolding quoted
quoted_read (a_sign {c} h) = ap (λ b. if b then 0x5C ∷ c ∷ [] else c ∷ []) h
quoted_read (no_sign {c} h) = ap (λ b. if b then 0x5C ∷ c ∷ [] else c ∷ []) h

added_of : (e : Escape) → Found (IsEscapeInClass e) ((text : Text) → IsEscapeInClass e text → ⊥) (escaped_text e)
unfolding escaped_text
added_of (char_escape c) = is_found (a_character (quoted_of c))
added_of (byte_escape c) = is_none (λ text a. elim a [ ])
added_of (class_escape t) = is_found a_class
added_of (any_escape b) = is_none (λ text a. elim a [ ])
added_of newline_escape = is_none (λ text a. elim a [ ])
added_of (assertion_escape p) = is_none (λ text a. elim a [ ])
added_of continue_escape = is_none (λ text a. elim a [ ])
added_of keep_out_escape = is_none (λ text a. elim a [ ])
added_of (reference_escape r l) = is_none (λ text a. elim a [ ])
added_of (call_escape r) = is_none (λ text a. elim a [ ])

added_read : {e : Escape} {text : Text} → IsEscapeInClass e text → escaped_text e ≡ Some text
unfolding escaped_text
added_read (a_character q) = ap Some (quoted_read q)
added_read a_class = refl

none_added : (e : Escape) → ((text : Text) → IsEscapeInClass e text → ⊥) → escaped_text e ≡ None
none_added e n = by_found (escaped_text e) (added_of e)
  where
    by_found : (o : Option Text) → Found (IsEscapeInClass e) ((text : Text) → IsEscapeInClass e text → ⊥) o → o ≡ None
    by_found (Some text) (is_found a) = absurd (n text a)
    by_found None (is_none l) = refl

module _ (oniguruma : Bool) where
  -- after `\b` no escape adds anything
  no_boundary : {t text rest : Text} {e : Escape} → IsEscape oniguruma (0x62 ∷ t) e rest → IsEscapeInClass e text → ⊥
  no_boundary (escapes.a_sign s) a = absurd (true≢false (sign_alone s).letter)
  no_boundary (four_or_eight l n f p) a = elim l [ ]
  no_boundary (code_in_braces l b p) a = elim l [ ]
  no_boundary (property_of_one_letter l n) a = elim l [ ]
  no_boundary (escapes.property l b n) a = elim l [ ]
  no_boundary (negated_property l b) a = elim l [ ]
  no_boundary (named_boundary b) a = elim a [ ]
  no_boundary (word_boundary n) a = elim a [ ]
  no_boundary (escapes.numbered_reference r m) a = elim a [ ]

  -- `\b` has no fault
  no_fault_of_boundary : {t : Text} {kind : Kind} → EscapeFails oniguruma (0x62 ∷ t) kind → ⊥
  no_fault_of_boundary (escapes.no_escape l n lacks) = true≢false n
  no_fault_of_boundary (no_code l lacks) = elim l [ ]
  no_fault_of_boundary (no_character l h n) = elim l [ ]
  no_fault_of_boundary (property_at_end l) = elim l [ ]
  no_fault_of_boundary (property_without_brace l n) = elim l [ ]
  no_fault_of_boundary (property_without_name l b) = elim l [ ]
  no_fault_of_boundary (negated_property_without_name l b) = elim l [ ]

  part_shorter : {t part rest : Text} → IsClassItem oniguruma t part rest → length rest < length t
  part_shorter (itself h) = omega arith
  part_shorter backspace = omega arith
  part_shorter (escaped e a) = let k = escape_shorter e in omega arith

  -- parts

  abbrev PartMeans : ℕ → Text → ParseOutcome (Text × Text) → Type 0
  PartMeans level t = Meant (λ (r : Text × Text). IsClassItem oniguruma t r.0 r.1) (ClassItemsFail oniguruma level t)

  escape_means : (level : ℕ) (t : Text) → ((u : Text) → t ≢ 0x62 ∷ u) → PartMeans level (0x5C ∷ t) (class_escape_at oniguruma (0x5C ∷ t))
  unfolding class_escape_at
  escape_means level t lacks =
      let exact = escapes_are_exact oniguruma t in
      bind_meant (escape oniguruma (0x5C ∷ t)) _
      (λ e h.
      let s = exact.fault_is_sound e h in
      subst (ClassItemsFail oniguruma level (0x5C ∷ t)) (sym (same_fault e e.kind (0x5C ∷ t) refl s.place)) (no_escape s.kind))
      (λ r h. by_text r (exact.sound r h) (escaped_text r.0) (added_of r.0))
    where
      by_text : (r : Escape × Text) → IsEscape oniguruma t r.0 r.1 → (o : Option Text) → Found (IsEscapeInClass r.0) ((text : Text) → IsEscapeInClass r.0 text → ⊥) o →
          PartMeans level (0x5C ∷ t) (elim o [ None ↦ fail_at invalid_class (0x5C ∷ t) | Some text ↦ Ok (text, r.1) ])
      by_text r e (Some text) (is_found a) = is_read (escaped e a)
      by_text r e None (is_none n) = is_stopped (misplaced e n lacks)

  abbrev class_part_at : Text → ParseOutcome (Text × Text)
  class_part_at t = elim (strip_prefix (codes "b") t) [ Some rest ↦ Ok (0x08 ∷ [], rest) | None ↦ class_escape_at oniguruma (0x5C ∷ t) ]

  backslash_means : (level : ℕ) (t : Text) → PartMeans level (0x5C ∷ t) (class_part_at t)
  backslash_means level t =
      word_case (PartMeans level (0x5C ∷ t)) (codes "b") t (class_escape_at oniguruma (0x5C ∷ t)) (λ rest. Ok (0x08 ∷ [], rest))
      (λ rest is. is_read (subst (λ u. IsClassItem oniguruma (0x5C ∷ u) (0x08 ∷ []) rest) (sym is) backspace)) (λ lacks. escape_means level t lacks)

  abbrev PartsMean : ℕ → Text → ParseOutcome (Text × Text) → Type 0
  PartsMean level t = Meant (λ (r : Text × Text). IsClassItems oniguruma level t r.0 r.1) (ClassItemsFail oniguruma level t)

  closing_means : (level : ℕ) (t : Text) (r : ParseOutcome (Text × Text)) → PartsMean level t r → PartsMean (suc level) (0x5D ∷ t) (prepend (0x5D ∷ []) r)
  closing_means level t (Ok x) (is_read p) = is_read (closes_inner p)
  closing_means level t (Err e) (is_stopped s) = is_stopped (after_closing s)

  opening_means : (level : ℕ) (t : Text) (r : ParseOutcome (Text × Text)) → PartsMean (level + 1) t r → PartsMean level (0x5B ∷ t) (prepend (0x5B ∷ []) r)
  opening_means level t (Ok x) (is_read p) = is_read (opens_inner (subst (λ n. IsClassItems oniguruma n t x.0 x.1) (add-one level) p))
  opening_means level t (Err e) (is_stopped s) = is_stopped (after_opening (subst (λ n. ClassItemsFail oniguruma n t e) (add-one level) s))

  part_then : (level : ℕ) (t part rest : Text) → IsClassItem oniguruma t part rest → (r : ParseOutcome (Text × Text)) → PartsMean level rest r → PartsMean level t (prepend part r)
  part_then level t part rest p (Ok x) (is_read q) = is_read (and_part p q)
  part_then level t part rest p (Err e) (is_stopped s) = is_stopped (after_part p s)

  by_sign : (P : ℕ → Type 0) (c : ℕ) → P 0x5C → P 0x5B → P 0x5D →
      ((c == 0x5C) ≡ false → (c == 0x5B) ≡ false → (c == 0x5D) ≡ false → P c) → P c
  by_sign P c backslash opening closing other = by_tests (c == 0x5C) (c == 0x5B) (c == 0x5D) refl refl refl
    where
      by_tests : (x y z : Bool) → (c == 0x5C) ≡ x → (c == 0x5B) ≡ y → (c == 0x5D) ≡ z → P c
      by_tests true y z h k l = at_char c 0x5C P h backslash
      by_tests false true z h k l = at_char c 0x5B P k opening
      by_tests false false true h k l = at_char c 0x5D P l closing
      by_tests false false false h k l = other h k l

  bind_parts : (n level : ℕ) (t : Text) (r : ParseOutcome (Text × Text)) → PartMeans level t r →
      ((part rest : Text) → IsClassItem oniguruma t part rest → PartsMean level rest (class_parts oniguruma n level rest)) →
      PartsMean level t (r >>= λ x. prepend x.0 (class_parts oniguruma n level x.1))
  bind_parts n level t (Ok x) (is_read p) more = part_then level t x.0 x.1 p (class_parts oniguruma n level x.1) (more x.0 x.1 p)
  bind_parts n level t (Err e) (is_stopped s) more = is_stopped s

  -- any other character
  other_step : (n level c : ℕ) (t : Text) → (c == 0x5C) ≡ false → (c == 0x5B) ≡ false → (c == 0x5D) ≡ false →
      class_parts oniguruma (suc n) level (c ∷ t) ≡ prepend (c ∷ []) (class_parts oniguruma n level t)
  unfolding class_parts class_part nesting_after
  other_step n level c t h k l = rw (class_parts, class_part, nesting_after, h, k, l) refl

  closing_case : (n level : ℕ) (t : Text) → ((outer : ℕ) → PartsMean outer t (class_parts oniguruma n outer t)) →
      PartsMean level (0x5D ∷ t) (class_parts oniguruma (suc n) level (0x5D ∷ t))
  unfolding class_parts class_part nesting_after
  closing_case n zero t more = is_read closes
  closing_case n (suc outer) t more = closing_means outer t (class_parts oniguruma n outer t) (more outer)

  opening_case : (n level : ℕ) (t : Text) → PartsMean (level + 1) t (class_parts oniguruma n (level + 1) t) →
      PartsMean level (0x5B ∷ t) (class_parts oniguruma (suc n) level (0x5B ∷ t))
  unfolding class_parts class_part nesting_after
  opening_case n level t more = opening_means level t (class_parts oniguruma n (level + 1) t) more

  backslash_case : (n level : ℕ) (t : Text) →
      ((part rest : Text) → IsClassItem oniguruma (0x5C ∷ t) part rest → PartsMean level rest (class_parts oniguruma n level rest)) →
      PartsMean level (0x5C ∷ t) (class_parts oniguruma (suc n) level (0x5C ∷ t))
  unfolding class_parts class_part nesting_after
  backslash_case n level t more = bind_parts n level (0x5C ∷ t) (class_part_at t) (backslash_means level t) more

  other_case : (n level c : ℕ) (t : Text) → (c == 0x5C) ≡ false → (c == 0x5B) ≡ false → (c == 0x5D) ≡ false →
      PartsMean level t (class_parts oniguruma n level t) → PartsMean level (c ∷ t) (class_parts oniguruma (suc n) level (c ∷ t))
  other_case n level c t h k l more =
      subst (PartsMean level (c ∷ t)) (sym (other_step n level c t h k l))
      (part_then level (c ∷ t) (c ∷ []) t (itself (or_from (c == 0x5C) (c ∈ "[]") h (or_from (c == 0x5B) (c == 0x5D) k l))) (class_parts oniguruma n level t) more)

  parts_mean : (n level : ℕ) (t : Text) → length t < n → PartsMean level t (class_parts oniguruma n level t)
  unfolding class_parts class_part
  parts_mean zero level t k = absurd (not-suc-le-zero k)
  parts_mean (suc n) level [] k = is_stopped text_ends
  parts_mean (suc n) level (c ∷ t) k =
      let shorter : length t < n = omega arith in
      by_sign (λ d. PartsMean level (d ∷ t) (class_parts oniguruma (suc n) level (d ∷ t))) c
      (backslash_case n level t (λ part rest p. parts_mean n level rest (let m = part_shorter p in omega arith)))
      (opening_case n level t (parts_mean n (level + 1) t shorter))
      (closing_case n level t (λ outer. parts_mean n outer t shorter))
      (λ x y z. other_case n level c t x y z (parts_mean n level t shorter))

  -- the other way round

  abbrev with_parts : ℕ → ℕ → ParseOutcome (Text × Text) → ParseOutcome (Text × Text)
  with_parts n level r = r >>= λ x. prepend x.0 (class_parts oniguruma n level x.1)

  part_read : {t part rest : Text} → IsClassItem oniguruma t part rest → (n level : ℕ) →
      class_parts oniguruma (suc n) level t ≡ prepend part (class_parts oniguruma n level rest)
  unfolding class_parts class_part nesting_after strip_prefix class_escape_at
  part_read (itself {c} {t} h) n level =
      let (x, more) = or_parts (c == 0x5C) (c ∈ "[]") h in
      let (y, z) = or_parts (c == 0x5B) (c == 0x5D) more in other_step n level c t x y z
  part_read backspace n level = refl
  part_read (escaped {t} {text} {rest} {e} h a) n level =
      ap (λ o. with_parts n level (elim o [ Some u ↦ Ok (0x08 ∷ [], u) | None ↦ class_escape_at oniguruma (0x5C ∷ t) ])) (word_lacks (codes "b") t no_b)
      ∙ ap (λ r. with_parts n level (r >>= λ x. elim (escaped_text x.0) [ None ↦ fail_at invalid_class (0x5C ∷ t) | Some u ↦ Ok (u, x.1) ]))
      ((escapes_are_exact oniguruma t).complete (e, rest) h)
      ∙ ap (λ o. with_parts n level (elim o [ None ↦ fail_at invalid_class (0x5C ∷ t) | Some u ↦ Ok (u, rest) ])) (added_read a)
    where
      no_b : (u : Text) → t ≢ 0x62 ∷ u
      no_b u is = no_boundary (subst (λ v. IsEscape oniguruma v e rest) is h) a

  closing_read : (n level : ℕ) (t : Text) → class_parts oniguruma (suc n) (suc level) (0x5D ∷ t) ≡ prepend (0x5D ∷ []) (class_parts oniguruma n level t)
  unfolding class_parts class_part nesting_after
  closing_read n level t = refl

  opening_read : (n level : ℕ) (t : Text) → class_parts oniguruma (suc n) level (0x5B ∷ t) ≡ prepend (0x5B ∷ []) (class_parts oniguruma n (suc level) t)
  unfolding class_parts class_part nesting_after
  opening_read n level t = ap (λ l. prepend (0x5B ∷ []) (class_parts oniguruma n l t)) (add-one level)

  parts_read : {level : ℕ} {t text rest : Text} → IsClassItems oniguruma level t text rest → (n : ℕ) → length t < n →
      class_parts oniguruma n level t ≡ Ok (text, rest)
  unfolding class_parts class_part nesting_after
  parts_read p zero k = absurd (not-suc-le-zero k)
  parts_read closes (suc n) k = refl
  parts_read (closes_inner {level} {t} p) (suc n) k = closing_read n level t ∙ ap (prepend (0x5D ∷ [])) (parts_read p n (omega arith))
  parts_read (opens_inner {level} {t} p) (suc n) k = opening_read n level t ∙ ap (prepend (0x5B ∷ [])) (parts_read p n (omega arith))
  parts_read (and_part {level} {part = part} p q) (suc n) k =
      part_read p n level ∙ ap (prepend part) (parts_read q n (let m = part_shorter p in omega arith))

  misplaced_read : (n level : ℕ) {t rest : Text} {e : Escape} → IsEscape oniguruma t e rest → ((text : Text) → IsEscapeInClass e text → ⊥) →
      ((u : Text) → t ≢ 0x62 ∷ u) → class_parts oniguruma (suc n) level (0x5C ∷ t) ≡ Err (at invalid_class (0x5C ∷ t))
  unfolding class_parts class_part nesting_after class_escape_at
  misplaced_read n level {t} {rest} {e} h l no_b =
      ap (λ o. with_parts n level (elim o [ Some u ↦ Ok (0x08 ∷ [], u) | None ↦ class_escape_at oniguruma (0x5C ∷ t) ])) (word_lacks (codes "b") t no_b)
      ∙ ap (λ r. with_parts n level (r >>= λ x. elim (escaped_text x.0) [ None ↦ fail_at invalid_class (0x5C ∷ t) | Some u ↦ Ok (u, x.1) ]))
      ((escapes_are_exact oniguruma t).complete (e, rest) h)
      ∙ ap (λ o. with_parts n level (elim o [ None ↦ fail_at invalid_class (0x5C ∷ t) | Some u ↦ Ok (u, rest) ])) (none_added e l)

  no_escape_read : (n level : ℕ) {t : Text} {kind : Kind} → EscapeFails oniguruma t kind →
      class_parts oniguruma (suc n) level (0x5C ∷ t) ≡ Err (at kind (0x5C ∷ t))
  unfolding class_parts class_part nesting_after class_escape_at
  no_escape_read n level {t} {kind} s =
      ap (λ o. with_parts n level (elim o [ Some u ↦ Ok (0x08 ∷ [], u) | None ↦ class_escape_at oniguruma (0x5C ∷ t) ])) (word_lacks (codes "b") t no_b)
      ∙ ap (λ r. with_parts n level (r >>= λ x. elim (escaped_text x.0) [ None ↦ fail_at invalid_class (0x5C ∷ t) | Some u ↦ Ok (u, x.1) ]))
      ((escapes_are_exact oniguruma t).fault_is_complete (at kind (0x5C ∷ t)) (record { kind = s; place = refl }))
    where
      no_b : (u : Text) → t ≢ 0x62 ∷ u
      no_b u is = no_fault_of_boundary (subst (λ v. EscapeFails oniguruma v kind) is s)

  parts_stop : {level : ℕ} {t : Text} {e : ParseFault} → ClassItemsFail oniguruma level t e → (n : ℕ) → length t < n → class_parts oniguruma n level t ≡ Err e
  unfolding class_parts class_part
  parts_stop s zero k = absurd (not-suc-le-zero k)
  parts_stop text_ends (suc n) k = refl
  parts_stop (misplaced {level} h l no_b) (suc n) k = misplaced_read n level h l no_b
  parts_stop (no_escape {level} s) (suc n) k = no_escape_read n level s
  parts_stop (after_closing {level} {t} s) (suc n) k = closing_read n level t ∙ ap (prepend (0x5D ∷ [])) (parts_stop s n (omega arith))
  parts_stop (after_opening {level} {t} s) (suc n) k = opening_read n level t ∙ ap (prepend (0x5B ∷ [])) (parts_stop s n (omega arith))
  parts_stop (after_part {level} {part = part} p s) (suc n) k =
      part_read p n level ∙ ap (prepend part) (parts_stop s n (let m = part_shorter p in omega arith))

-- what may stand in front

optional_of : (sign : ℕ) (t : Text) → IsOptional sign t (optional (sign ∷ []) t).0 (optional (sign ∷ []) t).1
optional_of sign t =
    word_case (λ (r : Text × Text). IsOptional sign t r.0 r.1) (sign ∷ []) t ([], t) (λ rest. (sign ∷ [], rest))
    (λ rest is. subst (λ u. IsOptional sign u (sign ∷ []) rest) (sym is) there) (λ lacks. not_there t lacks)
  where
    not_there : (t : Text) → ((rest : Text) → t ≢ sign ∷ rest) → IsOptional sign t [] t
    not_there [] lacks = absent_at_end
    not_there (c ∷ u) lacks = absent (λ e. lacks u (ap (λ d. d ∷ u) e))

optional_read : {sign : ℕ} {t text rest : Text} → IsOptional sign t text rest → optional (sign ∷ []) t ≡ (text, rest)
unfolding strip_prefix
optional_read {sign} (there {t}) = ap (λ b. elim (cond b (Some t) None) as (λ _. Text × Text) [ Some rest ↦ (sign ∷ [], rest) | None ↦ ([], sign ∷ t) ]) (eq-eqb sign sign refl)
optional_read absent_at_end = refl
optional_read {sign} (absent {c} {t} n) =
    ap (λ b. elim (cond b (Some t) None) as (λ _. Text × Text) [ Some rest ↦ (sign ∷ [], rest) | None ↦ ([], c ∷ t) ]) (ne_eqb c sign n)

abbrev ClassMeans : Bool → Text → ParseOutcome (Text × Text) → Type 0
ClassMeans oniguruma t = Meant (λ (r : Text × Text). IsClass oniguruma t r.0 r.1) (ClassFails oniguruma t)

class_means : (oniguruma : Bool) (t : Text) → ClassMeans oniguruma t (bracketed_class oniguruma (0x5B ∷ t))
unfolding bracketed_class
class_means oniguruma t = from (optional_of 0x5E t) (optional_of 0x5D (optional (codes "^") t).1)
  where
    in_front : {caret bracket u inside : Text} → IsOptional 0x5E t caret u → IsOptional 0x5D u bracket inside → (r : ParseOutcome (Text × Text)) →
        PartsMean oniguruma 0 inside r → ClassMeans oniguruma t (prepend (0x5B ∷ caret ++ bracket) r)
    in_front {caret} {bracket} a b (Ok x) (is_read p) =
        is_read (class a b p)
    in_front a b (Err e) (is_stopped s) = is_stopped (inside_class a b s)

    from : {caret bracket u inside : Text} → IsOptional 0x5E t caret u → IsOptional 0x5D u bracket inside →
        ClassMeans oniguruma t (prepend (0x5B ∷ caret ++ bracket) (class_parts oniguruma (length inside + 1) 0 inside))
    from {inside = inside} a b = in_front a b _ (parts_mean oniguruma (length inside + 1) 0 inside (omega arith))

class_reached : (oniguruma : Bool) {t caret bracket u inside : Text} → IsOptional 0x5E t caret u → IsOptional 0x5D u bracket inside →
    bracketed_class oniguruma (0x5B ∷ t) ≡ prepend (0x5B ∷ caret ++ bracket) (class_parts oniguruma (length inside + 1) 0 inside)
unfolding bracketed_class
class_reached oniguruma {caret = caret} a b =
    ap (λ (x : Text × Text). let y = optional (codes "]") x.1 in prepend (0x5B ∷ x.0 ++ y.0) (class_parts oniguruma (length y.1 + 1) 0 y.1)) (optional_read a)
    ∙ ap (λ (y : Text × Text). prepend (0x5B ∷ caret ++ y.0) (class_parts oniguruma (length y.1 + 1) 0 y.1)) (optional_read b)

class_read : {oniguruma : Bool} {t text rest : Text} → IsClass oniguruma t text rest → bracketed_class oniguruma (0x5B ∷ t) ≡ Ok (text, rest)
class_read {oniguruma} (class {caret = caret} {bracket} {inside = inside} {text} {rest} a b p) =
    class_reached oniguruma a b ∙ ap (prepend (0x5B ∷ caret ++ bracket)) (parts_read oniguruma p (length inside + 1) (omega arith))

class_stops : {oniguruma : Bool} {t : Text} {e : ParseFault} → ClassFails oniguruma t e → bracketed_class oniguruma (0x5B ∷ t) ≡ Err e
class_stops {oniguruma} (inside_class {caret = caret} {bracket} {inside = inside} a b s) =
    class_reached oniguruma a b ∙ ap (prepend (0x5B ∷ caret ++ bracket)) (parts_stop oniguruma s (length inside + 1) (omega arith))

pub classes_are_exact : ClassesAreExact
classes_are_exact oniguruma t =
    reads_exactly (bracketed_class oniguruma (0x5B ∷ t)) (class_means oniguruma t) (λ r c. class_read c) (λ e s. class_stops s)
