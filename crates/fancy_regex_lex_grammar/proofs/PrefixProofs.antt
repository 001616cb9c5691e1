-- Fronts of a text, as the functions find them.
use Rattle.std.proofs.Common.{◌≡◌, ◌≢◌, ℕ, zero, suc, ◌≤◌, Bool, true, false, cond, ◌==◌, Option, Some, None, [], ◌∷◌, ◌++◌, length, option_map, refl, sym, ap, ◌∙◌, ne_eqb, eq-eqb, arith}
use Rattle.std.proofs.lemmas.Option.{none-some, same_Some}
use Rattle.fancy_regex_text.specs.Text.{Text, strip_prefix, span, span_at_most, split_once}
use Rattle.fancy_regex_text.proofs.TextLemmas.{strip_prefix_is, strip_prefix-append}
use Rattle.fancy_regex_lex_grammar.specs.Prefixes.{IsRun, at_end, at_other, one_more, IsRunOfLength, none, and_one, IsTextUntil, here, later}
use Rattle.fancy_regex_lex_grammar.proofs.ReadingLemmas.{at_char, is_not, Found, is_found, is_none, if_found}

run_step : (test : ℕ → Bool) (c : ℕ) (t : Text) (b : Bool) → test c ≡ b → (more : Text × Text) → IsRun test t more.0 more.1 →
    let out = elim b as (λ _. Text × Text) [ true ↦ (c ∷ more.0, more.1) | false ↦ ([], c ∷ t) ] in IsRun test (c ∷ t) out.0 out.1
run_step test c t true h more r = one_more h r
run_step test c t false h more r = at_other h

pub run_of : (test : ℕ → Bool) (t : Text) → IsRun test t (span test t).0 (span test t).1
unfolding span
run_of test [] = at_end
run_of test (c ∷ t) = run_step test c t (test c) refl (span test t) (run_of test t)

pub span_run : {test : ℕ → Bool} {t front rest : Text} → IsRun test t front rest → span test t ≡ (front, rest)
unfolding span
span_run at_end = refl
span_run {test} (at_other {c} {t} h) = ap (λ b. elim b [ true ↦ (c ∷ (span test t).0, (span test t).1) | false ↦ ([], c ∷ t) ]) h
span_run {test} (one_more {c} {t} h r) =
    ap (λ b. elim b [ true ↦ (c ∷ (span test t).0, (span test t).1) | false ↦ ([], c ∷ t) ]) h
    ∙ ap (λ (more : Text × Text). (c ∷ more.0, more.1)) (span_run r)

pub run_parts : {test : ℕ → Bool} {t front rest : Text} → IsRun test t front rest → t ≡ front ++ rest
run_parts at_end = refl
run_parts (at_other h) = refl
run_parts (one_more {c} h r) = ap (λ x. c ∷ x) (run_parts r)

-- the text before a character

none_before : (close : ℕ) (t : Text) (c : ℕ) → (c ≡ close → ⊥) → ((front rest : Text) → IsTextUntil close t front rest → ⊥) →
    (front rest : Text) → IsTextUntil close (c ∷ t) front rest → ⊥
none_before close t c n m front rest here = n refl
none_before close t c n m front rest (later k b) = m _ _ b

-- the place of a character, or that it does not come
pub before_of : (close : ℕ) (t : Text) →
    Found (λ (found : Text × Text). IsTextUntil close t found.0 found.1) ((front rest : Text) → IsTextUntil close t front rest → ⊥) (split_once close t)
unfolding split_once
before_of close [] = is_none (λ front rest b. elim b [ ])
before_of close (c ∷ t) =
    if_found (c == close) _ _ (λ h. is_found (at_char c close (λ d. IsTextUntil close (d ∷ t) [] t) h here))
    (λ h. by_rest h (split_once close t) (before_of close t))
  where
    by_rest : (c == close) ≡ false → (o : Option (Text × Text)) →
        Found (λ (found : Text × Text). IsTextUntil close t found.0 found.1) ((front rest : Text) → IsTextUntil close t front rest → ⊥) o →
        Found (λ (found : Text × Text). IsTextUntil close (c ∷ t) found.0 found.1) ((front rest : Text) → IsTextUntil close (c ∷ t) front rest → ⊥)
        (option_map (λ found. (c ∷ found.0, found.1)) o)
    by_rest h (Some found) (is_found b) = is_found (later (is_not c close h) b)
    by_rest h None (is_none n) = is_none (none_before close t c (is_not c close h) n)

pub before_read : {close : ℕ} {t front rest : Text} → IsTextUntil close t front rest → split_once close t ≡ Some (front, rest)
unfolding split_once
before_read {close} (here {t}) = ap (λ b. cond b (Some ([], t)) (option_map (λ found. (close ∷ found.0, found.1)) (split_once close t))) (same close)
  where
    same : (n : ℕ) → (n == n) ≡ true
    same n = eq-eqb n n refl
before_read {close} (later {c} {t} k b) =
    ap (λ x. cond x (Some ([], t)) (option_map (λ found. (c ∷ found.0, found.1)) (split_once close t))) (ne_eqb c close k)
    ∙ ap (option_map (λ (found : Text × Text). (c ∷ found.0, found.1))) (before_read b)

-- a word at the front, or that it does not stand there
pub word_of : (word t : Text) → Found (λ rest. t ≡ word ++ rest) ((rest : Text) → t ≢ word ++ rest) (strip_prefix word t)
word_of word t = by_rest (strip_prefix word t) refl
  where
    by_rest : (o : Option Text) → strip_prefix word t ≡ o → Found (λ rest. t ≡ word ++ rest) ((rest : Text) → t ≢ word ++ rest) o
    by_rest (Some rest) e = is_found (strip_prefix_is word t rest e)
    by_rest None e = is_none (λ rest is. none-some rest (sym e ∙ ap (strip_prefix word) is ∙ strip_prefix-append word rest))

pub word_read : (word rest : Text) → strip_prefix word (word ++ rest) ≡ Some rest
word_read word rest = strip_prefix-append word rest

pub word_lacks : (word t : Text) → ((rest : Text) → t ≢ word ++ rest) → strip_prefix word t ≡ None
word_lacks word t n = by_rest (strip_prefix word t) (word_of word t)
  where
    by_rest : (o : Option Text) → Found (λ rest. t ≡ word ++ rest) ((rest : Text) → t ≢ word ++ rest) o → o ≡ None
    by_rest (Some rest) (is_found is) = absurd (n rest is)
    by_rest None (is_none m) = refl

-- so many characters at the front

most_parts : (test : ℕ → Bool) (n c : ℕ) (t : Text) (b : Bool) → test c ≡ b → (more : Text × Text) → IsRunOfLength test (length more.0) t more.0 more.1 →
    let out = elim b as (λ _. Text × Text) [ true ↦ (c ∷ more.0, more.1) | false ↦ ([], c ∷ t) ] in IsRunOfLength test (length out.0) (c ∷ t) out.0 out.1
most_parts test n c t true h more f = and_one h f
most_parts test n c t false h more f = none

pub most_front : (test : ℕ → Bool) (n : ℕ) (t : Text) → IsRunOfLength test (length (span_at_most test n t).0) t (span_at_most test n t).0 (span_at_most test n t).1
unfolding span_at_most
most_front test zero t = none
most_front test (suc n) [] = none
most_front test (suc n) (c ∷ t) = most_parts test n c t (test c) refl (span_at_most test n t) (most_front test n t)

most_step : (n c : ℕ) (t : Text) (b : Bool) (more : Text × Text) → length more.0 ≤ n →
    length ((elim b as (λ _. Text × Text) [ true ↦ (c ∷ more.0, more.1) | false ↦ ([], c ∷ t) ]).0) ≤ suc n
most_step n c t true more h = omega arith
most_step n c t false more h = omega arith

pub most_within : (test : ℕ → Bool) (n : ℕ) (t : Text) → length (span_at_most test n t).0 ≤ n
unfolding span_at_most
most_within test zero t = omega arith
most_within test (suc n) [] = omega arith
most_within test (suc n) (c ∷ t) = most_step n c t (test c) (span_at_most test n t) (most_within test n t)

one_more_of_most : (test : ℕ → Bool) (n c : ℕ) (t : Text) → test c ≡ true → span_at_most test (suc n) (c ∷ t) ≡ (c ∷ (span_at_most test n t).0, (span_at_most test n t).1)
unfolding span_at_most
one_more_of_most test n c t h = ap (λ b. elim b [ true ↦ (c ∷ (span_at_most test n t).0, (span_at_most test n t).1) | false ↦ ([], c ∷ t) ]) h

pub front_read : {test : ℕ → Bool} {n : ℕ} {t front rest : Text} → IsRunOfLength test n t front rest → span_at_most test n t ≡ (front, rest)
unfolding span_at_most
front_read none = refl
front_read {test} (and_one {n} {c} {t} h f) = one_more_of_most test n c t h ∙ ap (λ (more : Text × Text). (c ∷ more.0, more.1)) (front_read f)

pub front_length : {test : ℕ → Bool} {n : ℕ} {t front rest : Text} → IsRunOfLength test n t front rest → length front ≡ n
front_length none = refl
front_length (and_one h f) = ap suc (front_length f)

pub front_parts : {test : ℕ → Bool} {n : ℕ} {t front rest : Text} → IsRunOfLength test n t front rest → t ≡ front ++ rest
front_parts none = refl
front_parts (and_one {c = c} h f) = ap (λ x. c ∷ x) (front_parts f)

nothing_more : (test : ℕ → Bool) (m : ℕ) → span_at_most test m [] ≡ ([], [])
unfolding span_at_most
nothing_more test zero = refl
nothing_more test (suc m) = refl

-- a whole text of fewer characters
pub front_whole : {test : ℕ → Bool} {n : ℕ} {t front rest : Text} → IsRunOfLength test n t front rest → rest ≡ [] → (m : ℕ) → n ≤ m → span_at_most test m t ≡ (front, [])
front_whole {test} none e m h = ap (span_at_most test m) e ∙ nothing_more test m
front_whole (and_one h f) e zero k = absurd (omega (arith, k))
front_whole {test} (and_one {n} {c} {t} h f) e (suc m) k =
    one_more_of_most test m c t h ∙ ap (λ (more : Text × Text). (c ∷ more.0, more.1)) (front_whole f e m (omega arith))

-- by a word at the front
pub word_case : {A : Type 0} (P : A → Type 0) (word t : Text) (x : A) (f : Text → A) → ((rest : Text) → t ≡ word ++ rest → P (f rest)) →
    (((rest : Text) → t ≢ word ++ rest) → P x) → P (elim (strip_prefix word t) [ None ↦ x | Some rest ↦ f rest ])
word_case P word t x f h k = by_word (strip_prefix word t) (word_of word t)
  where
    by_word : (o : Option Text) → Found (λ rest. t ≡ word ++ rest) ((rest : Text) → t ≢ word ++ rest) o → P (elim o [ None ↦ x | Some rest ↦ f rest ])
    by_word (Some rest) (is_found is) = h rest is
    by_word None (is_none n) = k n

-- by the first place of a character
pub before_case : {A : Type 0} (P : A → Type 0) (close : ℕ) (t : Text) (x : A) (f : Text × Text → A) →
    ((found : Text × Text) → IsTextUntil close t found.0 found.1 → P (f found)) →
    (((front rest : Text) → IsTextUntil close t front rest → ⊥) → P x) → P (elim (split_once close t) [ None ↦ x | Some found ↦ f found ])
before_case P close t x f h k = by_place (split_once close t) (before_of close t)
  where
    by_place : (o : Option (Text × Text)) → Found (λ (found : Text × Text). IsTextUntil close t found.0 found.1) ((front rest : Text) → IsTextUntil close t front rest → ⊥) o →
        P (elim o [ None ↦ x | Some found ↦ f found ])
    by_place (Some found) (is_found b) = h found b
    by_place None (is_none n) = k n

pub before_lacks : (close : ℕ) (t : Text) → ((front rest : Text) → IsTextUntil close t front rest → ⊥) → split_once close t ≡ None
before_lacks close t n = by_place (split_once close t) (before_of close t)
  where
    by_place : (o : Option (Text × Text)) → Found (λ (found : Text × Text). IsTextUntil close t found.0 found.1) ((front rest : Text) → IsTextUntil close t front rest → ⊥) o →
        o ≡ None
    by_place (Some found) (is_found b) = absurd (n found.0 found.1 b)
    by_place None (is_none m) = refl

pub before_one : {close : ℕ} {t a b c d : Text} → IsTextUntil close t a b → IsTextUntil close t c d → a ≡ c
before_one {a = a} {b} {c} {d} h k = ap (λ (x : Text × Text). x.0) (same_Some (a, b) (c, d) (sym (before_read h) ∙ before_read k))
