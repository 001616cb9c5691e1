-- Quantifiers and marks, as the functions read them.
use Rattle.std.proofs.Common.{arith, ◌≡◌, ◌≢◌, ℕ, ◌<◌, nat_lt, Bool, true, false, cond, not, ◌&&◌, ◌==◌, Option, Some, None, Ok, Err, [], ◌∷◌, option_map, option_and_then, codes, refl, sym, ap, ◌∙◌, subst, true≢false, ltb-true, lt-ltb, if◌then◌else◌}
use Rattle.std.proofs.lemmas.Bool.{and_parts, and_from}
use Rattle.std.proofs.lemmas.Option.{none-some, same_Some}
use Rattle.fancy_regex_text.specs.Text.{Text, strip_prefix, is_decimal, unbounded}
use Rattle.fancy_regex_text.specs.ParseFault.{ParseFault}
use Rattle.fancy_regex_text.specs.Layout.{next_token, skip}
use Rattle.fancy_regex_text.specs.Names.{digits}
use Rattle.fancy_regex_lex.specs.Quantifiers.{spaced_digits, bounds, no_upper_bound, exactly, range, after_comma, after_number, counted, leading_quantifier, sign, lazy_suffix, possessive_suffix, quantifier_suffix}
use Rattle.fancy_regex_lex.specs.declared.token.Quantifier.{Quantifier}
use Rattle.fancy_regex_lex.specs.declared.token.QuantifierSuffix.{QuantifierSuffix}
use Rattle.fancy_regex_text.proofs.TextLemmas as texts
use Rattle.fancy_regex_lex_grammar.specs.Prefixes.{IsRun, at_other}
use Rattle.fancy_regex_lex_grammar.specs.Layout.{IsLayout, nothing_more, a_comment, a_blank, a_line, BeginsLayout, comment_begins, blank_begins, line_begins, IsSkipped, LayoutFails}
use Rattle.fancy_regex_lex_grammar.specs.Names.{IsLeadingNumber, no_digits}
use Rattle.fancy_regex_lex_grammar.specs.Counts as relations
use Rattle.fancy_regex_lex_grammar.specs.Counts.{in_braces, IsSpacedNumber, IsBracedQuantifier, at_least, at_most, between, IsQuantifier, optional, any_number, one_or_more, PlusIsMark, in_plain_mode, after_sign, NoPlus, NoQuestionMark, IsMarks, no_marks, lazy, possessive, lazy_and_possessive, QuantifierTokensAreExact, MarksAreExact}
use Rattle.fancy_regex_lex_grammar.proofs.ReadingLemmas.{at_char, char_is, Meant, is_read, bind_meant, Found, is_found, is_none, if_found, then_found, map_found, found_has, finds_exactly, reads_exactly}
use Rattle.fancy_regex_lex_grammar.proofs.LayoutProofs.{token_sound, token_read, skip_is_exact}
use Rattle.fancy_regex_lex_grammar.proofs.PrefixProofs.{word_of, word_lacks}
use Rattle.fancy_regex_lex_grammar.proofs.NameProofs.{digits_of, digits_read}

-- where no layout begins, there is none
none_there : {verbose : Bool} {t rest : Text} → IsLayout verbose t rest → (BeginsLayout verbose t → ⊥) → t ≡ rest
none_there nothing_more n = refl
none_there (a_comment c l) n = absurd (n comment_begins)
none_there (a_blank v b l) n = absurd (n (blank_begins v b))
none_there (a_line v m l) n = absurd (n (line_begins v))

twice : {verbose : Bool} {t u rest : Text} → IsSkipped verbose t u → IsSkipped verbose u rest → IsSkipped verbose t rest
twice {verbose} {t} a b = subst (IsSkipped verbose t) (none_there b.layout a.longest) a

again : {verbose : Bool} {t u : Text} → IsSkipped verbose t u → IsSkipped verbose u u
again a = record { layout = nothing_more; longest = a.longest }

abbrev no_count : Option ℕ
no_count = None

abbrev a_count : ℕ → Option ℕ
a_count n = Some n

module _ (verbose : Bool) where
  -- a number between layout, or layout alone
  data IsSpaced : Text → Option ℕ → Text → Type 0 where
    no_number : {t rest : Text} → IsSkipped verbose t rest → IsRun is_decimal rest [] rest → IsSpaced t None rest
    some_number : {t rest : Text} {n : ℕ} → IsSpacedNumber verbose t n rest → IsSpaced t (Some n) rest

  spaced : {t u v rest : Text} {n : Option ℕ} → IsSkipped verbose t u → IsLeadingNumber u n v → IsSkipped verbose v rest → IsSpaced t n rest
  spaced {n = None} a (no_digits r) b = no_number (twice a b) (subst (λ x. IsRun is_decimal x [] x) (none_there b.layout a.longest) r)
  spaced {u = u} {v = v} {n = Some n} a c b = some_number (record { digits = u; after = v; layout_before = a; number = c; layout_after = b })

  spaced_found : (t : Text) → Found (λ (found : Option ℕ × Text). IsSpaced t found.0 found.1) (Unit {0}) (spaced_digits verbose t)
  unfolding spaced_digits
  spaced_found t =
      then_found _ (next_token verbose t) (λ e. tt) (λ u e.
      map_found _ (next_token verbose (digits u).1) (λ d. tt) (λ rest d.
      spaced (token_sound verbose t u e) (digits_of u) (token_sound verbose (digits u).1 rest d)))

  spaced_read : {t rest : Text} {n : Option ℕ} → IsSpaced t n rest → spaced_digits verbose t ≡ Some (n, rest)
  unfolding spaced_digits
  spaced_read (no_number {t} {rest} s r) =
      ap (option_and_then (λ u. option_map (λ v. ((digits u).0, v)) (next_token verbose (digits u).1))) (token_read verbose t rest s)
      ∙ ap (λ (found : Option ℕ × Text). option_map (λ v. (found.0, v)) (next_token verbose found.1)) (digits_read (no_digits r))
      ∙ ap (option_map (λ v. (no_count, v))) (token_read verbose rest rest (again s))
  spaced_read (some_number {t} {rest} {n} s) =
      ap (option_and_then (λ u. option_map (λ v. ((digits u).0, v)) (next_token verbose (digits u).1))) (token_read verbose t s.digits s.layout_before)
      ∙ ap (λ (found : Option ℕ × Text). option_map (λ v. (found.0, v)) (next_token verbose found.1)) (digits_read s.number)
      ∙ ap (option_map (λ v. (a_count n, v))) (token_read verbose s.after rest s.layout_after)

bound_of : (lo hi : ℕ) (q : Quantifier) → bounds lo hi ≡ Some q → (lo < unbounded) × (hi < unbounded) × (in_braces lo hi ≡ q)
unfolding bounds
bound_of lo hi q h =
    let (both, same) = of_cond (nat_lt lo unbounded && nat_lt hi unbounded) (in_braces lo hi) q h in
    let (a, b) = and_parts (nat_lt lo unbounded) (nat_lt hi unbounded) both in
    (ltb-true lo unbounded a, ltb-true hi unbounded b, same)
  where
    of_cond : (b : Bool) (x y : Quantifier) → cond b (Some x) None ≡ Some y → (b ≡ true) × (x ≡ y)
    of_cond true x y e = (refl, same_Some x y e)
    of_cond false x y e = absurd (none-some y e)

bound_is : (lo hi : ℕ) → lo < unbounded → hi < unbounded → bounds lo hi ≡ Some (in_braces lo hi)
unfolding bounds
bound_is lo hi a b =
    ap (λ x. cond x (Some (in_braces lo hi)) None)
    (and_from (nat_lt lo unbounded) (nat_lt hi unbounded) (lt-ltb lo unbounded a) (lt-ltb hi unbounded b))

from_of : (lo : ℕ) (q : Quantifier) → no_upper_bound lo ≡ Some q → (lo < unbounded) × (in_braces lo unbounded ≡ q)
unfolding no_upper_bound
from_of lo q h = of_cond (nat_lt lo unbounded) refl h
  where
    of_cond : (b : Bool) → nat_lt lo unbounded ≡ b → cond b (Some (in_braces lo unbounded)) None ≡ Some q → (lo < unbounded) × (in_braces lo unbounded ≡ q)
    of_cond true e k = (ltb-true lo unbounded e, same_Some (in_braces lo unbounded) q k)
    of_cond false e k = absurd (none-some q k)

from_is : (lo : ℕ) → lo < unbounded → no_upper_bound lo ≡ Some (in_braces lo unbounded)
unfolding no_upper_bound
from_is lo a = ap (λ x. cond x (Some (in_braces lo unbounded)) None) (lt-ltb lo unbounded a)

strip_prefix_is : (c : ℕ) (t rest : Text) → strip_prefix (c ∷ []) t ≡ Some rest → t ≡ c ∷ rest
strip_prefix_is c t rest h = texts.strip_prefix_is (c ∷ []) t rest h

module _ (verbose : Bool) where
  exactly_of : {t rest : Text} (n : Option ℕ) (q : Quantifier) → IsSpaced verbose t n (0x7D ∷ rest) → exactly n ≡ Some q → IsBracedQuantifier verbose t q rest
  unfolding exactly
  exactly_of None q s h = absurd (none-some q h)
  exactly_of {t} {rest} (Some n) q (some_number s) h =
      let (a, b, same) = bound_of n n q h in subst (λ x. IsBracedQuantifier verbose t x rest) same (relations.exactly s a)

  range_of : {t u rest : Text} (n m : Option ℕ) (q : Quantifier) → IsSpaced verbose t n (0x2C ∷ u) → IsSpaced verbose u m (0x7D ∷ rest) →
      range n m ≡ Some q → IsBracedQuantifier verbose t q rest
  unfolding range
  range_of None None q s r h = absurd (none-some q h)
  range_of {t} {u} {rest} (Some n) None q (some_number s) (no_number r stops) h =
      let (a, same) = from_of n q h in subst (λ x. IsBracedQuantifier verbose t x rest) same (at_least s r a)
  range_of {t} {u} {rest} None (Some m) q (no_number s stops) (some_number r) h =
      let (a, b, same) = bound_of 0 m q h in subst (λ x. IsBracedQuantifier verbose t x rest) same (at_most s r b)
  range_of {t} {u} {rest} (Some n) (Some m) q (some_number s) (some_number r) h =
      let (a, b, same) = bound_of n m q h in subst (λ x. IsBracedQuantifier verbose t x rest) same (between s r a b)

  comma_found : {t : Text} (n : Option ℕ) (u : Text) → IsSpaced verbose t n (0x2C ∷ u) →
      Found (λ (r : Quantifier × Text). IsBracedQuantifier verbose t r.0 r.1) (Unit {0}) (after_comma verbose n u)
  unfolding after_comma
  comma_found {t} n u s =
      then_found _ (spaced_digits verbose u) (λ e. tt) (λ found e.
      then_found _ (strip_prefix (codes "}") found.1) (λ d. tt) (λ rest d.
      map_found _ (range n found.0) (λ f. tt) (λ q f.
      let second : IsSpaced verbose u found.0 found.1 = found_has (spaced_found verbose u) found e in
      range_of n found.0 q s (subst (IsSpaced verbose u found.0) (strip_prefix_is 0x7D found.1 rest d) second) f)))

  number_found : {t : Text} (n : Option ℕ) (u : Text) → IsSpaced verbose t n u →
      Found (λ (r : Quantifier × Text). IsBracedQuantifier verbose t r.0 r.1) (Unit {0}) (after_number verbose n u)
  unfolding after_number
  number_found n [] s = is_none tt
  number_found {t} n (c ∷ u) s =
      if_found (c == 0x7D) _ _ (λ h. map_found _ (exactly n) (λ e. tt)
      (λ q e. exactly_of n q (char_is c 0x7D (λ d. IsSpaced verbose t n (d ∷ u)) h s) e)) (λ h.
      if_found (c == 0x2C) _ _ (λ k. comma_found n u (char_is c 0x2C (λ d. IsSpaced verbose t n (d ∷ u)) k s)) (λ k.
      is_none tt))

  counted_found : (t : Text) → Found (λ (r : Quantifier × Text). IsBracedQuantifier verbose t r.0 r.1) (Unit {0}) (counted verbose t)
  unfolding counted
  counted_found t =
      then_found _ (spaced_digits verbose t) (λ e. tt) (λ found e. number_found found.0 found.1 (found_has (spaced_found verbose t) found e))

  abbrev QuantifierFound : Text → Option (Quantifier × Text) → Type 0
  QuantifierFound t = Found (λ (r : Quantifier × Text). IsQuantifier verbose t r.0 r.1) (Unit {0})

  braces_found : (t : Text) (o : Option (Quantifier × Text)) → Found (λ (r : Quantifier × Text). IsBracedQuantifier verbose t r.0 r.1) (Unit {0}) o → QuantifierFound (0x7B ∷ t) o
  braces_found t (Some r) (is_found b) = is_found (relations.counted b)
  braces_found t None (is_none n) = is_none tt

  quantifier_found : (t : Text) → QuantifierFound t (leading_quantifier verbose t)
  unfolding leading_quantifier
  quantifier_found [] = is_none tt
  quantifier_found (c ∷ t) =
      if_found (c == 0x3F) _ _ (λ h. is_found (at_char c 0x3F (λ d. IsQuantifier verbose (d ∷ t) (sign 0 1) t) h optional)) (λ h1.
      if_found (c == 0x2A) _ _ (λ h. is_found (at_char c 0x2A (λ d. IsQuantifier verbose (d ∷ t) (sign 0 unbounded) t) h any_number)) (λ h2.
      if_found (c == 0x2B) _ _ (λ h. is_found (at_char c 0x2B (λ d. IsQuantifier verbose (d ∷ t) (sign 1 unbounded) t) h one_or_more)) (λ h3.
      if_found (c == 0x7B) _ _ (λ h. at_char c 0x7B (λ d. QuantifierFound (d ∷ t) (counted verbose t)) h (braces_found t (counted verbose t) (counted_found t)))
      (λ h4. is_none tt))))

  -- the other way round

  number_read : {t u : Text} {n : ℕ} → IsSpacedNumber verbose t n u → counted verbose t ≡ after_number verbose (Some n) u
  unfolding counted
  number_read s = ap (option_and_then (λ (found : Option ℕ × Text). after_number verbose found.0 found.1)) (spaced_read verbose (some_number s))

  comma_read : {u rest : Text} (n m : Option ℕ) (q : Quantifier) → IsSpaced verbose u m (0x7D ∷ rest) → range n m ≡ Some q →
      after_comma verbose n u ≡ Some (q, rest)
  unfolding after_comma strip_prefix
  comma_read {u} {rest} n m q s h =
      ap (option_and_then (λ (found : Option ℕ × Text). option_and_then (λ v. option_map (λ x. (x, v)) (range n found.0)) (strip_prefix (codes "}") found.1)))
      (spaced_read verbose s)
      ∙ ap (option_map (λ x. (x, rest))) h

  layout_read : {t u : Text} → IsSkipped verbose t (0x2C ∷ u) → counted verbose t ≡ after_comma verbose None u
  unfolding counted after_number
  layout_read s =
      ap (option_and_then (λ (found : Option ℕ × Text). after_number verbose found.0 found.1)) (spaced_read verbose (no_number s (at_other refl)))

  braced_read : {t rest : Text} {q : Quantifier} → IsBracedQuantifier verbose t q rest → counted verbose t ≡ Some (q, rest)
  unfolding after_number exactly range
  braced_read (relations.exactly {n = n} s a) = number_read s ∙ ap (option_map (λ (x : Quantifier). (x, _))) (bound_is n n a a)
  braced_read (at_least {n = n} s r a) = number_read s ∙ comma_read (Some n) None _ (no_number r (at_other refl)) (from_is n a)
  braced_read (at_most {t} {u} {m = m} s r b) =
      layout_read s ∙ comma_read None (Some m) _ (some_number r) (bound_is 0 m (omega arith) b)
  braced_read (between {n = n} {m} s r a b) = number_read s ∙ comma_read (Some n) (Some m) _ (some_number r) (bound_is n m a b)

  quantifier_read : {t rest : Text} {q : Quantifier} → IsQuantifier verbose t q rest → leading_quantifier verbose t ≡ Some (q, rest)
  unfolding leading_quantifier
  quantifier_read optional = refl
  quantifier_read any_number = refl
  quantifier_read one_or_more = refl
  quantifier_read (relations.counted b) = braced_read b

pub quantifiers_are_exact : QuantifierTokensAreExact
quantifiers_are_exact verbose t =
    finds_exactly (leading_quantifier verbose t) (λ r h. found_has (quantifier_found verbose t) r h) (λ r h. quantifier_read verbose h)

-- the marks, by what stands after the layout

module _ (oniguruma verbose braces : Bool) where
  may : Bool
  may = not (oniguruma && braces)

  plus_marks : may ≡ true → PlusIsMark oniguruma braces
  unfolding may
  plus_marks h = by_mode oniguruma braces refl refl h
    where
      by_mode : (o b : Bool) → oniguruma ≡ o → braces ≡ b → not (o && b) ≡ true → PlusIsMark oniguruma braces
      by_mode false b e d k = in_plain_mode e
      by_mode true false e d k = after_sign d
      by_mode true true e d k = absurd (true≢false (sym k))

  plus_test : PlusIsMark oniguruma braces → may ≡ true
  unfolding may
  plus_test (in_plain_mode e) = ap (λ o. not (o && braces)) e
  plus_test (after_sign e) = ap (λ b. not (oniguruma && b)) e ∙ and_none oniguruma
    where
      and_none : (o : Bool) → not (o && false) ≡ true
      and_none true = refl
      and_none false = refl

  -- whether a mark stands there, and what is left
  data IsPlus : Text → Bool × Text → Type 0 where
    plus : {t : Text} → PlusIsMark oniguruma braces → IsPlus (0x2B ∷ t) (true, t)
    no_plus : {t : Text} → NoPlus oniguruma braces t → IsPlus t (false, t)

  data IsQuestion : Text → Bool × Text → Type 0 where
    question : {t : Text} → IsQuestion (0x3F ∷ t) (true, t)
    no_question : {t : Text} → NoQuestionMark t → IsQuestion t (false, t)

  plus_of : (t : Text) → IsPlus t (possessive_suffix may t)
  plus_of t = by_word (strip_prefix (codes "+") t) (word_of (codes "+") t)
    where
      by_word : (o : Option Text) → Found (λ rest. t ≡ 0x2B ∷ rest) ((rest : Text) → t ≢ 0x2B ∷ rest) o →
          IsPlus t (elim o [ Some rest ↦ (if may then (true, rest) else (false, t)) | None ↦ (false, t) ])
      by_word (Some rest) (is_found is) = by_mode may refl
        where
          by_mode : (m : Bool) → may ≡ m → IsPlus t (if m then (true, rest) else (false, t))
          by_mode true e = subst (λ u. IsPlus u (true, rest)) (sym is) (plus (plus_marks e))
          by_mode false e = no_plus (λ u at mark. true≢false (sym (plus_test mark) ∙ e))
      by_word None (is_none n) = no_plus (λ rest is mark. n rest is)

  question_of : (t : Text) → IsQuestion t (lazy_suffix t)
  question_of t = by_word (strip_prefix (codes "?") t) (word_of (codes "?") t)
    where
      by_word : (o : Option Text) → Found (λ rest. t ≡ 0x3F ∷ rest) ((rest : Text) → t ≢ 0x3F ∷ rest) o →
          IsQuestion t (elim o [ Some rest ↦ (true, rest) | None ↦ (false, t) ])
      by_word (Some rest) (is_found is) = subst (λ u. IsQuestion u (true, rest)) (sym is) question
      by_word None (is_none n) = no_question n

  plus_read : {t : Text} {p : Bool × Text} → IsPlus t p → possessive_suffix may t ≡ p
  unfolding strip_prefix
  plus_read (plus {t} mark) = ap (λ m. if m then (true, t) else (false, 0x2B ∷ t)) (plus_test mark)
  plus_read (no_plus {t} n) = by_word (strip_prefix (codes "+") t) (word_of (codes "+") t)
    where
      by_word : (o : Option Text) → Found (λ rest. t ≡ 0x2B ∷ rest) ((rest : Text) → t ≢ 0x2B ∷ rest) o →
          ◌≡◌ {A = Bool × Text} (elim o [ Some rest ↦ (if may then (true, rest) else (false, t)) | None ↦ (false, t) ]) (false, t)
      by_word (Some rest) (is_found is) = ap (λ m. if m then (true, rest) else (false, t)) (no_mark may refl)
        where
          no_mark : (m : Bool) → may ≡ m → may ≡ false
          no_mark true e = absurd (n rest is (plus_marks e))
          no_mark false e = e
      by_word None (is_none l) = refl

  question_read : {t : Text} {p : Bool × Text} → IsQuestion t p → lazy_suffix t ≡ p
  unfolding strip_prefix
  question_read question = refl
  question_read (no_question {t} n) = ap (λ o. elim o [ Some rest ↦ (true, rest) | None ↦ (false, t) ]) (word_lacks (codes "?") t n)

  marked : {t here : Text} {l p : Bool × Text} → IsSkipped verbose t here → IsQuestion here l → IsPlus l.1 p →
      IsMarks oniguruma verbose braces t (record { lazy = l.0; possessive = p.0 }) p.1
  marked s question (plus mark) = lazy_and_possessive s mark
  marked s question (no_plus n) = lazy s n
  marked s (no_question n) (plus mark) = possessive s mark
  marked s (no_question n) (no_plus m) = no_marks s n m

  marks_mean : (t : Text) → Meant (λ (r : QuantifierSuffix × Text). IsMarks oniguruma verbose braces t r.0 r.1) (LayoutFails verbose t) (quantifier_suffix oniguruma verbose braces t)
  unfolding quantifier_suffix may
  marks_mean t =
      let skipping = skip_is_exact verbose t in
      bind_meant (skip verbose t) _ skipping.fault_is_sound (λ here e.
      is_read (marked (skipping.sound here e) (question_of here) (plus_of (lazy_suffix here).1)))

  marks_from : {t here : Text} {l p : Bool × Text} → IsSkipped verbose t here → IsQuestion here l → IsPlus l.1 p →
      quantifier_suffix oniguruma verbose braces t ≡ Ok (record { lazy = l.0; possessive = p.0 }, p.1)
  unfolding quantifier_suffix may
  marks_from {t} {here} s q p = rw (quantifier_suffix, (skip_is_exact verbose t).complete here s, question_read q, plus_read p) refl

  marks_read : {t rest : Text} {m : QuantifierSuffix} → IsMarks oniguruma verbose braces t m rest → quantifier_suffix oniguruma verbose braces t ≡ Ok (m, rest)
  marks_read (no_marks s n m) = marks_from s (no_question n) (no_plus m)
  marks_read (lazy s n) = marks_from s question (no_plus n)
  marks_read (possessive s mark) = marks_from s (no_question (λ rest e. other_sign e)) (plus mark)
    where
      other_sign : {t rest : Text} → 0x2B ∷ t ≡ 0x3F ∷ rest → ⊥
      other_sign e = cc
  marks_read (lazy_and_possessive s mark) = marks_from s question (plus mark)

  marks_stop : (t : Text) (e : ParseFault) → LayoutFails verbose t e → quantifier_suffix oniguruma verbose braces t ≡ Err e
  unfolding quantifier_suffix
  marks_stop t e s = rw (quantifier_suffix, (skip_is_exact verbose t).fault_is_complete e s) refl

pub marks_are_exact : MarksAreExact
marks_are_exact oniguruma verbose braces t =
    reads_exactly (quantifier_suffix oniguruma verbose braces t) (marks_mean oniguruma verbose braces t) (λ r h. marks_read oniguruma verbose braces h)
    (marks_stop oniguruma verbose braces t)
