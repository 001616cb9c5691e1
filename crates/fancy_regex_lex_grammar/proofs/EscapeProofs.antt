-- Escapes, as the function reads them.
use Rattle.std.proofs.Common.{◌≡◌, ◌≢◌, ℕ, ℤ, suc, ◌+◌, ◌*◌, ◌<◌, ◌≤◌, nat_lt, Bool, true, false, cond, not, ◌&&◌, ◌==◌, Option, Some, None, Ok, Err, [], ◌∷◌, ◌++◌, codes, refl, sym, ap, ap₂, ◌∙◌, subst, true≢false, ltb-true, ltb-false, lt-ltb, le-ltb, ne_eqb, arith, if◌then◌else◌}
use Rattle.std.proofs.lemmas.Bool.{or_parts, false_from_ne_true, agree_below, agree_below_at}
use Rattle.std.proofs.lemmas.Option.{none-some}
use Rattle.std.specs.Char.{is_ascii_alphabetic, digit_value}
use Rattle.fancy_regex_text.specs.Text.{Text, ◌∈◌, strip_prefix, split_once, is_empty, is_decimal, is_hexadecimal, value, bytes}
use Rattle.fancy_regex_text.specs.ParseFault.{Kind, ParseFault, ParseOutcome, ◌>>=◌, fail_at, trailing_backslash, invalid_escape, unclosed_unicode_name, invalid_hex, invalid_codepoint_value, invalid_group_name}
use Rattle.fancy_regex_text.specs.Names.{Named, by_number, Referred, digits, reference}
use Rattle.fancy_regex_lex.specs.Escapes.{Escape, char_escape, byte_escape, class_escape, assertion_escape, reference_escape, call_escape, one_letter, is_character, code_point, braced_digits, braced_hex, plain_digits, plain_hex, hex, property_letter, named_class, property_class, property, half_boundary, boundary, delimited_reference, bracketed_reference, numbered_reference, single, after_backslash, escape}
use Rattle.fancy_regex_lex.specs.declared.token.AssertionEscape.{AssertionEscape}
use Rattle.fancy_regex_lex.specs.declared.token.AssertionEscape.TheVariants as places
use Rattle.fancy_regex_lex_grammar.specs.Exact.{FailsAt, at}
use Rattle.fancy_regex_lex_grammar.specs.Prefixes.{IsRun, at_end, at_other, one_more, IsRunOfLength, none, and_one, IsTextUntil}
use Rattle.fancy_regex_lex_grammar.specs.Names.{IsNumber, a_number, IsLeadingNumber, no_digits, some_digits, IsReference}
use Rattle.fancy_regex_lex_grammar.specs.Escapes as escapes
use Rattle.fancy_regex_lex_grammar.specs.Escapes.{IsCharacterEscape, IsBoundaryName, start, end, start_half, end_half, IsCodePoint, below_surrogates, IsBracedHex, IsHex, plain, in_braces, IsHexLetter, two_digits, four_digits, eight_digits, IsPropertyLetter, has, has_not, IsClosedReference, IsBracketed, in_angles, in_quotes, IsEscape, a_sign, a_byte, ascii, four_or_eight, code_in_braces, property_of_one_letter, negated_property, named_boundary, word_boundary, back_reference, call, EscapeFails, nothing_after, no_escape, no_code, no_character, property_at_end, property_without_brace, property_without_name, negated_property_without_name, no_reference, no_call, EscapesAreExact, ClosedReferencesAreExact}
use Rattle.fancy_regex_lex_grammar.proofs.ReadingLemmas.{at_char, char_is, is_not, Meant, is_read, is_stopped, if_meant, Found, is_found, is_none, reads_exactly}
use Rattle.fancy_regex_lex_grammar.proofs.PrefixProofs.{word_case, word_lacks, before_case, before_lacks, before_read, before_one}
use Rattle.fancy_regex_lex_grammar.proofs.NameProofs.{small_digit, digits_of, digits_read, reference_is_exact}
use Rattle.fancy_regex_lex_grammar.proofs.CharacterEscapeProofs.{other_than_these, sign_of, sign_read, IsAlone, sign_alone}
use Rattle.fancy_regex_lex_grammar.proofs.HexProofs.{plain_of, plain_read, braced_of, braced_read, code_point_of, code_point_test}

-- a fault at the place that `here` follows
pub stopped : {A : Type 0} {Has : A → Type 0} {Stops : Kind → Type 0} (here : Text) (kind : Kind) → Stops kind →
    Meant Has (FailsAt Stops here) (fail_at kind here)
stopped here kind h = is_stopped (record { kind = h; place = refl })

-- a fault by its kind and its place
pub same_fault : (e : ParseFault) (kind : Kind) (here : Text) → e.kind ≡ kind → e.left ≡ bytes here → e ≡ at kind here
same_fault e kind here h k = ap₂ (λ x n. record { kind = x; left = n }) h k

-- references in brackets

abbrev pub NoneClosed : Bool → ℕ → Text → Kind → Type 0
NoneClosed allow_level close t kind =
    (kind ≡ invalid_group_name) × ((target : Named) (level : Option ℤ) (rest : Text) → IsClosedReference allow_level close t target level rest → ⊥)

abbrev NoneBracketed : Bool → Text → Kind → Type 0
NoneBracketed allow_level t kind =
    (kind ≡ invalid_group_name) × ((target : Named) (level : Option ℤ) (rest : Text) → IsBracketed allow_level t target level rest → ⊥)

module _ (allow_level : Bool) (here : Text) where
  abbrev pub ClosedMeans : ℕ → Text → ParseOutcome (Referred × Text) → Type 0
  ClosedMeans close t = Meant (λ (r : Referred × Text). IsClosedReference allow_level close t r.0.0 r.0.1 r.1) (FailsAt (NoneClosed allow_level close t) here)

  pub closed_means : (close : ℕ) (t : Text) → ClosedMeans close t (delimited_reference allow_level close here t)
  unfolding delimited_reference
  closed_means close t =
      before_case (ClosedMeans close t) close t (fail_at invalid_group_name here)
      (λ found. elim (reference allow_level found.0) [ None ↦ fail_at invalid_group_name here | Some r ↦ Ok (r, found.1) ])
      (λ found b. by_reference found b (reference allow_level found.0) refl)
      (λ lacks. stopped here invalid_group_name (refl, λ target level rest c. lacks c.text rest c.parted))
    where
      by_reference : (found : Text × Text) → IsTextUntil close t found.0 found.1 → (o : Option Referred) → reference allow_level found.0 ≡ o →
          ClosedMeans close t (elim o [ None ↦ fail_at invalid_group_name here | Some r ↦ Ok (r, found.1) ])
      by_reference found b (Some r) e =
          is_read (record { text = found.0; parted = b; reference = (reference_is_exact allow_level found.0).sound r e })
      by_reference found b None e =
          stopped here invalid_group_name (
            refl,
            λ target level rest c.
                (reference_is_exact allow_level found.0).none e (target, level)
                (subst (λ u. IsReference allow_level u target level) (before_one c.parted b) c.reference),
          )

  pub closed_read : {close : ℕ} {t rest : Text} {target : Named} {level : Option ℤ} → IsClosedReference allow_level close t target level rest →
      delimited_reference allow_level close here t ≡ Ok ((target, level), rest)
  unfolding delimited_reference
  closed_read {close} {t} {rest} {target} {level} c =
      ap (λ o. elim o [
        | None ↦ fail_at invalid_group_name here
        | Some found ↦ elim (reference allow_level found.0) [ None ↦ fail_at invalid_group_name here | Some r ↦ Ok (r, found.1) ]
      ]) (before_read c.parted)
      ∙ ap (λ o. elim o [ None ↦ fail_at invalid_group_name here | Some r ↦ Ok (r, rest) ])
      ((reference_is_exact allow_level c.text).complete (target, level) c.reference)

  pub none_closed : (close : ℕ) (t : Text) → ((target : Named) (level : Option ℤ) (rest : Text) → IsClosedReference allow_level close t target level rest → ⊥) →
      delimited_reference allow_level close here t ≡ Err (at invalid_group_name here)
  none_closed close t lacks = by_meaning (delimited_reference allow_level close here t) (closed_means close t)
    where
      by_meaning : (r : ParseOutcome (Referred × Text)) → ClosedMeans close t r → r ≡ Err (at invalid_group_name here)
      by_meaning (Ok x) (is_read c) = absurd (lacks x.0.0 x.0.1 x.1 c)
      by_meaning (Err e) (is_stopped s) = ap Err (same_fault e invalid_group_name here s.kind.0 s.place)

  abbrev BracketedMeans : Text → ParseOutcome (Referred × Text) → Type 0
  BracketedMeans t = Meant (λ (r : Referred × Text). IsBracketed allow_level t r.0.0 r.0.1 r.1) (FailsAt (NoneBracketed allow_level t) here)

  angles_mean : (t : Text) (r : ParseOutcome (Referred × Text)) → ClosedMeans 0x3E t r → BracketedMeans (0x3C ∷ t) r
  angles_mean t (Ok x) (is_read c) = is_read (in_angles c)
  angles_mean t (Err e) (is_stopped s) = is_stopped (record { kind = (s.kind.0, λ target level rest b. in_there (s.kind.1) b); place = s.place })
    where
      in_there : ((target : Named) (level : Option ℤ) (rest : Text) → IsClosedReference allow_level 0x3E t target level rest → ⊥) →
          {target : Named} {level : Option ℤ} {rest : Text} → IsBracketed allow_level (0x3C ∷ t) target level rest → ⊥
      in_there n (in_angles c) = n _ _ _ c

  quotes_mean : (t : Text) (r : ParseOutcome (Referred × Text)) → ClosedMeans 0x27 t r → BracketedMeans (0x27 ∷ t) r
  quotes_mean t (Ok x) (is_read c) = is_read (in_quotes c)
  quotes_mean t (Err e) (is_stopped s) = is_stopped (record { kind = (s.kind.0, λ target level rest b. in_there (s.kind.1) b); place = s.place })
    where
      in_there : ((target : Named) (level : Option ℤ) (rest : Text) → IsClosedReference allow_level 0x27 t target level rest → ⊥) →
          {target : Named} {level : Option ℤ} {rest : Text} → IsBracketed allow_level (0x27 ∷ t) target level rest → ⊥
      in_there n (in_quotes c) = n _ _ _ c

  neither : (c : ℕ) (t : Text) → (c == 0x3C) ≡ false → (c == 0x27) ≡ false → {target : Named} {level : Option ℤ} {rest : Text} →
      IsBracketed allow_level (c ∷ t) target level rest → ⊥
  neither c t h k (in_angles x) = true≢false h
  neither c t h k (in_quotes x) = true≢false k

  none_at_end : {target : Named} {level : Option ℤ} {rest : Text} → IsBracketed allow_level [] target level rest → ⊥
  none_at_end b = elim b [ ]

  pub bracketed_means : (t : Text) → BracketedMeans t (bracketed_reference allow_level here t)
  unfolding bracketed_reference
  bracketed_means [] = stopped here invalid_group_name (refl, λ target level rest b. none_at_end b)
  bracketed_means (c ∷ t) =
      if_meant (c == 0x3C) _ _ (λ h. at_char c 0x3C (λ d. BracketedMeans (d ∷ t) (delimited_reference allow_level 0x3E here t)) h (angles_mean t _ (closed_means 0x3E t))) (λ h.
      if_meant (c == 0x27) _ _ (λ k. at_char c 0x27 (λ d. BracketedMeans (d ∷ t) (delimited_reference allow_level 0x27 here t)) k (quotes_mean t _ (closed_means 0x27 t))) (λ k.
      stopped here invalid_group_name (refl, λ target level rest b. neither c t h k b)))

  pub bracketed_read : {t rest : Text} {target : Named} {level : Option ℤ} → IsBracketed allow_level t target level rest →
      bracketed_reference allow_level here t ≡ Ok ((target, level), rest)
  unfolding bracketed_reference
  bracketed_read (in_angles c) = closed_read c
  bracketed_read (in_quotes c) = closed_read c

  pub none_bracketed : (t : Text) → ((target : Named) (level : Option ℤ) (rest : Text) → IsBracketed allow_level t target level rest → ⊥) →
      bracketed_reference allow_level here t ≡ Err (at invalid_group_name here)
  none_bracketed t lacks = by_meaning (bracketed_reference allow_level here t) (bracketed_means t)
    where
      by_meaning : (r : ParseOutcome (Referred × Text)) → BracketedMeans t r → r ≡ Err (at invalid_group_name here)
      by_meaning (Ok x) (is_read c) = absurd (lacks x.0.0 x.0.1 x.1 c)
      by_meaning (Err e) (is_stopped s) = ap Err (same_fault e invalid_group_name here s.kind.0 s.place)

pub closed_references_are_exact : ClosedReferencesAreExact
closed_references_are_exact allow_level close here t =
    reads_exactly (delimited_reference allow_level close here t) (closed_means allow_level here close t) (λ r c. closed_read allow_level here c)
    (λ e s. none_closed allow_level here close t s.kind.1 ∙ ap Err (sym (same_fault e invalid_group_name here s.kind.0 s.place)))

-- codes

-- after an opening brace stands no digit
hex_in_braces : {c n code : ℕ} {t rest : Text} → IsHexLetter c n → IsHex n (0x7B ∷ t) code rest → IsBracedHex t code rest
hex_in_braces two_digits (plain (and_one h f)) = absurd (true≢false (sym h))
hex_in_braces two_digits (in_braces b) = b
hex_in_braces four_digits (plain (and_one h f)) = absurd (true≢false (sym h))
hex_in_braces four_digits (in_braces b) = b
hex_in_braces eight_digits (plain (and_one h f)) = absurd (true≢false (sym h))
hex_in_braces eight_digits (in_braces b) = b

-- without a brace, the digits are plain
abbrev NoPlainHex : ℕ → Text → Type 0
NoPlainHex n t = (digits rest : Text) → IsRunOfLength is_hexadecimal n t digits rest → ⊥

hex_is_plain : {n code : ℕ} {t rest : Text} → ((u : Text) → t ≢ 0x7B ∷ u) → NoPlainHex n t → IsHex n t code rest → ⊥
hex_is_plain lacks n (plain f) = n _ _ f
hex_is_plain lacks n (in_braces b) = lacks _ refl

brace_lacks : {m : ℕ} {t digits rest : Text} → IsRunOfLength is_hexadecimal (suc m) t digits rest → strip_prefix (codes "{") t ≡ None
unfolding strip_prefix
brace_lacks (and_one {c = c} {t} h f) = ap (λ b. cond b (Some t) None) (other_than_these is_hexadecimal c 0x7B refl h)

module _ (oniguruma : Bool) (here : Text) where
  abbrev EscapeMeans : Text → ParseOutcome (Escape × Text) → Type 0
  EscapeMeans t = Meant (λ (r : Escape × Text). IsEscape oniguruma t r.0 r.1) (FailsAt (EscapeFails oniguruma t) here)

  code_means : {c n code : ℕ} {t rest : Text} → IsHexLetter c n → IsHex n t code rest → (IsCodePoint code → IsEscape oniguruma (c ∷ t) (char_escape code) rest) →
      EscapeMeans (c ∷ t) (code_point here code rest)
  unfolding code_point
  code_means {code = code} l h e =
      if_meant (is_character code) _ _ (λ k. is_read (e (code_point_of code k)))
      (λ k. stopped here invalid_codepoint_value (no_character l h (λ p. true≢false (sym (code_point_test p) ∙ k))))

  braced_means : {c n : ℕ} → IsHexLetter c n → (t : Text) → EscapeMeans (c ∷ 0x7B ∷ t) (braced_hex here t)
  unfolding braced_hex
  braced_means {c} {n} l t =
      before_case (EscapeMeans (c ∷ 0x7B ∷ t)) 0x7D t (fail_at invalid_hex here)
      (λ found. elim (braced_digits found.0) [ None ↦ fail_at invalid_hex here | Some code ↦ code_point here code found.1 ])
      (λ found b. by_digits found b (braced_digits found.0) (braced_of found.0))
      (λ lacks. stopped here invalid_hex (no_code l (λ code rest h. no_close lacks (hex_in_braces l h))))
    where
      no_close : ((front rest : Text) → IsTextUntil 0x7D t front rest → ⊥) → {code : ℕ} {rest : Text} → IsBracedHex t code rest → ⊥
      no_close lacks (escapes.braced_hex b f x y) = lacks _ _ b

      no_digits_there : {front after : Text} → IsTextUntil 0x7D t front after → ((m : ℕ) → IsRunOfLength is_hexadecimal m front front [] → 1 ≤ m → m ≤ 8 → ⊥) →
          {code : ℕ} {rest : Text} → IsBracedHex t code rest → ⊥
      no_digits_there b lacks (escapes.braced_hex {n = m} k f x y) =
          lacks m (subst (λ u. IsRunOfLength is_hexadecimal m u u []) (before_one k b) f) x y

      by_digits : (found : Text × Text) → IsTextUntil 0x7D t found.0 found.1 → (o : Option ℕ) →
          Found (λ code. (m : ℕ) × IsRunOfLength is_hexadecimal m found.0 found.0 [] × (1 ≤ m) × (m ≤ 8) × (code ≡ value 16 found.0))
          ((m : ℕ) → IsRunOfLength is_hexadecimal m found.0 found.0 [] → 1 ≤ m → m ≤ 8 → ⊥) o →
          EscapeMeans (c ∷ 0x7B ∷ t) (elim o [ None ↦ fail_at invalid_hex here | Some code ↦ code_point here code found.1 ])
      by_digits found b (Some code) (is_found (m, f, x, y, e)) =
          let braced : IsBracedHex t code found.1 = subst (λ v. IsBracedHex t v found.1) (sym e) (escapes.braced_hex b f x y) in
          code_means l (in_braces braced) (λ p. code_in_braces l braced p)
      by_digits found b None (is_none lacks) = stopped here invalid_hex (no_code l (λ code rest h. no_digits_there b lacks (hex_in_braces l h)))

  two_mean : (t digits rest : Text) (code : ℕ) → IsRunOfLength is_hexadecimal 2 t digits rest → code ≡ value 16 digits →
      EscapeMeans (0x78 ∷ t) (if nat_lt 0x7F code then Ok (byte_escape code, rest) else code_point here code rest)
  two_mean t digits rest code f e =
      if_meant (nat_lt 0x7F code) _ _
      (λ h. is_read (subst (λ v. IsEscape oniguruma (0x78 ∷ t) (byte_escape v) rest) (sym e) (a_byte f (subst (λ v. 0x7F < v) e (ltb-true 0x7F code h)))))
      (λ h.
      let small : code ≤ 0x7F = ltb-false 0x7F code h in
      code_means two_digits (subst (λ v. IsHex 2 t v rest) (sym e) (plain f))
      (λ p. subst (λ v. IsEscape oniguruma (0x78 ∷ t) (char_escape v) rest) (sym e) (ascii f (subst (λ v. v ≤ 0x7F) e small))))

  more_mean : {c n : ℕ} → IsHexLetter c n → n ≢ 2 → (t digits rest : Text) (code : ℕ) → IsRunOfLength is_hexadecimal n t digits rest → code ≡ value 16 digits →
      EscapeMeans (c ∷ t) (code_point here code rest)
  more_mean {c} {n} l k t digits rest code f e =
      code_means l (subst (λ v. IsHex n t v rest) (sym e) (plain f))
      (λ p. subst (λ v. IsEscape oniguruma (c ∷ t) (char_escape v) rest) (sym e) (four_or_eight l k f (subst IsCodePoint e p)))

  abbrev after_digits : ℕ → ℕ × Text → ParseOutcome (Escape × Text)
  after_digits n found = if n == 2 && nat_lt 0x7F found.0 then Ok (byte_escape found.0, found.1) else code_point here found.0 found.1

  plain_means : {c n : ℕ} → IsHexLetter c n → (t : Text) → ((u : Text) → t ≢ 0x7B ∷ u) → EscapeMeans (c ∷ t) (plain_hex n here t)
  unfolding plain_hex
  plain_means {c} {n} l t lacks = by_digits (plain_digits n t) (plain_of n t)
    where
      by_letter : {d m : ℕ} → IsHexLetter d m → (digits rest : Text) (code : ℕ) → IsRunOfLength is_hexadecimal m t digits rest → code ≡ value 16 digits →
          EscapeMeans (d ∷ t) (after_digits m (code, rest))
      by_letter two_digits digits rest code f e = two_mean t digits rest code f e
      by_letter four_digits digits rest code f e = more_mean four_digits (λ h. absurd (omega (arith, h))) t digits rest code f e
      by_letter eight_digits digits rest code f e = more_mean eight_digits (λ h. absurd (omega (arith, h))) t digits rest code f e

      by_digits : (o : Option (ℕ × Text)) →
          Found (λ (found : ℕ × Text). (digits : Text) × IsRunOfLength is_hexadecimal n t digits found.1 × (found.0 ≡ value 16 digits)) (NoPlainHex n t) o →
          EscapeMeans (c ∷ t) (elim o [ None ↦ fail_at invalid_hex here | Some found ↦ after_digits n found ])
      by_digits (Some found) (is_found (digits, f, e)) = by_letter l digits found.1 found.0 f e
      by_digits None (is_none m) = stopped here invalid_hex (no_code l (λ code rest h. hex_is_plain lacks m h))

  hex_means : {c n : ℕ} → IsHexLetter c n → (t : Text) → EscapeMeans (c ∷ t) (hex n here t)
  unfolding hex
  hex_means {c} {n} l t =
      word_case (EscapeMeans (c ∷ t)) (codes "{") t (plain_hex n here t) (λ inside. braced_hex here inside)
      (λ inside is. subst (λ u. EscapeMeans (c ∷ u) (braced_hex here inside)) (sym is) (braced_means l inside)) (λ lacks. plain_means l t lacks)

  -- properties

  property_letters : (negated : Bool) → IsPropertyLetter (property_letter negated) (property_letter (not negated))
  property_letters true = has_not
  property_letters false = has

  abbrev property_in_braces : Bool → Text × Text → ParseOutcome (Escape × Text)
  property_in_braces negated found =
      elim (property_class negated found.0) [ None ↦ fail_at unclosed_unicode_name here | Some name ↦ Ok (class_escape name, found.1) ]

  named_property : (negated : Bool) (t name rest : Text) → IsTextUntil 0x7D t name rest →
      EscapeMeans (property_letter negated ∷ 0x7B ∷ t) (property_in_braces negated (name, rest))
  unfolding property_class
  named_property negated t [] rest b = stopped here unclosed_unicode_name (property_without_name (property_letters negated) b)
  named_property negated t (c ∷ name) rest b = by_sign (c == 0x5E) refl
    where
      turned : (u : Text) → IsTextUntil 0x7D t (0x5E ∷ u) rest →
          EscapeMeans (property_letter negated ∷ 0x7B ∷ t)
          (elim (cond (is_empty u) None (Some (named_class (not negated) u))) [ None ↦ fail_at unclosed_unicode_name here | Some n ↦ Ok (class_escape n, rest) ])
      turned [] k = stopped here unclosed_unicode_name (negated_property_without_name (property_letters negated) k)
      turned (d ∷ u) k = is_read (negated_property (property_letters negated) k)

      by_sign : (s : Bool) → (c == 0x5E) ≡ s →
          EscapeMeans (property_letter negated ∷ 0x7B ∷ t)
          (elim (cond (not s) (Some (named_class negated (c ∷ name))) (cond (is_empty name) None (Some (named_class (not negated) name)))) [
            | None ↦ fail_at unclosed_unicode_name here
            | Some n ↦ Ok (class_escape n, rest)
          ])
      by_sign true e = turned name (char_is c 0x5E (λ d. IsTextUntil 0x7D t (d ∷ name) rest) e b)
      by_sign false e = is_read (escapes.property (property_letters negated) b (is_not c 0x5E e))

  property_means : (negated : Bool) (t : Text) → EscapeMeans (property_letter negated ∷ t) (property negated here t)
  unfolding property
  property_means negated [] = stopped here unclosed_unicode_name (property_at_end (property_letters negated))
  property_means negated (c ∷ t) = by_sign (c == 0x7B) refl
    where
      braced : EscapeMeans (property_letter negated ∷ 0x7B ∷ t)
          (elim (split_once 0x7D t) [ None ↦ fail_at unclosed_unicode_name here | Some found ↦ property_in_braces negated found ])
      braced =
          before_case (EscapeMeans (property_letter negated ∷ 0x7B ∷ t)) 0x7D t (fail_at unclosed_unicode_name here) (property_in_braces negated)
          (λ found b. named_property negated t found.0 found.1 b)
          (λ lacks. stopped here unclosed_unicode_name (property_without_brace (property_letters negated) lacks))

      by_sign : (s : Bool) → (c == 0x7B) ≡ s →
          EscapeMeans (property_letter negated ∷ c ∷ t) (cond (not s) (Ok (class_escape (0x5C ∷ property_letter negated ∷ c ∷ []), t))
          (elim (split_once 0x7D t) [ None ↦ fail_at unclosed_unicode_name here | Some found ↦ property_in_braces negated found ]))
      by_sign true e =
          at_char c 0x7B (λ d. EscapeMeans (property_letter negated ∷ d ∷ t)
          (elim (split_once 0x7D t) [ None ↦ fail_at unclosed_unicode_name here | Some found ↦ property_in_braces negated found ])) e braced
      by_sign false e = is_read (property_of_one_letter (property_letters negated) (is_not c 0x7B e))

  -- boundaries

  abbrev BoundaryIs : Text → AssertionEscape × Text → Type 0
  BoundaryIs t found = IsEscape oniguruma (0x62 ∷ t) (assertion_escape found.0) found.1

  none_of_four : (t : Text) → ((rest : Text) → t ≢ codes "{start}" ++ rest) → ((rest : Text) → t ≢ codes "{end}" ++ rest) →
      ((rest : Text) → t ≢ codes "{start-half}" ++ rest) → ((rest : Text) → t ≢ codes "{end-half}" ++ rest) →
      {name : Text} {place : AssertionEscape} → IsBoundaryName name place → (rest : Text) → t ≢ name ++ rest
  none_of_four t n1 n2 n3 n4 start rest = n1 rest
  none_of_four t n1 n2 n3 n4 end rest = n2 rest
  none_of_four t n1 n2 n3 n4 start_half rest = n3 rest
  none_of_four t n1 n2 n3 n4 end_half rest = n4 rest

  boundary_of : (t : Text) → BoundaryIs t (boundary t)
  unfolding boundary half_boundary
  boundary_of t =
      word_case (BoundaryIs t) (codes "{start}") t _ (λ rest. (places.LeftWordBoundary, rest))
      (λ rest is. subst (λ u. BoundaryIs u (places.LeftWordBoundary, rest)) (sym is) (named_boundary start)) (λ n1.
      word_case (BoundaryIs t) (codes "{end}") t _ (λ rest. (places.RightWordBoundary, rest))
      (λ rest is. subst (λ u. BoundaryIs u (places.RightWordBoundary, rest)) (sym is) (named_boundary end)) (λ n2.
      word_case (BoundaryIs t) (codes "{start-half}") t _ (λ rest. (places.LeftWordHalfBoundary, rest))
      (λ rest is. subst (λ u. BoundaryIs u (places.LeftWordHalfBoundary, rest)) (sym is) (named_boundary start_half)) (λ n3.
      word_case (BoundaryIs t) (codes "{end-half}") t _ (λ rest. (places.RightWordHalfBoundary, rest))
      (λ rest is. subst (λ u. BoundaryIs u (places.RightWordHalfBoundary, rest)) (sym is) (named_boundary end_half)) (λ n4.
      word_boundary (λ name rest place b. none_of_four t n1 n2 n3 n4 b rest)))))

  -- references

  back_reference_means : (t : Text) (r : ParseOutcome (Referred × Text)) → BracketedMeans true here t r →
      EscapeMeans (0x6B ∷ t) (r >>= λ x. Ok (reference_escape x.0.0 x.0.1, x.1))
  back_reference_means t (Ok x) (is_read b) = is_read (back_reference b)
  back_reference_means t (Err e) (is_stopped s) =
      is_stopped (record { kind = subst (EscapeFails oniguruma (0x6B ∷ t)) (sym s.kind.0) (no_reference s.kind.1); place = s.place })

  call_means : (t : Text) (r : ParseOutcome (Referred × Text)) → BracketedMeans false here t r →
      EscapeMeans (0x67 ∷ t) (r >>= λ x. Ok (call_escape x.0.0, x.1))
  call_means t (Ok x) (is_read b) = is_read (call b)
  call_means t (Err e) (is_stopped s) =
      is_stopped (record { kind = subst (EscapeFails oniguruma (0x67 ∷ t)) (sym s.kind.0) (no_call s.kind.1); place = s.place })

  -- numbers, and single letters and signs

  single_means : (c : ℕ) (t : Text) → c ∈ "xuUpPbkg" ≡ false → is_decimal c ≡ false → EscapeMeans (c ∷ t) (single oniguruma here c t)
  unfolding single
  single_means c t n d = by_sign (one_letter oniguruma c) refl (sign_of oniguruma c d)
    where
      by_sign : (o : Option Escape) → one_letter oniguruma c ≡ o → Found (IsCharacterEscape oniguruma c) (is_ascii_alphabetic c ≡ true) o →
          EscapeMeans (c ∷ t) (elim o [ None ↦ fail_at (invalid_escape (0x5C ∷ c ∷ [])) here | Some e ↦ Ok (e, t) ])
      by_sign (Some e) is (is_found s) = is_read (a_sign s)
      by_sign None is (is_none l) =
          stopped here (invalid_escape (0x5C ∷ c ∷ [])) (no_escape l n (λ e s. none-some e (sym is ∙ sign_read s)))

  no_digit_first : {c : ℕ} {t rest : Text} → IsRun is_decimal (c ∷ t) [] rest → is_decimal c ≡ false
  no_digit_first (at_other h) = h

  last_means : (c : ℕ) (t : Text) → c ∈ "xuUpPbkg" ≡ false →
      EscapeMeans (c ∷ t) (elim (numbered_reference (c ∷ t)) [ None ↦ single oniguruma here c t | Some found ↦ Ok found ])
  unfolding numbered_reference
  last_means c t n = by_count (digits (c ∷ t)).0 (digits (c ∷ t)).1 (digits_of (c ∷ t))
    where
      by_count : (m : Option ℕ) (rest : Text) → IsLeadingNumber (c ∷ t) m rest →
          EscapeMeans (c ∷ t) (elim (elim m as (λ _. Option (Escape × Text)) [ None ↦ None | Some k ↦ Some (reference_escape (by_number k) None, rest) ])
          [ None ↦ single oniguruma here c t | Some found ↦ Ok found ])
      by_count None rest (no_digits r) = single_means c t n (no_digit_first r)
      by_count (Some k) rest (some_digits r m) = is_read (numbered_reference_is r m)
        where
          numbered_reference_is : {front : Text} → IsRun is_decimal (c ∷ t) front rest → IsNumber front k →
              IsEscape oniguruma (c ∷ t) (reference_escape (by_number k) None) rest
          numbered_reference_is r m = escapes.numbered_reference r m

  escape_means : (t : Text) → EscapeMeans t (after_backslash oniguruma here t)
  unfolding after_backslash
  escape_means [] = stopped here trailing_backslash nothing_after
  escape_means (c ∷ t) =
      if_meant (c == 0x78) _ _ (λ h. at_char c 0x78 (λ d. EscapeMeans (d ∷ t) (hex 2 here t)) h (hex_means two_digits t)) (λ h1.
      if_meant (c == 0x75) _ _ (λ h. at_char c 0x75 (λ d. EscapeMeans (d ∷ t) (hex 4 here t)) h (hex_means four_digits t)) (λ h2.
      if_meant (c == 0x55) _ _ (λ h. at_char c 0x55 (λ d. EscapeMeans (d ∷ t) (hex 8 here t)) h (hex_means eight_digits t)) (λ h3.
      if_meant (c == 0x70) _ _ (λ h. at_char c 0x70 (λ d. EscapeMeans (d ∷ t) (property false here t)) h (property_means false t)) (λ h4.
      if_meant (c == 0x50) _ _ (λ h. at_char c 0x50 (λ d. EscapeMeans (d ∷ t) (property true here t)) h (property_means true t)) (λ h5.
      if_meant (c == 0x62) _ _ (λ h. at_char c 0x62 (λ d. EscapeMeans (d ∷ t) (Ok (assertion_escape (boundary t).0, (boundary t).1))) h (is_read (boundary_of t))) (λ h6.
      if_meant (c == 0x6B) _ _ (λ h. at_char c 0x6B (λ d. EscapeMeans (d ∷ t) (bracketed_reference true here t >>= λ r. Ok (reference_escape r.0.0 r.0.1, r.1)))
      h (back_reference_means t _ (bracketed_means true here t))) (λ h7.
      if_meant (c == 0x67) _ _ (λ h. at_char c 0x67 (λ d. EscapeMeans (d ∷ t) (bracketed_reference false here t >>= λ r. Ok (call_escape r.0.0, r.1)))
      h (call_means t _ (bracketed_means false here t))) (λ h8.
      last_means c t (simp (h1, h2, h3, h4, h5, h6, h7, h8))))))))))

  -- the other way round

  hex_reached : {c n : ℕ} → IsHexLetter c n → (t : Text) → after_backslash oniguruma here (c ∷ t) ≡ hex n here t
  unfolding after_backslash
  hex_reached two_digits t = refl
  hex_reached four_digits t = refl
  hex_reached eight_digits t = refl

  front_reached : {c n : ℕ} {t digits rest : Text} → IsHexLetter c n → IsRunOfLength is_hexadecimal n t digits rest →
      after_backslash oniguruma here (c ∷ t) ≡ after_digits n (value 16 digits, rest)
  unfolding hex plain_hex
  front_reached {c} {n} {t} {digits} {rest} l f =
      hex_reached l t ∙ ap (λ o. elim o [ Some inside ↦ braced_hex here inside | None ↦ plain_hex n here t ]) (no_brace l f)
      ∙ ap (λ o. elim o [ None ↦ fail_at invalid_hex here | Some found ↦ after_digits n found ]) (plain_read f)
    where
      no_brace : {d m : ℕ} → IsHexLetter d m → IsRunOfLength is_hexadecimal m t digits rest → strip_prefix (codes "{") t ≡ None
      no_brace two_digits f = brace_lacks f
      no_brace four_digits f = brace_lacks f
      no_brace eight_digits f = brace_lacks f

  braced_reached : {c n code : ℕ} {t rest : Text} → IsHexLetter c n → IsBracedHex t code rest →
      after_backslash oniguruma here (c ∷ 0x7B ∷ t) ≡ code_point here code rest
  unfolding hex braced_hex strip_prefix
  braced_reached {t = t} l (escapes.braced_hex {digits = digits} {rest} b f x y) =
      hex_reached l (0x7B ∷ t)
      ∙ ap (λ o. elim o [
        | None ↦ fail_at invalid_hex here
        | Some found ↦ elim (braced_digits found.0) [ None ↦ fail_at invalid_hex here | Some code ↦ code_point here code found.1 ]
      ]) (before_read b)
      ∙ ap (λ o. elim o [ None ↦ fail_at invalid_hex here | Some code ↦ code_point here code rest ]) (braced_read f x y)

  point_read : {code : ℕ} {rest : Text} → IsCodePoint code → code_point here code rest ≡ Ok (char_escape code, rest)
  unfolding code_point
  point_read {code} {rest} p = ap (λ b. if b then Ok (char_escape code, rest) else fail_at invalid_codepoint_value here) (code_point_test p)

  no_point : {code : ℕ} (rest : Text) → (IsCodePoint code → ⊥) → code_point here code rest ≡ Err (at invalid_codepoint_value here)
  unfolding code_point
  no_point {code} rest n =
      ap (λ b. if b then Ok (char_escape code, rest) else fail_at invalid_codepoint_value here)
      (false_from_ne_true (is_character code) (λ h. n (code_point_of code h)))

  point_of_two : {t digits rest : Text} → IsRunOfLength is_hexadecimal 2 t digits rest → IsCodePoint (value 16 digits)
  point_of_two (and_one {c = a} h (and_one {c = b} k none)) =
      let x = ltb-true (digit_value a) 16 h in
      let y = ltb-true (digit_value b) 16 k in
      below_surrogates (small (digit_value a) (digit_value b) x y)
    where
      small : (x y : ℕ) → x < 16 → y < 16 → (0 * 16 + x) * 16 + y < 0xD800
      small x y h k = omega arith

  ascii_point : {code : ℕ} → code ≤ 0x7F → IsCodePoint code
  ascii_point h = below_surrogates (omega (arith, h))

  -- the code of digits, where it is a character
  char_read : {c n : ℕ} {t digits rest : Text} → IsHexLetter c n → n ≢ 2 → IsRunOfLength is_hexadecimal n t digits rest → IsCodePoint (value 16 digits) →
      after_backslash oniguruma here (c ∷ t) ≡ Ok (char_escape (value 16 digits), rest)
  char_read two_digits k f p = absurd (k refl)
  char_read four_digits k f p = front_reached four_digits f ∙ point_read p
  char_read eight_digits k f p = front_reached eight_digits f ∙ point_read p

  one_read : (negated : Bool) (c : ℕ) (t : Text) → c ≢ 0x7B →
      property negated here (c ∷ t) ≡ Ok (class_escape (0x5C ∷ property_letter negated ∷ c ∷ []), t)
  unfolding property
  one_read negated c t n =
      ap (λ b. cond (not b) (Ok (class_escape (0x5C ∷ property_letter negated ∷ c ∷ []), t))
      (elim (split_once 0x7D t) [ None ↦ fail_at unclosed_unicode_name here | Some found ↦ property_in_braces negated found ])) (ne_eqb c 0x7B n)

  in_braces_read : (negated : Bool) {t name rest : Text} → IsTextUntil 0x7D t name rest →
      property negated here (0x7B ∷ t) ≡ property_in_braces negated (name, rest)
  unfolding property
  in_braces_read negated b = ap (λ o. elim o [ None ↦ fail_at unclosed_unicode_name here | Some found ↦ property_in_braces negated found ]) (before_read b)

  name_read : (negated : Bool) {c : ℕ} {t name rest : Text} → IsTextUntil 0x7D t (c ∷ name) rest → c ≢ 0x5E →
      property negated here (0x7B ∷ t) ≡ Ok (class_escape (named_class negated (c ∷ name)), rest)
  unfolding property_class
  name_read negated {c} {t} {name} {rest} b n =
      in_braces_read negated b
      ∙ ap (λ s. elim (cond (not s) (Some (named_class negated (c ∷ name))) (cond (is_empty name) None (Some (named_class (not negated) name)))) [
        | None ↦ fail_at unclosed_unicode_name here
        | Some k ↦ Ok (class_escape k, rest)
      ]) (ne_eqb c 0x5E n)

  turned_read : (negated : Bool) {c : ℕ} {t name rest : Text} → IsTextUntil 0x7D t (0x5E ∷ c ∷ name) rest →
      property negated here (0x7B ∷ t) ≡ Ok (class_escape (named_class (not negated) (c ∷ name)), rest)
  unfolding property_class
  turned_read negated b = in_braces_read negated b

  plain_boundary : (t : Text) → ((name rest : Text) (place : AssertionEscape) → IsBoundaryName name place → t ≢ name ++ rest) → boundary t ≡ (places.WordBoundary, t)
  unfolding boundary half_boundary
  plain_boundary t n =
      rw (
        boundary,
        half_boundary,
        word_lacks (codes "{start}") t (λ rest. n _ rest _ start),
        word_lacks (codes "{end}") t (λ rest. n _ rest _ end),
        word_lacks (codes "{start-half}") t (λ rest. n _ rest _ start_half),
        word_lacks (codes "{end-half}") t (λ rest. n _ rest _ end_half),
      ) refl

  boundary_read : {name : Text} {place : AssertionEscape} → IsBoundaryName name place → (rest : Text) →
      after_backslash oniguruma here (0x62 ∷ name ++ rest) ≡ Ok (assertion_escape place, rest)
  unfolding after_backslash boundary half_boundary strip_prefix
  boundary_read start rest = refl
  boundary_read end rest = refl
  boundary_read start_half rest = refl
  boundary_read end_half rest = refl

  letters_apart : (c : ℕ) (t : Text) → c ∈ "xuUpPbkg" ≡ false →
      after_backslash oniguruma here (c ∷ t) ≡ (elim (numbered_reference (c ∷ t)) [ None ↦ single oniguruma here c t | Some found ↦ Ok found ])
  unfolding after_backslash
  letters_apart c t n =
      let (h0, n0) = or_parts (c == 0x78) (c ∈ "uUpPbkg") n in
      let (h1, n1) = or_parts (c == 0x75) (c ∈ "UpPbkg") n0 in
      let (h2, n2) = or_parts (c == 0x55) (c ∈ "pPbkg") n1 in
      let (h3, n3) = or_parts (c == 0x70) (c ∈ "Pbkg") n2 in
      let (h4, n4) = or_parts (c == 0x50) (c ∈ "bkg") n3 in
      let (h5, n5) = or_parts (c == 0x62) (c ∈ "kg") n4 in
      let (h6, h7) = or_parts (c == 0x6B) (c ∈ "g") n5 in
      rw (after_backslash, h0, h1, h2, h3, h4, h5, h6, h7) refl

  no_number : (c : ℕ) (t : Text) → is_decimal c ≡ false → numbered_reference (c ∷ t) ≡ None
  unfolding numbered_reference
  no_number c t d =
      ap (λ (r : Option ℕ × Text). elim r.0 as (λ _. Option (Escape × Text)) [ None ↦ None | Some n ↦ Some (reference_escape (by_number n) None, r.1) ])
      (digits_read (no_digits (at_other d)))

  alone_reached : {c : ℕ} → IsAlone c → (t : Text) → after_backslash oniguruma here (c ∷ t) ≡ single oniguruma here c t
  alone_reached {c} a t =
      letters_apart c t a.letter ∙ ap (λ o. elim o [ None ↦ single oniguruma here c t | Some found ↦ Ok found ]) (no_number c t a.digit)

  number_read : {t front rest : Text} {n : ℕ} → IsRun is_decimal t front rest → IsNumber front n →
      after_backslash oniguruma here t ≡ Ok (reference_escape (by_number n) None, rest)
  unfolding numbered_reference
  number_read (at_end) m = absurd (empty_number m)
    where
      empty_number : {n : ℕ} → IsNumber [] n → ⊥
      empty_number (a_number d) = elim d [ ]
  number_read (at_other h) m = absurd (empty_number m)
    where
      empty_number : {n : ℕ} → IsNumber [] n → ⊥
      empty_number (a_number d) = elim d [ ]
  number_read {rest = rest} {n} (one_more {c} {t} h r) m =
      let apart : (d : ℕ) → is_decimal d ≡ false → (c == d) ≡ false = λ d e. other_than_these is_decimal c d e h in
      letters_apart c t (simp (apart 0x78 refl, apart 0x75 refl, apart 0x55 refl, apart 0x70 refl, apart 0x50 refl, apart 0x62 refl, apart 0x6B refl, apart 0x67 refl))
      ∙ ap (λ (x : Option ℕ × Text). elim (elim x.0 as (λ _. Option (Escape × Text)) [ None ↦ None | Some k ↦ Some (reference_escape (by_number k) None, x.1) ])
      [ None ↦ single oniguruma here c t | Some found ↦ Ok found ]) (digits_read (some_digits (one_more h r) m))

  pub escape_read : {t rest : Text} {e : Escape} → IsEscape oniguruma t e rest → after_backslash oniguruma here t ≡ Ok (e, rest)
  unfolding after_backslash single
  escape_read (a_sign {c} {t} s) = alone_reached (sign_alone s) t ∙ ap (λ o. elim o [ None ↦ fail_at (invalid_escape (0x5C ∷ c ∷ [])) here | Some e ↦ Ok (e, t) ]) (sign_read s)
  escape_read (a_byte {digits = digits} {rest} f k) =
      front_reached two_digits f
      ∙ ap (λ b. if b then Ok (byte_escape (value 16 digits), rest) else code_point here (value 16 digits) rest) (lt-ltb 0x7F (value 16 digits) k)
  escape_read (ascii {digits = digits} {rest} f k) =
      front_reached two_digits f
      ∙ ap (λ b. if b then Ok (byte_escape (value 16 digits), rest) else code_point here (value 16 digits) rest) (le-ltb 0x7F (value 16 digits) k)
      ∙ point_read (ascii_point k)
  escape_read (four_or_eight l k f p) = char_read l k f p
  escape_read (code_in_braces l b p) = braced_reached l b ∙ point_read p
  escape_read (property_of_one_letter {c = c} {t} has n) = one_read false c t n
  escape_read (property_of_one_letter {c = c} {t} has_not n) = one_read true c t n
  escape_read (escapes.property has b n) = name_read false b n
  escape_read (escapes.property has_not b n) = name_read true b n
  escape_read (negated_property has b) = turned_read false b
  escape_read (negated_property has_not b) = turned_read true b
  escape_read (named_boundary {rest = rest} b) = boundary_read b rest
  escape_read (word_boundary {t} n) = ap (λ (x : AssertionEscape × Text). Ok (assertion_escape x.0, x.1)) (plain_boundary t n)
  escape_read (escapes.numbered_reference r m) = number_read r m
  escape_read (back_reference b) = ap (λ r. r >>= λ (x : Referred × Text). Ok (reference_escape x.0.0 x.0.1, x.1)) (bracketed_read true here b)
  escape_read (call b) = ap (λ r. r >>= λ (x : Referred × Text). Ok (call_escape x.0.0, x.1)) (bracketed_read false here b)

  -- the faults

  abbrev is_hex_fault : ParseOutcome (Escape × Text) → Type 0
  is_hex_fault r = r ≡ Err (at invalid_hex here)

  no_hex : {c n : ℕ} (t : Text) → IsHexLetter c n → ((code : ℕ) (rest : Text) → IsHex n t code rest → ⊥) → hex n here t ≡ Err (at invalid_hex here)
  unfolding hex braced_hex plain_hex
  no_hex {n = n} t l lacks =
      word_case is_hex_fault (codes "{") t (plain_hex n here t) (λ inside. braced_hex here inside)
      (λ inside is. before_case is_hex_fault 0x7D inside (fail_at invalid_hex here)
      (λ found. elim (braced_digits found.0) [ None ↦ fail_at invalid_hex here | Some code ↦ code_point here code found.1 ])
      (λ found b. by_braced inside is found b (braced_digits found.0) (braced_of found.0)) (λ none. refl))
      (λ no_brace. by_plain (plain_digits n t) (plain_of n t))
    where
      by_braced : (inside : Text) → t ≡ 0x7B ∷ inside → (found : Text × Text) → IsTextUntil 0x7D inside found.0 found.1 → (o : Option ℕ) →
          Found (λ code. (m : ℕ) × IsRunOfLength is_hexadecimal m found.0 found.0 [] × (1 ≤ m) × (m ≤ 8) × (code ≡ value 16 found.0))
          ((m : ℕ) → IsRunOfLength is_hexadecimal m found.0 found.0 [] → 1 ≤ m → m ≤ 8 → ⊥) o →
          is_hex_fault (elim o [ None ↦ fail_at invalid_hex here | Some code ↦ code_point here code found.1 ])
      by_braced inside is found b (Some code) (is_found (m, f, x, y, e)) =
          absurd (lacks (value 16 found.0) found.1 (subst (λ u. IsHex n u (value 16 found.0) found.1) (sym is) (in_braces (escapes.braced_hex b f x y))))
      by_braced inside is found b None (is_none k) = refl

      by_plain : (o : Option (ℕ × Text)) →
          Found (λ (found : ℕ × Text). (digits : Text) × IsRunOfLength is_hexadecimal n t digits found.1 × (found.0 ≡ value 16 digits)) (NoPlainHex n t) o →
          is_hex_fault (elim o [ None ↦ fail_at invalid_hex here | Some found ↦ after_digits n found ])
      by_plain (Some found) (is_found (digits, f, e)) = absurd (lacks (value 16 digits) found.1 (plain f))
      by_plain None (is_none k) = refl

  no_character_read : {c n code : ℕ} {t rest : Text} → IsHexLetter c n → IsHex n t code rest → (IsCodePoint code → ⊥) →
      after_backslash oniguruma here (c ∷ t) ≡ Err (at invalid_codepoint_value here)
  no_character_read l (in_braces {rest = rest} b) n = braced_reached l b ∙ no_point rest n
  no_character_read two_digits (plain {rest = rest} f) n = absurd (n (point_of_two f))
  no_character_read four_digits (plain {rest = rest} f) n = front_reached four_digits f ∙ no_point rest n
  no_character_read eight_digits (plain {rest = rest} f) n = front_reached eight_digits f ∙ no_point rest n

  abbrev is_name_fault : ParseOutcome (Escape × Text) → Type 0
  is_name_fault r = r ≡ Err (at unclosed_unicode_name here)

  at_end_read : {p other : ℕ} → IsPropertyLetter p other → is_name_fault (after_backslash oniguruma here (p ∷ []))
  unfolding after_backslash property
  at_end_read has = refl
  at_end_read has_not = refl

  without_brace : (negated : Bool) {t : Text} → ((name rest : Text) → IsTextUntil 0x7D t name rest → ⊥) → is_name_fault (property negated here (0x7B ∷ t))
  unfolding property
  without_brace negated {t} n =
      ap (λ o. elim o [ None ↦ fail_at unclosed_unicode_name here | Some found ↦ property_in_braces negated found ]) (before_lacks 0x7D t n)

  without_name : (negated : Bool) {t rest : Text} → IsTextUntil 0x7D t [] rest → is_name_fault (property negated here (0x7B ∷ t))
  unfolding property_class
  without_name negated b = in_braces_read negated b

  without_turned : (negated : Bool) {t rest : Text} → IsTextUntil 0x7D t (0x5E ∷ []) rest → is_name_fault (property negated here (0x7B ∷ t))
  unfolding property_class
  without_turned negated b = in_braces_read negated b

  letters_are_no_digits : agree_below is_ascii_alphabetic (λ c. false) 58 ≡ true
  letters_are_no_digits = refl

  letter_is_no_digit : (c : ℕ) → is_ascii_alphabetic c ≡ true → is_decimal c ≡ false
  letter_is_no_digit c h =
      false_from_ne_true (is_decimal c) (λ d.
      true≢false (sym h ∙ agree_below_at is_ascii_alphabetic (λ x. false) 58 c letters_are_no_digits (small_digit c d)))

  no_sign : {c : ℕ} → is_ascii_alphabetic c ≡ true → ((e : Escape) → IsCharacterEscape oniguruma c e → ⊥) → one_letter oniguruma c ≡ None
  no_sign {c} h n = by_sign (one_letter oniguruma c) (sign_of oniguruma c (letter_is_no_digit c h))
    where
      by_sign : (o : Option Escape) → Found (IsCharacterEscape oniguruma c) (is_ascii_alphabetic c ≡ true) o → o ≡ None
      by_sign (Some e) (is_found s) = absurd (n e s)
      by_sign None (is_none l) = refl

  pub escape_stops : {t : Text} {kind : Kind} → EscapeFails oniguruma t kind → after_backslash oniguruma here t ≡ Err (at kind here)
  unfolding after_backslash single
  escape_stops nothing_after = refl
  escape_stops (no_escape {c} {t} l n lacks) =
      alone_reached (record { letter = n; digit = letter_is_no_digit c l }) t
      ∙ ap (λ o. elim o [ None ↦ fail_at (invalid_escape (0x5C ∷ c ∷ [])) here | Some e ↦ Ok (e, t) ]) (no_sign l lacks)
  escape_stops (no_code {t = t} l lacks) = hex_reached l t ∙ no_hex t l lacks
  escape_stops (no_character l h n) = no_character_read l h n
  escape_stops (property_at_end l) = at_end_read l
  escape_stops (property_without_brace has n) = without_brace false n
  escape_stops (property_without_brace has_not n) = without_brace true n
  escape_stops (property_without_name has b) = without_name false b
  escape_stops (property_without_name has_not b) = without_name true b
  escape_stops (negated_property_without_name has b) = without_turned false b
  escape_stops (negated_property_without_name has_not b) = without_turned true b
  escape_stops (no_reference {t} n) = ap (λ r. r >>= λ (x : Referred × Text). Ok (reference_escape x.0.0 x.0.1, x.1)) (none_bracketed true here t n)
  escape_stops (no_call {t} n) = ap (λ r. r >>= λ (x : Referred × Text). Ok (call_escape x.0.0, x.1)) (none_bracketed false here t n)

pub escapes_are_exact : EscapesAreExact
unfolding escape
escapes_are_exact oniguruma t =
    reads_exactly (after_backslash oniguruma (0x5C ∷ t) t) (escape_means oniguruma (0x5C ∷ t) t) (λ r h. escape_read oniguruma (0x5C ∷ t) h)
    (λ e s. escape_stops oniguruma (0x5C ∷ t) s.kind ∙ ap Err (sym (same_fault e e.kind (0x5C ∷ t) refl s.place)))
