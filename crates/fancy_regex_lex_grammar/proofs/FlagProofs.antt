-- Flags, as the function reads them.
use Rattle.std.proofs.Common.{◌≡◌, ◌≢◌, ℕ, Bool, true, false, cond, ◌==◌, Ok, Err, [], ◌∷◌, ◌++◌, refl, sym, ap, ◌∙◌, subst, true≢false, append_assoc}
use Rattle.std.proofs.lemmas.Bool.{or_parts}
use Rattle.fancy_regex_text.specs.Text.{Text, ◌∈◌, prefix_before}
use Rattle.fancy_regex_text.specs.ParseFault.{Kind, ParseFault, ParseOutcome, ◌>>=◌, fail_at, unknown_flag, changing_unicode_mode_unsupported}
use Rattle.fancy_regex_lex.specs.FlagLetters.{same, flag_letter, flag_letters}
use Rattle.fancy_regex_lex.specs.declared.token.Flags.{Flags}
use Rattle.fancy_regex_text.proofs.SpanLemmas.{up_to_front}
use Rattle.fancy_regex_lex_grammar.specs.Exact.{FailsAt, at}
use Rattle.fancy_regex_lex_grammar.specs.Flags.{IsFlag, case_insensitive, multi_line, dot_matches_newline, ignore_whitespace, swap_greed, carriage_returns, unicode_again, clear_from_here, IsFlags, before_body, alone, and_flag, FlagFails, unknown, second_minus, unicode_changed, FlagsFail, text_ends, at_letter, at_later_letter, FlagsAreExact}
use Rattle.fancy_regex_lex_grammar.proofs.ReadingLemmas.{Meant, is_read, is_stopped, if_meant, at_char, reads_exactly}

both_same : (a b : Bool) → same a b ≡ true → a ≡ b
both_same true true h = refl
both_same true false h = sym h
both_same false true h = h
both_same false false h = refl

not_same : (a b : Bool) → same a b ≡ false → a ≢ b
not_same true true h e = true≢false h
not_same true false h e = true≢false e
not_same false true h e = true≢false (sym e)
not_same false false h e = true≢false h

same_both : (a b : Bool) → a ≡ b → same a b ≡ true
same_both true b e = sym e
same_both false true e = e
same_both false false e = refl

same_not : (a b : Bool) → a ≢ b → same a b ≡ false
same_not true true n = absurd (n refl)
same_not true false n = refl
same_not false true n = refl
same_not false false n = absurd (n refl)

-- what stands before the rest of a text
parted : (here front : Text) (c : ℕ) (t : Text) → here ≡ front ++ c ∷ t → here ≡ prefix_before here t ++ t
parted here front c t is =
    let whole : here ≡ (front ++ c ∷ []) ++ t = is ∙ sym (append_assoc front (c ∷ []) t) in
    whole ∙ ap (λ x. x ++ t) (sym (up_to_front (front ++ c ∷ []) t) ∙ ap (λ x. prefix_before x t) (sym whole))

-- all but the end of the flags, one after another
none_of : (c : ℕ) → c ∈ ":" ≡ false → c ∈ ")" ≡ false → c ∈ "i" ≡ false → c ∈ "m" ≡ false → c ∈ "s" ≡ false → c ∈ "x" ≡ false →
    c ∈ "U" ≡ false → c ∈ "R" ≡ false → c ∈ "u" ≡ false → c ∈ "-" ≡ false → c ∈ "imsxURu-:)" ≡ false
none_of c h0 h1 h2 h3 h4 h5 h6 h7 h8 h9 = simp (h0, h1, h2, h3, h4, h5, h6, h7, h8, h9)

module _ (unicode : Bool) (here : Text) where
  -- what a letter means
  abbrev LetterMeans : Bool → Flags → ℕ → Text → ParseOutcome (Flags × Bool) → Type 0
  LetterMeans on f c t = Meant (λ (r : Flags × Bool). IsFlag unicode on f c r.0 r.1) (FailsAt (FlagFails unicode here on c t) here)

  no_flag : (on : Bool) (f : Flags) (c : ℕ) (front t : Text) → here ≡ front ++ c ∷ t → c ∈ "imsxURu-:)" ≡ false →
      LetterMeans on f c t (fail_at (unknown_flag (prefix_before here t)) here)
  no_flag on f c front t is n = is_stopped (record { kind = unknown n (parted here front c t is); place = refl })

  minus_means : (on : Bool) (f : Flags) (front t : Text) → here ≡ front ++ 0x2D ∷ t →
      LetterMeans on f 0x2D t (cond on (Ok (f, false)) (fail_at (unknown_flag (prefix_before here t)) here))
  minus_means true f front t is = is_read clear_from_here
  minus_means false f front t is = is_stopped (record { kind = second_minus (parted here front 0x2D t is); place = refl })

  unicode_means : (on : Bool) (f : Flags) (t : Text) →
      LetterMeans on f 0x75 t (cond (same on unicode) (Ok (f, on)) (fail_at changing_unicode_mode_unsupported here))
  unicode_means on f t =
      if_meant (same on unicode) _ _ (λ h. is_read (unicode_again (both_same on unicode h)))
      (λ h. is_stopped (record { kind = unicode_changed (not_same on unicode h); place = refl }))

  letter_means : (on : Bool) (f : Flags) (c : ℕ) (front t : Text) → here ≡ front ++ c ∷ t → c ∈ ":" ≡ false → c ∈ ")" ≡ false →
      LetterMeans on f c t (flag_letter unicode here on f c t)
  unfolding flag_letter
  letter_means on f c front t is h0 h1 =
      let Is : (ℕ → Flags → Bool → Type 0) = IsFlag unicode on f in
      if_meant (c == 0x69) _ _ (λ h. is_read (at_char c 0x69 (λ d. IsFlag unicode on f d (record f { casei = on }) on) h case_insensitive)) (λ h2.
      if_meant (c == 0x6D) _ _ (λ h. is_read (at_char c 0x6D (λ d. IsFlag unicode on f d (record f { multi = on }) on) h multi_line)) (λ h3.
      if_meant (c == 0x73) _ _ (λ h. is_read (at_char c 0x73 (λ d. IsFlag unicode on f d (record f { dot_newline = on }) on) h dot_matches_newline)) (λ h4.
      if_meant (c == 0x78) _ _ (λ h. is_read (at_char c 0x78 (λ d. IsFlag unicode on f d (record f { verbose = on }) on) h ignore_whitespace)) (λ h5.
      if_meant (c == 0x55) _ _ (λ h. is_read (at_char c 0x55 (λ d. IsFlag unicode on f d (record f { swap_greed = on }) on) h swap_greed)) (λ h6.
      if_meant (c == 0x52) _ _ (λ h. is_read (at_char c 0x52 (λ d. IsFlag unicode on f d (record f { crlf = on }) on) h carriage_returns)) (λ h7.
      if_meant (c == 0x75) _ _ (λ h. at_char c 0x75 (λ d. LetterMeans on f d t (cond (same on unicode) (Ok (f, on)) (fail_at changing_unicode_mode_unsupported here)))
      h (unicode_means on f t)) (λ h8.
      if_meant (c == 0x2D) _ _ (λ h. at_char c 0x2D (λ d. here ≡ front ++ d ∷ t → LetterMeans on f d t (cond on (Ok (f, false)) (fail_at (unknown_flag (prefix_before here t)) here)))
      h (minus_means on f front t) is)
      (λ h9. no_flag on f c front t is (none_of c h0 h1 h2 h3 h4 h5 h6 h7 h8 h9)))))))))

  abbrev FlagsMean : Bool → Flags → Text → ParseOutcome (Flags × Bool × Text) → Type 0
  FlagsMean on f t = Meant (λ (r : Flags × Bool × Text). IsFlags unicode on f t r.0 r.1 r.2) (FlagsFail unicode here on f t)

  -- one letter, and the flags after it
  letter_then : (on : Bool) (f : Flags) (c : ℕ) (t : Text) (r : ParseOutcome (Flags × Bool)) → LetterMeans on f c t r →
      ((next : Bool) (g : Flags) → FlagsMean next g t (flag_letters unicode here next g t)) →
      FlagsMean on f (c ∷ t) (r >>= λ x. flag_letters unicode here x.1 x.0 t)
  letter_then on f c t (Ok x) (is_read flag) more = by_rest (flag_letters unicode here x.1 x.0 t) (more x.1 x.0)
    where
      by_rest : (r : ParseOutcome (Flags × Bool × Text)) → FlagsMean x.1 x.0 t r → FlagsMean on f (c ∷ t) r
      by_rest (Ok y) (is_read flags) = is_read (and_flag flag flags)
      by_rest (Err e) (is_stopped s) = is_stopped (at_later_letter flag s)
  letter_then on f c t (Err e) (is_stopped s) more =
      is_stopped (subst (FlagsFail unicode here on f (c ∷ t)) (ap (λ n. record { kind = e.kind; left = n }) (sym s.place)) (at_letter s.kind))

  flags_mean : (on : Bool) (f : Flags) (front t : Text) → here ≡ front ++ t → FlagsMean on f t (flag_letters unicode here on f t)
  unfolding flag_letters
  flags_mean on f front [] is = is_stopped text_ends
  flags_mean on f front (c ∷ t) is =
      if_meant (c == 0x3A) _ _ (λ h. is_read (at_char c 0x3A (λ d. IsFlags unicode on f (d ∷ t) f true t) h before_body)) (λ h0.
      if_meant (c == 0x29) _ _ (λ h. is_read (at_char c 0x29 (λ d. IsFlags unicode on f (d ∷ t) f false t) h alone)) (λ h1.
      letter_then on f c t (flag_letter unicode here on f c t) (letter_means on f c front t is h0 h1)
      (λ next g. flags_mean next g (front ++ c ∷ []) t (is ∙ sym (append_assoc front (c ∷ []) t)))))

  -- the other way round

  flag_read : {on next : Bool} {f g : Flags} {c : ℕ} → IsFlag unicode on f c g next → (t : Text) → flag_letter unicode here on f c t ≡ Ok (g, next)
  unfolding flag_letter
  flag_read case_insensitive t = refl
  flag_read multi_line t = refl
  flag_read dot_matches_newline t = refl
  flag_read ignore_whitespace t = refl
  flag_read swap_greed t = refl
  flag_read carriage_returns t = refl
  flag_read (unicode_again {on} {f} e) t = ap (λ b. cond b (Ok (f, on)) (fail_at changing_unicode_mode_unsupported here)) (same_both on unicode e)
  flag_read clear_from_here t = refl

  no_end : {on next : Bool} {f g : Flags} {c : ℕ} → IsFlag unicode on f c g next → (c ∈ ":" ≡ false) × (c ∈ ")" ≡ false)
  no_end case_insensitive = (refl, refl)
  no_end multi_line = (refl, refl)
  no_end dot_matches_newline = (refl, refl)
  no_end ignore_whitespace = (refl, refl)
  no_end swap_greed = (refl, refl)
  no_end carriage_returns = (refl, refl)
  no_end (unicode_again e) = (refl, refl)
  no_end clear_from_here = (refl, refl)

  goes_on : (on : Bool) (f : Flags) (c : ℕ) (t : Text) → c ∈ ":" ≡ false → c ∈ ")" ≡ false →
      flag_letters unicode here on f (c ∷ t) ≡ (flag_letter unicode here on f c t >>= λ x. flag_letters unicode here x.1 x.0 t)
  unfolding flag_letters
  goes_on on f c t h k = rw (flag_letters, h, k) refl

  past_flag : {on next : Bool} {f g : Flags} {c : ℕ} → IsFlag unicode on f c g next → (t : Text) →
      flag_letters unicode here on f (c ∷ t) ≡ flag_letters unicode here next g t
  past_flag {on} {next} {f} {g} {c} flag t =
      goes_on on f c t (no_end flag).0 (no_end flag).1 ∙ ap (λ r. r >>= λ x. flag_letters unicode here x.1 x.0 t) (flag_read flag t)

  flags_read : {on body : Bool} {f g : Flags} {t rest : Text} → IsFlags unicode on f t g body rest →
      flag_letters unicode here on f t ≡ Ok (g, body, rest)
  unfolding flag_letters
  flags_read before_body = refl
  flags_read alone = refl
  flags_read (and_flag {t = t} flag flags) = past_flag flag t ∙ flags_read flags

  up_to_here : (front t : Text) → here ≡ front ++ t → prefix_before here t ≡ front
  up_to_here front t is = ap (λ x. prefix_before x t) is ∙ up_to_front front t

  -- the flags after a letter
  abbrev flags_after : ParseOutcome (Flags × Bool) → Text → ParseOutcome (Flags × Bool × Text)
  flags_after r t = r >>= λ x. flag_letters unicode here x.1 x.0 t

  not_a_flag : (on : Bool) (f : Flags) (c : ℕ) (t : Text) → c ∈ "imsxURu-:)" ≡ false →
      flag_letters unicode here on f (c ∷ t) ≡ Err (at (unknown_flag (prefix_before here t)) here)
  unfolding flag_letters flag_letter
  not_a_flag on f c t n =
      let (h0, n0) = or_parts (c == 0x69) (c ∈ "msxURu-:)") n in
      let (h1, n1) = or_parts (c == 0x6D) (c ∈ "sxURu-:)") n0 in
      let (h2, n2) = or_parts (c == 0x73) (c ∈ "xURu-:)") n1 in
      let (h3, n3) = or_parts (c == 0x78) (c ∈ "URu-:)") n2 in
      let (h4, n4) = or_parts (c == 0x55) (c ∈ "Ru-:)") n3 in
      let (h5, n5) = or_parts (c == 0x52) (c ∈ "u-:)") n4 in
      let (h6, n6) = or_parts (c == 0x75) (c ∈ "-:)") n5 in
      let (h7, n7) = or_parts (c == 0x2D) (c ∈ ":)") n6 in
      let (h8, h9) = or_parts (c == 0x3A) (c ∈ ")") n7 in
      rw (flag_letters, flag_letter, h8, h9, h0, h1, h2, h3, h4, h5, h6, h7) refl

  letter_stops : {on : Bool} {c : ℕ} {t : Text} {kind : Kind} → FlagFails unicode here on c t kind → (f : Flags) →
      flag_letters unicode here on f (c ∷ t) ≡ Err (at kind here)
  unfolding flag_letters flag_letter
  letter_stops (unknown {on} {c} {t} {up_to_letter} n is) f =
      not_a_flag on f c t n ∙ ap (λ x. Err (at (unknown_flag x) here)) (up_to_here up_to_letter t is)
  letter_stops (second_minus {t} {up_to_letter} is) f = ap (λ x. Err (at (unknown_flag x) here)) (up_to_here up_to_letter t is)
  letter_stops (unicode_changed {on} {t} n) f =
      ap (λ b. flags_after (cond b (Ok (f, on)) (fail_at changing_unicode_mode_unsupported here)) t) (same_not on unicode n)

  flags_stop : {on : Bool} {f : Flags} {t : Text} {e : ParseFault} → FlagsFail unicode here on f t e → flag_letters unicode here on f t ≡ Err e
  unfolding flag_letters
  flags_stop text_ends = refl
  flags_stop (at_letter {f = f} s) = letter_stops s f
  flags_stop (at_later_letter {t = t} flag s) = past_flag flag t ∙ flags_stop s

pub flags_are_exact : FlagsAreExact
flags_are_exact unicode on f here front t is =
    reads_exactly (flag_letters unicode here on f t) (flags_mean unicode here on f front t is) (λ r h. flags_read unicode here h) (λ e s. flags_stop unicode here s)
