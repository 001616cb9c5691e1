-- Openings, as the function reads them.
use Rattle.std.proofs.Common.{◌≡◌, ◌≢◌, ℕ, ℤ, Bool, true, false, cond, ◌==◌, Option, Some, None, Ok, Err, [], ◌∷◌, ◌++◌, codes, option_map, refl, sym, ap, ◌∙◌, subst, true≢false, eqb-true, append-nil, if◌then◌else◌, ⊎_elim}
use Rattle.std.proofs.lemmas.Bool.{or_cases, or_parts, false_from_ne_true, eqb-false}
use Rattle.fancy_regex_text.specs.Text.{Text, ◌∈◌, strip_prefix, is_empty, is_decimal}
use Rattle.fancy_regex_text.specs.ParseFault.{ParseFault, ParseOutcome, ◌>>=◌, fail_at, invalid_group_name}
use Rattle.fancy_regex_text.specs.Names.{Named, by_number, Referred, digits, signed, reference, is_name, is_name_char}
use Rattle.fancy_regex_lex.specs.FlagLetters.{flag_letters}
use Rattle.fancy_regex_lex.specs.Escapes.{delimited_reference}
use Rattle.fancy_regex_lex.specs.Openings.{Opening, capturing, non_capturing, set_flags, atomic, look, if_set, if_matches, define, absent, absent_bar, whole_reference, whole_call, whole_verb, later_verb, control_verb, named, numbered, bracketed, reference_condition, tested, condition, after_angle, after_tilde, flags, python, after_question, opening}
use Rattle.fancy_regex_lex.specs.declared.token.Flags.{Flags}
use Rattle.fancy_regex_lex.specs.declared.token.Look.TheVariants.{Ahead, AheadNeg, Behind, BehindNeg}
use Rattle.fancy_regex_lex.specs.declared.token.Verb.{Verb}
use Rattle.fancy_regex_lex.specs.declared.token.Verb.TheVariants.{Fail, Accept, Commit, Skip, Prune}
use Rattle.fancy_regex_lex.proofs.Computing.{computing}
use Rattle.fancy_regex_lex_grammar.specs.Exact.{FindsExactly, at}
use Rattle.fancy_regex_lex_grammar.specs.Prefixes.{IsRun, at_other, IsTextUntil, here, later}
use Rattle.fancy_regex_lex_grammar.specs.Names.{IsDigits, last_digit, more_digits, IsNumber, a_number, IsSigned, forward, backward, IsLeadingNumber, some_digits, IsName, last_of_name, more_of_name, IsReference}
use Rattle.fancy_regex_lex_grammar.specs.Flags.{IsFlag, case_insensitive, multi_line, dot_matches_newline, ignore_whitespace, swap_greed, carriage_returns, unicode_again, clear_from_here, IsFlags, before_body, alone, and_flag}
use Rattle.fancy_regex_lex_grammar.specs.Openings as openings
use Rattle.fancy_regex_lex_grammar.specs.Openings.{IsVerb, fail, accept, commit, skip, prune, IsReferenceCondition, digits_with_level, in_angles, in_quotes, IsClosedCondition, BeginsNonFlagConstruct, other_sign, python_sign, IsClosedName, IsOpening, a_group, a_named_group, a_python_named_group, flags_for_body, flags_alone, an_atomic_group, look_ahead, no_look_ahead, look_behind, no_look_behind, definitions, expression_condition, absent_bounds, absent_repeater, a_reference, a_call, a_verb, OpeningFails, no_name, no_python_name, no_reference, no_call, in_flags, OpeningsAreExact}
use Rattle.fancy_regex_lex_grammar.proofs.ReadingLemmas.{at_char, Meant, is_read, is_stopped, if_meant, bind_meant, Found, is_found, is_none, if_found, map_found, found_has, finds_exactly, reads_exactly}
use Rattle.fancy_regex_lex_grammar.proofs.PrefixProofs.{run_parts, word_of, word_case, word_lacks, before_case, before_read, before_one}
use Rattle.fancy_regex_lex_grammar.proofs.NameProofs.{name_character_test, digits_of, digits_read, counted_digits, digits_run, name_sound, name_complete, signed_sound, signed_complete, reference_is_exact}
use Rattle.fancy_regex_lex_grammar.proofs.CharacterEscapeProofs.{other_than_these}
use Rattle.fancy_regex_lex_grammar.proofs.FlagProofs.{flags_are_exact}
use Rattle.fancy_regex_lex_grammar.proofs.EscapeProofs.{same_fault, ClosedMeans, closed_means, closed_read, none_closed}

-- conditions that are references

condition_found : (close : ℕ) (t : Text) →
    Found (λ (r : Referred). (text : Text) × IsTextUntil close t text [] × IsReference true text r.0 r.1) (Unit {0}) (bracketed close t)
unfolding bracketed
condition_found close t =
    before_case (Found (λ (r : Referred). (text : Text) × IsTextUntil close t text [] × IsReference true text r.0 r.1) (Unit {0})) close t None
    (λ found. if is_empty found.1 then reference true found.0 else None)
    (λ found b. by_end found.0 found.1 b) (λ lacks. is_none tt)
  where
    by_reference : (text : Text) → IsTextUntil close t text [] → (o : Option Referred) → reference true text ≡ o →
        Found (λ (r : Referred). (u : Text) × IsTextUntil close t u [] × IsReference true u r.0 r.1) (Unit {0}) o
    by_reference text b (Some r) e = is_found (text, b, (reference_is_exact true text).sound r e)
    by_reference text b None e = is_none tt

    by_end : (text rest : Text) → IsTextUntil close t text rest →
        Found (λ (r : Referred). (u : Text) × IsTextUntil close t u [] × IsReference true u r.0 r.1) (Unit {0})
        (if is_empty rest then reference true text else None)
    by_end text [] b = by_reference text b (reference true text) refl
    by_end text (c ∷ rest) b = is_none tt

bracketed_read : {close : ℕ} {t text : Text} {target : Named} {level : Option ℤ} → IsTextUntil close t text [] → IsReference true text target level →
    bracketed close t ≡ Some (target, level)
unfolding bracketed
bracketed_read {text = text} {target} {level} b r =
    ap (λ o. elim o as (λ _. Option Referred) [ None ↦ None | Some found ↦ if is_empty found.1 then reference true found.0 else None ]) (before_read b)
    ∙ (reference_is_exact true text).complete (target, level) r

abbrev ConditionFound : Text → Option Referred → Type 0
ConditionFound t = Found (λ (r : Referred). IsReferenceCondition t r.0 r.1) (Unit {0})

numbered_found : (t : Text) → ConditionFound t (numbered t)
unfolding numbered
numbered_found t = by_count (digits t).0 (digits t).1 (digits_of t)
  where
    by_level : (n : ℕ) (front rest : Text) → IsRun is_decimal t front rest → IsNumber front n →
        ConditionFound t (if is_empty rest then Some (by_number n, None) else option_map (λ level. (by_number n, Some level)) (signed rest))
    by_level n front [] r m =
        is_found (openings.digits (subst (λ u. IsNumber u n) (sym (run_parts r ∙ append-nil front)) m))
    by_level n front (c ∷ rest) r m =
        map_found _ (signed (c ∷ rest)) (λ e. tt) (λ level e.
        subst (λ u. IsReferenceCondition u (by_number n) (Some level)) (sym (run_parts r)) (digits_with_level m (signed_sound (c ∷ rest) level e)))

    by_count : (o : Option ℕ) (rest : Text) → IsLeadingNumber t o rest →
        ConditionFound t (elim o as (λ _. Option Referred) [
          | None ↦ None
          | Some n ↦ if is_empty rest then Some (by_number n, None) else option_map (λ level. (by_number n, Some level)) (signed rest)
        ])
    by_count None rest counted = is_none tt
    by_count (Some n) rest (some_digits {front = front} r m) = by_level n front rest r m

angle_condition : (t : Text) (o : Option Referred) →
    Found (λ (r : Referred). (text : Text) × IsTextUntil 0x3E t text [] × IsReference true text r.0 r.1) (Unit {0}) o → ConditionFound (0x3C ∷ t) o
angle_condition t (Some r) (is_found (text, b, ref)) = is_found (in_angles b ref)
angle_condition t None (is_none n) = is_none tt

quote_condition : (t : Text) (o : Option Referred) →
    Found (λ (r : Referred). (text : Text) × IsTextUntil 0x27 t text [] × IsReference true text r.0 r.1) (Unit {0}) o → ConditionFound (0x27 ∷ t) o
quote_condition t (Some r) (is_found (text, b, ref)) = is_found (in_quotes b ref)
quote_condition t None (is_none n) = is_none tt

reference_found : (t : Text) → ConditionFound t (reference_condition t)
unfolding reference_condition
reference_found [] = is_none tt
reference_found (c ∷ t) =
    if_found (c == 0x3C) _ _ (λ h. at_char c 0x3C (λ d. ConditionFound (d ∷ t) (bracketed 0x3E t)) h (angle_condition t (bracketed 0x3E t) (condition_found 0x3E t))) (λ h.
    if_found (c == 0x27) _ _ (λ k. at_char c 0x27 (λ d. ConditionFound (d ∷ t) (bracketed 0x27 t)) k (quote_condition t (bracketed 0x27 t) (condition_found 0x27 t))) (λ k.
    numbered_found (c ∷ t)))

-- a text that begins with a digit
record StartsWithDigit (t : Text) : Type 0 where
  first : ℕ
  others : Text
  is : t ≡ first ∷ others
  decimal : is_decimal first ≡ true

starts_with_digit : {front : Text} → IsDigits front → (rest : Text) → StartsWithDigit (front ++ rest)
starts_with_digit (last_digit {c} h) rest = record { first = c; others = rest; is = refl; decimal = h }
starts_with_digit (more_digits {c} {t} h d) rest = record { first = c; others = t ++ rest; is = refl; decimal = h }

number_starts : {front : Text} {n : ℕ} → IsNumber front n → (rest : Text) → StartsWithDigit (front ++ rest)
number_starts (a_number d) rest = starts_with_digit d rest

numbered_reached : (t : Text) → StartsWithDigit t → reference_condition t ≡ numbered t
unfolding reference_condition
numbered_reached t s =
    subst (λ u. reference_condition u ≡ numbered u) (sym s.is)
    (ap (λ b. cond b (bracketed 0x3E s.others) (cond (s.first == 0x27) (bracketed 0x27 s.others) (numbered (s.first ∷ s.others))))
    (other_than_these is_decimal s.first 0x3C refl s.decimal)
    ∙ ap (λ b. cond b (bracketed 0x27 s.others) (numbered (s.first ∷ s.others))) (other_than_these is_decimal s.first 0x27 refl s.decimal))

sign_run : {t : Text} {k : ℤ} → IsSigned t k → IsRun is_decimal t [] t
sign_run (forward d) = at_other refl
sign_run (backward d) = at_other refl

some_sign : {t : Text} {k : ℤ} → IsSigned t k → is_empty t ≡ false
some_sign (forward d) = refl
some_sign (backward d) = refl

number_run : {front rest : Text} {n : ℕ} → IsNumber front n → IsRun is_decimal rest [] rest → IsRun is_decimal (front ++ rest) front rest
number_run (a_number d) r = digits_run d r

number_counted : {t : Text} {n : ℕ} → IsNumber t n → digits t ≡ (Some n, [])
number_counted (a_number d) = digits_read (counted_digits d)

abbrev following_digits : ℕ → Text → Option Referred
following_digits n t = if is_empty t then Some (by_number n, None) else option_map (λ level. (by_number n, Some level)) (signed t)

level_read : {t : Text} {k : ℤ} (n : ℕ) → IsSigned t k → following_digits n t ≡ Some (by_number n, Some k)
level_read {t} {k} n s = rw (some_sign s, signed_complete t k s) refl

condition_read : {t : Text} {target : Named} {level : Option ℤ} → IsReferenceCondition t target level → reference_condition t ≡ Some (target, level)
unfolding reference_condition numbered
condition_read (openings.digits {t} {n} m) =
    numbered_reached t (subst StartsWithDigit (append-nil t) (number_starts m []))
    ∙ ap (λ (r : Option ℕ × Text). elim r.0 as (λ _. Option Referred) [
      | None ↦ None
      | Some k ↦ if is_empty r.1 then Some (by_number k, None) else option_map (λ level. (by_number k, Some level)) (signed r.1)
    ]) (number_counted m)
condition_read (digits_with_level {front} {t} {n} {level} m s) =
    numbered_reached (front ++ t) (number_starts m t)
    ∙ ap (λ (r : Option ℕ × Text). elim r.0 as (λ _. Option Referred) [
      | None ↦ None
      | Some k ↦ if is_empty r.1 then Some (by_number k, None) else option_map (λ x. (by_number k, Some x)) (signed r.1)
    ]) (digits_read (some_digits (number_run m (sign_run s)) m))
    ∙ level_read n s
condition_read (in_angles b r) = bracketed_read b r
condition_read (in_quotes b r) = bracketed_read b r

condition_exact : (t : Text) → FindsExactly (reference_condition t) (λ (r : Referred). IsReferenceCondition t r.0 r.1)
condition_exact t = finds_exactly (reference_condition t) (λ r h. found_has (reference_found t) r h) (λ r c. condition_read c)

-- a condition does not begin as `DEFINE` does
not_define : {t : Text} {target : Named} {level : Option ℤ} → IsReferenceCondition t target level → (c : ℕ) × (u : Text) × (t ≡ c ∷ u) × ((c == 0x44) ≡ false)
not_define (openings.digits {t} m) = from t (number_starts m []) (append-nil t)
  where
    from : {v : Text} (t : Text) → StartsWithDigit v → v ≡ t → (c : ℕ) × (u : Text) × (t ≡ c ∷ u) × ((c == 0x44) ≡ false)
    from t s is = (s.first, s.others, sym is ∙ s.is, other_than_these is_decimal s.first 0x44 refl s.decimal)
not_define (digits_with_level {front} {t} m s) =
    let x = number_starts m t in (x.first, x.others, x.is, other_than_these is_decimal x.first 0x44 refl x.decimal)
not_define (in_angles {t} b r) = (0x3C, t, refl, refl)
not_define (in_quotes {t} b r) = (0x27, t, refl, refl)

front_of_before : {close c : ℕ} {t text rest : Text} → IsTextUntil close t text rest → (u : Text) → text ≡ c ∷ u → (v : Text) × (t ≡ c ∷ v)
front_of_before here u is = cc
front_of_before {c = c} (later {t = t} n b) u is = (t, ap (λ d. d ∷ t) (let same : _ ≡ c = cc in same))

closed_is_not_define : {t rest : Text} {target : Named} {level : Option ℤ} → IsClosedCondition t target level rest → (u : Text) → t ≢ codes "DEFINE)" ++ u
closed_is_not_define c u is =
    let (d, v, starts, other) = not_define c.condition in
    let (w, same) = front_of_before c.parted v starts in
    let letter : d ≡ 0x44 = cc in eqb-false d 0x44 other letter

-- verbs

record IsVerbAt (t : Text) (verb : Verb) (rest : Text) : Type 0 where
  word : Text
  is_verb : IsVerb word verb
  parted : t ≡ word ++ rest

abbrev NoVerb : Text → Type 0
NoVerb t = (word rest : Text) (verb : Verb) → IsVerb word verb → t ≢ word ++ rest

abbrev VerbFound : Text → Option (Verb × Text) → Type 0
VerbFound t = Found (λ (v : Verb × Text). IsVerbAt t v.0 v.1) (NoVerb t)

none_of_five : (t : Text) → ((rest : Text) → t ≢ codes "*FAIL)" ++ rest) → ((rest : Text) → t ≢ codes "*ACCEPT)" ++ rest) →
    ((rest : Text) → t ≢ codes "*COMMIT)" ++ rest) → ((rest : Text) → t ≢ codes "*SKIP)" ++ rest) → ((rest : Text) → t ≢ codes "*PRUNE)" ++ rest) →
    {word : Text} {verb : Verb} → IsVerb word verb → (rest : Text) → t ≢ word ++ rest
none_of_five t n1 n2 n3 n4 n5 fail rest = n1 rest
none_of_five t n1 n2 n3 n4 n5 accept rest = n2 rest
none_of_five t n1 n2 n3 n4 n5 commit rest = n3 rest
none_of_five t n1 n2 n3 n4 n5 skip rest = n4 rest
none_of_five t n1 n2 n3 n4 n5 prune rest = n5 rest

verb_of : (t : Text) → VerbFound t (control_verb (0x28 ∷ t))
unfolding control_verb later_verb strip_prefix
verb_of t =
    word_case (VerbFound t) (codes "*FAIL)") t _ (λ rest. Some (Fail, rest)) (λ rest is. is_found (record { word = _; is_verb = fail; parted = is })) (λ n1.
    word_case (VerbFound t) (codes "*ACCEPT)") t _ (λ rest. Some (Accept, rest)) (λ rest is. is_found (record { word = _; is_verb = accept; parted = is })) (λ n2.
    word_case (VerbFound t) (codes "*COMMIT)") t _ (λ rest. Some (Commit, rest)) (λ rest is. is_found (record { word = _; is_verb = commit; parted = is })) (λ n3.
    word_case (VerbFound t) (codes "*SKIP)") t _ (λ rest. Some (Skip, rest)) (λ rest is. is_found (record { word = _; is_verb = skip; parted = is })) (λ n4.
    by_prune n1 n2 n3 n4 (strip_prefix (codes "*PRUNE)") t) (word_of (codes "*PRUNE)") t)))))
  where
    by_prune : ((rest : Text) → t ≢ codes "*FAIL)" ++ rest) → ((rest : Text) → t ≢ codes "*ACCEPT)" ++ rest) →
        ((rest : Text) → t ≢ codes "*COMMIT)" ++ rest) → ((rest : Text) → t ≢ codes "*SKIP)" ++ rest) → (o : Option Text) →
        Found (λ rest. t ≡ codes "*PRUNE)" ++ rest) ((rest : Text) → t ≢ codes "*PRUNE)" ++ rest) o → VerbFound t (option_map (λ rest. (Prune, rest)) o)
    by_prune n1 n2 n3 n4 (Some rest) (is_found is) = is_found (record { word = _; is_verb = prune; parted = is })
    by_prune n1 n2 n3 n4 None (is_none n5) = is_none (λ word rest verb v. none_of_five t n1 n2 n3 n4 n5 v rest)

verb_read : {word : Text} {verb : Verb} → IsVerb word verb → (rest : Text) → control_verb (0x28 ∷ word ++ rest) ≡ Some (verb, rest)
unfolding control_verb later_verb strip_prefix
verb_read fail rest = refl
verb_read accept rest = refl
verb_read commit rest = refl
verb_read skip rest = refl
verb_read prune rest = refl

no_verb_read : (t : Text) → NoVerb t → control_verb (0x28 ∷ t) ≡ None
no_verb_read t n = by_verb (control_verb (0x28 ∷ t)) (verb_of t)
  where
    by_verb : (o : Option (Verb × Text)) → VerbFound t o → o ≡ None
    by_verb (Some v) (is_found at) = absurd (n at.word v.1 v.0 at.is_verb at.parted)
    by_verb None (is_none l) = refl

-- names

module _ (here : Text) where
  abbrev NameMeans : Text → ParseOutcome (Opening × Text) → Type 0
  NameMeans t = Meant (λ (r : Opening × Text). (name : Text) × IsClosedName t name r.1 × (r.0 ≡ capturing (Some name)))
      (λ e. (e ≡ at invalid_group_name here) × ((name rest : Text) → IsClosedName t name rest → ⊥))

  named_means : (t : Text) → NameMeans t (named here t)
  unfolding named
  named_means t =
      before_case (NameMeans t) 0x3E t (fail_at invalid_group_name here)
      (λ found. if is_name found.0 then Ok (capturing (Some found.0), found.1) else fail_at invalid_group_name here)
      (λ found b. if_meant (is_name found.0) _ _ (λ h. is_read (found.0, record { parted = b; is_name = name_sound found.0 h }, refl))
      (λ h. is_stopped (refl, λ name rest c. true≢false (sym (name_complete found.0 (subst IsName (before_one c.parted b) c.is_name)) ∙ h))))
      (λ lacks. is_stopped (refl, λ name rest c. lacks name rest c.parted))

  named_read : {t name rest : Text} → IsClosedName t name rest → named here t ≡ Ok (capturing (Some name), rest)
  unfolding named
  named_read {t} {name} {rest} c =
      ap (λ o. elim o [ None ↦ fail_at invalid_group_name here | Some found ↦ (if is_name found.0 then Ok (capturing (Some found.0), found.1) else fail_at invalid_group_name here) ])
      (before_read c.parted)
      ∙ ap (λ b. if b then Ok (capturing (Some name), rest) else fail_at invalid_group_name here) (name_complete name c.is_name)

  none_named : {t : Text} → ((name rest : Text) → IsClosedName t name rest → ⊥) → named here t ≡ Err (at invalid_group_name here)
  none_named {t} lacks = by_meaning (named here t) (named_means t)
    where
      by_meaning : (r : ParseOutcome (Opening × Text)) → NameMeans t r → r ≡ Err (at invalid_group_name here)
      by_meaning (Ok x) (is_read (name, c, e)) = absurd (lacks name x.1 c)
      by_meaning (Err e) (is_stopped s) = ap Err s.0

-- openings

module _ (unicode : Bool) (f : Flags) (here : Text) where
  abbrev OpeningMeans : Text → ParseOutcome (Opening × Text) → Type 0
  OpeningMeans t = Meant (λ (r : Opening × Text). IsOpening unicode f t r.0 r.1) (OpeningFails unicode f here t)

  flags_mean : (t : Text) → here ≡ codes "(?" ++ t → (BeginsNonFlagConstruct t → ⊥) → OpeningMeans (0x3F ∷ t) (flags unicode f here t)
  unfolding flags
  flags_mean t is n =
      let exact = flags_are_exact unicode true f here (codes "(?") t is in
      bind_meant (flag_letters unicode here true f t) _ (λ e h. in_flags n (exact.fault_is_sound e h))
      (λ r h. is_read (by_body r.0 r.1 r.2 (exact.sound r h)))
    where
      by_body : (g : Flags) (body : Bool) (rest : Text) → IsFlags unicode true f t g body rest →
          IsOpening unicode f (0x3F ∷ t) (if body then non_capturing g else set_flags g) rest
      by_body g true rest h = flags_for_body h
      by_body g false rest h = flags_alone h

  name_means : (t : Text) → ((u : Text) → t ≢ 0x3D ∷ u) → ((u : Text) → t ≢ 0x21 ∷ u) → OpeningMeans (0x3F ∷ 0x3C ∷ t) (named here t)
  name_means t n m = by_name (named here t) (named_means here t)
    where
      by_name : (r : ParseOutcome (Opening × Text)) → NameMeans here t r → OpeningMeans (0x3F ∷ 0x3C ∷ t) r
      by_name (Ok x) (is_read (name, c, e)) = is_read (subst (λ o. IsOpening unicode f (0x3F ∷ 0x3C ∷ t) o x.1) (sym e) (a_named_group c))
      by_name (Err e) (is_stopped s) = is_stopped (subst (OpeningFails unicode f here (0x3F ∷ 0x3C ∷ t)) (sym s.0) (no_name n m s.1))

  python_name_means : (t : Text) → OpeningMeans (0x3F ∷ 0x50 ∷ 0x3C ∷ t) (named here t)
  python_name_means t = by_name (named here t) (named_means here t)
    where
      by_name : (r : ParseOutcome (Opening × Text)) → NameMeans here t r → OpeningMeans (0x3F ∷ 0x50 ∷ 0x3C ∷ t) r
      by_name (Ok x) (is_read (name, c, e)) = is_read (subst (λ o. IsOpening unicode f (0x3F ∷ 0x50 ∷ 0x3C ∷ t) o x.1) (sym e) (a_python_named_group c))
      by_name (Err e) (is_stopped s) = is_stopped (subst (OpeningFails unicode f here (0x3F ∷ 0x50 ∷ 0x3C ∷ t)) (sym s.0) (no_python_name s.1))

  angle_means : (t : Text) → OpeningMeans (0x3F ∷ 0x3C ∷ t) (after_angle here t)
  unfolding after_angle
  angle_means t =
      word_case (OpeningMeans (0x3F ∷ 0x3C ∷ t)) (codes "=") t _ (λ rest. Ok (look Behind, rest))
      (λ rest is. is_read (subst (λ u. IsOpening unicode f (0x3F ∷ 0x3C ∷ u) (look Behind) rest) (sym is) look_behind)) (λ n.
      word_case (OpeningMeans (0x3F ∷ 0x3C ∷ t)) (codes "!") t _ (λ rest. Ok (look BehindNeg, rest))
      (λ rest is. is_read (subst (λ u. IsOpening unicode f (0x3F ∷ 0x3C ∷ u) (look BehindNeg) rest) (sym is) no_look_behind)) (λ m.
      name_means t n m))

  reference_means : (t : Text) (r : ParseOutcome (Referred × Text)) → ClosedMeans true here 0x29 t r →
      OpeningMeans (0x3F ∷ 0x50 ∷ 0x3D ∷ t) (r >>= λ x. Ok (whole_reference x.0.0 x.0.1, x.1))
  reference_means t (Ok x) (is_read c) = is_read (a_reference c)
  reference_means t (Err e) (is_stopped s) =
      is_stopped (subst (OpeningFails unicode f here (0x3F ∷ 0x50 ∷ 0x3D ∷ t)) (sym (same_fault e invalid_group_name here s.kind.0 s.place)) (no_reference s.kind.1))

  call_means : (t : Text) (r : ParseOutcome (Referred × Text)) → ClosedMeans false here 0x29 t r →
      OpeningMeans (0x3F ∷ 0x50 ∷ 0x3E ∷ t) (r >>= λ x. Ok (whole_call x.0.0, x.1))
  call_means t (Ok x) (is_read c) = is_read (a_call c)
  call_means t (Err e) (is_stopped s) =
      is_stopped (subst (OpeningFails unicode f here (0x3F ∷ 0x50 ∷ 0x3E ∷ t)) (sym (same_fault e invalid_group_name here s.kind.0 s.place)) (no_call s.kind.1))

  no_python : (t : Text) → ((u : Text) → t ≢ 0x3C ∷ u) → ((u : Text) → t ≢ 0x3D ∷ u) → ((u : Text) → t ≢ 0x3E ∷ u) → BeginsNonFlagConstruct (0x50 ∷ t) → ⊥
  no_python t n m k (other_sign h) = true≢false (sym h)
  no_python t n m k (python_sign {c} {t = u} h) =
      ⊎_elim (λ a. n u (ap (λ d. d ∷ u) (eqb-true c 0x3C a))) (λ b.
      ⊎_elim (λ a. m u (ap (λ d. d ∷ u) (eqb-true c 0x3D a))) (λ a. k u (ap (λ d. d ∷ u) (eqb-true c 0x3E a))) (or_cases (c == 0x3D) (c == 0x3E) b))
      (or_cases (c == 0x3C) (c ∈ "=>") h)

  python_means : (t : Text) → here ≡ codes "(?P" ++ t → OpeningMeans (0x3F ∷ 0x50 ∷ t) (python unicode f here (0x50 ∷ t))
  unfolding python strip_prefix
  python_means t is =
      word_case (OpeningMeans (0x3F ∷ 0x50 ∷ t)) (codes "<") t _ (λ rest. named here rest)
      (λ rest at. subst (λ u. OpeningMeans (0x3F ∷ 0x50 ∷ u) (named here rest)) (sym at) (python_name_means rest)) (λ n.
      word_case (OpeningMeans (0x3F ∷ 0x50 ∷ t)) (codes "=") t _ (λ rest. delimited_reference true 0x29 here rest >>= λ r. Ok (whole_reference r.0.0 r.0.1, r.1))
      (λ rest at. subst (λ u. OpeningMeans (0x3F ∷ 0x50 ∷ u) (delimited_reference true 0x29 here rest >>= λ r. Ok (whole_reference r.0.0 r.0.1, r.1))) (sym at)
      (reference_means rest _ (closed_means true here 0x29 rest))) (λ m.
      word_case (OpeningMeans (0x3F ∷ 0x50 ∷ t)) (codes ">") t _ (λ rest. delimited_reference false 0x29 here rest >>= λ r. Ok (whole_call r.0.0, r.1))
      (λ rest at. subst (λ u. OpeningMeans (0x3F ∷ 0x50 ∷ u) (delimited_reference false 0x29 here rest >>= λ r. Ok (whole_call r.0.0, r.1))) (sym at)
      (call_means rest _ (closed_means false here 0x29 rest))) (λ k.
      flags_mean (0x50 ∷ t) is (no_python t n m k))))

  abbrev ConditionIs : Text → Opening × Text → Type 0
  ConditionIs t r = IsOpening unicode f (0x3F ∷ 0x28 ∷ t) r.0 r.1

  tested_of : (t : Text) → ((u : Text) → t ≢ codes "DEFINE)" ++ u) → ConditionIs t (tested t)
  unfolding tested
  tested_of t n =
      before_case (ConditionIs t) 0x29 t (if_matches, t) (λ found. elim (reference_condition found.0) [ None ↦ (if_matches, t) | Some r ↦ (if_set r.0 r.1, found.1) ])
      (λ found b. by_reference found b (reference_condition found.0) refl)
      (λ lacks. expression_condition n (λ target level rest c. lacks c.text rest c.parted))
    where
      by_reference : (found : Text × Text) → IsTextUntil 0x29 t found.0 found.1 → (o : Option Referred) → reference_condition found.0 ≡ o →
          ConditionIs t (elim o [ None ↦ (if_matches, t) | Some r ↦ (if_set r.0 r.1, found.1) ])
      by_reference found b (Some r) e =
          openings.reference_condition (record { text = found.0; parted = b; condition = (condition_exact found.0).sound r e })
      by_reference found b None e =
          expression_condition n (λ target level rest c.
          (condition_exact found.0).none e (target, level) (subst (λ u. IsReferenceCondition u target level) (before_one c.parted b) c.condition))

  condition_of : (t : Text) → ConditionIs t (condition t)
  unfolding condition
  condition_of t =
      word_case (ConditionIs t) (codes "DEFINE)") t (tested t) (λ rest. (define, rest))
      (λ rest is. subst (λ u. ConditionIs u (define, rest)) (sym is) definitions) (λ n. tested_of t n)

  tilde_of : (t : Text) → IsOpening unicode f (0x3F ∷ 0x7E ∷ t) (after_tilde t).0 (after_tilde t).1
  unfolding after_tilde
  tilde_of t =
      word_case (λ (r : Opening × Text). IsOpening unicode f (0x3F ∷ 0x7E ∷ t) r.0 r.1) (codes "|") t (absent, t) (λ rest. (absent_bar, rest))
      (λ rest is. subst (λ u. IsOpening unicode f (0x3F ∷ 0x7E ∷ u) absent_bar rest) (sym is) absent_bounds) (λ n. absent_repeater n)

  nothing_begins : BeginsNonFlagConstruct [] → ⊥
  nothing_begins b = elim b [ ]

  no_sign_begins : (c : ℕ) (t : Text) → c ∈ "=!<>(~" ≡ false → (c == 0x50) ≡ false → BeginsNonFlagConstruct (c ∷ t) → ⊥
  no_sign_begins c t h k (other_sign l) = true≢false (sym l ∙ h)
  no_sign_begins c t h k (python_sign l) = true≢false k

  question_means : (t : Text) → here ≡ codes "(?" ++ t → OpeningMeans (0x3F ∷ t) (after_question unicode f here t)
  unfolding after_question
  question_means [] is = flags_mean [] is nothing_begins
  question_means (c ∷ t) is =
      if_meant (c == 0x3D) _ _ (λ h. is_read (at_char c 0x3D (λ d. IsOpening unicode f (0x3F ∷ d ∷ t) (look Ahead) t) h look_ahead)) (λ h1.
      if_meant (c == 0x21) _ _ (λ h. is_read (at_char c 0x21 (λ d. IsOpening unicode f (0x3F ∷ d ∷ t) (look AheadNeg) t) h no_look_ahead)) (λ h2.
      if_meant (c == 0x3C) _ _ (λ h. at_char c 0x3C (λ d. OpeningMeans (0x3F ∷ d ∷ t) (after_angle here t)) h (angle_means t)) (λ h3.
      if_meant (c == 0x50) _ _ (λ h. at_char c 0x50 (λ d. here ≡ codes "(?" ++ (d ∷ t) → OpeningMeans (0x3F ∷ d ∷ t) (python unicode f here (d ∷ t))) h (python_means t) is) (λ h4.
      if_meant (c == 0x3E) _ _ (λ h. is_read (at_char c 0x3E (λ d. IsOpening unicode f (0x3F ∷ d ∷ t) atomic t) h an_atomic_group)) (λ h5.
      if_meant (c == 0x28) _ _ (λ h. is_read (at_char c 0x28 (λ d. IsOpening unicode f (0x3F ∷ d ∷ t) (condition t).0 (condition t).1) h (condition_of t))) (λ h6.
      if_meant (c == 0x7E) _ _ (λ h. is_read (at_char c 0x7E (λ d. IsOpening unicode f (0x3F ∷ d ∷ t) (after_tilde t).0 (after_tilde t).1) h (tilde_of t))) (λ h7.
      flags_mean (c ∷ t) is (no_sign_begins c t (simp (h1, h2, h3, h5, h6, h7)) h4))))))))

  group_means : (t : Text) → ((u : Text) → t ≢ 0x3F ∷ u) →
      OpeningMeans t (elim (control_verb (0x28 ∷ t)) [ Some v ↦ Ok (whole_verb v.0, v.1) | None ↦ Ok (capturing None, t) ])
  group_means t n = by_verb (control_verb (0x28 ∷ t)) (verb_of t)
    where
      by_verb : (o : Option (Verb × Text)) → VerbFound t o → OpeningMeans t (elim o [ Some v ↦ Ok (whole_verb v.0, v.1) | None ↦ Ok (capturing None, t) ])
      by_verb (Some v) (is_found at) = is_read (subst (λ u. IsOpening unicode f u (whole_verb v.0) v.1) (sym at.parted) (a_verb at.is_verb))
      by_verb None (is_none lacks) = is_read (a_group n lacks)

opening_means : (unicode : Bool) (f : Flags) (t : Text) → OpeningMeans unicode f (0x28 ∷ t) t (opening unicode f (0x28 ∷ t))
unfolding opening strip_prefix
opening_means unicode f t =
    word_case (OpeningMeans unicode f (0x28 ∷ t) t) (codes "?") t _ (λ rest. after_question unicode f (0x28 ∷ t) rest)
    (λ rest is. subst (λ u. OpeningMeans unicode f (0x28 ∷ t) u (after_question unicode f (0x28 ∷ t) rest)) (sym is)
    (question_means unicode f (0x28 ∷ t) rest (ap (λ u. 0x28 ∷ u) is))) (λ n. group_means unicode f (0x28 ∷ t) t n)

abbrev ok_opening : Opening × Text → ParseOutcome (Opening × Text)
ok_opening r = Ok r

-- the other way round

record StartsWithName (t : Text) : Type 0 where
  first : ℕ
  others : Text
  is : t ≡ first ∷ others
  test : is_name_char first ≡ true

name_first : {c : ℕ} {t : Text} → IsName (c ∷ t) → is_name_char c ≡ true
name_first (last_of_name h) = name_character_test h
name_first (more_of_name h n) = name_character_test h

name_starts : {t name rest : Text} → IsTextUntil 0x3E t name rest → IsName name → StartsWithName t
name_starts here n = elim n [ ]
name_starts (later {c} {t} k b) n = record { first = c; others = t; is = refl; test = name_first n }

equals_is_no_name : is_name_char 0x3D ≡ false
unfolding computing
equals_is_no_name = refl

mark_is_no_name : is_name_char 0x21 ≡ false
unfolding computing
mark_is_no_name = refl

starts_not : {t : Text} → StartsWithName t → (d : ℕ) → is_name_char d ≡ false → (u : Text) → t ≢ d ∷ u
starts_not s d h u is =
    let same : s.first ≡ d = let a = s.is in cc in true≢false (sym s.test ∙ ap is_name_char same ∙ h)

module _ (unicode : Bool) (f : Flags) (here : Text) where
  no_look : (t : Text) → ((u : Text) → t ≢ 0x3D ∷ u) → ((u : Text) → t ≢ 0x21 ∷ u) → after_angle here t ≡ named here t
  unfolding after_angle
  no_look t n m = rw (after_angle, word_lacks (codes "=") t n, word_lacks (codes "!") t m) refl

  no_other_sign : (c : ℕ) (t : Text) → c ∈ "=!<>(~" ≡ false → (c == 0x50) ≡ false → after_question unicode f here (c ∷ t) ≡ flags unicode f here (c ∷ t)
  unfolding after_question
  no_other_sign c t h k =
      let (h1, n1) = or_parts (c == 0x3D) (c ∈ "!<>(~") h in
      let (h2, n2) = or_parts (c == 0x21) (c ∈ "<>(~") n1 in
      let (h3, n3) = or_parts (c == 0x3C) (c ∈ ">(~") n2 in
      let (h4, n4) = or_parts (c == 0x3E) (c ∈ "(~") n3 in
      let (h5, h6) = or_parts (c == 0x28) (c == 0x7E) n4 in
      rw (after_question, h1, h2, h3, k, h4, h5, h6) refl

  python_flags : (t : Text) → (BeginsNonFlagConstruct (0x50 ∷ t) → ⊥) → python unicode f here (0x50 ∷ t) ≡ flags unicode f here (0x50 ∷ t)
  unfolding python strip_prefix
  python_flags t n =
      rw (
        python,
        word_lacks (codes "<") t (λ u is. n (subst (λ v. BeginsNonFlagConstruct (0x50 ∷ v)) (sym is) (python_sign refl))),
        word_lacks (codes "=") t (λ u is. n (subst (λ v. BeginsNonFlagConstruct (0x50 ∷ v)) (sym is) (python_sign refl))),
        word_lacks (codes ">") t (λ u is. n (subst (λ v. BeginsNonFlagConstruct (0x50 ∷ v)) (sym is) (python_sign refl))),
      ) refl

  flags_reached : (t : Text) → (BeginsNonFlagConstruct t → ⊥) → after_question unicode f here t ≡ flags unicode f here t
  unfolding after_question
  flags_reached [] n = refl
  flags_reached (c ∷ t) n = by_letter (c == 0x50) refl
    where
      at_p : (BeginsNonFlagConstruct (0x50 ∷ t) → ⊥) → after_question unicode f here (0x50 ∷ t) ≡ flags unicode f here (0x50 ∷ t)
      at_p m = python_flags t m

      by_letter : (b : Bool) → (c == 0x50) ≡ b → after_question unicode f here (c ∷ t) ≡ flags unicode f here (c ∷ t)
      by_letter true e =
          at_char c 0x50 (λ d. (BeginsNonFlagConstruct (d ∷ t) → ⊥) → after_question unicode f here (d ∷ t) ≡ flags unicode f here (d ∷ t)) e at_p n
      by_letter false e = no_other_sign c t (false_from_ne_true (c ∈ "=!<>(~") (λ h. n (other_sign h))) e

  flag_begins : {on next : Bool} {g h : Flags} {c : ℕ} → IsFlag unicode on g c h next → (c ∈ "=!<>(~" ≡ false) × ((c == 0x50) ≡ false)
  flag_begins case_insensitive = (refl, refl)
  flag_begins multi_line = (refl, refl)
  flag_begins dot_matches_newline = (refl, refl)
  flag_begins ignore_whitespace = (refl, refl)
  flag_begins swap_greed = (refl, refl)
  flag_begins carriage_returns = (refl, refl)
  flag_begins (unicode_again e) = (refl, refl)
  flag_begins clear_from_here = (refl, refl)

  flags_begin : {on body : Bool} {g h : Flags} {t rest : Text} → IsFlags unicode on g t h body rest → BeginsNonFlagConstruct t → ⊥
  flags_begin (before_body {t = t}) b = no_sign_begins unicode f here 0x3A t refl refl b
  flags_begin (alone {t = t}) b = no_sign_begins unicode f here 0x29 t refl refl b
  flags_begin (and_flag {c = c} {t} flag flags) b = no_sign_begins unicode f here c t (flag_begins flag).0 (flag_begins flag).1 b

  flags_read : {t rest : Text} {g : Flags} {body : Bool} → here ≡ codes "(?" ++ t → IsFlags unicode true f t g body rest →
      after_question unicode f here t ≡ Ok (if body then non_capturing g else set_flags g, rest)
  unfolding flags
  flags_read {t} {rest} {g} {body} is h =
      flags_reached t (flags_begin h)
      ∙ ap (λ r. r >>= λ (x : Flags × Bool × Text). Ok (if x.1 then non_capturing x.0 else set_flags x.0, x.2))
      ((flags_are_exact unicode true f here (codes "(?") t is).complete (g, body, rest) h)

  not_defined : (t : Text) → ((u : Text) → t ≢ codes "DEFINE)" ++ u) → condition t ≡ tested t
  unfolding condition
  not_defined t n = ap (λ o. elim o as (λ _. Opening × Text) [ Some rest ↦ (define, rest) | None ↦ tested t ]) (word_lacks (codes "DEFINE)") t n)

  set_read : {t rest : Text} {target : Named} {level : Option ℤ} → IsClosedCondition t target level rest → condition t ≡ (if_set target level, rest)
  unfolding tested
  set_read {t} {rest} {target} {level} c =
      not_defined t (closed_is_not_define c)
      ∙ ap (λ o. elim o as (λ _. Opening × Text) [
        | None ↦ (if_matches, t)
        | Some found ↦ elim (reference_condition found.0) [ None ↦ (if_matches, t) | Some r ↦ (if_set r.0 r.1, found.1) ]
      ]) (before_read c.parted)
      ∙ ap (λ o. elim o as (λ _. Opening × Text) [ None ↦ (if_matches, t) | Some r ↦ (if_set r.0 r.1, rest) ]) (condition_read c.condition)

  matches_read : (t : Text) → ((u : Text) → t ≢ codes "DEFINE)" ++ u) →
      ((target : Named) (level : Option ℤ) (rest : Text) → IsClosedCondition t target level rest → ⊥) → condition t ≡ (if_matches, t)
  unfolding tested
  matches_read t n m =
      not_defined t n
      ∙ before_case (λ (r : Opening × Text). r ≡ (if_matches, t)) 0x29 t (if_matches, t)
      (λ found. elim (reference_condition found.0) [ None ↦ (if_matches, t) | Some r ↦ (if_set r.0 r.1, found.1) ])
      (λ found b. by_reference found b (reference_condition found.0) refl) (λ lacks. refl)
    where
      by_reference : (found : Text × Text) → IsTextUntil 0x29 t found.0 found.1 → (o : Option Referred) → reference_condition found.0 ≡ o →
          ◌≡◌ {A = Opening × Text} (elim o as (λ _. Opening × Text) [ None ↦ (if_matches, t) | Some r ↦ (if_set r.0 r.1, found.1) ]) (if_matches, t)
      by_reference found b (Some r) e =
          absurd (m r.0 r.1 found.1 (record { text = found.0; parted = b; condition = (condition_exact found.0).sound r e }))
      by_reference found b None e = refl

  no_bar : (t : Text) → ((u : Text) → t ≢ 0x7C ∷ u) → after_tilde t ≡ (absent, t)
  unfolding after_tilde
  no_bar t n = ap (λ o. elim o as (λ _. Opening × Text) [ Some rest ↦ (absent_bar, rest) | None ↦ (absent, t) ]) (word_lacks (codes "|") t n)

group_read : (unicode : Bool) (f : Flags) (t : Text) → ((u : Text) → t ≢ 0x3F ∷ u) → NoVerb t → opening unicode f (0x28 ∷ t) ≡ Ok (capturing None, t)
unfolding opening strip_prefix
group_read unicode f t n m =
    ap (λ o. elim o as (λ _. ParseOutcome (Opening × Text)) [
      | Some rest ↦ after_question unicode f (0x28 ∷ t) rest
      | None ↦ elim (control_verb (0x28 ∷ t)) [ Some v ↦ Ok (whole_verb v.0, v.1) | None ↦ Ok (capturing None, t) ]
    ]) (word_lacks (codes "?") t n)
    ∙ ap (λ o. elim o as (λ _. ParseOutcome (Opening × Text)) [ Some v ↦ Ok (whole_verb v.0, v.1) | None ↦ Ok (capturing None, t) ]) (no_verb_read t m)

whole_verb_read : (unicode : Bool) (f : Flags) {word : Text} {verb : Verb} → IsVerb word verb → (rest : Text) →
    opening unicode f (0x28 ∷ word ++ rest) ≡ Ok (whole_verb verb, rest)
unfolding opening strip_prefix control_verb later_verb
whole_verb_read unicode f fail rest = refl
whole_verb_read unicode f accept rest = refl
whole_verb_read unicode f commit rest = refl
whole_verb_read unicode f skip rest = refl
whole_verb_read unicode f prune rest = refl

opening_read : (unicode : Bool) (f : Flags) {t rest : Text} {o : Opening} → IsOpening unicode f t o rest → opening unicode f (0x28 ∷ t) ≡ Ok (o, rest)
unfolding opening strip_prefix after_question after_angle python condition after_tilde
opening_read unicode f (a_group {t} n m) = group_read unicode f t n m
opening_read unicode f (a_named_group {t} c) =
    let s = name_starts c.parted c.is_name in
    no_look unicode f (0x28 ∷ 0x3F ∷ 0x3C ∷ t) t (starts_not s 0x3D equals_is_no_name) (starts_not s 0x21 mark_is_no_name) ∙ named_read _ c
opening_read unicode f (a_python_named_group c) = named_read _ c
opening_read unicode f (flags_for_body h) = flags_read unicode f _ refl h
opening_read unicode f (flags_alone h) = flags_read unicode f _ refl h
opening_read unicode f an_atomic_group = refl
opening_read unicode f look_ahead = refl
opening_read unicode f no_look_ahead = refl
opening_read unicode f look_behind = refl
opening_read unicode f no_look_behind = refl
opening_read unicode f definitions = refl
opening_read unicode f (openings.reference_condition c) = ap ok_opening (set_read unicode f [] c)
opening_read unicode f (expression_condition {t} n m) = ap ok_opening (matches_read unicode f [] t n m)
opening_read unicode f absent_bounds = refl
opening_read unicode f (absent_repeater {t} n) = ap ok_opening (no_bar unicode f [] t n)
opening_read unicode f (a_reference c) = ap (λ r. r >>= λ (x : Referred × Text). Ok (whole_reference x.0.0 x.0.1, x.1)) (closed_read true _ c)
opening_read unicode f (a_call c) = ap (λ r. r >>= λ (x : Referred × Text). Ok (whole_call x.0.0, x.1)) (closed_read false _ c)
opening_read unicode f (a_verb {rest = rest} v) = whole_verb_read unicode f v rest

opening_stops : (unicode : Bool) (f : Flags) {t : Text} {e : ParseFault} → OpeningFails unicode f (0x28 ∷ t) t e → opening unicode f (0x28 ∷ t) ≡ Err e
unfolding opening strip_prefix after_question after_angle python flags
opening_stops unicode f (no_name {t} n m lacks) = no_look unicode f (0x28 ∷ 0x3F ∷ 0x3C ∷ t) t n m ∙ none_named _ lacks
opening_stops unicode f (no_python_name lacks) = none_named _ lacks
opening_stops unicode f (no_reference {t} lacks) =
    ap (λ r. r >>= λ (x : Referred × Text). Ok (whole_reference x.0.0 x.0.1, x.1)) (none_closed true _ 0x29 t lacks)
opening_stops unicode f (no_call {t} lacks) = ap (λ r. r >>= λ (x : Referred × Text). Ok (whole_call x.0.0, x.1)) (none_closed false _ 0x29 t lacks)
opening_stops unicode f (in_flags {t} {e} n s) =
    flags_reached unicode f (0x28 ∷ 0x3F ∷ t) t n
    ∙ ap (λ r. r >>= λ (x : Flags × Bool × Text). Ok (if x.1 then non_capturing x.0 else set_flags x.0, x.2))
    ((flags_are_exact unicode true f (0x28 ∷ 0x3F ∷ t) (codes "(?") t refl).fault_is_complete e s)

pub openings_are_exact : OpeningsAreExact
openings_are_exact unicode f t =
    reads_exactly (opening unicode f (0x28 ∷ t)) (opening_means unicode f t) (λ r h. opening_read unicode f h) (λ e s. opening_stops unicode f s)
