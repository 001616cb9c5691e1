-- Classes part by part.
use Rattle.std.proofs.Common.{◌≡◌, ℕ, zero, suc, ◌+◌, ◌≤◌, ◌<◌, Bool, true, false, cond, Option, Some, None, Ok, Err, [], ◌∷◌, ◌++◌, length, drop, codes, chars, IsUtf8, refl, sym, ap, ◌∙◌, subst, append_assoc, arith, ◌==◌}
use Rattle.std.proofs.lemmas.Option.{none-some, same_Some}
use Rattle.std.proofs.lemmas.Str.{length-le-encodes, encodes-chars}
use Rattle.fancy_regex_text.specs.Text.{Text}
use Rattle.fancy_regex_text.specs.ParseFault.{ParseFault, ParseOutcome, Fails, prepend}
use Rattle.fancy_regex_lex.specs.Classes.{nesting_after, class_part, class_parts, optional, bracketed_class}
use Rattle.fancy_regex_text.specs.declared.fault.ReadError.{ReadError}
use Rattle.fancy_regex_text.specs.declared.fault.ReadError.TheVariants as errors
use Rattle.fancy_regex_lex.proofs.FlagLetterLemmas.{fails_with}

abbrev pub Part : Type 0
Part = Text × Text

abbrev pub ok_part : Text → Text → ParseOutcome Part
ok_part t u = Ok (t, u)

front_front : (a b : Text) (r : ParseOutcome Part) → prepend a (prepend b r) ≡ prepend (a ++ b) r
front_front a b (Ok x) = ap (λ t. ok_part t x.1) (sym (append_assoc a b x.0))
front_front a b (Err e) = refl

ok_value : ParseOutcome Part → Part → Part
ok_value (Ok x) y = x
ok_value (Err e) y = y

err-ok : (e : ParseFault) (x : Part) → Err e ≡ Ok x → ⊥
err-ok e x h = none-some tt (ap none_for h)
  where
    none_for : ParseOutcome Part → Option (Unit {0})
    none_for (Err e) = None
    none_for (Ok x) = Some tt

-- a part that was read after a front
read_after : (front new u : Text) (r : ParseOutcome Part) → prepend front r ≡ ok_part new u → (part : Text) × (r ≡ ok_part part u) × (front ++ part ≡ new)
unfolding ok_value
read_after front new u (Ok x) h =
    let same : (front ++ x.0, x.1) ≡ (new, u) = ap (λ y. ok_value y x) h in
    (x.0, ap (λ v. ok_part x.0 v) (ap (λ y. y.1) same), ap (λ y. y.0) same)
read_after front new u (Err e) h = absurd (err-ok e (new, u) h)

fails_after : (front : Text) (e : ReadError) (r : ParseOutcome Part) → Fails e (prepend front r) → Fails e r
fails_after front errors.Memory r h = tt
fails_after front (errors.ParseFault f) (Ok x) h = absurd (err-ok _ (front ++ x.0, x.1) (sym h))
fails_after front (errors.ParseFault f) (Err e) h = h

fails_before : (front : Text) (e : ReadError) (r : ParseOutcome Part) → Fails e r → Fails e (prepend front r)
fails_before front errors.Memory r h = tt
fails_before front (errors.ParseFault f) r h = rw h refl

module _ (oniguruma : Bool) where
  -- a part is read, and others follow
  pub part_goes : (m level next : ℕ) (front new t u : Text) (all : ParseOutcome Part) → 0 < m → prepend front (class_part oniguruma t) ≡ ok_part new u →
      nesting_after level t ≡ Some next → prepend front (class_parts oniguruma m level t) ≡ all →
      (n : ℕ) × (m ≡ n + 1) × (prepend new (class_parts oniguruma n next u) ≡ all)
  unfolding class_parts
  part_goes zero level next front new t u all some reads goes now = absurd (omega arith)
  part_goes (suc n) level next front new t u all some reads goes now =
      let (part, is, longer) = read_after front new u (class_part oniguruma t) reads in (
        n,
        omega arith,
        ap (λ x. prepend x (class_parts oniguruma n next u)) (sym longer)
            ∙ sym (front_front front part (class_parts oniguruma n next u)) ∙ (rw (class_parts, is, goes) at now),
      )

  -- the last part is read
  pub part_ends : (m level : ℕ) (front new t u : Text) (all : ParseOutcome Part) → 0 < m → prepend front (class_part oniguruma t) ≡ ok_part new u →
      nesting_after level t ≡ None → prepend front (class_parts oniguruma m level t) ≡ all → all ≡ ok_part new u
  unfolding class_parts
  part_ends zero level front new t u all some reads ends now = absurd (omega arith)
  part_ends (suc n) level front new t u all some reads ends now =
      let (part, is, longer) = read_after front new u (class_part oniguruma t) reads in
      sym (rw (class_parts, is, ends) at now) ∙ ap (λ x. ok_part x u) longer

  -- a part is not read
  pub part_fails : (m level : ℕ) (front t : Text) (e : ReadError) (all : ParseOutcome Part) → 0 < m → Fails e (prepend front (class_part oniguruma t)) →
      prepend front (class_parts oniguruma m level t) ≡ all → Fails e all
  unfolding class_parts
  part_fails zero level front t e all some fails now = absurd (omega arith)
  part_fails (suc n) level front t e all some fails now =
      subst (Fails e) now (fails_before front e _ (fails_with e (class_part oniguruma t) _ (fails_after front e (class_part oniguruma t) fails)))

-- a bracket opens one level at most
level_in : (a b : Bool) (level next : ℕ) → cond a (Some (level + 1)) (cond b (elim level [ zero ↦ None | suc outer ↦ Some outer ]) (Some level)) ≡ Some next → next ≤ level + 1
level_in true b level next h = omega (arith, same_Some (level + 1) next h)
level_in false true zero next h = absurd (none-some next h)
level_in false true (suc outer) next h = omega (arith, same_Some outer next h)
level_in false false level next h = omega (arith, same_Some level next h)

pub level_step : (level next : ℕ) (t : Text) → nesting_after level t ≡ Some next → next ≤ level + 1
unfolding nesting_after
level_step level next [] h = omega (arith, same_Some level next h)
level_step level next (c ∷ t) h = level_in (c == 0x5B) (c == 0x5D) level next h

-- a text has no more characters than bytes
pub chars_fit : (s : Text) → IsUtf8 s → length (chars s) ≤ length s
chars_fit s u = subst (λ x. length (chars s) ≤ length x) (encodes-chars s u) (length-le-encodes (chars s))

-- the front of a class and its parts
pub class_text : (oniguruma : Bool) (here after caret bracket first second third fourth : Text) → first ≡ [] → second ≡ first ++ 0x5B ∷ [] →
    after ≡ drop 1 here → third ≡ second ++ (optional (codes "^") after).0 → caret ≡ (optional (codes "^") after).1 →
    fourth ≡ third ++ (optional (codes "]") caret).0 → bracket ≡ (optional (codes "]") caret).1 →
    prepend fourth (class_parts oniguruma (length bracket + 1) 0 bracket) ≡ bracketed_class oniguruma here
unfolding bracketed_class
class_text oniguruma here after caret bracket first second third fourth e0 e1 e2 e3 e4 e5 e6 = rw (e6, e5, e4, e3, e2, e1, e0) refl
