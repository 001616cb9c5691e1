-- Expansions of plain and escaped texts, numbers, and what the check accepts.
use Rattle.std.proofs.Common.{◌≡◌, ◌≢◌, ℕ, zero, suc, ◌≤◌, Bool, true, false, cond, ◌==◌, nat_lt, [], ◌∷◌, ◌++◌, List, length, Option, Some, None, refl, sym, ap, ◌∙◌, subst, arith, append-nil, inl, inr, ⊎_elim, ◌↔◌}
use Rattle.std.proofs.lemmas.List.{length-append}
use Rattle.std.proofs.lemmas.List.Concat.{flat_map-append}
use Rattle.std.proofs.lemmas.Option.{none-some, same_Some}
use Rattle.std.proofs.lemmas.Bool.{cases_Bool, both_ways, eqb-true, eq-eqb, eqb-false, ltb-true, ltb-false, not_from_true, not_from_false, not-false}
use Rattle.fancy_regex_text.specs.Text.{Text, span, is_empty, is_decimal, value, unbounded}
use Rattle.fancy_regex_template.specs.Numbers.{number_of, leading_number}
use Rattle.fancy_regex_template.specs.Parts.{Part, literal, doubled_sign, named, numbered, loose_sign, parts, is_no_sign, sign_of}
use Rattle.fancy_regex_template.specs.Cuts.{AllPass, StopsAt, BeginsWith, plain, doubled, NumbersAreDigits}
use Rattle.fancy_regex_template.specs.Expansion.{Texts, expansion, part_text, parts_text, escaped, doubled_if_sign, PlainTemplatesStay, EscapedTextsComeBack}
use Rattle.fancy_regex_template.specs.Faults.{TemplateFault, named_backref_only, invalid_backref, invalid_group_name_backref, Groups, number_fault, digits_fault, part_fault, first_fault, NumberExists, Exists, AllExist, AcceptedTemplatesExist}
use Rattle.fancy_regex_template.specs.declared.syntax.TemplateSyntax.{TemplateSyntax}
use Rattle.fancy_regex_template.proofs.Runs.{IsSpan, span_is}
use Rattle.fancy_regex_template.proofs.LongestNumber.{number_is_longest, number_only}
use Rattle.fancy_regex_template.proofs.EscapeLemmas.{run_stays}
use Rattle.fancy_regex_template.proofs.CutLemmas.{first_only, parts_more, none_of_parts}

cons_nil : (c : ℕ) (t : Text) → ◌≡◌ {A = Text} (c ∷ t) [] → ⊥
cons_nil c t h = cc

-- the expansion part by part
part_first : (syntax : TemplateSyntax) (texts : Texts) (t : Text) (part : Part) (rest : Text) → BeginsWith syntax t part rest →
    expansion syntax texts t ≡ parts_text syntax texts (part ∷ []) ++ expansion syntax texts rest
part_first syntax texts t part rest begins =
    ap (parts_text syntax texts) (parts_more syntax t part rest (first_only syntax t part rest begins))
    ∙ flat_map-append (part_text syntax texts) (part ∷ []) (parts syntax rest)

nothing_expands : (syntax : TemplateSyntax) (texts : Texts) → expansion syntax texts [] ≡ []
nothing_expands syntax texts = ap (parts_text syntax texts) (none_of_parts syntax)

pub plain_templates_stay : PlainTemplatesStay
plain_templates_stay syntax texts [] all = nothing_expands syntax texts
plain_templates_stay syntax texts (c ∷ t) all =
    part_first syntax texts (c ∷ t) (literal (c ∷ t)) [] (plain (c ∷ t) refl (record { whole = sym (append-nil (c ∷ t)); present = cons_nil c t; all = all; longest = tt }))
    ∙ ap (λ x. ((c ∷ t) ++ []) ++ x) (nothing_expands syntax texts) ∙ append-nil ((c ∷ t) ++ []) ∙ append-nil (c ∷ t)

-- an escaped text character by character
doubled_sign_is : (syntax : TemplateSyntax) (c : ℕ) → (c == sign_of syntax) ≡ true → doubled_if_sign syntax c ≡ sign_of syntax ∷ sign_of syntax ∷ []
doubled_sign_is syntax c h = ap (λ b. cond b (c ∷ c ∷ []) (c ∷ [])) h ∙ ap (λ d. d ∷ d ∷ []) (eqb-true c (sign_of syntax) h)

stops_escaped : (syntax : TemplateSyntax) (rest : Text) → StopsAt (is_no_sign syntax) rest → StopsAt (is_no_sign syntax) (escaped syntax rest)
stops_escaped syntax [] h = tt
stops_escaped syntax (c ∷ rest) h =
    subst (λ x. StopsAt (is_no_sign syntax) (x ++ escaped syntax rest)) (sym (doubled_sign_is syntax c (not-false (c == sign_of syntax) h)))
    (not_from_true (sign_of syntax == sign_of syntax) (eq-eqb (sign_of syntax) (sign_of syntax) refl))

abbrev ComesBack : TemplateSyntax → Texts → Text → Type 0
ComesBack syntax texts t = expansion syntax texts (escaped syntax t) ≡ t

sign_back : (syntax : TemplateSyntax) (texts : Texts) (c : ℕ) (t : Text) → (c == sign_of syntax) ≡ true → ComesBack syntax texts t → ComesBack syntax texts (c ∷ t)
sign_back syntax texts c t h back =
    ap (λ x. expansion syntax texts (x ++ escaped syntax t)) (doubled_sign_is syntax c h)
    ∙ part_first syntax texts (sign_of syntax ∷ sign_of syntax ∷ escaped syntax t) doubled_sign (escaped syntax t) (doubled refl refl)
    ∙ ap (λ x. sign_of syntax ∷ x) back ∙ ap (λ d. d ∷ t) (sym (eqb-true c (sign_of syntax) h))

run_back : (syntax : TemplateSyntax) (texts : Texts) (t run rest : Text) → run ≢ [] → IsSpan (is_no_sign syntax) t run rest → ComesBack syntax texts rest → ComesBack syntax texts t
run_back syntax texts t run rest present s back =
    let cut : escaped syntax t ≡ run ++ escaped syntax rest =
    ap (escaped syntax) s.whole ∙ flat_map-append (doubled_if_sign syntax) run rest ∙ ap (λ x. x ++ escaped syntax rest) (run_stays syntax run s.all) in
    part_first syntax texts (escaped syntax t) (literal run) (escaped syntax rest)
    (plain run refl (record { whole = cut; present = present; all = s.all; longest = stops_escaped syntax rest s.longest }))
    ∙ ap (λ x. (run ++ []) ++ x) back ∙ ap (λ x. x ++ rest) (append-nil run) ∙ sym s.whole

span_present : (test : ℕ → Bool) (c : ℕ) (t front rest : Text) → test c ≡ true → IsSpan test (c ∷ t) front rest → front ≢ []
span_present test c t [] [] h s e = cons_nil c t s.whole
span_present test c t [] (d ∷ rest) h s e = let first : c ≡ d = first_same c d t rest s.whole in both_ways (test d) s.longest (ap test (sym first) ∙ h)
  where
    first_same : (c d : ℕ) (t u : Text) → ◌≡◌ {A = Text} (c ∷ t) (d ∷ u) → c ≡ d
    first_same c d t u e = cc
span_present test c t (d ∷ front) rest h s e = cons_nil d front e

back_within : (n : ℕ) (syntax : TemplateSyntax) (texts : Texts) (t : Text) → length t ≤ n → ComesBack syntax texts t
back_within n syntax texts [] h = nothing_expands syntax texts
back_within zero syntax texts (c ∷ t) h = absurd (omega arith)
back_within (suc n) syntax texts (c ∷ t) h = ⊎_elim
    (λ e. sign_back syntax texts c t e (back_within n syntax texts t (omega arith)))
    (λ e. let s = span_is (is_no_sign syntax) (c ∷ t) in
    let present = span_present (is_no_sign syntax) c t _ _ (not_from_false (c == sign_of syntax) e) s in
    run_back syntax texts (c ∷ t) _ _ present s (back_within n syntax texts (span (is_no_sign syntax) (c ∷ t)).1 (shorter _ _ present (ap length s.whole) h)))
    (cases_Bool (c == sign_of syntax))
  where
    shorter : (front rest : Text) → front ≢ [] → length (c ∷ t) ≡ length (front ++ rest) → length (c ∷ t) ≤ suc n → length rest ≤ n
    shorter [] rest present e k = absurd (present refl)
    shorter (d ∷ front) rest present e k = omega (arith, length-append (d ∷ front) rest)

pub escaped_texts_come_back : EscapedTextsComeBack
escaped_texts_come_back syntax texts t = back_within (length t) syntax texts t (omega arith)

-- numbers
abbrev whole_only : Option (ℕ × Text) → Option ℕ
whole_only o = elim o [ None ↦ None | Some found ↦ cond (is_empty found.1) (Some found.0) None ]

whole_is : (rest : Text) (m n : ℕ) → cond (is_empty rest) (Some m) None ≡ Some n → (rest ≡ []) × (m ≡ n)
whole_is [] m n h = (refl, same_Some m n h)
whole_is (c ∷ rest) m n h = absurd (none-some n h)

digits_of : (t : Text) (n : ℕ) (o : Option (ℕ × Text)) → leading_number t ≡ o → whole_only o ≡ Some n →
    (t ≢ []) × AllPass is_decimal t × (n ≡ value 10 t) × (n ≤ unbounded)
digits_of t n None h e = absurd (none-some n e)
digits_of t n (Some x) h e =
    let (digits, is, longest) = number_is_longest t x h in
    let (none, same) = whole_is x.1 x.0 n e in
    let all : digits ≡ t = sym (longest.whole ∙ ap (λ y. digits ++ y) none ∙ append-nil digits) in (
      subst (λ y. y ≢ []) all longest.present,
      subst (AllPass is_decimal) all longest.all,
      sym same ∙ is ∙ ap (value 10) all,
      subst (λ v. v ≤ unbounded) (sym is ∙ same) longest.fits,
    )

nil_cons : (c : ℕ) (t : Text) → ◌≡◌ {A = Text} [] (c ∷ t) → ⊥
nil_cons c t h = cc

pub numbers_are_digits : NumbersAreDigits
unfolding number_of
numbers_are_digits t n = (
  λ h. digits_of t n (leading_number t) refl h,
  λ (present, all, is, fits).
      ap whole_only (number_only t t [] (record {
        whole = sym (append-nil t);
        present = present;
        all = all;
        fits = subst (λ v. v ≤ unbounded) is fits;
        longest = λ c more same pass. absurd (nil_cons c more same);
      })) ∙ ap Some (sym is),
)

-- what the check accepts
some_none : {A : Type 0} (x : A) → Some x ≡ None → ⊥
some_none x h = none-some x (sym h)

accepted_number : (groups : Groups) (n : ℕ) → (number_fault groups n ≡ None) ↔ NumberExists groups n
accepted_number groups n = (
  λ h. to (n == 0) groups.has_names (nat_lt n groups.count) refl refl refl h,
  λ e. from (n == 0) groups.has_names (nat_lt n groups.count) refl refl refl e,
)
  where
    to : (z k l : Bool) → (n == 0) ≡ z → groups.has_names ≡ k → nat_lt n groups.count ≡ l →
        cond z None (cond k (Some named_backref_only) (cond l None (Some (invalid_backref n)))) ≡ None → NumberExists groups n
    to true k l p q r h = inl (eqb-true n 0 p)
    to false true l p q r h = absurd (some_none named_backref_only h)
    to false false true p q r h = inr (q, ltb-true n groups.count r)
    to false false false p q r h = absurd (some_none (invalid_backref n) h)

    from : (z k l : Bool) → (n == 0) ≡ z → groups.has_names ≡ k → nat_lt n groups.count ≡ l → NumberExists groups n →
        cond z None (cond k (Some named_backref_only) (cond l None (Some (invalid_backref n)))) ≡ None
    from true k l p q r e = refl
    from false k l p q r (inl e) = absurd (eqb-false n 0 p e)
    from false true l p q r (inr e) = absurd (both_ways groups.has_names e.0 q)
    from false false true p q r (inr e) = refl
    from false false false p q r (inr e) = absurd (omega (arith, ltb-false n groups.count r, e.1))

abbrev of_number : Groups → Text → Option ℕ → Option TemplateFault
of_number groups name o = elim o [ Some n ↦ number_fault groups n | None ↦ Some (invalid_group_name_backref name) ]

accepted_digits : (groups : Groups) (name : Text) → (digits_fault groups name ≡ None) ↔ ((n : ℕ) × (number_of name ≡ Some n) × NumberExists groups n)
accepted_digits groups name = (λ h. to (number_of name) refl h, λ e. from (number_of name) refl e)
  where
    to : (o : Option ℕ) → number_of name ≡ o → of_number groups name o ≡ None →
        (n : ℕ) × (number_of name ≡ Some n) × NumberExists groups n
    to None p h = absurd (some_none (invalid_group_name_backref name) h)
    to (Some n) p h = (n, p, (accepted_number groups n).0 h)

    from : (o : Option ℕ) → number_of name ≡ o → ((n : ℕ) × (number_of name ≡ Some n) × NumberExists groups n) →
        of_number groups name o ≡ None
    from None p (n, q, e) = absurd (none-some n (sym p ∙ q))
    from (Some m) p (n, q, e) = (accepted_number groups m).1 (subst (NumberExists groups) (same_Some n m (sym q ∙ p)) e)

accepted_part : (groups : Groups) (part : Part) → (part_fault groups part ≡ None) ↔ Exists groups part
accepted_part groups (literal t) = (λ h. tt, λ e. refl)
accepted_part groups doubled_sign = (λ h. tt, λ e. refl)
accepted_part groups (named name) = (λ h. to (groups.contains_name name) refl h, λ e. from (groups.contains_name name) refl e)
  where
    to : (b : Bool) → groups.contains_name name ≡ b → cond b None (digits_fault groups name) ≡ None → Exists groups (named name)
    to true p h = inl p
    to false p h = inr ((accepted_digits groups name).0 h)

    from : (b : Bool) → groups.contains_name name ≡ b → Exists groups (named name) → cond b None (digits_fault groups name) ≡ None
    from true p e = refl
    from false p (inl e) = absurd (both_ways true (sym e ∙ p) refl)
    from false p (inr e) = (accepted_digits groups name).1 e
accepted_part groups (numbered n) = accepted_number groups n
accepted_part groups loose_sign = (λ h. some_none _ h, λ e. absurd e)

abbrev or_later : Groups → List Part → Option TemplateFault → Option TemplateFault
or_later groups ps o = elim o [ Some fault ↦ Some fault | None ↦ first_fault groups ps ]

all_exist : (groups : Groups) (p : Part) (ps : List Part) (o : Option TemplateFault) → part_fault groups p ≡ o → (first_fault groups ps ≡ None → AllExist groups ps) →
    or_later groups ps o ≡ None → AllExist groups (p ∷ ps)
all_exist groups p ps None q others h = ((accepted_part groups p).0 q, others h)
all_exist groups p ps (Some fault) q others h = absurd (some_none fault h)

pub accepted_templates_exist : AcceptedTemplatesExist
accepted_templates_exist groups [] = (λ h. tt, λ e. refl)
accepted_templates_exist groups (p ∷ ps) =
    let others = accepted_templates_exist groups ps in (
      λ h. all_exist groups p ps (part_fault groups p) refl others.0 h,
      λ e. ap (or_later groups ps) ((accepted_part groups p).1 e.0) ∙ others.1 e.1,
    )
