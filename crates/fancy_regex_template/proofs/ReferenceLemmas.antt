-- References: what the definitions find is what the relation says, and nothing else.
use Rattle.std.proofs.Common.{◌≡◌, ◌≢◌, ℕ, Bool, true, false, cond, ◌==◌, [], ◌∷◌, ◌++◌, codes, Option, Some, None, option_map, refl, sym, ap, ◌∙◌, subst, inl, inr, ⊎_elim}
use Rattle.std.proofs.lemmas.Option.{none-some, same_Some}
use Rattle.std.proofs.lemmas.Bool.{cases_Bool, both_ways, eqb-true}
use Rattle.fancy_regex_text.specs.Text.{Text, strip_prefix, span, is_empty, is_decimal}
use Rattle.fancy_regex_text.specs.Names.{is_name_char}
use Rattle.fancy_regex_text.proofs.Computing.{computing}
use Rattle.fancy_regex_text.proofs.TextLemmas.{strip_prefix-append, strip_prefix_is}
use Rattle.fancy_regex_template.specs.Numbers.{leading_number}
use Rattle.fancy_regex_template.specs.Parts.{Part, numbered, leading_name, enclosed_name, bare_reference, reference, named_part, numbered_part, opening_of, closing_of, sign_of}
use Rattle.fancy_regex_template.specs.Cuts.{AllPass, StopsAt, IsRun, IsEnclosed, IsBare, IsReference}
use Rattle.fancy_regex_template.specs.declared.syntax.TemplateSyntax.{TemplateSyntax}
use Rattle.fancy_regex_template.specs.declared.syntax.TemplateSyntax.TheVariants.{Dollar, Python}
use Rattle.fancy_regex_template.proofs.Runs.{span_is, span_only}
use Rattle.fancy_regex_template.proofs.LongestNumber.{number_is_longest, number_only}

abbrev found_pair : Text × Text → Option (Text × Text)
found_pair x = Some x

not_empty : (t : Text) → is_empty t ≡ false → t ≢ []
not_empty [] h e = both_ways true h refl
not_empty (c ∷ t) h e = absurd (cons_nil c t e)
  where
    cons_nil : (c : ℕ) (t : Text) → ◌≡◌ {A = Text} (c ∷ t) [] → ⊥
    cons_nil c t h = cc

is_present : (t : Text) → t ≢ [] → is_empty t ≡ false
is_present [] h = absurd (h refl)
is_present (c ∷ t) h = refl

named_in : (b : Bool) (x y : Text × Text) → cond b None (found_pair x) ≡ Some y → (b ≡ false) × (x ≡ y)
named_in true x y h = absurd (none-some y h)
named_in false x y h = (refl, same_Some x y h)

abbrev RunIs : Text → Text × Text → Type 0
RunIs t x = IsRun is_name_char t x.0 x.1

-- what `leading_name` finds
pub name_is_run : (t : Text) (x : Text × Text) → leading_name t ≡ Some x → RunIs t x
unfolding leading_name
name_is_run t x h =
    let (present, same) = named_in (is_empty (span is_name_char t).0) (span is_name_char t) x h in
    let s = span_is is_name_char t in
    subst (RunIs t) same (record { whole = s.whole; present = not_empty (span is_name_char t).0 present; all = s.all; longest = s.longest })

-- nothing else is a leading name
pub name_only : (t name rest : Text) → IsRun is_name_char t name rest → leading_name t ≡ Some (name, rest)
unfolding leading_name
name_only t name rest r =
    let s = span_only is_name_char t name rest (record { whole = r.whole; all = r.all; longest = r.longest }) in
    ap (λ x. cond (is_empty x.0) None (found_pair x)) s ∙ ap (λ b. cond b None (found_pair (name, rest))) (is_present name r.present)

-- the characters that end names and stand in front of them
closes_dollar : is_name_char 0x7D ≡ false
unfolding computing
closes_dollar = refl

closes_python : is_name_char 0x3E ≡ false
unfolding computing
closes_python = refl

opens_dollar : is_name_char 0x7B ≡ false
unfolding computing
opens_dollar = refl

dollar_is_no_name : is_name_char 0x24 ≡ false
unfolding computing
dollar_is_no_name = refl

stops_at_closing : (syntax : TemplateSyntax) (rest : Text) → StopsAt is_name_char (closing_of syntax ++ rest)
stops_at_closing Dollar rest = closes_dollar
stops_at_closing Python rest = closes_python

abbrev with_name : Text → Text → Text × Text
with_name name rest = (name, rest)

-- what is after the opening
abbrev closed_name : TemplateSyntax → Text × Text → Option (Text × Text)
closed_name syntax found = option_map (with_name found.0) (strip_prefix (closing_of syntax) found.1)

abbrev name_inside : TemplateSyntax → Text → Option (Text × Text)
name_inside syntax inside = elim (leading_name inside) [ None ↦ None | Some found ↦ closed_name syntax found ]

abbrev EnclosedIs : TemplateSyntax → Text → Text × Text → Type 0
EnclosedIs syntax t x = IsEnclosed syntax t x.0 x.1

closed : (syntax : TemplateSyntax) (inside : Text) (found x : Text × Text) (o : Option Text) → leading_name inside ≡ Some found →
    strip_prefix (closing_of syntax) found.1 ≡ o → option_map (with_name found.0) o ≡ Some x → EnclosedIs syntax (opening_of syntax ++ inside) x
closed syntax inside found x None h e g = absurd (none-some x g)
closed syntax inside found x (Some rest) h e g =
    let r = name_is_run inside found h in
    subst (EnclosedIs syntax (opening_of syntax ++ inside)) (same_Some (with_name found.0 rest) x g) (record {
      whole = ap (λ y. opening_of syntax ++ y) (r.whole ∙ ap (λ y. found.0 ++ y) (strip_prefix_is (closing_of syntax) found.1 rest e));
      present = r.present;
      all = r.all;
    })

inside_is : (syntax : TemplateSyntax) (inside : Text) (x : Text × Text) (o : Option (Text × Text)) → leading_name inside ≡ o →
    elim o [ None ↦ None | Some found ↦ closed_name syntax found ] ≡ Some x → EnclosedIs syntax (opening_of syntax ++ inside) x
inside_is syntax inside x None h g = absurd (none-some x g)
inside_is syntax inside x (Some found) h g = closed syntax inside found x (strip_prefix (closing_of syntax) found.1) h refl g

enclosed_in : (syntax : TemplateSyntax) (t : Text) (x : Text × Text) (o : Option Text) → strip_prefix (opening_of syntax) t ≡ o →
    elim o [ None ↦ None | Some inside ↦ name_inside syntax inside ] ≡ Some x → EnclosedIs syntax t x
enclosed_in syntax t x None h g = absurd (none-some x g)
enclosed_in syntax t x (Some inside) h g =
    subst (λ u. EnclosedIs syntax u x) (sym (strip_prefix_is (opening_of syntax) t inside h)) (inside_is syntax inside x (leading_name inside) refl g)

-- what `enclosed_name` finds
pub enclosed_is : (syntax : TemplateSyntax) (t : Text) (x : Text × Text) → enclosed_name syntax t ≡ Some x → EnclosedIs syntax t x
unfolding enclosed_name
enclosed_is syntax t x h = enclosed_in syntax t x (strip_prefix (opening_of syntax) t) refl h

-- nothing else is an enclosed name
pub enclosed_only : (syntax : TemplateSyntax) (t name rest : Text) → IsEnclosed syntax t name rest → enclosed_name syntax t ≡ Some (name, rest)
unfolding enclosed_name
enclosed_only syntax t name rest e =
    let inside : Text = name ++ (closing_of syntax ++ rest) in
    let opened : strip_prefix (opening_of syntax) t ≡ Some inside =
    ap (strip_prefix (opening_of syntax)) e.whole ∙ strip_prefix-append (opening_of syntax) inside in
    let found : leading_name inside ≡ Some (name, closing_of syntax ++ rest) =
    name_only inside name (closing_of syntax ++ rest) (record { whole = refl; present = e.present; all = e.all; longest = stops_at_closing syntax rest }) in
    ap (λ o. elim o [ None ↦ None | Some inside ↦ name_inside syntax inside ]) opened
    ∙ ap (λ o. elim o [ None ↦ None | Some found ↦ closed_name syntax found ]) found
    ∙ ap (option_map (with_name name)) (strip_prefix-append (closing_of syntax) rest)

abbrev PartAndRest : Type 0
PartAndRest = Part × Text

bare_dollar : (t : Text) (x : PartAndRest) (o : Option (Text × Text)) → leading_name t ≡ o → option_map named_part o ≡ Some x → IsBare Dollar t x.0 x.1
bare_dollar t x None h g = absurd (none-some x g)
bare_dollar t x (Some found) h g = subst (λ y. IsBare Dollar t y.0 y.1) (same_Some (named_part found) x g) (found.0, refl, name_is_run t found h)

bare_python : (t : Text) (x : PartAndRest) (o : Option (ℕ × Text)) → leading_number t ≡ o → option_map numbered_part o ≡ Some x → IsBare Python t x.0 x.1
bare_python t x None h g = absurd (none-some x g)
bare_python t x (Some found) h g =
    let (digits, is, longest) = number_is_longest t found h in
    subst (λ y. IsBare Python t y.0 y.1) (same_Some (numbered_part found) x g) (digits, ap numbered is, longest)

bare_is : (syntax : TemplateSyntax) (t : Text) (x : PartAndRest) → bare_reference syntax t ≡ Some x → IsBare syntax t x.0 x.1
unfolding bare_reference
bare_is Dollar t x h = bare_dollar t x (leading_name t) refl h
bare_is Python t x h = bare_python t x (leading_number t) refl h

reference_in : (syntax : TemplateSyntax) (t : Text) (x : PartAndRest) (o : Option (Text × Text)) → enclosed_name syntax t ≡ o →
    elim o [ None ↦ bare_reference syntax t | Some found ↦ Some (named_part found) ] ≡ Some x → IsReference syntax t x.0 x.1
reference_in syntax t x None h g = inr (bare_is syntax t x g)
reference_in syntax t x (Some found) h g =
    subst (λ y. IsReference syntax t y.0 y.1) (same_Some (named_part found) x g) (inl (found.0, refl, enclosed_is syntax t found h))

-- what `reference` finds
pub reference_is : (syntax : TemplateSyntax) (t : Text) (x : PartAndRest) → reference syntax t ≡ Some x → IsReference syntax t x.0 x.1
unfolding reference
reference_is syntax t x h = reference_in syntax t x (enclosed_name syntax t) refl h

-- a text begins with a character that passes the test
abbrev pub PassesFirst : (ℕ → Bool) → Text → Type 0
PassesFirst test [] = ⊥
PassesFirst test (c ∷ t) = test c ≡ true

pub first_passes : (test : ℕ → Bool) (front rest : Text) → front ≢ [] → AllPass test front → PassesFirst test (front ++ rest)
first_passes test [] rest present all = absurd (present refl)
first_passes test (c ∷ front) rest present all = all.0

-- a word that begins with another character is not there
not_opened : (test : ℕ → Bool) (d : ℕ) (word t : Text) → test d ≡ false → PassesFirst test t → strip_prefix (d ∷ word) t ≡ None
unfolding strip_prefix
not_opened test d word [] fails h = refl
not_opened test d word (c ∷ t) fails h = ⊎_elim
    (λ e. absurd (both_ways (test c) (ap test (eqb-true c d e) ∙ fails) h))
    (λ e. ap (λ b. cond b (strip_prefix word t) None) e)
    (cases_Bool (c == d))

not_enclosed : (syntax : TemplateSyntax) (t : Text) → strip_prefix (opening_of syntax) t ≡ None → enclosed_name syntax t ≡ None
unfolding enclosed_name
not_enclosed syntax t h = ap (λ o. elim o [ None ↦ None | Some inside ↦ name_inside syntax inside ]) h

opens_python : is_decimal 0x67 ≡ false
opens_python = refl

abbrev bare_only_type : TemplateSyntax → Type 0
bare_only_type syntax = (t : Text) (part : Part) (rest : Text) → IsBare syntax t part rest →
    (enclosed_name syntax t ≡ None) × (bare_reference syntax t ≡ Some (part, rest))

bare_only : (syntax : TemplateSyntax) → bare_only_type syntax
unfolding bare_reference
bare_only Dollar t part rest (name, is, run) = (
  not_enclosed Dollar t (not_opened is_name_char 0x7B [] t opens_dollar (subst (PassesFirst is_name_char) (sym run.whole) (first_passes is_name_char name rest run.present run.all))),
  ap (option_map named_part) (name_only t name rest run) ∙ ap (λ p. Some (p, rest)) (sym is),
)
bare_only Python t part rest (digits, is, number) = (
  not_enclosed Python t (not_opened is_decimal 0x67 (codes "<") t opens_python (subst (PassesFirst is_decimal) (sym number.whole) (first_passes is_decimal digits rest number.present number.all))),
  ap (option_map numbered_part) (number_only t digits rest number) ∙ ap (λ p. Some (p, rest)) (sym is),
)

-- nothing else is a reference
pub reference_only : (syntax : TemplateSyntax) (t : Text) (part : Part) (rest : Text) → IsReference syntax t part rest → reference syntax t ≡ Some (part, rest)
unfolding reference
reference_only syntax t part rest r = ⊎_elim
    (λ (name, is, e). ap (λ o. elim o [ None ↦ bare_reference syntax t | Some found ↦ Some (named_part found) ]) (enclosed_only syntax t name rest e)
    ∙ ap (λ p. Some (p, rest)) (sym is))
    (λ b. let (none, found) = bare_only syntax t part rest b in
    ap (λ o. elim o [ None ↦ bare_reference syntax t | Some found ↦ Some (named_part found) ]) none ∙ found)
    r

-- a reference does not begin with a sign
no_sign_first : (syntax : TemplateSyntax) (test : ℕ → Bool) (t : Text) → test (sign_of syntax) ≡ false → PassesFirst test t → StopsAt (λ c. c == sign_of syntax) t
no_sign_first syntax test [] fails h = tt
no_sign_first syntax test (c ∷ t) fails h = ⊎_elim
    (λ e. absurd (both_ways (test c) (ap test (eqb-true c (sign_of syntax) e) ∙ fails) h)) (λ e. e) (cases_Bool (c == sign_of syntax))

enclosed_first : (syntax : TemplateSyntax) (more : Text) → StopsAt (λ c. c == sign_of syntax) (opening_of syntax ++ more)
enclosed_first Dollar more = refl
enclosed_first Python more = refl

bare_first : (syntax : TemplateSyntax) (t : Text) (part : Part) (rest : Text) → IsBare syntax t part rest → StopsAt (λ c. c == sign_of syntax) t
bare_first Dollar t part rest (name, is, run) =
    no_sign_first Dollar is_name_char t dollar_is_no_name
    (subst (PassesFirst is_name_char) (sym run.whole) (first_passes is_name_char name rest run.present run.all))
bare_first Python t part rest (digits, is, number) =
    no_sign_first Python is_decimal t refl
    (subst (PassesFirst is_decimal) (sym number.whole) (first_passes is_decimal digits rest number.present number.all))

pub reference_first : (syntax : TemplateSyntax) (t : Text) (part : Part) (rest : Text) → IsReference syntax t part rest → StopsAt (λ c. c == sign_of syntax) t
reference_first syntax t part rest r = ⊎_elim
    (λ (name, is, e). subst (StopsAt (λ c. c == sign_of syntax)) (sym e.whole) (enclosed_first syntax (name ++ (closing_of syntax ++ rest))))
    (λ b. bare_first syntax t part rest b)
    r
