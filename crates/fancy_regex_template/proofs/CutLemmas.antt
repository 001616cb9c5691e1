-- The parts of a template are the one way to cut it.
use Rattle.std.proofs.Common.{◌≡◌, ◌≢◌, ℕ, zero, suc, ◌<◌, ◌≤◌, Bool, true, cond, ◌==◌, [], ◌∷◌, ◌++◌, List, length, Option, Some, None, refl, sym, ap, ◌∙◌, subst, arith, ⊎_elim}
use Rattle.std.proofs.lemmas.Option.{none-some, same_Some}
use Rattle.std.proofs.lemmas.List.{length-append}
use Rattle.std.proofs.lemmas.Bool.{cases_Bool, eqb-true, eq-eqb, not_from_false, not-true}
use Rattle.fancy_regex_text.specs.Text.{Text, span}
use Rattle.fancy_regex_template.specs.Parts.{Part, doubled_sign, loose_sign, reference, strip_sign, part_after_sign, first_part, first_parts, parts, literal_part, is_no_sign, opening_of, closing_of, sign_of}
use Rattle.fancy_regex_template.specs.Cuts.{StopsAt, IsBare, IsReference, BeginsWith, plain, doubled, refers, loose, Cuts, nothing_left, one_part, PartsAreCut}
use Rattle.fancy_regex_template.specs.declared.syntax.TemplateSyntax.{TemplateSyntax}
use Rattle.fancy_regex_template.specs.declared.syntax.TemplateSyntax.TheVariants.{Dollar, Python}
use Rattle.fancy_regex_template.proofs.Runs.{span-true, span_is, span_only, run_shorter}
use Rattle.fancy_regex_template.proofs.ReferenceLemmas.{reference_is, reference_only, reference_first, PassesFirst, first_passes}

abbrev PartAndRest : Type 0
PartAndRest = Part × Text

abbrev is_sign : TemplateSyntax → ℕ → Bool
is_sign syntax c = c == sign_of syntax

cons_nil : (c : ℕ) (t : Text) → ◌≡◌ {A = Text} (c ∷ t) [] → ⊥
cons_nil c t h = cc

-- signs
abbrev Stripped : Text → Option Text
Stripped t = Some t

sign_stripped : (syntax : TemplateSyntax) (c : ℕ) (t : Text) → is_sign syntax c ≡ true → strip_sign syntax (c ∷ t) ≡ Some t
unfolding strip_sign
sign_stripped syntax c t h = ap (λ b. cond b (Stripped t) None) h

sign_missing : (syntax : TemplateSyntax) (t : Text) → StopsAt (is_sign syntax) t → strip_sign syntax t ≡ None
unfolding strip_sign
sign_missing syntax [] h = refl
sign_missing syntax (c ∷ t) h = ap (λ b. cond b (Stripped t) None) h

stripped_is : (syntax : TemplateSyntax) (t rest : Text) → strip_sign syntax t ≡ Some rest → t ≡ sign_of syntax ∷ rest
unfolding strip_sign
stripped_is syntax [] rest h = absurd (none-some rest h)
stripped_is syntax (c ∷ t) rest h = ⊎_elim
    (λ e. ap (λ d. d ∷ t) (eqb-true c (sign_of syntax) e) ∙ ap (λ u. sign_of syntax ∷ u) (same_Some t rest (sym (sign_stripped syntax c t e) ∙ h)))
    (λ e. absurd (none-some rest (sym (sign_missing syntax (c ∷ t) e) ∙ h)))
    (cases_Bool (is_sign syntax c))

not_stripped : (syntax : TemplateSyntax) (t : Text) → strip_sign syntax t ≡ None → StopsAt (is_sign syntax) t
not_stripped syntax [] h = tt
not_stripped syntax (c ∷ t) h = ⊎_elim (λ e. absurd (none-some t (sym h ∙ sign_stripped syntax c t e))) (λ e. e) (cases_Bool (is_sign syntax c))

-- the part after a sign
abbrev BeginsAt : TemplateSyntax → Text → PartAndRest → Type 0
BeginsAt syntax t x = BeginsWith syntax t x.0 x.1

abbrev found_or_loose : Text → Option PartAndRest → PartAndRest
found_or_loose t o = elim o [ None ↦ (loose_sign, t) | Some found ↦ found ]

abbrev part_after : TemplateSyntax → Text → Option Text → PartAndRest
part_after syntax t o = elim o [ Some rest ↦ (doubled_sign, rest) | None ↦ found_or_loose t (reference syntax t) ]

reference_or_loose : (syntax : TemplateSyntax) (t : Text) (o : Option PartAndRest) → StopsAt (is_sign syntax) t → reference syntax t ≡ o →
    BeginsAt syntax (sign_of syntax ∷ t) (found_or_loose t o)
reference_or_loose syntax t None stops h = loose refl refl stops (λ other after r. none-some (other, after) (sym h ∙ reference_only syntax t other after r))
reference_or_loose syntax t (Some x) stops h = refers t refl (reference_is syntax t x h)

after_sign : (syntax : TemplateSyntax) (t : Text) (o : Option Text) → strip_sign syntax t ≡ o → BeginsAt syntax (sign_of syntax ∷ t) (part_after syntax t o)
after_sign syntax t None h = reference_or_loose syntax t (reference syntax t) (not_stripped syntax t h) refl
after_sign syntax t (Some rest) h = doubled refl (ap (λ u. sign_of syntax ∷ u) (stripped_is syntax t rest h))

after_sign_begins : (syntax : TemplateSyntax) (t : Text) → BeginsAt syntax (sign_of syntax ∷ t) (part_after_sign syntax t)
unfolding part_after_sign
after_sign_begins syntax t = after_sign syntax t (strip_sign syntax t) refl

span_present : (test : ℕ → Bool) (c : ℕ) (t : Text) → test c ≡ true → (span test (c ∷ t)).0 ≢ []
span_present test c t h e = cons_nil c (span test t).0 (sym (ap (λ x. x.0) (span-true test c t h)) ∙ e)

abbrev first_in : TemplateSyntax → Text → Option Text → Option PartAndRest
first_in syntax t o = elim o [ None ↦ Some (literal_part (span (is_no_sign syntax) t)) | Some following ↦ Some (part_after_sign syntax following) ]

first_begins_in : (syntax : TemplateSyntax) (c : ℕ) (t : Text) (x : PartAndRest) (o : Option Text) → strip_sign syntax (c ∷ t) ≡ o →
    first_in syntax (c ∷ t) o ≡ Some x → BeginsAt syntax (c ∷ t) x
first_begins_in syntax c t x None h g =
    let s = span_is (is_no_sign syntax) (c ∷ t) in
    subst (BeginsAt syntax (c ∷ t)) (same_Some (literal_part (span (is_no_sign syntax) (c ∷ t))) x g)
    (plain (span (is_no_sign syntax) (c ∷ t)).0 refl (record {
      whole = s.whole;
      present = span_present (is_no_sign syntax) c t (not_from_false (is_sign syntax c) (not_stripped syntax (c ∷ t) h));
      all = s.all;
      longest = s.longest;
    }))
first_begins_in syntax c t x (Some following) h g =
    subst (λ u. BeginsAt syntax u x) (sym (stripped_is syntax (c ∷ t) following h))
    (subst (BeginsAt syntax (sign_of syntax ∷ following)) (same_Some (part_after_sign syntax following) x g) (after_sign_begins syntax following))

-- what `first_part` finds
pub first_begins : (syntax : TemplateSyntax) (t : Text) (x : PartAndRest) → first_part syntax t ≡ Some x → BeginsWith syntax t x.0 x.1
unfolding first_part
first_begins syntax [] x h = absurd (none-some x h)
first_begins syntax (c ∷ t) x h = first_begins_in syntax c t x (strip_sign syntax (c ∷ t)) refl h

-- no other part is the first
sign_in_front : (syntax : TemplateSyntax) (following : Text) → first_part syntax (sign_of syntax ∷ following) ≡ Some (part_after_sign syntax following)
unfolding first_part
sign_in_front syntax following =
    ap (λ o. first_in syntax (sign_of syntax ∷ following) o) (sign_stripped syntax (sign_of syntax) following (eq-eqb (sign_of syntax) (sign_of syntax) refl))

no_sign_in_front : (syntax : TemplateSyntax) (t : Text) → PassesFirst (is_no_sign syntax) t → first_part syntax t ≡ Some (literal_part (span (is_no_sign syntax) t))
unfolding first_part
no_sign_in_front syntax [] h = absurd h
no_sign_in_front syntax (c ∷ t) h = ap (λ o. first_in syntax (c ∷ t) o) (sign_missing syntax (c ∷ t) (not-true (is_sign syntax c) h))

abbrev with_part : Part → Text → PartAndRest
with_part part rest = (part, rest)

after_doubled : (syntax : TemplateSyntax) (rest : Text) → part_after_sign syntax (sign_of syntax ∷ rest) ≡ (doubled_sign, rest)
unfolding part_after_sign
after_doubled syntax rest =
    ap (part_after syntax (sign_of syntax ∷ rest)) (sign_stripped syntax (sign_of syntax) rest (eq-eqb (sign_of syntax) (sign_of syntax) refl))

after_single : (syntax : TemplateSyntax) (t : Text) (o : Option PartAndRest) → StopsAt (is_sign syntax) t → reference syntax t ≡ o →
    part_after_sign syntax t ≡ found_or_loose t o
unfolding part_after_sign
after_single syntax t o stops h = ap (part_after syntax t) (sign_missing syntax t stops) ∙ ap (found_or_loose t) h

no_reference : (syntax : TemplateSyntax) (t : Text) (o : Option PartAndRest) → reference syntax t ≡ o →
    ((other : Part) (after : Text) → IsReference syntax t other after → ⊥) → reference syntax t ≡ None
no_reference syntax t None h none = h
no_reference syntax t (Some x) h none = absurd (none x.0 x.1 (reference_is syntax t x h))

pub first_only : (syntax : TemplateSyntax) (t : Text) (part : Part) (rest : Text) → BeginsWith syntax t part rest → first_part syntax t ≡ Some (part, rest)
first_only syntax t part rest (plain run is r) =
    no_sign_in_front syntax t (subst (PassesFirst (is_no_sign syntax)) (sym r.whole) (first_passes (is_no_sign syntax) run rest r.present r.all))
    ∙ ap (λ x. Some (literal_part x)) (span_only (is_no_sign syntax) t run rest (record { whole = r.whole; all = r.all; longest = r.longest }))
    ∙ ap (λ p. Some (with_part p rest)) (sym is)
first_only syntax t part rest (doubled is whole) =
    ap (first_part syntax) whole ∙ sign_in_front syntax (sign_of syntax ∷ rest) ∙ ap Some (after_doubled syntax rest) ∙ ap (λ p. Some (with_part p rest)) (sym is)
first_only syntax t part rest (refers following whole r) =
    ap (first_part syntax) whole ∙ sign_in_front syntax following
    ∙ ap Some (after_single syntax following (Some (with_part part rest)) (reference_first syntax following part rest r) (reference_only syntax following part rest r))
first_only syntax t part rest (loose is whole stops none) =
    ap (first_part syntax) whole ∙ sign_in_front syntax rest
    ∙ ap Some (after_single syntax rest None stops (no_reference syntax rest (reference syntax rest) refl none)) ∙ ap (λ p. Some (with_part p rest)) (sym is)

-- what is left is shorter
bare_shorter : (syntax : TemplateSyntax) (t : Text) (part : Part) (rest : Text) → IsBare syntax t part rest → length rest < length t
bare_shorter Dollar t part rest (name, is, r) = subst (λ u. length rest < length u) (sym r.whole) (run_shorter name rest r.present)
bare_shorter Python t part rest (digits, is, r) = subst (λ u. length rest < length u) (sym r.whole) (run_shorter digits rest r.present)

reference_shorter : (syntax : TemplateSyntax) (t : Text) (part : Part) (rest : Text) → IsReference syntax t part rest → length rest ≤ length t
reference_shorter syntax t part rest r = ⊎_elim
    (λ (name, is, e). omega (
      arith,
      ap length e.whole,
      length-append (opening_of syntax) (name ++ (closing_of syntax ++ rest)),
      length-append name (closing_of syntax ++ rest),
      length-append (closing_of syntax) rest,
    ))
    (λ b. omega (arith, bare_shorter syntax t part rest b))
    r

pub begins_shorter : (syntax : TemplateSyntax) (t : Text) (part : Part) (rest : Text) → BeginsWith syntax t part rest → length rest < length t
begins_shorter syntax t part rest (plain run is r) = subst (λ u. length rest < length u) (sym r.whole) (run_shorter run rest r.present)
begins_shorter syntax t part rest (doubled is whole) = omega (arith, ap length whole)
begins_shorter syntax t part rest (refers following whole r) = omega (arith, ap length whole, reference_shorter syntax following part rest r)
begins_shorter syntax t part rest (loose is whole stops none) = omega (arith, ap length whole)

pub first_shorter : (syntax : TemplateSyntax) (t : Text) (x : PartAndRest) → first_part syntax t ≡ Some x → length x.1 < length t
first_shorter syntax t x h = begins_shorter syntax t x.0 x.1 (first_begins syntax t x h)

-- all parts
abbrev then_parts : ℕ → TemplateSyntax → Option PartAndRest → List Part
then_parts n syntax o = elim o [ None ↦ [] | Some found ↦ found.0 ∷ first_parts n syntax found.1 ]

none_of_nothing : (n : ℕ) (syntax : TemplateSyntax) → first_parts n syntax [] ≡ []
unfolding first_parts first_part
none_of_nothing zero syntax = refl
none_of_nothing (suc n) syntax = refl

nothing : (t : Text) → length t ≤ 0 → t ≡ []
nothing [] h = refl
nothing (c ∷ t) h = absurd (omega arith)

same_then : (n m : ℕ) (syntax : TemplateSyntax) (t : Text) (o : Option PartAndRest) → first_part syntax t ≡ o →
    ((x : PartAndRest) → first_part syntax t ≡ Some x → first_parts n syntax x.1 ≡ first_parts m syntax x.1) → then_parts n syntax o ≡ then_parts m syntax o
same_then n m syntax t None h same = refl
same_then n m syntax t (Some x) h same = ap (λ ps. x.0 ∷ ps) (same x h)

-- more steps than characters change nothing
enough : (n m : ℕ) (syntax : TemplateSyntax) (t : Text) → length t ≤ n → length t ≤ m → first_parts n syntax t ≡ first_parts m syntax t
unfolding first_parts
enough zero m syntax t h k = subst (λ u. first_parts 0 syntax u ≡ first_parts m syntax u) (sym (nothing t h)) (none_of_nothing 0 syntax ∙ sym (none_of_nothing m syntax))
enough (suc n) zero syntax t h k = subst (λ u. first_parts (suc n) syntax u ≡ first_parts 0 syntax u) (sym (nothing t k)) (none_of_nothing (suc n) syntax ∙ sym (none_of_nothing 0 syntax))
enough (suc n) (suc m) syntax t h k = same_then n m syntax t (first_part syntax t) refl
    (λ x e. enough n m syntax x.1 (omega (arith, first_shorter syntax t x e)) (omega (arith, first_shorter syntax t x e)))

pub parts_none : (syntax : TemplateSyntax) (t : Text) → first_part syntax t ≡ None → parts syntax t ≡ []
unfolding parts first_parts
parts_none syntax t h = enough (length t) (suc (length t)) syntax t (omega arith) (omega arith) ∙ ap (then_parts (length t) syntax) h

pub parts_more : (syntax : TemplateSyntax) (t : Text) (part : Part) (rest : Text) → first_part syntax t ≡ Some (part, rest) → parts syntax t ≡ part ∷ parts syntax rest
unfolding parts first_parts
parts_more syntax t part rest h =
    let shorter = first_shorter syntax t (part, rest) h in
    enough (length t) (suc (length t)) syntax t (omega arith) (omega arith) ∙ ap (then_parts (length t) syntax) h
    ∙ ap (λ ps. part ∷ ps) (enough (length t) (length rest) syntax rest (omega arith) (omega arith))

-- the parts cut the template
nothing_first : (syntax : TemplateSyntax) (t : Text) → first_part syntax t ≡ None → t ≡ []
unfolding first_part
nothing_first syntax [] h = refl
nothing_first syntax (c ∷ t) h = absurd (found (strip_sign syntax (c ∷ t)) h)
  where
    found : (o : Option Text) → first_in syntax (c ∷ t) o ≡ None → ⊥
    found None e = none-some (literal_part (span (is_no_sign syntax) (c ∷ t))) (sym e)
    found (Some following) e = none-some (part_after_sign syntax following) (sym e)

then_cuts : (n : ℕ) (syntax : TemplateSyntax) (t : Text) (o : Option PartAndRest) → first_part syntax t ≡ o →
    ((x : PartAndRest) → first_part syntax t ≡ Some x → Cuts syntax x.1 (first_parts n syntax x.1)) → Cuts syntax t (then_parts n syntax o)
then_cuts n syntax t None h more = subst (λ u. Cuts syntax u []) (sym (nothing_first syntax t h)) nothing_left
then_cuts n syntax t (Some x) h more = one_part t x.1 (first_begins syntax t x h) (more x h)

cuts_within : (n : ℕ) (syntax : TemplateSyntax) (t : Text) → length t ≤ n → Cuts syntax t (first_parts n syntax t)
unfolding first_parts
cuts_within zero syntax t h = subst (λ u. Cuts syntax u []) (sym (nothing t h)) nothing_left
cuts_within (suc n) syntax t h = then_cuts n syntax t (first_part syntax t) refl
    (λ x e. cuts_within n syntax x.1 (omega (arith, first_shorter syntax t x e)))

parts_cut : (syntax : TemplateSyntax) (t : Text) → Cuts syntax t (parts syntax t)
unfolding parts
parts_cut syntax t = cuts_within (length t) syntax t (omega arith)

pub none_of_parts : (syntax : TemplateSyntax) → parts syntax [] ≡ []
unfolding parts
none_of_parts syntax = none_of_nothing 0 syntax

cuts_only : (syntax : TemplateSyntax) (t : Text) (ps : List Part) → Cuts syntax t ps → ps ≡ parts syntax t
cuts_only syntax _ _ nothing_left = sym (none_of_parts syntax)
cuts_only syntax _ _ (one_part {part} {ps} t rest begins cuts) =
    ap (λ qs. part ∷ qs) (cuts_only syntax rest ps cuts) ∙ sym (parts_more syntax t part rest (first_only syntax t part rest begins))

pub parts_are_cut : PartsAreCut
parts_are_cut syntax t ps = (cuts_only syntax t ps, λ e. subst (Cuts syntax t) (sym e) (parts_cut syntax t))
