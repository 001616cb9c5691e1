-- Readings taken apart, each as its function branches.
use Rattle.std.proofs.Common.{◌≡◌, ◌≢◌, ℕ, Bool, true, false, cond, ◌==◌, Option, Some, None, Result, Ok, Err, is_ok, refl, sym, ap, ◌∙◌, subst, true≢false, eqb-true, option_map, option_and_then}
use Rattle.std.proofs.lemmas.Bool.{eqb-false}
use Rattle.std.proofs.lemmas.Option.{none-some, same_Some}
use Rattle.fancy_regex_text.specs.ParseFault.{ParseFault, ParseOutcome, ◌>>=◌}
use Rattle.fancy_regex_lex_grammar.specs.Exact.{FindsExactly, ReadsExactly}

-- what an answer means: what is read, or where it stops
pub data Meant {A : Type 0} (Has : A → Type 0) (Stops : ParseFault → Type 0) : ParseOutcome A → Type 0 where
  is_read : {x : A} → Has x → Meant Has Stops (Ok x)
  is_stopped : {e : ParseFault} → Stops e → Meant Has Stops (Err e)

-- what was found, or that nothing is there
pub data Found {A : Type 0} (Has : A → Type 0) (Lacks : Type 0) : Option A → Type 0 where
  is_found : {x : A} → Has x → Found Has Lacks (Some x)
  is_none : Lacks → Found Has Lacks None

pub if_meant : {A : Type 0} {Has : A → Type 0} {Stops : ParseFault → Type 0} (b : Bool) (r s : ParseOutcome A) →
    (b ≡ true → Meant Has Stops r) → (b ≡ false → Meant Has Stops s) → Meant Has Stops (cond b r s)
if_meant true r s h k = h refl
if_meant false r s h k = k refl

pub option_meant : {A B : Type 0} {Has : A → Type 0} {Stops : ParseFault → Type 0} (o : Option B) (x : ParseOutcome A) (f : B → ParseOutcome A) →
    (o ≡ None → Meant Has Stops x) → ((b : B) → o ≡ Some b → Meant Has Stops (f b)) → Meant Has Stops (elim o [ None ↦ x | Some b ↦ f b ])
option_meant None x f h k = h refl
option_meant (Some b) x f h k = k b refl

pub bind_meant : {A B : Type 0} {Has : A → Type 0} {Stops : ParseFault → Type 0} (r : ParseOutcome B) (f : B → ParseOutcome A) →
    ((e : ParseFault) → r ≡ Err e → Stops e) → ((b : B) → r ≡ Ok b → Meant Has Stops (f b)) → Meant Has Stops (r >>= f)
bind_meant (Ok b) f h k = k b refl
bind_meant (Err e) f h k = is_stopped (h e refl)

pub if_found : {A : Type 0} {Has : A → Type 0} {Lacks : Type 0} (b : Bool) (r s : Option A) →
    (b ≡ true → Found Has Lacks r) → (b ≡ false → Found Has Lacks s) → Found Has Lacks (cond b r s)
if_found true r s h k = h refl
if_found false r s h k = k refl

pub option_found : {A B : Type 0} {Has : A → Type 0} {Lacks : Type 0} (o : Option B) (x : Option A) (f : B → Option A) →
    (o ≡ None → Found Has Lacks x) → ((b : B) → o ≡ Some b → Found Has Lacks (f b)) → Found Has Lacks (elim o [ None ↦ x | Some b ↦ f b ])
option_found None x f h k = h refl
option_found (Some b) x f h k = k b refl

pub then_found : {A B : Type 0} {Has : A → Type 0} {Lacks : Type 0} (f : B → Option A) (o : Option B) →
    (o ≡ None → Lacks) → ((b : B) → o ≡ Some b → Found Has Lacks (f b)) → Found Has Lacks (option_and_then f o)
then_found f None h k = is_none (h refl)
then_found f (Some b) h k = k b refl

pub map_found : {A B : Type 0} {Has : A → Type 0} {Lacks : Type 0} (f : B → A) (o : Option B) →
    (o ≡ None → Lacks) → ((b : B) → o ≡ Some b → Has (f b)) → Found Has Lacks (option_map f o)
map_found f None h k = is_none (h refl)
map_found f (Some b) h k = is_found (k b refl)

pub found_has : {A : Type 0} {Has : A → Type 0} {Lacks : Type 0} {o : Option A} → Found Has Lacks o → (x : A) → o ≡ Some x → Has x
found_has {Has = Has} (is_found {x = y} h) x e = subst Has (same_Some y x e) h
found_has (is_none l) x e = absurd (none-some x e)

pub found_lacks : {A : Type 0} {Has : A → Type 0} {Lacks : Type 0} {o : Option A} → Found Has Lacks o → o ≡ None → Lacks
found_lacks (is_found {x = y} h) e = absurd (none-some y (sym e))
found_lacks (is_none l) e = l

pub err-ok : {A E : Type 0} (e : E) (x : A) → Err e ≡ Ok x → ⊥
err-ok e x h = true≢false (sym (ap is_ok h))

ok_value : {A E : Type 0} → A → Result A E → A
ok_value otherwise (Ok x) = x
ok_value otherwise (Err e) = otherwise

err_value : {A E : Type 0} → E → Result A E → E
err_value otherwise (Ok x) = otherwise
err_value otherwise (Err e) = e

abbrev pub ok : {A : Type 0} → A → ParseOutcome A
ok x = Ok x

abbrev pub err : {A : Type 0} → ParseFault → ParseOutcome A
err e = Err e

pub same_Ok : {A : Type 0} (x y : A) → ok x ≡ ok y → x ≡ y
unfolding ok_value
same_Ok x y h = ap (ok_value x) h

pub same_Err : {A : Type 0} (e d : ParseFault) → err {A = A} e ≡ err {A = A} d → e ≡ d
unfolding err_value
same_Err e d h = ap (err_value e) h

pub meant_has : {A : Type 0} {Has : A → Type 0} {Stops : ParseFault → Type 0} {r : ParseOutcome A} → Meant Has Stops r → (x : A) → r ≡ Ok x → Has x
meant_has {Has = Has} (is_read {x = y} h) x e = subst Has (same_Ok y x e) h
meant_has (is_stopped {e = d} h) x e = absurd (err-ok d x e)

pub meant_stops : {A : Type 0} {Has : A → Type 0} {Stops : ParseFault → Type 0} {r : ParseOutcome A} → Meant Has Stops r → (e : ParseFault) → r ≡ Err e → Stops e
meant_stops (is_read {x = y} h) e k = absurd (err-ok e y (sym k))
meant_stops {A = A} {Stops = Stops} (is_stopped {e = d} h) e k = subst Stops (same_Err {A = A} d e k) h

pub finds_exactly : {A : Type 0} {Has : A → Type 0} (found : Option A) → ((x : A) → found ≡ Some x → Has x) →
    ((x : A) → Has x → found ≡ Some x) → FindsExactly found Has
finds_exactly found sound complete = record {
  sound = sound;
  complete = complete;
  none = λ e x h. none-some x (sym e ∙ complete x h);
  one = λ x y h k. same_Some x y (sym (complete x h) ∙ complete y k);
}

pub reads_exactly : {A : Type 0} {Has : A → Type 0} {Stops : ParseFault → Type 0} (read : ParseOutcome A) → Meant Has Stops read →
    ((x : A) → Has x → read ≡ Ok x) → ((e : ParseFault) → Stops e → read ≡ Err e) → ReadsExactly read Has Stops
reads_exactly {A = A} read meant complete fault_is_complete = record {
  sound = meant_has meant;
  complete = complete;
  fault_is_sound = meant_stops meant;
  fault_is_complete = fault_is_complete;
  one = λ x y h k. same_Ok x y (sym (complete x h) ∙ complete y k);
  one_fault = λ e d h k. same_Err {A = A} e d (sym (fault_is_complete e h) ∙ fault_is_complete d k);
  not_both = λ x e h k. err-ok e x (sym (fault_is_complete e k) ∙ complete x h);
}

pub at_char : (c d : ℕ) (P : ℕ → Type 0) → (c == d) ≡ true → P d → P c
at_char c d P h x = subst P (sym (eqb-true c d h)) x

pub char_is : (c d : ℕ) (P : ℕ → Type 0) → (c == d) ≡ true → P c → P d
char_is c d P h x = subst P (eqb-true c d h) x

pub is_not : (c d : ℕ) → (c == d) ≡ false → c ≢ d
is_not c d h = eqb-false c d h
