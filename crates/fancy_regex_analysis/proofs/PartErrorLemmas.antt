-- How a refusal of a part is one of the whole.
use Rattle.std.proofs.Common.{◌≡◌, ◌⊎◌, ⊎_elim, inl, inr, Bool, true, false, ◌||◌, Result, Ok, Err, IfErr, IsErrAnd, refl, sym, subst}
use Rattle.fancy_regex_analysis.specs.NodeErrors.{is_memory}
use Rattle.fancy_regex_info.specs.declared.error.CompileError.{CompileError}
use Rattle.fancy_regex_info.proofs.ReachabilityLemmas.{or_left, or_right, or_cases}

pub or_keeps : (a b c d : Bool) → (a ≡ true → c ≡ true) → (b ≡ true → d ≡ true) → (a || b) ≡ true → (c || d) ≡ true
or_keeps a b c d f g h = ⊎_elim (λ e. or_left c d (f e)) (λ e. or_right c d (g e)) (or_cases a b h)

pub or_none : (a b : Bool) → a ≡ false → b ≡ false → (a || b) ≡ false
or_none true b h g = cc
or_none false b h g = g

-- an error that is handed on
pub hands_on : {T : Type 0} (r : Result T CompileError) (e : CompileError) (P Q : CompileError → Bool) → IsErrAnd r (λ f. f ≡ e) →
    (P e ≡ true → Q e ≡ true) → (is_memory e || P e) ≡ true → IfErr r (λ f. (is_memory f || Q f) ≡ true)
hands_on (Ok x) e P Q d f h = absurd d
hands_on (Err y) e P Q d f h =
    subst (λ g. (is_memory g || Q g) ≡ true) (sym d) (or_keeps (is_memory e) (P e) (is_memory e) (Q e) (λ m. m) f h)

pub either_is : (b : Bool) → (b ≡ true) ⊎ (b ≡ false)
either_is true = inl refl
either_is false = inr refl

-- an error that is handed on with what is known of it
pub gives : {T : Type 0} (r : Result T CompileError) (e : CompileError) (P : CompileError → Type 0) → IsErrAnd r (λ f. f ≡ e) → P e → IfErr r P
gives (Ok x) e P d h = absurd d
gives (Err y) e P d h = subst P (sym d) h
