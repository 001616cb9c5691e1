-- What holds of the value or the error of a result.
use Rattle.std.proofs.Common.{◌≡◌, subst}
use Rattle.std.specs.Prelude.{IfOk, IfErr, OnErr, Ok, Err}
use Rattle.std.specs.declared.result.Result.{Result}

pub ok_then : {T E : Type 0} (r : Result T E) {P Q : T → Type 0} → IfOk r P → ((x : T) → P x → Q x) → IfOk r Q
ok_then (Ok x) p f = f x p
ok_then (Err e) p f = tt

pub err_then : {T E : Type 0} (r : Result T E) {P Q : E → Type 0} → IfErr r P → ((e : E) → P e → Q e) → IfErr r Q
err_then (Ok x) p f = tt
err_then (Err e) p f = f e p

-- what holds of an error at two states holds at the same states
pub on_err_at : {T E S : Type 0} (P : S → S → Type 0) (r : Result T E) (a a' b b' : S) → a ≡ a' → b ≡ b' → OnErr r (P a b) → OnErr r (P a' b')
on_err_at {S = S} P r a a' b b' e f h = subst (λ (x : S). OnErr r (P x b')) e (subst (λ (y : S). OnErr r (P a y)) f h)
