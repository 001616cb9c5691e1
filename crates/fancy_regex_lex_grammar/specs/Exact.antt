-- What it means that a relation describes a parsing function exactly.
use Rattle.std.specs.Prelude.{◌≡◌, Option, Some, None, Ok, Err}
use Rattle.fancy_regex_text.specs.Text.{Text, bytes}
use Rattle.fancy_regex_text.specs.ParseFault.{Kind, ParseFault, ParseOutcome}

-- The function returns the value that the relation holds of, or None where there is none; the relation holds of at most one value.
pub record FindsExactly {A : Type 0} (found : Option A) (Has : A → Type 0) : Type 0 where
  pub sound : (x : A) → found ≡ Some x → Has x
  pub complete : (x : A) → Has x → found ≡ Some x
  pub none : found ≡ None → (x : A) → Has x → ⊥
  pub one : (x y : A) → Has x → Has y → x ≡ y

-- The function returns the value that `Has` holds of, or the error that `Stops` holds of. Each holds of at most one, and never both hold of
-- something.
pub record ReadsExactly {A : Type 0} (read : ParseOutcome A) (Has : A → Type 0) (Stops : ParseFault → Type 0) : Type 0 where
  pub sound : (x : A) → read ≡ Ok x → Has x
  pub complete : (x : A) → Has x → read ≡ Ok x
  pub fault_is_sound : (e : ParseFault) → read ≡ Err e → Stops e
  pub fault_is_complete : (e : ParseFault) → Stops e → read ≡ Err e
  pub one : (x y : A) → Has x → Has y → x ≡ y
  pub one_fault : (e d : ParseFault) → Stops e → Stops d → e ≡ d
  pub not_both : (x : A) (e : ParseFault) → Has x → Stops e → ⊥

-- an error of one of these kinds, at the position where this rest of the pattern begins
pub record FailsAt (Stops : Kind → Type 0) (here : Text) (e : ParseFault) : Type 0 where
  pub kind : Stops e.kind
  pub place : e.left ≡ bytes here

-- the error of this kind, at the position where this rest of the pattern begins
abbrev pub at : Kind → Text → ParseFault
at kind t = record { kind = kind; left = bytes t }
