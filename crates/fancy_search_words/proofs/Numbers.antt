-- The number of an option.
use Rattle.std.proofs.Common.{◌≡◌, ℕ, List, Option, Some, None, Result, Ok, Err, true, false, refl, ap, cond}
use Rattle.std.specs.Str.Parse.{ParsesUnsigned, digits_value, without_leading_plus}
use Rattle.std.specs.Prelude.{codes, option_and_then}
use Rattle.clap.specs.Matches.{ReadsOne, one_text}
use Rattle.clap.specs.Walk.{rows_of}
use Rattle.clap.specs.declared.parser.matches.Found.{Found}
use Rattle.clap.proofs.WalkLemmas.{one_text-rows}
use Rattle.clap.specs.Values.{IsUnsignedIn}
use Rattle.clap.specs.ValueTests.{accepts}
use Rattle.clap.specs.declared.builder.value_parser.ValueParser.TheVariants.{Unsigned}
use Rattle.clap.proofs.ValueTestLemmas.{accepts-Accepts, Accepts-accepts}
use Rattle.std.proofs.Common.{arith}
use Rattle.fancy_search_words.specs.CommandLine.{max_limit}
use Rattle.fancy_search_words.specs.Requests.{number_of, limit_of}

-- a number that `u64` reads is the one that the text stands for
pub number_read : (E : Type 0) (t : List ℕ) (r : Option ℕ) → ReadsOne {T = ℕ} {E = E} (ParsesUnsigned 64 10) t r → r ≡ number_of t
number_read E t (Some v) h =
    let n = digits_value 10 (without_leading_plus t) in
    let is : accepts false (Unsigned 0 max_limit) t ≡ true = Accepts-accepts false (Unsigned 0 max_limit) t (h.0.0, h.0.1, omega arith, omega (arith, h.0.1)) in
    rw is (ap Some h.1)
number_read E t None h =
    elim (accepts false (Unsigned 0 max_limit) t) as (λ b. accepts false (Unsigned 0 max_limit) t ≡ b → None ≡ cond b (Some (digits_value 10 (without_leading_plus t))) None) [
      | true ↦ λ is. let read : IsUnsignedIn 0 max_limit t = accepts-Accepts false (Unsigned 0 max_limit) t is in absurd (h.1 (read.0, read.1))
      | false ↦ λ is. refl
    ] refl

-- the number of `--limit`
pub limit_read : (E : Type 0) (f : Found) (r : Option ℕ) → (one_text f (codes "limit") ≡ None → r ≡ None)
    → ((t : List ℕ) → one_text f (codes "limit") ≡ Some t → ReadsOne {T = ℕ} {E = E} (ParsesUnsigned 64 10) t r) → r ≡ limit_of (rows_of f)
limit_read E f r none some = rw (← one_text-rows f (codes "limit")) (go (one_text f (codes "limit")) none some)
  where
    go : (o : Option (List ℕ)) → (o ≡ None → r ≡ None) → ((t : List ℕ) → o ≡ Some t → ReadsOne {T = ℕ} {E = E} (ParsesUnsigned 64 10) t r) → r ≡ option_and_then number_of o
    go None none some = none refl
    go (Some t) none some = number_read E t r (some t refl)

-- what is read by one rule is read by each rule that it gives
pub reads_as : (E : Type 0) (G H : List ℕ → Result ℕ E → Type 0) (t : List ℕ) (r : Option ℕ) → ReadsOne {T = ℕ} {E = E} G t r
    → ((x : Result ℕ E) → G t x → H t x) → ReadsOne {T = ℕ} {E = E} H t r
reads_as E G H t (Some v) h f = f (Ok v) h
reads_as E G H t None h f = (h.0, f (Err h.0) h.1)
