-- Prefixes of a text and the rest after them. Each relation takes the text, the prefix and the rest.
use Rattle.std.specs.Prelude.{◌≡◌, ◌≢◌, ℕ, zero, suc, Bool, true, false, [], ◌∷◌}
use Rattle.fancy_regex_text.specs.Text.{Text}

-- the longest prefix of characters that pass a test
pub data IsRun (test : ℕ → Bool) : Text → Text → Text → Type 0 where
  at_end : IsRun test [] [] []
  at_other : {c : ℕ} {t : Text} → test c ≡ false → IsRun test (c ∷ t) [] (c ∷ t)
  one_more : {c : ℕ} {t front rest : Text} → test c ≡ true → IsRun test t front rest → IsRun test (c ∷ t) (c ∷ front) rest

-- a prefix of exactly n characters, each of which passes a test
pub data IsRunOfLength (test : ℕ → Bool) : ℕ → Text → Text → Text → Type 0 where
  none : {t : Text} → IsRunOfLength test zero t [] t
  and_one : {n c : ℕ} {t front rest : Text} → test c ≡ true → IsRunOfLength test n t front rest → IsRunOfLength test (suc n) (c ∷ t) (c ∷ front) rest

-- the text before the first occurrence of a character, and the rest after that character
pub data IsTextUntil (close : ℕ) : Text → Text → Text → Type 0 where
  here : {t : Text} → IsTextUntil close (close ∷ t) [] t
  later : {c : ℕ} {t front rest : Text} → c ≢ close → IsTextUntil close t front rest → IsTextUntil close (c ∷ t) (c ∷ front) rest

-- an optional character: itself or the empty text, and the rest
pub data IsOptional (sign : ℕ) : Text → Text → Text → Type 0 where
  there : {t : Text} → IsOptional sign (sign ∷ t) (sign ∷ []) t
  absent_at_end : IsOptional sign [] [] []
  absent : {c : ℕ} {t : Text} → c ≢ sign → IsOptional sign (c ∷ t) [] (c ∷ t)
