-- What a program keeps of its cap.
use Rattle.std.proofs.Common.{◌≡◌, ℕ, ◌<◌, ◌≤◌, Bool, true, false, cond, Option, Some, None, refl, sym, ◌∙◌, true≢false, arith}
use Rattle.fancy_regex_analysis.specs.AnalysisErrors.{is_too_complex}
use Rattle.fancy_regex_info.specs.declared.error.CompileError.{CompileError}
use Rattle.fancy_regex_info.specs.declared.error.CompileError.TheVariants.{Memory}
use Rattle.fancy_regex_program.specs.Caps.{cap_of, IsWithinCap, IsPastCap, capped_error}

pub within : (most : Option ℕ) (size : ℕ) → size ≤ cap_of most → IsWithinCap most size
within None size le = tt
within (Some n) size le = le

pub past_more : (most : Option ℕ) (low high : ℕ) → low ≤ high → IsPastCap most low → IsPastCap most high
past_more None low high le past = past
past_more (Some n) low high le past = omega (arith, le, past)

-- an error that is handed on, or want of memory in its place
pub handed : (P : CompileError → Type 0) → P Memory → (most : Option ℕ) (e : CompileError) → P e → P (capped_error most e)
handed P memory None e h = either (is_too_complex e)
  where
    either : (b : Bool) → P (cond b Memory e)
    either true = memory
    either false = h
handed P memory (Some n) e h = h

pub past : (most : Option ℕ) (e : CompileError) (size : ℕ) → (is_too_complex e ≡ true → cap_of most < size) → is_too_complex (capped_error most e) ≡ true → IsPastCap most size
past None e size lt too = never (is_too_complex e) refl too
  where
    never : (b : Bool) → is_too_complex e ≡ b → is_too_complex (cond b Memory e) ≡ true → ⊥
    never true is k = true≢false (sym k)
    never false is k = true≢false (sym k ∙ is)
past (Some n) e size lt too = lt too
