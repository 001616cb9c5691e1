-- Why the states of a delegated part are refused.
use Rattle.std.proofs.Common.{◌≡◌, ℕ, ◌+◌, ◌<◌, Bool, true, subst, arith, Result, Ok, Err, IfErr, IsErrAnd, sym}
use Rattle.std.specs.Prelude.{nat_le, min, string_bytes}
use Rattle.std.proofs.lemmas.Bool.Decides.{nat_tests}
use Rattle.fancy_regex_tree.specs.Tree.{Tree}
use Rattle.fancy_regex_meaning.specs.Sizes.{unbounded, weight}
use Rattle.fancy_regex_meaning.specs.Groups.{pattern_of}
use Rattle.fancy_regex_linear.specs.Plain.{classes}
use Rattle.fancy_regex_linear.specs.Refusals.{ShowsClass, IsCause, greatest_weight}
use Rattle.fancy_regex_info.specs.declared.options.BytesMode.TheVariants.{Unicode}
use Rattle.fancy_regex_info.specs.declared.options.CompileOptions.{CompileOptions}
use Rattle.fancy_regex_info.specs.declared.error.CompileError.{CompileError}
use Rattle.fancy_regex_info.specs.declared.error.CompileError.TheVariants.{InnerError, FeatureNotYetSupported, PatternTooComplex, Memory}
use Rattle.fancy_regex_desugar.specs.Delegates.{searched, is_delegated}
use Rattle.fancy_regex_desugar.proofs.DelegateProofs.{part_of, searched_can_be}
use Rattle.fancy_regex_program.specs.Parts.{IsPartCause}

-- an error that is handed on with what is known of it
pub hands : {T : Type 0} (r : Result T CompileError) (e : CompileError) (P : CompileError → Type 0) → IsErrAnd r (λ f. f ≡ e) → P e → IfErr r P
hands (Ok x) e P is h = absurd is
hands (Err y) e P is h = subst P (sym is) h

-- what is light is not too heavy for the linear engine
light_enough : (w : ℕ) → nat_le (min unbounded w) 4096 ≡ true → greatest_weight < w + 2 → ⊥
light_enough w light heavy = grind (arith, nat_tests)

pub part_cause : (u for_any : Bool) (t : Tree) (options : CompileOptions) → options.unicode ≡ u → options.bytes_mode ≡ Unicode → is_delegated for_any t ≡ true →
    (e : CompileError) → IsCause options (pattern_of (searched for_any t)) e → IsPartCause u for_any t e
part_cause u for_any t options same mode d (InnerError shown) h = (d, subst (λ v. ShowsClass v (classes (searched for_any t)) (string_bytes shown)) same h)
part_cause u for_any t options same mode d (FeatureNotYetSupported shown) h = absurd (h.1 mode)
part_cause u for_any t options same mode d PatternTooComplex h =
    let sought = searched for_any t in
    absurd (light_enough (weight (pattern_of sought).groups sought) (part_of sought (searched_can_be for_any t d)).light h)
part_cause u for_any t options same mode d Memory h = tt
part_cause u for_any t options same mode d _ h = absurd h
