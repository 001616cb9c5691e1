-- The test for a character boundary.
use Rattle.std.proofs.Common.{◌≡◌, ℕ, ◌≤◌, true, List, length, arith}
use Rattle.std.proofs.lemmas.Bool.Decides.{nat_tests}
use Rattle.std.proofs.lemmas.Option.{slice_get-get_or}
use Rattle.std.specs.Str.{IsCharBoundary}
use Rattle.regex_hir.specs.Text.{is_boundary}

pub IsCharBoundary-of_test : (text : List ℕ) (i : ℕ) → i ≤ length text → is_boundary text i ≡ true → IsCharBoundary text i
unfolding is_boundary
IsCharBoundary-of_test text i le h =
    (le, λ lt high. let t = rw (slice_get-get_or text i 0 lt) at h in grind (arith, nat_tests))
