-- Words in ASCII.
use Rattle.std.proofs.Common.{◌≡◌, ℕ, ◌<◌, List, All, true, nat_lt, arith}
use Rattle.std.specs.List.{list_all}
use Rattle.std.proofs.lemmas.List.Sums.{AllPass-from_list_all}
use Rattle.std.proofs.lemmas.Bool.Decides.{nat_tests}

below : (b : ℕ) → nat_lt b 128 ≡ true → b < 128
below b h = grind (arith, nat_tests)

pub all_below : (bs : List ℕ) → list_all (λ b. nat_lt b 128) bs ≡ true → All (λ b. b < 128) bs
all_below bs h = let passes = AllPass-from_list_all (λ b. nat_lt b 128) bs h in (λ k d lt. below _ (passes k d lt))
