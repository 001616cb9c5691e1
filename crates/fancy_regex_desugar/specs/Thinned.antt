-- A list of ways, of which some that repeat an earlier one are left out.
use Rattle.std.specs.Prelude.{◌≡◌, Bool, List, [], ◌∷◌}
use Rattle.std.specs.List.{find}
use Rattle.fancy_regex_meaning.specs.Ways.{MatchState}

-- the second list is the first one, in its order, without some of its items
pub data IsSublist {A : Type 0} : List A → List A → Type 0 where
  at_end : IsSublist [] []
  kept : {x : A} {all some : List A} → IsSublist all some → IsSublist (x ∷ all) (x ∷ some)
  left_out : {x : A} {all some : List A} → IsSublist all some → IsSublist (x ∷ all) some

-- The second list is the first one, in its order, without some of its repeated ways: for each test the first way that passes is the same.
pub record Thinned (all some : List MatchState) : Type 0 where
  pub in_order : IsSublist all some
  pub firsts : (test : MatchState → Bool) → find test all ≡ find test some
