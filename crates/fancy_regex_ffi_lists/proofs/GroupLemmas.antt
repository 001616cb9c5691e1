-- The groups of members that match, one after another.
use Rattle.std.proofs.Common.{◌≡◌, ◌∙◌, ℕ, ◌+◌, ◌*◌, ◌/◌, List, [], ◌∷◌, ◌++◌, length, Bool, true, false, None, Some, ap, sym, subst, refl, arith, append_assoc, append-nil, if◌then◌else◌}
use Rattle.std.specs.Prelude.{slice_get, ◌==◌}
use Rattle.std.proofs.lemmas.List.{length-set}
use Rattle.fancy_regex.specs.MetaMatches.{meta_pattern}
use Rattle.fancy_regex.specs.RunInputs.{group_slots, match_slots}
use Rattle.fancy_regex.specs.Searches.{Match}
use Rattle.fancy_regex.specs.SetAnswers.{IsMatchOfMember}
use Rattle.fancy_regex.specs.Ways.{Pairs}
use Rattle.fancy_regex_meaning.specs.Groups.{Pattern}
use Rattle.fancy_regex.specs.Regex.{Regex}
use Rattle.fancy_regex_ffi_lists.specs.Groups.{IsGroupOf, AreGroupsFrom, AreGroupsAdded, AreGroupsOfMember, AreGroupsOfEach}
use Rattle.fancy_regex_ffi_lists.specs.declared.member.Member.{Member}

-- a group more is listed
pub from_more : (text slots : List ℕ) (number k n : ℕ) (group : Member) (groups : List Member) → k + length groups ≡ n → AreGroupsFrom text slots number k groups
    → IsGroupOf text slots number n group → AreGroupsFrom text slots number k (groups ++ group ∷ [])
from_more text slots number k n group [] at h g = let same : n ≡ k = omega (arith, at) in (subst (λ (i : ℕ). IsGroupOf text slots number i group) same g, tt)
from_more text slots number k n group (x ∷ xs) at h g = (h.0, from_more text slots number (k + 1) n group xs (omega (arith, at)) h.1 g)

flat_count : (ps : Pairs) → length (group_slots ps) ≡ 2 * length ps
flat_count [] = refl
flat_count (None ∷ ps) = omega (arith, flat_count ps)
flat_count (Some pair ∷ ps) = omega (arith, flat_count ps)

either_count : (b : Bool) (xs ys : List ℕ) (n : ℕ) → length xs ≡ n → length ys ≡ n → length (if b then xs else ys) ≡ n
either_count true xs ys n e f = e
either_count false xs ys n e f = f

-- a match has two offsets for each group
slots_count : (pattern : Pattern) (m : Match) → length (match_slots pattern m) / 2 ≡ length m.pairs
slots_count pattern m =
    let flat = flat_count m.pairs in
    let many : length (match_slots pattern m) ≡ 2 * length m.pairs =
    either_count (pattern.first_group == 0) _ _ _ flat (length-set _ 1 m.end ∙ length-set (group_slots m.pairs) 0 m.start ∙ flat) in
    omega (arith, many)

-- what is added for a member that matches is all its groups
pub added_of_member : (regexes : List Regex) (text shown slots : List ℕ) (found : ℕ × Match) (number : ℕ) (regex : Regex) (span : ℕ × ℕ) (old new : List Member)
    → IsMatchOfMember regexes found number regex slots span → shown ≡ text → AreGroupsAdded shown slots number old new
    → (added : List Member) × (new ≡ old ++ added) × AreGroupsOfMember regexes text found added
added_of_member regexes text shown slots found number regex span old new is same h = (
  h.0,
  h.1,
  record {
    regex = regex;
    member = is.member;
    many = h.2 ∙ ap (λ (s : List ℕ). length s / 2) is.groups ∙ slots_count (meta_pattern regex.meta) found.1;
    are = subst (λ (n : ℕ). AreGroupsFrom text (match_slots (meta_pattern regex.meta) found.1) n 0 h.0) is.number_is
        (subst (λ (s : List ℕ). AreGroupsFrom text s number 0 h.0) is.groups (subst (λ (t : List ℕ). AreGroupsFrom t slots number 0 h.0) same h.3));
  },
)

-- the groups that are listed, and after them those of the members that are left, are those of all members
abbrev pub Completes : List Regex → List ℕ → List (ℕ × Match) → List (ℕ × Match) → List Member → Type 0
Completes regexes text all left groups = (rest : List Member) → AreGroupsOfEach regexes text left rest → AreGroupsOfEach regexes text all (groups ++ rest)

module _ (regexes : List Regex) (text : List ℕ) (all left : List (ℕ × Match)) where
  -- at first none is listed
  pub completes_none : (groups : List Member) → left ≡ all → groups ≡ [] → Completes regexes text all left groups
  completes_none groups same none = λ rest each.
      subst (λ (gs : List Member). AreGroupsOfEach regexes text all gs) (ap (λ (gs : List Member). gs ++ rest) (sym none))
      (subst (λ (fs : List (ℕ × Match)). AreGroupsOfEach regexes text fs rest) same each)

  -- the groups of a member more are listed
  pub completes_next : (found : ℕ × Match) (others : List (ℕ × Match)) (groups added new : List Member) → left ≡ found ∷ others → new ≡ groups ++ added
      → AreGroupsOfMember regexes text found added → Completes regexes text all left groups → Completes regexes text all others new
  completes_next found others groups added new is more of h = λ rest each.
      subst (λ (gs : List Member). AreGroupsOfEach regexes text all gs) (sym (append_assoc groups added rest) ∙ ap (λ (gs : List Member). gs ++ rest) (sym more))
      (h (added ++ rest) (subst (λ (fs : List (ℕ × Match)). AreGroupsOfEach regexes text fs (added ++ rest)) (sym is) (added, rest, refl, of, each)))

  -- the groups of all members are listed
  pub completes_all : (groups : List Member) → left ≡ [] → Completes regexes text all left groups → AreGroupsOfEach regexes text all groups
  completes_all groups none h =
      subst (λ (gs : List Member). AreGroupsOfEach regexes text all gs) (append-nil groups) (h [] (subst (λ (fs : List (ℕ × Match)). AreGroupsOfEach regexes text fs []) (sym none) refl))
