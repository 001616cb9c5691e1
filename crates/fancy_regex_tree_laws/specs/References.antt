-- Which group a name and a signed (relative) number refer to.
use Rattle.std.specs.Prelude.{◌≡◌, ℕ, suc, ◌+◌, ◌<◌, ◌≤◌, pos, negsuc, true, false, ◌↔◌, [], ◌∷◌, ◌++◌, length, map, Option, Some, None}
use Rattle.std.specs.List.{Contains, filter_map}
use Rattle.std.specs.List.Sorted.{IsStrictlyIncreasing}
use Rattle.std.specs.Str.{all_scalars}
use Rattle.fancy_regex_text.specs.Text.{unbounded}
use Rattle.fancy_regex_tree.specs.Tree.{Text}
use Rattle.fancy_regex_tree.specs.Numbering.{Names, counted, last_named, numbers_of, relative_number}

-- The group with this number has the name; numbers count from 1.
pub record HasName (names : Names) (name : Text) (rank : ℕ) : Type 0 where
  pub before : Names
  pub following : Names
  pub parts : names ≡ before ++ (Some name ∷ following)
  pub place : rank ≡ suc (length before)

-- the group with this number has the name, and no later one has it
pub record IsLastWithName (names : Names) (name : Text) (rank : ℕ) : Type 0 where
  pub carries : HasName names name rank
  pub no_later : (other : ℕ) → HasName names name other → other ≤ rank

-- no group has the name
abbrev pub IsUnusedName : Names → Text → Type 0
IsUnusedName names name = (rank : ℕ) → HasName names name rank → ⊥

-- the identity on optional names, for `filter_map`
abbrev pub itself : Option Text → Option Text
itself name = name

-- which groups are numbered
pub record CountedLaw : Type 0 where
  -- without `ignored`, all groups
  pub all : (names : Names) → counted false names ≡ names
  -- with it, the groups that have a name, in the same order
  pub named : (names : Names) → counted true names ≡ map Some (filter_map itself names)

-- the numbers of the groups with a name
pub record NumbersLaw : Type 0 where
  -- they are exactly the numbers of the groups that have the name
  pub ranks : (name : Text) (names : Names) (k : ℕ) → Contains (numbers_of name 0 names) k ↔ HasName names name k
  -- they are in increasing order, without repetition
  pub rising : (name : Text) (names : Names) → IsStrictlyIncreasing (numbers_of name 0 names)

-- the group that a name refers to
pub record LastNamedLaw : Type 0 where
  -- it is the last group with the name
  pub some : (names : Names) (name : Text) (k : ℕ) → all_scalars name ≡ true → (last_named names name ≡ Some k) ↔ IsLastWithName names name k
  -- there is none exactly where no group has the name
  pub none : (names : Names) (name : Text) → all_scalars name ≡ true → (last_named names name ≡ None) ↔ IsUnusedName names name
  -- there is none where the name is not a sequence of Unicode scalar values
  pub no_characters : (names : Names) (name : Text) → all_scalars name ≡ false → last_named names name ≡ None

-- The group that a relative number refers to. `front` are the groups that open before the reference.
pub record RelativeLaw : Type 0 where
  -- a negative number counts backwards from the reference: -1 is the last group that opens before it
  pub following : (front between : Names) (this : Option Text) →
      relative_number (length (front ++ (this ∷ between))) (negsuc (length between)) ≡ Some (suc (length front))
  -- a negative number that counts past the first group refers to none
  pub too_few : (front : Names) (k : ℕ) → length front ≤ k → relative_number (length front) (negsuc k) ≡ None
  -- a positive number counts forwards from the reference: 1 is the next group that opens after it
  pub ahead : (front between rest : Names) (this : Option Text) → length (front ++ (between ++ (this ∷ []))) ≤ unbounded →
      relative_number (length front) (pos (suc (length between))) ≡ Some (suc (length (front ++ between)))
  -- a sum past the largest `usize` saturates at it
  pub too_large : (front : Names) (k : ℕ) → unbounded < length front + suc k → relative_number (length front) (pos (suc k)) ≡ Some unbounded
  -- 0 refers to no group
  pub zero : (n : ℕ) → relative_number n (pos 0) ≡ None
