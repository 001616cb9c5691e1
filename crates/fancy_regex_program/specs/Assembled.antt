-- A program whose calls stay, as it is put together: the main program, and behind it one body after another.
use Rattle.std.specs.Prelude.{◌≡◌, ℕ, ◌+◌, ◌*◌, ◌≤◌, Bool, true, List, [], ◌∷◌, ◌++◌, length, All, slice_get, Option, Some, None, is_some}
use Rattle.fancy_regex_tree.specs.Tree.{Text, Tree}
use Rattle.fancy_regex_meaning.specs.Sizes.{target}
use Rattle.fancy_regex_desugar.specs.CorePatterns.{CorePattern, cat, alt, group, ahead, never, atomic, tail, repeat, conditional, absent, called}
use Rattle.fancy_regex_program.specs.Ops as op
use Rattle.fancy_regex_program.specs.Ops.{Op, Place}
use Rattle.fancy_regex_program.specs.Code.{Layout, slots_with, waits_with, closed, code_with}
use Rattle.fancy_regex_program.specs.Layouts.{AreApart, CallsAreLaidOut, body_pattern, main_code}

-- A body: its group, its first operation, the first of its own slots and how many they are, and its pattern.
pub record Body : Type 0 where
  pub group : ℕ
  pub start : ℕ
  pub first : ℕ
  pub own : ℕ
  pub pattern : CorePattern

-- the place, where there is one
abbrev pub or_draft : Option Place → Place → Place
or_draft None c = c
or_draft (Some d) c = d

-- No two of the bodies are of one group.
abbrev pub AreDistinct : List Body → Type 0
AreDistinct bodies = (i j : ℕ) (b c : Body) → slice_get bodies i ≡ Some b → slice_get bodies j ≡ Some c → b.group ≡ c.group → i ≡ j

-- While places are not known, a call and a return have a draft, whose `start` is the number of their group. This puts the place of the
-- group there, if it has one, and leaves every other operation as it is.
abbrev pub resolved : Layout → Op → Op
resolved table (op.call c) = op.call (or_draft (table c.start) c)
resolved table (op.return c) = op.return (or_draft (table c.start) c)
resolved table o = o

-- A call of group k stays in both layouts, with a draft in the first, or it is written out in both, with this in its body.
abbrev pub IsDraftOf : ℕ → Option Place → Option Place → Type 0 → Type 0
IsDraftOf k None None Inside = Inside
IsDraftOf k None (Some d) Inside = ⊥
IsDraftOf k (Some c) None Inside = ⊥
IsDraftOf k (Some c) (Some d) Inside = c.start ≡ k

-- So it is for each call that is written in the pattern.
abbrev pub AreDrafts : Layout → Layout → CorePattern → Type 0
AreDrafts drafts table (cat a b) = AreDrafts drafts table a × AreDrafts drafts table b
AreDrafts drafts table (alt a b) = AreDrafts drafts table a × AreDrafts drafts table b
AreDrafts drafts table (group k a) = AreDrafts drafts table a
AreDrafts drafts table (ahead a) = AreDrafts drafts table a
AreDrafts drafts table (never a) = AreDrafts drafts table a
AreDrafts drafts table (atomic a) = AreDrafts drafts table a
AreDrafts drafts table (tail t a) = AreDrafts drafts table a
AreDrafts drafts table (repeat a lo hi greedy) = AreDrafts drafts table a
AreDrafts drafts table (conditional c a b) = AreDrafts drafts table c × AreDrafts drafts table a × AreDrafts drafts table b
AreDrafts drafts table (absent a) = AreDrafts drafts table a
AreDrafts drafts table (called k a) = IsDraftOf k (drafts k) (table k) (AreDrafts drafts table a)
AreDrafts drafts table _ = Unit {0}

-- The first layout has drafts alone, one at least for each group that has a place in the second, and none for those whose calls are
-- written out.
pub record IsDrafted (drafts table : Layout) (is_written_out : ℕ → Bool) : Type 0 where
  pub named : (k : ℕ) (c : Place) → drafts k ≡ Some c → c.start ≡ k
  pub covers : (k : ℕ) → is_some (table k) ≡ true → is_some (drafts k) ≡ true
  pub none : (k : ℕ) → is_written_out k ≡ true → drafts k ≡ None

-- The body has a draft and a place, and so has each call in its pattern that stays.
pub record IsDraftedBody (drafts table : Layout) (b : Body) : Type 0 where
  pub own : IsDraftOf b.group (drafts b.group) (table b.group) ⊥
  pub calls : AreDrafts drafts table b.pattern

-- The place is that of one of these bodies, of the group k.
pub record IsPlaceOf (bodies : List Body) (k : ℕ) (c : Place) : Type 0 where
  pub index : ℕ
  pub body : Body
  pub at : slice_get bodies index ≡ Some body
  pub group : body.group ≡ k
  pub start : c.start ≡ body.start
  pub first : c.first ≡ body.first
  pub own : c.own ≡ body.own

-- the return of a body, where it has a place
abbrev pub return_code : Option Place → List Op
return_code None = []
return_code (Some c) = op.return c ∷ []

module _ (has_member : Text → Bool → ℕ → Bool) (fold : ℕ → ℕ) (whole : Bool) (layout : Layout) where
  -- the operations of a body, and its return
  abbrev pub stretch : Body → List Op
  stretch b = closed (code_with has_member fold whole layout b.pattern []) (waits_with layout b.pattern []) b.start b.first ++ return_code (layout b.group)

  abbrev pub stretches : List Body → List Op
  stretches [] = []
  stretches (b ∷ bs) = stretch b ++ stretches bs

  -- The bodies stand one behind another, the first one at this operation, and have so many own slots.
  abbrev pub StandFrom : ℕ → List Body → Type 0
  StandFrom pc [] = Unit {0}
  StandFrom pc (b ∷ bs) = (b.start ≡ pc) × (b.own ≡ slots_with layout b.pattern) × StandFrom (pc + length (stretch b)) bs

  -- The program is the main program, these bodies behind it, and an end.
  pub record IsMadeOf (anchored : Bool) (count : ℕ) (p : CorePattern) (bodies : List Body) (code : List Op) : Type 0 where
    pub is : code ≡ main_code has_member fold whole layout anchored count p ++ (stretches bodies ++ op.finish ∷ [])
    pub stand : StandFrom (length (main_code has_member fold whole layout anchored count p)) bodies

  -- Besides each place is that of one of the bodies, and the places are apart, among so many slots.
  pub record IsAssembled (anchored : Bool) (count : ℕ) (p : CorePattern) (bodies : List Body) (code : List Op) (slots : ℕ) : Type 0 where
    pub made : IsMadeOf anchored count p bodies code
    pub each : (k : ℕ) (c : Place) → layout k ≡ Some c → IsPlaceOf bodies k c
    pub inside : All (λ b. b.first + b.own ≤ slots) bodies
    pub bodies_end : ℕ
    pub apart : AreApart layout (2 * count + slots_with layout p) bodies_end slots
    pub room : 2 * count + slots_with layout p ≤ slots

-- The pattern of the body is that of its group. Its calls stay, or they are of groups whose calls are written out.
pub record IsBodyOf (layout : Layout) (is_written_out : ℕ → Bool) (groups : List Tree) (b : Body) : Type 0 where
  pub tree : Tree
  pub is_target : target groups b.group ≡ Some tree
  pub pattern : b.pattern ≡ body_pattern groups b.group tree
  pub calls : CallsAreLaidOut layout is_written_out b.pattern
