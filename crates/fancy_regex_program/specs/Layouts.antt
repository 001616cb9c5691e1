-- Programs in which calls stay: where the bodies of called groups are, and their slots; and which calls are written out there.
use Rattle.std.specs.Prelude.{◌≡◌, ℕ, ◌+◌, ◌*◌, ◌<◌, ◌≤◌, Bool, true, List, [], ◌∷◌, ◌++◌, length, Some, None, is_some, ◌⊎◌}
use Rattle.fancy_regex_tree.specs.Tree.{Text, Tree}
use Rattle.fancy_regex_meaning.specs.Sizes.{target}
use Rattle.fancy_regex_meaning.specs.Ways.{max_open_calls, max_open_calls_per_group}
use Rattle.fancy_regex_desugar.specs.CorePatterns.{CorePattern, cat, alt, group, ahead, never, atomic, tail, repeat, conditional, absent, called}
use Rattle.fancy_regex_desugar.specs.Unfolded.{written, unfolded}
use Rattle.fancy_regex_program.specs.Ops as op
use Rattle.fancy_regex_program.specs.Ops.{Op, Place}
use Rattle.fancy_regex_program.specs.Code.{Layout, slots_with, waits_with, closed, code_with, opening, closing}

-- the end of a group's frames
abbrev pub frames_end : Place → ℕ
frames_end c = c.frames + c.most * (c.own + 1)

-- The group's own slots are among those of bodies, and its count and its frames are after them. It has a frame for each call that
-- may be open.
pub record IsPlaced (from bodies_end total : ℕ) (c : Place) : Type 0 where
  pub own_from : from ≤ c.first
  pub own_to : c.first + c.own ≤ bodies_end
  pub count_from : bodies_end ≤ c.count
  pub frames_from : c.count < c.frames
  pub frames_to : frames_end c ≤ total
  pub most_is : c.most ≡ max_open_calls_per_group

-- Each called group has slots of its own, from `from` on, and among so many.
pub record AreApart (layout : Layout) (from bodies_end total : ℕ) : Type 0 where
  pub placed : (k : ℕ) (c : Place) → layout k ≡ Some c → IsPlaced from bodies_end total c
  pub own : (k j : ℕ) (c d : Place) → layout k ≡ Some c → layout j ≡ Some d → (k ≡ j → ⊥) → (c.first + c.own ≤ d.first) ⊎ (d.first + d.own ≤ c.first)
  pub frames : (k j : ℕ) (c d : Place) → layout k ≡ Some c → layout j ≡ Some d → (k ≡ j → ⊥) → (frames_end c ≤ d.count) ⊎ (frames_end d ≤ c.count)

-- This holds of the group of each call that is written in the pattern.
abbrev pub EachCall : (ℕ → Type 0) → CorePattern → Type 0
EachCall Fact (cat a b) = EachCall Fact a × EachCall Fact b
EachCall Fact (alt a b) = EachCall Fact a × EachCall Fact b
EachCall Fact (group k a) = EachCall Fact a
EachCall Fact (ahead a) = EachCall Fact a
EachCall Fact (never a) = EachCall Fact a
EachCall Fact (atomic a) = EachCall Fact a
EachCall Fact (tail t a) = EachCall Fact a
EachCall Fact (repeat a lo hi greedy) = EachCall Fact a
EachCall Fact (conditional c a b) = EachCall Fact c × EachCall Fact a × EachCall Fact b
EachCall Fact (absent a) = EachCall Fact a
EachCall Fact (called k a) = Fact k
EachCall Fact _ = Unit {0}

-- Calls of the group stay, or it is one of those whose calls are written out.
abbrev pub IsLaidOut : Layout → (ℕ → Bool) → ℕ → Type 0
IsLaidOut layout is_written_out k = (is_some (layout k) ≡ true) ⊎ (is_written_out k ≡ true)

-- So it is for each call that is written in the pattern.
abbrev pub CallsAreLaidOut : Layout → (ℕ → Bool) → CorePattern → Type 0
CallsAreLaidOut layout is_written_out = EachCall (IsLaidOut layout is_written_out)

-- the pattern of a group's body, where no call is open
abbrev pub body_pattern : List Tree → ℕ → Tree → CorePattern
body_pattern groups k t = unfolded groups (max_open_calls groups) [] (k + 1) t

-- Calls of these groups are written out, also where other calls stay. Each has a rank, and the pattern of its body depends on nothing but
-- what stands for calls of such groups of lower ranks. So none of them leads to a call that stays, or to one of itself.
pub record AreWrittenOut (layout : Layout) (groups : List Tree) (is_written_out : ℕ → Bool) : Type 0 where
  pub rank : ℕ → ℕ
  pub none : (k : ℕ) → is_written_out k ≡ true → layout k ≡ None
  pub leads : (k : ℕ) (t : Tree) → is_written_out k ≡ true → target groups k ≡ Some t → (call other : ℕ → CorePattern) →
      ((j : ℕ) → is_written_out j ≡ true → rank j < rank k → call j ≡ other j) →
      (written groups call (k + 1) t).front ≡ (written groups other (k + 1) t).front

module _ (has_member : Text → Bool → ℕ → Bool) (fold : ℕ → ℕ) (whole : Bool) (layout : Layout) where
  -- the operations of a body, and its return
  abbrev pub body_code : Place → CorePattern → List Op
  body_code c p = closed (code_with has_member fold whole layout p []) (waits_with layout p []) c.start c.first ++ op.return c ∷ []

  -- the operations of the main program
  abbrev pub main_code : Bool → ℕ → CorePattern → List Op
  main_code anchored count p =
      opening has_member fold whole anchored
      ++ (closed (code_with has_member fold whole layout p []) (waits_with layout p []) (length (opening has_member fold whole anchored)) (2 * count)
      ++ closing has_member fold whole)

  -- The body of the group stands in the code, with its return. Its calls stay, or they are of groups whose calls are written out.
  pub record HasBody (groups : List Tree) (is_written_out : ℕ → Bool) (code : List Op) (k : ℕ) (c : Place) : Type 0 where
    pub tree : Tree
    pub is_target : target groups k ≡ Some tree
    pub calls : CallsAreLaidOut layout is_written_out (body_pattern groups k tree)
    pub own : slots_with layout (body_pattern groups k tree) ≡ c.own
    pub before : List Op
    pub after : List Op
    pub stands : code ≡ before ++ (body_code c (body_pattern groups k tree) ++ after)
    pub start : length before ≡ c.start

  -- The program of a pattern in which calls stay: the main program, and behind it the bodies of the groups whose calls stay; with so
  -- many slots. In bodies calls of some groups may be written out.
  pub record IsKept (anchored : Bool) (count : ℕ) (groups : List Tree) (p : CorePattern) (code : List Op) (slots : ℕ) : Type 0 where
    pub bodies : List Op
    pub main : code ≡ main_code anchored count p ++ bodies
    pub is_written_out : ℕ → Bool
    pub written_out : AreWrittenOut layout groups is_written_out
    pub each : (k : ℕ) (c : Place) → layout k ≡ Some c → HasBody groups is_written_out code k c
    pub bodies_end : ℕ
    pub apart : AreApart layout (2 * count + slots_with layout p) bodies_end slots
    pub room : 2 * count + slots_with layout p ≤ slots
