-- Calls that stay: of which groups a body is needed, and for where.
use Rattle.std.specs.Prelude.{◌≡◌, ℕ, ◌<◌, Bool, true, false, List, ◌++◌, length, All, Option, Some, None}
use Rattle.std.specs.List.{Contains}
use Rattle.fancy_regex_desugar.specs.CorePatterns.{CorePattern, read, keep_out, cat, alt, group, ahead, never, atomic, delegate, tail, repeat, conditional, absent, called}
use Rattle.fancy_regex_info.specs.Infos.{InfoTree}
use Rattle.fancy_regex_linear.specs.Plain.{classes}
use Rattle.fancy_regex_linear.specs.Refusals.{IsRead}
use Rattle.fancy_regex_program.specs.Code.{Layout}
use Rattle.fancy_regex_program.specs.Ops.{Place}
use Rattle.fancy_regex_program.specs.Shapes.{IsCounted, IsReadable}
use Rattle.fancy_regex_compiler.specs.Refusals.{TreeContext, IsAnalyzed, IsExpandedTarget}
use Rattle.fancy_regex_compiler.specs.declared.emitter.Need.{Need}

-- these needs are among all
abbrev pub AreAmong : List Need → List Need → Type 0
AreAmong needs all = (n : Need) → Contains needs n → Contains all n

-- A body of the group is needed, for where the match start may be set or not.
pub record IsNeeded (all : List Need) (k : ℕ) (keeps : Bool) : Type 0 where
  pub need : Need
  pub there : Contains all need
  pub group : need.group ≡ k
  pub may_keep : need.may_keep ≡ keeps

-- no call stays
abbrev pub NoneStays : Layout → Type 0
NoneStays layout = (k : ℕ) → layout k ≡ None

-- A call that stays is let through where a body is needed; another one where what stands for it is.
abbrev pub IsCallAllowed : Option Place → Type 0 → Type 0 → Type 0
IsCallAllowed None needed inside = inside
IsCallAllowed (Some c) needed inside = needed

-- What the compiler lets through, as `IsAllowed`, where these bodies are needed: of a call that stays it lets through the body.
abbrev pub IsAllowedUnder : Layout → List Need → Bool → Bool → CorePattern → Type 0
IsAllowedUnder layout all unicode keeps (read c) = IsReadable unicode c
IsAllowedUnder layout all unicode keeps keep_out = keeps ≡ true
IsAllowedUnder layout all unicode keeps (cat a b) = IsAllowedUnder layout all unicode keeps a × IsAllowedUnder layout all unicode keeps b
IsAllowedUnder layout all unicode keeps (alt a b) = IsAllowedUnder layout all unicode keeps a × IsAllowedUnder layout all unicode keeps b
IsAllowedUnder layout all unicode keeps (group k a) = IsAllowedUnder layout all unicode keeps a
IsAllowedUnder layout all unicode keeps (ahead a) = IsAllowedUnder layout all unicode false a
IsAllowedUnder layout all unicode keeps (never a) = IsAllowedUnder layout all unicode false a
IsAllowedUnder layout all unicode keeps (atomic a) = IsAllowedUnder layout all unicode keeps a
IsAllowedUnder layout all unicode keeps (delegate t a) = All (IsRead unicode) (classes t)
IsAllowedUnder layout all unicode keeps (tail t a) = All (IsRead unicode) (classes t) × IsAllowedUnder layout all unicode keeps a
IsAllowedUnder layout all unicode keeps (repeat a lo hi greedy) = IsCounted lo hi × IsAllowedUnder layout all unicode keeps a
IsAllowedUnder layout all unicode keeps (conditional c a b) =
    IsAllowedUnder layout all unicode keeps c × IsAllowedUnder layout all unicode keeps a × IsAllowedUnder layout all unicode keeps b
IsAllowedUnder layout all unicode keeps (absent a) = IsAllowedUnder layout all unicode false a
IsAllowedUnder layout all unicode keeps (called k a) = IsCallAllowed (layout k) (IsNeeded all k keeps) (IsAllowedUnder layout all unicode keeps a)
IsAllowedUnder layout all unicode keeps _ = Unit {0}

-- there are so many groups, and each need is of one of them
abbrev pub AreOfGroups : ℕ → List Need → Type 0
AreOfGroups count needs = (n : Need) → Contains needs n → n.group < count

-- the groups of the needs stand in a whole tree that is clear
abbrev pub AreStanding : TreeContext → List InfoTree → List Need → Type 0
AreStanding tree_context infos needs =
    (n : Need) → Contains needs n → IsExpandedTarget tree_context n.may_keep n.may_be_absent infos n.group

-- More needs may be noted: each is of a group, which stands in a clear tree where that of which this is said does.
pub record Notes (infos : List InfoTree) (old new : List Need) (Stand : TreeContext → Type 0) : Type 0 where
  pub more : List Need
  pub are : new ≡ old ++ more
  pub groups : AreOfGroups (length infos) more
  pub stand : (tree_context : TreeContext) → IsAnalyzed tree_context infos → Stand tree_context → AreStanding tree_context infos more

-- The need is noted, if it was not there.
pub record IsNoted (old new : List Need) (need : Need) : Type 0 where
  pub more : List Need
  pub are : new ≡ old ++ more
  pub there : Contains new need
  pub only : (n : Need) → Contains more n → need ≡ n
