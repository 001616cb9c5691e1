-- Groups whose calls are written out where calls stay calls: small ones, which lead to no group that calls itself. A call that is inlined
-- is one that is written out. The room of what is written out is a bound on the number of its instructions.
use Rattle.std.specs.Prelude.{◌≡◌, ℕ, ◌+◌, ◌≤◌, ◌<◌, Bool, true, false, not, List, [], ◌∷◌, map, length, slice_get, slice_index_or, Option, Some, None, is_some, option_map}
use Rattle.std.specs.declared.alloc.Global.{Global}
use Rattle.std.specs.declared.sync.Arc.{Arc}
use Rattle.fancy_regex_tree.specs.Tree.{Tree}
use Rattle.fancy_regex_desugar.specs.CorePatterns.{CorePattern}
use Rattle.fancy_regex_desugar.specs.Unfolded.{Written}
use Rattle.fancy_regex_info.specs.Infos.{InfoTree, info_of}
use Rattle.fancy_regex_info.specs.declared.info.Info.{Info}
use Rattle.fancy_regex_program.specs.Code.{Layout}
use Rattle.fancy_regex_program.specs.Ops.{Place, place_of}
use Rattle.fancy_regex_program.specs.declared.insn.Callee.{Callee}
use Rattle.fancy_regex_compiler.specs.Rooms.{room_with}
use Rattle.fancy_regex_compiler.specs.CalledTexts.{IsFree}
use Rattle.fancy_regex_compiler.specs.Known.{front_of, info_written, info_call}

-- the room of a call of the group, if it is known
abbrev pub room_at : List (Option ℕ) → ℕ → Option ℕ
room_at rooms k = slice_index_or rooms k None

-- calls of the group are written out
abbrev pub is_inlined : List (Option ℕ) → ℕ → Bool
is_inlined rooms k = is_some (room_at rooms k)

-- Calls of the groups whose room is known and at most n have that room.
abbrev pub HaveRooms : Layout → List (Option ℕ) → ℕ → (ℕ → CorePattern) → Type 0
HaveRooms layout rooms n call = (k m : ℕ) → room_at rooms k ≡ Some m → m ≤ n → room_with layout (call k) ≤ m

-- Calls of the groups whose room is known are the same.
abbrev pub SameCalls : List (Option ℕ) → (ℕ → CorePattern) → (ℕ → CorePattern) → Type 0
SameCalls rooms call other = (k : ℕ) → is_inlined rooms k ≡ true → call k ≡ other k

-- What is written of a node, by what stands for calls, has that room where those calls have theirs, and depends on those calls alone.
pub record TakesRoom (rooms : List (Option ℕ)) (n : ℕ) (pattern : (ℕ → CorePattern) → CorePattern) : Type 0 where
  pub fits : (layout : Layout) (call : ℕ → CorePattern) → HaveRooms layout rooms n call → room_with layout (pattern call) ≤ n
  pub same : (call other : ℕ → CorePattern) → SameCalls rooms call other → pattern call ≡ pattern other

-- what is written of a node, and of several nodes
abbrev pub node_front : Info → (ℕ → CorePattern) → CorePattern
node_front i call = (info_written call (info_of i)).front

abbrev pub node_fronts : List Info → (ℕ → CorePattern) → List CorePattern
node_fronts xs call = map (λ i. node_front i call) xs

-- the room of patterns together, each with so much more
abbrev pub rooms_with : Layout → ℕ → List CorePattern → ℕ
rooms_with layout more [] = 0
rooms_with layout more (p ∷ ps) = (room_with layout p + more) + rooms_with layout more ps

-- So it is for the first of these nodes.
pub record FirstTakesRoom (rooms : List (Option ℕ)) (n : ℕ) (xs : List Info) : Type 0 where
  pub first : Info
  pub at : slice_get xs 0 ≡ Some first
  pub takes : TakesRoom rooms n (node_front first)

-- So it is for all of them together, each with so much more.
pub record AllTakeRoom (rooms : List (Option ℕ)) (more n : ℕ) (xs : List Info) : Type 0 where
  pub fits : (layout : Layout) (call : ℕ → CorePattern) → HaveRooms layout rooms n call → rooms_with layout more (node_fronts xs call) ≤ n
  pub same : (call other : ℕ → CorePattern) → SameCalls rooms call other → node_fronts xs call ≡ node_fronts xs other

-- The node has no parts: it is this pattern, whatever stands for calls.
pub record IsLeafRoom (n : ℕ) (t : Tree) : Type 0 where
  pub pattern : CorePattern
  pub is : (call : ℕ → CorePattern) (first : ℕ) (us : List Written) → front_of call first t us ≡ pattern
  pub fits : (layout : Layout) → room_with layout pattern ≤ n

-- The body of the group k is known. It has that room, where calls of groups of lower ranks have theirs, and depends on those calls alone.
pub record IsInlined (groups : List InfoTree) (rooms : List (Option ℕ)) (rank : ℕ → ℕ) (k n : ℕ) : Type 0 where
  pub body : InfoTree
  pub at : slice_get groups k ≡ Some body
  pub fits : (layout : Layout) (call : ℕ → CorePattern) →
      ((j m : ℕ) → room_at rooms j ≡ Some m → rank j < rank k → m ≤ n → room_with layout (call j) ≤ m) →
      room_with layout (info_written call body).front ≤ n
  pub same : (call other : ℕ → CorePattern) → ((j : ℕ) → is_inlined rooms j ≡ true → rank j < rank k → call j ≡ other j) →
      (info_written call body).front ≡ (info_written other body).front

-- the most room of a call that is written out where calls stay
abbrev pub most_room : ℕ
most_room = 500

-- So many groups have a room: that of their bodies, which call such groups of lower ranks alone.
pub record AreInlined (groups : List InfoTree) (rooms : List (Option ℕ)) (known : ℕ) : Type 0 where
  pub rank : ℕ → ℕ
  pub low : (k : ℕ) → is_inlined rooms k ≡ true → rank k < known
  pub few : known ≤ length groups
  pub small : (k n : ℕ) → room_at rooms k ≡ Some n → n ≤ most_room
  pub bodies : (k n : ℕ) → room_at rooms k ≡ Some n → IsInlined groups rooms rank k n

-- each draft names its group
abbrev pub AreNamed : List (Option (Arc Callee Global)) → Type 0
AreNamed drafts = (k : ℕ) (draft : Arc Callee Global) → slice_get drafts k ≡ Some (Some draft) → draft.value.start ≡ k

-- where calls stay calls: the draft of a target stands for its place; a number that is no group's has a place too, which is never asked for
abbrev pub draft_place : Arc Callee Global → Place
draft_place draft = place_of draft.value

abbrev pub drafted_place : ℕ → Option (Option (Arc Callee Global)) → Option Place
drafted_place k None = Some (record { start = k; count = 0; most = 0; frames = 0; first = 0; own = 0 })
drafted_place k (Some draft) = option_map draft_place draft

abbrev pub layout_in : List (Option (Arc Callee Global)) → Layout
layout_in [] k = None
layout_in (d ∷ ds) k = drafted_place k (slice_get (d ∷ ds) k)

-- Where calls stay, those of a group stay unless they are written out.
abbrev pub AreLaidOut : List (Option ℕ) → List (Option (Arc Callee Global)) → Type 0
AreLaidOut rooms drafts = (k : ℕ) → (length drafts ≡ 0 → ⊥) → is_some (layout_in drafts k) ≡ not (is_inlined rooms k)

-- Where those calls are written out, one that has no room takes none, as long as enough more may open and no such call is open.
abbrev pub AreSilent : List InfoTree → List (Option ℕ) → ℕ → Type 0
AreSilent groups rooms known = (layout : Layout) → ((j : ℕ) → is_inlined rooms j ≡ true → is_some (layout j) ≡ false) → (m : ℕ) (opened : List ℕ) (k : ℕ) →
    room_at rooms k ≡ Some 0 → known ≤ m → IsFree rooms 0 opened → room_with layout (info_call groups m opened k) ≤ 0
