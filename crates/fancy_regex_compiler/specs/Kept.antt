-- Programs in which calls stay calls, while they are put together.
use Rattle.std.specs.Prelude.{◌≡◌, ℕ, ◌+◌, ◌*◌, ◌<◌, ◌≤◌, Bool, true, false, List, [], ◌∷◌, ◌++◌, map, length, All, is_some, ◌⊎◌, ◌==◌, if◌then◌else◌, slice_index_or, slice_get, Option, Some, None, Result, IfOk, IfErr}
use Rattle.std.specs.List.{Contains}
use Rattle.std.specs.declared.alloc.Global.{Global}
use Rattle.std.specs.declared.sync.Arc.{Arc}
use Rattle.fancy_regex_class.specs.Classes.{in_class, folded}
use Rattle.fancy_regex_desugar.specs.CorePatterns.{CorePattern}
use Rattle.fancy_regex_desugar.specs.Unfolded.{pat_for}
use Rattle.fancy_regex_meaning.specs.Ways.{max_open_calls_per_group}
use Rattle.fancy_regex_info.specs.Infos.{InfoTree}
use Rattle.fancy_regex_info.specs.declared.error.CompileError.{CompileError}
use Rattle.fancy_regex_program.specs.Assembled as assembled
use Rattle.fancy_regex_program.specs.Assembled.{IsAssembled, AreDistinct, stretches, StandFrom}
use Rattle.fancy_regex_program.specs.Code.{Layout, slots_with}
use Rattle.fancy_regex_program.specs.Layouts.{AreApart, CallsAreLaidOut, main_code}
use Rattle.fancy_regex_program.specs.Ops.{Op, Place, place_of, ops_of}
use Rattle.fancy_regex_program.specs.Shapes.{IsAllowed}
use Rattle.fancy_regex_program.specs.declared.insn.Callee.{Callee}
use Rattle.fancy_regex_program.specs.declared.insn.Insn.{Insn}
use Rattle.fancy_regex_compiler.specs.Rooms.{room_with}
use Rattle.fancy_regex_compiler.specs.Inlined.{most_room}
use Rattle.fancy_regex_compiler.specs.Known.{info_written, info_call, most_calls_in, pat_with}
use Rattle.fancy_regex_compiler.specs.Needs.{AreAmong, Notes}
use Rattle.fancy_regex_compiler.specs.Refusals.{TreeContext, IsExpandedPart, IsExpandedTarget, IsReasonWhere}
use Rattle.fancy_regex_compiler.specs.Tasks.{IsLetThrough}
use Rattle.fancy_regex_compiler.specs.Writing.{Draft, draft_of, layout_of, infos_of}
use Rattle.fancy_regex_compiler.specs.declared.calls.Bodies.{Bodies}
use Rattle.fancy_regex_compiler.specs.declared.calls.Body.{Body}
use Rattle.fancy_regex_compiler.specs.declared.emitter.CompileContext.{CompileContext}
use Rattle.fancy_regex_compiler.specs.declared.emitter.Emitter.{Emitter}
use Rattle.fancy_regex_compiler.specs.declared.emitter.Scope.{Scope}
use Rattle.fancy_regex_compiler.specs.declared.emitter.Need.{Need}

-- what stands for a call around which no call is open
abbrev pub first_call : List InfoTree → ℕ → CorePattern
first_call infos = info_call infos (most_calls_in infos) []

-- the pattern of a group's body, around which no call is open
abbrev pub called_pattern : List InfoTree → InfoTree → CorePattern
called_pattern infos x = (info_written (first_call infos) x).front

-- the same by the number of the group
abbrev pub pattern_at : List InfoTree → ℕ → CorePattern
pattern_at infos k = pat_for (called_pattern infos) (slice_get infos k)

-- a body that was written, with its pattern
abbrev pub with_pattern : List InfoTree → Body → assembled.Body
with_pattern infos b = record { group = b.group; start = b.start; first = b.first; own = b.own; pattern = pattern_at infos b.group }

abbrev pub bodies_of : List InfoTree → List Body → List assembled.Body
bodies_of infos list = map (with_pattern infos) list

-- the own slots of the bodies follow each other, from the one number to the other
abbrev pub AreStacked : ℕ → ℕ → List Body → Type 0
AreStacked from end [] = from ≡ end
AreStacked from end (b ∷ bs) = (b.first ≡ from) × AreStacked (from + b.own) end bs

-- One of these bodies is of the group.
pub record HasBodyOf (list : List Body) (k : ℕ) : Type 0 where
  pub body : Body
  pub there : Contains list body
  pub group : body.group ≡ k

-- The body of the group is marked as written.
abbrev pub IsMarked : Bodies → ℕ → Type 0
IsMarked bodies k = slice_index_or bodies.written.items k false ≡ true

-- The program is the main one and these bodies, whose own slots begin with this one.
pub record HasBodies (context : CompileContext) (main : List Op) (from : ℕ) (draft : Draft) (bodies : Bodies) : Type 0 where
  pub text : draft.text ≡ []
  pub ops : draft.ops ≡ main
      ++ stretches (in_class context.unicode) (folded context.unicode) context.whole (layout_of context) (bodies_of (infos_of context) bodies.list.items)
  pub stand : StandFrom (in_class context.unicode) (folded context.unicode) context.whole (layout_of context) (length main)
      (bodies_of (infos_of context) bodies.list.items)
  pub stacked : AreStacked from bodies.end bodies.list.items
  pub marked : (k : ℕ) → IsMarked bodies k → HasBodyOf bodies.list.items k
  pub all_marked : All (λ b. IsMarked bodies b.group) bodies.list.items
  pub distinct : (i j : ℕ) (b c : Body) → slice_get bodies.list.items i ≡ Some b → slice_get bodies.list.items j ≡ Some c → b.group ≡ c.group → i ≡ j
  pub count : length bodies.written.items ≡ length (infos_of context)
  pub groups : All (λ b. b.group < length (infos_of context)) bodies.list.items
  pub drafted : All (λ b. is_some (layout_of context b.group) ≡ true) bodies.list.items

-- Calls of the group stay.
abbrev pub Stays : CompileContext → ℕ → Type 0
Stays context k = is_some (layout_of context k) ≡ true

-- The body that is needed is let through, where these are all needs.
abbrev pub IsBodyLetThrough : CompileContext → Need → List Need → Type 0
IsBodyLetThrough context need all = IsLetThrough context need.may_keep (pattern_at (infos_of context) need.group) all

-- where the body that is needed stands
abbrev pub NeedStands : CompileContext → Need → TreeContext → Type 0
NeedStands context need tree_context = IsExpandedTarget tree_context need.may_keep need.may_be_absent (infos_of context) need.group

-- Emitting a body that is needed, if calls of its group stay: it is let through, and more may be needed then.
pub record MeetsNeed {A : Type 0} (context : CompileContext) (need : Need) (old new : Emitter) (result : Result A CompileError) : Type 0 where
  pub allowed : IfOk result (λ _. (all : List Need) → AreAmong new.needs.list.items all → Stays context need.group → IsBodyLetThrough context need all)
  pub opened : IfOk result (λ _. new.opened.items ≡ old.opened.items)
  pub notes : IfOk result (λ _. Notes (infos_of context) old.needs.list.items new.needs.list.items (NeedStands context need))
  pub refused : IfErr result (IsReasonWhere context.unicode (infos_of context) (NeedStands context need))

-- The body that is needed is written, if calls of its group stay, and those that were written stay.
pub record IsMet (context : CompileContext) (old new : Bodies) (need : Need) : Type 0 where
  pub it : Stays context need.group → IsMarked new need.group
  pub others : (k : ℕ) → IsMarked old k → IsMarked new k
  pub only : (b : Body) → Contains new.list.items b → Contains old.list.items b ⊎ (need.group ≡ b.group)

-- One of the needs is that of the body.
pub record IsNeededBody (needs : List Need) (b : Body) : Type 0 where
  pub need : Need
  pub there : Contains needs need
  pub group : need.group ≡ b.group

-- Where these are all needs, this one is met: its group has a body, which is let through, if calls of it stay.
pub record IsMetUnder (context : CompileContext) (bodies : Bodies) (all : List Need) (need : Need) : Type 0 where
  pub marked : Stays context need.group → IsMarked bodies need.group
  pub allowed : Stays context need.group → IsBodyLetThrough context need all

-- the main program of the pattern, and the slots that it needs
pub record IsMain (context : CompileContext) (x : InfoTree) (anchored : Bool) (draft : Draft) (slots : ℕ) : Type 0 where
  pub draft_is : draft ≡ record {
    ops = main_code (in_class context.unicode) (folded context.unicode) context.whole (layout_of context) anchored (length (infos_of context))
        (pat_with (infos_of context) x);
    text = [];
  }
  pub slots_are : slots ≡ 2 * length (infos_of context) + slots_with (layout_of context) (pat_with (infos_of context) x)

-- the context of a body, around which no call is open
abbrev pub scope_for : CompileContext → Need → Scope
scope_for context need = record { calls_left = most_calls_in (infos_of context); may_keep = need.may_keep; may_be_absent = need.may_be_absent }

-- where the whole pattern stands
abbrev pub WholeStands : InfoTree → TreeContext → Type 0
WholeStands x tree_context = IsExpandedPart tree_context true true false x

-- Writing the bodies that are needed behind the main program.
pub record WritesBodies (context : CompileContext) (from : ℕ) (old new : Emitter) (result : Result Bodies CompileError) : Type 0 where
  pub bodies : IfOk result (HasBodies context (draft_of old.body).ops from (draft_of new.body))
  pub met : IfOk result (λ bodies. (need : Need) → Contains new.needs.list.items need → IsMetUnder context bodies new.needs.list.items need)
  pub needed : IfOk result (λ bodies. (b : Body) → Contains bodies.list.items b → IsNeededBody new.needs.list.items b)
  pub among : IfOk result (λ _. AreAmong old.needs.list.items new.needs.list.items)

-- the layout of these places
abbrev pub place_in : Option (Arc Callee Global) → Option Place
place_in None = None
place_in (Some callee) = Some (place_of callee.value)

abbrev pub table_of : List (Option (Arc Callee Global)) → Layout
table_of places k = place_in (slice_index_or places k None)

-- The place is that of one of the first bodies, of the group k.
pub record IsPlaceIn (list : List Body) (done k : ℕ) (c : Place) : Type 0 where
  pub index : ℕ
  pub body : Body
  pub before : index < done
  pub at : slice_get list index ≡ Some body
  pub group : body.group ≡ k
  pub start : c.start ≡ body.start
  pub first : c.first ≡ body.first
  pub own : c.own ≡ body.own

-- the place of a body, whose count has this slot
abbrev pub place_for : ℕ → Body → Place
place_for slot b = record { start = b.start; count = slot; most = max_open_calls_per_group; frames = slot + 1; first = b.first; own = b.own }

-- with that place of the group
abbrev pub with_place : ℕ → Place → Layout → Layout
with_place k c table j = if j == k then Some c else table j

-- Each of the first bodies has a place, each place is that of one of them, and they are apart, among so many slots.
pub record ArePlaces (list : List Body) (from bodies_end done : ℕ) (table : Layout) (end : ℕ) : Type 0 where
  pub each : (k : ℕ) (c : Place) → table k ≡ Some c → IsPlaceIn list done k c
  pub covers : (i : ℕ) (b : Body) → i < done → slice_get list i ≡ Some b → is_some (table b.group) ≡ true
  pub apart : AreApart table from bodies_end end
  pub room : bodies_end ≤ end

-- The pattern of the body is that of its group, and is let through. Its calls stay, or they are of groups whose calls are written out.
pub record IsBodyIn (unicode : Bool) (layout : Layout) (is_written_out : ℕ → Bool) (infos : List InfoTree) (b : assembled.Body) : Type 0 where
  pub group : b.group < length infos
  pub pattern : b.pattern ≡ pattern_at infos b.group
  pub calls : CallsAreLaidOut layout is_written_out b.pattern
  pub keeps : Bool
  pub allowed : IsAllowed unicode keeps b.pattern

-- Calls of these groups are written out, by what the analysis says of the groups: what stands for a call has few instructions, and each
-- body depends on nothing but calls of such groups of lower ranks.
pub record AreWrittenOutIn (layout : Layout) (infos : List InfoTree) (is_written_out : ℕ → Bool) : Type 0 where
  pub rank : ℕ → ℕ
  pub none : (k : ℕ) → is_written_out k ≡ true → layout k ≡ None
  pub leads : (k : ℕ) (x : InfoTree) → is_written_out k ≡ true → slice_get infos k ≡ Some x → (call other : ℕ → CorePattern) →
      ((j : ℕ) → is_written_out j ≡ true → rank j < rank k → call j ≡ other j) → (info_written call x).front ≡ (info_written other x).front
  pub small : (k : ℕ) → is_written_out k ≡ true → room_with layout (first_call infos k) ≤ most_room

-- These are the instructions of a pattern, by what the analysis says of the groups and of the whole, and their slots; calls stay calls, or
-- they are of groups whose calls are written out.
pub record KeepsCallsOf (unicode whole anchored : Bool) (infos : List InfoTree) (x : InfoTree) (insns : List Insn) (slots : ℕ) : Type 0 where
  pub layout : Layout
  pub bodies : List assembled.Body
  pub code : IsAssembled (in_class unicode) (folded unicode) whole layout anchored (length infos) (pat_with infos x) bodies (ops_of insns) slots
  pub is_written_out : ℕ → Bool
  pub written_out : AreWrittenOutIn layout infos is_written_out
  pub calls : CallsAreLaidOut layout is_written_out (pat_with infos x)
  pub each : All (IsBodyIn unicode layout is_written_out infos) bodies
  pub distinct : AreDistinct bodies
