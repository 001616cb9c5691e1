-- A program that is being written.
use Rattle.std.specs.Prelude.{◌≡◌, ℕ, ◌+◌, Bool, List, [], ◌∷◌, ◌++◌, length, map, slice_get, slice_set, Option, Some, None, chars, string_bytes, if◌then◌else◌}
use Rattle.std.specs.Borrow.{Bor}
use Rattle.fancy_regex_tree.specs.Tree.{Text, Tree}
use Rattle.fancy_regex_class.specs.Classes.{in_class, folded}
use Rattle.fancy_regex_desugar.specs.CorePatterns.{CorePattern}
use Rattle.fancy_regex_desugar.specs.Unfolded.{Written}
use Rattle.fancy_regex_info.specs.Infos.{InfoTree, info_of}
use Rattle.fancy_regex_info.specs.declared.info.Info.{Info}
use Rattle.fancy_regex_program.specs.Ops.{Op, op_of, ops_of, tail, split, jump}
use Rattle.fancy_regex_program.specs.Code.{Layout, flushed, whole_literal, still_waits, waits_with, slots_with, code_with}
use Rattle.fancy_regex_compiler.specs.Inlined.{layout_in}
use Rattle.fancy_regex_compiler.specs.Known.{front_of, info_written, info_call}
use Rattle.fancy_regex_program.specs.declared.insn.Insn.{Insn}
use Rattle.fancy_regex_compiler.specs.Needs.{IsAllowedUnder}
use Rattle.fancy_regex_compiler.specs.declared.program_builder.ProgramBuilder.{ProgramBuilder}
use Rattle.fancy_regex_compiler.specs.declared.emitter.Emitter.{Emitter}
use Rattle.fancy_regex_compiler.specs.declared.emitter.CompileContext.{CompileContext}
use Rattle.fancy_regex_compiler.specs.declared.emitter.Need.{Need}
use Rattle.fancy_regex_compiler.specs.declared.emitter.Scope.{Scope}

-- the operations so far, and the text of literals that waits after them
pub record Draft : Type 0 where
  pub ops : List Op
  pub text : Text

abbrev pub draft_of : ProgramBuilder → Draft
draft_of b = record { ops = ops_of b.insns.items; text = chars (string_bytes b.pending_literal) }

-- one operation more, in front of what waits
unfoldable pub with_op : Op → Draft → Draft
with_op o d = record { ops = d.ops ++ o ∷ []; text = d.text }

-- what waited is an operation, where it has as many characters as a literal may have
unfoldable pub with_whole_literal : Draft → Draft
with_whole_literal d = record { ops = d.ops ++ whole_literal d.text; text = still_waits d.text }

-- one character more that waits
unfoldable pub with_char : ℕ → Draft → Draft
with_char c d = record { ops = d.ops ++ whole_literal d.text; text = still_waits d.text ++ c ∷ [] }

-- what waited is an operation
unfoldable pub closed_draft : Draft → Draft
closed_draft d = record { ops = d.ops ++ flushed d.text; text = [] }

-- one operation more, after what waited
abbrev pub added : Op → Draft → Draft
added o d = with_op o (closed_draft d)

-- another operation in that place
unfoldable pub patched : ℕ → Op → Draft → Draft
patched at o d = record { ops = slice_set d.ops at o; text = d.text }

-- the operation, which ends there if it is a tail
abbrev pub ends_at : ℕ → Op → Op
ends_at end (tail has_member fold t to) = tail has_member fold t end
ends_at end o = o

-- with the operation in that place, if there is one, ending there
abbrev pub ended_by : ℕ → ℕ → Option Op → Draft → Draft
ended_by at end None d = d
ended_by at end (Some o) d = patched at (ends_at end o) d

unfoldable pub ended : ℕ → ℕ → Draft → Draft
ended at end d = ended_by at end (slice_get d.ops at) d

-- with the program of a pattern after it
unfoldable pub with_pat : Layout → Bool → Bool → CorePattern → ℕ → Draft → Draft
with_pat layout unicode whole p slot d = record {
  ops = d.ops ++ code_with (in_class unicode) (folded unicode) whole layout p d.text (length d.ops) slot;
  text = waits_with layout p d.text;
}

abbrev pub layout_of : CompileContext → Layout
layout_of context = layout_in context.drafts.now.items

-- The program of the pattern was written, with its slots from the one number on up to the other.
pub record Wrote (layout : Layout) (unicode whole : Bool) (old new : Emitter) (slot after : ℕ) (p : CorePattern) : Type 0 where
  pub draft : draft_of new.body ≡ with_pat layout unicode whole p slot (draft_of old.body)
  pub slots : after ≡ slot + slots_with layout p
  pub opened : new.opened.items ≡ old.opened.items

-- A branch with a jump after it to that place; the text that waited before it is an operation already.
abbrev pub with_choice : Layout → Bool → Bool → ℕ → CorePattern → ℕ → Draft → Draft
with_choice layout unicode whole end p slot d =
    let first = with_op (split 0 0) d in
    let all = with_op (jump end) (closed_draft (with_pat layout unicode whole p slot first)) in
    patched (length d.ops) (split (length first.ops) (length all.ops)) all

-- The instruction is all that the node without children is.
pub record IsInsn (unicode : Bool) (insn : Insn) (t : Tree) : Type 0 where
  pub draft : (layout : Layout) (whole : Bool) (call : ℕ → CorePattern) (n slot : ℕ) (us : List Written) (d : Draft) →
      with_pat layout unicode whole (front_of call n t us) slot d ≡ added (op_of insn) d
  pub slots : (layout : Layout) (call : ℕ → CorePattern) (n : ℕ) (us : List Written) → slots_with layout (front_of call n t us) ≡ 0
  pub allowed : (layout : Layout) (all : List Need) (keeps : Bool) (call : ℕ → CorePattern) (n : ℕ) (us : List Written) →
      IsAllowedUnder layout all unicode keeps (front_of call n t us)

-- what the analysis says of the groups, by their numbers
abbrev pub info_at : Bor Info → InfoTree
info_at i = info_of i.now

abbrev pub infos_of : CompileContext → List InfoTree
infos_of context = map info_at context.groups.now.items

-- what the node is at this place, where those targets are open
abbrev pub part : CompileContext → Scope → List ℕ → Info → Written
part context scope opened info = info_written (info_call (infos_of context) scope.calls_left opened) (info_of info)

-- what it is from here, or from as far back as it is long
abbrev pub side : Bool → Written → CorePattern
side steps_back u = if steps_back then u.behind else u.front
