-- The code of a pattern, what waits after it and its slots, together: those of a construct are made of those of its parts.
use Rattle.std.specs.Prelude.{ℕ, ◌+◌, Bool, [], Option}
use Rattle.fancy_regex_tree.specs.Tree.{Text}
use Rattle.fancy_regex_desugar.specs.CorePatterns.{CorePattern}
use Rattle.fancy_regex_program.specs.Ops.{Op, Place}
use Rattle.fancy_regex_program.specs.Code.{Layout, where_written, slots_with, waits_at_call, waits_with, Code, closed, after_text, row_code, alt_code, group_code, ahead_code, never_code, atomic_code, tail_code, repeat_code, loop_code, conditional_code, absent_code, call_code, code_with}

-- by the text that waits before it
pub record Part : Type 0 where
  pub codes : Text → Code
  pub waits : Text → Text
  pub slots : ℕ

-- with what waits after it
abbrev pub shut : Part → Code
shut a = closed (a.codes []) (a.waits [])

-- a construct with so many slots that text before it does not join
abbrev pub apart_from : Code → ℕ → Part
apart_from code slots = record { codes = λ text. after_text text code; waits = λ text. []; slots = slots }

abbrev pub cat_part : Part → Part → Part
cat_part a b = record { codes = λ text. row_code (a.codes text) (b.codes (a.waits text)) a.slots; waits = λ text. b.waits (a.waits text); slots = a.slots + b.slots }

abbrev pub alt_part : Part → Part → Part
alt_part a b = apart_from (alt_code (shut a) (shut b) a.slots) (a.slots + b.slots)

abbrev pub group_part : ℕ → Part → Part
group_part k a = apart_from (group_code k (shut a)) (1 + a.slots)

abbrev pub ahead_part : Part → Part
ahead_part a = apart_from (ahead_code (shut a)) (1 + a.slots)

abbrev pub never_part : Part → Part
never_part a = apart_from (never_code (shut a)) (1 + a.slots)

abbrev pub atomic_part : Part → Part
atomic_part a = apart_from (atomic_code (shut a)) (1 + a.slots)

abbrev pub tail_part : (ℕ → Op) → Part → Part
tail_part begin a = apart_from (tail_code begin (shut a)) a.slots

abbrev pub loop_part : ℕ → Bool → Part → Part
loop_part lo greedy a = apart_from (loop_code lo greedy (shut a)) (2 + a.slots)

abbrev pub repeat_part : ℕ → ℕ → Bool → Part → Part
repeat_part lo hi greedy a = apart_from (repeat_code lo hi greedy (shut a)) (1 + a.slots)

abbrev pub conditional_part : Part → Part → Part → Part
conditional_part c a b = apart_from (conditional_code (shut c) (shut a) (shut b) c.slots a.slots) (1 + (c.slots + (a.slots + b.slots)))

abbrev pub absent_part : Part → Part
absent_part a = apart_from (absent_code (shut a)) (2 + a.slots)

abbrev pub call_part : Option Place → Part → Part
call_part o a = record { codes = call_code o a.codes; waits = λ text. waits_at_call o (a.waits text); slots = where_written o a.slots }

-- of a pattern
abbrev pub part_with : (Text → Bool → ℕ → Bool) → (ℕ → ℕ) → Bool → Layout → CorePattern → Part
part_with has_member fold whole layout p = record { codes = code_with has_member fold whole layout p; waits = waits_with layout p; slots = slots_with layout p }
