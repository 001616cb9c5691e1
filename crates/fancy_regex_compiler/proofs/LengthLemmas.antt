-- How long a whole program is.
use Rattle.std.proofs.Common.{◌≡◌, ℕ, ◌+◌, ◌*◌, ◌≤◌, Bool, true, false, inl, List, ◌++◌, [], length, ap, arith, length-append}
use Rattle.std.proofs.lemmas.List.{length-map}
use Rattle.fancy_regex_tree.specs.Tree.{Text}
use Rattle.fancy_regex_class.specs.Classes.{in_class, folded}
use Rattle.fancy_regex_meaning.specs.Choices.{program_nodes}
use Rattle.fancy_regex_meaning.specs.Groups.{Pattern}
use Rattle.fancy_regex_desugar.specs.CorePatterns.{CorePattern}
use Rattle.fancy_regex_desugar.specs.ProgramSizes.{room}
use Rattle.fancy_regex_desugar.specs.Unfolded.{core_pattern_of}
use Rattle.fancy_regex_desugar.proofs.ProgramSizeProofs.{pattern_size_is_bounded}
use Rattle.fancy_regex_program.specs.Code.{written_out, waits, flushed, code_of, opening, closing, program_of}
use Rattle.fancy_regex_program.specs.Ops.{op_of}
use Rattle.fancy_regex_program.specs.declared.insn.Insn.{Insn}
use Rattle.fancy_regex_compiled.specs.Programs.{IsWhole, AreFew}
use Rattle.fancy_regex_compiler.proofs.RoomLemmas.{code_fits, room_written_out}

pub opening_long : (has_member : Text → Bool → ℕ → Bool) (fold : ℕ → ℕ) (whole anchored : Bool) → length (opening has_member fold whole anchored) ≤ 2
opening_long has_member fold true true = omega arith
opening_long has_member fold true false = omega arith
opening_long has_member fold false true = omega arith
opening_long has_member fold false false = omega arith

pub closing_long : (has_member : Text → Bool → ℕ → Bool) (fold : ℕ → ℕ) (whole : Bool) → length (closing has_member fold whole) ≤ 2
closing_long has_member fold true = omega arith
closing_long has_member fold false = omega arith

program_fits : (u w anchored : Bool) (groups : ℕ) (p : CorePattern) → length (program_of (in_class u) (folded u) w anchored groups p) ≤ room p + 4
unfolding program_of code_of
program_fits u w anchored groups p =
    let o = opening (in_class u) (folded u) w anchored in
    let e = closing (in_class u) (folded u) w in
    let c = code_of (in_class u) (folded u) w p [] (length o) (2 * groups) in
    let f = flushed (waits p []) in
    omega (
      arith,
      opening_long (in_class u) (folded u) w anchored,
      closing_long (in_class u) (folded u) w,
      code_fits written_out u w p [] (length o) (2 * groups),
      room_written_out p,
      length-append o ((c ++ f) ++ e),
      length-append (c ++ f) e,
      length-append c f,
    )

-- the program of a pattern whose calls are written out has room by the pattern's nodes
pub whole_short : (most : ℕ) (u w anchored : Bool) (groups : ℕ) (pattern : Pattern) (p : CorePattern) (insns : List Insn) (slots : ℕ) → IsWhole u w anchored groups p insns slots →
    p ≡ core_pattern_of pattern → AreFew most (length insns) pattern
whole_short most u w anchored groups pattern p insns slots whole is =
    inl
    (omega (
      arith,
      length-map insns op_of,
      ap length whole.ops,
      program_fits u w anchored groups p,
      ap room is,
      pattern_size_is_bounded pattern,
    ))
