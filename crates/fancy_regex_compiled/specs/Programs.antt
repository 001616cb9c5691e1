-- What the compiler says of a program.
use Rattle.std.specs.Prelude.{◌≡◌, ℕ, ◌+◌, ◌*◌, ◌<◌, ◌≤◌, Bool, true, false, not, All, List, length, Option, None, sum_by, ◌⊎◌}
use Rattle.fancy_regex_tree.specs.Tree.{Tree}
use Rattle.fancy_regex_meaning.specs.Choices.{nodes_with, program_nodes}
use Rattle.fancy_regex_meaning.specs.Groups.{Pattern}
use Rattle.fancy_regex_class.specs.Classes.{in_class, folded}
use Rattle.fancy_regex_desugar.specs.CorePatterns.{CorePattern}
use Rattle.fancy_regex_desugar.specs.Shapes.{StepsBackOnlyFirst}
use Rattle.fancy_regex_desugar.specs.Unfolded.{core_pattern_of}
use Rattle.fancy_regex_info.specs.Analysis.{analysis}
use Rattle.fancy_regex_analysis.specs.AnalysisErrors.{is_too_complex}
use Rattle.fancy_regex_info.specs.Infos.{InfoTree}
use Rattle.fancy_regex_analysis.specs.NodeErrors.{some_node, shows}
use Rattle.fancy_regex_info.specs.Views.{pattern_in}
use Rattle.fancy_regex_info.specs.declared.error.CompileError.{CompileError}
use Rattle.fancy_regex_info.specs.declared.error.CompileError.TheVariants.{InvalidBackref}
use Rattle.fancy_regex_program.specs.Assembled.{Body, IsAssembled, IsBodyOf, AreDistinct}
use Rattle.fancy_regex_program.specs.Caps.{IsWithinCap, IsPastCap}
use Rattle.fancy_regex_program.specs.Code.{Layout, slots_in, program_of}
use Rattle.fancy_regex_program.specs.Layouts.{CallsAreLaidOut, AreWrittenOut}
use Rattle.fancy_regex_program.specs.Ops.{ops_of}
use Rattle.fancy_regex_program.specs.Shapes.{IsAllowed, IsWritable}
use Rattle.fancy_regex_program.specs.declared.insn.Insn.{Insn}
use Rattle.fancy_regex_compiled.specs.declared.prog.Prog.{Prog}

-- These are the instructions of a pattern with so many groups, and the slots that they need.
pub record IsWhole (unicode whole anchored : Bool) (groups : ℕ) (p : CorePattern) (insns : List Insn) (slots : ℕ) : Type 0 where
  pub ops : ops_of insns ≡ program_of (in_class unicode) (folded unicode) whole anchored groups p
  pub slots_are : slots ≡ 2 * groups + slots_in p

-- With so many groups the pattern can be written if the compiler lets it through, and group 0 is one of them if it is the whole.
pub record IsWritableIfAllowed (unicode whole : Bool) (groups : ℕ) (p : CorePattern) : Type 0 where
  pub whole_group : whole ≡ true → 0 < groups
  pub first : ℕ
  pub writable : IsAllowed unicode true p → IsWritable first groups p

-- What a call counts where calls stay: one node if it stays; and if it is written out, so many that sixteen instructions for each are more
-- than what is written for it has, which is 500 at most.
abbrev pub nodes_of_call : Bool → ℕ
nodes_of_call true = 32
nodes_of_call false = 1

-- the nodes of the tree, and of the bodies of all groups with a return each, where calls of these groups are written out, and others stay
abbrev pub nodes_with_calls : (ℕ → Bool) → Pattern → ℕ
nodes_with_calls is_written_out pattern =
    nodes_with (λ k. nodes_of_call (is_written_out k)) pattern.tree + sum_by (λ t. 1 + nodes_with (λ k. nodes_of_call (is_written_out k)) t) pattern.groups

-- These are the instructions of a pattern with so many groups, and their slots, where calls stay calls: the main program, and behind it
-- bodies of called groups, one of each, with their returns, and an end. Each call leads to the body of its group, or is written out there:
-- one of a group that leads to no call that stays. There are at most sixteen instructions for each node, and sixteen more.
pub record KeepsCalls (unicode whole anchored : Bool) (groups : ℕ) (pattern : Pattern) (insns : List Insn) (slots : ℕ) : Type 0 where
  pub layout : Layout
  pub is_written_out : ℕ → Bool
  pub written_out : AreWrittenOut layout pattern.groups is_written_out
  pub bodies : List Body
  pub code : IsAssembled (in_class unicode) (folded unicode) whole layout anchored groups (core_pattern_of pattern) bodies (ops_of insns) slots
  pub calls : CallsAreLaidOut layout is_written_out (core_pattern_of pattern)
  pub each : All (IsBodyOf layout is_written_out pattern.groups) bodies
  pub distinct : AreDistinct bodies
  pub short : length insns ≤ 16 * (nodes_with_calls is_written_out pattern + 1)

-- These are the instructions of a pattern, and their slots: all of its calls are written out, or calls stay calls.
abbrev pub IsCodeOf : Bool → Bool → Bool → ℕ → Pattern → List Insn → ℕ → Type 0
IsCodeOf unicode whole anchored groups pattern insns slots =
    IsWhole unicode whole anchored groups (core_pattern_of pattern) insns slots
    ⊎ KeepsCalls unicode whole anchored groups pattern insns slots

-- The program is that of the pattern, and begins at the first start alone where it is anchored.
pub record IsProgramOf (prog : Prog) (pattern : Pattern) (anchored : Bool) : Type 0 where
  pub anchored_is : prog.anchored ≡ anchored
  pub code : IsCodeOf prog.unicode prog.whole anchored prog.groups pattern prog.body.items prog.slots
  pub groups : prog.groups ≡ length pattern.groups

-- Each back reference and each condition of the tree goes to a group.
abbrev pub RefersToGroups : Bool → Tree → Type 0
RefersToGroups explicit t = (k : ℕ) → some_node (shows (length (pattern_in explicit t).groups) (InvalidBackref k)) t ≡ true → ⊥

-- The tree's pattern, where it is written out, is one that programs are made of: it goes back only where a look-around
-- begins, and where the tree refers to groups alone, it can be written.
pub record CanBeWritten (explicit : Bool) (t : Tree) : Type 0 where
  pub placed : StepsBackOnlyFirst false (core_pattern_of (pattern_in explicit t))
  pub writable : RefersToGroups explicit t →
      IsWritable (pattern_in explicit t).first_group (length (pattern_in explicit t).groups) (core_pattern_of (pattern_in explicit t))

-- Where this is what the analysis says of a tree, the program is that of the tree's pattern, which can be written; and
-- group 0 is the whole unless groups count from 0.
pub record IsMadeFrom (prog : Prog) (anchored explicit : Bool) (t : Tree) : Type 0 where
  pub program : IsProgramOf prog (pattern_in explicit t) anchored
  pub whole : prog.whole ≡ not explicit
  pub written : CanBeWritten explicit t

abbrev pub IsOfTree : Prog → Bool → InfoTree → Type 0
IsOfTree prog anchored x = (explicit : Bool) (t : Tree) → x ≡ analysis explicit t → IsMadeFrom prog anchored explicit t

-- The program has no more instructions than the cap, if one is set.
abbrev pub KeepsCap : Option ℕ → Prog → Type 0
KeepsCap most prog = IsWithinCap most (length prog.body.items)

-- Where this is what the analysis says of a tree, its program is too long only where a cap is set, and it is below sixteen
-- instructions for each node of the tree, a call counting as its target's body, and sixteen more.
abbrev pub IsTooLong : Option ℕ → InfoTree → CompileError → Type 0
IsTooLong most x e = (explicit : Bool) (t : Tree) → x ≡ analysis explicit t → is_too_complex e ≡ true →
    IsPastCap most (16 * (program_nodes (pattern_in explicit t) + 1))

-- So many instructions are few for the pattern: at most sixteen for each node with its calls written out, and sixteen more. Where that
-- is above `most`, they may also be sixteen for each node where calls stay, of which any may be written out there, and sixteen more.
abbrev pub AreFew : ℕ → ℕ → Pattern → Type 0
AreFew most insns pattern =
    let written_out = 16 * (program_nodes pattern + 1) in
    (insns ≤ written_out) ⊎ ((most < written_out) × (insns ≤ 16 * (nodes_with_calls (λ k. true) pattern + 1)))

-- Where this is what the analysis says of a tree, the program has no more instructions than that.
abbrev pub IsShort : ℕ → Prog → InfoTree → Type 0
IsShort most prog x = (explicit : Bool) (t : Tree) → x ≡ analysis explicit t → AreFew most (length prog.body.items) (pattern_in explicit t)

-- Where a cap is set, and this is what the analysis says of a tree, the calls of its pattern are written out.
abbrev pub IsWrittenOutUnder : Option ℕ → Prog → InfoTree → Type 0
IsWrittenOutUnder cap prog x = (cap ≡ None → ⊥) → (explicit : Bool) (t : Tree) → x ≡ analysis explicit t →
    IsWhole prog.unicode prog.whole prog.anchored prog.groups (core_pattern_of (pattern_in explicit t)) prog.body.items prog.slots
