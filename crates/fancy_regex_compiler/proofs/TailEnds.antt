-- Where the operation of a tail is told its end.
use Rattle.std.proofs.Common.{◌≡◌, ℕ, ◌≤◌, List, length, map, set, Some, refl, sym, ap, ◌∙◌, arith}
use Rattle.std.specs.Prelude.{slice_get, option_map}
use Rattle.std.proofs.lemmas.List.{map-set, set-set, length-map}
use Rattle.std.proofs.lemmas.Option.{slice_get-map, slice_get_past}
use Rattle.fancy_regex_tree.specs.Tree.{Text}
use Rattle.fancy_regex_program.specs.Ops.{Op, op_of}
use Rattle.fancy_regex_compiler.specs.Writing.{Draft, patched, ends_at, ended_by, ended}
use Rattle.fancy_regex_program.specs.declared.insn.Insn.{Insn}
use Rattle.fancy_regex_compiler.proofs.Drafts.{same_draft}

abbrev draft : List Op → Text → Draft
draft os text = record { ops = os; text = text }

-- The instruction there is replaced by the one that ends there.
pub ended_there : (xs : List Insn) (at end : ℕ) (x hole y : Insn) (text : Text) → slice_get xs at ≡ Some x → op_of y ≡ ends_at end (op_of x) →
    draft (map op_of (set (set xs at hole) at y)) text ≡ ended at end (draft (map op_of xs) text)
unfolding ended patched
ended_there xs at end x hole y text found is =
    same_draft
    (map-set op_of (set xs at hole) at y ∙ ap (λ l. set l at (op_of y)) (map-set op_of xs at hole) ∙ set-set (map op_of xs) at (op_of hole) (op_of y)
    ∙ ap (set (map op_of xs) at) is)
    refl
    ∙ sym (ap (λ o. ended_by at end o (draft (map op_of xs) text)) (slice_get-map op_of xs at ∙ ap (option_map op_of) found))

pub ended_nowhere : (xs : List Insn) (at end : ℕ) (text : Text) → length xs ≤ at → draft (map op_of xs) text ≡ ended at end (draft (map op_of xs) text)
unfolding ended
ended_nowhere xs at end text past =
    sym (ap (λ o. ended_by at end o (draft (map op_of xs) text)) (slice_get_past (map op_of xs) at (omega (arith, past, length-map xs op_of))))
