-- The main program of a pattern.
use Rattle.std.proofs.Common.{◌≡◌, ℕ, ◌+◌, ◌*◌, Bool, List, [], ◌++◌, length, refl, sym, ap, ap₂, ◌∙◌, append_assoc}
use Rattle.fancy_regex_class.specs.Classes.{in_class, folded}
use Rattle.fancy_regex_desugar.specs.CorePatterns.{CorePattern}
use Rattle.fancy_regex_program.specs.Code.{Layout, written_out, flushed, waits_with, slots_with, code_with, code_of, opening, closing, program_of}
use Rattle.fancy_regex_program.specs.Layouts.{main_code}
use Rattle.fancy_regex_program.specs.Ops.{Op, ops_of}
use Rattle.fancy_regex_program.specs.declared.insn.Insn.{Insn}
use Rattle.fancy_regex_compiled.specs.Programs.{IsWhole}
use Rattle.fancy_regex_compiler.specs.Writing.{Draft, closed_draft, with_pat}

regroup : (o c f e : List Op) → ((o ++ c) ++ f) ++ e ≡ o ++ ((c ++ f) ++ e)
regroup o c f e = simp append_assoc

-- what stands once the body is closed and the end is written
pub main_is : (u w anchored : Bool) (layout : Layout) (p : CorePattern) (groups slot : ℕ) (d1 d2 : Draft) (ops : List Op) → slot ≡ 2 * groups →
    d1 ≡ record { ops = opening (in_class u) (folded u) w anchored; text = [] } → d2 ≡ with_pat layout u w p slot d1 →
    ops ≡ (closed_draft d2).ops ++ closing (in_class u) (folded u) w → ops ≡ main_code (in_class u) (folded u) w layout anchored groups p
unfolding closed_draft with_pat
main_is u w anchored layout p groups slot d1 d2 ops es e1 e2 e3 =
    let o = opening (in_class u) (folded u) w anchored in
    let begun : Draft = record { ops = o; text = [] } in
    let c = code_with (in_class u) (folded u) w layout p [] (length o) (2 * groups) in
    let e = closing (in_class u) (folded u) w in
    e3 ∙ ap (λ d. (closed_draft d).ops ++ e) (e2 ∙ ap₂ (λ s d. with_pat layout u w p s d) es e1) ∙ regroup o c (flushed (waits_with layout p [])) e

-- where no call stays, it is the program of the pattern
program_is_main : (u w anchored : Bool) (p : CorePattern) (groups : ℕ) →
    main_code (in_class u) (folded u) w written_out anchored groups p ≡ program_of (in_class u) (folded u) w anchored groups p
unfolding program_of code_of
program_is_main u w anchored p groups = refl

pub whole_of_main : (u w anchored : Bool) (layout : Layout) (p : CorePattern) (groups : ℕ) (insns : List Insn) (slots : ℕ) → layout ≡ written_out →
    ops_of insns ≡ main_code (in_class u) (folded u) w layout anchored groups p → slots ≡ 2 * groups + slots_with layout p → IsWhole u w anchored groups p insns slots
whole_of_main u w anchored layout p groups insns slots none ops slots_are = record {
  ops = ops ∙ ap (λ l. main_code (in_class u) (folded u) w l anchored groups p) none ∙ program_is_main u w anchored p groups;
  slots_are = slots_are ∙ ap (λ l. 2 * groups + slots_with l p) none;
}
