-- The program of a whole pattern, and that of a tree.
use Rattle.std.proofs.Common.{◌≡◌, ℕ, ◌+◌, ◌*◌, ◌<◌, Bool, true, false, not, true≢false, inl, List, [], ◌++◌, length, map, refl, sym, ap, ap₂, subst, ◌∙◌, append_assoc, arith}
use Rattle.fancy_regex_tree.specs.Tree.{Tree}
use Rattle.fancy_regex_class.specs.Classes.{in_class, folded}
use Rattle.fancy_regex_desugar.specs.CorePatterns.{CorePattern}
use Rattle.fancy_regex_desugar.specs.Unfolded.{core_pattern_of}
use Rattle.fancy_regex_info.specs.Analysis.{analysis}
use Rattle.fancy_regex_info.specs.Infos.{InfoTree}
use Rattle.fancy_regex_program.specs.Ops.{Op, ops_of}
use Rattle.fancy_regex_program.specs.Code.{Layout, written_out, flushed, slots_in, waits, code_of, opening, closing, program_of}
use Rattle.fancy_regex_info.specs.Views.{pattern_in}
use Rattle.fancy_regex_compiler.specs.Known.{info_whole, info_call, most_calls_in, groups_in, pat_with, pat_in}
use Rattle.fancy_regex_compiled.specs.Programs.{IsWhole, IsMadeFrom, IsWritableIfAllowed, RefersToGroups}
use Rattle.fancy_regex_program.specs.Shapes.{IsAllowed, IsWritable}
use Rattle.fancy_regex_program.specs.ValidPrograms.{IsValidProgram}
use Rattle.fancy_regex_program.specs.declared.insn.Insn.{Insn}
use Rattle.fancy_regex_compiler.specs.Writing.{Draft, closed_draft, with_pat, Wrote}
use Rattle.fancy_regex_compiler.specs.declared.emitter.Emitter.{Emitter}
use Rattle.fancy_regex_compiled.specs.declared.prog.Prog.{Prog}
use Rattle.fancy_regex_program.proofs.ValidCode.{program_is_valid}
use Rattle.fancy_regex_analysis.proofs.AnalysisErrorLemmas.{no_node_shows}
use Rattle.fancy_regex_info.specs.declared.error.CompileError.TheVariants.{InvalidBackref}
use Rattle.fancy_regex_compiler.specs.Refusals.{IsClear}
use Rattle.fancy_regex_compiler.proofs.KnownLemmas.{pat_is, count_is}
use Rattle.fancy_regex_compiler.proofs.WritableLemmas.{can_be_written}

flat : (o c f e : List Op) → ((o ++ c) ++ f) ++ e ≡ o ++ ((c ++ f) ++ e)
flat o c f e = simp append_assoc

-- what stands once the body is closed and the end is written
pub program_is : (u w anchored : Bool) (p : CorePattern) (groups slot : ℕ) (d1 d2 : Draft) (ops : List Op) → slot ≡ 2 * groups →
    d1 ≡ record { ops = opening (in_class u) (folded u) w anchored; text = [] } → d2 ≡ with_pat written_out u w p slot d1 →
    ops ≡ (closed_draft d2).ops ++ closing (in_class u) (folded u) w → ops ≡ program_of (in_class u) (folded u) w anchored groups p
unfolding closed_draft with_pat program_of code_of
program_is u w anchored p groups slot d1 d2 ops es e1 e2 e3 =
    let o = opening (in_class u) (folded u) w anchored in
    let begun : Draft = record { ops = o; text = [] } in
    let c = code_of (in_class u) (folded u) w p [] (length o) (2 * groups) in
    let e = closing (in_class u) (folded u) w in
    e3 ∙ ap (λ d. (closed_draft d).ops ++ e) (e2 ∙ ap₂ (λ s d. with_pat written_out u w p s d) es e1) ∙ flat o c (flushed (waits p [])) e

-- what was written where no call stays
pub wrote_out : {layout : Layout} {u w : Bool} {old new : Emitter} {slot after : ℕ} {p : CorePattern} → layout ≡ written_out → Wrote layout u w old new slot after p →
    Wrote written_out u w old new slot after p
wrote_out {u = u} {w = w} {old = old} {new = new} {slot = slot} {after = after} {p = p} none h = subst (λ l. Wrote l u w old new slot after p) none h

-- the pattern of the body, where no call is open
pub body_is : (groups : List InfoTree) (x : InfoTree) (calls : ℕ) (opened : List ℕ) → calls ≡ most_calls_in groups → opened ≡ [] →
    info_whole (info_call groups calls opened) x ≡ pat_with groups x
body_is groups x calls opened ec eo = ap₂ (λ m o. info_whole (info_call groups m o) x) ec eo

in_is_with : (whole : Bool) (x : InfoTree) → pat_in whole x ≡ pat_with (groups_in whole x) x
unfolding pat_in
in_is_with whole x = refl

-- the pattern of the tree, by the groups that were gathered
pub pat_gathered : (groups : List InfoTree) (x : InfoTree) (whole explicit : Bool) (t : Tree) → groups ≡ groups_in whole x → whole ≡ not explicit →
    x ≡ analysis explicit t → pat_with groups x ≡ core_pattern_of (pattern_in explicit t)
pat_gathered groups x whole explicit t eg ew ex =
    ap (λ gs. pat_with gs x) eg ∙ sym (in_is_with whole x) ∙ ap₂ pat_in ew ex ∙ pat_is explicit t

-- what is written of the tree's pattern is the tree's program
pub made_from : (prog : Prog) (anchored explicit : Bool) (t : Tree) (p : CorePattern) →
    prog.anchored ≡ anchored → IsWhole prog.unicode prog.whole anchored prog.groups p prog.body.items prog.slots →
    p ≡ core_pattern_of (pattern_in explicit t) →
    prog.groups ≡ length (pattern_in explicit t).groups → prog.whole ≡ not explicit → IsAllowed prog.unicode true p → IsMadeFrom prog anchored explicit t
made_from prog anchored explicit t p anchored_is wrote is groups whole allowed =
    let all = subst (λ q. IsWhole prog.unicode prog.whole anchored prog.groups q prog.body.items prog.slots) is wrote in
    record {
      program = record { anchored_is = anchored_is; code = inl all; groups = groups };
      whole = whole;
      written = can_be_written prog.unicode explicit t (subst (IsAllowed prog.unicode true) is allowed);
    }

-- what is written is valid, where the pattern can be written
pub whole_is_valid : (u w anchored : Bool) (groups : ℕ) (p : CorePattern) (insns : List Insn) (slots : ℕ) → IsWhole u w anchored groups p insns slots →
    IsAllowed u true p → IsWritableIfAllowed u w groups p → IsValidProgram (ops_of insns) slots
whole_is_valid u w anchored groups p insns slots is allowed writable =
    let code = program_of (in_class u) (folded u) w anchored groups p in
    let valid : IsValidProgram code (2 * groups + slots_in p) =
    program_is_valid (in_class u) (folded u) w anchored writable.first groups p writable.whole_group (writable.writable allowed) in
    let P = λ (n : ℕ). IsValidProgram (ops_of insns) n in
    let Q = λ (ops : List Op). IsValidProgram ops (2 * groups + slots_in p) in
    subst P (sym is.slots_are) (subst Q (sym is.ops) valid)

whole_has_group : (w : Bool) (x : InfoTree) → w ≡ true → 0 < length (groups_in w x)
whole_has_group true x e = omega arith
whole_has_group false x e = absurd (true≢false (sym e))

-- a clear tree's pattern can be written, where the compiler lets it through
pub clear_is_writable : (u w explicit : Bool) (t : Tree) (groups : List InfoTree) (x : InfoTree) (count : ℕ) → groups ≡ groups_in w x → w ≡ not explicit →
    x ≡ analysis explicit t → IsClear (pattern_in explicit t).groups t → count ≡ length groups → IsWritableIfAllowed u w count (pat_with groups x)
clear_is_writable u w explicit t groups x count eg ew ex clear ec =
    let n = length (pattern_in explicit t).groups in
    let pat : pat_with groups x ≡ core_pattern_of (pattern_in explicit t) = pat_gathered groups x w explicit t eg ew ex in
    let known : count ≡ n = ec ∙ ap length eg ∙ ap₂ (λ b y. length (groups_in b y)) ew ex ∙ count_is explicit t in
    let refers : RefersToGroups explicit t = λ k shown. no_node_shows n (InvalidBackref k) t clear.nodes shown in
    let first = (pattern_in explicit t).first_group in
    let P = λ (p : CorePattern). IsWritable first count p in
    let Q = λ (m : ℕ). IsWritable first m (core_pattern_of (pattern_in explicit t)) in
    record {
      whole_group = λ e. let some : 0 < length (groups_in w x) = whole_has_group w x e in let same = ap length eg in omega arith;
      first = first;
      writable = λ allowed. subst P (sym pat) (subst Q (sym known) ((can_be_written u explicit t (subst (IsAllowed u true) pat allowed)).writable refers));
    }
