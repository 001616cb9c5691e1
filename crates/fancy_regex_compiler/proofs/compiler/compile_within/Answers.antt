use Rattle.std.proofs.Common.{arith, ◌≡◌, ◌++◌, ℕ, Bool, true, false, not, map, length, sym, ap, ap₂, subst, ◌∙◌}
use Rattle.std.specs.Prelude.{◌==◌}
use Rattle.std.proofs.lemmas.List.{length-map}
use Rattle.fancy_regex_tree.specs.Tree.{Tree}
use Rattle.fancy_regex_info.specs.Infos.{info_of, properties_in}
use Rattle.fancy_regex_info.specs.Views.{pattern_in}
use Rattle.fancy_regex_compiler.specs.Known.{groups_in, pat_with}
use Rattle.fancy_regex_compiler.specs.Writing.{info_at}
use Rattle.fancy_regex_compiler.proofs.CapLemmas.{past_more}
use Rattle.fancy_regex_compiler.proofs.ClassLemmas.{classes_are_read}
use Rattle.fancy_regex_compiler.proofs.KnownLemmas.{start_is}
use Rattle.fancy_regex_compiler.proofs.KeptWhole.{made_of_tree, few_of_tree, written_out_of, clear_are_writable}
use Rattle.fancy_regex_compiler.proofs.WholeLemmas.{pat_gathered}
use Rattle.fancy_regex_desugar.specs.ProgramSizes.{room}
use Rattle.fancy_regex_desugar.proofs.ProgramSizeProofs.{pattern_size_is_bounded}
use Rattle.fancy_regex_analysis.proofs.PartErrorLemmas.{gives}
use Rattle.fancy_regex_compiled.specs.Programs.{IsTooLong}
use Rattle.fancy_regex_program.specs.Shapes.{IsAllowed}
use Rattle.fancy_regex_compiler.specs.Refusals.{IsClear, IsRefusal}
use Rattle.fancy_regex_info.specs.Analysis.{analysis}
use Rattle.fancy_regex_info.specs.declared.error.CompileError.{CompileError}
use Rattle.fancy_regex_compiler.proofs.RefusalLemmas.{passed_on}
use Rattle.fancy_regex_compiler.proofs.TreeContextLemmas.{told_of, refusal}
use Rattle.fancy_regex_compiler.proofs.compiler.compile_within.Goals as goal

whole_is : (n : ℕ) (explicit : Bool) (t : Tree) → n ≡ (pattern_in explicit t).first_group → not (n == 0) ≡ not explicit
whole_is n true t e = ap (λ k. not (k == 0)) e
whole_is n false t e = ap (λ k. not (k == 0)) e

pub returns-clause-tree : goal.returns-clause-tree
returns-clause-tree c explicit t is =
    let n = c.start_group-whole.result in
    let gs = c.add_groups.new.groups.items in
    let x = info_of c.args.info.now in
    let prog = c.in_ok-prog.prog in
    let starts : n ≡ (pattern_in explicit t).first_group = c.start_group-whole.ensures ∙ ap (λ y. (properties_in y).start) is ∙ start_is explicit t in
    let whole : not (n == 0) ≡ not explicit = whole_is n explicit t starts in
    let gathered : map info_at gs ≡ groups_in (not (n == 0)) x =
    c.in_ok-add_groups.ensures ∙ ap (λ xs. map info_at xs ++ groups_in (not (n == 0)) x) c.new-groups.ensures.items in
    made_of_tree c.args.options.now.max_prog_size c.args.most prog c.args.options.now.anchored explicit t (map info_at gs) x (gathered ∙ ap (λ b. groups_in b x) (sym c.in_ok-prog.ensures.whole))
    (c.in_ok-prog.ensures.whole ∙ whole) is c.in_ok-prog.ensures.anchored c.in_ok-prog.ensures.wrote (c.in_ok-prog.ensures.groups ∙ sym (length-map gs info_at))
    (subst (λ u. IsAllowed u true (pat_with (map info_at gs) x)) (sym c.in_ok-prog.ensures.unicode) c.in_ok-prog.ensures.allowed)

pub returns-clause-classes : goal.returns-clause-classes
returns-clause-classes c explicit t is clear =
    let n = c.start_group-whole.result in
    let gs = c.add_groups.new.groups.items in
    let x = info_of c.args.info.now in
    let starts : n ≡ (pattern_in explicit t).first_group = c.start_group-whole.ensures ∙ ap (λ y. (properties_in y).start) is ∙ start_is explicit t in
    let gathered : map info_at gs ≡ groups_in (not (n == 0)) x =
    c.in_ok-add_groups.ensures ∙ ap (λ xs. map info_at xs ++ groups_in (not (n == 0)) x) c.new-groups.ensures.items in
    let pat = pat_gathered (map info_at gs) x (not (n == 0)) explicit t gathered (whole_is n explicit t starts) is in
    let u = c.args.options.now.unicode in
    classes_are_read u explicit t clear (subst (IsAllowed u true) pat c.in_ok-prog.ensures.allowed)

pub returns-in_err-prog-clause-full : goal.returns-in_err-prog-clause-full
returns-in_err-prog-clause-full c =
    let n = c.start_group-whole.result in
    let gs = c.add_groups.new.groups.items in
    let x = info_of c.args.info.now in
    let gathered : map info_at gs ≡ groups_in (not (n == 0)) x =
    c.in_ok-add_groups.ensures ∙ ap (λ xs. map info_at xs ++ groups_in (not (n == 0)) x) c.new-groups.ensures.items in
    let r = c.from_residual-in_err-prog in
    let e = c.in_err-prog in
    gives r.result e.field-0.0 (IsTooLong c.args.options.now.max_prog_size x) r.ensures.1
    (λ explicit t is too.
    let starts : n ≡ (pattern_in explicit t).first_group = c.start_group-whole.ensures ∙ ap (λ y. (properties_in y).start) is ∙ start_is explicit t in
    let pat = pat_gathered (map info_at gs) x (not (n == 0)) explicit t gathered (whole_is n explicit t starts) is in
    past_more c.args.options.now.max_prog_size _ _ (omega (arith, ap room pat, pattern_size_is_bounded (pattern_in explicit t))) (e.ensures.full too))

pub returns-clause-short : goal.returns-clause-short
returns-clause-short c explicit t is =
    let n = c.start_group-whole.result in
    let gs = c.add_groups.new.groups.items in
    let x = info_of c.args.info.now in
    let prog = c.in_ok-prog.prog in
    let starts : n ≡ (pattern_in explicit t).first_group = c.start_group-whole.ensures ∙ ap (λ y. (properties_in y).start) is ∙ start_is explicit t in
    let gathered : map info_at gs ≡ groups_in (not (n == 0)) x =
    c.in_ok-add_groups.ensures ∙ ap (λ xs. map info_at xs ++ groups_in (not (n == 0)) x) c.new-groups.ensures.items in
    few_of_tree prog.unicode prog.whole c.args.options.now.anchored explicit t (map info_at gs) x (gathered ∙ ap (λ b. groups_in b x) (sym c.in_ok-prog.ensures.whole))
    (c.in_ok-prog.ensures.whole ∙ whole_is n explicit t starts) is prog.body.items prog.slots c.args.options.now.max_prog_size c.args.most c.in_ok-prog.ensures.wrote

pub returns-clause-written_out : goal.returns-clause-written_out
returns-clause-written_out c capped explicit t is =
    let n = c.start_group-whole.result in
    let gs = c.add_groups.new.groups.items in
    let x = info_of c.args.info.now in
    let prog = c.in_ok-prog.prog in
    let starts : n ≡ (pattern_in explicit t).first_group = c.start_group-whole.ensures ∙ ap (λ y. (properties_in y).start) is ∙ start_is explicit t in
    let gathered : map info_at gs ≡ groups_in (not (n == 0)) x =
    c.in_ok-add_groups.ensures ∙ ap (λ xs. map info_at xs ++ groups_in (not (n == 0)) x) c.new-groups.ensures.items in
    written_out_of c.args.options.now.max_prog_size c.args.most prog c.args.options.now.anchored explicit t (map info_at gs) x
    (gathered ∙ ap (λ b. groups_in b x) (sym c.in_ok-prog.ensures.whole))
    (c.in_ok-prog.ensures.whole ∙ whole_is n explicit t starts) is c.in_ok-prog.ensures.anchored c.in_ok-prog.ensures.wrote
    (c.in_ok-prog.ensures.groups ∙ sym (length-map gs info_at)) capped

pub returns-in_err-prog-clause-refused : goal.returns-in_err-prog-clause-refused
returns-in_err-prog-clause-refused c =
    let n = c.start_group-whole.result in
    let gs = c.add_groups.new.groups.items in
    let x = info_of c.args.info.now in
    let u = c.args.options.now.unicode in
    let P = λ (e : CompileError). (explicit : Bool) (t : Tree) → x ≡ analysis explicit t → IsClear (pattern_in explicit t).groups t →
    IsRefusal c.args.options.now.bytes_mode u (pattern_in explicit t).groups t e in
    passed_on c.from_residual-in_err-prog.result c.in_err-prog.field-0.0 P c.from_residual-in_err-prog.ensures.1
    (λ explicit t is clear.
    let starts : n ≡ (pattern_in explicit t).first_group = c.start_group-whole.ensures ∙ ap (λ y. (properties_in y).start) is ∙ start_is explicit t in
    let whole : not (n == 0) ≡ not explicit = whole_is n explicit t starts in
    let gathered : map info_at gs ≡ groups_in (not explicit) x =
    c.in_ok-add_groups.ensures ∙ ap (λ xs. map info_at xs ++ groups_in (not (n == 0)) x) c.new-groups.ensures.items ∙ ap (λ b. groups_in b x) whole in
    refusal c.args.options.now.bytes_mode u (pattern_in explicit t).groups t c.in_err-prog.field-0.0
    (told_of u explicit t (map info_at gs) x c.in_err-prog.field-0.0 is gathered clear
    (c.in_err-prog.ensures.refused
    (clear_are_writable u (not (n == 0)) c.args.options.now.anchored explicit t (map info_at gs) x
    (c.in_ok-add_groups.ensures ∙ ap (λ xs. map info_at xs ++ groups_in (not (n == 0)) x) c.new-groups.ensures.items) whole is clear))))
