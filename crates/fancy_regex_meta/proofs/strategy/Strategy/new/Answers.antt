use Rattle.std.proofs.Common.{◌≡◌, refl, ◌+◌, ◌*◌, ◌∙◌, ◌⊎◌, ⊎_elim, inl, inr, true, false, sym, ap, subst, true≢false}
use Rattle.std.proofs.lemmas.Result.{MatchResult-from_err, IfOk-weaker, IfErr-weaker}
use Rattle.fancy_regex_tree.specs.Tree.{Tree}
use Rattle.fancy_regex_meaning.specs.Choices.{program_nodes}
use Rattle.fancy_regex_meaning.specs.Groups.{pattern_of}
use Rattle.fancy_regex_program.specs.Caps.{IsPastCap}
use Rattle.fancy_regex_compiler.specs.Programs.{KeepsCap}
use Rattle.fancy_regex_compiler.specs.Refusals.{IsClear, ReadsClasses}
use Rattle.fancy_regex_analysis.specs.AnalysisErrors.{is_too_complex}
use Rattle.fancy_regex_info.specs.Analysis.{analysis}
use Rattle.fancy_regex_info.specs.Infos.{info_of}
use Rattle.fancy_regex_info.specs.declared.options.CompileOptions.{CompileOptions}
use Rattle.fancy_regex_analysis.proofs.PartErrorLemmas.{gives}
use Rattle.fancy_regex_linear.specs.Refusals.{IsTaken, IsCause}
use Rattle.fancy_regex_meta.specs.Refusals.{compile_options_of, IsCompileRefusal}
use Rattle.fancy_regex_meta.specs.EasyPatterns.{uses_easy}
use Rattle.fancy_regex_meta.specs.SeekTables.{IsSeekTable}
use Rattle.fancy_regex_meta.specs.Strategies.{IsCompiled}
use Rattle.fancy_regex_meta.proofs.AnalysisLemmas.{hard_off, not_empty_off, easy_on, analyzed_tree}
use Rattle.fancy_regex_meta.proofs.ClassRefusalLemmas.{class_refusal, class_not_complex}
use Rattle.fancy_regex_meta.proofs.StrategyLemmas.{easy_used, used_easy}
use Rattle.fancy_regex_meta.proofs.strategy.Strategy.new.Goals as goal
use Rattle.fancy_regex_meta.proofs.strategy.Strategy.new.Goals.{Joined-then-info, then-info-via-then-info, then-info-via-else-info+then-options}

pub returns-clause-runs : goal.returns-clause-runs
returns-clause-runs c t is refers order = (
  c.in_ok-new.ensures.made false t is,
  c.in_ok-new.ensures.options.0 ∙ c.compile_options-2.ensures.unicode,
  c.in_ok-new.ensures.options.1 ∙ c.compile_options-2.ensures.longest,
  c.if-options.false,
)

pub returns-then-info-clause-runs : goal.returns-then-info-clause-runs
returns-then-info-clause-runs c =
    IfOk-weaker c.hard_strategy.result _ _
    (λ strategy runs t is refers order.
    let made = c.in_ok-prog.ensures.tree false t is in
    let compiled : IsCompiled c.in_ok-prog.prog t = record {
      program = rw (c.compile_options.ensures.anchored) at made.program;
      whole = made.whole;
      writable = made.written.writable refers;
      placed = made.written.placed;
    } in
    runs t is (
      compiled,
      c.in_ok-prog.ensures.unicode ∙ c.compile_options.ensures.unicode,
      c.in_ok-prog.ensures.longest ∙ c.compile_options.ensures.longest,
      subst (λ u. IsSeekTable c.args.options.now u c.in_ok-seek.seek) (analyzed_tree c.args.info.now t is) c.in_ok-seek.ensures.table,
      order,
      refl,
    ))
    c.hard_strategy.ensures.runs

-- on this branch the tree needs a program
needs_program : (c : Joined-then-info) (t : Tree) → info_of c.args.info.now ≡ analysis false t → uses_easy c.args.options.now t ≡ false
needs_program c t is = elim c.then-info.branch [
  | then-info-via-then-info w ↦ hard_off c.args.options.now c.args.info.now t is w.if-info.true
  | then-info-via-else-info+then-options w ↦ not_empty_off c.args.options.now t w.if-options.true
]

pub returns-in_err-prog-clause-refused : goal.returns-in_err-prog-clause-refused
returns-in_err-prog-clause-refused c =
    MatchResult-from_err c.from_residual.result _ _ c.from_residual.ensures.0
    (λ cause t is e. absurd (true≢false (sym e ∙ needs_program (goal.at.returns-in_err-prog-clause-refused c).Joined-then-info t is)))

pub returns-then-info-clause-served : goal.returns-then-info-clause-served
returns-then-info-clause-served c =
    IfOk-weaker c.hard_strategy.result _ _
    (λ strategy served t is. served ∙ sym (needs_program (goal.at.returns-then-info-clause-served c).Joined-then-info t is))
    c.hard_strategy.ensures.served

pub returns-then-info-clause-taken : goal.returns-then-info-clause-taken
returns-then-info-clause-taken c =
    IfOk-weaker c.hard_strategy.result _ _
    (λ strategy served t is e. absurd (true≢false (sym e ∙ needs_program (goal.at.returns-then-info-clause-taken c).Joined-then-info t is)))
    c.hard_strategy.ensures.served

pub returns-in_err-new-clause-refused : goal.returns-in_err-new-clause-refused
returns-in_err-new-clause-refused c =
    let o = c.args.options.now in
    let calls = c.args.calls in
    let i = c.args.info.now in
    gives c.from_residual-in_err-new.result c.in_err-new.field-0.0
    (λ cause. (t : Tree) → info_of i ≡ analysis false t → uses_easy o t ≡ true → IsCause (compile_options_of o calls) (pattern_of t) cause)
    c.from_residual-in_err-new.ensures.1
    (λ t is e. subst (λ options. IsCause options (pattern_of t) c.in_err-new.field-0.0) c.compile_options-2.ensures.all (c.in_err-new.ensures.refused false t is))

pub returns-clause-served : goal.returns-clause-served
returns-clause-served c t is = sym (easy_on c.args.options.now c.args.info.now t is c.if-info.false c.if-options.false)

pub returns-clause-taken : goal.returns-clause-taken
returns-clause-taken c t is e = subst (λ options. IsTaken options (pattern_of t)) c.compile_options-2.ensures.all (c.in_ok-new.ensures.taken false t is)

pub returns-in_err-prog-clause-long : goal.returns-in_err-prog-clause-long
returns-in_err-prog-clause-long c =
    let o = c.args.options.now in
    let i = c.args.info.now in
    gives c.from_residual.result c.in_err-prog.field-0.0
    (λ cause. (t : Tree) → info_of i ≡ analysis false t → uses_easy o t ≡ false → is_too_complex cause ≡ true → IsPastCap o.max_prog_size (16 * (program_nodes (pattern_of t) + 1)))
    c.from_residual.ensures.1
    (λ t is e. subst (λ most. is_too_complex c.in_err-prog.field-0.0 ≡ true → IsPastCap most (16 * (program_nodes (pattern_of t) + 1))) c.compile_options.ensures.cap (c.in_err-prog.ensures.full false t is))

pub returns-in_err-new-clause-long : goal.returns-in_err-new-clause-long
returns-in_err-new-clause-long c =
    MatchResult-from_err c.from_residual-in_err-new.result _ _ c.from_residual-in_err-new.ensures.0
    (λ cause t is e. absurd (true≢false (sym (easy_on c.args.options.now c.args.info.now t is c.if-info.false c.if-options.false) ∙ e)))

pub returns-then-info-clause-cap : goal.returns-then-info-clause-cap
returns-then-info-clause-cap c =
    IfOk-weaker c.hard_strategy.result _ _
    (λ strategy keeps. keeps c.args.options.now.max_prog_size
    (subst (λ most. KeepsCap most c.in_ok-prog.prog) c.compile_options.ensures.cap c.in_ok-prog.ensures.cap))
    c.hard_strategy.ensures.cap

mode_is : (k l : CompileOptions) → k ≡ l → l.bytes_mode ≡ k.bytes_mode
mode_is k l e = ap (λ (o : CompileOptions). o.bytes_mode) (sym e)

pub returns-then-info-clause-mode : goal.returns-then-info-clause-mode
returns-then-info-clause-mode c =
    IfOk-weaker c.hard_strategy.result _ _
    (λ strategy served t is. mode_is c.compile_options.result (compile_options_of c.args.options.now c.args.calls) c.compile_options.ensures.all ∙ c.in_ok-prog.ensures.mode)
    c.hard_strategy.ensures.served

pub returns-clause-mode : goal.returns-clause-mode
returns-clause-mode c t is =
    mode_is c.compile_options-2.result (compile_options_of c.args.options.now c.args.calls) c.compile_options-2.ensures.all
    ∙ (c.in_ok-new.ensures.taken false t is).bytes_mode

pub returns-in_err-prog-clause-reason : goal.returns-in_err-prog-clause-reason
returns-in_err-prog-clause-reason c =
    let o = c.args.options.now in
    let i = c.args.info.now in
    gives c.from_residual.result c.in_err-prog.field-0.0
    (λ cause. (t : Tree) → info_of i ≡ analysis false t → uses_easy o t ≡ false → IsClear (pattern_of t).groups t → IsCompileRefusal (compile_options_of o c.args.calls) t cause)
    c.from_residual.ensures.1
    (λ t is e clear. subst (λ options. IsCompileRefusal options t c.in_err-prog.field-0.0) c.compile_options.ensures.all (c.in_err-prog.ensures.refused false t is clear))

pub returns-in_err-new-clause-reason : goal.returns-in_err-new-clause-reason
returns-in_err-new-clause-reason c =
    MatchResult-from_err c.from_residual-in_err-new.result _ _ c.from_residual-in_err-new.ensures.0
    (λ cause t is e. absurd (true≢false (sym (easy_on c.args.options.now c.args.info.now t is c.if-info.false c.if-options.false) ∙ e)))

pub returns-then-info-clause-classes : goal.returns-then-info-clause-classes
returns-then-info-clause-classes c =
    IfOk-weaker c.hard_strategy.result _ _
    (λ strategy served t is e clear. subst (λ u. ReadsClasses u (pattern_of t).groups t) c.compile_options.ensures.unicode (c.in_ok-prog.ensures.classes false t is clear))
    c.hard_strategy.ensures.served

pub returns-clause-classes : goal.returns-clause-classes
returns-clause-classes c t is e =
    absurd (true≢false (sym (easy_on c.args.options.now c.args.info.now t is c.if-info.false c.if-options.false) ∙ e))

-- the seek table fails for want of memory alone
pub returns-in_err-seek-clause-refused : goal.returns-in_err-seek-clause-refused
returns-in_err-seek-clause-refused c =
    MatchResult-from_err c.from_residual-in_err-seek.result _ _ c.from_residual-in_err-seek.ensures.0
    (λ cause t is e. absurd (true≢false (sym e ∙ needs_program (goal.at.returns-in_err-seek-clause-refused c).Joined-then-info t is)))

pub returns-in_err-seek-clause-long : goal.returns-in_err-seek-clause-long
returns-in_err-seek-clause-long c =
    let o = c.args.options.now in
    let i = c.args.info.now in
    gives c.from_residual-in_err-seek.result c.in_err-seek.field-0.0
    (λ cause. (t : Tree) → info_of i ≡ analysis false t → uses_easy o t ≡ false → is_too_complex cause ≡ true → IsPastCap o.max_prog_size (16 * (program_nodes (pattern_of t) + 1)))
    c.from_residual-in_err-seek.ensures.1
    (λ t is e long. absurd (true≢false (sym long ∙ ap is_too_complex c.in_err-seek.ensures.memory)))

pub returns-in_err-seek-clause-reason : goal.returns-in_err-seek-clause-reason
returns-in_err-seek-clause-reason c =
    let o = c.args.options.now in
    let i = c.args.info.now in
    gives c.from_residual-in_err-seek.result c.in_err-seek.field-0.0
    (λ cause. (t : Tree) → info_of i ≡ analysis false t → uses_easy o t ≡ false → IsClear (pattern_of t).groups t → IsCompileRefusal (compile_options_of o c.args.calls) t cause)
    c.from_residual-in_err-seek.ensures.1
    (λ t is e clear. subst (IsCompileRefusal (compile_options_of o c.args.calls) t) (sym c.in_err-seek.ensures.memory) tt)

-- A class for which there are no states is one that the compiler may refuse.
pub returns-then-info-clause-refused : goal.returns-then-info-clause-refused
returns-then-info-clause-refused c =
    IfErr-weaker c.hard_strategy.result _ _
    (λ cause why t is e. absurd (true≢false (sym e ∙ needs_program (goal.at.returns-then-info-clause-refused c).Joined-then-info t is)))
    c.hard_strategy.ensures.refused

pub returns-then-info-clause-long : goal.returns-then-info-clause-long
returns-then-info-clause-long c =
    IfErr-weaker c.hard_strategy.result _ _
    (λ cause why t is e long. absurd (true≢false (sym long ∙ class_not_complex c.args.options.now.unicode_mode t cause (why t is))))
    c.hard_strategy.ensures.refused

pub returns-then-info-clause-reason : goal.returns-then-info-clause-reason
returns-then-info-clause-reason c =
    IfErr-weaker c.hard_strategy.result _ _
    (λ cause why t is e clear. class_refusal c.args.options.now c.args.calls t cause clear (why t is))
    c.hard_strategy.ensures.refused

-- which strategies are no program alone
pub returns-then-info-clause-linear : goal.returns-then-info-clause-linear
returns-then-info-clause-linear c =
    let o = c.args.options.now in
    IfOk-weaker c.hard_strategy.result _ _
    (λ strategy states t is. (
      λ yes. let has = (states t is).0 yes in (has.0, inr has.1),
      λ linear. (states t is).1 (
        linear.0,
        ⊎_elim
            (λ easy. absurd (true≢false (sym (easy_used o t linear.0 easy) ∙ needs_program (goal.at.returns-then-info-clause-linear c).Joined-then-info t is)))
            (λ has. has) linear.1,
      ),
    ))
    c.hard_strategy.ensures.linear

pub returns-clause-linear : goal.returns-clause-linear
returns-clause-linear c t is =
    let used = easy_on c.args.options.now c.args.info.now t is c.if-info.false c.if-options.false in
    (λ yes. (c.if-options.false, inl (used_easy c.args.options.now t used)), λ linear. refl)
