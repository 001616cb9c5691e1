use Rattle.std.proofs.Common.{◌∙◌, ap, inl, refl, sym, arith}
use Rattle.fancy_regex_class.specs.Looks.{looked_text}
use Rattle.regex_hir.specs.Text.{char_at}
use Rattle.fancy_regex_linear.proofs.RefusalLemmas.{start_fails}
use Rattle.std.specs.Option.{option_copied}
use Rattle.fancy_regex_linear.proofs.VerdictLemmas.{refused_between}
use Rattle.fancy_regex_linear.proofs.verdict.pass_starts.Goals as goal

pub returns-then-at-eq0-clause-passed : goal.returns-then-at-eq0-clause-passed
returns-then-at-eq0-clause-passed c view go explains p low less boundary = absurd (omega (arith, low, less))

pub returns-then-refuses_all-clause-passed : goal.returns-then-refuses_all-clause-passed
returns-then-refuses_all-clause-passed c view go explains p low less boundary =
    let text = looked_text c.args.text.now in
    start_fails c.args.context.now text view go explains c.requires.text p (char_at text p) boundary (omega (arith, low, c.if-at-eq0.false)) (omega (arith, less))
    c.requires.context.entry refl (c.refuses_all.ensures c.if-refuses_all.true (char_at text p))

pub returns-in_default-second_chars-clause-passed : goal.returns-in_default-second_chars-clause-passed
returns-in_default-second_chars-clause-passed c view go explains =
    refused_between c.args.context.now (looked_text c.args.text.now) view go explains c.requires.text c.requires.context.entry c.requires.context.marks
    c.args.at c.skip_refused.result.0 (omega (arith, c.if-at-eq0.false)) c.skip_refused.ensures.place.range.1 c.skip_refused.ensures.passed

pub returns-clause-passed : goal.returns-clause-passed
returns-clause-passed c view go explains =
    refused_between c.args.context.now (looked_text c.args.text.now) view go explains c.requires.text c.requires.context.entry c.requires.context.marks
    c.args.at c.skip_pairs.result.0 (omega (arith, c.if-at-eq0.false)) c.skip_pairs.ensures.place.range.1 c.skip_pairs.ensures.passed

pub skip_before-requires-clause-before : goal.skip_before-requires-clause-before
skip_before-requires-clause-before c = c.requires.table.before c.in-Some.before.now (sym c.as_ref.ensures.value ∙ ap option_copied c.in-Some.is)

pub returns-in-Some-clause-passed : goal.returns-in-Some-clause-passed
returns-in-Some-clause-passed c view go explains =
    refused_between c.args.context.now (looked_text c.args.text.now) view go explains c.requires.text c.requires.context.entry c.requires.context.marks
    c.args.at c.skip_before.result.0 (omega (arith, c.if-at-eq0.false)) c.skip_before.ensures.place.range.1 c.skip_before.ensures.passed
