use Rattle.std.proofs.Common.{rules, chars, string_bytes, length, sym, ◌∙◌, ◌<◌, ◌+◌, refl, arith}
use Rattle.std.proofs.lemmas.Result.{err_from_is_err_and}
use Rattle.fancy_regex_lex.proofs.ClassPartLemmas.{part_goes, part_ends, part_fails, level_step, chars_fit}
use Rattle.fancy_regex_lex.proofs.classes.push_parts.Goals as goal

pub loop-after-init : goal.loop-after-init
loop-after-init c = (c.utf8.text, omega arith, length (chars c.args.text.now) + 1, omega arith, refl)

pub returns-in_err-after-clause-value : goal.returns-in_err-after-clause-value
returns-in_err-after-clause-value c =
    let p = err_from_is_err_and c.from_residual.result c.from_residual.ensures.1 in
    let l = c.loop-after in
    let some : 0 < l.invariant.2 = omega (arith, l.invariant.3) in
    rw (p.1, p.2) (part_fails c.args.oniguruma l.invariant.2 l.level (chars (string_bytes l.out)) (chars l.rest.now) c.in_err-after.field-0.0 _ some
    c.in_err-after.ensures.value l.invariant.4)

pub prove-unreachable-requires : goal.prove-unreachable-requires
prove-unreachable-requires c =
    let l = c.loop-after in
    absurd (omega (arith, l.invariant.1, c.in_ok-after.ensures.shorter, c.if-prove.true, chars_fit c.args.text.now c.utf8.text))

pub returns-in_default-clause-value : goal.returns-in_default-clause-value
returns-in_default-clause-value c =
    let l = c.loop-after in
    let some : 0 < l.invariant.2 = omega (arith, l.invariant.3) in
    part_ends c.args.oniguruma l.invariant.2 l.level (chars (string_bytes l.out)) _ (chars l.rest.now) (chars c.in_ok-after.after.now) _ some
    c.in_ok-after.ensures.value (sym c.nesting_after.ensures ∙ c.in_default.is) l.invariant.4

pub returns-in_default-clause-shorter : goal.returns-in_default-clause-shorter
returns-in_default-clause-shorter c = let l = c.loop-after in omega (arith, l.invariant.1, c.in_ok-after.ensures.shorter)

pub loop-after-smaller : goal.loop-after-smaller
loop-after-smaller c = c.in_ok-after.ensures.shorter

pub loop-after-preserved : goal.loop-after-preserved
loop-after-preserved c =
    let l = c.loop-after in
    let some : 0 < l.invariant.2 = omega (arith, l.invariant.3) in
    let goes = sym c.nesting_after.ensures ∙ c.in-Some.is in
    let next = part_goes c.args.oniguruma l.invariant.2 l.level c.in-Some.next (chars (string_bytes l.out)) _ (chars l.rest.now) (chars c.in_ok-after.after.now) _ some
    c.in_ok-after.ensures.value goes l.invariant.4 in (
      search rules,
      omega (arith, l.invariant.1, c.in_ok-after.ensures.shorter, level_step l.level c.in-Some.next (chars l.rest.now) goes),
      next.0,
      omega (arith, next.1, l.invariant.3, c.in_ok-after.ensures.shorter),
      next.2,
    )
