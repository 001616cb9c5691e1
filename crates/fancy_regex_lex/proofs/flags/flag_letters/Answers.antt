use Rattle.std.proofs.Common.{rules, chars, length, sym, ap, ◌∙◌, refl, subst, arith}
use Rattle.std.proofs.lemmas.Result.{err_from_is_err_and}
use Rattle.fancy_regex_text.specs.ParseFault.{Gives, Fails}
use Rattle.fancy_regex_lex.proofs.FlagLetterLemmas.{letter_goes, letter_fails, letters_end, end_next}
use Rattle.fancy_regex_lex.proofs.flags.flag_letters.Goals as goal

pub loop-c-init : goal.loop-c-init
loop-c-init c = (c.utf8.text, c.requires, omega arith, refl)

pub flag_letter-requires : goal.flag_letter-requires
flag_letter-requires c =
    end_next c.in-Some.c (chars c.loop-c.rest.now) (chars c.in-Some.after.now) (chars c.args.here.now) c.in-Some.ensures.whole c.loop-c.invariant.1

pub returns-in_err-flags-clause-value : goal.returns-in_err-flags-clause-value
returns-in_err-flags-clause-value c =
    let p = err_from_is_err_and c.from_residual.result c.from_residual.ensures.1 in
    let l = c.loop-c in
    rw (p.1, p.2) (subst (Fails c.in_err-flags.field-0.0) l.invariant.3
    (letter_fails c.args.unicode (chars c.args.here.now) l.on l.changed c.in-Some.c (chars l.rest.now) (chars c.in-Some.after.now) c.in_err-flags.field-0.0
    c.in-Some.ensures.value c.in_err-flags.ensures))

pub loop-c-smaller : goal.loop-c-smaller
loop-c-smaller c = omega (arith, ap length c.in-Some.ensures.whole)

pub loop-c-preserved : goal.loop-c-preserved
loop-c-preserved c =
    let l = c.loop-c in (
      search rules,
      end_next c.in-Some.c (chars l.rest.now) (chars c.in-Some.after.now) (chars c.args.here.now) c.in-Some.ensures.whole l.invariant.1,
      omega (arith, ap length c.in-Some.ensures.whole, l.invariant.2),
      sym (letter_goes c.args.unicode (chars c.args.here.now) l.on c.in_ok-flags.still_on l.changed c.in_ok-flags.flags c.in-Some.c (chars l.rest.now)
          (chars c.in-Some.after.now) c.in-Some.ensures.value c.in_ok-flags.ensures) ∙ l.invariant.3,
    )

pub returns-clause-value : goal.returns-clause-value
returns-clause-value c =
    let l = c.loop-c in
    subst (λ r. Gives (λ x. (x.0, x.1, chars x.2.now)) c.closed.result r)
    (sym (letters_end c.args.unicode (chars c.args.here.now) l.on l.changed (chars l.rest.now) c.in_default.ensures.value) ∙ l.invariant.3)
    c.closed.ensures.value

pub returns-clause-shorter : goal.returns-clause-shorter
returns-clause-shorter c = search (rules, c.closed.ensures.shorter, c.loop-c.invariant.2)
