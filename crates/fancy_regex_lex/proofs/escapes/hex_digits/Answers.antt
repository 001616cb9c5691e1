use Rattle.std.proofs.Common.{rules, chars, arith}
use Rattle.fancy_regex_lex.proofs.HexDigitLemmas.{hex_start, hex_next, hex_stops, hex_all, hex_fits, hex_small}
use Rattle.fancy_regex_lex.proofs.escapes.hex_digits.Goals as goal

pub loop-found-init : goal.loop-found-init
loop-found-init c = (c.utf8.text, omega arith, omega arith, hex_start c.args.most (chars c.args.text.now))

pub returns-in_default-clause-value : goal.returns-in_default-clause-value
returns-in_default-clause-value c = let l = c.loop-found in (hex_stops _ _ _ _ _ c.in_default.ensures.value l.invariant.3).valued

pub returns-in_default-clause-count : goal.returns-in_default-clause-count
returns-in_default-clause-count c = let l = c.loop-found in (hex_stops _ _ _ _ _ c.in_default.ensures.value l.invariant.3).counted

pub returns-in_default-clause-small : goal.returns-in_default-clause-small
returns-in_default-clause-small c = let l = c.loop-found in hex_small _ _ _ _ _ l.invariant.3

pub returns-in_default-clause-rest : goal.returns-in_default-clause-rest
returns-in_default-clause-rest c = let l = c.loop-found in (hex_stops _ _ _ _ _ c.in_default.ensures.value l.invariant.3).after

pub overflow_mul-found : goal.overflow_mul-found
overflow_mul-found c =
    let l = c.loop-found in
    omega (arith, hex_fits _ _ _ _ _ _ c.loop-found-test.true c.requires c.in-Some.ensures.digit l.invariant.3)

pub overflow_add-found : goal.overflow_add-found
overflow_add-found c =
    let l = c.loop-found in
    omega (arith, hex_fits _ _ _ _ _ _ c.loop-found-test.true c.requires c.in-Some.ensures.digit l.invariant.3)

pub loop-found-preserved : goal.loop-found-preserved
loop-found-preserved c =
    let l = c.loop-found in (
      search rules,
      omega (arith, c.loop-found-test.true),
      omega (arith, l.invariant.2, c.in-Some.ensures.shorter),
      hex_next _ _ _ _ _ _ _ c.loop-found-test.true c.in-Some.ensures.value c.in-Some.ensures.digit l.invariant.3,
    )

pub returns-clause-value : goal.returns-clause-value
returns-clause-value c = let l = c.loop-found in (hex_all _ _ _ _ _ (omega (arith, c.loop-found-test.false)) l.invariant.3).valued

pub returns-clause-count : goal.returns-clause-count
returns-clause-count c = let l = c.loop-found in (hex_all _ _ _ _ _ (omega (arith, c.loop-found-test.false)) l.invariant.3).counted

pub returns-clause-small : goal.returns-clause-small
returns-clause-small c = let l = c.loop-found in hex_small _ _ _ _ _ l.invariant.3

pub returns-clause-rest : goal.returns-clause-rest
returns-clause-rest c = let l = c.loop-found in (hex_all _ _ _ _ _ (omega (arith, c.loop-found-test.false)) l.invariant.3).after
