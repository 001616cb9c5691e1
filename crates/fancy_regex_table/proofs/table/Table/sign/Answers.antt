use Rattle.std.proofs.Common.{◌∙◌, ℕ, List, sym, ap, subst, arith, length, IsCharBoundary}
use Rattle.regex_hir.specs.Text.{char_before}
use Rattle.fancy_regex_table.specs.Signs.{IsSign, IsSignInRange}
use Rattle.fancy_regex_table.specs.Tables.{IsInRange}
use Rattle.fancy_regex_table.proofs.SignLemmas.{sign_passed, sign_in_range}
use Rattle.fancy_regex_table.proofs.TableLemmas.{stands_first}
use Rattle.fancy_regex_table.proofs.table.Table.sign.Goals as goal

pub chars-init : goal.chars-init
chars-init c = record {
  place = record {
    order = omega arith;
    high = c.requires.boundary.0;
    boundary = c.requires.boundary;
    start_boundary = c.requires.boundary;
  };
  low = omega arith;
  stands = λ parts rules s table by same text from stop.
      stands_first s c.args.self.now.fresh.items c.args.before c.in-Some.row c.args.from table.fresh
      (c.in-Some.ensures parts table same)
      (c.requires.before ∙ ap (λ (t : List ℕ). char_before t c.args.from) (sym text)) from (omega (arith, c.requires.boundary.0, stop))
      (subst (λ (t : List ℕ). IsCharBoundary t c.args.from) (sym text) c.requires.boundary);
}

pub learn-requires-clause-place : goal.learn-requires-clause-place
learn-requires-clause-place c = c.chars.invariant.place

pub chars-preserved : goal.chars-preserved
chars-preserved c =
    let inv = c.chars.invariant in
    let later = c.in-To.ensures.later in
    record {
      place = later.is_in;
      low = omega (arith, inv.low, later.low);
      stands = λ parts rules s table by same text from stop.
          c.in-To.ensures.learns parts rules s table by same text stop (inv.stands parts rules s table by same text from stop);
    }

pub returns-in-Noted-clause-sign : goal.returns-in-Noted-clause-sign
returns-in-Noted-clause-sign c parts rules s table by same text from stop =
    c.in-Noted.ensures.learns parts rules s table by same text stop (c.chars.invariant.stands parts rules s table by same text from stop)

pub returns-in-Nowhere-clause-sign : goal.returns-in-Nowhere-clause-sign
returns-in-Nowhere-clause-sign c parts rules s table by same text from stop =
    let long = ap length c.as_bytes-bytes.ensures.value in
    let passed = c.outcome.ensures.passed parts rules s table by same text (omega (arith, stop, long))
    (c.chars.invariant.stands parts rules s table by same text from stop) in
    subst (IsSign s) (sym c.sign_of.ensures) (sign_passed s c.outcome.result passed)

pub returns-in-Nowhere-clause-range : goal.returns-in-Nowhere-clause-range
returns-in-Nowhere-clause-range c =
    let inv = c.chars.invariant in
    subst (IsSignInRange c.args.text.now c.args.from) (sym c.sign_of.ensures)
    (sign_in_range c.args.text.now c.args.from c.chars.place.start c.outcome.result inv.low
    (subst (λ (t : List ℕ). IsInRange c.args.text.now c.chars.place.start (length t) c.outcome.result) c.as_bytes-bytes.ensures.value c.outcome.ensures.range))

pub returns-clause-sign : goal.returns-clause-sign
returns-clause-sign c parts rules s table by same text from stop =
    let inv = c.chars.invariant in
    let high = inv.place.high in
    let long = ap length c.as_bytes-bytes.ensures.value in
    let passed = c.at_stop.ensures.passed parts rules s table by (omega (arith, c.chars-test.false, high, stop, long))
    (λ e. stop ∙ ap length (sym text)) (inv.stands parts rules s table by same text from stop) in
    subst (IsSign s) (sym c.sign_of-2.ensures) (sign_passed s c.at_stop.result passed)
