use Rattle.std.proofs.Common.{◌≡◌, ◌∙◌, refl, arith, inl}
use Rattle.regex_hir.specs.Text.{char_at}
use Rattle.fancy_regex_class.specs.Looks.{looked_text}
use Rattle.fancy_regex_linear.proofs.RefusalLemmas.{start_fails}
use Rattle.fancy_regex_linear.proofs.VerdictLemmas.{refused_between}
use Rattle.fancy_regex_linear.proofs.alone.pass_over.Goals as goal

pub returns-then-at-eq0 : goal.returns-then-at-eq0
returns-then-at-eq0 c = record {
  range = (omega arith, c.requires.range.0);
  boundary = c.requires.boundary;
  after = c.look.ensures.after;
  next = c.look.ensures.next;
  fails = λ view go explains p low less boundary. absurd (omega (arith, low, less));
  looked = record {
    at_least = omega (arith, c.look.ensures.ticked);
    at_most = omega (arith, c.look.ensures.ticked);
    text = c.look.ensures.text;
    same_counter = c.look.ensures.same_counter;
  };
}

pub returns-then-are_common : goal.returns-then-are_common
returns-then-are_common c = record {
  range = (omega arith, c.requires.range.0);
  boundary = c.requires.boundary;
  after = c.look-then-are_common.ensures.after;
  next = c.look-then-are_common.ensures.next;
  fails = λ view go explains p low less boundary. absurd (omega (arith, low, less));
  looked = record {
    at_least = omega (arith, c.look-then-are_common.ensures.ticked);
    at_most = omega (arith, c.look-then-are_common.ensures.ticked);
    text = c.look-then-are_common.ensures.text;
    same_counter = c.look-then-are_common.ensures.same_counter;
  };
}

pub returns-then-refuses_all : goal.returns-then-refuses_all
returns-then-refuses_all c =
    let text = looked_text c.args.text.now in
    let all = c.refuse_rest.ensures in
    record {
      fails = λ view go explains p low less boundary.
          start_fails c.args.context.now text view go explains c.requires.text p (char_at text p) boundary (omega (arith, low, c.if-at-eq0.false)) (omega (arith, less))
          c.requires.context.entry refl (c.refuses_all.ensures c.if-refuses_all.true (char_at text p));
      looked = record {
        at_least = omega (arith, all.looks, c.requires.range.0);
        at_most = omega (arith, all.looks, c.requires.range.0);
        text = all.text;
        same_counter = all.same_counter;
      };
    }

pub returns-in_default : goal.returns-in_default
returns-in_default c =
    let is = c.skip_refused.ensures in
    let place = is.place in
    record {
      range = place.range;
      boundary = place.boundary;
      after = place.after;
      next = place.next;
      fails = λ view go explains.
          refused_between c.args.context.now (looked_text c.args.text.now) view go explains c.requires.text c.requires.context.entry c.requires.context.marks
          c.args.at c.skip_refused.result.0 (omega (arith, c.if-at-eq0.false)) place.range.1 is.passed;
      looked = record {
        at_least = omega (arith, is.ticked);
        at_most = omega (arith, is.ticked);
        text = place.text;
        same_counter = place.same_counter;
      };
    }

pub returns : goal.returns
returns c =
    let is = c.skip_pairs.ensures in
    let place = is.place in
    record {
      range = place.range;
      boundary = place.boundary;
      after = place.after;
      next = place.next;
      fails = λ view go explains.
          refused_between c.args.context.now (looked_text c.args.text.now) view go explains c.requires.text c.requires.context.entry c.requires.context.marks
          c.args.at c.skip_pairs.result.0 (omega (arith, c.if-at-eq0.false)) place.range.1 is.passed;
      looked = record {
        at_least = is.at_least;
        at_most = omega (arith, is.at_most);
        text = place.text;
        same_counter = place.same_counter;
      };
    }
