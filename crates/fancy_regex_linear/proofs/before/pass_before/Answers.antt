use Rattle.std.proofs.Common.{◌≡◌, ◌∙◌, refl, arith}
use Rattle.fancy_regex_class.specs.Looks.{looked_text}
use Rattle.fancy_regex_linear.proofs.VerdictLemmas.{refused_between}
use Rattle.fancy_regex_linear.proofs.before.pass_before.Goals as goal

pub returns-then-at-eq0 : goal.returns-then-at-eq0
returns-then-at-eq0 c = record {
  range = (omega arith, c.requires.range.0);
  boundary = c.requires.boundary;
  after = c.look.ensures.after;
  next = c.look.ensures.next;
  fails = λ view go explains p low less boundary. absurd (omega (arith, low, less));
  looked = record {
    at_least = omega (arith, c.look.ensures.ticked);
    at_most = omega (arith, c.look.ensures.ticked);
    text = c.look.ensures.text;
    same_counter = c.look.ensures.same_counter;
  };
}

pub returns : goal.returns
returns c =
    let is = c.skip_before.ensures in
    let place = is.place in
    record {
      range = place.range;
      boundary = place.boundary;
      after = place.after;
      next = place.next;
      fails = λ view go explains.
          refused_between c.args.context.now (looked_text c.args.text.now) view go explains c.requires.text c.requires.context.entry c.requires.context.marks
          c.args.at c.skip_before.result.0 (omega (arith, c.if-at-eq0.false)) place.range.1 is.passed;
      looked = record {
        at_least = omega (arith, is.ticked);
        at_most = omega (arith, is.ticked);
        text = place.text;
        same_counter = place.same_counter;
      };
    }
