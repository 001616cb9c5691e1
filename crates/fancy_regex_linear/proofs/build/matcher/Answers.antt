use Rattle.std.proofs.Common.{chars, ap, refl, arith}
use Rattle.fancy_regex_class.specs.Matchers.{IsClassError}
use Rattle.fancy_regex_class.specs.declared.class.ClassError.TheVariants.{InnerError}
use Rattle.fancy_regex_linear.proofs.build.matcher.Goals as goal

pub returns-in-Err-InnerError-clause-refused : goal.returns-in-Err-InnerError-clause-refused
returns-in-Err-InnerError-clause-refused c =
    let refused : IsClassError c.args.unicode c.args.class.now c.args.casei (InnerError c.in-Err-InnerError.shown) =
    rw c.in-Err-InnerError.field-0-is at c.in-Err-InnerError.ensures.refused in
    record {
      class = (chars c.args.class.now, c.args.casei);
      is_there = (0, omega arith, refl);
      is_shown = ap chars refused.0;
      refused = refused.1;
    }
