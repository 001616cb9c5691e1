use Rattle.std.proofs.Common.{ap, chars}
use Rattle.fancy_regex_class.specs.Matchers.{IsClassError}
use Rattle.fancy_regex_class.specs.declared.class.ClassError.TheVariants.{InnerError}
use Rattle.fancy_regex_compiler.proofs.class_table.read_class.Goals as goal

pub returns-in-Err-InnerError-clause-refused : goal.returns-in-Err-InnerError-clause-refused
returns-in-Err-InnerError-clause-refused c =
    let refused : IsClassError c.args.unicode c.args.text.now c.args.casei (InnerError c.in-Err-InnerError.shown) =
    rw c.in-Err-InnerError.field-0-is at c.in-Err-InnerError.ensures.refused in
    (ap chars refused.0, refused.1)
