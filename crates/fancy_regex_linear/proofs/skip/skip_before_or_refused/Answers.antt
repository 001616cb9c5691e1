use Rattle.std.proofs.Common.{◌∙◌, ap, sym}
use Rattle.std.specs.Option.{option_copied}
use Rattle.fancy_regex_linear.proofs.skip.skip_before_or_refused.Goals as goal

pub skip_before-requires-clause-before : goal.skip_before-requires-clause-before
skip_before-requires-clause-before c = c.requires.table.before c.in-Some.before.now (sym c.as_ref.ensures.value ∙ ap option_copied c.in-Some.is)
