use Rattle.std.proofs.Common.{ap, ◌∙◌, chars}
use Rattle.fancy_regex_text.proofs.TextLemmas.{end_fits, end_boundary, front_range, front_chars}
use Rattle.fancy_regex_text.proofs.text.prefix_before.Goals as goal

pub overflow_sub-text : goal.overflow_sub-text
overflow_sub-text c = end_fits c.args.text.now c.args.rest.now c.utf8.text c.utf8.rest c.requires

pub range-requires-clause-end_boundary : goal.range-requires-clause-end_boundary
range-requires-clause-end_boundary c = end_boundary c.args.text.now c.args.rest.now c.utf8.text c.utf8.rest c.requires

pub returns : goal.returns
returns c =
    ap chars (c.range.ensures.value ∙ front_range c.args.text.now _)
    ∙ front_chars c.args.text.now c.args.rest.now c.utf8.text c.utf8.rest c.requires
