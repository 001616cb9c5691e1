-- The parts that an iterator has left.
use Rattle.std.specs.Prelude.{List, chars}
use Rattle.fancy_regex_template.specs.Parts.{Part, parts}
use Rattle.fancy_regex_template.specs.declared.parts.TemplateParts.{TemplateParts}

abbrev pub remaining_parts : TemplateParts → List Part
remaining_parts s = parts s.syntax (chars s.rest.now)
