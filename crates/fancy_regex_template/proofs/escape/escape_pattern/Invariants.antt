use Rattle.std.proofs.Common.{◌≡◌, chars, string_bytes}
use Rattle.std.specs.List.{flat_map}
use Rattle.fancy_regex_template.specs.PatternEscape.{escaped_char}
use Rattle.fancy_regex_template.proofs.escape.escape_pattern.Given as goal

-- the characters so far are escaped
abbrev pub invariant-loop-c : goal.invariant-loop-c
invariant-loop-c l = chars (string_bytes l.out) ≡ flat_map (escaped_char) l.yielded
