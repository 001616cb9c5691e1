use Rattle.std.proofs.Common.{◌≡◌, chars, string_bytes}
use Rattle.std.specs.List.{flat_map}
use Rattle.fancy_regex_template.specs.Expansion.{doubled_if_sign}
use Rattle.fancy_regex_template.proofs.escape.escape_template.Given as goal

-- the characters so far are escaped
abbrev pub invariant-loop-c : goal.invariant-loop-c
invariant-loop-c l = chars (string_bytes l.out) ≡ flat_map (doubled_if_sign l.syntax) l.yielded
