-- What a quick search says of the match of a pattern.
use Rattle.std.specs.Prelude.{ℕ, List, Some, None}
use Rattle.fancy_regex_class.specs.declared.input.RunInput.{RunInput}
use Rattle.fancy_regex_linear.specs.EasyPatterns.{IsMatchSpan}
use Rattle.fancy_regex_linear.specs.declared.easy.Easy.{Easy}
use Rattle.fancy_regex_linear.specs.declared.quick.Quick.{Quick}
use Rattle.fancy_regex_linear.specs.declared.quick.Quick.TheVariants as quick

-- the match is from the first start to the end that was found, or there is none, if the search was not given up
abbrev pub IsQuickSpan : Easy → List ℕ → RunInput → Quick → Type 0
IsQuickSpan easy text input (quick.Ends end) = IsMatchSpan easy text input (Some (input.first, end))
IsQuickSpan easy text input quick.Fails = IsMatchSpan easy text input None
IsQuickSpan easy text input quick.GivenUp = Unit {0}
