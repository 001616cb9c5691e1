-- What follows where a step of the parser ends at a fault.
use Rattle.std.proofs.Common.{◌≡◌, Bool, codes, None, Ok, Err, refl}
use Rattle.fancy_regex_text.specs.Text.{Text, bytes, strip_prefix}
use Rattle.fancy_regex_text.specs.ParseFault.{unclosed_open_paren}
use Rattle.fancy_regex_lex.specs.declared.token.Flags.{Flags}
use Rattle.fancy_regex_tree.specs.declared.parser_config.ParserConfig.{ParserConfig}
use Rattle.fancy_regex_tree.specs.Parser.{Branches, AlternationParser, parse_group_body}

-- the text ends in a construct
pub closed_open : (p : ParserConfig) (inner : AlternationParser) (in_look : Bool) (f g : Flags) (t rest : Text) (bs : Branches) → inner in_look f t ≡ Ok (bs, g, rest) →
    strip_prefix (codes ")") rest ≡ None → parse_group_body p inner in_look f t ≡ Err (record { kind = unclosed_open_paren; left = 0 })
unfolding parse_group_body strip_prefix bytes
closed_open p inner in_look f g t rest bs reads bar = rw (reads, bar) refl
