use Rattle.std.proofs.Common.{ap, ◌∙◌, chars, refl}
use Rattle.std.proofs.lemmas.Str.{chars-IsAscii}
use Rattle.std.proofs.lemmas.Str.Ascii.{IsAscii-from_all}
use Rattle.fancy_regex_text.specs.ParseFault.{general_parse_error}
use Rattle.fancy_regex_tree.proofs.Words.{all_below}
use Rattle.fancy_regex_tree.proofs.parser.general_error.Goals as goal

pub returns : goal.returns
returns g c =
    let ascii = IsAscii-from_all c.args.words.now (all_below c.args.words.now c.requires) in
    rw c.fail_at.ensures (ap (λ s. general_parse_error s) (ap chars c.in_ok-from_str.ensures.ok ∙ chars-IsAscii c.args.words.now ascii), refl)
