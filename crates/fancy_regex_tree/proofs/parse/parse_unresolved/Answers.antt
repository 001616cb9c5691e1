use Rattle.std.proofs.Common.{◌∙◌, ◌-◌, ap, sym, Err, chars}
use Rattle.fancy_regex_text.specs.ParseFault.{kind_of}
use Rattle.fancy_regex_text.specs.Text.{bytes}
use Rattle.fancy_regex_text.proofs.TextLemmas.{bytes-chars}
use Rattle.fancy_regex_tree.specs.Parse.{with_position}
use Rattle.fancy_regex_tree.proofs.parse.parse_unresolved.Goals as goal

pub returns-in-Err-ParseFault-clause-value : goal.returns-in-Err-ParseFault-clause-value
returns-in-Err-ParseFault-clause-value c =
    let read = rw c.in-Err-ParseFault.field-0-is at c.in-Err-ParseFault.ensures.value in
    ap (with_position (bytes (chars c.args.re.now))) read
    ∙ ap (λ n. Err (record { kind = kind_of c.in-Err-ParseFault.fault.kind; position = n }))
    (ap (λ n. n - c.in-Err-ParseFault.fault.left) (bytes-chars c.args.re.now c.utf8.re) ∙ sym c.saturating_sub.ensures)
