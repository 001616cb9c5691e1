use Rattle.std.proofs.Common.{sym, ap}
use Rattle.fancy_regex_text.proofs.TextLemmas.{bytes-chars}
use Rattle.fancy_regex_text.proofs.text.fault_at.Goals as goal

pub returns : goal.returns
returns c = ap (λ n. record { left = n; kind = c.args.kind }) (sym (bytes-chars _ c.utf8.text))
