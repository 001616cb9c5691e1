use Rattle.std.proofs.Common.{◌≡◌, ◌-◌, ◌<◌, ◌∙◌, ap, arith, sym}
use Rattle.regex_hir.specs.Text.{char_at}
use Rattle.fancy_regex_prefilter.proofs.TextLemmas as text_lemmas
use Rattle.fancy_regex_prefilter.proofs.matching.ascii_before.Goals as goal

pub returns-clause-char : goal.returns-clause-char
returns-clause-char c =
    let text = c.args.text.now in
    let p = c.args.position in
    let some : 0 < p = omega (arith, c.in_ok-before.ensures) in
    let before : c.in_ok-before.before ≡ p - 1 = omega (arith, c.in_ok-before.ensures) in
    text_lemmas.ascii_before text p c.in_ok-c.c some (ap (char_at text) (sym before) ∙ c.in_ok-c.ensures.char) c.in_ok-c.ensures.ascii
