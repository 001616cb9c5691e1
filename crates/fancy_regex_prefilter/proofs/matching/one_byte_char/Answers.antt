use Rattle.std.proofs.Common.{◌≡◌, ◌+◌, ap, subst}
use Rattle.std.specs.Char.{len_utf8}
use Rattle.std.specs.Str.{IsCharBoundary}
use Rattle.std.proofs.lemmas.Str.{len_utf8_ascii}
use Rattle.fancy_regex_prefilter.proofs.BoundaryLemmas.{ends_character}
use Rattle.fancy_regex_prefilter.proofs.matching.one_byte_char.Goals as goal

pub returns-clause-cut : goal.returns-clause-cut
returns-clause-cut c =
    let text = c.args.text.now in
    let p = c.args.position in
    let ch = c.in_ok-c.c in
    let one : p + len_utf8 ch ≡ p + 1 = ap (λ k. p + k) (len_utf8_ascii ch c.in_ok-c.ensures.ascii) in
    subst (IsCharBoundary text) one (ends_character text p ch c.utf8.text c.in_ok-c.ensures.char)
