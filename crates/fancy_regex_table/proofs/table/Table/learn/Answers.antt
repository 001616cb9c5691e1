use Rattle.std.proofs.Common.{◌<◌, ℕ, List, get_or, subst, sym, ap, arith}
use Rattle.fancy_regex_table.specs.Tables.{IsAsciiAt}
use Rattle.fancy_regex_table.proofs.TableLemmas.{ascii_here}
use Rattle.fancy_regex_table.proofs.SignLemmas.{learned, later_learned}
use Rattle.fancy_regex_table.proofs.table.Table.learn.Goals as goal

pub returns-then-byte-lt128 : goal.returns-then-byte-lt128
returns-then-byte-lt128 c =
    let place = c.args.place in
    let text = c.args.text.now in
    let byte = get_or c.as_bytes.result.now place.at 0 in
    let lt = c.requires.inside in
    let here : IsAsciiAt text place.at byte =
    ascii_here text place.at byte 0 c.utf8.text c.requires.place.boundary lt (ap (λ (t : List ℕ). get_or t place.at 0) c.as_bytes.ensures.value)
    (omega (arith, c.if-byte-lt128.true)) in
    record {
      later = later_learned c.args.self.now text place byte c.onward.result c.requires.place lt here c.onward.ensures.learned;
      learns = λ parts rules s table search same text_is stop_is stands.
          let char : IsAsciiAt s.text place.at byte = subst (λ (t : List ℕ). IsAsciiAt t place.at byte) (sym text_is) here in
          let inside : place.at < s.stop = omega (arith, lt, stop_is) in
          learned table search place stands byte char inside c.onward.result c.onward.ensures.learned
          (c.onward.ensures.stands parts rules s table search (λ small. char) inside stands);
    }
