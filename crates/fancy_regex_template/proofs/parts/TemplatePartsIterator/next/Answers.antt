use Rattle.std.proofs.Common.{◌<◌, length, chars, sym, ap, arith, rules}
use Rattle.fancy_regex_template.specs.Parts.{parts, part_of}
use Rattle.fancy_regex_template.proofs.CutLemmas.{parts_none, parts_more}
use Rattle.fancy_regex_template.proofs.parts.TemplatePartsIterator.next.Goals as goal

pub returns-in_err-part-clause-steps : goal.returns-in_err-part-clause-steps
returns-in_err-part-clause-steps c =
    let s = c.args.self.now in
    let none = parts_none s.syntax (chars s.rest.now) (sym c.in_err-part.ensures.value) in
    rw c.from_residual.ensures (none, none)

pub returns-clause-steps : goal.returns-clause-steps
returns-clause-steps c =
    let s = c.args.self.now in
    parts_more s.syntax (chars s.rest.now) (part_of c.in_ok-part.part) (chars c.in_ok-part.rest.now) (sym c.in_ok-part.ensures.value)

pub returns-clause-goes : goal.returns-clause-goes
returns-clause-goes c =
    let s = c.args.self.now in
    let more = parts_more s.syntax (chars s.rest.now) (part_of c.in_ok-part.part) (chars c.in_ok-part.rest.now) (sym c.in_ok-part.ensures.value) in
    let shorter : length (parts s.syntax (chars c.in_ok-part.rest.now)) < length (parts s.syntax (chars s.rest.now)) = omega (arith, ap length more) in
    search rules
