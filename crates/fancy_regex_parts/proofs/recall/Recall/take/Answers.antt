use Rattle.std.proofs.Common.{◌≡◌, ◌+◌, ◌-◌, ◌*◌, ◌<◌, ◌∙◌, get_or, length, refl, sym, arith}
use Rattle.std.proofs.lemmas.List.{get_or_read}
use Rattle.fancy_regex_parts.proofs.RecallLemmas.{place_below, opened_set, same_cells}
use Rattle.fancy_regex_parts.proofs.recall.Recall.take.Goals as goal

pub returns-then-value-eq0-clause-known : goal.returns-then-value-eq0-clause-known
returns-then-value-eq0-clause-known c =
    let r = c.args.self.now in
    let inside : (c.args.at - r.base) * r.width + c.args.mark < length r.cells.items =
    let f = r.filled in omega (arith, f, place_below r.width r.rows (c.args.at - r.base) c.args.mark c.requires.row c.requires.mark) in
    let value : c.index-value.result.now ≡ get_or r.cells.items ((c.args.at - r.base) * r.width + c.args.mark) 0 = get_or_read r.cells.items _ _ inside c.index-value.ensures 0 in
    (refl, opened_set r _ _ refl refl inside (sym value ∙ c.if-value-eq0.true) refl)

pub returns-then-value-eq1-clause-known : goal.returns-then-value-eq1-clause-known
returns-then-value-eq1-clause-known c =
    let r = c.args.self.now in
    let inside : (c.args.at - r.base) * r.width + c.args.mark < length r.cells.items =
    let f = r.filled in omega (arith, f, place_below r.width r.rows (c.args.at - r.base) c.args.mark c.requires.row c.requires.mark) in
    let value : c.index-value.result.now ≡ get_or r.cells.items ((c.args.at - r.base) * r.width + c.args.mark) 0 = get_or_read r.cells.items _ _ inside c.index-value.ensures 0 in
    (sym value ∙ c.if-value-eq1.true, same_cells r r refl refl refl)

pub returns-clause-known : goal.returns-clause-known
returns-clause-known c =
    let r = c.args.self.now in
    let inside : (c.args.at - r.base) * r.width + c.args.mark < length r.cells.items =
    let f = r.filled in omega (arith, f, place_below r.width r.rows (c.args.at - r.base) c.args.mark c.requires.row c.requires.mark) in
    let value : c.index-value.result.now ≡ get_or r.cells.items ((c.args.at - r.base) * r.width + c.args.mark) 0 = get_or_read r.cells.items _ _ inside c.index-value.ensures 0 in
    (omega (arith, value, c.if-value-eq0.false, c.if-value-eq1.false), same_cells r r refl refl refl)
