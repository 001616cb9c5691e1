use Rattle.std.proofs.Common.{◌≡◌, ◌<◌, ◌∙◌, get_or, length, refl, sym, arith}
use Rattle.std.proofs.lemmas.List.{get_or_read, get_or_past}
use Rattle.fancy_regex_parts.proofs.RecallLemmas.{stored_set, stored_none}
use Rattle.fancy_regex_parts.proofs.recall.Recall.store.Goals as goal

pub returns-then-number-len-clause-stored : goal.returns-then-number-len-clause-stored
returns-then-number-len-clause-stored c =
    let r = c.args.self.now in
    stored_none r c.args.number c.args.end (get_or_past r.cells.items c.args.number 0 (omega (arith, c.len.ensures, c.if-number-len.true, r.cells.ok.0)))

pub returns-then-value-eq0-clause-stored : goal.returns-then-value-eq0-clause-stored
returns-then-value-eq0-clause-stored c =
    let r = c.args.self.now in
    let inside : c.args.number < length r.cells.items = omega (arith, c.len.ensures, c.if-number-len.false, r.cells.ok.0) in
    stored_none r c.args.number c.args.end (sym (get_or_read r.cells.items c.args.number _ inside c.index-value.ensures 0) ∙ c.if-value-eq0.true)

pub returns-clause-stored : goal.returns-clause-stored
returns-clause-stored c =
    let r = c.args.self.now in
    let inside : c.args.number < length r.cells.items = omega (arith, c.len.ensures, c.if-number-len.false, r.cells.ok.0) in
    let value : c.index-value.result.now ≡ get_or r.cells.items c.args.number 0 = get_or_read r.cells.items c.args.number _ inside c.index-value.ensures 0 in
    stored_set r _ c.args.number c.args.end refl refl inside (omega (arith, value, c.if-value-eq0.false)) refl
