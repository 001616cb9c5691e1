use Rattle.std.proofs.Common.{◌≡◌, ◌∙◌, sym, arith, vec_len, eqb-true}
use Rattle.std.proofs.lemmas.List.{nil_from_length}
use Rattle.fancy_regex_table.proofs.TargetLemmas.{nothing_left}
use Rattle.fancy_regex_table.proofs.target.later_target.Goals as goal

pub returns-then-is_empty-2 : goal.returns-then-is_empty-2
returns-then-is_empty-2 c parts s rows before ch at next start last own later place row own_is later_is begun_is fresh_is =
    let first : vec_len c.args.own ≡ 0 = eqb-true _ _ (sym c.is_empty.ensures ∙ c.if-is_empty.true) in
    let second : vec_len c.args.later ≡ 0 = eqb-true _ _ (sym c.is_empty-then-is_empty.ensures ∙ c.if-is_empty-2.true) in
    let none_own = nil_from_length c.args.own.items (omega (arith, c.args.own.ok.0, first)) in
    let none_later = nil_from_length c.args.later.items (omega (arith, c.args.later.ok.0, second)) in
    c.restarted.ensures s rows at next start last
    (fresh_is (nothing_left place c.args.own.items c.args.later.items row own_is later_is none_own none_later))
