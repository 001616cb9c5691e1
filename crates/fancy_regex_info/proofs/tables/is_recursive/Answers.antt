use Rattle.std.proofs.Common.{sym, ◌∙◌, eqb-true}
use Rattle.std.proofs.lemmas.List.{nil_from_length}
use Rattle.fancy_regex_info.proofs.TableLemmas.{not_again, again}
use Rattle.fancy_regex_info.proofs.tables.is_recursive.Goals as goal

pub returns-then-is_empty : goal.returns-then-is_empty
returns-then-is_empty c =
    let none = nil_from_length c.as_slice-starts.result.now (eqb-true _ _ (sym c.is_empty.ensures ∙ c.if-is_empty.true)) in
    not_again c.args.calls.now c.args.group c.index-calls-group.result c.requires c.index-calls-group.is
    (sym c.as_slice-starts.ensures.value ∙ none)

pub returns : goal.returns
returns c =
    again c.args.calls.now c.args.group c.index-calls-group.result c.as_slice-starts.result.now c.in_ok-seen.seen.items c.deref.result.now
    c.is_marked.result c.requires c.index-calls-group.is c.as_slice-starts.ensures.value c.deref.ensures.value c.is_marked.ensures
    (c.in_ok-seen.ensures.marks c.args.group c.requires)
