use Rattle.std.proofs.Common.{◌∙◌, ap, chars}
use Rattle.fancy_regex_tree.specs.Numbering.{last_number}
use Rattle.fancy_regex_tree.proofs.Lookups.{last_of_slice, lookup_none, lookup_some}
use Rattle.fancy_regex_tree.proofs.Parsing.{same_lookup}
use Rattle.fancy_regex_search.proofs.names.last_group_named.Goals as goal

pub returns-in_err-numbers : goal.returns-in_err-numbers
returns-in_err-numbers c names are =
    c.from_residual.ensures ∙ lookup_none c.args.named.now c.args.name.now c.utf8.name c.in_err-numbers.ensures.value
    ∙ ap (λ f. f (chars c.args.name.now)) (same_lookup c.args.named.now names are)

pub returns : goal.returns
returns c names are =
    let last = c.copied.ensures ∙ c.last.ensures.value ∙ last_of_slice c.deref.result.now ∙ ap last_number c.deref.ensures.value in
    lookup_some c.args.named.now c.args.name.now c.utf8.name c.in_ok-numbers.numbers.now c.copied.result c.in_ok-numbers.ensures.value last
    ∙ ap (λ f. f (chars c.args.name.now)) (same_lookup c.args.named.now names are)
