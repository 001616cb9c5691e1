use Rattle.std.proofs.Common.{◌≡◌, ◌-◌, ◌≤◌, length}
use Rattle.fancy_regex_meta.specs.MetaMatches.{meta_pattern}
use Rattle.fancy_regex_search.specs.GroupLookup.{meta_group_names}
use Rattle.fancy_regex_search.specs.TemplateChecks.{has_names_from}
use Rattle.fancy_regex_search.proofs.template_check.has_names.Given as goal

abbrev pub invariant-loop-name : goal.invariant-loop-name
invariant-loop-name l =
    let s = l.fn.regex.meta in
    let count = length (meta_pattern s).groups in
    (l.names.regex.now.meta ≡ s) × (l.names.next ≤ count)
    × (has_names_from (meta_group_names s) (count - l.names.next) l.names.next ≡ has_names_from (meta_group_names s) count 0)

abbrev pub decreases-loop-name : goal.decreases-loop-name
decreases-loop-name l = length (meta_pattern l.names.regex.now.meta).groups - l.names.next
