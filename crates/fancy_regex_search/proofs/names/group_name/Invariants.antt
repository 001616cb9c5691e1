use Rattle.std.proofs.Common.{◌≡◌, false}
use Rattle.std.specs.List.{All}
use Rattle.fancy_regex_search.proofs.NameLemmas.{has}
use Rattle.fancy_regex_search.proofs.names.group_name.Given as goal

abbrev pub invariant-loop-name : goal.invariant-loop-name
invariant-loop-name l = All (λ entry. has l.fn.group entry.1.now.items ≡ false) l.yielded
