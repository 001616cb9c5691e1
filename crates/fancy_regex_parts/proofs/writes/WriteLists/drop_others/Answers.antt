use Rattle.std.proofs.Common.{◌∙◌, List, ap}
use Rattle.fancy_regex_parts.specs.Writes.{list_of}
use Rattle.fancy_regex_parts.specs.declared.writes.Write.{Write}
use Rattle.fancy_regex_parts.proofs.ListLemmas.{list_taken}
use Rattle.fancy_regex_parts.proofs.writes.WriteLists.drop_others.Goals as goal

pub returns-clause-lists : goal.returns-clause-lists
returns-clause-lists c k le =
    ap (λ (l : List Write). list_of l k) c.truncate.ensures.items ∙ list_taken c.args.self.now.writes.items c.args.self.now.held k le
