use Rattle.std.proofs.Common.{ap, ◌∙◌}
use Rattle.fancy_regex_compiler.specs.Opened.{OpenGroups, full_groups}
use Rattle.fancy_regex_compiler.proofs.open_calls.OpenCalls.full_groups.Goals as goal

pub returns : goal.returns
returns c =
    c.deref.ensures.value ∙ c.self.invariant.full ∙ ap full_groups (ap (λ (calls : OpenGroups). calls.items) c.self.view_is)
