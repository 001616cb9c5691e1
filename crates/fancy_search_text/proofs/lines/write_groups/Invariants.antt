use Rattle.std.proofs.Common.{◌≡◌, ◌++◌, take}
use Rattle.std.specs.Prelude.{string_bytes}
use Rattle.fancy_regex.specs.Ways.{Pairs}
use Rattle.fancy_search_text.specs.Lines.{groups_text}
use Rattle.fancy_search_text.specs.Spans.{AreGroupSpans}
use Rattle.fancy_search_text.proofs.lines.write_groups.Given as goal

-- the spans of the groups so far are out
abbrev pub invariant-loop-group : goal.invariant-loop-group
invariant-loop-group l =
    (spans : Pairs) → AreGroupSpans l.fn.groups.haystack.now l.fn.groups.slots.items spans →
    string_bytes l.line ≡ string_bytes l.initial.line ++ groups_text (take l.group spans)
