use Rattle.std.proofs.Common.{◌≡◌, false, map, take}
use Rattle.std.specs.List.{list_any}
use Rattle.fancy_regex_meaning.specs.Sizes.{size_with}
use Rattle.fancy_regex_info.specs.Views.{size_at}
use Rattle.fancy_regex_analysis.specs.UnsupportedParts.{is_unsupported}
use Rattle.fancy_regex_analysis.specs.EmittedParts.{part_at}
use Rattle.fancy_regex_analysis.proofs.unsupported.check_parts.Given as goal

abbrev pub invariant-loop-part : goal.invariant-loop-part
invariant-loop-part l =
    list_any (λ part. is_unsupported (size_with (size_at l.sizes)) part.0 part.1) (map part_at (take l.part-index l.parts)) ≡ false
