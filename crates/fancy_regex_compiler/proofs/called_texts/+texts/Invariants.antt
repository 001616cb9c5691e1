use Rattle.std.proofs.Common.{map, take}
use Rattle.fancy_regex_desugar.specs.Unfolded.{cat_all}
use Rattle.fancy_regex_info.specs.Infos.{info_of}
use Rattle.fancy_regex_compiler.specs.Known.{info_written}
use Rattle.fancy_regex_compiler.specs.CalledTexts.{WritesText}
use Rattle.fancy_regex_compiler.proofs.called_texts.+texts.Given as goal

abbrev pub invariant-characters_of_row-loop-child : goal.invariant-characters_of_row-loop-child
invariant-characters_of_row-loop-child l =
    WritesText l.lengths l.characters (λ call. cat_all (map (λ i. info_written call (info_of i)) (take l.child-index l.children)))
