-- Each example by computation.
use Rattle.std.specs.Prelude.{refl}
use Rattle.fancy_regex_tree_examples.proofs.Computing.{computing}
use Rattle.fancy_regex_tree_examples.specs.AtomExamples.{AtomExamples}

pub atom_examples : AtomExamples
unfolding computing
atom_examples = record {
  nothing_at_all = refl;
  two_empty_branches = refl;
  branches_of_rows = refl;
  dot = refl;
  dot_s = refl;
  dot_R = refl;
  dot_sR = refl;
  anchors = refl;
  anchors_m = refl;
  anchors_mR = refl;
  closing_signs = refl;
  casei = refl;
  two_bytes = refl;
  line_start_oniguruma = refl;
  line_start_in_look_around = refl;
  line_start_after_look_around = refl;
  plain_start_oniguruma = refl;
}
