-- What is missing inside of a look-around.
use Rattle.std.proofs.Common.{◌≡◌, true, false, is_some, refl}
use Rattle.fancy_regex_tree.specs.Tree.{Tree, keep_out, absent_repeater}
use Rattle.fancy_regex_analysis.specs.UnsupportedParts.{unsupported_feature_in}
use Rattle.fancy_regex_analysis.specs.EmittedParts.{in_look_around}
use Rattle.fancy_regex_analysis.specs.declared.emitted.Inside.{Inside}
use Rattle.fancy_regex_analysis.specs.declared.emitted.Inside.TheVariants.{Nothing, LookAround, Absent}

pub no_keep_around : (j : Inside) → is_some (unsupported_feature_in (in_look_around j) keep_out) ≡ true
no_keep_around Nothing = refl
no_keep_around LookAround = refl
no_keep_around Absent = refl

pub no_absent_around : (j : Inside) (t : Tree) → is_some (unsupported_feature_in j (absent_repeater t)) ≡ true →
    is_some (unsupported_feature_in (in_look_around j) (absent_repeater t)) ≡ true
no_absent_around Nothing t h = absurd (let never : false ≡ true = h in cc)
no_absent_around LookAround t h = absurd (let never : false ≡ true = h in cc)
no_absent_around Absent t h = refl
