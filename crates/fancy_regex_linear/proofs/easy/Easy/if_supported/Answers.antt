use Rattle.std.proofs.Common.{subst}
use Rattle.fancy_regex_linear.specs.Plain.{IsPlain}
use Rattle.fancy_regex_linear.proofs.ServedLemmas.{info_is_of}
use Rattle.fancy_regex_linear.proofs.easy.Easy.if_supported.Goals as goal

pub compiled-requires : goal.compiled-requires
compiled-requires c = record {
  supported = λ explicit t is. subst IsPlain (info_is_of c.args.info.now explicit t is).tree (c.is_supported.ensures c.if-not-is_supported.false);
}
