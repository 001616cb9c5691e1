use Rattle.fancy_regex_linear.proofs.ServedLemmas.{info_plain}
use Rattle.fancy_regex_linear.proofs.easy.Easy.without_table.Goals as goal

pub compiled-requires : goal.compiled-requires
compiled-requires c = record { supported = λ explicit t is. info_plain c.args.info.now explicit t is c.requires.easy }
