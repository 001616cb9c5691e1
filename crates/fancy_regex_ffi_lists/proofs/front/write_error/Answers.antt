use Rattle.fancy_regex_ffi_lists.proofs.FrontLemmas.{error_named}
use Rattle.fancy_regex_ffi_lists.proofs.front.write_error.Goals as goal

pub returns-in_default : goal.returns-in_default
returns-in_default c = error_named _ c.args.out.now _ _ _ c.write_front.ensures.count c.write_front.ensures.front
