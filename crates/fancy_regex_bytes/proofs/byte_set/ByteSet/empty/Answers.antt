use Rattle.fancy_regex_bytes.proofs.ByteSetLemmas.{empty_table}
use Rattle.fancy_regex_bytes.proofs.byte_set.ByteSet.empty.Goals as goal

pub returns : goal.returns
returns c = empty_table
