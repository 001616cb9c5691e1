use Rattle.std.proofs.Common.{sym}
use Rattle.fancy_regex_prefilter.proofs.backref.are_same_bytes.Goals as goal

pub returns-then-begins_otherwise : goal.returns-then-begins_otherwise
returns-then-begins_otherwise c = sym (c.begins_otherwise.ensures c.if-begins_otherwise.true)
