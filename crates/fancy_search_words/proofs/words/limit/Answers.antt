use Rattle.std.proofs.Common.{ℕ, List, Result}
use Rattle.std.specs.Str.Parse.{ParsesUnsigned, ExplainsUnsignedError, HasUnsignedDigitsIfOk}
use Rattle.std.specs.declared.num.ParseIntError.{ParseIntError}
use Rattle.clap.specs.Matches.{found_of}
use Rattle.fancy_search_words.proofs.Numbers.{limit_read, reads_as}
use Rattle.fancy_search_words.proofs.words.limit.Goals as goal

-- what `u64` says of the texts that it reads
abbrev Reads : List ℕ → Result ℕ ParseIntError → Type 0
Reads bs r = ParsesUnsigned 64 10 bs r × ExplainsUnsignedError 10 bs r × HasUnsignedDigitsIfOk bs r

pub returns : goal.returns
returns c =
    limit_read ParseIntError (found_of c.args.found.now) c.get_one.result c.get_one.ensures.none
    (λ t e. reads_as ParseIntError Reads (ParsesUnsigned 64 10) t c.get_one.result (c.get_one.ensures.value t e) (λ x h. h.0))
