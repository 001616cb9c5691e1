use Rattle.fancy_regex_meta.specs.Strategies.{unlimited}
use Rattle.fancy_regex_meta.proofs.strategy.search_by_either.Goals as goal

-- the program answers, where it does, as without a limit
pub returns-in-Ok-Ok-clause-answer : goal.returns-in-Ok-Ok-clause-answer
returns-in-Ok-Ok-clause-answer c o t of does = (rw c.in-Ok-Ok.field-0-is at c.in-Ok-Ok.ensures) (unlimited o) t does
