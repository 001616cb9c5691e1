use Rattle.std.proofs.lemmas.Str.{IsCharBoundary-start}
use Rattle.fancy_regex_engine_tests.proofs.linear.answers.Goals as goal

pub search_in-requires-clause-first : goal.search_in-requires-clause-first
search_in-requires-clause-first c = IsCharBoundary-start c.args.text.now c.utf8.text
