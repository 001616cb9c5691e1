use Rattle.fancy_regex_search.proofs.regex.Regex.captures_from_pos.Goals as goal

pub returns-clause-answer : goal.returns-clause-answer
returns-clause-answer g c =
    rw (c.from_pos.ensures.haystack, c.from_pos.ensures.config, c.new.ensures.haystack, c.new.ensures.config) at c.captures_input.ensures.answer
