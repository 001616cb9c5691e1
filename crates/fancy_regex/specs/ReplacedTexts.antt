-- A text with the matches of a pattern replaced by a template.
use Rattle.std.specs.Prelude.{ℕ, List, Some, None, chars, encode_utf8_all}
use Rattle.fancy_regex_meaning.specs.Searches.{Match, replaced}
use Rattle.fancy_regex_tree.specs.Numbering.{last_named}
use Rattle.fancy_regex_template.specs.Expansion.{Texts, expansion}
use Rattle.fancy_regex_template.specs.declared.syntax.TemplateSyntax.TheVariants.{Dollar}
use Rattle.fancy_regex_class.specs.RunInputs.{match_slots}
use Rattle.fancy_regex_search.specs.GroupTexts.{text_at}
use Rattle.fancy_regex_search.specs.Patterns.{pattern_in}
use Rattle.fancy_regex_search.specs.PatternMatches.{names_in}
use Rattle.fancy_regex_search.specs.RegexOptions.{RegexOptions}
use Rattle.fancy_regex.specs.TextMatches.{matches_in}

-- the texts of the groups of a match, as a template reads them
abbrev pub group_texts : RegexOptions → List ℕ → List ℕ → Match → Texts
group_texts o pattern text m = record {
  by_name = λ name. elim (last_named (names_in o pattern) name) [ None ↦ None | Some k ↦ text_at text (match_slots (pattern_in o pattern) m) k ];
  by_number = text_at text (match_slots (pattern_in o pattern) m);
}

-- what a template stands for at a match
abbrev pub expanded_at : RegexOptions → List ℕ → List ℕ → List ℕ → Match → List ℕ
expanded_at o pattern template text m = encode_utf8_all (expansion Dollar (group_texts o pattern text m) (chars template))

-- the text with each match of the pattern replaced by what the template stands for there
abbrev pub replaced_in : RegexOptions → List ℕ → List ℕ → List ℕ → List ℕ
replaced_in o pattern template text = replaced text (expanded_at o pattern template text) 0 (matches_in o pattern text)
