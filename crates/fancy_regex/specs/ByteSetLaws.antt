-- What the byte sets of a pattern say of the searches of its regexes.
use Rattle.std.specs.Prelude.{◌≡◌, ℕ, true, List, Ok, Option, Some, slice_get, IsUtf8, IsCharBoundary}
use Rattle.regex_hir.specs.Text.{is_some_and}
use Rattle.fancy_regex_tree.specs.Parse.{Parsed}
use Rattle.fancy_regex_meaning.specs.WayLaws.{Each}
use Rattle.fancy_regex_meaning.specs.Searches.{Match, find_input, all_items, match_at}
use Rattle.fancy_regex_class.specs.declared.class.ClassError.TheVariants as of_class
use Rattle.fancy_regex_info.specs.declared.error.CompileError.{CompileError}
use Rattle.fancy_regex_info.specs.declared.error.CompileError.TheVariants as of_building
use Rattle.fancy_regex_bytes.specs.ByteSets.{Bytes}
use Rattle.fancy_regex_bytes.specs.StartErrors.{IsStartError}
use Rattle.fancy_regex_input.specs.SearchInputs.{FitsText, input_of}
use Rattle.fancy_regex_input.specs.declared.config.SearchConfig.{SearchConfig}
use Rattle.fancy_regex_search.specs.Patterns.{read_as, pattern_in, options_in, setting_in}
use Rattle.fancy_regex_search.specs.Reading.{IsReadingError}
use Rattle.fancy_regex_search.specs.Refusals.{Accepts}
use Rattle.fancy_regex_search.specs.RegexOptions.{RegexOptions}
use Rattle.fancy_regex_search.specs.Error.{Error}
use Rattle.fancy_regex_search.specs.Error.TheVariants as told

-- the match starts at a byte of the set
abbrev pub StartsIn : Bytes → List ℕ → Match → Type 0
StartsIn set text m = is_some_and (slice_get text m.start) set ≡ true

-- the text has each byte of the set
abbrev pub HoldsAll : Bytes → List ℕ → Type 0
HoldsAll set text = (b : ℕ) → set b ≡ true → (i : ℕ) × (slice_get text i ≡ Some b)

-- Each match of the pattern under the options has the property of its text: the match of a search, and each item of an iteration.
pub record MatchesHave (o : RegexOptions) (pattern : List ℕ) (P : List ℕ → Match → Type 0) : Type 0 where
  pub found : (text : List ℕ) (config : SearchConfig) → IsUtf8 text → FitsText text config → (m : Match) →
      find_input (setting_in o text config) (pattern_in o pattern) (options_in o) (input_of config) ≡ Some m → P text m
  pub items : (text : List ℕ) (config : SearchConfig) → IsUtf8 text → FitsText text config →
      Each (P text) (all_items (setting_in o text config) (pattern_in o pattern) (options_in o) (input_of config))

-- Each match of a regex that is built of the pattern with these options starts at a byte of the set.
abbrev pub MatchesStartIn : RegexOptions → List ℕ → Bytes → Type 0
MatchesStartIn o pattern set = Accepts o pattern → MatchesHave o pattern (StartsIn set)

-- A regex that is built of the pattern with these options finds a match at a place, as a pattern set asks for it, only where a byte
-- of the set stands. There it starts.
abbrev pub FindsOnlyIn : RegexOptions → List ℕ → Bytes → Type 0
FindsOnlyIn o pattern set =
    Accepts o pattern → (text : List ℕ) (config : SearchConfig) (continue_at : Option ℕ) (p : ℕ) (m : Match) → IsUtf8 text → IsCharBoundary text p →
    match_at (record (setting_in o text config) { continue_at = continue_at }) (pattern_in o pattern)
    (record { first = p; stop = config.range_end; anchored = true; options = options_in o }) p ≡ Some m →
    (m.start ≡ p) × (is_some_and (slice_get text p) set ≡ true)

-- Each text with a match has each byte of the set.
abbrev pub MatchesRequire : RegexOptions → List ℕ → Bytes → Type 0
MatchesRequire o pattern set = MatchesHave o pattern (λ text m. HoldsAll set text)

-- A regex of the pattern with these options finds a match at a place, as a pattern set asks for it, only in a text that has each
-- byte of the set.
abbrev pub FindsOnlyWith : RegexOptions → List ℕ → Bytes → Type 0
FindsOnlyWith o pattern set =
    (text : List ℕ) (config : SearchConfig) (continue_at : Option ℕ) (p : ℕ) (m : Match) →
    match_at (record (setting_in o text config) { continue_at = continue_at }) (pattern_in o pattern)
    (record { first = p; stop = config.range_end; anchored = true; options = options_in o }) p ≡ Some m → HoldsAll set text

-- the text of a class of the tree that `regex` refuses
abbrev pub IsRefusedClassOf : RegexOptions → List ℕ → CompileError → Type 0
IsRefusedClassOf o pattern (of_building.InnerError shown) =
    (found : Parsed) × (read_as o pattern ≡ Ok found) × IsStartError o.unicode_mode found.tree (of_class.InnerError shown)
IsRefusedClassOf o pattern _ = ⊥

-- an error of parsing the pattern; or the text of a class of its tree that `regex` refuses; or want of memory
abbrev pub IsStartBytesError : RegexOptions → List ℕ → Error → Type 0
IsStartBytesError o pattern (told.CompileError cause) = IsRefusedClassOf o pattern cause
IsStartBytesError o pattern e = IsReadingError o pattern e
