-- The request that words give, or why they give none.
use Rattle.std.specs.Prelude.{◌≡◌, ◌≢◌, ℕ, Bool, false, List, [], ◌∷◌, Option, Some, None, codes, bytes_eq, map, option_and_then, option_map, if◌then◌else◌}
use Rattle.std.specs.Borrow.{Bor}
use Rattle.std.specs.Option.{option_map_or}
use Rattle.std.specs.Str.Parse.{digits_value, without_leading_plus}
use Rattle.clap.specs.Faults.{fault_of}
use Rattle.clap.specs.Kinds.{Kinds, IsAmong}
use Rattle.clap.specs.Simple.{subcommand_of}
use Rattle.clap.specs.ValueTests.{accepts}
use Rattle.clap.specs.Walk.{Row, Text, all_of, first_of, one_of}
use Rattle.clap.specs.declared.builder.value_parser.ValueParser.TheVariants.{Unsigned}
use Rattle.clap.specs.declared.error.kind.ErrorKind.{ErrorKind}
use Rattle.clap.specs.declared.error.kind.ErrorKind.TheVariants as kind
use Rattle.fancy_search_words.specs.CommandLine.{max_limit, the_app}
use Rattle.fancy_search_words.specs.declared.arguments.Arguments.{Arguments}
use Rattle.fancy_search_words.specs.declared.arguments.Options.{Options}
use Rattle.fancy_search_words.specs.declared.arguments.Subcommand.{Subcommand}
use Rattle.fancy_search_words.specs.declared.arguments.Subcommand.TheVariants.{Find, Captures, Split, Replace, Print, Set}
use Rattle.fancy_search_words.specs.declared.refusal.Refusal.{Refusal}
use Rattle.fancy_search_words.specs.declared.refusal.Refusal.TheVariants as refusals

-- What a subcommand asks, with the texts of its arguments.
pub data Command : Type 0 where
  find : Text → Command
  captures : Text → Command
  split : Text → Command
  -- a pattern and a template
  replace : Text → Text → Command
  print : Text → Command
  -- one pattern or more
  set : List Text → Command

-- A request: a command and its options.
pub record Request : Type 0 where
  pub command : Command
  pub options : Options

-- the flag was given
abbrev pub is_given : Text → List Row → Bool
is_given id rows = option_map_or (λ t. bytes_eq t (codes "true")) (first_of id rows) false

-- the number that a text of digits denotes, if it is in range
abbrev pub number_of : Text → Option ℕ
number_of t = if accepts false (Unsigned 0 max_limit) t then Some (digits_value 10 (without_leading_plus t)) else None

-- the number of `--limit`; `None` if it was not given
abbrev pub limit_of : List Row → Option ℕ
limit_of rows = option_and_then number_of (one_of (codes "limit") rows)

-- the options that were given
abbrev pub options_of : List Row → Options
options_of rows = record {
  case_insensitive = is_given (codes "case_insensitive") rows;
  multi_line = is_given (codes "multi_line") rows;
  dot_matches_new_line = is_given (codes "dot_matches_new_line") rows;
  ignore_whitespace = is_given (codes "ignore_whitespace") rows;
  ascii = is_given (codes "ascii") rows;
  oniguruma = is_given (codes "oniguruma") rows;
  not_empty = is_given (codes "not_empty") rows;
  longest = is_given (codes "longest") rows;
  limit = limit_of rows;
}

-- the command of a subcommand by name, with its pattern, and its template where one was given
abbrev pub command_with : Text → Text → Option Text → Option Command
command_with name pattern template =
    if bytes_eq name (codes "find") then Some (find pattern)
    else (if bytes_eq name (codes "captures") then Some (captures pattern)
    else (if bytes_eq name (codes "split") then Some (split pattern)
    else (if bytes_eq name (codes "replace") then option_map (replace pattern) template
    else (if bytes_eq name (codes "print") then Some (print pattern) else None))))

-- the command of a subcommand that takes one pattern, by name, with the arguments that were matched for it
abbrev pub pattern_command_from : Text → List Row → Option Command
pattern_command_from name rows = option_and_then (λ p. command_with name p (first_of (codes "template") rows)) (first_of (codes "pattern") rows)

-- the command of a subcommand by name, with the arguments that were matched for it
abbrev pub command_from : Text → List Row → Option Command
command_from name rows =
    if bytes_eq name (codes "set") then option_map set (all_of (codes "patterns") rows) else pattern_command_from name rows

-- the request of a command with the options that were matched
abbrev pub request_with : List Row → Command → Request
request_with rows command = record { command = command; options = options_of rows }

-- the request of a subcommand by name, with the arguments that were matched for it
abbrev pub request_of_subcommand : Text × List Row → Option Request
request_of_subcommand found = option_map (request_with found.1) (command_from found.0 found.1)

-- the request of matched words; none if `clap` reported an error
abbrev pub request_if_accepted : Kinds → Option (Text × List Row) → Option Request
request_if_accepted [] found = option_and_then request_of_subcommand found
request_if_accepted (k ∷ ks) found = None

-- the request that words give; none if `clap` refuses them
abbrev pub requested : List Text → Option Request
requested words = request_if_accepted (fault_of the_app words) (subcommand_of the_app words)

-- the patterns after references
abbrev pub texts_of : List (Bor Text) → List Text
texts_of patterns = map (λ p. p.now) patterns

-- the subcommand as a value of the definitions
abbrev pub command_of : Subcommand → Command
command_of (Find p) = find p.now
command_of (Captures p) = captures p.now
command_of (Split p) = split p.now
command_of (Replace p t) = replace p.now t.now
command_of (Print p) = print p.now
command_of (Set ps) = set (texts_of ps.items)

-- the request as a value of the definitions
abbrev pub request_of_arguments : Arguments → Request
request_of_arguments a = record { command = command_of a.subcommand; options = a.options }

-- the refusal fits an error of this kind
abbrev pub IsRefusalFor : ErrorKind → Refusal → Type 0
IsRefusalFor k refusals.Memory = Unit {0}
IsRefusalFor k (refusals.Help text) = k ≡ kind.DisplayHelp
IsRefusalFor k (refusals.Words text) = (k ≢ kind.DisplayHelp) × (k ≢ kind.OutOfMemory)

-- The refusal of words: memory ran out, or they give no request, since they request help or do not parse.
abbrev pub Refuses : List Text → Refusal → Type 0
Refuses words refusals.Memory = Unit {0}
Refuses words (refusals.Help text) = (requested words ≡ None) × IsAmong kind.DisplayHelp (fault_of the_app words)
Refuses words (refusals.Words text) = (requested words ≡ None) × (fault_of the_app words ≢ kind.DisplayHelp ∷ [])
