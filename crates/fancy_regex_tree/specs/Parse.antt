-- What a text is parsed as: the tree with its groups numbered and its references resolved, or the first error.
use Rattle.std.specs.Prelude.{ℕ, ◌-◌, ◌^◌, Bool, not, ◌&&◌, ◌==◌, is_some, Result, Ok, Err, bit_and}
use Rattle.std.specs.List.{list_any}
use Rattle.fancy_regex_text.specs.Text.{bytes}
use Rattle.fancy_regex_text.specs.ParseFault.{ParseOutcome}
use Rattle.fancy_regex_tree.specs.declared.parse_options.ParseOptions.{ParseOptions}
use Rattle.fancy_regex_tree.specs.Tree.{Text, Tree}
use Rattle.fancy_regex_tree.specs.Parser.{parse_pattern}
use Rattle.fancy_regex_tree.specs.Numbering.{Names, PositionedFault, ◌⨟◌, openings, counted, last_named, resolved}

-- the options of a call
abbrev pub Options : Type 0
Options = ParseOptions

pub record Parsed : Type 0 where
  pub tree : Tree
  -- the name of each group, from group 1 on
  pub names : Names
  -- the tree before its references were resolved
  pub unresolved : Tree
  -- groups without a name were ignored
  pub ignored : Bool

-- an error in a text of this many bytes, with its byte offset instead of how much is left
abbrev pub with_position : {A : Type 0} → ℕ → ParseOutcome A → Result A PositionedFault
with_position size (Ok a) = Ok a
with_position size (Err e) = Err (record { kind = e.kind; position = size - e.left })

-- unnamed groups get no number
abbrev pub ignores : Options → Names → Bool
ignores o names = o.ignore_numbered && list_any is_some names

-- a whole tree with its groups numbered and its references resolved
abbrev pub resolve_references : Options → Tree → Result Parsed PositionedFault
resolve_references o tree =
    let ignored = ignores o (openings tree) in
    let names = counted ignored (openings tree) in
    resolved ignored (last_named names) 0 tree ⨟ λ found.
    Ok (record { tree = found.0; names = names; unresolved = tree; ignored = ignored })

unfoldable pub parse : Options → Text → Result Parsed PositionedFault
parse o t = with_position (bytes t) (parse_pattern o.oniguruma o.unicode o.flags t) ⨟ resolve_references o

-- this bit is set
abbrev pub has_flag : ℕ → ℕ → Bool
has_flag flags bit = not (bit_and flags (2 ^ bit) == 0)

-- the bits of the public constants
abbrev pub options_of : ℕ → Options
options_of flags = record {
  flags = record {
    casei = has_flag flags 0;
    multi = has_flag flags 1;
    dot_newline = has_flag flags 2;
    swap_greed = has_flag flags 3;
    verbose = has_flag flags 4;
    crlf = has_flag flags 6;
  };
  unicode = has_flag flags 5;
  oniguruma = has_flag flags 7;
  ignore_numbered = has_flag flags 8;
}
