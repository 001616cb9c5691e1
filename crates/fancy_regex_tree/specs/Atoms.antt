-- The nodes of characters, escapes and anchors.
use Rattle.std.specs.Prelude.{ℕ, ◌-◌, Bool, false, not, ◌&&◌, [], ◌∷◌, if◌then◌else◌}
use Rattle.fancy_regex_text.specs.Text.{Text, bytes}
use Rattle.fancy_regex_text.specs.Names as names
use Rattle.fancy_regex_lex.specs.Escapes.{Escape, char_escape, byte_escape, class_escape, any_escape, newline_escape, assertion_escape, continue_escape, keep_out_escape, reference_escape, call_escape}
use Rattle.fancy_regex_lex.specs.declared.token.Flags.{Flags}
use Rattle.fancy_regex_lex.specs.declared.token.Look as lex_look
use Rattle.fancy_regex_lex.specs.declared.token.Look.TheVariants as looks
use Rattle.fancy_regex_lex.specs.declared.token.Verb as lex_verb
use Rattle.fancy_regex_lex.specs.declared.token.Verb.TheVariants as verbs
use Rattle.fancy_regex_lex.specs.declared.token.AssertionEscape.{AssertionEscape}
use Rattle.fancy_regex_lex.specs.declared.token.AssertionEscape.TheVariants as places
use Rattle.fancy_regex_tree.specs.declared.parser_config.ParserConfig.{ParserConfig}
use Rattle.fancy_regex_tree.specs.declared.expr.Assertion.{Assertion}
use Rattle.fancy_regex_tree.specs.declared.expr.Assertion.TheVariants as assertions
use Rattle.fancy_regex_tree.specs.declared.expr.LookAround.{LookAround}
use Rattle.fancy_regex_tree.specs.declared.expr.LookAround.TheVariants.{LookAhead, LookAheadNeg, LookBehind, LookBehindNeg}
use Rattle.fancy_regex_tree.specs.declared.expr.BacktrackingControlVerb.{BacktrackingControlVerb}
use Rattle.fancy_regex_tree.specs.declared.expr.BacktrackingControlVerb.TheVariants.{Fail, Accept, Commit, Skip, Prune}
use Rattle.fancy_regex_tree.specs.Tree.{Tree, Target, by_number, by_name, relative, any, assertion, general_newline, literal, literal_bytes, delegate, keep_out, continue, ast_backref, ast_call}

-- the byte offset in the pattern at which this rest of it begins
abbrev pub place : ParserConfig → Text → ℕ
place p t = p.size - bytes t

abbrev pub target_named : names.Named → Target
target_named (names.by_number n) = by_number n
target_named (names.by_name name) = by_name name
target_named (names.relative k) = relative k

abbrev pub look_of : lex_look.Look → LookAround
look_of looks.Ahead = LookAhead
look_of looks.AheadNeg = LookAheadNeg
look_of looks.Behind = LookBehind
look_of looks.BehindNeg = LookBehindNeg

abbrev pub verb_of : lex_verb.Verb → BacktrackingControlVerb
verb_of verbs.Fail = Fail
verb_of verbs.Accept = Accept
verb_of verbs.Commit = Commit
verb_of verbs.Skip = Skip
verb_of verbs.Prune = Prune

abbrev pub assertion_at : Flags → AssertionEscape → Assertion
assertion_at f places.TextStart = assertions.StartText
assertion_at f places.TextEnd = assertions.EndText
assertion_at f places.TextEndOrNewlines = assertions.EndTextIgnoreTrailingNewlines f.crlf
assertion_at f places.WordBoundary = assertions.WordBoundary
assertion_at f places.NotWordBoundary = assertions.NotWordBoundary
assertion_at f places.LeftWordBoundary = assertions.LeftWordBoundary
assertion_at f places.RightWordBoundary = assertions.RightWordBoundary
assertion_at f places.LeftWordHalfBoundary = assertions.LeftWordHalfBoundary
assertion_at f places.RightWordHalfBoundary = assertions.RightWordHalfBoundary

-- the literal node of one character
abbrev pub char_tree : Flags → ℕ → Tree
char_tree f c = literal (c ∷ []) f.casei

module _ (p : ParserConfig) (f : Flags) where
  -- the node of an escape, whose backslash stands at this byte offset
  abbrev pub escape_tree : ℕ → Escape → Tree
  escape_tree position (char_escape c) = char_tree f c
  escape_tree position (byte_escape b) = literal_bytes (b ∷ [])
  escape_tree position (class_escape t) = delegate t f.casei
  escape_tree position (any_escape newline) = any newline false
  escape_tree position newline_escape = general_newline p.unicode
  escape_tree position (assertion_escape a) = assertion (assertion_at f a)
  escape_tree position continue_escape = continue
  escape_tree position keep_out_escape = keep_out
  escape_tree position (reference_escape target level) = ast_backref (target_named target) f.casei level position
  escape_tree position (call_escape target) = ast_call (target_named target) position

  -- the node of `^`; in Oniguruma mode it differs inside and outside look-around
  abbrev pub line_start : Bool → Tree
  line_start in_look =
      assertion (if not f.multi then assertions.StartText else if p.oniguruma && not in_look then assertions.StartLineOniguruma f.crlf else assertions.StartLine f.crlf)

-- the node of `$`
abbrev pub line_end : Flags → Tree
line_end f = assertion (if f.multi then assertions.EndLine f.crlf else assertions.EndText)
