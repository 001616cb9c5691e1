-- Parse errors, and the results of parsing functions: a value, or the first error with its position.
use Rattle.std.specs.Prelude.{◌≡◌, ℕ, ◌++◌, Result, Ok, Err, chars, string_bytes}
use Rattle.fancy_regex_text.specs.Text.{Text, bytes}
use Rattle.fancy_regex_text.specs.declared.fault.ParseError.{ParseError}
use Rattle.fancy_regex_text.specs.declared.fault.ParseError.TheVariants.{GeneralParseError, UnclosedOpenParen, InvalidRepeat, RecursionExceeded, TrailingBackslash, InvalidEscape, UnclosedUnicodeName, InvalidHex, InvalidCodepointValue, InvalidClass, UnknownFlag, ChangingUnicodeModeUnsupported, InvalidBackref, TargetNotRepeatable, InvalidGroupName, InvalidGroupNameBackref}
use Rattle.fancy_regex_text.specs.declared.fault.ReadError.{ReadError}
use Rattle.fancy_regex_text.specs.declared.fault.ReadError.TheVariants as errors

-- the kinds of parse errors, with texts as characters
pub data Kind : Type 0 where
  general_parse_error : Text → Kind
  unclosed_open_paren : Kind
  invalid_repeat : Kind
  recursion_exceeded : Kind
  trailing_backslash : Kind
  invalid_escape : Text → Kind
  unclosed_unicode_name : Kind
  invalid_hex : Kind
  invalid_codepoint_value : Kind
  invalid_class : Kind
  unknown_flag : Text → Kind
  changing_unicode_mode_unsupported : Kind
  invalid_backref : Kind
  target_not_repeatable : Kind
  invalid_group_name : Kind
  invalid_group_name_backref : Text → Kind

-- a parse error
pub record ParseFault : Type 0 where
  pub kind : Kind
  -- the number of bytes from the position of the error to the end of the pattern
  pub left : ℕ

-- the result of parsing: a value, or the first error
abbrev pub ParseOutcome : Type 0 → Type 0
ParseOutcome A = Result A ParseFault

-- one parsing step and then another, where each may fail
infixl 10 ◌>>=◌
abbrev pub ◌>>=◌ : {A B : Type 0} → ParseOutcome A → (A → ParseOutcome B) → ParseOutcome B
Ok a >>= f = f a
Err e >>= f = Err e

-- fails with this kind at the position where this rest of the pattern begins; `[]` is the end of the pattern
abbrev pub fail_at : {A : Type 0} → Kind → Text → ParseOutcome A
fail_at kind t = Err (record { kind = kind; left = bytes t })

-- the kind of an error of the code, with its payload as characters
abbrev pub kind_of : ParseError → Kind
kind_of (GeneralParseError s) = general_parse_error (chars (string_bytes s))
kind_of UnclosedOpenParen = unclosed_open_paren
kind_of InvalidRepeat = invalid_repeat
kind_of RecursionExceeded = recursion_exceeded
kind_of TrailingBackslash = trailing_backslash
kind_of (InvalidEscape s) = invalid_escape (chars (string_bytes s))
kind_of UnclosedUnicodeName = unclosed_unicode_name
kind_of InvalidHex = invalid_hex
kind_of InvalidCodepointValue = invalid_codepoint_value
kind_of InvalidClass = invalid_class
kind_of (UnknownFlag s) = unknown_flag (chars (string_bytes s))
kind_of ChangingUnicodeModeUnsupported = changing_unicode_mode_unsupported
kind_of InvalidBackref = invalid_backref
kind_of TargetNotRepeatable = target_not_repeatable
kind_of InvalidGroupName = invalid_group_name
kind_of (InvalidGroupNameBackref s) = invalid_group_name_backref (chars (string_bytes s))

-- this error of the code is the error of the definition; want of memory says nothing
abbrev pub Fails : {A : Type 0} → ReadError → ParseOutcome A → Type 0
Fails (errors.ParseFault f) read = read ≡ Err (record { kind = kind_of f.kind; left = f.left })
Fails errors.Memory read = Unit {0}

-- what a function returned, converted by `view`, is the result of the definition; want of memory says nothing
abbrev pub Gives : {X A : Type 0} → (X → A) → Result X ReadError → ParseOutcome A → Type 0
Gives view (Ok x) read = read ≡ Ok (view x)
Gives view (Err e) read = Fails e read

-- the result with this text put before the text that was read
abbrev pub prepend : Text → ParseOutcome (Text × Text) → ParseOutcome (Text × Text)
prepend front (Ok read) = Ok (front ++ read.0, read.1)
prepend front (Err e) = Err e

-- a function failed with this kind at the position where the text begins, or for want of memory
abbrev pub Stops : {X : Type 0} → Result X ReadError → Kind → Text → Type 0
Stops (Ok x) kind t = ⊥
Stops (Err (errors.ParseFault f)) kind t = (kind_of f.kind ≡ kind) × (f.left ≡ bytes t)
Stops (Err errors.Memory) kind t = Unit {0}
