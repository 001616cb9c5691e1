-- The flags after `(?`.
use Rattle.std.specs.Prelude.{ℕ, Bool, true, false, [], ◌∷◌, Option, Some, None, Ok, if◌then◌else◌}
use Rattle.fancy_regex_text.specs.Text.{Text, ◌∈◌, prefix_before}
use Rattle.fancy_regex_text.specs.ParseFault.{ParseOutcome, ◌>>=◌, fail_at, unclosed_open_paren, unknown_flag, changing_unicode_mode_unsupported}
use Rattle.fancy_regex_lex.specs.declared.token.Flags.{Flags}

-- the two are equal
abbrev pub same : Bool → Bool → Bool
same true b = b
same false true = false
same false false = true

-- the first character and the rest; None if it is `:` or `)`, or the text is empty
unfoldable pub next_letter : Text → Option (ℕ × Text)
next_letter [] = None
next_letter (c ∷ t) = if c ∈ ":)" then None else Some (c, t)

-- the end of the flags: the flags, whether a group body follows (after `:`, not `)`), and the rest
unfoldable pub closed : Flags → Text → ParseOutcome (Flags × Bool × Text)
closed f [] = fail_at unclosed_open_paren []
closed f (c ∷ t) =
    if c ∈ ":" then Ok (f, true, t)
    else if c ∈ ")" then Ok (f, false, t)
    else fail_at unclosed_open_paren (c ∷ t)

module _ (unicode : Bool) (here : Text) where
  -- The flags after the letter c, and whether later letters set their flags, which they do up to the first `-`. t is the text
  -- after c, `here` the text from the open parenthesis on, and `unicode` whether the pattern is in Unicode mode.
  unfoldable pub flag_letter : Bool → Flags → ℕ → Text → ParseOutcome (Flags × Bool)
  flag_letter on f c t =
      if c ∈ "i" then Ok (record f { casei = on }, on)
      else if c ∈ "m" then Ok (record f { multi = on }, on)
      else if c ∈ "s" then Ok (record f { dot_newline = on }, on)
      else if c ∈ "x" then Ok (record f { verbose = on }, on)
      else if c ∈ "U" then Ok (record f { swap_greed = on }, on)
      else if c ∈ "R" then Ok (record f { crlf = on }, on)
      else if c ∈ "u" then (if same on unicode then Ok (f, on) else fail_at changing_unicode_mode_unsupported here)
      else if c ∈ "-" then (if on then Ok (f, false) else fail_at (unknown_flag (prefix_before here t)) here)
      else fail_at (unknown_flag (prefix_before here t)) here

  -- the flags up to `:` or `)`: the flags as changed, whether a group body follows (after `:`), and the rest
  unfoldable pub flag_letters : Bool → Flags → Text → ParseOutcome (Flags × Bool × Text)
  flag_letters on f [] = fail_at unclosed_open_paren []
  flag_letters on f (c ∷ t) =
      if c ∈ ":" then Ok (f, true, t)
      else if c ∈ ")" then Ok (f, false, t)
      else (do
        (changed, still_on) ← flag_letter on f c t
        flag_letters still_on changed t)
