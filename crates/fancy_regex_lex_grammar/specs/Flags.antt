-- The flag letters after `(?`, up to `:` or `)`.
use Rattle.std.specs.Prelude.{◌≡◌, ◌≢◌, ℕ, Bool, true, false, [], ◌∷◌, ◌++◌}
use Rattle.fancy_regex_text.specs.Text.{Text, ◌∈◌}
use Rattle.fancy_regex_text.specs.ParseFault.{Kind, ParseFault, unclosed_open_paren, unknown_flag, changing_unicode_mode_unsupported}
use Rattle.fancy_regex_lex.specs.FlagLetters.{flag_letters}
use Rattle.fancy_regex_lex.specs.declared.token.Flags.{Flags}
use Rattle.fancy_regex_lex_grammar.specs.Exact.{ReadsExactly, at}

-- `unicode` says whether the whole pattern is in Unicode mode
module _ (unicode : Bool) where
  -- Whether letters set (true) or clear flags, the flags, and a letter; the flags after it, and whether later letters set or clear.
  pub data IsFlag : Bool → Flags → ℕ → Flags → Bool → Type 0 where
    case_insensitive : {on : Bool} {f : Flags} → IsFlag on f 0x69 (record f { casei = on }) on
    multi_line : {on : Bool} {f : Flags} → IsFlag on f 0x6D (record f { multi = on }) on
    dot_matches_newline : {on : Bool} {f : Flags} → IsFlag on f 0x73 (record f { dot_newline = on }) on
    ignore_whitespace : {on : Bool} {f : Flags} → IsFlag on f 0x78 (record f { verbose = on }) on
    swap_greed : {on : Bool} {f : Flags} → IsFlag on f 0x55 (record f { swap_greed = on }) on
    carriage_returns : {on : Bool} {f : Flags} → IsFlag on f 0x52 (record f { crlf = on }) on
    unicode_again : {on : Bool} {f : Flags} → on ≡ unicode → IsFlag on f 0x75 f on
    -- `-`, at most once
    clear_from_here : {f : Flags} → IsFlag true f 0x2D f false

  -- the flags after all letters, whether a body follows (`:`), and the rest
  pub data IsFlags : Bool → Flags → Text → Flags → Bool → Text → Type 0 where
    before_body : {on : Bool} {f : Flags} {t : Text} → IsFlags on f (0x3A ∷ t) f true t
    alone : {on : Bool} {f : Flags} {t : Text} → IsFlags on f (0x29 ∷ t) f false t
    and_flag : {on next body : Bool} {f g h : Flags} {c : ℕ} {t rest : Text} → IsFlag on f c g next → IsFlags next g t h body rest →
        IsFlags on f (c ∷ t) h body rest

  -- A letter that is no flag here, and the text after it; `here` is the text from the opening parenthesis on.
  pub data FlagFails (here : Text) : Bool → ℕ → Text → Kind → Type 0 where
    unknown : {on : Bool} {c : ℕ} {t up_to_letter : Text} → c ∈ "imsxURu-:)" ≡ false → here ≡ up_to_letter ++ t →
        FlagFails here on c t (unknown_flag up_to_letter)
    second_minus : {t up_to_letter : Text} → here ≡ up_to_letter ++ t → FlagFails here false 0x2D t (unknown_flag up_to_letter)
    unicode_changed : {on : Bool} {t : Text} → on ≢ unicode → FlagFails here on 0x75 t changing_unicode_mode_unsupported

  -- where the flag letters fail, and the error
  pub data FlagsFail (here : Text) : Bool → Flags → Text → ParseFault → Type 0 where
    text_ends : {on : Bool} {f : Flags} → FlagsFail here on f [] (at unclosed_open_paren [])
    at_letter : {on : Bool} {f : Flags} {c : ℕ} {t : Text} {kind : Kind} → FlagFails here on c t kind → FlagsFail here on f (c ∷ t) (at kind here)
    at_later_letter : {on next : Bool} {f g : Flags} {c : ℕ} {t : Text} {e : ParseFault} → IsFlag on f c g next → FlagsFail here next g t e →
        FlagsFail here on f (c ∷ t) e

-- `t` is a suffix of `here`
abbrev pub FlagsAreExact : Type 0
FlagsAreExact = (unicode on : Bool) (f : Flags) (here front t : Text) → here ≡ front ++ t →
    ReadsExactly (flag_letters unicode here on f t) (λ (r : Flags × Bool × Text). IsFlags unicode on f t r.0 r.1 r.2) (FlagsFail unicode here on f t)
