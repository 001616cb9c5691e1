-- Layout, which is skipped between tokens: comments, and in verbose mode white space. The relations take the text and the rest after it.
use Rattle.std.specs.Prelude.{◌≡◌, ◌≢◌, ℕ, Bool, true, [], ◌∷◌}
use Rattle.fancy_regex_text.specs.Text.{Text, bytes}
use Rattle.fancy_regex_text.specs.ParseFault.{ParseFault, unclosed_open_paren}
use Rattle.fancy_regex_text.specs.Layout.{next_token, skip}
use Rattle.fancy_regex_lex_grammar.specs.Exact.{FindsExactly, ReadsExactly}

-- a comment: the text after `(?#`, and the rest after its closing `)`
pub data IsComment : Text → Text → Type 0 where
  closes : {t : Text} → IsComment (0x29 ∷ t) t
  -- a backslash escapes the next character
  hides : {c : ℕ} {t rest : Text} → IsComment t rest → IsComment (0x5C ∷ c ∷ t) rest
  goes_on : {c : ℕ} {t rest : Text} → c ≢ 0x29 → c ≢ 0x5C → IsComment t rest → IsComment (c ∷ t) rest

-- the text after `(?#` of a comment that is not closed
pub data IsOpenComment : Text → Type 0 where
  ends : IsOpenComment []
  ends_hiding : IsOpenComment (0x5C ∷ [])
  hides_in_open : {c : ℕ} {t : Text} → IsOpenComment t → IsOpenComment (0x5C ∷ c ∷ t)
  goes_on_open : {c : ℕ} {t : Text} → c ≢ 0x29 → c ≢ 0x5C → IsOpenComment t → IsOpenComment (c ∷ t)

-- a line comment: the text after `#`, and the rest after the next newline or at the end
pub data IsLine : Text → Text → Type 0 where
  at_end : IsLine [] []
  newline : {t : Text} → IsLine (0x0A ∷ t) t
  longer : {c : ℕ} {t rest : Text} → c ≢ 0x0A → IsLine t rest → IsLine (c ∷ t) rest

-- white space of verbose mode
pub data IsBlank : ℕ → Type 0 where
  space : IsBlank 0x20
  tab : IsBlank 0x09
  return : IsBlank 0x0D
  line_feed : IsBlank 0x0A

-- comments, and under the flag x blanks and lines from `#` on
pub data IsLayout (verbose : Bool) : Text → Text → Type 0 where
  nothing_more : {t : Text} → IsLayout verbose t t
  a_comment : {t u rest : Text} → IsComment t u → IsLayout verbose u rest → IsLayout verbose (0x28 ∷ 0x3F ∷ 0x23 ∷ t) rest
  a_blank : {c : ℕ} {t rest : Text} → verbose ≡ true → IsBlank c → IsLayout verbose t rest → IsLayout verbose (c ∷ t) rest
  a_line : {t u rest : Text} → verbose ≡ true → IsLine t u → IsLayout verbose u rest → IsLayout verbose (0x23 ∷ t) rest

-- the text begins with layout
pub data BeginsLayout (verbose : Bool) : Text → Type 0 where
  comment_begins : {t : Text} → BeginsLayout verbose (0x28 ∷ 0x3F ∷ 0x23 ∷ t)
  blank_begins : {c : ℕ} {t : Text} → verbose ≡ true → IsBlank c → BeginsLayout verbose (c ∷ t)
  line_begins : {t : Text} → verbose ≡ true → BeginsLayout verbose (0x23 ∷ t)

-- the longest layout at the beginning
pub record IsSkipped (verbose : Bool) (t rest : Text) : Type 0 where
  pub layout : IsLayout verbose t rest
  pub longest : BeginsLayout verbose rest → ⊥

-- layout, followed by a comment that is not closed
pub record IsOpenLayout (verbose : Bool) (t : Text) : Type 0 where
  pub rest : Text
  pub layout : IsLayout verbose t (0x28 ∷ 0x3F ∷ 0x23 ∷ rest)
  pub open_comment : IsOpenComment rest

-- a comment that is not closed is an error at the end of the text
pub record LayoutFails (verbose : Bool) (t : Text) (e : ParseFault) : Type 0 where
  pub layout : IsOpenLayout verbose t
  pub fault : e ≡ record { kind = unclosed_open_paren; left = bytes [] }

abbrev pub NextTokenIsExact : Type 0
NextTokenIsExact = (verbose : Bool) (t : Text) → FindsExactly (next_token verbose t) (IsSkipped verbose t)

abbrev pub SkipIsExact : Type 0
SkipIsExact = (verbose : Bool) (t : Text) → ReadsExactly (skip verbose t) (IsSkipped verbose t) (LayoutFails verbose t)
