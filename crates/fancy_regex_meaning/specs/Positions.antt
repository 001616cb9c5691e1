-- Positions of a haystack, which are byte offsets, and the characters and bytes around them.
use Rattle.std.specs.Prelude.{ℕ, zero, suc, ◌+◌, ◌-◌, Bool, true, false, not, ◌&&◌, ◌||◌, List, [], ◌∷◌, length, Option, Some, ◌==◌}
use Rattle.std.specs.List.{filter}
use Rattle.std.specs.Char.{len_utf8}
use Rattle.regex_hir.specs.Text.{is_some_and, byte_before, char_at, char_before, is_boundary}
use Rattle.std.specs.Prelude.{slice_get, option_and_then, unwrap_or, option_map}

-- the n numbers from i on
abbrev pub numbers_from : ℕ → ℕ → List ℕ
numbers_from zero i = []
numbers_from (suc n) i = i ∷ numbers_from n (i + 1)

module _ (text : List ℕ) where
  -- the character boundaries from one position to another, both included
  abbrev pub boundaries : ℕ → ℕ → List ℕ
  boundaries first last = filter (is_boundary text) (numbers_from (last + 1 - first) first)

  -- the position one character after this one; at the end of the haystack, one past it
  abbrev pub position_after : ℕ → ℕ
  position_after p = p + unwrap_or (option_map len_utf8 (char_at text p)) 1

  -- the position so many characters before this one, if there are so many
  abbrev pub position_before : ℕ → ℕ → Option ℕ
  position_before zero p = Some p
  position_before (suc n) p = option_and_then (λ c. position_before n (p - len_utf8 c)) (char_before text p)

  abbrev pub is_at_end : ℕ → Bool
  is_at_end p = p == length text

  -- the byte before the position, and the byte at it, is this one
  abbrev pub is_after_byte : ℕ → ℕ → Bool
  is_after_byte b p = is_some_and (byte_before text p) (λ c. c == b)

  abbrev pub is_before_byte : ℕ → ℕ → Bool
  is_before_byte b p = is_some_and (slice_get text p) (λ c. c == b)

  -- `^` in multi-line mode
  abbrev pub is_line_start : Bool → ℕ → Bool
  is_line_start crlf p =
      p == 0 || is_after_byte 10 p || (crlf && is_after_byte 13 p && not (is_before_byte 10 p))

  -- `$` in multi-line mode
  abbrev pub is_line_end : Bool → ℕ → Bool
  is_line_end false p = is_at_end p || is_before_byte 10 p
  is_line_end true p = is_at_end p || is_before_byte 13 p || (is_before_byte 10 p && not (is_after_byte 13 p))

-- only `\n` follow, with `crlf` also `\r\n`
abbrev pub are_newlines : Bool → List ℕ → Bool
are_newlines crlf [] = true
are_newlines crlf (b ∷ []) = b == 10
are_newlines crlf (b ∷ c ∷ rest) =
    (b == 10 && are_newlines crlf (c ∷ rest)) || (crlf && b == 13 && c == 10 && are_newlines crlf rest)
