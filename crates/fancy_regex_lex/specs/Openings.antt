-- What an open parenthesis starts: a group, or a construct that is read whole.
use Rattle.std.specs.Prelude.{ℕ, ℤ, Bool, true, false, [], ◌∷◌, drop, Option, Some, None, option_map, Ok, if◌then◌else◌, codes, chars}
use Rattle.fancy_regex_text.specs.Text.{Text, ◌∈◌, strip_prefix, is_empty, split_once}
use Rattle.fancy_regex_text.specs.Names.{Named, by_number, Referred, is_name, digits, signed, reference, named_of}
use Rattle.fancy_regex_text.specs.ParseFault.{ParseOutcome, ◌>>=◌, fail_at, invalid_group_name}
use Rattle.fancy_regex_lex.specs.FlagLetters.{flag_letters}
use Rattle.fancy_regex_lex.specs.Escapes.{delimited_reference}
use Rattle.fancy_regex_lex.specs.declared.token.Flags.{Flags}
use Rattle.fancy_regex_lex.specs.declared.token.Look.{Look}
use Rattle.fancy_regex_lex.specs.declared.token.Look.TheVariants.{Ahead, AheadNeg, Behind, BehindNeg}
use Rattle.fancy_regex_lex.specs.declared.token.Verb.{Verb}
use Rattle.fancy_regex_lex.specs.declared.token.Verb.TheVariants.{Fail, Accept, Commit, Skip, Prune}
use Rattle.fancy_regex_lex.specs.declared.token.Opening as declared
use Rattle.fancy_regex_lex.specs.declared.token.Opening.TheVariants as opens

-- the token of an open parenthesis, with names as characters
pub data Opening : Type 0 where
  -- a capture group, with its name if it has one
  capturing : Option Text → Opening
  -- `(?flags:`, a non-capturing group, inside which exactly these flags hold
  non_capturing : Flags → Opening
  -- `(?flags)`, after which exactly these flags hold
  set_flags : Flags → Opening
  atomic : Opening
  look : Look → Opening
  -- `(?(`, a reference and `)`
  if_set : Named → Option ℤ → Opening
  -- `(?(` before an expression
  if_matches : Opening
  define : Opening
  -- `(?~`
  absent : Opening
  -- `(?~|`
  absent_bar : Opening
  -- the whole constructs `(?P=reference)`, `(?P>target)` and `(*VERB)`
  whole_reference : Named → Option ℤ → Opening
  whole_call : Named → Opening
  whole_verb : Verb → Opening

-- `(*COMMIT)`, `(*SKIP)` or `(*PRUNE)`, and the rest
unfoldable pub later_verb : Text → Option (Verb × Text)
later_verb t =
    elim (strip_prefix (codes "(*COMMIT)") t) [
      | Some rest ↦ Some (Commit, rest)
      | None ↦
          elim (strip_prefix (codes "(*SKIP)") t) [ Some rest ↦ Some (Skip, rest) | None ↦ option_map (λ rest. (Prune, rest)) (strip_prefix (codes "(*PRUNE)") t) ]
    ]

-- the backtracking control verb that the text starts with, and the rest
unfoldable pub control_verb : Text → Option (Verb × Text)
control_verb t =
    elim (strip_prefix (codes "(*FAIL)") t) [
      | Some rest ↦ Some (Fail, rest)
      | None ↦
          elim (strip_prefix (codes "(*ACCEPT)") t) [ Some rest ↦ Some (Accept, rest) | None ↦ later_verb t ]
    ]

-- Each of the next definitions gives the token and the rest. `here` is the text from the open parenthesis on, t the text to be read.

-- a name up to `>`
unfoldable pub named : Text → Text → ParseOutcome (Opening × Text)
named here t =
    elim (split_once 0x3E t) [
      | None ↦ fail_at invalid_group_name here
      | Some found ↦ if is_name found.0 then Ok (capturing (Some found.0), found.1) else fail_at invalid_group_name here
    ]

-- the text of a condition of digits, with a level or without, if it is one
unfoldable pub numbered : Text → Option Referred
numbered t =
    elim (digits t).0 [
      | None ↦ None
      | Some n ↦
          if is_empty (digits t).1 then Some (by_number n, None)
          else option_map (λ level. (by_number n, Some level)) (signed (digits t).1)
    ]

-- the text of a condition in brackets, if it is one: `<r>` or `'r'`
unfoldable pub bracketed : ℕ → Text → Option Referred
bracketed close t = elim (split_once close t) [ None ↦ None | Some found ↦ if is_empty found.1 then reference true found.0 else None ]

-- the text of a condition that is a reference
unfoldable pub reference_condition : Text → Option Referred
reference_condition [] = None
reference_condition (c ∷ t) =
    if c ∈ "<" then bracketed 0x3E t
    else if c ∈ "'" then bracketed 0x27 t
    else numbered (c ∷ t)

-- After `(?(`, if not followed by `DEFINE)`: the text before the first `)` is a reference, or else an expression begins here.
unfoldable pub tested : Text → Opening × Text
tested t =
    elim (split_once 0x29 t) [
      | None ↦ (if_matches, t)
      | Some found ↦ elim (reference_condition found.0) [ None ↦ (if_matches, t) | Some r ↦ (if_set r.0 r.1, found.1) ]
    ]

-- after `(?(`
unfoldable pub condition : Text → Opening × Text
condition t = elim (strip_prefix (codes "DEFINE)") t) [ Some rest ↦ (define, rest) | None ↦ tested t ]

-- after `(?<`
unfoldable pub after_angle : Text → Text → ParseOutcome (Opening × Text)
after_angle here t =
    elim (strip_prefix (codes "=") t) [
      | Some rest ↦ Ok (look Behind, rest)
      | None ↦
          elim (strip_prefix (codes "!") t) [ Some rest ↦ Ok (look BehindNeg, rest) | None ↦ named here t ]
    ]

-- after `(?~`
unfoldable pub after_tilde : Text → Opening × Text
after_tilde t = elim (strip_prefix (codes "|") t) [ Some rest ↦ (absent_bar, rest) | None ↦ (absent, t) ]

module _ (unicode : Bool) (f : Flags) (here : Text) where
  unfoldable pub flags : Text → ParseOutcome (Opening × Text)
  flags t = do
    (changed, has_body, rest) ← flag_letters unicode here true f t
    Ok (if has_body then non_capturing changed else set_flags changed, rest)

  -- after `(?`, if t starts with `P`
  unfoldable pub python : Text → ParseOutcome (Opening × Text)
  python t =
      elim (strip_prefix (codes "P<") t) [
        | Some rest ↦ named here rest
        | None ↦
            elim (strip_prefix (codes "P=") t) [
              | Some rest ↦ (delimited_reference true 0x29 here rest >>= λ r. Ok (whole_reference r.0.0 r.0.1, r.1))
              | None ↦
                  elim (strip_prefix (codes "P>") t) [
                    | Some rest ↦ (delimited_reference false 0x29 here rest >>= λ r. Ok (whole_call r.0.0, r.1))
                    | None ↦
                        flags t
                  ]
            ]
      ]

  -- after `(?`
  unfoldable pub after_question : Text → ParseOutcome (Opening × Text)
  after_question [] = flags []
  after_question (c ∷ t) =
      if c ∈ "=" then Ok (look Ahead, t)
      else if c ∈ "!" then Ok (look AheadNeg, t)
      else if c ∈ "<" then after_angle here t
      else if c ∈ "P" then python (c ∷ t)
      else if c ∈ ">" then Ok (atomic, t)
      else if c ∈ "(" then Ok (condition t)
      else if c ∈ "~" then Ok (after_tilde t)
      else flags (c ∷ t)

  -- the token of the open parenthesis that the text starts with, and the rest
  unfoldable pub opening : ParseOutcome (Opening × Text)
  opening =
      elim (strip_prefix (codes "(?") here) [
        | Some rest ↦ after_question rest
        | None ↦
            elim (control_verb here) [ Some v ↦ Ok (whole_verb v.0, v.1) | None ↦ Ok (capturing None, drop 1 here) ]
      ]

-- tokens of the code, with names as characters
abbrev pub opening_of : declared.Opening → Opening
opening_of (opens.Capturing name) = capturing (option_map (λ s. chars s.now) name)
opening_of (opens.NonCapturing f) = non_capturing f
opening_of (opens.SetFlags f) = set_flags f
opening_of opens.Atomic = atomic
opening_of (opens.LookAround k) = look k
opening_of (opens.IfSet r) = if_set (named_of r.target) r.level
opening_of opens.IfMatches = if_matches
opening_of opens.Define = define
opening_of opens.Absent = absent
opening_of opens.AbsentBar = absent_bar
opening_of (opens.BackReference r) = whole_reference (named_of r.target) r.level
opening_of (opens.Call t) = whole_call (named_of t)
opening_of (opens.Verb v) = whole_verb v
