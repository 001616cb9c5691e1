-- Openings of parenthesized constructs. The relations take the text after the `(`, the opening, and the rest.
use Rattle.std.specs.Prelude.{◌≡◌, ◌≢◌, ℕ, ℤ, Bool, true, false, [], ◌∷◌, ◌++◌, Option, Some, None, codes}
use Rattle.fancy_regex_text.specs.Text.{Text, ◌∈◌}
use Rattle.fancy_regex_text.specs.Names.{Named, by_number}
use Rattle.fancy_regex_text.specs.ParseFault.{ParseFault, invalid_group_name}
use Rattle.fancy_regex_lex.specs.Openings.{Opening, capturing, non_capturing, set_flags, atomic, look, if_set, if_matches, define, absent, absent_bar, whole_reference, whole_call, whole_verb, opening}
use Rattle.fancy_regex_lex.specs.declared.token.Flags.{Flags}
use Rattle.fancy_regex_lex.specs.declared.token.Look.TheVariants.{Ahead, AheadNeg, Behind, BehindNeg}
use Rattle.fancy_regex_lex.specs.declared.token.Verb.{Verb}
use Rattle.fancy_regex_lex.specs.declared.token.Verb.TheVariants.{Fail, Accept, Commit, Skip, Prune}
use Rattle.fancy_regex_lex_grammar.specs.Exact.{ReadsExactly, at}
use Rattle.fancy_regex_lex_grammar.specs.Prefixes.{IsTextUntil}
use Rattle.fancy_regex_lex_grammar.specs.Names.{IsNumber, IsSigned, IsName, IsReference}
use Rattle.fancy_regex_lex_grammar.specs.Flags.{IsFlags, FlagsFail}
use Rattle.fancy_regex_lex_grammar.specs.Escapes.{IsClosedReference}

-- a backtracking control verb with its `)`
pub data IsVerb : Text → Verb → Type 0 where
  fail : IsVerb (codes "*FAIL)") Fail
  accept : IsVerb (codes "*ACCEPT)") Accept
  commit : IsVerb (codes "*COMMIT)") Commit
  skip : IsVerb (codes "*SKIP)") Skip
  prune : IsVerb (codes "*PRUNE)") Prune

-- a reference as the condition of a conditional: digits with an optional recursion level, `<r>` or `'r'`
pub data IsReferenceCondition : Text → Named → Option ℤ → Type 0 where
  digits : {t : Text} {n : ℕ} → IsNumber t n → IsReferenceCondition t (by_number n) None
  digits_with_level : {front t : Text} {n : ℕ} {level : ℤ} → IsNumber front n → IsSigned t level → IsReferenceCondition (front ++ t) (by_number n) (Some level)
  in_angles : {t text : Text} {target : Named} {level : Option ℤ} → IsTextUntil 0x3E t text [] → IsReference true text target level →
      IsReferenceCondition (0x3C ∷ t) target level
  in_quotes : {t text : Text} {target : Named} {level : Option ℤ} → IsTextUntil 0x27 t text [] → IsReference true text target level →
      IsReferenceCondition (0x27 ∷ t) target level

-- the text after `(?(`: a reference as condition, and its `)`
pub record IsClosedCondition (t : Text) (target : Named) (level : Option ℤ) (rest : Text) : Type 0 where
  pub text : Text
  pub parted : IsTextUntil 0x29 t text rest
  pub condition : IsReferenceCondition text target level

-- the text after `(?` begins a construct other than flags
pub data BeginsNonFlagConstruct : Text → Type 0 where
  other_sign : {c : ℕ} {t : Text} → c ∈ "=!<>(~" ≡ true → BeginsNonFlagConstruct (c ∷ t)
  python_sign : {c : ℕ} {t : Text} → c ∈ "<=>" ≡ true → BeginsNonFlagConstruct (0x50 ∷ c ∷ t)

-- a group name and its `>`
pub record IsClosedName (t name rest : Text) : Type 0 where
  pub parted : IsTextUntil 0x3E t name rest
  pub is_name : IsName name

module _ (unicode : Bool) (f : Flags) where
  -- an opening
  pub data IsOpening : Text → Opening → Text → Type 0 where
    a_group : {t : Text} → ((u : Text) → t ≢ 0x3F ∷ u) → ((word u : Text) (verb : Verb) → IsVerb word verb → t ≢ word ++ u) →
        IsOpening t (capturing None) t
    a_named_group : {t name rest : Text} → IsClosedName t name rest → IsOpening (0x3F ∷ 0x3C ∷ t) (capturing (Some name)) rest
    a_python_named_group : {t name rest : Text} → IsClosedName t name rest → IsOpening (0x3F ∷ 0x50 ∷ 0x3C ∷ t) (capturing (Some name)) rest
    flags_for_body : {t rest : Text} {g : Flags} → IsFlags unicode true f t g true rest → IsOpening (0x3F ∷ t) (non_capturing g) rest
    flags_alone : {t rest : Text} {g : Flags} → IsFlags unicode true f t g false rest → IsOpening (0x3F ∷ t) (set_flags g) rest
    an_atomic_group : {t : Text} → IsOpening (0x3F ∷ 0x3E ∷ t) atomic t
    look_ahead : {t : Text} → IsOpening (0x3F ∷ 0x3D ∷ t) (look Ahead) t
    no_look_ahead : {t : Text} → IsOpening (0x3F ∷ 0x21 ∷ t) (look AheadNeg) t
    look_behind : {t : Text} → IsOpening (0x3F ∷ 0x3C ∷ 0x3D ∷ t) (look Behind) t
    no_look_behind : {t : Text} → IsOpening (0x3F ∷ 0x3C ∷ 0x21 ∷ t) (look BehindNeg) t
    definitions : {t : Text} → IsOpening (codes "?(DEFINE)" ++ t) define t
    reference_condition : {t rest : Text} {target : Named} {level : Option ℤ} → IsClosedCondition t target level rest →
        IsOpening (0x3F ∷ 0x28 ∷ t) (if_set target level) rest
    -- any other condition is an expression
    expression_condition : {t : Text} → ((u : Text) → t ≢ codes "DEFINE)" ++ u) →
        ((target : Named) (level : Option ℤ) (rest : Text) → IsClosedCondition t target level rest → ⊥) →
        IsOpening (0x3F ∷ 0x28 ∷ t) if_matches t
    absent_bounds : {t : Text} → IsOpening (0x3F ∷ 0x7E ∷ 0x7C ∷ t) absent_bar t
    absent_repeater : {t : Text} → ((u : Text) → t ≢ 0x7C ∷ u) → IsOpening (0x3F ∷ 0x7E ∷ t) absent t
    a_reference : {t rest : Text} {target : Named} {level : Option ℤ} → IsClosedReference true 0x29 t target level rest →
        IsOpening (0x3F ∷ 0x50 ∷ 0x3D ∷ t) (whole_reference target level) rest
    a_call : {t rest : Text} {target : Named} {level : Option ℤ} → IsClosedReference false 0x29 t target level rest →
        IsOpening (0x3F ∷ 0x50 ∷ 0x3E ∷ t) (whole_call target) rest
    a_verb : {word rest : Text} {verb : Verb} → IsVerb word verb → IsOpening (word ++ rest) (whole_verb verb) rest

  -- where an opening fails, and the error; `here` is the text from the parenthesis on
  pub data OpeningFails (here : Text) : Text → ParseFault → Type 0 where
    no_name : {t : Text} → ((u : Text) → t ≢ 0x3D ∷ u) → ((u : Text) → t ≢ 0x21 ∷ u) → ((name rest : Text) → IsClosedName t name rest → ⊥) →
        OpeningFails here (0x3F ∷ 0x3C ∷ t) (at invalid_group_name here)
    no_python_name : {t : Text} → ((name rest : Text) → IsClosedName t name rest → ⊥) →
        OpeningFails here (0x3F ∷ 0x50 ∷ 0x3C ∷ t) (at invalid_group_name here)
    no_reference : {t : Text} → ((target : Named) (level : Option ℤ) (rest : Text) → IsClosedReference true 0x29 t target level rest → ⊥) →
        OpeningFails here (0x3F ∷ 0x50 ∷ 0x3D ∷ t) (at invalid_group_name here)
    no_call : {t : Text} → ((target : Named) (level : Option ℤ) (rest : Text) → IsClosedReference false 0x29 t target level rest → ⊥) →
        OpeningFails here (0x3F ∷ 0x50 ∷ 0x3E ∷ t) (at invalid_group_name here)
    in_flags : {t : Text} {e : ParseFault} → (BeginsNonFlagConstruct t → ⊥) → FlagsFail unicode here true f t e → OpeningFails here (0x3F ∷ t) e

abbrev pub OpeningsAreExact : Type 0
OpeningsAreExact = (unicode : Bool) (f : Flags) (t : Text) →
    ReadsExactly (opening unicode f (0x28 ∷ t)) (λ (r : Opening × Text). IsOpening unicode f t r.0 r.1) (OpeningFails unicode f (0x28 ∷ t) t)
