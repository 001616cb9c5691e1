-- A reference as condition opens with more than one character.
use Rattle.std.proofs.Common.{◌≡◌, ℕ, ◌+◌, ◌≤◌, ◌<◌, Bool, true, false, cond, [], ◌∷◌, length, codes, Option, Some, None, Ok, Err, refl, ap, subst, arith, option_map, ◌==◌}
use Rattle.std.proofs.lemmas.Option.{none-some, same_Some}
use Rattle.fancy_regex_text.specs.Text.{Text, ◌∈◌, strip_prefix, split_once}
use Rattle.fancy_regex_text.specs.ParseFault.{ParseOutcome, ◌>>=◌}
use Rattle.fancy_regex_lex.specs.FlagLetters.{flag_letters}
use Rattle.fancy_regex_lex.specs.Escapes.{delimited_reference}
use Rattle.fancy_regex_text.specs.Names.{is_name}
use Rattle.fancy_regex_lex.specs.Openings.{Opening, capturing, non_capturing, set_flags, atomic, look, if_set, if_matches, define, absent, absent_bar, whole_reference, whole_call}
use Rattle.fancy_regex_lex.specs.Openings.{whole_verb, named, tested, condition, after_angle, after_tilde, flags, python, after_question, opening, control_verb, reference_condition}
use Rattle.fancy_regex_lex.specs.declared.token.Flags.{Flags}
use Rattle.fancy_regex_text.proofs.TextLemmas.{strip_prefix_is}
use Rattle.fancy_regex_tree.specs.Bounds.{extra_nodes}

-- where the opening is such a one, n is two more at least than what is left
abbrev IsLong : ℕ → ParseOutcome (Opening × Text) → Type 0
IsLong n (Ok p) = 0 < extra_nodes p.0 → length p.1 + 2 ≤ n
IsLong n (Err e) = Unit {0}

long_if : (n : ℕ) (b : Bool) (x y : ParseOutcome (Opening × Text)) → IsLong n x → IsLong n y → IsLong n (cond b x y)
long_if n true x y h k = h
long_if n false x y h k = k

long_option : {A : Type 0} (n : ℕ) (o : Option A) (x : ParseOutcome (Opening × Text)) (f : A → ParseOutcome (Opening × Text)) → IsLong n x →
    ((a : A) → o ≡ Some a → IsLong n (f a)) → IsLong n (elim o [ None ↦ x | Some a ↦ f a ])
long_option n None x f h k = h
long_option n (Some a) x f h k = k a refl

long_bind : {A : Type 0} (n : ℕ) (r : ParseOutcome A) (f : A → ParseOutcome (Opening × Text)) → ((a : A) → IsLong n (f a)) → IsLong n (r >>= f)
long_bind n (Ok a) f h = h a
long_bind n (Err e) f h = tt

slack_flags : (b : Bool) (f : Flags) → extra_nodes (cond b (non_capturing f) (set_flags f)) ≡ 0
slack_flags true f = refl
slack_flags false f = refl

nothing_less : (n m : ℕ) → 0 < 0 → n ≤ m
nothing_less n m h = absurd (omega (arith, h))

long_named : (n : ℕ) (here t : Text) → IsLong n (named here t)
unfolding named
long_named n here t =
    long_option n (split_once 0x3E t) _ _ tt (λ found is. long_if n (is_name found.0) _ _ (λ h. nothing_less _ _ h) tt)

long_angle : (n : ℕ) (here t : Text) → IsLong n (after_angle here t)
unfolding after_angle
long_angle n here t =
    long_option n (strip_prefix (codes "=") t) _ _
    (long_option n (strip_prefix (codes "!") t) _ _ (long_named n here t) (λ rest is h. nothing_less _ _ h))
    (λ rest is h. nothing_less _ _ h)

long_flags : (n : ℕ) (unicode : Bool) (f : Flags) (here t : Text) → IsLong n (flags unicode f here t)
unfolding flags
long_flags n unicode f here t =
    long_bind n (flag_letters unicode here true f t) _ (λ x h. absurd (omega (arith, slack_flags x.1 x.0, h)))

long_python : (n : ℕ) (unicode : Bool) (f : Flags) (here t : Text) → IsLong n (python unicode f here t)
unfolding python
long_python n unicode f here t =
    long_option n (strip_prefix (codes "P<") t) _ _
    (long_option n (strip_prefix (codes "P=") t) _ _
    (long_option n (strip_prefix (codes "P>") t) _ _ (long_flags n unicode f here t)
    (λ rest is. long_bind n (delimited_reference false 0x29 here rest) _ (λ r h. nothing_less _ _ h)))
    (λ rest is. long_bind n (delimited_reference true 0x29 here rest) _ (λ r h. nothing_less _ _ h)))
    (λ rest is. long_named n here rest)

-- the same of what is always read
abbrev IsLongPair : ℕ → Opening × Text → Type 0
IsLongPair n p = 0 < extra_nodes p.0 → length p.1 + 2 ≤ n

pair_option : {A : Type 0} (n : ℕ) (o : Option A) (x : Opening × Text) (f : A → Opening × Text) → IsLongPair n x →
    ((a : A) → o ≡ Some a → IsLongPair n (f a)) → IsLongPair n (elim o [ None ↦ x | Some a ↦ f a ])
pair_option n None x f h k = h
pair_option n (Some a) x f h k = k a refl

up_to_short : (close : ℕ) (t : Text) (found : Text × Text) → split_once close t ≡ Some found → length found.1 ≤ length t
unfolding split_once
up_to_short close [] found h = absurd (none-some _ h)
up_to_short close (c ∷ t) found h = up_to_step (c == close) c t (split_once close t) found (λ more is. up_to_short close t more is) h
  where
    up_to_step : (b : Bool) (c : ℕ) (t : Text) (o : Option (Text × Text)) (found : Text × Text) → ((more : Text × Text) → o ≡ Some more → length more.1 ≤ length t) →
        cond b (Some ([], t)) (option_map (λ x. (c ∷ x.0, x.1)) o) ≡ Some found → length found.1 ≤ length (c ∷ t)
    up_to_step true c t o found rest h = let same = ap (λ x. length x.1) (same_Some _ _ h) in omega (arith, same)
    up_to_step false c t None found rest h = absurd (none-some _ h)
    up_to_step false c t (Some more) found rest h =
        let same = ap (λ x. length x.1) (same_Some _ _ h) in omega (arith, same, rest more refl)

long_condition : (n : ℕ) (t : Text) → length t + 2 ≤ n → IsLongPair n (condition t)
unfolding condition tested
long_condition n t h =
    pair_option n (strip_prefix (codes "DEFINE)") t) _ _
    (pair_option n (split_once 0x29 t) _ _ (λ k. nothing_less _ _ k)
    (λ found is. pair_option n (reference_condition found.0) _ _ (λ k. nothing_less _ _ k)
    (λ r same k. omega (arith, up_to_short 0x29 t found is, h))))
    (λ rest is k. nothing_less _ _ k)

long_tilde : (n : ℕ) (t : Text) → IsLongPair n (after_tilde t)
unfolding after_tilde
long_tilde n t = pair_option n (strip_prefix (codes "|") t) _ _ (λ k. nothing_less _ _ k) (λ rest is k. nothing_less _ _ k)

long_question : (n : ℕ) (unicode : Bool) (f : Flags) (here t : Text) → length t + 2 ≤ n → IsLong n (after_question unicode f here t)
unfolding after_question
long_question n unicode f here [] h = long_flags n unicode f here []
long_question n unicode f here (c ∷ t) h =
    long_if n (c ∈ "=") _ _ (λ k. nothing_less _ _ k)
    (long_if n (c ∈ "!") _ _ (λ k. nothing_less _ _ k)
    (long_if n (c ∈ "<") _ _ (long_angle n here t)
    (long_if n (c ∈ "P") _ _ (long_python n unicode f here (c ∷ t))
    (long_if n (c ∈ ">") _ _ (λ k. nothing_less _ _ k)
    (long_if n (c ∈ "(") _ _ (long_condition n t (omega (arith, h)))
    (long_if n (c ∈ "~") _ _ (long_tilde n t) (long_flags n unicode f here (c ∷ t))))))))

long_opening : (unicode : Bool) (f : Flags) (here : Text) → IsLong (length here) (opening unicode f here)
unfolding opening
long_opening unicode f here =
    long_option (length here) (strip_prefix (codes "(?") here) _ _
    (long_option (length here) (control_verb here) _ _ (λ k. nothing_less _ _ k) (λ v is k. nothing_less _ _ k))
    (λ rest is. let longer = ap (λ t. length t) (strip_prefix_is (codes "(?") here rest is) in long_question (length here) unicode f here rest (omega (arith, longer)))

-- what follows the opening of a reference as condition is two characters shorter at least
pub opening_long : (unicode : Bool) (f : Flags) (here t : Text) (how : Opening) → opening unicode f here ≡ Ok (how, t) → 0 < extra_nodes how → length t + 2 ≤ length here
opening_long unicode f here t how h = subst (λ r. IsLong (length here) r) h (long_opening unicode f here)

-- an opening makes at most one node more than one
pub slack_least : (how : Opening) → extra_nodes how ≤ 1
slack_least (if_set target level) = omega arith
slack_least (capturing name) = omega arith
slack_least (non_capturing f) = omega arith
slack_least (set_flags f) = omega arith
slack_least atomic = omega arith
slack_least (look k) = omega arith
slack_least if_matches = omega arith
slack_least define = omega arith
slack_least absent = omega arith
slack_least absent_bar = omega arith
slack_least (whole_reference target level) = omega arith
slack_least (whole_call target) = omega arith
slack_least (whole_verb v) = omega arith
