-- The characters of `\w`.
use Rattle.std.proofs.Common.{◌≡◌, ℕ, zero, suc, ◌<◌, ◌≤◌, true, false, List, [], ◌∷◌, Option, Some, None, codes, refl, sym, ap, ◌∙◌, option_map, ⊎_elim, arith, lt-ltb, nat_lt, not, drop, max, ◌+◌}
use Rattle.std.specs.Prelude.{if◌then◌else◌}
use Rattle.std.proofs.lemmas.Bool.{cases_Bool, and_parts}
use Rattle.std.proofs.lemmas.Bool.Decides.{nat_tests}
use Rattle.std.specs.Char.{IsScalar, is_ascii}
use Rattle.std.specs.List.{list_all}
use Rattle.regex_hir.specs.Re.{Re, empty, byte_in, char_in, cat, alt}
use Rattle.regex_hir.specs.Text.{is_some_and}
use Rattle.regex_hir.proofs.Utf8Lemmas.{InScalarRange-of_IsScalar}
use Rattle.regex_class.specs.Ranges.{in_ranges}
use Rattle.regex_syntax.specs.Escapes.{Piece, class, escape, one_letter}
use Rattle.regex_syntax.specs.Grammar.{set_flag, set_flags, opening, piece_meaning, atom, repetitions, with_repetitions, item, join_parts, names_below, read, items, branches, Place, Names, group_count}
use Rattle.regex_syntax.specs.Brackets.{Nested, flat}
use Rattle.regex_syntax.specs.Reading.{first, skip, ◌>>=◌, ◌>>◌, is_at, is_empty}
use Rattle.regex_hir.specs.Meaning.{cat_all, alt_all}
use Rattle.regex_syntax.specs.Sets.{Set, members, members_below, negate_if, one_of}
use Rattle.regex_syntax.specs.Verdict.{default_config, default_flags}
use Rattle.regex_syntax.specs.declared.Config.{Config}
use Rattle.regex_syntax.proofs.CapturesLemmas.{alike_of_same}
use Rattle.regex_syntax.proofs.SetLemmas.{in_ranges-members}
use Rattle.regex_syntax.proofs.TreeLaws.{same_refl, ◌then◌}
use Rattle.regex_syntax.proofs.Written.{grammar, alone}
use Rattle.ucd_perl.specs.Perl.{is_word_char, is_word_byte}
use Rattle.fancy_regex_class.specs.Classes.{in_class, read_tree, matches_single_char}
use Rattle.fancy_regex_class.proofs.SingleCharLemmas.{class_alone, bytes_alone}
use Rattle.fancy_regex_class.proofs.ClassLemmas.{alike_alone}

abbrev in_pattern : Re → Re
in_pattern re = alt (cat re empty) (byte_in [])

read_word : read_tree (codes "\\w") ≡ Some (in_pattern (char_in (members is_word_char)))
unfolding read_tree grammar
read_word =
    refl

word_byte_is_ascii : (c : ℕ) → is_word_byte c ≡ true → c < 128
word_byte_is_ascii c h = grind (arith, nat_tests)

all_ascii : (n : ℕ) (set : Set) → ((c : ℕ) → set c ≡ true → c < 128) → list_all (λ r. is_ascii r.1) (members_below n set) ≡ true
unfolding members_below
all_ascii zero set h = refl
all_ascii (suc n) set h =
    ⊎_elim
    (λ (here : set n ≡ true). rw (here, lt-ltb n 128 (h n here)) (all_ascii n set h))
    (λ (here : set n ≡ false). rw here (all_ascii n set h))
    (cases_Bool (set n))

all_words_ascii : list_all (λ r. is_ascii r.1) (members is_word_byte) ≡ true
unfolding members
all_words_ascii = all_ascii 0x11_0000 is_word_byte word_byte_is_ascii

abbrev byte_config : Config
byte_config = record default_config { flags = record default_flags { unicode = false } }

negates : negate_if byte_config false is_word_byte ≡ Some is_word_byte
unfolding negate_if
negates = rw all_words_ascii refl

escapes : escape byte_config (codes "w)") ≡ Some (class is_word_byte, codes ")")
unfolding escape one_letter first
escapes = rw negates refl

abbrev place_of : Config → List ℕ → Place
place_of config text = record { config = config; names = None ∷ []; text = text }

abbrev byte_words : Re
byte_words = byte_in (members is_word_byte)

atoms : atom byte_config (codes "\\w)") ≡ Some (flat byte_words, codes ")")
unfolding atom first piece_meaning one_of
atoms =
    ap (λ (o : Option (Piece × List ℕ)). o >>= λ (piece, rest). piece_meaning byte_config piece >>= λ re. Some (flat re, rest)) escapes

item_inside : (inner : Place → Option (Nested Re × Place)) → item inner (place_of byte_config (codes "\\w)")) ≡ Some (flat byte_words, place_of byte_config (codes ")"))
unfolding item with_repetitions repetitions skip first
item_inside inner =
    ap (λ (o : Option (Nested Re × List ℕ)). o >>= λ (sub, rest). with_repetitions sub (place_of byte_config rest)) atoms

items_inside : items 15 (place_of byte_config (codes "\\w)")) ≡ Some (flat byte_words ∷ [], place_of byte_config (codes ")"))
unfolding items skip first
items_inside =
    ap (λ (o : Option (Nested Re × Place)). o >>= λ (part, after). items 14 after >>= λ (parts, rest). Some (part ∷ parts, rest)) (item_inside _)

-- a branch that may be the last, and the alternation that it makes
abbrev with_branch : ℕ → Option (List (Nested Re) × Place) → Option (Nested Re × Place)
with_branch n o = join_parts alt_all (join_parts cat_all o >>= λ (branch, after).
    if not (is_at "|" after.text) then Some (branch ∷ [], after)
    else (branches n (record after { text = drop 1 after.text }) >>= λ (others, rest). Some (branch ∷ others, rest)))

inside : join_parts alt_all (branches 16 (place_of byte_config (codes "\\w)"))) ≡ Some (flat (in_pattern byte_words), place_of byte_config (codes ")"))
unfolding items join_parts first
inside = ap (with_branch 15) items_inside

abbrev grouped : Nested Re
grouped = record { value = in_pattern byte_words; depth = 1 }

group : item (λ p. join_parts alt_all (branches 16 p)) (place_of default_config (codes "(?-u:\\w)")) ≡ Some (grouped, place_of default_config [])
unfolding item opening set_flags set_flag with_repetitions repetitions skip first
group =
    ap (λ (o : Option (Nested Re × Place)). o >>= λ (sub, close). is_at ")" close.text >>
    with_repetitions (record { value = sub.value; depth = sub.depth + 1 }) (record close { config = default_config; text = drop 1 close.text })) inside

items_outside : items 17 (place_of default_config (codes "(?-u:\\w)")) ≡ Some (grouped ∷ [], place_of default_config [])
unfolding items skip first
items_outside =
    ap (λ (o : Option (Nested Re × Place)). o >>= λ (part, after). items 16 after >>= λ (parts, rest). Some (part ∷ parts, rest)) group

outside : join_parts alt_all (branches 18 (place_of default_config (codes "(?-u:\\w)"))) ≡ Some (record { value = in_pattern (in_pattern byte_words); depth = 1 }, place_of default_config [])
unfolding items join_parts first
outside = ap (with_branch 17) items_outside

read_byte_word : read_tree (codes "(?-u:\\w)") ≡ Some (in_pattern (in_pattern byte_words))
unfolding read_tree read names_below
read_byte_word =
    ap (λ (o : Option (Nested Re × Place)). option_map (λ (r : Nested Re × Names). r.0.value) (o >>= λ (whole, end). is_empty end.text >> Some (whole, names_below whole.value end.names (max 1 (group_count whole.value))))) outside

matched : (re : Re) (c : ℕ) → IsScalar c → matches_single_char (in_pattern re) c ≡ matches_single_char re c
matched re = alike_alone (in_pattern re) re (alike_of_same (alone (same_refl re)).matches)

in_members : (set : Set) (c : ℕ) → IsScalar c → in_ranges (members set) c ≡ set c
in_members set c scalar = let range = InScalarRange-of_IsScalar c scalar in rw (in_ranges-members, lt-ltb c 0x11_0000 (omega arith)) refl

pub word_members : (c : ℕ) → IsScalar c → in_class true (codes "\\w") false c ≡ is_word_char c
unfolding in_class
word_members c scalar =
    ap (λ o. is_some_and o (λ re. matches_single_char re c)) read_word ∙ matched _ c scalar
    ∙ class_alone c scalar (members is_word_char) ∙ in_members is_word_char c scalar

small_members : (b : ℕ) → in_ranges (members is_word_byte) b ≡ true → b ≤ 127
small_members b h =
    let low : b < 128 = word_byte_is_ascii b (and_parts (nat_lt b 0x11_0000) (is_word_byte b) (sym (in_ranges-members is_word_byte b) ∙ h)).1 in omega arith

pub byte_word_members : (c : ℕ) → IsScalar c → in_class false (codes "\\w") false c ≡ is_word_byte c
unfolding in_class
byte_word_members c scalar =
    ap (λ o. is_some_and o (λ re. matches_single_char re c)) read_byte_word ∙ matched _ c scalar ∙ matched _ c scalar
    ∙ bytes_alone c scalar (members is_word_byte) small_members ∙ in_members is_word_byte c scalar
