-- The members of a class, as `regex` reads its text.
use Rattle.std.proofs.Common.{◌≡◌, ℕ, ◌≤◌, Bool, true, false, List, [], ◌∷◌, Option, Some, None, IsSomeAnd, codes, refl, sym, ap, ◌∙◌, option_map, is_some, IsTrue, Result, Ok, Err, IfOk, String, string_bytes, length, IsUtf8, ◌++◌, ap₂, subst, ◌≢◌, ◌<◌, ⊎_elim, IfSome, arith}
use Rattle.std.proofs.lemmas.Str.{chars-append, IsUtf8-append}
use Rattle.std.specs.Str.{chars}
use Rattle.std.specs.Char.{encode_utf8}
use Rattle.std.specs.declared.alloc.Global.{Global}
use Rattle.std.specs.declared.alloc.AllocError.{AllocError}
use Rattle.fancy_regex_tree.specs.Tree.{Text}
use Rattle.std.specs.Char.{IsScalar}
use Rattle.regex_hir.specs.Re.{Re}
use Rattle.regex_hir.specs.Find.{find_str}
use Rattle.regex_hir.specs.Meaning.{meaning}
use Rattle.regex_hir.specs.Text.{is_some_and}
use Rattle.regex_hir.specs.declared.hir.Hir.{Hir}
use Rattle.regex_syntax.specs.Brackets.{Nested}
use Rattle.regex_syntax.specs.Captures.{SameCaptures}
use Rattle.regex_syntax.specs.Grammar.{read, Names, group_count}
use Rattle.regex_syntax.specs.Verdict.{default_config, Reads, Refuses}
use Rattle.regex_syntax.specs.declared.error.ErrorKind.{ErrorKind}
use Rattle.regex_syntax.specs.declared.error.ErrorKind.TheVariants as kind
use Rattle.fancy_regex_class.specs.Matchers.{RefusesText, by_grammar}
use Rattle.regex_syntax.specs.declared.Config.{Config}
use Rattle.regex_syntax.proofs.CapturesLemmas.{spans, find_str_alike}
use Rattle.regex_syntax.proofs.Written.{is_some-option_map}
use Rattle.regex.specs.Strings.{regex_pattern, regex_source, regex_config, IsReadFromSource, regex_names}
use Rattle.regex.specs.declared.string.regex.Regex.{Regex}
use Rattle.fancy_regex_class.specs.Classes.{read_tree, is_read, text_matches_char, matches_single_char, in_class, class_text, with_case, RegexMatchesMembers}
use Rattle.fancy_regex_class.proofs.SingleCharLemmas.{small_bytes}

pub alike_alone : (a b : Re) → SameCaptures a b → (c : ℕ) → IsScalar c → matches_single_char a c ≡ matches_single_char b c
alike_alone a b same c scalar =
    sym (is_some-option_map spans (find_str a (encode_utf8 c) 0))
    ∙ ap is_some (find_str_alike a b same (encode_utf8 c) (small_bytes c scalar) 0)
    ∙ is_some-option_map spans (find_str b (encode_utf8 c) 0)

-- what was read matches as the text does
read_alone : (found : Option (Nested Re × Names)) (most : ℕ) (re : Re) (names : Names) →
    IsSomeAnd found (λ (part, others). (part.depth ≤ most) × SameCaptures re part.value × (names ≡ others) × (group_count re ≤ length names)) →
    (c : ℕ) → IsScalar c → matches_single_char re c ≡ is_some_and (option_map (λ r. r.0.value) found) (λ r. matches_single_char r c)
read_alone None most re names h c scalar = absurd h
read_alone (Some part) most re names h c scalar = alike_alone re _ h.1 c scalar

some_read : (found : Option (Nested Re × Names)) (P : Nested Re × Names → Type 0) → IsSomeAnd found P →
    IsTrue (is_some (option_map (λ r. r.0.value) found))
some_read None P h = absurd h
some_read (Some part) P h = refl

module _ (source : List ℕ) (tree : Hir) (names : Names) (reads : Reads default_config source tree names) where
  pub read_has : (c : ℕ) → IsScalar c → matches_single_char (meaning tree) c ≡ text_matches_char (chars source) c
  unfolding Reads read_tree
  read_has = read_alone (read default_config (chars source)) _ (meaning tree) names reads

  pub is_then_read : IsTrue (is_read (chars source))
  unfolding Reads read_tree
  is_then_read = some_read (read default_config (chars source)) _ reads

-- the same of a regex that is built from the text
module _ (r : Regex) (source : List ℕ) (is_source : regex_source r ≡ source) (is_default : regex_config r ≡ default_config) (reads : IsReadFromSource r) where
  as_default : Reads default_config source r.pattern.program.hir (regex_names r)
  as_default = rw (is_source, is_default) at reads

  pub regex_has : (c : ℕ) → IsScalar c → is_some (find_str (regex_pattern r) (encode_utf8 c) 0) ≡ text_matches_char (chars source) c
  regex_has = read_has source r.pattern.program.hir (regex_names r) as_default

  pub regex_read : IsTrue (is_read (chars source))
  regex_read = is_then_read source r.pattern.program.hir (regex_names r) as_default

pub regex_matches_members : RegexMatchesMembers
unfolding in_class
regex_matches_members r unicode casei class is_source is_default reads c scalar =
    regex_has r (regex_source r) refl is_default reads c scalar ∙ ap (λ text. text_matches_char text c) is_source

-- a text in a group
pub closing : chars (encode_utf8 41) ≡ 41 ∷ []
unfolding chars encode_utf8
closing =
    refl

pub wrapped_chars : (opening text : List ℕ) → IsUtf8 opening → IsUtf8 text → chars (opening ++ text ++ encode_utf8 41) ≡ chars opening ++ chars text ++ 41 ∷ []
wrapped_chars opening text u v =
    chars-append (opening ++ text) (encode_utf8 41) (IsUtf8-append opening text u v) ∙ ap₂ ◌++◌ (chars-append opening text u) closing

opens_casei : chars (codes "(?i:") ≡ codes "(?i:"
unfolding chars
opens_casei =
    refl

opens_bytes : chars (codes "(?-u:") ≡ codes "(?-u:"
unfolding chars
opens_bytes =
    refl

pub text_with_case : (casei : Bool) (text t : Text) → casei ≡ true → text ≡ chars (codes "(?i:") ++ t ++ 41 ∷ [] → text ≡ with_case casei t
text_with_case casei text t on is = rw on (is ∙ ap (λ o. o ++ t ++ 41 ∷ []) opens_casei)

pub text_without : (casei : Bool) (text t : Text) → casei ≡ false → text ≡ t → text ≡ with_case casei t
text_without casei text t off is = rw off is

pub text_in_bytes : (unicode casei : Bool) (inner t : Text) (r : Result (String Global) AllocError) → unicode ≡ false → inner ≡ with_case casei t →
    IfOk r (λ s. chars (string_bytes s) ≡ chars (codes "(?-u:") ++ inner ++ 41 ∷ []) → IfOk r (λ s. chars (string_bytes s) ≡ class_text unicode casei t)
text_in_bytes unicode casei inner t (Ok s) off is h = rw (off, ← is) (h ∙ ap (λ o. o ++ inner ++ 41 ∷ []) opens_bytes)
text_in_bytes unicode casei inner t (Err e) off is h = tt

too_deep : (found : Option (Nested Re × Names)) (most : ℕ) → IfSome found (λ (part, _). most < part.depth) → IsSomeAnd found (λ (part, _). part.depth ≤ most) → ⊥
too_deep None most deep reads = reads
too_deep (Some part) most deep reads = omega (arith, deep, reads)

pub refuses_syntax : (written : List ℕ) (config : Config) (e : ErrorKind) → config ≡ default_config → Refuses config written e →
    e ≢ kind.OutOfMemory → RefusesText (chars written)
unfolding Refuses
refuses_syntax written config e is refuses no_memory =
    by_grammar (λ reads. ⊎_elim
    no_memory
    (⊎_elim
    (λ none. subst (λ (found : Option (Nested Re × Names)). IsSomeAnd found (λ (part, _). part.depth ≤ default_config.nest_limit)) none reads)
    (λ deep. too_deep (read default_config (chars written)) default_config.nest_limit deep.1 reads))
    (rw is at refuses))
