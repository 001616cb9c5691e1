-- What replacing the matches of an escaped text by one text gives.
use Rattle.std.proofs.Common.{◌≡◌, ◌≢◌, ◌∙◌, ◌++◌, ℕ, true, false, List, [], ◌∷◌, Option, Some, chars, map, refl, ap, sym, subst, append_assoc}
use Rattle.std.specs.Prelude.{encode_utf8_all, slice_range, string_bytes, IsUtf8}
use Rattle.std.proofs.lemmas.Option.{same_Some}
use Rattle.std.proofs.lemmas.Str.{encodes-chars, scalars-chars}
use Rattle.fancy_regex_escape_laws.specs.EscapeLaws.{EscapedTextsMatchThemselves}
use Rattle.fancy_regex_escape_laws.specs.Occurrences.{plain_replaced}
use Rattle.fancy_regex_escape_laws.specs.PlainReplacement.{MatchesAreReplacedPlainly}
use Rattle.fancy_regex_escape_laws.specs.PlainSearch.{IsPlainSearch}
use Rattle.fancy_regex_meaning.specs.Groups.{pattern_of}
use Rattle.fancy_regex_template.specs.PatternEscape.{escaped_pattern}
use Rattle.fancy_regex.specs.Parse.{parse}
use Rattle.fancy_regex.specs.Searches.{Match, pieces_from, replaced_from}
use Rattle.fancy_regex.specs.ItemLaws.{alternately}
use Rattle.fancy_regex.specs.SearchInputs.{whole}
use Rattle.fancy_regex.specs.Defaults.{default_options}
use Rattle.fancy_regex.specs.Patterns.{options_in, pattern_in, reading_of, setting_in, tree_or_empty}
use Rattle.fancy_regex.specs.MetaRegex.{MetaRegex}
use Rattle.fancy_regex.specs.MetaMatches.{meta_pattern}
use Rattle.fancy_regex.specs.RegexOptions.{RegexOptions}
use Rattle.fancy_regex.specs.RemainingMatches.{all_matches}
use Rattle.fancy_regex.specs.Replacements.{AnswersInTurn, AnswersText, IsReplacedBy, by_calls, by_text, captures_view}

module _ {S : Type 0} (text_of : S → List ℕ) (r : MetaRegex) (text : List ℕ) where
  -- the pieces and the answers of calls that all answer one text, in turn
  in_turn : (ms : List Match) (s last : S) (answers : List (List ℕ)) (p : ℕ) → AnswersInTurn (AnswersText text_of) s (map (captures_view r text) ms) answers last →
      alternately (pieces_from text p ms) answers ≡ replaced_from text (λ _. text_of s) p ms
  in_turn [] s last [] p h = refl
  in_turn [] s last (w ∷ ws) p h = absurd h
  in_turn (m ∷ ms) s last [] p h = absurd h
  in_turn (m ∷ ms) s last (w ∷ ws) p h =
      let rest = in_turn ms h.0 last ws m.end h.2 ∙ ap (λ (next : S). replaced_from text (λ _. text_of next) m.end ms) h.1.1 in
      ap (λ (x : List ℕ). slice_range text p m.start ++ (w ++ x)) rest
      ∙ ap (λ (x : List ℕ). slice_range text p m.start ++ (x ++ replaced_from text (λ _. text_of s) m.end ms)) h.1.0
      ∙ sym (append_assoc (slice_range text p m.start) (text_of s) (replaced_from text (λ _. text_of s) m.end ms))

  -- by calls or not, the text replaces each match
  by_one_text : (ms : List Match) (s : S) (t out : List ℕ) (fixed : Option (List ℕ)) → text_of s ≡ t → fixed ≡ Some t → IsReplacedBy (AnswersText text_of) r text ms s out fixed →
      out ≡ replaced_from text (λ _. t) 0 ms
  by_one_text ms s t out _ is e (by_calls fixed last h) = h.2 ∙ in_turn ms s last h.0 0 h.1 ∙ ap (λ (x : List ℕ). replaced_from text (λ _. x) 0 ms) is
  by_one_text ms s t out _ is e (by_text u h) = h ∙ ap (λ (x : List ℕ). replaced_from text (λ _. x) 0 ms) (same_Some u t e)

no_chars : (bytes : List ℕ) → IsUtf8 bytes → bytes ≢ [] → chars bytes ≢ []
no_chars bytes utf8 some e = some (sym (encodes-chars bytes utf8) ∙ ap encode_utf8_all e)

-- the pattern of a regex of the escaped text
plain_pattern : EscapedTextsMatchThemselves → (r : MetaRegex) (needle : List ℕ) → needle ≢ [] → IsUtf8 needle → r.options ≡ default_options →
    chars (string_bytes r.pattern) ≡ escaped_pattern (chars needle) → IsPlainSearch (meta_pattern r) needle
plain_pattern law r needle some utf8 options escaped =
    let plain = law true false (chars needle) (scalars-chars needle utf8) (no_chars needle utf8 some) in
    let read = ap (λ (o : RegexOptions). pattern_in o (string_bytes r.pattern)) options
    ∙ ap (λ t. pattern_of (tree_or_empty (parse (reading_of default_options) t))) escaped
    ∙ ap (λ answer. pattern_of (tree_or_empty answer)) plain.answer in
    subst (λ p. IsPlainSearch p needle) (sym read) (subst (IsPlainSearch (pattern_of plain.found.tree)) (encodes-chars needle utf8) plain.search)

pub replaced_plainly : EscapedTextsMatchThemselves → MatchesAreReplacedPlainly → {S : Type 0} (text_of : S → List ℕ) (r : MetaRegex) (s : S) (needle text out : List ℕ) →
    needle ≢ [] → IsUtf8 needle → r.options ≡ default_options → chars (string_bytes r.pattern) ≡ escaped_pattern (chars needle) →
    IsReplacedBy (AnswersText text_of) r text (all_matches r text (whole text)) s out (Some (text_of s)) → out ≡ plain_replaced needle (text_of s) text
replaced_plainly matched replaced text_of r s needle text out some utf8 options escaped h =
    by_one_text text_of r text (all_matches r text (whole text)) s (text_of s) out (Some (text_of s)) refl refl h
    ∙ replaced (meta_pattern r) needle (text_of s) some (plain_pattern matched r needle some utf8 options escaped) (setting_in r.options text (whole text)) (options_in r.options)
