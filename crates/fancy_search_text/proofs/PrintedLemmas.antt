-- The line of a printed pattern.
use Rattle.std.proofs.Common.{◌≡◌, ◌∙◌, ◌++◌, ℕ, List, Some, None, Ok, chars, ap, sym}
use Rattle.std.specs.Prelude.{codes, encode_utf8_all, option_map, IsUtf8}
use Rattle.std.proofs.lemmas.Str.{encodes-chars}
use Rattle.fancy_regex.specs.Parse.{Parsed}
use Rattle.fancy_regex.specs.Patterns.{read_as, tree_in, tree_or_empty}
use Rattle.fancy_regex.specs.Reprinted.{reprinted}
use Rattle.fancy_regex.specs.RegexOptions.{RegexOptions}
use Rattle.fancy_search_text.specs.Printed.{IsPrinted}

module _ (o : RegexOptions) (pattern : List ℕ) (found : Parsed) (parsed : read_as o pattern ≡ Ok found) where
  same_tree : reprinted (tree_in o pattern) ≡ reprinted found.tree
  same_tree = ap (λ r. reprinted (tree_or_empty r)) parsed

  pub line_is : (text : List ℕ) → IsUtf8 text → Some (chars text) ≡ reprinted (tree_in o pattern) → (line : List ℕ) → line ≡ text ++ codes "\n" → IsPrinted o pattern (Some line)
  line_is text utf8 e line added =
      let whole : line ≡ encode_utf8_all (chars text) ++ codes "\n" = added ∙ ap (λ x. x ++ codes "\n") (sym (encodes-chars text utf8)) in
      record {
        found = found;
        parsed = parsed;
        printed = ap Some whole ∙ ap (λ t. option_map (λ x. encode_utf8_all x ++ codes "\n") t) (e ∙ same_tree);
      }

  pub none_is : None ≡ reprinted (tree_in o pattern) → IsPrinted o pattern None
  none_is e = record { found = found; parsed = parsed; printed = ap (λ t. option_map (λ x. encode_utf8_all x ++ codes "\n") t) (e ∙ same_tree) }
