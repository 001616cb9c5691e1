-- What an escaped text is parsed to, and what it matches.
use Rattle.std.proofs.Common.{◌≡◌, true, false, [], ◌∷◌, None, refl, sym, ap, ◌∙◌, replicate}
use Rattle.fancy_regex_text.specs.Text.{Text, bytes}
use Rattle.fancy_regex_tree.specs.Tree.{literal, concat, more_trees, trees}
use Rattle.fancy_regex_tree.specs.TreeBuilders.{joined}
use Rattle.fancy_regex_tree.specs.Numbering.{◌⨟◌}
use Rattle.fancy_regex_tree.specs.Parse.{parse, with_position, resolve_references}
use Rattle.fancy_regex_grammar.proofs.PatternProofs.{patterns_are_exact}
use Rattle.fancy_regex_meaning.specs.Groups.{group_count}
use Rattle.fancy_regex_print_laws.specs.ReprintLaws.{is_resolved, are_resolved, no_flags, plain_options}
use Rattle.fancy_regex_print_laws.proofs.NamelessTrees.{nameless_tree, nameless_trees}
use Rattle.fancy_regex_print_laws.proofs.GroupNumbers.{finishes}
use Rattle.fancy_regex_template.specs.PatternEscape.{escaped_pattern}
use Rattle.fancy_regex_escape_laws.specs.EscapeLaws.{EscapedTextsMatchThemselves}
use Rattle.fancy_regex_escape_laws.specs.Literals.{literals, plain_tree}
use Rattle.fancy_regex_escape_laws.proofs.EscapeReading.{escaped_texts_are_read}
use Rattle.fancy_regex_escape_laws.proofs.LiteralWays.{of_joined}
use Rattle.fancy_regex_escape_laws.proofs.PlainSearchLemmas.{plain_trees_are_plain_searches}

-- literals have no names
row_nameless : (t : Text) → nameless_trees (trees (literals false t)) ≡ trees (literals false t)
unfolding nameless_tree
row_nameless [] = refl
row_nameless (c ∷ t) = ap (λ ts. more_trees (literal (c ∷ []) false) ts) (row_nameless t)

joined_nameless : (t : Text) → nameless_tree (joined concat (literals false t)) ≡ joined concat (literals false t)
unfolding nameless_tree
joined_nameless [] = refl
joined_nameless (c ∷ []) = refl
joined_nameless (c ∷ d ∷ t) = ap concat (row_nameless (c ∷ d ∷ t))

plain_nameless : (t : Text) → nameless_tree (plain_tree t) ≡ plain_tree t
plain_nameless t = ap nameless_tree (of_joined t) ∙ joined_nameless t ∙ sym (of_joined t)

-- nor references
row_resolved : (t : Text) → are_resolved (trees (literals false t)) ≡ true
unfolding is_resolved
row_resolved [] = refl
row_resolved (c ∷ t) = row_resolved t

joined_resolved : (t : Text) → is_resolved (joined concat (literals false t)) ≡ true
unfolding is_resolved
joined_resolved [] = refl
joined_resolved (c ∷ []) = refl
joined_resolved (c ∷ d ∷ t) = row_resolved (c ∷ d ∷ t)

plain_resolved : (t : Text) → is_resolved (plain_tree t) ≡ true
plain_resolved t = ap is_resolved (of_joined t) ∙ joined_resolved t

pub escaped_texts_match_themselves : EscapedTextsMatchThemselves
unfolding parse
escaped_texts_match_themselves unicode ignore_numbered t ok some =
    let text = escaped_pattern t in
    let tree = plain_tree t in
    let read = (patterns_are_exact false unicode no_flags text).complete tree (escaped_texts_are_read (bytes text) unicode false t) in
    record {
      found = record { tree = tree; names = replicate (group_count tree) None; unresolved = tree; ignored = false };
      answer = ap (λ r. with_position (bytes text) r ⨟ resolve_references (plain_options unicode ignore_numbered)) read
          ∙ finishes (plain_options unicode ignore_numbered) tree tree (plain_nameless t) (plain_resolved t);
      search = plain_trees_are_plain_searches t ok some;
    }
