-- What searches find by normal forms.
use Rattle.std.proofs.Common.{◌≡◌, ℕ, suc, ◌+◌, Bool, true, false, ◌||◌, [], ◌∷◌, length, replicate, Some, None, option_map, sym, ap, ◌∙◌, cond}
use Rattle.std.specs.List.{filter}
use mathlib.Core.Path.{fun_ext}
use Rattle.fancy_regex_tree.specs.Tree.{Tree}
use Rattle.fancy_regex_tree.specs.NormalForm.{normal_form}
use Rattle.fancy_regex_tree.specs.Printable.{is_printable, classes_read_back}
use Rattle.fancy_regex_meaning.specs.Groups.{bodies, pattern_of}
use Rattle.fancy_regex_meaning.specs.Ways.{Setting, ways, call_ways, max_open_calls}
use Rattle.fancy_regex_meaning.specs.Searches.{Options, Search, Input, match_of, chosen, is_admitted, start_way, starts, first_some, match_at, first_match, search_from, items, all_items}
use Rattle.fancy_regex_meaning.proofs.GroupProofs.{groups_are_counted}
use Rattle.fancy_regex_print_laws.specs.NormalFormLaws.{NormalFormKeepsWays, NormalFormKeepsFirstMatch, NormalFormKeepsItems}
use Rattle.fancy_regex_print_laws.proofs.NormalFormGroupProofs.{count_stays}
use Rattle.fancy_regex_print_laws.proofs.NormalFormWayProofs.{same}

pub ways_stay : (s : Setting) → NormalFormKeepsWays s
unfolding ways
ways_stay s t groups others n w printable classes =
    ap (λ moves. moves w) (same s groups others (call_ways s groups (max_open_calls groups) []) (call_ways s others (max_open_calls others) []) n t printable classes)

-- as many groups are not set
same_groups : (t : Tree) → length (t ∷ bodies t) ≡ length (normal_form t ∷ bodies (normal_form t))
same_groups t =
    ap (λ n. suc n) (groups_are_counted t ∙ sym (count_stays t) ∙ sym (groups_are_counted (normal_form t)))

match_stays : (s : Setting) (t : Tree) (find : Search) (p : ℕ) → is_printable t ≡ true → classes_read_back t ≡ true →
    match_at s (pattern_of t) find p ≡ match_at s (pattern_of (normal_form t)) find p
unfolding match_at
match_stays s t find p printable classes =
    let form = normal_form t in
    ap (λ ws. option_map match_of (chosen find.options.longest (filter (is_admitted find) ws)))
    (ways_stay s t (t ∷ bodies t) (form ∷ bodies form) 1 (start_way (pattern_of t) p) printable classes
    ∙ ap (λ k. ways s (form ∷ bodies form) 1 form (record { position = p; pairs = replicate k None; match_start = p })) (same_groups t))

pub matches_stay : (s : Setting) → NormalFormKeepsFirstMatch s
unfolding first_match
matches_stay s t find printable classes =
    ap (λ at. first_some at (starts s (pattern_of t) find)) (fun_ext (λ p. match_stays s t find p printable classes))

search_stays : (s : Setting) (t : Tree) (options : Options) (input : Input) (q : ℕ) (off : Bool) → is_printable t ≡ true →
    classes_read_back t ≡ true → search_from s (pattern_of t) options input q off ≡ search_from s (pattern_of (normal_form t)) options input q off
unfolding search_from
search_stays s t options input q off printable classes =
    matches_stay (record s { continue_at = cond (off || input.no_continue) None (Some q) }) t
    (record { first = q; stop = input.range_end; anchored = input.anchored; options = options }) printable classes

pub items_stay : (s : Setting) → NormalFormKeepsItems s
unfolding all_items
items_stay s t options input printable classes =
    ap (λ search. items s.text search input.range_start input.range_end (length s.text + 2) input.start None false)
    (fun_ext (λ q. fun_ext (λ off. search_stays s t options input q off printable classes)))
