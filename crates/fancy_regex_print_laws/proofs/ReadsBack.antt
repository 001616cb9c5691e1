-- Whole printed patterns, read.
use Rattle.std.proofs.Common.{◌≡◌, ◌<◌, ◌≤◌, ◌+◌, ◌-◌, ◌++◌, ℕ, Bool, true, false, [], ◌∷◌, None, replicate, refl, subst, ap, sym, ◌∙◌, append-nil, arith, Ok, Err}
use Rattle.fancy_regex_text.specs.Text.{Text, bytes}
use Rattle.fancy_regex_text.specs.ParseFault.{recursion_exceeded}
use Rattle.fancy_regex_grammar.specs.Patterns.{IsPattern}
use Rattle.fancy_regex_tree.specs.Tree.{Tree}
use Rattle.fancy_regex_tree.specs.TreeBuilders.{pattern_of}
use Rattle.fancy_regex_tree.specs.Parser.{parse_pattern}
use Rattle.fancy_regex_tree.specs.Printable.{is_printable, printed_levels}
use Rattle.fancy_regex_tree.specs.Numbering.{◌⨟◌}
use Rattle.fancy_regex_tree.specs.Parse.{with_position, resolve_references, parse}
use Rattle.fancy_regex_tree.specs.Printed.{printed}
use Rattle.fancy_regex_tree.specs.NormalForm.{normal_form}
use Rattle.fancy_regex_grammar.proofs.PatternProofs.{patterns_are_exact}
use Rattle.fancy_regex_meaning.specs.Groups as patterns
use Rattle.fancy_regex_meaning.specs.Ways.{Setting, ways}
use Rattle.fancy_regex_meaning.specs.Searches.{first_match, all_items}
use Rattle.fancy_regex_print_laws.proofs.NormalFormGroupProofs.{count_stays}
use Rattle.fancy_regex_print_laws.proofs.NormalFormSearchProofs.{ways_stay, matches_stay, items_stay}
use Rattle.fancy_regex_print_laws.specs.ReprintLaws.{PrintedReadsBack, PrintedMeansTheSame, TooDeepIsRefused, PrintedParses, TooDeepDoesNotParse, PrintedIsSamePattern, CountsFit}
use Rattle.fancy_regex_print_laws.specs.ReprintLaws.{up_to_too_deep, no_flags, plain_mode, plain_options}
use Rattle.fancy_regex_grammar.specs.Faults.{inside_pattern}
use Rattle.fancy_regex_print_laws.proofs.TooDeepProofs.{deep, WholeDeep}
use Rattle.fancy_regex_print_laws.proofs.NamelessTrees.{nameless_tree}
use Rattle.fancy_regex_print_laws.proofs.GroupNumbers.{counts_as, finishes, form_resolved}
use Rattle.fancy_regex_print_laws.proofs.Reading.{reads, WholeRead}
use Rattle.fancy_regex_print_laws.specs.PrintedParts.{closing_end}

-- the text is read as this tree, without a name
record NamelessRead (unicode : Bool) (text : Text) (form : Tree) : Type 0 where
  pub tree : Tree
  pub reading : IsPattern (plain_mode (bytes text) unicode) no_flags text tree
  pub answer : parse_pattern false unicode no_flags text ≡ Ok tree
  pub is_form : nameless_tree tree ≡ form

nameless_read : (unicode : Bool) (t : Tree) → is_printable t ≡ true → CountsFit t → printed_levels 0 t < 64 → NamelessRead unicode (printed 0 t) (normal_form t)
nameless_read unicode t p fit few =
    let size = bytes (printed 0 t) in
    let at_end = (reads size unicode t p fit).whole 63 [] (omega arith) closing_end in
    let read : WholeRead size unicode 63 (printed 0 t) (normal_form t) [] =
    subst (λ (u : Text). WholeRead size unicode 63 u (normal_form t) []) (append-nil (printed 0 t)) at_end in
    let reading : IsPattern (plain_mode size unicode) no_flags (printed 0 t) (pattern_of (read.body)) =
    record { body = read.body; flags_after = no_flags; derivation = read.reading; tree = refl } in
    record {
      tree = pattern_of (read.body);
      reading = reading;
      answer = (patterns_are_exact false unicode no_flags (printed 0 t)).complete (pattern_of (read.body)) reading;
      is_form = read.is_form;
    }

pub printed_reads_back : PrintedReadsBack
printed_reads_back unicode t p fit few =
    let read = nameless_read unicode t p fit few in
    record { tree = read.tree; reading = read.reading; answer = read.answer; is_form = counts_as read.tree (normal_form t) read.is_form (form_resolved t p) }

pub printed_means_the_same : (s : Setting) → PrintedMeansTheSame s
printed_means_the_same s unicode t p fit classes few =
    let read = printed_reads_back unicode t p fit few in
    record {
      tree = read.tree;
      answer = read.answer;
      same_ways = λ groups others n w. ways_stay s t groups others n w p classes ∙ ap (λ e. ways s others n e w) (sym read.is_form);
      same_match = λ find. matches_stay s t find p classes ∙ ap (λ e. first_match s (patterns.pattern_of e) find) (sym read.is_form);
      same_items = λ options input. items_stay s t options input p classes ∙ ap (λ e. all_items s (patterns.pattern_of e) options input) (sym read.is_form);
    }

-- where the whole text stops
deep_at : (unicode : Bool) (t : Tree) → is_printable t ≡ true → CountsFit t → 64 ≤ printed_levels 0 t →
    WholeDeep (bytes (printed 0 t)) unicode 63 (printed 0 t) (up_to_too_deep 0 63 t)
deep_at unicode t p fit many =
    subst (λ (u : Text). WholeDeep (bytes (printed 0 t)) unicode 63 u (up_to_too_deep 0 63 t)) (append-nil (printed 0 t))
    ((deep (bytes (printed 0 t)) unicode t p fit).whole 63 [] (omega arith) closing_end)

pub deep_is_refused : TooDeepIsRefused
deep_is_refused unicode t p fit many =
    let found = deep_at unicode t p fit many in
    record {
      place = record { following = found.following; text = found.text };
      answer = (patterns_are_exact false unicode no_flags (printed 0 t)).fault_is_complete _ (inside_pattern found.stops);
    }

pub printed_parses : PrintedParses
unfolding parse
printed_parses unicode ignore_numbered t p fit few =
    let o = plain_options unicode ignore_numbered in
    let text = printed 0 t in
    let read = nameless_read unicode t p fit few in
    record {
      unresolved = read.tree;
      answer = ap (λ r. with_position (bytes text) r ⨟ resolve_references o) read.answer
          ∙ finishes o read.tree (normal_form t) read.is_form (form_resolved t p)
          ∙ ap (λ (n : ℕ). Ok (record { tree = normal_form t; names = replicate n None; unresolved = read.tree; ignored = false })) (count_stays t);
    }

bytes_append : (t u : Text) → bytes (t ++ u) ≡ bytes t + bytes u
unfolding bytes
bytes_append [] u = omega arith
bytes_append (c ∷ t) u = omega (arith, bytes_append t u)

-- what stands before a place, where the text and what is left are known
before_is : (text before following : Text) → text ≡ before ++ following → bytes text - bytes following ≡ bytes before
before_is text before following is = omega (arith, ap bytes is, bytes_append before following)

pub deep_is_no_pattern : TooDeepDoesNotParse
unfolding parse
deep_is_no_pattern unicode ignore_numbered t p fit many =
    let found = deep_is_refused unicode t p fit many in
    let size = bytes (printed 0 t) in
    record {
      place = found.place;
      answer = ap (λ r. with_position size r ⨟ resolve_references (plain_options unicode ignore_numbered)) found.answer
          ∙ ap (λ (n : ℕ). Err (record { kind = recursion_exceeded; position = n })) (before_is (printed 0 t) (up_to_too_deep 0 63 t) (0x28 ∷ found.place.following) found.place.text);
    }

pub printed_is_same_pattern : (s : Setting) → PrintedIsSamePattern s
printed_is_same_pattern s unicode ignore_numbered t p fit classes few =
    let read = printed_parses unicode ignore_numbered t p fit few in
    record {
      found = _;
      answer = read.answer;
      same_ways = λ groups others n w. ways_stay s t groups others n w p classes;
      same_match = λ find. matches_stay s t find p classes;
      same_items = λ settings input. items_stay s t settings input p classes;
    }
