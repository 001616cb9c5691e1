-- The matches of a printed text.
use Rattle.std.proofs.Common.{rules, ◌≡◌, ℕ, suc, ◌<◌, ◌≤◌, ◌∙◌, Bool, true, false, ◌&&◌, ◌||◌, not, List, ◌∷◌, length, Ok, Option, Some, None, unwrap_or, [], String, IfSome, option_map, string_bytes, refl, ap, sym, max, nat_lt, if◌then◌else◌, chars}
use Rattle.std.proofs.lemmas.Bool.{ltb-true, true≢false, and_parts}
use Rattle.std.specs.Option.{is_some}
use Rattle.std.specs.Global.{Global}
use Rattle.fancy_regex_text.specs.Text.{Text}
use Rattle.fancy_regex_tree.specs.Tree.{Tree}
use Rattle.fancy_regex_tree.specs.NormalForm.{normal_form}
use Rattle.fancy_regex_tree.specs.Parse.{Parsed, parse}
use Rattle.fancy_regex_tree.specs.Printed.{printed}
use Rattle.fancy_regex_tree.specs.Printable.{is_printable, classes_read_back, printed_levels, reprints}
use Rattle.fancy_regex_meaning.specs.Groups.{Pattern, bodies, pattern_of}
use Rattle.fancy_regex_meaning.specs.GroupLaws.{GroupsAreCounted}
use Rattle.fancy_regex_meaning.specs.Ways.{Setting}
use Rattle.fancy_regex_meaning.specs.Searches.{Options, Input, Search, search_from, find_input, all_items, first_match, first_some, match_at}
use Rattle.fancy_regex_print_laws.specs.NormalFormLaws.{NormalFormKeepsGroups, NormalFormKeepsFirstMatch, NormalFormKeepsItems}
use Rattle.fancy_regex_print_laws.specs.ReprintLaws.{TreeParses, plain_options}
use Rattle.fancy_regex_input.specs.SearchInputs.{input_of}
use Rattle.fancy_regex_input.specs.declared.config.SearchConfig.{SearchConfig}
use Rattle.fancy_regex_class.specs.Classes.{setting_of}
use Rattle.fancy_regex_search.specs.Patterns.{read_as, tree_or_empty, tree_in, pattern_in, options_in, setting_in}
use Rattle.fancy_regex_search.specs.RegexOptions.{RegexOptions}
use Rattle.fancy_regex_reprint.specs.Reprinted.{text_in, reprinted}
use Rattle.fancy_regex.specs.Reprinting.{KeepsMatches}

-- the tree reprints, and this is its text
record Reprints (t : Tree) (text : Text) : Type 0 where
  is : text ≡ printed 0 t
  printable : is_printable t ≡ true
  classes : classes_read_back t ≡ true
  few : printed_levels 0 t < 64

by_case : (b : Bool) (t : Tree) (text : Text) → reprints t ≡ b → Some text ≡ (if b then Some (printed 0 t) else None) → Reprints t text
unfolding reprints
by_case false t text h e = absurd (true≢false (ap is_some e))
by_case true t text h e =
    let few = and_parts (is_printable t && classes_read_back t) (nat_lt (printed_levels 0 t) 64) h in
    let classes = and_parts (is_printable t) (classes_read_back t) few.0 in
    record { is = ap (λ shown. unwrap_or shown []) e; printable = classes.0; classes = classes.1; few = ltb-true (printed_levels 0 t) 64 few.1 }

-- the laws of normal forms
pub record Laws : Type 0 where
  pub groups : NormalFormKeepsGroups
  pub counted : GroupsAreCounted
  pub matches : (s : Setting) → NormalFormKeepsFirstMatch s
  pub items : (s : Setting) → NormalFormKeepsItems s

same_groups : Laws → (t : Tree) → length (t ∷ bodies t) ≡ length (normal_form t ∷ bodies (normal_form t))
same_groups laws t = ap (λ n. suc n) (laws.counted t ∙ sym (laws.groups t) ∙ sym (laws.counted (normal_form t)))

find_stays : Laws → (s : Setting) (t : Tree) (options : Options) (input : Input) → is_printable t ≡ true → classes_read_back t ≡ true
    → find_input s (pattern_of t) options input ≡ find_input s (pattern_of (normal_form t)) options input
unfolding find_input search_from
find_stays laws s t options input printable classes =
    laws.matches (record s { continue_at = if false || input.no_continue then None else Some (max input.start input.range_start) }) t
    (record { first = max input.start input.range_start; stop = input.range_end; anchored = input.anchored; options = options }) printable classes

answer_stays : {A : Type 0} (found : Option A) → (elim found [ None ↦ None | Some y ↦ Some y ]) ≡ found
answer_stays None = refl
answer_stays (Some y) = refl

-- the search that tries one start alone
abbrev only_start : Options → ℕ → ℕ → Search
only_start options stop at = record { first = at; stop = stop; anchored = true; options = options }

not_past : (stop at : ℕ) → at ≤ stop → nat_lt stop at ≡ false
not_past stop at inside = search rules

only_start_finds : (s : Setting) (pattern : Pattern) (options : Options) (stop at : ℕ) → at ≤ stop →
    first_match s pattern (only_start options stop at) ≡ match_at s pattern (only_start options stop at) at
unfolding first_match
only_start_finds s pattern options stop at inside =
    ap (λ b. first_some (match_at s pattern (only_start options stop at)) (if b then [] else at ∷ [])) (not_past stop at inside)
    ∙ answer_stays (match_at s pattern (only_start options stop at) at)

member_stays : Laws → (s : Setting) (t : Tree) (options : Options) (stop at : ℕ) → is_printable t ≡ true → classes_read_back t ≡ true → at ≤ stop →
    match_at s (pattern_of t) (only_start options stop at) at ≡ match_at s (pattern_of (normal_form t)) (only_start options stop at) at
member_stays laws s t options stop at printable classes inside =
    sym (only_start_finds s (pattern_of t) options stop at inside)
    ∙ laws.matches s t (only_start options stop at) printable classes
    ∙ only_start_finds s (pattern_of (normal_form t)) options stop at inside

setting_stays : (o p : RegexOptions) (text : List ℕ) (config : SearchConfig) → p.unicode_mode ≡ o.unicode_mode → setting_in p text config ≡ setting_in o text config
setting_stays o p text config same =
    ap (λ unicode. record (setting_of unicode text) { no_start_text = not config.start_text; no_end_text = not config.end_text }) same

pub keeps_matches : Laws → (o : RegexOptions) (pattern : List ℕ) (found : Parsed) (t : Tree) (bytes : List ℕ) → read_as o pattern ≡ Ok found → t ≡ found.tree
    → Some (chars bytes) ≡ reprinted (tree_in o pattern) → TreeParses t → KeepsMatches o pattern bytes
keeps_matches laws o pattern found t bytes read is_tree shown parses p as_printed =
    let first_tree : tree_in o pattern ≡ t = ap tree_or_empty read ∙ sym is_tree in
    let r = by_case (reprints t) t (chars bytes) refl (shown ∙ ap reprinted first_tree) in
    let answer = parses o.unicode_mode p.ignore_numbered_groups_when_named_groups_exist r.printable r.few in
    let printed_tree : tree_in p bytes ≡ normal_form t =
    ap tree_or_empty
    (ap (λ options. parse options (chars bytes)) as_printed.parsed_plainly
    ∙ ap (parse (plain_options o.unicode_mode p.ignore_numbered_groups_when_named_groups_exist)) r.is
    ∙ answer.answer) in
    record {
      groups =
          ap (λ tree. length (pattern_of tree).groups) first_tree
          ∙ same_groups laws t
          ∙ sym (ap (λ tree. length (pattern_of tree).groups) printed_tree);
      first = λ text config.
          ap (λ tree. find_input (setting_in o text config) (pattern_of tree) (options_in o) (input_of config)) first_tree
          ∙ find_stays laws (setting_in o text config) t (options_in o) (input_of config) r.printable r.classes
          ∙ sym (ap (λ tree. find_input (setting_in o text config) (pattern_of tree) (options_in o) (input_of config)) printed_tree)
          ∙ sym (ap (λ s. find_input s (pattern_in p bytes) (options_in o) (input_of config)) (setting_stays o p text config as_printed.unicode))
          ∙ sym (ap (λ options. find_input (setting_in p text config) (pattern_in p bytes) options (input_of config)) as_printed.searches);
      items = λ text config.
          ap (λ tree. all_items (setting_in o text config) (pattern_of tree) (options_in o) (input_of config)) first_tree
          ∙ laws.items (setting_in o text config) t (options_in o) (input_of config) r.printable r.classes
          ∙ sym (ap (λ tree. all_items (setting_in o text config) (pattern_of tree) (options_in o) (input_of config)) printed_tree)
          ∙ sym (ap (λ s. all_items s (pattern_in p bytes) (options_in o) (input_of config)) (setting_stays o p text config as_printed.unicode))
          ∙ sym (ap (λ options. all_items (setting_in p text config) (pattern_in p bytes) options (input_of config)) as_printed.searches);
      member = λ text config continue_at at inside.
          ap (λ tree. match_at (record (setting_in o text config) { continue_at = continue_at }) (pattern_of tree) (only_start (options_in o) config.range_end at) at) first_tree
          ∙ member_stays laws (record (setting_in o text config) { continue_at = continue_at }) t (options_in o) config.range_end at r.printable r.classes inside
          ∙ sym (ap (λ tree. match_at (record (setting_in o text config) { continue_at = continue_at }) (pattern_of tree) (only_start (options_in o) config.range_end at) at) printed_tree)
          ∙ sym (ap (λ (s : Setting). match_at (record s { continue_at = continue_at }) (pattern_in p bytes) (only_start (options_in o) config.range_end at) at) (setting_stays o p text config as_printed.unicode))
          ∙ sym (ap (λ options. match_at (record (setting_in p text config) { continue_at = continue_at }) (pattern_in p bytes) (only_start options config.range_end at) at) as_printed.searches);
    }

pub reprint_keeps_matches : Laws → (o : RegexOptions) (pattern : List ℕ) (found : Parsed) (t : Tree) (answer : Option (String Global)) → read_as o pattern ≡ Ok found
    → t ≡ found.tree → option_map text_in answer ≡ reprinted (tree_in o pattern) → TreeParses t
    → IfSome answer (λ printed. KeepsMatches o pattern (string_bytes printed))
reprint_keeps_matches laws o pattern found t None read is_tree shown parses = tt
reprint_keeps_matches laws o pattern found t (Some s) read is_tree shown parses = keeps_matches laws o pattern found t (string_bytes s) read is_tree shown parses
