-- No group has a number before references are resolved, each alternation has a branch, and each literal is one character.
use Rattle.std.proofs.Common.{◌≡◌, ℕ, Bool, true, false, not, ◌&&◌, List, [], ◌∷◌, ◌++◌, length, Ok, Err, refl, ap, sym, ◌∙◌, subst, suc, Some, None, is_some, ◌↔◌}
use Rattle.std.specs.List.{list_any, list_all}
use Rattle.std.proofs.lemmas.Bool.{and_parts, false≢true}
use Rattle.std.proofs.lemmas.List.Folds.{list_all-append}
use Rattle.std.proofs.lemmas.List.Elements.{All-weaker}
use Rattle.fancy_regex_text.specs.Text.{Text, bytes}
use Rattle.fancy_regex_text.specs.ParseFault.{ParseOutcome}
use Rattle.fancy_regex_lex.specs.Escapes.{Escape, char_escape, byte_escape, class_escape, any_escape, newline_escape, assertion_escape, continue_escape, keep_out_escape, reference_escape, call_escape}
use Rattle.fancy_regex_lex.specs.declared.token.Quantifier.{Quantifier}
use Rattle.fancy_regex_lex.specs.declared.token.Flags.{Flags}
use Rattle.fancy_regex_lex.specs.declared.token.QuantifierSuffix.{QuantifierSuffix}
use Rattle.fancy_regex_tree.specs.declared.parser_config.ParserConfig.{ParserConfig}
use Rattle.fancy_regex_tree.specs.Tree.{Tree, empty, concat, alt, trees}
use Rattle.fancy_regex_tree.specs.Traversal.{nodes, all_nodes}
use Rattle.fancy_regex_tree.specs.Printable.{is_one_character}
use Rattle.fancy_regex_tree.specs.TreeBuilders.{is_empty_tree, without_empty, joined, branch_of, all_branches, pattern_of}
use Rattle.fancy_regex_tree.specs.Atoms.{place, escape_tree}
use Rattle.fancy_regex_tree.specs.Quantifiers.{Atom}
use Rattle.fancy_regex_tree.specs.Parser.{Branches, others_of, conditional_of_branches, absent_of_branches, absent_bar_of, parse_pattern}
use Rattle.fancy_regex_tree.specs.Numbering.{Names, openings, counted, last_named, resolved}
use Rattle.fancy_regex_tree.specs.Parse.{Options, Parsed, with_position, ignores, resolve_references, parse}
use Rattle.fancy_regex_grammar.specs.Quantifiers.{IsRepeated, a_repeat, possessive, reversed, IsQuantifierApplied, repeats, dropped, IsQuantified, no_more, enough, and_quantifier}
use Rattle.fancy_regex_grammar.specs.Patterns.{IsAtom, dot, caret, dollar, a_class, escaped, character, capturing_group, bare_group, flag_setting, an_atomic_group, a_look_around}
use Rattle.fancy_regex_grammar.specs.Patterns.{bare_condition, if_reference, if_expression, definitions, an_absent_repeater, absent_bounds, a_reference, a_call, a_verb, IsPiece}
use Rattle.fancy_regex_grammar.specs.Patterns.{with_quantifiers, IsBranch, no_more_pieces, and_piece, IsBranches, last_branch, and_branch}
use Rattle.fancy_regex_grammar.proofs.PatternProofs.{patterns_are_exact}
use Rattle.fancy_regex_tree_laws.specs.ResolvedGroups.{counted_bodies, group_bodies, is_group, is_resolved_node, HasNoNumberedGroups, ParsedLaw}
use Rattle.fancy_regex_tree_laws.specs.ParsedNodes.{is_parsed_node}
use Rattle.fancy_regex_tree_laws.specs.References.{HasName}
use Rattle.fancy_regex_tree_laws.proofs.GroupRanks.{further}
use Rattle.fancy_regex_tree_laws.proofs.ResolvedGroupProofs.{ok_same, after, turns, groups_are_many, no_group, all_hold}

abbrev is_free : Tree → Bool
is_free t = not (is_group t) && is_parsed_node t

abbrev Free : Tree → Type 0
Free t = list_all is_free (nodes t) ≡ true

abbrev AllFree : List Tree → Type 0
AllFree [] = Unit {0}
AllFree (t ∷ ts) = Free t × AllFree ts

abbrev RowsFree : List (List Tree) → Type 0
RowsFree [] = Unit {0}
RowsFree (b ∷ bs) = AllFree b × RowsFree bs

free_both : (xs ys : List Tree) → list_all is_free xs ≡ true → list_all is_free ys ≡ true → list_all is_free (xs ++ ys) ≡ true
free_both xs ys h k = list_all-append is_free xs ys ∙ (λ i. h i && k i)

trees_free : (ts : List Tree) → AllFree ts → list_all is_free (all_nodes (trees ts)) ≡ true
trees_free [] h = refl
trees_free (t ∷ ts) h = free_both (nodes t) (all_nodes (trees ts)) h.0 (trees_free ts h.1)

kept_free : (e : Tree) (es : List Tree) (b : Bool) → Free e → AllFree es → AllFree (elim b [ true ↦ es | false ↦ e ∷ es ])
kept_free e es true h k = k
kept_free e es false h k = (h, k)

without_empty_free : (es : List Tree) → AllFree es → AllFree (without_empty es)
without_empty_free [] h = tt
without_empty_free (e ∷ es) h = kept_free e (without_empty es) (is_empty_tree e) h.0 (without_empty_free es h.1)

concat_free : (ts : List Tree) → AllFree ts → Free (joined concat ts)
concat_free [] h = refl
concat_free (t ∷ []) h = h.0
concat_free (t ∷ u ∷ us) h = trees_free (t ∷ u ∷ us) h

alt_free : (ts : List Tree) → AllFree ts → Free (joined alt ts)
alt_free [] h = refl
alt_free (t ∷ []) h = h.0
alt_free (t ∷ u ∷ us) h = trees_free (t ∷ u ∷ us) h

branch_free : (ts : List Tree) → AllFree ts → Free (branch_of ts)
branch_free ts h = concat_free (without_empty ts) (without_empty_free ts h)

branches_free : (bs : Branches) → RowsFree bs → AllFree (all_branches bs)
branches_free [] h = tt
branches_free (b ∷ bs) h = (branch_free b h.0, branches_free bs h.1)

pattern_free : (bs : Branches) → RowsFree bs → Free (pattern_of bs)
pattern_free bs h = alt_free (all_branches bs) (branches_free bs h)

condition_free : (c : Tree) (bs : Branches) → Free c → RowsFree bs → Free (conditional_of_branches c bs)
condition_free c [] h k = free_both (nodes c) (nodes empty ++ nodes empty) h refl
condition_free c (b ∷ bs) h k =
    free_both (nodes c) (nodes (branch_of b) ++ nodes (others_of bs)) h
    (free_both (nodes (branch_of b)) (nodes (others_of bs)) (branch_free b k.0) (pattern_free bs k.1))

bounded_free : (bs : Branches) → RowsFree bs → Free (absent_of_branches bs)
bounded_free [] h = refl
bounded_free (b ∷ []) h = branch_free b h.0
bounded_free (b ∷ d ∷ bs) h = free_both (nodes (branch_of b)) (nodes (others_of (d ∷ bs))) (branch_free b h.0) (pattern_free (d ∷ bs) h.1)

absent_free : (bs : Branches) → RowsFree bs → Free (absent_bar_of bs)
absent_free [] h = refl
absent_free ([] ∷ []) h = refl
absent_free ((t ∷ ts) ∷ []) h = bounded_free ((t ∷ ts) ∷ []) h
absent_free ([] ∷ d ∷ bs) h = bounded_free ([] ∷ d ∷ bs) h
absent_free ((t ∷ ts) ∷ d ∷ bs) h = bounded_free ((t ∷ ts) ∷ d ∷ bs) h

escape_free : (p : ParserConfig) (f : Flags) (position : ℕ) (e : Escape) → Free (escape_tree p f position e)
unfolding is_one_character
escape_free p f position (char_escape c) = refl
escape_free p f position (byte_escape b) = refl
escape_free p f position (class_escape t) = refl
escape_free p f position (any_escape newline) = refl
escape_free p f position newline_escape = refl
escape_free p f position (assertion_escape a) = refl
escape_free p f position continue_escape = refl
escape_free p f position keep_out_escape = refl
escape_free p f position (reference_escape target level) = refl
escape_free p f position (call_escape target) = refl

repeated_free : {p : ParserConfig} {f : Flags} {count : Quantifier} {marks : QuantifierSuffix} {e tree : Tree} → Free e → IsRepeated p f count marks e tree → Free tree
repeated_free h (a_repeat o n g) = h
repeated_free h (possessive o n g) = h
repeated_free h (reversed o n g) = h

under_free : {p : ParserConfig} {f : Flags} {count : Quantifier} {marks : QuantifierSuffix} {e : Atom} {tree : Tree} → Free e.tree → IsQuantifierApplied p f count marks e tree → Free tree
under_free h (repeats r k) = repeated_free h k
under_free h (dropped d) = refl

quantified_free : {p : ParserConfig} {f : Flags} {more : ℕ} {e : Atom} {t rest : Text} {whole : Tree} → Free e.tree → IsQuantified p f more e t whole rest → Free whole
quantified_free h (no_more s n) = h
quantified_free h (enough s n) = h
quantified_free h (and_quantifier s q m u more) = quantified_free (under_free h u) more

module _ (p : ParserConfig) where
  mutual
    unfolding is_one_character

    atom_free : {n : ℕ} {in_look : Bool} {f g : Flags} {t rest : Text} {e : Atom} → IsAtom p n in_look f t e g rest → Free e.tree
    atom_free dot = refl
    atom_free caret = refl
    atom_free dollar = refl
    atom_free (a_class c) = refl
    atom_free (escaped {f = f} {t = t} {e = e} h) = escape_free p f (place p (0x5C ∷ t)) e
    atom_free (character h n) = refl
    atom_free (capturing_group {body = body} o b) = pattern_free body (rows_free b)
    atom_free (bare_group {body = body} o b) = pattern_free body (rows_free b)
    atom_free (flag_setting o) = refl
    atom_free (an_atomic_group {body = body} o b) = pattern_free body (rows_free b)
    atom_free (a_look_around {body = body} o b) = pattern_free body (rows_free b)
    atom_free (bare_condition o b h) = refl
    atom_free (if_reference {body = body} o b h) = condition_free _ body refl (rows_free b)
    atom_free (if_expression {c = c} {body = body} o b d h) = condition_free (pattern_of c) body (pattern_free c (rows_free b)) (rows_free d)
    atom_free (definitions {body = body} o b) = pattern_free body (rows_free b)
    atom_free (an_absent_repeater {body = body} o b) = pattern_free body (rows_free b)
    atom_free (absent_bounds {body = body} o b) = absent_free body (rows_free b)
    atom_free (a_reference o) = refl
    atom_free (a_call o) = refl
    atom_free (a_verb o) = refl

    piece_free : {n : ℕ} {in_look : Bool} {f g : Flags} {t rest : Text} {e : Tree} → IsPiece p n in_look f t e g rest → Free e
    piece_free (with_quantifiers a q) = quantified_free (atom_free a) q

    row_free : {n : ℕ} {in_look : Bool} {f g : Flags} {t rest : Text} {es : List Tree} → IsBranch p n in_look f t es g rest → AllFree es
    row_free (no_more_pieces s e) = tt
    row_free (and_piece s q b) = (piece_free q, row_free b)

    rows_free : {n : ℕ} {in_look : Bool} {f g : Flags} {t rest : Text} {body : Branches} → IsBranches p n in_look f t body g rest → RowsFree body
    rows_free (last_branch b c) = (row_free b, tt)
    rows_free (and_branch b c) = (row_free b, rows_free c)

unmarked : (b : Bool) → not b ≡ true → b ≡ false
unmarked true h = sym h
unmarked false h = refl

-- the tree of a pattern before references are resolved
pub record IsReadTree (tree : Tree) : Type 0 where
  pub unnumbered : HasNoNumberedGroups tree
  pub well_made : list_all is_parsed_node (nodes tree) ≡ true

kept_of_all : (ts : List Tree) → list_all is_free ts ≡ true → list_all is_parsed_node ts ≡ true
kept_of_all [] h = refl
kept_of_all (t ∷ ts) h =
    let parts = and_parts (is_free t) (list_all is_free ts) h in
    let node = (and_parts (not (is_group t)) (is_parsed_node t) parts.0).1 in
    (λ i. node i && kept_of_all ts parts.1 i)

read_free : (oniguruma unicode : Bool) (f : Flags) (t : Text) (tree : Tree) → parse_pattern oniguruma unicode f t ≡ Ok tree → IsReadTree tree
read_free oniguruma unicode f t tree h =
    let p : ParserConfig = record { size = bytes t; oniguruma = oniguruma; unicode = unicode } in
    let found = (patterns_are_exact oniguruma unicode f t).sound tree h in
    let free : Free tree = subst (λ u. Free u) (sym found.tree) (pattern_free found.body (rows_free p found.derivation)) in
    record {
      unnumbered = All-weaker (λ u. is_free u ≡ true) (λ u. is_group u ≡ false) (λ u k. unmarked (is_group u) (and_parts (not (is_group u)) (is_parsed_node u) k).0)
          (nodes tree) (all_hold is_free (nodes tree) free);
      well_made = kept_of_all (nodes tree) free;
    }

was_read : {A : Type 0} (size : ℕ) (r : ParseOutcome A) (a : A) → with_position size r ≡ Ok a → r ≡ Ok a
was_read size (Ok x) a h = ap Ok (ok_same x a h)
was_read size (Err e) a h = cc

-- how a whole text is read
pub record Steps (o : Options) (t : Text) (found : Parsed) : Type 0 where
  pub read : IsReadTree found.unresolved
  ignoring : found.ignored ≡ ignores o (openings found.unresolved)
  names : found.names ≡ counted found.ignored (openings found.unresolved)
  pub following : ℕ
  pub resolving : resolved found.ignored (last_named found.names) 0 found.unresolved ≡ Ok (found.tree, following)

pub steps : (o : Options) (t : Text) (found : Parsed) → parse o t ≡ Ok found → Steps o t found
unfolding parse
steps o t found h =
    let first = after (with_position (bytes t) (parse_pattern o.oniguruma o.unicode o.flags t)) (resolve_references o) found h in
    let read = was_read (bytes t) (parse_pattern o.oniguruma o.unicode o.flags t) first.0 first.1 in
    let ignored = ignores o (openings first.0) in
    let names = counted ignored (openings first.0) in
    let second = after (resolved ignored (last_named names) 0 first.0) (λ r. Ok (record { tree = r.0; names = names; unresolved = first.0; ignored = ignored })) found first.2 in
    subst (λ r. Steps o t r) (ok_same (record { tree = second.0.0; names = names; unresolved = first.0; ignored = ignored }) found second.2)
    (record { read = read_free o.oniguruma o.unicode o.flags t first.0 read; ignoring = refl; names = refl; following = second.0.1; resolving = second.1 })

some_carries : (names : Names) → list_any is_some names ≡ true → (name : Text) × (rank : ℕ) × HasName names name rank
some_carries [] h = absurd (false≢true h)
some_carries (Some name ∷ names) h = (name, 1, record { before = []; following = names; parts = refl; place = refl })
some_carries (None ∷ names) h = let found = some_carries names h in (found.0, suc found.1, further found.0 None names found.1 found.2)

has_some : (before following : Names) (name : Text) → list_any is_some (before ++ (Some name ∷ following)) ≡ true
has_some [] following name = refl
has_some (Some other ∷ before) following name = refl
has_some (None ∷ before) following name = has_some before following name

ignored_where : (o : Options) (t : Text) (found : Parsed) → Steps o t found →
    (found.ignored ≡ true) ↔ ((o.ignore_numbered ≡ true) × ((name : Text) × (rank : ℕ) × HasName (openings found.unresolved) name rank))
ignored_where o t found s =
    let names = openings found.unresolved in (
      λ h. let parts = and_parts o.ignore_numbered (list_any is_some names) (sym s.ignoring ∙ h) in (parts.0, some_carries names parts.1),
      λ k. let c = k.1.2 in
          let some : list_any is_some names ≡ true = ap (λ ns. list_any is_some ns) c.parts ∙ has_some c.before c.following k.1.0 in
          s.ignoring ∙ (λ i. k.0 i && some i),
    )

pub parsed_law : ParsedLaw
parsed_law = record {
  nothing_left = λ o t found h.
      let s = steps o t found h in
      all_hold is_resolved_node (nodes found.tree) (turns found.ignored (last_named found.names) 0 found.unresolved (found.tree, s.following) s.resolving).done;
  as_read = λ o t found h. (steps o t found h).read.unnumbered;
  bodies = λ o t found h.
      let s = steps o t found h in
      (turns found.ignored (last_named found.names) 0 found.unresolved (found.tree, s.following) s.resolving).groups;
  ignored = λ o t found h. ignored_where o t found (steps o t found h);
  names = λ o t found h. (steps o t found h).names;
  count = λ o t found h.
      let s = steps o t found h in
      groups_are_many found.ignored (last_named found.names) 0 (counted_bodies found.ignored found.unresolved) (group_bodies found.tree)
      (turns found.ignored (last_named found.names) 0 found.unresolved (found.tree, s.following) s.resolving).groups
      ∙ no_group found.ignored (nodes found.unresolved) s.read.unnumbered
      ∙ ap length (sym s.names);
}
