-- The reading functions, a step at a time.
use Rattle.std.proofs.Common.{◌≡◌, ◌≢◌, ℕ, zero, suc, ◌+◌, Bool, true, false, cond, ◌==◌, Option, Some, None, is_some, Ok, Err, List, [], ◌∷◌, length, codes, refl, ap, ◌∙◌, if◌then◌else◌}
use Rattle.std.proofs.lemmas.Bool.{or_parts}
use Rattle.fancy_regex_text.specs.Text.{Text, ◌∈◌, strip_prefix}
use Rattle.fancy_regex_text.specs.ParseFault.{ParseFault, ParseOutcome, ◌>>=◌, fail_at, general_parse_error, unclosed_open_paren, recursion_exceeded, target_not_repeatable}
use Rattle.fancy_regex_text.specs.Layout.{skip}
use Rattle.fancy_regex_lex.specs.Escapes.{Escape}
use Rattle.fancy_regex_lex.specs.Quantifiers.{leading_quantifier}
use Rattle.fancy_regex_lex.specs.Openings.{Opening, if_matches}
use Rattle.fancy_regex_lex.specs.declared.token.Quantifier.{Quantifier}
use Rattle.fancy_regex_lex.specs.declared.token.Flags.{Flags}
use Rattle.fancy_regex_tree.specs.declared.parser_config.ParserConfig.{ParserConfig}
use Rattle.fancy_regex_tree.specs.Tree.{Tree, delegate}
use Rattle.fancy_regex_tree.specs.TreeBuilders.{pattern_of}
use Rattle.fancy_regex_tree.specs.Atoms.{place, char_tree, escape_tree}
use Rattle.fancy_regex_tree.specs.Quantifiers.{Atom}
use Rattle.fancy_regex_tree.specs.Parser as functions
use Rattle.fancy_regex_tree.specs.Parser.{Branches, AlternationParser, plain, is_empty_body, conditional_of_branches, ends_branch, parse_group_body, parse_group_expression, parse_expression_conditional, parse_group, parse_parenthesized, parse_bracketed_class, parse_simple_atom, as_atom, parse_atom, parse_piece, parse_branch, branches, parse_alternation, inner_parser}
use Rattle.fancy_regex_lex_grammar.specs.Exact.{FailsAt, at}
use Rattle.fancy_regex_lex_grammar.specs.Layout.{IsSkipped, LayoutFails}
use Rattle.fancy_regex_lex_grammar.specs.Counts.{IsQuantifier, optional, any_number, one_or_more, counted}
use Rattle.fancy_regex_lex_grammar.specs.Escapes.{IsEscape, EscapeFails}
use Rattle.fancy_regex_lex_grammar.specs.Classes.{IsClass, ClassFails}
use Rattle.fancy_regex_lex_grammar.specs.Openings.{IsOpening, OpeningFails}
use Rattle.fancy_regex_lex_grammar.proofs.PrefixProofs.{word_lacks}
use Rattle.fancy_regex_lex_grammar.proofs.LayoutProofs.{skip_is_exact}
use Rattle.fancy_regex_lex_grammar.proofs.EscapeProofs.{escapes_are_exact}
use Rattle.fancy_regex_lex_grammar.proofs.ClassProofs.{classes_are_exact}
use Rattle.fancy_regex_lex_grammar.proofs.OpeningProofs.{openings_are_exact}
use Rattle.fancy_regex_lex_grammar.proofs.CountProofs as counts
use Rattle.fancy_regex_grammar.specs.Quantifiers.{NoQuantifier}
use Rattle.fancy_regex_grammar.specs.Patterns.{EndsBranch, at_end, at_bar, at_close}
use Rattle.fancy_regex_grammar.specs.Faults.{HasBody, in_group, under_flags, in_atomic_group, in_look_around, after_reference, in_condition, in_definitions, in_repeater, in_bounds, NoClosing}
use Rattle.fancy_regex_grammar.proofs.QuantifierProofs.{none_found}
use Rattle.fancy_regex_grammar.proofs.Soundness.{after_condition, as_tree, as_plain}

pub ok_tree : {B : Type 0} (p : ParserConfig) (r : ParseOutcome (Branches × Flags × Text)) (next : Tree × Flags × Text → ParseOutcome B) {x : Branches × Flags × Text} →
    r ≡ Ok x → ((r >>= as_tree p) >>= next) ≡ next (pattern_of x.0, x.1, x.2)
ok_tree p r next h = ap (λ y. (y >>= as_tree p) >>= next) h

pub ok_body : {A B : Type 0} (r : ParseOutcome A) (next : A → ParseOutcome B) {x : A} → r ≡ Ok x → (r >>= next) ≡ next x
ok_body r next h = ap (λ y. y >>= next) h

pub err_tree : {B : Type 0} (p : ParserConfig) (r : ParseOutcome (Branches × Flags × Text)) (next : Tree × Flags × Text → ParseOutcome B) {e : ParseFault} →
    r ≡ Err e → ((r >>= as_tree p) >>= next) ≡ Err e
err_tree p r next h = ap (λ y. (y >>= as_tree p) >>= next) h

pub err_body : {A B : Type 0} (r : ParseOutcome A) (next : A → ParseOutcome B) {e : ParseFault} → r ≡ Err e → (r >>= next) ≡ Err e
err_body r next h = ap (λ y. y >>= next) h

pub ends_there : {t : Text} → EndsBranch t → ends_branch t ≡ true
ends_there at_end = refl
ends_there at_bar = refl
ends_there at_close = refl

-- the tests of a character that stands for itself
record IsOther (c : ℕ) : Type 0 where
  opening : (c == 0x28) ≡ false
  bracket : (c == 0x5B) ≡ false
  backslash : (c == 0x5C) ≡ false
  dot : (c == 0x2E) ≡ false
  caret : (c == 0x5E) ≡ false
  dollar : (c == 0x24) ≡ false
  ends : (c ∈ "|)") ≡ false

other_of : (c : ℕ) → c ∈ "([\\.^$|)" ≡ false → IsOther c
other_of c n =
    let (h0, n0) = or_parts (c == 0x28) (c ∈ "[\\.^$|)") n in
    let (h1, n1) = or_parts (c == 0x5B) (c ∈ "\\.^$|)") n0 in
    let (h2, n2) = or_parts (c == 0x5C) (c ∈ ".^$|)") n1 in
    let (h3, n3) = or_parts (c == 0x2E) (c ∈ "^$|)") n2 in
    let (h4, n4) = or_parts (c == 0x5E) (c ∈ "$|)") n3 in
    let (h5, n5) = or_parts (c == 0x24) (c ∈ "|)") n4 in
    record { opening = h0; bracket = h1; backslash = h2; dot = h3; caret = h4; dollar = h5; ends = n5 }

pub other_goes_on : (c : ℕ) (t : Text) → c ∈ "([\\.^$|)" ≡ false → ends_branch (c ∷ t) ≡ false
other_goes_on c t n = (other_of c n).ends

pub quantifier_goes_on : {verbose : Bool} {t rest : Text} {count : Quantifier} → IsQuantifier verbose t count rest → ends_branch t ≡ false
quantifier_goes_on optional = refl
quantifier_goes_on any_number = refl
quantifier_goes_on one_or_more = refl
quantifier_goes_on (counted b) = refl

module _ (p : ParserConfig) where
  abbrev atom_from : Flags → ParseOutcome (Tree × Text) → ParseOutcome (Atom × Flags × Text)
  atom_from f r = r >>= λ found. Ok (as_atom p f found)

  pub class_read : (inner : Option AlternationParser) (in_look : Bool) (f : Flags) {t text rest : Text} → IsClass p.oniguruma t text rest →
      parse_atom p inner in_look f (0x5B ∷ t) ≡ Ok (plain (delegate text f.casei), f, rest)
  unfolding parse_atom parse_simple_atom parse_bracketed_class
  class_read inner in_look f {t} {text} {rest} c =
      ap (λ r. atom_from f (r >>= λ x. Ok (delegate x.0 f.casei, x.1))) ((classes_are_exact p.oniguruma t).complete (text, rest) c)

  pub class_stopped : (inner : Option AlternationParser) (in_look : Bool) (f : Flags) {t : Text} {e : ParseFault} → ClassFails p.oniguruma t e →
      parse_atom p inner in_look f (0x5B ∷ t) ≡ Err e
  unfolding parse_atom parse_simple_atom parse_bracketed_class
  class_stopped inner in_look f {t} {e} s =
      ap (λ r. atom_from f (r >>= λ x. Ok (delegate x.0 f.casei, x.1))) ((classes_are_exact p.oniguruma t).fault_is_complete e s)

  pub escape_read : (inner : Option AlternationParser) (in_look : Bool) (f : Flags) {t rest : Text} {e : Escape} → IsEscape p.oniguruma t e rest →
      parse_atom p inner in_look f (0x5C ∷ t) ≡ Ok (plain (escape_tree p f (place p (0x5C ∷ t)) e), f, rest)
  unfolding parse_atom parse_simple_atom functions.parse_escape
  escape_read inner in_look f {t} {rest} {e} h =
      ap (λ r. atom_from f (r >>= λ x. Ok (escape_tree p f (place p (0x5C ∷ t)) x.0, x.1))) ((escapes_are_exact p.oniguruma t).complete (e, rest) h)

  pub escape_stopped : (inner : Option AlternationParser) (in_look : Bool) (f : Flags) {t : Text} {e : ParseFault} → FailsAt (EscapeFails p.oniguruma t) (0x5C ∷ t) e →
      parse_atom p inner in_look f (0x5C ∷ t) ≡ Err e
  unfolding parse_atom parse_simple_atom functions.parse_escape
  escape_stopped inner in_look f {t} {e} s =
      ap (λ r. atom_from f (r >>= λ x. Ok (escape_tree p f (place p (0x5C ∷ t)) x.0, x.1))) ((escapes_are_exact p.oniguruma t).fault_is_complete e s)

  -- any other character is looked at for a quantifier
  other_reached : (inner : Option AlternationParser) (in_look : Bool) (f : Flags) (c : ℕ) (t : Text) → IsOther c →
      parse_atom p inner in_look f (c ∷ t) ≡ atom_from f (functions.parse_character f c t)
  unfolding parse_atom parse_simple_atom
  other_reached inner in_look f c t o =
      ap (λ b. cond b (parse_parenthesized p inner in_look f (c ∷ t)) (atom_from f (parse_simple_atom p in_look f c t))) o.opening
      ∙ ap (atom_from f) (rw (parse_simple_atom, o.bracket, o.backslash, o.dot, o.caret, o.dollar) refl)

  pub character_read : (inner : Option AlternationParser) (in_look : Bool) (f : Flags) (c : ℕ) (t : Text) → c ∈ "([\\.^$|)" ≡ false → NoQuantifier f.verbose (c ∷ t) →
      parse_atom p inner in_look f (c ∷ t) ≡ Ok (plain (char_tree f c), f, t)
  unfolding functions.parse_character
  character_read inner in_look f c t h n =
      other_reached inner in_look f c t (other_of c h)
      ∙ ap (λ o. atom_from f (if is_some o then fail_at target_not_repeatable (c ∷ t) else Ok (char_tree f c, t))) (none_found f.verbose (c ∷ t) n)

  pub no_atom_stopped : (inner : Option AlternationParser) (in_look : Bool) (f : Flags) {t rest : Text} {count : Quantifier} → IsQuantifier f.verbose t count rest →
      parse_atom p inner in_look f t ≡ Err (at target_not_repeatable t)
  unfolding functions.parse_character
  no_atom_stopped inner in_look f {t} {rest} {count} q = by_sign q ((counts.quantifiers_are_exact f.verbose t).complete (count, rest) q)
    where
      here_stops : (c : ℕ) (u : Text) → c ∈ "([\\.^$|)" ≡ false → leading_quantifier f.verbose (c ∷ u) ≡ Some (count, rest) →
          parse_atom p inner in_look f (c ∷ u) ≡ Err (at target_not_repeatable (c ∷ u))
      here_stops c u h k =
          other_reached inner in_look f c u (other_of c h)
          ∙ ap (λ o. atom_from f (if is_some o then fail_at target_not_repeatable (c ∷ u) else Ok (char_tree f c, u))) k

      by_sign : {s after : Text} {q : Quantifier} → IsQuantifier f.verbose s q after → leading_quantifier f.verbose s ≡ Some (count, rest) →
          parse_atom p inner in_look f s ≡ Err (at target_not_repeatable s)
      by_sign (optional {t}) k = here_stops 0x3F t refl k
      by_sign (any_number {t}) k = here_stops 0x2A t refl k
      by_sign (one_or_more {t}) k = here_stops 0x2B t refl k
      by_sign (counted {t} b) k = here_stops 0x7B t refl k

  -- parentheses

  pub opened : (n : ℕ) (in_look : Bool) (f : Flags) {t inside : Text} {how : Opening} → IsOpening p.unicode f t how inside →
      parse_atom p (inner_parser p (suc n)) in_look f (0x28 ∷ t) ≡ parse_group p (parse_alternation p n) in_look (0x28 ∷ t) f how inside
  unfolding parse_atom parse_parenthesized
  opened n in_look f {t} {inside} {how} o =
      ap (λ r. r >>= λ x. parse_group p (parse_alternation p n) in_look (0x28 ∷ t) f x.0 x.1) ((openings_are_exact p.unicode f t).complete (how, inside) o)

  pub opening_stopped : (n : ℕ) (in_look : Bool) (f : Flags) {t : Text} {e : ParseFault} → OpeningFails p.unicode f (0x28 ∷ t) t e →
      parse_atom p (inner_parser p (suc n)) in_look f (0x28 ∷ t) ≡ Err e
  unfolding parse_atom parse_parenthesized
  opening_stopped n in_look f {t} {e} s =
      ap (λ r. r >>= λ x. parse_group p (parse_alternation p n) in_look (0x28 ∷ t) f x.0 x.1) ((openings_are_exact p.unicode f t).fault_is_complete e s)

  pub none_inside : (in_look : Bool) (f : Flags) (t : Text) → parse_atom p (inner_parser p zero) in_look f (0x28 ∷ t) ≡ Err (at recursion_exceeded (0x28 ∷ t))
  unfolding parse_atom parse_parenthesized
  none_inside in_look f t = refl

  abbrev closing : Branches × Flags × Text → ParseOutcome (Branches × Flags × Text)
  closing x = elim (strip_prefix (codes ")") x.2) [ None ↦ fail_at unclosed_open_paren [] | Some after ↦ Ok (x.0, x.1, after) ]

  pub closed_read : (inner : AlternationParser) (in_look : Bool) (f : Flags) (t : Text) {g : Flags} {rest : Text} {body : Branches} →
      inner in_look f t ≡ Ok (body, g, 0x29 ∷ rest) → parse_group_body p inner in_look f t ≡ Ok (body, g, rest)
  unfolding parse_group_body strip_prefix
  closed_read inner in_look f t h = ap (λ r. r >>= closing) h

  pub closed_stops : (inner : AlternationParser) (in_look : Bool) (f : Flags) (t : Text) {e : ParseFault} → inner in_look f t ≡ Err e → parse_group_body p inner in_look f t ≡ Err e
  unfolding parse_group_body
  closed_stops inner in_look f t h = ap (λ r. r >>= closing) h

  pub closed_lacks : (inner : AlternationParser) (in_look : Bool) (f : Flags) (t : Text) {g : Flags} {rest : Text} {body : Branches} →
      inner in_look f t ≡ Ok (body, g, rest) → NoClosing rest → parse_group_body p inner in_look f t ≡ Err (at unclosed_open_paren [])
  unfolding parse_group_body
  closed_lacks inner in_look f t {g} {rest} {body} h n =
      ap (λ r. r >>= closing) h ∙ ap (λ o. elim o [ None ↦ fail_at unclosed_open_paren [] | Some after ↦ Ok (body, g, after) ]) (word_lacks (codes ")") rest n)

  -- where the inside of a construct stops, the construct does
  pub construct_stops : {in_look look_inside : Bool} {f g : Flags} {how : Opening} (inner : AlternationParser) (here t : Text) {e : ParseFault} → HasBody in_look f how look_inside g →
      parse_group_body p inner look_inside g t ≡ Err e → parse_group p inner in_look here f how t ≡ Err e
  unfolding parse_group parse_group_expression parse_expression_conditional
  construct_stops inner here t in_group h = err_tree p _ _ h
  construct_stops inner here t under_flags h = err_tree p _ _ h
  construct_stops inner here t in_atomic_group h = err_tree p _ _ h
  construct_stops inner here t in_look_around h = err_tree p _ _ h
  construct_stops inner here t after_reference h = err_body _ _ h
  construct_stops inner here t in_condition h = err_body _ _ (err_tree p _ _ h)
  construct_stops inner here t in_definitions h = err_tree p _ _ h
  construct_stops inner here t in_repeater h = err_tree p _ _ h
  construct_stops inner here t in_bounds h = err_body _ _ h

  -- after an expression as condition
  pub condition_then : (inner : AlternationParser) (in_look : Bool) (here : Text) (f : Flags) (t : Text) {g : Flags} {between : Text} {c : Branches} →
      parse_group_body p inner in_look f t ≡ Ok (c, g, between) →
      parse_group p inner in_look here f if_matches t ≡ ((parse_group_body p inner in_look g between >>= after_condition p here (pattern_of c)) >>= as_plain p)
  unfolding parse_group parse_group_expression parse_expression_conditional
  condition_then inner in_look here f t h = ap (λ r. r >>= as_plain p) (ok_tree p _ _ h)

  pub branches_there : (here : Text) (c : Tree) (r : ParseOutcome (Branches × Flags × Text)) {body : Branches} {h : Flags} {rest : Text} →
      r ≡ Ok (body, h, rest) → is_empty_body body ≡ false → ((r >>= after_condition p here c) >>= as_plain p) ≡ Ok (plain (conditional_of_branches c body), h, rest)
  branches_there here c r {body} {h} {rest} e k =
      ap (λ y. (y >>= after_condition p here c) >>= as_plain p) e
      ∙ ap (λ b. (if b then fail_at (general_parse_error (codes "condition without branches")) here else Ok (conditional_of_branches c body, h, rest)) >>= as_plain p) k

  pub no_branches : (here : Text) (c : Tree) (r : ParseOutcome (Branches × Flags × Text)) {body : Branches} {h : Flags} {rest : Text} →
      r ≡ Ok (body, h, rest) → is_empty_body body ≡ true →
      ((r >>= after_condition p here c) >>= as_plain p) ≡ Err (at (general_parse_error (codes "condition without branches")) here)
  no_branches here c r {body} {h} {rest} e k =
      ap (λ y. (y >>= after_condition p here c) >>= as_plain p) e
      ∙ ap (λ b. (if b then fail_at (general_parse_error (codes "condition without branches")) here else Ok (conditional_of_branches c body, h, rest)) >>= as_plain p) k

  pub body_stopped : (here : Text) (c : Tree) (r : ParseOutcome (Branches × Flags × Text)) {e : ParseFault} →
      r ≡ Err e → ((r >>= after_condition p here c) >>= as_plain p) ≡ Err e
  body_stopped here c r h = ap (λ y. (y >>= after_condition p here c) >>= as_plain p) h

  -- pieces

  pub skip_read : {verbose : Bool} {t here : Text} → IsSkipped verbose t here → skip verbose t ≡ Ok here
  skip_read {verbose} {t} {here} s = (skip_is_exact verbose t).complete here s

  abbrev after_layout : Option AlternationParser → ℕ → Bool → Flags → Text → ParseOutcome (List Tree × Flags × Text)
  after_layout inner m in_look f here =
      if ends_branch here then Ok ([], f, here) else (parse_piece p inner in_look f here >>= λ x. parse_branch p inner m in_look x.1 x.2 >>= λ y. Ok (x.0 ∷ y.0, y.1, y.2))

  pub layout_stopped : (inner : Option AlternationParser) (m : ℕ) (in_look : Bool) (f : Flags) {t : Text} {e : ParseFault} → LayoutFails f.verbose t e →
      parse_branch p inner (suc m) in_look f t ≡ Err e
  unfolding parse_branch
  layout_stopped inner m in_look f {t} {e} s = ap (λ r. r >>= after_layout inner m in_look f) ((skip_is_exact f.verbose t).fault_is_complete e s)

  pub pieces_end : (inner : Option AlternationParser) (m : ℕ) (in_look : Bool) (f : Flags) {t here : Text} → IsSkipped f.verbose t here → EndsBranch here →
      parse_branch p inner (suc m) in_look f t ≡ Ok ([], f, here)
  unfolding parse_branch
  pieces_end inner m in_look f {t} {here} s e =
      ap (λ r. r >>= after_layout inner m in_look f) (skip_read s)
      ∙ ap (λ b. if b then Ok ([], f, here) else (parse_piece p inner in_look f here >>= λ x. parse_branch p inner m in_look x.1 x.2 >>= λ y. Ok (x.0 ∷ y.0, y.1, y.2)))
      (ends_there e)

  pub pieces_go_on : (inner : Option AlternationParser) (m : ℕ) (in_look : Bool) (f : Flags) {t here : Text} → IsSkipped f.verbose t here → ends_branch here ≡ false →
      parse_branch p inner (suc m) in_look f t ≡ (parse_piece p inner in_look f here >>= λ x. parse_branch p inner m in_look x.1 x.2 >>= λ y. Ok (x.0 ∷ y.0, y.1, y.2))
  unfolding parse_branch
  pieces_go_on inner m in_look f {t} {here} s e =
      ap (λ r. r >>= after_layout inner m in_look f) (skip_read s)
      ∙ ap (λ b. if b then Ok ([], f, here) else (parse_piece p inner in_look f here >>= λ x. parse_branch p inner m in_look x.1 x.2 >>= λ y. Ok (x.0 ∷ y.0, y.1, y.2))) e

  -- branches

  abbrev pub after_branch : Option AlternationParser → ℕ → Bool → List Tree × Flags × Text → ParseOutcome (Branches × Flags × Text)
  after_branch inner m in_look x =
      elim (strip_prefix (codes "|") x.2) [
        | None ↦ Ok (x.0 ∷ [], x.1, x.2)
        | Some next ↦ branches p inner m in_look x.1 next >>= λ y. Ok (x.0 ∷ y.0, y.1, y.2)
      ]

  pub branch_then : (inner : Option AlternationParser) (m : ℕ) (in_look : Bool) (f : Flags) (t : Text) {r : ParseOutcome (List Tree × Flags × Text)} →
      parse_branch p inner (length t + 1) in_look f t ≡ r → branches p inner (suc m) in_look f t ≡ (r >>= after_branch inner m in_look)
  unfolding branches
  branch_then inner m in_look f t h = ap (λ r. r >>= after_branch inner m in_look) h

  pub no_bar : (inner : Option AlternationParser) (m : ℕ) (in_look : Bool) {g : Flags} {rest : Text} {branch : List Tree} → ((u : Text) → rest ≢ 0x7C ∷ u) →
      after_branch inner m in_look (branch, g, rest) ≡ Ok (branch ∷ [], g, rest)
  no_bar inner m in_look {g} {rest} {branch} n =
      ap (λ o. elim o [ None ↦ Ok (branch ∷ [], g, rest) | Some next ↦ branches p inner m in_look g next >>= λ y. Ok (branch ∷ y.0, y.1, y.2) ])
      (word_lacks (codes "|") rest n)
