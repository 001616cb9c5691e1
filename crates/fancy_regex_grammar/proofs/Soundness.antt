-- What the functions read, or where they stop, the relations have.
use Rattle.std.proofs.Common.{◌≡◌, ℕ, zero, suc, ◌+◌, ◌<◌, Bool, true, false, ◌==◌, Option, Some, None, is_some, Ok, Err, List, [], ◌∷◌, length, codes, refl, subst, true≢false, not-suc-le-zero, arith, if◌then◌else◌, ⊎_elim}
use Rattle.std.proofs.lemmas.Bool.{or_cases, or_parts}
use Rattle.fancy_regex_text.specs.Text.{Text, ◌∈◌, strip_prefix}
use Rattle.fancy_regex_text.specs.ParseFault.{ParseFault, ParseOutcome, ◌>>=◌, fail_at, general_parse_error, unclosed_open_paren, target_not_repeatable}
use Rattle.fancy_regex_text.specs.Layout.{skip}
use Rattle.fancy_regex_lex.specs.Escapes.{escape}
use Rattle.fancy_regex_lex.specs.Classes.{bracketed_class}
use Rattle.fancy_regex_lex.specs.Quantifiers.{leading_quantifier, most_quantifiers}
use Rattle.fancy_regex_lex.specs.Openings.{Opening, capturing, non_capturing, set_flags, atomic, look, if_set, if_matches, define, absent, absent_bar, whole_reference, whole_call, whole_verb, opening}
use Rattle.fancy_regex_lex.specs.declared.token.Quantifier.{Quantifier}
use Rattle.fancy_regex_lex.specs.declared.token.Flags.{Flags}
use Rattle.fancy_regex_tree.specs.declared.parser_config.ParserConfig.{ParserConfig}
use Rattle.fancy_regex_tree.specs.Tree.{Tree, any, ast_condition}
use Rattle.fancy_regex_tree.specs.TreeBuilders.{pattern_of}
use Rattle.fancy_regex_tree.specs.Atoms.{place, target_named, char_tree, line_start, line_end}
use Rattle.fancy_regex_tree.specs.Quantifiers.{Atom, parse_quantifiers}
use Rattle.fancy_regex_tree.specs.Parser as functions
use Rattle.fancy_regex_tree.specs.Parser.{Branches, AlternationParser, plain, is_empty_body, conditional_of_branches, make_conditional, absent_bar_of, ends_branch, parse_group_body, parse_group_expression, parse_expression_conditional, parse_group, parse_parenthesized, parse_bracketed_class, parse_simple_atom, as_atom, parse_atom, parse_piece, parse_branch, branches, parse_alternation}
use Rattle.fancy_regex_lex_grammar.specs.Exact.{at}
use Rattle.fancy_regex_lex_grammar.specs.Layout.{IsSkipped}
use Rattle.fancy_regex_lex_grammar.specs.Openings.{IsOpening}
use Rattle.fancy_regex_lex_grammar.proofs.ReadingLemmas.{at_char, Meant, is_read, is_stopped, if_meant, bind_meant}
use Rattle.fancy_regex_lex_grammar.proofs.PrefixProofs.{word_case}
use Rattle.fancy_regex_lex_grammar.proofs.LayoutProofs.{skip_is_exact}
use Rattle.fancy_regex_lex_grammar.proofs.EscapeProofs.{escapes_are_exact}
use Rattle.fancy_regex_lex_grammar.proofs.ClassProofs.{classes_are_exact}
use Rattle.fancy_regex_lex_grammar.proofs.OpeningProofs.{openings_are_exact}
use Rattle.fancy_regex_lex_grammar.proofs.CountProofs as counts
use Rattle.fancy_regex_grammar.specs.Patterns.{EndsBranch, at_end, at_bar, at_close, IsAtom, dot, caret, dollar, a_class, escaped, character, capturing_group, bare_group, flag_setting, an_atomic_group, a_look_around, bare_condition, if_reference, if_expression, definitions, an_absent_repeater, absent_bounds, a_reference, a_call, a_verb, IsPiece, with_quantifiers, IsBranch, no_more_pieces, and_piece, IsBranches, last_branch, and_branch}
use Rattle.fancy_regex_grammar.specs.Faults.{HasBody, in_group, under_flags, in_atomic_group, in_look_around, after_reference, in_condition, in_definitions, in_repeater, in_bounds, NoClosing, AtomFails, class_stops, escape_stops, no_atom, too_deep, opening_stops, inside_stops, unclosed, body_stops, body_unclosed, without_branches, PieceFails, atom_stops, quantifiers_stop, BranchFails, layout_stops, piece_stops, later_piece_stops, BranchesFail, first_stops, later_branch_stops}
use Rattle.fancy_regex_grammar.proofs.QuantifierProofs.{quantifiers_are_exact}
use Rattle.fancy_regex_grammar.proofs.LengthLemmas.{skipped_shorter, piece_shorter, branch_shorter}

-- a branch ends here
ends : (t : Text) → ends_branch t ≡ true → EndsBranch t
ends [] h = at_end
ends (c ∷ t) h =
    ⊎_elim (λ a. at_char c 0x7C (λ d. EndsBranch (d ∷ t)) a at_bar) (λ a. at_char c 0x29 (λ d. EndsBranch (d ∷ t)) a at_close)
    (or_cases (c == 0x7C) (c == 0x29) h)

module _ (p : ParserConfig) where
  -- what a reader of branches answers
  abbrev pub BranchesMean : ℕ → Bool → Flags → Text → ParseOutcome (Branches × Flags × Text) → Type 0
  BranchesMean n in_look f t = Meant (λ (r : Branches × Flags × Text). IsBranches p n in_look f t r.0 r.1 r.2) (BranchesFail p n in_look f t)

  abbrev pub InnerMeans : ℕ → AlternationParser → Type 0
  InnerMeans n inner = (in_look : Bool) (f : Flags) (t : Text) → BranchesMean n in_look f t (inner in_look f t)

  abbrev AtomMeans : ℕ → Bool → Flags → Text → ParseOutcome (Atom × Flags × Text) → Type 0
  AtomMeans n in_look f t = Meant (λ (r : Atom × Flags × Text). IsAtom p n in_look f t r.0 r.1 r.2) (AtomFails p n in_look f t)

  -- branches and the `)` after them; S is what stops the construct
  abbrev ClosedMeans : ℕ → Bool → Flags → Text → (ParseFault → Type 0) → ParseOutcome (Branches × Flags × Text) → Type 0
  ClosedMeans n in_look f t S = Meant (λ (r : Branches × Flags × Text). IsBranches p n in_look f t r.0 r.1 (0x29 ∷ r.2)) S

  closed_means : (n : ℕ) (inner : AlternationParser) → InnerMeans n inner → (in_look : Bool) (f : Flags) (t : Text) (S : ParseFault → Type 0) →
      ((e : ParseFault) → BranchesFail p n in_look f t e → S e) →
      ((body : Branches) (g : Flags) (rest : Text) → IsBranches p n in_look f t body g rest → NoClosing rest → S (at unclosed_open_paren [])) →
      ClosedMeans n in_look f t S (parse_group_body p inner in_look f t)
  unfolding parse_group_body
  closed_means n inner means in_look f t S stops open_end = by_inner (inner in_look f t) (means in_look f t)
    where
      by_inner : (r : ParseOutcome (Branches × Flags × Text)) → BranchesMean n in_look f t r →
          ClosedMeans n in_look f t S (r >>= λ x. elim (strip_prefix (codes ")") x.2) [ None ↦ fail_at unclosed_open_paren [] | Some after ↦ Ok (x.0, x.1, after) ])
      by_inner (Err e) (is_stopped s) = is_stopped (stops e s)
      by_inner (Ok x) (is_read b) =
          word_case (ClosedMeans n in_look f t S) (codes ")") x.2 (fail_at unclosed_open_paren []) (λ after. Ok (x.0, x.1, after))
          (λ rest is. is_read (subst (λ u. IsBranches p n in_look f t x.0 x.1 u) is b)) (λ lacks. is_stopped (open_end x.0 x.1 x.2 b lacks))

  -- the inside of a construct
  inside_means : {n : ℕ} {in_look look_inside : Bool} {f g : Flags} {t inside : Text} {how : Opening} (inner : AlternationParser) → InnerMeans n inner →
      IsOpening p.unicode f t how inside → HasBody in_look f how look_inside g →
      ClosedMeans n look_inside g inside (AtomFails p (suc n) in_look f (0x28 ∷ t)) (parse_group_body p inner look_inside g inside)
  inside_means {n} {in_look} {look_inside} {f} {g} {t} {inside} inner means o h =
      closed_means n inner means look_inside g inside (AtomFails p (suc n) in_look f (0x28 ∷ t)) (λ e s. inside_stops o h s)
      (λ body k rest b lacks. unclosed o h b lacks)

  -- what is made of a body
  body_then : {n : ℕ} {in_look look_inside : Bool} {f g : Flags} {t inside : Text} (r : ParseOutcome (Branches × Flags × Text))
      (make : Branches × Flags × Text → ParseOutcome (Atom × Flags × Text)) → ClosedMeans n look_inside g inside (AtomFails p (suc n) in_look f (0x28 ∷ t)) r →
      ((x : Branches × Flags × Text) → IsBranches p n look_inside g inside x.0 x.1 (0x29 ∷ x.2) → AtomMeans (suc n) in_look f (0x28 ∷ t) (make x)) →
      AtomMeans (suc n) in_look f (0x28 ∷ t) (r >>= make)
  body_then (Ok x) make (is_read b) h = h x b
  body_then (Err e) make (is_stopped s) h = is_stopped s

  -- a body as one tree
  tree_then : {n : ℕ} {in_look look_inside : Bool} {f g : Flags} {t inside : Text} (r : ParseOutcome (Branches × Flags × Text))
      (make : Tree × Flags × Text → ParseOutcome (Atom × Flags × Text)) → ClosedMeans n look_inside g inside (AtomFails p (suc n) in_look f (0x28 ∷ t)) r →
      ((x : Branches × Flags × Text) → IsBranches p n look_inside g inside x.0 x.1 (0x29 ∷ x.2) → AtomMeans (suc n) in_look f (0x28 ∷ t) (make (pattern_of x.0, x.1, x.2))) →
      AtomMeans (suc n) in_look f (0x28 ∷ t) ((r >>= λ x. Ok (pattern_of x.0, x.1, x.2)) >>= make)
  tree_then (Ok x) make (is_read b) h = h x b
  tree_then (Err e) make (is_stopped s) h = is_stopped s

  -- what is made of the body after a condition
  abbrev pub after_condition : Text → Tree → Branches × Flags × Text → ParseOutcome (Tree × Flags × Text)
  after_condition here c x =
      if is_empty_body x.0 then fail_at (general_parse_error (codes "condition without branches")) here else Ok (conditional_of_branches c x.0, x.1, x.2)

  abbrev pub as_tree : Branches × Flags × Text → ParseOutcome (Tree × Flags × Text)
  as_tree x = Ok (pattern_of x.0, x.1, x.2)

  abbrev pub as_plain : Tree × Flags × Text → ParseOutcome (Atom × Flags × Text)
  as_plain x = Ok (plain x.0, x.1, x.2)

  -- an expression as condition, and a body
  expression_means : {n : ℕ} {in_look : Bool} {f : Flags} {t inside : Text} (inner : AlternationParser) → InnerMeans n inner →
      IsOpening p.unicode f t if_matches inside →
      AtomMeans (suc n) in_look f (0x28 ∷ t) (parse_expression_conditional p inner in_look (0x28 ∷ t) f inside >>= as_plain)
  unfolding parse_expression_conditional parse_group_expression
  expression_means {n} {in_look} {f} {t} {inside} inner means o = by_condition (parse_group_body p inner in_look f inside) (inside_means inner means o in_condition)
    where
      Stops : ParseFault → Type 0
      Stops = AtomFails p (suc n) in_look f (0x28 ∷ t)

      by_body : (c : Branches) (g : Flags) (between : Text) → IsBranches p n in_look f inside c g (0x29 ∷ between) → (r : ParseOutcome (Branches × Flags × Text)) →
          ClosedMeans n in_look g between Stops r →
          AtomMeans (suc n) in_look f (0x28 ∷ t) ((r >>= after_condition (0x28 ∷ t) (pattern_of c)) >>= as_plain)
      by_body c g between b (Err e) (is_stopped s) = is_stopped s
      by_body c g between b (Ok x) (is_read d) = by_nothing (is_empty_body x.0) refl
        where
          by_nothing : (k : Bool) → is_empty_body x.0 ≡ k →
              AtomMeans (suc n) in_look f (0x28 ∷ t) ((if k then fail_at (general_parse_error (codes "condition without branches")) (0x28 ∷ t)
              else Ok (conditional_of_branches (pattern_of c) x.0, x.1, x.2)) >>= as_plain)
          by_nothing true h = is_stopped (without_branches o b d h)
          by_nothing false h = is_read (if_expression o b d h)

      by_condition : (r : ParseOutcome (Branches × Flags × Text)) → ClosedMeans n in_look f inside Stops r →
          AtomMeans (suc n) in_look f (0x28 ∷ t) (((r >>= as_tree) >>= λ c. parse_group_body p inner in_look c.1 c.2 >>= after_condition (0x28 ∷ t) c.0) >>= as_plain)
      by_condition (Err e) (is_stopped s) = is_stopped s
      by_condition (Ok c) (is_read b) =
          by_body c.0 c.1 c.2 b (parse_group_body p inner in_look c.1 c.2)
          (closed_means n inner means in_look c.1 c.2 Stops (λ e s. body_stops o b s) (λ body k rest d lacks. body_unclosed o b d lacks))

  -- the rest of a construct, by what its parenthesis opens
  construct_means : (n : ℕ) (inner : AlternationParser) → InnerMeans n inner → (in_look : Bool) (f : Flags) (t inside : Text) (how : Opening) →
      IsOpening p.unicode f t how inside → AtomMeans (suc n) in_look f (0x28 ∷ t) (parse_group p inner in_look (0x28 ∷ t) f how inside)
  unfolding parse_group parse_group_expression
  construct_means n inner means in_look f t inside (capturing name) o =
      tree_then (parse_group_body p inner in_look f inside) _ (inside_means inner means o in_group) (λ x b. is_read (capturing_group o b))
  construct_means n inner means in_look f t inside (non_capturing changed) o =
      tree_then (parse_group_body p inner in_look changed inside) _ (inside_means inner means o under_flags) (λ x b. is_read (bare_group o b))
  construct_means n inner means in_look f t inside (set_flags changed) o = is_read (flag_setting o)
  construct_means n inner means in_look f t inside atomic o =
      tree_then (parse_group_body p inner in_look f inside) _ (inside_means inner means o in_atomic_group) (λ x b. is_read (an_atomic_group o b))
  construct_means n inner means in_look f t inside (look k) o =
      tree_then (parse_group_body p inner true f inside) _ (inside_means inner means o in_look_around) (λ x b. is_read (a_look_around o b))
  construct_means n inner means in_look f t inside (if_set target level) o =
      body_then (parse_group_body p inner in_look f inside) _ (inside_means inner means o after_reference) (λ x b. by_nothing x b (is_empty_body x.0) refl)
    where
      by_nothing : (x : Branches × Flags × Text) → IsBranches p n in_look f inside x.0 x.1 (0x29 ∷ x.2) → (k : Bool) → is_empty_body x.0 ≡ k →
          let c = ast_condition (target_named target) level (place p (0x28 ∷ t)) in
          AtomMeans (suc n) in_look f (0x28 ∷ t) (Ok (plain (if k then c else conditional_of_branches c x.0), x.1, x.2))
      by_nothing x b true h = is_read (bare_condition o b h)
      by_nothing x b false h = is_read (if_reference o b h)
  construct_means n inner means in_look f t inside if_matches o = expression_means inner means o
  construct_means n inner means in_look f t inside define o =
      tree_then (parse_group_body p inner in_look f inside) _ (inside_means inner means o in_definitions) (λ x b. is_read (definitions o b))
  construct_means n inner means in_look f t inside absent o =
      tree_then (parse_group_body p inner in_look f inside) _ (inside_means inner means o in_repeater) (λ x b. is_read (an_absent_repeater o b))
  construct_means n inner means in_look f t inside absent_bar o =
      body_then (parse_group_body p inner in_look f inside) _ (inside_means inner means o in_bounds) (λ x b. is_read (absent_bounds o b))
  construct_means n inner means in_look f t inside (whole_reference target level) o = is_read (a_reference o)
  construct_means n inner means in_look f t inside (whole_call target) o = is_read (a_call o)
  construct_means n inner means in_look f t inside (whole_verb v) o = is_read (a_verb o)

  -- the reader of what is inside, if there is one, is right one level further in
  abbrev pub Fits : ℕ → Option AlternationParser → Type 0
  Fits zero None = Unit {0}
  Fits zero (Some inner) = ⊥
  Fits (suc n) None = ⊥
  Fits (suc n) (Some inner) = InnerMeans n inner

  parenthesized_means : (n : ℕ) (inner : Option AlternationParser) → Fits n inner → (in_look : Bool) (f : Flags) (t : Text) →
      AtomMeans n in_look f (0x28 ∷ t) (parse_parenthesized p inner in_look f (0x28 ∷ t))
  unfolding parse_parenthesized
  parenthesized_means zero None fits in_look f t = is_stopped too_deep
  parenthesized_means zero (Some inner) fits in_look f t = absurd fits
  parenthesized_means (suc n) None fits in_look f t = absurd fits
  parenthesized_means (suc n) (Some inner) fits in_look f t =
      let exact = openings_are_exact p.unicode f t in
      bind_meant (opening p.unicode f (0x28 ∷ t)) _ (λ e h. opening_stops (exact.fault_is_sound e h))
      (λ o h. construct_means n inner fits in_look f t o.1 o.0 (exact.sound o h))

  abbrev SimpleMeans : ℕ → Bool → Flags → Text → ParseOutcome (Tree × Text) → Type 0
  SimpleMeans n in_look f t = Meant (λ (r : Tree × Text). IsAtom p n in_look f t (plain r.0) f r.1) (AtomFails p n in_look f t)

  bracketed_means : (n : ℕ) (in_look : Bool) (f : Flags) (t : Text) → SimpleMeans n in_look f (0x5B ∷ t) (parse_bracketed_class p f (0x5B ∷ t))
  unfolding parse_bracketed_class
  bracketed_means n in_look f t =
      let exact = classes_are_exact p.oniguruma t in
      bind_meant (bracketed_class p.oniguruma (0x5B ∷ t)) _ (λ e h. class_stops (exact.fault_is_sound e h)) (λ r h. is_read (a_class (exact.sound r h)))

  escaped_means : (n : ℕ) (in_look : Bool) (f : Flags) (t : Text) → SimpleMeans n in_look f (0x5C ∷ t) (functions.parse_escape p f (0x5C ∷ t))
  unfolding functions.parse_escape
  escaped_means n in_look f t =
      let exact = escapes_are_exact p.oniguruma t in
      bind_meant (escape p.oniguruma (0x5C ∷ t)) _ (λ e h. escape_stops (exact.fault_is_sound e h)) (λ r h. is_read (escaped (exact.sound r h)))

  character_means : (n : ℕ) (in_look : Bool) (f : Flags) (c : ℕ) (t : Text) → c ∈ "([\\.^$|)" ≡ false → SimpleMeans n in_look f (c ∷ t) (functions.parse_character f c t)
  unfolding functions.parse_character
  character_means n in_look f c t h = by_quantifier (leading_quantifier f.verbose (c ∷ t)) refl
    where
      by_quantifier : (o : Option (Quantifier × Text)) → leading_quantifier f.verbose (c ∷ t) ≡ o →
          SimpleMeans n in_look f (c ∷ t) (if is_some o then fail_at target_not_repeatable (c ∷ t) else Ok (char_tree f c, t))
      by_quantifier (Some q) e = is_stopped (no_atom ((counts.quantifiers_are_exact f.verbose (c ∷ t)).sound q e))
      by_quantifier None e = is_read (character h (λ count rest q. (counts.quantifiers_are_exact f.verbose (c ∷ t)).none e (count, rest) q))

  simple_means : (n : ℕ) (in_look : Bool) (f : Flags) (c : ℕ) (t : Text) → (c == 0x28) ≡ false → ends_branch (c ∷ t) ≡ false →
      SimpleMeans n in_look f (c ∷ t) (parse_simple_atom p in_look f c t)
  unfolding parse_simple_atom
  simple_means n in_look f c t h0 some =
      if_meant (c == 0x5B) _ _ (λ a. at_char c 0x5B (λ d. SimpleMeans n in_look f (d ∷ t) (parse_bracketed_class p f (d ∷ t))) a (bracketed_means n in_look f t)) (λ h1.
      if_meant (c == 0x5C) _ _ (λ a. at_char c 0x5C (λ d. SimpleMeans n in_look f (d ∷ t) (functions.parse_escape p f (d ∷ t))) a (escaped_means n in_look f t)) (λ h2.
      if_meant (c == 0x2E) _ _ (λ a. is_read (at_char c 0x2E (λ d. IsAtom p n in_look f (d ∷ t) (plain (any f.dot_newline f.crlf)) f t) a dot)) (λ h3.
      if_meant (c == 0x5E) _ _ (λ a. is_read (at_char c 0x5E (λ d. IsAtom p n in_look f (d ∷ t) (plain (line_start p f in_look)) f t) a caret)) (λ h4.
      if_meant (c == 0x24) _ _ (λ a. is_read (at_char c 0x24 (λ d. IsAtom p n in_look f (d ∷ t) (plain (line_end f)) f t) a dollar)) (λ h5.
      let (h6, h7) = or_parts (c == 0x7C) (c == 0x29) some in character_means n in_look f c t (simp (h0, h1, h2, h3, h4, h5, h6, h7)))))))

  atom_means : (n : ℕ) (inner : Option AlternationParser) → Fits n inner → (in_look : Bool) (f : Flags) (t : Text) → ends_branch t ≡ false →
      AtomMeans n in_look f t (parse_atom p inner in_look f t)
  unfolding parse_atom
  atom_means n inner fits in_look f [] some = absurd (true≢false some)
  atom_means n inner fits in_look f (c ∷ t) some =
      if_meant (c == 0x28) _ _
      (λ a. at_char c 0x28 (λ d. AtomMeans n in_look f (d ∷ t) (parse_parenthesized p inner in_look f (d ∷ t))) a (parenthesized_means n inner fits in_look f t))
      (λ a. as_atom_means (parse_simple_atom p in_look f c t) (simple_means n in_look f c t a some))
    where
      as_atom_means : (r : ParseOutcome (Tree × Text)) → SimpleMeans n in_look f (c ∷ t) r → AtomMeans n in_look f (c ∷ t) (r >>= λ found. Ok (as_atom p f found))
      as_atom_means (Ok x) (is_read h) = is_read h
      as_atom_means (Err e) (is_stopped s) = is_stopped s

  abbrev PieceMeans : ℕ → Bool → Flags → Text → ParseOutcome (Tree × Flags × Text) → Type 0
  PieceMeans n in_look f t = Meant (λ (r : Tree × Flags × Text). IsPiece p n in_look f t r.0 r.1 r.2) (PieceFails p n in_look f t)

  pub piece_means : (n : ℕ) (inner : Option AlternationParser) → Fits n inner → (in_look : Bool) (f : Flags) (t : Text) → ends_branch t ≡ false →
      PieceMeans n in_look f t (parse_piece p inner in_look f t)
  unfolding parse_piece
  piece_means n inner fits in_look f t some = by_atom (parse_atom p inner in_look f t) (atom_means n inner fits in_look f t some)
    where
      by_atom : (r : ParseOutcome (Atom × Flags × Text)) → AtomMeans n in_look f t r →
          PieceMeans n in_look f t (r >>= λ x. parse_quantifiers p x.1 (most_quantifiers p.oniguruma) x.0 x.2 >>= λ y. Ok (y.0, x.1, y.1))
      by_atom (Err e) (is_stopped s) = is_stopped (atom_stops s)
      by_atom (Ok x) (is_read a) =
          let exact = quantifiers_are_exact p x.1 (most_quantifiers p.oniguruma) x.0 x.2 in
          bind_meant (parse_quantifiers p x.1 (most_quantifiers p.oniguruma) x.0 x.2) _ (λ e h. quantifiers_stop a (exact.fault_is_sound e h))
          (λ y h. is_read (with_quantifiers a (exact.sound y h)))

  abbrev BranchMeans : ℕ → Bool → Flags → Text → ParseOutcome (List Tree × Flags × Text) → Type 0
  BranchMeans n in_look f t = Meant (λ (r : List Tree × Flags × Text). IsBranch p n in_look f t r.0 r.1 r.2) (BranchFails p n in_look f t)

  pub pieces_mean : (n : ℕ) (inner : Option AlternationParser) → Fits n inner → (m : ℕ) (in_look : Bool) (f : Flags) (t : Text) → length t < m →
      BranchMeans n in_look f t (parse_branch p inner m in_look f t)
  unfolding parse_branch
  pieces_mean n inner fits zero in_look f t k = absurd (not-suc-le-zero k)
  pieces_mean n inner fits (suc m) in_look f t k =
      let exact = skip_is_exact f.verbose t in
      bind_meant (skip f.verbose t) _ (λ e h. layout_stops (exact.fault_is_sound e h))
      (λ here h. by_end here (exact.sound here h) (λ g after l. pieces_mean n inner fits m in_look g after l) (ends_branch here) refl)
    where
      by_others : (here : Text) → IsSkipped f.verbose t here → (x : Tree × Flags × Text) → IsPiece p n in_look f here x.0 x.1 x.2 →
          (r : ParseOutcome (List Tree × Flags × Text)) → BranchMeans n in_look x.1 x.2 r →
          BranchMeans n in_look f t (r >>= λ y. Ok (x.0 ∷ y.0, y.1, y.2))
      by_others here s x q (Ok y) (is_read b) = is_read (and_piece s q b)
      by_others here s x q (Err e) (is_stopped b) = is_stopped (later_piece_stops s q b)

      by_piece : (here : Text) → IsSkipped f.verbose t here →
          ((g : Flags) (after : Text) → length after < m → BranchMeans n in_look g after (parse_branch p inner m in_look g after)) →
          (r : ParseOutcome (Tree × Flags × Text)) → PieceMeans n in_look f here r →
          BranchMeans n in_look f t (r >>= λ x. parse_branch p inner m in_look x.1 x.2 >>= λ y. Ok (x.0 ∷ y.0, y.1, y.2))
      by_piece here s more (Err e) (is_stopped h) = is_stopped (piece_stops s h)
      by_piece here s more (Ok x) (is_read q) =
          let a = skipped_shorter s in let b = piece_shorter p q in
          by_others here s x q (parse_branch p inner m in_look x.1 x.2) (more x.1 x.2 (omega (arith, a, b, k)))

      by_end : (here : Text) → IsSkipped f.verbose t here →
          ((g : Flags) (after : Text) → length after < m → BranchMeans n in_look g after (parse_branch p inner m in_look g after)) →
          (b : Bool) → ends_branch here ≡ b →
          BranchMeans n in_look f t (if b then Ok ([], f, here) else (parse_piece p inner in_look f here >>= λ x.
          parse_branch p inner m in_look x.1 x.2 >>= λ y. Ok (x.0 ∷ y.0, y.1, y.2)))
      by_end here s more true h = is_read (no_more_pieces s (ends here h))
      by_end here s more false h = by_piece here s more (parse_piece p inner in_look f here) (piece_means n inner fits in_look f here h)

  pub branches_mean : (n : ℕ) (inner : Option AlternationParser) → Fits n inner → (m : ℕ) (in_look : Bool) (f : Flags) (t : Text) → length t < m →
      BranchesMean n in_look f t (branches p inner m in_look f t)
  unfolding branches
  branches_mean n inner fits zero in_look f t k = absurd (not-suc-le-zero k)
  branches_mean n inner fits (suc m) in_look f t k =
      by_branch (λ g after l. branches_mean n inner fits m in_look g after l) (parse_branch p inner (length t + 1) in_look f t)
      (pieces_mean n inner fits (length t + 1) in_look f t (omega arith))
    where
      by_others : (x : List Tree × Flags × Text) (next : Text) → IsBranch p n in_look f t x.0 x.1 (0x7C ∷ next) →
          (r : ParseOutcome (Branches × Flags × Text)) → BranchesMean n in_look x.1 next r → BranchesMean n in_look f t (r >>= λ y. Ok (x.0 ∷ y.0, y.1, y.2))
      by_others x next b (Ok y) (is_read c) = is_read (and_branch b c)
      by_others x next b (Err e) (is_stopped c) = is_stopped (later_branch_stops b c)

      by_branch : ((g : Flags) (after : Text) → length after < m → BranchesMean n in_look g after (branches p inner m in_look g after)) →
          (r : ParseOutcome (List Tree × Flags × Text)) → BranchMeans n in_look f t r →
          BranchesMean n in_look f t (r >>= λ x. elim (strip_prefix (codes "|") x.2) [
            | None ↦ Ok (x.0 ∷ [], x.1, x.2)
            | Some next ↦ branches p inner m in_look x.1 next >>= λ y. Ok (x.0 ∷ y.0, y.1, y.2)
          ])
      by_branch more (Err e) (is_stopped s) = is_stopped (first_stops s)
      by_branch more (Ok x) (is_read b) =
          word_case (BranchesMean n in_look f t) (codes "|") x.2 (Ok (x.0 ∷ [], x.1, x.2)) (λ next. branches p inner m in_look x.1 next >>= λ y. Ok (x.0 ∷ y.0, y.1, y.2))
          (λ next is.
          let c = subst (λ u. IsBranch p n in_look f t x.0 x.1 u) is b in
          let l = branch_shorter p c in by_others x next c (branches p inner m in_look x.1 next) (more x.1 next (omega (arith, l, k))))
          (λ lacks. is_read (last_branch b lacks))

  pub nested_means : (n : ℕ) → InnerMeans n (parse_alternation p n)
  unfolding parse_alternation
  nested_means zero in_look f t = branches_mean zero None tt (length t + 1) in_look f t (omega arith)
  nested_means (suc n) in_look f t = branches_mean (suc n) (Some (parse_alternation p n)) (nested_means n) (length t + 1) in_look f t (omega arith)
