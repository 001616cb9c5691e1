-- Where parsing of atoms, pieces and branches fails: everything before parses, and one part fails.
use Rattle.std.specs.Prelude.{◌≡◌, ◌≢◌, ℕ, ℤ, zero, suc, Bool, true, false, List, [], ◌∷◌, Option, codes}
use Rattle.fancy_regex_text.specs.Text.{Text}
use Rattle.fancy_regex_text.specs.ParseFault.{ParseFault, general_parse_error, unclosed_open_paren, recursion_exceeded, target_not_repeatable}
use Rattle.fancy_regex_text.specs.Names.{Named}
use Rattle.fancy_regex_lex.specs.Quantifiers.{most_quantifiers}
use Rattle.fancy_regex_lex.specs.Openings.{Opening, capturing, non_capturing, atomic, look, if_set, if_matches, define, absent, absent_bar}
use Rattle.fancy_regex_lex.specs.declared.token.Quantifier.{Quantifier}
use Rattle.fancy_regex_lex.specs.declared.token.Flags.{Flags}
use Rattle.fancy_regex_lex.specs.declared.token.Look.{Look}
use Rattle.fancy_regex_tree.specs.declared.parser_config.ParserConfig.{ParserConfig}
use Rattle.fancy_regex_tree.specs.Tree.{Tree}
use Rattle.fancy_regex_tree.specs.Quantifiers.{Atom}
use Rattle.fancy_regex_tree.specs.Parser.{Branches, is_empty_body}
use Rattle.fancy_regex_lex_grammar.specs.Exact.{FailsAt, at}
use Rattle.fancy_regex_lex_grammar.specs.Layout.{IsSkipped, LayoutFails}
use Rattle.fancy_regex_lex_grammar.specs.Counts.{IsQuantifier}
use Rattle.fancy_regex_lex_grammar.specs.Escapes.{EscapeFails}
use Rattle.fancy_regex_lex_grammar.specs.Classes.{ClassFails}
use Rattle.fancy_regex_lex_grammar.specs.Openings.{IsOpening, OpeningFails}
use Rattle.fancy_regex_grammar.specs.Quantifiers.{QuantifiersFail}
use Rattle.fancy_regex_grammar.specs.Patterns.{IsAtom, IsPiece, IsBranch, IsBranches}

-- The opening has a body: whether the body is in a look-around, and the flags at its beginning.
pub data HasBody (in_look : Bool) (f : Flags) : Opening → Bool → Flags → Type 0 where
  in_group : {name : Option Text} → HasBody in_look f (capturing name) in_look f
  under_flags : {changed : Flags} → HasBody in_look f (non_capturing changed) in_look changed
  in_atomic_group : HasBody in_look f atomic in_look f
  in_look_around : {k : Look} → HasBody in_look f (look k) true f
  after_reference : {target : Named} {level : Option ℤ} → HasBody in_look f (if_set target level) in_look f
  in_condition : HasBody in_look f if_matches in_look f
  in_definitions : HasBody in_look f define in_look f
  in_repeater : HasBody in_look f absent in_look f
  in_bounds : HasBody in_look f absent_bar in_look f

-- the text does not begin with `)`
abbrev pub NoClosing : Text → Type 0
NoClosing t = (u : Text) → t ≢ 0x29 ∷ u

module _ (p : ParserConfig) where
  -- The arguments of each: how many more levels may nest, whether the position is in a look-around, the flags, the text, and the error.
  mutual
    pub data AtomFails : ℕ → Bool → Flags → Text → ParseFault → Type 0 where
      class_stops : {n : ℕ} {in_look : Bool} {f : Flags} {t : Text} {e : ParseFault} → ClassFails p.oniguruma t e → AtomFails n in_look f (0x5B ∷ t) e
      escape_stops : {n : ℕ} {in_look : Bool} {f : Flags} {t : Text} {e : ParseFault} → FailsAt (EscapeFails p.oniguruma t) (0x5C ∷ t) e →
          AtomFails n in_look f (0x5C ∷ t) e
      no_atom : {n : ℕ} {in_look : Bool} {f : Flags} {t rest : Text} {count : Quantifier} → IsQuantifier f.verbose t count rest →
          AtomFails n in_look f t (at target_not_repeatable t)
      too_deep : {in_look : Bool} {f : Flags} {t : Text} → AtomFails zero in_look f (0x28 ∷ t) (at recursion_exceeded (0x28 ∷ t))
      opening_stops : {n : ℕ} {in_look : Bool} {f : Flags} {t : Text} {e : ParseFault} → OpeningFails p.unicode f (0x28 ∷ t) t e →
          AtomFails (suc n) in_look f (0x28 ∷ t) e
      inside_stops : {n : ℕ} {in_look look : Bool} {f g : Flags} {t inside : Text} {how : Opening} {e : ParseFault} → IsOpening p.unicode f t how inside →
          HasBody in_look f how look g → BranchesFail n look g inside e → AtomFails (suc n) in_look f (0x28 ∷ t) e
      -- the closing parenthesis is missing
      unclosed : {n : ℕ} {in_look look : Bool} {f g h : Flags} {t inside rest : Text} {how : Opening} {body : Branches} →
          IsOpening p.unicode f t how inside → HasBody in_look f how look g → IsBranches p n look g inside body h rest → NoClosing rest →
          AtomFails (suc n) in_look f (0x28 ∷ t) (at unclosed_open_paren [])
      -- the branches of a conditional fail or are not terminated, after an expression as condition
      body_stops : {n : ℕ} {in_look : Bool} {f g : Flags} {t inside between : Text} {c : Branches} {e : ParseFault} → IsOpening p.unicode f t if_matches inside →
          IsBranches p n in_look f inside c g (0x29 ∷ between) → BranchesFail n in_look g between e → AtomFails (suc n) in_look f (0x28 ∷ t) e
      body_unclosed : {n : ℕ} {in_look : Bool} {f g h : Flags} {t inside between rest : Text} {c body : Branches} →
          IsOpening p.unicode f t if_matches inside → IsBranches p n in_look f inside c g (0x29 ∷ between) →
          IsBranches p n in_look g between body h rest → NoClosing rest → AtomFails (suc n) in_look f (0x28 ∷ t) (at unclosed_open_paren [])
      without_branches : {n : ℕ} {in_look : Bool} {f g h : Flags} {t inside between rest : Text} {c body : Branches} →
          IsOpening p.unicode f t if_matches inside → IsBranches p n in_look f inside c g (0x29 ∷ between) →
          IsBranches p n in_look g between body h (0x29 ∷ rest) → is_empty_body body ≡ true →
          AtomFails (suc n) in_look f (0x28 ∷ t) (at (general_parse_error (codes "condition without branches")) (0x28 ∷ t))

    pub data PieceFails : ℕ → Bool → Flags → Text → ParseFault → Type 0 where
      atom_stops : {n : ℕ} {in_look : Bool} {f : Flags} {t : Text} {e : ParseFault} → AtomFails n in_look f t e → PieceFails n in_look f t e
      quantifiers_stop : {n : ℕ} {in_look : Bool} {f g : Flags} {t after : Text} {a : Atom} {e : ParseFault} → IsAtom p n in_look f t a g after →
          QuantifiersFail p g (most_quantifiers p.oniguruma) a after e → PieceFails n in_look f t e

    pub data BranchFails : ℕ → Bool → Flags → Text → ParseFault → Type 0 where
      layout_stops : {n : ℕ} {in_look : Bool} {f : Flags} {t : Text} {e : ParseFault} → LayoutFails f.verbose t e → BranchFails n in_look f t e
      piece_stops : {n : ℕ} {in_look : Bool} {f : Flags} {t here : Text} {e : ParseFault} → IsSkipped f.verbose t here → PieceFails n in_look f here e →
          BranchFails n in_look f t e
      later_piece_stops : {n : ℕ} {in_look : Bool} {f g : Flags} {t here after : Text} {tree : Tree} {e : ParseFault} → IsSkipped f.verbose t here →
          IsPiece p n in_look f here tree g after → BranchFails n in_look g after e → BranchFails n in_look f t e

    pub data BranchesFail : ℕ → Bool → Flags → Text → ParseFault → Type 0 where
      first_stops : {n : ℕ} {in_look : Bool} {f : Flags} {t : Text} {e : ParseFault} → BranchFails n in_look f t e → BranchesFail n in_look f t e
      later_branch_stops : {n : ℕ} {in_look : Bool} {f g : Flags} {t after : Text} {branch : List Tree} {e : ParseFault} →
          IsBranch p n in_look f t branch g (0x7C ∷ after) → BranchesFail n in_look g after e → BranchesFail n in_look f t e

  pub data PatternFails (f : Flags) (t : Text) : ParseFault → Type 0 where
    inside_pattern : {e : ParseFault} → BranchesFail 63 false f t e → PatternFails f t e
    -- a `)` that closes nothing
    nothing_to_close : {g : Flags} {rest : Text} {body : Branches} → IsBranches p 63 false f t body g rest → rest ≢ [] →
        PatternFails f t (at (general_parse_error (codes "end of string not reached")) rest)
