-- The grammar of atoms, pieces and branches.
use Rattle.std.specs.Prelude.{◌≡◌, ◌≢◌, ℕ, ℤ, suc, Bool, true, false, List, [], ◌∷◌, Option}
use Rattle.fancy_regex_text.specs.Text.{Text, ◌∈◌}
use Rattle.fancy_regex_text.specs.Names.{Named}
use Rattle.fancy_regex_lex.specs.Escapes.{Escape}
use Rattle.fancy_regex_lex.specs.Quantifiers.{most_quantifiers}
use Rattle.fancy_regex_lex.specs.Openings.{capturing, non_capturing, set_flags, atomic, look, if_set, if_matches, define, absent, absent_bar, whole_reference, whole_call, whole_verb}
use Rattle.fancy_regex_lex.specs.declared.token.Flags.{Flags}
use Rattle.fancy_regex_lex.specs.declared.token.Look.{Look}
use Rattle.fancy_regex_lex.specs.declared.token.Verb.{Verb}
use Rattle.fancy_regex_tree.specs.declared.parser_config.ParserConfig.{ParserConfig}
use Rattle.fancy_regex_tree.specs.Tree.{Tree, empty, any, delegate, look_around, atomic_group, verb, absent_repeater, define_group, ast_group, ast_backref, ast_call, ast_condition}
use Rattle.fancy_regex_tree.specs.TreeBuilders.{pattern_of}
use Rattle.fancy_regex_tree.specs.Atoms.{place, target_named, look_of, verb_of, char_tree, escape_tree, line_start, line_end}
use Rattle.fancy_regex_tree.specs.Quantifiers.{Atom}
use Rattle.fancy_regex_tree.specs.Parser.{Branches, plain, is_empty_body, conditional_of_branches, absent_bar_of}
use Rattle.fancy_regex_lex_grammar.specs.Layout.{IsSkipped}
use Rattle.fancy_regex_lex_grammar.specs.Escapes.{IsEscape}
use Rattle.fancy_regex_lex_grammar.specs.Classes.{IsClass}
use Rattle.fancy_regex_lex_grammar.specs.Openings.{IsOpening}
use Rattle.fancy_regex_grammar.specs.Quantifiers.{NoQuantifier, IsQuantified}

-- a branch ends here: at the end of the text, `|` or `)`
pub data EndsBranch : Text → Type 0 where
  at_end : EndsBranch []
  at_bar : {t : Text} → EndsBranch (0x7C ∷ t)
  at_close : {t : Text} → EndsBranch (0x29 ∷ t)

module _ (p : ParserConfig) where
  -- The arguments of each: how many more levels of parentheses may nest, whether the position is in a look-around, the flags, the text, what it
  -- parses to, the flags after it, and the rest.
  mutual
    pub data IsAtom : ℕ → Bool → Flags → Text → Atom → Flags → Text → Type 0 where
      dot : {n : ℕ} {in_look : Bool} {f : Flags} {t : Text} → IsAtom n in_look f (0x2E ∷ t) (plain (any f.dot_newline f.crlf)) f t
      caret : {n : ℕ} {in_look : Bool} {f : Flags} {t : Text} → IsAtom n in_look f (0x5E ∷ t) (plain (line_start p f in_look)) f t
      dollar : {n : ℕ} {in_look : Bool} {f : Flags} {t : Text} → IsAtom n in_look f (0x24 ∷ t) (plain (line_end f)) f t
      a_class : {n : ℕ} {in_look : Bool} {f : Flags} {t text rest : Text} → IsClass p.oniguruma t text rest →
          IsAtom n in_look f (0x5B ∷ t) (plain (delegate text f.casei)) f rest
      escaped : {n : ℕ} {in_look : Bool} {f : Flags} {t rest : Text} {e : Escape} → IsEscape p.oniguruma t e rest →
          IsAtom n in_look f (0x5C ∷ t) (plain (escape_tree p f (place p (0x5C ∷ t)) e)) f rest
      -- any other character that begins no quantifier
      character : {n : ℕ} {in_look : Bool} {f : Flags} {c : ℕ} {t : Text} → c ∈ "([\\.^$|)" ≡ false → NoQuantifier f.verbose (c ∷ t) →
          IsAtom n in_look f (c ∷ t) (plain (char_tree f c)) f t
      -- `(..)`, `(?<n>..)`: flags that are set in it stay set after it
      capturing_group : {n : ℕ} {in_look : Bool} {f g : Flags} {t inside rest : Text} {name : Option Text} {body : Branches} →
          IsOpening p.unicode f t (capturing name) inside → IsBranches n in_look f inside body g (0x29 ∷ rest) →
          IsAtom (suc n) in_look f (0x28 ∷ t) (plain (ast_group name (pattern_of body) (place p (0x28 ∷ t)))) g rest
      -- `(?flags:..)`: the flags before it are restored after it
      bare_group : {n : ℕ} {in_look : Bool} {f g changed : Flags} {t inside rest : Text} {body : Branches} →
          IsOpening p.unicode f t (non_capturing changed) inside → IsBranches n in_look changed inside body g (0x29 ∷ rest) →
          IsAtom (suc n) in_look f (0x28 ∷ t) (record { tree = pattern_of body; is_non_capturing_group = true }) f rest
      flag_setting : {n : ℕ} {in_look : Bool} {f changed : Flags} {t rest : Text} → IsOpening p.unicode f t (set_flags changed) rest →
          IsAtom (suc n) in_look f (0x28 ∷ t) (plain empty) changed rest
      an_atomic_group : {n : ℕ} {in_look : Bool} {f g : Flags} {t inside rest : Text} {body : Branches} →
          IsOpening p.unicode f t atomic inside → IsBranches n in_look f inside body g (0x29 ∷ rest) →
          IsAtom (suc n) in_look f (0x28 ∷ t) (plain (atomic_group (pattern_of body))) g rest
      a_look_around : {n : ℕ} {in_look : Bool} {f g : Flags} {t inside rest : Text} {body : Branches} {k : Look} →
          IsOpening p.unicode f t (look k) inside → IsBranches n true f inside body g (0x29 ∷ rest) →
          IsAtom (suc n) in_look f (0x28 ∷ t) (plain (look_around (pattern_of body) (look_of k))) g rest
      bare_condition : {n : ℕ} {in_look : Bool} {f g : Flags} {t inside rest : Text} {body : Branches} {target : Named} {level : Option ℤ} →
          IsOpening p.unicode f t (if_set target level) inside → IsBranches n in_look f inside body g (0x29 ∷ rest) → is_empty_body body ≡ true →
          IsAtom (suc n) in_look f (0x28 ∷ t) (plain (ast_condition (target_named target) level (place p (0x28 ∷ t)))) g rest
      if_reference : {n : ℕ} {in_look : Bool} {f g : Flags} {t inside rest : Text} {body : Branches} {target : Named} {level : Option ℤ} →
          IsOpening p.unicode f t (if_set target level) inside → IsBranches n in_look f inside body g (0x29 ∷ rest) → is_empty_body body ≡ false →
          IsAtom (suc n) in_look f (0x28 ∷ t) (plain (conditional_of_branches (ast_condition (target_named target) level (place p (0x28 ∷ t))) body)) g rest
      if_expression : {n : ℕ} {in_look : Bool} {f g h : Flags} {t inside between rest : Text} {c body : Branches} →
          IsOpening p.unicode f t if_matches inside → IsBranches n in_look f inside c g (0x29 ∷ between) →
          IsBranches n in_look g between body h (0x29 ∷ rest) → is_empty_body body ≡ false →
          IsAtom (suc n) in_look f (0x28 ∷ t) (plain (conditional_of_branches (pattern_of c) body)) h rest
      definitions : {n : ℕ} {in_look : Bool} {f g : Flags} {t inside rest : Text} {body : Branches} →
          IsOpening p.unicode f t define inside → IsBranches n in_look f inside body g (0x29 ∷ rest) →
          IsAtom (suc n) in_look f (0x28 ∷ t) (plain (define_group (pattern_of body))) g rest
      an_absent_repeater : {n : ℕ} {in_look : Bool} {f g : Flags} {t inside rest : Text} {body : Branches} →
          IsOpening p.unicode f t absent inside → IsBranches n in_look f inside body g (0x29 ∷ rest) →
          IsAtom (suc n) in_look f (0x28 ∷ t) (plain (absent_repeater (pattern_of body))) g rest
      absent_bounds : {n : ℕ} {in_look : Bool} {f g : Flags} {t inside rest : Text} {body : Branches} →
          IsOpening p.unicode f t absent_bar inside → IsBranches n in_look f inside body g (0x29 ∷ rest) →
          IsAtom (suc n) in_look f (0x28 ∷ t) (plain (absent_bar_of body)) g rest
      a_reference : {n : ℕ} {in_look : Bool} {f : Flags} {t rest : Text} {target : Named} {level : Option ℤ} →
          IsOpening p.unicode f t (whole_reference target level) rest →
          IsAtom (suc n) in_look f (0x28 ∷ t) (plain (ast_backref (target_named target) f.casei level (place p (0x28 ∷ t)))) f rest
      a_call : {n : ℕ} {in_look : Bool} {f : Flags} {t rest : Text} {target : Named} → IsOpening p.unicode f t (whole_call target) rest →
          IsAtom (suc n) in_look f (0x28 ∷ t) (plain (ast_call (target_named target) (place p (0x28 ∷ t)))) f rest
      a_verb : {n : ℕ} {in_look : Bool} {f : Flags} {t rest : Text} {v : Verb} → IsOpening p.unicode f t (whole_verb v) rest →
          IsAtom (suc n) in_look f (0x28 ∷ t) (plain (verb (verb_of v))) f rest

    -- an atom with its quantifiers
    pub data IsPiece : ℕ → Bool → Flags → Text → Tree → Flags → Text → Type 0 where
      with_quantifiers : {n : ℕ} {in_look : Bool} {f g : Flags} {t after rest : Text} {e : Atom} {whole : Tree} →
          IsAtom n in_look f t e g after → IsQuantified p g (most_quantifiers p.oniguruma) e after whole rest → IsPiece n in_look f t whole g rest

    pub data IsBranch : ℕ → Bool → Flags → Text → List Tree → Flags → Text → Type 0 where
      no_more_pieces : {n : ℕ} {in_look : Bool} {f : Flags} {t here : Text} → IsSkipped f.verbose t here → EndsBranch here →
          IsBranch n in_look f t [] f here
      and_piece : {n : ℕ} {in_look : Bool} {f g h : Flags} {t here after rest : Text} {e : Tree} {others : List Tree} →
          IsSkipped f.verbose t here → IsPiece n in_look f here e g after → IsBranch n in_look g after others h rest →
          IsBranch n in_look f t (e ∷ others) h rest

    pub data IsBranches : ℕ → Bool → Flags → Text → Branches → Flags → Text → Type 0 where
      last_branch : {n : ℕ} {in_look : Bool} {f g : Flags} {t rest : Text} {branch : List Tree} → IsBranch n in_look f t branch g rest →
          ((u : Text) → rest ≢ 0x7C ∷ u) → IsBranches n in_look f t (branch ∷ []) g rest
      and_branch : {n : ℕ} {in_look : Bool} {f g h : Flags} {t after rest : Text} {branch : List Tree} {others : Branches} →
          IsBranch n in_look f t branch g (0x7C ∷ after) → IsBranches n in_look g after others h rest →
          IsBranches n in_look f t (branch ∷ others) h rest

  -- the whole text parses to this tree, in which at most 63 levels nest
  pub record IsPattern (f : Flags) (t : Text) (e : Tree) : Type 0 where
    pub body : Branches
    pub flags_after : Flags
    pub derivation : IsBranches 63 false f t body flags_after []
    pub tree : e ≡ pattern_of body
