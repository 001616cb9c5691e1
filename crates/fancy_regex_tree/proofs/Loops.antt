-- What the loops over pieces and over branches keep.
use Rattle.std.proofs.Common.{◌≡◌, ℕ, zero, suc, ◌+◌, ◌<◌, Bool, true, false, List, [], ◌∷◌, ◌++◌, length, codes, Option, Some, None, Ok, Err, refl, sym, ap, ◌∙◌, append_assoc, append-nil}
use Rattle.std.proofs.Common.{true≢false, arith}
use Rattle.fancy_regex_text.specs.Text.{Text, strip_prefix}
use Rattle.fancy_regex_text.specs.ParseFault.{ParseOutcome, ◌>>=◌, Fails}
use Rattle.fancy_regex_text.specs.Layout.{skip}
use Rattle.fancy_regex_lex.specs.declared.token.Flags.{Flags}
use Rattle.fancy_regex_text.specs.declared.fault.ReadError.{ReadError}
use Rattle.fancy_regex_lex.proofs.FlagLetterLemmas.{fails_with}
use Rattle.fancy_regex_tree.specs.declared.parser_config.ParserConfig.{ParserConfig}
use Rattle.fancy_regex_tree.specs.Tree.{Tree}
use Rattle.fancy_regex_tree.specs.Parser.{Branches, AlternationParser, ends_branch, parse_piece, parse_branch, branches, parse_alternation, inner_parser}

-- a list that is read, with the flags after it and the rest
abbrev pub Many : Type 0 → Type 0
Many A = ParseOutcome (List A × Flags × Text)

abbrev pub ok_many : {A : Type 0} → List A → Flags → Text → Many A
ok_many es f t = Ok (es, f, t)

-- what was read before, and what is read
abbrev pub with_before : {A : Type 0} → List A → Many A → Many A
with_before before read = read >>= λ x. Ok (before ++ x.0, x.1, x.2)

with_before-append : {A : Type 0} (a b : List A) (read : Many A) → with_before a (with_before b read) ≡ with_before (a ++ b) read
with_before-append a b (Ok x) = ap (λ es. ok_many es x.1 x.2) (sym (append_assoc a b x.0))
with_before-append a b (Err e) = refl

pub with_before-nil : {A : Type 0} (read : Many A) → with_before [] read ≡ read
with_before-nil (Ok x) = refl
with_before-nil (Err e) = refl

pub nested_is : (p : ParserConfig) (n : ℕ) (in_look : Bool) (f : Flags) (t : Text) → parse_alternation p n in_look f t ≡ branches p (inner_parser p n) (length t + 1) in_look f t
unfolding parse_alternation
nested_is p zero in_look f t = refl
nested_is p (suc n) in_look f t = refl

abbrev inner_some : ParserConfig → ℕ → Option AlternationParser
inner_some p n = Some (parse_alternation p n)

-- where a level may open, there is a parser of its inside
pub inner_below : (p : ParserConfig) (n m : ℕ) → n ≡ m + 1 → inner_parser p n ≡ Some (parse_alternation p m)
inner_below p zero m h = absurd (omega arith)
inner_below p (suc n) m h = ap (λ k. inner_some p k) (omega arith)

module _ (p : ParserConfig) (inner : Option AlternationParser) (in_look : Bool) where
  -- the layout before a piece does not end
  pub pieces_skip_fails : (m : ℕ) (f : Flags) (t : Text) (before : List Tree) (e : ReadError) (all : Many Tree) → 0 < m → Fails e (skip f.verbose t) →
      with_before before (parse_branch p inner m in_look f t) ≡ all → Fails e all
  unfolding parse_branch
  pieces_skip_fails zero f t before e all some fails now = absurd (omega arith)
  pieces_skip_fails (suc n) f t before e all some fails now =
      rw (← now) (fails_with e _ _ (fails_with e (skip f.verbose t) _ fails))

  -- the branch ends
  pub pieces_end : (m : ℕ) (f : Flags) (t here : Text) (before : List Tree) (all : Many Tree) → 0 < m → skip f.verbose t ≡ Ok here →
      ends_branch here ≡ true → with_before before (parse_branch p inner m in_look f t) ≡ all → all ≡ Ok (before, f, here)
  unfolding parse_branch
  pieces_end zero f t here before all some skips ends now = absurd (omega arith)
  pieces_end (suc n) f t here before all some skips ends now =
      sym now ∙ rw (skips, ends) (ap (λ es. ok_many es f here) (append-nil before))

  -- a piece is not read
  pub pieces_fail : (m : ℕ) (f : Flags) (t here : Text) (before : List Tree) (e : ReadError) (all : Many Tree) → 0 < m →
      skip f.verbose t ≡ Ok here → ends_branch here ≡ false → Fails e (parse_piece p inner in_look f here) →
      with_before before (parse_branch p inner m in_look f t) ≡ all → Fails e all
  unfolding parse_branch
  pieces_fail zero f t here before e all some skips goes fails now = absurd (omega arith)
  pieces_fail (suc n) f t here before e all some skips goes fails now =
      rw (← now, skips, goes) (fails_with e _ _ (fails_with e (parse_piece p inner in_look f here) _ fails))

  -- a piece is read, and others follow
  pub pieces_go : (m : ℕ) (f g : Flags) (t here after : Text) (before : List Tree) (tree : Tree) (all : Many Tree) → 0 < m →
      skip f.verbose t ≡ Ok here → ends_branch here ≡ false → parse_piece p inner in_look f here ≡ Ok (tree, g, after) →
      with_before before (parse_branch p inner m in_look f t) ≡ all →
      (n : ℕ) × (m ≡ n + 1) × (with_before (before ++ tree ∷ []) (parse_branch p inner n in_look g after) ≡ all)
  unfolding parse_branch
  pieces_go zero f g t here after before tree all some skips goes reads now = absurd (omega arith)
  pieces_go (suc n) f g t here after before tree all some skips goes reads now =
      (n, omega arith, sym (with_before-append before (tree ∷ []) (parse_branch p inner n in_look g after)) ∙ (rw (parse_branch, skips, goes, reads) at now))

  -- a branch is not read
  pub branches_fail : (m : ℕ) (f : Flags) (t : Text) (before : Branches) (e : ReadError) (all : Many (List Tree)) → 0 < m →
      Fails e (parse_branch p inner (length t + 1) in_look f t) → with_before before (branches p inner m in_look f t) ≡ all → Fails e all
  unfolding branches
  branches_fail zero f t before e all some fails now = absurd (omega arith)
  branches_fail (suc n) f t before e all some fails now =
      rw (← now) (fails_with e _ _ (fails_with e (parse_branch p inner (length t + 1) in_look f t) _ fails))

  -- the last branch is read
  pub branches_end : (m : ℕ) (f g : Flags) (t after : Text) (before : Branches) (branch : List Tree) (all : Many (List Tree)) → 0 < m →
      parse_branch p inner (length t + 1) in_look f t ≡ Ok (branch, g, after) → strip_prefix (codes "|") after ≡ None →
      with_before before (branches p inner m in_look f t) ≡ all → all ≡ Ok (before ++ branch ∷ [], g, after)
  unfolding branches strip_prefix
  branches_end zero f g t after before branch all some reads bar now = absurd (omega arith)
  branches_end (suc n) f g t after before branch all some reads bar now = sym now ∙ rw (reads, bar) refl

  -- a branch is read, and others follow
  pub branches_go : (m : ℕ) (f g : Flags) (t after next : Text) (before : Branches) (branch : List Tree) (all : Many (List Tree)) → 0 < m →
      parse_branch p inner (length t + 1) in_look f t ≡ Ok (branch, g, after) → strip_prefix (codes "|") after ≡ Some next →
      with_before before (branches p inner m in_look f t) ≡ all →
      (n : ℕ) × (m ≡ n + 1) × (with_before (before ++ branch ∷ []) (branches p inner n in_look g next) ≡ all)
  unfolding branches strip_prefix
  branches_go zero f g t after next before branch all some reads bar now = absurd (omega arith)
  branches_go (suc n) f g t after next before branch all some reads bar now =
      (n, omega arith, sym (with_before-append before (branch ∷ []) (branches p inner n in_look g next)) ∙ (rw (branches, reads, bar) at now))

-- a branch that goes on has a character
pub going : (t : Text) → ends_branch t ≡ false → 0 < length t
going [] h = absurd (true≢false h)
going (c ∷ t) h = omega arith
