-- A reading step by step.
use Rattle.std.proofs.Common.{◌≡◌, ℕ, Bool, true, false, ◌||◌, Some, None, is_some, Result, Ok, Err, IfOk, IsErrAnd, List, [], ◌∷◌, map, refl, ap, subst, sym, ◌∙◌, chars, IsUtf8, String, Vec, Global}
use Rattle.std.specs.List.{list_any, filter_map, cons_option}
use Rattle.std.specs.Str.{all_scalars, encode_utf8_all}
use Rattle.std.specs.BTreeMap.{BTreeMap}
use Rattle.std.proofs.lemmas.Str.{chars_from_encodes}
use Rattle.fancy_regex_text.specs.Text.{bytes}
use Rattle.fancy_regex_text.specs.ParseFault.{ParseOutcome}
use Rattle.fancy_regex_tree.specs.declared.error.Error.{Error}
use Rattle.fancy_regex_tree.specs.declared.error.Error.TheVariants.{ParseError, Memory}
use Rattle.fancy_regex_tree.specs.declared.expr_tree.ExprTree.{ExprTree}
use Rattle.fancy_regex_tree.specs.declared.parse.GroupSummary.{GroupSummary}
use Rattle.fancy_regex_tree.specs.Tree.{Text, Tree, ast_group, group}
use Rattle.fancy_regex_tree.specs.Parser.{parse_pattern}
use Rattle.fancy_regex_tree.specs.Numbering.{PositionedFault, ◌⨟◌, AgreesWith, Names, openings, opening_of, counted, last_named, last_number, numbers_of, numbers_under, lookup_in, resolved}
use Rattle.fancy_regex_tree.specs.Parse.{Options, Parsed, with_position, ignores, resolve_references, parse}
use Rattle.fancy_regex_tree.specs.ReferenceSummary.{is_named}
use Rattle.fancy_regex_tree.specs.ParseResult.{IsParsed, IsWithin, IsBounded, IsGroupSummary}
use Rattle.fancy_regex_tree.specs.Positions.{HasPositionsWithin}
use Rattle.fancy_regex_tree.proofs.PositionBounds.{parsed_placed}
use Rattle.fancy_regex_tree.proofs.ResolvedBounds.{IsGood, IsLess, resolved_fits}

pub list_any_map : {X Y : Type 0} (p : Y → Bool) (f : X → Y) (xs : List X) → list_any (λ x. p (f x)) xs ≡ list_any p (map f xs)
list_any_map p f [] = refl
list_any_map p f (x ∷ xs) = ap (λ b. p (f x) || b) (list_any_map p f xs)

one_named : (t : Tree) (b : Bool) (ns : Names) → b ≡ list_any is_some ns → (is_named t || b) ≡ list_any is_some (cons_option (opening_of t) ns)
one_named (ast_group (Some name) e position) b ns h = refl
one_named (ast_group None e position) b ns h = h
one_named (group e) b ns h = h
one_named _ b ns h = h

-- a group with a name is an opening with a name
pub some_named : (ts : List Tree) → list_any is_named ts ≡ list_any is_some (filter_map opening_of ts)
some_named [] = refl
some_named (t ∷ ts) = one_named t (list_any is_named ts) (filter_map opening_of ts) (some_named ts)

module _ (m : BTreeMap (String Global) (Vec ℕ Global)) (names : Names) (has : (q : List ℕ) → IsUtf8 q → numbers_under m q ≡ numbers_of (chars q) 0 names) where
  lookup_cases : (name : Text) (b : Bool) → all_scalars name ≡ b → lookup_in m name ≡ last_named names name
  unfolding lookup_in
  lookup_cases name true h =
      let text : IsUtf8 (encode_utf8_all name) = (name, (h, refl)) in
      let same : name ≡ chars (encode_utf8_all name) = chars_from_encodes name (encode_utf8_all name) text refl in
      rw h (ap last_number (has (encode_utf8_all name) text ∙ ap (λ t. numbers_of t 0 names) (sym same)))
  lookup_cases name false h = rw h refl

  -- the map has the last group of each name
  pub same_lookup : lookup_in m ≡ last_named names
  same_lookup i name = lookup_cases name (all_scalars name) refl i

-- an error that is handed on
handed_on : (r : Result ExprTree Error) (e : Error) (d : Result Parsed PositionedFault) → IsErrAnd r (λ g. g ≡ e) → IsParsed (Err e) d → IsParsed r d
handed_on (Ok x) e d h fails = absurd h
handed_on (Err g) e d h fails = subst (λ f. IsParsed (Err f) d) (sym h) fails

step_fails : {X A : Type 0} (v : X → A) (e : Error) (d : Result A PositionedFault) (f : A → Result Parsed PositionedFault) → AgreesWith v (Err e) d → IsParsed (Err e) (d ⨟ f)
step_fails v (ParseError position kind) d f h = ap (λ r. r ⨟ f) h
step_fails v Memory d f h = tt

-- nothing is read
pub reading_fails : {X : Type 0} (v : X → Tree) (o : Options) (t : Text) (r : Result ExprTree Error) (e : Error) → IsErrAnd r (λ g. g ≡ e)
    → AgreesWith v (Err e) (with_position (bytes t) (parse_pattern o.oniguruma o.unicode o.flags t)) → IsParsed r (parse o t)
unfolding parse
reading_fails v o t r e h fails = handed_on r e _ h (step_fails v e (with_position (bytes t) (parse_pattern o.oniguruma o.unicode o.flags t)) (resolve_references o) fails)

-- an error within the pattern that is handed on
pub err_bounded : (size : ℕ) (r : Result ExprTree Error) (e : Error) → IsErrAnd r (λ f. f ≡ e) → IsWithin size e → IsBounded size r
err_bounded size (Ok x) e h within = absurd h
err_bounded size (Err f) e h within = subst (IsWithin size) (sym h) within

read_placed : (size : ℕ) (tree : Tree) (r : ParseOutcome Tree) → IfOk r (HasPositionsWithin size) → with_position size r ≡ Ok tree → HasPositionsWithin size tree
read_placed size tree (Ok e) h is = subst (λ (x : Result Tree PositionedFault). IfOk x (HasPositionsWithin size)) is h
read_placed size tree (Err e) h is = cc

module _ (o : Options) (t : Text) (tree : Tree) (g : GroupSummary) (read : with_position (bytes t) (parse_pattern o.oniguruma o.unicode o.flags t) ≡ Ok tree) (are : IsGroupSummary o.ignore_numbered tree g) where
  abbrev found_of : Tree → Parsed
  found_of e = record { tree = e; names = counted (ignores o (openings tree)) (openings tree); unresolved = tree; ignored = ignores o (openings tree) }

  same_resolved : resolved g.ignored (lookup_in g.named) 0 tree ≡ resolved (ignores o (openings tree)) (last_named (counted (ignores o (openings tree)) (openings tree))) 0 tree
  same_resolved =
      ap (λ l. resolved g.ignored l 0 tree) (same_lookup g.named (counted g.ignored (openings tree)) are.named)
      ∙ ap (λ b. resolved b (last_named (counted b (openings tree))) 0 tree) are.ignored

  parse_is : parse o t ≡ (resolved g.ignored (lookup_in g.named) 0 tree ⨟ λ found. Ok (found_of found.0))
  unfolding parse
  parse_is = ap (λ r. r ⨟ resolve_references o) read ∙ ap (λ r. r ⨟ λ found. Ok (found_of found.0)) (sym same_resolved)

  -- a reference is refused
  pub resolving_fails : {X : Type 0} (v : X → Tree × ℕ) (r : Result ExprTree Error) (e : Error) → IsErrAnd r (λ f. f ≡ e)
      → AgreesWith v (Err e) (resolved g.ignored (lookup_in g.named) 0 tree) → IsParsed r (parse o t)
  resolving_fails v r e h fails =
      handed_on r e _ h (subst (IsParsed (Err e)) (sym parse_is) (step_fails v e (resolved g.ignored (lookup_in g.named) 0 tree) (λ found. Ok (found_of found.0)) fails))

  -- all is read
  pub parse_goes : (new : Tree) (n : ℕ) → resolved g.ignored (lookup_in g.named) 0 tree ≡ Ok (new, n)
      → parse o t ≡ Ok (record { tree = new; names = counted g.ignored (openings tree); unresolved = tree; ignored = g.ignored })
  parse_goes new n h =
      parse_is
      ∙ ap (λ r. r ⨟ λ found. Ok (found_of found.0)) h
      ∙ ap (λ b. Ok (record { tree = new; names = counted b (openings tree); unresolved = tree; ignored = b })) (sym are.ignored)

  -- the positions in the tree are inside the pattern, so those of refused references are, and resolving makes no tree larger
  placed : HasPositionsWithin (bytes t) tree
  placed = read_placed (bytes t) tree (parse_pattern o.oniguruma o.unicode o.flags t) (parsed_placed o.oniguruma o.unicode o.flags t) read

  good : IsGood (bytes t) (IsLess tree) (resolved g.ignored (lookup_in g.named) 0 tree)
  good = resolved_fits (bytes t) g.ignored (lookup_in g.named) 0 tree placed

  pub resolved_is_less : (new : Tree) (n : ℕ) → resolved g.ignored (lookup_in g.named) 0 tree ≡ Ok (new, n) → IsLess tree (new, n)
  resolved_is_less new n h = subst (IsGood (bytes t) (IsLess tree)) h good

  fault_within : {X : Type 0} (v : X → Tree × ℕ) (e : Error) → AgreesWith v (Err e) (resolved g.ignored (lookup_in g.named) 0 tree) → IsWithin (bytes t) e
  fault_within v (ParseError position kind) h = subst (IsGood (bytes t) (IsLess tree)) h good
  fault_within v Memory h = tt

  pub resolving_fails_within : {X : Type 0} (v : X → Tree × ℕ) (size : ℕ) → bytes t ≡ size → (r : Result ExprTree Error) (e : Error) → IsErrAnd r (λ f. f ≡ e)
      → AgreesWith v (Err e) (resolved g.ignored (lookup_in g.named) 0 tree) → IsBounded size r
  resolving_fails_within v size same r e h fails = err_bounded size r e h (subst (λ n. IsWithin n e) same (fault_within v e fails))
