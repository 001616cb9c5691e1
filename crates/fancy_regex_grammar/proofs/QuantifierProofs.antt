-- Quantifiers after an atom, as the function reads them.
use Rattle.std.proofs.Common.{◌≡◌, ℕ, zero, suc, ◌<◌, nat_lt, Bool, true, false, ◌&&◌, ◌||◌, Option, Some, None, is_some, Ok, Err, refl, sym, ap, ◌∙◌, subst, true≢false, ltb-true, ltb-false, lt-ltb, le-ltb, if◌then◌else◌}
use Rattle.std.proofs.lemmas.Bool.{and_parts, and_from, and_left, and_right, or_left, or_right, false_from_ne_true}
use Rattle.fancy_regex_text.specs.Text.{Text}
use Rattle.fancy_regex_text.specs.ParseFault.{ParseFault, ParseOutcome, ◌>>=◌, fail_at, recursion_exceeded, target_not_repeatable}
use Rattle.fancy_regex_text.specs.Layout.{skip}
use Rattle.fancy_regex_lex.specs.Quantifiers.{leading_quantifier, quantifier_suffix}
use Rattle.fancy_regex_lex.specs.FlagLetters.{same}
use Rattle.fancy_regex_lex.specs.declared.token.Quantifier.{Quantifier}
use Rattle.fancy_regex_lex.specs.declared.token.QuantifierSuffix.{QuantifierSuffix}
use Rattle.fancy_regex_lex.specs.declared.token.Flags.{Flags}
use Rattle.fancy_regex_tree.specs.declared.parser_config.ParserConfig.{ParserConfig}
use Rattle.fancy_regex_tree.specs.Tree.{Tree, empty, repeat, atomic_group}
use Rattle.fancy_regex_tree.specs.TreeBuilders.{is_repeatable, is_empty_tree}
use Rattle.fancy_regex_tree.specs.Quantifiers.{Atom, is_reversed, is_dropped, repeated, marked, apply_quantifier, full, parse_quantifiers}
use Rattle.fancy_regex_lex_grammar.specs.Exact.{ReadsExactly, at}
use Rattle.fancy_regex_lex_grammar.specs.Layout.{IsSkipped, LayoutFails}
use Rattle.fancy_regex_lex_grammar.specs.Counts.{IsQuantifier, IsMarks}
use Rattle.fancy_regex_lex_grammar.proofs.ReadingLemmas.{Meant, is_read, is_stopped, bind_meant, reads_exactly}
use Rattle.fancy_regex_lex_grammar.proofs.LayoutProofs.{skip_is_exact}
use Rattle.fancy_regex_lex_grammar.proofs.CountProofs as counts
use Rattle.fancy_regex_grammar.specs.Quantifiers.{NoQuantifier, IsGreedy, greedy, lazy, swapped_to_lazy, swapped_to_greedy, IsInOrder, in_plain_mode, not_reversed, IsRepeated, a_repeat, possessive, reversed, IsDropped, IsQuantifierApplied, repeats, dropped, IsQuantified, no_more, enough, and_quantifier, QuantifiersFail, before_quantifier, too_many, no_target, before_marks, after_quantifier}
use Rattle.fancy_regex_grammar.specs.GrammarLaws.{QuantifiersAreExact}

greedy_of : (a b : Bool) → IsGreedy a b (same a b)
greedy_of true true = swapped_to_greedy
greedy_of true false = lazy
greedy_of false true = swapped_to_lazy
greedy_of false false = greedy

greedy_read : {a b c : Bool} → IsGreedy a b c → same a b ≡ c
greedy_read greedy = refl
greedy_read lazy = refl
greedy_read swapped_to_lazy = refl
greedy_read swapped_to_greedy = refl

pub empty_tree : (e : Tree) → is_empty_tree e ≡ true → e ≡ empty
empty_tree empty h = refl
empty_tree _ h = absurd (true≢false (sym h))

-- no quantifier, by the function
pub none_found : (verbose : Bool) (t : Text) → NoQuantifier verbose t → leading_quantifier verbose t ≡ None
none_found verbose t n = by_found (leading_quantifier verbose t) refl
  where
    by_found : (o : Option (Quantifier × Text)) → leading_quantifier verbose t ≡ o → o ≡ None
    by_found (Some r) e = absurd (n r.0 r.1 ((counts.quantifiers_are_exact verbose t).sound r e))
    by_found None e = refl

none_there : (verbose : Bool) (t : Text) → leading_quantifier verbose t ≡ None → NoQuantifier verbose t
none_there verbose t e count rest q = (counts.quantifiers_are_exact verbose t).none e (count, rest) q

module _ (p : ParserConfig) (f : Flags) where
  reversed_of : (q : Quantifier) → is_reversed p q ≡ true → (p.oniguruma ≡ true) × (q.hi < q.lo)
  reversed_of q h = let (a, b) = and_parts p.oniguruma (nat_lt q.hi q.lo) h in (a, ltb-true q.hi q.lo b)

  order_of : (q : Quantifier) → is_reversed p q ≡ false → IsInOrder p f q
  order_of q h = by_mode p.oniguruma (nat_lt q.hi q.lo) refl refl h
    where
      by_mode : (a b : Bool) → p.oniguruma ≡ a → nat_lt q.hi q.lo ≡ b → (a && b) ≡ false → IsInOrder p f q
      by_mode false b e d k = in_plain_mode e
      by_mode true false e d k = not_reversed (ltb-false q.hi q.lo d)
      by_mode true true e d k = absurd (true≢false k)

  order_read : {q : Quantifier} → IsInOrder p f q → is_reversed p q ≡ false
  order_read {q} (in_plain_mode e) = and_left p.oniguruma (nat_lt q.hi q.lo) e
  order_read {q} (not_reversed h) = and_right p.oniguruma (nat_lt q.hi q.lo) (le-ltb q.hi q.lo h)

  repeated_of : (q : Quantifier) (m : QuantifierSuffix) (e : Tree) → IsRepeated p f q m e (repeated p f q m e)
  unfolding repeated
  repeated_of q m e = by_order (is_reversed p q) refl m.possessive refl
    where
      by_order : (r : Bool) → is_reversed p q ≡ r → (b : Bool) → m.possessive ≡ b →
          let loop = (if r then repeat e q.hi q.lo (same m.lazy f.swap_greed) else repeat e q.lo q.hi (same m.lazy f.swap_greed)) in
          IsRepeated p f q m e (if b || r then atomic_group loop else loop)
      by_order true h true k = let (a, b) = reversed_of q h in reversed a b (greedy_of m.lazy f.swap_greed)
      by_order true h false k = let (a, b) = reversed_of q h in reversed a b (greedy_of m.lazy f.swap_greed)
      by_order false h true k = possessive (order_of q h) k (greedy_of m.lazy f.swap_greed)
      by_order false h false k = a_repeat (order_of q h) k (greedy_of m.lazy f.swap_greed)

  repeated_read : {q : Quantifier} {m : QuantifierSuffix} {e tree : Tree} → IsRepeated p f q m e tree → repeated p f q m e ≡ tree
  unfolding repeated
  repeated_read (a_repeat o k g) = rw (repeated, order_read o, k, greedy_read g) refl
  repeated_read (possessive o k g) = rw (repeated, order_read o, k, greedy_read g) refl
  repeated_read {q} {m} (reversed a b g) =
      rw (repeated, and_from p.oniguruma (nat_lt q.hi q.lo) a (lt-ltb q.hi q.lo b), or_right m.possessive true refl, greedy_read g) refl

  dropped_of : (e : Atom) → is_dropped p e ≡ true → IsDropped p f e
  dropped_of e h =
      let (a, b) = and_parts (p.oniguruma && e.is_non_capturing_group) (is_empty_tree e.tree) h in
      let (c, d) = and_parts p.oniguruma e.is_non_capturing_group a in
      record { mode = c; written = d; nothing = empty_tree e.tree b }

  dropped_test : {e : Atom} → IsDropped p f e → is_dropped p e ≡ true
  dropped_test {e} d =
      and_from (p.oniguruma && e.is_non_capturing_group) (is_empty_tree e.tree) (and_from p.oniguruma e.is_non_capturing_group d.mode d.written) (ap is_empty_tree d.nothing)

  abbrev QuantifiedMeans : ℕ → Atom → Text → ParseOutcome (Tree × Text) → Type 0
  QuantifiedMeans more e t = Meant (λ (r : Tree × Text). IsQuantified p f more e t r.0 r.1) (QuantifiersFail p f more e t)

  skip_stops : (more : ℕ) (e : Atom) (t : Text) (fault : ParseFault) → skip f.verbose t ≡ Err fault → QuantifiersFail p f more e t fault
  skip_stops more e t fault h = before_quantifier ((skip_is_exact f.verbose t).fault_is_sound fault h)

  full_means : (e : Atom) (t here : Text) → IsSkipped f.verbose t here → QuantifiedMeans zero e t (full p f here e.tree)
  unfolding full
  full_means e t here s = by_mode p.oniguruma refl (leading_quantifier f.verbose here) refl
    where
      by_mode : (b : Bool) → p.oniguruma ≡ b → (o : Option (Quantifier × Text)) → leading_quantifier f.verbose here ≡ o →
          QuantifiedMeans zero e t (if b && is_some o then fail_at recursion_exceeded here else Ok (e.tree, here))
      by_mode true h (Some r) k = is_stopped (too_many s h ((counts.quantifiers_are_exact f.verbose here).sound r k))
      by_mode true h None k = is_read (enough s (λ m. none_there f.verbose here k))
      by_mode false h (Some r) k = is_read (enough s (λ m. absurd (true≢false (sym m ∙ h))))
      by_mode false h None k = is_read (enough s (λ m. absurd (true≢false (sym m ∙ h))))

  -- a quantifier, its marks, and the tree under them
  abbrev UnderMeans : ℕ → Atom → Text → Quantifier → Text → ParseOutcome (Tree × Text) → Type 0
  UnderMeans more e t q u =
      Meant (λ (x : Tree × Text). (m : QuantifierSuffix) × IsMarks p.oniguruma f.verbose q.braces u m x.1 × IsQuantifierApplied p f q m e x.0) (QuantifiersFail p f (suc more) e t)

  under_means : (more : ℕ) (e : Atom) (t here : Text) (q : Quantifier) (u : Text) → IsSkipped f.verbose t here → IsQuantifier f.verbose here q u →
      UnderMeans more e t q u (apply_quantifier p f here q e u)
  unfolding apply_quantifier marked
  under_means more e t here q u s at_here = by_tests (is_repeatable e.tree) refl (is_dropped p e) refl
    where
      exact : ReadsExactly (quantifier_suffix p.oniguruma f.verbose q.braces u) (λ (r : QuantifierSuffix × Text). IsMarks p.oniguruma f.verbose q.braces u r.0 r.1)
          (LayoutFails f.verbose u)
      exact = counts.marks_are_exact p.oniguruma f.verbose q.braces u

      marks_stop : (is_repeatable e.tree ≡ false → IsDropped p f e) → (fault : ParseFault) → quantifier_suffix p.oniguruma f.verbose q.braces u ≡ Err fault →
          QuantifiersFail p f (suc more) e t fault
      marks_stop d fault h = before_marks s at_here d (exact.fault_is_sound fault h)

      by_tests : (a : Bool) → is_repeatable e.tree ≡ a → (b : Bool) → is_dropped p e ≡ b →
          UnderMeans more e t q u
          (if a || b then (quantifier_suffix p.oniguruma f.verbose q.braces u >>= λ x. Ok (if a then repeated p f q x.0 e.tree else e.tree, x.1))
          else fail_at target_not_repeatable here)
      by_tests true h b k =
          bind_meant (quantifier_suffix p.oniguruma f.verbose q.braces u) _ (marks_stop (λ n. absurd (true≢false (sym h ∙ n))))
          (λ x m. is_read (x.0, exact.sound x m, repeats h (repeated_of q x.0 e.tree)))
      by_tests false h true k =
          let d = dropped_of e k in
          bind_meant (quantifier_suffix p.oniguruma f.verbose q.braces u) _ (marks_stop (λ n. d))
          (λ x m. is_read (x.0, exact.sound x m, subst (IsQuantifierApplied p f q x.0 e) (sym d.nothing) (dropped d)))
      by_tests false h false k = is_stopped (no_target s at_here h (λ d. true≢false (sym (dropped_test d) ∙ k)))

  under_then : (more : ℕ) (e : Atom) (t here : Text) (q : Quantifier) (u : Text) → IsSkipped f.verbose t here → IsQuantifier f.verbose here q u →
      (r : ParseOutcome (Tree × Text)) → UnderMeans more e t q u r →
      ((x : Tree × Text) → QuantifiedMeans more (record e { tree = x.0 }) x.1 (parse_quantifiers p f more (record e { tree = x.0 }) x.1)) →
      QuantifiedMeans (suc more) e t (r >>= λ x. parse_quantifiers p f more (record e { tree = x.0 }) x.1)
  under_then more e t here q u s at_here (Err fault) (is_stopped k) rest = is_stopped k
  under_then more e t here q u s at_here (Ok x) (is_read (m, k, under)) rest = by_rest (parse_quantifiers p f more (record e { tree = x.0 }) x.1) (rest x)
    where
      by_rest : (r : ParseOutcome (Tree × Text)) → QuantifiedMeans more (record e { tree = x.0 }) x.1 r → QuantifiedMeans (suc more) e t r
      by_rest (Ok y) (is_read h) = is_read (and_quantifier s at_here k under h)
      by_rest (Err fault) (is_stopped h) = is_stopped (after_quantifier s at_here k under h)

  quantified_means : (more : ℕ) (e : Atom) (t : Text) → QuantifiedMeans more e t (parse_quantifiers p f more e t)
  unfolding parse_quantifiers
  quantified_means zero e t =
      bind_meant (skip f.verbose t) _ (skip_stops zero e t) (λ here h. full_means e t here ((skip_is_exact f.verbose t).sound here h))
  quantified_means (suc more) e t =
      bind_meant (skip f.verbose t) _ (skip_stops (suc more) e t)
      (λ here h. by_quantifier here ((skip_is_exact f.verbose t).sound here h) (λ x. quantified_means more (record e { tree = x.0 }) x.1) (leading_quantifier f.verbose here) refl)
    where
      by_quantifier : (here : Text) → IsSkipped f.verbose t here →
          ((x : Tree × Text) → QuantifiedMeans more (record e { tree = x.0 }) x.1 (parse_quantifiers p f more (record e { tree = x.0 }) x.1)) →
          (o : Option (Quantifier × Text)) → leading_quantifier f.verbose here ≡ o →
          QuantifiedMeans (suc more) e t (elim o [
            | None ↦ Ok (e.tree, here)
            | Some q ↦ apply_quantifier p f here q.0 e q.1 >>= λ found. parse_quantifiers p f more (record e { tree = found.0 }) found.1
          ])
      by_quantifier here s rest None k = is_read (no_more s (none_there f.verbose here k))
      by_quantifier here s rest (Some q) k =
          let at_here = (counts.quantifiers_are_exact f.verbose here).sound q k in
          under_then more e t here q.0 q.1 s at_here (apply_quantifier p f here q.0 e q.1) (under_means more e t here q.0 q.1 s at_here) rest

  -- the other way round

  skip_read : {t here : Text} → IsSkipped f.verbose t here → skip f.verbose t ≡ Ok here
  skip_read {t} {here} s = (skip_is_exact f.verbose t).complete here s

  at_quantifier : {here u : Text} {q : Quantifier} → IsQuantifier f.verbose here q u → leading_quantifier f.verbose here ≡ Some (q, u)
  at_quantifier {here} {u} {q} k = (counts.quantifiers_are_exact f.verbose here).complete (q, u) k

  under_read : {q : Quantifier} {m : QuantifierSuffix} {e : Atom} {tree : Tree} (here u after : Text) → IsMarks p.oniguruma f.verbose q.braces u m after →
      IsQuantifierApplied p f q m e tree → apply_quantifier p f here q e u ≡ Ok (tree, after)
  unfolding apply_quantifier marked
  under_read {q} {m} {e} here u after k (repeats h r) =
      rw (apply_quantifier, marked, h, (counts.marks_are_exact p.oniguruma f.verbose q.braces u).complete (m, after) k, repeated_read r) refl
  under_read {q} {m} {e} here u after k (dropped d) =
      rw (apply_quantifier, marked, not_repeatable d, dropped_test d, (counts.marks_are_exact p.oniguruma f.verbose q.braces u).complete (m, after) k, d.nothing) refl
    where
      not_repeatable : IsDropped p f e → is_repeatable e.tree ≡ false
      not_repeatable d = ap is_repeatable d.nothing

  nothing_full : (e : Tree) (here : Text) → (p.oniguruma ≡ true → NoQuantifier f.verbose here) → full p f here e ≡ Ok (e, here)
  unfolding full
  nothing_full e here n = by_mode p.oniguruma refl
    where
      by_mode : (b : Bool) → p.oniguruma ≡ b →
          ◌≡◌ {A = ParseOutcome (Tree × Text)} (if b && is_some (leading_quantifier f.verbose here) then fail_at recursion_exceeded here else Ok (e, here)) (Ok (e, here))
      by_mode true h = ap (λ o. if is_some o then fail_at recursion_exceeded here else Ok (e, here)) (none_found f.verbose here (n h))
      by_mode false h = refl

  -- after the layout
  abbrev after_layout : ℕ → Atom → Text → Option (Quantifier × Text) → ParseOutcome (Tree × Text)
  after_layout more e here o = elim o [
    | None ↦ Ok (e.tree, here)
    | Some q ↦ apply_quantifier p f here q.0 e q.1 >>= λ found. parse_quantifiers p f more (record e { tree = found.0 }) found.1
  ]

  step : (more : ℕ) (e : Atom) {t here : Text} → IsSkipped f.verbose t here →
      parse_quantifiers p f (suc more) e t ≡ after_layout more e here (leading_quantifier f.verbose here)
  unfolding parse_quantifiers
  step more e s = ap (λ r. r >>= λ h. after_layout more e h (leading_quantifier f.verbose h)) (skip_read s)

  last_step : (e : Atom) {t here : Text} → IsSkipped f.verbose t here → parse_quantifiers p f zero e t ≡ full p f here e.tree
  unfolding parse_quantifiers
  last_step e s = ap (λ r. r >>= λ h. full p f h e.tree) (skip_read s)

  marked_step : (more : ℕ) (e : Atom) {t here u : Text} {q : Quantifier} → IsSkipped f.verbose t here → IsQuantifier f.verbose here q u →
      parse_quantifiers p f (suc more) e t ≡ (apply_quantifier p f here q e u >>= λ found. parse_quantifiers p f more (record e { tree = found.0 }) found.1)
  marked_step more e {here = here} s q = step more e s ∙ ap (after_layout more e here) (at_quantifier q)

  quantified_read : {more : ℕ} {e : Atom} {t rest : Text} {whole : Tree} → IsQuantified p f more e t whole rest → parse_quantifiers p f more e t ≡ Ok (whole, rest)
  unfolding parse_quantifiers
  quantified_read (no_more {more} {e} {here = here} s n) = step more e s ∙ ap (after_layout more e here) (none_found f.verbose here n)
  quantified_read (enough {e} {here = here} s n) = last_step e s ∙ nothing_full e.tree here n
  quantified_read (and_quantifier {more} {e} {here = here} {marked} {after} s q m under rest) =
      marked_step more e s q ∙ ap (λ r. r >>= λ x. parse_quantifiers p f more (record e { tree = x.0 }) x.1) (under_read here marked after m under) ∙ quantified_read rest

  skip_stopped : {t : Text} {fault : ParseFault} → LayoutFails f.verbose t fault → skip f.verbose t ≡ Err fault
  skip_stopped {t} {fault} l = (skip_is_exact f.verbose t).fault_is_complete fault l

  marks_stopped : (e : Atom) (here : Text) (q : Quantifier) (u : Text) {fault : ParseFault} → (is_repeatable e.tree ≡ false → IsDropped p f e) →
      LayoutFails f.verbose u fault → apply_quantifier p f here q e u ≡ Err fault
  unfolding apply_quantifier marked
  marks_stopped e here q u {fault} d l =
      rw (apply_quantifier, may (is_repeatable e.tree) refl, marked, (counts.marks_are_exact p.oniguruma f.verbose q.braces u).fault_is_complete fault l) refl
    where
      may : (b : Bool) → is_repeatable e.tree ≡ b → (is_repeatable e.tree || is_dropped p e) ≡ true
      may true h = or_left (is_repeatable e.tree) (is_dropped p e) h
      may false h = or_right (is_repeatable e.tree) (is_dropped p e) (dropped_test (d h))

  no_room : (e : Tree) (here : Text) {u : Text} {q : Quantifier} → p.oniguruma ≡ true → IsQuantifier f.verbose here q u → full p f here e ≡ Err (at recursion_exceeded here)
  unfolding full
  no_room e here h q = rw (full, h, at_quantifier q) refl

  no_target_there : (e : Atom) (here u : Text) (q : Quantifier) → is_repeatable e.tree ≡ false → (IsDropped p f e → ⊥) →
      apply_quantifier p f here q e u ≡ Err (at target_not_repeatable here)
  unfolding apply_quantifier
  no_target_there e here u q h n = rw (apply_quantifier, h, false_from_ne_true (is_dropped p e) (λ k. n (dropped_of e k))) refl

  quantifiers_stop : {more : ℕ} {e : Atom} {t : Text} {fault : ParseFault} → QuantifiersFail p f more e t fault → parse_quantifiers p f more e t ≡ Err fault
  unfolding parse_quantifiers full apply_quantifier marked
  quantifiers_stop (before_quantifier {more = zero} {e} l) = ap (λ r. r >>= λ h. full p f h e.tree) (skip_stopped l)
  quantifiers_stop (before_quantifier {more = suc more} {e} l) = ap (λ r. r >>= λ h. after_layout more e h (leading_quantifier f.verbose h)) (skip_stopped l)
  quantifiers_stop (too_many {e} {here = here} s h q) = last_step e s ∙ no_room e.tree here h q
  quantifiers_stop (no_target {more} {e} s q h n) =
      marked_step more e s q ∙ ap (λ r. r >>= λ x. parse_quantifiers p f more (record e { tree = x.0 }) x.1) (no_target_there e _ _ _ h n)
  quantifiers_stop (before_marks {more} {e} {here = here} {marked} {count} s q d l) =
      marked_step more e s q ∙ ap (λ r. r >>= λ x. parse_quantifiers p f more (record e { tree = x.0 }) x.1) (marks_stopped e here count marked d l)
  quantifiers_stop (after_quantifier {more} {e} {here = here} {marked} {after} s q m under rest) =
      marked_step more e s q ∙ ap (λ r. r >>= λ x. parse_quantifiers p f more (record e { tree = x.0 }) x.1) (under_read here marked after m under) ∙ quantifiers_stop rest

pub quantifiers_are_exact : QuantifiersAreExact
quantifiers_are_exact p f more e t =
    reads_exactly (parse_quantifiers p f more e t) (quantified_means p f more e t) (λ r h. quantified_read p f h) (λ fault s. quantifiers_stop p f s)
