-- Each refusal has its cause, and no cause is passed over.
use Rattle.std.proofs.Common.{◌≡◌, ℕ, ◌+◌, ◌<◌, min, ◌⊎◌, ⊎_elim, inl, inr, Bool, true, false, not, ◌&&◌, ◌||◌, ◌==◌, nat_lt, List, [], ◌∷◌, map, length, refl, sym, ap, subst, ◌∙◌, arith, eqb-true, eq-eqb}
use borrow.Author.Tests.{ltb-true, lt-ltb}
use Rattle.std.proofs.Math.Path.{fun_ext}
use Rattle.std.specs.List.{list_any}
use Rattle.fancy_regex_tree.specs.Tree.{Tree, repeat, backref, backref_with_level, backref_exists, subroutine_call, ast_group, ast_backref, ast_call, ast_condition}
use Rattle.fancy_regex_tree.specs.Traversal.{nodes}
use Rattle.fancy_regex_meaning.specs.Sizes.{unbounded, size, size_with, weight}
use Rattle.fancy_regex_info.specs.Analysis.{analysis}
use Rattle.fancy_regex_analysis.specs.AnalysisErrors.{TreeHasError, is_too_heavy, is_always_empty, is_too_complex, is_never_matching, is_root_refused, is_root_error, ErrorHolds}
use Rattle.fancy_regex_analysis.specs.TerminationFixpoint.{never_ends, is_never_ending}
use Rattle.fancy_regex_info.specs.Infos.{InfoTree, properties_in}
use Rattle.fancy_regex_analysis.specs.NodeErrors.{some_node, is_memory, is_reversed_repeat, has_reversed_repeat, is_invalid_node, is_invalid_reference, shows, is_no_group, is_reversed, is_invalid}
use Rattle.fancy_regex_analysis.specs.UnsupportedParts.{is_unsupported, stops}
use Rattle.fancy_regex_info.specs.References.{is_read}
use Rattle.fancy_regex_info.specs.SizeFixpoint.{is_on_cycle}
use Rattle.fancy_regex_analysis.specs.LeftRecursion.{first_calls}
use Rattle.fancy_regex_info.specs.AnalysisRelations.{AreCallSizes}
use Rattle.fancy_regex_info.specs.Views.{size_at, pattern_in}
use Rattle.fancy_regex_analysis.specs.EmittedParts.{some_emitted, IsWhole, SomeEmittedPart}
use Rattle.fancy_regex_info.specs.declared.options.AnalyzeContext.{AnalyzeContext}
use Rattle.fancy_regex_info.specs.declared.error.CompileError.{CompileError}
use Rattle.fancy_regex_info.specs.declared.error.CompileError.TheVariants.{Memory, RepeatBoundsReversed, NamedBackrefOnly, LeftRecursiveSubroutineCall, NeverEndingRecursion, PatternTooComplex, PatternCanNeverMatch}
use Rattle.fancy_regex_info.specs.declared.size.Size as code
use Rattle.fancy_regex_analysis.specs.declared.emitted.Inside.{Inside}
use Rattle.fancy_regex_info.proofs.AnalyzeNodeLemmas.{own}
use Rattle.fancy_regex_analysis.proofs.EmittedPartLemmas.{whole_found}
use Rattle.fancy_regex_info.proofs.ReachabilityLemmas.{or_left, or_right, or_cases}
use Rattle.fancy_regex_analysis.proofs.AnyLemmas.{any_has, any_finds}
use Rattle.fancy_regex_analysis.proofs.PartErrorLemmas.{or_none}
use Rattle.fancy_regex_analysis.proofs.NodeListLemmas.{some_node_is}
use Rattle.fancy_regex_analysis.proofs.PartLemmas.{some_written_keeps, stops_stopped}
use Rattle.fancy_regex_analysis.proofs.LeftRecursionLemmas.{left_recursive, reached_again, target_inside}

pub and_left : (a b : Bool) → (a && b) ≡ true → a ≡ true
and_left true b h = refl
and_left false b h = cc

pub and_right : (a b : Bool) → (a && b) ≡ true → b ≡ true
and_right true b h = h
and_right false b h = cc

pub both_true : (a b : Bool) → a ≡ true → b ≡ true → (a && b) ≡ true
both_true true b h g = g
both_true false b h g = cc

pub memory_is : (e : CompileError) → is_memory e ≡ true → e ≡ Memory
memory_is Memory h = refl
memory_is e h = cc

never_ending_is : (e : CompileError) → is_never_ending e ≡ true → e ≡ NeverEndingRecursion
never_ending_is NeverEndingRecursion h = refl
never_ending_is e h = cc

too_complex_is : (e : CompileError) → is_too_complex e ≡ true → e ≡ PatternTooComplex
too_complex_is PatternTooComplex h = refl
too_complex_is e h = cc

never_matching_is : (e : CompileError) → is_never_matching e ≡ true → e ≡ PatternCanNeverMatch
never_matching_is PatternCanNeverMatch h = refl
never_matching_is e h = cc

pub some_node_keeps : (f g : Tree → Bool) → ((t : Tree) → f t ≡ true → g t ≡ true) → (t : Tree) → some_node f t ≡ true → some_node g t ≡ true
some_node_keeps f g keeps t h =
    let found = any_finds f (nodes t) (sym (some_node_is f t) ∙ h) in
    some_node_is g t ∙ any_has g (nodes t) found.0 found.2 (keeps found.0 found.1)

shows_faulty : (n : ℕ) (e : CompileError) (t : Tree) → shows n e t ≡ true → is_invalid_node n t ≡ true
shows_faulty n e (repeat t lo hi greedy) h = and_left (nat_lt hi lo) (is_reversed e) h
shows_faulty n e (backref k casei) h = and_left (is_no_group n k) (is_invalid k e) h
shows_faulty n e (backref_with_level k level casei) h = and_left (is_no_group n k) (is_invalid k e) h
shows_faulty n e (backref_exists k level) h = and_left (is_no_group n k) (is_invalid k e) h
shows_faulty n e (subroutine_call k) h = and_left (not (nat_lt k n)) _ h
shows_faulty n e (ast_call target position) h = refl
shows_faulty n e (ast_group name t position) h = refl
shows_faulty n e (ast_backref target casei level position) h = refl
shows_faulty n e (ast_condition target level position) h = refl
shows_faulty n e t h = h

clash : (b : Bool) → b ≡ true → b ≡ false → ⊥
clash true h g = cc
clash false h g = cc

-- where no node is faulty no node shows a cause
pub no_node_shows : (n : ℕ) (e : CompileError) (t : Tree) → some_node (is_invalid_node n) t ≡ false → some_node (shows n e) t ≡ true → ⊥
no_node_shows n e t none h =
    clash (some_node (is_invalid_node n) t) (some_node_keeps (shows n e) (is_invalid_node n) (shows_faulty n e) t h) none

neither : (a b : Bool) → (a || b) ≡ false → (a ≡ false) × (b ≡ false)
neither true b h = cc
neither false b h = (refl, h)

valid_node : (n : ℕ) (t : Tree) → is_reversed_repeat t ≡ false → is_invalid_reference n t ≡ false → is_invalid_node n t ≡ false
valid_node n (repeat t lo hi greedy) h k = h
valid_node n t h k = k

valid_nodes : (n : ℕ) (ts : List Tree) → list_any is_reversed_repeat ts ≡ false → list_any (is_invalid_reference n) ts ≡ false →
    list_any (is_invalid_node n) ts ≡ false
valid_nodes n [] h k = refl
valid_nodes n (t ∷ ts) h k =
    let left = neither (is_reversed_repeat t) (list_any is_reversed_repeat ts) h in
    let right = neither (is_invalid_reference n t) (list_any (is_invalid_reference n) ts) k in
    or_none (is_invalid_node n t) (list_any (is_invalid_node n) ts) (valid_node n t left.0 right.0) (valid_nodes n ts left.1 right.1)

-- where no repeat is reversed and no reference is invalid no node is
pub no_invalid_node : (n : ℕ) (t : Tree) → has_reversed_repeat t ≡ false → some_node (is_invalid_reference n) t ≡ false → some_node (is_invalid_node n) t ≡ false
no_invalid_node n t h k =
    some_node_is (is_invalid_node n) t ∙ valid_nodes n (nodes t) h (sym (some_node_is (is_invalid_reference n) t) ∙ k)

reversed_shows : (n : ℕ) (t : Tree) → is_reversed_repeat t ≡ true → shows n RepeatBoundsReversed t ≡ true
reversed_shows n (repeat t lo hi greedy) h = both_true (nat_lt hi lo) true h refl
reversed_shows n t h = cc

-- Each refusal holds.
abbrev pub IsMemoryOrHolds : AnalyzeContext → Bool → Tree → CompileError → Type 0
IsMemoryOrHolds context is_marked t e = (is_memory e ≡ true) ⊎ ErrorHolds context is_marked t e

module _ (context : AnalyzeContext) (is_marked : Bool) (t : Tree) where
  abbrev groups : List Tree
  groups = (pattern_in context.explicit_capture_group_0 t).groups

  abbrev Here : CompileError → Type 0
  Here = IsMemoryOrHolds context is_marked t

  pub memory_error_holds : (e : CompileError) → e ≡ Memory → Here e
  memory_error_holds e is = inl (ap is_memory is)

  pub mark_error_holds : is_marked ≡ true → Here NamedBackrefOnly
  mark_error_holds h = inr (inl h)

  pub reversed_error_holds : has_reversed_repeat t ≡ true → Here RepeatBoundsReversed
  reversed_error_holds h =
      let found = any_finds is_reversed_repeat (nodes t) h in
      inr (inr (inl (some_node_is (shows (length groups) RepeatBoundsReversed) t
      ∙ any_has (shows (length groups) RepeatBoundsReversed) (nodes t) found.0 found.2 (reversed_shows (length groups) found.0 found.1))))

  pub node_error_holds : (n : ℕ) (e : CompileError) → n ≡ length groups → (is_memory e || some_node (shows n e) t) ≡ true → Here e
  node_error_holds n e is h =
      ⊎_elim (λ m. inl m)
      (λ s. inr (inr (inl (subst (λ k. some_node (shows k e) t ≡ true) is s))))
      (or_cases (is_memory e) (some_node (shows n e) t) h)

  pub end_error_holds : (gs : List Tree) (e : CompileError) → gs ≡ groups → (is_memory e || (never_ends gs t && is_never_ending e)) ≡ true → Here e
  end_error_holds gs e is h =
      ⊎_elim (λ m. inl m)
      (λ s.
      subst Here (sym (never_ending_is e (and_right (never_ends gs t) (is_never_ending e) s)))
      (inr (inl (subst (λ us. never_ends us t ≡ true) is (and_left (never_ends gs t) (is_never_ending e) s)))))
      (or_cases (is_memory e) (never_ends gs t && is_never_ending e) h)

  root_facts : (x : InfoTree) → x ≡ analysis context.explicit_capture_group_0 t →
      ((properties_in x).size ≡ size groups t) × ((properties_in x).weight ≡ min unbounded (weight groups t))
  root_facts x is =
      let same = ap properties_in is ∙ own groups (is_read (length groups) t) (pattern_in context.explicit_capture_group_0 t).first_group t in
      (ap (λ f. f.size) same, ap (λ f. f.weight) same)

  pub root_error_holds : (x : InfoTree) (e : CompileError) → x ≡ analysis context.explicit_capture_group_0 t →
      is_root_error context.find_not_empty (properties_in x) e ≡ true → Here e
  root_error_holds x e is h =
      let f = properties_in x in
      let known = root_facts x is in
      ⊎_elim
      (λ s.
      let heavy : 4294967293 < f.weight = ltb-true 4294967293 f.weight (and_left (is_too_heavy f) (is_too_complex e) s) in
      let weighs : 4294967295 < weight groups t + 2 = omega (arith, known.1) in
      subst Here (sym (too_complex_is e (and_right (is_too_heavy f) (is_too_complex e) s))) (inr (inl weighs)))
      (λ s.
      let both = and_left (context.find_not_empty && is_always_empty f) (is_never_matching e) s in
      let empty = and_right context.find_not_empty (is_always_empty f) both in
      subst Here (sym (never_matching_is e (and_right (context.find_not_empty && is_always_empty f) (is_never_matching e) s)))
      (inr (inl (
        and_left context.find_not_empty (is_always_empty f) both,
        ap (λ z. z.always) (sym known.0) ∙ and_left f.size.always (f.size.least == 0) empty,
        ap (λ z. z.least) (sym known.0) ∙ eqb-true f.size.least 0 (and_right f.size.always (f.size.least == 0) empty),
      ))))
      (or_cases (is_too_heavy f && is_too_complex e) ((context.find_not_empty && is_always_empty f) && is_never_matching e) h)

  recursion_is : (gs : List Tree) (sizes : List code.Size) (k : ℕ) → gs ≡ groups → AreCallSizes gs sizes →
      is_on_cycle (map (first_calls (size_with (size_at sizes))) gs) k ≡ is_on_cycle (map (first_calls (size groups)) groups) k
  recursion_is gs sizes k is known =
      ap (λ s. is_on_cycle (map (first_calls s) gs) k) (sym (fun_ext known))
      ∙ ap (λ us. is_on_cycle (map (first_calls (size us)) us) k) is

  pub start_error_holds : (gs : List Tree) (sizes : List code.Size) (e : CompileError) → gs ≡ groups → AreCallSizes gs sizes →
      (is_memory e ≡ true) ⊎ ((k : ℕ) × (e ≡ LeftRecursiveSubroutineCall k)
      × (is_on_cycle (map (first_calls (size_with (size_at sizes))) gs) k ≡ true)) → Here e
  start_error_holds gs sizes e is known h =
      ⊎_elim (λ m. inl m)
      (λ r.
      subst Here (sym r.1) (inr (inl (left_recursive groups r.0 (sym (recursion_is gs sizes r.0 is known) ∙ r.2)))))
      h

  -- what is written out stands in bodies whose sizes are known
  pub part_error_holds : (gs : List Tree) (sizes : List code.Size) (e : CompileError) → gs ≡ groups → AreCallSizes gs sizes →
      (is_memory e ≡ true) ⊎ SomeEmittedPart gs t (stops (size_with (size_at sizes)) e) → Here e
  part_error_holds gs sizes e is known h =
      ⊎_elim (λ m. inl m)
      (λ p.
      inr (inr (inr (subst (λ us. SomeEmittedPart us t (stops (size us) e)) is
      (subst (λ s. SomeEmittedPart gs t (stops s e)) (sym (fun_ext known)) p)))))
      h

  -- and no part is passed over
  pub no_stopped_part : (gs : List Tree) (sizes : List code.Size) → gs ≡ groups → AreCallSizes gs sizes →
      ((i : Inside) (u : Tree) → IsWhole gs t i u → some_emitted (is_unsupported (size_with (size_at sizes))) i u ≡ false) →
      SomeEmittedPart groups t (is_unsupported (size groups)) → ⊥
  no_stopped_part gs sizes is known clear p =
      let here : SomeEmittedPart gs t (is_unsupported (size_with (size_at sizes))) =
      subst (λ s. SomeEmittedPart gs t (is_unsupported s)) (fun_ext known) (subst (λ us. SomeEmittedPart us t (is_unsupported (size us))) (sym is) p) in
      let whole = whole_found gs t (is_unsupported (size_with (size_at sizes))) here in
      clash (some_emitted (is_unsupported (size_with (size_at sizes))) whole.0 whole.1) whole.3 (clear whole.0 whole.1 whole.2)

  -- and no cause
  no_part : (gs : List Tree) (sizes : List code.Size) → gs ≡ groups → AreCallSizes gs sizes →
      ((i : Inside) (u : Tree) → IsWhole gs t i u → some_emitted (is_unsupported (size_with (size_at sizes))) i u ≡ false) →
      (e : CompileError) → SomeEmittedPart groups t (stops (size groups) e) → ⊥
  no_part gs sizes is known clear e p =
      let here : SomeEmittedPart gs t (stops (size_with (size_at sizes)) e) =
      subst (λ s. SomeEmittedPart gs t (stops s e)) (fun_ext known) (subst (λ us. SomeEmittedPart us t (stops (size us) e)) (sym is) p) in
      let whole = whole_found gs t (stops (size_with (size_at sizes)) e) here in
      clash (some_emitted (is_unsupported (size_with (size_at sizes))) whole.0 whole.1)
      (some_written_keeps (stops (size_with (size_at sizes)) e) (is_unsupported (size_with (size_at sizes)))
      (stops_stopped (size_with (size_at sizes)) e) whole.0 whole.1 whole.3)
      (clear whole.0 whole.1 whole.2)

  no_whole : (gs : List Tree) (sizes : List code.Size) (x : InfoTree) → gs ≡ groups → AreCallSizes gs sizes →
      x ≡ analysis context.explicit_capture_group_0 t → is_marked ≡ false → never_ends gs t ≡ false →
      is_root_refused context.find_not_empty (properties_in x) ≡ false →
      ((k : ℕ) → k < length gs → is_on_cycle (map (first_calls (size_with (size_at sizes))) gs) k ≡ false) →
      (e : CompileError) → TreeHasError context is_marked t e → ⊥
  no_whole gs sizes x is known info unmarked ends light starts NamedBackrefOnly h = clash is_marked h unmarked
  no_whole gs sizes x is known info unmarked ends light starts NeverEndingRecursion h =
      clash (never_ends gs t) (subst (λ us. never_ends us t ≡ true) (sym is) h) ends
  no_whole gs sizes x is known info unmarked ends light starts PatternTooComplex h =
      let f = properties_in x in
      let properties = root_facts x info in
      let heavy : 4294967293 < f.weight = omega (arith, properties.1) in
      clash (is_root_refused context.find_not_empty f)
      (or_left (is_too_heavy f) (context.find_not_empty && is_always_empty f) (lt-ltb 4294967293 f.weight heavy)) light
  no_whole gs sizes x is known info unmarked ends light starts PatternCanNeverMatch h =
      let f = properties_in x in
      let properties = root_facts x info in
      clash (is_root_refused context.find_not_empty f)
      (or_right (is_too_heavy f) (context.find_not_empty && is_always_empty f)
      (both_true context.find_not_empty (is_always_empty f) h.0
      (both_true f.size.always (f.size.least == 0) (ap (λ z. z.always) properties.0 ∙ h.1) (eq-eqb f.size.least 0 (ap (λ z. z.least) properties.0 ∙ h.2)))))
      light
  no_whole gs sizes x is known info unmarked ends light starts (LeftRecursiveSubroutineCall k) h =
      let low : k < length gs = omega (arith, target_inside groups k h.0 h.1, ap length is) in
      clash (is_on_cycle (map (first_calls (size_with (size_at sizes))) gs) k)
      (recursion_is gs sizes k is known ∙ reached_again groups k h) (starts k low)
  no_whole gs sizes x is known info unmarked ends light starts e h = h

  pub none_passed : (gs : List Tree) (sizes : List code.Size) (x : InfoTree) (n : ℕ) → gs ≡ groups → AreCallSizes gs sizes →
      x ≡ analysis context.explicit_capture_group_0 t → n ≡ length groups → is_marked ≡ false → some_node (is_invalid_node n) t ≡ false →
      never_ends gs t ≡ false → is_root_refused context.find_not_empty (properties_in x) ≡ false →
      ((k : ℕ) → k < length gs → is_on_cycle (map (first_calls (size_with (size_at sizes))) gs) k ≡ false) →
      ((i : Inside) (u : Tree) → IsWhole gs t i u → some_emitted (is_unsupported (size_with (size_at sizes))) i u ≡ false) →
      (e : CompileError) → ErrorHolds context is_marked t e → ⊥
  none_passed gs sizes x n is known info long unmarked sound ends light starts clear e h =
      ⊎_elim (λ w. no_whole gs sizes x is known info unmarked ends light starts e w)
      (λ r. ⊎_elim
      (λ s. no_node_shows n e t sound (subst (λ k. some_node (shows k e) t ≡ true) (sym long) s))
      (λ p. no_part gs sizes is known clear e p)
      r)
      h
