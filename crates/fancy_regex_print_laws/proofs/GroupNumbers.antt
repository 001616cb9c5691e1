-- What is numbered where no reference is to be looked up and no group has a name.
use Rattle.std.proofs.Common.{◌≡◌, ℕ, suc, zero, ◌+◌, Bool, true, false, ◌&&◌, List, ◌∷◌, ◌++◌, replicate, Option, Some, None, is_some, Result, Ok, refl, ap, ◌∙◌, arith}
use Rattle.std.specs.List.{filter_map, list_any}
use Rattle.std.proofs.lemmas.Bool.{false≢true, and_parts}
use Rattle.std.proofs.lemmas.List.{replicate-append-replicate}
use Rattle.std.proofs.lemmas.List.Elements.{filter_map-append}
use Rattle.fancy_regex_text.specs.Text.{Text}
use Rattle.fancy_regex_tree.specs.Tree.{Tree, Trees, no_trees, more_trees, empty, any, assertion, general_newline, literal, literal_bytes, concat, alt, group, look_around, repeat, delegate}
use Rattle.fancy_regex_tree.specs.Tree.{backref, backref_with_level, atomic_group, keep_out, continue, backref_exists, conditional, subroutine_call, verb, absent_repeater}
use Rattle.fancy_regex_tree.specs.Tree.{absent_expression, absent_stopper, absent_clear, define_group, ast_group, ast_backref, ast_call, ast_condition}
use Rattle.fancy_regex_tree.specs.Traversal.{nodes, all_nodes}
use Rattle.fancy_regex_tree.specs.Numbering.{PositionedFault, Names, ◌⨟◌, opening_of, openings, counted, last_named, resolved, all_resolved}
use Rattle.fancy_regex_tree.specs.Parse.{Options, Parsed, ignores, resolve_references}
use Rattle.fancy_regex_tree.specs.NormalForm.{node_kind, with_piece, row_of, normal_form, normal_pieces, normal_branches}
use Rattle.fancy_regex_tree.specs.Printable.{has_two_branches, is_printable, are_printable}
use Rattle.fancy_regex_tree.specs.declared.normal_form_kind.NormalFormKind.{NormalFormKind}
use Rattle.fancy_regex_tree.specs.declared.normal_form_kind.NormalFormKind.TheVariants.{Empty, Anchor, Repeatable}
use Rattle.fancy_regex_meaning.specs.Groups.{group_count, row_group_count}
use Rattle.fancy_regex_print_laws.specs.ReprintLaws.{with_groups_resolved, all_with_groups_resolved, is_resolved, are_resolved, GroupsAreNumbered}
use Rattle.fancy_regex_print_laws.proofs.NamelessTrees.{nameless_tree, nameless_trees}

-- a tree, and how many openings are before its end
abbrev Numbered : Type 0
Numbered = Result (Tree × ℕ) PositionedFault

abbrev answered : Tree → ℕ → Numbered
answered t n = Ok (t, n)

abbrev all_answered : Trees → ℕ → Result (Trees × ℕ) PositionedFault
all_answered ts n = Ok (ts, n)

same_end : (t : Tree) (n m : ℕ) → n ≡ m → answered t n ≡ answered t m
same_end t n m h = ap (answered t) h

-- what is read inside, as a group
abbrev grouped : Numbered → Numbered
grouped r = r ⨟ λ found. Ok (group found.0, found.1)

module _ (named : Text → Option ℕ) where
  in_group : (n : ℕ) (t : Tree) → resolved false named (suc n) t ≡ Ok (with_groups_resolved t, suc n + group_count (with_groups_resolved t)) →
      grouped (resolved false named (suc n) t) ≡ answered (group (with_groups_resolved t)) (n + (group_count (with_groups_resolved t) + 1))
  in_group n t inside =
      ap grouped inside
      ∙ same_end (group (with_groups_resolved t)) _ _ (omega arith)

  mutual
    unfolding with_groups_resolved is_resolved group_count

    numbered : (n : ℕ) (t : Tree) → is_resolved (with_groups_resolved t) ≡ true →
        resolved false named n t ≡ Ok (with_groups_resolved t, n + group_count (with_groups_resolved t))
    numbered n empty p = same_end empty n (n + 0) (omega arith)
    numbered n (any a b) p = same_end (any a b) n (n + 0) (omega arith)
    numbered n (assertion a) p = same_end (assertion a) n (n + 0) (omega arith)
    numbered n (general_newline a) p = same_end (general_newline a) n (n + 0) (omega arith)
    numbered n (literal a b) p = same_end (literal a b) n (n + 0) (omega arith)
    numbered n (literal_bytes a) p = same_end (literal_bytes a) n (n + 0) (omega arith)
    numbered n (delegate a b) p = same_end (delegate a b) n (n + 0) (omega arith)
    numbered n (backref a b) p = same_end (backref a b) n (n + 0) (omega arith)
    numbered n (backref_with_level a b d) p = same_end (backref_with_level a b d) n (n + 0) (omega arith)
    numbered n keep_out p = same_end keep_out n (n + 0) (omega arith)
    numbered n continue p = same_end continue n (n + 0) (omega arith)
    numbered n (backref_exists a b) p = same_end (backref_exists a b) n (n + 0) (omega arith)
    numbered n (subroutine_call a) p = same_end (subroutine_call a) n (n + 0) (omega arith)
    numbered n (verb a) p = same_end (verb a) n (n + 0) (omega arith)
    numbered n absent_clear p = same_end absent_clear n (n + 0) (omega arith)
    numbered n (ast_backref a b d e) p = absurd (false≢true p)
    numbered n (ast_call a b) p = absurd (false≢true p)
    numbered n (ast_condition a b d) p = absurd (false≢true p)
    numbered n (look_around t how) p = ap (λ (r : Numbered). r ⨟ λ found. Ok (look_around found.0 how, found.1)) (numbered n t p)
    numbered n (repeat t lo hi greedy) p = ap (λ (r : Numbered). r ⨟ λ found. Ok (repeat found.0 lo hi greedy, found.1)) (numbered n t p)
    numbered n (atomic_group t) p = ap (λ (r : Numbered). r ⨟ λ found. Ok (atomic_group found.0, found.1)) (numbered n t p)
    numbered n (absent_repeater t) p = ap (λ (r : Numbered). r ⨟ λ found. Ok (absent_repeater found.0, found.1)) (numbered n t p)
    numbered n (absent_stopper t) p = ap (λ (r : Numbered). r ⨟ λ found. Ok (absent_stopper found.0, found.1)) (numbered n t p)
    numbered n (define_group t) p = ap (λ (r : Numbered). r ⨟ λ found. Ok (define_group found.0, found.1)) (numbered n t p)
    numbered n (concat ts) p = ap (λ (r : Result (Trees × ℕ) PositionedFault). r ⨟ λ found. Ok (concat found.0, found.1)) (all_numbered n ts p)
    numbered n (alt ts) p = ap (λ (r : Result (Trees × ℕ) PositionedFault). r ⨟ λ found. Ok (alt found.0, found.1)) (all_numbered n ts p)
    numbered n (group t) p = in_group n t (numbered (suc n) t p)
    numbered n (ast_group None t position) p = in_group n t (numbered (suc n) t p)
    numbered n (ast_group (Some name) t position) p = in_group n t (numbered (suc n) t p)
    numbered n (conditional c a b) p =
        let parts = and_parts (is_resolved (with_groups_resolved c) && is_resolved (with_groups_resolved a)) (is_resolved (with_groups_resolved b)) p in
        let two = and_parts (is_resolved (with_groups_resolved c)) (is_resolved (with_groups_resolved a)) parts.0 in
        let m = n + group_count (with_groups_resolved c) in
        let k = m + group_count (with_groups_resolved a) in
        ap (λ (r : Numbered). r ⨟ λ first. resolved false named first.1 a ⨟ λ second. resolved false named second.1 b ⨟ λ third.
        Ok (conditional first.0 second.0 third.0, third.1)) (numbered n c two.0)
        ∙ ap (λ (r : Numbered). r ⨟ λ second. resolved false named second.1 b ⨟ λ third. Ok (conditional (with_groups_resolved c) second.0 third.0, third.1)) (numbered m a two.1)
        ∙ ap (λ (r : Numbered). r ⨟ λ third. Ok (conditional (with_groups_resolved c) (with_groups_resolved a) third.0, third.1)) (numbered k b parts.1)
        ∙ same_end (conditional (with_groups_resolved c) (with_groups_resolved a) (with_groups_resolved b)) _ _ (omega arith)
    numbered n (absent_expression a t) p =
        let parts = and_parts (is_resolved (with_groups_resolved a)) (is_resolved (with_groups_resolved t)) p in
        let m = n + group_count (with_groups_resolved a) in
        ap (λ (r : Numbered). r ⨟ λ first. resolved false named first.1 t ⨟ λ second. Ok (absent_expression first.0 second.0, second.1)) (numbered n a parts.0)
        ∙ ap (λ (r : Numbered). r ⨟ λ second. Ok (absent_expression (with_groups_resolved a) second.0, second.1)) (numbered m t parts.1)
        ∙ same_end (absent_expression (with_groups_resolved a) (with_groups_resolved t)) _ _ (omega arith)

    all_numbered : (n : ℕ) (ts : Trees) → are_resolved (all_with_groups_resolved ts) ≡ true →
        all_resolved false named n ts ≡ Ok (all_with_groups_resolved ts, n + row_group_count (all_with_groups_resolved ts))
    all_numbered n no_trees p = ap (all_answered no_trees) (omega arith)
    all_numbered n (more_trees t ts) p =
        let parts = and_parts (is_resolved (with_groups_resolved t)) (are_resolved (all_with_groups_resolved ts)) p in
        let m = n + group_count (with_groups_resolved t) in
        ap (λ (r : Numbered). r ⨟ λ first. all_resolved false named first.1 ts ⨟ λ others. Ok (more_trees first.0 others.0, others.1)) (numbered n t parts.0)
        ∙ ap (λ (r : Result (Trees × ℕ) PositionedFault). r ⨟ λ others. Ok (more_trees (with_groups_resolved t) others.0, others.1)) (all_numbered m ts parts.1)
        ∙ ap (all_answered (more_trees (with_groups_resolved t) (all_with_groups_resolved ts))) (omega arith)

pub groups_are_numbered : GroupsAreNumbered
groups_are_numbered named n t p = numbered named n t p

mutual
  unfolding with_groups_resolved nameless_tree is_resolved

  -- a tree with no name counts as itself
  counted_is : (t : Tree) → is_resolved (nameless_tree t) ≡ true → with_groups_resolved t ≡ nameless_tree t
  counted_is empty p = refl
  counted_is (any a b) p = refl
  counted_is (assertion a) p = refl
  counted_is (general_newline a) p = refl
  counted_is (literal a b) p = refl
  counted_is (literal_bytes a) p = refl
  counted_is (delegate a b) p = refl
  counted_is (backref a b) p = refl
  counted_is (backref_with_level a b d) p = refl
  counted_is keep_out p = refl
  counted_is continue p = refl
  counted_is (backref_exists a b) p = refl
  counted_is (subroutine_call a) p = refl
  counted_is (verb a) p = refl
  counted_is absent_clear p = refl
  counted_is (ast_backref a b d e) p = absurd (false≢true p)
  counted_is (ast_call a b) p = absurd (false≢true p)
  counted_is (ast_condition a b d) p = absurd (false≢true p)
  counted_is (look_around t how) p = ap (λ (e : Tree). look_around e how) (counted_is t p)
  counted_is (repeat t lo hi greedy) p = ap (λ (e : Tree). repeat e lo hi greedy) (counted_is t p)
  counted_is (atomic_group t) p = ap (atomic_group) (counted_is t p)
  counted_is (absent_repeater t) p = ap (absent_repeater) (counted_is t p)
  counted_is (absent_stopper t) p = ap (absent_stopper) (counted_is t p)
  counted_is (define_group t) p = ap (define_group) (counted_is t p)
  counted_is (concat ts) p = ap concat (all_counted ts p)
  counted_is (alt ts) p = ap alt (all_counted ts p)
  counted_is (group t) p = ap group (counted_is t p)
  counted_is (ast_group None t position) p = ap group (counted_is t p)
  counted_is (ast_group (Some name) t position) p = absurd (false≢true p)
  counted_is (conditional c a b) p =
      let parts = and_parts (is_resolved (nameless_tree c) && is_resolved (nameless_tree a)) (is_resolved (nameless_tree b)) p in
      let two = and_parts (is_resolved (nameless_tree c)) (is_resolved (nameless_tree a)) parts.0 in
      λ i. conditional (counted_is c two.0 i) (counted_is a two.1 i) (counted_is b parts.1 i)
  counted_is (absent_expression a t) p =
      let parts = and_parts (is_resolved (nameless_tree a)) (is_resolved (nameless_tree t)) p in
      λ i. absent_expression (counted_is a parts.0 i) (counted_is t parts.1 i)

  all_counted : (ts : Trees) → are_resolved (nameless_trees ts) ≡ true → all_with_groups_resolved ts ≡ nameless_trees ts
  all_counted no_trees p = refl
  all_counted (more_trees t ts) p =
      let parts = and_parts (is_resolved (nameless_tree t)) (are_resolved (nameless_trees ts)) p in
      λ i. more_trees (counted_is t parts.0 i) (all_counted ts parts.1 i)

pub counts_as : (tree form : Tree) → nameless_tree tree ≡ form → is_resolved form ≡ true → with_groups_resolved tree ≡ form
counts_as tree form is p = counted_is tree (ap is_resolved is ∙ p) ∙ is

-- so many openings without a name
abbrev unnamed : ℕ → Names
unnamed n = replicate n None

unnamed_two : (ts us : List Tree) (m n : ℕ) → filter_map opening_of ts ≡ unnamed m → filter_map opening_of us ≡ unnamed n →
    filter_map opening_of (ts ++ us) ≡ unnamed (m + n)
unnamed_two ts us m n h k =
    filter_map-append opening_of ts us ∙ (λ i. h i ++ k i) ∙ replicate-append-replicate m n None

unnamed_more : (n : ℕ) → None ∷ unnamed n ≡ unnamed (n + 1)
unnamed_more n = replicate-append-replicate 1 n None ∙ ap unnamed (omega arith)

mutual
  unfolding nameless_tree is_resolved group_count

  opens : (t : Tree) → is_resolved (nameless_tree t) ≡ true → openings t ≡ unnamed (group_count (nameless_tree t))
  opens empty p = refl
  opens (any a b) p = refl
  opens (assertion a) p = refl
  opens (general_newline a) p = refl
  opens (literal a b) p = refl
  opens (literal_bytes a) p = refl
  opens (delegate a b) p = refl
  opens (backref a b) p = refl
  opens (backref_with_level a b d) p = refl
  opens keep_out p = refl
  opens continue p = refl
  opens (backref_exists a b) p = refl
  opens (subroutine_call a) p = refl
  opens (verb a) p = refl
  opens absent_clear p = refl
  opens (ast_backref a b d e) p = absurd (false≢true p)
  opens (ast_call a b) p = absurd (false≢true p)
  opens (ast_condition a b d) p = absurd (false≢true p)
  opens (look_around t how) p = opens t p
  opens (repeat t lo hi greedy) p = opens t p
  opens (atomic_group t) p = opens t p
  opens (absent_repeater t) p = opens t p
  opens (absent_stopper t) p = opens t p
  opens (define_group t) p = opens t p
  opens (concat ts) p = all_open ts p
  opens (alt ts) p = all_open ts p
  opens (group t) p = ap (λ (names : Names). None ∷ names) (opens t p) ∙ unnamed_more (group_count (nameless_tree t))
  opens (ast_group None t position) p = ap (λ (names : Names). None ∷ names) (opens t p) ∙ unnamed_more (group_count (nameless_tree t))
  opens (ast_group (Some name) t position) p = absurd (false≢true p)
  opens (conditional c a b) p =
      let parts = and_parts (is_resolved (nameless_tree c) && is_resolved (nameless_tree a)) (is_resolved (nameless_tree b)) p in
      let two = and_parts (is_resolved (nameless_tree c)) (is_resolved (nameless_tree a)) parts.0 in
      unnamed_two (nodes c) (nodes a ++ nodes b) (group_count (nameless_tree c)) (group_count (nameless_tree a) + group_count (nameless_tree b)) (opens c two.0)
      (unnamed_two (nodes a) (nodes b) (group_count (nameless_tree a)) (group_count (nameless_tree b)) (opens a two.1) (opens b parts.1))
  opens (absent_expression a t) p =
      let parts = and_parts (is_resolved (nameless_tree a)) (is_resolved (nameless_tree t)) p in
      unnamed_two (nodes a) (nodes t) (group_count (nameless_tree a)) (group_count (nameless_tree t)) (opens a parts.0) (opens t parts.1)

  all_open : (ts : Trees) → are_resolved (nameless_trees ts) ≡ true → filter_map opening_of (all_nodes ts) ≡ unnamed (row_group_count (nameless_trees ts))
  all_open no_trees p = refl
  all_open (more_trees t ts) p =
      let parts = and_parts (is_resolved (nameless_tree t)) (are_resolved (nameless_trees ts)) p in
      unnamed_two (nodes t) (all_nodes ts) (group_count (nameless_tree t)) (row_group_count (nameless_trees ts)) (opens t parts.0) (all_open ts parts.1)

all_count : (n : ℕ) → counted false (unnamed n) ≡ unnamed n
all_count zero = refl
all_count (suc n) = ap (λ (names : Names). None ∷ names) (all_count n)

none_named : (n : ℕ) → list_any is_some (unnamed n) ≡ false
none_named zero = refl
none_named (suc n) = none_named n

ignores_none : (b : Bool) (n : ℕ) → (b && list_any is_some (unnamed n)) ≡ false
ignores_none true n = none_named n
ignores_none false n = refl

abbrev finish_with : Tree → Bool → Names → Result Parsed PositionedFault
finish_with tree ignored names = resolved ignored (last_named names) 0 tree ⨟ λ found. Ok (record { tree = found.0; names = names; unresolved = tree; ignored = ignored })

pub finishes : (o : Options) (tree form : Tree) → nameless_tree tree ≡ form → is_resolved form ≡ true →
    resolve_references o tree ≡ Ok (record { tree = form; names = replicate (group_count form) None; unresolved = tree; ignored = false })
finishes o tree form is p =
    let count = group_count form in
    let here : is_resolved (nameless_tree tree) ≡ true = ap is_resolved is ∙ p in
    let same : with_groups_resolved tree ≡ form = counted_is tree here ∙ is in
    let found : openings tree ≡ unnamed count = opens tree here ∙ ap (λ (t : Tree). unnamed (group_count t)) is in
    let ignored : ignores o (openings tree) ≡ false = ap (ignores o) found ∙ ignores_none o.ignore_numbered count in
    let names : counted (ignores o (openings tree)) (openings tree) ≡ unnamed count = (λ i. counted (ignored i) (found i)) ∙ all_count count in
    (λ i. finish_with tree (ignored i) (names i))
    ∙ ap (λ (r : Numbered). r ⨟ λ (e : Tree × ℕ). Ok (record { tree = e.0; names = unnamed count; unresolved = tree; ignored = false }))
    (numbered (last_named (unnamed count)) 0 tree (ap is_resolved same ∙ p))
    ∙ ap (λ (t : Tree). Ok (record { tree = t; names = unnamed count; unresolved = tree; ignored = false })) same

-- a row of resolved pieces
row_resolved : (ts : Trees) → are_resolved ts ≡ true → is_resolved (row_of ts) ≡ true
unfolding row_of is_resolved
row_resolved no_trees p = refl
row_resolved (more_trees t no_trees) p = (and_parts (is_resolved t) true p).0
row_resolved (more_trees t (more_trees u ts)) p = p

both : (a b : Bool) → a ≡ true → b ≡ true → (a && b) ≡ true
both a b h k = rw (h, k) refl

at_form : (s : NormalFormKind) (t : Tree) (ts : Trees) → is_resolved t ≡ true → are_resolved ts ≡ true →
    are_resolved (elim s [ Empty ↦ ts | Anchor ↦ more_trees t ts | Repeatable ↦ more_trees t ts ]) ≡ true
unfolding is_resolved
at_form Empty t ts p q = q
at_form Anchor t ts p q = both (is_resolved t) (are_resolved ts) p q
at_form Repeatable t ts p q = both (is_resolved t) (are_resolved ts) p q

with_resolved : (t : Tree) (ts : Trees) → is_resolved t ≡ true → are_resolved ts ≡ true → are_resolved (with_piece t ts) ≡ true
unfolding with_piece
with_resolved t ts p q = at_form (node_kind t) t ts p q

mutual
  unfolding normal_form is_printable is_resolved

  pub form_resolved : (t : Tree) → is_printable t ≡ true → is_resolved (normal_form t) ≡ true
  form_resolved empty p = refl
  form_resolved (any a b) p = refl
  form_resolved (assertion a) p = refl
  form_resolved (literal a b) p = refl
  form_resolved (delegate a b) p = refl
  form_resolved (concat ts) p = row_resolved (normal_pieces ts) (pieces_resolved ts p)
  form_resolved (alt ts) p = branches_resolved ts (and_parts (has_two_branches ts) (are_printable ts) p).1
  form_resolved (group t) p = form_resolved t p
  form_resolved (repeat t lo hi greedy) p = form_resolved t (and_parts _ (is_printable t) p).1
  form_resolved (general_newline a) p = absurd (false≢true p)
  form_resolved (literal_bytes a) p = absurd (false≢true p)
  form_resolved (look_around a b) p = absurd (false≢true p)
  form_resolved (backref a b) p = absurd (false≢true p)
  form_resolved (backref_with_level a b d) p = absurd (false≢true p)
  form_resolved (atomic_group a) p = absurd (false≢true p)
  form_resolved keep_out p = absurd (false≢true p)
  form_resolved continue p = absurd (false≢true p)
  form_resolved (backref_exists a b) p = absurd (false≢true p)
  form_resolved (conditional a b d) p = absurd (false≢true p)
  form_resolved (subroutine_call a) p = absurd (false≢true p)
  form_resolved (verb a) p = absurd (false≢true p)
  form_resolved (absent_repeater a) p = absurd (false≢true p)
  form_resolved (absent_expression a b) p = absurd (false≢true p)
  form_resolved (absent_stopper a) p = absurd (false≢true p)
  form_resolved absent_clear p = absurd (false≢true p)
  form_resolved (define_group a) p = absurd (false≢true p)
  form_resolved (ast_group a b d) p = absurd (false≢true p)
  form_resolved (ast_backref a b d e) p = absurd (false≢true p)
  form_resolved (ast_call a b) p = absurd (false≢true p)
  form_resolved (ast_condition a b d) p = absurd (false≢true p)

  pieces_resolved : (ts : Trees) → are_printable ts ≡ true → are_resolved (normal_pieces ts) ≡ true
  pieces_resolved no_trees p = refl
  pieces_resolved (more_trees t ts) p =
      let parts = and_parts (is_printable t) (are_printable ts) p in
      with_resolved (normal_form t) (normal_pieces ts) (form_resolved t parts.0) (pieces_resolved ts parts.1)

  branches_resolved : (ts : Trees) → are_printable ts ≡ true → are_resolved (normal_branches ts) ≡ true
  branches_resolved no_trees p = refl
  branches_resolved (more_trees t ts) p =
      let parts = and_parts (is_printable t) (are_printable ts) p in
      both (is_resolved (normal_form t)) (are_resolved (normal_branches ts)) (form_resolved t parts.0) (branches_resolved ts parts.1)
