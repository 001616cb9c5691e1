-- The translation of a list of trees, one by one.
use Rattle.std.proofs.Common.{◌≡◌, ◌≢◌, ◌==◌, not, zero, suc, ℕ, ◌+◌, ◌<◌, ◌≤◌, ◌||◌, ◌&&◌, Bool, true, false, true≢false, List, [], ◌∷◌, ◌++◌, length, map, take, get_or, refl, sym, ap, ap₂, ◌∙◌, arith, length-append, ne_eqb, Option, None, IfSome, Result, Ok, Err, IfOk, Vec, Global}
use Rattle.std.proofs.lemmas.List.{take_more, take_all, map-append, append_assoc, append-nil}
use Rattle.std.specs.List.{Contains}
use Rattle.std.proofs.lemmas.List.Elements.{All-nil, All-cons, All-append, Contains-append_left, Contains-append_right}
use Rattle.std.proofs.Math.Bool.{or_assoc, and_assoc, and-true}
use Rattle.regex_class.proofs.RangesLemmas.{or-false}
use Rattle.fancy_regex_tree.specs.Tree as tree
use Rattle.fancy_regex_tree.specs.Tree.{Tree, Trees, Text, any, literal, delegate, no_trees, trees, tree_of, conditional}
use Rattle.fancy_regex_tree.specs.declared.expr.LookAround.{LookAround}
use Rattle.fancy_regex_tree.specs.declared.expr.Expr.{Expr}
use Rattle.fancy_regex_meaning.specs.Groups.{group_count, row_group_count}
use Rattle.fancy_regex_meaning.specs.Sizes.{size}
use Rattle.fancy_regex_meaning.specs.Sizes as sizes
use Rattle.fancy_regex_class.specs.declared.class.CharClassMatcher.{CharClassMatcher}
use Rattle.fancy_regex_class.specs.Matchers.{IsMatcherOf}
use Rattle.fancy_regex_info.specs.declared.error.CompileError.{CompileError}
use Rattle.fancy_regex_info.specs.declared.error.CompileError.TheVariants.{InnerError, Memory}
use Rattle.fancy_regex_linear.specs.Re as re
use Rattle.fancy_regex_linear.specs.Re.{Re, cats, alts, cat, alt, shape, shapes}
use Rattle.fancy_regex_linear.specs.declared.node.Node.{Node}
use Rattle.fancy_regex_linear.specs.Program.{IsSound, never_empty}
use Rattle.fancy_regex_linear.specs.Plain.{IsOneChar, IsPlain, ArePlain, IsRegular, AreRegular, joined, is_negated_look, is_look_behind, look_test, char_leaf, classes, row_classes, re_of, row_of, branches_of, around, each_around}
use Rattle.fancy_regex_linear.specs.Easy.{HaveMatchers}
use Rattle.fancy_regex_states.specs.declared.atom.Leaf.{Leaf}
use Rattle.fancy_regex_linear.specs.Refusals.{IsRead, IsClassCause}
use Rattle.fancy_regex_linear.specs.Translation.{all_trees, IsWritable, AreWritable, called_in, TreePattern, around_tree, Extends, row_list, all_move, AreSound, BuildsRow}
use Rattle.fancy_regex_linear.specs.declared.build.Translator.{Translator}
use Rattle.fancy_regex_linear.specs.declared.callee.Callee.{Callee}
use Rattle.fancy_regex_info.specs.declared.size.Size.{Size}
use Rattle.fancy_regex_info.specs.AnalysisRelations.{AreCallSizes}
use Rattle.fancy_regex_linear.proofs.PlainLemmas.{AllOf, IsStill}
use Rattle.fancy_regex_linear.proofs.PartLemmas.{IsOnePart}

-- what follows of what was answered
pub if_ok : {X E : Type 0} {P Q : X → Type 0} (r : Result X E) → ((x : X) → P x → Q x) → IfOk r P → IfOk r Q
if_ok (Ok x) f h = f x h
if_ok (Err e) f h = tt

-- where a row with one more tree becomes a pattern with parts, so do both
regular_more : (ts : List Tree) (t : Tree) → AreWritable (trees (ts ++ t ∷ [])) → AreWritable (trees ts) × IsWritable t
regular_more [] t p = (tt, p.0)
regular_more (u ∷ ts) t p = let rest = regular_more ts t p.1 in ((p.0, rest.0), rest.1)

pub regular_added : (resets : Bool) (called : ℕ → Type 0) (ts : List Tree) (t : Tree) → AreRegular resets called (trees ts) → IsRegular resets called t
    → AreRegular resets called (trees (ts ++ t ∷ []))
regular_added resets called [] t ps p = (p, tt)
regular_added resets called (u ∷ ts) t ps p = (ps.0, regular_added resets called ts t ps.1 p)

-- a row with one more tree is plain if both are
plain_added : (ts : List Tree) (t : Tree) → ArePlain (trees ts) → IsPlain t → ArePlain (trees (ts ++ t ∷ []))
plain_added [] t ps p = (p, tt)
plain_added (u ∷ ts) t ps p = (ps.0, plain_added ts t ps.1 p)

-- a look-around for one character is the test of it
pub look_is : (unicode : Bool) (groups : List Tree) (called : ℕ → Re) (n k : ℕ) (t : Tree) (how : LookAround) (leaf : Option Leaf) (made body : Re) → IsOneChar t
    → leaf ≡ char_leaf unicode k t → IfSome leaf (λ l. made ≡ re.test (look_test how l)) → made ≡ around unicode groups called n k how body t
unfolding around
look_is unicode groups called n k (any newline crlf) how leaf made body one is h = rw is at h
look_is unicode groups called n k (literal val casei) how leaf made body one is h = rw is at h
look_is unicode groups called n k (delegate class casei) how leaf made body one is h = rw is at h
look_is unicode groups called n k _ how leaf made body one is h = absurd one

-- one over another tree asks a part, or is one of its branches in a look-behind
module _ (unicode : Bool) (groups : List Tree) (called : ℕ → Re) (n k : ℕ) (how : LookAround) (body : Re) where
  -- a look-ahead asks it from here
  pub ahead_is : (t : Tree) → char_leaf unicode k t ≡ None → is_look_behind how ≡ false
      → re.ask (is_negated_look how) 0 body ≡ around unicode groups called n k how body t
  unfolding around
  ahead_is (any newline crlf) none ahead = cc
  ahead_is (literal val casei) none ahead = cc
  ahead_is (delegate class casei) none ahead = cc
  ahead_is _ none ahead = rw ahead refl

  -- a look-behind asks it from so many characters before
  pub behind_is : (t : Tree) (s : sizes.Size) → char_leaf unicode k t ≡ None → is_look_behind how ≡ true → s ≡ size groups t → IsOnePart s.always t
      → re.ask (is_negated_look how) s.least body ≡ around unicode groups called n k how body t
  unfolding around
  behind_is (any newline crlf) s none behind is one = cc
  behind_is (literal val casei) s none behind is one = cc
  behind_is (delegate class casei) s none behind is one = cc
  behind_is (tree.alt ts) s none behind is one = rw (behind, ← is, one) refl
  behind_is _ s none behind is one = rw (behind, ← is) refl

  -- or looks for each branch
  pub each_behind : (ts : Trees) (s : sizes.Size) → is_look_behind how ≡ true → s ≡ size groups (tree.alt ts) → s.always ≡ false
      → joined (is_negated_look how) (each_around unicode groups called n k how ts) ≡ around unicode groups called n k how body (tree.alt ts)
  unfolding around
  each_behind ts s behind is more = rw (behind, ← is, more) refl

-- one more tree of a row
pub trees_more : (es : List Expr) (i : ℕ) (x : Expr) → i < length es → x ≡ get_or es i x
    → map tree_of (take (i + 1) es) ≡ map tree_of (take i es) ++ tree_of x ∷ []
trees_more es i x h e =
    ap (map tree_of) (take_more es i x h ∙ ap (λ y. take i es ++ y ∷ []) (sym e)) ∙ map-append tree_of (take i es) (x ∷ [])

module _ (unicode : Bool) where
  serve_more : (ms : List CharClassMatcher) (cs : List (Text × Bool)) (m : CharClassMatcher) (c : Text × Bool) → HaveMatchers unicode ms cs
      → IsMatcherOf m unicode c.0 c.1 → HaveMatchers unicode (ms ++ m ∷ []) (cs ++ c ∷ [])
  serve_more [] [] m c s h = (h, tt)
  serve_more (n ∷ ms) (d ∷ cs) m c s h = (s.0, serve_more ms cs m c s.1 h)
  serve_more [] (d ∷ cs) m c s h = absurd s
  serve_more (n ∷ ms) [] m c s h = absurd s

  -- one more matcher
  pub extends_more : (ms : List CharClassMatcher) (m : CharClassMatcher) (class : Text) (casei : Bool) → IsMatcherOf m unicode class casei
      → IsRead unicode (class, casei) → Extends unicode ms (ms ++ m ∷ []) ((class, casei) ∷ [])
  extends_more ms m class casei h r = record {
    count = length-append ms (m ∷ []);
    serve = λ ds s. serve_more ms ds m (class, casei) s h;
    read = All-cons (IsRead unicode) (class, casei) [] r (All-nil (IsRead unicode));
  }

  -- no matcher more
  pub extends_none : (ms : List CharClassMatcher) (cs : List (Text × Bool)) → cs ≡ [] → Extends unicode ms ms cs
  extends_none ms cs none =
      rw none (record { count = omega arith; serve = λ ds s. rw (append-nil ds) s; read = All-nil (IsRead unicode) })

  -- first these classes, and then those
  pub extends_both : (a b c : List CharClassMatcher) (cs ds : List (Text × Bool)) → Extends unicode a b cs → Extends unicode b c ds
      → Extends unicode a c (cs ++ ds)
  extends_both a b c cs ds x y = record {
    count = omega (arith, x.count, y.count, length-append cs ds);
    serve = λ es s. rw (← append_assoc es cs ds) (y.serve (es ++ cs) (x.serve es s));
    read = All-append (IsRead unicode) cs ds x.read y.read;
  }

-- all trees of a row are plain, tree by tree
pub plain_step : (es : List Expr) (i : ℕ) (e : Expr) → i < length es → e ≡ get_or es i e → ArePlain (trees (map tree_of (take i es))) → IsPlain (tree_of e)
    → ArePlain (trees (map tree_of (take (i + 1) es)))
plain_step es i e h is done one = rw (trees_more es i e h is) (plain_added (map tree_of (take i es)) (tree_of e) done one)

pub plain_whole : (es : List Expr) (i : ℕ) → length es ≤ i → ArePlain (trees (map tree_of (take i es))) → ArePlain (all_trees es)
plain_whole es i h done = rw (take_all i es h) at done

-- the same of trees that become patterns with parts
pub regular_step : (resets : Bool) (called : ℕ → Type 0) (es : List Expr) (i : ℕ) (e : Expr) → i < length es → e ≡ get_or es i e
    → AreRegular resets called (trees (map tree_of (take i es))) → IsRegular resets called (tree_of e)
    → AreRegular resets called (trees (map tree_of (take (i + 1) es)))
regular_step resets called es i e h is done one =
    rw (trees_more es i e h is) (regular_added resets called (map tree_of (take i es)) (tree_of e) done one)

pub regular_whole : (resets : Bool) (called : ℕ → Type 0) (es : List Expr) (i : ℕ) → length es ≤ i
    → AreRegular resets called (trees (map tree_of (take i es))) → AreRegular resets called (all_trees es)
regular_whole resets called es i h done = rw (take_all i es h) at done

-- three tests
pub three_hold : (a b c : Bool) → (a && b && c) ≡ true → (a ≡ true) × ((b ≡ true) × (c ≡ true))
three_hold true true true h = (refl, (refl, refl))
three_hold true true false h = absurd (true≢false (sym h))
three_hold true false c h = absurd (true≢false (sym h))
three_hold false b c h = absurd (true≢false (sym h))

pub three_fail : (a b c : Bool) → (a && b && c) ≡ false → (a ≡ false → ⊥) → (b ≡ false → ⊥) → (c ≡ false → ⊥) → ⊥
three_fail true true true h x y z = true≢false h
three_fail true true false h x y z = z refl
three_fail true false c h x y z = y refl
three_fail false b c h x y z = x refl

pub some_trees : (es : List Expr) → (length es == 0) ≡ false → all_trees es ≢ no_trees
some_trees [] h e = absurd (true≢false h)
some_trees (x ∷ xs) h e = cc

-- the groups and classes of a row, with one more tree
pub groups_more : (ts : List Tree) (t : Tree) → row_group_count (trees (ts ++ t ∷ [])) ≡ row_group_count (trees ts) + group_count t
unfolding group_count
groups_more [] t = omega arith
groups_more (u ∷ ts) t = omega (arith, groups_more ts t)

pub classes_more : (ts : List Tree) (t : Tree) → row_classes (trees (ts ++ t ∷ [])) ≡ row_classes (trees ts) ++ classes t
unfolding classes
classes_more [] t = append-nil (classes t)
classes_more (u ∷ ts) t =
    ap (λ cs. classes u ++ cs) (classes_more ts t) ∙ sym (append_assoc (classes u) (row_classes (trees ts)) (classes t))

module _ (one : TreePattern) (unicode : Bool) (groups : List Tree) (called : ℕ → Re) where
  pub list_more : (ts : List Tree) (t : Tree) (n k : ℕ)
      → row_list one unicode groups called n k (ts ++ t ∷ [])
      ≡ row_list one unicode groups called n k ts ++ one unicode groups called (n + row_group_count (trees ts)) (k + length (row_classes (trees ts))) t ∷ []
  unfolding row_list group_count classes
  list_more [] t n k =
      let a : n ≡ n + 0 = omega arith in
      let b : k ≡ k + 0 = omega arith in
      ap₂ (λ (x y : ℕ). one unicode groups called x y t ∷ []) a b
  list_more (u ∷ ts) t n k =
      let a : n + group_count u + row_group_count (trees ts) ≡ n + (group_count u + row_group_count (trees ts)) = omega arith in
      let b : k + length (classes u) + length (row_classes (trees ts)) ≡ k + length (classes u ++ row_classes (trees ts)) =
      omega (arith, length-append (classes u) (row_classes (trees ts))) in
      ap (λ xs. one unicode groups called n k u ∷ xs)
      (list_more ts t (n + group_count u) (k + length (classes u))
      ∙ ap₂ (λ (x y : ℕ). row_list one unicode groups called (n + group_count u) (k + length (classes u)) ts ++ one unicode groups called x y t ∷ []) a b)

module _ (unicode : Bool) (groups : List Tree) (called : ℕ → Re) where
  -- a row, the branches of an alternation, and the look-behinds for such branches
  pub row_is : (ts : List Tree) (n k : ℕ) → cats (row_list re_of unicode groups called n k ts) ≡ row_of unicode groups called n k (trees ts)
  unfolding row_list re_of
  row_is [] n k = refl
  row_is (t ∷ ts) n k = ap (cat (re_of unicode groups called n k t)) (row_is ts _ _)

  pub branches_is : (ts : List Tree) (n k : ℕ) → alts (row_list re_of unicode groups called n k ts) ≡ branches_of unicode groups called n k (trees ts)
  unfolding row_list re_of
  branches_is [] n k = refl
  branches_is (t ∷ []) n k = refl
  branches_is (t ∷ u ∷ ts) n k = ap (alt (re_of unicode groups called n k t)) (branches_is (u ∷ ts) _ _)

  pub each_is : (how : LookAround) (ts : List Tree) (n k : ℕ) → row_list (around_tree how) unicode groups called n k ts ≡ each_around unicode groups called n k how (trees ts)
  unfolding row_list each_around
  each_is how [] n k = refl
  each_is how (t ∷ ts) n k = ap (λ xs. around unicode groups called n k how (re_of unicode groups called n k t) t ∷ xs) (each_is how ts _ _)

-- a concatenation consumes a character if one of its children does
pub row_moves : (xs : List Re) (x : Re) → never_empty (cats (xs ++ x ∷ [])) ≡ (never_empty (cats xs) || never_empty x)
row_moves [] x = or-false (never_empty x)
row_moves (y ∷ xs) x =
    ap (λ b. never_empty y || b) (row_moves xs x) ∙ sym (or_assoc (never_empty y) (never_empty (cats xs)) (never_empty x))

-- branches do if each of them does
pub all_moves : (xs : List Re) (x : Re) → all_move (xs ++ x ∷ []) ≡ (all_move xs && never_empty x)
unfolding all_move
all_moves [] x = and-true (never_empty x)
all_moves (y ∷ xs) x = ap (λ b. never_empty y && b) (all_moves xs x) ∙ sym (and_assoc (never_empty y) (all_move xs) (never_empty x))

each_branch : (x : Re) (xs : List Re) → never_empty (alts (x ∷ xs)) ≡ all_move (x ∷ xs)
unfolding all_move
each_branch x [] = sym (and-true (never_empty x))
each_branch x (y ∷ ys) = ap (λ b. never_empty x && b) (each_branch y ys)

pub branches_move : (xs : List Re) → never_empty (alts xs) ≡ (all_move xs && not (length xs == 0))
unfolding all_move
branches_move [] = refl
branches_move (x ∷ xs) =
    each_branch x xs ∙ sym (ap (λ b. all_move (x ∷ xs) && not b) (ne_eqb (suc (length xs)) 0 (omega arith)) ∙ and-true (all_move (x ∷ xs)))

-- one more sound pattern
sound_more : (xs : List Re) (x : Re) → AreSound xs → IsSound x → AreSound (xs ++ x ∷ [])
sound_more [] x h k = (k, tt)
sound_more (y ∷ ys) x h k = (h.0, sound_more ys x h.1 k)

-- a row, and branches, are sound if each of their parts is
pub row_sound : (xs : List Re) → AreSound xs → IsSound (cats xs)
row_sound [] h = tt
row_sound (x ∷ xs) h = (h.0, row_sound xs h.1)

pub branches_sound : (xs : List Re) → AreSound xs → IsSound (alts xs)
branches_sound [] h = tt
branches_sound (x ∷ []) h = h.0
branches_sound (x ∷ y ∷ ys) h = (h.0, branches_sound (y ∷ ys) h.1)

-- a class of one tree of a row is a class of the row
class_in : (es : List Expr) (i : ℕ) (x : Expr) (c : Text × Bool) → i < length es → Contains (classes (tree_of (get_or es i x))) c
    → Contains (row_classes (all_trees es)) c
unfolding classes
class_in [] i x c h there = absurd (omega arith)
class_in (e ∷ es) zero x c h there = Contains-append_left (classes (tree_of e)) (row_classes (all_trees es)) c there
class_in (e ∷ es) (suc i) x c h there =
    Contains-append_right (classes (tree_of e)) (row_classes (all_trees es)) c (class_in es i x c (omega arith) there)

-- a cause among some classes is one among more of them
cause_more : (unicode : Bool) (cs ds : List (Text × Bool)) (error : CompileError) → ((c : Text × Bool) → Contains cs c → Contains ds c)
    → IsClassCause unicode cs error → IsClassCause unicode ds error
cause_more unicode cs ds (InnerError shown) into h =
    record { class = h.class; is_there = into h.class h.is_there; is_shown = h.is_shown; refused = h.refused }
cause_more unicode cs ds Memory into h = tt
cause_more unicode cs ds _ into h = absurd h

pub cause_in_row : (unicode : Bool) (es : List Expr) (i : ℕ) (x : Expr) (error : CompileError) → i < length es → x ≡ get_or es i x
    → IsClassCause unicode (classes (tree_of x)) error → IsClassCause unicode (row_classes (all_trees es)) error
cause_in_row unicode es i x error h is cause =
    cause_more unicode (classes (tree_of x)) (row_classes (all_trees es)) error (λ c there. class_in es i x c h (rw is at there)) cause

-- no tree of a row was walked over
pub row_none : (one : TreePattern) (translator : Translator) → BuildsRow one translator translator [] []
unfolding row_list group_count classes
row_none one translator = record {
  unicode = refl;
  tables = (refl, refl);
  matchers = record { count = omega arith; serve = λ ds s. rw (append-nil ds) s; read = All-nil (IsRead translator.unicode) };
  sound = tt;
  groups = λ regular. omega arith;
  patterns = λ regular groups sized. refl;
}

-- what one tree becomes, by the tables of a translator
abbrev pub IsOneBy : TreePattern → Translator → Tree → Re → Type 0
IsOneBy one translator t x =
    IsWritable t → (groups : List Tree) → AreCallSizes groups translator.sizes.items
    → x ≡ one translator.unicode groups (called_in translator.called.items) translator.next_group (length translator.matchers.items) t

-- one more was
pub row_step : (one : TreePattern) (before mid after : Translator) (ts : List Tree) (xs : List Re) (t : Tree) (x : Re) → BuildsRow one before mid ts xs
    → after.unicode ≡ mid.unicode → (after.sizes ≡ mid.sizes) × (after.called ≡ mid.called)
    → (IsWritable t → after.next_group ≡ mid.next_group + group_count t)
    → Extends mid.unicode mid.matchers.items after.matchers.items (classes t) → IsSound x → IsOneBy one mid t x
    → BuildsRow one before after (ts ++ t ∷ []) (xs ++ x ∷ [])
row_step one before mid after ts xs t x done unicode tables groups matchers sound pattern =
    let more : Extends before.unicode mid.matchers.items after.matchers.items (classes t) = rw done.unicode at matchers in
    record {
      unicode = unicode ∙ done.unicode;
      tables = (tables.0 ∙ done.tables.0, tables.1 ∙ done.tables.1);
      matchers = rw (classes_more ts t) (extends_both before.unicode _ _ _ (row_classes (trees ts)) (classes t) done.matchers more);
      sound = sound_more xs x done.sound sound;
      groups = λ regular. let both = regular_more ts t regular in omega (arith, groups both.1, done.groups both.0, groups_more ts t);
      patterns = λ regular gs sized.
          let both = regular_more ts t regular in
          let calls = called_in before.called.items in
          ap₂ (λ (ys : List Re) (y : Re). ys ++ y ∷ []) (done.patterns both.0 gs sized)
          (pattern both.1 gs (rw done.tables.0 sized)
          ∙ ap₂ (λ (b : Bool) (called : Vec (Option Callee) Global). one b gs (called_in called.items) mid.next_group (length mid.matchers.items) t) done.unicode done.tables.1
          ∙ ap₂ (λ (a b : ℕ). one before.unicode gs calls a b t) (done.groups both.0) done.matchers.count)
          ∙ sym (list_more one before.unicode gs calls ts t before.next_group (length before.matchers.items));
    }

-- the same of the nodes of expressions
pub nodes_step : (one : TreePattern) (before mid after : Translator) (es : List Expr) (i : ℕ) (e : Expr) (nodes now : List Node) (node : Node) → i < length es
    → e ≡ get_or es i e → now ≡ nodes ++ node ∷ [] → BuildsRow one before mid (map tree_of (take i es)) (shapes nodes)
    → after.unicode ≡ mid.unicode → (after.sizes ≡ mid.sizes) × (after.called ≡ mid.called)
    → (IsWritable (tree_of e) → after.next_group ≡ mid.next_group + group_count (tree_of e))
    → Extends mid.unicode mid.matchers.items after.matchers.items (classes (tree_of e)) → IsSound (shape node)
    → IsOneBy one mid (tree_of e) (shape node)
    → BuildsRow one before after (map tree_of (take (i + 1) es)) (shapes now)
nodes_step one before mid after es i e nodes now node h is added done unicode tables groups matchers sound pattern =
    rw (trees_more es i e h is, added, map-append shape nodes (node ∷ []))
    (row_step one before mid after (map tree_of (take i es)) (shapes nodes) (tree_of e) (shape node) done unicode tables groups matchers sound pattern)

-- all of them were
pub row_whole : (one : TreePattern) (before after : Translator) (es : List Expr) (i : ℕ) (xs : List Re) → length es ≤ i
    → BuildsRow one before after (map tree_of (take i es)) xs → BuildsRow one before after (map tree_of es) xs
row_whole one before after es i xs h done = rw (take_all i es h) at done

-- one more pattern that is never sure to move
pub still_more : (xs : List Re) (x : Re) → AllOf IsStill xs → never_empty x ≡ false → AllOf IsStill (xs ++ x ∷ [])
still_more [] x h k = (k, tt)
still_more (y ∷ ys) x h k = (h.0, still_more ys x h.1 k)

pub nodes_still : (nodes now : List Node) (node : Node) → now ≡ nodes ++ node ∷ [] → AllOf IsStill (shapes nodes) → never_empty (shape node) ≡ false
    → AllOf IsStill (shapes now)
nodes_still nodes now node added h k = rw (added, map-append shape nodes (node ∷ [])) (still_more (shapes nodes) (shape node) h k)

-- rows of sound patterns, in either form
pub all_sound : (xs : List Re) → AreSound xs → AllOf IsSound xs
all_sound [] h = tt
all_sound (x ∷ xs) h = (h.0, all_sound xs h.1)

-- the three trees of a conditional were translated one after another
module _ (u v w : Bool) (ms ns os : List CharClassMatcher) (c a b : Tree) (same_one : v ≡ u) (same_two : w ≡ v) where
  pub conditional_matchers : (ps : List CharClassMatcher) → Extends u ms ns (classes c) → Extends v ns os (classes a) → Extends w os ps (classes b)
      → Extends u ms ps (classes c ++ (classes a ++ classes b))
  conditional_matchers ps x y z =
      let second : Extends u ns os (classes a) = rw same_one at y in
      let third : Extends u os ps (classes b) = rw (same_two ∙ same_one) at z in
      extends_both u ms ns ps (classes c) (classes a ++ classes b) x (extends_both u ns os ps (classes a) (classes b) second third)

  pub conditional_shape : (sizes_1 sizes_2 sizes_3 : Vec Size Global) (called_1 called_2 called_3 : Vec (Option Callee) Global)
      → (sizes_2 ≡ sizes_1) × (called_2 ≡ called_1) → (sizes_3 ≡ sizes_2) × (called_3 ≡ called_2)
      → (i j l : ℕ) (x y z : Re) → IsWritable (conditional c a b)
      → (IsWritable c → j ≡ i + group_count c) → (IsWritable a → l ≡ j + group_count a)
      → Extends u ms ns (classes c) → Extends v ns os (classes a)
      → (IsWritable c → (groups : List Tree) → AreCallSizes groups sizes_1.items → x ≡ re_of u groups (called_in called_1.items) i (length ms) c)
      → (IsWritable a → (groups : List Tree) → AreCallSizes groups sizes_2.items → y ≡ re_of v groups (called_in called_2.items) j (length ns) a)
      → (IsWritable b → (groups : List Tree) → AreCallSizes groups sizes_3.items → z ≡ re_of w groups (called_in called_3.items) l (length os) b)
      → (groups : List Tree) → AreCallSizes groups sizes_1.items
      → re.conditional x y z ≡ re_of u groups (called_in called_1.items) i (length ms) (conditional c a b)
  unfolding re_of
  conditional_shape sizes_1 sizes_2 sizes_3 called_1 called_2 called_3 tables_1 tables_2 i j l x y z p counted counted_two adds adds_two is_x is_y is_z groups sized =
      let after : l ≡ i + group_count c + group_count a = omega (arith, counted p.0, counted_two p.1.0) in
      let most : length os ≡ length ms + length (classes c) + length (classes a) = omega (arith, adds.count, adds_two.count) in
      let calls = called_in called_1.items in
      ap (λ e. re.conditional e y z) (is_x p.0 groups sized)
      ∙ ap₂ (λ e f. re.conditional (re_of u groups calls i (length ms) c) e f)
      (is_y p.1.0 groups (rw tables_1.0 sized)
      ∙ ap₂ (λ (m : Bool) (called : Vec (Option Callee) Global). re_of m groups (called_in called.items) j (length ns) a) same_one tables_1.1
      ∙ ap₂ (λ (m n : ℕ). re_of u groups calls m n a) (counted p.0) adds.count)
      (is_z p.1.1 groups (rw (tables_2.0 ∙ tables_1.0) sized)
      ∙ ap₂ (λ (m : Bool) (called : Vec (Option Callee) Global). re_of m groups (called_in called.items) l (length os) b) (same_two ∙ same_one) (tables_2.1 ∙ tables_1.1)
      ∙ ap₂ (λ (m n : ℕ). re_of u groups calls m n b) after most)

-- why one of the three has no matcher for each class
module _ (unicode : Bool) (xs ys zs : List (Text × Bool)) (error : CompileError) where
  pub cause_in_condition : IsClassCause unicode xs error → IsClassCause unicode (xs ++ (ys ++ zs)) error
  cause_in_condition = cause_more unicode xs (xs ++ (ys ++ zs)) error (λ c there. Contains-append_left xs (ys ++ zs) c there)

  pub cause_in_yes : IsClassCause unicode ys error → IsClassCause unicode (xs ++ (ys ++ zs)) error
  cause_in_yes =
      cause_more unicode ys (xs ++ (ys ++ zs)) error (λ c there. Contains-append_right xs (ys ++ zs) c (Contains-append_left ys zs c there))

  pub cause_in_no : IsClassCause unicode zs error → IsClassCause unicode (xs ++ (ys ++ zs)) error
  cause_in_no =
      cause_more unicode zs (xs ++ (ys ++ zs)) error (λ c there. Contains-append_right xs (ys ++ zs) c (Contains-append_right ys zs c there))
