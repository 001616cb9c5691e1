-- What calls become, one level more: the bodies of the groups that are called were translated.
use Rattle.std.proofs.Common.{◌≡◌, ◌∙◌, ℕ, zero, suc, ◌+◌, ◌-◌, ◌<◌, Bool, true, false, true≢false, List, [], ◌∷◌, ◌++◌, length, map, get_or, slice_get, Option, Some, None, Bor, Vec, Global, refl, sym, ap, ap₂, subst, zero-add, arith}
use Rattle.std.proofs.lemmas.List.{append_assoc, append-nil, length-map}
use Rattle.fancy_regex_tree.specs.Tree.{Tree, Text}
use Rattle.fancy_regex_tree.specs.declared.expr.Expr.{Expr}
use Rattle.fancy_regex_meaning.specs.Sizes.{target}
use Rattle.fancy_regex_class.specs.declared.class.CharClassMatcher.{CharClassMatcher}
use Rattle.fancy_regex_info.specs.AnalysisRelations.{AreCallSizes, mark_at}
use Rattle.fancy_regex_info.specs.Views.{body_tree}
use Rattle.fancy_regex_info.specs.declared.error.CompileError.{CompileError}
use Rattle.fancy_regex_info.specs.declared.error.CompileError.TheVariants.{InnerError, Memory}
use Rattle.fancy_regex_info.proofs.TableLemmas.{body_at}
use Rattle.fancy_regex_linear.specs.Re.{shape}
use Rattle.fancy_regex_linear.specs.Plain.{IsRegular, classes, re_of}
use Rattle.fancy_regex_linear.specs.Calls.{greatest_nesting, AreAt, IsCallable, IsOfBody, IsCalled}
use Rattle.fancy_regex_linear.specs.CalledClasses.{IsBodyCause}
use Rattle.fancy_regex_linear.specs.CallMarks.{AllMarked, FollowsMarks, marks_at, AreLevels, AreCalled, AreKnown, IsCalleeOf, MakesLevel, WritesCalls}
use Rattle.fancy_regex_linear.specs.Easy.{HaveMatchers}
use Rattle.fancy_regex_linear.specs.Refusals.{ShowsClass, IsClassCause}
use Rattle.fancy_regex_linear.specs.Translation.{made_of, called_in, is_known, is_made}
use Rattle.fancy_regex_linear.specs.declared.build.Translator.{Translator}
use Rattle.fancy_regex_linear.specs.declared.callee.Callee.{Callee}
use Rattle.fancy_regex_linear.proofs.PlainLemmas.{regular_into, regular_both}
use Rattle.fancy_regex_linear.proofs.KeepLemmas.{regular_true, regular_as}
use Rattle.fancy_regex_linear.proofs.ApartLemmas.{of_some, some_body}
use Rattle.fancy_regex_linear.proofs.CallTableLemmas.{called_on}
use Rattle.fancy_regex_linear.proofs.MarkLemmas.{body_same, body_inside, table_more}

-- there are as many matchers as classes
pub have_count : (unicode : Bool) (ms : List CharClassMatcher) (cs : List (Text × Bool)) → HaveMatchers unicode ms cs → length ms ≡ length cs
have_count unicode [] [] h = refl
have_count unicode (m ∷ ms) (c ∷ cs) h = omega (arith, have_count unicode ms cs h.1)
have_count unicode [] (c ∷ cs) h = absurd h
have_count unicode (m ∷ ms) [] h = absurd h

-- the classes that were appended last stand after the others
get_right : (xs ys : List (Text × Bool)) (j : ℕ) → slice_get (xs ++ ys) (length xs + j) ≡ slice_get ys j
get_right [] ys j = ap (slice_get ys) (zero-add j)
get_right (x ∷ xs) ys j =
    let one : length (x ∷ xs) + j ≡ suc (length xs + j) = omega arith in ap (slice_get (x ∷ (xs ++ ys))) one ∙ get_right xs ys j

pub stand_last : (cs more : List (Text × Bool)) (k : ℕ) → k ≡ length cs → AreAt (cs ++ more) k more
stand_last cs more k is j h = ap (λ (n : ℕ). slice_get (cs ++ more) (n + j)) is ∙ get_right cs more j

-- what can be called is a group
callable_inside : (gs : List (Bor Expr)) (depth j : ℕ) → IsCallable (map body_tree gs) depth j → j < length gs
unfolding IsCallable
callable_inside gs zero j h = absurd h
callable_inside gs (suc depth) j h =
    let found = some_body (IsRegular false (IsCallable (map body_tree gs) depth)) (target (map body_tree gs) j) h in body_inside gs j found.0 found.1

module _ (gs : List (Bor Expr)) (depth : ℕ) (below : List Bool) (called : List (Option Callee)) (long : length below ≡ length (map body_tree gs))
    (known : AreKnown (map body_tree gs) depth below called) where
  -- a tree with its calls marked is regular by what is known
  pub known_calls : (resets : Bool) (t : Tree) → AllMarked below t → IsRegular resets (IsCallable (map body_tree gs) depth) t
      → IsRegular resets (λ j. is_made called j ≡ true) t
  known_calls resets t all p =
      let groups = map body_tree gs in
      let marked = λ (j : ℕ). mark_at below j ≡ true in
      let inside =
      regular_into (IsCallable groups depth) (λ j. j < length below)
      (λ j h. omega (arith, long, length-map gs body_tree, callable_inside gs depth j h)) true t (regular_true (IsCallable groups depth) resets t p) in
      regular_into (λ j. (mark_at below j ≡ true) × IsCallable groups depth j) (λ j. is_made called j ≡ true) (λ j both. known j both.0 both.1) resets t
      (regular_both marked (IsCallable groups depth) resets t (regular_as marked (IsCallable groups depth) true resets t (all inside) p) p)

module _ (gs : List (Bor Expr)) (marks : List Bool) (before : Translator) where
  -- before the first body
  pub level_begins : MakesLevel (map body_tree gs) marks before before [] 0
  level_begins = record {
    unicode = refl;
    tables = (refl, refl);
    more = [];
    serve = λ cs have. rw (append-nil cs) have;
    called = λ cs depth sized have are j made. absurd (true≢false (sym made));
    known = λ depth below follows are j lt. absurd (omega (arith, lt));
  }

  module _ (known : List Bool) (tells : (j : ℕ) → mark_at known j ≡ is_made before.called.items j) (mid after : Translator) (xs ys : List (Option Callee)) (g : ℕ)
      (e : Bor Expr) (b : Bool) (long : length xs ≡ g) (inside : g < length gs) (is : e ≡ get_or gs g e) (set : b ≡ mark_at marks g)
      (same_unicode : after.unicode ≡ mid.unicode) (same_tables : (after.sizes ≡ mid.sizes) × (after.called ≡ mid.called))
      (level : MakesLevel (map body_tree gs) marks before mid xs g) where
    -- what is known of the group itself
    is_known_of : (made : Option Callee) → Type 0
    is_known_of made = b ≡ true → IsRegular false (λ i. mark_at known i ≡ true) (body_tree e) → is_known (Some made) ≡ true

    step_known : (made : Option Callee) → ys ≡ xs ++ made ∷ [] → (b ≡ true → IsRegular false (λ i. mark_at known i ≡ true) (body_tree e) → is_known (Some made) ≡ true)
        → (depth : ℕ) (below : List Bool) → FollowsMarks (map body_tree gs) marks below → AreKnown (map body_tree gs) depth below before.called.items
        → (j : ℕ) → j < g + 1 → mark_at marks j ≡ true → IsCallable (map body_tree gs) (suc depth) j → is_made ys j ≡ true
    unfolding IsCallable
    step_known made are here depth below follows calls =
        table_more (λ (j : ℕ) (o : Option (Option Callee)). j < g + 1 → mark_at marks j ≡ true → IsCallable (map body_tree gs) (suc depth) j → is_known o ≡ true)
        xs ys made are
        (λ j lt below_next marked callable. level.known depth below follows calls j (omega (arith, lt, long)) marked callable)
        (λ below_next marked callable.
        let found = some_body (IsRegular false (IsCallable (map body_tree gs) depth)) (target (map body_tree gs) (length xs)) callable in
        let same = body_same gs g (length xs) e found.0 inside is long found.1 in
        let regular : IsRegular false (λ j. is_made before.called.items j ≡ true) (body_tree e) =
        subst (IsRegular false (λ j. is_made before.called.items j ≡ true)) same
        (known_calls gs depth below before.called.items follows.long calls false found.0 (follows.all (length xs) found.0 found.1 marked) found.2) in
        here (set ∙ ap (mark_at marks) (sym long) ∙ marked)
        (regular_into (λ j. is_made before.called.items j ≡ true) (λ i. mark_at known i ≡ true) (λ j h. tells j ∙ h) false (body_tree e) regular))
        (λ j past below_next. absurd (omega (arith, past, long, below_next)))

    step_called : (made : Option Callee) → ys ≡ xs ++ made ∷ [] → (more : List (Text × Bool)) (cs : List (Text × Bool)) (depth : ℕ)
        → AreCalled (map body_tree gs) before.unicode (cs ++ level.more) (suc depth) xs
        → (is_known (Some made) ≡ true → IsCalled (map body_tree gs) before.unicode (cs ++ (level.more ++ more)) (suc depth) g (made_of (Some made)))
        → AreCalled (map body_tree gs) before.unicode (cs ++ (level.more ++ more)) (suc depth) ys
    step_called made are more cs depth old here =
        let groups = map body_tree gs in
        table_more (λ (j : ℕ) (o : Option (Option Callee)). is_known o ≡ true → IsCalled groups before.unicode (cs ++ (level.more ++ more)) (suc depth) j (made_of o))
        xs ys made are
        (λ j lt h.
        subst (λ all. IsCalled groups before.unicode all (suc depth) j (called_in xs j)) (append_assoc cs level.more more)
        (called_on groups before.unicode (cs ++ level.more) more (suc depth) j (called_in xs j) (old j h)))
        (λ h. subst (λ (j : ℕ). IsCalled groups before.unicode (cs ++ (level.more ++ more)) (suc depth) j (made_of (Some made))) (sym long) (here h))
        (λ j past h. absurd (true≢false (sym h)))

    -- the body of a group that was translated is what a call of it becomes
    callee_is : (callee : Callee) → IsCalleeOf known b (body_tree e) g mid after (Some callee) → (cs : List (Text × Bool)) (depth : ℕ)
        → AreCallSizes (map body_tree gs) before.sizes.items → HaveMatchers before.unicode before.matchers.items cs
        → AreCalled (map body_tree gs) before.unicode cs depth before.called.items
        → IsCalled (map body_tree gs) before.unicode (cs ++ (level.more ++ classes (body_tree e))) (suc depth) g (shape callee.node)
    unfolding IsCalled
    callee_is callee made cs depth sized have are =
        let groups = map body_tree gs in
        let body = body_tree e in
        let all = cs ++ (level.more ++ classes body) in
        let called = called_in before.called.items in
        let base = length mid.matchers.items in
        let each : IsRegular false (λ i. IsCalled groups before.unicode all depth i (called i)) body =
        regular_into (λ i. mark_at known i ≡ true) (λ i. IsCalled groups before.unicode all depth i (called i))
        (λ i h. called_on groups before.unicode cs (level.more ++ classes body) depth i (called i) (are i (sym (tells i) ∙ h))) false body made.1 in
        let sizes : AreCallSizes groups mid.sizes.items = subst (λ (v : Vec _ Global). AreCallSizes groups v.items) (sym level.tables.0) sized in
        let pattern : shape callee.node ≡ re_of before.unicode groups called (g + 1) base body =
        made.2 groups sizes
        ∙ ap₂ (λ (u : Bool) (table : Vec (Option Callee) Global). re_of u groups (called_in table.items) (g + 1) base body) level.unicode level.tables.1 in
        let stands : AreAt all base (classes body) =
        subst (λ ds. AreAt ds base (classes body)) (append_assoc cs level.more (classes body))
        (stand_last (cs ++ level.more) (classes body) base (have_count before.unicode mid.matchers.items (cs ++ level.more) (level.serve cs have))) in
        of_some (IsOfBody groups before.unicode all (IsCalled groups before.unicode all depth) g (shape callee.node)) (target groups g) body
        (body_at gs g e inside is) (called, base, each, pattern, stands)

    pub level_more : (made : Option Callee) → ys ≡ xs ++ made ∷ [] → IsCalleeOf known b (body_tree e) g mid after made
        → MakesLevel (map body_tree gs) marks before after ys (g + 1)
    level_more None are made = record {
      unicode = same_unicode ∙ level.unicode;
      tables = (same_tables.0 ∙ level.tables.0, same_tables.1 ∙ level.tables.1);
      more = level.more ++ [];
      serve = λ cs have.
          subst (λ ds. HaveMatchers before.unicode after.matchers.items (cs ++ ds)) (sym (append-nil level.more))
          (subst (λ (ms : Vec CharClassMatcher Global). HaveMatchers before.unicode ms.items (cs ++ level.more)) (sym made.0) (level.serve cs have));
      called = λ cs depth sized have calls. step_called None are [] cs depth (level.called cs depth sized have calls) (λ h. absurd (true≢false (sym h)));
      known = step_known None are (λ called regular. absurd (made.1 called regular));
    }
    level_more (Some callee) are made = record {
      unicode = same_unicode ∙ level.unicode;
      tables = (same_tables.0 ∙ level.tables.0, same_tables.1 ∙ level.tables.1);
      more = level.more ++ classes (body_tree e);
      serve = λ cs have.
          subst (λ ds. HaveMatchers before.unicode after.matchers.items ds) (append_assoc cs level.more (classes (body_tree e)))
          (subst (λ u. HaveMatchers u after.matchers.items (cs ++ level.more ++ classes (body_tree e))) level.unicode
          (made.0.serve (cs ++ level.more) (subst (λ u. HaveMatchers u mid.matchers.items (cs ++ level.more)) (sym level.unicode) (level.serve cs have))));
      called = λ cs depth sized have calls.
          step_called (Some callee) are (classes (body_tree e)) cs depth (level.called cs depth sized have calls) (λ h. callee_is callee made cs depth sized have calls);
      known = step_known (Some callee) are (λ called regular. refl);
    }

-- why a body has no matchers, among all bodies
module _ (unicode : Bool) (groups : List Tree) where
  pub cause_into : (called other : ℕ → Type 0) → ((j : ℕ) → called j → other j) → (error : CompileError) → IsBodyCause unicode groups called error
      → IsBodyCause unicode groups other error
  cause_into called other into (InnerError shown) why = (why.0, into why.0 why.1, why.2)
  cause_into called other into Memory why = tt
  cause_into called other into _ why = absurd why

  cause_of_body : (called : ℕ → Type 0) (j : ℕ) (body : Tree) (error : CompileError) → target groups j ≡ Some body → called j
      → IsClassCause unicode (classes body) error → IsBodyCause unicode groups called error
  cause_of_body called j body (InnerError shown) there is why =
      (j, is, of_some (λ t. ShowsClass unicode (classes t) _) (target groups j) body there why)
  cause_of_body called j body Memory there is why = tt
  cause_of_body called j body _ there is why = absurd why

pub body_cause : (unicode mid : Bool) (gs : List (Bor Expr)) (marks : List Bool) (g : ℕ) (e : Bor Expr) (b : Bool) (error : CompileError) → g < length gs
    → e ≡ get_or gs g e → b ≡ mark_at marks g → b ≡ true → mid ≡ unicode → IsClassCause mid (classes (body_tree e)) error
    → IsBodyCause unicode (map body_tree gs) (λ j. mark_at marks j ≡ true) error
body_cause unicode mid gs marks g e b error inside is set called same why =
    cause_of_body unicode (map body_tree gs) (λ j. mark_at marks j ≡ true) g (body_tree e) error (body_at gs g e inside is) (sym set ∙ called)
    (subst (λ u. IsClassCause u (classes (body_tree e)) error) same why)

-- What is known at a depth: the classes of all matchers, and what the marked groups become.
pub record HasLevel (groups : List Tree) (unicode : Bool) (depth : ℕ) (marks : List Bool) (translator : Translator) : Type 0 where
  pub all_classes : List (Text × Bool)
  pub matchers : HaveMatchers unicode translator.matchers.items all_classes
  pub called : AreCalled groups unicode all_classes depth translator.called.items
  pub known : AreKnown groups depth marks translator.called.items

pub no_level : (groups : List Tree) (unicode : Bool) (marks : List Bool) (translator : Translator) → translator.matchers.items ≡ []
    → translator.called.items ≡ [] → HasLevel groups unicode 0 marks translator
unfolding IsCallable
no_level groups unicode marks translator no_matchers none = record {
  all_classes = [];
  matchers = subst (λ ms. HaveMatchers unicode ms []) (sym no_matchers) tt;
  called = λ j h. absurd (true≢false (sym h ∙ ap (λ called. is_made called j) none));
  known = λ j marked callable. absurd callable;
}

pub level_next : (gs : List (Bor Expr)) (unicode : Bool) (depth : ℕ) (marks below : List Bool) (before after final : Translator)
    (next : Vec (Option Callee) Global) → before.unicode ≡ unicode → AreCallSizes (map body_tree gs) before.sizes.items
    → FollowsMarks (map body_tree gs) marks below → MakesLevel (map body_tree gs) marks before after next.items (length gs)
    → final.matchers ≡ after.matchers → final.called ≡ next → HasLevel (map body_tree gs) unicode depth below before
    → HasLevel (map body_tree gs) unicode (depth + 1) marks final
level_next gs unicode depth marks below before after final next same sized follows made matchers called has =
    let groups = map body_tree gs in
    let one : suc depth ≡ depth + 1 = omega arith in
    let all = has.all_classes ++ made.more in
    let have : HaveMatchers before.unicode before.matchers.items has.all_classes =
    subst (λ u. HaveMatchers u before.matchers.items has.all_classes) (sym same) has.matchers in
    let old : AreCalled groups before.unicode has.all_classes depth before.called.items =
    subst (λ u. AreCalled groups u has.all_classes depth before.called.items) (sym same) has.called in
    record {
      all_classes = all;
      matchers =
          subst (λ (ms : Vec CharClassMatcher Global). HaveMatchers unicode ms.items all) (sym matchers)
          (subst (λ u. HaveMatchers u after.matchers.items all) same (made.serve has.all_classes have));
      called =
          subst (λ (v : Vec (Option Callee) Global). AreCalled groups unicode all (depth + 1) v.items) (sym called)
          (subst (λ (d : ℕ). AreCalled groups unicode all d next.items) one
          (subst (λ u. AreCalled groups u all (suc depth) next.items) same (made.called has.all_classes depth sized have old)));
      known = λ j marked callable.
          let deep : IsCallable groups (suc depth) j = subst (λ (d : ℕ). IsCallable groups d j) (sym one) callable in
          subst (λ (v : Vec (Option Callee) Global). is_made v.items j ≡ true) (sym called)
          (made.known depth below follows has.known j (callable_inside gs (suc depth) j deep) marked deep);
    }

-- at the greatest depth all calls of a regular tree are known
pub all_written : (gs : List (Bor Expr)) (root : Tree) (unicode : Bool) (nesting : ℕ) (tables : List (Vec Bool Global)) (translator final : Translator)
    → nesting ≡ greatest_nesting (length (map body_tree gs)) → AreLevels (map body_tree gs) nesting root tables
    → final.matchers ≡ translator.matchers → final.called ≡ translator.called
    → HasLevel (map body_tree gs) unicode nesting (marks_at tables 0) translator → WritesCalls (map body_tree gs) root unicode final
all_written gs root unicode nesting tables translator final deep levels matchers called has =
    let groups = map body_tree gs in
    let calls = called_in translator.called.items in
    record {
      all_classes = has.all_classes;
      matchers = subst (λ (ms : Vec CharClassMatcher Global). HaveMatchers unicode ms.items has.all_classes) (sym matchers) has.matchers;
      calls = λ resets out.
          let known =
          known_calls gs nesting (marks_at tables 0) translator.called.items levels.long has.known resets root levels.first
          (subst (λ (d : ℕ). IsRegular resets (IsCallable groups d) root) (sym deep) out) in
          subst (λ (v : Vec (Option Callee) Global).
          IsRegular resets (λ j. IsCalled groups unicode has.all_classes (greatest_nesting (length groups)) j (called_in v.items j)) root) (sym called)
          (subst (λ (d : ℕ). IsRegular resets (λ j. IsCalled groups unicode has.all_classes d j (calls j)) root) deep
          (regular_into (λ j. is_made translator.called.items j ≡ true) (λ j. IsCalled groups unicode has.all_classes nesting j (calls j)) has.called resets root known));
    }
