-- What stands for a call of a group whose calls are written out does not depend on the calls that are open around it.
use Rattle.std.proofs.Common.{◌≡◌, ℕ, zero, suc, ◌+◌, ◌<◌, Bool, true, false, true≢false, List, [], ◌∷◌, length, Option, Some, None, refl, sym, ap, ◌∙◌, subst, arith, cond}
use Rattle.std.specs.Prelude.{nat_lt}
use Rattle.std.proofs.lemmas.Bool.Decides.{nat_tests}
use Rattle.fancy_regex_tree.specs.Tree.{Tree}
use Rattle.fancy_regex_meaning.specs.Sizes.{target}
use Rattle.fancy_regex_meaning.specs.Ways.{is_at_call_limit}
use Rattle.fancy_regex_meaning.specs.WayLaws.{Each}
use Rattle.fancy_regex_desugar.specs.CorePatterns.{CorePattern, fail, called}
use Rattle.fancy_regex_desugar.specs.Unfolded.{pat_for, written, written_call}
use Rattle.fancy_regex_program.specs.Code.{Layout}
use Rattle.fancy_regex_program.specs.Layouts.{AreWrittenOut}
use Rattle.fancy_regex_program.proofs.OpenCalls.{calls_of, no_call_more, below_limit, target_inside, AreOpen, one_more_open, none_left}

each_weaker : {A : Type 0} (P Q : A → Type 0) → ((x : A) → P x → Q x) → (xs : List A) → Each P xs → Each Q xs
each_weaker P Q f [] h = tt
each_weaker P Q f (x ∷ xs) h = (f x h.0, each_weaker P Q f xs h.1)

lt_is : (a b : ℕ) → a < b → nat_lt a b ≡ true
lt_is a b h = grind (arith, nat_tests)

lt_of : (a b : ℕ) → nat_lt a b ≡ true → a < b
lt_of a b h = grind (arith, nat_tests)

limit_or_not : (b : Bool) → cond b fail fail ≡ fail
limit_or_not true = refl
limit_or_not false = refl

module _ (groups : List Tree) where
  -- a call, and what stands for its body
  pub record IsCall (p : CorePattern) (k : ℕ) : Type 0 where
    pub inside : CorePattern
    pub is : p ≡ called k inside

  pub is_call : (m : ℕ) (opened : List ℕ) (k : ℕ) → IsCall (written_call groups m opened k) k
  unfolding written_call
  is_call zero opened k = record { inside = fail; is = refl }
  is_call (suc m) opened k = record {
    inside = cond (is_at_call_limit opened k) fail (pat_for (λ body. (written groups (written_call groups m (k ∷ opened)) (k + 1) body).front) (target groups k));
    is = refl;
  }

  -- of a group that is not there
  no_target : (m : ℕ) (opened : List ℕ) (k : ℕ) → target groups k ≡ None → written_call groups m opened k ≡ called k fail
  unfolding written_call
  no_target zero opened k e = refl
  no_target (suc m) opened k e =
      ap (λ u. called k (cond (is_at_call_limit opened k) fail (pat_for (λ body. (written groups (written_call groups m (k ∷ opened)) (k + 1) body).front) u))) e
      ∙ ap (called k) (limit_or_not (is_at_call_limit opened k))

  -- A call of a group that is open nowhere holds the group's body.
  pub record Opens (m : ℕ) (opened : List ℕ) (k : ℕ) (t : Tree) : Type 0 where
    pub left : ℕ
    pub is : written_call groups m opened k ≡ called k (written groups (written_call groups left (k ∷ opened)) (k + 1) t).front
    pub around : AreOpen (length groups) (k ∷ opened) left

  pub opens : (m : ℕ) (opened : List ℕ) → AreOpen (length groups) opened m → (k : ℕ) (t : Tree) → target groups k ≡ Some t → calls_of k opened ≡ 0 → Opens m opened k t
  unfolding written_call
  opens zero opened around k t at none = absurd (omega (arith, none_left (length groups) opened around k (target_inside groups k t at), none))
  opens (suc m) opened around k t at none = record {
    left = m;
    is = ap (λ b. called k (cond b fail (pat_for (λ body. (written groups (written_call groups m (k ∷ opened)) (k + 1) body).front) (target groups k))))
        (below_limit opened k (omega (arith, none)))
        ∙ ap (λ u. called k (pat_for (λ body. (written groups (written_call groups m (k ∷ opened)) (k + 1) body).front) u)) at;
    around = one_more_open (length groups) k opened m around (target_inside groups k t at) (omega (arith, none));
  }

  module _ (layout : Layout) (is_written_out : ℕ → Bool) (are : AreWrittenOut layout groups is_written_out) where
    -- Those of the open calls that are written out are of higher ranks.
    abbrev pub AreAbove : ℕ → List ℕ → Type 0
    AreAbove rank opened = Each (λ j. is_written_out j ≡ true → rank < are.rank j) opened

    -- None of the open calls is written out.
    abbrev pub NoneIsOut : List ℕ → Type 0
    NoneIsOut opened = Each (λ j. is_written_out j ≡ false) opened

    pub none_is_above : (rank : ℕ) (opened : List ℕ) → NoneIsOut opened → AreAbove rank opened
    none_is_above rank opened h =
        each_weaker (λ j. is_written_out j ≡ false) (λ j. is_written_out j ≡ true → rank < are.rank j) (λ j no yes. absurd (true≢false (sym yes ∙ no))) opened h

    pub one_more_above : (rank k : ℕ) (opened : List ℕ) → rank < are.rank k → AreAbove (are.rank k) opened → AreAbove rank (k ∷ opened)
    one_more_above rank k opened less h = (
      λ out. less,
      each_weaker (λ j. is_written_out j ≡ true → are.rank k < are.rank j) (λ j. is_written_out j ≡ true → rank < are.rank j) (λ j above out. (let more = above out in omega (arith, more, less)))
          opened h,
    )

    -- so none of them is of a group of that rank
    pub not_open : (k : ℕ) (opened : List ℕ) → is_written_out k ≡ true → AreAbove (are.rank k) opened → calls_of k opened ≡ 0
    not_open k [] out h = refl
    not_open k (x ∷ xs) out h =
        let ne : k ≡ x → ⊥ = λ e. (let less : are.rank k < are.rank x = h.0 (subst (λ j. is_written_out j ≡ true) e out) in let same = ap are.rank e in omega (arith, less, same)) in
        no_call_more k x xs ne ∙ not_open k xs out h.1

    abbrev Alike : ℕ → Type 0
    Alike most = (m m' : ℕ) (opened opened' : List ℕ) → AreOpen (length groups) opened m → AreOpen (length groups) opened' m' → (k : ℕ) → is_written_out k ≡ true → are.rank k < most →
        AreAbove (are.rank k) opened → AreAbove (are.rank k) opened' → written_call groups m opened k ≡ written_call groups m' opened' k

    alike_at : (most : ℕ) → Alike most → (m m' : ℕ) (opened opened' : List ℕ) → AreOpen (length groups) opened m → AreOpen (length groups) opened' m' → (k : ℕ) → is_written_out k ≡ true →
        are.rank k < suc most → AreAbove (are.rank k) opened → AreAbove (are.rank k) opened' → (u : Option Tree) → target groups k ≡ u →
        written_call groups m opened k ≡ written_call groups m' opened' k
    alike_at most lower m m' opened opened' around around' k out less above above' None at = no_target m opened k at ∙ sym (no_target m' opened' k at)
    alike_at most lower m m' opened opened' around around' k out less above above' (Some t) at =
        let one = opens m opened around k t at (not_open k opened out above) in
        let two = opens m' opened' around' k t at (not_open k opened' out above') in
        one.is
        ∙ ap (called k) (are.leads k t out at (written_call groups one.left (k ∷ opened)) (written_call groups two.left (k ∷ opened'))
        (λ j out_j below. lower one.left two.left (k ∷ opened) (k ∷ opened') one.around two.around j out_j (omega (arith, less, below))
        (one_more_above (are.rank j) k opened below above) (one_more_above (are.rank j) k opened' below above')))
        ∙ sym two.is

    alike : (most : ℕ) → Alike most
    alike zero = λ m m' opened opened' around around' k out less above above'. absurd (omega (arith, less))
    alike (suc most) = λ m m' opened opened' around around' k out less above above'.
        alike_at most (alike most) m m' opened opened' around around' k out less above above' (target groups k) refl

    -- What stands for the call is the same inside of other calls, where none that is written out has as low a rank.
    pub same_written_out : (m m' : ℕ) (opened opened' : List ℕ) → AreOpen (length groups) opened m → AreOpen (length groups) opened' m' → (k : ℕ) → is_written_out k ≡ true →
        AreAbove (are.rank k) opened → AreAbove (are.rank k) opened' → written_call groups m opened k ≡ written_call groups m' opened' k
    same_written_out m m' opened opened' around around' k out above above' =
        alike (suc (are.rank k)) m m' opened opened' around around' k out (omega arith) above above'

    -- What stands for calls in the body of a group that is written out: but for such groups of lower ranks, nothing.
    abbrev pub lower_calls : ℕ → (ℕ → CorePattern) → ℕ → CorePattern
    lower_calls k call j = cond (is_written_out j) (cond (nat_lt (are.rank j) (are.rank k)) (call j) fail) fail

    -- The body of a group that is written out calls such groups of lower ranks alone.
    pub calls_lower : (k : ℕ) (t : Tree) → is_written_out k ≡ true → target groups k ≡ Some t → (call : ℕ → CorePattern) →
        (written groups call (k + 1) t).front ≡ (written groups (lower_calls k call) (k + 1) t).front
    calls_lower k t out at call =
        are.leads k t out at call (lower_calls k call)
        (λ j out_j below. sym (ap (λ b. cond b (cond (nat_lt (are.rank j) (are.rank k)) (call j) fail) fail) out_j ∙ ap (λ b. cond b (call j) fail) (lt_is (are.rank j) (are.rank k) below)))

    -- what holds of such calls, and of what fails, holds of what stands there
    pub of_lower : (P : CorePattern → Type 0) → P fail → (k : ℕ) (call : ℕ → CorePattern) →
        ((j : ℕ) → is_written_out j ≡ true → are.rank j < are.rank k → P (call j)) → (j : ℕ) → P (lower_calls k call j)
    of_lower P fails k call h j = at (is_written_out j) refl (nat_lt (are.rank j) (are.rank k)) refl
      where
        at : (b : Bool) → is_written_out j ≡ b → (c : Bool) → nat_lt (are.rank j) (are.rank k) ≡ c → P (cond b (cond c (call j) fail) fail)
        at false eb c ec = fails
        at true eb false ec = fails
        at true eb true ec = h j eb (lt_of (are.rank j) (are.rank k) ec)
