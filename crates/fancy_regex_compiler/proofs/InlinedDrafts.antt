-- Calls that are written out have drafts inside, where calls that stay have.
use Rattle.std.proofs.Common.{◌≡◌, ℕ, zero, suc, ◌<◌, Bool, true, false, ⊎_elim, cond, List, [], Option, None, refl, sym, ap, subst, ◌∙◌, arith}
use Rattle.std.specs.Prelude.{nat_lt, is_some}
use Rattle.std.proofs.lemmas.Bool.Decides.{nat_tests}
use Rattle.fancy_regex_desugar.specs.CorePatterns.{CorePattern, fail, called}
use Rattle.fancy_regex_info.specs.Infos.{InfoTree}
use Rattle.fancy_regex_program.specs.Assembled.{IsDraftOf, AreDrafts, IsDrafted}
use Rattle.fancy_regex_program.specs.Code.{Layout}
use Rattle.fancy_regex_program.specs.Layouts.{IsLaidOut, CallsAreLaidOut}
use Rattle.fancy_regex_program.proofs.Resolved.{Drafted, drafted_parts, has_drafts_parts, drafted_kept}
use Rattle.fancy_regex_compiler.specs.Inlined.{is_inlined, AreInlined}
use Rattle.fancy_regex_compiler.specs.Kept.{first_call, called_pattern}
use Rattle.fancy_regex_compiler.specs.Known.{most_calls_in, pat_with}
use Rattle.fancy_regex_compiler.proofs.InfoParts.{of_info, of_info_whole}
use Rattle.fancy_regex_compiler.proofs.InlinedLemmas.{opens_first}
use Rattle.fancy_regex_compiler.proofs.RowLemmas.{call_shape}

lt_is : (a b : ℕ) → a < b → nat_lt a b ≡ true
lt_is a b h = grind (arith, nat_tests)

lt_of : (a b : ℕ) → nat_lt a b ≡ true → a < b
lt_of a b h = grind (arith, nat_tests)

module _ (infos : List InfoTree) (rooms : List (Option ℕ)) (known : ℕ) (inlined : AreInlined infos rooms known) (drafts table : Layout) (are : IsDrafted drafts table (is_inlined rooms))
    (none : (k : ℕ) → is_inlined rooms k ≡ true → table k ≡ None) where
  abbrev rank : ℕ → ℕ
  rank = inlined.rank

  abbrev Has : CorePattern → Type 0
  Has p = AreDrafts drafts table p

  -- what stands for calls of such groups below that rank, and for others nothing
  abbrev below : ℕ → ℕ → CorePattern
  below top j = cond (is_inlined rooms j) (cond (nat_lt (rank j) top) (first_call infos j) fail) fail

  below_is : (top j : ℕ) → is_inlined rooms j ≡ true → rank j < top → first_call infos j ≡ below top j
  below_is top j out low =
      sym (ap (λ b. cond b (cond (nat_lt (rank j) top) (first_call infos j) fail) fail) out ∙ ap (λ b. cond b (first_call infos j) fail) (lt_is (rank j) top low))

  below_has : (top : ℕ) → ((j : ℕ) → is_inlined rooms j ≡ true → rank j < top → Has (first_call infos j)) → (j : ℕ) → Has (below top j)
  below_has top h j = at (is_inlined rooms j) refl (nat_lt (rank j) top) refl
    where
      at : (b : Bool) → is_inlined rooms j ≡ b → (c : Bool) → nat_lt (rank j) top ≡ c → Has (cond b (cond c (first_call infos j) fail) fail)
      at false eb c ec = tt
      at true eb false ec = tt
      at true eb true ec = h j eb (lt_of (rank j) top ec)

  out_has : (k : ℕ) (a : CorePattern) → is_inlined rooms k ≡ true → Has a → Has (called k a)
  out_has k a out h =
      subst (λ o. IsDraftOf k o (table k) (Has a)) (sym (are.none k out)) (subst (λ o. IsDraftOf k None o (Has a)) (sym (none k out)) h)

  out_call : (top k : ℕ) → is_inlined rooms k ≡ true → rank k < top → Has (first_call infos k)
  out_call zero k out low = absurd (omega (arith, low))
  out_call (suc top) k out low =
      let it = opens_first infos rooms known inlined k out in
      let lower : (j : ℕ) → Has (below (rank k) j) = below_has (rank k) (λ j out_j less. out_call top j out_j (omega (arith, low, less))) in
      let all = (of_info (λ p q. Has q) (has_drafts_parts drafts table (is_inlined rooms) are) (below (rank k)) (below (rank k)) lower it.body).front in
      let same = it.same (first_call infos) (below (rank k)) (λ j out_j less. below_is (rank k) j out_j less) in
      subst Has (sym it.is) (out_has k (called_pattern infos it.body) out (subst Has (sym same) all))

  either_call : (k : ℕ) → Drafted drafts table (is_inlined rooms) are (first_call infos k) (first_call infos k)
  either_call k laid_out =
      let shape = call_shape infos (most_calls_in infos) [] k in
      let is : IsLaidOut table (is_inlined rooms) k = subst (CallsAreLaidOut table (is_inlined rooms)) shape.1 laid_out in
      ⊎_elim (λ (stays : is_some (table k) ≡ true). subst Has (sym shape.1) (drafted_kept drafts table (is_inlined rooms) are k shape.0 stays))
      (λ (out : is_inlined rooms k ≡ true). out_call (suc (rank k)) k out (omega arith)) is

  -- a whole pattern, and the pattern of a body
  pub whole_has_drafts : (x : InfoTree) → CallsAreLaidOut table (is_inlined rooms) (pat_with infos x) → Has (pat_with infos x)
  whole_has_drafts x = of_info_whole (Drafted drafts table (is_inlined rooms) are) (drafted_parts drafts table (is_inlined rooms) are) (first_call infos) (first_call infos) either_call x

  pub body_has_drafts : (x : InfoTree) → CallsAreLaidOut table (is_inlined rooms) (called_pattern infos x) → Has (called_pattern infos x)
  body_has_drafts x = (of_info (Drafted drafts table (is_inlined rooms) are) (drafted_parts drafts table (is_inlined rooms) are) (first_call infos) (first_call infos) either_call x).front
