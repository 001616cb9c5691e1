-- What is let through, where each body that is needed is.
use Rattle.std.proofs.Common.{◌≡◌, ℕ, zero, suc, Bool, true, false, cond, List, [], ◌∷◌, ◌++◌, Option, Some, None, inl, inr, refl, sym, ap, subst}
use Rattle.std.specs.Prelude.{is_some, slice_get}
use Rattle.std.specs.List.{Contains}
use Rattle.fancy_regex_meaning.specs.Ways.{is_at_call_limit}
use Rattle.fancy_regex_desugar.specs.CorePatterns.{CorePattern, nothing, read, general_newline, check, continue, keep_out, fail, cat, alt, group, ahead, never, back, atomic, delegate, tail, repeat, backref, exists, conditional, absent, called}
use Rattle.fancy_regex_desugar.specs.Unfolded.{pat_for}
use Rattle.fancy_regex_info.specs.Infos.{InfoTree}
use Rattle.fancy_regex_program.specs.Code.{Layout}
use Rattle.fancy_regex_program.specs.Layouts.{IsLaidOut, CallsAreLaidOut}
use Rattle.fancy_regex_program.specs.Ops.{Place}
use Rattle.fancy_regex_program.specs.Shapes.{IsAllowed}
use Rattle.fancy_regex_program.proofs.WrittenParts.{PartByPart}
use Rattle.fancy_regex_compiler.specs.Inlined.{is_inlined, AreInlined}
use Rattle.fancy_regex_compiler.specs.Kept.{first_call, called_pattern, pattern_at}
use Rattle.fancy_regex_compiler.specs.Known.{info_written, info_call, most_calls_in, pat_with}
use Rattle.fancy_regex_compiler.specs.Needs.{IsNeeded, IsCallAllowed, IsAllowedUnder}
use Rattle.fancy_regex_compiler.specs.declared.emitter.Need.{Need}
use Rattle.fancy_regex_compiler.proofs.InfoParts.{of_info, of_info_whole}
use Rattle.fancy_regex_compiler.proofs.AddedBodies.{pattern_is}
use Rattle.fancy_regex_compiler.proofs.InlinedLemmas.{opens_first}
use Rattle.fancy_regex_compiler.proofs.RowLemmas.{call_shape}

module _ (unicode : Bool) (layout : Layout) (all : List Need) where
  -- Where the first is let through under the needs, the second is let through.
  abbrev LetsThrough : CorePattern → CorePattern → Type 0
  LetsThrough p q = (keeps : Bool) → IsAllowedUnder layout all unicode keeps p → IsAllowed unicode keeps q

  lets_parts : PartByPart LetsThrough
  lets_parts = record {
    of_nothing = λ keeps s. tt;
    of_read = λ c keeps s. s;
    of_newline = λ u keeps s. tt;
    of_check = λ a keeps s. tt;
    of_continue = λ keeps s. tt;
    of_keep_out = λ keeps s. s;
    of_fail = λ keeps s. tt;
    of_back = λ n keeps s. tt;
    of_backref = λ k casei keeps s. tt;
    of_exists = λ k keeps s. tt;
    of_cat = λ a b c d h k keeps s. (h keeps s.0, k keeps s.1);
    of_alt = λ a b c d h k keeps s. (h keeps s.0, k keeps s.1);
    of_group = λ k a b h keeps s. h keeps s;
    of_ahead = λ a b h keeps s. h false s;
    of_never = λ a b h keeps s. h false s;
    of_atomic = λ a b h keeps s. h keeps s;
    of_delegate = λ t a b h keeps s. s;
    of_tail = λ t a b h keeps s. (s.0, h keeps s.1);
    of_repeat = λ a b lo hi greedy h keeps s. (s.0, h keeps s.1);
    of_conditional = λ a b c d e f h k l keeps s. (h keeps s.0, k keeps s.1, l keeps s.2);
    of_absent = λ a b h keeps s. h false s;
  }

  module _ (infos : List InfoTree) (rooms : List (Option ℕ)) (known : ℕ) (are : AreInlined infos rooms known) (out : (k : ℕ) → layout k ≡ None → is_inlined rooms k ≡ true)
      (met : (n : Need) → Contains all n → is_some (layout n.group) ≡ true → IsAllowedUnder layout all unicode n.may_keep (pattern_at infos n.group)) where
    abbrev Under : Bool → CorePattern → Type 0
    Under keeps p = IsAllowedUnder layout all unicode keeps p

    body_needed : (k : ℕ) (keeps : Bool) → is_some (layout k) ≡ true → IsNeeded all k keeps → Under keeps (pattern_at infos k)
    body_needed k keeps stays needed =
        let P = λ (j : ℕ). Under needed.need.may_keep (pattern_at infos j) in
        let Q = λ (b : Bool). Under b (pattern_at infos k) in
        let S = λ (j : ℕ). is_some (layout j) ≡ true in
        subst Q needed.may_keep (subst P needed.group (met needed.need needed.there (subst S (sym needed.group) stays)))

    -- where a call is let through, so is the body of its group
    body_under : (k : ℕ) (keeps : Bool) (o : Option Place) → layout k ≡ o → Under keeps (first_call infos k) → Under keeps (pattern_at infos k)
    body_under k keeps None e h =
        let it = opens_first infos rooms known are k (out k e) in
        let body = called_pattern infos it.body in
        let call : Under keeps (called k body) = subst (Under keeps) it.is h in
        subst (Under keeps) (sym (pattern_is infos k it.body it.at)) (subst (λ p. IsCallAllowed p (IsNeeded all k keeps) (Under keeps body)) e call)
    body_under k keeps (Some c) e h =
        let shape = call_shape infos (most_calls_in infos) [] k in
        let call : Under keeps (called k shape.0) = subst (Under keeps) shape.1 h in
        body_needed k keeps (ap is_some e) (subst (λ p. IsCallAllowed p (IsNeeded all k keeps) (Under keeps shape.0)) e call)

    by_limit : (b : Bool) (keeps : Bool) (p : CorePattern) → IsAllowed unicode keeps p → IsAllowed unicode keeps (cond b fail p)
    by_limit true keeps p h = tt
    by_limit false keeps p h = h

    -- a call that is let through, however many calls are left
    call_lets : (m : ℕ) (opened : List ℕ) (k : ℕ) → LetsThrough (first_call infos k) (info_call infos m opened k)
    unfolding info_call
    call_lets zero opened k keeps h = tt
    call_lets (suc m) opened k keeps h =
        let inner = info_call infos m (opened ++ k ∷ []) in
        by_limit (is_at_call_limit opened k) keeps (pat_for (λ x. (info_written inner x).front) (slice_get infos k))
        (inside inner (call_lets m (opened ++ k ∷ [])) keeps (slice_get infos k) (body_under k keeps (layout k) refl h))
      where
        inside : (inner : ℕ → CorePattern) → ((j : ℕ) → LetsThrough (first_call infos j) (inner j)) → (keeps : Bool) (o : Option InfoTree) →
            Under keeps (pat_for (called_pattern infos) o) → IsAllowed unicode keeps (pat_for (λ x. (info_written inner x).front) o)
        inside inner calls keeps None h = tt
        inside inner calls keeps (Some y) h = (of_info LetsThrough lets_parts (first_call infos) inner calls y).front keeps h

    -- the body of a group
    pub body_is_allowed : (keeps : Bool) (y : InfoTree) → Under keeps (called_pattern infos y) → IsAllowed unicode keeps (called_pattern infos y)
    body_is_allowed keeps y h = (of_info LetsThrough lets_parts (first_call infos) (first_call infos) (call_lets (most_calls_in infos) []) y).front keeps h

    -- the whole pattern, with its calls written out
    pub allowed_by_needs : (x : InfoTree) → Under true (pat_with infos x) → IsAllowed unicode true (pat_with infos x)
    allowed_by_needs x h = of_info_whole LetsThrough lets_parts (first_call infos) (first_call infos) (call_lets (most_calls_in infos) []) x true h

-- Where each body that is needed has a place, each call has one, or it is of a group whose calls are written out.
module _ (layout real : Layout) (all : List Need) (unicode : Bool) (rooms : List (Option ℕ)) (out : (k : ℕ) → layout k ≡ None → is_inlined rooms k ≡ true)
    (placed : (n : Need) → Contains all n → is_some (layout n.group) ≡ true → is_some (real n.group) ≡ true) where
  call_laid_out : (o : Option Place) (k : ℕ) (keeps : Bool) (Inside : Type 0) → layout k ≡ o → IsCallAllowed o (IsNeeded all k keeps) Inside → IsLaidOut real (is_inlined rooms) k
  call_laid_out None k keeps Inside e h = inr (out k e)
  call_laid_out (Some c) k keeps Inside e h =
      let P = λ (j : ℕ). is_some (real j) ≡ true in
      let S = λ (j : ℕ). is_some (layout j) ≡ true in
      inl (subst P h.group (placed h.need h.there (subst S (sym h.group) (ap is_some e))))

  abbrev Laid : CorePattern → Type 0
  Laid p = CallsAreLaidOut real (is_inlined rooms) p

  pub calls_laid_out : (keeps : Bool) (p : CorePattern) → IsAllowedUnder layout all unicode keeps p → Laid p
  calls_laid_out keeps (cat a b) h = (calls_laid_out keeps a h.0, calls_laid_out keeps b h.1)
  calls_laid_out keeps (alt a b) h = (calls_laid_out keeps a h.0, calls_laid_out keeps b h.1)
  calls_laid_out keeps (group k a) h = calls_laid_out keeps a h
  calls_laid_out keeps (ahead a) h = calls_laid_out false a h
  calls_laid_out keeps (never a) h = calls_laid_out false a h
  calls_laid_out keeps (atomic a) h = calls_laid_out keeps a h
  calls_laid_out keeps (tail t a) h = calls_laid_out keeps a h.1
  calls_laid_out keeps (repeat a lo hi greedy) h = calls_laid_out keeps a h.1
  calls_laid_out keeps (conditional c a b) h = (calls_laid_out keeps c h.0, calls_laid_out keeps a h.1, calls_laid_out keeps b h.2)
  calls_laid_out keeps (absent a) h = calls_laid_out false a h
  calls_laid_out keeps (called k a) h = call_laid_out (layout k) k keeps (IsAllowedUnder layout all unicode keeps a) refl h
  calls_laid_out keeps nothing h = tt
  calls_laid_out keeps (read c) h = tt
  calls_laid_out keeps (general_newline u) h = tt
  calls_laid_out keeps (check a) h = tt
  calls_laid_out keeps continue h = tt
  calls_laid_out keeps keep_out h = tt
  calls_laid_out keeps fail h = tt
  calls_laid_out keeps (back n) h = tt
  calls_laid_out keeps (delegate t a) h = tt
  calls_laid_out keeps (backref k casei) h = tt
  calls_laid_out keeps (exists k) h = tt
