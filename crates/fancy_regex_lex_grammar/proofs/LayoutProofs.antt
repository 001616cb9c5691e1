-- Layout is what is skipped.
use Rattle.std.proofs.Common.{◌≡◌, ◌≢◌, ℕ, Bool, true, false, cond, ◌==◌, Option, Some, None, is_some, Ok, Err, [], ◌∷◌, refl, sym, ap, ◌∙◌, subst, true≢false, ◌⊎◌, inl, inr, ⊎_elim, codes, ne_eqb}
use Rattle.std.proofs.lemmas.Bool.{or_cases, eqb-false}
use Rattle.fancy_regex_text.specs.Text.{Text, ◌∈◌, strip_prefix}
use Rattle.fancy_regex_text.specs.ParseFault.{ParseFault, fail_at, unclosed_open_paren}
use Rattle.fancy_regex_text.specs.Layout.{LayoutState, nothing, line, comment, comment_escape, state_after_blank, begins_comment, state_after, ended, skip_layout_from, next_token, skip}
use Rattle.fancy_regex_text.proofs.TextLemmas.{strip_prefix_is}
use Rattle.fancy_regex_lex_grammar.specs.Layout.{IsComment, closes, hides, goes_on, IsOpenComment, ends, ends_hiding, hides_in_open, goes_on_open, IsLine, at_end, newline, longer, IsBlank, space, tab, return, line_feed, IsLayout, nothing_more, a_comment, a_blank, a_line, BeginsLayout, comment_begins, blank_begins, line_begins, IsSkipped, IsOpenLayout, LayoutFails, NextTokenIsExact, SkipIsExact}
use Rattle.fancy_regex_lex_grammar.proofs.ReadingLemmas.{at_char, is_not, Found, is_found, is_none, if_found, finds_exactly, reads_exactly, Meant, is_read, is_stopped}

-- what the function says of where the layout leads, in the relation's words: P holds of the place after what is begun
abbrev At : LayoutState → (Text → Type 0) → Text → Type 0
At nothing P t = P t
At line P t = (u : Text) × IsLine t u × P u
At comment P t = (u : Text) × IsComment t u × P u
At comment_escape P t = (u : Text) × IsComment (0x5C ∷ t) u × P u

-- a comment that the text ends in
abbrev Open : LayoutState → Text → Type 0
Open nothing t = ⊥
Open line t = ⊥
Open comment t = IsOpenComment t
Open comment_escape t = IsOpenComment (0x5C ∷ t)

-- P holds before layout where it holds after it
record IsCarried (verbose : Bool) (P : Text → Type 0) : Type 0 where
  over_comment : (t u : Text) → IsComment t u → P u → P (0x28 ∷ 0x3F ∷ 0x23 ∷ t)
  over_blank : (c : ℕ) (t : Text) → verbose ≡ true → IsBlank c → P t → P (c ∷ t)
  over_line : (t u : Text) → verbose ≡ true → IsLine t u → P u → P (0x23 ∷ t)

skipped_carried : (verbose : Bool) (rest : Text) → IsCarried verbose (λ t. IsSkipped verbose t rest)
skipped_carried verbose rest = record {
  over_comment = λ t u c p. record { layout = a_comment c p.layout; longest = p.longest };
  over_blank = λ c t v b p. record { layout = a_blank v b p.layout; longest = p.longest };
  over_line = λ t u v l p. record { layout = a_line v l p.layout; longest = p.longest };
}

open_carried : (verbose : Bool) → IsCarried verbose (IsOpenLayout verbose)
open_carried verbose = record {
  over_comment = λ t u c p. record { rest = p.rest; layout = a_comment c p.layout; open_comment = p.open_comment };
  over_blank = λ c t v b p. record { rest = p.rest; layout = a_blank v b p.layout; open_comment = p.open_comment };
  over_line = λ t u v l p. record { rest = p.rest; layout = a_line v l p.layout; open_comment = p.open_comment };
}

-- after a character that neither closes a comment nor hides the next
past : {c : ℕ} {t u : Text} → c ≢ 0x29 → c ≢ 0x5C → IsComment (c ∷ t) u → IsComment t u
past p q closes = absurd (p refl)
past p q (hides h) = absurd (q refl)
past p q (goes_on a b h) = h

past_open : {c : ℕ} {t : Text} → c ≢ 0x29 → c ≢ 0x5C → IsOpenComment (c ∷ t) → IsOpenComment t
past_open p q ends_hiding = absurd (q refl)
past_open p q (hides_in_open h) = absurd (q refl)
past_open p q (goes_on_open a b h) = h

blank_of : (c : ℕ) → c ∈ " \t\r\n" ≡ true → IsBlank c
blank_of c h =
    ⊎_elim (λ a. at_char c 0x20 IsBlank a space) (λ h1.
    ⊎_elim (λ a. at_char c 0x09 IsBlank a tab) (λ h2.
    ⊎_elim (λ a. at_char c 0x0D IsBlank a return) (λ a. at_char c 0x0A IsBlank a line_feed)
    (or_cases _ _ h2)) (or_cases _ _ h1)) (or_cases _ _ h)

-- a comment begins with `(?#`
three : (c : ℕ) (t : Text) → begins_comment (c ∷ t) ≡ true → (u : Text) × (c ∷ t ≡ 0x28 ∷ 0x3F ∷ 0x23 ∷ u)
unfolding begins_comment
three c t h = of_some (strip_prefix (codes "(?#") (c ∷ t)) refl h
  where
    of_some : (o : Option Text) → strip_prefix (codes "(?#") (c ∷ t) ≡ o → is_some o ≡ true → (u : Text) × (c ∷ t ≡ 0x28 ∷ 0x3F ∷ 0x23 ∷ u)
    of_some (Some u) e h = (u, strip_prefix_is (codes "(?#") (c ∷ t) u e)
    of_some None e h = absurd (true≢false (sym h))

abbrev tail : Text → Text
tail [] = []
tail (c ∷ t) = t

-- one character of layout, from one place to the next
data Step (verbose : Bool) : LayoutState → LayoutState → ℕ → Text → Type 0 where
  to_comment : {c : ℕ} {t : Text} → begins_comment (c ∷ t) ≡ true → Step verbose nothing comment c t
  over_blank : {c : ℕ} {t : Text} → verbose ≡ true → IsBlank c → Step verbose nothing nothing c t
  to_line : {t : Text} → verbose ≡ true → Step verbose nothing line 0x23 t
  line_ends : {t : Text} → Step verbose line nothing 0x0A t
  line_goes_on : {c : ℕ} {t : Text} → c ≢ 0x0A → Step verbose line line c t
  comment_ends : {t : Text} → Step verbose comment nothing 0x29 t
  to_hidden : {t : Text} → Step verbose comment comment_escape 0x5C t
  comment_goes_on : {c : ℕ} {t : Text} → c ≢ 0x29 → c ≢ 0x5C → Step verbose comment comment c t
  past_hidden : {c : ℕ} {t : Text} → Step verbose comment_escape comment c t

-- there is none
data NoStep (verbose : Bool) : LayoutState → ℕ → Text → Type 0 where
  no_step : {c : ℕ} {t : Text} → (BeginsLayout verbose (c ∷ t) → ⊥) → NoStep verbose nothing c t

blank_test : {c : ℕ} → IsBlank c → c ∈ " \t\r\n" ≡ true
blank_test space = refl
blank_test tab = refl
blank_test return = refl
blank_test line_feed = refl

-- none of the tests of the first character holds
none_begins : (verbose : Bool) (c : ℕ) (t : Text) → begins_comment (c ∷ t) ≡ false → (verbose ≡ true → c ∈ " \t\r\n" ≡ false) →
    (verbose ≡ true → c ∈ "#" ≡ false) → BeginsLayout verbose (c ∷ t) → ⊥
unfolding begins_comment strip_prefix
none_begins verbose c t h k l comment_begins = true≢false h
none_begins verbose c t h k l (blank_begins v b) = true≢false (sym (blank_test b) ∙ k v)
none_begins verbose c t h k l (line_begins v) = true≢false (l v)

classified : (verbose : Bool) (inside : LayoutState) (c : ℕ) (t : Text) →
    Found (λ next. Step verbose inside next c t) (NoStep verbose inside c t) (state_after verbose inside c (c ∷ t))
unfolding state_after state_after_blank
classified true nothing c t =
    if_found (begins_comment (c ∷ t)) _ _ (λ h. is_found (to_comment h)) (λ h.
    if_found (c ∈ " \t\r\n") _ _ (λ k. is_found (over_blank refl (blank_of c k))) (λ k.
    if_found (c == 0x23) _ _ (λ l. is_found (at_char c 0x23 (λ d. Step true nothing line d t) l (to_line refl)))
    (λ l. is_none (no_step (none_begins true c t h (λ v. k) (λ v. l))))))
classified false nothing c t =
    if_found (begins_comment (c ∷ t)) _ _ (λ h. is_found (to_comment h))
    (λ h. is_none (no_step (none_begins false c t h (λ v. absurd (true≢false (sym v))) (λ v. absurd (true≢false (sym v))))))
classified verbose line c t =
    if_found (c == 0x0A) _ _ (λ h. is_found (at_char c 0x0A (λ d. Step verbose line nothing d t) h line_ends))
    (λ h. is_found (line_goes_on (is_not c 0x0A h)))
classified verbose comment c t =
    if_found (c == 0x29) _ _ (λ h. is_found (at_char c 0x29 (λ d. Step verbose comment nothing d t) h comment_ends)) (λ h.
    if_found (c == 0x5C) _ _ (λ k. is_found (at_char c 0x5C (λ d. Step verbose comment comment_escape d t) k to_hidden))
    (λ k. is_found (comment_goes_on (is_not c 0x29 h) (is_not c 0x5C k))))
classified verbose comment_escape c t = is_found past_hidden

comment_step : (verbose : Bool) (P : Text → Type 0) → IsCarried verbose P → (c : ℕ) (t : Text) → begins_comment (c ∷ t) ≡ true → At comment P t → P (c ∷ t)
comment_step verbose P carried c t h (u, text, p) =
    let (v, is) = three c t h in
    let inner : IsComment (0x3F ∷ 0x23 ∷ v) u = subst (λ x. IsComment (tail x) u) is text in
    let body : IsComment v u = past (eqb-false 0x23 0x29 refl) (eqb-false 0x23 0x5C refl) (past (eqb-false 0x3F 0x29 refl) (eqb-false 0x3F 0x5C refl) inner) in
    subst P (sym is) (carried.over_comment v u body p)

open_step : (verbose : Bool) (c : ℕ) (t : Text) → begins_comment (c ∷ t) ≡ true → IsOpenComment t → IsOpenLayout verbose (c ∷ t)
open_step verbose c t h open_comment =
    let (v, is) = three c t h in
    let inner : IsOpenComment (0x3F ∷ 0x23 ∷ v) = subst (λ x. IsOpenComment (tail x)) is open_comment in
    let body : IsOpenComment v =
    past_open (eqb-false 0x23 0x29 refl) (eqb-false 0x23 0x5C refl) (past_open (eqb-false 0x3F 0x29 refl) (eqb-false 0x3F 0x5C refl) inner) in
    subst (IsOpenLayout verbose) (sym is) (record { rest = v; layout = nothing_more; open_comment = body })

carry : {verbose : Bool} {inside next : LayoutState} {c : ℕ} {t : Text} (P : Text → Type 0) → IsCarried verbose P → Step verbose inside next c t → At next P t → At inside P (c ∷ t)
carry P carried (to_comment {c} {t} h) at = comment_step _ P carried c t h at
carry P carried (over_blank {c} {t} v b) at = carried.over_blank c t v b at
carry P carried (to_line {t} v) (u, l, p) = carried.over_line t u v l p
carry P carried (line_ends {t}) at = (t, newline, at)
carry P carried (line_goes_on n) (u, l, p) = (u, longer n l, p)
carry P carried (comment_ends {t}) at = (t, closes, at)
carry P carried to_hidden at = at
carry P carried (comment_goes_on n m) (u, l, p) = (u, goes_on n m l, p)
carry P carried past_hidden (u, l, p) = (u, hides l, p)

carry_open : {verbose : Bool} {inside next : LayoutState} {c : ℕ} {t : Text} → Step verbose inside next c t → Open next t →
    At inside (IsOpenLayout verbose) (c ∷ t) ⊎ Open inside (c ∷ t)
carry_open (to_comment {c} {t} h) unclosed = inl (open_step _ c t h unclosed)
carry_open (over_blank v b) unclosed = absurd unclosed
carry_open (to_line v) unclosed = absurd unclosed
carry_open line_ends unclosed = absurd unclosed
carry_open (line_goes_on n) unclosed = absurd unclosed
carry_open comment_ends unclosed = absurd unclosed
carry_open to_hidden unclosed = inr unclosed
carry_open (comment_goes_on n m) unclosed = inr (goes_on_open n m unclosed)
carry_open past_hidden unclosed = inr (hides_in_open unclosed)

-- what the answer says from a place on
abbrev Says : Bool → LayoutState → Text → Option Text → Type 0
Says verbose inside t (Some rest) = At inside (λ u. IsSkipped verbose u rest) t
Says verbose inside t None = At inside (IsOpenLayout verbose) t ⊎ Open inside t

says_before : {verbose : Bool} {inside next : LayoutState} {c : ℕ} {t : Text} (o : Option Text) → Step verbose inside next c t →
    Says verbose next t o → Says verbose inside (c ∷ t) o
says_before {verbose} (Some rest) step says = carry (λ u. IsSkipped verbose u rest) (skipped_carried verbose rest) step says
says_before {verbose} None step says = ⊎_elim (λ at. inl (carry (IsOpenLayout verbose) (open_carried verbose) step at)) (carry_open step) says

says_stop : {verbose : Bool} {inside : LayoutState} {c : ℕ} {t : Text} → NoStep verbose inside c t → Says verbose inside (c ∷ t) (Some (c ∷ t))
says_stop (no_step n) = record { layout = nothing_more; longest = n }

none_at_end : {verbose : Bool} → BeginsLayout verbose [] → ⊥
none_at_end b = elim b [ ]

skipped_at_end : (verbose : Bool) → IsSkipped verbose [] []
skipped_at_end verbose = record { layout = nothing_more; longest = none_at_end }

says : (verbose : Bool) (inside : LayoutState) (t : Text) → Says verbose inside t (skip_layout_from verbose inside t)
unfolding skip_layout_from ended
says verbose nothing [] = skipped_at_end verbose
says verbose line [] = ([], at_end, skipped_at_end verbose)
says verbose comment [] = inr ends
says verbose comment_escape [] = inr ends_hiding
says verbose inside (c ∷ t) = by_step (λ next. says verbose next t) (state_after verbose inside c (c ∷ t)) (classified verbose inside c t)
  where
    by_step : ((next : LayoutState) → Says verbose next t (skip_layout_from verbose next t)) → (o : Option LayoutState) →
        Found (λ next. Step verbose inside next c t) (NoStep verbose inside c t) o →
        Says verbose inside (c ∷ t) (elim o [ None ↦ Some (c ∷ t) | Some next ↦ skip_layout_from verbose next t ])
    by_step more (Some next) (is_found step) = says_before (skip_layout_from verbose next t) step (more next)
    by_step more None (is_none no_more) = says_stop no_more

-- the other way round

step_read : (verbose : Bool) (inside next : LayoutState) (c : ℕ) (t : Text) → state_after verbose inside c (c ∷ t) ≡ Some next →
    skip_layout_from verbose inside (c ∷ t) ≡ skip_layout_from verbose next t
unfolding skip_layout_from
step_read verbose inside next c t h = ap (λ o. elim o [ None ↦ Some (c ∷ t) | Some m ↦ skip_layout_from verbose m t ]) h

more_comment : (verbose : Bool) (c : ℕ) (t : Text) → c ≢ 0x29 → c ≢ 0x5C → state_after verbose comment c (c ∷ t) ≡ Some comment
unfolding state_after
more_comment verbose c t a b =
    ap (λ x. cond x (Some nothing) (cond (c == 0x5C) (Some comment_escape) (Some comment))) (ne_eqb c 0x29 a)
    ∙ ap (λ x. cond x (Some comment_escape) (Some comment)) (ne_eqb c 0x5C b)

more_line : (verbose : Bool) (c : ℕ) (t : Text) → c ≢ 0x0A → state_after verbose line c (c ∷ t) ≡ Some line
unfolding state_after
more_line verbose c t a = ap (λ x. cond x (Some nothing) (Some line)) (ne_eqb c 0x0A a)

comment_read : (verbose : Bool) (t u : Text) → IsComment t u → skip_layout_from verbose comment t ≡ skip_layout_from verbose nothing u
unfolding skip_layout_from state_after
comment_read verbose t u closes = refl
comment_read verbose t u (hides {t = s} h) = comment_read verbose s u h
comment_read verbose t u (goes_on {c} {t = s} a b h) =
    step_read verbose comment comment c s (more_comment verbose c s a b) ∙ comment_read verbose s u h

open_read : (verbose : Bool) (t : Text) → IsOpenComment t → skip_layout_from verbose comment t ≡ None
unfolding skip_layout_from state_after ended
open_read verbose t ends = refl
open_read verbose t ends_hiding = refl
open_read verbose t (hides_in_open {t = s} h) = open_read verbose s h
open_read verbose t (goes_on_open {c} {t = s} a b h) =
    step_read verbose comment comment c s (more_comment verbose c s a b) ∙ open_read verbose s h

line_read : (verbose : Bool) (t u : Text) → IsLine t u → skip_layout_from verbose line t ≡ skip_layout_from verbose nothing u
unfolding skip_layout_from state_after ended
line_read verbose t u at_end = refl
line_read verbose t u newline = refl
line_read verbose t u (longer {c} {t = s} a h) = step_read verbose line line c s (more_line verbose c s a) ∙ line_read verbose s u h

blank_read : {c : ℕ} → IsBlank c → (t : Text) → skip_layout_from true nothing (c ∷ t) ≡ skip_layout_from true nothing t
unfolding skip_layout_from state_after state_after_blank begins_comment strip_prefix
blank_read space t = refl
blank_read tab t = refl
blank_read return t = refl
blank_read line_feed t = refl

comment_begun : (verbose : Bool) (t : Text) → skip_layout_from verbose nothing (0x28 ∷ 0x3F ∷ 0x23 ∷ t) ≡ skip_layout_from verbose comment t
unfolding skip_layout_from state_after begins_comment strip_prefix
comment_begun verbose t = refl

line_begun : (t : Text) → skip_layout_from true nothing (0x23 ∷ t) ≡ skip_layout_from true line t
unfolding skip_layout_from state_after state_after_blank begins_comment strip_prefix
line_begun t = refl

layout_read : (verbose : Bool) (t rest : Text) → IsLayout verbose t rest → skip_layout_from verbose nothing t ≡ skip_layout_from verbose nothing rest
layout_read verbose t rest nothing_more = refl
layout_read verbose t rest (a_comment {t = s} {u} c l) = comment_begun verbose s ∙ comment_read verbose s u c ∙ layout_read verbose u rest l
layout_read verbose t rest (a_blank {c} {t = s} v b l) =
    subst (λ x. skip_layout_from x nothing (c ∷ s) ≡ skip_layout_from x nothing s) (sym v) (blank_read b s) ∙ layout_read verbose s rest l
layout_read verbose t rest (a_line {t = s} {u} v l m) =
    subst (λ x. skip_layout_from x nothing (0x23 ∷ s) ≡ skip_layout_from x line s) (sym v) (line_begun s) ∙ line_read verbose s u l ∙ layout_read verbose u rest m

begins_with : {verbose : Bool} {next : LayoutState} {c : ℕ} {t : Text} → Step verbose nothing next c t → BeginsLayout verbose (c ∷ t)
begins_with {verbose} (to_comment {c} {t} h) = let (u, is) = three c t h in subst (BeginsLayout verbose) (sym is) comment_begins
begins_with (over_blank v b) = blank_begins v b
begins_with (to_line v) = line_begins v

none_read : (verbose : Bool) (t : Text) → (BeginsLayout verbose t → ⊥) → skip_layout_from verbose nothing t ≡ Some t
unfolding skip_layout_from ended
none_read verbose [] n = refl
none_read verbose (c ∷ t) n = by_step (state_after verbose nothing c (c ∷ t)) (classified verbose nothing c t)
  where
    by_step : (o : Option LayoutState) → Found (λ next. Step verbose nothing next c t) (NoStep verbose nothing c t) o →
        elim o [ None ↦ Some (c ∷ t) | Some next ↦ skip_layout_from verbose next t ] ≡ Some (c ∷ t)
    by_step (Some next) (is_found step) = absurd (n (begins_with step))
    by_step None (is_none no_more) = refl

pub token_sound : (verbose : Bool) (t rest : Text) → next_token verbose t ≡ Some rest → IsSkipped verbose t rest
unfolding next_token
token_sound verbose t rest h = subst (Says verbose nothing t) h (says verbose nothing t)

no_token : (verbose : Bool) (t : Text) → next_token verbose t ≡ None → IsOpenLayout verbose t
unfolding next_token
no_token verbose t h = ⊎_elim (λ at. at) (λ unclosed. absurd unclosed) (subst (Says verbose nothing t) h (says verbose nothing t))

pub token_read : (verbose : Bool) (t rest : Text) → IsSkipped verbose t rest → next_token verbose t ≡ Some rest
unfolding next_token
token_read verbose t rest s = layout_read verbose t rest s.layout ∙ none_read verbose rest s.longest

pub none_next : (verbose : Bool) (t : Text) → IsOpenLayout verbose t → next_token verbose t ≡ None
unfolding next_token
none_next verbose t s = layout_read verbose t _ s.layout ∙ comment_begun verbose s.rest ∙ open_read verbose s.rest s.open_comment

pub next_token_is_exact : NextTokenIsExact
next_token_is_exact verbose t = finds_exactly (next_token verbose t) (token_sound verbose t) (token_read verbose t)

skip_meant : (verbose : Bool) (t : Text) → Meant (IsSkipped verbose t) (LayoutFails verbose t) (skip verbose t)
unfolding skip
skip_meant verbose t = by_token (next_token verbose t) (token_sound verbose t) (no_token verbose t)
  where
    by_token : (o : Option Text) → ((rest : Text) → o ≡ Some rest → IsSkipped verbose t rest) → (o ≡ None → IsOpenLayout verbose t) →
        Meant (IsSkipped verbose t) (LayoutFails verbose t) (elim o [ Some rest ↦ Ok rest | None ↦ fail_at unclosed_open_paren [] ])
    by_token (Some rest) found lacks = is_read (found rest refl)
    by_token None found lacks = is_stopped (record { layout = lacks refl; fault = refl })

skip_read : (verbose : Bool) (t rest : Text) → IsSkipped verbose t rest → skip verbose t ≡ Ok rest
unfolding skip
skip_read verbose t rest s = ap (λ o. elim o [ Some rest ↦ Ok rest | None ↦ fail_at unclosed_open_paren [] ]) (token_read verbose t rest s)

skip_stopped : (verbose : Bool) (t : Text) (e : ParseFault) → LayoutFails verbose t e → skip verbose t ≡ Err e
unfolding skip
skip_stopped verbose t e s = ap (λ o. elim o [ Some rest ↦ Ok rest | None ↦ fail_at unclosed_open_paren [] ]) (none_next verbose t s.layout) ∙ ap Err (sym s.fault)

pub skip_is_exact : SkipIsExact
skip_is_exact verbose t = reads_exactly (skip verbose t) (skip_meant verbose t) (skip_read verbose t) (skip_stopped verbose t)
