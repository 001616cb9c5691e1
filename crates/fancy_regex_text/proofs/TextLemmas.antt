-- Texts as bytes and as characters.
use Rattle.std.proofs.Common.{◌≡◌, ◌≢◌, ℕ, ◌+◌, ◌-◌, ◌≤◌, ◌<◌, Bool, true, false, cond, List, [], ◌∷◌, ◌++◌, length, take, Option, Some, None, option_map, is_some, slice_range, refl, sym, ap, ◌∙◌, subst, IsUtf8, chars, encode_utf8, encode_utf8_all, append_assoc, append-nil, ◌==◌, arith, ◌⊎◌, inl, inr, ⊎_elim}
use Rattle.std.specs.Str.{IsCharBoundary, NoCharPasses, NonePass}
use Rattle.std.specs.Str.Pattern.{SplitsAroundMatch, FindsChar, StripsPrefix, FindsTextPrefix}
use Rattle.std.proofs.Math.Seq.{take-append_seam}
use Rattle.std.proofs.lemmas.Str.{length-encode, len_utf8_bounds, encodes-chars, encodes-append, chars-append, chars_past_char, chars_from_encodes, encodes_same, IsUtf8-past_char, IsUtf8-take, IsCharBoundary-at_seam}
use Rattle.std.proofs.lemmas.Bool.{eqb-true, eq-eqb}
use Rattle.std.proofs.lemmas.List.{length-append, take-append-drop}
use Rattle.std.proofs.lemmas.Option.{none-some, same_Some}
use Rattle.fancy_regex_text.specs.Text.{Text, strip_prefix, split_once, bytes, is_empty, IsSuffix, prefix_before}

-- how many bytes the characters take
pub length-encodes : (cs : List ℕ) → length (encode_utf8_all cs) ≡ bytes cs
unfolding bytes
length-encodes [] = refl
length-encodes (c ∷ cs) = length-append (encode_utf8 c) (encode_utf8_all cs) ∙ rw (length-encode c, length-encodes cs) refl

pub bytes-chars : (bs : List ℕ) → IsUtf8 bs → bytes (chars bs) ≡ length bs
bytes-chars bs u = sym (length-encodes (chars bs)) ∙ ap (λ x. length x) (encodes-chars bs u)

pub strip_prefix-append : (w t : Text) → strip_prefix w (w ++ t) ≡ Some t
unfolding strip_prefix
strip_prefix-append [] t = refl
strip_prefix-append (c ∷ w) t = ap (λ b. cond b (strip_prefix w (w ++ t)) None) (eq-eqb c c refl) ∙ strip_prefix-append w t

if_first : {A : Type 0} (b : Bool) (o : Option A) (r : A) → cond b o None ≡ Some r → (b ≡ true) × (o ≡ Some r)
if_first true o r h = (refl, h)
if_first false o r h = absurd (none-some _ h)

pub strip_prefix_is : (w t r : Text) → strip_prefix w t ≡ Some r → t ≡ w ++ r
unfolding strip_prefix
strip_prefix_is [] t r h = same_Some t r h
strip_prefix_is (d ∷ w) [] r h = absurd (none-some _ h)
strip_prefix_is (d ∷ w) (c ∷ t) r h =
    let (same, more) = if_first (c == d) (strip_prefix w t) r h in
    rw (eqb-true c d same, strip_prefix_is w t r more) refl

-- what `strip_prefix` leaves
pub strip_prefix_found : (w s x : List ℕ) → IsUtf8 w → s ≡ w ++ x → strip_prefix (chars w) (chars s) ≡ Some (chars x)
strip_prefix_found w s x u e = rw (e, chars-append w x u) (strip_prefix-append (chars w) (chars x))

pub strip_prefix_none : (w s : List ℕ) → IsUtf8 w → IsUtf8 s → ((rest : List ℕ) → s ≢ w ++ rest) → strip_prefix (chars w) (chars s) ≡ None
strip_prefix_none w s u v lacks = none_of (strip_prefix (chars w) (chars s)) (λ r h.
    lacks (encode_utf8_all r) (sym (encodes-chars s v) ∙ ap encode_utf8_all (strip_prefix_is (chars w) (chars s) r h)
    ∙ encodes-append (chars w) r ∙ ap (λ x. x ++ encode_utf8_all r) (encodes-chars w u)))
  where
    none_of : {A : Type 0} (o : Option A) → ((a : A) → o ≡ Some a → ⊥) → o ≡ None
    none_of None h = refl
    none_of (Some a) h = absurd (h a refl)

-- the first place of a character
pub up_to_found : (c : ℕ) (a b : Text) → NonePass (λ d. d == c) a → split_once c (a ++ c ∷ b) ≡ Some (a, b)
unfolding split_once
up_to_found c [] b none = ap (λ x. cond x (Some ([], b)) (option_map (λ found. (c ∷ found.0, found.1)) (split_once c b))) (eq-eqb c c refl)
up_to_found c (d ∷ a) b none = rw (none.0, up_to_found c a b none.1) refl

pub up_to_none : (c : ℕ) (t : Text) → NonePass (λ d. d == c) t → split_once c t ≡ None
unfolding split_once
up_to_none c [] none = refl
up_to_none c (d ∷ t) none = rw (none.0, up_to_none c t none.1) refl

-- what follows characters in a text is a text, and so are they
utf8_after : (cs s rest : List ℕ) → IsUtf8 s → s ≡ encode_utf8_all cs ++ rest → IsUtf8 rest
utf8_after [] s rest u e = subst IsUtf8 e u
utf8_after (c ∷ cs) s rest u e =
    let e1 : s ≡ encode_utf8 c ++ (encode_utf8_all cs ++ rest) = e ∙ append_assoc (encode_utf8 c) (encode_utf8_all cs) rest in
    utf8_after cs (encode_utf8_all cs ++ rest) rest (IsUtf8-past_char s _ c u e1) refl

utf8_before : (a s rest : List ℕ) → IsUtf8 s → s ≡ a ++ rest → IsUtf8 rest → IsUtf8 a
utf8_before a s rest u e v =
    subst IsUtf8 (ap (λ x. take (length a) x) e ∙ take-append_seam a rest) (IsUtf8-take s (length a) u (IsCharBoundary-at_seam s a rest e v))

-- what `split_once` finds
pub up_to_split : (c : ℕ) (s a b : List ℕ) → IsUtf8 s → NoCharPasses (λ d. d == c) a → s ≡ a ++ (encode_utf8 c ++ b) →
    split_once c (chars s) ≡ Some (chars a, chars b)
up_to_split c s a b u (cs, spells, none) e =
    let v : IsUtf8 (encode_utf8 c ++ b) = utf8_after cs s (encode_utf8 c ++ b) u (e ∙ ap (λ x. x ++ (encode_utf8 c ++ b)) (sym spells)) in
    let w : IsUtf8 a = utf8_before a s (encode_utf8 c ++ b) u e v in
    let all : chars s ≡ chars a ++ (c ∷ chars b) =
    ap chars e ∙ chars-append a (encode_utf8 c ++ b) w ∙ ap (λ x. chars a ++ x) (chars_past_char (encode_utf8 c ++ b) b c v refl) in
    rw all (up_to_found c (chars a) (chars b) (subst (λ x. NonePass (λ d. d == c) x) (chars_from_encodes cs a w spells) none))

pub up_to_split_once : (c : ℕ) (s a b : List ℕ) → IsUtf8 s → SplitsAroundMatch (FindsChar c) s a b → split_once c (chars s) ≡ Some (chars a, chars b)
up_to_split_once c s a b u (i, j, (none, at), front, back, le, front_len_is, back_len_is) =
    up_to_split c s a b u (subst (NoCharPasses (λ d. d == c)) (sym front) none)
    (sym (take-append-drop i s) ∙ rw (at.split, front, back) refl)

-- what `strip_prefix` finds
pub strip_prefix_matches_std : (w s x : List ℕ) → IsUtf8 w → StripsPrefix (FindsTextPrefix w) s x → strip_prefix (chars w) (chars s) ≡ Some (chars x)
strip_prefix_matches_std w s x u (n, (at, split, cut), rest, len) = strip_prefix_found w s x u (split ∙ ap (λ y. w ++ y) (sym rest))

pub up_to_missing : (c : ℕ) (s : List ℕ) → IsUtf8 s → NoCharPasses (λ d. d == c) s → split_once c (chars s) ≡ None
up_to_missing c s u (cs, spells, none) = up_to_none c (chars s) (subst (λ x. NonePass (λ d. d == c) x) (chars_from_encodes cs s u spells) none)

-- where a text ends with another, in bytes
pub front_bytes : (s r : List ℕ) → IsUtf8 s → IsUtf8 r → (end : IsSuffix (chars r) (chars s)) → s ≡ encode_utf8_all end.0 ++ r
front_bytes s r u v (front, e) =
    sym (encodes-chars s u) ∙ ap encode_utf8_all e ∙ encodes-append front (chars r) ∙ ap (λ x. encode_utf8_all front ++ x) (encodes-chars r v)

pub front_len : (s f r : List ℕ) → s ≡ f ++ r → length s ≡ length f + length r
front_len s f r e = ap (λ x. length x) e ∙ length-append f r

-- where a text ends with another, the place at which that begins
pub end_fits : (s r : List ℕ) → IsUtf8 s → IsUtf8 r → IsSuffix (chars r) (chars s) → length r ≤ length s
end_fits s r u v end = omega (arith, front_len s (encode_utf8_all end.0) r (front_bytes s r u v end))

front_place : (s f r : List ℕ) → s ≡ f ++ r → length s - length r ≡ length f
front_place s f r e = omega (arith, front_len s f r e)

pub end_boundary : (s r : List ℕ) → IsUtf8 s → IsUtf8 r → IsSuffix (chars r) (chars s) → IsCharBoundary s (length s - length r)
end_boundary s r u v end =
    let e = front_bytes s r u v end in
    subst (IsCharBoundary s) (sym (front_place s (encode_utf8_all end.0) r e)) (IsCharBoundary-at_seam s (encode_utf8_all end.0) r e v)

pub front_range : (s : List ℕ) (n : ℕ) → slice_range s 0 n ≡ take n s
front_range s n = ap (λ m. take m s) (omega arith)

-- the characters in front
pub front_chars : (s r : List ℕ) → IsUtf8 s → IsUtf8 r → IsSuffix (chars r) (chars s) →
    chars (take (length s - length r) s) ≡ prefix_before (chars s) (chars r)
front_chars s r u v end =
    let e = front_bytes s r u v end in
    let w : IsUtf8 (encode_utf8_all end.0) = utf8_before (encode_utf8_all end.0) s r u e v in
    let is : take (length s - length r) s ≡ encode_utf8_all end.0 =
    ap (λ n. take n s) (front_place s (encode_utf8_all end.0) r e) ∙ ap (λ x. take (length (encode_utf8_all end.0)) x) e
    ∙ take-append_seam (encode_utf8_all end.0) r in
    let same : chars (encode_utf8_all end.0) ≡ end.0 = sym (chars_from_encodes end.0 _ w refl) in
    ap chars is ∙ same
    ∙ sym (ap (λ n. take n (chars s)) (front_place (chars s) end.0 (chars r) end.1) ∙ ap (λ x. take (length end.0) x) end.1 ∙ take-append_seam end.0 (chars r))

eqb_no : (c d : ℕ) → c ≢ d → (c == d) ≡ false
eqb_no c d n = ⊎_elim (λ h. absurd (n (eqb-true c d h))) (λ h. h) (true_or_false (c == d))
  where
    true_or_false : (b : Bool) → (b ≡ true) ⊎ (b ≡ false)
    true_or_false true = inl refl
    true_or_false false = inr refl

empty_encodes : (cs : List ℕ) → is_empty cs ≡ (length (encode_utf8_all cs) == 0)
empty_encodes [] = refl
empty_encodes (c ∷ cs) =
    sym (eqb_no (length (encode_utf8_all (c ∷ cs))) 0
    (λ h. omega (arith, h, length-append (encode_utf8 c) (encode_utf8_all cs), length-encode c, len_utf8_bounds c)))

pub empty_chars : (s : List ℕ) → IsUtf8 s → is_empty (chars s) ≡ (length s == 0)
empty_chars s u = empty_encodes (chars s) ∙ ap (λ x. length x == 0) (encodes-chars s u)

pub is_some-map : {A B : Type 0} (f : A → B) (o : Option A) → is_some (option_map f o) ≡ is_some o
is_some-map f None = refl
is_some-map f (Some a) = refl

abbrev found_here : Text → Option (Text × Text)
found_here t = Some ([], t)

abbrev found_later : ℕ → Text × Text → Text × Text
found_later d found = (d ∷ found.0, found.1)

-- what follows a character is shorter
up_to_shorter_in : (c : ℕ) (t : Text) (d : ℕ) (same : Bool) (more : Option (Text × Text)) (a b : Text) →
    (more ≡ split_once c t) → ((x y : Text) → split_once c t ≡ Some (x, y) → length y < length t) →
    cond same (found_here t) (option_map (found_later d) more) ≡ Some (a, b) → length b < length (d ∷ t)
up_to_shorter_in c t d true more a b is shorter h = omega (arith, ap (λ x. length x.1) (same_Some ([], t) (a, b) h))
up_to_shorter_in c t d false None a b is shorter h = absurd (none-some (a, b) h)
up_to_shorter_in c t d false (Some x) a b is shorter h =
    omega (arith, ap (λ x. length x.1) (same_Some (d ∷ x.0, x.1) (a, b) h), shorter x.0 x.1 (sym is))

pub up_to_shorter : (c : ℕ) (t a b : Text) → split_once c t ≡ Some (a, b) → length b < length t
unfolding split_once
up_to_shorter c [] a b h = absurd (none-some (a, b) h)
up_to_shorter c (d ∷ t) a b h = up_to_shorter_in c t d (d == c) (split_once c t) a b refl (λ x y k. up_to_shorter c t x y k) h

-- a text with characters added
pub added_chars : (old new : List ℕ) (t : Text) → IsUtf8 old → IsUtf8 new → new ≡ old ++ encode_utf8_all t → chars new ≡ chars old ++ t
added_chars old new t u v e =
    encodes_same (chars new) (chars old ++ t)
    (encodes-chars new v ∙ e ∙ sym (encodes-append (chars old) t ∙ ap (λ x. x ++ encode_utf8_all t) (encodes-chars old u)))

pub encode_one : (c : ℕ) → encode_utf8 c ≡ encode_utf8_all (c ∷ [])
encode_one c = sym (append-nil (encode_utf8 c))

-- a character after a text
pub pushed_chars : (old new : List ℕ) (c : ℕ) → IsUtf8 old → IsUtf8 new → new ≡ old ++ encode_utf8 c → chars new ≡ chars old ++ c ∷ []
pushed_chars old new c u v e = added_chars old new (c ∷ []) u v (e ∙ ap (λ x. old ++ x) (encode_one c))

-- a text after a text
pub joined_chars : (old new t : List ℕ) → IsUtf8 old → new ≡ old ++ t → chars new ≡ chars old ++ chars t
joined_chars old new t u e = ap chars e ∙ chars-append old t u
