-- The first bytes of characters.
use Rattle.std.proofs.Common.{◌≡◌, ◌⊎◌, inl, inr, ⊎_elim, ℕ, zero, suc, ◌+◌, ◌/◌, ◌<◌, ◌≤◌, Bool, true, false, ◌&&◌, ◌||◌, ◌==◌, nat_lt, List, [], ◌∷◌, ◌++◌, length, drop, Some, slice_get, slice_index, encode_utf8, Contains, refl, sym, ap, subst, ◌∙◌, arith, eqb-true, eq-eqb, zero-lt-suc, suc-le-suc, le_of_suc-le-suc, not-suc-le-zero}
use Rattle.std.specs.List.{list_any}
use Rattle.std.specs.Char.{IsScalar, len_utf8, to_ascii_lowercase, to_ascii_uppercase}
use Rattle.std.proofs.lemmas.Bool.{and_parts, and_from, or_cases, cond_both, cases_lt, cond-true, cond-false, ltb-true, or_left, or_right, both_ways, false≢true}
use Rattle.std.proofs.lemmas.Bool.Decides.{nat_tests}
use Rattle.std.proofs.lemmas.Str.{encode_ascii, length-encode, len_utf8_bounds}
use Rattle.regex_hir.specs.Text.{is_scalar, char_at}
use Rattle.regex_hir.proofs.TextLemmas.{char_at_parts, is_scalar-of_IsScalar, IsScalar-of_is_scalar}
use Rattle.regex_hir.proofs.Utf8Lemmas.{encode_two, encode_three, encode_four, InScalarRange-of_IsScalar}
use Rattle.fancy_regex_meaning.specs.Positions.{numbers_from}
use Rattle.ucd_case.specs.CaseFolding.{simple_fold, fold_pairs}
use Rattle.ucd_case.proofs.FoldPairsLemmas.{IsFoldPairs-fold_pairs}
use Rattle.fancy_regex_class.specs.Classes.{folded, ascii_lower}
use Rattle.fancy_regex_bytes.specs.ByteSets.{Bytes, either_bytes, bytes_in, first_byte}
use Rattle.fancy_regex_bytes.specs.StartBytes.{code_points, first_bytes, literal_starts, paired_starts, class_starts}
use Rattle.fancy_regex_bytes.proofs.ByteSetLemmas.{same_bytes}

-- two tests that imply each other
same_tests : (x y : Bool) → (x ≡ true → y ≡ true) → (y ≡ true → x ≡ true) → x ≡ y
same_tests true true f g = refl
same_tests true false f g = sym (f refl)
same_tests false true f g = g refl
same_tests false false f g = refl

-- an ASCII character is its own byte, and the first byte of every other one is outside ASCII
pub first_byte_cases : (c : ℕ) → IsScalar c → ((c < 128) × (first_byte c ≡ c)) ⊎ ((128 ≤ first_byte c) × (first_byte c < 256))
first_byte_cases c scalar =
    ⊎_elim (λ (one : c < 128). inl (one, ap (λ bs. slice_index bs 0) (encode_ascii c one)))
    (λ (more : 128 ≤ c). inr
    (⊎_elim
    (λ (two : c < 0x800). let e : first_byte c ≡ 192 + c / 64 = ap (λ bs. slice_index bs 0) (encode_two c more two) in (omega arith, omega arith))
    (λ (above : 0x800 ≤ c).
    ⊎_elim
    (λ (three : c < 0x1_0000). let e : first_byte c ≡ 224 + c / 4096 = ap (λ bs. slice_index bs 0) (encode_three c above three) in (omega arith, omega arith))
    (λ (four : 0x1_0000 ≤ c). let e : first_byte c ≡ 240 + c / 262144 = ap (λ bs. slice_index bs 0) (encode_four c four) in
    let small : c < 0x11_0000 = below in (omega arith, omega arith))
    (cases_lt c 0x1_0000))
    (cases_lt c 0x800)))
    (cases_lt c 128)
  where
    below : c < 0x11_0000
    below = let range = InScalarRange-of_IsScalar c scalar in omega arith

-- what begins like this has this byte at its place
pub at_drop : (text : List ℕ) (p y : ℕ) (ys : List ℕ) → drop p text ≡ y ∷ ys → (slice_get text p ≡ Some y) × (drop (suc p) text ≡ ys)
at_drop [] zero y ys e = cc
at_drop [] (suc p) y ys e = cc
at_drop (x ∷ xs) zero y ys e = (ap (λ l. slice_get l 0) e, ap (drop 1) e)
at_drop (x ∷ xs) (suc p) y ys e = at_drop xs p y ys e

pub some_byte : (text bs rest : List ℕ) (p b : ℕ) → drop p text ≡ bs ++ rest → bytes_in bs b ≡ true → (i : ℕ) × (slice_get text i ≡ Some b)
some_byte text [] rest p b e h = absurd (false≢true h)
some_byte text (y ∷ ys) rest p b e h =
    let here = at_drop text p y (ys ++ rest) e in
    ⊎_elim (λ same. (p, here.0 ∙ ap Some (eqb-true y b same))) (λ later. some_byte text ys rest (suc p) b here.1 later)
    (or_cases (y == b) (bytes_in ys b) h)

-- the bytes of a character that is read
pub read_bytes : (text : List ℕ) (p c b : ℕ) → char_at text p ≡ Some c → bytes_in (encode_utf8 c) b ≡ true → (i : ℕ) × (slice_get text i ≡ Some b)
read_bytes text p c b e h = some_byte text (encode_utf8 c) (drop (p + len_utf8 c) text) p b (char_at_parts text p c e).1 h

head_of : (bs : List ℕ) → 1 ≤ length bs → (rest : List ℕ) × (bs ≡ slice_index bs 0 ∷ rest)
head_of [] h = absurd (omega (arith, h))
head_of (x ∷ xs) h = (xs, refl)

-- and its first byte is at its place
pub read_first : (text : List ℕ) (p c : ℕ) → char_at text p ≡ Some c → slice_get text p ≡ Some (first_byte c)
read_first text p c e =
    let parts = char_at_parts text p c e in
    let first = head_of (encode_utf8 c) (omega (arith, length-encode c, len_utf8_bounds c)) in
    (at_drop text p (first_byte c) (first.0 ++ drop (p + len_utf8 c) text) (parts.1 ∙ ap (λ bs. bs ++ drop (p + len_utf8 c) text) first.1)).0

-- a test of all code points
any_from : (p : ℕ → Bool) (n i c : ℕ) → i ≤ c → c < i + n → p c ≡ true → list_any p (numbers_from n i) ≡ true
any_from p zero i c low high h = absurd (omega (arith, low, high))
any_from p (suc n) i c low high h =
    ⊎_elim (λ (later : i < c). or_right (p i) _ (any_from p n (i + 1) c (omega (arith, later)) (omega (arith, high)) h))
    (λ (here : c ≤ i). let same : c ≡ i = omega (arith, low, here) in or_left (p i) _ (subst (λ x. p x ≡ true) same h))
    (cases_lt i c)

some_from : (p : ℕ → Bool) (n i : ℕ) → list_any p (numbers_from n i) ≡ true → (c : ℕ) × (p c ≡ true)
some_from p zero i h = absurd (false≢true h)
some_from p (suc n) i h = ⊎_elim (λ e. (i, e)) (λ e. some_from p n (i + 1) e) (or_cases (p i) (list_any p (numbers_from n (i + 1))) h)

pub in_first_bytes : (test : ℕ → Bool) (c b : ℕ) → IsScalar c → test c ≡ true → first_byte c ≡ b → first_bytes test b ≡ true
unfolding code_points
in_first_bytes test c b scalar passes e =
    any_from (λ x. is_scalar x && test x && first_byte x == b) 0x11_0000 0 c (omega arith) below
    (and_from _ _ (and_from _ _ (is_scalar-of_IsScalar c scalar) passes) (eq-eqb _ _ e))
  where
    below : c < 0 + 0x11_0000
    below = let range = InScalarRange-of_IsScalar c scalar in omega arith

pub of_first_bytes : (test : ℕ → Bool) (b : ℕ) → first_bytes test b ≡ true → (c : ℕ) × IsScalar c × (test c ≡ true) × (first_byte c ≡ b)
unfolding code_points
of_first_bytes test b h =
    let found = some_from (λ x. is_scalar x && test x && first_byte x == b) 0x11_0000 0 h in
    let outer = and_parts _ _ found.1 in
    let inner = and_parts _ _ outer.0 in
    (found.0, IsScalar-of_is_scalar found.0 inner.0, inner.1, eqb-true _ _ outer.1)

pub either_is : (b : Bool) → (b ≡ true) ⊎ (b ≡ false)
either_is true = inl refl
either_is false = inr refl

lower_scalar : (c : ℕ) → IsScalar c → IsScalar (to_ascii_lowercase c)
lower_scalar c h = grind (arith, nat_tests)

upper_scalar : (c : ℕ) → IsScalar c → IsScalar (to_ascii_uppercase c)
upper_scalar c h = grind (arith, nat_tests)

lower_alike : (c : ℕ) → ascii_lower (to_ascii_lowercase c) ≡ ascii_lower c
lower_alike c = grind (arith, nat_tests)

upper_alike : (c : ℕ) → ascii_lower (to_ascii_uppercase c) ≡ ascii_lower c
upper_alike c = grind (arith, nat_tests)

-- what differs in case alone is one of three
ascii_alike : (c x : ℕ) → ascii_lower x ≡ ascii_lower c → (x ≡ c) ⊎ ((x ≡ to_ascii_lowercase c) ⊎ (x ≡ to_ascii_uppercase c))
ascii_alike c x h = grind (arith, nat_tests)

-- an element that passes a test
any_at : {X : Type 0} (p : X → Bool) (xs : List X) → list_any p xs ≡ true → (x : X) × Contains xs x × (p x ≡ true)
any_at p [] h = absurd (false≢true h)
any_at p (x ∷ xs) h =
    ⊎_elim (λ e. (x, (zero, zero-lt-suc _, refl), e))
    (λ e. let found = any_at p xs e in (found.0, (suc found.1.0, suc-le-suc found.1.1, found.1.2), found.2))
    (or_cases (p x) (list_any p xs) h)

at_any : {X : Type 0} (p : X → Bool) (xs : List X) (x : X) → Contains xs x → p x ≡ true → list_any p xs ≡ true
at_any p [] x (k, lt, at) h = absurd (not-suc-le-zero lt)
at_any p (y ∷ xs) x (zero, lt, at) h = or_left (p y) _ (subst (λ z. p z ≡ true) (sym at) h)
at_any p (y ∷ xs) x (suc k, lt, at) h = or_right (p y) _ (at_any p xs x (k, le_of_suc-le-suc lt, at) h)

-- a partner by the table of pairs
paired : (c b : ℕ) → paired_starts fold_pairs c b ≡ true → (x : ℕ) × IsScalar x × (simple_fold x ≡ simple_fold c) × (first_byte x ≡ b)
paired c b h =
    let found = any_at (λ (p : ℕ × ℕ). p.0 == c && is_scalar p.1 && first_byte p.1 == b) fold_pairs h in
    let outer = and_parts _ _ found.2 in
    let inner = and_parts _ _ outer.0 in
    let same : found.0.0 ≡ c = eqb-true _ _ inner.0 in
    let folds = ((IsFoldPairs-fold_pairs found.0.0 found.0.1).0 found.1).1 in
    (found.0.1, IsScalar-of_is_scalar found.0.1 inner.1, sym folds ∙ ap simple_fold same, eqb-true _ _ outer.1)

in_pairs : (c x b : ℕ) → IsScalar x → (x == c) ≡ false → simple_fold x ≡ simple_fold c → first_byte x ≡ b → paired_starts fold_pairs c b ≡ true
in_pairs c x b scalar apart folds e =
    at_any (λ (p : ℕ × ℕ). p.0 == c && is_scalar p.1 && first_byte p.1 == b) fold_pairs (c, x)
    ((IsFoldPairs-fold_pairs c x).1 (λ same. both_ways (x == c) apart (eq-eqb x c (sym same)), sym folds))
    (and_from _ _ (and_from _ _ (eq-eqb c c refl) (is_scalar-of_IsScalar x scalar)) (eq-eqb _ _ e))

or_assoc : (x y z : Bool) → (x || (y || z)) ≡ ((x || y) || z)
or_assoc true y z = refl
or_assoc false y z = refl

-- a literal without regard to case, in Unicode mode
unicode_starts : (c b : ℕ) → IsScalar c → (paired_starts fold_pairs c b || first_byte c == b) ≡ literal_starts (folded true) c true b
unicode_starts c b scalar = same_tests _ _
    (λ h. ⊎_elim (λ other. let x = paired c b other in in_first_bytes (λ x. simple_fold x == simple_fold c) x.0 b x.1 (eq-eqb _ _ x.2) x.3)
    (λ same. in_first_bytes (λ x. simple_fold x == simple_fold c) c b scalar (eq-eqb _ _ refl) (eqb-true _ _ same))
    (or_cases (paired_starts fold_pairs c b) (first_byte c == b) h))
    (λ h. let x = of_first_bytes (λ x. simple_fold x == simple_fold c) b h in
    ⊎_elim (λ same. or_right (paired_starts fold_pairs c b) _ (eq-eqb _ _ (ap first_byte (sym (eqb-true x.0 c same)) ∙ x.3)))
    (λ other. or_left _ _ (in_pairs c x.0 b x.1 other (eqb-true _ _ x.2) x.3))
    (either_is (x.0 == c)))

pub literal_unicode : (c : ℕ) (old : Bytes) → IsScalar c →
    either_bytes (paired_starts fold_pairs c) (either_bytes (λ b. first_byte c == b) old) ≡ either_bytes (literal_starts (folded true) c true) old
literal_unicode c old scalar = same_bytes (λ b. or_assoc (paired_starts fold_pairs c b) (first_byte c == b) (old b)
    ∙ ap (λ r. r || old b) (unicode_starts c b scalar))

-- and outside of it, where letters alone have case
ascii_starts : (c b : ℕ) → IsScalar c →
    (first_byte (to_ascii_uppercase c) == b || (first_byte (to_ascii_lowercase c) == b || first_byte c == b)) ≡ literal_starts (folded false) c true b
ascii_starts c b scalar = same_tests _ _
    (λ h. ⊎_elim (λ up. in_first_bytes (λ x. ascii_lower x == ascii_lower c) (to_ascii_uppercase c) b (upper_scalar c scalar) (eq-eqb _ _ (upper_alike c)) (eqb-true _ _ up))
    (λ others. ⊎_elim
    (λ low. in_first_bytes (λ x. ascii_lower x == ascii_lower c) (to_ascii_lowercase c) b (lower_scalar c scalar) (eq-eqb _ _ (lower_alike c)) (eqb-true _ _ low))
    (λ same. in_first_bytes (λ x. ascii_lower x == ascii_lower c) c b scalar (eq-eqb _ _ refl) (eqb-true _ _ same))
    (or_cases (first_byte (to_ascii_lowercase c) == b) (first_byte c == b) others))
    (or_cases (first_byte (to_ascii_uppercase c) == b) (first_byte (to_ascii_lowercase c) == b || first_byte c == b) h))
    (λ h. let x = of_first_bytes (λ x. ascii_lower x == ascii_lower c) b h in
    ⊎_elim (λ same. or_right (first_byte (to_ascii_uppercase c) == b) _ (or_right (first_byte (to_ascii_lowercase c) == b) _ (eq-eqb _ _ (ap first_byte (sym same) ∙ x.3))))
    (λ other. ⊎_elim
    (λ low. or_right (first_byte (to_ascii_uppercase c) == b) _ (or_left _ _ (eq-eqb _ _ (ap first_byte (sym low) ∙ x.3))))
    (λ up. or_left _ _ (eq-eqb _ _ (ap first_byte (sym up) ∙ x.3)))
    other)
    (ascii_alike c x.0 (eqb-true _ _ x.2)))

pub literal_ascii : (c : ℕ) (old : Bytes) → IsScalar c →
    either_bytes (λ b. first_byte (to_ascii_uppercase c) == b) (either_bytes (λ b. first_byte (to_ascii_lowercase c) == b) (either_bytes (λ b. first_byte c == b) old))
    ≡ either_bytes (literal_starts (folded false) c true) old
literal_ascii c old scalar = same_bytes (λ b.
    ap (λ r. first_byte (to_ascii_uppercase c) == b || r) (or_assoc (first_byte (to_ascii_lowercase c) == b) (first_byte c == b) (old b))
    ∙ or_assoc (first_byte (to_ascii_uppercase c) == b) (first_byte (to_ascii_lowercase c) == b || first_byte c == b) (old b)
    ∙ ap (λ r. r || old b) (ascii_starts c b scalar))

-- a class, by its ASCII members
pub class_same : (f g : ℕ → Bool) → ((b : ℕ) → b < 128 → f b ≡ g b) → class_starts f ≡ class_starts g
class_same f g same = same_bytes (λ b. cond_both (nat_lt b 128) (f b) (nat_lt b 256) (λ v. v ≡ class_starts g b)
    (λ e. same b (ltb-true _ _ e) ∙ sym (cond-true _ (g b) (nat_lt b 256) e))
    (λ e. sym (cond-false _ (g b) (nat_lt b 256) e)))

pub ascii_scalar : (c : ℕ) → c < 128 → IsScalar c
ascii_scalar c low = grind (arith, nat_tests)
