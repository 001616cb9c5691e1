-- Texts that are written one after another.
use Rattle.std.proofs.Common.{◌≡◌, ℕ, ◌+◌, ◌≤◌, List, ◌++◌, length, take, Option, Some, None, sym, ap, ◌∙◌, subst, append_assoc, append-nil, arith, [], Result, Ok, Err, chars, IsUtf8, encode_utf8_all}
use Rattle.std.specs.Io.KnownBytes.{Appends}
use Rattle.std.specs.Result.{OnErr}
use Rattle.std.proofs.lemmas.List.{length-append, take-append-le}
use Rattle.std.proofs.lemmas.Str.{encodes-append, encodes-chars}
use Rattle.std.proofs.Math.Seq.{take-append-add}
use Rattle.fancy_regex_text.specs.Text.{Text}
use Rattle.fancy_regex_template.specs.Writing.{AppendsBeginning}

pub Appends-more : (a b c : Option (List ℕ)) (xs ys : List ℕ) → Appends a b xs → Appends b c ys → Appends a c (xs ++ ys)
Appends-more None b c xs ys p q = tt
Appends-more (Some x) None c xs ys p q = absurd p
Appends-more (Some x) (Some y) None xs ys p q = absurd q
Appends-more (Some x) (Some y) (Some z) xs ys p q = q ∙ ap (λ v. v ++ ys) p ∙ append_assoc x xs ys

Appends-at : (a b : Option (List ℕ)) (xs ys : List ℕ) → xs ≡ ys → Appends a b xs → Appends a b ys
Appends-at a b xs ys e p = subst (λ (zs : List ℕ). Appends a b zs) e p

-- the first of several texts were written, and a beginning of the next, but not all of it
pub beginning : (a b c : Option (List ℕ)) (xs ys zs all : List ℕ) → xs ++ (ys ++ zs) ≡ all → Appends a b xs → AppendsBeginning b c ys → AppendsBeginning a c all
beginning a b c xs ys zs all e p (n, less, q) =
    let le : n ≤ length ys = omega (arith, less) in (
      length xs + n,
      omega (arith, ap length e, length-append xs (ys ++ zs), length-append ys zs),
      Appends-at a c (xs ++ take n ys) (take (length xs + n) all) (sym (take-append-add xs (ys ++ zs) n ∙ ap (λ v. xs ++ v) (take-append-le n ys zs le)) ∙ ap (take (length xs + n)) e) (Appends-more a b c xs (take n ys) p q),
    )

-- one more text, as characters
pub one_more : (done : Text) (r : List ℕ) → IsUtf8 r → encode_utf8_all done ++ r ≡ encode_utf8_all (done ++ chars r)
one_more done r u = ap (λ x. encode_utf8_all done ++ x) (sym (encodes-chars r u)) ∙ sym (encodes-append done (chars r))

pub in_front : (done here later all : Text) (r : List ℕ) → IsUtf8 r → chars r ≡ here → done ++ (here ++ later) ≡ all →
    encode_utf8_all done ++ (r ++ encode_utf8_all later) ≡ encode_utf8_all all
in_front done here later all r u is e =
    ap (λ x. encode_utf8_all done ++ (x ++ encode_utf8_all later)) (sym (encodes-chars r u) ∙ ap encode_utf8_all is)
    ∙ ap (λ x. encode_utf8_all done ++ x) (sym (encodes-append here later)) ∙ sym (encodes-append done (here ++ later)) ∙ ap encode_utf8_all e

pub Appends-nothing : (a : Option (List ℕ)) → Appends a a []
Appends-nothing None = tt
Appends-nothing (Some x) = sym (append-nil x)

pub on_err : {T E : Type 0} (r : Result T E) (P : Type 0) → P → OnErr r P
on_err (Ok x) P p = tt
on_err (Err e) P p = p
