use Rattle.std.proofs.Common.{◌≡◌, ◌∙◌, nat_eq, List, ℕ, ◌-◌, length, take, drop, sym, ap, ap₂}
use Rattle.std.specs.List.{starts_with}
use Rattle.regex_hir.specs.Text.{has_bytes_at}
use Rattle.fancy_regex_prefilter.proofs.TextLemmas.{bytes_stand, bytes_differ, rest_of, begins_otherwise}
use Rattle.fancy_regex_prefilter.proofs.matching.match_text.Goals as goal

seen_bytes : {x text y wanted : List ℕ} (p : ℕ) → x ≡ text → y ≡ wanted
    → starts_with nat_eq (take (length x - p) (drop p x)) y ≡ starts_with nat_eq (take (length text - p) (drop p text)) wanted
seen_bytes p e f = ap₂ (λ (x y : List ℕ). starts_with nat_eq (take (length x - p) (drop p x)) y) e f

pub returns-then-starts_with : goal.returns-then-starts_with
unfolding has_bytes_at
returns-then-starts_with c =
    bytes_stand c.args.text.now c.args.wanted.now c.args.position c.utf8.wanted
    (sym (c.if-starts_with.ensures.value ∙ seen_bytes c.args.position c.as_bytes.ensures.value c.as_bytes-3.ensures.value ∙ ap (λ (l : List ℕ). starts_with nat_eq l c.args.wanted.now) (rest_of c.args.text.now c.args.position)))

pub returns-else-starts_with : goal.returns-else-starts_with
unfolding has_bytes_at
returns-else-starts_with c =
    bytes_differ c.args.text.now c.args.wanted.now c.args.position c.utf8.wanted
    (sym (c.if-starts_with.ensures.value ∙ seen_bytes c.args.position c.as_bytes.ensures.value c.as_bytes-3.ensures.value ∙ ap (λ (l : List ℕ). starts_with nat_eq l c.args.wanted.now) (rest_of c.args.text.now c.args.position)))

pub returns-then-begins_otherwise : goal.returns-then-begins_otherwise
unfolding has_bytes_at
returns-then-begins_otherwise c =
    bytes_differ c.args.text.now c.args.wanted.now c.args.position c.utf8.wanted
    (ap (λ (l : List ℕ). starts_with nat_eq l c.args.wanted.now) (sym (rest_of c.args.text.now c.args.position))
    ∙ sym (seen_bytes c.args.position c.as_bytes.ensures.value c.as_bytes-2.ensures.value) ∙ begins_otherwise _ _ (c.begins_otherwise.ensures c.if-begins_otherwise.true))
