-- Room that is written from its front on.
use Rattle.std.specs.Prelude.{◌≡◌, ℕ, ◌<◌, ◌≤◌, ◌+◌, ◌-◌, List, [], ◌∷◌, ◌++◌, length, slice_index_or, EachIndex, Option, Some, None, IfSome}
use Rattle.std.specs.List.{FoldsTo, concat}
use Rattle.std.specs.Fmt.{WritesInCalls, WritesText}
use Rattle.std.proofs.Common.{arith, ◌∙◌, ⊎_elim, append_assoc, append-nil, inl, inr}
use Rattle.std.proofs.lemmas.Bool.{cases_lt}
use Rattle.std.proofs.lemmas.List.{get_or_append_left, get_or-append_right, length-append}
use mathlib.Core.Path.{refl, sym, ap, subst}
use Rattle.fancy_regex_ffi_lists.specs.Fronts.{Appends, Holds, HoldsShown, IsErrorWritten, IsFrontOf, unshown_text}

-- bytes that are written after a text, as far as there is room
pub written_after : (room written bytes : List ℕ) (count end i : ℕ) → length written ≡ length room → end ≡ count + length bytes → count ≤ i
    → i ≤ end → ((k : ℕ) → k < length room → k < end → k < i)
    → ((k : ℕ) (d : ℕ) → k < count → slice_index_or written k d ≡ slice_index_or room k d)
    → ((k : ℕ) (d : ℕ) → count ≤ k → k < i → slice_index_or written k d ≡ slice_index_or bytes (k - count) d)
    → ((k : ℕ) (d : ℕ) → i ≤ k → slice_index_or written k d ≡ slice_index_or room k d)
    → Appends room count bytes written end
written_after room written bytes count end i same ends low high whole before between after old text holds =
    let whole_length : length (text ++ bytes) ≡ end = length-append text bytes ∙ ap (λ (n : ℕ). n + length bytes) (sym holds.counts) ∙ sym ends in
    record {
      same_room = same ∙ holds.same_room;
      counts = sym whole_length;
      front = λ k inside. (
        λ below d. ⊎_elim
            (λ (early : k < length text). before k d (omega (arith, early, holds.counts)) ∙ (holds.front k (omega (arith, inside, same))).0 early d ∙ sym (get_or_append_left text bytes d k early))
            (λ (late : length text ≤ k). between k d (omega (arith, late, holds.counts)) (whole k (omega (arith, inside, same)) (omega (arith, below, whole_length))) ∙ sym (get_or-append_right text bytes count k d (sym holds.counts) (omega (arith, late, holds.counts))))
            (cases_lt k (length text)),
        λ beyond d. after k d (omega (arith, beyond, whole_length, high)) ∙ (holds.front k (omega (arith, inside, same))).1 (omega (arith, beyond, whole_length, ends, holds.counts)) d,
      );
    }

module _ {W : Type 0} (took : W → List ℕ → W → Type 0) (holds : List ℕ → W → Type 0)
    (appends : (w : W) (bytes : List ℕ) (v : W) → took w bytes v → (text : List ℕ) → holds text w → holds (text ++ bytes) v) where
  -- some writes, one after another
  held_after_calls : (w : W) (parts : List (List ℕ)) (v : W) → FoldsTo took w parts v → (text : List ℕ) → holds text w → holds (text ++ concat parts) v
  held_after_calls w [] v calls text held = subst (λ (t : List ℕ). holds t v) (sym (append-nil text)) (subst (λ (u : W). holds text u) calls held)
  held_after_calls w (part ∷ parts) v calls text held =
      subst (λ (t : List ℕ). holds t v) (append_assoc text part (concat parts)) (held_after_calls calls.0 parts v calls.2 (text ++ part) (appends w part calls.0 calls.1 text held))

  pub held_after_writes : (w : W) (told : Option (List ℕ)) (v : W) → WritesText took w told v → holds [] w → IfSome told (λ bytes. holds bytes v)
  held_after_writes w None v writes held = tt
  held_after_writes w (Some bytes) v writes held = subst (λ (t : List ℕ). holds t v) writes.whole (held_after_calls w writes.parts v writes.calls [] held)

-- room that holds nothing yet
pub holds_nothing : (room : List ℕ) → Holds room [] room 0
holds_nothing room = record { same_room = refl; counts = refl; front = λ k inside. (λ below d. absurd (omega (arith, below)), λ above d. refl) }

-- what holds of the text that is shown, if it is known
pub shown_weaken : (shown : Option (List ℕ)) (P Q : List ℕ → Type 0) → ((text : List ℕ) → P text → Q text) → IfSome shown P → IfSome shown Q
shown_weaken None P Q weaken holds = tt
shown_weaken (Some text) P Q weaken holds = weaken text holds

-- the text of an error as it shows itself
pub error_told : (shown : Option (List ℕ)) (old room : List ℕ) (count : ℕ) → 0 < count → HoldsShown shown old room count → IsErrorWritten shown old room count
error_told shown old room count some holds = record { some = some; text = inl holds }

-- the text that stands for an error
pub error_named : (shown : Option (List ℕ)) (old between room : List ℕ) (count : ℕ) → count ≡ length unshown_text → IsFrontOf unshown_text between room → IsErrorWritten shown old room count
error_named shown old between room count counts front = record { some = omega (arith, counts); text = inr (counts, λ k inside. (front k inside).0) }
