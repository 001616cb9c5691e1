-- Sets as tables of 256 entries.
use Rattle.std.proofs.Common.{◌≡◌, ℕ, suc, ◌+◌, ◌-◌, ◌<◌, ◌≤◌, Bool, true, false, cond, ◌||◌, ◌&&◌, ◌==◌, List, [], ◌∷◌, length, get_or, set, take, ⊎_elim, refl, sym, ap, ◌∙◌, arith, replicate, eq-eqb, ne_eqb}
use Rattle.std.specs.List.{filter, list_any}
use Rattle.std.proofs.lemmas.Bool.{cases_lt}
use Rattle.std.proofs.lemmas.List.Folds.{list_any_more}
use Rattle.std.proofs.lemmas.List.{get_or_past, get_or-replicate}
use Rattle.std.specs.Char.{IsScalar}
use Rattle.std.proofs.lemmas.Bool.{and_from}
use Rattle.regex_hir.specs.Text.{is_scalar}
use Rattle.regex_hir.proofs.TextLemmas.{is_scalar-of_IsScalar, IsScalar-of_is_scalar}
use Rattle.fancy_regex_meaning.specs.Positions.{numbers_from}
use Rattle.fancy_regex_bytes.specs.ByteSets.{Bytes, no_bytes, either_bytes, first_byte, has, members_from, rest}
use Rattle.fancy_regex_bytes.specs.declared.byte_set.ByteSet.{ByteSet}
use Rattle.fancy_regex_bytes.specs.declared.byte_set.ByteSetIter.{ByteSetIter}

pub same_bytes : {f g : Bytes} → ((b : ℕ) → f b ≡ g b) → f ≡ g
same_bytes each = λ i b. each b i

pub same_table : (table : List Bool) (f : Bytes) → length table ≡ 256 → ((k : ℕ) → k < 256 → get_or table k false ≡ f k) →
    ((k : ℕ) → 256 ≤ k → f k ≡ false) → (λ b. get_or table b false) ≡ f
same_table table f long low high = λ i b. each b i
  where
    each : (b : ℕ) → get_or table b false ≡ f b
    each b = ⊎_elim (λ (in_table : b < 256). low b in_table) (λ (past : 256 ≤ b). get_or_past table b false (omega (arith, past, long)) ∙ sym (high b past)) (cases_lt b 256)

pub empty_table : (λ b. get_or (replicate 256 false) b false) ≡ no_bytes
empty_table = λ i b. each b i
  where
    each : (b : ℕ) → get_or (replicate 256 false) b false ≡ false
    each b = ⊎_elim (λ (in_table : b < 256). get_or-replicate 256 b false false in_table) (λ (past : 256 ≤ b). get_or_past (replicate 256 false) b false (omega (arith, past))) (cases_lt b 256)

pub or_false : (b : Bool) → (b || false) ≡ b
or_false true = refl
or_false false = refl

pub or_swap : (z y o : Bool) → (z || (y || o)) ≡ ((y || z) || o)
or_swap z true o = or_true z
  where
    or_true : (x : Bool) → (x || true) ≡ true
    or_true true = refl
    or_true false = refl
or_swap z false o = refl

-- one element more
pub any_more : {X : Type 0} (p : X → ℕ → Bool) (first set next : Bytes) (xs : List X) (i : ℕ) (d : X) →
    set ≡ either_bytes (λ b. list_any (λ x. p x b) (take i xs)) first → next ≡ either_bytes (p (get_or xs i d)) set → i < length xs →
    next ≡ either_bytes (λ b. list_any (λ x. p x b) (take (i + 1) xs)) first
any_more p first set next xs i d was is inside =
    is ∙ ap (either_bytes (p (get_or xs i d))) was
    ∙ same_bytes (λ b. or_swap (p (get_or xs i d) b) (list_any (λ x. p x b) (take i xs)) (first b)
    ∙ ap (λ r. r || first b) (sym (list_any_more (λ x. p x b) xs i d inside)))

module _ (set : ByteSet) where
  hit : (n m i : ℕ) → n ≡ suc m → has set i ≡ true → members_from set n i ≡ i ∷ members_from set m (i + 1)
  unfolding members_from
  hit n m i long h =
      ap (λ k. filter (has set) (numbers_from k i)) long
      ∙ ap (λ b. cond b (i ∷ filter (has set) (numbers_from m (i + 1))) (filter (has set) (numbers_from m (i + 1)))) h

  miss : (n m i : ℕ) → n ≡ suc m → has set i ≡ false → members_from set n i ≡ members_from set m (i + 1)
  unfolding members_from
  miss n m i long h =
      ap (λ k. filter (has set) (numbers_from k i)) long
      ∙ ap (λ b. cond b (i ∷ filter (has set) (numbers_from m (i + 1))) (filter (has set) (numbers_from m (i + 1)))) h

  ended : (i : ℕ) → 256 ≤ i → members_from set (256 - i) i ≡ []
  unfolding members_from
  ended i past = let none : 256 - i ≡ 0 = omega (arith, past) in ap (λ k. filter (has set) (numbers_from k i)) none

pub rest_hit : (iter : ByteSetIter) → iter.next < 256 → has iter.set.now iter.next ≡ true →
    rest iter ≡ iter.next ∷ rest (record { set = iter.set; next = iter.next + 1 })
rest_hit iter inside h = hit iter.set.now (256 - iter.next) (256 - (iter.next + 1)) iter.next (omega (arith, inside)) h

pub rest_miss : (iter : ByteSetIter) → iter.next < 256 → has iter.set.now iter.next ≡ false →
    rest iter ≡ rest (record { set = iter.set; next = iter.next + 1 })
rest_miss iter inside h = miss iter.set.now (256 - iter.next) (256 - (iter.next + 1)) iter.next (omega (arith, inside)) h

pub rest_end : (iter : ByteSetIter) → 256 ≤ iter.next → rest iter ≡ []
rest_end iter past = ended iter.set.now iter.next past

-- ---- pairs of a table

abbrev pub is_start_of_pair : ℕ → ℕ × ℕ → ℕ → Bool
is_start_of_pair c p b = p.0 == c && is_scalar p.1 && first_byte p.1 == b

pub pair_begins : (p : ℕ × ℕ) (c other byte : ℕ) (set next : Bytes) → p.0 ≡ c → IsScalar p.1 → other ≡ p.1 → byte ≡ first_byte other →
    next ≡ either_bytes (λ b. byte == b) set → next ≡ either_bytes (is_start_of_pair c p) set
pair_begins p c other byte set next same scalar is first e =
    e ∙ same_bytes (λ b. ap (λ r. r || set b)
    (ap (λ x. x == b) (first ∙ ap first_byte is)
    ∙ sym (ap (λ t. t && first_byte p.1 == b) (and_from (p.0 == c) (is_scalar p.1) (eq-eqb p.0 c same) (is_scalar-of_IsScalar p.1 scalar)))))

pub pair_is_other : (p : ℕ × ℕ) (c : ℕ) (set next : Bytes) → (p.0 == c && is_scalar p.1) ≡ false → next ≡ set → next ≡ either_bytes (is_start_of_pair c p) set
pair_is_other p c set next none e = e ∙ same_bytes (λ b. sym (ap (λ t. (t && first_byte p.1 == b) || set b) none))

pub other_first : (p : ℕ × ℕ) (c : ℕ) → (p.0 ≡ c → ⊥) → (p.0 == c && is_scalar p.1) ≡ false
other_first p c apart = ap (λ t. t && is_scalar p.1) (ne_eqb p.0 c apart)

pub no_scalar : (p : ℕ × ℕ) (c : ℕ) → (IsScalar p.1 → ⊥) → (p.0 == c && is_scalar p.1) ≡ false
no_scalar p c none = and_false (p.0 == c) (is_scalar p.1) (not_true (is_scalar p.1) (λ h. none (IsScalar-of_is_scalar p.1 h)))
  where
    and_false : (x y : Bool) → y ≡ false → (x && y) ≡ false
    and_false true y h = h
    and_false false y h = refl

    not_true : (x : Bool) → (x ≡ true → ⊥) → x ≡ false
    not_true true h = absurd (h refl)
    not_true false h = refl
