-- `\R` has the ways of its pattern: of `\r\n`, of `\r` without it, or of another line break.
use Rattle.std.proofs.Common.{◌≡◌, ◌==◌, ℕ, ◌+◌, ◌<◌, ◌≤◌, Bool, true, false, not, ◌&&◌, ◌||◌, List, [], ◌∷◌, ◌++◌, map, length, Option, Some, None, if◌then◌else◌, nat_le, slice_get, refl, sym, ap, ap₂, ◌∙◌, inl, inr, arith, lt-ltb, eqb-true, eq-eqb, true≢false, append-nil}
use Rattle.std.specs.Char.{len_utf8}
use Rattle.std.proofs.Math.Bool.{or-false}
use Rattle.std.proofs.lemmas.Bool.{cases_lt, le-leb, lt-leb}
use Rattle.std.proofs.lemmas.Option.{none-some}
use Rattle.std.proofs.lemmas.Str.{len_utf8_bounds}
use Rattle.regex_hir.specs.Text.{is_some_and, char_at}
use Rattle.regex_hir.proofs.TextLemmas.{char_at_ascii, char_at_fits}
use Rattle.fancy_regex_tree.specs.Tree.{Text}
use Rattle.fancy_regex_class.specs.RunInputs.{group_slots}
use Rattle.fancy_regex_meaning.specs.Positions.{is_before_byte}
use Rattle.fancy_regex_meaning.specs.Ways.{MatchState, Setting, character, general_newline_ways, is_newline, with_position}
use Rattle.fancy_regex_states.specs.Attempts.{View, reads}
use Rattle.fancy_regex_states.specs.declared.atom.Leaf.{Leaf}
use Rattle.fancy_regex_states.specs.declared.atom.Leaf.TheVariants.{Char}
use Rattle.fancy_regex_states.specs.declared.atom.Test.TheVariants.{LookAheadNeg}
use Rattle.fancy_regex_linear.specs.Re.{Re, read, test, alts}
use Rattle.fancy_regex_linear.specs.Plain.{line_breaks, read_each, newline_re}
use Rattle.fancy_regex_linear.specs.SettingView.{leaf_matches, view_of}
use Rattle.fancy_regex_linear.specs.Meaning.{Spot, each}
use Rattle.fancy_regex_linear.specs.Meaning as plain
use Rattle.fancy_regex_linear.proofs.CharTestLemmas.{byte_at}
use Rattle.fancy_regex_linear.proofs.MeaningLemmas.{spot_of}

-- a byte that a test finds is there
found : (o : Option ℕ) (b : ℕ) → is_some_and o (λ x. x == b) ≡ true → o ≡ Some b
found None b e = absurd (true≢false (sym e))
found (Some x) b e = ap Some (eqb-true x b e)

-- where no character stands, none of these bytes does
pub no_byte : (text : List ℕ) (p b : ℕ) (is : Bool) → b < 128 → is_before_byte text b p ≡ is → char_at text p ≡ None → is_before_byte text b p ≡ false
no_byte text p b false low e none = e
no_byte text p b true low e none = absurd (none-some b (sym none ∙ char_at_ascii text p b (found (slice_get text p) b e) low))

-- the character is one of these
abbrev is_among : List ℕ → ℕ → Bool
is_among [] c = false
is_among (d ∷ ds) c = c == d || is_among ds c

-- each differs from those after it
abbrev AreApart : ℕ → List ℕ → Type 0
AreApart d [] = Unit {0}
AreApart d (e ∷ es) = (is_among (e ∷ es) d ≡ false) × AreApart e es

line_breaks_apart : (wide : Bool) → AreApart 10 (11 ∷ 12 ∷ (if wide then 0x85 ∷ 0x2028 ∷ 0x2029 ∷ [] else []))
line_breaks_apart true = (refl, (refl, (refl, (refl, (refl, tt)))))
line_breaks_apart false = (refl, (refl, tt))

-- outside of four neighbours
between : (c : ℕ) → 10 ≤ c → c ≤ 13 → (c ≡ 10 → ⊥) → (c ≡ 11 → ⊥) → (c ≡ 12 → ⊥) → (c ≡ 13 → ⊥) → ⊥
between c ge le first second third fourth =
    elim (cases_lt c 11) [
      | inl lt ↦ first (omega arith)
      | inr from_11 ↦
          elim (cases_lt c 12) [
            | inl lt ↦ second (omega arith)
            | inr from_12 ↦ elim (cases_lt c 13) [ inl lt ↦ third (omega arith) | inr from_13 ↦ fourth (omega arith) ]
          ]
    ]

outside : (c : ℕ) → (c ≡ 10 → ⊥) → (c ≡ 11 → ⊥) → (c ≡ 12 → ⊥) → (c ≡ 13 → ⊥) → (nat_le 10 c && nat_le c 13) ≡ false
outside c first second third fourth =
    elim (cases_lt c 10) [
      | inl lt ↦ ap (λ b. b && nat_le c 13) (lt-leb 10 c lt)
      | inr ge ↦
          elim (cases_lt 13 c) [
            | inl gt ↦ ap₂ ◌&&◌ (le-leb 10 c ge) (lt-leb c 13 gt)
            | inr le ↦ absurd (between c ge le first second third fourth)
          ]
    ]

differs : (c d : ℕ) → (c == d) ≡ false → c ≡ d → ⊥
differs c d other is = true≢false (sym (eq-eqb c d is) ∙ other)

-- four neighbours without the last
is_ascii_break : (c : ℕ) (i j k : Bool) → (c == 10) ≡ i → (c == 11) ≡ j → (c == 12) ≡ k → (c == 13) ≡ false → (nat_le 10 c && nat_le c 13) ≡ (i || (j || k))
is_ascii_break c true j k is _ _ other = ap (λ d. nat_le 10 d && nat_le d 13) (eqb-true c 10 is)
is_ascii_break c false true k _ is _ other = ap (λ d. nat_le 10 d && nat_le d 13) (eqb-true c 11 is)
is_ascii_break c false false true _ _ is other = ap (λ d. nat_le 10 d && nat_le d 13) (eqb-true c 12 is)
is_ascii_break c false false false e f g other =
    outside c (differs c 10 e) (differs c 11 f) (differs c 12 g) (differs c 13 other)

grouped : (i j k x y : Bool) → x ≡ y → ((i || (j || k)) || x) ≡ (i || (j || (k || y)))
grouped true j k x y e = refl
grouped false true k x y e = refl
grouped false false k x y e = ap (λ b. k || b) e

last_of_three : (i j k : Bool) → (i || j || k) ≡ (i || (j || (k || false)))
last_of_three true j k = refl
last_of_three false true k = refl
last_of_three false false k = sym (or-false k)

breaks_same : (s : Setting) (wide : Bool) (c : ℕ) → (c == 13) ≡ false → is_newline s wide c ≡ is_among (line_breaks wide) c
breaks_same s true c other =
    ap (λ b. b || (c == 0x85 || c == 0x2028 || c == 0x2029)) (is_ascii_break c (c == 10) (c == 11) (c == 12) refl refl refl other)
    ∙ grouped (c == 10) (c == 11) (c == 12) _ _ (last_of_three (c == 0x85) (c == 0x2028) (c == 0x2029))
breaks_same s false c other =
    ap (λ b. b || false) (is_ascii_break c (c == 10) (c == 11) (c == 12) refl refl refl other)
    ∙ grouped (c == 10) (c == 11) (c == 12) false false refl

carriage_return : (wide : Bool) → is_among (line_breaks wide) 13 ≡ false
carriage_return true = refl
carriage_return false = refl

-- the choice that the meaning makes
both_bytes : (a b : Bool) (xs ys : List MatchState) → a ≡ true → b ≡ true → (if a && b then xs else ys) ≡ xs
both_bytes a b xs ys e f = rw (e, f) refl

not_first : (a b : Bool) (xs ys : List MatchState) → a ≡ false → (if a && b then xs else ys) ≡ ys
not_first a b xs ys e = rw e refl

not_second : (a b : Bool) (xs ys : List MatchState) → a ≡ true → b ≡ false → (if a && b then xs else ys) ≡ ys
not_second a b xs ys e f = rw (e, f) refl

-- what the three branches have: after `\r` a second node, or else a third
module _ (feed other : Spot → List Spot) where
  abbrev onward : (Spot → List Spot) → List Spot → List Spot
  onward f = each (λ v. each (λ u. u ∷ []) (f v))

  abbrev total : List Spot → List Spot → List Spot
  total first third = onward feed first ++ (onward other first ++ third)

  of_third : (first third : List Spot) → first ≡ [] → total first third ≡ third
  of_third first third e = rw e refl

  of_feed : (first third : List Spot) (v u : Spot) → first ≡ v ∷ [] → feed v ≡ u ∷ [] → other v ≡ [] → third ≡ [] → total first third ≡ u ∷ []
  of_feed first third v u e f g h = rw (e, f, g, h) refl

  of_other : (first third : List Spot) (v u : Spot) → first ≡ v ∷ [] → feed v ≡ [] → other v ≡ u ∷ [] → third ≡ [] → total first third ≡ u ∷ []
  of_other first third v u e f g h = rw (e, f, g, h) refl

taken : (b : Bool) (u : Spot) → (if b && (true && true) then u ∷ [] else []) ≡ (if b then u ∷ [] else [])
taken true u = refl
taken false u = refl

-- one of two that exclude each other
joined : (a b : Bool) (us : List Spot) → (a ≡ true → b ≡ false) → (if a then us else []) ++ (if b then us else []) ≡ (if a || b then us else [])
joined true true us apart = absurd (true≢false (apart refl))
joined true false us apart = append-nil us
joined false b us apart = refl

module _ (s : Setting) (cs : List (Text × Bool)) where
  abbrev len : ℕ
  len = length s.text

  abbrev view : View
  view = record (view_of s cs false) { has_parts = true }

  abbrev spot : ℕ → List ℕ → Spot
  spot p slots = record { at = p; slots = slots }

  -- a node that reads, where no character stands, and where one does
  pub reads_none : (leaf : Leaf) (p : ℕ) (slots : List ℕ) → char_at s.text p ≡ None → plain.ways view len (read leaf) (spot p slots) ≡ []
  unfolding plain.ways reads
  reads_none leaf p slots e = rw e refl

  reads_some : (leaf : Leaf) (p c : ℕ) (slots : List ℕ) → char_at s.text p ≡ Some c
      → plain.ways view len (read leaf) (spot p slots) ≡ (if leaf_matches s cs leaf c then spot (p + len_utf8 c) slots ∷ [] else [])
  unfolding plain.ways reads
  reads_some leaf p c slots e =
      let width = len_utf8_bounds c in
      let fits = char_at_fits s.text p c e in
      let lower : p < p + len_utf8 c = omega arith in
      rw (e, lt-ltb p (p + len_utf8 c) lower, le-leb (p + len_utf8 c) len fits) (taken (leaf_matches s cs leaf c) (spot (p + len_utf8 c) slots))

  pub reads_not : (leaf : Leaf) (p c : ℕ) (slots : List ℕ) → char_at s.text p ≡ Some c → leaf_matches s cs leaf c ≡ false → plain.ways view len (read leaf) (spot p slots) ≡ []
  reads_not leaf p c slots e no_match = reads_some leaf p c slots e ∙ ap (λ b. if b then spot (p + len_utf8 c) slots ∷ [] else []) no_match

  pub reads_it : (leaf : Leaf) (p c : ℕ) (slots : List ℕ) → char_at s.text p ≡ Some c → leaf_matches s cs leaf c ≡ true
      → plain.ways view len (read leaf) (spot p slots) ≡ spot (p + len_utf8 c) slots ∷ []
  reads_it leaf p c slots e matched = reads_some leaf p c slots e ∙ ap (λ b. if b then spot (p + len_utf8 c) slots ∷ [] else []) matched

  -- a node that reads one of these characters
  among_none : (d : ℕ) (ds : List ℕ) (p : ℕ) (slots : List ℕ) → char_at s.text p ≡ None → plain.ways view len (alts (read_each (d ∷ ds))) (spot p slots) ≡ []
  unfolding plain.ways
  among_none d [] p slots e = reads_none (Char d) p slots e
  among_none d (f ∷ fs) p slots e = ap₂ ◌++◌ (reads_none (Char d) p slots e) (among_none f fs p slots e)

  among_some : (d : ℕ) (ds : List ℕ) (p c : ℕ) (slots : List ℕ) → AreApart d ds → char_at s.text p ≡ Some c
      → plain.ways view len (alts (read_each (d ∷ ds))) (spot p slots) ≡ (if is_among (d ∷ ds) c then spot (p + len_utf8 c) slots ∷ [] else [])
  unfolding plain.ways
  among_some d [] p c slots apart e =
      reads_some (Char d) p c slots e ∙ ap (λ b. if b then spot (p + len_utf8 c) slots ∷ [] else []) (sym (or-false (c == d)))
  among_some d (f ∷ fs) p c slots apart e =
      ap₂ ◌++◌ (reads_some (Char d) p c slots e) (among_some f fs p c slots apart.1 e)
      ∙ joined (c == d) (is_among (f ∷ fs) c) (spot (p + len_utf8 c) slots ∷ []) (λ is. ap (is_among (f ∷ fs)) (eqb-true c d is) ∙ apart.0)

  abbrev others : Bool → Spot → List Spot
  others wide = plain.ways view len (alts (read_each (line_breaks wide)))

  others_none : (wide : Bool) (p : ℕ) (slots : List ℕ) → char_at s.text p ≡ None → others wide (spot p slots) ≡ []
  others_none wide p slots e = among_none 10 (11 ∷ 12 ∷ (if wide then 0x85 ∷ 0x2028 ∷ 0x2029 ∷ [] else [])) p slots e

  others_some : (wide : Bool) (p c : ℕ) (slots : List ℕ) → char_at s.text p ≡ Some c
      → others wide (spot p slots) ≡ (if is_among (line_breaks wide) c then spot (p + len_utf8 c) slots ∷ [] else [])
  others_some wide p c slots e =
      among_some 10 (11 ∷ 12 ∷ (if wide then 0x85 ∷ 0x2028 ∷ 0x2029 ∷ [] else [])) p c slots (line_breaks_apart wide) e

  -- a test that no `\n` follows
  pub free_of : (p : ℕ) (slots : List ℕ) (o : Option ℕ) (b : Bool) → char_at s.text p ≡ o → is_some_and o (λ c. c == 10) ≡ b
      → plain.ways view len (test (LookAheadNeg (Char 10))) (spot p slots) ≡ (if not b then spot p slots ∷ [] else [])
  unfolding plain.ways
  free_of p slots o b e f = rw (e, f) refl

  abbrev feed : Spot → List Spot
  feed = plain.ways view len (read (Char 10))

  abbrev other : Spot → List Spot
  other = plain.ways view len (test (LookAheadNeg (Char 10)))

  branches : (wide : Bool) (p : ℕ) (slots : List ℕ) → plain.ways view len (newline_re wide) (spot p slots)
      ≡ total feed other (plain.ways view len (read (Char 13)) (spot p slots)) (others wide (spot p slots))
  unfolding plain.ways
  branches wide p slots = refl

  module _ (wide : Bool) (w : MatchState) where
    abbrev p : ℕ
    p = w.position

    abbrev slots : List ℕ
    slots = group_slots w.pairs

    abbrev Goal : Type 0
    Goal = map spot_of (general_newline_ways s wide w) ≡ plain.ways view len (newline_re wide) (spot p slots)

    -- after `\r`
    module _ (here : char_at s.text p ≡ Some 13) where
      first_is : is_before_byte s.text 13 p ≡ true
      first_is = byte_at s.text 13 p 13 (omega arith) here

      after : plain.ways view len (read (Char 13)) (spot p slots) ≡ spot (p + 1) slots ∷ []
      after = reads_it (Char 13) p 13 slots here refl

      no_third : others wide (spot p slots) ≡ []
      no_third = others_some wide p 13 slots here ∙ ap (λ b. if b then spot (p + 1) slots ∷ [] else []) (carriage_return wide)

      lone : map spot_of (character s (is_newline s wide) w) ≡ spot (p + 1) slots ∷ []
      lone = rw here refl

      alone : (o : Option ℕ) → char_at s.text (p + 1) ≡ o → is_some_and o (λ c. c == 10) ≡ false → is_before_byte s.text 10 (p + 1) ≡ false
          → feed (spot (p + 1) slots) ≡ [] → Goal
      alone o e no_match second no_feed =
          ap (map spot_of) (not_second (is_before_byte s.text 13 p) (is_before_byte s.text 10 (p + 1)) (with_position w (p + 2) ∷ []) (character s (is_newline s wide) w) first_is second)
          ∙ lone
          ∙ sym (branches wide p slots
          ∙ of_other feed other _ _ (spot (p + 1) slots) (spot (p + 1) slots) after no_feed (free_of (p + 1) slots o false e no_match) no_third)

      fed : (d : ℕ) (b : Bool) → char_at s.text (p + 1) ≡ Some d → (d == 10) ≡ b → Goal
      fed d true e is =
          let second : is_before_byte s.text 10 (p + 1) ≡ true = byte_at s.text 10 (p + 1) d (omega arith) e ∙ is in
          let one : len_utf8 d ≡ 1 = ap len_utf8 (eqb-true d 10 is) in
          let place : p + 2 ≡ p + 1 + len_utf8 d = omega (arith, one) in
          ap (map spot_of) (both_bytes (is_before_byte s.text 13 p) (is_before_byte s.text 10 (p + 1)) (with_position w (p + 2) ∷ []) (character s (is_newline s wide) w) first_is second)
          ∙ ap (λ q. spot q slots ∷ []) place
          ∙ sym (branches wide p slots
          ∙ of_feed feed other _ _ (spot (p + 1) slots) (spot (p + 1 + len_utf8 d) slots) after (reads_it (Char 10) (p + 1) d slots e is) (free_of (p + 1) slots (Some d) true e is) no_third)
      fed d false e is =
          alone (Some d) e is (byte_at s.text 10 (p + 1) d (omega arith) e ∙ is) (reads_not (Char 10) (p + 1) d slots e is)

      next : (o : Option ℕ) → char_at s.text (p + 1) ≡ o → Goal
      next None e = alone None e refl (no_byte s.text (p + 1) 10 (is_before_byte s.text 10 (p + 1)) (omega arith) refl e) (reads_none (Char 10) (p + 1) slots e)
      next (Some d) e = fed d (d == 10) e refl

    char_as : (b : Bool) (q : ℕ) → map spot_of (if b then with_position w q ∷ [] else []) ≡ (if b then spot q slots ∷ [] else [])
    char_as true q = refl
    char_as false q = refl

    nowhere : char_at s.text p ≡ None → map spot_of (character s (is_newline s wide) w) ≡ []
    nowhere e = rw e refl

    somewhere : (c : ℕ) → char_at s.text p ≡ Some c
        → map spot_of (character s (is_newline s wide) w) ≡ (if is_newline s wide c then spot (p + len_utf8 c) slots ∷ [] else [])
    somewhere c e = rw e (char_as (is_newline s wide c) (p + len_utf8 c))

    by_first : (c : ℕ) (b : Bool) → char_at s.text p ≡ Some c → (c == 13) ≡ b → Goal
    by_first c true e is = next (e ∙ ap Some (eqb-true c 13 is)) (char_at s.text (p + 1)) refl
    by_first c false e is =
        ap (map spot_of) (not_first (is_before_byte s.text 13 p) (is_before_byte s.text 10 (p + 1)) (with_position w (p + 2) ∷ []) (character s (is_newline s wide) w) (byte_at s.text 13 p c (omega arith) e ∙ is))
        ∙ somewhere c e
        ∙ ap (λ b. if b then spot (p + len_utf8 c) slots ∷ [] else []) (breaks_same s wide c is)
        ∙ sym (branches wide p slots ∙ of_third feed other _ _ (reads_not (Char 13) p c slots e is) ∙ others_some wide p c slots e)

    newline_at : (o : Option ℕ) → char_at s.text p ≡ o → Goal
    newline_at None e =
        ap (map spot_of) (not_first (is_before_byte s.text 13 p) (is_before_byte s.text 10 (p + 1)) (with_position w (p + 2) ∷ []) (character s (is_newline s wide) w)
        (no_byte s.text p 13 (is_before_byte s.text 13 p) (omega arith) refl e))
        ∙ nowhere e
        ∙ sym (branches wide p slots ∙ of_third feed other _ _ (reads_none (Char 13) p slots e) ∙ others_none wide p slots e)
    newline_at (Some c) e = by_first c (c == 13) e refl

  pub newline_same : (wide : Bool) (w : MatchState) → map spot_of (general_newline_ways s wide w) ≡ plain.ways view len (newline_re wide) (spot_of w)
  newline_same wide w = newline_at wide w (char_at s.text w.position) refl
