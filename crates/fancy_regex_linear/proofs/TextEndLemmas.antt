-- `\Z` has the ways of its pattern: a look-ahead for newlines up to the end of the text.
use Rattle.std.proofs.Common.{◌≡◌, ◌==◌, ℕ, zero, suc, ◌+◌, ◌-◌, ◌<◌, ◌≤◌, Bool, true, false, not, ◌&&◌, ◌||◌, List, [], ◌∷◌, ◌++◌, map, length, drop, Option, Some, None, if◌then◌else◌, slice_get, refl, sym, ap, ap₂, ◌∙◌, inl, inr, arith, lt-ltb, eqb-true, eq-eqb, ne_eqb, true≢false, append_assoc, append-nil}
use Rattle.std.specs.Char.{len_utf8}
use Rattle.std.proofs.Math.Bool.{and-false, or-false}
use Rattle.std.proofs.lemmas.Bool.{cases_lt}
use Rattle.std.proofs.lemmas.Option.{none-some, same_Some, slice_get_past}
use Rattle.regex_hir.specs.Text.{is_some_and, char_at}
use Rattle.regex_hir.proofs.TextLemmas.{char_at_ascii}
use Rattle.fancy_regex_tree.specs.Tree.{Text}
use Rattle.fancy_regex_class.specs.RunInputs.{group_slots}
use Rattle.fancy_regex_meaning.specs.Positions.{is_before_byte, is_at_end, are_newlines}
use Rattle.fancy_regex_meaning.specs.Ways.{MatchState, Setting, match_empty_if}
use Rattle.fancy_regex_states.specs.Attempts.{View, reads}
use Rattle.fancy_regex_states.specs.declared.atom.Leaf.TheVariants.{Char}
use Rattle.fancy_regex_states.specs.declared.atom.Test.TheVariants.{LookAheadNeg, EndLine}
use Rattle.fancy_regex_linear.specs.Re.{Re, read, test}
use Rattle.fancy_regex_linear.specs.Plain.{last_newline, text_end_re}
use Rattle.fancy_regex_linear.specs.SettingView.{view_of}
use Rattle.fancy_regex_linear.specs.Meaning.{Spot, each, in_order, after_iteration, loop_ways, times_ways, tail_ways, asked_ways, place_before}
use Rattle.fancy_regex_linear.specs.Meaning as plain
use Rattle.fancy_regex_linear.proofs.CharTestLemmas.{byte_at}
use Rattle.fancy_regex_linear.proofs.MeaningLemmas.{spot_of}
use Rattle.fancy_regex_linear.proofs.NewlineLemmas.{no_byte, reads_none, reads_not, reads_it, free_of}

-- lists
each_append : (f : Spot → List Spot) (us vs : List Spot) → each f (us ++ vs) ≡ each f us ++ each f vs
each_append f [] vs = refl
each_append f (u ∷ us) vs = ap (λ ws. f u ++ ws) (each_append f us vs) ∙ sym (append_assoc (f u) (each f us) (each f vs))

abbrev Keeps : List ℕ → List Spot → Type 0
Keeps slots [] = Unit {0}
Keeps slots (u ∷ us) = (u.slots ≡ slots) × Keeps slots us

abbrev is_nil : List Spot → Bool
is_nil [] = true
is_nil (u ∷ us) = false

drop_here : (xs : List ℕ) (q b : ℕ) → slice_get xs q ≡ Some b → drop q xs ≡ b ∷ drop (q + 1) xs
drop_here [] q b e = absurd (none-some b e)
drop_here (x ∷ xs) zero b e = ap (λ y. y ∷ xs) (same_Some x b e)
drop_here (x ∷ xs) (suc q) b e =
    let next : suc q + 1 ≡ suc (q + 1) = omega arith in
    drop_here xs q b e ∙ ap (λ n. b ∷ drop n (x ∷ xs)) (sym next)

drop_past : (xs : List ℕ) (q : ℕ) → slice_get xs q ≡ None → drop q xs ≡ []
drop_past [] zero e = refl
drop_past [] (suc q) e = refl
drop_past (x ∷ xs) zero e = absurd (none-some x (sym e))
drop_past (x ∷ xs) (suc q) e = drop_past xs q e

none_past : (xs : List ℕ) (q : ℕ) → slice_get xs q ≡ None → length xs ≤ q
none_past [] q e = omega arith
none_past (x ∷ xs) zero e = absurd (none-some x (sym e))
none_past (x ∷ xs) (suc q) e = let le = none_past xs q e in omega (arith, le)

-- a newline, and another byte, before the rest
past_newline : (crlf : Bool) (rest : List ℕ) → are_newlines crlf (10 ∷ rest) ≡ are_newlines crlf rest
past_newline crlf [] = refl
past_newline false (c ∷ rest) = or-false _
past_newline true (c ∷ rest) = or-false _

other_byte : (crlf : Bool) (b : ℕ) (rest : List ℕ) → (b == 10) ≡ false → (crlf && b == 13) ≡ false → are_newlines crlf (b ∷ rest) ≡ false
other_byte crlf b [] not_10 not_13 = not_10
other_byte crlf b (c ∷ rest) not_10 not_13 = rw (not_10, not_13) refl

-- `\r` alone
lone_return : (rest : List ℕ) → is_some_and (slice_get rest 0) (λ c. c == 10) ≡ false → are_newlines true (13 ∷ rest) ≡ false
lone_return [] e = refl
lone_return (c ∷ rest) e = rw e refl

get_drop : (text : List ℕ) (n : ℕ) → slice_get (drop n text) 0 ≡ slice_get text n
get_drop text zero = refl
get_drop [] (suc n) = refl
get_drop (c ∷ cs) (suc n) = get_drop cs n

module _ (s : Setting) (cs : List (Text × Bool)) where
  abbrev len : ℕ
  len = length s.text

  abbrev view : View
  view = record (view_of s cs false) { has_parts = true }

  abbrev spot : ℕ → List ℕ → Spot
  spot p slots = record { at = p; slots = slots }

  -- a character that is one byte long, by its byte
  char_byte : (q b : ℕ) (o : Option ℕ) → b < 128 → char_at s.text q ≡ o → is_some_and o (λ c. c == b) ≡ is_before_byte s.text b q
  char_byte q b None low e = sym (no_byte s.text q b (is_before_byte s.text b q) low refl e)
  char_byte q b (Some c) low e = sym (byte_at s.text b q c low e)

  ends_line : (q : ℕ) (slots : List ℕ) (b : Bool) → (is_at_end s.text q || is_before_byte s.text 10 q) ≡ b
      → plain.ways view len (test (EndLine false)) (spot q slots) ≡ (if b then spot q slots ∷ [] else [])
  unfolding plain.ways
  ends_line q slots b e = rw e refl

  abbrev other : Spot → List Spot
  other = plain.ways view len (test (LookAheadNeg (Char 10)))

  abbrev fin : Spot → List Spot
  fin v = each (λ u. each (λ x. x ∷ []) (other u)) (plain.ways view len (test (EndLine false)) v)

  not_before_end : (q : ℕ) → is_at_end s.text q ≡ true → is_before_byte s.text 10 q ≡ false
  not_before_end q e =
      let past : length s.text ≤ q = let is = eqb-true q (length s.text) e in omega (arith, is) in
      ap (λ o. is_some_and o (λ c. c == 10)) (slice_get_past s.text q past)

  -- a line ends here and no `\n` follows: at the end of the text
  fin_is : (q : ℕ) (slots : List ℕ) (a b : Bool) → is_at_end s.text q ≡ a → is_before_byte s.text 10 q ≡ b → fin (spot q slots) ≡ (if a then spot q slots ∷ [] else [])
  fin_is q slots true true e f = absurd (true≢false (sym f ∙ not_before_end q e))
  fin_is q slots true false e f =
      rw (ends_line q slots true (ap₂ ◌||◌ e f), free_of s cs q slots (char_at s.text q) false refl (char_byte q 10 (char_at s.text q) (omega arith) refl ∙ f)) refl
  fin_is q slots false true e f =
      rw (ends_line q slots true (ap₂ ◌||◌ e f), free_of s cs q slots (char_at s.text q) true refl (char_byte q 10 (char_at s.text q) (omega arith) refl ∙ f)) refl
  fin_is q slots false false e f = rw (ends_line q slots false (ap₂ ◌||◌ e f)) refl

  within : (q b : ℕ) → slice_get s.text q ≡ Some b → q < len
  within q b e = elim (cases_lt q len) [ inl lt ↦ lt | inr ge ↦ absurd (none-some b (sym (slice_get_past s.text q ge) ∙ e)) ]

  no_end_here : (q b : ℕ) (slots : List ℕ) → slice_get s.text q ≡ Some b → fin (spot q slots) ≡ []
  no_end_here q b slots e =
      let lt = within q b e in
      fin_is q slots false (is_before_byte s.text 10 q) (ne_eqb q len (omega arith)) refl

  -- a node that reads this byte
  reads_no_byte : (d q : ℕ) (slots : List ℕ) (o : Option ℕ) → char_at s.text q ≡ o → is_some_and o (λ c. c == d) ≡ false
      → plain.ways view len (read (Char d)) (spot q slots) ≡ []
  reads_no_byte d q slots None e other_char = reads_none s cs (Char d) q slots e
  reads_no_byte d q slots (Some c) e other_char = reads_not s cs (Char d) q c slots e other_char

  not_this : (d q : ℕ) (slots : List ℕ) → d < 128 → is_before_byte s.text d q ≡ false → plain.ways view len (read (Char d)) (spot q slots) ≡ []
  not_this d q slots low e = reads_no_byte d q slots (char_at s.text q) refl (char_byte q d (char_at s.text q) low refl ∙ e)

  this : (d q : ℕ) (slots : List ℕ) → d < 128 → len_utf8 d ≡ 1 → slice_get s.text q ≡ Some d
      → plain.ways view len (read (Char d)) (spot q slots) ≡ spot (q + 1) slots ∷ []
  this d q slots low width e =
      reads_it s cs (Char d) q d slots (char_at_ascii s.text q d e low) (eq-eqb d d refl) ∙ ap (λ n. spot (q + n) slots ∷ []) width

  abbrev newline : Bool → Spot → List Spot
  newline crlf = plain.ways view len (last_newline crlf)

  -- `\r` and then `\n`
  abbrev second : Spot → List Spot
  second v = each (λ u. u ∷ []) (plain.ways view len (read (Char 10)) v)

  both : (p : Spot) → newline true p ≡ plain.ways view len (read (Char 10)) p ++ each second (plain.ways view len (read (Char 13)) p)
  unfolding plain.ways
  both p = refl

  -- by the byte here
  no_newline : (crlf : Bool) (q : ℕ) (slots : List ℕ) → is_before_byte s.text 10 q ≡ false → (crlf && is_before_byte s.text 13 q) ≡ false
      → newline crlf (spot q slots) ≡ []
  no_newline false q slots e f = not_this 10 q slots (omega arith) e
  no_newline true q slots e f = both (spot q slots) ∙ rw (not_this 10 q slots (omega arith) e, not_this 13 q slots (omega arith) f) refl

  one_newline : (crlf : Bool) (q : ℕ) (slots : List ℕ) → slice_get s.text q ≡ Some 10 → newline crlf (spot q slots) ≡ spot (q + 1) slots ∷ []
  one_newline false q slots e = this 10 q slots (omega arith) refl e
  one_newline true q slots e =
      let other_than : is_before_byte s.text 13 q ≡ false = ap (λ o. is_some_and o (λ c. c == 13)) e in
      both (spot q slots) ∙ rw (this 10 q slots (omega arith) refl e, not_this 13 q slots (omega arith) other_than) refl

  lone : (q : ℕ) (slots : List ℕ) → slice_get s.text q ≡ Some 13 → is_before_byte s.text 10 (q + 1) ≡ false → newline true (spot q slots) ≡ []
  lone q slots e next =
      let other_than : is_before_byte s.text 10 q ≡ false = ap (λ o. is_some_and o (λ c. c == 10)) e in
      both (spot q slots)
      ∙ rw (not_this 10 q slots (omega arith) other_than, this 13 q slots (omega arith) refl e, not_this 10 (q + 1) slots (omega arith) next) refl

  pair : (q : ℕ) (slots : List ℕ) → slice_get s.text q ≡ Some 13 → slice_get s.text (q + 1) ≡ Some 10
      → newline true (spot q slots) ≡ spot (q + 1 + 1) slots ∷ []
  pair q slots e next =
      let other_than : is_before_byte s.text 10 q ≡ false = ap (λ o. is_some_and o (λ c. c == 10)) e in
      both (spot q slots)
      ∙ rw (not_this 10 q slots (omega arith) other_than, this 13 q slots (omega arith) refl e, this 10 (q + 1) slots (omega arith) refl next) refl

  module _ (crlf : Bool) (slots : List ℕ) where
    -- one turn of the loop over newlines
    turn : (again : Spot → List Spot) (q : ℕ) (first : List Spot) → newline crlf (spot q slots) ≡ first
        → each fin (in_order true (each (after_iteration again (spot q slots)) (newline crlf (spot q slots))) (spot q slots ∷ []))
        ≡ each fin (each (after_iteration again (spot q slots)) first) ++ (fin (spot q slots) ++ [])
    turn again q first e = rw (e, each_append fin (each (after_iteration again (spot q slots)) first) (spot q slots ∷ [])) refl

    abbrev newlines : ℕ → ℕ → List Spot
    newlines m q = each fin (loop_ways true (newline crlf) m (spot q slots))

    abbrev Tells : ℕ → List Spot → Type 0
    Tells q ws = Keeps slots ws × (is_nil ws ≡ not (are_newlines crlf (drop q s.text)))

    at_end : (again : Spot → List Spot) (q : ℕ) → q ≤ len → slice_get s.text q ≡ None
        → Tells q (each fin (in_order true (each (after_iteration again (spot q slots)) (newline crlf (spot q slots))) (spot q slots ∷ [])))
    at_end again q inside none =
        let no_10 : is_before_byte s.text 10 q ≡ false = ap (λ o. is_some_and o (λ c. c == 10)) none in
        let no_13 : (crlf && is_before_byte s.text 13 q) ≡ false = ap (λ o. crlf && is_some_and o (λ c. c == 13)) none ∙ and-false crlf in
        let last : is_at_end s.text q ≡ true = eq-eqb q len (let past = none_past s.text q none in omega (arith, past)) in
        rw (turn again q [] (no_newline crlf q slots no_10 no_13), fin_is q slots true false last no_10, drop_past s.text q none) ((refl, tt), refl)

    -- after a newline that ends at r, and where none begins
    tells_newline : (m q r b : ℕ) → slice_get s.text q ≡ Some b → q < r → newline crlf (spot q slots) ≡ spot r slots ∷ []
        → are_newlines crlf (drop q s.text) ≡ are_newlines crlf (drop r s.text) → Tells r (newlines m r) → Tells q (newlines (suc m) q)
    unfolding loop_ways after_iteration
    tells_newline m q r b here low first tail rest =
        rw (
          turn (loop_ways true (newline crlf) m) q (spot r slots ∷ []) first,
          no_end_here q b slots here,
          lt-ltb q r low,
          tail,
          append-nil (loop_ways true (newline crlf) m (spot r slots)),
          append-nil (newlines m r),
        ) rest

    tells_other : (m q b : ℕ) → slice_get s.text q ≡ Some b → newline crlf (spot q slots) ≡ [] → are_newlines crlf (drop q s.text) ≡ false
        → Tells q (newlines (suc m) q)
    unfolding loop_ways
    tells_other m q b here first none =
        rw (turn (loop_ways true (newline crlf) m) q [] first, no_end_here q b slots here, none) (tt, refl)

    last : (q : ℕ) (o : Option ℕ) → slice_get s.text q ≡ o → len - q ≤ 0 → q ≤ len → Tells q (newlines zero q)
    unfolding loop_ways
    last q None e room inside = at_end (λ _. []) q inside e
    last q (Some b) e room inside = absurd (let lt = within q b e in omega arith)

  -- What follows the places after a newline is told, and so what follows here, where it is `\r`.
  module _ (slots : List ℕ) (m q : ℕ) (rest : (r : ℕ) → q < r → r ≤ len → Tells true slots r (newlines true slots m r)) (here : slice_get s.text q ≡ Some 13) where
    after_return : (o : Option ℕ) (is : Bool) → slice_get s.text (q + 1) ≡ o → is_some_and o (λ c. c == 10) ≡ is → Tells true slots q (newlines true slots (suc m) q)
    after_return None true e is = absurd (true≢false (sym is))
    after_return (Some c) true e is =
        let there : slice_get s.text (q + 1) ≡ Some 10 = e ∙ ap Some (eqb-true c 10 is) in
        let lt = within (q + 1) 10 there in
        let tail : are_newlines true (drop q s.text) ≡ are_newlines true (drop (q + 1 + 1) s.text) =
        ap (are_newlines true) (drop_here s.text q 13 here ∙ ap (λ l. 13 ∷ l) (drop_here s.text (q + 1) 10 there)) in
        tells_newline true slots m q (q + 1 + 1) 13 here (omega arith) (pair q slots here there) tail (rest (q + 1 + 1) (omega arith) (omega (arith, lt)))
    after_return o false e is =
        let other_than : is_before_byte s.text 10 (q + 1) ≡ false = ap (λ x. is_some_and x (λ c. c == 10)) e ∙ is in
        let none : are_newlines true (drop q s.text) ≡ false =
        ap (are_newlines true) (drop_here s.text q 13 here)
        ∙ lone_return (drop (q + 1) s.text) (ap (λ x. is_some_and x (λ c. c == 10)) (get_drop s.text (q + 1)) ∙ other_than) in
        tells_other true slots m q 13 here (lone q slots here other_than) none

  module _ (slots : List ℕ) where
    -- by the byte that stands here, and neither of these
    by_other : (crlf : Bool) (m q b : ℕ) → slice_get s.text q ≡ Some b → (b == 10) ≡ false → (crlf && b == 13) ≡ false
        → Tells crlf slots q (newlines crlf slots (suc m) q)
    by_other crlf m q b here not_10 not_13 =
        let no_10 : is_before_byte s.text 10 q ≡ false = ap (λ o. is_some_and o (λ c. c == 10)) here ∙ not_10 in
        let no_13 : (crlf && is_before_byte s.text 13 q) ≡ false = ap (λ o. crlf && is_some_and o (λ c. c == 13)) here ∙ not_13 in
        tells_other crlf slots m q b here (no_newline crlf q slots no_10 no_13)
        (ap (are_newlines crlf) (drop_here s.text q b here) ∙ other_byte crlf b (drop (q + 1) s.text) not_10 not_13)

    by_return : (crlf is : Bool) (m q b : ℕ) → (b == 13) ≡ is → (b == 10) ≡ false → slice_get s.text q ≡ Some b
        → ((r : ℕ) → q < r → r ≤ len → Tells crlf slots r (newlines crlf slots m r)) → Tells crlf slots q (newlines crlf slots (suc m) q)
    by_return false is m q b e not_10 here rest = by_other false m q b here not_10 refl
    by_return true false m q b e not_10 here rest = by_other true m q b here not_10 e
    by_return true true m q b e not_10 here rest =
        after_return slots m q rest (here ∙ ap Some (eqb-true b 13 e)) (slice_get s.text (q + 1)) (is_before_byte s.text 10 (q + 1)) refl refl

    by_byte : (crlf is : Bool) (m q b : ℕ) → (b == 10) ≡ is → slice_get s.text q ≡ Some b
        → ((r : ℕ) → q < r → r ≤ len → Tells crlf slots r (newlines crlf slots m r)) → Tells crlf slots q (newlines crlf slots (suc m) q)
    by_byte crlf true m q b is e rest =
        let here : slice_get s.text q ≡ Some 10 = e ∙ ap Some (eqb-true b 10 is) in
        let lt = within q 10 here in
        tells_newline crlf slots m q (q + 1) 10 here (omega arith) (one_newline crlf q slots here)
        (ap (are_newlines crlf) (drop_here s.text q 10 here) ∙ past_newline crlf (drop (q + 1) s.text)) (rest (q + 1) (omega arith) (omega (arith, lt)))
    by_byte crlf false m q b is e rest = by_return crlf (b == 13) m q b refl is e rest

    one_more : (crlf : Bool) (m q : ℕ) (o : Option ℕ) → slice_get s.text q ≡ o
        → ((r : ℕ) → q < r → r ≤ len → Tells crlf slots r (newlines crlf slots m r)) → q ≤ len → Tells crlf slots q (newlines crlf slots (suc m) q)
    unfolding loop_ways
    one_more crlf m q None e rest inside = at_end crlf slots (loop_ways true (newline crlf) m) q inside e
    one_more crlf m q (Some b) e rest inside = by_byte crlf (b == 10) m q b refl e rest

    tells : (crlf : Bool) (m q : ℕ) → len - q ≤ m → q ≤ len → Tells crlf slots q (newlines crlf slots m q)
    tells crlf zero q room inside = last crlf slots q (slice_get s.text q) refl room inside
    tells crlf (suc m) q room inside =
        one_more crlf m q (slice_get s.text q) refl (λ r low fits. tells crlf m r (omega (arith, room, low)) fits) inside

  -- a look-ahead for the list leaves the state where the list has a spot
  kept_by : (w : MatchState) (b : Bool) (ws : List Spot) → Keeps (group_slots w.pairs) ws → is_nil ws ≡ not b → map spot_of (match_empty_if b w) ≡ asked_ways false (spot_of w) ws
  kept_by w true [] h e = absurd (true≢false e)
  kept_by w true (u ∷ us) h e = ap (λ (xs : List ℕ). spot w.position xs ∷ []) (sym h.0)
  kept_by w false [] h e = refl
  kept_by w false (u ∷ us) h e = absurd (true≢false (sym e))

  pub text_end_same : (crlf : Bool) (w : MatchState) → w.position ≤ len
      → map spot_of (match_empty_if (are_newlines crlf (drop w.position s.text)) w) ≡ plain.ways view len (text_end_re crlf) (spot_of w)
  unfolding plain.ways place_before times_ways tail_ways
  text_end_same crlf w inside =
      let told = tells (group_slots w.pairs) crlf (len - w.position) w.position (omega arith) inside in
      kept_by w (are_newlines crlf (drop w.position s.text)) (newlines crlf (group_slots w.pairs) (len - w.position) w.position) told.0 told.1
