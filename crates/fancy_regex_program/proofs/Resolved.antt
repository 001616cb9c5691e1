-- A program whose calls have drafts becomes the program over the places, where each draft gets the place of its group.
use Rattle.std.proofs.Common.{◌≡◌, ℕ, zero, suc, ◌+◌, ◌*◌, Bool, true, false, cond, ◌&&◌, List, [], ◌∷◌, ◌++◌, map, length, Option, Some, None, option_map, refl, sym, ap, ap₂, subst, ⊎_elim, ◌∙◌}
use Rattle.std.specs.Prelude.{is_some, nat_le, slice_get, All}
use Rattle.std.specs.List.{list_all}
use Rattle.std.proofs.lemmas.List.{map-append, length-map}
use Rattle.std.proofs.lemmas.List.Elements.{All-head, All-tail}
use Rattle.std.proofs.lemmas.Option.{none-some, slice_get-map}
use Rattle.fancy_regex_tree.specs.Tree.{Text, Tree}
use Rattle.fancy_regex_meaning.specs.Sizes.{target}
use Rattle.fancy_regex_meaning.specs.Ways.{is_at_call_limit}
use Rattle.fancy_regex_desugar.specs.CorePatterns.{any, literal, class, CorePattern, nothing, read, general_newline, check, continue, keep_out, fail, cat, alt, group, ahead, never, back, atomic, delegate, tail, repeat, backref, exists, conditional, absent, called}
use Rattle.fancy_regex_desugar.specs.Unfolded.{pat_for, written, written_call, written_whole, unfolded}
use Rattle.fancy_regex_program.specs.Ops as op
use Rattle.fancy_regex_program.specs.Ops.{Op, Place}
use Rattle.fancy_regex_program.specs.Code.{Layout, slots_with, waits_with, is_whole_literal, flushed, Code, closed, after_text, one, row_code, alt_code, group_code, ahead_code, never_code, atomic_code, tail_code, repeat_code, is_uncounted, split_by, loop_entry, loop_head, loop_code, conditional_code, absent_code, code_with, leaf_op, opening, closing}
use Rattle.fancy_regex_program.specs.Layouts.{IsLaidOut, CallsAreLaidOut, AreWrittenOut, main_code}
use Rattle.fancy_regex_program.specs.Assembled.{Body, or_draft, resolved, IsDraftOf, AreDrafts, IsDrafted, IsDraftedBody, return_code, stretch, stretches, StandFrom, IsMadeOf}
use Rattle.fancy_regex_program.specs.Reading.{stays, passing_of, reads_past, reads_from, reading_depth, always_reads}
use Rattle.fancy_regex_program.proofs.CodeParts.{Part, shut, apart_from, cat_part, alt_part, group_part, ahead_part, never_part, atomic_part, tail_part, loop_part, repeat_part, conditional_part, absent_part, call_part, part_with}
use Rattle.fancy_regex_program.proofs.WrittenParts.{PartByPart, of_tree, of_whole}
use Rattle.fancy_regex_program.proofs.WrittenOut.{is_call, lower_calls, calls_lower, of_lower}

-- over the places
module _ (table : Layout) where
  abbrev f : Op → Op
  f = resolved table

  -- what is seen of an operation stays
  stays_same : (o : Op) → stays (f o) ≡ stays o
  stays_same (op.call c) = refl
  stays_same (op.return c) = refl
  stays_same o = refl

  passing_same : (o : Op) → passing_of (f o) ≡ passing_of o
  passing_same (op.call c) = refl
  passing_same (op.return c) = refl
  passing_same o = refl

  all_stay : (ops : List Op) → list_all stays (map f ops) ≡ list_all stays ops
  all_stay [] = refl
  all_stay (o ∷ ops) = ap₂ (λ a b. a && b) (stays_same o) (all_stay ops)

  reads_same : (first : ℕ) (ops : List Op) (n at : ℕ) → reads_from first (map f ops) n at ≡ reads_from first ops n at
  unfolding reads_from
  reads_same first ops zero at = refl
  reads_same first ops (suc n) at =
      ap (λ (o : Option Op). elim o as (λ _. Bool) [ None ↦ false | Some o ↦ reads_past first (reads_from first (map f ops) n) at (passing_of o) ]) (slice_get-map f ops at)
      ∙ at_op (reads_from first (map f ops) n) (reads_from first ops n) (λ i k. reads_same first ops n k i) (slice_get ops at)
    where
      at_op : (g h : ℕ → Bool) → g ≡ h → (o : Option Op) → elim (option_map f o) as (λ _. Bool) [ None ↦ false | Some o ↦ reads_past first g at (passing_of o) ]
          ≡ elim o as (λ _. Bool) [ None ↦ false | Some o ↦ reads_past first h at (passing_of o) ]
      at_op g h e None = refl
      at_op g h e (Some o) = ap₂ (λ from passing. reads_past first from at passing) e (passing_same o)

  always_same : (first : ℕ) (ops : List Op) → always_reads first (map f ops) ≡ always_reads first ops
  unfolding always_reads
  always_same first ops = ap₂ (λ a b. a && b) (all_stay ops) (reads_same first ops reading_depth 0)

  pub uncounted_same : (lo first : ℕ) (ops : List Op) → is_uncounted lo first (map f ops) ≡ is_uncounted lo first ops
  uncounted_same lo first ops = ap (λ b. nat_le lo 1 && b) (always_same first ops)

  -- the code with the places put in
  abbrev put : Code → Code
  put code pc slot = map f (code pc slot)

  put_flushed : (text : Text) → map f (flushed text) ≡ flushed text
  put_flushed [] = refl
  put_flushed (c ∷ cs) = refl

  put_after : (text : Text) (code : Code) → put (after_text text code) ≡ after_text text (put code)
  put_after [] code = refl
  put_after (c ∷ cs) code = refl

  put_closed : (code : Code) (text : Text) → put (closed code text) ≡ closed (put code) text
  put_closed code text = λ i pc slot. (map-append f (code pc slot) (flushed text) ∙ ap (λ ops. map f (code pc slot) ++ ops) (put_flushed text)) i

  put_row : (a b : Code) (n : ℕ) → put (row_code a b n) ≡ row_code (put a) (put b) n
  put_row a b n = λ i pc slot. at pc slot i
    where
      at : (pc slot : ℕ) → put (row_code a b n) pc slot ≡ row_code (put a) (put b) n pc slot
      at pc slot = simp (map-append, length-map)

  put_alt : (a b : Code) (n : ℕ) → put (alt_code a b n) ≡ alt_code (put a) (put b) n
  put_alt a b n = λ i pc slot. at pc slot i
    where
      at : (pc slot : ℕ) → put (alt_code a b n) pc slot ≡ alt_code (put a) (put b) n pc slot
      at pc slot = simp (map-append, length-map)

  put_group : (k : ℕ) (a : Code) → put (group_code k a) ≡ group_code k (put a)
  put_group k a = λ i pc slot. at pc slot i
    where
      at : (pc slot : ℕ) → put (group_code k a) pc slot ≡ group_code k (put a) pc slot
      at pc slot = simp map-append

  put_ahead : (a : Code) → put (ahead_code a) ≡ ahead_code (put a)
  put_ahead a = λ i pc slot. at pc slot i
    where
      at : (pc slot : ℕ) → put (ahead_code a) pc slot ≡ ahead_code (put a) pc slot
      at pc slot = simp map-append

  put_never : (a : Code) → put (never_code a) ≡ never_code (put a)
  put_never a = λ i pc slot. at pc slot i
    where
      at : (pc slot : ℕ) → put (never_code a) pc slot ≡ never_code (put a) pc slot
      at pc slot = simp (map-append, length-map)

  put_atomic : (a : Code) → put (atomic_code a) ≡ atomic_code (put a)
  put_atomic a = λ i pc slot. at pc slot i
    where
      at : (pc slot : ℕ) → put (atomic_code a) pc slot ≡ atomic_code (put a) pc slot
      at pc slot = simp map-append

  -- what begins a tail has no place
  put_tail : (begin : ℕ → Op) (a : Code) → ((end : ℕ) → f (begin end) ≡ begin end) → put (tail_code begin a) ≡ tail_code begin (put a)
  put_tail begin a same = λ i pc slot. at pc slot i
    where
      at : (pc slot : ℕ) → put (tail_code begin a) pc slot ≡ tail_code begin (put a) pc slot
      at pc slot = simp (length-map, same)

  put_repeat : (lo hi : ℕ) (greedy : Bool) (a : Code) → put (repeat_code lo hi greedy a) ≡ repeat_code lo hi greedy (put a)
  put_repeat lo hi greedy a = λ i pc slot. at pc slot i
    where
      at : (pc slot : ℕ) → put (repeat_code lo hi greedy a) pc slot ≡ repeat_code lo hi greedy (put a) pc slot
      at pc slot = simp (map-append, length-map)

  put_split : (greedy : Bool) (on stop : ℕ) → f (split_by greedy on stop) ≡ split_by greedy on stop
  put_split true on stop = refl
  put_split false on stop = refl

  put_entry : (uncounted : Bool) (lo head slot : ℕ) → f (loop_entry uncounted lo head slot) ≡ loop_entry uncounted lo head slot
  put_entry true lo head slot = refl
  put_entry false lo head slot = refl

  put_head : (uncounted : Bool) (lo : ℕ) (greedy : Bool) (first next slot last : ℕ) → f (loop_head uncounted lo greedy first next slot last) ≡ loop_head uncounted lo greedy first next slot last
  put_head true lo greedy first next slot last = put_split greedy first next
  put_head false lo greedy first next slot last = refl

  -- a loop's operations in front of its body and after it
  abbrev looped : ℕ → Bool → ℕ → ℕ → Bool → ℕ → List Op → List Op
  looped lo greedy pc slot uncounted long ops =
      loop_entry uncounted lo (pc + 1) slot ∷ loop_head uncounted lo greedy (pc + 2) (pc + 3 + long) slot (slot + 1) ∷ (ops ++ op.jump (pc + 1) ∷ [])

  put_loop : (lo : ℕ) (greedy : Bool) (a : Code) → put (loop_code lo greedy a) ≡ loop_code lo greedy (put a)
  put_loop lo greedy a = λ i pc slot. at pc slot i
    where
      at : (pc slot : ℕ) → put (loop_code lo greedy a) pc slot ≡ loop_code lo greedy (put a) pc slot
      at pc slot =
          let inside = a (pc + 2) (slot + 2) in
          let uncounted = is_uncounted lo (pc + 2) inside in
          let whole : List Op → List Op = looped lo greedy pc slot uncounted (length inside) in
          ap (λ (o : Op). o ∷ f (loop_head uncounted lo greedy (pc + 2) (pc + 3 + length inside) slot (slot + 1)) ∷ map f (inside ++ op.jump (pc + 1) ∷ []))
          (put_entry uncounted lo (pc + 1) slot)
          ∙ ap (λ (o : Op). loop_entry uncounted lo (pc + 1) slot ∷ o ∷ map f (inside ++ op.jump (pc + 1) ∷ []))
          (put_head uncounted lo greedy (pc + 2) (pc + 3 + length inside) slot (slot + 1))
          ∙ ap (λ (ops : List Op). loop_entry uncounted lo (pc + 1) slot ∷ loop_head uncounted lo greedy (pc + 2) (pc + 3 + length inside) slot (slot + 1) ∷ ops)
          (map-append f inside (op.jump (pc + 1) ∷ []))
          ∙ ap₂ (λ (b : Bool) (n : ℕ). looped lo greedy pc slot b n (map f inside)) (sym (uncounted_same lo (pc + 2) inside)) (sym (length-map inside f))

  put_conditional : (c a b : Code) (m n : ℕ) → put (conditional_code c a b m n) ≡ conditional_code (put c) (put a) (put b) m n
  put_conditional c a b m n = λ i pc slot. at pc slot i
    where
      at : (pc slot : ℕ) → put (conditional_code c a b m n) pc slot ≡ conditional_code (put c) (put a) (put b) m n pc slot
      at pc slot = simp (map-append, length-map)

  put_absent : (a : Code) → put (absent_code a) ≡ absent_code (put a)
  put_absent a = λ i pc slot. at pc slot i
    where
      at : (pc slot : ℕ) → put (absent_code a) pc slot ≡ absent_code (put a) pc slot
      at pc slot = simp (map-append, length-map)

  -- a part with the places put in
  abbrev put_part : Part → Part
  put_part a = record { codes = λ text. put (a.codes text); waits = a.waits; slots = a.slots }

  put_shut : (a : Part) → put (shut a) ≡ shut (put_part a)
  put_shut a = put_closed (a.codes []) (a.waits [])

  put_apart : (code : Code) (slots : ℕ) → put_part (apart_from code slots) ≡ apart_from (put code) slots
  put_apart code slots = ap (λ (codes : Text → Code). record { codes = codes; waits = λ text. []; slots = slots }) (λ i text. put_after text code i)

  -- the same for the code of a construct
  put_made : (code other : Code) (slots : ℕ) → put code ≡ other → put_part (apart_from code slots) ≡ apart_from other slots
  put_made code other slots e = put_apart code slots ∙ ap (λ c. apart_from c slots) e

  put_cat : (a b : Part) → put_part (cat_part a b) ≡ cat_part (put_part a) (put_part b)
  put_cat a b =
      ap (λ (codes : Text → Code). record { codes = codes; waits = λ text. b.waits (a.waits text); slots = a.slots + b.slots })
      (λ i text. put_row (a.codes text) (b.codes (a.waits text)) a.slots i)

  put_alt_part : (a b : Part) → put_part (alt_part a b) ≡ alt_part (put_part a) (put_part b)
  put_alt_part a b = put_made (alt_code (shut a) (shut b) a.slots) _ (a.slots + b.slots) (put_alt (shut a) (shut b) a.slots ∙ ap₂ (λ x y. alt_code x y a.slots) (put_shut a) (put_shut b))

  put_conditional_part : (c a b : Part) → put_part (conditional_part c a b) ≡ conditional_part (put_part c) (put_part a) (put_part b)
  put_conditional_part c a b =
      put_made (conditional_code (shut c) (shut a) (shut b) c.slots a.slots) _ (1 + (c.slots + (a.slots + b.slots)))
      (put_conditional (shut c) (shut a) (shut b) c.slots a.slots
      ∙ ap (λ x. conditional_code x (put (shut a)) (put (shut b)) c.slots a.slots) (put_shut c)
      ∙ ap₂ (λ x y. conditional_code (shut (put_part c)) x y c.slots a.slots) (put_shut a) (put_shut b))

  -- a call has a draft, or is written out
  put_call : (k : ℕ) (o q : Option Place) (a b : Part) (Inside : Type 0) → table k ≡ q → (Inside → put_part a ≡ b) → IsDraftOf k o q Inside →
      put_part (call_part o a) ≡ call_part q b
  put_call k None None a b Inside e h is = h is
  put_call k None (Some d) a b Inside e h is = absurd is
  put_call k (Some c) None a b Inside e h is = absurd is
  put_call k (Some c) (Some d) a b Inside e h is =
      put_made (one (op.call c)) (one (op.call d)) 0 (ap (λ (q : Option Place). one (op.call (or_draft q c))) (ap table is ∙ e))

  put_return : (k : ℕ) (o q : Option Place) → table k ≡ q → IsDraftOf k o q ⊥ → map f (return_code o) ≡ return_code q
  put_return k None None e is = absurd is
  put_return k None (Some d) e is = absurd is
  put_return k (Some c) None e is = absurd is
  put_return k (Some c) (Some d) e is = ap (λ (q : Option Place). op.return (or_draft q c) ∷ []) (ap table is ∙ e)

  put_waiting : (is_whole : Bool) (text : Text) → map f (cond is_whole (flushed text) []) ≡ cond is_whole (flushed text) []
  put_waiting true text = put_flushed text
  put_waiting false text = refl

  put_kept : (b : Bool) → put (λ pc slot. cond b (op.save 0 ∷ []) []) ≡ (λ pc slot. cond b (op.save 0 ∷ []) [])
  put_kept true = refl
  put_kept false = refl

  -- over the members of classes, the foldings of characters, whether group 0 is the whole, and the drafts
  module _ (has_member : Text → Bool → ℕ → Bool) (fold : ℕ → ℕ) (whole : Bool) (drafts : Layout) where
    abbrev D : CorePattern → Part
    D = part_with has_member fold whole drafts

    abbrev T : CorePattern → Part
    T = part_with has_member fold whole table

    plain : (o : Op) → f o ≡ o → put_part (apart_from (one o) 0) ≡ apart_from (one o) 0
    plain o e = put_made (one o) (one o) 0 (ap (λ x. one x) e)

    pub resolved_part : (p : CorePattern) → AreDrafts drafts table p → put_part (D p) ≡ T p
    unfolding code_with
    resolved_part nothing h = refl
    resolved_part (read (literal c false)) h =
        ap (λ (codes : Text → Code). record { codes = codes; waits = waits_with table (read (literal c false)); slots = 0 }) (λ i text pc slot. put_waiting (is_whole_literal text) text i)
    resolved_part (read (literal c true)) h = plain (leaf_op has_member fold whole (literal c true)) refl
    resolved_part (read (any newline crlf)) h = plain (leaf_op has_member fold whole (any newline crlf)) refl
    resolved_part (read (class name casei)) h = plain (leaf_op has_member fold whole (class name casei)) refl
    resolved_part (general_newline unicode) h = plain (op.general_newline unicode) refl
    resolved_part (check a) h = plain (op.assertion a) refl
    resolved_part continue h = plain op.continue refl
    resolved_part keep_out h = put_made (λ pc slot. cond whole (op.save 0 ∷ []) []) _ 0 (put_kept whole)
    resolved_part fail h = plain op.fail refl
    resolved_part (cat a b) h = put_cat (D a) (D b) ∙ ap₂ cat_part (resolved_part a h.0) (resolved_part b h.1)
    resolved_part (alt a b) h = put_alt_part (D a) (D b) ∙ ap₂ alt_part (resolved_part a h.0) (resolved_part b h.1)
    resolved_part (group k a) h =
        put_made (group_code k (shut (D a))) _ (1 + slots_with drafts a) (put_group k (shut (D a)) ∙ ap (group_code k) (put_shut (D a))) ∙ ap (group_part k) (resolved_part a h)
    resolved_part (ahead a) h =
        put_made (ahead_code (shut (D a))) _ (1 + slots_with drafts a) (put_ahead (shut (D a)) ∙ ap ahead_code (put_shut (D a))) ∙ ap ahead_part (resolved_part a h)
    resolved_part (never a) h =
        put_made (never_code (shut (D a))) _ (1 + slots_with drafts a) (put_never (shut (D a)) ∙ ap never_code (put_shut (D a))) ∙ ap never_part (resolved_part a h)
    resolved_part (back n) h = plain (op.go_back n) refl
    resolved_part (atomic a) h =
        put_made (atomic_code (shut (D a))) _ (1 + slots_with drafts a) (put_atomic (shut (D a)) ∙ ap atomic_code (put_shut (D a))) ∙ ap atomic_part (resolved_part a h)
    resolved_part (delegate t a) h = plain (op.delegate has_member fold t) refl
    resolved_part (tail t a) h =
        let begin : ℕ → Op = op.tail has_member fold t in
        put_made (tail_code begin (shut (D a))) _ (slots_with drafts a) (put_tail begin (shut (D a)) (λ end. refl) ∙ ap (tail_code begin) (put_shut (D a))) ∙ ap (tail_part begin) (resolved_part a h)
    resolved_part (repeat a lo None greedy) h =
        put_made (loop_code lo greedy (shut (D a))) _ (2 + slots_with drafts a) (put_loop lo greedy (shut (D a)) ∙ ap (loop_code lo greedy) (put_shut (D a))) ∙ ap (loop_part lo greedy) (resolved_part a h)
    resolved_part (repeat a lo (Some hi) greedy) h =
        put_made (repeat_code lo hi greedy (shut (D a))) _ (1 + slots_with drafts a) (put_repeat lo hi greedy (shut (D a)) ∙ ap (repeat_code lo hi greedy) (put_shut (D a)))
        ∙ ap (repeat_part lo hi greedy) (resolved_part a h)
    resolved_part (backref k casei) h = plain (op.backref (2 * k) casei) refl
    resolved_part (exists k) h = plain (op.exists (2 * k)) refl
    resolved_part (conditional c a b) h =
        put_conditional_part (D c) (D a) (D b)
        ∙ ap (λ x. conditional_part x (put_part (D a)) (put_part (D b))) (resolved_part c h.0)
        ∙ ap₂ (conditional_part (T c)) (resolved_part a h.1) (resolved_part b h.2)
    resolved_part (absent a) h =
        put_made (absent_code (shut (D a))) _ (2 + slots_with drafts a) (put_absent (shut (D a)) ∙ ap absent_code (put_shut (D a))) ∙ ap absent_part (resolved_part a h)
    resolved_part (called k a) h = put_call k (drafts k) (table k) (D a) (T a) (AreDrafts drafts table a) refl (resolved_part a) h

    pub resolved_slots : (p : CorePattern) → AreDrafts drafts table p → slots_with drafts p ≡ slots_with table p
    resolved_slots p h = ap (λ (a : Part). a.slots) (resolved_part p h)

    pub resolved_waits : (p : CorePattern) → AreDrafts drafts table p → waits_with drafts p ≡ waits_with table p
    resolved_waits p h = ap (λ (a : Part). a.waits) (resolved_part p h)

    pub resolved_code : (p : CorePattern) (text : Text) (pc slot : ℕ) → AreDrafts drafts table p →
        map f (code_with has_member fold whole drafts p text pc slot) ≡ code_with has_member fold whole table p text pc slot
    resolved_code p text pc slot h = ap (λ (a : Part). a.codes text pc slot) (resolved_part p h)

    -- with what waits after it
    resolved_closed : (p : CorePattern) (pc slot : ℕ) → AreDrafts drafts table p → map f (shut (D p) pc slot) ≡ shut (T p) pc slot
    resolved_closed p pc slot h = ap (λ (code : Code). code pc slot) (put_shut (D p) ∙ ap shut (resolved_part p h))

    put_opening : (whole anchored : Bool) → map f (opening has_member fold whole anchored) ≡ opening has_member fold whole anchored
    put_opening true true = refl
    put_opening true false = refl
    put_opening false true = refl
    put_opening false false = refl

    put_closing : (whole : Bool) → map f (closing has_member fold whole) ≡ closing has_member fold whole
    put_closing true = refl
    put_closing false = refl

    pub resolved_main : (anchored : Bool) (count : ℕ) (p : CorePattern) → AreDrafts drafts table p →
        map f (main_code has_member fold whole drafts anchored count p) ≡ main_code has_member fold whole table anchored count p
    resolved_main anchored count p h =
        let o = opening has_member fold whole anchored in
        let e = closing has_member fold whole in
        let body = shut (D p) (length o) (2 * count) in
        map-append f o (body ++ e)
        ∙ ap₂ (λ (a b : List Op). a ++ b) (put_opening whole anchored)
        (map-append f body e ∙ ap₂ (λ (a b : List Op). a ++ b) (resolved_closed p (length o) (2 * count) h) (put_closing whole))

    pub resolved_stretch : (b : Body) → IsDraftedBody drafts table b →
        map f (stretch has_member fold whole drafts b) ≡ stretch has_member fold whole table b
    resolved_stretch b h =
        map-append f (shut (D b.pattern) b.start b.first) (return_code (drafts b.group))
        ∙ ap₂ (λ (a b : List Op). a ++ b) (resolved_closed b.pattern b.start b.first h.calls) (put_return b.group (drafts b.group) (table b.group) refl h.own)

    pub resolved_stretches : (bs : List Body) → All (IsDraftedBody drafts table) bs →
        map f (stretches has_member fold whole drafts bs) ≡ stretches has_member fold whole table bs
    resolved_stretches [] h = refl
    resolved_stretches (b ∷ bs) h =
        map-append f (stretch has_member fold whole drafts b) (stretches has_member fold whole drafts bs)
        ∙ ap₂ (λ (a b : List Op). a ++ b) (resolved_stretch b (All-head (IsDraftedBody drafts table) b bs h)) (resolved_stretches bs (All-tail (IsDraftedBody drafts table) b bs h))

    resolved_stand : (bs : List Body) (pc : ℕ) → All (IsDraftedBody drafts table) bs → StandFrom has_member fold whole drafts pc bs →
        StandFrom has_member fold whole table pc bs
    resolved_stand [] pc h v = tt
    resolved_stand (b ∷ bs) pc h v =
        let own = All-head (IsDraftedBody drafts table) b bs h in
        let long = sym (length-map (stretch has_member fold whole drafts b) f) ∙ ap length (resolved_stretch b own) in
        let P = λ (n : ℕ). StandFrom has_member fold whole table (pc + n) bs in (
          v.0,
          v.1 ∙ resolved_slots b.pattern own.calls,
          subst P long (resolved_stand bs (pc + length (stretch has_member fold whole drafts b)) (All-tail (IsDraftedBody drafts table) b bs h) v.2),
        )

    -- the whole program
    pub resolved_made : (anchored : Bool) (count : ℕ) (p : CorePattern) (bodies : List Body) (code : List Op) →
        IsMadeOf has_member fold whole drafts anchored count p bodies code → AreDrafts drafts table p → All (IsDraftedBody drafts table) bodies →
        IsMadeOf has_member fold whole table anchored count p bodies (map f code)
    resolved_made anchored count p bodies code made h each =
        let main = main_code has_member fold whole drafts anchored count p in
        let rest = stretches has_member fold whole drafts bodies in
        let long = sym (length-map main f) ∙ ap length (resolved_main anchored count p h) in
        let P = λ (n : ℕ). StandFrom has_member fold whole table n bodies in
        record {
          is = ap (map f) made.is ∙ map-append f main (rest ++ op.finish ∷ [])
              ∙ ap₂ (λ (a b : List Op). a ++ b) (resolved_main anchored count p h)
              (map-append f rest (op.finish ∷ []) ∙ ap (λ (ops : List Op). ops ++ op.finish ∷ []) (resolved_stretches bodies each));
          stand = subst P long (resolved_stand bodies (length main) each made.stand);
        }

-- Where calls stay over the places, they have drafts, and others are written out over both.
module _ (drafts table : Layout) (is_written_out : ℕ → Bool) (are : IsDrafted drafts table is_written_out) where
  stays_here : (k : ℕ) (o q : Option Place) (Inside : Type 0) → drafts k ≡ o → table k ≡ q → is_some q ≡ true → IsDraftOf k o q Inside
  stays_here k o None Inside eo eq stays = absurd cc
  stays_here k None (Some d) Inside eo eq stays =
      let covered : is_some (table k) ≡ true = ap is_some eq in
      absurd (cc (are.covers k covered))
  stays_here k (Some c) (Some d) Inside eo eq stays = are.named k c eo

  out_here : (k : ℕ) (o q : Option Place) (Inside : Type 0) → o ≡ None → q ≡ None → Inside → IsDraftOf k o q Inside
  out_here k None None Inside eo eq h = h
  out_here k o (Some d) Inside eo eq h = absurd (none-some d (sym eq))
  out_here k (Some c) q Inside eo eq h = absurd (none-some c (sym eo))

  -- Where the first is laid out over the places, the second has drafts.
  abbrev pub Drafted : CorePattern → CorePattern → Type 0
  Drafted p q = CallsAreLaidOut table is_written_out p → AreDrafts drafts table q

  pub drafted_parts : PartByPart Drafted
  drafted_parts = record {
    of_nothing = λ s. tt;
    of_read = λ c s. tt;
    of_newline = λ unicode s. tt;
    of_check = λ a s. tt;
    of_continue = λ s. tt;
    of_keep_out = λ s. tt;
    of_fail = λ s. tt;
    of_back = λ n s. tt;
    of_backref = λ k casei s. tt;
    of_exists = λ k s. tt;
    of_cat = λ a b c d h k s. (h s.0, k s.1);
    of_alt = λ a b c d h k s. (h s.0, k s.1);
    of_group = λ k a b h s. h s;
    of_ahead = λ a b h s. h s;
    of_never = λ a b h s. h s;
    of_atomic = λ a b h s. h s;
    of_delegate = λ t a b h s. tt;
    of_tail = λ t a b h s. h s;
    of_repeat = λ a b lo hi greedy h s. h s;
    of_conditional = λ a b c d e f h k l s. (h s.0, k s.1, l s.2);
    of_absent = λ a b h s. h s;
  }

  -- the same, wherever it is laid out
  pub has_drafts_parts : PartByPart (λ p q. AreDrafts drafts table q)
  has_drafts_parts = record {
    of_nothing = tt;
    of_read = λ c. tt;
    of_newline = λ unicode. tt;
    of_check = λ a. tt;
    of_continue = tt;
    of_keep_out = tt;
    of_fail = tt;
    of_back = λ n. tt;
    of_backref = λ k casei. tt;
    of_exists = λ k. tt;
    of_cat = λ a b c d h k. (h, k);
    of_alt = λ a b c d h k. (h, k);
    of_group = λ k a b h. h;
    of_ahead = λ a b h. h;
    of_never = λ a b h. h;
    of_atomic = λ a b h. h;
    of_delegate = λ t a b h. tt;
    of_tail = λ t a b h. h;
    of_repeat = λ a b lo hi greedy h. h;
    of_conditional = λ a b c d e f h k l. (h, k, l);
    of_absent = λ a b h. h;
  }

  -- a call that stays
  pub drafted_kept : (k : ℕ) (a : CorePattern) → is_some (table k) ≡ true → AreDrafts drafts table (called k a)
  drafted_kept k a stays = stays_here k (drafts k) (table k) (AreDrafts drafts table a) refl refl stays

  module _ (groups : List Tree) (out : AreWrittenOut table groups is_written_out) where
    -- a call that is written out
    pub drafted_out : (k : ℕ) (a : CorePattern) → is_written_out k ≡ true → AreDrafts drafts table a → AreDrafts drafts table (called k a)
    drafted_out k a is_out h = out_here k (drafts k) (table k) (AreDrafts drafts table a) (are.none k is_out) (out.none k is_out) h

    drafted_inside : (m : ℕ) (opened : List ℕ) (k : ℕ) → is_written_out k ≡ true →
        ((j : ℕ) → is_written_out j ≡ true → AreDrafts drafts table (written_call groups m (k ∷ opened) j)) → (b : Bool) (u : Option Tree) → target groups k ≡ u →
        AreDrafts drafts table (cond b fail (pat_for (λ body. (written groups (written_call groups m (k ∷ opened)) (k + 1) body).front) u))
    drafted_inside m opened k is_out calls true u at = tt
    drafted_inside m opened k is_out calls false None at = tt
    drafted_inside m opened k is_out calls false (Some t) at =
        let call = written_call groups m (k ∷ opened) in
        let lower = lower_calls groups table is_written_out out k call in
        let fits : (j : ℕ) → AreDrafts drafts table (lower j) =
        of_lower groups table is_written_out out (λ p. AreDrafts drafts table p) tt k call (λ j out_j less. calls j out_j) in
        let all = (of_tree (λ p q. AreDrafts drafts table q) has_drafts_parts groups lower lower fits (k + 1) t).front in
        subst (AreDrafts drafts table) (sym (calls_lower groups table is_written_out out k t is_out at call)) all

    pub drafted_call : (m : ℕ) (opened : List ℕ) (k : ℕ) → is_written_out k ≡ true → AreDrafts drafts table (written_call groups m opened k)
    unfolding written_call
    drafted_call zero opened k is_out = drafted_out k fail is_out tt
    drafted_call (suc m) opened k is_out =
        drafted_out k (cond (is_at_call_limit opened k) fail (pat_for (λ body. (written groups (written_call groups m (k ∷ opened)) (k + 1) body).front) (target groups k))) is_out
        (drafted_inside m opened k is_out (drafted_call m (k ∷ opened)) (is_at_call_limit opened k) (target groups k) refl)

    drafted_either : (m : ℕ) (opened : List ℕ) (k : ℕ) → Drafted (written_call groups m opened k) (written_call groups m opened k)
    drafted_either m opened k laid_out =
        let call = is_call groups m opened k in
        let is : IsLaidOut table is_written_out k = subst (CallsAreLaidOut table is_written_out) call.is laid_out in
        ⊎_elim (λ (stays : is_some (table k) ≡ true). subst (AreDrafts drafts table) (sym call.is) (drafted_kept k call.inside stays))
        (λ (is_out : is_written_out k ≡ true). drafted_call m opened k is_out) is

    -- a part of the pattern, or a body
    pub part_drafted : (m : ℕ) (opened : List ℕ) (n : ℕ) (t : Tree) → CallsAreLaidOut table is_written_out (unfolded groups m opened n t) → AreDrafts drafts table (unfolded groups m opened n t)
    part_drafted m opened n t = (of_tree Drafted drafted_parts groups (written_call groups m opened) (written_call groups m opened) (drafted_either m opened) n t).front

    -- a whole pattern
    pub whole_drafted : (m : ℕ) (opened : List ℕ) (n : ℕ) (t : Tree) → CallsAreLaidOut table is_written_out (written_whole groups (written_call groups m opened) n t) →
        AreDrafts drafts table (written_whole groups (written_call groups m opened) n t)
    whole_drafted m opened n t = of_whole Drafted drafted_parts groups (written_call groups m opened) (written_call groups m opened) (drafted_either m opened) n t
