-- The program of a pattern.
use Rattle.std.specs.Prelude.{ℕ, ◌+◌, ◌*◌, nat_le, Bool, true, false, not, ◌&&◌, List, [], ◌∷◌, ◌++◌, length, Option, Some, None, ◌==◌, if◌then◌else◌}
use Rattle.fancy_regex_tree.specs.Tree.{Text}
use Rattle.fancy_regex_desugar.specs.CorePatterns.{CharacterTest, any, literal, class, CorePattern, nothing, read, general_newline, check, continue, keep_out, fail, cat, alt, group, ahead, never, back, atomic, delegate, tail, repeat, backref, exists, conditional, absent, called}
use Rattle.fancy_regex_program.specs.Ops as op
use Rattle.fancy_regex_program.specs.Ops.{Op, Place, among_scalars}
use Rattle.fancy_regex_program.specs.Reading.{always_reads}

-- Where the bodies of the groups are whose calls stay calls; the other calls are written out.
abbrev pub Layout : Type 0
Layout = ℕ → Option Place

-- every call is written out
abbrev pub written_out : Layout
written_out k = None

-- the number where the call is written out, and else none
abbrev pub where_written : Option Place → ℕ → ℕ
where_written None n = n
where_written (Some c) n = 0

-- how many slots of its own a pattern has
abbrev pub slots_with : Layout → CorePattern → ℕ
slots_with layout (cat a b) = slots_with layout a + slots_with layout b
slots_with layout (alt a b) = slots_with layout a + slots_with layout b
slots_with layout (group k a) = 1 + slots_with layout a
slots_with layout (ahead a) = 1 + slots_with layout a
slots_with layout (never a) = 1 + slots_with layout a
slots_with layout (atomic a) = 1 + slots_with layout a
slots_with layout (tail t a) = slots_with layout a
slots_with layout (repeat a lo None greedy) = 2 + slots_with layout a
slots_with layout (repeat a lo (Some hi) greedy) = 1 + slots_with layout a
slots_with layout (conditional c a b) = 1 + (slots_with layout c + (slots_with layout a + slots_with layout b))
slots_with layout (absent a) = 2 + slots_with layout a
slots_with layout (called k a) = where_written (layout k) (slots_with layout a)
slots_with layout _ = 0

-- the same with every call written out
abbrev pub slots_in : CorePattern → ℕ
slots_in = slots_with written_out

-- the most characters of a literal
abbrev pub most_characters : ℕ
most_characters = 1000

-- the text has as many as a literal may have
unfoldable pub is_whole_literal : Text → Bool
is_whole_literal text = nat_le most_characters (length text)

-- what of a text that waits goes on waiting where one character more comes
abbrev pub still_waits : Text → Text
still_waits text = if is_whole_literal text then [] else text

-- what waits after a call
abbrev pub waits_at_call : Option Place → Text → Text
waits_at_call None text = text
waits_at_call (Some c) text = []

-- Literals that stand side by side are one text, so a literal waits until something else comes, or until the text has as many
-- characters as a literal may have: what waits after a pattern, where that text waited before it.
abbrev pub waits_with : Layout → CorePattern → Text → Text
waits_with layout nothing text = text
waits_with layout (read (literal c false)) text = still_waits text ++ c ∷ []
waits_with layout (cat a b) text = waits_with layout b (waits_with layout a text)
waits_with layout (called k a) text = waits_at_call (layout k) (waits_with layout a text)
waits_with layout _ text = []

-- the same with every call written out
abbrev pub waits : CorePattern → Text → Text
waits = waits_with written_out

-- the text that waited
abbrev pub flushed : Text → List Op
flushed [] = []
flushed (c ∷ cs) = op.lit (c ∷ cs) ∷ []

-- the text that waited, where it has as many characters as a literal may have
abbrev pub whole_literal : Text → List Op
whole_literal text = if is_whole_literal text then flushed text else []

-- A program, which begins at that operation and with that slot.
abbrev pub Code : Type 0
Code = ℕ → ℕ → List Op

abbrev pub none : Code
none pc slot = []

abbrev pub one : Op → Code
one o pc slot = o ∷ []

-- one character more that waits
abbrev pub literal_code : Text → Code
literal_code text pc slot = whole_literal text

-- what follows the text that waited
abbrev pub after_text : Text → Code → Code
after_text text code pc slot = flushed text ++ code (pc + length (flushed text)) slot

-- with what waits after it
abbrev pub closed : Code → Text → Code
closed code text pc slot = code pc slot ++ flushed text

abbrev pub row_code : Code → Code → ℕ → Code
row_code a b slots_of_a pc slot =
    let first = a pc slot in
    first ++ b (pc + length first) (slot + slots_of_a)

abbrev pub alt_code : Code → Code → ℕ → Code
alt_code a b slots_of_a pc slot =
    let first = a (pc + 1) slot in
    let second = b (pc + 2 + length first) (slot + slots_of_a) in
    op.split (pc + 1) (pc + 2 + length first) ∷ (first ++ op.jump (pc + 2 + length first + length second) ∷ second)

abbrev pub group_code : ℕ → Code → Code
group_code k body pc slot =
    op.save slot ∷ (body (pc + 1) (slot + 1) ++ op.copy slot (2 * k) ∷ op.save (2 * k + 1) ∷ [])

abbrev pub ahead_code : Code → Code
ahead_code body pc slot = op.save slot ∷ (body (pc + 1) (slot + 1) ++ op.restore slot ∷ [])

abbrev pub never_code : Code → Code
never_code body pc slot =
    let inside = body (pc + 2) (slot + 1) in
    op.begin_atomic slot ∷ op.split (pc + 2) (pc + 3 + length inside) ∷ (inside ++ op.fail_negative slot ∷ [])

abbrev pub atomic_code : Code → Code
atomic_code body pc slot = op.begin_atomic slot ∷ (body (pc + 1) (slot + 1) ++ op.end_atomic slot ∷ [])

-- the operations of a tail, given what begins it by where they end
abbrev pub tail_code : (ℕ → Op) → Code → Code
tail_code begin body pc slot =
    let inside = body (pc + 1) slot in
    begin (pc + 1 + length inside) ∷ inside

abbrev pub repeat_code : ℕ → ℕ → Bool → Code → Code
repeat_code lo hi greedy body pc slot =
    let inside = body (pc + 2) (slot + 1) in
    op.begin_repeat slot ∷ op.repeat greedy lo hi (pc + 3 + length inside) slot ∷ (inside ++ op.jump (pc + 1) ∷ [])

-- A repeat without a greatest count needs no counter where at most one round is due and each run through its body, which begins
-- at the operation `first`, reads a character.
abbrev pub is_uncounted : ℕ → ℕ → List Op → Bool
is_uncounted lo first inside = nat_le lo 1 && always_reads first inside

-- tries to go on first and then to stop, or the other way round
abbrev pub split_by : Bool → ℕ → ℕ → Op
split_by greedy on stop = if greedy then op.split on stop else op.split stop on

-- The two operations in front of the body. Without a counter they are a jump to the second, or past it where a round is due, and
-- the choice of another round.
abbrev pub loop_entry : Bool → ℕ → ℕ → ℕ → Op
loop_entry uncounted lo head slot = if uncounted then op.jump (head + lo) else op.begin_repeat slot

abbrev pub loop_head : Bool → ℕ → Bool → ℕ → ℕ → ℕ → ℕ → Op
loop_head uncounted lo greedy first next slot last =
    if uncounted then split_by greedy first next else op.repeat_epsilon greedy lo next slot last

abbrev pub loop_code : ℕ → Bool → Code → Code
loop_code lo greedy body pc slot =
    let inside = body (pc + 2) (slot + 2) in
    let uncounted = is_uncounted lo (pc + 2) inside in
    loop_entry uncounted lo (pc + 1) slot ∷ loop_head uncounted lo greedy (pc + 2) (pc + 3 + length inside) slot (slot + 1)
    ∷ (inside ++ op.jump (pc + 1) ∷ [])

abbrev pub conditional_code : Code → Code → Code → ℕ → ℕ → Code
conditional_code c a b slots_of_c slots_of_a pc slot =
    let test = c (pc + 2) (slot + 1) in
    let yes = a (pc + 3 + length test) (slot + 1 + slots_of_c) in
    let no = b (pc + 4 + length test + length yes) (slot + 1 + slots_of_c + slots_of_a) in
    op.begin_atomic slot ∷ op.split (pc + 2) (pc + 4 + length test + length yes)
    ∷ (test ++ op.end_atomic slot ∷ (yes ++ op.jump (pc + 4 + length test + length yes + length no) ∷ no))

abbrev pub absent_code : Code → Code
absent_code body pc slot =
    let inside = body (pc + 2) (slot + 2) in
    op.absent_begin slot (slot + 1) ∷ op.absent_scan (pc + 3 + length inside) (slot + 1)
    ∷ (inside ++ op.absent_limit (slot + 1) ∷ op.absent_end slot (slot + 1) ∷ [])

-- a call that stays, or what stands for it
abbrev pub call_code : Option Place → (Text → Code) → Text → Code
call_code None code text = code text
call_code (Some c) code text = after_text text (one (op.call c))

-- over the members of classes, the foldings of characters, and whether group 0 is the whole
module _ (has_member : Text → Bool → ℕ → Bool) (fold : ℕ → ℕ) (whole : Bool) where
  abbrev pub leaf_op : CharacterTest → Op
  leaf_op (any newline crlf) = op.any newline (crlf && not newline)
  leaf_op (literal c casei) = op.test (λ d. fold d == fold c)
  leaf_op (class text casei) = op.test (among_scalars (has_member text casei))

  -- The program of a pattern, which begins at that operation and with that slot; the text waits before it.
  unfoldable pub code_with : Layout → CorePattern → Text → ℕ → ℕ → List Op
  code_with layout nothing text = none
  code_with layout (read (literal c false)) text = literal_code text
  code_with layout (cat a b) text = row_code (code_with layout a text) (code_with layout b (waits_with layout a text)) (slots_with layout a)
  code_with layout (read (literal c true)) text = after_text text (one (leaf_op (literal c true)))
  code_with layout (read (any newline crlf)) text = after_text text (one (leaf_op (any newline crlf)))
  code_with layout (read (class name casei)) text = after_text text (one (leaf_op (class name casei)))
  code_with layout (general_newline unicode) text = after_text text (one (op.general_newline unicode))
  code_with layout (check a) text = after_text text (one (op.assertion a))
  code_with layout continue text = after_text text (one op.continue)
  code_with layout keep_out text = after_text text (λ pc slot. if whole then op.save 0 ∷ [] else [])
  code_with layout fail text = after_text text (one op.fail)
  code_with layout (alt a b) text = after_text text (alt_code (closed (code_with layout a []) (waits_with layout a [])) (closed (code_with layout b []) (waits_with layout b [])) (slots_with layout a))
  code_with layout (group k a) text = after_text text (group_code k (closed (code_with layout a []) (waits_with layout a [])))
  code_with layout (ahead a) text = after_text text (ahead_code (closed (code_with layout a []) (waits_with layout a [])))
  code_with layout (never a) text = after_text text (never_code (closed (code_with layout a []) (waits_with layout a [])))
  code_with layout (back n) text = after_text text (one (op.go_back n))
  code_with layout (atomic a) text = after_text text (atomic_code (closed (code_with layout a []) (waits_with layout a [])))
  code_with layout (delegate t a) text = after_text text (one (op.delegate has_member fold t))
  code_with layout (tail t a) text = after_text text (tail_code (op.tail has_member fold t) (closed (code_with layout a []) (waits_with layout a [])))
  code_with layout (repeat a lo None greedy) text = after_text text (loop_code lo greedy (closed (code_with layout a []) (waits_with layout a [])))
  code_with layout (repeat a lo (Some hi) greedy) text = after_text text (repeat_code lo hi greedy (closed (code_with layout a []) (waits_with layout a [])))
  code_with layout (backref k casei) text = after_text text (one (op.backref (2 * k) casei))
  code_with layout (exists k) text = after_text text (one (op.exists (2 * k)))
  code_with layout (conditional c a b) text = after_text text
      (conditional_code (closed (code_with layout c []) (waits_with layout c [])) (closed (code_with layout a []) (waits_with layout a [])) (closed (code_with layout b []) (waits_with layout b []))
      (slots_with layout c) (slots_with layout a))
  code_with layout (absent a) text = after_text text (absent_code (closed (code_with layout a []) (waits_with layout a [])))
  code_with layout (called k a) text = call_code (layout k) (code_with layout a) text

  -- the same with every call written out
  unfoldable pub code_of : CorePattern → Text → ℕ → ℕ → List Op
  unfolding code_with
  code_of = code_with written_out

  -- The program of a whole pattern: it tries each start, unless it is anchored, and the slots of group 0 say where it
  -- starts and ends.
  abbrev pub opening : Bool → List Op
  opening anchored = (if anchored then [] else op.split_unanchored ∷ []) ++ (if whole then op.save 0 ∷ [] else [])

  abbrev pub closing : List Op
  closing = (if whole then op.save 1 ∷ [] else []) ++ op.finish ∷ []

  unfoldable pub program_of : Bool → ℕ → CorePattern → List Op
  program_of anchored group_count p =
      opening anchored ++ (closed (code_of p []) (waits p []) (length (opening anchored)) (2 * group_count) ++ closing)
