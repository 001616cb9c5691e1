-- The program of a pattern fits into the pattern's room, and is refused for its length only where the cap is below that.
use Rattle.std.proofs.Common.{◌≡◌, ℕ, suc, ◌+◌, ◌*◌, ◌<◌, ◌≤◌, Bool, true, false, cond, List, [], ◌∷◌, ◌++◌, length, Option, Some, None, Result, IfErr, IsErrAnd, refl, sym, ap, ap₂, subst, ◌∙◌, arith, length-append}
use Rattle.std.specs.Prelude.{slice_get}
use Rattle.std.proofs.lemmas.List.{length-set}
use Rattle.std.proofs.lemmas.Result.{IfErr-weaker}
use Rattle.fancy_regex_tree.specs.Tree.{Text, Tree}
use Rattle.fancy_regex_class.specs.Classes.{in_class, folded}
use Rattle.fancy_regex_meaning.specs.Ways.{is_at_call_limit}
use Rattle.fancy_regex_desugar.specs.CorePatterns.{CorePattern, any, literal, class, nothing, read, general_newline, check, continue, keep_out, fail, cat, alt, group, ahead, never, back, atomic, delegate, tail, repeat, backref, exists, conditional, absent, called}
use Rattle.fancy_regex_desugar.specs.ProgramSizes.{room}
use Rattle.fancy_regex_desugar.specs.Unfolded.{Written, look}
use Rattle.fancy_regex_tree.specs.declared.expr.LookAround.{LookAround}
use Rattle.fancy_regex_tree.specs.declared.expr.LookAround.TheVariants.{LookAhead, LookAheadNeg, LookBehind, LookBehindNeg}
use Rattle.fancy_regex_analysis.specs.AnalysisErrors.{is_too_complex}
use Rattle.fancy_regex_info.specs.Infos.{InfoTree}
use Rattle.fancy_regex_info.specs.declared.error.CompileError.{CompileError}
use Rattle.fancy_regex_analysis.proofs.PartErrorLemmas.{gives}
use Rattle.fancy_regex_program.specs.Ops as op
use Rattle.fancy_regex_program.specs.Ops.{Op, Place, op_of}
use Rattle.fancy_regex_program.specs.Code.{Layout, written_out, call_code, waits_at_call, Code, is_whole_literal, still_waits, waits_with, flushed, slots_with, one, after_text, closed, alt_code, group_code, ahead_code, never_code, atomic_code, tail_code, repeat_code, loop_code, conditional_code, absent_code, leaf_op, code_with}
use Rattle.fancy_regex_compiler.specs.Extents.{extent, IsFull}
use Rattle.fancy_regex_compiler.specs.Rooms.{room_at_call, room_with}
use Rattle.fancy_regex_compiler.specs.Known.{front_of, info_written, info_call}
use Rattle.fancy_regex_compiler.specs.Writing.{Draft, draft_of, with_op, closed_draft, added, patched, ended_by, ended, with_pat, Wrote, IsInsn}
use Rattle.fancy_regex_compiler.specs.declared.program_builder.ProgramBuilder.{ProgramBuilder}
use Rattle.fancy_regex_compiler.specs.declared.emitter.Emitter.{Emitter}
use Rattle.fancy_regex_program.specs.declared.insn.Insn.{Insn}
use Rattle.fancy_regex_compiler.proofs.RowLemmas.{call_opens}

-- what waits is one operation at most
pub long_flushed : (t : Text) → length (flushed t) ≤ 1
long_flushed [] = omega arith
long_flushed (c ∷ cs) = omega arith

pub long_waiting : (is_whole : Bool) (t : Text) → length (cond is_whole (flushed t) []) ≤ 1
long_waiting true t = long_flushed t
long_waiting false t = omega arith

-- operations after what waits
after_text_long : (text : Text) (code : Code) (pc slot most : ℕ) → length (code (pc + length (flushed text)) slot) ≤ most →
    length (after_text text code pc slot) + 0 ≤ most + length (flushed text)
after_text_long text code pc slot most h = omega (arith, h, length-append (flushed text) (code (pc + length (flushed text)) slot))

alone_long : (text : Text) (o : Op) (pc slot most : ℕ) → 1 ≤ most → length (after_text text (one o) pc slot) + 0 ≤ most + length (flushed text)
alone_long text o pc slot most h = after_text_long text (one o) pc slot most (omega (arith, h))

abbrev keep_out_code : Bool → Code
keep_out_code w pc slot = cond w (op.save 0 ∷ []) []

keep_out_long : (w : Bool) (pc slot : ℕ) → length (keep_out_code w pc slot) ≤ 12
keep_out_long true pc slot = omega arith
keep_out_long false pc slot = omega arith

-- each construct, by the length of its parts
group_long : (k : ℕ) (body : Code) (pc slot n : ℕ) → length (body (pc + 1) (slot + 1)) ≤ n → length (group_code k body pc slot) ≤ 12 + n
group_long k body pc slot n h =
    omega (arith, h, length-append (body (pc + 1) (slot + 1)) (op.copy slot (2 * k) ∷ op.save (2 * k + 1) ∷ []))

ahead_long : (body : Code) (pc slot n : ℕ) → length (body (pc + 1) (slot + 1)) ≤ n → length (ahead_code body pc slot) ≤ 12 + n
ahead_long body pc slot n h = omega (arith, h, length-append (body (pc + 1) (slot + 1)) (op.restore slot ∷ []))

never_long : (body : Code) (pc slot n : ℕ) → length (body (pc + 2) (slot + 1)) ≤ n → length (never_code body pc slot) ≤ 12 + n
never_long body pc slot n h = omega (arith, h, length-append (body (pc + 2) (slot + 1)) (op.fail_negative slot ∷ []))

atomic_long : (body : Code) (pc slot n : ℕ) → length (body (pc + 1) (slot + 1)) ≤ n → length (atomic_code body pc slot) ≤ 12 + n
atomic_long body pc slot n h = omega (arith, h, length-append (body (pc + 1) (slot + 1)) (op.end_atomic slot ∷ []))

tail_long : (begin : ℕ → Op) (body : Code) (pc slot n : ℕ) → length (body (pc + 1) slot) ≤ n → length (tail_code begin body pc slot) ≤ 1 + n
tail_long begin body pc slot n h = omega (arith, h)

repeat_long : (lo hi : ℕ) (greedy : Bool) (body : Code) (pc slot n : ℕ) → length (body (pc + 2) (slot + 1)) ≤ n →
    length (repeat_code lo hi greedy body pc slot) ≤ 12 + n
repeat_long lo hi greedy body pc slot n h = omega (arith, h, length-append (body (pc + 2) (slot + 1)) (op.jump (pc + 1) ∷ []))

loop_long : (lo : ℕ) (greedy : Bool) (body : Code) (pc slot n : ℕ) → length (body (pc + 2) (slot + 2)) ≤ n →
    length (loop_code lo greedy body pc slot) ≤ 12 + n
loop_long lo greedy body pc slot n h = omega (arith, h, length-append (body (pc + 2) (slot + 2)) (op.jump (pc + 1) ∷ []))

absent_long : (body : Code) (pc slot n : ℕ) → length (body (pc + 2) (slot + 2)) ≤ n → length (absent_code body pc slot) ≤ 12 + n
absent_long body pc slot n h =
    omega (arith, h, length-append (body (pc + 2) (slot + 2)) (op.absent_limit (slot + 1) ∷ op.absent_end slot (slot + 1) ∷ []))

alt_long : (a b : Code) (slots pc slot m n : ℕ) → ((k : ℕ) → length (a k slot) ≤ m) → ((k s : ℕ) → length (b k s) ≤ n) →
    length (alt_code a b slots pc slot) ≤ 2 + (m + n)
alt_long a b slots pc slot m n ha hb =
    let first = a (pc + 1) slot in
    let k = pc + 2 + length first in
    let second = b k (slot + slots) in
    omega (arith, ha (pc + 1), hb k (slot + slots), length-append first (op.jump (k + length second) ∷ second))

conditional_long : (c a b : Code) (c_slots a_slots pc slot l m n : ℕ) → ((k s : ℕ) → length (c k s) ≤ l) → ((k s : ℕ) → length (a k s) ≤ m) →
    ((k s : ℕ) → length (b k s) ≤ n) → length (conditional_code c a b c_slots a_slots pc slot) ≤ 12 + (l + (m + n))
conditional_long c a b c_slots a_slots pc slot l m n hc ha hb =
    let test = c (pc + 2) (slot + 1) in
    let yes = a (pc + 3 + length test) (slot + 1 + c_slots) in
    let k = pc + 4 + length test + length yes in
    let no = b k (slot + 1 + c_slots + a_slots) in
    omega (
      arith,
      hc (pc + 2) (slot + 1),
      ha (pc + 3 + length test) (slot + 1 + c_slots),
      hb k (slot + 1 + c_slots + a_slots),
      length-append test (op.end_atomic slot ∷ (yes ++ op.jump (k + length no) ∷ no)),
      length-append yes (op.jump (k + length no) ∷ no),
    )

-- a call that stays, or what stands for it
call_fits : (o : Option Place) (code : Text → Code) (waiting text : Text) (pc slot most : ℕ) →
    length (code text pc slot) + length (flushed waiting) ≤ most + length (flushed text) →
    length (call_code o code text pc slot) + length (flushed (waits_at_call o waiting)) ≤ room_at_call o most + length (flushed text)
call_fits None code waiting text pc slot most h = h
call_fits (Some c) code waiting text pc slot most h = alone_long text (op.call c) pc slot 1 (omega arith)

-- where no call stays it is the room of the pattern
pub room_written_out : (p : CorePattern) → room_with written_out p ≡ room p
unfolding room_with room
room_written_out (cat a b) = ap₂ (λ m n. m + n) (room_written_out a) (room_written_out b)
room_written_out (alt a b) = ap₂ (λ m n. 2 + (m + n)) (room_written_out a) (room_written_out b)
room_written_out (group k a) = ap (λ n. 12 + n) (room_written_out a)
room_written_out (ahead a) = ap (λ n. 12 + n) (room_written_out a)
room_written_out (never a) = ap (λ n. 12 + n) (room_written_out a)
room_written_out (atomic a) = ap (λ n. 12 + n) (room_written_out a)
room_written_out (tail t a) = ap (λ n. 1 + n) (room_written_out a)
room_written_out (repeat a lo hi greedy) = ap (λ n. 12 + n) (room_written_out a)
room_written_out (conditional c a b) =
    ap (λ n. 12 + n) (ap₂ (λ m n. m + n) (room_written_out c) (ap₂ (λ m n. m + n) (room_written_out a) (room_written_out b)))
room_written_out (absent a) = ap (λ n. 12 + n) (room_written_out a)
room_written_out (called k a) = room_written_out a
room_written_out _ = refl

module _ (layout : Layout) (u w : Bool) where
  abbrev C : CorePattern → Text → ℕ → ℕ → List Op
  C = code_with (in_class u) (folded u) w layout

  -- a part with what waits after it
  abbrev shut : CorePattern → Code
  shut p = closed (C p []) (waits_with layout p [])

  shut_long : (p : CorePattern) → ((pc slot : ℕ) → length (C p [] pc slot) + length (flushed (waits_with layout p [])) ≤ room_with layout p + 0) →
      (pc slot : ℕ) → length (shut p pc slot) ≤ room_with layout p
  shut_long p h pc slot = omega (arith, h pc slot, length-append (C p [] pc slot) (flushed (waits_with layout p [])))

  -- the program with what waits after it, against the room with what waited before it
  pub code_fits : (p : CorePattern) (text : Text) (pc slot : ℕ) →
      length (C p text pc slot) + length (flushed (waits_with layout p text)) ≤ room_with layout p + length (flushed text)
  unfolding code_with room_with
  code_fits nothing text pc slot = omega arith
  code_fits (read (literal c false)) text pc slot =
      omega (arith, long_waiting (is_whole_literal text) text, long_flushed (still_waits text ++ c ∷ []))
  code_fits (read (literal c true)) text pc slot = alone_long text (leaf_op (in_class u) (folded u) w (literal c true)) pc slot 12 (omega arith)
  code_fits (read (any newline crlf)) text pc slot = alone_long text (leaf_op (in_class u) (folded u) w (any newline crlf)) pc slot 12 (omega arith)
  code_fits (read (class name casei)) text pc slot = alone_long text (leaf_op (in_class u) (folded u) w (class name casei)) pc slot 12 (omega arith)
  code_fits (general_newline unicode) text pc slot = alone_long text (op.general_newline unicode) pc slot 12 (omega arith)
  code_fits (check a) text pc slot = alone_long text (op.assertion a) pc slot 12 (omega arith)
  code_fits continue text pc slot = alone_long text op.continue pc slot 12 (omega arith)
  code_fits keep_out text pc slot = after_text_long text (keep_out_code w) pc slot 12 (keep_out_long w (pc + length (flushed text)) slot)
  code_fits fail text pc slot = alone_long text op.fail pc slot 12 (omega arith)
  code_fits (back n) text pc slot = alone_long text (op.go_back n) pc slot 1 (omega arith)
  code_fits (backref k casei) text pc slot = alone_long text (op.backref (2 * k) casei) pc slot 12 (omega arith)
  code_fits (exists k) text pc slot = alone_long text (op.exists (2 * k)) pc slot 12 (omega arith)
  code_fits (cat a b) text pc slot =
      let first = C a text pc slot in
      let n = pc + length first in
      let second = C b (waits_with layout a text) n (slot + slots_with layout a) in
      omega (arith, length-append first second, code_fits a text pc slot, code_fits b (waits_with layout a text) n (slot + slots_with layout a))
  code_fits (alt a b) text pc slot =
      after_text_long text (alt_code (shut a) (shut b) (slots_with layout a)) pc slot (2 + (room_with layout a + room_with layout b))
      (alt_long (shut a) (shut b) (slots_with layout a) (pc + length (flushed text)) slot (room_with layout a) (room_with layout b)
      (λ k. shut_long a (code_fits a []) k slot) (shut_long b (code_fits b [])))
  code_fits (group k a) text pc slot =
      let n = pc + length (flushed text) in
      after_text_long text (group_code k (shut a)) pc slot (12 + room_with layout a)
      (group_long k (shut a) n slot (room_with layout a) (shut_long a (code_fits a []) (n + 1) (slot + 1)))
  code_fits (ahead a) text pc slot =
      let n = pc + length (flushed text) in
      after_text_long text (ahead_code (shut a)) pc slot (12 + room_with layout a)
      (ahead_long (shut a) n slot (room_with layout a) (shut_long a (code_fits a []) (n + 1) (slot + 1)))
  code_fits (never a) text pc slot =
      let n = pc + length (flushed text) in
      after_text_long text (never_code (shut a)) pc slot (12 + room_with layout a)
      (never_long (shut a) n slot (room_with layout a) (shut_long a (code_fits a []) (n + 2) (slot + 1)))
  code_fits (atomic a) text pc slot =
      let n = pc + length (flushed text) in
      after_text_long text (atomic_code (shut a)) pc slot (12 + room_with layout a)
      (atomic_long (shut a) n slot (room_with layout a) (shut_long a (code_fits a []) (n + 1) (slot + 1)))
  code_fits (delegate t a) text pc slot = alone_long text (op.delegate (in_class u) (folded u) t) pc slot 12 (omega arith)
  code_fits (tail t a) text pc slot =
      let n = pc + length (flushed text) in
      after_text_long text (tail_code (op.tail (in_class u) (folded u) t) (shut a)) pc slot (1 + room_with layout a)
      (tail_long (op.tail (in_class u) (folded u) t) (shut a) n slot (room_with layout a) (shut_long a (code_fits a []) (n + 1) slot))
  code_fits (repeat a lo None greedy) text pc slot =
      let n = pc + length (flushed text) in
      after_text_long text (loop_code lo greedy (shut a)) pc slot (12 + room_with layout a)
      (loop_long lo greedy (shut a) n slot (room_with layout a) (shut_long a (code_fits a []) (n + 2) (slot + 2)))
  code_fits (repeat a lo (Some hi) greedy) text pc slot =
      let n = pc + length (flushed text) in
      after_text_long text (repeat_code lo hi greedy (shut a)) pc slot (12 + room_with layout a)
      (repeat_long lo hi greedy (shut a) n slot (room_with layout a) (shut_long a (code_fits a []) (n + 2) (slot + 1)))
  code_fits (conditional c a b) text pc slot =
      after_text_long text (conditional_code (shut c) (shut a) (shut b) (slots_with layout c) (slots_with layout a)) pc slot (12 + (room_with layout c + (room_with layout a + room_with layout b)))
      (conditional_long (shut c) (shut a) (shut b) (slots_with layout c) (slots_with layout a) (pc + length (flushed text)) slot (room_with layout c) (room_with layout a) (room_with layout b)
      (shut_long c (code_fits c [])) (shut_long a (code_fits a [])) (shut_long b (code_fits b [])))
  code_fits (absent a) text pc slot =
      let n = pc + length (flushed text) in
      after_text_long text (absent_code (shut a)) pc slot (12 + room_with layout a)
      (absent_long (shut a) n slot (room_with layout a) (shut_long a (code_fits a []) (n + 2) (slot + 2)))
  code_fits (called k a) text pc slot =
      call_fits (layout k) (C a) (waits_with layout a text) text pc slot (room_with layout a) (code_fits a text pc slot)

pub extent_op : (o : Op) (d : Draft) → extent (with_op o d) ≡ extent d + 1
unfolding extent with_op
extent_op o d = omega (arith, length-append d.ops (o ∷ []))

pub extent_closed : (d : Draft) → extent (closed_draft d) ≡ extent d
unfolding extent closed_draft
extent_closed d = omega (arith, length-append d.ops (flushed d.text))

pub extent_added : (o : Op) (d : Draft) → extent (added o d) ≡ extent d + 1
extent_added o d = extent_op o (closed_draft d) ∙ ap (λ n. n + 1) (extent_closed d)

pub extent_patched : (at : ℕ) (o : Op) (d : Draft) → extent (patched at o d) ≡ extent d
unfolding extent patched
extent_patched at o d = ap (λ n. n + length (flushed d.text)) (length-set d.ops at o)

extent_ended_by : (at end : ℕ) (o : Option Op) (d : Draft) → extent (ended_by at end o d) ≡ extent d
extent_ended_by at end None d = refl
extent_ended_by at end (Some o) d = extent_patched at _ d

pub extent_ended : (at end : ℕ) (d : Draft) → extent (ended at end d) ≡ extent d
unfolding ended
extent_ended at end d = extent_ended_by at end (slice_get d.ops at) d

pub extent_bare : (d : Draft) → length d.ops ≤ extent d
unfolding extent
extent_bare d = omega arith

pub extent_nothing : (d : Draft) → d ≡ record { ops = []; text = [] } → extent d ≡ 0
unfolding extent
extent_nothing d none = ap (λ (e : Draft). length e.ops + length (flushed e.text)) none

pub extent_pat : (layout : Layout) (u w : Bool) (p : CorePattern) (slot : ℕ) (d : Draft) → extent (with_pat layout u w p slot d) ≤ extent d + room_with layout p
unfolding extent with_pat
extent_pat layout u w p slot d =
    let code = code_with (in_class u) (folded u) w layout p d.text (length d.ops) slot in
    omega (arith, code_fits layout u w p d.text (length d.ops) slot, length-append d.ops code)

-- what was written fits into the pattern's room
pub took : {layout : Layout} {u w : Bool} {old new : Emitter} {slot after : ℕ} {p : CorePattern} → Wrote layout u w old new slot after p →
    extent (draft_of new.body) ≤ extent (draft_of old.body) + room_with layout p
took {layout = layout} {u = u} {w = w} {old = old} {slot = slot} {p = p} h =
    subst (λ d. extent d ≤ extent (draft_of old.body) + room_with layout p) (sym h.draft) (extent_pat layout u w p slot (draft_of old.body))

-- the room of each construct
pub room_keep : (layout : Layout) → room_with layout keep_out ≡ 12
unfolding room_with
room_keep layout = refl

pub room_fail : (layout : Layout) → room_with layout fail ≡ 12
unfolding room_with
room_fail layout = refl

pub room_alt : (layout : Layout) (a b : CorePattern) → room_with layout (alt a b) ≡ 2 + (room_with layout a + room_with layout b)
unfolding room_with
room_alt layout a b = refl

pub room_behind : (layout : Layout) (n : ℕ) (p : CorePattern) → room_with layout (cat (back n) p) ≡ 1 + room_with layout p
unfolding room_with
room_behind layout n p = refl

pub room_group : (layout : Layout) (k : ℕ) (p : CorePattern) → room_with layout (group k p) ≡ 12 + room_with layout p
unfolding room_with
room_group layout k p = refl

pub room_ahead : (layout : Layout) (p : CorePattern) → room_with layout (ahead p) ≡ 12 + room_with layout p
unfolding room_with
room_ahead layout p = refl

pub room_never : (layout : Layout) (p : CorePattern) → room_with layout (never p) ≡ 12 + room_with layout p
unfolding room_with
room_never layout p = refl

pub room_delegate : (layout : Layout) (t : Tree) (p : CorePattern) → room_with layout (delegate t p) ≡ 12
unfolding room_with
room_delegate layout t p = refl

pub room_tail : (layout : Layout) (t : Tree) (p : CorePattern) → room_with layout (tail t p) ≡ 1 + room_with layout p
unfolding room_with
room_tail layout t p = refl

pub room_atomic : (layout : Layout) (p : CorePattern) → room_with layout (atomic p) ≡ 12 + room_with layout p
unfolding room_with
room_atomic layout p = refl

pub room_repeat : (layout : Layout) (p : CorePattern) (lo : ℕ) (hi : Option ℕ) (greedy : Bool) → room_with layout (repeat p lo hi greedy) ≡ 12 + room_with layout p
unfolding room_with
room_repeat layout p lo hi greedy = refl

pub room_look : (layout : Layout) (t : Tree) (how : LookAround) (u : Written) → 12 ≤ room_with layout (look t how u)
unfolding room_with
room_look layout t LookAhead u = omega arith
room_look layout t LookAheadNeg u = omega arith
room_look layout t LookBehind u = omega arith
room_look layout t LookBehindNeg u = omega arith

pub room_conditional : (layout : Layout) (c a b : CorePattern) → room_with layout (conditional c a b) ≡ 12 + (room_with layout c + (room_with layout a + room_with layout b))
unfolding room_with
room_conditional layout c a b = refl

pub room_absent : (layout : Layout) (p : CorePattern) → room_with layout (absent p) ≡ 12 + room_with layout p
unfolding room_with
room_absent layout p = refl

-- a call that is written out, and one that stays
pub room_called : (layout : Layout) (k : ℕ) (p : CorePattern) → layout k ≡ None → room_with layout (called k p) ≡ room_with layout p
unfolding room_with
room_called layout k p none = ap (λ o. room_at_call o (room_with layout p)) none

pub room_stays : (layout : Layout) (k : ℕ) (c : Place) (p : CorePattern) → layout k ≡ Some c → room_with layout (called k p) ≡ 1
unfolding room_with
room_stays layout k c p some = ap (λ o. room_at_call o (room_with layout p)) some

-- a node without children that is an instruction
pub room_leaf : (layout : Layout) (u : Bool) (insn : Insn) (t : Tree) → IsInsn u insn t → (call : ℕ → CorePattern) (n : ℕ) (us : List Written) → 1 ≤ room_with layout (front_of call n t us)
room_leaf layout u insn t is call n us =
    let d : Draft = record { ops = []; text = [] } in
    let p = front_of call n t us in
    omega (arith, extent_pat layout u false p 0 d, ap extent (is.draft layout false call n 0 us d), extent_added (op_of insn) d)

-- a call that opens
pub call_is : (groups : List InfoTree) (calls m : ℕ) (opened pushed : List ℕ) (k : ℕ) (x : InfoTree) → calls ≡ suc m → slice_get groups k ≡ Some x →
    is_at_call_limit opened k ≡ false → pushed ≡ opened ++ k ∷ [] → info_call groups calls opened k ≡ called k (info_written (info_call groups m pushed) x).front
call_is groups calls m opened pushed k x more at free is =
    ap (λ n. info_call groups n opened k) more ∙ call_opens groups m opened k x free at
    ∙ ap (λ l. called k (info_written (info_call groups m l) x).front) (sym is)

-- An error that is handed on: what was known of its cap tells what is asked.
pub late : {T P : Type 0} (r : Result T CompileError) (e : CompileError) (low high : ℕ) → IsErrAnd r (λ f. f ≡ e) → (is_too_complex e ≡ true → P) →
    (P → low < high) → IfErr r (λ f. is_too_complex f ≡ true → low < high)
late r e low high is h step = gives r e (λ f. is_too_complex f ≡ true → low < high) is (λ too. step (h too))

-- the same answer, where the pattern has another name
pub full_same : {T : Type 0} (layout : Layout) (r : Result T CompileError) (old : ProgramBuilder) {p q : CorePattern} → q ≡ p → IfErr r (IsFull old (room_with layout p)) →
    IfErr r (IsFull old (room_with layout q))
full_same layout r old is h = subst (λ x. IfErr r (IsFull old (room_with layout x))) (sym is) h

-- from as far back
pub full_behind : {T : Type 0} (layout : Layout) (r : Result T CompileError) (old mid : ProgramBuilder) (n : ℕ) {p q : CorePattern} → q ≡ cat (back n) p → mid.cap ≡ old.cap →
    extent (draft_of mid) ≡ extent (draft_of old) + 1 → IfErr r (IsFull mid (room_with layout p)) → IfErr r (IsFull old (room_with layout q))
full_behind layout r old mid n {p = p} {q = q} is cap long h =
    IfErr-weaker r (IsFull mid (room_with layout p)) (IsFull old (room_with layout q))
    (λ e k too. let lt = k too in omega (arith, lt, cap, long, ap (room_with layout) is, room_behind layout n p)) h

-- text that waits takes one instruction
pub flushed_full : (ops : List Op) (t s : Text) → s ≡ [] → flushed t ≡ op.lit t ∷ [] →
    extent (record { ops = ops; text = s }) + 1 ≡ extent (record { ops = ops; text = t }) + 0
unfolding extent
flushed_full ops t s none some = omega (arith, ap (λ x. length (flushed x)) none, ap length some)
