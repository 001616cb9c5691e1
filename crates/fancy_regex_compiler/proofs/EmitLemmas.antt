-- What the functions of the emitter have written.
use Rattle.std.proofs.Common.{◌≡◌, ℕ, ◌+◌, ◌-◌, ◌*◌, Bool, length, drop, Some, None, sym}
use Rattle.fancy_regex_desugar.specs.CorePatterns.{CorePattern, group, ahead, never, atomic, repeat, conditional, absent}
use Rattle.fancy_regex_program.specs.Ops as op
use Rattle.fancy_regex_program.specs.Code.{Layout, slots_with, is_uncounted, loop_entry, loop_head}
use Rattle.fancy_regex_compiler.specs.Writing.{Draft, with_op, closed_draft, added, patched, with_pat}
use Rattle.fancy_regex_compiler.proofs.Drafts.{pat_group, pat_ahead, pat_atomic, pat_never, pat_counted, pat_loop, pat_absent}
use Rattle.fancy_regex_compiler.proofs.Branches.{pat_conditional}

module _ (layout : Layout) (u w : Bool) where
  abbrev P : CorePattern → ℕ → Draft → Draft
  P = with_pat layout u w

  -- Each construct, by the drafts between its parts.
  pub drew_group : (k : ℕ) (a : CorePattern) (slot inside start end : ℕ) (d0 d1 d2 d3 d4 : Draft) → inside ≡ slot + 1 → start ≡ 2 * k → end ≡ start + 1 →
      d1 ≡ added (op.save slot) d0 → d2 ≡ closed_draft (P a inside d1) → d3 ≡ with_op (op.copy slot start) d2 → d4 ≡ with_op (op.save end) d3 →
      d4 ≡ P (group k a) slot d0
  drew_group k a slot inside start end d0 d1 d2 d3 d4 ei es ee e1 e2 e3 e4 =
      rw (e4, e3, e2, e1, ee, es, ei) (sym (pat_group layout u w k a slot d0))

  pub drew_ahead : (a : CorePattern) (slot inside : ℕ) (d0 d1 d2 d3 : Draft) → inside ≡ slot + 1 →
      d1 ≡ added (op.save slot) d0 → d2 ≡ closed_draft (P a inside d1) → d3 ≡ with_op (op.restore slot) d2 → d3 ≡ P (ahead a) slot d0
  drew_ahead a slot inside d0 d1 d2 d3 ei e1 e2 e3 = rw (e3, e2, e1, ei) (sym (pat_ahead layout u w a slot d0))

  pub drew_atomic : (a : CorePattern) (slot inside : ℕ) (d0 d1 d2 d3 : Draft) → inside ≡ slot + 1 →
      d1 ≡ added (op.begin_atomic slot) d0 → d2 ≡ closed_draft (P a inside d1) → d3 ≡ with_op (op.end_atomic slot) d2 → d3 ≡ P (atomic a) slot d0
  drew_atomic a slot inside d0 d1 d2 d3 ei e1 e2 e3 = rw (e3, e2, e1, ei) (sym (pat_atomic layout u w a slot d0))

  pub drew_never : (a : CorePattern) (slot inside at first second : ℕ) (d0 d1 d2 d3 d4 d5 : Draft) → inside ≡ slot + 1 →
      d1 ≡ added (op.begin_atomic slot) d0 → at ≡ length d1.ops → d2 ≡ with_op (op.split 0 0) d1 → first ≡ length d2.ops →
      d3 ≡ closed_draft (P a inside d2) → d4 ≡ with_op (op.fail_negative slot) d3 → second ≡ length d4.ops →
      d5 ≡ patched at (op.split first second) d4 → d5 ≡ P (never a) slot d0
  drew_never a slot inside at first second d0 d1 d2 d3 d4 d5 ei e1 ea e2 ef e3 e4 es e5 =
      rw (e5, es, e4, e3, ef, e2, ea, e1, ei) (sym (pat_never layout u w a slot d0))

  pub drew_counted : (a : CorePattern) (lo hi : ℕ) (greedy : Bool) (slot inside at next : ℕ) (d0 d1 d2 d3 d4 d5 : Draft) → inside ≡ slot + 1 →
      d1 ≡ added (op.begin_repeat slot) d0 → at ≡ length d1.ops → d2 ≡ with_op op.fail d1 →
      d3 ≡ closed_draft (P a inside d2) → d4 ≡ with_op (op.jump at) d3 → next ≡ length d4.ops →
      d5 ≡ patched at (op.repeat greedy lo hi next slot) d4 → d5 ≡ P (repeat a lo (Some hi) greedy) slot d0
  drew_counted a lo hi greedy slot inside at next d0 d1 d2 d3 d4 d5 ei e1 ea e2 e3 e4 es e5 =
      rw (e5, es, e4, e3, e2, ea, e1, ei) (sym (pat_counted layout u w a lo hi greedy slot d0))

  pub drew_loop : (a : CorePattern) (lo : ℕ) (greedy : Bool) (slot inside last at next : ℕ) (d0 d1 d2 d3 d4 d5 : Draft) → last ≡ slot + 1 → inside ≡ slot + 2 →
      d1 ≡ added op.fail d0 → at ≡ length d1.ops → d2 ≡ with_op op.fail d1 →
      d3 ≡ closed_draft (P a inside d2) → d4 ≡ with_op (op.jump at) d3 → next ≡ length d4.ops →
      d5 ≡ (let uncounted = is_uncounted lo (at + 1) (drop (at + 1) d3.ops) in
      patched at (loop_head uncounted lo greedy (at + 1) next slot last) (patched (at - 1) (loop_entry uncounted lo at slot) d4)) → d5 ≡ P (repeat a lo None greedy) slot d0
  drew_loop a lo greedy slot inside last at next d0 d1 d2 d3 d4 d5 el ei e1 ea e2 e3 e4 es e5 =
      rw (e5, es, e4, e3, e2, ea, e1, ei, el) (sym (pat_loop layout u w a lo greedy slot d0))

  pub drew_absent : (a : CorePattern) (slot inside limit at end : ℕ) (d0 d1 d2 d3 d4 d5 d6 : Draft) → limit ≡ slot + 1 → inside ≡ slot + 2 →
      d1 ≡ added (op.absent_begin slot limit) d0 → at ≡ length d1.ops → d2 ≡ with_op op.fail d1 →
      d3 ≡ closed_draft (P a inside d2) → d4 ≡ with_op (op.absent_limit limit) d3 → end ≡ length d4.ops →
      d5 ≡ with_op (op.absent_end slot limit) d4 →
      d6 ≡ patched at (op.absent_scan end limit) d5 → d6 ≡ P (absent a) slot d0
  drew_absent a slot inside limit at end d0 d1 d2 d3 d4 d5 d6 el ei e1 ea e2 e3 e4 ee e5 e6 =
      rw (e6, e5, ee, e4, e3, e2, ea, e1, ei, el) (sym (pat_absent layout u w a slot d0))

  pub drew_conditional : (c a b : CorePattern) (slot inside after_c after_a at first there second end : ℕ) (d0 d1 d2 d3 d4 d5 d6 d7 d8 d9 : Draft) →
      inside ≡ slot + 1 → d1 ≡ added (op.begin_atomic slot) d0 → at ≡ length d1.ops → d2 ≡ with_op (op.split 0 0) d1 → first ≡ length d2.ops →
      d3 ≡ closed_draft (P c inside d2) → after_c ≡ inside + slots_with layout c → d4 ≡ with_op (op.end_atomic slot) d3 →
      d5 ≡ closed_draft (P a after_c d4) → after_a ≡ after_c + slots_with layout a → there ≡ length d5.ops → d6 ≡ with_op (op.jump 0) d5 → second ≡ length d6.ops →
      d7 ≡ closed_draft (P b after_a d6) → end ≡ length d7.ops →
      d8 ≡ patched at (op.split first second) d7 → d9 ≡ patched there (op.jump end) d8 → d9 ≡ P (conditional c a b) slot d0
  drew_conditional c a b slot inside after_c after_a at first there second end d0 d1 d2 d3 d4 d5 d6 d7 d8 d9 ei e1 ea e2 ef e3 ec e4 e5 eb et e6 es e7 ee e8 e9 =
      rw (e9, e8, ee, e7, es, e6, et, e5, eb, e4, ec, e3, ef, e2, ea, e1, ei) (sym (pat_conditional layout u w c a b slot d0))
