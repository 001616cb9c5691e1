use Rattle.std.proofs.Common.{arith, refl, sym, add-zero, ap, ◌∙◌, [], ◌∷◌, ◌++◌, append-nil, chars, string_bytes, string_len, length, ◌≡◌, rules}
use Rattle.std.proofs.lemmas.Str.{IsUtf8-string_bytes, chars-nil}
use Rattle.fancy_regex_program.specs.Ops.{ops_of}
use Rattle.fancy_regex_program.specs.Ops as op
use Rattle.fancy_regex_program.specs.Code.{flushed}
use Rattle.fancy_regex_compiler.specs.Writing.{closed_draft, with_op}
use Rattle.fancy_regex_compiler.proofs.Drafts.{same_draft}
use Rattle.fancy_regex_compiler.proofs.TextLemmas.{no_text, some_text}
use Rattle.fancy_regex_compiler.specs.Extents.{extent}
use Rattle.fancy_regex_compiler.specs.Writing.{draft_of}
use Rattle.fancy_regex_compiler.proofs.OutcomeLemmas.{appends_error}
use Rattle.fancy_regex_compiler.proofs.RoomLemmas.{extent_closed, flushed_full}
use Rattle.fancy_regex_compiler.proofs.program_builder.ProgramBuilder.flush.Goals as goal

pub invariant_of-self-clause-counted : goal.invariant_of-self-clause-counted
invariant_of-self-clause-counted c =
    sym (ap length (ap (λ s. chars (string_bytes s)) c.replace-text.ensures.after ∙ ap chars c.new.ensures.bytes ∙ chars-nil))

pub returns-then-is_empty : goal.returns-then-is_empty
unfolding closed_draft
returns-then-is_empty c =
    let b = c.args.self.now in
    let long : string_len b.pending_literal ≡ length (string_bytes b.pending_literal) = search rules in
    let none = no_text (string_bytes b.pending_literal) (string_len b.pending_literal) long (sym c.if-is_empty.ensures) in
    record {
      draft = same_draft (sym (append-nil (ops_of b.insns.items)) ∙ ap (λ t. ops_of b.insns.items ++ flushed t) (sym none)) none;
      cap = refl;
      long = sym (add-zero (extent (draft_of b)));
      full = tt;
      refused = tt;
    }

pub returns : goal.returns
unfolding closed_draft with_op
returns c =
    let b = c.args.self.now in
    let long : string_len b.pending_literal ≡ length (string_bytes b.pending_literal) = search rules in
    let bytes = string_bytes b.pending_literal in
    let pushed = c.push_insn.new.self in
    let drawn : draft_of pushed ≡ closed_draft (draft_of b) =
    c.in_ok-push_insn.ensures.draft
    ∙ same_draft
    (ap (λ bytes. ops_of b.insns.items ++ op.lit (chars bytes) ∷ []) (c.in_ok-literal.ensures ∙ ap string_bytes c.replace-text.ensures.value)
    ∙ ap (λ l. ops_of b.insns.items ++ l) (sym (some_text bytes (string_len b.pending_literal) long (IsUtf8-string_bytes b.pending_literal) (sym c.if-is_empty.ensures))))
    (ap (λ s. chars (string_bytes s)) c.replace-text.ensures.after ∙ ap chars c.new.ensures.bytes ∙ chars-nil) in
    record {
      draft = drawn;
      cap = c.in_ok-push_insn.ensures.cap;
      long = ap extent drawn ∙ extent_closed (draft_of b) ∙ sym (add-zero (extent (draft_of b)));
      full = tt;
      refused = tt;
    }

pub returns-in_err-push_insn : goal.returns-in_err-push_insn
returns-in_err-push_insn c =
    let b = c.args.self.now in
    let long : string_len b.pending_literal ≡ length (string_bytes b.pending_literal) = search rules in
    let some = some_text (string_bytes b.pending_literal) (string_len b.pending_literal) long (IsUtf8-string_bytes b.pending_literal) (sym c.if-is_empty.ensures) in
    let none = ap (λ s. chars (string_bytes s)) c.replace-text.ensures.after ∙ ap chars c.new.ensures.bytes ∙ chars-nil in
    let full = flushed_full (ops_of b.insns.items) (chars (string_bytes b.pending_literal)) _ none some in
    let e = c.in_err-push_insn in
    appends_error c.from_residual-in_err-push_insn.result e.field-0.0 c.from_residual-in_err-push_insn.ensures.1 e.ensures.cap
    (λ too. let lt = e.ensures.full too in omega (arith, lt, full)) e.ensures.refused
