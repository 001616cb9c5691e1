use Rattle.std.proofs.Common.{◌≡◌, ℕ, refl, sym, ap, ◌∙◌, ◌++◌, [], ◌∷◌, length, length-append, chars, string_bytes, encode_utf8, append-nil, arith, rules}
use Rattle.std.specs.Char.{IsScalar}
use Rattle.std.proofs.lemmas.Str.{chars-append, chars-encodes, IsUtf8-string_bytes}
use Rattle.fancy_regex_compiler.specs.Writing.{with_char, with_whole_literal}
use Rattle.fancy_regex_compiler.proofs.Drafts.{same_draft}
use Rattle.fancy_regex_compiler.proofs.program_builder.ProgramBuilder.push_literal_char.Goals as goal

one_char : (c : ℕ) → IsScalar c → chars (encode_utf8 c) ≡ c ∷ []
one_char c h = ap chars (sym (append-nil (encode_utf8 c))) ∙ chars-encodes (c ∷ []) (rw h refl)

pub invariant_of-self-2-clause-counted : goal.invariant_of-self-2-clause-counted
invariant_of-self-2-clause-counted c =
    let mid = c.flush_if_whole.new.self in
    let text = chars (string_bytes mid.pending_literal) in
    let scalar : IsScalar c.args.c = search rules in
    let long = ap length (ap chars c.in_ok-push.ensures.bytes ∙ chars-append (string_bytes mid.pending_literal) (encode_utf8 c.args.c) (IsUtf8-string_bytes mid.pending_literal)
    ∙ ap (λ l. text ++ l) (one_char c.args.c scalar)) in
    omega (arith, long, length-append text (c.args.c ∷ []), mid.counted)

pub returns-clause-draft : goal.returns-clause-draft
unfolding with_char with_whole_literal
returns-clause-draft c =
    let mid = c.flush_if_whole.new.self in
    let scalar : IsScalar c.args.c = search rules in
    let flushed = c.in_ok-flush_if_whole.ensures.appends.draft in
    same_draft (ap (λ d. d.ops) flushed)
    (ap chars c.in_ok-push.ensures.bytes ∙ chars-append (string_bytes mid.pending_literal) (encode_utf8 c.args.c) (IsUtf8-string_bytes mid.pending_literal)
    ∙ ap (λ l. chars (string_bytes mid.pending_literal) ++ l) (one_char c.args.c scalar)
    ∙ ap (λ d. d.text ++ c.args.c ∷ []) flushed)
