use Rattle.std.proofs.Common.{◌≡◌, ℕ, ◌<◌, ◌≤◌, true, false, length, refl, sym, add-zero, ap, ◌∙◌, ◌++◌, [], cond, chars, string_bytes, append-nil, arith}
use Rattle.std.proofs.lemmas.Bool.Decides.{nat_tests}
use Rattle.fancy_regex_tree.specs.Tree.{Text}
use Rattle.fancy_regex_program.specs.Ops.{ops_of}
use Rattle.fancy_regex_program.specs.Code.{is_whole_literal, flushed}
use Rattle.fancy_regex_compiler.specs.Extents.{extent}
use Rattle.fancy_regex_compiler.specs.Writing.{draft_of, closed_draft, with_whole_literal}
use Rattle.fancy_regex_compiler.proofs.Drafts.{same_draft}
use Rattle.fancy_regex_compiler.proofs.OutcomeLemmas.{appends_error}
use Rattle.fancy_regex_compiler.proofs.program_builder.ProgramBuilder.flush_if_whole.Goals as goal

not_whole : (text : Text) (n : ℕ) → n ≡ length text → n < 1000 → is_whole_literal text ≡ false
unfolding is_whole_literal
not_whole text n long few = let under : length text < 1000 = omega (arith, long, few) in grind (arith, nat_tests, under)

is_whole : (text : Text) (n : ℕ) → n ≡ length text → 1000 ≤ n → is_whole_literal text ≡ true
unfolding is_whole_literal
is_whole text n long many = let over : 1000 ≤ length text = omega (arith, long, many) in grind (arith, nat_tests, over)

pub returns-then-self-lt-MOST_CHARACTERS-clause-appends : goal.returns-then-self-lt-MOST_CHARACTERS-clause-appends
unfolding with_whole_literal
returns-then-self-lt-MOST_CHARACTERS-clause-appends c =
    let b = c.args.self.now in
    let text = chars (string_bytes b.pending_literal) in
    let ops = ops_of b.insns.items in
    let is = not_whole text b.pending_characters b.counted (omega arith) in
    record {
      draft = same_draft (sym (append-nil ops) ∙ ap (λ w. ops ++ cond w (flushed text) []) (sym is)) (ap (λ w. cond w [] text) (sym is));
      cap = refl;
      long = sym (add-zero (extent (draft_of b)));
      full = tt;
      refused = tt;
    }

pub returns-clause-appends : goal.returns-clause-appends
unfolding with_whole_literal closed_draft
returns-clause-appends c =
    let b = c.args.self.now in
    let text = chars (string_bytes b.pending_literal) in
    let ops = ops_of b.insns.items in
    let is = is_whole text b.pending_characters b.counted (omega arith) in
    record {
      draft = c.in_ok-flush.ensures.draft
          ∙ same_draft (ap (λ w. ops ++ cond w (flushed text) []) (sym is)) (ap (λ w. cond w [] text) (sym is));
      cap = c.in_ok-flush.ensures.cap;
      long = c.in_ok-flush.ensures.long;
      full = tt;
      refused = tt;
    }

pub returns-clause-few : goal.returns-clause-few
unfolding closed_draft
returns-clause-few c =
    let none = ap (λ d. length d.text) c.in_ok-flush.ensures.draft in
    omega (arith, none, c.flush.new.self.counted)

pub returns-in_err-flush-clause-appends : goal.returns-in_err-flush-clause-appends
returns-in_err-flush-clause-appends c =
    let e = c.in_err-flush in
    appends_error c.from_residual.result e.field-0.0 c.from_residual.ensures.1 e.ensures.cap e.ensures.full e.ensures.refused
