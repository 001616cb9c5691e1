-- The code of a body does not depend on the calls that are open around it.
use Rattle.std.proofs.Common.{◌≡◌, ℕ, Bool, true, List, [], length, Option, Some, None, refl, sym, ap, ap₂, ◌∙◌, subst, ⊎_elim}
use Rattle.std.specs.Prelude.{is_some}
use Rattle.fancy_regex_tree.specs.Tree.{Text, Tree}
use Rattle.fancy_regex_meaning.specs.Ways.{max_open_calls}
use Rattle.fancy_regex_desugar.specs.CorePatterns.{CorePattern, repeat}
use Rattle.fancy_regex_desugar.specs.Unfolded.{written_call, unfolded}
use Rattle.fancy_regex_program.specs.Ops as op
use Rattle.fancy_regex_program.specs.Ops.{Place}
use Rattle.fancy_regex_program.specs.Code.{Layout, slots_with, code_with}
use Rattle.fancy_regex_program.specs.Layouts.{IsLaidOut, CallsAreLaidOut, AreWrittenOut}
use Rattle.fancy_regex_program.proofs.CodeParts.{Part, shut, cat_part, alt_part, group_part, ahead_part, never_part, atomic_part, tail_part, loop_part, repeat_part, conditional_part, absent_part, call_part, part_with}
use Rattle.fancy_regex_program.proofs.WrittenParts.{PartByPart, of_tree}
use Rattle.fancy_regex_program.proofs.OpenCalls.{AreOpen, none_open}
use Rattle.fancy_regex_program.proofs.WrittenOut.{is_call, NoneIsOut, none_is_above, same_written_out}

module _ (has_member : Text → Bool → ℕ → Bool) (fold : ℕ → ℕ) (whole : Bool) (layout : Layout) where
  abbrev P : CorePattern → Part
  P = part_with has_member fold whole layout

  -- The two have the same code.
  abbrev pub SameCode : CorePattern → CorePattern → Type 0
  SameCode p q = P p ≡ P q

  -- with what waits after it
  pub same_closed : (p q : CorePattern) → SameCode p q → shut (P p) ≡ shut (P q)
  same_closed p q h = ap shut h

  pub same_slots : (p q : CorePattern) → SameCode p q → slots_with layout p ≡ slots_with layout q
  same_slots p q h = ap (λ (a : Part). a.slots) h

  -- the same where the calls stay or are written out
  abbrev pub Same : (ℕ → Bool) → CorePattern → CorePattern → Type 0
  Same is_written_out p q = CallsAreLaidOut layout is_written_out p → SameCode p q

  same_repeat : (a b : CorePattern) (lo : ℕ) (hi : Option ℕ) (greedy : Bool) → SameCode a b → SameCode (repeat a lo hi greedy) (repeat b lo hi greedy)
  unfolding code_with
  same_repeat a b lo None greedy h = ap (loop_part lo greedy) h
  same_repeat a b lo (Some hi) greedy h = ap (repeat_part lo hi greedy) h

  same_call : (o : Option Place) (a b : Part) → is_some o ≡ true → call_part o a ≡ call_part o b
  same_call None a b stays = absurd cc
  same_call (Some c) a b stays = refl

  same_parts : (is_written_out : ℕ → Bool) → PartByPart (Same is_written_out)
  unfolding code_with
  same_parts is_written_out = record {
    of_nothing = λ s. refl;
    of_read = λ c s. refl;
    of_newline = λ unicode s. refl;
    of_check = λ a s. refl;
    of_continue = λ s. refl;
    of_keep_out = λ s. refl;
    of_fail = λ s. refl;
    of_back = λ n s. refl;
    of_backref = λ k casei s. refl;
    of_exists = λ k s. refl;
    of_cat = λ a b c d h k s. ap₂ cat_part (h s.0) (k s.1);
    of_alt = λ a b c d h k s. ap₂ alt_part (h s.0) (k s.1);
    of_group = λ k a b h s. ap (group_part k) (h s);
    of_ahead = λ a b h s. ap ahead_part (h s);
    of_never = λ a b h s. ap never_part (h s);
    of_atomic = λ a b h s. ap atomic_part (h s);
    of_delegate = λ t a b h s. refl;
    of_tail = λ t a b h s. ap (tail_part (op.tail has_member fold t)) (h s);
    of_repeat = λ a b lo hi greedy h s. same_repeat a b lo hi greedy (h s);
    of_conditional = λ a b c d e f h k l s. ap (λ x. conditional_part x (P b) (P c)) (h s.0) ∙ ap₂ (conditional_part (P d)) (k s.1) (l s.2);
    of_absent = λ a b h s. ap absent_part (h s);
  }

  module _ (groups : List Tree) (is_written_out : ℕ → Bool) (are : AreWrittenOut layout groups is_written_out) where
    -- a call that stays, whatever calls are open around it
    same_kept : (m m' : ℕ) (opened opened' : List ℕ) (k : ℕ) → is_some (layout k) ≡ true → SameCode (written_call groups m opened k) (written_call groups m' opened' k)
    unfolding code_with
    same_kept m m' opened opened' k stays =
        let one = is_call groups m opened k in
        let two = is_call groups m' opened' k in
        ap P one.is ∙ same_call (layout k) (P one.inside) (P two.inside) stays ∙ sym (ap P two.is)

    -- a call that stays or is written out, where none that is written out is open
    same_laid_out : (m m' : ℕ) (opened opened' : List ℕ) → AreOpen (length groups) opened m → AreOpen (length groups) opened' m' → NoneIsOut groups layout is_written_out are opened →
        NoneIsOut groups layout is_written_out are opened' → (k : ℕ) → Same is_written_out (written_call groups m opened k) (written_call groups m' opened' k)
    same_laid_out m m' opened opened' around around' none none' k laid_out =
        let call = is_call groups m opened k in
        let is : IsLaidOut layout is_written_out k = subst (CallsAreLaidOut layout is_written_out) call.is laid_out in
        ⊎_elim (λ (stays : is_some (layout k) ≡ true). same_kept m m' opened opened' k stays)
        (λ (out : is_written_out k ≡ true).
        ap P (same_written_out groups layout is_written_out are m m' opened opened' around around' k out
        (none_is_above groups layout is_written_out are (are.rank k) opened none) (none_is_above groups layout is_written_out are (are.rank k) opened' none')))
        is

    -- A body whose calls stay or are written out has the same code wherever it is called.
    pub same_body : (m : ℕ) (opened : List ℕ) → AreOpen (length groups) opened m → NoneIsOut groups layout is_written_out are opened → (n : ℕ) (t : Tree) →
        CallsAreLaidOut layout is_written_out (unfolded groups (max_open_calls groups) [] n t) → SameCode (unfolded groups (max_open_calls groups) [] n t) (unfolded groups m opened n t)
    same_body m opened around none n t =
        (of_tree (Same is_written_out) (same_parts is_written_out) groups (written_call groups (max_open_calls groups) []) (written_call groups m opened)
        (same_laid_out (max_open_calls groups) m [] opened (none_open (length groups)) around tt none) n t).front
