-- What is answered step by step.
use Rattle.std.proofs.Common.{◌≡◌, ℕ, suc, Bool, true, Option, IsErrAnd, refl, ap, subst, sym, Result, Ok, Err}
use Rattle.fancy_regex_tree.specs.Tree.{Text, Tree, group, ast_group}
use Rattle.fancy_regex_tree.specs.declared.error.Error.{Error}
use Rattle.fancy_regex_tree.specs.declared.error.Error.TheVariants.{ParseError, Memory}
use Rattle.fancy_regex_tree.specs.Numbering.{PositionedFault, ◌⨟◌, AgreesWith, counts, resolved}

module _ {X A Y B : Type 0} (v : X → A) (w : Y → B) (d : Result A PositionedFault) (f : A → Result B PositionedFault) where
  -- a step that fails
  pub meets_err : (e : Error) → AgreesWith v (Err e) d → AgreesWith w (Err e) (d ⨟ f)
  meets_err (ParseError position kind) h = ap (λ r. r ⨟ f) h
  meets_err Memory h = tt

  -- a step that goes, and what follows it
  pub meets_next : (x : X) (r : Result Y Error) → AgreesWith v (Ok x) d → AgreesWith w r (f (v x)) → AgreesWith w r (d ⨟ f)
  meets_next x r h next = subst (λ q. AgreesWith w r (q ⨟ f)) (sym h) next

-- a group that counts
pub resolved_counting : (ignored : Bool) (group_named : Text → Option ℕ) (n : ℕ) (name : Option Text) (e new : Tree) (m position : ℕ)
    → counts ignored name ≡ true → resolved ignored group_named (suc n) e ≡ Ok (new, m)
    → resolved ignored group_named n (ast_group name e position) ≡ Ok (group new, m)
resolved_counting ignored group_named n name e new m position yes_it found = rw (yes_it, found) refl

-- an error that is handed on
pub same_error : {Y B : Type 0} (w : Y → B) (r : Result Y Error) (e : Error) (d : Result B PositionedFault) → IsErrAnd r (λ f. f ≡ e) → AgreesWith w (Err e) d → AgreesWith w r d
same_error w (Ok y) e d h fails = absurd h
same_error w (Err f) e d h fails = subst (λ g. AgreesWith w (Err g) d) (sym h) fails
