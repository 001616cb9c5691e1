-- Commands that are made step by step.
use Rattle.std.proofs.Common.{◌≡◌, ◌∙◌, Result, Ok, Err, false, refl, ap}
use Rattle.std.specs.Prelude.{IfOk}
use Rattle.clap.specs.Built.{AddsArg}
use Rattle.clap.specs.Simple.{App, Shape, app_of, with_rule, with_subcommand}
use Rattle.clap.specs.Walk.{Rule, rule_of}
use Rattle.clap.specs.declared.builder.arg.Arg.{Arg}
use Rattle.clap.specs.declared.builder.command.Command.{Command}
use Rattle.clap.specs.declared.builder.command.Command.TheViews.{out-Command}

pub in_ok : {T E : Type 0} (r : Result T E) (P Q : T → Type 0) → ((x : T) → P x → Q x) → IfOk r P → IfOk r Q
in_ok (Ok x) P Q f h = f x h
in_ok (Err e) P Q f h = tt

-- one argument more
pub added_app : (old : Command) (a : Arg) (new : Command) → AddsArg old a new → a.global ≡ false → app_of new ≡ with_rule (app_of old) (rule_of a)
added_app old a new h is = h.shape is

pub added_local : (old : Command) (a : Arg) (new : Command) → AddsArg old a new → a.global ≡ false → (out-Command old).has_globals ≡ false
    → (out-Command new).has_globals ≡ false
added_local old a new h is local = h.globals ∙ rw (is, local) refl

pub rule_same : (a b : App) (r s : Rule) → a ≡ b → r ≡ s → with_rule a r ≡ with_rule b s
rule_same a b r s e f = rw (e, f) refl

pub subcommand_same : (a b : App) (r s : Shape) → a ≡ b → r ≡ s → with_subcommand a r ≡ with_subcommand b s
subcommand_same a b r s e f = rw (e, f) refl

pub top_same : (a b c : App) → b ≡ c → with_subcommand a b.top ≡ with_subcommand a c.top
top_same a b c e = ap (λ (x : App). with_subcommand a x.top) e
