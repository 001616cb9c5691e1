use Rattle.std.proofs.Common.{◌≡◌, ◌∙◌, Bool, rules, ℕ, ◌==◌, length, not, sym, subst, ap, arith, true≢false, refl, inl}
use Rattle.fancy_regex_tree.specs.Tree.{Tree}
use Rattle.fancy_regex_info.specs.Analysis.{analysis}
use Rattle.fancy_regex_info.specs.Infos.{info_of}
use Rattle.fancy_regex_info.specs.Views.{pattern_in}
use Rattle.fancy_regex_regular.proofs.BuildLemmas.{groups_are, first_is}
use Rattle.fancy_regex_regular.proofs.ExactLemmas.{entry_inside, states_closed, made_in, supported_in, or_short}
use Rattle.fancy_regex_regular.specs.Continues.{AskNoPlace}
use Rattle.fancy_regex_regular.specs.Supported.{IsSupportedOrShort}
use Rattle.fancy_regex_info.specs.declared.error.CompileError.{CompileError}
use Rattle.fancy_regex_regular.proofs.regular.Regular.if_supported.Goals as goal

pub invariant_of-result-clause-right : goal.invariant_of-result-clause-right
invariant_of-result-clause-right c = (rw c.in-Some-built.is at c.in_ok-built.ensures.made).0

pub invariant_of-result-clause-inside : goal.invariant_of-result-clause-inside
invariant_of-result-clause-inside c =
    let same = (rw c.in-Some-built.is at c.in_ok-built.ensures.made).1 in
    omega (arith, c.if-entry-len.false, c.len.ensures, c.in-Some.made.states.ok.0, ap length same)

pub invariant_of-result-clause-placeless : goal.invariant_of-result-clause-placeless
invariant_of-result-clause-placeless c =
    let same = (rw c.in-Some-built.is at c.in_ok-built.ensures.made).1 in
    let states = c.deref.ensures.value ∙ sym same in (
      λ never. subst AskNoPlace states (c.ask_for_place-continues.ensures.0 never),
      λ none. c.ask_for_place-continues.ensures.1 (subst AskNoPlace (sym states) none),
    )

pub returns-in-Some-built-clause-made : goal.returns-in-Some-built-clause-made
returns-in-Some-built-clause-made c = λ explicit t is.
    let same = (rw c.in-Some-built.is at c.in_ok-built.ensures.made).1 in
    record {
      states = rw same ((rw c.in-Some.is at c.in_ok-found.ensures.made) explicit t is);
      groups = c.end_group.ensures ∙ groups_are (info_of c.args.info.now) explicit t is;
      whole = ap (λ (n : ℕ). not (n == 0)) (c.start_group.ensures ∙ first_is (info_of c.args.info.now) explicit t is);
    }

pub returns-in-Some-built-clause-exact : goal.returns-in-Some-built-clause-exact
returns-in-Some-built-clause-exact c explicit t is =
    (λ some. supported_in explicit t (((rw c.in-Some.is at c.in_ok-found.ensures.exact) explicit t is).0 refl), λ supported. refl)

pub returns-in-None-clause-exact : goal.returns-in-None-clause-exact
returns-in-None-clause-exact c explicit t is =
    let states = (rw c.in-Some.is at c.in_ok-found.ensures.made) explicit t is in
    let closed = states_closed c.args.options.now.unicode c.in-Some.made.resets_start c.in-Some.made.states.items c.in-Some.made.entry c.in-Some.made.matchers.items (pattern_in explicit t) states in
    (λ some. absurd (true≢false (sym some)), λ supported. absurd (true≢false (sym ((rw c.in-None.is at c.in_ok-built.ensures.exact).1 closed))))

pub returns-then-entry-len-clause-exact : goal.returns-then-entry-len-clause-exact
returns-then-entry-len-clause-exact c explicit t is =
    let states = (rw c.in-Some.is at c.in_ok-found.ensures.made) explicit t is in
    let inside = entry_inside c.args.options.now.unicode c.in-Some.made.resets_start c.in-Some.made.states.items c.in-Some.made.entry c.in-Some.made.matchers.items (pattern_in explicit t) states in
    (λ some. absurd (true≢false (sym some)), λ supported. absurd (omega (arith, inside, c.if-entry-len.true, c.len.ensures, c.in-Some.made.states.ok.0)))

pub returns-in_default-clause-exact : goal.returns-in_default-clause-exact
returns-in_default-clause-exact c explicit t is = (
  λ some. absurd (true≢false (sym some)),
  λ supported. absurd (true≢false (sym (((rw c.in_default.is at c.in_ok-found.ensures.exact) explicit t is).1
      (made_in explicit t supported)))),
)

pub returns-in_err-found-clause-only : goal.returns-in_err-found-clause-only
returns-in_err-found-clause-only c =
    let only : (explicit : Bool) (t : Tree) → info_of c.args.info.now ≡ analysis explicit t → IsSupportedOrShort (pattern_in explicit t) c.in_err-found.field-0.0 =
    λ explicit t is. or_short explicit t c.in_err-found.field-0.0 (c.in_err-found.ensures.only explicit t is) in
    search rules

pub returns-in_err-built-clause-only : goal.returns-in_err-built-clause-only
returns-in_err-built-clause-only c =
    let only : (error : CompileError) (explicit : Bool) (t : Tree) → info_of c.args.info.now ≡ analysis explicit t → IsSupportedOrShort (pattern_in explicit t) error =
    λ error explicit t is. inl (supported_in explicit t (((rw c.in-Some.is at c.in_ok-found.ensures.exact) explicit t is).0 refl)) in
    search rules
