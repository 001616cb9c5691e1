-- Exactly which patterns are searched by states with parts.
use Rattle.std.proofs.Common.{◌≡◌, ℕ, ◌<◌, Bool, true, false, List, length, None, refl, sym, subst, inl, inr, ⊎_elim}
use Rattle.fancy_regex_tree.specs.Tree.{Tree}
use Rattle.fancy_regex_meaning.specs.Groups.{Pattern}
use Rattle.fancy_regex_class.specs.declared.class.CharClassMatcher.{CharClassMatcher}
use Rattle.fancy_regex_info.specs.declared.error.CompileError.{CompileError}
use Rattle.fancy_regex_info.specs.Views.{pattern_in}
use Rattle.fancy_regex_states.specs.Attempts.{View, NamesBelow}
use Rattle.fancy_regex_states.specs.First.{state_at}
use Rattle.fancy_regex_states.specs.declared.state.State.{State}
use Rattle.fancy_regex_parts.specs.Tables.{AreClosed}
use Rattle.fancy_regex_linear.specs.Plain.{re_of}
use Rattle.fancy_regex_linear.specs.RegularStates.{AreRegularStates, IsMadeFor, IsMadeOrShort}
use Rattle.fancy_regex_linear.proofs.RegularStateLemmas.{first_is_final, does_by}
use Rattle.fancy_regex_regular.specs.Supported.{IsSupported, IsSupportedOrShort}

-- nothing can be read
blind : View
blind = record { has = λ leaf i. false; next = λ i. i; back = λ i. None; holds = λ test i. false; longest = false; has_parts = true }

module _ (unicode resets : Bool) (states : List State) (entry : ℕ) (matchers : List CharClassMatcher) (pattern : Pattern)
    (is : AreRegularStates unicode resets states entry matchers pattern) where
  -- the entry is a state, and states lead to states
  pub entry_inside : entry < length states
  unfolding blind
  entry_inside = (does_by states entry (re_of unicode pattern.groups is.called pattern.first_group is.base pattern.tree) is.sound is.program blind 0 0 refl).entry_in

  pub states_closed : AreClosed states
  unfolding blind
  states_closed q h =
      let re = re_of unicode pattern.groups is.called pattern.first_group is.base pattern.tree in
      let d = does_by states entry re is.sound is.program blind 0 0 refl in
      ⊎_elim
      (λ (first : q ≡ 0).
      subst (λ (k : ℕ). NamesBelow (length states) (state_at states k)) (sym first)
      (subst (NamesBelow (length states)) (sym (first_is_final states entry re is.sound is.program)) tt))
      (λ other. other.names)
      (d.agree q h)

pub made_in : (explicit : Bool) (t : Tree) → IsSupported (pattern_in explicit t) → IsMadeFor (pattern_in explicit t)
made_in explicit t is = record { regular = is.regular; light = is.light }

pub supported_in : (explicit : Bool) (t : Tree) → IsMadeFor (pattern_in explicit t) → IsSupported (pattern_in explicit t)
supported_in explicit t made = record { regular = made.regular; light = made.light }

pub or_short : (explicit : Bool) (t : Tree) (error : CompileError) → IsMadeOrShort (pattern_in explicit t) error → IsSupportedOrShort (pattern_in explicit t) error
or_short explicit t error why = ⊎_elim (λ made. inl (supported_in explicit t made)) (λ short. inr short) why
