-- What the table alone says by a context of a pattern and an input, it says by another one of the same.
use Rattle.std.proofs.Common.{◌≡◌, ℕ, ◌+◌, ◌-◌, ◌≤◌, false, List, ◌∷◌, sym, ap, subst, ◌∙◌, arith}
use Rattle.fancy_regex_class.specs.Looks.{looked_text}
use Rattle.fancy_regex_class.specs.declared.counted.Counted.{Counted}
use Rattle.fancy_regex_class.specs.declared.input.RunInput.{RunInput}
use Rattle.fancy_regex_states.specs.Attempts.{View, Continuation}
use Rattle.fancy_regex_linear.specs.Alone.{AllFailBetween, AloneSays, IsLookedFor}
use Rattle.fancy_regex_linear.specs.EasyTables.{IsContextOf}
use Rattle.fancy_regex_linear.specs.Find.{places, places_from}
use Rattle.fancy_regex_linear.specs.Search.{Explains}
use Rattle.fancy_regex_linear.specs.Starts.{IsStart}
use Rattle.fancy_regex_linear.specs.declared.alone.Alone.{Alone}
use Rattle.fancy_regex_linear.specs.declared.alone.Alone.TheVariants.{Found, NoMatch, Unknown}
use Rattle.fancy_regex_linear.specs.declared.easy.Easy.{Easy}
use Rattle.fancy_regex_linear.specs.declared.search.SearchContext.{SearchContext}

module _ {easy : Easy} {input : RunInput} {one other : SearchContext} (a : IsContextOf easy input one) (b : IsContextOf easy input other) where
  stop_is : one.stop ≡ other.stop
  stop_is = a.stop ∙ sym b.stop

  entry_is : other.entry ≡ one.entry
  entry_is = b.entry ∙ sym a.entry

  explains_back : (text : List ℕ) (view : View) (go : ℕ → Continuation) → Explains other text view go → Explains one text view go
  explains_back text view go explains = record {
    longest = explains.longest ∙ ap (λ r. r.longest) (b.rules ∙ sym a.rules);
    shows = rw (a.matchers, a.rules) (rw (b.matchers, b.rules) at explains.shows);
    agree = rw (a.stop, a.states) (rw (b.stop, b.states) at explains.agree);
  }

  all_fail : (text : List ℕ) (from to : ℕ) → AllFailBetween one text from to → AllFailBetween other text from to
  all_fail text from to fails view go explains p low less boundary =
      rw entry_is (fails view go (explains_back text view go explains) p low less boundary)

  pub says_too : (old new : Counted) (first : ℕ) (alone : Alone) → AloneSays one old new first alone → AloneSays other old new first alone
  says_too old new first (Found start end) says = (
    record {
      range = (says.0.range.0, omega (arith, says.0.range.1, stop_is));
      boundary = says.0.boundary;
      fails = all_fail (looked_text old) first start says.0.fails;
      ends = λ view go explains. rw entry_is (says.0.ends view go (explains_back (looked_text old) view go explains));
    },
    subst (λ (n : ℕ). IsLookedFor old new (start - first + 1) (n - first)) stop_is says.1,
  )
  says_too old new first NoMatch says = record {
    fails = subst (λ (n : ℕ). AllFailBetween other (looked_text old) first (n + 1)) stop_is (all_fail (looked_text old) first (one.stop + 1) says.fails);
    looked = subst (λ (n : ℕ). IsLookedFor old new (n - first + 1) (n - first)) stop_is says.looked;
  }
  says_too old new first (Unknown start) says =
      let text = looked_text old in (
        record {
          start = subst (λ (n : ℕ). IsStart text n start.place.at start.place) stop_is says.0.start;
          split = subst (λ (n : ℕ). places text false start.place.at n ≡ start.place.at ∷ places_from text false start.place.next n) stop_is says.0.split;
          fails = all_fail text start.place.at start.from says.0.fails;
          range = (says.0.range.0, says.0.range.1, omega (arith, says.0.range.2, stop_is));
          boundaries = says.0.boundaries;
        },
        says.1,
        all_fail text first start.place.at says.2,
        says.3,
      )
