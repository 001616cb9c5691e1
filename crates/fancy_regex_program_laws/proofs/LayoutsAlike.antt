-- The program of a pattern with its calls written out and the one in which calls stay run alike.
use Rattle.std.proofs.Common.{◌≡◌, ℕ, ◌+◌, ◌*◌, ◌≤◌, Bool, List, Some, sym, ap, ◌∙◌, arith}
use Rattle.std.specs.Prelude.{option_map}
use Rattle.std.proofs.lemmas.Option.{same_Some}
use Rattle.fancy_regex_desugar.specs.CorePatterns.{CorePattern}
use Rattle.fancy_regex_desugar.specs.Unfolded.{core_pattern_of}
use Rattle.fancy_regex_program.specs.Ops.{Op}
use Rattle.fancy_regex_program.specs.Machine.{RunParameters, Ending, anchored_by, run}
use Rattle.fancy_regex_program.specs.Code.{slots_in, program_of}
use Rattle.fancy_regex_program_laws.specs.ProgramLaws.{found_by_thread, attempted_starts}
use Rattle.fancy_regex_program_laws.specs.LayoutLaws.{AreAlike, EndsAlike, LayoutsRunAlike}
use Rattle.fancy_regex_program_laws.proofs.WholeProgram.{Finishes, asked_anchored, made_answers, written_made}
use Rattle.fancy_regex_program_laws.proofs.KeptPrograms.{pattern_made}
use Rattle.fancy_regex_program_laws.proofs.LongerRuns.{run_more}

-- Two programs of one pattern, each of whose runs ends with the result of the search.
module _ (r : RunParameters) (p : CorePattern) (whole : Bool) (count : ℕ) (starts : List ℕ) (code code' : List Op) (many many' : ℕ) where
  alike_ends : (j j' : ℕ) (f : Finishes r p whole count code many starts j) (g : Finishes r p whole count code' many' starts j') → AreAlike whole count f.ending g.ending
  alike_ends j j' f g = record {
    answer = f.way ∙ sym g.way;
    backtracks = f.backtracks ∙ sym g.backtracks;
    peak = f.peak ∙ sym g.peak;
    overflow = f.overflow ∙ sym g.overflow;
  }

  -- where a run of the one ends, so does one of the other
  ends_alike : (m m' : ℕ) → ((j : ℕ) → m ≤ j → Finishes r p whole count code many starts j) → ((j : ℕ) → m' ≤ j → Finishes r p whole count code' many' starts j) →
      (n : ℕ) (e : Ending) → run code many r n ≡ Some e → EndsAlike whole count (run code' many' r) e
  ends_alike m m' over over' n e is =
      let f = over (n + m) (omega arith) in
      let g = over' m' (omega arith) in
      let same : e ≡ f.ending = same_Some e f.ending (sym (run_more code r many n (n + m) e (omega arith) is) ∙ f.comes) in
      let alike = alike_ends (n + m) m' f g in
      record {
        steps = m';
        ending = g.ending;
        comes = g.comes;
        alike = record {
          answer = ap (λ (x : Ending). option_map (found_by_thread whole (2 * count)) x.answer) same ∙ alike.answer;
          backtracks = ap (λ (x : Ending). x.backtracks) same ∙ alike.backtracks;
          peak = ap (λ (x : Ending). x.peak) same ∙ alike.peak;
          overflow = ap (λ (x : Ending). x.overflow) same ∙ alike.overflow;
        };
      }

pub layouts_run_alike : LayoutsRunAlike
layouts_run_alike r pattern whole anchored count layout code slots asked kept =
    let p = core_pattern_of pattern in
    let s = anchored_by anchored r in
    let written = program_of r.setting.has_member r.setting.fold whole anchored count p in
    let many = 2 * count + slots_in p in
    let starts = attempted_starts anchored r in
    let asked_so = asked_anchored r p whole anchored count asked in
    let over = made_answers r p whole anchored count asked written many (written_made s p whole anchored count asked_so) in
    let over' = made_answers r p whole anchored count asked code slots (pattern_made s pattern whole anchored count layout code slots asked_so kept) in
    record {
      there = ends_alike s p whole count starts written code many slots over.0 over'.0 over.1 over'.1;
      back = ends_alike s p whole count starts code written slots many over'.0 over.0 over'.1 over.1;
    }
