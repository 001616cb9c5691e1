-- The classes of characters that are not ASCII.
use Rattle.std.proofs.Common.{◌≡◌, ◌∙◌, ℕ, ◌+◌, ◌*◌, ◌/◌, ◌%◌, ◌<◌, ◌≤◌, Bool, List, Option, Some, Vec, Result, Ok, Err, IfOk, length, get_or, set, sym, ap, subst, arith, inl, inr, length-set}
use Rattle.std.specs.Prelude.{nat_lt, if◌then◌else◌}
use Rattle.std.specs.Char.{IsScalar}
use Rattle.std.specs.declared.alloc.Global.{Global}
use Rattle.std.proofs.lemmas.Bool.{cases_eq, cases_lt, lt-ltb, le-ltb}
use Rattle.std.proofs.lemmas.List.{get_or-set_same, get_or-set_other}
use Rattle.fancy_regex_class.specs.declared.class.CharClassMatcher.{CharClassMatcher}
use Rattle.fancy_regex_states.specs.declared.atom.Leaf.{Leaf}
use Rattle.fancy_regex_table.specs.Alphabets.{AreKnown, AreWide, HasClass, KeepsSamples}
use Rattle.fancy_regex_table.specs.Blocks.{AreClasses, AreInside, AreRows, IsBlock}
use Rattle.fancy_regex_table.specs.Questions.{number_of, number_at, number_from, AreQuestions, AreBits}
use Rattle.fancy_regex_table.specs.declared.question.Question.{Question}
use Rattle.fancy_regex_table.specs.Wides.{class_of}
use Rattle.fancy_regex_table.specs.declared.sort.Asked.{Asked}
use Rattle.fancy_regex_table.specs.declared.wide.Wide.{Wide}
use Rattle.fancy_regex_table.proofs.AlphabetLemmas.{class_kept}
use Rattle.fancy_regex_table.proofs.QuestionLemmas.{same_numbers_agree}

module _ (unicode : Bool) (matchers : List CharClassMatcher) (leaves : List Leaf) (asked : Asked) (questions : List Question) where
  -- nothing is known
  pub none_known : (samples : List (Option ℕ)) (by_answers : List ℕ) → length by_answers ≡ 256 → ((k : ℕ) → get_or by_answers k 0 ≡ 0)
      → AreKnown unicode matchers leaves asked samples questions by_answers
  none_known samples by_answers long zeros = record {
    wide = long;
    classes = λ c scalar low pos. absurd (omega (arith, pos, zeros (number_of unicode matchers questions c)));
  }

  -- what is known stays known
  pub known_kept : (old new : List (Option ℕ)) (by_answers : List ℕ) → KeepsSamples old new
      → AreKnown unicode matchers leaves asked old questions by_answers → AreKnown unicode matchers leaves asked new questions by_answers
  known_kept old new by_answers kept known = record {
    wide = known.wide;
    classes = λ c scalar low pos.
        class_kept unicode matchers leaves asked old new (Some c) (get_or by_answers (number_of unicode matchers questions c) 0) kept (known.classes c scalar low pos);
  }

  -- a character with the same answers is of the class too
  class_of_same : (samples : List (Option ℕ)) (c d class : ℕ) → AreQuestions unicode matchers leaves asked questions → length questions ≤ 8 → 128 ≤ c → 128 ≤ d
      → number_of unicode matchers questions d ≡ number_of unicode matchers questions c
      → HasClass unicode matchers leaves asked samples (Some c) class → HasClass unicode matchers leaves asked samples (Some d) class
  class_of_same samples c d class are few low low_other same has =
      let agree = same_numbers_agree unicode matchers leaves asked questions d c are few low_other low same in
      record {
        sample = has.sample;
        is_there = has.is_there;
        agrees = (agree.0 ∙ has.agrees.0, λ leaf there. agree.1 leaf there ∙ has.agrees.1 leaf there);
      }

  -- the class of one more number of answers is known
  pub known_set : (samples : List (Option ℕ)) (by_answers : List ℕ) (c number class : ℕ) → AreQuestions unicode matchers leaves asked questions → length questions ≤ 8
      → 128 ≤ c → number ≡ number_of unicode matchers questions c → number < 256 → HasClass unicode matchers leaves asked samples (Some c) class
      → AreKnown unicode matchers leaves asked samples questions by_answers → AreKnown unicode matchers leaves asked samples questions (set by_answers number class)
  known_set samples by_answers c number class are few low is inside has known = record {
    wide = length-set by_answers number class ∙ known.wide;
    classes = λ d scalar low_other pos.
        let other_number = number_of unicode matchers questions d in
        let Is : ℕ → Type 0 = HasClass unicode matchers leaves asked samples (Some d) in
        elim (cases_eq other_number number) [
          | inl same ↦
              let at : get_or (set by_answers number class) other_number 0 ≡ class =
              ap (λ k. get_or (set by_answers number class) k 0) same ∙ get_or-set_same by_answers number class 0 (let long = known.wide in omega (arith, long, inside)) in
              subst Is (sym at) (class_of_same samples c d class are few low low_other (same ∙ is) has)
          | inr other ↦
              let at : get_or (set by_answers number class) other_number 0 ≡ get_or by_answers other_number 0 =
              get_or-set_other by_answers number other_number class 0 other in
              subst Is (sym at) (known.classes d scalar low_other (subst (λ n. 0 < n) at pos))
        ];
  }

  -- the class of a character below U+10000
  module _ (bits : List (Vec ℕ Global)) (rows answers by_answers classes : List ℕ) (are_bits : AreBits unicode matchers questions bits)
      (are_rows : AreRows bits rows answers) (are_classes : AreClasses answers by_answers classes) (c : ℕ) (scalar : IsScalar c) (low : 128 ≤ c) (below : c < 65536) where
    abbrev block : ℕ
    block = get_or rows (c / 64) 0

    is_block : IsBlock answers block (number_at bits (c / 64))
    is_block = are_rows.blocks (c / 64) (omega (arith, below))

    pub class_below : 0 < get_or classes (block * 64 + c % 64) 0 → get_or classes (block * 64 + c % 64) 0 ≡ get_or by_answers (number_of unicode matchers questions c) 0
    class_below pos =
        elim (cases_lt 0 block) [
          | inl positive ↦
              let inside = is_block.inside in
              are_classes.others (block * 64 + c % 64) (omega (arith, positive)) (omega (arith, inside))
              ∙ ap (λ k. get_or by_answers k 0) (is_block.numbers (c % 64) (omega arith) positive ∙ ap (number_from 0) (are_bits.answers c scalar low below))
          | inr zero_block ↦ absurd (omega (arith, pos, are_classes.first (block * 64 + c % 64) (omega (arith, zero_block))))
        ]

  abbrev class_at : List ℕ → List ℕ → List ℕ → ℕ → ℕ
  class_at rows classes by_answers c =
      if nat_lt c 65536 then get_or classes (get_or rows (c / 64) 0 * 64 + c % 64) 0 else get_or by_answers (number_of unicode matchers questions c) 0

  -- each class that is told is that of the character
  pub known_classes : (samples : List (Option ℕ)) (bits : List (Vec ℕ Global)) (rows answers by_answers classes : List ℕ) → AreBits unicode matchers questions bits
      → AreRows bits rows answers → AreClasses answers by_answers classes → AreKnown unicode matchers leaves asked samples questions by_answers
      → (c : ℕ) → IsScalar c → 128 ≤ c → 0 < class_at rows classes by_answers c
      → HasClass unicode matchers leaves asked samples (Some c) (class_at rows classes by_answers c)
  known_classes samples bits rows answers by_answers classes are_bits are_rows are_classes known c scalar low pos =
      let Is : ℕ → Type 0 = HasClass unicode matchers leaves asked samples (Some c) in
      let Positive : ℕ → Type 0 = λ n. 0 < n in
      let in_row = get_or classes (get_or rows (c / 64) 0 * 64 + c % 64) 0 in
      let by_number = get_or by_answers (number_of unicode matchers questions c) 0 in
      elim (cases_lt c 65536) [
        | inl below ↦
            let is : class_at rows classes by_answers c ≡ in_row = ap (λ (b : Bool). if b then in_row else by_number) (lt-ltb c 65536 below) in
            let same : class_at rows classes by_answers c ≡ by_number =
            is ∙ class_below bits rows answers by_answers classes are_bits are_rows are_classes c scalar low below (subst Positive is pos) in
            subst Is (sym same) (known.classes c scalar low (subst Positive same pos))
        | inr above ↦
            let is : class_at rows classes by_answers c ≡ by_number = ap (λ (b : Bool). if b then in_row else by_number) (le-ltb c 65536 above) in
            subst Is (sym is) (known.classes c scalar low (subst Positive is pos))
      ]

-- where no class is known nothing is wrong
pub unknown_wide : {E : Type 0} (r : Result Wide E) (unicode : Bool) (matchers : List CharClassMatcher) (leaves : List Leaf) (asked : Asked) (samples : List (Option ℕ))
    → IfOk r (λ wide. (u : Bool) (ms : List CharClassMatcher) (c : ℕ) → class_of u ms wide c ≡ 0) → IfOk r (AreWide unicode matchers leaves asked samples)
unknown_wide (Ok wide) unicode matchers leaves asked samples zero_class = λ c scalar low pos. absurd (omega (arith, pos, zero_class unicode matchers c))
unknown_wide (Err e) unicode matchers leaves asked samples zero_class = tt

-- the block of each row is there in the classes too
pub classes_inside : (bits : List (Vec ℕ Global)) (rows answers by_answers classes : List ℕ) → AreRows bits rows answers → AreClasses answers by_answers classes
    → AreInside rows classes
classes_inside bits rows answers by_answers classes are_rows are_classes row lt =
    let block = are_rows.blocks row lt in
    let inside = block.inside in
    let long = are_classes.long in
    omega (arith, inside, long)

pub rows_inside : (bits : List (Vec ℕ Global)) (rows answers : List ℕ) → AreRows bits rows answers → AreInside rows answers
rows_inside bits rows answers are_rows row lt = let block = are_rows.blocks row lt in block.inside
