-- Numbers of answers, and what they tell.
use Rattle.std.proofs.Common.{◌≡◌, ◌∙◌, ℕ, ◌+◌, ◌/◌, ◌<◌, ◌≤◌, ◌&&◌, ◌||◌, ◌==◌, not, Bool, true, false, List, [], ◌∷◌, ◌++◌, length, drop, take, map, get_or, Vec, Option, Some, None, Result, Ok, Err, IfOk, IfSome, Contains, refl, sym, ap, ap₂, subst, arith, inl, inr, ⊎_elim, lit<}
use Rattle.std.specs.Prelude.{if◌then◌else◌}
use Rattle.std.proofs.lemmas.Bool.{ne_eqb}
use Rattle.std.proofs.lemmas.List.{drop_more, drop_all, get_or-map, length-map, map_push, map_more, take_more}
use Rattle.std.proofs.lemmas.List.Elements.{All-nil, All-push, Contains-push_cases}
use Rattle.std.specs.declared.alloc.Global.{Global}
use Rattle.fancy_regex_class.specs.RangeBits.{AreWideBits, has_bit}
use Rattle.fancy_regex_class.specs.declared.class.CharClassMatcher.{CharClassMatcher}
use Rattle.fancy_regex_states.specs.CharTests.{leaf_matches_char, is_word_char, IsAsciiLeaf}
use Rattle.fancy_regex_states.specs.declared.atom.Leaf.{Leaf}
use Rattle.fancy_regex_states.specs.declared.atom.Leaf.TheVariants.{Any}
use Rattle.fancy_regex_table.specs.Alphabets.{Agree}
use Rattle.fancy_regex_table.specs.LeafSets.{HasLeaf, if_matched, matching_set}
use Rattle.fancy_regex_table.specs.Questions.{answer, answers_of, with_answer, number_from, number_of, IsAskedIn, IsConstant, KeepsQuestions, AreQuestions, AreBits}
use Rattle.fancy_regex_table.specs.Sorts.{sort_at}
use Rattle.fancy_regex_table.specs.declared.leaf_set.LeafSet.{LeafSet}
use Rattle.fancy_regex_table.specs.declared.question.Question.{Question}
use Rattle.fancy_regex_table.specs.declared.question.Question.TheVariants.{IsWord, Matches}
use Rattle.fancy_regex_table.specs.declared.sort.Asked.{Asked}
use Rattle.fancy_regex_table.specs.declared.sort.Sort.{Sort}

-- one answer more, in a loop over the questions
pub number_more : {X : Type 0} (f : X → Bool) (xs : List X) (i : ℕ) (d : X) (n : ℕ) → i < length xs
    → number_from (with_answer n (f (get_or xs i d))) (map f (drop (i + 1) xs)) ≡ number_from n (map f (drop i xs))
number_more f xs i d n h = ap (λ l. number_from n (map f l)) (sym (drop_more xs i d h))

pub number_done : {X : Type 0} (f : X → Bool) (xs : List X) (i : ℕ) (n : ℕ) → length xs ≤ i → number_from n (map f (drop i xs)) ≡ n
number_done f xs i n h = ap (λ l. number_from n (map f l)) (drop_all i xs h)

-- how large a number may be before these answers
abbrev room : List Bool → ℕ
room [] = 256
room (x ∷ xs) = room xs / 2

room_le : (xs : List Bool) → room xs ≤ 256
room_le [] = omega arith
room_le (x ∷ xs) = omega (arith, room_le xs)

few_room : (xs : List Bool) → length xs ≤ 8 → 0 < room xs
few_room [] h = lit< tt
few_room (a ∷ []) h = lit< tt
few_room (a ∷ b ∷ []) h = lit< tt
few_room (a ∷ b ∷ c ∷ []) h = lit< tt
few_room (a ∷ b ∷ c ∷ d ∷ []) h = lit< tt
few_room (a ∷ b ∷ c ∷ d ∷ e ∷ []) h = lit< tt
few_room (a ∷ b ∷ c ∷ d ∷ e ∷ f ∷ []) h = lit< tt
few_room (a ∷ b ∷ c ∷ d ∷ e ∷ f ∷ g ∷ []) h = lit< tt
few_room (a ∷ b ∷ c ∷ d ∷ e ∷ f ∷ g ∷ i ∷ []) h = lit< tt
few_room (a ∷ b ∷ c ∷ d ∷ e ∷ f ∷ g ∷ i ∷ j ∷ xs) h = absurd (omega (arith, h))

next_room : (a r : ℕ) (x : Bool) → a < r / 2 → with_answer a x < r
next_room a r true h = omega (arith, h)
next_room a r false h = omega (arith, h)

parts : (a b : ℕ) (x y : Bool) → a < 128 → b < 128 → with_answer a x ≡ with_answer b y → (a ≡ b) × (x ≡ y)
parts a b true true la lb e = (omega (arith, la, lb, e), refl)
parts a b false false la lb e = (omega (arith, la, lb, e), refl)
parts a b true false la lb e = absurd (omega (arith, la, lb, e))
parts a b false true la lb e = absurd (omega (arith, la, lb, e))

same_number : (xs ys : List Bool) (a b : ℕ) → length xs ≡ length ys → a < room xs → b < room ys → number_from a xs ≡ number_from b ys → (a ≡ b) × (xs ≡ ys)
same_number [] [] a b len la lb e = (e, refl)
same_number [] (y ∷ ys) a b len la lb e = absurd (omega (arith, len))
same_number (x ∷ xs) [] a b len la lb e = absurd (omega (arith, len))
same_number (x ∷ xs) (y ∷ ys) a b len la lb e =
    let rest = same_number xs ys (with_answer a x) (with_answer b y) (omega (arith, len)) (next_room a (room xs) x la) (next_room b (room ys) y lb) e in
    let both = parts a b x y (omega (arith, la, room_le xs)) (omega (arith, lb, room_le ys)) rest.0 in
    (both.0, ap₂ (λ z (zs : List Bool). z ∷ zs) both.1 rest.1)

-- the same answers from the same number
same_answers : (unicode : Bool) (matchers : List CharClassMatcher) (questions : List Question) (c d : ℕ) → length questions ≤ 8
    → number_of unicode matchers questions c ≡ number_of unicode matchers questions d
    → answers_of unicode matchers questions c ≡ answers_of unicode matchers questions d
same_answers unicode matchers questions c d few same =
    let one = answers_of unicode matchers questions c in
    let other = answers_of unicode matchers questions d in
    let long : length one ≡ length questions = length-map questions (λ q. answer unicode matchers q c) in
    let long_other : length other ≡ length questions = length-map questions (λ q. answer unicode matchers q d) in
    (same_number one other 0 0 (long ∙ sym long_other) (few_room one (omega (arith, long, few))) (few_room other (omega (arith, long_other, few))) same).1

-- the answer to one of the questions
one_answer : (f g : Question → Bool) (questions : List Question) (question : Question) → map f questions ≡ map g questions → Contains questions question
    → f question ≡ g question
one_answer f g questions question same (k, inside, at) =
    ap f (sym at) ∙ sym (get_or-map f questions k question false inside) ∙ ap (λ l. get_or l k false) same ∙ get_or-map g questions k question false inside ∙ ap g at

module _ (unicode : Bool) (matchers : List CharClassMatcher) (questions : List Question) (c d : ℕ) (low : 128 ≤ c) (low_other : 128 ≤ d)
    (same : answers_of unicode matchers questions c ≡ answers_of unicode matchers questions d) where
  leaf_same : (leaf : Leaf) → IsAskedIn unicode matchers questions leaf → leaf_matches_char unicode matchers leaf c ≡ leaf_matches_char unicode matchers leaf d
  leaf_same leaf asked =
      ⊎_elim
      (λ there. one_answer (λ q. answer unicode matchers q c) (λ q. answer unicode matchers q d) questions (Matches leaf) same there)
      (λ constant. constant c d low low_other)
      asked

  word_same : (asked : Bool) → (asked ≡ true → Contains questions IsWord) → (asked && is_word_char unicode c) ≡ (asked && is_word_char unicode d)
  word_same true there = one_answer (λ q. answer unicode matchers q c) (λ q. answer unicode matchers q d) questions IsWord same (there refl)
  word_same false there = refl

  matched_same : (leaf : Option Leaf) → ((found : Leaf) → leaf ≡ Some found → IsAskedIn unicode matchers questions found)
      → if_matched unicode matchers leaf (Some c) ≡ if_matched unicode matchers leaf (Some d)
  matched_same None asked = refl
  matched_same (Some leaf) asked = ap (λ (b : Bool). if b then Some leaf else None) (leaf_same leaf (asked leaf refl))

  abbrev set_of : Option Leaf → Option Leaf → Option Leaf → Option Leaf → LeafSet
  set_of first second third fourth = record { first = first; second = second; third = third; fourth = fourth }

  set_same : (set : LeafSet) → ((leaf : Leaf) → HasLeaf set leaf → IsAskedIn unicode matchers questions leaf)
      → matching_set unicode matchers set (Some c) ≡ matching_set unicode matchers set (Some d)
  set_same set asked =
      let one = λ (o : Option Leaf). if_matched unicode matchers o (Some c) in
      let other = λ (o : Option Leaf). if_matched unicode matchers o (Some d) in
      ap (λ o. set_of o (one set.second) (one set.third) (one set.fourth)) (matched_same set.first (λ leaf is. asked leaf (inl is)))
      ∙ ap (λ o. set_of (other set.first) o (one set.third) (one set.fourth)) (matched_same set.second (λ leaf is. asked leaf (inr (inl is))))
      ∙ ap (λ o. set_of (other set.first) (other set.second) o (one set.fourth)) (matched_same set.third (λ leaf is. asked leaf (inr (inr (inl is)))))
      ∙ ap (λ o. set_of (other set.first) (other set.second) (other set.third) o) (matched_same set.fourth (λ leaf is. asked leaf (inr (inr (inr is)))))

  no_line_end : (e : ℕ) → e < 128 → (c == e) ≡ (d == e)
  no_line_end e small = ne_eqb c e (λ is. omega (arith, low, small, is)) ∙ sym (ne_eqb d e (λ is. omega (arith, low_other, small, is)))

  abbrev sort_of : Bool → Bool → Bool → Bool → LeafSet → Sort
  sort_of edge newline carriage_return word matched =
      record { edge = edge; newline = newline; carriage_return = carriage_return; word = word; matched = matched }

  sorts_same : (asked : Asked) → (asked.words ≡ true → Contains questions IsWord) → ((leaf : Leaf) → HasLeaf asked.leaves leaf → IsAskedIn unicode matchers questions leaf)
      → sort_at matchers asked unicode (Some c) ≡ sort_at matchers asked unicode (Some d)
  sorts_same asked words looks =
      let edge = asked.edges && false in
      let newline = asked.lines && (d == 10) in
      let carriage_return = asked.lines && (d == 13) in
      let word = asked.words && is_word_char unicode c in
      let matched = matching_set unicode matchers asked.leaves (Some c) in
      ap (λ b. sort_of edge (asked.lines && b) (asked.lines && (c == 13)) word matched) (no_line_end 10 (lit< tt))
      ∙ ap (λ b. sort_of edge newline (asked.lines && b) word matched) (no_line_end 13 (lit< tt))
      ∙ ap (λ b. sort_of edge newline carriage_return b matched) (word_same asked.words words)
      ∙ ap (λ m. sort_of edge newline carriage_return (asked.words && is_word_char unicode d) m) (set_same asked.leaves looks)

-- characters with one number of answers are not told apart
pub same_numbers_agree : (unicode : Bool) (matchers : List CharClassMatcher) (leaves : List Leaf) (asked : Asked) (questions : List Question) (c d : ℕ)
    → AreQuestions unicode matchers leaves asked questions → length questions ≤ 8 → 128 ≤ c → 128 ≤ d
    → number_of unicode matchers questions c ≡ number_of unicode matchers questions d → Agree unicode matchers leaves asked (Some c) (Some d)
same_numbers_agree unicode matchers leaves asked questions c d are few low low_other same =
    let answers = same_answers unicode matchers questions c d few same in (
      sorts_same unicode matchers questions c d low low_other answers asked are.words are.looks,
      (λ leaf there. leaf_same unicode matchers questions c d low low_other answers leaf (are.reads leaf there)),
    )

-- leaves that match all characters that are not ASCII, or none
any_wide : (unicode : Bool) (matchers : List CharClassMatcher) (newline crlf : Bool) (c : ℕ) → 128 ≤ c → leaf_matches_char unicode matchers (Any newline crlf) c ≡ true
any_wide unicode matchers true crlf c low = refl
any_wide unicode matchers false crlf c low =
    ap₂ (λ a b. not (a || (crlf && b))) (ne_eqb c 10 (λ is. omega (arith, low, is))) (ne_eqb c 13 (λ is. omega (arith, low, is)))
    ∙ elim crlf as (λ b. not (false || (b && false)) ≡ true) [ true ↦ refl | false ↦ refl ]

pub any_constant : (unicode : Bool) (matchers : List CharClassMatcher) (newline crlf : Bool) → IsConstant unicode matchers (Any newline crlf)
any_constant unicode matchers newline crlf c d low low_other =
    any_wide unicode matchers newline crlf c low ∙ sym (any_wide unicode matchers newline crlf d low_other)

pub ascii_constant : (unicode : Bool) (matchers : List CharClassMatcher) (leaf : Leaf) → IsAsciiLeaf unicode matchers leaf → IsConstant unicode matchers leaf
ascii_constant unicode matchers leaf never c d low low_other = never c low ∙ sym (never d low_other)

-- bits of one test are those of another one that says the same
pub bits_as : {E : Type 0} (r : Result (Vec ℕ Global) E) (f g : ℕ → Bool) → IfOk r (λ words. AreWideBits words.items f) → ((c : ℕ) → 128 ≤ c → f c ≡ g c)
    → IfOk r (λ words. AreWideBits words.items g)
bits_as (Ok words) f g are same = record { filled = are.filled; bits = λ c scalar low below. are.bits c scalar low below ∙ same c low }
bits_as (Err e) f g are same = tt

pub any_bits : (unicode : Bool) (matchers : List CharClassMatcher) (newline crlf : Bool) (c : ℕ) → 128 ≤ c → true ≡ leaf_matches_char unicode matchers (Any newline crlf) c
any_bits unicode matchers newline crlf c low = sym (any_wide unicode matchers newline crlf c low)

-- the bits of no question, and of one question more
pub no_bits : (unicode : Bool) (matchers : List CharClassMatcher) (questions : List Question) (all : List (Vec ℕ Global)) → all ≡ []
    → AreBits unicode matchers (take 0 questions) all
no_bits unicode matchers questions all none_yet =
    subst (λ (l : List (Vec ℕ Global)). AreBits unicode matchers (take 0 questions) l) (sym none_yet)
    (record { filled = All-nil (λ (words : Vec ℕ Global). length words.items ≡ 1024); answers = λ c scalar low below. refl })

pub bits_more : (unicode : Bool) (matchers : List CharClassMatcher) (questions : List Question) (i : ℕ) (d : Question) (all : List (Vec ℕ Global)) (words : Vec ℕ Global)
    → i < length questions → AreBits unicode matchers (take i questions) all → AreWideBits words.items (answer unicode matchers (get_or questions i d))
    → AreBits unicode matchers (take (i + 1) questions) (all ++ words ∷ [])
bits_more unicode matchers questions i d all words inside are new = record {
  filled = All-push (λ (v : Vec ℕ Global). length v.items ≡ 1024) all words are.filled new.filled;
  answers = λ c scalar low below.
      map_push (λ (v : Vec ℕ Global). has_bit v.items c) all words
      ∙ ap₂ (λ (xs : List Bool) x. xs ++ x ∷ []) (are.answers c scalar low below) (new.bits c scalar low below)
      ∙ sym (map_more (λ q. answer unicode matchers q c) questions i d inside);
}

-- what is asked is asked of more questions too
pub asked_kept : (unicode : Bool) (matchers : List CharClassMatcher) (old new : List Question) (leaf : Leaf) → KeepsQuestions old new
    → IsAskedIn unicode matchers old leaf → IsAskedIn unicode matchers new leaf
asked_kept unicode matchers old new leaf kept asked = ⊎_elim (λ there. inl (kept (Matches leaf) there)) (λ constant. inr constant) asked

pub asked_more : (unicode : Bool) (matchers : List CharClassMatcher) (leaves : List Leaf) (i : ℕ) (d : Leaf) (old new : List Question) → i < length leaves
    → KeepsQuestions old new → ((leaf : Leaf) → Contains (take i leaves) leaf → IsAskedIn unicode matchers old leaf)
    → IsAskedIn unicode matchers new (get_or leaves i d) → (leaf : Leaf) → Contains (take (i + 1) leaves) leaf → IsAskedIn unicode matchers new leaf
asked_more unicode matchers leaves i d old new inside kept before here leaf there =
    let parts = Contains-push_cases (take i leaves) (get_or leaves i d) leaf (subst (λ (l : List Leaf). Contains l leaf) (take_more leaves i d inside) there) in
    ⊎_elim
    (λ earlier. asked_kept unicode matchers old new leaf kept (before leaf earlier))
    (λ same. subst (λ (l : Leaf). IsAskedIn unicode matchers new l) same here)
    parts

some_at : (o : Option Leaf) (P : Leaf → Type 0) (leaf : Leaf) → IfSome o P → o ≡ Some leaf → P leaf
some_at o P leaf h is = let Holds : Option Leaf → Type 0 = λ v. IfSome v P in subst Holds is h

-- the leaves of look-arounds are asked
pub looks_asked : (unicode : Bool) (matchers : List CharClassMatcher) (set : LeafSet) (one two three four : List Question)
    → KeepsQuestions one two → KeepsQuestions two three → KeepsQuestions three four
    → IfSome set.first (IsAskedIn unicode matchers one) → IfSome set.second (IsAskedIn unicode matchers two)
    → IfSome set.third (IsAskedIn unicode matchers three) → IfSome set.fourth (IsAskedIn unicode matchers four)
    → (leaf : Leaf) → HasLeaf set leaf → IsAskedIn unicode matchers four leaf
looks_asked unicode matchers set one two three four kept_two kept_three kept_four first second third fourth leaf has =
    let to_four = λ (asked : IsAskedIn unicode matchers three leaf). asked_kept unicode matchers three four leaf kept_four asked in
    let to_three = λ (asked : IsAskedIn unicode matchers two leaf). asked_kept unicode matchers two three leaf kept_three asked in
    let to_two = λ (asked : IsAskedIn unicode matchers one leaf). asked_kept unicode matchers one two leaf kept_two asked in
    ⊎_elim
    (λ is. to_four (to_three (to_two (some_at set.first (IsAskedIn unicode matchers one) leaf first is))))
    (⊎_elim
    (λ is. to_four (to_three (some_at set.second (IsAskedIn unicode matchers two) leaf second is)))
    (⊎_elim
    (λ is. to_four (some_at set.third (IsAskedIn unicode matchers three) leaf third is))
    (λ is. some_at set.fourth (IsAskedIn unicode matchers four) leaf fourth is)))
    has
