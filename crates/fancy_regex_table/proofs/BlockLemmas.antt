-- Blocks of 64 numbers, as they are added.
use Rattle.std.proofs.Common.{Bool, true, false, Result, Ok, Err, OnOk, ◌≡◌, ◌∙◌, ◌⊎◌, not, ℕ, ◌+◌, ◌-◌, ◌*◌, ◌/◌, ◌<◌, ◌≤◌, List, ◌++◌, ◌==◌, Vec, length, get_or, set, replicate, drop, refl, sym, ap, subst, arith, ⊎_elim, length-append, length-set}
use Rattle.std.specs.Prelude.{if◌then◌else◌}
use Rattle.std.specs.Int.{bit_at}
use Rattle.std.specs.declared.alloc.Global.{Global}
use Rattle.std.proofs.lemmas.Bool.{cases_eq, cases_lt}
use Rattle.std.proofs.lemmas.List.{get_or_append_left, get_or-append_right, get_or-set_same, get_or-set_other, get_or-replicate, get_or_past, get_or_read, length-replicate}
use Rattle.fancy_regex_table.specs.Blocks.{AreInside, AreWhole, IsBlock, AreRows, AreUniform}
use Rattle.std.proofs.lemmas.List.Elements.{All-get_or}
use Rattle.std.proofs.lemmas.Nat.Bits.{bit_at-zero, bit_at_ones}
use Rattle.fancy_regex_table.specs.Questions.{number_at, number_from, bits_at, with_answer, AreFilled}
use Rattle.fancy_regex_table.proofs.QuestionLemmas.{number_more, number_done}

-- the block is there when more come, and no other numbers are asked of it
pub block_more : (answers more : List ℕ) (block : ℕ) (f : ℕ → ℕ) → IsBlock answers block f → IsBlock (answers ++ more) block f
block_more answers more block f is = record {
  inside = let inside = is.inside in omega (arith, inside, length-append answers more);
  numbers = λ place lt pos. let inside = is.inside in get_or_append_left answers more 0 (block * 64 + place) (omega (arith, inside, lt)) ∙ is.numbers place lt pos;
}

pub block_same : (answers : List ℕ) (block : ℕ) (f g : ℕ → ℕ) → IsBlock answers block f → ((place : ℕ) → place < 64 → f place ≡ g place) → IsBlock answers block g
block_same answers block f g is same = record { inside = is.inside; numbers = λ place lt pos. is.numbers place lt pos ∙ same place lt }

-- the first block has no numbers of a row
pub no_block : (answers : List ℕ) (f : ℕ → ℕ) → AreWhole answers → IsBlock answers 0 f
no_block answers f whole = record {
  inside = let one = whole.one in omega (arith, one);
  numbers = λ place lt pos. absurd (omega (arith, pos));
}

-- a block that is added
pub new_block : (answers more : List ℕ) → AreWhole answers → length more ≡ 64 → IsBlock (answers ++ more) (length answers / 64) (λ place. get_or more place 0)
new_block answers more whole long =
    let is = whole.whole in
    let block = length answers / 64 in
    record {
      inside = omega (arith, is, long, length-append answers more);
      numbers = λ place lt pos.
          let start : length answers ≤ block * 64 + place = omega (arith, is) in
          let offset : block * 64 + place - length answers ≡ place = omega (arith, is) in
          get_or-append_right answers more (length answers) (block * 64 + place) 0 refl start ∙ ap (λ k. get_or more k 0) offset;
    }

pub whole_more : (answers more : List ℕ) → AreWhole answers → length more ≡ 64 → AreWhole (answers ++ more)
whole_more answers more whole long =
    let is = whole.whole in
    let one = whole.one in
    let long_all = length-append answers more in
    record { one = omega (arith, one, long_all); whole = omega (arith, is, long, long_all) }

pub rows_more : (bits : List (Vec ℕ Global)) (rows answers more : List ℕ) → AreRows bits rows answers → AreRows bits rows (answers ++ more)
rows_more bits rows answers more are = record {
  wide = are.wide;
  blocks = λ row lt. block_more answers more (get_or rows row 0) (number_at bits row) (are.blocks row lt);
}

pub uniform_more : (uniform answers more : List ℕ) → AreUniform uniform answers → AreUniform uniform (answers ++ more)
uniform_more uniform answers more are = record {
  wide = are.wide;
  blocks = λ number lt. block_more answers more (get_or uniform number 0) (λ _. number) (are.blocks number lt);
}

-- a table of blocks, with another block for one entry
abbrev AreEntries : (ℕ → ℕ → ℕ) → ℕ → List ℕ → List ℕ → Type 0
AreEntries f n entries answers = (k : ℕ) → k < n → IsBlock answers (get_or entries k 0) (f k)

entry_set : (f : ℕ → ℕ → ℕ) (n : ℕ) (entries answers : List ℕ) (at block : ℕ) → length entries ≡ n → at < n → AreEntries f n entries answers
    → IsBlock answers block (f at) → AreEntries f n (set entries at block) answers
entry_set f n entries answers at block long inside are is k lt =
    ⊎_elim
    (λ (here : k ≡ at).
    subst (λ (j : ℕ). IsBlock answers (get_or (set entries at block) j 0) (f j)) (sym here)
    (subst (λ (b : ℕ). IsBlock answers b (f at)) (sym (get_or-set_same entries at block 0 (omega (arith, long, inside)))) is))
    (λ (other : k ≡ at → ⊥).
    subst (λ (b : ℕ). IsBlock answers b (f k)) (sym (get_or-set_other entries at k block 0 other)) (are k lt))
    (cases_eq k at)

pub row_set : (bits : List (Vec ℕ Global)) (rows answers : List ℕ) (row block : ℕ) → row < 1024 → AreRows bits rows answers
    → IsBlock answers block (number_at bits row) → AreRows bits (set rows row block) answers
row_set bits rows answers row block inside are is = record {
  wide = length-set rows row block ∙ are.wide;
  blocks = entry_set (number_at bits) 1024 rows answers row block are.wide inside are.blocks is;
}

pub uniform_set : (uniform answers : List ℕ) (number block : ℕ) → number < 256 → AreUniform uniform answers
    → IsBlock answers block (λ _. number) → AreUniform (set uniform number block) answers
uniform_set uniform answers number block inside are is = record {
  wide = length-set uniform number block ∙ are.wide;
  blocks = entry_set (λ k _. k) 256 uniform answers number block are.wide inside are.blocks is;
}

-- no block yet but the first
pub zero_at : (n k : ℕ) → get_or {A = ℕ} (replicate n 0) k 0 ≡ 0
zero_at n k =
    ⊎_elim
    (λ (low : k < n). get_or-replicate n k 0 0 low)
    (λ (high : n ≤ k). get_or_past (replicate {A = ℕ} n 0) k 0 (let long : length (replicate {A = ℕ} n 0) ≡ n = length-replicate n 0 in omega (arith, long, high)))
    (cases_lt k n)

pub first_block : (answers : List ℕ) → length answers ≡ 64 → AreWhole answers
first_block answers long = record { one = omega (arith, long); whole = omega (arith, long) }

pub no_rows : (bits : List (Vec ℕ Global)) (answers : List ℕ) → AreWhole answers → AreRows bits (replicate 1024 0) answers
no_rows bits answers whole = record {
  wide = length-replicate {A = ℕ} 1024 0;
  blocks = λ row lt. subst (λ (b : ℕ). IsBlock answers b (number_at bits row)) (sym (zero_at 1024 row)) (no_block answers (number_at bits row) whole);
}

pub no_uniform : (answers : List ℕ) → AreWhole answers → AreUniform (replicate 256 0) answers
no_uniform answers whole = record {
  wide = length-replicate {A = ℕ} 256 0;
  blocks = λ number lt. subst (λ (b : ℕ). IsBlock answers b (λ _. number)) (sym (zero_at 256 number)) (no_block answers (λ _. number) whole);
}

-- one question more, in a loop over the bits of each
module _ (bits : List (Vec ℕ Global)) (i : ℕ) (words : Vec ℕ Global) (inside : i < length bits) (is : words ≡ get_or bits i words) where
  pub row_more : (row place number : ℕ) → number_from (with_answer number (bit_at (get_or words.items row 0) place == 1)) (bits_at (drop (i + 1) bits) row place)
      ≡ number_from number (bits_at (drop i bits) row place)
  row_more row place number =
      let f = λ (v : Vec ℕ Global). bit_at (get_or v.items row 0) place == 1 in
      ap (λ (v : Vec ℕ Global). number_from (with_answer number (f v)) (bits_at (drop (i + 1) bits) row place)) is
      ∙ number_more f bits i words number inside

  pub filled_at : AreFilled bits → length words.items ≡ 1024
  filled_at filled =
      let Filled = λ (v : Vec ℕ Global). length v.items ≡ 1024 in
      subst Filled (sym is) (All-get_or Filled bits i words inside filled)

pub row_done : (bits : List (Vec ℕ Global)) (i row place number : ℕ) → length bits ≤ i → number_from number (bits_at (drop i bits) row place) ≡ number
row_done bits i row place number past = number_done (λ (v : Vec ℕ Global). bit_at (get_or v.items row 0) place == 1) bits i number past

-- a word of zeros or of ones has one bit at each place
pub uniform_bit : (word place : ℕ) → place < 64 → (word ≡ 0) ⊎ (word ≡ 18446744073709551615) → not (word == 0) ≡ (bit_at word place == 1)
uniform_bit word place below uniform =
    ⊎_elim
    (λ (zeros : word ≡ 0). rw (zeros, bit_at-zero place) refl)
    (λ (ones : word ≡ 18446744073709551615). rw (ones, bit_at_ones 64 place below) refl)
    uniform

-- the same by the word that was read
pub row_step : (bits : List (Vec ℕ Global)) (i : ℕ) (words : Vec ℕ Global) → i < length bits → words ≡ get_or bits i words
    → (row place number word : ℕ) → AreFilled bits → row < 1024 → word ≡ get_or words.items row word
    → number_from (with_answer number (bit_at word place == 1)) (bits_at (drop (i + 1) bits) row place) ≡ number_from number (bits_at (drop i bits) row place)
row_step bits i words inside is row place number word filled below read =
    let long = filled_at bits i words inside is filled in
    ap (λ w. number_from (with_answer number (bit_at w place == 1)) (bits_at (drop (i + 1) bits) row place))
    (get_or_read words.items row word (omega (arith, long, below)) read 0)
    ∙ row_more bits i words inside is row place number

-- three facts that hold after a success give another one
pub on_ok_three : {T E : Type 0} {P Q R S : Type 0} (r : Result T E) → OnOk r P → OnOk r Q → OnOk r R → (P → Q → R → S) → OnOk r S
on_ok_three (Ok x) p q r gives = gives p q r
on_ok_three (Err e) p q r gives = tt

-- nothing is known
pub no_inside : (classes : List ℕ) → length classes ≡ 64 → AreInside (replicate 1024 0) classes
no_inside classes long row lt = omega (arith, long, zero_at 1024 row)

pub no_class : (below : Bool) (classes : List ℕ) (at number : ℕ) → classes ≡ replicate 64 0
    → ◌≡◌ {A = ℕ} (if below then get_or classes at 0 else get_or (replicate 256 0) number 0) 0
no_class true classes at number zeros = ap (λ (l : List ℕ). get_or l at 0) zeros ∙ zero_at 64 at
no_class false classes at number zeros = zero_at 256 number
