-- What is answered about characters below U+10000, in blocks of 64.
use Rattle.std.specs.Prelude.{◌≡◌, ◌<◌, ◌≤◌, ◌+◌, ◌*◌, ◌/◌, ℕ, List, Vec, length, slice_index_or}
use Rattle.std.specs.declared.alloc.Global.{Global}
use Rattle.fancy_regex_table.specs.Questions.{number_at}
use Rattle.fancy_regex_table.specs.declared.blocks.Blocks.{Blocks}

-- there are whole blocks, and one at least
pub record AreWhole (answers : List ℕ) : Type 0 where
  pub one : 64 ≤ length answers
  pub whole : length answers ≡ 64 * (length answers / 64)

-- the block has these numbers, unless it is the first
pub record IsBlock (answers : List ℕ) (block : ℕ) (number : ℕ → ℕ) : Type 0 where
  pub inside : 64 * (block + 1) ≤ length answers
  pub numbers : (place : ℕ) → place < 64 → 0 < block → slice_index_or answers (block * 64 + place) 0 ≡ number place

-- the block of each row is there
abbrev pub AreInside : List ℕ → List ℕ → Type 0
AreInside rows answers = (row : ℕ) → row < 1024 → 64 * (slice_index_or rows row 0 + 1) ≤ length answers

-- each row has its block, or the first
pub record AreRows (bits : List (Vec ℕ Global)) (rows answers : List ℕ) : Type 0 where
  pub wide : length rows ≡ 1024
  pub blocks : (row : ℕ) → row < 1024 → IsBlock answers (slice_index_or rows row 0) (number_at bits row)

-- each number of answers has a block of it alone, or the first
pub record AreUniform (uniform answers : List ℕ) : Type 0 where
  pub wide : length uniform ≡ 256
  pub blocks : (number : ℕ) → number < 256 → IsBlock answers (slice_index_or uniform number 0) (λ _. number)

pub record AreBlocks (bits : List (Vec ℕ Global)) (blocks : Blocks) : Type 0 where
  pub whole : AreWhole blocks.answers.items
  pub rows : AreRows bits blocks.rows blocks.answers.items
  pub uniform : AreUniform blocks.uniform blocks.answers.items

-- the class of each character of the blocks, by the number of the answers about it; 0 in the first block
pub record AreClasses (answers by_answers classes : List ℕ) : Type 0 where
  pub long : length classes ≡ length answers
  pub first : (i : ℕ) → i < 64 → slice_index_or classes i 0 ≡ 0
  pub others : (i : ℕ) → 64 ≤ i → i < length answers → slice_index_or classes i 0 ≡ slice_index_or by_answers (slice_index_or answers i 0) 0
