-- What stands in room that is written from its front on.
use Rattle.std.specs.Prelude.{◌≡◌, ◌⊎◌, ℕ, ◌<◌, ◌≤◌, List, ◌++◌, length, Option, IfSome, codes, slice_index_or, EachIndex}

-- The first items are those of the list, as many as there is room for; the others are as they were.
abbrev pub IsFrontOf : {X : Type 0} → List X → List X → List X → Type 0
IsFrontOf {X} items old new = EachIndex new (λ k. (k < length items → (d : X) → slice_index_or new k d ≡ slice_index_or items k d)
    × (length items ≤ k → (d : X) → slice_index_or new k d ≡ slice_index_or old k d))

-- The room, which was `old`, begins with the text, and the text is told by its length.
pub record Holds (old text room : List ℕ) (count : ℕ) : Type 0 where
  pub same_room : length room ≡ length old
  pub counts : count ≡ length text
  pub front : IsFrontOf text old room

-- Room that held a text holds it with these bytes after it.
abbrev pub Appends : List ℕ → ℕ → List ℕ → List ℕ → ℕ → Type 0
Appends room count bytes written counted = (old text : List ℕ) → Holds old text room count → Holds old (text ++ bytes) written counted

-- The room holds the text that is shown, if it is known.
abbrev pub HoldsShown : Option (List ℕ) → List ℕ → List ℕ → ℕ → Type 0
HoldsShown shown old room count = IfSome shown (λ text. Holds old text room count)

-- the bytes begin with the text, as far as there are so many
abbrev pub BeginsWith : List ℕ → List ℕ → Type 0
BeginsWith text room = EachIndex room (λ k. k < length text → (d : ℕ) → slice_index_or room k d ≡ slice_index_or text k d)

-- the text that stands for an error which cannot be shown
abbrev pub unshown_text : List ℕ
unshown_text = codes "an error of the library"

-- The text of an error is told, as it shows itself, as far as that is known; or the text that stands for it. It is not empty.
pub record IsErrorWritten (shown : Option (List ℕ)) (old room : List ℕ) (count : ℕ) : Type 0 where
  pub some : 0 < count
  pub text : HoldsShown shown old room count ⊎ ((count ≡ length unshown_text) × BeginsWith unshown_text room)
