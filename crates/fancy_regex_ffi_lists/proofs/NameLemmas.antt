-- The lines of the names of groups.
use Rattle.std.specs.Prelude.{Some, chars, IsUtf8}
use Rattle.std.proofs.Common.{◌≡◌, ℕ, zero, suc, ◌+◌, ◌-◌, ◌<◌, List, [], ◌∷◌, ◌++◌, Option, ap, sym, ◌∙◌, arith, append_assoc}
use Rattle.std.proofs.lemmas.Str.{encodes-chars}
use Rattle.fancy_regex_tree.specs.Numbering.{Names}
use Rattle.fancy_regex_search.specs.GroupNames.{name_at}
use Rattle.fancy_regex_ffi_lists.specs.Names.{name_line, name_lines}

-- the line of a name is the name and a newline
pub line_of_name : (name : List ℕ) → IsUtf8 name → name_line (Some (chars name)) ≡ name ++ (10 ∷ [])
line_of_name name utf8 = ap (λ (t : List ℕ). t ++ (10 ∷ [])) (encodes-chars name utf8)

-- a name and a newline are written
pub line_written : (old name between new : List ℕ) → between ≡ old ++ name → new ≡ between ++ (10 ∷ []) → new ≡ old ++ (name ++ (10 ∷ []))
line_written old name between new first second = second ∙ ap (λ (t : List ℕ). t ++ (10 ∷ [])) first ∙ append_assoc old name (10 ∷ [])

-- the lines from a group on begin with its own
pub line_next : (names : Names) (count k : ℕ) → k < count → name_lines names (count - k) k ≡ name_line (name_at names k) ++ name_lines names (count - (k + 1)) (k + 1)
line_next names count k inside =
    let one_more : count - k ≡ suc (count - (k + 1)) = omega (arith, inside) in
    ap (λ (n : ℕ). name_lines names n k) one_more

-- a line more is written
pub lines_more : (names : Names) (count k : ℕ) (name : Option (List ℕ)) (line text after all : List ℕ) → k < count → name ≡ name_at names k → after ≡ text ++ line → name_line name ≡ line
    → text ++ name_lines names (count - k) k ≡ all → after ++ name_lines names (count - (k + 1)) (k + 1) ≡ all
lines_more names count k name line text after all inside named more is so_far =
    ap (λ (t : List ℕ). t ++ name_lines names (count - (k + 1)) (k + 1)) more
    ∙ ap (λ (l : List ℕ). (text ++ l) ++ name_lines names (count - (k + 1)) (k + 1)) (sym is)
    ∙ append_assoc text (name_line name) (name_lines names (count - (k + 1)) (k + 1))
    ∙ ap (λ (n : Option (List ℕ)). text ++ (name_line n ++ name_lines names (count - (k + 1)) (k + 1))) named
    ∙ ap (λ (l : List ℕ). text ++ l) (sym (line_next names count k inside))
    ∙ so_far
