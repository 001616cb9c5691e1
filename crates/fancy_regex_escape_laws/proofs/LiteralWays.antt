-- The ways of a row of literals.
use Rattle.std.proofs.Common.{◌≡◌, ◌≢◌, ℕ, ◌+◌, Bool, true, false, cond, List, [], ◌∷◌, ◌++◌, length, drop, Option, Some, None, nat_eq, ◌==◌, refl, sym, ap, ◌∙◌, arith, append_assoc, append-nil, length-append, drop-drop, eq-eqb, encode_utf8, encode_utf8_all}
use Rattle.std.specs.List.{starts_with, flat_map}
use Rattle.std.specs.Char.{IsScalar, len_utf8}
use Rattle.std.specs.Str.{all_scalars}
use Rattle.std.proofs.lemmas.Bool.{cond-true, cond-false, and_parts, eqb-true, false≢true}
use Rattle.std.proofs.lemmas.List.Prefix.{front_rest}
use Rattle.std.proofs.lemmas.Str.{length-encode}
use Rattle.regex_hir.specs.Text.{char_at}
use Rattle.regex_hir.proofs.TextLemmas.{char_at_from, char_at_parts}
use Rattle.fancy_regex_tree.specs.Tree.{Text, Tree, literal, concat, trees}
use Rattle.fancy_regex_tree.specs.TreeBuilders.{without_empty, joined}
use Rattle.fancy_regex_meaning.specs.Groups.{bodies, row_bodies, group_count}
use Rattle.fancy_regex_meaning.specs.Ways.{MatchState, Setting, Moves, Meaning, with_position, character, is_literal, for_some, all_of, meaning, meanings, ways, call_ways, max_open_calls}
use Rattle.fancy_regex_escape_laws.specs.Literals.{literals, plain_tree}
use Rattle.fancy_regex_escape_laws.specs.PlainSearch.{past_needle}
use Rattle.fancy_regex_escape_laws.proofs.OccurrenceLemmas.{begins_parts, begins_from}

-- the text goes on with these bytes
abbrev pub is_here : List ℕ → List ℕ → MatchState → Bool
is_here text needle w = starts_with nat_eq (drop w.position text) needle

-- The moves lead past the bytes where the text goes on with them, and else nowhere.
pub record IsPlain (text needle : List ℕ) (moves : Moves) : Type 0 where
  pub hit : (w : MatchState) → is_here text needle w ≡ true → moves w ≡ with_position w (w.position + length needle) ∷ []
  pub miss : (w : MatchState) → is_here text needle w ≡ false → moves w ≡ []

pub plain_moves : (text needle : List ℕ) (moves : Moves) → IsPlain text needle moves → (w : MatchState) → moves w ≡ past_needle text needle w
plain_moves text needle moves p w = at (is_here text needle w) refl
  where
    at : (v : Bool) → is_here text needle w ≡ v → moves w ≡ past_needle text needle w
    at true e = p.hit w e ∙ sym (cond-true _ _ [] e)
    at false e = p.miss w e ∙ sym (cond-false _ (with_position w (w.position + length needle) ∷ []) [] e)

-- one character
module _ (s : Setting) (c : ℕ) (scalar : IsScalar c) where
  abbrev one : Moves
  one = character s (is_literal s c false)

  abbrev tested : Option ℕ → MatchState → List MatchState
  tested o w = for_some (λ d. cond (d == c) (with_position w (w.position + len_utf8 d) ∷ []) []) o

  passes_not : (w : MatchState) → is_here s.text (encode_utf8 c) w ≡ false → (d : ℕ) → char_at s.text w.position ≡ Some d → (d == c) ≡ false
  passes_not w e d found = at (d == c) refl
    where
      at : (v : Bool) → (d == c) ≡ v → v ≡ false
      at false same = refl
      at true same =
          let here : char_at s.text w.position ≡ Some c = found ∙ ap Some (eqb-true d c same) in
          absurd (false≢true (sym e ∙ begins_from (drop w.position s.text) (encode_utf8 c) _ (char_at_parts s.text w.position c here).1))

  misses : (w : MatchState) → is_here s.text (encode_utf8 c) w ≡ false → (o : Option ℕ) → char_at s.text w.position ≡ o → tested o w ≡ []
  misses w e None found = refl
  misses w e (Some d) found = cond-false _ _ _ (passes_not w e d found)

  pub plain_character : IsPlain s.text (encode_utf8 c) one
  plain_character = record {
    hit = λ w e.
        let here = char_at_from s.text w.position c _ scalar (begins_parts (drop w.position s.text) (encode_utf8 c) e) in
        ap (λ o. tested o w) here
        ∙ cond-true _ _ _ (eq-eqb c c refl)
        ∙ ap (λ (n : ℕ). with_position w (w.position + n) ∷ []) (sym (length-encode c));
    miss = λ w e. misses w e (char_at s.text w.position) refl;
  }

-- two moves, one after the other
module _ (text first second : List ℕ) (m : Meaning) (ms : List Meaning) (p : IsPlain text first m.from) (q : IsPlain text second (all_of ms)) where
  -- after the first
  abbrev after : MatchState → MatchState
  after w = with_position w (w.position + length first)

  both_here : (w : MatchState) → is_here text first w ≡ true → is_here text second (after w) ≡ true → is_here text (first ++ second) w ≡ true
  both_here w a b =
      begins_from (drop w.position text) (first ++ second) _
      (begins_parts (drop w.position text) first a
      ∙ ap (λ rest. first ++ rest) (drop-drop (length first) w.position text ∙ begins_parts (drop (w.position + length first) text) second b)
      ∙ sym (append_assoc first second _))

  parts_here : (w : MatchState) → is_here text (first ++ second) w ≡ true → (is_here text first w ≡ true) × (is_here text second (after w) ≡ true)
  parts_here w e =
      let is : drop w.position text ≡ first ++ (second ++ drop (length (first ++ second)) (drop w.position text)) =
      begins_parts (drop w.position text) (first ++ second) e ∙ append_assoc first second _ in (
        begins_from _ first _ is,
        begins_from _ second _ (sym (drop-drop (length first) w.position text) ∙ front_rest _ first _ is),
      )

  in_turn : (w : MatchState) → is_here text first w ≡ true → all_of (m ∷ ms) w ≡ all_of ms (after w)
  in_turn w e = ap (flat_map (all_of ms)) (p.hit w e) ∙ append-nil (all_of ms (after w))

  pub plain_row : IsPlain text (first ++ second) (all_of (m ∷ ms))
  plain_row = record {
    hit = λ w e.
        let parts = parts_here w e in
        in_turn w parts.0
        ∙ q.hit (after w) parts.1
        ∙ ap (λ (n : ℕ). with_position w n ∷ []) (let n : w.position + length first + length second ≡ w.position + length (first ++ second) = omega (arith, length-append first second) in n);
    miss = λ w e. at w e (is_here text first w) refl;
  }
    where
      after_not : (w : MatchState) → is_here text (first ++ second) w ≡ false → is_here text first w ≡ true → (v : Bool) → is_here text second (after w) ≡ v → v ≡ false
      after_not w e a false b = refl
      after_not w e a true b = absurd (false≢true (sym e ∙ both_here w a b))

      at : (w : MatchState) → is_here text (first ++ second) w ≡ false → (v : Bool) → is_here text first w ≡ v → all_of (m ∷ ms) w ≡ []
      at w e false a = ap (flat_map (all_of ms)) (p.miss w a)
      at w e true a = in_turn w a ∙ q.miss (after w) (after_not w e a _ refl)

plain_nothing : (text : List ℕ) → IsPlain text [] (all_of [])
plain_nothing text = record {
  hit = λ w e. ap (λ (n : ℕ). with_position w n ∷ []) (let n : w.position ≡ w.position + 0 = omega arith in n);
  miss = λ w e. absurd (false≢true (sym e ∙ begins_from (drop w.position text) [] _ refl));
}

module _ (s : Setting) (groups : List Tree) (call : ℕ → Moves) where
  abbrev row : ℕ → Text → List Meaning
  row n t = meanings s groups call n (trees (literals false t))

  pub plain_literals : (n : ℕ) (t : Text) → all_scalars t ≡ true → IsPlain s.text (encode_utf8_all t) (all_of (row n t))
  unfolding meaning
  plain_literals n [] ok = plain_nothing s.text
  plain_literals n (c ∷ t) ok =
      let parts = and_parts _ _ ok in
      let next : ℕ = n + group_count (literal (c ∷ []) false) in
      plain_row s.text (encode_utf8 c) (encode_utf8_all t) (meaning s groups call n (literal (c ∷ []) false)) (row next t)
      (plain_character s c parts.0) (plain_literals next t parts.1)

-- no literal is empty
none_empty : (t : Text) → without_empty (literals false t) ≡ literals false t
none_empty [] = refl
none_empty (c ∷ t) = ap (λ ts. literal (c ∷ []) false ∷ ts) (none_empty t)

-- a fact of the tree of a text is one of its literals joined
pub of_joined : (t : Text) → plain_tree t ≡ joined concat (literals false t)
of_joined t = ap (joined concat) (none_empty t)

row_without_bodies : (t : Text) → row_bodies (trees (literals false t)) ≡ []
unfolding bodies
row_without_bodies [] = refl
row_without_bodies (c ∷ t) = row_without_bodies t

joined_without_bodies : (t : Text) → bodies (joined concat (literals false t)) ≡ []
unfolding bodies
joined_without_bodies [] = refl
joined_without_bodies (c ∷ []) = refl
joined_without_bodies (c ∷ d ∷ t) = row_without_bodies (c ∷ d ∷ t)

pub without_bodies : (t : Text) → bodies (plain_tree t) ≡ []
without_bodies t = ap bodies (of_joined t) ∙ joined_without_bodies t

joined_ways : (s : Setting) (groups : List Tree) (n : ℕ) (t : Text) → all_scalars t ≡ true → t ≢ [] → (w : MatchState) →
    ways s groups n (joined concat (literals false t)) w ≡ past_needle s.text (encode_utf8_all t) w
unfolding ways meaning
joined_ways s groups n [] ok some w = absurd (some refl)
joined_ways s groups n (c ∷ []) ok some w =
    plain_moves s.text (encode_utf8 c) _ (plain_character s c (and_parts _ _ ok).0) w
    ∙ ap (λ needle. past_needle s.text needle w) (sym (append-nil (encode_utf8 c)))
joined_ways s groups n (c ∷ d ∷ t) ok some w =
    plain_moves s.text (encode_utf8_all (c ∷ d ∷ t)) _ (plain_literals s groups (call_ways s groups (max_open_calls groups) []) n (c ∷ d ∷ t) ok) w

pub plain_ways : (s : Setting) (groups : List Tree) (n : ℕ) (t : Text) → all_scalars t ≡ true → t ≢ [] → (w : MatchState) →
    ways s groups n (plain_tree t) w ≡ past_needle s.text (encode_utf8_all t) w
plain_ways s groups n t ok some w = ap (λ tree. ways s groups n tree w) (of_joined t) ∙ joined_ways s groups n t ok some w
