-- Of the ways from a place, the longest is the first of those that end as late as a way ends at all.
use Rattle.std.proofs.Common.{◌≡◌, ◌∙◌, ℕ, ◌+◌, ◌<◌, ◌≤◌, ◌&&◌, ◌⊎◌, Bool, true, false, true≢false, cond, List, [], ◌∷◌, Option, Some, None, nat_le, refl, sym, ap, ap₂, subst, inl, inr, arith, lt-ltb, le-ltb, le-leb, leb-true}
use Rattle.std.specs.List.{filter}
use Rattle.std.specs.Prelude.{if◌then◌else◌}
use Rattle.std.proofs.lemmas.Bool.{and_parts, cases_lt}
use Rattle.std.proofs.lemmas.Option.{none-some, same_Some}
use Rattle.fancy_regex_meaning.specs.Searches.{first_item, first_some, farther, first_longest, is_admitted}
use Rattle.fancy_regex_meaning.specs.Ways.{MatchState}
use Rattle.fancy_regex_class.specs.RunInputs.{search_for}
use Rattle.fancy_regex_class.specs.declared.input.RunInput.{RunInput}
use Rattle.fancy_regex_regular.specs.Ends.{first_in}

-- whether a way ends between these places
abbrev inside : ℕ → ℕ → MatchState → Bool
inside least stop w = nat_le least w.position && nat_le w.position stop

inside_is : (least stop : ℕ) (w : MatchState) → least ≤ w.position → w.position ≤ stop → inside least stop w ≡ true
inside_is least stop w low high = ap₂ ◌&&◌ (le-leb least w.position low) (le-leb w.position stop high)

inside_between : (least stop : ℕ) (w : MatchState) → inside least stop w ≡ true → (least ≤ w.position) × (w.position ≤ stop)
inside_between least stop w e =
    let both = and_parts (nat_le least w.position) (nat_le w.position stop) e in
    (leb-true least w.position both.0, leb-true w.position stop both.1)

-- a truth value, with a proof of which
kind_of : (b : Bool) → (b ≡ true) ⊎ (b ≡ false)
kind_of true = inl refl
kind_of false = inr refl

-- the first of a list whose first element is in it, or not
in_first : (b : Bool) (v : MatchState) (us : List MatchState) → b ≡ true → first_item (cond b (v ∷ us) us) ≡ Some v
in_first true v us e = refl
in_first false v us e = absurd (true≢false (sym e))

out_first : (b : Bool) (v : MatchState) (us : List MatchState) → b ≡ false → first_item (cond b (v ∷ us) us) ≡ first_item us
out_first true v us e = absurd (true≢false e)
out_first false v us e = refl

-- a way that is found ends between the places
pub found_between : (least stop : ℕ) (ws : List MatchState) (w : MatchState) → first_in least stop ws ≡ Some w → (least ≤ w.position) × (w.position ≤ stop)
found_between least stop [] w e = absurd (none-some w e)
found_between least stop (v ∷ vs) w e =
    elim (kind_of (inside least stop v)) [
      | inl fits ↦
          let same = same_Some v w (sym (in_first (inside least stop v) v _ fits) ∙ e) in
          subst (λ (u : MatchState). (least ≤ u.position) × (u.position ≤ stop)) same (inside_between least stop v fits)
      | inr out ↦ found_between least stop vs w (sym (out_first (inside least stop v) v _ out) ∙ e)
    ]

-- none ends past the last place
pub none_over : (least stop : ℕ) (ws : List MatchState) → stop < least → first_in least stop ws ≡ None
none_over least stop [] over = refl
none_over least stop (v ∷ vs) over =
    elim (kind_of (inside least stop v)) [
      | inl fits ↦ let both = inside_between least stop v fits in absurd {0} (omega (arith, both.0, both.1))
      | inr out ↦ out_first (inside least stop v) v _ out ∙ none_over least stop vs over
    ]

-- the first that ends at a place or later is the first that ends where it does, or later
pub first_there : (least stop : ℕ) (ws : List MatchState) (w : MatchState) → first_in least stop ws ≡ Some w → first_in w.position stop ws ≡ Some w
first_there least stop [] w e = absurd (none-some w e)
first_there least stop (v ∷ vs) w e =
    elim (kind_of (inside least stop v)) [
      | inl fits ↦
          let same = same_Some v w (sym (in_first (inside least stop v) v _ fits) ∙ e) in
          let both = inside_between least stop v fits in
          subst (λ (u : MatchState). first_in u.position stop (v ∷ vs) ≡ Some u) same
          (in_first (inside v.position stop v) v _ (inside_is v.position stop v (omega arith) both.1))
      | inr out ↦
          let later = sym (out_first (inside least stop v) v (filter (inside least stop) vs) out) ∙ e in
          let between = found_between least stop vs w later in
          elim (kind_of (inside w.position stop v)) [
            | inl fits ↦
                let both = inside_between w.position stop v fits in
                absurd (true≢false (sym (inside_is least stop v (omega (arith, both.0, between.0)) both.1) ∙ out))
            | inr other ↦ out_first (inside w.position stop v) v _ other ∙ first_there least stop vs w later
          ]
    ]

-- a way that ends past a place does not count where none does that ends there or later
pub none_later : (least more stop : ℕ) (ws : List MatchState) → least ≤ more → first_in least stop ws ≡ None → first_in more stop ws ≡ None
none_later least more stop [] le e = refl
none_later least more stop (v ∷ vs) le e =
    elim (kind_of (inside least stop v)) [
      | inl fits ↦ absurd (none-some v (sym e ∙ in_first (inside least stop v) v _ fits))
      | inr out ↦
          let rest = none_later least more stop vs le (sym (out_first (inside least stop v) v (filter (inside least stop) vs) out) ∙ e) in
          elim (kind_of (inside more stop v)) [
            | inl fits ↦
                let both = inside_between more stop v fits in
                absurd (true≢false (sym (inside_is least stop v (omega (arith, both.0)) both.1) ∙ out))
            | inr other ↦ out_first (inside more stop v) v _ other ∙ rest
          ]
    ]

-- the ways that a search admits
abbrev admitted : Bool → RunInput → List MatchState → List MatchState
admitted longest input = filter (is_admitted (search_for longest input))

first_here : (low b : Bool) (v : MatchState) (us xs : List MatchState) → low ≡ true → first_item us ≡ first_item xs
    → first_item (cond (b && true) (v ∷ us) us) ≡ first_item (cond (low && b) (v ∷ xs) xs)
first_here true true v us xs e h = refl
first_here true false v us xs e h = h
first_here false b v us xs e h = absurd (true≢false (sym e))

-- the first of them is the first that ends anywhere in the range
pub first_at_all : (longest : Bool) (input : RunInput) (ws : List MatchState) → first_item (admitted longest input ws) ≡ first_in 0 input.range.end ws
first_at_all longest input [] = refl
first_at_all longest input (v ∷ vs) =
    first_here (nat_le 0 v.position) (nat_le v.position input.range.end) v (admitted longest input vs) (filter (inside 0 input.range.end) vs)
    (le-leb 0 v.position (omega arith)) (first_at_all longest input vs)

-- of a way and the longest of those after it
stays : (v u : MatchState) → u.position ≤ v.position → farther v (Some u) ≡ v
stays v u low = ap (λ (b : Bool). if b then u else v) (le-ltb v.position u.position low)

goes : (v u : MatchState) → v.position < u.position → farther v (Some u) ≡ u
goes v u later = ap (λ (b : Bool). if b then u else v) (lt-ltb v.position u.position later)

none_and : (b : Bool) → (b && false) ≡ false
none_and true = refl
none_and false = refl

module _ (input : RunInput) where
  abbrev stop : ℕ
  stop = input.range.end

  abbrev pub longest_of : List MatchState → Option MatchState
  longest_of ws = first_longest (admitted true input ws)

  -- with one more way, which is admitted, or not
  more_in : (v : MatchState) (vs : List MatchState) → nat_le v.position stop ≡ true → longest_of (v ∷ vs) ≡ Some (farther v (longest_of vs))
  more_in v vs e = ap (λ (b : Bool). first_longest (cond (b && true) (v ∷ admitted true input vs) (admitted true input vs))) e

  more_out : (v : MatchState) (vs : List MatchState) → nat_le v.position stop ≡ false → longest_of (v ∷ vs) ≡ longest_of vs
  more_out v vs e = ap (λ (b : Bool). first_longest (cond (b && true) (v ∷ admitted true input vs) (admitted true input vs))) e

  out_of : (least : ℕ) (v : MatchState) → nat_le v.position stop ≡ false → inside least stop v ≡ false
  out_of least v e = ap (λ (b : Bool). nat_le least v.position && b) e ∙ none_and (nat_le least v.position)

  -- a way that ends before a place is not the first that ends there or later
  early : (least : ℕ) (v : MatchState) (b : Bool) → inside least stop v ≡ b → v.position < least → b ≡ false
  early least v true is low = let both = inside_between least stop v is in absurd {0} (omega (arith, both.0))
  early least v false is low = refl

  passed_over : (least : ℕ) (v : MatchState) (vs : List MatchState) → v.position < least → first_in least stop (v ∷ vs) ≡ first_in least stop vs
  passed_over least v vs low = out_first (inside least stop v) v _ (early least v (inside least stop v) refl low)

  here : (v w : MatchState) (vs : List MatchState) → nat_le v.position stop ≡ true → v ≡ w → first_in w.position stop (v ∷ vs) ≡ Some w
  here v w vs fits same =
      subst (λ (u : MatchState). first_in u.position stop (v ∷ vs) ≡ Some u) same
      (in_first (inside v.position stop v) v _ (inside_is v.position stop v (omega arith) (leb-true v.position stop fits)))

  -- where there is no longest, there is none
  none_of : (least : ℕ) (ws : List MatchState) → longest_of ws ≡ None → first_in least stop ws ≡ None
  none_of least [] e = refl
  none_of least (v ∷ vs) e =
      elim (kind_of (nat_le v.position stop)) [
        | inl fits ↦ absurd (none-some _ (sym e ∙ more_in v vs fits))
        | inr out ↦ out_first (inside least stop v) v _ (out_of least v out) ∙ none_of least vs (sym (more_out v vs out) ∙ e)
      ]

  -- what is known of the longest: it is the first that ends where it does, and none ends later
  pub record IsLongest (ws : List MatchState) (w : MatchState) : Type 0 where
    pub there : first_in w.position stop ws ≡ Some w
    pub last : first_in (w.position + 1) stop ws ≡ None

  alone : (v w : MatchState) (vs : List MatchState) → nat_le v.position stop ≡ true → longest_of vs ≡ None → v ≡ w → IsLongest (v ∷ vs) w
  alone v w vs fits none same = record {
    there = here v w vs fits same;
    last = subst (λ (u : MatchState). first_in (u.position + 1) stop (v ∷ vs) ≡ None) same
        (passed_over (v.position + 1) v vs (omega arith) ∙ none_of (v.position + 1) vs none);
  }

  of_two : (v u w : MatchState) (vs : List MatchState) → nat_le v.position stop ≡ true → IsLongest vs u → farther v (Some u) ≡ w → IsLongest (v ∷ vs) w
  of_two v u w vs fits rest e =
      elim (cases_lt v.position u.position) [
        | inl later ↦ subst (IsLongest (v ∷ vs)) (sym (goes v u later) ∙ e) (record {
          there = passed_over u.position v vs later ∙ rest.there;
          last = passed_over (u.position + 1) v vs (omega arith) ∙ rest.last;
        })
        | inr low ↦
            let same = sym (stays v u low) ∙ e in
            record {
              there = here v w vs fits same;
              last = subst (λ (x : MatchState). first_in (x.position + 1) stop (v ∷ vs) ≡ None) same
                  (passed_over (v.position + 1) v vs (omega arith) ∙ none_later (u.position + 1) (v.position + 1) stop vs (omega arith) rest.last);
            }
      ]

  more_is : (v w : MatchState) (vs : List MatchState) → nat_le v.position stop ≡ true → (o : Option MatchState) → longest_of vs ≡ o
      → ((u : MatchState) → longest_of vs ≡ Some u → IsLongest vs u) → farther v o ≡ w → IsLongest (v ∷ vs) w
  more_is v w vs fits None is rest e = alone v w vs fits is e
  more_is v w vs fits (Some u) is rest e = of_two v u w vs fits (rest u is) e

  pub longest_is : (ws : List MatchState) (w : MatchState) → longest_of ws ≡ Some w → IsLongest ws w
  longest_is [] w e = absurd (none-some w e)
  longest_is (v ∷ vs) w e =
      elim (kind_of (nat_le v.position stop)) [
        | inr out ↦
            let rest = longest_is vs w (sym (more_out v vs out) ∙ e) in
            record {
              there = out_first (inside w.position stop v) v _ (out_of w.position v out) ∙ rest.there;
              last = out_first (inside (w.position + 1) stop v) v _ (out_of (w.position + 1) v out) ∙ rest.last;
            }
        | inl fits ↦ more_is v w vs fits (longest_of vs) refl (longest_is vs) (same_Some (farther v (longest_of vs)) w (sym (more_in v vs fits) ∙ e))
      ]

  -- two that end last are one
  same_end : (ws : List MatchState) (u w : MatchState) → IsLongest ws u → IsLongest ws w → u ≡ w
  same_end ws u w one two =
      elim (cases_lt u.position w.position) [
        | inl later ↦ absurd (none-some w (sym (none_later (u.position + 1) w.position stop ws (omega arith) one.last) ∙ two.there))
        | inr low ↦ elim (cases_lt w.position u.position) [
          | inl later ↦ absurd (none-some u (sym (none_later (w.position + 1) u.position stop ws (omega arith) two.last) ∙ one.there))
          | inr high ↦
              let at : u.position ≡ w.position = omega arith in
              same_Some u w (sym one.there ∙ ap (λ (p : ℕ). first_in p stop ws) at ∙ two.there)
        ]
      ]

  is_by : (ws : List MatchState) (w : MatchState) (o : Option MatchState) → longest_of ws ≡ o → IsLongest ws w → o ≡ Some w
  is_by ws w None is longest = absurd (none-some w (sym (none_of w.position ws is) ∙ longest.there))
  is_by ws w (Some u) is longest = ap Some (same_end ws u w (longest_is ws u is) longest)

  -- so what ends last is the longest
  pub is_longest : (ws : List MatchState) (w : MatchState) → IsLongest ws w → longest_of ws ≡ Some w
  is_longest ws w longest = is_by ws w (longest_of ws) refl longest

-- where no first way is, there is no longest
pub none_longest : (us : List MatchState) → first_item us ≡ None → first_longest us ≡ None
none_longest [] e = refl
none_longest (u ∷ us) e = absurd (none-some u (sym e))

-- The first start that has an answer of the one kind has one of the other: where it is found there, it is the first of its kind.
module _ {A B : Type 0} (f : ℕ → Option A) (g : ℕ → Option B) (same : (p : ℕ) → f p ≡ None → g p ≡ None) where
  -- what was found of the one kind, and the place where
  pub record IsFirstStart (ps : List ℕ) (m : A) : Type 0 where
    pub start : ℕ
    pub found : f start ≡ Some m
    pub other : (n : B) → g start ≡ Some n → first_some g ps ≡ Some n

  none_here : (o rest r : Option B) → o ≡ None → rest ≡ r → ◌≡◌ {A = Option B} (elim o [ None ↦ rest | Some y ↦ Some y ]) r
  none_here None rest r e h = h
  none_here (Some y) rest r e h = absurd (none-some y (sym e))

  some_here : (o rest : Option B) (n : B) → o ≡ Some n → ◌≡◌ {A = Option B} (elim o [ None ↦ rest | Some y ↦ Some y ]) (Some n)
  some_here None rest n e = absurd (none-some n e)
  some_here (Some y) rest n e = e

  start_here : (p : ℕ) (ps : List ℕ) (m : A) (o : Option A) → f p ≡ o
      → ◌≡◌ {A = Option A} (elim o [ None ↦ first_some f ps | Some y ↦ Some y ]) (Some m)
      → (first_some f ps ≡ Some m → IsFirstStart ps m) → IsFirstStart (p ∷ ps) m
  start_here p ps m None is e later =
      let rest = later e in
      record { start = rest.start; found = rest.found; other = λ n there. none_here (g p) (first_some g ps) (Some n) (same p is) (rest.other n there) }
  start_here p ps m (Some y) is e later =
      record { start = p; found = is ∙ e; other = λ n there. some_here (g p) (first_some g ps) n there }

  pub first_start : (ps : List ℕ) (m : A) → first_some f ps ≡ Some m → IsFirstStart ps m
  first_start [] m e = absurd (none-some m e)
  first_start (p ∷ ps) m e = start_here p ps m (f p) refl e (first_start ps m)

  none_there : (p : ℕ) (ps : List ℕ) (o : Option A) → f p ≡ o → ◌≡◌ {A = Option A} (elim o [ None ↦ first_some f ps | Some y ↦ Some y ]) None
      → (first_some f ps ≡ None → first_some g ps ≡ None) → first_some g (p ∷ ps) ≡ None
  none_there p ps None is e rest = none_here (g p) (first_some g ps) None (same p is) (rest e)
  none_there p ps (Some y) is e rest = absurd (none-some y (sym e))

  -- where there is none of the one kind, there is none of the other
  pub none_at_all : (ps : List ℕ) → first_some f ps ≡ None → first_some g ps ≡ None
  none_at_all [] e = refl
  none_at_all (p ∷ ps) e = none_there p ps (f p) refl e (none_at_all ps)
