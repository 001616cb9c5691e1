-- The nodes of `\R` and of `\Z`, part by part.
use Rattle.std.proofs.Common.{◌≡◌, ◌∙◌, ℕ, Bool, true, false, List, [], ◌∷◌, ◌++◌, Vec, Box, Global, if◌then◌else◌, refl, ap, ap₂}
use Rattle.std.proofs.lemmas.List.{map-append}
use Rattle.fancy_regex_linear.specs.Re as re
use Rattle.fancy_regex_linear.specs.Re.{Re, cats, alts, shape, shapes}
use Rattle.fancy_regex_linear.specs.Plain.{newline_re, read_each, last_newline, text_end_re}
use Rattle.fancy_regex_linear.specs.declared.node.Node.{Node}
use Rattle.fancy_regex_linear.specs.declared.node.Node.TheVariants as node
use Rattle.fancy_regex_linear.specs.declared.node.Quantifier.{Quantifier}
use Rattle.fancy_regex_states.specs.declared.atom.Leaf.TheVariants.{Char}
use Rattle.fancy_regex_states.specs.declared.atom.Test.TheVariants.{EndLine, LookAheadNeg}
use Rattle.fancy_regex_linear.proofs.ShapeLemmas.{shape_concat, shape_alt, shape_repeat, shape_ask, shape_read, shape_look}

-- nodes of which one after another is added
two_added : (a b : Node) (x y z : List Node) → x ≡ [] → y ≡ x ++ a ∷ [] → z ≡ y ++ b ∷ [] → shapes z ≡ shape a ∷ shape b ∷ []
two_added a b x y z e f g = ap shapes (g ∙ ap (λ ns. ns ++ b ∷ []) (f ∙ ap (λ ns. ns ++ a ∷ []) e))

three_added : (a b c : Node) (x y z v : List Node) → x ≡ [] → y ≡ x ++ a ∷ [] → z ≡ y ++ b ∷ [] → v ≡ z ++ c ∷ []
    → shapes v ≡ shape a ∷ shape b ∷ shape c ∷ []
three_added a b c x y z v e f g h = ap shapes (h ∙ ap (λ ns. ns ++ c ∷ []) (g ∙ ap (λ ns. ns ++ b ∷ []) (f ∙ ap (λ ns. ns ++ a ∷ []) e)))

three_at_end : (x : List Node) (a b c : Node) → ((x ++ a ∷ []) ++ b ∷ []) ++ c ∷ [] ≡ x ++ a ∷ b ∷ c ∷ []
three_at_end [] a b c = refl
three_at_end (n ∷ ns) a b c = ap (λ ms. n ∷ ms) (three_at_end ns a b c)

-- three characters after what is there
pub three_read : (a b c : ℕ) (x y z v : List Node) → y ≡ x ++ node.Read (Char a) ∷ [] → z ≡ y ++ node.Read (Char b) ∷ []
    → v ≡ z ++ node.Read (Char c) ∷ [] → shapes v ≡ shapes x ++ read_each (a ∷ b ∷ c ∷ [])
three_read a b c x y z v e f g =
    let whole : v ≡ x ++ node.Read (Char a) ∷ node.Read (Char b) ∷ node.Read (Char c) ∷ [] =
    g ∙ ap (λ ns. ns ++ node.Read (Char c) ∷ []) (f ∙ ap (λ ns. ns ++ node.Read (Char b) ∷ []) e)
    ∙ three_at_end x (node.Read (Char a)) (node.Read (Char b)) (node.Read (Char c)) in
    let last : shape (node.Read (Char b)) ∷ shape (node.Read (Char c)) ∷ [] ≡ read_each (b ∷ c ∷ []) =
    ap₂ (λ (r s : Re). r ∷ s ∷ []) (shape_read (Char b)) (shape_read (Char c)) in
    ap shapes whole
    ∙ map-append shape x (node.Read (Char a) ∷ node.Read (Char b) ∷ node.Read (Char c) ∷ [])
    ∙ ap₂ (λ (r : Re) (rs : List Re). shapes x ++ r ∷ rs) (shape_read (Char a)) last

-- a row of two, and a choice between two
pub row_is_of_two : (a b : Node) (v : Vec Node Global) (x y : List Node) → x ≡ [] → y ≡ x ++ a ∷ [] → v.items ≡ y ++ b ∷ []
    → shape (node.Concat v) ≡ cats (shape a ∷ shape b ∷ [])
row_is_of_two a b v x y e f g = shape_concat v ∙ ap cats (two_added a b x y v.items e f g)

choice_is_of_two : (a b : Node) (v : Vec Node Global) (x y : List Node) → x ≡ [] → y ≡ x ++ a ∷ [] → v.items ≡ y ++ b ∷ []
    → shape (node.Alt v) ≡ re.alt (shape a) (shape b)
choice_is_of_two a b v x y e f g = shape_alt v ∙ ap alts (two_added a b x y v.items e f g)

-- `\r\n`
pub pair_is : (pair : Node) → shape pair ≡ cats (shape (node.Read (Char 13)) ∷ shape (node.Read (Char 10)) ∷ [])
    → shape pair ≡ cats (re.read (Char 13) ∷ re.read (Char 10) ∷ [])
pair_is pair e = e ∙ ap₂ (λ (r s : Re). cats (r ∷ s ∷ [])) (shape_read (Char 13)) (shape_read (Char 10))

-- the branches of `\R`
pub line_break_is : (wide : Bool) (pair alone : Node) (v : Vec Node Global) (x y z u : List Node) → x ≡ [] → y ≡ x ++ pair ∷ [] → z ≡ y ++ alone ∷ []
    → shapes u ≡ shapes z ++ read_each (10 ∷ 11 ∷ 12 ∷ [])
    → shapes v.items ≡ shapes u ++ read_each (if wide then 0x85 ∷ 0x2028 ∷ 0x2029 ∷ [] else [])
    → shape pair ≡ cats (shape (node.Read (Char 13)) ∷ shape (node.Read (Char 10)) ∷ [])
    → shape alone ≡ cats (shape (node.Read (Char 13)) ∷ shape (node.Look (LookAheadNeg (Char 10))) ∷ [])
    → shape (node.Alt v) ≡ newline_re wide
line_break_is wide pair alone v x y z u e f g h i of_pair of_alone =
    let second : shape alone ≡ cats (re.read (Char 13) ∷ re.test (LookAheadNeg (Char 10)) ∷ []) =
    of_alone ∙ ap₂ (λ (r s : Re). cats (r ∷ s ∷ [])) (shape_read (Char 13)) (shape_look (LookAheadNeg (Char 10))) in
    let wides = read_each (if wide then 0x85 ∷ 0x2028 ∷ 0x2029 ∷ [] else []) in
    let all : shapes v.items ≡ ((shape pair ∷ shape alone ∷ []) ++ read_each (10 ∷ 11 ∷ 12 ∷ [])) ++ wides =
    i ∙ ap (λ (rs : List Re). rs ++ wides) (h ∙ ap (λ (rs : List Re). rs ++ read_each (10 ∷ 11 ∷ 12 ∷ [])) (two_added pair alone x y z e f g)) in
    shape_alt v
    ∙ ap alts all
    ∙ ap₂ (λ (r s : Re). alts (((r ∷ s ∷ []) ++ read_each (10 ∷ 11 ∷ 12 ∷ [])) ++ wides)) (pair_is pair of_pair) second

-- a newline before the end, with `\r\n` too
pub last_newline_is : (newline pair : Node) (v : Vec Node Global) (x y : List Node) → newline ≡ node.Read (Char 10) → x ≡ [] → y ≡ x ++ newline ∷ []
    → v.items ≡ y ++ pair ∷ [] → shape pair ≡ cats (shape (node.Read (Char 13)) ∷ shape (node.Read (Char 10)) ∷ [])
    → shape (node.Alt v) ≡ last_newline true
last_newline_is newline pair v x y of_newline e f g of_pair =
    choice_is_of_two newline pair v x y e f g ∙ ap₂ (λ (r s : Re). re.alt r s) (ap shape of_newline ∙ shape_read (Char 10)) (pair_is pair of_pair)

-- `\Z`, whose body is a row of three
pub text_end_is : (crlf : Bool) (body row : Box Node Global) (q : Quantifier) (v : Vec Node Global) (x y z : List Node)
    → q ≡ record { lo = 0; hi = 18446744073709551615; greedy = true; moves = true } → shape body.value ≡ last_newline crlf
    → x ≡ [] → y ≡ x ++ node.Repeat body q ∷ [] → z ≡ y ++ node.Look (EndLine false) ∷ [] → v.items ≡ z ++ node.Look (LookAheadNeg (Char 10)) ∷ []
    → row.value ≡ node.Concat v → shape (node.Ask false 0 row) ≡ text_end_re crlf
text_end_is crlf body row q v x y z of_q of_body e f g h of_row =
    let loop : shape (node.Repeat body q) ≡ re.repeat 0 18446744073709551615 true true (last_newline crlf) =
    shape_repeat body q
    ∙ ap₂ (λ (p : Quantifier) (r : Re). re.repeat p.lo p.hi p.greedy p.moves r) of_q of_body in
    shape_ask false 0 row
    ∙ ap (re.ask false 0)
    (ap shape of_row
    ∙ shape_concat v
    ∙ ap cats (three_added (node.Repeat body q) (node.Look (EndLine false)) (node.Look (LookAheadNeg (Char 10))) x y z v.items e f g h)
    ∙ ap (λ (r : Re). cats (r ∷ shape (node.Look (EndLine false)) ∷ shape (node.Look (LookAheadNeg (Char 10))) ∷ [])) loop
    ∙ ap₂ (λ (r s : Re). cats (re.repeat 0 18446744073709551615 true true (last_newline crlf) ∷ r ∷ s ∷ [])) (shape_look (EndLine false)) (shape_look (LookAheadNeg (Char 10))))
