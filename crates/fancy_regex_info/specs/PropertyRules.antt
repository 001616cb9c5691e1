-- The properties of each kind of node, from those of its children.
use Rattle.std.specs.Prelude.{ℕ, ◌-◌, max, Bool, true, false, ◌||◌, List, [], ◌∷◌, ◌==◌, if◌then◌else◌}
use Rattle.fancy_regex_meaning.specs.Sizes.{Size, unbounded, add, times, always_size, both_sizes, either_size, repeated_size}
use Rattle.fancy_regex_info.specs.Infos.{NodeProperties}

-- without parts
abbrev pub leaf : ℕ → Size → Bool → NodeProperties
leaf n s hard = record { size = s; weight = 1; hard = hard; start = n; end = n }

-- a capture group with this number; `read` if a back reference or condition names it
abbrev pub group_properties : ℕ → Bool → NodeProperties → NodeProperties
group_properties n read f = record { size = f.size; weight = add f.weight 2; hard = f.hard || read; start = n; end = f.end }

-- another node with one child, of this size
abbrev pub wrapper_properties : Size → NodeProperties → NodeProperties
wrapper_properties s f = record { size = s; weight = add f.weight 1; hard = true; start = f.start; end = f.end }

abbrev pub finite_weight : ℕ → ℕ → ℕ → ℕ
finite_weight lo hi w = max 1 (add (times lo w) (times (hi - lo) (add w 3)))

abbrev pub loop_weight : ℕ → ℕ → Bool → ℕ
loop_weight lo w true = add (times (add lo 2) w) 4
loop_weight lo w false = add (times (max lo 1) w) 3

abbrev pub repeat_weight_of : ℕ → ℕ → NodeProperties → ℕ
repeat_weight_of lo hi f =
    if hi == unbounded then loop_weight lo f.weight (f.size.least == 0) else finite_weight lo hi f.weight

abbrev pub repeat_properties : ℕ → ℕ → NodeProperties → NodeProperties
repeat_properties lo hi f = record {
  size = repeated_size f.size lo hi;
  weight = repeat_weight_of lo hi f;
  hard = f.hard;
  start = f.start;
  end = f.end;
}

abbrev pub conditional_properties : NodeProperties → NodeProperties → NodeProperties → NodeProperties
conditional_properties c a b = record {
  size = either_size (both_sizes c.size a.size) b.size;
  weight = add 1 (add c.weight (add a.weight b.weight));
  hard = true;
  start = c.start;
  end = b.end;
}

-- an absent expression, with its two children
abbrev pub absent_expression_properties : Size → NodeProperties → NodeProperties → NodeProperties
absent_expression_properties s a b = record { size = s; weight = add 1 (add a.weight b.weight); hard = true; start = a.start; end = b.end }

-- one part more in front of a row
abbrev pub prepend_part : NodeProperties → NodeProperties → NodeProperties
prepend_part f rest = record {
  size = both_sizes f.size rest.size;
  weight = add f.weight rest.weight;
  hard = f.hard || rest.hard;
  start = rest.start;
  end = rest.end;
}

-- a row from this number of the next group to that
abbrev pub sum_properties : ℕ → ℕ → List NodeProperties → NodeProperties
sum_properties n m [] = record { size = always_size 0; weight = 0; hard = false; start = n; end = m }
sum_properties n m (f ∷ fs) = prepend_part f (sum_properties n m fs)

abbrev pub concat_properties : NodeProperties → NodeProperties
concat_properties f = record f { weight = max f.weight 1 }

-- one branch more in front of others
abbrev pub prepend_branch : NodeProperties → NodeProperties → NodeProperties
prepend_branch f rest = record {
  size = either_size f.size rest.size;
  weight = add f.weight (add rest.weight 3);
  hard = f.hard || rest.hard;
  start = rest.start;
  end = rest.end;
}

-- branches from this number of the next group to that
abbrev pub alternation_properties : ℕ → ℕ → List NodeProperties → NodeProperties
alternation_properties n m [] = record { size = always_size 0; weight = 0; hard = true; start = n; end = m }
alternation_properties n m (f ∷ []) = record { size = f.size; weight = f.weight; hard = f.hard; start = n; end = m }
alternation_properties n m (f ∷ g ∷ fs) = prepend_branch f (alternation_properties n m (g ∷ fs))
