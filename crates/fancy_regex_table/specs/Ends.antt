-- Where attempts end.
use Rattle.std.specs.Prelude.{ℕ, Bool, true, false, List, [], ◌∷◌, Option, Some, None}
use Rattle.fancy_regex_states.specs.Attempts.{Trace, Continuation}

abbrev pub end_of : Option Trace → Option ℕ
end_of None = None
end_of (Some t) = Some t.end

-- the first, or else the second
abbrev pub or_else : Option ℕ → Option ℕ → Option ℕ
or_else None b = b
or_else (Some a) b = Some a

-- an end at this place, if there is one
abbrev pub end_if : Bool → ℕ → Option ℕ
end_if true i = Some i
end_if false i = None

module _ (go : ℕ → Continuation) (i : ℕ) where
  -- the end of an attempt at this place that begins in the state q
  abbrev pub end_at : ℕ → Option ℕ
  end_at q = end_of (go q i).answer

  -- the end of the first of these states that has one
  abbrev pub first_end : List ℕ → Option ℕ
  first_end [] = None
  first_end (q ∷ qs) = or_else (end_at q) (first_end qs)
