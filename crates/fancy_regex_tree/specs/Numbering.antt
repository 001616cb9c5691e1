-- Group numbers, and what references resolve to.
use Rattle.std.specs.Prelude.{◌≡◌, chars, option_map, ℕ, zero, suc, ◌+◌, ◌-◌, ℤ, pos, negsuc, min, Bool, true, false, nat_lt, nat_le, nat_eq, List, [], ◌∷◌, ◌++◌, filter, Option, Some}
use Rattle.std.specs.Prelude.{None, Vec, String, Result, Ok, Err, if◌then◌else◌}
use Rattle.std.specs.Option.{option_map_or}
use Rattle.std.specs.Global.{Global}
use Rattle.std.specs.Borrow.{Bor}
use Rattle.std.specs.List.{filter_map}
use lib.Pointwise.{pointwise}
use Rattle.std.specs.Str.{all_scalars, encode_utf8_all}
use Rattle.std.specs.BTreeMap.{BTreeMap, get_by_text}
use Rattle.fancy_regex_text.specs.Text.{unbounded}
use Rattle.fancy_regex_text.specs.ParseFault.{Kind, kind_of, invalid_backref, invalid_group_name_backref}
use Rattle.fancy_regex_tree.specs.Traversal.{nodes}
use Rattle.fancy_regex_tree.specs.declared.error.Error.{Error}
use Rattle.fancy_regex_tree.specs.declared.error.Error.TheVariants as errors
use Rattle.fancy_regex_tree.specs.Tree.{Text, Tree, Trees, no_trees, more_trees, Target, by_number, by_name, relative, concat, alt, group, look_around, repeat, backref, backref_with_level}
use Rattle.fancy_regex_tree.specs.Tree.{atomic_group, backref_exists, conditional, subroutine_call, absent_repeater, absent_expression, absent_stopper, define_group, ast_group, ast_backref}
use Rattle.fancy_regex_tree.specs.Tree.{ast_call, ast_condition}

-- an error, and its byte offset in the pattern
pub record PositionedFault : Type 0 where
  pub kind : Kind
  pub position : ℕ

-- one step after another, where each may fail
infixl 10 ◌⨟◌
abbrev pub ◌⨟◌ : {A B : Type 0} → Result A PositionedFault → (A → Result B PositionedFault) → Result B PositionedFault
Ok a ⨟ f = f a
Err e ⨟ f = Err e

abbrev pub refused : {A : Type 0} → Kind → ℕ → Result A PositionedFault
refused kind position = Err (record { kind = kind; position = position })

-- the names of groups, in the order of their openings
abbrev pub Names : Type 0
Names = List (Option Text)

-- a node that opens a capturing group, with its name if it has one
abbrev pub opening_of : Tree → Option (Option Text)
opening_of (ast_group name e position) = Some name
opening_of (group e) = Some None
opening_of _ = None

-- the openings of capturing groups in a tree, from left to right
abbrev pub openings : Tree → Names
openings t = filter_map opening_of (nodes t)

abbrev pub same_text : Text → Text → Bool
same_text = pointwise nat_eq

-- The numbers, from n + 1 on, of the openings that carry the name.
unfoldable pub numbers_of : Text → ℕ → Names → List ℕ
numbers_of name n [] = []
numbers_of name n (None ∷ names) = numbers_of name (suc n) names
numbers_of name n (Some other ∷ names) =
    (if same_text other name then suc n ∷ [] else []) ++ numbers_of name (suc n) names

abbrev pub last_number : List ℕ → Option ℕ
last_number [] = None
last_number (n ∷ []) = Some n
last_number (n ∷ m ∷ rest) = last_number (m ∷ rest)

-- The number of a signed reference with n openings before it: -1 is the last of these, 1 the next after them. 0 names none, and a
-- number past the last `usize` counts as that.
unfoldable pub relative_number : ℕ → ℤ → Option ℕ
relative_number n (pos zero) = None
relative_number n (pos (suc k)) = Some (min (n + suc k) unbounded)
relative_number n (negsuc k) = if nat_lt k n then Some (n - k) else None

-- a capture group gets a number; with the flag set, unnamed ones get none
abbrev pub counts : Bool → Option Text → Bool
counts ignored (Some name) = true
counts true None = false
counts false None = true

-- the names of the groups that get a number
abbrev pub counted : Bool → Names → Names
counted ignored names = filter (counts ignored) names

-- the name of a group, if there is a group and it gets a number
abbrev pub if_counted : Bool → Option (Option Text) → Option (Option Text)
if_counted ignored None = None
if_counted ignored (Some (Some name)) = Some (Some name)
if_counted true (Some None) = None
if_counted false (Some None) = Some None

abbrev pub backref_of : Option ℤ → Bool → ℕ → Tree
backref_of None casei g = backref g casei
backref_of (Some level) casei g = backref_with_level g level casei

-- the last group of a name; what is not made of characters is no name
abbrev pub last_named : Names → Text → Option ℕ
last_named names name = if all_scalars name then last_number (numbers_of name 0 names) else None

-- the group of a relative back reference or condition
abbrev pub relative_target : ℕ → ℕ → ℤ → Result ℕ PositionedFault
relative_target n position k = elim (relative_number n k) [ Some g ↦ Ok g | None ↦ refused invalid_backref position ]

-- at most the limit, if there is one
abbrev pub is_within : Option ℕ → ℕ → Bool
is_within None g = true
is_within (Some limit) g = nat_le g limit

-- the group of a name in a back reference or condition; there has to be one, up to the limit
abbrev pub named_target : Option ℕ → Option ℕ → ℕ → Text → Result ℕ PositionedFault
named_target limit None position name = refused (invalid_group_name_backref name) position
named_target limit (Some g) position name = if is_within limit g then Ok g else refused (invalid_group_name_backref name) position

-- `group_named` has the last group of a name.
module _ (group_named : Text → Option ℕ) where
  -- the group of a back reference or condition after n openings; a group by name is within the limit
  abbrev pub group_target : Option ℕ → ℕ → ℕ → Target → Result ℕ PositionedFault
  group_target limit n position (by_number k) = Ok k
  group_target limit n position (relative k) = relative_target n position k
  group_target limit n position (by_name name) = named_target limit (group_named name) position name

  -- the group of a call after n openings
  abbrev pub call_target : ℕ → Target → Option ℕ
  call_target n (by_number k) = Some k
  call_target n (relative k) = relative_number n k
  call_target n (by_name name) = group_named name

  -- a call whose target is not found stays
  abbrev pub call_of : ℕ → ℕ → Target → Tree
  call_of n position target = elim (call_target n target) [ Some g ↦ subroutine_call g | None ↦ ast_call target position ]

-- The same, where `ignored` says that openings without a name do not count.
module _ (ignored : Bool) (group_named : Text → Option ℕ) where
  -- the tree after n openings with its references resolved, and how many openings are before its end
  abbrev mutual
    pub resolved : ℕ → Tree → Result (Tree × ℕ) PositionedFault
    resolved n (ast_group name e position) =
        if counts ignored name then resolved (suc n) e ⨟ (λ found. Ok (group found.0, found.1)) else resolved n e
    resolved n (group e) = resolved (suc n) e ⨟ λ found. Ok (group found.0, found.1)
    resolved n (ast_backref target casei level position) =
        -- the last group of the name opens before the back reference
        group_target group_named (Some n) n position target ⨟ (λ g. Ok (backref_of level casei g, n))
    resolved n (ast_condition target level position) =
        group_target group_named None n position target ⨟ λ g. Ok (backref_exists g level, n)
    resolved n (ast_call target position) = Ok (call_of group_named n position target, n)
    resolved n (concat es) = all_resolved n es ⨟ λ found. Ok (concat found.0, found.1)
    resolved n (alt es) = all_resolved n es ⨟ λ found. Ok (alt found.0, found.1)
    resolved n (look_around e k) = resolved n e ⨟ λ found. Ok (look_around found.0 k, found.1)
    resolved n (repeat e lo hi greedy) = resolved n e ⨟ λ found. Ok (repeat found.0 lo hi greedy, found.1)
    resolved n (atomic_group e) = resolved n e ⨟ λ found. Ok (atomic_group found.0, found.1)
    resolved n (conditional c a b) =
        resolved n c ⨟ λ first. resolved first.1 a ⨟ λ second. resolved second.1 b ⨟ λ third.
        Ok (conditional first.0 second.0 third.0, third.1)
    resolved n (absent_repeater e) = resolved n e ⨟ λ found. Ok (absent_repeater found.0, found.1)
    resolved n (absent_expression e d) =
        resolved n e ⨟ λ first. resolved first.1 d ⨟ λ second. Ok (absent_expression first.0 second.0, second.1)
    resolved n (absent_stopper e) = resolved n e ⨟ λ found. Ok (absent_stopper found.0, found.1)
    resolved n (define_group e) = resolved n e ⨟ λ found. Ok (define_group found.0, found.1)
    resolved n e = Ok (e, n)

    pub all_resolved : ℕ → Trees → Result (Trees × ℕ) PositionedFault
    all_resolved n no_trees = Ok (no_trees, n)
    all_resolved n (more_trees e es) =
        resolved n e ⨟ λ first. all_resolved first.1 es ⨟ λ others. Ok (more_trees first.0 others.0, others.1)

-- the result of a function, as `view` shows it, is the defined one, unless memory ran out
abbrev pub AgreesWith : {X A : Type 0} → (X → A) → Result X Error → Result A PositionedFault → Type 0
AgreesWith view (Ok x) defined = defined ≡ Ok (view x)
AgreesWith view (Err (errors.ParseError position kind)) defined = defined ≡ Err (record { kind = kind_of kind; position = position })
AgreesWith view (Err errors.Memory) defined = Unit {0}

-- The last group of a name, as a map from names to numbers has it.
unfoldable pub lookup_in : BTreeMap (String Global) (Vec ℕ Global) → Text → Option ℕ
lookup_in m name = if all_scalars name then last_number (option_map_or (λ numbers. numbers.items) (get_by_text m (encode_utf8_all name)) []) else None

-- the numbers that a map has under a name in bytes
abbrev pub numbers_under : BTreeMap (String Global) (Vec ℕ Global) → List ℕ → List ℕ
numbers_under m bs = option_map_or (λ numbers. numbers.items) (get_by_text m bs) []

abbrev pub name_view : Option (Bor (List ℕ)) → Option Text
name_view name = option_map (λ s. chars s.now) name
