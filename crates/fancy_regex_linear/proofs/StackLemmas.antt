-- A push and a pop, with the top first.
use Rattle.std.proofs.Common.{◌≡◌, ℕ, List, [], ◌∷◌, ◌++◌, set, refl, ap}
use Rattle.fancy_regex_linear.specs.Search.{top_first, resume_result, AllWithin}
use Rattle.fancy_regex_linear.specs.declared.frame.Frame.{Frame}
use Rattle.fancy_regex_linear.specs.declared.frame.Frame.TheVariants.{Explore, Restore}

pub top_pushed : (fs : List Frame) (f : Frame) → top_first (fs ++ f ∷ []) ≡ f ∷ top_first fs
unfolding top_first
top_pushed [] f = refl
top_pushed (x ∷ xs) f = ap (λ t. t ++ x ∷ []) (top_pushed xs f)

pub within_resumed : (text : List ℕ) (count stop base : ℕ) (stack : List Frame) (slots : List ℕ) → AllWithin text count stop base stack
    → AllWithin text count stop base (resume_result stack slots).0
unfolding resume_result
within_resumed text count stop base [] slots h = tt
within_resumed text count stop base (Explore q i ∷ rest) slots h = h
within_resumed text count stop base (Restore slot old ∷ rest) slots h = within_resumed text count stop base rest (set slots slot old) h
