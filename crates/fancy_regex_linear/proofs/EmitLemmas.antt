-- The states of a tree do what trying it does.
use Rattle.std.proofs.Common.{◌≡◌, ℕ, zero, suc, ◌+◌, ◌*◌, ◌<◌, ◌≤◌, ◌⊎◌, Bool, true, false, cond, List, [], ◌∷◌, length, nat_eq, refl, sym, ap, ap₂, ◌∙◌, inl, inr, ⊎_elim, arith, eq-eqb, ne_eqb, length-append}
use Rattle.std.proofs.lemmas.Bool.{cases_lt}
use Rattle.fancy_regex_states.specs.Attempts.{View, reads, Continuation, guard, either, save, asked, passed, resume, stepped, NamesBelow, MayAsk, visit, Agrees}
use Rattle.fancy_regex_linear.specs.Attempt.{prefer}
use Rattle.fancy_regex_states.specs.First.{state_at}
use Rattle.fancy_regex_linear.specs.Program.{loop_head, push, AgreeBut}
use Rattle.fancy_regex_states.specs.declared.state.State.{State}
use Rattle.fancy_regex_states.specs.declared.state.State.TheVariants.{Split, Enter, Leave, Ask, Atomic, Match}
use Rattle.fancy_regex_states.specs.declared.state.State.TheVariants as S

-- the same, but for one place
unfoldable override : (ℕ → Continuation) → ℕ → Continuation → ℕ → Continuation
override go n g q = cond (nat_eq q n) g (go q)

override_same : (go : ℕ → Continuation) (n : ℕ) (g : Continuation) → override go n g n ≡ g
unfolding override
override_same go n g = rw (eq-eqb n n refl)

override_other : (go : ℕ → Continuation) (n : ℕ) (g : Continuation) (q : ℕ) → q < n → override go n g q ≡ go q
unfolding override
override_other go n g q h = rw (ne_eqb q n (omega arith))

pub length-push : (states : List State) (s : State) → length (push states s) ≡ length states + 1
length-push states s = length-append states (s ∷ [])

pub names_more : (n m : ℕ) (s : State) → n ≤ m → NamesBelow n s → NamesBelow m s
names_more n m (S.Read leaf next) h x = omega arith
names_more n m (S.Look check next) h x = omega arith
names_more n m (S.Back next) h x = omega arith
names_more n m (Split first second) h x = (omega arith, omega arith)
names_more n m (Enter g next) h x = omega arith
names_more n m (Leave g next) h x = omega arith
names_more n m (Ask part negated next) h x = (omega arith, omega arith)
names_more n m (Atomic part same moved) h x = (omega arith, omega arith, omega arith)
names_more n m Match h x = tt

at_pushed : (states : List State) (s : State) → state_at (push states s) (length states) ≡ s
at_pushed [] s = refl
at_pushed (x ∷ xs) s = at_pushed xs s

at_before : (states : List State) (s : State) (q : ℕ) → q < length states → state_at (push states s) q ≡ state_at states q
at_before [] s q h = absurd (omega arith)
at_before (x ∷ xs) s zero h = refl
at_before (x ∷ xs) s (suc q) h = at_before xs s q (omega arith)

module _ (view : View) (stop : ℕ) where
  pub visit_same : (go go2 : ℕ → Continuation) (n : ℕ) (s : State) → NamesBelow n s → ((r : ℕ) → r < n → go2 r ≡ go r) → (i : ℕ)
      → visit view stop go2 s i ≡ visit view stop go s i
  visit_same go go2 n (S.Read leaf next) x h i = ap (λ f. guard (reads view stop leaf i) (f (view.next i))) (h next x)
  visit_same go go2 n (S.Look check next) x h i = ap (λ f. guard (view.holds check i) (f i)) (h next x)
  visit_same go go2 n (S.Back next) x h i = ap (stepped (view.back i) i) (h next x)
  visit_same go go2 n (Split first second) x h i = ap₂ (λ f g. either view.longest (f i) (g i)) (h first x.0) (h second x.1)
  visit_same go go2 n (Enter g next) x h i = ap (λ f. save (2 * g) i (f i)) (h next x)
  visit_same go go2 n (Leave g next) x h i = ap (λ f. save (2 * g + 1) i (f i)) (h next x)
  visit_same go go2 n (Ask part negated next) x h i = ap₂ (λ f g. asked negated (f i) (g i)) (h part x.0) (h next x.1)
  visit_same go go2 n (Atomic part same moved) x h i =
      ap (λ f. passed (f i) (resume i (go2 same) (go2 moved))) (h part x.0) ∙ ap₂ (λ f g. passed (go part i) (resume i f g)) (h same x.1) (h moved x.2)
  visit_same go go2 n Match x h i = refl

  pub visit_loop_head : (go : ℕ → Continuation) (g : Bool) (iteration exit i : ℕ)
      → visit view stop go (loop_head g iteration exit) i ≡ prefer view.longest g (go iteration i) (go exit i)
  visit_loop_head go true iteration exit i = refl
  visit_loop_head go false iteration exit i = refl

  agrees_more : (go go2 : ℕ → Continuation) (n m q : ℕ) (s : State) → q < n → n ≤ m → ((r : ℕ) → r < n → go2 r ≡ go r)
      → Agrees view stop go n q s → Agrees view stop go2 m q s
  agrees_more go go2 n m q s h le same a = record {
    names = names_more n m s le a.names;
    asks = a.asks;
    does = λ i p. ap (λ f. f i) (same q h) ∙ a.does i p ∙ sym (visit_same go go2 n s a.names same i);
  }

  -- what a push leaves
  pub record Pushed (Open : ℕ → Type 0) (states : List State) (go : ℕ → Continuation) (s : State) (g : Continuation) : Type 0 where
    pub next_go : ℕ → Continuation
    pub unchanged : (q : ℕ) → q < length states → next_go q ≡ go q
    pub here : next_go (length states) ≡ g
    pub agree : AgreeBut view stop Open (push states s) next_go

  -- a state is pushed that agrees, or whose number is open
  pub push_done : (Open : ℕ → Type 0) (states : List State) (go : ℕ → Continuation) (s : State) (g : Continuation) → AgreeBut view stop Open states go
      → Open (length states) ⊎ (NamesBelow (length states) s × MayAsk view.has_parts s × ((i : ℕ) → i ≤ stop → g i ≡ visit view stop go s i))
      → Pushed Open states go s g
  push_done Open states go s g before new =
      let n : ℕ = length states in
      let go2 : ℕ → Continuation = override go n g in
      let len : length (push states s) ≡ n + 1 = length-push states s in
      let unchanged : (q : ℕ) → q < n → go2 q ≡ go q = λ q h. override_other go n g q h in
      let here : go2 n ≡ g = override_same go n g in
      record {
        next_go = go2;
        unchanged = unchanged;
        here = here;
        agree = λ q h.
            ⊎_elim
            (λ (old : q < n).
            ⊎_elim (λ o. inl o)
            (λ a. inr (rw (at_before states s q old) (agrees_more go go2 n _ q _ old (omega arith) unchanged a)))
            (before q old))
            (λ (top : n ≤ q).
            let at : q ≡ n = omega arith in
            rw at
            (⊎_elim (λ o. inl o)
            (λ a. inr (rw (at_pushed states s) (record {
              names = names_more n _ s (omega arith) a.0;
              asks = a.1;
              does = λ i p. ap (λ f. f i) here ∙ a.2 i p ∙ sym (visit_same go go2 n s a.0 unchanged i);
            })))
            new))
            (cases_lt q n);
      }

  -- what emitting a tree leaves that means `meaning`
  pub record Done (Open : ℕ → Type 0) (states : List State) (go : ℕ → Continuation) (made : List State × ℕ) (meaning : Continuation) : Type 0 where
    pub next_go : ℕ → Continuation
    pub unchanged : (q : ℕ) → q < length states → next_go q ≡ go q
    pub longer : length states ≤ length made.0
    pub agree : AgreeBut view stop Open made.0 next_go
    pub entry : made.1 < length made.0
    pub means : (i : ℕ) → i ≤ stop → next_go made.1 i ≡ meaning i

  -- the same of two entries
  pub record DoneBoth (Open : ℕ → Type 0) (states : List State) (go : ℕ → Continuation) (made : List State × ℕ × ℕ) (same moved : Continuation) : Type 0 where
    pub next_go : ℕ → Continuation
    pub unchanged : (q : ℕ) → q < length states → next_go q ≡ go q
    pub longer : length states ≤ length made.0
    pub agree : AgreeBut view stop Open made.0 next_go
    pub same_in : made.1 < length made.0
    pub moved_in : made.2 < length made.0
    pub same_means : (i : ℕ) → i ≤ stop → next_go made.1 i ≡ same i
    pub moved_means : (i : ℕ) → i ≤ stop → next_go made.2 i ≡ moved i
