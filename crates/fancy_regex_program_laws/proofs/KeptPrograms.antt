-- A program in which calls stay answers the search of its pattern.
use Rattle.std.proofs.Common.{◌≡◌, ℕ, zero, suc, ◌+◌, ◌*◌, ◌<◌, ◌≤◌, Bool, true, false, ⊎_elim, List, [], ◌∷◌, ◌++◌, length, Option, Some, None, refl, sym, ap, ◌∙◌, subst, arith, cond}
use Rattle.std.specs.Prelude.{replicate}
use Rattle.std.proofs.lemmas.List.{get_or-replicate}
use Rattle.std.proofs.lemmas.Option.{none-some, same_Some}
use Rattle.std.specs.Str.{IsUtf8}
use Rattle.fancy_regex_tree.specs.Tree.{Tree}
use Rattle.fancy_regex_meaning.specs.Groups.{Pattern}
use Rattle.fancy_regex_meaning.specs.Sizes.{target}
use Rattle.fancy_regex_meaning.specs.Ways.{is_at_call_limit, max_open_calls, max_open_calls_per_group}
use Rattle.fancy_regex_desugar.specs.CorePatterns.{CorePattern, fail}
use Rattle.fancy_regex_desugar.specs.Delegates.{tail_bound}
use Rattle.fancy_regex_desugar.specs.Shapes.{StepsBackOnlyFirst}
use Rattle.fancy_regex_desugar.specs.Unfolded.{pat_for, written, written_call, core_pattern_of}
use Rattle.fancy_regex_program.specs.Ops as op
use Rattle.fancy_regex_program.specs.Ops.{Op, Place}
use Rattle.fancy_regex_program.specs.Machine.{unset, RunParameters, anchored_by, open_calls}
use Rattle.fancy_regex_program.specs.Shapes.{IsWritable}
use Rattle.fancy_regex_program.specs.Code.{Layout, slots_with, Code, opening, closing}
use Rattle.fancy_regex_program.specs.Layouts.{body_pattern, body_code, IsKept}
use Rattle.fancy_regex_program_laws.specs.ProgramLaws.{first_group_number, RunRequirements}
use Rattle.fancy_regex_program_laws.specs.KeptLaws.{KeptProgramsAnswerSearches}
use Rattle.fancy_regex_program_laws.proofs.Denote.{ending}
use Rattle.fancy_regex_program_laws.proofs.Runs.{Keep, Ready, eq_self, Does}
use Rattle.fancy_regex_program_laws.proofs.ProgramParts.{HasAt, has_front, has_back, has_all}
use Rattle.fancy_regex_program_laws.proofs.Emitted.{closed_code, CallsDo, DoesAtCall, CallDoes, runs_closed}
use Rattle.fancy_regex_program_laws.proofs.CallSlots.{in_main, own_region, IsRegion, keep_in}
use Rattle.fancy_regex_program_laws.proofs.CallSteps.{does_no_call, does_open_call}
use Rattle.fancy_regex_program.proofs.OpenCalls.{calls_of, one_call_more, no_call_more, same_or_not, full_is, free_is, target_inside, AreOpen, none_open, one_more_open, none_left}
use Rattle.fancy_regex_program.proofs.WrittenOut.{AreAbove, NoneIsOut, none_is_above, one_more_above, lower_calls, calls_lower, of_lower}
use Rattle.fancy_regex_program.proofs.WrittenParts.{PartByPart, of_tree, of_whole}
use Rattle.fancy_regex_program.proofs.SameCode.{SameCode, same_closed, same_slots, same_body}
use Rattle.fancy_regex_program_laws.proofs.WholeProgram.{IsMade, first_apart, made_answers, asked_anchored, length_unset}

-- where a piece of a program stands
stands_at : (code before piece after : List Op) (n : ℕ) → code ≡ before ++ (piece ++ after) → length before ≡ n → HasAt code n piece
stands_at code before piece after n e start =
    has_front code n piece after (subst (λ i. HasAt code i (piece ++ after)) start (subst (λ l. HasAt l (length before) (piece ++ after)) (sym e) (has_all (piece ++ after) before)))

module _ (r : RunParameters) (whole anchored : Bool) (count : ℕ) (utf8 : IsUtf8 r.setting.text) (small : length r.setting.text < unset) (some : whole ≡ true → 1 ≤ count)
    (groups : List Tree) (p : CorePattern) (layout : Layout) (code : List Op) (slots : ℕ)
    (kept : IsKept r.setting.has_member r.setting.fold whole layout anchored count groups p code slots) where
  abbrev first : ℕ
  first = first_group_number whole

  abbrev from : ℕ
  from = 2 * count + slots_with layout p

  over : 2 * count ≤ from
  over = omega arith

  abbrev Region : List ℕ → ℕ → ℕ → Type 0
  Region = IsRegion layout (2 * count) from kept.bodies_end slots kept.apart over

  abbrev keeps : (opened : List ℕ) (lo hi : ℕ) → Region opened lo hi → Keep count
  keeps = keep_in layout count from kept.bodies_end slots kept.apart over

  abbrev Do : Keep count → CorePattern → Type 0
  Do keep = CallsDo code r whole count keep utf8 small some layout first (first_apart whole)

  do_parts : (keep : Keep count) → PartByPart (λ a b. Do keep a)
  do_parts keep = record {
    of_nothing = tt;
    of_read = λ c. tt;
    of_newline = λ u. tt;
    of_check = λ a. tt;
    of_continue = tt;
    of_keep_out = tt;
    of_fail = tt;
    of_back = λ n. tt;
    of_backref = λ k casei. tt;
    of_exists = λ k. tt;
    of_cat = λ a b c d h k. (h, k);
    of_alt = λ a b c d h k. (h, k);
    of_group = λ k a b h. h;
    of_ahead = λ a b h. h;
    of_never = λ a b h. h;
    of_atomic = λ a b h. h;
    of_delegate = λ t a b h. tt;
    of_tail = λ t a b h. h;
    of_repeat = λ a b lo hi greedy h. h;
    of_conditional = λ a b c d e f h k l. (h, k, l);
    of_absent = λ a b h. h;
  }

  -- At a call of a group at the limit, which fails.
  at_limit : (opened : List ℕ) (lo hi : ℕ) (region : Region opened lo hi) (k : ℕ) → max_open_calls_per_group ≤ calls_of k opened → (o : Option Place) → layout k ≡ o →
      DoesAtCall code r whole count (keeps opened lo hi region) utf8 small some layout first (first_apart whole) o fail (Do (keeps opened lo hi region) fail)
  at_limit opened lo hi region k full None is = tt
  at_limit opened lo hi region k full (Some c) is = λ pc slot free ok placed here.
      (let most = (kept.apart.placed k c is).most_is in
      does_no_call code r whole count layout from kept.bodies_end slots kept.apart over opened lo hi region k c is pc slot free (omega (arith, most, full)) here)

  -- the machine's open calls of the groups whose calls stay are those of the pattern
  abbrev Agree : List ℕ → List ℕ → Type 0
  Agree shown opened = (k : ℕ) (c : Place) → layout k ≡ Some c → calls_of k shown ≡ calls_of k opened

  agree_more : (shown opened : List ℕ) (k : ℕ) → Agree shown opened → Agree (k ∷ shown) (k ∷ opened)
  agree_more shown opened k h i c is =
      ⊎_elim (λ (same : i ≡ k). subst (λ n. calls_of n (k ∷ shown) ≡ calls_of n (k ∷ opened)) (sym same)
      (one_call_more k shown ∙ ap suc (h k c (subst (λ n. layout n ≡ Some c) same is)) ∙ sym (one_call_more k opened)))
      (λ (ne : i ≡ k → ⊥). no_call_more i k shown ne ∙ h i c is ∙ sym (no_call_more i k opened ne)) (same_or_not i k)

  agree_shown : (shown opened : List ℕ) (k : ℕ) → Agree shown opened → layout k ≡ None → Agree (k ∷ shown) opened
  agree_shown shown opened k h none i c is =
      let ne : i ≡ k → ⊥ = λ e. none-some c (sym none ∙ ap layout (sym e) ∙ is) in
      no_call_more i k shown ne ∙ h i c is

  -- Inside of these calls this one may be: where its group is written out, those that are written out are of higher ranks, and else
  -- none of them is.
  abbrev MayStand : Bool → ℕ → List ℕ → Type 0
  MayStand true k shown = AreAbove groups layout kept.is_written_out kept.written_out (kept.written_out.rank k) shown
  MayStand false k shown = NoneIsOut groups layout kept.is_written_out kept.written_out shown

  -- where none is written out, each call may be
  all_may : (k : ℕ) (shown : List ℕ) (b : Bool) → NoneIsOut groups layout kept.is_written_out kept.written_out shown → MayStand b k shown
  all_may k shown true none = none_is_above groups layout kept.is_written_out kept.written_out (kept.written_out.rank k) shown none
  all_may k shown false none = none

  -- Where fewer calls of the group are open, its body is run, which stands where the layout says.
  in_body : (m : ℕ) (shown opened : List ℕ) (lo hi : ℕ) (region : Region opened lo hi) (k : ℕ) (c : Place) (is : layout k ≡ Some c) (few : calls_of k opened < c.most)
      (t : Tree) → target groups k ≡ Some t → AreOpen (length groups) shown m → NoneIsOut groups layout kept.is_written_out kept.written_out shown →
      Do (keeps (k ∷ opened) c.first (c.first + c.own) (own_region layout (2 * count) from kept.bodies_end slots kept.apart over opened k (calls_of k opened) c is refl few))
      (written groups (written_call groups m shown) (k + 1) t).front →
      CallDoes code r whole count (keeps opened lo hi region) utf8 small some layout first (first_apart whole) c (written groups (written_call groups m shown) (k + 1) t).front
  in_body m shown opened lo hi region k c is few t is_target around none inner pc slot free ok placed here =
      let body = kept.each k c is in
      let inside = (written groups (written_call groups m shown) (k + 1) t).front in
      let plain = body_pattern groups k body.tree in
      let same_tree : body.tree ≡ t = same_Some body.tree t (sym body.is_target ∙ is_target) in
      let same : SameCode r.setting.has_member r.setting.fold whole layout plain inside =
      subst (λ u. SameCode r.setting.has_member r.setting.fold whole layout plain (written groups (written_call groups m shown) (k + 1) u).front) same_tree
      (same_body r.setting.has_member r.setting.fold whole layout groups kept.is_written_out kept.written_out m shown around none (k + 1) body.tree body.calls) in
      let ops = closed_code r.setting.has_member r.setting.fold whole layout inside c.start c.first in
      let all : HasAt code c.start (closed_code r.setting.has_member r.setting.fold whole layout plain c.start c.first ++ op.return c ∷ []) =
      stands_at code body.before (body_code r.setting.has_member r.setting.fold whole layout c plain) body.after c.start body.stands body.start in
      let here_too : HasAt code c.start (ops ++ op.return c ∷ []) =
      subst (λ (x : Code). HasAt code c.start (x c.start c.first ++ op.return c ∷ [])) (same_closed r.setting.has_member r.setting.fold whole layout plain inside same) all in
      let last = has_back code c.start (c.start + length ops) ops (op.return c ∷ []) refl here_too in
      let region' = own_region layout (2 * count) from kept.bodies_end slots kept.apart over opened k (calls_of k opened) c is refl few in
      let keep' = keeps (k ∷ opened) c.first (c.first + c.own) region' in
      let own : slots_with layout inside ≡ c.own = sym (same_slots r.setting.has_member r.setting.fold whole layout plain inside same) ∙ body.own in
      let does : Does code r whole count keep' c.start (c.start + length ops) c.first c.own free (ending r.setting (tail_bound r.find) inside) =
      subst (λ n. Does code r whole count keep' c.start (c.start + length ops) c.first n free (ending r.setting (tail_bound r.find) inside)) own
      (runs_closed code r whole count keep' utf8 small some layout first (first_apart whole) inside c.start c.first free ok placed inner (has_front code c.start ops (op.return c ∷ []) here_too)) in
      does_open_call code r whole count layout from kept.bodies_end slots kept.apart over opened lo hi region k c is few pc (c.start + length ops) slot free
      (ending r.setting (tail_bound r.find) inside) here last.0 does

  -- at each call, where so many more may be opened
  abbrev CallsLeft : ℕ → Type 0
  CallsLeft m = (shown opened : List ℕ) → AreOpen (length groups) shown m → Agree shown opened → (lo hi : ℕ) (region : Region opened lo hi) (k : ℕ) →
      MayStand (kept.is_written_out k) k shown → Do (keeps opened lo hi region) (written_call groups m shown k)

  -- where none may be opened any more
  no_more : (shown opened : List ℕ) → AreOpen (length groups) shown 0 → Agree shown opened → (lo hi : ℕ) (region : Region opened lo hi) (k : ℕ) (o : Option Place) → layout k ≡ o →
      DoesAtCall code r whole count (keeps opened lo hi region) utf8 small some layout first (first_apart whole) o fail (Do (keeps opened lo hi region) fail)
  no_more shown opened around agree lo hi region k None is = tt
  no_more shown opened around agree lo hi region k (Some c) is =
      let body = kept.each k c is in
      let full = none_left (length groups) shown around k (target_inside groups k body.tree body.is_target) in
      at_limit opened lo hi region k (omega (arith, full, agree k c is)) (Some c) is

  -- a group whose calls stay is not written out
  not_out : (k : ℕ) (c : Place) → layout k ≡ Some c → (b : Bool) → kept.is_written_out k ≡ b → b ≡ false
  not_out k c is true out = absurd (none-some c (sym (kept.written_out.none k out) ∙ is))
  not_out k c is false out = refl

  -- the parts of a body, or of what is written out
  parts_of : (keep : Keep count) (call : ℕ → CorePattern) (k : ℕ) (t : Tree) → ((j : ℕ) → Do keep (call j)) → Do keep (written groups call (k + 1) t).front
  parts_of keep call k t calls = (of_tree (λ a b. Do keep a) (do_parts keep) groups call call calls (k + 1) t).front

  -- A call that is written out: the body of its group stands there.
  written_here : (m : ℕ) → CallsLeft m → (shown opened : List ℕ) (k : ℕ) → AreOpen (length groups) (k ∷ shown) m → Agree (k ∷ shown) opened → (lo hi : ℕ) (region : Region opened lo hi)
      (out : Bool) → kept.is_written_out k ≡ out → MayStand out k shown → (t : Tree) → target groups k ≡ Some t →
      Do (keeps opened lo hi region) (written groups (written_call groups m (k ∷ shown)) (k + 1) t).front
  written_here m later shown opened k around agree lo hi region true out above t at =
      let call = written_call groups m (k ∷ shown) in
      let lower = lower_calls groups layout kept.is_written_out kept.written_out k call in
      let fits : (j : ℕ) → Do (keeps opened lo hi region) (lower j) =
      of_lower groups layout kept.is_written_out kept.written_out (λ q. Do (keeps opened lo hi region) q) tt k call
      (λ j out_j less. later (k ∷ shown) opened around agree lo hi region j
      (subst (λ c. MayStand c j (k ∷ shown)) (sym out_j) (one_more_above groups layout kept.is_written_out kept.written_out (kept.written_out.rank j) k shown less above))) in
      subst (λ q. Do (keeps opened lo hi region) q) (sym (calls_lower groups layout kept.is_written_out kept.written_out k t out at call))
      (parts_of (keeps opened lo hi region) lower k t fits)
  written_here m later shown opened k around agree lo hi region false out none t at =
      parts_of (keeps opened lo hi region) (written_call groups m (k ∷ shown)) k t
      (λ j. later (k ∷ shown) opened around agree lo hi region j (all_may j (k ∷ shown) (kept.is_written_out j) (out, none)))

  -- one call more
  call_left : (m : ℕ) → CallsLeft m → (shown opened : List ℕ) → AreOpen (length groups) shown (suc m) → Agree shown opened → (lo hi : ℕ) (region : Region opened lo hi) (k : ℕ) →
      (out : Bool) → kept.is_written_out k ≡ out → MayStand out k shown → (o : Option Place) → layout k ≡ o → (b : Bool) → is_at_call_limit shown k ≡ b → (u : Option Tree) → target groups k ≡ u →
      DoesAtCall code r whole count (keeps opened lo hi region) utf8 small some layout first (first_apart whole) o
      (cond b fail (pat_for (λ t. (written groups (written_call groups m (k ∷ shown)) (k + 1) t).front) u))
      (Do (keeps opened lo hi region) (cond b fail (pat_for (λ t. (written groups (written_call groups m (k ∷ shown)) (k + 1) t).front) u)))
  call_left m later shown opened around agree lo hi region k out is_out may None is true full u e = tt
  call_left m later shown opened around agree lo hi region k out is_out may None is false less None e = tt
  call_left m later shown opened around agree lo hi region k out is_out may None is false less (Some t) e =
      written_here m later shown opened k (one_more_open (length groups) k shown m around (target_inside groups k t e) (free_is shown k less)) (agree_shown shown opened k agree is) lo hi region
      out is_out may t e
  call_left m later shown opened around agree lo hi region k out is_out may (Some c) is true full u e =
      at_limit opened lo hi region k (omega (arith, full_is shown k full, agree k c is)) (Some c) is
  call_left m later shown opened around agree lo hi region k out is_out may (Some c) is false less None e =
      absurd (none-some (kept.each k c is).tree (sym e ∙ (kept.each k c is).is_target))
  call_left m later shown opened around agree lo hi region k out is_out may (Some c) is false less (Some t) e =
      let most = (kept.apart.placed k c is).most_is in
      let few : calls_of k opened < c.most = omega (arith, free_is shown k less, agree k c is, most) in
      let region' = own_region layout (2 * count) from kept.bodies_end slots kept.apart over opened k (calls_of k opened) c is refl few in
      let keep' = keeps (k ∷ opened) c.first (c.first + c.own) region' in
      let stays : out ≡ false = not_out k c is out is_out in
      let none : NoneIsOut groups layout kept.is_written_out kept.written_out (k ∷ shown) = (is_out ∙ stays, subst (λ d. MayStand d k shown) stays may) in
      let open_now = one_more_open (length groups) k shown m around (target_inside groups k t e) (free_is shown k less) in
      in_body m (k ∷ shown) opened lo hi region k c is few t e open_now none
      (parts_of keep' (written_call groups m (k ∷ shown)) k t
      (λ j. later (k ∷ shown) (k ∷ opened) open_now (agree_more shown opened k agree) c.first (c.first + c.own) region' j (all_may j (k ∷ shown) (kept.is_written_out j) none)))

  calls_do : (m : ℕ) → CallsLeft m
  unfolding written_call
  calls_do zero = λ shown opened around agree lo hi region k may. no_more shown opened around agree lo hi region k (layout k) refl
  calls_do (suc m) = λ shown opened around agree lo hi region k may.
      call_left m (calls_do m) shown opened around agree lo hi region k (kept.is_written_out k) refl may (layout k) refl (is_at_call_limit shown k) refl (target groups k) refl

  -- the main program
  main_region : Region [] (2 * count) from
  main_region = record { start = omega arith; live = λ j ge lt. in_main ge lt }

  main_ready : Ready (keeps [] (2 * count) from main_region) (replicate slots unset)
  main_ready = record {
    long = omega (arith, length_unset slots unset, kept.room);
    holds = record {
      room = omega (arith, length_unset slots unset);
      at = λ k c is.
          (let q = kept.apart.placed k c is in
          ap open_calls (get_or-replicate slots c.count unset 0 (omega (arith, q.frames_from, q.frames_to))) ∙ ap (λ b. cond b 0 unset) (eq_self unset));
    };
  }

  kept_made : (asked_writable : IsWritable first count p) → StepsBackOnlyFirst false p → Do (keeps [] (2 * count) from main_region) p → IsMade r p whole anchored count code slots
  kept_made writable placed calls =
      let begin = opening r.setting.has_member r.setting.fold whole anchored in
      let body = closed_code r.setting.has_member r.setting.fold whole layout p (length begin) (2 * count) in
      let last = closing r.setting.has_member r.setting.fold whole in
      let all : HasAt code 0 (begin ++ (body ++ last)) = stands_at code [] (begin ++ (body ++ last)) kept.bodies 0 kept.main refl in
      let body_at : HasAt code (length begin) (body ++ last) = has_back code 0 (length begin) begin (body ++ last) (omega arith) all in
      record {
        keep = keeps [] (2 * count) from main_region;
        own = slots_with layout p;
        size = length body;
        leads = omega arith;
        inside = omega arith;
        begins = main_ready;
        front_at = has_front code 0 begin (body ++ last) all;
        last_at = has_back code (length begin) (length begin + length body) body last refl body_at;
        body_does = runs_closed code r whole count (keeps [] (2 * count) from main_region) utf8 small some layout first (first_apart whole) p (length begin) (2 * count) false writable placed calls
            (has_front code (length begin) body last body_at);
      }

-- the program of a pattern
pub pattern_made : (r : RunParameters) (pattern : Pattern) (whole anchored : Bool) (count : ℕ) (layout : Layout) (code : List Op) (slots : ℕ) → RunRequirements r (core_pattern_of pattern) whole count →
    IsKept r.setting.has_member r.setting.fold whole layout anchored count pattern.groups (core_pattern_of pattern) code slots → IsMade r (core_pattern_of pattern) whole anchored count code slots
unfolding core_pattern_of
pattern_made r pattern whole anchored count layout code slots asked kept =
    let p = core_pattern_of pattern in
    let region = main_region r whole anchored count asked.utf8 asked.small asked.groups pattern.groups p layout code slots kept in
    let keep = keeps r whole anchored count asked.utf8 asked.small asked.groups pattern.groups p layout code slots kept [] (2 * count) (2 * count + slots_with layout p) region in
    let call = written_call pattern.groups (max_open_calls pattern.groups) [] in
    kept_made r whole anchored count asked.utf8 asked.small asked.groups pattern.groups p layout code slots kept asked.writable asked.placed
    (of_whole (λ a b. Do r whole anchored count asked.utf8 asked.small asked.groups pattern.groups p layout code slots kept keep a)
    (do_parts r whole anchored count asked.utf8 asked.small asked.groups pattern.groups p layout code slots kept keep) pattern.groups call call
    (λ k. calls_do r whole anchored count asked.utf8 asked.small asked.groups pattern.groups p layout code slots kept (max_open_calls pattern.groups) [] []
    (none_open (length pattern.groups)) (λ k c is. refl) (2 * count) (2 * count + slots_with layout p) region k
    (all_may r whole anchored count asked.utf8 asked.small asked.groups pattern.groups p layout code slots kept k [] (kept.is_written_out k) tt)) pattern.first_group pattern.tree)

pub kept_programs_answer : KeptProgramsAnswerSearches
kept_programs_answer r pattern whole anchored count layout code slots asked kept =
    let p = core_pattern_of pattern in
    let over = made_answers r p whole anchored count asked code slots
    (pattern_made (anchored_by anchored r) pattern whole anchored count layout code slots (asked_anchored r p whole anchored count asked) kept) in
    (over.0, λ j le. (let f = over.1 j le in record { ending = f.ending; comes = f.comes; answers = record { way = f.way; few = f.few; narrow = f.narrow } }))
