-- What emitting and appending give, from what is known of their parts.
use Rattle.std.proofs.Common.{◌≡◌, ℕ, ◌<◌, ◌≤◌, Bool, true, false, List, Result, Ok, Err, IsErrAnd, true≢false, sym, ◌∙◌, subst, arith}
use Rattle.std.proofs.lemmas.Result.{IfOk-weaker}
use Rattle.fancy_regex_desugar.specs.CorePatterns.{CorePattern}
use Rattle.fancy_regex_analysis.specs.AnalysisErrors.{is_too_complex}
use Rattle.fancy_regex_info.specs.Infos.{InfoTree}
use Rattle.fancy_regex_info.specs.declared.error.CompileError.{CompileError}
use Rattle.fancy_regex_compiler.specs.Extents.{IsFull, Appends, Writes}
use Rattle.fancy_regex_compiler.specs.Refusals.{TreeContext, IsAnalyzed, IsReasonWhere, IsMemoryOrTooComplex}
use Rattle.fancy_regex_compiler.specs.Tasks.{Progress, room_of, listed, tasks_work, Emits, EmitsPattern, Begins}
use Rattle.fancy_regex_compiler.specs.Writing.{Draft, layout_of, infos_of}
use Rattle.fancy_regex_compiler.specs.declared.emitter.CompileContext.{CompileContext}
use Rattle.fancy_regex_compiler.specs.declared.emitter.Emitter.{Emitter}
use Rattle.fancy_regex_compiler.specs.declared.emitter.Need.{Need}
use Rattle.fancy_regex_compiler.specs.declared.program_builder.ProgramBuilder.{ProgramBuilder}
use Rattle.fancy_regex_compiler.specs.declared.task.Step.{Step}
use Rattle.fancy_regex_compiler.proofs.RefusalLemmas.{reason_weaker}
use Rattle.fancy_regex_compiler.proofs.RoomLemmas.{full_same}
use Rattle.fancy_regex_compiler.proofs.StepLemmas.{leads_as, leads_as_any, leads_each, want_is_reason, reason_for_want, full_within}

-- an error that is never for too many instructions
pub never_full : {P : Type 0} (e : CompileError) → is_too_complex e ≡ false → is_too_complex e ≡ true → P
never_full e none too = absurd (true≢false (sym too ∙ none))

-- an error that is passed on
pub appends_error : {A : Type 0} {d : Draft} {more : ℕ} {old new : ProgramBuilder} (r : Result A CompileError) (e : CompileError) → IsErrAnd r (λ f. f ≡ e) →
    new.cap ≡ old.cap → IsFull old more e → IsMemoryOrTooComplex e → Appends d more old new r
appends_error (Ok x) e is cap full refused = absurd is
appends_error {more = more} {old = old} (Err f) e is cap full refused = record {
  draft = tt;
  cap = cap;
  long = tt;
  full = subst (IsFull old more) (sym is) full;
  refused = subst IsMemoryOrTooComplex (sym is) refused;
}

pub writes_error : {A : Type 0} {context : CompileContext} {old new : Emitter} {p : CorePattern} (r : Result A CompileError) (e : CompileError) → IsErrAnd r (λ f. f ≡ e) →
    new.body.cap ≡ old.body.cap → IsFull old.body (room_of context p) e → Writes context old new r p
writes_error (Ok x) e is cap full = absurd is
writes_error {context = context} {old = old} {p = p} (Err f) e is cap full = record {
  cap = cap;
  wrote = tt;
  needs = tt;
  full = subst (IsFull old.body (room_of context p)) (sym is) full;
}

pub begins_error : {old new : Emitter} {slot : ℕ} {keeps : Bool} {p : CompileContext → CorePattern} {S : TreeContext → Type 0} {w : List InfoTree → ℕ}
    (r : Result Step CompileError) (e : CompileError) → IsErrAnd r (λ f. f ≡ e) → new.body.cap ≡ old.body.cap → IsFull old.body 2 e → IsMemoryOrTooComplex e →
    Begins old new slot r keeps p S w
begins_error (Ok x) e is cap full refused = absurd is
begins_error {old = old} (Err f) e is cap full refused = record {
  cap = cap;
  leads = tt;
  work = tt;
  full = subst (IsFull old.body 2) (sym is) full;
  refused = subst IsMemoryOrTooComplex (sym is) refused;
}

pub emits_error : {context : CompileContext} {old new : Emitter} {slot : ℕ} {end : Progress} {A : List Need → Type 0} {most : ℕ} {S : TreeContext → Type 0} {w : ℕ}
    (r : Result Step CompileError) (e : CompileError) → IsErrAnd r (λ f. f ≡ e) → new.body.cap ≡ old.body.cap → IsFull old.body most e →
    IsReasonWhere context.unicode (infos_of context) S e → Emits context old new slot r end A most S w
emits_error (Ok x) e is cap full refused = absurd is
emits_error {context = context} {old = old} {most = most} {S = S} (Err f) e is cap full refused = record {
  cap = cap;
  leads = tt;
  work = tt;
  full = subst (IsFull old.body most) (sym is) full;
  refused = subst (IsReasonWhere context.unicode (infos_of context) S) (sym is) refused;
}

-- an error for want of memory or of room that is passed on
pub emits_want : {context : CompileContext} {old new : Emitter} {slot : ℕ} {end : Progress} {A : List Need → Type 0} {most : ℕ} {S : TreeContext → Type 0} {w : ℕ}
    (r : Result Step CompileError) (e : CompileError) → IsErrAnd r (λ f. f ≡ e) → new.body.cap ≡ old.body.cap → IsFull old.body most e →
    IsMemoryOrTooComplex e → Emits context old new slot r end A most S w
emits_want {context = context} {S = S} r e is cap full refused =
    emits_error r e is cap full (want_is_reason context.unicode (infos_of context) S e refused)

-- the same step, where the pattern has another name, stands where more is known, and may be more work
pub emits_as : {context : CompileContext} {old new : Emitter} {slot : ℕ} {r : Result Step CompileError} (keeps : Bool) (p q : CorePattern) (A B : TreeContext → Type 0) (m n : ℕ) →
    EmitsPattern context p keeps A m old new slot r → q ≡ p →
    ((tree_context : TreeContext) → IsAnalyzed tree_context (infos_of context) → B tree_context → A tree_context) → m ≤ n → EmitsPattern context q keeps B n old new slot r
emits_as {context = context} {old = old} {new = new} {slot = slot} {r = r} keeps p q A B m n h is f less = record {
  cap = h.cap;
  leads = leads_as r context old new slot keeps p q A B is f h.leads;
  work = IfOk-weaker r (λ step. tasks_work (infos_of context) (listed step.tasks) < m) (λ step. tasks_work (infos_of context) (listed step.tasks) < n)
      (λ step k. omega (arith, k, less)) h.work;
  full = full_same (layout_of context) r old.body is h.full;
  refused = reason_weaker r context.unicode (infos_of context) A B f h.refused;
}

-- a construct that was begun, in what is fixed for this compilation
pub emits_begun : {old new : Emitter} {slot : ℕ} {r : Result Step CompileError} {keeps : Bool} {p : CompileContext → CorePattern} {A : TreeContext → Type 0}
    {m : List InfoTree → ℕ} (context : CompileContext) (q : CorePattern) (B : TreeContext → Type 0) (n : ℕ) → Begins old new slot r keeps p A m → q ≡ p context →
    ((tree_context : TreeContext) → IsAnalyzed tree_context (infos_of context) → B tree_context → A tree_context) → 2 ≤ room_of context q → m (infos_of context) ≤ n →
    EmitsPattern context q keeps B n old new slot r
emits_begun {old = old} {new = new} {slot = slot} {r = r} {keeps = keeps} {p = p} {A = A} {m = m} context q B n h is f two less = record {
  cap = h.cap;
  leads = leads_as_any r context old new slot keeps p q A B is f h.leads;
  work = IfOk-weaker r (λ step. (any : List InfoTree) → tasks_work any (listed step.tasks) < m any) (λ step. tasks_work (infos_of context) (listed step.tasks) < n)
      (λ step k. let here = k (infos_of context) in omega (arith, here, less)) h.work;
  full = full_within r old.body 2 (room_of context q) two h.full;
  refused = reason_for_want r context.unicode (infos_of context) B h.refused;
}

-- the same construct, where its pattern has another name and stands where more is known
pub begins_as : {old new : Emitter} {slot : ℕ} {r : Result Step CompileError} {keeps : Bool} {p : CompileContext → CorePattern} {A : TreeContext → Type 0}
    {m : List InfoTree → ℕ} (q : CompileContext → CorePattern) (B : TreeContext → Type 0) (n : List InfoTree → ℕ) → Begins old new slot r keeps p A m →
    ((context : CompileContext) → q context ≡ p context) → ((tree_context : TreeContext) → B tree_context → A tree_context) →
    ((groups : List InfoTree) → m groups ≤ n groups) → Begins old new slot r keeps q B n
begins_as {old = old} {new = new} {slot = slot} {r = r} {keeps = keeps} {p = p} {A = A} {m = m} q B n h is f less = record {
  cap = h.cap;
  leads = leads_each r old new slot keeps p q A B is f h.leads;
  work = IfOk-weaker r (λ step. (any : List InfoTree) → tasks_work any (listed step.tasks) < m any) (λ step. (any : List InfoTree) → tasks_work any (listed step.tasks) < n any)
      (λ step k any. let here = k any in let most = less any in omega (arith, here, most)) h.work;
  full = h.full;
  refused = h.refused;
}
