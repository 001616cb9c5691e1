-- How a call ends by what its parts did.
use Rattle.std.proofs.Common.{◌≡◌, ℕ, true, List, [], Option, Some, None, Result, Ok, Err, refl, subst}
use Rattle.std.proofs.lemmas.Bool.{false≢true}
use Rattle.std.specs.Prelude.{IfErr, IfOk, IfSome}
use Rattle.fancy_regex.specs.RegexOptions.{RegexOptions}
use Rattle.fancy_search_words.specs.Requests.{Request, Command, Refuses, requested}
use Rattle.fancy_search_words.specs.Requests as commands
use Rattle.fancy_search_words.specs.declared.arguments.Options.{Options}
use Rattle.fancy_search_words.specs.declared.refusal.Refusal.{Refusal}
use Rattle.fancy_search_words.specs.declared.refusal.Refusal.TheVariants as refusals
use Rattle.fancy_search_run.specs.Answers.{IsFault, IsSearchFault, IsPrintFault, IsSetFault}
use Rattle.fancy_search_run.specs.FaultConversions.{fault_of_refusal}
use Rattle.fancy_search_run.specs.Reading.{AfterReading, IsReadFault}
use Rattle.fancy_search_run.specs.Requests.{regex_options, reads_input}
use Rattle.fancy_search_run.specs.RunOutcome.{IsDueFor, Outcome, IsTextFor, RefusesWords}
use Rattle.fancy_search_run.specs.declared.fault.Fault.{Fault}
use Rattle.fancy_search_run.specs.declared.fault.Fault.TheVariants as faults
use Rattle.fancy_search_run.specs.declared.source.LastRead.{LastRead}
use Rattle.fancy_search_run.specs.declared.source.LastRead.TheVariants.{Failure}
use Rattle.fancy_search_run.specs.declared.status.Status.{Status}

-- an input that is the reader's, where that is known
pub some_input : (known : Option (List ℕ)) → (input : List ℕ) × IfSome known (λ xs. input ≡ xs)
some_input None = ([], tt)
some_input (Some xs) = (xs, refl)

-- the fault is one that some command may have
abbrev IsOfCommand : Fault → Type 0
IsOfCommand (faults.Regex error) = Unit {0}
IsOfCommand faults.NotReprinted = Unit {0}
IsOfCommand faults.Memory = Unit {0}
IsOfCommand _ = ⊥

of_search : (o : RegexOptions) (pattern text : List ℕ) (f : Fault) → IsSearchFault o pattern text f → IsOfCommand f
of_search o pattern text (faults.Regex error) h = tt
of_search o pattern text faults.Memory h = tt
of_search o pattern text faults.NotReprinted h = tt
of_search o pattern text (faults.Words t) h = h
of_search o pattern text (faults.Help t) h = h
of_search o pattern text faults.Input h = h
of_search o pattern text faults.NotUtf8 h = h
of_search o pattern text faults.Output h = h

of_print : (o : RegexOptions) (pattern : List ℕ) (f : Fault) → IsPrintFault o pattern f → IsOfCommand f
of_print o pattern (faults.Regex error) h = tt
of_print o pattern faults.Memory h = tt
of_print o pattern faults.NotReprinted h = tt
of_print o pattern (faults.Words t) h = h
of_print o pattern (faults.Help t) h = h
of_print o pattern faults.Input h = h
of_print o pattern faults.NotUtf8 h = h
of_print o pattern faults.Output h = h

of_set : (o : RegexOptions) (patterns : List (List ℕ)) (text : List ℕ) (f : Fault) → IsSetFault o patterns text f → IsOfCommand f
of_set o patterns text (faults.Regex error) h = tt
of_set o patterns text faults.Memory h = tt
of_set o patterns text faults.NotReprinted h = tt
of_set o patterns text (faults.Words t) h = h
of_set o patterns text (faults.Help t) h = h
of_set o patterns text faults.Input h = h
of_set o patterns text faults.NotUtf8 h = h
of_set o patterns text faults.Output h = h

of_command : (o : RegexOptions) (command : Command) (text : List ℕ) (f : Fault) → IsFault o command text f → IsOfCommand f
of_command o (commands.find p) text f h = of_search o p text f h
of_command o (commands.captures p) text f h = of_search o p text f h
of_command o (commands.split p) text f h = of_search o p text f h
of_command o (commands.replace p t) text f h = of_search o p text f h
of_command o (commands.print p) text f h = of_print o p f h
of_command o (commands.set ps) text f h = of_set o ps text f h

-- a fault of the command is none of reading or writing
pub outcome_fault : (request : Request) (old new : Option (List ℕ)) (text : List ℕ) → IsTextFor request.command text → (f : Fault)
    → IsFault (regex_options request.options) request.command text f → Outcome request old new text (Err f)
outcome_fault request old new text u f h = by_case f h (of_command (regex_options request.options) request.command text f h)
  where
    by_case : (f : Fault) → IsFault (regex_options request.options) request.command text f → IsOfCommand f → Outcome request old new text (Err f)
    by_case (faults.Regex error) h i = (u, h)
    by_case faults.NotReprinted h i = (u, h)
    by_case faults.Memory h i = tt
    by_case (faults.Words t) h i = absurd i
    by_case (faults.Help t) h i = absurd i
    by_case faults.Input h i = absurd i
    by_case faults.NotUtf8 h i = absurd i
    by_case faults.Output h i = absurd i

-- nor is it `Input`
pub fault_is_not_input : (o : RegexOptions) (command : Command) (text : List ℕ) (f : Fault) → IsFault o command text f → f ≡ faults.Input → ⊥
fault_is_not_input o command text f h e = subst IsOfCommand e (of_command o command text f h)

-- the outcome of a print is the same for every input
unread : (o : Options) (pattern : List ℕ) (old new : Option (List ℕ)) (xs ys : List ℕ) (r : Result Status Fault)
    → Outcome (record { command = commands.print pattern; options = o }) old new xs r → Outcome (record { command = commands.print pattern; options = o }) old new ys r
unread o pattern old new xs ys (Ok status) h = (h.0, ((λ e. absurd (false≢true e)), h.1.1), h.2)
unread o pattern old new xs ys (Err faults.Output) h = (h.0, h.1, ((λ e. absurd (false≢true e)), h.2.1), h.3)
unread o pattern old new xs ys (Err faults.NotUtf8) h = absurd (false≢true h.0)
unread o pattern old new xs ys (Err faults.Input) h = h
unread o pattern old new xs ys (Err faults.Memory) h = tt
unread o pattern old new xs ys (Err (faults.Regex error)) h = ((λ e. absurd (false≢true e)), h.1)
unread o pattern old new xs ys (Err faults.NotReprinted) h = ((λ e. absurd (false≢true e)), h.1)
unread o pattern old new xs ys (Err (faults.Words t)) h = absurd h.1
unread o pattern old new xs ys (Err (faults.Help t)) h = absurd h.1

-- the outcome for the bytes that were read is one for the input of the reader, where that is known
pub outcome_of_input : (request : Request) (old new known : Option (List ℕ)) (bytes : List ℕ) (r : Result Status Fault)
    → (reads_input request.command ≡ true → IfSome known (λ xs. bytes ≡ xs)) → Outcome request old new bytes r
    → (input : List ℕ) × IfSome known (λ xs. input ≡ xs) × Outcome request old new input r
outcome_of_input request old new known bytes r = go request.command
  where
    go : (command : Command) → (reads_input command ≡ true → IfSome known (λ xs. bytes ≡ xs)) → Outcome (record { command = command; options = request.options }) old new bytes r
        → (input : List ℕ) × IfSome known (λ xs. input ≡ xs) × Outcome (record { command = command; options = request.options }) old new input r
    go (commands.find p) k h = (bytes, k refl, h)
    go (commands.captures p) k h = (bytes, k refl, h)
    go (commands.split p) k h = (bytes, k refl, h)
    go (commands.replace p t) k h = (bytes, k refl, h)
    go (commands.set ps) k h = (bytes, k refl, h)
    go (commands.print p) k h = let input = some_input known in (input.0, input.1, unread request.options p old new bytes input.0 r h)

pub outcome_reading : (request : Request) (old new : Option (List ℕ)) (text : List ℕ) (last : LastRead) (f : Fault) → IsReadFault last f
    → (f ≡ faults.Input → reads_input request.command ≡ true) → Outcome request old new text (Err f)
outcome_reading request old new text last faults.Input h k = k refl
outcome_reading request old new text last faults.Memory h k = tt
outcome_reading request old new text last faults.NotReprinted h k = absurd h
outcome_reading request old new text last (faults.Regex error) h k = absurd h
outcome_reading request old new text last (faults.Words t) h k = absurd h
outcome_reading request old new text last (faults.Help t) h k = absurd h
outcome_reading request old new text last faults.NotUtf8 h k = absurd h
outcome_reading request old new text last faults.Output h k = absurd h

-- a fault of reading, and the last read
pub after_failure : (ended : Type 0) (last : LastRead) (f : Fault) → IsReadFault last f → AfterReading (last ≡ Failure) ended (Err f)
after_failure ended last faults.Input h = h
after_failure ended last faults.Memory h = tt
after_failure ended last faults.NotReprinted h = absurd h
after_failure ended last (faults.Regex error) h = absurd h
after_failure ended last (faults.Words t) h = absurd h
after_failure ended last (faults.Help t) h = absurd h
after_failure ended last faults.NotUtf8 h = absurd h
after_failure ended last faults.Output h = absurd h

-- so for an answer that writes nothing
pub silent_of_input : (request : Request) (known : Option (List ℕ)) (bytes : List ℕ) (r : Result Status Fault)
    → (reads_input request.command ≡ true → IfSome known (λ xs. bytes ≡ xs)) → IfOk r (λ status. IsDueFor request bytes [] status)
    → IfOk r (λ status. (input : List ℕ) × IfSome known (λ xs. input ≡ xs) × IsDueFor request input [] status)
silent_of_input request known bytes (Err fault) k h = tt
silent_of_input request known bytes (Ok status) k h = go request.command k h
  where
    go : (command : Command) → (reads_input command ≡ true → IfSome known (λ xs. bytes ≡ xs)) → IsDueFor (record { command = command; options = request.options }) bytes [] status
        → (input : List ℕ) × IfSome known (λ xs. input ≡ xs) × IsDueFor (record { command = command; options = request.options }) input [] status
    go (commands.find p) k h = (bytes, k refl, h)
    go (commands.captures p) k h = (bytes, k refl, h)
    go (commands.split p) k h = (bytes, k refl, h)
    go (commands.replace p t) k h = (bytes, k refl, h)
    go (commands.set ps) k h = (bytes, k refl, h)
    go (commands.print p) k h =
        let input = some_input known in
        (input.0, input.1, ((λ e. absurd (false≢true e)), h.1))

-- an answer, and any fault but one of reading, once the end is told
pub after_end : (failed ended : Type 0) (r : Result Status Fault) → IfErr r (λ f. f ≡ faults.Input → ⊥) → ended → AfterReading failed ended r
after_end failed ended (Ok status) h e = e
after_end failed ended (Err faults.Input) h e = absurd (h refl)
after_end failed ended (Err faults.Memory) h e = tt
after_end failed ended (Err faults.NotReprinted) h e = e
after_end failed ended (Err (faults.Regex error)) h e = e
after_end failed ended (Err (faults.Words t)) h e = e
after_end failed ended (Err (faults.Help t)) h e = e
after_end failed ended (Err faults.NotUtf8) h e = e
after_end failed ended (Err faults.Output) h e = e

pub refuses_words : (words : List (List ℕ)) (r : Refusal) → Refuses words r → RefusesWords words (Err (fault_of_refusal r))
refuses_words words (refusals.Words t) h = h
refuses_words words (refusals.Help t) h = h
refuses_words words refusals.Memory h = tt

pub some_is_not_none : {A : Type 0} (o : Option A) (x : A) → o ≡ Some x → o ≡ None → ⊥
some_is_not_none o x e f = cc

-- words that ask something are not refused
pub outcome_words : (request : Request) (old new : Option (List ℕ)) (text : List ℕ) (words : List (List ℕ)) (r : Refusal) → Refuses words r → requested words ≡ Some request
    → Outcome request old new text (Err (fault_of_refusal r))
outcome_words request old new text words (refusals.Words t) h e = absurd (some_is_not_none _ request e h.0)
outcome_words request old new text words (refusals.Help t) h e = absurd (some_is_not_none _ request e h.0)
outcome_words request old new text words refusals.Memory h e = tt

-- nor are they, for want of memory, whatever was read
pub after_words : (failed ended : Type 0) (request : Request) (words : List (List ℕ)) (r : Refusal) → Refuses words r → requested words ≡ Some request
    → AfterReading failed ended (Err (fault_of_refusal r))
after_words failed ended request words (refusals.Words t) h e = absurd (some_is_not_none _ request e h.0)
after_words failed ended request words (refusals.Help t) h e = absurd (some_is_not_none _ request e h.0)
after_words failed ended request words refusals.Memory h e = tt
