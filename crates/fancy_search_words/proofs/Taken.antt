-- What a parse of the words says of what they ask.
use Rattle.std.proofs.Common.{◌≡◌, ◌≢◌, ◌∙◌, ◌∷◌, inl, inr, List, [], None, true, sym, ap, subst}
use Rattle.std.specs.Prelude.{option_and_then}
use Rattle.clap.specs.Faults.{fault_of, is_simple_and_free}
use Rattle.clap.specs.Kinds.{Kinds, HasKind, IsAmong}
use Rattle.clap.specs.Simple.{App, HasMatchesOf, subcommand_of, subcommand_rows_of}
use Rattle.clap.specs.Values.{kind_of}
use Rattle.clap.specs.Walk.{Text}
use Rattle.clap.specs.declared.error.Error.{Error}
use Rattle.clap.specs.declared.error.kind.ErrorKind.{ErrorKind}
use Rattle.clap.specs.declared.error.kind.ErrorKind.TheVariants as kind
use Rattle.clap.specs.declared.parser.matches.ArgMatches.{ArgMatches}
use Rattle.clap.proofs.WalkLemmas.{both}
use Rattle.fancy_search_words.specs.CommandLine.{the_app}
use Rattle.fancy_search_words.specs.Requests.{requested, request_of_subcommand, Refuses, IsRefusalFor}
use Rattle.fancy_search_words.specs.declared.refusal.Refusal.{Refusal}
use Rattle.fancy_search_words.specs.declared.refusal.Refusal.TheVariants as refusals
use Rattle.fancy_search_words.proofs.Rows.{is_read, asked_taken, asked_refused}

pub no_fault : (a : App) (words : List Text) → a ≡ the_app → (is_simple_and_free a ≡ true → fault_of a words ≡ []) → fault_of the_app words ≡ []
no_fault a words e k = subst (λ (x : App). fault_of x words ≡ []) e (k (ap is_simple_and_free e ∙ is_read))

-- the words ask what was found in them
pub taken : (a : App) (words : List Text) (m : ArgMatches) → a ≡ the_app → (is_simple_and_free a ≡ true → fault_of a words ≡ [])
    → HasMatchesOf a words m → requested words ≡ option_and_then request_of_subcommand (subcommand_rows_of m)
taken a words m e k h =
    let ok = ap is_simple_and_free e ∙ is_read in
    let sub : subcommand_rows_of m ≡ subcommand_of a words = (h (both _ _ ok).0).1 in
    asked_taken words (no_fault a words e k) ∙ ap (option_and_then request_of_subcommand) (sym (sub ∙ ap (λ (x : App). subcommand_of x words) e))

no_nil : {A : Type 0} (x : A) (xs : List A) → [] ≡ x ∷ xs → ⊥
no_nil x xs e = cc

no_memory : kind.OutOfMemory ≡ kind.DisplayHelp → ⊥
no_memory e = cc

not_missing : kind.MissingSubcommand ≡ kind.DisplayHelp → ⊥
not_missing e = cc

only_help : (k : ErrorKind) → k ≢ kind.DisplayHelp → IsAmong k (kind.DisplayHelp ∷ []) → ⊥
only_help k n (inl e) = n e
only_help k n (inr b) = b

-- an error of the parse is told as its kind is
pub refused : (words : List Text) (e : Error) (r : Refusal) → HasKind (fault_of the_app words) e → IsRefusalFor (kind_of e) r → Refuses words r
refused words e refusals.Memory h t = tt
refused words e (refusals.Help text) (inl o) t = absurd (no_memory (sym o ∙ t))
refused words e (refusals.Help text) (inr i) t =
    let among = subst (λ (k : ErrorKind). IsAmong k (fault_of the_app words)) t i in
    (asked_refused words kind.DisplayHelp among, among)
refused words e (refusals.Words text) (inl o) t = absurd (t.1 o)
refused words e (refusals.Words text) (inr i) t =
    (asked_refused words (kind_of e) i, λ only. only_help (kind_of e) t.0 (subst (λ (ks : Kinds). IsAmong (kind_of e) ks) only i))

pub refused_in : (a : App) (words : List Text) (e : Error) (r : Refusal) → a ≡ the_app → (is_simple_and_free a ≡ true → HasKind (fault_of a words) e)
    → IsRefusalFor (kind_of e) r → Refuses words r
refused_in a words e r is k t = refused words e r (subst (λ (x : App). HasKind (fault_of x words) e) is (k (ap is_simple_and_free is ∙ is_read))) t

-- words that parse and ask nothing are told as words
pub missing : (words : List Text) (k : ErrorKind) (r : Refusal) → requested words ≡ None → fault_of the_app words ≡ [] → k ≡ kind.MissingSubcommand
    → IsRefusalFor k r → Refuses words r
missing words k refusals.Memory none faults is t = tt
missing words k (refusals.Help text) none faults is t = absurd (not_missing (sym is ∙ t))
missing words k (refusals.Words text) none faults is t = (none, λ only. no_nil _ _ (sym faults ∙ only))
