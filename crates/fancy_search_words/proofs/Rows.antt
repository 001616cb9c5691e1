-- What a parse found, by rows.
use Rattle.std.proofs.Common.{◌≡◌, ◌∷◌, List, [], Option, Some, None, true, false, refl, sym, ap}
use Rattle.std.specs.Prelude.{option_map, option_and_then, codes, bytes_eq}
use Rattle.clap.specs.Faults.{fault_of, is_simple_and_free}
use Rattle.clap.specs.Kinds.{Kinds, IsAmong}
use Rattle.clap.specs.Matches.{subcommand_name_of, first_value}
use Rattle.clap.specs.Simple.{subcommand_of, subcommand_rows_of}
use Rattle.clap.specs.Walk.{Row, Text, first_of, rows_of}
use Rattle.clap.specs.declared.error.kind.ErrorKind.{ErrorKind}
use Rattle.clap.specs.declared.parser.matches.ArgMatches.{ArgMatches}
use Rattle.clap.specs.declared.parser.matches.ArgMatches.TheViews.{out-ArgMatches}
use Rattle.clap.specs.declared.parser.matches.Found.{Found}
use Rattle.clap.proofs.WalkLemmas.{first_value-rows}
use Rattle.clap.proofs.OnLiterals.{clap_on_literals}
use Rattle.fancy_search_words.specs.CommandLine.{the_app}
use Rattle.fancy_search_words.specs.Requests.{Command, requested, request_if_accepted, request_of_subcommand, request_with, command_from, pattern_command_from, command_with, is_given}

pub is_read : is_simple_and_free the_app ≡ true
unfolding clap_on_literals
is_read = refl

maps : {A B C : Type 0} (f : A → B) (g : B → C) (o : Option A) → option_map g (option_map f o) ≡ option_map (λ x. g (f x)) o
maps f g None = refl
maps f g (Some x) = refl

pub name_in_rows : (m : ArgMatches) → subcommand_name_of m ≡ option_map (λ p. p.0) (subcommand_rows_of m)
name_in_rows m = sym (maps _ (λ p. p.0) (out-ArgMatches m).subcommand)

pub no_pair : {A B : Type 0} (o : Option (A × B)) → None ≡ option_map (λ p. p.0) o → o ≡ None
no_pair None e = refl
no_pair (Some p) e = cc

pub pair_of : {A B : Type 0} (o : Option (A × B)) (n : A) (r : B) → Some n ≡ option_map (λ p. p.0) o → Some r ≡ option_map (λ p. p.1) o → o ≡ Some (n, r)
pair_of None n r e f = cc
pair_of (Some (a, b)) n r e f = cc

-- the request of a command with the arguments that were matched
pub request_is : (name : Text) (rows : List Row) (command : Command) → command_from name rows ≡ Some command
    → request_of_subcommand (name, rows) ≡ Some (request_with rows command)
request_is name rows command e = rw e refl

pub no_request : (name : Text) (rows : List Row) → command_from name rows ≡ None → request_of_subcommand (name, rows) ≡ None
no_request name rows e = rw e refl

-- the command of a subcommand, of the arguments that were matched for it
pub command_is : (name : Text) (rows : List Row) (pattern : Text) → first_of (codes "pattern") rows ≡ Some pattern
    → pattern_command_from name rows ≡ command_with name pattern (first_of (codes "template") rows)
command_is name rows pattern e = rw e refl

pub no_pattern : (name : Text) (rows : List Row) → first_of (codes "pattern") rows ≡ None → pattern_command_from name rows ≡ None
no_pattern name rows e = rw e refl

-- what is requested where `clap` takes the words
pub asked_taken : (words : List Text) → fault_of the_app words ≡ [] → requested words ≡ option_and_then request_of_subcommand (subcommand_of the_app words)
asked_taken words e = ap (λ (ks : Kinds). request_if_accepted ks (subcommand_of the_app words)) e

-- where it does not, nothing is
pub asked_refused : (words : List Text) (k : ErrorKind) → IsAmong k (fault_of the_app words) → requested words ≡ None
asked_refused words k = go (fault_of the_app words)
  where
    go : (ks : Kinds) → IsAmong k ks → request_if_accepted ks (subcommand_of the_app words) ≡ None
    go [] h = absurd h
    go (x ∷ xs) h = refl

pub given_some : (f : Found) (id t : Text) → Some t ≡ first_value f id → bytes_eq t (codes "true") ≡ is_given id (rows_of f)
given_some f id t e = rw (← first_value-rows f id, ← e) refl

pub given_none : (f : Found) (id : Text) → None ≡ first_value f id → false ≡ is_given id (rows_of f)
given_none f id e = rw (← first_value-rows f id, ← e) refl
