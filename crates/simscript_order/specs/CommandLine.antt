-- The command line of the program: what it may have, and what its matches ask for.
use Rattle.std.specs.Prelude.{◌≡◌, ℕ, List, [], ◌∷◌, ⊤, Option, Some, None, option_map, option_and_then, if◌then◌else◌, true, false, codes}
use Rattle.std.specs.Option.{option_map_or}
use Rattle.std.specs.Str.{bytes_eq}
use Rattle.std.specs.Str.Parse.{digits_value, without_leading_plus}
use Rattle.clap.specs.ValueTests.{accepts}
use Rattle.clap.specs.Words.{App, Row, Rule, Text, fault_of, first_of, kind_of, new_app, new_rule, one_of, subcommand_of, with_rule, with_subcommand, IsAmong}
use Rattle.clap.specs.declared.builder.action.ArgAction.TheVariants.{Set}
use Rattle.clap.specs.declared.builder.value_parser.ValueParser.{ValueParser}
use Rattle.clap.specs.declared.builder.value_parser.ValueParser.TheVariants.{Unsigned}
use Rattle.simscript_order.specs.declared.order.Order.{Order}
use Rattle.simscript_order.specs.declared.order.Order.TheVariants as order
use Rattle.simscript_order.specs.declared.misuse.Misuse.{Misuse}
use Rattle.simscript_order.specs.declared.misuse.Misuse.TheVariants as misuse

-- ---- what the command line may have

-- `Command::version`
abbrev pub with_version : App → App
with_version line = record line { top = record line.top { has_version = true } }

-- FILE, which must be there
abbrev pub file_rule : Rule
file_rule = record (new_rule (codes "FILE")) { action = Some Set; required = true }

-- --input FILE
abbrev pub input_rule : Rule
input_rule = record (new_rule (codes "input")) {
  long = Some (codes "input");
  value_names = 1;
  action = Some Set;
}

-- the reader of ticks: whole numbers up to the greatest of 64 bits
abbrev pub tick_reader : ValueParser
tick_reader = Unsigned 0 18446744073709551615

-- --ticks N, a whole number, 1,000,000 where it isn't given
abbrev pub ticks_rule : Rule
ticks_rule = record (new_rule (codes "ticks")) {
  long = Some (codes "ticks");
  value_names = 1;
  action = Some Set;
  defaults = codes "1000000" ∷ [];
  parser = Some tick_reader;
}

-- run FILE [--input FILE] [--ticks N]
abbrev pub run_words : App
run_words = with_rule (with_rule (with_rule (new_app (codes "run")) file_rule) input_rule) ticks_rule

-- check FILE
abbrev pub check_words : App
check_words = with_rule (new_app (codes "check")) file_rule

-- list FILE
abbrev pub list_words : App
list_words = with_rule (new_app (codes "list")) file_rule

-- simscript alone, or with --version
abbrev pub bare_words : App
bare_words = with_version (new_app (codes "simscript"))

-- simscript alone, or with one of the three
abbrev pub command_line : App
command_line = with_subcommand (with_subcommand (with_subcommand
    bare_words run_words.top) check_words.top) list_words.top

-- ---- what it asks for

-- an order, with its files as texts
pub data Asked : Type 0 where
  plain : Asked
  check : Text → Asked
  list : Text → Asked
  run : Text → Option Text → ℕ → Asked

abbrev pub asked_of : Order → Asked
asked_of order.Plain = plain
asked_of (order.Check file) = check file.now
asked_of (order.List file) = list file.now
asked_of (order.Run file input ticks) = run file.now (option_map (λ name. name.now) input) ticks

-- the number that a text gives as ticks, where the reader takes it
abbrev pub ticks_in : Text → Option ℕ
ticks_in text = if accepts false tick_reader text
    then Some (digits_value 10 (without_leading_plus text)) else None

-- a run of this file, with this input and these ticks, where file and ticks are there
abbrev pub run_asked : Option Text → Option Text → Option ℕ → Option Asked
run_asked file input ticks = option_and_then (λ name. option_map (run name input) ticks) file

-- what the matches of `run` ask for
abbrev pub run_in : List Row → Option Asked
run_in rows = run_asked (first_of (codes "FILE") rows) (first_of (codes "input") rows)
    (option_and_then ticks_in (one_of (codes "ticks") rows))

-- what the matches of a command ask for, by the command's name
abbrev pub asked_by : Text → List Row → Option Asked
asked_by name rows =
    if bytes_eq name (codes "run") then run_in rows
    else (if bytes_eq name (codes "check") then option_map check (first_of (codes "FILE") rows)
    else (if bytes_eq name (codes "list") then option_map list (first_of (codes "FILE") rows)
    else None))

-- what the matches ask for; with no command, the plain run
abbrev pub asked_in : Option (Text × List Row) → Option Asked
asked_in met = option_map_or (λ p. asked_by p.0 p.1) met (Some plain)

-- what the matches of these words ask for
abbrev pub asked : List Text → Option Asked
asked words = asked_in (subcommand_of command_line words)

-- ---- refusals

-- words are refused for a fault that they have, or since they lack what an order needs, or for lack
-- of memory, which says nothing of them
abbrev pub IsRefusedFor : List Text → Misuse → Type 0
IsRefusedFor words (misuse.Words error) = IsAmong (kind_of error) (fault_of command_line words)
IsRefusedFor words misuse.Incomplete = asked words ≡ None
IsRefusedFor words misuse.Memory = ⊤
