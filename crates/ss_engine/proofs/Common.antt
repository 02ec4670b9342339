-- The names of other crates, and of definitions here, that several proofs of this crate cite, passed on from one place. Declares nothing.
pub use Rattle.ss_base.specs.Failures.{HasRisen}
pub use Rattle.ss_code.specs.Running.{Generated, IsFor}
pub use Rattle.ss_code_instructions.specs.Laws.{EndingsStay, IsReportPrefix, Prefixes, StepsGoOn}
pub use Rattle.ss_code_instructions.specs.Machine.{Code, Goes, step}
pub use Rattle.ss_code_instructions.specs.Reached.{at_core}
pub use Rattle.ss_code_instructions.specs.Running.{IsFaithful, Underway, start, steps}
pub use Rattle.ss_code_instructions.specs.States.{MachineState}
pub use Rattle.ss_code_instructions.specs.Translation.{code_of}
pub use Rattle.ss_engine.specs.Accepting.{IsProgramOf, IsRefusedWith, IsTreeOf}
pub use Rattle.ss_engine.specs.Cuts.{HasBeenCut}
pub use Rattle.ss_engine.specs.Headline.{HasGivenInput, IsSimulated, handed_out}
pub use Rattle.ss_engine.specs.LastRun.{HasLastRun, runs_of}
pub use Rattle.ss_engine.specs.Laws.{OneProgram}
pub use Rattle.ss_engine.specs.Refusals.{coded, lexed, parsed, used}
pub use Rattle.ss_engine.specs.Sessions.{CanGoOn, HasBeenRun, HasComeTo, HasRun, IsNewSession, last_stop, session_machine, session_reader, session_source, session_writer}
pub use Rattle.ss_engine.specs.declared.refusal.Refusal.{Refusal}
pub use Rattle.ss_engine.specs.declared.refusal.Refusal.TheVariants.{Declared, Lexed, Parsed, Used}
pub use Rattle.ss_engine.specs.declared.session.Session.{Session}
pub use Rattle.ss_input.specs.Blocks.{IsEndKnown}
pub use Rattle.ss_input.specs.Inputs.{HasFound, IsFresh, source_block, source_reader}
pub use Rattle.ss_input.specs.declared.source.Source.{Source}
pub use Rattle.ss_lex.specs.declared.token.Token.{Token}
pub use Rattle.ss_machine.specs.Held.{kept_after}
pub use Rattle.ss_machine.specs.Runs.{HasCome, HasRunToEnd, HasTakenBeforeFailure, HasTakenLast, IsCut, IsCutReading, IsCutWriting, IsPausing, IsRunResult}
pub use Rattle.ss_machine.specs.Situations.{IsCodeOf, Situation}
pub use Rattle.ss_machine.specs.Start.{IsAtStart}
pub use Rattle.ss_machine.specs.declared.stop.Stop.{Stop}
pub use Rattle.ss_machine.specs.declared.stop.Stop.TheVariants.{Ended, Failed, Fault, Input, Memory, Output, Paused}
pub use Rattle.ss_machine_instructions.specs.Doing.{Compiled}
pub use Rattle.ss_meaning.specs.Meaning.{Run, WentWrong, meaning}
pub use Rattle.ss_parse.specs.declared.error.ParseError.{ParseError}
pub use Rattle.ss_program.specs.Program.{Program}
pub use Rattle.ss_program.specs.WellTyped.{IsWellTyped}
pub use Rattle.ss_tree.specs.Tree.{ProgramTree}
pub use Rattle.std.specs.List.{sum}
pub use Rattle.std.specs.declared.option.Option.{Option}
