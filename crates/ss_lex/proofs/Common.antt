-- The names of other crates, and of definitions here, that several proofs of this crate cite, passed on from one place. Declares nothing.
pub use Rattle.ss_lex.specs.Lines.{first_foreign, is_character, lines_of, picture_of, source_limit, with_byte_first}
pub use Rattle.ss_lex.specs.Pieces.{IsCutInto, IsFitBefore, LinePiece, comment, fault_in, first_fault, is_apart, is_apostrophe, is_blank_byte, is_closed, is_quotable, is_word_part, open_comment, open_quoted, opens_comment, passes_first, piece_meaning, quoted, separator, single, spelled, text_meaning, word}
pub use Rattle.ss_lex.specs.Reading.{IsCodeLineRead, IsLineRead, IsLineRefused, IsTextReadTo, count_with, is_in_line}
unfoldable pub use Rattle.ss_lex.specs.Reading.{pieces}
pub use Rattle.ss_lex.specs.Refusals.{IsRefused, IsRefusedIn, cut_of, has_trigger, line_refusal, means_trigger, refusal_for, to_trigger}
pub use Rattle.ss_lex.specs.Tokens.{AreTokens, AreTokensOf, called_by, first_number, has_kind, is_print, is_print_or_trigger, is_trigger, number_due, number_in_token, picture_at, token_in, tokens_of}
pub use Rattle.ss_lex.specs.Words.{largest_number, number_from, with_byte_before, without_end_periods, word_meaning}
pub use Rattle.ss_lex.specs.declared.error.LexError.{LexError}
pub use Rattle.ss_lex.specs.declared.token.Token.{Token}
pub use Rattle.std.proofs.lemmas.Bool.{and_parts, cases_Bool, cond_both, eqb-true, false_from_ne_true, or_cases, or_parts, or_right}
pub use Rattle.std.proofs.lemmas.Bool.Decides.{nat_tests}
pub use Rattle.std.proofs.lemmas.List.{append-nil, drop-drop}
pub use Rattle.std.specs.List.{list_all, prefix_len}
pub use Rattle.std.specs.Option.{option_or}
